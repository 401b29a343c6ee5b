-- What the derived comparisons of completions compute.
use Rattle.std.proofs.Common.{◌≡◌, refl, Bool, true, false, ◌&&◌, ℕ, ◌==◌, Option, Some, None, rules}
use mathlib.Core.Bool.{beq}
use denote.Builtin.{u32}
use Rattle.verbs_types.specs.declared.completion.Completion.{Completion}
use Rattle.verbs_types.specs.declared.completion.Kind.{Kind}
use Rattle.verbs_types.specs.declared.completion.Queue.{Queue}
use Rattle.verbs_types.specs.declared.completion.Queue.TheVariants.{Send, Recv, Shared}
use Rattle.verbs_types.specs.contracts.completion.CompletionPartialEq.TheImpl as completions
use Rattle.verbs_types.specs.contracts.completion.QueuePartialEq.TheImpl as queues
use Rattle.verbs_types.specs.contracts.completion.KindPartialEq.TheImpl as kinds
use Rattle.std.specs.contracts.prelude.OptionPartialEq.TheImpl as options
use Rattle.std.specs.contracts.prelude.U32PartialEq.TheImpl as numbers
use Rattle.verbs_rules.specs.Same.{same_completion, same_queue, kind_number, same_flag, same_immediate}

same_queue_lem : (x y : Queue) → queues.ghosts.eq x y ≡ same_queue x y
same_queue_lem (Send n) (Send m) = refl
same_queue_lem (Send n) (Recv m) = refl
same_queue_lem (Send n) (Shared m) = refl
same_queue_lem (Recv n) (Send m) = refl
same_queue_lem (Recv n) (Recv m) = refl
same_queue_lem (Recv n) (Shared m) = refl
same_queue_lem (Shared n) (Send m) = refl
same_queue_lem (Shared n) (Recv m) = refl
same_queue_lem (Shared n) (Shared m) = refl

same_kind_lem : (x y : Kind) → kinds.ghosts.eq x y ≡ (kind_number x == kind_number y)
same_kind_lem x y = search rules

same_immediate_lem : (o p : Option ℕ) → (options.ghosts u32 numbers.ghosts numbers.dict).eq o p ≡ same_immediate o p
same_immediate_lem None None = refl
same_immediate_lem None (Some m) = refl
same_immediate_lem (Some n) None = refl
same_immediate_lem (Some n) (Some m) = refl

same_flag_lem : (a b : Bool) → beq a b ≡ same_flag a b
same_flag_lem true true = refl
same_flag_lem true false = refl
same_flag_lem false true = refl
same_flag_lem false false = refl

and_assoc : (a b c : Bool) → ((a && b) && c) ≡ (a && (b && c))
and_assoc true b c = refl
and_assoc false b c = refl

pub same_completion_lem : (x y : Completion) → completions.ghosts.eq x y ≡ same_completion x y
same_completion_lem x y = rw (same_queue_lem x.queue y.queue, same_kind_lem x.kind y.kind, same_immediate_lem x.imm y.imm, same_flag_lem x.solicited y.solicited) (simp and_assoc)
