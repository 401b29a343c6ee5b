-- Each operation of a thread keeps what holds of it, and so do all that follow one another.
use Rattle.std.proofs.Common.{◌≡◌, ℕ, suc, ◌≤◌, refl, sym, ap, subst, arith, List, [], ◌∷◌, length, map}
use Rattle.std.specs.List.{AllByRecursion, fold}
use Rattle.bus_core.specs.Follow.{Follows}
use Rattle.bus_core.specs.Mark.{Marked}
use Rattle.verbs_types.specs.declared.call.Call.{Call}
use Rattle.verbs_types.specs.declared.call.Call.TheVariants.{Post, Recv, Poll, Drain}
use Rattle.verbs_types.specs.declared.completion.Queue.TheVariants as queues
use Rattle.verbs_types.specs.declared.declaration.Lines.{Lines}
use Rattle.verbs_types.specs.declared.request.Item.TheVariants.{Request as TheRequest, Receive as TheReceive}
use Rattle.verbs_rules.specs.Within.{Bounds}
use Rattle.object_places.specs.Objects.{Mark, Sends, Receives}
use Rattle.actor_rules.specs.Calls.{MayCall, MayThread, after_call, after_thread}
use Rattle.actor_rules.specs.Ready.{AreReady, IsOwnCall}
use Rattle.actor_rules.specs.Thread.{Thread, fresh_thread, program_of}
use Rattle.actor_rules.specs.Holding.{IsMapped}
use Rattle.operation_bounds.proofs.Threads.{Stands, Went, Over, On, Again, Ends, IsAtCall, begins}
use Rattle.operation_bounds.proofs.PostSteps.{post_step}
use Rattle.operation_bounds.proofs.PollSteps.{poll_step, drain_step}

-- operations that keep the rule of the thread of a number
abbrev pub Keeps : Lines → ℕ → Thread → List (Marked Mark) → Type 0
Keeps d x t ops = Follows (λ s op. MayThread d s x op) (after_thread d) t ops

module _ (d : Lines) (programs : List (List Call)) (x : ℕ) (map_ok : IsMapped d) where
  step_by : (t : Thread) (op : Marked Mark) (calls : List Call) → t.calls ≡ calls → Stands d programs x t → AllByRecursion (IsOwnCall d programs x) calls → IsAtCall t calls → MayCall d t x calls op → Stands d programs x (after_call d t calls op) × Went t (after_call d t calls op)
  step_by t op [] is h own work may = (record { own = h.own; staged = h.staged; hosts = h.hosts; work = subst (IsAtCall (after_call d t [] op)) (sym is) tt }, Ends is refl)
  step_by t op (Post qp requests ∷ rest) is h own work may =
      post_step d programs x t (queues.Send qp) (map TheRequest requests) (Post qp requests) rest op h (record { calls = is; stands = work; goes_on = λ s i. i; left = λ s. refl }) (map_ok.placed d (Sends qp) map_ok.declared own.0.lives).fine may
  step_by t op (Recv qp receives ∷ rest) is h own work may =
      post_step d programs x t (queues.Recv qp) (map TheReceive receives) (Recv qp receives) rest op h (record { calls = is; stands = work; goes_on = λ s i. i; left = λ s. refl }) (map_ok.placed d (Receives qp) map_ok.declared own.0.lives).fine may
  step_by t op (Poll cq most ∷ rest) is h own work may = poll_step d programs x t cq most op h own.0.1 work may rest is
  step_by t op (Drain cq count ∷ rest) is h own work may = drain_step d programs x t cq op h work may count rest is

  pub step : (t : Thread) (op : Marked Mark) → Stands d programs x t → MayThread d t x op → Stands d programs x (after_thread d t op) × Went t (after_thread d t op)
  step t op h may = step_by t op t.calls refl h h.own h.work may

  -- no call is added

  shrinks : (t t' : Thread) → Went t t' → length t'.calls ≤ length t.calls
  shrinks t t' (Over less) = omega (arith, less)
  shrinks t t' (On same less) = let long = ap length same in omega (arith, long)
  shrinks t t' (Again cq count more rest is then_is idle waits) = let long = ap length is in let then_long = ap length then_is in omega (arith, long, then_long)
  shrinks t t' (Ends none same) = let long = ap length same in omega (arith, long)

  pub stands_after : (ops : List (Marked Mark)) (t : Thread) → Stands d programs x t → Keeps d x t ops → Stands d programs x (fold (after_thread d) t ops)
  stands_after [] t h keeps = h
  stands_after (op ∷ ops) t h keeps = stands_after ops (after_thread d t op) (step t op h keeps.0).0 keeps.1

  pub shrinks_all : (ops : List (Marked Mark)) (t : Thread) → Stands d programs x t → Keeps d x t ops → length (fold (after_thread d) t ops).calls ≤ length t.calls
  shrinks_all [] t h keeps = omega arith
  shrinks_all (op ∷ ops) t h keeps =
      let next = step t op h keeps.0 in
      let first = shrinks t (after_thread d t op) next.1 in
      let rest = shrinks_all ops (after_thread d t op) next.0 keeps.1 in
      omega (arith, first, rest)

-- a thread before its first operation
pub stands_first : (d : Lines) (programs : List (List Call)) (bounds : Bounds) (k : ℕ) → AreReady d programs bounds → Stands d programs (suc k) (fresh_thread d programs (suc k))
stands_first d programs bounds k ready = record {
  own = ready.calls k;
  staged = λ queue. tt;
  hosts = λ cq. tt;
  work = begins (fresh_thread d programs (suc k)) (program_of programs (suc k)) (record { posting = refl; given = refl; polls = λ cq all. refl });
}
