-- What lives after any commands is what was made and not destroyed since.
use Rattle.std.proofs.Common.{◌≡◌, ℕ, ◌-◌, ◌<◌, ◌≤◌, refl, ap, ◌∙◌, arith, inl, inr, Bool, true, false, ◌&&◌, ◌||◌, not, cond, nat_le, List, [], ◌∷◌, length, get_or, set, Option, Some, None, is_some}
use Rattle.std.specs.List.{fold}
use Rattle.std.specs.Option.{option_map}
use Rattle.std.proofs.lemmas.Bool.{cases_Bool, cases_eq, leb-true}
use Rattle.std.proofs.lemmas.List.{get_or-set_same, get_or-set_other}
use Rattle.prm_fields.specs.Refusal.{Rule, first_refusal}
use Rattle.verbs_types.specs.declared.declaration.Lines.{Lines}
use Rattle.qp_state.specs.declared.moves.QpMove.{QpMove}
use Rattle.qp_state.specs.declared.moves.QpMove.TheVariants.{ToInit, ToRtr, ToRts, ToErr}
use Rattle.cmd_bodies.specs.declared.command.Command.{Command}
use Rattle.cmd_bodies.specs.declared.command.Command.TheVariants.{EnableHca, DisableHca, InitHca, TeardownHca, QueryPages, GivePages, ReturnPages, AllocPd, DeallocPd, AllocUar, DeallocUar, CreateMkey, DestroyMkey, CreateEq, DestroyEq, CreateCq, DestroyCq, ModifyCq, CreateSrq, DestroySrq, CreateQp, DestroyQp, RstToInit, InitToRtr, RtrToRts, ToErr as TwoErr}
use Rattle.device_commands.specs.declared.refusal.Refusal.{Refusal}
use Rattle.device_commands.specs.Objects.{Objects, pd_lives, uar_lives, eq_lives, cq_lives, qp_lives, qp_at, item_at}
use Rattle.device_commands.specs.Next.{next_cq, next_qp}
use Rattle.device_commands.specs.Tables.{Tables, reset}
use Rattle.device_commands.specs.Rules.{object_refusal, object_rules, refusal_of, or_then}
use Rattle.device_commands.specs.Effect.{after, done, effect, moved, moved_pair, new_pair, unless_refused}
use Rattle.device_commands.specs.Life.{Thing, PdOf, UarOf, EqOf, CqOf, QpOf, Change, lives, made_by, destroyed_by, change_of, changes, out_after, KeepsLife}
use Rattle.device_commands.proofs.Lives.{set_inside, live_inside, pd_inside}
use Rattle.device_commands.proofs.Held.{none_moved, push_get, gone_get, push_item, gone_item}

-- what a command without a refusal meets
abbrev AllMet : List (Rule Refusal) → Type 0
AllMet [] = Unit {0}
AllMet (r ∷ rs) = (r.holds ≡ true) × AllMet rs

met_here : (holds : Bool) (rest : Option Refusal) (otherwise : Refusal) → cond holds rest (Some otherwise) ≡ None → (holds ≡ true) × (rest ≡ None)
met_here true rest otherwise h = (refl, h)
met_here false rest otherwise h = absurd (cc)

all_met : (rules : List (Rule Refusal)) → first_refusal rules ≡ None → AllMet rules
all_met [] h = tt
all_met (r ∷ rs) h =
    let here = met_here r.holds (first_refusal rs) r.otherwise h in
    (here.0, all_met rs here.1)

then_none : (first next : Option Refusal) → or_then first next ≡ None → next ≡ None
then_none None next h = h
then_none (Some refusal) next h = absurd (cc)

is_some-map : {X Y : Type 0} (f : X → Y) (o : Option X) → is_some (option_map f o) ≡ is_some o
is_some-map f None = refl
is_some-map f (Some x) = refl

live_qp_inside : {X : Type 0} (items : List (Option X)) (qp : ℕ) → is_some (item_at 64 items qp None) ≡ true → (64 ≤ qp) × (qp - 64 < length items)
live_qp_inside items qp h = elim (cases_Bool (nat_le 64 qp)) [
  | inl above ↦ (leb-true 64 qp above, live_inside items (qp - 64) (rw above at h))
  | inr below ↦ absurd (let none = rw below at h in cc)
]

-- a queue pair that moves lives as before, and so do all others
moves : (o : Objects) (qp : ℕ) (move : QpMove) (n : ℕ) → qp_lives o qp ≡ true → qp_lives (moved o qp move) n ≡ (false || (qp_lives o n && not false))
moves o qp move n lived =
    let inside = live_qp_inside o.qps qp lived in
    let new = option_map (moved_pair move) (qp_at o qp) in
    elim (cases_Bool (nat_le 64 n)) [
      | inl above ↦ elim (cases_eq (n - 64) (qp - 64)) [
        | inl here ↦
            let same : n ≡ qp = omega (arith, here, inside.0, leb-true 64 n above) in
            let now : is_some (get_or (set o.qps (qp - 64) new) (n - 64) None) ≡ true = ap (λ (k : ℕ). is_some (get_or (set o.qps (qp - 64) new) k None)) here ∙ (ap is_some (get_or-set_same o.qps (qp - 64) new None inside.1) ∙ (is_some-map (moved_pair move) (qp_at o qp) ∙ lived)) in
            let before : qp_lives o n ≡ true = ap (λ (k : ℕ). qp_lives o k) same ∙ lived in
            rw (before, above) now
        | inr elsewhere ↦ rw above (ap is_some (get_or-set_other o.qps (qp - 64) (n - 64) new None elsewhere) ∙ none_moved (is_some (get_or o.qps (n - 64) None)))
      ]
      | inr below ↦ rw below refl
    ]

object_step : (o : Objects) (c : Command) → object_refusal o c ≡ None → (thing : Thing) → lives (done o c) thing ≡ out_after thing (lives o thing) (record { made = made_by o c; destroyed = destroyed_by c })
object_step o AllocPd none (PdOf n) = push_item (λ b. b) false refl 1 o.pds true refl n
object_step o AllocPd none (UarOf n) = none_moved (uar_lives o n)
object_step o AllocPd none (EqOf n) = none_moved (eq_lives o n)
object_step o AllocPd none (CqOf n) = none_moved (cq_lives o n)
object_step o AllocPd none (QpOf n) = none_moved (qp_lives o n)
object_step o (DeallocPd pd) none (PdOf n) = let lived = (all_met (object_rules o (DeallocPd pd)) none).0 in let inside = pd_inside o.pds pd lived in gone_item (λ b. b) false refl 1 pd o.pds inside.0 inside.1 n
object_step o (DeallocPd pd) none (UarOf n) = none_moved (uar_lives o n)
object_step o (DeallocPd pd) none (EqOf n) = none_moved (eq_lives o n)
object_step o (DeallocPd pd) none (CqOf n) = none_moved (cq_lives o n)
object_step o (DeallocPd pd) none (QpOf n) = none_moved (qp_lives o n)
object_step o AllocUar none (PdOf n) = none_moved (pd_lives o n)
object_step o AllocUar none (UarOf n) = push_get (λ b. b) false refl o.uars true refl n
object_step o AllocUar none (EqOf n) = none_moved (eq_lives o n)
object_step o AllocUar none (CqOf n) = none_moved (cq_lives o n)
object_step o AllocUar none (QpOf n) = none_moved (qp_lives o n)
object_step o (DeallocUar page) none (PdOf n) = none_moved (pd_lives o n)
object_step o (DeallocUar page) none (UarOf n) = gone_get (λ b. b) false refl o.uars page (set_inside o.uars page ((all_met (object_rules o (DeallocUar page)) none).0)) n
object_step o (DeallocUar page) none (EqOf n) = none_moved (eq_lives o n)
object_step o (DeallocUar page) none (CqOf n) = none_moved (cq_lives o n)
object_step o (DeallocUar page) none (QpOf n) = none_moved (qp_lives o n)
object_step o (CreateEq block) none (PdOf n) = none_moved (pd_lives o n)
object_step o (CreateEq block) none (UarOf n) = none_moved (uar_lives o n)
object_step o (CreateEq block) none (EqOf n) = push_get (λ b. b) false refl o.eqs true refl n
object_step o (CreateEq block) none (CqOf n) = none_moved (cq_lives o n)
object_step o (CreateEq block) none (QpOf n) = none_moved (qp_lives o n)
object_step o (DestroyEq eq) none (PdOf n) = none_moved (pd_lives o n)
object_step o (DestroyEq eq) none (UarOf n) = none_moved (uar_lives o n)
object_step o (DestroyEq eq) none (EqOf n) = gone_get (λ b. b) false refl o.eqs eq (set_inside o.eqs eq ((all_met (object_rules o (DestroyEq eq)) none).0)) n
object_step o (DestroyEq eq) none (CqOf n) = none_moved (cq_lives o n)
object_step o (DestroyEq eq) none (QpOf n) = none_moved (qp_lives o n)
object_step o (CreateCq context) none (PdOf n) = none_moved (pd_lives o n)
object_step o (CreateCq context) none (UarOf n) = none_moved (uar_lives o n)
object_step o (CreateCq context) none (EqOf n) = none_moved (eq_lives o n)
object_step o (CreateCq context) none (CqOf n) = push_get is_some None refl o.cqs (next_cq o context) ((all_met (object_rules o (CreateCq context)) none).1.0) n
object_step o (CreateCq context) none (QpOf n) = none_moved (qp_lives o n)
object_step o (DestroyCq cq) none (PdOf n) = none_moved (pd_lives o n)
object_step o (DestroyCq cq) none (UarOf n) = none_moved (uar_lives o n)
object_step o (DestroyCq cq) none (EqOf n) = none_moved (eq_lives o n)
object_step o (DestroyCq cq) none (CqOf n) = gone_get is_some None refl o.cqs cq (live_inside o.cqs cq ((all_met (object_rules o (DestroyCq cq)) none).0)) n
object_step o (DestroyCq cq) none (QpOf n) = none_moved (qp_lives o n)
object_step o (CreateQp block) none (PdOf n) = none_moved (pd_lives o n)
object_step o (CreateQp block) none (UarOf n) = none_moved (uar_lives o n)
object_step o (CreateQp block) none (EqOf n) = none_moved (eq_lives o n)
object_step o (CreateQp block) none (CqOf n) = none_moved (cq_lives o n)
object_step o (CreateQp block) none (QpOf n) = push_item is_some None refl 64 o.qps (option_map new_pair (next_qp o block)) (is_some-map new_pair (next_qp o block) ∙ (all_met (object_rules o (CreateQp block)) none).1.0) n
object_step o (DestroyQp qp) none (PdOf n) = none_moved (pd_lives o n)
object_step o (DestroyQp qp) none (UarOf n) = none_moved (uar_lives o n)
object_step o (DestroyQp qp) none (EqOf n) = none_moved (eq_lives o n)
object_step o (DestroyQp qp) none (CqOf n) = none_moved (cq_lives o n)
object_step o (DestroyQp qp) none (QpOf n) = let inside = live_qp_inside o.qps qp ((all_met (object_rules o (DestroyQp qp)) none).0) in gone_item is_some None refl 64 qp o.qps inside.0 inside.1 n
object_step o (RstToInit qp) none (PdOf n) = none_moved (pd_lives o n)
object_step o (RstToInit qp) none (UarOf n) = none_moved (uar_lives o n)
object_step o (RstToInit qp) none (EqOf n) = none_moved (eq_lives o n)
object_step o (RstToInit qp) none (CqOf n) = none_moved (cq_lives o n)
object_step o (RstToInit qp) none (QpOf n) = moves o qp ToInit n ((all_met (object_rules o (RstToInit qp)) none).0)
object_step o (InitToRtr qp peer) none (PdOf n) = none_moved (pd_lives o n)
object_step o (InitToRtr qp peer) none (UarOf n) = none_moved (uar_lives o n)
object_step o (InitToRtr qp peer) none (EqOf n) = none_moved (eq_lives o n)
object_step o (InitToRtr qp peer) none (CqOf n) = none_moved (cq_lives o n)
object_step o (InitToRtr qp peer) none (QpOf n) = moves o qp (ToRtr peer) n ((all_met (object_rules o (InitToRtr qp peer)) none).1.0)
object_step o (RtrToRts qp) none (PdOf n) = none_moved (pd_lives o n)
object_step o (RtrToRts qp) none (UarOf n) = none_moved (uar_lives o n)
object_step o (RtrToRts qp) none (EqOf n) = none_moved (eq_lives o n)
object_step o (RtrToRts qp) none (CqOf n) = none_moved (cq_lives o n)
object_step o (RtrToRts qp) none (QpOf n) = moves o qp ToRts n ((all_met (object_rules o (RtrToRts qp)) none).0)
object_step o (TwoErr qp) none (PdOf n) = none_moved (pd_lives o n)
object_step o (TwoErr qp) none (UarOf n) = none_moved (uar_lives o n)
object_step o (TwoErr qp) none (EqOf n) = none_moved (eq_lives o n)
object_step o (TwoErr qp) none (CqOf n) = none_moved (cq_lives o n)
object_step o (TwoErr qp) none (QpOf n) = moves o qp ToErr n ((all_met (object_rules o (TwoErr qp)) none).0)
object_step o EnableHca none thing = absurd (cc)
object_step o DisableHca none thing = absurd (cc)
object_step o InitHca none thing = absurd (cc)
object_step o TeardownHca none thing = absurd (cc)
object_step o (QueryPages which) none thing = absurd (cc)
object_step o (GivePages list) none thing = absurd (cc)
object_step o (ReturnPages count) none thing = absurd (cc)
object_step o (CreateMkey context) none thing = absurd (cc)
object_step o (DestroyMkey key) none thing = absurd (cc)
object_step o (ModifyCq cq area context) none thing = absurd (cc)
object_step o (CreateSrq block) none thing = absurd (cc)
object_step o (DestroySrq srq) none thing = absurd (cc)

is_it_none : (thing : Thing) (held : Bool) → held ≡ out_after thing held (record { made = None; destroyed = None })
is_it_none (PdOf n) held = none_moved held
is_it_none (UarOf n) held = none_moved held
is_it_none (EqOf n) held = none_moved held
is_it_none (CqOf n) held = none_moved held
is_it_none (QpOf n) held = none_moved held

effect_step : (t : Tables) (c : Command) → refusal_of t c ≡ None → (thing : Thing) → lives (effect t c).objects thing ≡ out_after thing (lives t.objects thing) (record { made = made_by t.objects c; destroyed = destroyed_by c })
effect_step t EnableHca none thing = is_it_none thing (lives t.objects thing)
effect_step t DisableHca none thing = is_it_none thing (lives t.objects thing)
effect_step t InitHca none thing = is_it_none thing (lives t.objects thing)
effect_step t TeardownHca none thing = is_it_none thing (lives t.objects thing)
effect_step t (QueryPages which) none thing = is_it_none thing (lives t.objects thing)
effect_step t (GivePages list) none thing = is_it_none thing (lives t.objects thing)
effect_step t (ReturnPages count) none thing = is_it_none thing (lives t.objects thing)
effect_step t (CreateMkey context) none thing = absurd (cc)
effect_step t (DestroyMkey key) none thing = absurd (cc)
effect_step t (ModifyCq cq area context) none thing = absurd (cc)
effect_step t (CreateSrq block) none thing = absurd (cc)
effect_step t (DestroySrq srq) none thing = absurd (cc)
effect_step t AllocPd none thing = object_step t.objects AllocPd (then_none _ _ none) thing
effect_step t (DeallocPd pd) none thing = object_step t.objects (DeallocPd pd) (then_none _ _ none) thing
effect_step t AllocUar none thing = object_step t.objects AllocUar (then_none _ _ none) thing
effect_step t (DeallocUar page) none thing = object_step t.objects (DeallocUar page) (then_none _ _ none) thing
effect_step t (CreateEq block) none thing = object_step t.objects (CreateEq block) (then_none _ _ none) thing
effect_step t (DestroyEq eq) none thing = object_step t.objects (DestroyEq eq) (then_none _ _ none) thing
effect_step t (CreateCq context) none thing = object_step t.objects (CreateCq context) (then_none _ _ none) thing
effect_step t (DestroyCq cq) none thing = object_step t.objects (DestroyCq cq) (then_none _ _ none) thing
effect_step t (CreateQp block) none thing = object_step t.objects (CreateQp block) (then_none _ _ none) thing
effect_step t (DestroyQp qp) none thing = object_step t.objects (DestroyQp qp) (then_none _ _ none) thing
effect_step t (RstToInit qp) none thing = object_step t.objects (RstToInit qp) (then_none _ _ none) thing
effect_step t (InitToRtr qp peer) none thing = object_step t.objects (InitToRtr qp peer) (then_none _ _ none) thing
effect_step t (RtrToRts qp) none thing = object_step t.objects (RtrToRts qp) (then_none _ _ none) thing
effect_step t (TwoErr qp) none thing = object_step t.objects (TwoErr qp) (then_none _ _ none) thing

by_refusal : (refusal : Option Refusal) (old new : Tables) (change : Change) (thing : Thing)
    → (refusal ≡ None → lives new.objects thing ≡ out_after thing (lives old.objects thing) change)
    → lives (unless_refused refusal old new).objects thing ≡ out_after thing (lives old.objects thing) (unless_refused refusal (record { made = None; destroyed = None }) change)
by_refusal None old new change thing step = step refl
by_refusal (Some refusal) old new change thing step = is_it_none thing (lives old.objects thing)

life_step : (t : Tables) (c : Command) (thing : Thing) → lives (after t c).objects thing ≡ out_after thing (lives t.objects thing) (change_of t c)
life_step t c thing = by_refusal (refusal_of t c) t (effect t c) (record { made = made_by t.objects c; destroyed = destroyed_by c }) thing (λ none. effect_step t c none thing)

life_after : (thing : Thing) (commands : List Command) (t : Tables) → lives (fold after t commands).objects thing ≡ fold (out_after thing) (lives t.objects thing) (changes t commands)
life_after thing [] t = refl
life_after thing (c ∷ commands) t =
    life_after thing commands (after t c)
    ∙ ap (λ (out : Bool). fold (out_after thing) out (changes (after t c) commands)) (life_step t c thing)

none_lives : (d : Lines) (thing : Thing) → lives (reset d).objects thing ≡ false
none_lives d (PdOf n) = elim (cases_Bool (nat_le 1 n)) [ inl above ↦ rw above refl | inr below ↦ rw below refl ]
none_lives d (UarOf n) = refl
none_lives d (EqOf n) = refl
none_lives d (CqOf n) = refl
none_lives d (QpOf n) = elim (cases_Bool (nat_le 64 n)) [ inl above ↦ rw above refl | inr below ↦ rw below refl ]

pub keeps_life : KeepsLife
keeps_life d commands thing =
    life_after thing commands (reset d) ∙ ap (λ (out : Bool). fold (out_after thing) out (changes (reset d) commands)) (none_lives d thing)
