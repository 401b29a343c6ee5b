-- Where no index went to a resize, each arm that was seen and is passed was answered.
use Rattle.std.proofs.Common.{◌≡◌, ℕ, ◌+◌, ◌<◌, ◌≤◌, ◌⊎◌, inl, inr, refl, ap, sym, ◌∙◌, subst, arith, Bool, true, false, cond, ltb, Option, Some, None, List, get_or}
use Rattle.std.specs.List.{All, cons_option}
use Rattle.std.proofs.lemmas.List.Elements.{All-cons}
use Rattle.std.proofs.lemmas.Bool.{both_ways, cases_lt, lt-ltb, le-ltb, ltb-false}
use Rattle.verbs_types.specs.declared.completion.ArmKind.{ArmKind}
use Rattle.verbs_types.specs.declared.completion.ArmKind.TheVariants.{Any, Solicited}
use Rattle.cq_arms.specs.declared.arm_word.Arm.{Arm}
use Rattle.cq_arms.specs.Words.{is_passed}
use Rattle.cq_arms.specs.Arms.{Arms, ArmEvent, Armed, Saw, NoNews, Published, Resized, Acked, Wrote, Raised, see, publish, MayHappen, after_event}
use Rattle.cq_arms.specs.Kept.{seen_after, is_resize}
use Rattle.cq_arms.proofs.Sound.{Up, Up_refl, Up_trans, IsUpTo, IsAnswered, Sound, sound_step, judged_keeps, seen_index}
use Rattle.cq_arms.proofs.Judging.{passes, judged_waits, see_facts, changes}

-- an arm that was seen: no later one than that which was seen last, and answered or not passed
pub record IsServed (a : Arms) (arm : Arm) : Type 0 where
  pub up : IsUpTo (Some arm) a.seen
  pub event : (arm.number < a.answered) ⊎ (passes a arm ≡ false)

-- an arm is not passed by a completion that does not pass a later arm of its number
still_waits : (kind kind' : ArmKind) (index index' produced solicited : ℕ) (flag : Bool) → index ≤ index' → (kind ≡ Any → index ≡ index' → kind' ≡ Any) → index' ≤ produced
    → is_passed kind index produced solicited ≡ false → is_passed kind' index' (produced + 1) (cond flag (produced + 1) solicited) ≡ false → is_passed kind index (produced + 1) (cond flag (produced + 1) solicited) ≡ false
still_waits Any Any index index' produced solicited flag up stays low before after = le-ltb index (produced + 1) (absurd (both_ways (ltb index' (produced + 1)) after (lt-ltb index' (produced + 1) (omega (arith, low)))))
still_waits Any Solicited index index' produced solicited flag up stays low before after =
    let far : produced ≤ index = ltb-false index produced before in
    absurd (let same : Solicited ≡ Any = stays refl (omega (arith, up, low, far)) in cc)
still_waits Solicited Any index index' produced solicited flag up stays low before after = absurd (both_ways (ltb index' (produced + 1)) after (lt-ltb index' (produced + 1) (omega (arith, low))))
still_waits Solicited Solicited index index' produced solicited true up stays low before after = absurd (both_ways (ltb index' (produced + 1)) after (lt-ltb index' (produced + 1) (omega (arith, low))))
still_waits Solicited Solicited index index' produced solicited false up stays low before after = before

-- the same arm in a state with these numbers
same_passes : (a b : Arms) (arm : Arm) (t : Bool) → b.produced ≡ a.produced → b.solicited ≡ a.solicited → passes a arm ≡ t → passes b arm ≡ t
same_passes a b arm t p s h = ap (λ (n : ℕ). is_passed arm.kind arm.index n b.solicited) p ∙ (ap (λ (n : ℕ). is_passed arm.kind arm.index a.produced n) s ∙ h)

served_same : (a b : Arms) (arm : Arm) → b.seen ≡ a.seen → b.answered ≡ a.answered → b.produced ≡ a.produced → b.solicited ≡ a.solicited → IsServed a arm → IsServed b arm
served_same a b arm seen answered produced solicited s = record {
  up = subst (IsUpTo (Some arm)) (sym seen) s.up;
  event = elim s.event [ inl n ↦ inl (omega (arith, n, answered)) | inr n ↦ inr (same_passes a b arm false produced solicited n) ];
}

up_through : (arm : Arm) (seen last : Option Arm) → IsUpTo (Some arm) seen → IsUpTo seen last → IsUpTo (Some arm) last
up_through arm None last h k = absurd h
up_through arm (Some s) None h k = absurd k
up_through arm (Some s) (Some l) h k = Up_trans arm s l h k

-- the arm that was seen last is served by a judgement
last_served : (b : Arms) (arm : Arm) → b.seen ≡ Some arm → IsAnswered b.answered b.armed b.seen → (b.armed ≡ Some arm → passes b arm ≡ false) → IsServed b arm
last_served b arm is answered waits =
    let k : IsAnswered b.answered b.armed (Some arm) = subst (IsAnswered b.answered b.armed) is answered in
    record {
      up = subst (IsUpTo (Some arm)) (sym is) (Up_refl arm);
      event = elim k [ inl w ↦ inr (waits w.1) | inr d ↦ inl (omega (arith, d.0)) ];
    }

served_published : (a b : Arms) (flag : Bool) (arm : Arm) (seen : Option Arm) → a.seen ≡ seen → b.seen ≡ seen → b.produced ≡ a.produced + 1 → b.solicited ≡ cond flag (a.produced + 1) a.solicited → a.answered ≤ b.answered
    → IsAnswered b.answered b.armed seen → ((s : Arm) → b.armed ≡ Some s → passes b s ≡ false) → ((s : Arm) → seen ≡ Some s → s.index ≤ a.produced) → IsServed a arm → IsServed b arm
served_published a b flag arm None was is p q more answered waits low h = absurd (let up : IsUpTo (Some arm) None = subst (IsUpTo (Some arm)) was h.up in up)
served_published a b flag arm (Some s) was is p q more answered waits low h =
    let up : Up arm s = subst (IsUpTo (Some arm)) was h.up in
    record {
      up = subst (IsUpTo (Some arm)) (sym is) up;
      event = elim h.event [
        | inl n ↦ inl (omega (arith, n, more))
        | inr n ↦ elim answered [
          | inr d ↦ inl (omega (arith, d.0, up.number))
          | inl w ↦ elim (cases_lt arm.number s.number) [
            | inl less ↦ inl (omega (arith, w.0, less))
            | inr not_less ↦
                let later : is_passed s.kind s.index (a.produced + 1) (cond flag (a.produced + 1) a.solicited) ≡ false = ap (λ (k : ℕ). is_passed s.kind s.index (a.produced + 1) k) (sym q) ∙ (ap (λ (k : ℕ). is_passed s.kind s.index k b.solicited) (sym p) ∙ waits s w.1) in
                let now = still_waits arm.kind s.kind arm.index s.index a.produced a.solicited flag up.index (λ any i. up.kind any i (omega (arith, up.number, not_less))) (low s refl) n later in
                inr (ap (λ (k : ℕ). is_passed arm.kind arm.index k b.solicited) p ∙ (ap (λ (k : ℕ). is_passed arm.kind arm.index (a.produced + 1) k) q ∙ now))
          ]
        ]
      ];
    }

abbrev pub AllServed : Arms → List Arm → Type 0
AllServed a arms = All (IsServed a) arms

-- one more event
pub served_step : (a : Arms) (arms : List Arm) (e : ArmEvent) → Sound a → MayHappen a e → is_resize e ≡ false → AllServed a arms → AllServed (after_event a e) (seen_after a.last arms e)
served_step a arms (Armed arm) s may none h = λ k d inside. served_same a (after_event a (Armed arm)) (get_or arms k d) refl refl refl refl (h k d inside)
served_step a arms (Saw kind index sn due) s may none h =
    let e : ArmEvent = Saw kind index sn due in
    let b : Arms = after_event a e in
    let f = see_facts a may.arm may.last_is may.free s in
    let j = judged_keeps (see a a.last) in
    let t = sound_step a e s may in
    let c = changes a e s may in
    let is : b.seen ≡ Some may.arm = c.seen ∙ may.last_is in
    let others : AllServed b arms = λ k d inside.
    let one = h k d inside in
    record {
      up = subst (IsUpTo (Some (get_or arms k d))) (sym c.seen) (up_through (get_or arms k d) a.seen a.last one.up s.up);
      event = elim one.event [ inl n ↦ inl (omega (arith, n, c.answered)) | inr n ↦ inr (same_passes a b (get_or arms k d) false (j.produced ∙ f.produced) (j.solicited ∙ f.solicited) n) ];
    }
    in
    subst (λ (o : Option Arm). AllServed b (cons_option o arms)) (sym may.last_is)
    (All-cons (IsServed b) may.arm arms (last_served b may.arm is t.answered (λ waits. judged_waits (see a a.last) may.arm waits)) others)
served_step a arms NoNews s may none h = h
served_step a arms (Published solicited due) s may none h =
    let e : ArmEvent = Published solicited due in
    let b : Arms = after_event a e in
    let j = judged_keeps (publish a solicited) in
    let t = sound_step a e s may in
    let c = changes a e s may in
    λ k d inside. served_published a b solicited (get_or arms k d) a.seen refl c.seen j.produced j.solicited (omega (arith, c.answered)) (subst (IsAnswered b.answered b.armed) c.seen t.answered)
    (λ x waits. judged_waits (publish a solicited) x waits) (λ x is. seen_index a x s is) (h k d inside)
served_step a arms Resized s may none h = absurd (let no : true ≡ false = none in cc)
served_step a arms (Acked ci) s may none h = λ k d inside. served_same a (after_event a (Acked ci)) (get_or arms k d) refl refl refl refl (h k d inside)
served_step a arms Wrote s may none h = λ k d inside. served_same a (after_event a Wrote) (get_or arms k d) refl refl refl refl (h k d inside)
served_step a arms (Raised number) s may none h = λ k d inside. served_same a (after_event a (Raised number)) (get_or arms k d) refl refl refl refl (h k d inside)
