-- What a legal history of arms says of arms and events.
use Rattle.std.proofs.Common.{◌≡◌, ℕ, ◌+◌, ◌<◌, inl, inr, refl, ap, sym, ◌∙◌, subst, arith, Bool, true, false, List, [], ◌∷◌, ◌++◌, length, append_assoc, Option, Some, None, length-append}
use Rattle.std.specs.Prelude.{slice_get, filter}
use Rattle.std.specs.List.{cons_option}
use Rattle.std.proofs.lemmas.List.{append-nil}
use Rattle.std.proofs.lemmas.List.Elements.{All-contains}
use Rattle.std.proofs.lemmas.Bool.{cases_Bool, both_ways}
use Rattle.bus_core.proofs.Following.{fold-push}
use Rattle.bus_core.proofs.Lists.{filter_takes_last, filter_skips_last}
use Rattle.verbs_types.specs.declared.completion.ArmKind.{ArmKind}
use Rattle.cq_arms.specs.declared.arm_word.Arm.{Arm}
use Rattle.cq_arms.specs.Arms.{Arms, fresh_arms, ArmEvent, Saw, Published, see, publish, after_event, MayHappen, IsLegal}
use Rattle.cq_arms.specs.Kept.{arms_after, Noticed, last_after, seen_after, noticed_after, noticed, last_arm, seen_arms, last_seen, IsPassed, is_judged, makes_due, answers, is_write, writes, is_raise, raises, is_resize, resizes, IsFor, KeepsEvents}
use Rattle.cq_arms.proofs.Sound.{count, IsAnswered, Sound, fresh_sound, sound_step, publish_sound}
use Rattle.cq_arms.proofs.Judging.{passes, judged_waits, judged_serves, see_facts, seen_next, changes}
use Rattle.cq_arms.proofs.Served.{AllServed, IsServed, served_step}

count_more : (test : ArmEvent → Bool) (past : List ArmEvent) (e : ArmEvent) → length (filter test (past ++ e ∷ [])) ≡ length (filter test past) + count (test e)
count_more test past e = elim (cases_Bool (test e)) [
  | inl t ↦ omega (arith, ap (λ (es : List ArmEvent). length es) (filter_takes_last test past e t), length-append (filter test past) (e ∷ []), ap count t)
  | inr t ↦ omega (arith, ap (λ (es : List ArmEvent). length es) (filter_skips_last test past e t), ap count t)
]

-- the object after these events
record Kept (index : ℕ) (past : List ArmEvent) (a : Arms) : Type 0 where
  is : arms_after index past ≡ a
  sound : Sound a
  last : a.last ≡ last_arm past
  seen : a.seen ≡ last_seen past
  answered : a.answered ≡ answers past
  written : a.written ≡ writes past
  taken : a.taken ≡ raises past
  served : resizes past ≡ 0 → AllServed a (seen_arms past)

-- which arm is seen by an event: the last one, if one is seen
seen_by : (a : Arms) (arms : List Arm) (e : ArmEvent) → MayHappen a e → a.seen ≡ slice_get arms 0 → seen_next a.last a.seen e ≡ slice_get (seen_after a.last arms e) 0
seen_by a arms (Saw kind index sn due) may is = may.last_is ∙ ap (λ (o : Option Arm). slice_get (cons_option o arms) 0) (sym may.last_is)
seen_by a arms _ may is = is

step : (index : ℕ) (past : List ArmEvent) (a : Arms) (e : ArmEvent) → Kept index past a → MayHappen a e → Kept index (past ++ e ∷ []) (after_event a e)
step index past a e k may =
    let c = changes a e k.sound may in
    let n : noticed (past ++ e ∷ []) ≡ noticed_after (noticed past) e = fold-push noticed_after (record { last = None; seen = [] }) past e in
    record {
      is = fold-push after_event (fresh_arms index) past e ∙ ap (λ (b : Arms). after_event b e) k.is;
      sound = sound_step a e k.sound may;
      last = c.last ∙ (ap (λ (o : Option Arm). last_after o e) k.last ∙ ap (λ (x : Noticed). x.last) (sym n));
      seen = c.seen ∙ (seen_by a (seen_arms past) e may k.seen ∙ (ap (λ (o : Option Arm). slice_get (seen_after o (seen_arms past) e) 0) k.last ∙ ap (λ (x : Noticed). slice_get x.seen 0) (sym n)));
      answered = omega (arith, c.answered, k.answered, count_more makes_due past e);
      written = omega (arith, c.written, k.written, count_more is_write past e);
      taken = omega (arith, c.taken, k.taken, count_more is_raise past e);
      served = λ none.
          let before : resizes past ≡ 0 = omega (arith, none, count_more is_resize past e) in
          let here : is_resize e ≡ false = elim (cases_Bool (is_resize e)) [ inl t ↦ absurd (omega (arith, none, count_more is_resize past e, ap count t)) | inr t ↦ t ] in
          subst (AllServed (after_event a e)) (ap (λ (o : Option Arm). seen_after o (seen_arms past) e) k.last ∙ ap (λ (x : Noticed). x.seen) (sym n)) (served_step a (seen_arms past) e k.sound may here (k.served before));
    }

-- a legal history up to an event
record UpTo (index : ℕ) (past : List ArmEvent) (e : ArmEvent) : Type 0 where
  arms : Arms
  kept : Kept index past arms
  may : MayHappen arms e

up_to : (index : ℕ) (past before after : List ArmEvent) (a : Arms) (e : ArmEvent) → Kept index past a → IsLegal a (before ++ e ∷ after) → UpTo index (past ++ before) e
up_to index past [] after a e k legal = record { arms = a; kept = subst (λ (es : List ArmEvent). Kept index es a) (sym (append-nil past)) k; may = legal.0 }
up_to index past (x ∷ before) after a e k legal =
    subst (λ (es : List ArmEvent). UpTo index es e) (append_assoc past (x ∷ []) before) (up_to index (past ++ x ∷ []) before after (after_event a x) e (step index past a x k legal.0) legal.1)

fresh_kept : (index : ℕ) → Kept index [] (fresh_arms index)
fresh_kept index = record { is = refl; sound = fresh_sound index; last = refl; seen = refl; answered = refl; written = refl; taken = refl; served = λ none k d inside. absurd (omega arith) }

from_start : (index : ℕ) (before after : List ArmEvent) (e : ArmEvent) → IsLegal (fresh_arms index) (before ++ e ∷ after) → UpTo index before e
from_start index before after e legal = up_to index [] before after (fresh_arms index) e (fresh_kept index) legal

-- the object after a whole legal history
record Whole (index : ℕ) (events : List ArmEvent) : Type 0 where
  arms : Arms
  kept : Kept index events arms

all_of : (index : ℕ) (past events : List ArmEvent) (a : Arms) → Kept index past a → IsLegal a events → Whole index (past ++ events)
all_of index past [] a k legal = record { arms = a; kept = subst (λ (es : List ArmEvent). Kept index es a) (sym (append-nil past)) k }
all_of index past (x ∷ events) a k legal =
    subst (Whole index) (append_assoc past (x ∷ []) events) (all_of index (past ++ x ∷ []) events (after_event a x) (step index past a x k legal.0) legal.1)

whole : (index : ℕ) (events : List ArmEvent) → IsLegal (fresh_arms index) events → Whole index events
whole index events legal = all_of index [] events (fresh_arms index) (fresh_kept index) legal

-- an arm that waits where the adapter has judged is not passed
waits_after : (a : Arms) (e : ArmEvent) (arm : Arm) → is_judged e ≡ true → (after_event a e).armed ≡ Some arm → passes (after_event a e) arm ≡ false
waits_after a (Saw kind index sn due) arm judges waits = judged_waits (see a a.last) arm waits
waits_after a (Published solicited due) arm judges waits = judged_waits (publish a solicited) arm waits
waits_after a _ arm judges waits = absurd (cc)

-- the arm whose event becomes due
record ServedBy (a : Arms) (b : Arms) : Type 0 where
  arm : Arm
  seen : b.seen ≡ Some arm
  passed : passes b arm ≡ true
  number : arm.number ≡ a.answered

serves : (a : Arms) (e : ArmEvent) → Sound a → MayHappen a e → makes_due e ≡ true → ServedBy a (after_event a e)
serves a (Saw kind index sn due) s may is =
    let f = see_facts a may.arm may.last_is may.free s in
    let n = judged_serves (see a a.last) f.sound (f.due ∙ may.free) (sym may.due_is ∙ is) in
    record { arm = n.arm; seen = n.seen; passed = n.passed; number = n.number ∙ f.answered }
serves a (Published solicited due) s may is =
    let n = judged_serves (publish a solicited) (publish_sound a solicited may.room s) may.free (sym may.due_is ∙ is) in
    record { arm = n.arm; seen = n.seen; passed = n.passed; number = n.number }
serves a _ s may is = absurd (cc)

has_event : (index : ℕ) (before after : List ArmEvent) (e : ArmEvent) (arm : Arm) → IsLegal (fresh_arms index) (before ++ e ∷ after) → is_judged e ≡ true → last_seen (before ++ e ∷ []) ≡ Some arm → IsPassed index (before ++ e ∷ []) arm → arm.number < answers (before ++ e ∷ [])
has_event index before after e arm legal judges seen passed =
    let u = from_start index before after e legal in
    let b : Arms = after_event u.arms e in
    let k = step index before u.arms e u.kept u.may in
    let is : b.seen ≡ Some arm = k.seen ∙ seen in
    let passed_b : passes b arm ≡ true = ap (λ (x : Arms). passes x arm) (sym k.is) ∙ passed in
    let answered : IsAnswered b.answered b.armed (Some arm) = subst (IsAnswered b.answered b.armed) is k.sound.answered in
    elim answered [
      | inl w ↦ absurd (both_ways (passes b arm) (waits_after u.arms e arm judges w.1) passed_b)
      | inr d ↦ omega (arith, d.0, k.answered)
    ]

for_arm : (index : ℕ) (before after : List ArmEvent) (e : ArmEvent) → IsLegal (fresh_arms index) (before ++ e ∷ after) → makes_due e ≡ true → IsFor index before e
for_arm index before after e legal due =
    let u = from_start index before after e legal in
    let k = step index before u.arms e u.kept u.may in
    let n = serves u.arms e u.kept.sound u.may due in
    record { arm = n.arm; seen = sym k.seen ∙ n.seen; passed = ap (λ (x : Arms). passes x n.arm) k.is ∙ n.passed; number = n.number ∙ u.kept.answered }

some_equal : (a b : Arm) → Some a ≡ Some b → a ≡ b
some_equal a b h = cc

once : (index : ℕ) (before after : List ArmEvent) (kind : ArmKind) (arm_index sn : ℕ) (due : Bool) (arm : Arm) → IsLegal (fresh_arms index) (before ++ Saw kind arm_index sn due ∷ after) → last_arm before ≡ Some arm → arm.number < answers before → due ≡ false
once index before after kind arm_index sn due arm legal last answered = elim (cases_Bool due) [
  | inl t ↦
      let e : ArmEvent = Saw kind arm_index sn due in
      let u = from_start index before after e legal in
      let n = serves u.arms e u.kept.sound u.may t in
      let same : n.arm ≡ arm = some_equal n.arm arm (sym n.seen ∙ ((changes u.arms e u.kept.sound u.may).seen ∙ (u.kept.last ∙ last))) in
      absurd (omega (arith, answered, n.number, u.kept.answered, ap (λ (x : Arm). x.number) same))
  | inr f ↦ f
]

pub keeps_events : (index : ℕ) → KeepsEvents index
keeps_events index = record {
  has_event = has_event index;
  each_has_event = λ events arm legal none seen passed.
      let w = whole index events legal in
      let s = All-contains (IsServed w.arms) (seen_arms events) arm (w.kept.served none) seen in
      elim s.event [
        | inl n ↦ omega (arith, n, w.kept.answered)
        | inr n ↦ absurd (both_ways (passes w.arms arm) n (ap (λ (x : Arms). passes x arm) (sym w.kept.is) ∙ passed))
      ];
  for_arm = for_arm index;
  once = once index;
  written = λ events legal.
      let w = whole index events legal in
      let s = w.kept.sound in
      (omega (arith, s.written, w.kept.answered, w.kept.written), elim (cases_Bool w.arms.due) [ inl t ↦ omega (arith, s.written, w.kept.answered, w.kept.written, ap count t) | inr t ↦ omega (arith, s.written, w.kept.answered, w.kept.written, ap count t) ]);
  taken = λ events legal. let w = whole index events legal in omega (arith, w.kept.sound.taken, w.kept.taken, w.kept.written);
}
