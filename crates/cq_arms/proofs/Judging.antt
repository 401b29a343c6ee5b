-- What a judgement answers, and what it leaves waiting.
use Rattle.std.proofs.Common.{◌≡◌, ℕ, ◌+◌, refl, ap, sym, ◌∙◌, subst, arith, Bool, true, false, Option, Some, None}
use Rattle.std.proofs.lemmas.Bool.{cond_both, both_ways}
use Rattle.cq_arms.specs.declared.arm_word.Arm.{Arm}
use Rattle.cq_arms.specs.Words.{is_passed}
use Rattle.cq_arms.specs.Arms.{Arms, ArmEvent, Armed, Saw, NoNews, Published, Resized, Acked, Wrote, Raised, answer, judged, see, publish, MayHappen, after_event}
use Rattle.cq_arms.specs.Kept.{last_after, is_write, is_raise, makes_due}
use Rattle.cq_arms.proofs.Sound.{count, Sound, some_same, next_waits, see_sound, sound_step, judged_keeps}

-- whether an arm is passed in this state
abbrev pub passes : Arms → Arm → Bool
passes a arm = is_passed arm.kind arm.index a.produced a.solicited

-- an arm that waits after a judgement is not passed
answer_waits : (a : Arms) (armed : Option Arm) (arm : Arm) → a.armed ≡ armed → (answer a armed).armed ≡ Some arm → passes a arm ≡ false
answer_waits a None arm is waits = absurd (let none : None ≡ Some arm = sym is ∙ waits in cc)
answer_waits a (Some x) arm is now =
    cond_both (passes a x) (record a { armed = None; answered = x.number + 1; due = true }) a (λ (b : Arms). b.armed ≡ Some arm → passes a arm ≡ false)
    (λ passed waits. absurd (let none : None ≡ Some arm = waits in cc))
    (λ waiting waits. let same : x ≡ arm = some_same x arm (sym is ∙ waits) in subst (λ (y : Arm). passes a y ≡ false) same waiting)
    now

pub judged_waits : (a : Arms) (arm : Arm) → (judged a).armed ≡ Some arm → passes (judged a) arm ≡ false
judged_waits a arm waits =
    let j = judged_keeps a in
    let before = answer_waits a a.armed arm refl waits in
    subst (λ (n : ℕ). is_passed arm.kind arm.index n (judged a).solicited ≡ false) (sym j.produced) (subst (λ (n : ℕ). is_passed arm.kind arm.index a.produced n ≡ false) (sym j.solicited) before)

-- what becomes due is the event of the arm that waited and was passed
record Answered (a : Arms) : Type 0 where
  arm : Arm
  armed_is : a.armed ≡ Some arm
  passed : passes a arm ≡ true

answers_it : (a : Arms) (armed : Option Arm) → a.armed ≡ armed → a.due ≡ false → (answer a armed).due ≡ true → Answered a
answers_it a None is free due = absurd (both_ways a.due free due)
answers_it a (Some x) is free now =
    cond_both (passes a x) (record a { armed = None; answered = x.number + 1; due = true }) a (λ (b : Arms). b.due ≡ true → Answered a)
    (λ passed due. record { arm = x; armed_is = is; passed = passed })
    (λ waiting due. absurd (both_ways a.due free due))
    now

-- it is the arm that was seen last, and its number comes next
pub record Serves (a : Arms) : Type 0 where
  pub arm : Arm
  pub seen : (judged a).seen ≡ Some arm
  pub passed : passes (judged a) arm ≡ true
  pub number : arm.number ≡ a.answered

pub judged_serves : (a : Arms) → Sound a → a.due ≡ false → (judged a).due ≡ true → Serves a
judged_serves a s free due =
    let n = answers_it a a.armed refl free due in
    let w = next_waits a n.arm s n.armed_is in
    let j = judged_keeps a in
    record {
      arm = n.arm;
      seen = j.seen ∙ w.0;
      passed = subst (λ (k : ℕ). is_passed n.arm.kind n.arm.index k (judged a).solicited ≡ true) (sym j.produced) (subst (λ (k : ℕ). is_passed n.arm.kind n.arm.index a.produced k ≡ true) (sym j.solicited) n.passed);
      number = sym w.1;
    }

-- an object that has seen the last arm
pub record IsSeenOf (a b : Arms) : Type 0 where
  pub sound : Sound b
  pub due : b.due ≡ a.due
  pub answered : b.answered ≡ a.answered
  pub seen : b.seen ≡ a.last
  pub last : b.last ≡ a.last
  pub written : b.written ≡ a.written
  pub taken : b.taken ≡ a.taken
  pub produced : b.produced ≡ a.produced
  pub solicited : b.solicited ≡ a.solicited

pub see_facts : (a : Arms) (arm : Arm) → a.last ≡ Some arm → a.due ≡ false → Sound a → IsSeenOf a (see a a.last)
see_facts a arm is due s =
    subst (λ (o : Option Arm). IsSeenOf a (see a o)) (sym is)
    (record { sound = see_sound a arm is due s; due = refl; answered = refl; seen = sym is; last = refl; written = refl; taken = refl; produced = refl; solicited = refl })

-- the arm that is seen last
abbrev pub seen_next : Option Arm → Option Arm → ArmEvent → Option Arm
seen_next last seen (Saw kind index sn due) = last
seen_next last seen _ = seen

-- what a legal event changes
pub record Changes (a : Arms) (e : ArmEvent) (b : Arms) : Type 0 where
  pub last : b.last ≡ last_after a.last e
  pub seen : b.seen ≡ seen_next a.last a.seen e
  pub written : b.written ≡ a.written + count (is_write e)
  pub taken : b.taken ≡ a.taken + count (is_raise e)
  pub answered : b.answered ≡ a.answered + count (makes_due e)

counted : (a b : Arms) (due : Bool) → Sound a → Sound b → a.due ≡ false → b.written ≡ a.written → due ≡ b.due → b.answered ≡ a.answered + count due
counted a b due s t free same is = omega (arith, s.written, t.written, ap count free, ap count is, same)

pub changes : (a : Arms) (e : ArmEvent) → Sound a → MayHappen a e → Changes a e (after_event a e)
changes a (Saw kind index sn due) s may =
    let f = see_facts a may.arm may.last_is may.free s in
    let j = judged_keeps (see a a.last) in
    record {
      last = j.last ∙ f.last;
      seen = j.seen ∙ f.seen;
      written = omega (arith, j.written, f.written);
      taken = omega (arith, j.taken, f.taken);
      answered = counted a (judged (see a a.last)) due s (sound_step a (Saw kind index sn due) s may) may.free (j.written ∙ f.written) may.due_is;
    }
changes a (Published solicited due) s may =
    let j = judged_keeps (publish a solicited) in
    record {
      last = j.last;
      seen = j.seen;
      written = omega (arith, j.written);
      taken = omega (arith, j.taken);
      answered = counted a (judged (publish a solicited)) due s (sound_step a (Published solicited due) s may) may.free j.written may.due_is;
    }
changes a (Armed arm) s may = record { last = refl; seen = refl; written = omega arith; taken = omega arith; answered = omega arith }
changes a NoNews s may = record { last = refl; seen = refl; written = omega arith; taken = omega arith; answered = omega arith }
changes a Resized s may = record { last = refl; seen = refl; written = omega arith; taken = omega arith; answered = omega arith }
changes a (Acked ci) s may = record { last = refl; seen = refl; written = omega arith; taken = omega arith; answered = omega arith }
changes a Wrote s may = record { last = refl; seen = refl; written = omega arith; taken = omega arith; answered = omega arith }
changes a (Raised number) s may = record { last = refl; seen = refl; written = omega arith; taken = may.0; answered = omega arith }
