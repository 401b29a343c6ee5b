-- One operation of the adapter's keeps what ties words, sides and object, and what it says is a step of the object.
use Rattle.std.proofs.Common.{◌≡◌, ◌≢◌, ℕ, ◌+◌, ◌%◌, ◌^◌, ◌<◌, ◌≤◌, inl, inr, refl, ap, sym, ◌∙◌, subst, arith, Bool, true, false, cond, eqb, Option, Some, None}
use Rattle.std.specs.Prelude.{option_map}
use Rattle.std.proofs.lemmas.Bool.{cases_Bool, eq-eqb, ne_eqb}
use Rattle.std.proofs.lemmas.Bool.Decides.{eqb_tells}
use Rattle.bus_core.specs.declared.operation.BusEntry.{BusEntry}
use Rattle.bus_core.specs.Operation.{loaded}
use Rattle.bus_core.specs.Trace.{Memory, after_entry, Tells}
use Rattle.bus_core.proofs.Words.{load_keeps, load_tells, harmless_kept}
use Rattle.cq_arms.specs.declared.arm_word.Arm.{Arm}
use Rattle.cq_arms.specs.declared.arm_word.Armed.{Armed}
use Rattle.cq_arms.specs.declared.place.ArmPlace.{ArmPlace}
use Rattle.cq_arms.specs.Place.{touches, IsPlace}
use Rattle.cq_arms.specs.Words.{register_word, shown_arm, shown, is_passed}
use Rattle.cq_arms.specs.Arms.{Arms, Acked, Wrote, bound, answer, judged, see, publish, after_event, IsNoNews, most}
use Rattle.cq_arms.specs.Mark.{ArmMark, See, Publish, Resize, Write}
use Rattle.cq_arms.specs.Armer.{Armer}
use Rattle.cq_arms.specs.Reader.{Reader}
use Rattle.cq_arms.specs.Device.{Device, IsHarmless, notice, saw, see_says, served}
use Rattle.cq_arms.specs.Device as side
use Rattle.cq_arms.specs.Scanner.{Scanner, MayScan, after_scan}
use Rattle.cq_arms.proofs.Sound.{IsUpTo, IsAnswered, sound_step, judged_sound, see_sound, publish_sound, judged_keeps, answered_last, last_number, last_index}
use Rattle.cq_arms.proofs.Registers.{register_of, register_not_none, shows, same_word}
use Rattle.cq_arms.proofs.Tied.{ArmerFits, DeviceFits, IsNear, Tied, Tied_kept, Goes, AsksFor}

-- the judgement of the device is that of the object
both_conds : {A B : Type 0} (b : Bool) (x y : A) (u v : B) (P : A → B → Type 0) → (b ≡ true → P x u) → (b ≡ false → P y v) → P (cond b x y) (cond b u v)
both_conds true x y u v P t f = t refl
both_conds false x y u v P t f = f refl

answered_shown : (arm : Arm) → arm.number % 4 ≡ (arm.number + 1 + 3) % 4
answered_shown arm = omega arith

answer_fits : (number : ℕ) (a : Arms) (d : Device) (armed : Option Arm) → DeviceFits number a d → DeviceFits number (answer a armed) (side.answer d (option_map shown_arm armed))
answer_fits number a d None f = f
answer_fits number a d (Some arm) f =
    let same : is_passed arm.kind arm.index d.index d.solicited ≡ is_passed arm.kind arm.index a.produced a.solicited = ap (λ (i : ℕ). is_passed arm.kind arm.index i d.solicited) f.index ∙ ap (λ (i : ℕ). is_passed arm.kind arm.index a.produced i) f.solicited in
    rw same (both_conds (is_passed arm.kind arm.index a.produced a.solicited) (record a { armed = None; answered = arm.number + 1; due = true }) a (record d { armed = None; answered = arm.number % 4; due = true }) d (DeviceFits number)
    (λ passed. record { index = f.index; solicited = f.solicited; register = f.register; armed = refl; answered = answered_shown arm; due = refl })
    (λ waiting. f))

judged_fits : (number : ℕ) (a : Arms) (d : Device) → DeviceFits number a d → DeviceFits number (judged a) (side.judged d)
judged_fits number a d f = subst (λ (o : Option Armed). DeviceFits number (judged a) (side.answer d o)) (sym f.armed) (answer_fits number a d a.armed f)

-- a number of which only the last one can be meant, and the one after it
same_number : (number answered : ℕ) → answered ≤ number + 1 → number ≤ answered → (eqb (number % 4) ((answered + 3) % 4) ≡ eqb (number + 1) answered)
same_number number answered low high = elim (eqb_tells (number + 1) answered) [
  | inl t ↦ rw t.0 (eq-eqb (number % 4) ((answered + 3) % 4) (omega (arith, t.1)))
  | inr t ↦ rw t.0 (ne_eqb (number % 4) ((answered + 3) % 4) (λ same. t.1 (omega (arith, same, low, high))))
]

armed_noticed : (number answered d_answered : ℕ) (armed : Option Arm) (d_armed : Option Armed) (arm : Arm) → arm.number ≡ number → answered ≤ number + 1 → number ≤ answered → d_answered ≡ (answered + 3) % 4 → d_armed ≡ option_map shown_arm armed
    → cond (eqb (arm.number % 4) d_answered) d_armed (Some (shown_arm arm)) ≡ option_map shown_arm (cond (eqb (arm.number + 1) answered) armed (Some arm))
armed_noticed number answered d_answered armed d_armed arm is low high modulo same =
    let test : eqb (arm.number % 4) d_answered ≡ eqb (arm.number + 1) answered = ap (λ (k : ℕ). eqb (arm.number % 4) k) modulo ∙ same_number arm.number answered (omega (arith, is, low)) (omega (arith, is, high)) in
    rw test (elim (cases_Bool (eqb (arm.number + 1) answered)) [ inl t ↦ rw t same | inr t ↦ rw t refl ])

notice_fits : (number : ℕ) (a : Arms) (d : Device) (arm : Arm) (word : ℕ) → DeviceFits number a d → word ≡ register_word number arm → a.answered ≤ arm.number + 1 → arm.number ≤ a.answered → DeviceFits number (see a (Some arm)) (notice d (shown_arm arm) word)
notice_fits number a d arm word f is low high = record {
  index = f.index;
  solicited = f.solicited;
  register = is;
  armed = armed_noticed arm.number a.answered d.answered a.armed d.armed arm refl low high f.answered f.armed;
  answered = f.answered;
  due = f.due;
}

-- a register that is as it was
no_news : (number : ℕ) (a : Arms) (last seen : Option Arm) → number < 2 ^ 32 → register_of number last ≡ register_of number seen → IsUpTo seen last → IsAnswered a.answered a.armed seen → ((l : Arm) → last ≡ Some l → l.number ≤ a.answered) → IsNoNews last seen
no_news number a None None low same up answered below = tt
no_news number a None (Some s) low same up answered below = absurd up
no_news number a (Some l) None low same up answered below = absurd (register_not_none number l low same)
no_news number a (Some l) (Some s) low same up answered below =
    let w = same_word number l s low same in
    let far : l.number ≤ a.answered = below l refl in
    let near : a.answered ≤ s.number + 1 = elim answered [ inl k ↦ omega (arith, k.0) | inr k ↦ omega (arith, k.0) ] in
    record { kind = w.kind; number = omega (arith, w.sn, up.number, far, near); index = w.index }

-- a register that changed shows an arm that was not seen
pub record IsNews (last seen : Option Arm) : Type 0 where
  pub arm : Arm
  pub last_is : last ≡ Some arm
  pub unseen : seen ≢ Some arm

news : (number : ℕ) (last seen : Option Arm) → IsUpTo seen last → register_of number last ≢ register_of number seen → IsNews last seen
news number None None up differ = absurd (differ refl)
news number None (Some s) up differ = absurd up
news number (Some l) seen up differ = record { arm = l; last_is = refl; unseen = λ is. differ (ap (register_of number) (sym is)) }

near_arm : (produced unlooked : ℕ) (last : Option Arm) (arm : Arm) → last ≡ Some arm → IsNear produced unlooked last → produced ≤ arm.index + most + unlooked
near_arm produced unlooked last arm is near = subst (IsNear produced unlooked) is near

ArmerFits_same : (taken taken' : ℕ) (last last' : Option Arm) (h : Armer) → taken ≡ taken' → last ≡ last' → ArmerFits taken last h → ArmerFits taken' last' h
ArmerFits_same taken taken' last last' h t l f = subst (λ (x : ℕ). ArmerFits x last' h) t (subst (λ (o : Option Arm). ArmerFits taken o h) l f)

IsNear_same : (produced produced' unlooked : ℕ) (last last' : Option Arm) → produced ≡ produced' → last ≡ last' → IsNear produced unlooked last → IsNear produced' unlooked last'
IsNear_same produced produced' unlooked last last' p l n = subst (λ (x : ℕ). IsNear x unlooked last') p (subst (IsNear produced unlooked) l n)

near_more : (produced unlooked : ℕ) (last : Option Arm) → IsNear produced unlooked last → IsNear (produced + 1) (unlooked + 1) last
near_more produced unlooked None near = tt
near_more produced unlooked (Some arm) near = omega (arith, near)

abbrev with_device : Scanner → Device → Scanner
with_device s d = record { device = d; unlooked = s.unlooked }

module _ (place : ArmPlace) (m : Memory) (h : Armer) (r : Reader) where
  -- both judge
  tied_judged : (s : Scanner) (b : Arms) → b.due ≡ false → Tied place m h r s b → Tied place m h r (with_device s (side.judged s.device)) (judged b)
  tied_judged s b due t =
      let j = judged_keeps b in
      record {
        sound = judged_sound b due t.sound;
        sn = t.sn ∙ sym j.taken;
        register = t.register ∙ ap (register_of place.number) (sym j.last);
        armer = ArmerFits_same b.taken (judged b).taken b.last (judged b).last h (sym j.taken) (sym j.last) t.armer;
        reader = t.reader ∙ sym j.taken;
        device = judged_fits place.number b s.device t.device;
        few = t.few;
        near = λ differ. IsNear_same b.produced (judged b).produced s.unlooked b.last (judged b).last (sym j.produced) (sym j.last)
            (t.near (λ same. differ (ap (register_of place.number) j.last ∙ (same ∙ ap (register_of place.number) (sym j.seen)))));
      }

  tied_noticed : (s : Scanner) (a : Arms) (arm : Arm) (word : ℕ) → a.last ≡ Some arm → a.due ≡ false → word ≡ register_word place.number arm → Tied place m h r s a → Tied place m h r (record { device = notice s.device (shown_arm arm) word; unlooked = 0 }) (see a (Some arm))
  tied_noticed s a arm word is due word_is t =
      let below : a.answered ≤ arm.number + 1 = subst (λ (o : Option Arm). a.answered ≤ bound o) is (answered_last a t.sound) in
      record {
        sound = see_sound a arm is due t.sound;
        sn = t.sn;
        register = t.register;
        armer = record { last_is = t.armer.last_is; stage = t.armer.stage };
        reader = t.reader;
        device = notice_fits place.number a s.device arm word t.device word_is below (last_number a arm t.sound is);
        few = omega arith;
        near = λ differ. absurd (differ (ap (register_of place.number) is));
      }

  tied_published : (s : Scanner) (a : Arms) (solicited : Bool) → a.produced < a.acked + most → s.unlooked + 1 < most → Tied place m h r s a
      → Tied place m h r (record { device = record s.device { index = s.device.index + 1; solicited = cond solicited (s.device.index + 1) s.device.solicited }; unlooked = s.unlooked + 1 }) (publish a solicited)
  tied_published s a solicited room few t =
      let next : s.device.index + 1 ≡ a.produced + 1 = ap (λ n. n + 1) t.device.index in
      record {
        sound = publish_sound a solicited room t.sound;
        sn = t.sn;
        register = t.register;
        armer = record { last_is = t.armer.last_is; stage = t.armer.stage };
        reader = t.reader;
        device = record {
          index = next;
          solicited = ap (λ n. cond solicited n s.device.solicited) next ∙ ap (λ n. cond solicited (a.produced + 1) n) t.device.solicited;
          register = t.device.register;
          armed = t.device.armed;
          answered = t.device.answered;
          due = t.device.due;
        };
        few = few;
        near = λ differ. near_more a.produced s.unlooked a.last (t.near differ);
      }

  tied_resized : (s : Scanner) (a : Arms) → a.produced < a.acked + most → s.unlooked + 1 < most → Tied place m h r s a
      → Tied place m h r (record { device = record s.device { index = s.device.index + 1 }; unlooked = s.unlooked + 1 }) (record a { produced = a.produced + 1 })
  tied_resized s a room few t = record {
    sound = record { acked = omega (arith, t.sound.acked); room = omega (arith, room); taken = t.sound.taken; written = t.sound.written; stored = t.sound.stored; up = t.sound.up; answered = t.sound.answered };
    sn = t.sn;
    register = t.register;
    armer = record { last_is = t.armer.last_is; stage = t.armer.stage };
    reader = t.reader;
    device = record { index = ap (λ n. n + 1) t.device.index; solicited = t.device.solicited; register = t.device.register; armed = t.device.armed; answered = t.device.answered; due = t.device.due };
    few = few;
    near = λ differ. near_more a.produced s.unlooked a.last (t.near differ);
  }

  tied_wrote : (s : Scanner) (a : Arms) → a.due ≡ true → Tied place m h r s a → Tied place m h r (with_device s (record s.device { due = false })) (after_event a Wrote)
  tied_wrote s a due t = record {
    sound = sound_step a Wrote t.sound due;
    sn = t.sn;
    register = t.register;
    armer = record { last_is = t.armer.last_is; stage = t.armer.stage };
    reader = t.reader;
    device = record { index = t.device.index; solicited = t.device.solicited; register = t.device.register; armed = t.device.armed; answered = t.device.answered; due = refl };
    few = t.few;
    near = t.near;
  }

  saw_step : (s : Scanner) (a : Arms) (word : ℕ) → IsPlace place → Tied place m h r s a → s.device.due ≡ false → word ≡ register_of place.number a.last → word ≢ s.device.register
      → let now = side.judged (notice s.device (shown s.device.index word) word) in
      Goes place m h r (record { device = now; unlooked = 0 }) a (Some (saw (shown s.device.index word) now.due))
  saw_step s a word ok t free is differ =
      let apart : register_of place.number a.last ≢ register_of place.number a.seen = λ same. differ (is ∙ (same ∙ sym t.device.register)) in
      let n = news place.number a.last a.seen t.sound.up apart in
      let word_is : word ≡ register_word place.number n.arm = is ∙ ap (register_of place.number) n.last_is in
      let due : a.due ≡ false = sym t.device.due ∙ free in
      let after : n.arm.index ≤ s.device.index = omega (arith, t.device.index, last_index a n.arm t.sound n.last_is) in
      let near : s.device.index < n.arm.index + 2 ^ 24 = omega (arith, t.device.index, near_arm a.produced s.unlooked a.last n.arm n.last_is (t.near apart), t.few) in
      let shows_it : shown s.device.index word ≡ shown_arm n.arm = ap (shown s.device.index) word_is ∙ shows place.number s.device.index n.arm ok.fits after near in
      let tied = tied_judged (record { device = notice s.device (shown_arm n.arm) word; unlooked = 0 }) (see a (Some n.arm)) due (tied_noticed s a n.arm word n.last_is due word_is t) in
      let tied_last = subst (λ (o : Option Arm). Tied place m h r (record { device = side.judged (notice s.device (shown_arm n.arm) word); unlooked = 0 }) (judged (see a o))) (sym n.last_is) tied in
      subst (λ (x : Armed). Goes place m h r (record { device = side.judged (notice s.device x word); unlooked = 0 }) a (Some (saw x (side.judged (notice s.device x word)).due))) (sym shows_it)
      (record { free = due; arm = n.arm; last_is = n.last_is; unseen = n.unseen; kind_is = refl; index_is = refl; sn_is = refl; due_is = tied_last.device.due }, tied_last)

  see_step : (s : Scanner) (a : Arms) (word : ℕ) → IsPlace place → Tied place m h r s a → s.device.due ≡ false → word ≡ register_of place.number a.last
      → Goes place m h r (record { device = side.see s.device word; unlooked = 0 }) a (Some (see_says s.device word))
  see_step s a word ok t free is = elim (eqb_tells word s.device.register) [
    | inl same ↦
        let words : register_of place.number a.last ≡ register_of place.number a.seen = sym is ∙ (same.1 ∙ t.device.register) in
        rw same.0 (
          no_news place.number a a.last a.seen ok.fits words t.sound.up t.sound.answered (λ l last_is. last_number a l t.sound last_is),
          record { sound = t.sound; sn = t.sn; register = t.register; armer = t.armer; reader = t.reader; device = t.device; few = omega arith; near = λ differ. absurd (differ words) },
        )
    | inr differ ↦ rw differ.0 (saw_step s a word ok t free is differ.1)
  ]

-- what leaves the words of arms alone
pub beside_kept : (place : ArmPlace) (m : Memory) (h : Armer) (r : Reader) (s : Scanner) (a : Arms) (e : BusEntry) → IsHarmless place e → Tied place m h r s a → Tied place (after_entry m e) h r s a
beside_kept place m h r s a e harmless t = Tied_kept place m (after_entry m e) h r s a (λ k inside. harmless_kept (touches place) m e harmless k inside) t

pub device_step : (place : ArmPlace) (m : Memory) (h : Armer) (r : Reader) (s : Scanner) (a : Arms) (mark : ArmMark) (e : BusEntry) → IsPlace place → Tied place m h r s a → Tells m e → MayScan place s mark e → AsksFor a (served s.device mark e)
    → Goes place (after_entry m e) h r (after_scan s mark e) a (served s.device mark e)
device_step place m h r s a See e ok t tells may ask =
    let load = may.serves.1 in
    let same : (k : ℕ) → after_entry m e k ≡ m k = λ k. load_keeps m e k load.op in
    see_step place (after_entry m e) h r s a (loaded e) ok (Tied_kept place m (after_entry m e) h r s a (λ k inside. same k) t) may.serves.0 (load_tells m e place.arm_reg tells load.op load.at_address ∙ t.register)
device_step place m h r s a (Publish solicited) e ok t tells may ask =
    let due : a.due ≡ false = sym t.device.due ∙ may.serves.0 in
    let kept = beside_kept place m h r s a e may.serves.1 t in
    let tied = tied_judged place (after_entry m e) h r _ (publish a solicited) due (tied_published place (after_entry m e) h r s a solicited ask may.few kept) in
    (record { free = due; room = ask; due_is = tied.device.due }, tied)
device_step place m h r s a Resize e ok t tells may ask =
    ((sym t.device.due ∙ may.serves.0, ask), tied_resized place (after_entry m e) h r s a ask may.few (beside_kept place m h r s a e may.serves.1 t))
device_step place m h r s a Write e ok t tells may ask =
    let due : a.due ≡ true = sym t.device.due ∙ may.serves.0 in
    (due, tied_wrote place (after_entry m e) h r s a due (beside_kept place m h r s a e may.serves.1 t))
device_step place m h r s a _ e ok t tells may ask = absurd may.serves

-- an acknowledgement, which is the queue's
pub acked_step : (place : ArmPlace) (m : Memory) (h : Armer) (r : Reader) (s : Scanner) (a : Arms) (ci : ℕ) (e : BusEntry) → Tied place m h r s a → IsHarmless place e → AsksFor a (Some (Acked ci)) → Goes place (after_entry m e) h r s a (Some (Acked ci))
acked_step place m h r s a ci e t harmless ask =
    let kept = beside_kept place m h r s a e harmless t in (
      ask,
      record {
        sound = sound_step a (Acked ci) t.sound ask;
        sn = kept.sn;
        register = kept.register;
        armer = record { last_is = t.armer.last_is; stage = t.armer.stage };
        reader = t.reader;
        device = record { index = t.device.index; solicited = t.device.solicited; register = t.device.register; armed = t.device.armed; answered = t.device.answered; due = t.device.due };
        few = t.few;
        near = t.near;
      },
    )
