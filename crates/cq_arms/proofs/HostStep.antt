-- One operation of the armer's or of the event reader's keeps what ties words, sides and object, and what it says is a step of the object.
use Rattle.std.proofs.Common.{◌≡◌, ℕ, ◌+◌, inl, inr, refl, ap, sym, ◌∙◌, subst, arith, true, Option, Some, None}
use Rattle.std.proofs.lemmas.Bool.{cases_lt, and_from, eq-eqb}
use Rattle.verbs_types.specs.declared.completion.ArmKind.{ArmKind}
use Rattle.verbs_types.specs.declared.completion.ArmKind.TheVariants.{Any, Solicited}
use Rattle.bus_core.specs.declared.operation.BusEntry.{BusEntry}
use Rattle.bus_core.specs.Operation.{loaded}
use Rattle.bus_core.specs.Trace.{Memory, after_entry, Tells}
use Rattle.bus_core.proofs.Words.{elsewhere, load_keeps, load_tells, store_leaves}
use Rattle.cq_arms.specs.declared.arm_word.Arm.{Arm}
use Rattle.cq_arms.specs.declared.place.ArmPlace.{ArmPlace}
use Rattle.cq_arms.specs.Place.{IsPlace}
use Rattle.cq_arms.specs.Words.{is_any, is_any_at, next_arm}
use Rattle.cq_arms.specs.Arms.{Arms, MayFollow, MayArm, MayHappen, Armed, Raised}
use Rattle.cq_arms.specs.Mark.{ArmMark, LoadNumber, StoreRecord, StoreRegister, Raise}
use Rattle.cq_arms.specs.Armer.{Armer, Stage, Ready, Numbered, Recorded, MayRecord, MayRegister, after_arm, arm_says}
use Rattle.cq_arms.specs.Armer as side
use Rattle.cq_arms.specs.Reader.{Reader, MayRaise, after_raise, raise_says}
use Rattle.cq_arms.specs.Scanner.{Scanner}
use Rattle.cq_arms.proofs.Sound.{Sound, sound_step, taken_below, last_below}
use Rattle.cq_arms.proofs.Registers.{register_of}
use Rattle.cq_arms.proofs.Tied.{IsNumber, StageFits, ArmerFits, Tied, Goes, AsksFor}

is_any_true : (kind : ArmKind) → kind ≡ Any → is_any kind ≡ true
is_any_true Any h = refl
is_any_true Solicited h = absurd (cc)

-- the arm that is stored for a call may follow the last one
next_follows : (last : Option Arm) (kind : ArmKind) (index number : ℕ) → MayFollow (next_arm last kind index number) last
next_follows None kind index number = tt
next_follows (Some l) kind index number = λ any i n.
    let again : is_any_at (Some l) index number ≡ true = and_from _ _ (and_from _ _ (is_any_true l.kind any) (eq-eqb l.index index i)) (eq-eqb l.number number n) in
    rw again refl

module _ (place : ArmPlace) (m m' : Memory) (r : Reader) (s : Scanner) (a : Arms) where
  -- another state of the armer, over the same words
  pub Tied_armer : (h k : Armer) → m' place.sn ≡ m place.sn → m' place.arm_reg ≡ m place.arm_reg → ArmerFits a.taken a.last k → Tied place m h r s a → Tied place m' k r s a
  Tied_armer h k sn register fits t = record { sound = t.sound; sn = sn ∙ t.sn; register = register ∙ t.register; armer = fits; reader = t.reader; device = t.device; few = t.few; near = t.near }

  record_stored : (last : Option Arm) (stage : Stage) (kind : ArmKind) (index : ℕ) (e : BusEntry) → MayRecord place last stage kind index e → last ≡ a.last → StageFits a.taken a.last stage → StageFits a.taken a.last (side.recorded last stage kind index)
  record_stored last Ready kind index e may same fits = absurd may
  record_stored last (Numbered number) kind index e may same fits = (record { low = fits.low; high = fits.high }, subst (MayFollow (next_arm last kind index number)) same (next_follows last kind index number))
  record_stored last (Recorded arm) kind index e may same fits = absurd may

  record_address : (last : Option Arm) (stage : Stage) (kind : ArmKind) (index : ℕ) (e : BusEntry) → MayRecord place last stage kind index e → e.addr ≡ place.arm_record
  record_address last Ready kind index e may = absurd may
  record_address last (Numbered number) kind index e may = may.at_address
  record_address last (Recorded arm) kind index e may = absurd may

  may_arm : (arm : Arm) → Sound a → IsNumber a.taken a.last arm.number → MayFollow arm a.last → arm.index ≡ a.acked → MayArm a arm
  may_arm arm sound n follows index = record {
    index_is = index;
    number_is = elim (cases_lt arm.number a.taken) [
      | inl below ↦ inr (omega (arith, n.high, taken_below a sound, below))
      | inr same ↦ inl (omega (arith, n.low, same))
    ];
    later = n.high;
    kind_is = follows;
  }

  registered : (h : Armer) (arm : Arm) → Tied place m h r s a → IsNumber a.taken a.last arm.number → MayFollow arm a.last → arm.index ≡ a.acked → m' place.arm_reg ≡ register_of place.number (Some arm) → m' place.sn ≡ m place.sn →
      Goes place m' (record { last = Some arm; stage = Ready }) r s a (Some (Armed arm))
  registered h arm t n follows index register sn =
      let may = may_arm arm t.sound n follows index in (
        may,
        record {
          sound = sound_step a (Armed arm) t.sound may;
          sn = sn ∙ t.sn;
          register = register;
          armer = record { last_is = refl; stage = tt };
          reader = t.reader;
          device = record { index = t.device.index; solicited = t.device.solicited; register = t.device.register; armed = t.device.armed; answered = t.device.answered; due = t.device.due };
          few = t.few;
          near = λ differ. omega (arith, t.sound.room, index);
        },
      )

register_step : (place : ArmPlace) (m : Memory) (last : Option Arm) (stage : Stage) (r : Reader) (s : Scanner) (a : Arms) (e : BusEntry) → IsPlace place → Tied place m (record { last = last; stage = stage }) r s a → MayRegister place stage e → AsksFor a (side.register_says stage) →
    Goes place (after_entry m e) (record { last = side.registered last stage; stage = Ready }) r s a (side.register_says stage)
register_step place m last Ready r s a e ok t may ask = absurd may
register_step place m last (Numbered number) r s a e ok t may ask = absurd may
register_step place m last (Recorded arm) r s a e ok t may ask =
    registered place m (after_entry m e) r s a (record { last = last; stage = Recorded arm }) arm t t.armer.stage.0 t.armer.stage.1 ask
    (store_leaves m e place.arm_reg (register_of place.number (Some arm)) may.op may.at_address)
    (elsewhere m e place.sn (λ same. ok.sn_not_register (sym same ∙ may.at_address)))

pub armer_step : (place : ArmPlace) (m : Memory) (h : Armer) (r : Reader) (s : Scanner) (a : Arms) (mark : ArmMark) (e : BusEntry) → IsPlace place → Tied place m h r s a → Tells m e → side.MayArm place h mark e → AsksFor a (arm_says h mark) →
    Goes place (after_entry m e) (after_arm h mark e) r s a (arm_says h mark)
armer_step place m h r s a LoadNumber e ok t tells may ask =
    let number : loaded e ≡ a.taken = load_tells m e place.sn tells may.op may.at_address ∙ t.sn in
    Tied_armer place m (after_entry m e) r s a h (record { last = h.last; stage = Numbered (loaded e) }) (load_keeps m e place.sn may.op) (load_keeps m e place.arm_reg may.op)
    (record { last_is = t.armer.last_is; stage = record { low = omega (arith, number); high = omega (arith, number, last_below a t.sound) } }) t
armer_step place m h r s a (StoreRecord kind index) e ok t tells may ask =
    let there = record_address place m m r s a h.last h.stage kind index e may in
    Tied_armer place m (after_entry m e) r s a h (after_arm h (StoreRecord kind index) e)
    (elsewhere m e place.sn (λ same. ok.sn_not_record (sym same ∙ there)))
    (elsewhere m e place.arm_reg (λ same. ok.record_not_register (sym there ∙ same)))
    (record { last_is = t.armer.last_is; stage = record_stored place m m r s a h.last h.stage kind index e may t.armer.last_is t.armer.stage }) t
armer_step place m h r s a StoreRegister e ok t tells may ask = register_step place m h.last h.stage r s a e ok t may ask
armer_step place m h r s a _ e ok t tells may ask = absurd may

-- an armer's number is still good after one more event
stage_raised : (taken : ℕ) (last : Option Arm) (stage : Stage) → StageFits taken last stage → StageFits (taken + 1) last stage
stage_raised taken last Ready fits = tt
stage_raised taken last (Numbered number) fits = record { low = omega (arith, fits.low); high = fits.high }
stage_raised taken last (Recorded arm) fits = (record { low = omega (arith, fits.0.low); high = fits.0.high }, fits.1)

pub reader_step : (place : ArmPlace) (m : Memory) (h : Armer) (r : Reader) (s : Scanner) (a : Arms) (mark : ArmMark) (e : BusEntry) → IsPlace place → Tied place m h r s a → MayRaise place r mark e → AsksFor a (raise_says r mark) →
    Goes place (after_entry m e) h (after_raise r mark) s a (raise_says r mark)
reader_step place m h r s a Raise e ok t may ask =
    let number : r.taken + 1 ≡ a.taken + 1 = ap (λ n. n + 1) t.reader in
    let legal : MayHappen a (Raised (r.taken + 1)) = (number, ask) in (
      legal,
      record {
        sound = sound_step a (Raised (r.taken + 1)) t.sound legal;
        sn = store_leaves m e place.sn (r.taken + 1) may.op may.at_address;
        register = elsewhere m e place.arm_reg (λ same. ok.sn_not_register (sym may.at_address ∙ same)) ∙ t.register;
        armer = record { last_is = t.armer.last_is; stage = subst (λ (n : ℕ). StageFits n a.last h.stage) (sym number) (stage_raised a.taken a.last h.stage t.armer.stage) };
        reader = refl;
        device = record { index = t.device.index; solicited = t.device.solicited; register = t.device.register; armed = t.device.armed; answered = t.device.answered; due = t.device.due };
        few = t.few;
        near = t.near;
      },
    )
reader_step place m h r s a _ e ok t may ask = absurd may
