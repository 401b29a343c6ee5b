-- Words that spell a NOP want a completion where the request does.
use Rattle.std.proofs.Common.{◌≡◌, ℕ, ◌*◌, ◌/◌, ◌%◌, ◌^◌, ◌<◌, ◌==◌, Bool, true, false, refl, sym, ap, ◌∙◌, arith, List}
use Rattle.std.specs.Prelude.{slice_index}
use Rattle.std.proofs.lemmas.List.{get_or-take}
use Rattle.verbs_types.specs.declared.request.Op.TheVariants.{Nop}
use Rattle.verbs_types.specs.declared.request.Request.{Request}
use Rattle.work_entries.specs.declared.units.SendWords.{SendWords}
use Rattle.work_entries.specs.Opcode.{opcode_of, opcode_number, fixed_units}
use Rattle.work_entries.specs.Control.{flags_of}
use Rattle.work_entries.specs.Send.{IsSend, sent_of}
use Rattle.work_entries.specs.Front.{opcode_in, is_wanted}
use Rattle.work_entries.proofs.FrontWords.{opcode_value, wanted_field}
use Rattle.counted_ring.specs.declared.place.WqPlace.{WqPlace}
use Rattle.counted_ring.specs.Place.{entry_words}
use Rattle.device_engine.specs.Entry.{wants}

-- the bit of the flags that asks for a completion
flag_of : (wanted solicited fence : Bool) → (flags_of wanted solicited fence / 8 % 2 == 1) ≡ wanted
flag_of true true true = refl
flag_of true true false = refl
flag_of true false true = refl
flag_of true false false = refl
flag_of false true true = refl
flag_of false true false = refl
flag_of false false true = refl
flag_of false false false = refl

-- what the control segment of a NOP's entry holds
pub opcode_found : (r : Request) (index qpn : ℕ) (w : SendWords) → r.op ≡ Nop → IsSend (sent_of r index qpn) w → opcode_in (slice_index w.words 0) ≡ 0
opcode_found r index qpn w nop is = sym (opcode_value w.words) ∙ (is.control.1.1.0 ∙ ap (λ op. opcode_number (opcode_of op)) nop)

pub flag_found : (r : Request) (index qpn : ℕ) (w : SendWords) → IsSend (sent_of r index qpn) w → is_wanted (slice_index w.words 1) ≡ r.wanted
flag_found r index qpn w is =
    sym (wanted_field (slice_index w.words 1) w.words refl) ∙ (ap (λ n. n / 8 % 2 == 1) is.control.1.1.1.1.1.1.1.0 ∙ flag_of r.wanted r.solicited r.fence)

-- the words of an entry's blocks begin with its first two words
pub front_word : (place : WqPlace) (w : SendWords) (k : ℕ) → place.stride ≡ 8 → 0 < w.blocks → k < 8 → slice_index (entry_words place w) k ≡ slice_index w.words k
front_word place w k stride some low = get_or-take (w.blocks * place.stride) w.words k 0 (rw stride (omega arith))

pub wants_is : (place : WqPlace) (r : Request) (index qpn : ℕ) (w : SendWords) → place.stride ≡ 8 → r.op ≡ Nop → IsSend (sent_of r index qpn) w → wants (entry_words place w) ≡ r.wanted
wants_is place r index qpn w stride nop is =
    let some : 0 < w.blocks = omega (arith, is.blocks, ap (λ op. fixed_units (opcode_of op)) nop) in
    let opcode : opcode_in (slice_index (entry_words place w) 0) ≡ 0 = ap opcode_in (front_word place w 0 stride some (omega arith)) ∙ opcode_found r index qpn w nop is in
    let wanted : is_wanted (slice_index (entry_words place w) 1) ≡ r.wanted = ap is_wanted (front_word place w 1 stride some (omega arith)) ∙ flag_found r index qpn w is in
    rw opcode wanted
