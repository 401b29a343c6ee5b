use Rattle.std.proofs.Common.{◌≡◌, ◌||◌, ◌∙◌, ℕ, refl, ap, bit_and, bit_or, None, Some}
use Rattle.std.proofs.lemmas.Nat.{and_mask}
use Rattle.bus_core.specs.Port.{made}
use Rattle.bus_core.specs.declared.operation.BusOp.TheVariants.{Swap}
use Rattle.cmd_slots.specs.Place.{bits_word}
use Rattle.cmd_slots.specs.Device.{has_bit, slot_bits}
use Rattle.cmd_slots.specs.BitsView.{BitsView}
use Rattle.cmd_slots.proofs.Found.{has_bit_or}
use Rattle.cmd_slots.proofs.bits.SlotBits.turn.Goals as goal

pub returns-clause-made : goal.returns-clause-made
returns-clause-made g c =
    let bits : ℕ = c.self.inside.bits in
    let word : ℕ = c.swap-word.result in
    let same : bits ≡ c.args.self.now.bits = ap (λ (v : BitsView). v.bits) c.self.view_is in
    let e = made (g.P.BusPort.port c.args.port.now) bits_word (Swap 0) (Some word) in
    let low : bit_and word 4294967295 ≡ slot_bits word = and_mask word 32 in (
      e,
      c.swap-word.ensures,
      record {
        swap = record { op = refl; at_address = refl };
        inside = refl;
        found = λ slot. has_bit_or bits (bit_and word 4294967295) slot ∙ ap (λ n. has_bit bits slot || has_bit n slot) low ∙ ap (λ n. has_bit n slot || has_bit (slot_bits word) slot) same;
        swept = refl;
        answers = refl;
      },
    )
