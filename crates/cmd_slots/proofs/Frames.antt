-- What an operation on one slot leaves of the others.
use Rattle.std.proofs.Common.{◌≡◌, ◌≢◌, ℕ, ◌^◌, refl, ap, sym, ◌∙◌, subst, arith, max}
use Rattle.std.specs.Int.{bit_at}
use Rattle.std.proofs.lemmas.Nat.Bits.{bit_at_or, bit_at-pow_same, bit_at-pow_other}
use Rattle.bus_core.specs.declared.operation.BusEntry.{BusEntry}
use Rattle.bus_core.specs.declared.operation.BusOp.TheVariants.{Load}
use Rattle.bus_core.specs.Operation.{IsSetBits}
use Rattle.bus_core.specs.Trace.{Memory, after_entry}
use Rattle.bus_core.proofs.Words.{elsewhere, leaves, load_keeps}
use Rattle.cmd_slots.specs.Place.{IsSlot, bits_word}
use Rattle.cmd_slots.proofs.Places.{IsOwn, own_apart, own_not_bits}
use Rattle.cmd_slots.proofs.Tied.{Same}

module _ (m : Memory) (e : BusEntry) where
  pub load_same : (b : ℕ) → e.op ≡ Load → Same m (after_entry m e) b
  load_same b is = record { own = λ x own. load_keeps m e x is; bit = ap (λ w. bit_at w b) (load_keeps m e bits_word is) }

  -- an operation on a word of one slot
  pub bits_kept : (slot x : ℕ) → e.addr ≡ x → IsOwn slot x → after_entry m e bits_word ≡ m bits_word
  bits_kept slot x at_x own = elsewhere m e bits_word (λ same. own_not_bits slot x own (sym same ∙ at_x))

  pub own_same : (slot b x : ℕ) → IsSlot slot → IsSlot b → slot ≢ b → e.addr ≡ x → IsOwn slot x → Same m (after_entry m e) b
  own_same slot b x ok_slot ok_b differ at_x own = record {
    own = λ y own_y. elsewhere m e y (λ same. own_apart slot b y ok_slot ok_b differ (subst (IsOwn slot) (sym at_x ∙ same) own) own_y);
    bit = ap (λ w. bit_at w b) (bits_kept slot x at_x own);
  }

  -- a bit that is or-ed in
  module _ (slot : ℕ) (is : IsSetBits bits_word (2 ^ slot) e) where
    pub rest_kept : (x : ℕ) → bits_word ≢ x → after_entry m e x ≡ m x
    rest_kept x other = elsewhere m e x (λ same. other (sym is.at_address ∙ same))

    bit_is : (b : ℕ) → bit_at (after_entry m e bits_word) b ≡ max (bit_at (m bits_word) b) (bit_at (2 ^ slot) b)
    bit_is b = ap (λ w. bit_at w b) (leaves m e bits_word is.at_address ∙ rw (is.op) refl) ∙ bit_at_or (m bits_word) (2 ^ slot) b

    pub bit_set : bit_at (m bits_word) slot ≡ 0 → bit_at (after_entry m e bits_word) slot ≡ 1
    bit_set clear = bit_is slot ∙ rw (clear, bit_at-pow_same slot) refl

    pub set_same : (b : ℕ) → slot ≢ b → Same m (after_entry m e) b
    set_same b differ = record {
      own = λ x own. rest_kept x (own_not_bits b x own);
      bit = bit_is b ∙ (let none = bit_at-pow_other slot b (λ s. differ (sym s)) in rw none (omega arith));
    }
