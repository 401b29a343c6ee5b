use Rattle.std.proofs.Common.{◌≡◌, ℕ, zero, suc, ◌*◌, ◌<◌, [], ◌∷◌, List, length, slice_index, refl, arith, rules}
use Rattle.prm_fields.specs.Bits.{field_value}
use Rattle.cqe_format.specs.Bytes.{entry_bytes}
use Rattle.cqe_format.proofs.Words.{AreBytes, spelled_again, owner_of_word, opcode_of_word}
use Rattle.cqe_format.proofs.bytes.entry_words.Goals as goal

-- eight words as their index names them
module _ (bytes : List ℕ) (a b c d e f g h : ℕ)
    (is_a : a ≡ field_value bytes 0 64) (is_b : b ≡ field_value bytes 64 64) (is_c : c ≡ field_value bytes 128 64) (is_d : d ≡ field_value bytes 192 64)
    (is_e : e ≡ field_value bytes 256 64) (is_f : f ≡ field_value bytes 320 64) (is_g : g ≡ field_value bytes 384 64) (is_h : h ≡ field_value bytes 448 64) where
  each : (k : ℕ) → k < 8 → slice_index (a ∷ b ∷ c ∷ d ∷ e ∷ f ∷ g ∷ h ∷ []) k ≡ field_value bytes (64 * k) 64
  each zero inside = is_a
  each (suc zero) inside = is_b
  each (suc (suc zero)) inside = is_c
  each (suc (suc (suc zero))) inside = is_d
  each (suc (suc (suc (suc zero)))) inside = is_e
  each (suc (suc (suc (suc (suc zero))))) inside = is_f
  each (suc (suc (suc (suc (suc (suc zero)))))) inside = is_g
  each (suc (suc (suc (suc (suc (suc (suc zero))))))) inside = is_h
  each (suc (suc (suc (suc (suc (suc (suc (suc k)))))))) inside = absurd (omega arith)

  again : length bytes ≡ 64 → AreBytes bytes → entry_bytes (a ∷ b ∷ c ∷ d ∷ e ∷ f ∷ g ∷ h ∷ []) ≡ bytes
  again long small = spelled_again (a ∷ b ∷ c ∷ d ∷ e ∷ f ∷ g ∷ h ∷ []) bytes refl long small each

pub returns-clause-again : goal.returns-clause-again
returns-clause-again c =
    let small : AreBytes c.args.bytes.now = λ k. search (rules, c.fits-bytes) in
    again c.args.bytes.now _ _ _ _ _ _ _ _ c.word.ensures c.word-2.ensures c.word-3.ensures c.word-4.ensures c.word-5.ensures c.word-6.ensures c.word-7.ensures c.word-8.ensures c.told-bytes small

pub returns-clause-owner : goal.returns-clause-owner
returns-clause-owner c = owner_of_word c.args.bytes.now _ c.word-8.ensures

pub returns-clause-opcode : goal.returns-clause-opcode
returns-clause-opcode c = opcode_of_word c.args.bytes.now _ c.word-8.ensures
