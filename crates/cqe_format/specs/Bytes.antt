-- The bytes of an entry's words, and the byte from which on a byte string is the beginning of no entry.
use Rattle.std.specs.Prelude.{◌≡◌, ℕ, ◌+◌, List, [], ◌∷◌, ◌++◌, take, slice_index}
use Rattle.std.specs.List.{flat_map}
use Rattle.std.specs.Int.{w64, to_be_bytes}

-- the bytes of words, the highest byte of each first
abbrev pub entry_bytes : List ℕ → List ℕ
entry_bytes words = flat_map (to_be_bytes w64) words

-- eight words with this owner bit added to the last
abbrev pub with_owner : List ℕ → ℕ → List ℕ
with_owner words owner = take 7 words ++ (slice_index words 7 + owner) ∷ []

-- two byte strings have the same first `count` bytes
abbrev pub BeginAlike : ℕ → List ℕ → List ℕ → Type 0
BeginAlike count a b = take count a ≡ take count b

-- the first byte that no entry with the same bytes before it has
pub record IsFirstWrong (IsEntry : List ℕ → Type 0) (bytes : List ℕ) (byte : ℕ) : Type 0 where
  pub begun : (entry : List ℕ) × IsEntry entry × BeginAlike byte entry bytes
  pub wrong : (entry : List ℕ) → IsEntry entry → ¬ BeginAlike (byte + 1) entry bytes
