-- What the search for a wrong byte asks of bytes.
use Rattle.std.specs.Prelude.{◌≡◌, ◌≢◌, ℕ, ◌+◌, ◌<◌, ◌≤◌, ◌⊎◌, ◌==◌, ◌&&◌, ◌||◌, min, Bool, is_some, List, slice_index}
use Rattle.prm_fields.specs.Bits.{field_value}
use Rattle.cqe_format.specs.Opcode.{is_send_opcode}
use Rattle.cqe_format.specs.Syndrome.{syndrome_of}

-- the bytes from `first` to `end - 1` are 0
abbrev pub IsClear : List ℕ → ℕ → ℕ → Type 0
IsClear bytes first end = (i : ℕ) → first ≤ i → i < end → slice_index bytes i ≡ 0

-- the first of these bytes that is not 0
pub record IsFirstSet (bytes : List ℕ) (first end byte : ℕ) : Type 0 where
  pub from : first ≤ byte
  pub inside : byte < end
  pub before : IsClear bytes first byte
  pub set : slice_index bytes byte ≢ 0

-- whether a completion may have such a syndrome: it is 0, or that of an error, which has no immediate and no length
abbrev pub fits_syndrome : List ℕ → Bool
fits_syndrome bytes =
    (field_value bytes 440 8 == 0)
    || ((field_value bytes 288 32 == 0) && (field_value bytes 352 32 == 0) && is_some (syndrome_of (field_value bytes 440 8)))

-- whether a completion may have such a send opcode: it is 0, or that of a request, which has no shared receive queue, no immediate and no syndrome
abbrev pub fits_sop : List ℕ → Bool
fits_sop bytes =
    (field_value bytes 448 8 == 0)
    || ((field_value bytes 256 32 == 0) && (field_value bytes 288 32 == 0) && (field_value bytes 440 8 == 0) && is_send_opcode (field_value bytes 448 8))

-- the first byte from byte 2 on that is not 0, outside the four from `cqn` on; else byte 63
pub record IsSetAround (bytes : List ℕ) (cqn byte : ℕ) : Type 0 where
  pub from : 2 ≤ byte
  pub inside : byte ≤ 63
  pub before : IsClear bytes 2 (min byte cqn)
  pub behind : IsClear bytes (cqn + 4) byte
  pub set : byte < 63 → slice_index bytes byte ≢ 0
  pub outside : (byte < cqn) ⊎ (cqn + 4 ≤ byte)
