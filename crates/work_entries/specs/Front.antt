-- The first two words of a send entry, which are its control segment.
use Rattle.std.specs.Prelude.{ℕ, ◌≡◌, ◌/◌, ◌%◌, ◌^◌, ◌==◌, Bool, List, slice_index}
use Rattle.work_entries.specs.Unit.{unit}

-- how many units the entry has, in the low 6 bits of the first word
abbrev pub units_in : ℕ → ℕ
units_in first = first % 2 ^ 6

-- the number of its opcode
abbrev pub opcode_in : ℕ → ℕ
opcode_in first = first / 2 ^ 32 % 2 ^ 8

-- whether its flags ask for a completion
abbrev pub is_wanted : ℕ → Bool
is_wanted second = second / 2 ^ 35 % 2 == 1

-- what the control segment of every entry that begins with this word says, and of every one whose second word is this
abbrev pub OfFirst : ℕ → (List ℕ → Type 0) → Type 0
OfFirst first Says = (words : List ℕ) → slice_index words 0 ≡ first → Says (unit words 0)

abbrev pub OfSecond : ℕ → (List ℕ → Type 0) → Type 0
OfSecond second Says = (words : List ℕ) → slice_index words 1 ≡ second → Says (unit words 0)
