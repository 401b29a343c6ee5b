-- Where the words of the command slots lie.
use Rattle.std.specs.Prelude.{ℕ, ◌+◌, ◌*◌, ◌<◌, ◌==◌, ◌&&◌, ◌||◌, nat_le, nat_lt, Bool}

-- there are 32 slots
abbrev pub IsSlot : ℕ → Type 0
IsSlot slot = slot < 32

-- the word that has a bit of each slot
abbrev pub bits_word : ℕ
bits_word = 4

-- word k of a slot's entry, which has 8
abbrev pub entry_word : ℕ → ℕ → ℕ
entry_word slot k = 512 + 8 * slot + k

-- word k of block j of a slot, which has 72; blocks 0 and 1 are for input, blocks 2 and 3 for output
abbrev pub block_word : ℕ → ℕ → ℕ → ℕ
block_word slot j k = 1024 + 128 * (4 * slot + j) + k

-- the byte address of a block
abbrev pub block_address : ℕ → ℕ → ℕ
block_address slot j = 8 * block_word slot j 0

-- whether the address is the slots'
abbrev pub touches : ℕ → Bool
touches address =
    (address == bits_word) || ((nat_le 512 address && nat_lt address 768) || (nat_le 1024 address && nat_lt address 17408))
