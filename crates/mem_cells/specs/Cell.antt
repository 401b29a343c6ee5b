-- A cell of data memory as one bus word: a byte, the actor that wrote it last, and which of that actor's writes it was.
use Rattle.std.specs.Prelude.{ℕ, ◌+◌, ◌*◌, ◌/◌, ◌%◌, ◌^◌}

pub record Cell : Type 0 where
  pub byte : ℕ
  pub writer : ℕ
  -- the number of the write among its writer's, of which the first is 1; 0 where nobody wrote the cell
  pub count : ℕ

abbrev pub unwritten : Cell
unwritten = record { byte = 0; writer = 0; count = 0 }

-- the byte in bits 63 to 56, the writer in bits 55 to 48, the count below
abbrev pub word_of : Cell → ℕ
word_of cell = cell.byte * 2 ^ 56 + cell.writer * 2 ^ 48 + cell.count

abbrev pub byte_of : ℕ → ℕ
byte_of word = word / 2 ^ 56

abbrev pub writer_of : ℕ → ℕ
writer_of word = word / 2 ^ 48 % 2 ^ 8

abbrev pub count_of : ℕ → ℕ
count_of word = word % 2 ^ 48

-- the cell that a word is
abbrev pub cell_of : ℕ → Cell
cell_of word = record { byte = byte_of word; writer = writer_of word; count = count_of word }
