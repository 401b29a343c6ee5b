-- Mailbox blocks as words.
use Rattle.std.specs.Prelude.{ℕ, ◌+◌, ◌*◌, ◌<◌, List, length, take, drop}
use Rattle.cmd_format.specs.Block.{IsBlock, block_at, blocks_of}
use Rattle.cmd_slots.specs.Bytes.{bytes_of}

-- the 72 words of block b, behind so many words
abbrev pub block_words : ℕ → List ℕ → ℕ → List ℕ
block_words head words b = take 72 (drop (head + 72 * b) words)

-- the blocks that carry a byte string stand behind so many words
abbrev pub HasBlockWords : List ℕ → ℕ → List ℕ → ℕ → List ℕ → Type 0
HasBlockWords rest token addresses head words =
    (b : ℕ) → b < blocks_of (length rest) → IsBlock (block_at rest addresses b) token b (bytes_of (block_words head words b))
