-- Mailbox blocks as bytes.
use Rattle.std.specs.Prelude.{◌≡◌, ℕ, ◌+◌, ◌-◌, ◌/◌, ◌<◌, ◌==◌, ◌&&◌, IsTrue, List, [], ◌∷◌, ◌++◌, length, take, drop, replicate, slice_range, cond, nat_lt, ◌*◌, ◌≤◌, slice_index, slice_index_or}
use Rattle.prm_fields.specs.Bits.{field_value}
use Rattle.prm_fields.specs.Layout.{is_reserved_clear}
use Rattle.prm_fields.specs.declared.layout.LayoutName.TheVariants.{BlockTail}
use Rattle.cmd_format.specs.declared.delivery.Delivery.{Delivery}
use Rattle.cmd_format.specs.declared.delivery.Delivery.TheVariants.{Signature, Token, BlockNumber, Reserved}
use Rattle.cmd_format.specs.declared.block.Block.{Block}
use Rattle.cmd_format.specs.Signature.{exclusive_or}
use Rattle.prm_fields.specs.Refusal.{Rule, rule}

-- the last 64 bytes of a block
abbrev pub tail_of : List ℕ → List ℕ
tail_of bytes = slice_range bytes 512 576

-- what the control signature signs: the tail without the signature of the whole
abbrev pub control_of : List ℕ → List ℕ
control_of bytes = slice_range bytes 512 575

-- a tail holds a next pointer, a block number and a token, and 0 in its reserved bits
pub record HasTail (next number token : ℕ) (tail : List ℕ) : Type 0 where
  pub next_at : field_value tail 384 64 ≡ next
  pub number_at : field_value tail 448 32 ≡ number
  pub token_at : field_value tail 488 8 ≡ token
  pub reserved : IsTrue (is_reserved_clear BlockTail tail)

-- the bytes spell the block, for a token and a block number, and both signatures make 0xff
pub record IsBlock (b : Block) (token number : ℕ) (bytes : List ℕ) : Type 0 where
  pub part : take 512 bytes ≡ b.part
  pub tail : HasTail b.next number token (tail_of bytes)
  pub control_signed : exclusive_or (control_of bytes) ≡ 255
  pub signed : exclusive_or bytes ≡ 255

-- what a block must keep, in the order in which it is judged
abbrev pub block_rules : ℕ → ℕ → List ℕ → List (Rule Delivery)
block_rules token number bytes =
    rule ((exclusive_or (control_of bytes) == 255) && (exclusive_or bytes == 255)) Signature
    ∷ rule (field_value (tail_of bytes) 488 8 == token) Token
    ∷ rule (field_value (tail_of bytes) 448 32 == number) BlockNumber
    ∷ rule (is_reserved_clear BlockTail (tail_of bytes)) Reserved
    ∷ []

-- up to 512 bytes, filled with 0
abbrev pub padded : List ℕ → List ℕ
padded part = part ++ replicate (512 - length part) 0

-- how many blocks this number of bytes takes
abbrev pub blocks_of : ℕ → ℕ
blocks_of bytes = (bytes + 511) / 512

-- block k carries the k-th 512 bytes and points to the block after it, if there is one
abbrev pub block_at : List ℕ → List ℕ → ℕ → Block
block_at rest addresses k = record {
  part = padded (take 512 (drop (512 * k) rest));
  next = cond (nat_lt (k + 1) (blocks_of (length rest))) (slice_index addresses (k + 1)) 0;
}

-- the blocks that are needed are written
abbrev pub HasBlocks : List ℕ → ℕ → List ℕ → List (List ℕ) → Type 0
HasBlocks rest token addresses blocks =
    (k : ℕ) → k < blocks_of (length rest) → IsBlock (block_at rest addresses k) token k (slice_index_or blocks k [])

-- the blocks from number k on have not changed
abbrev pub KeepsBlocksFrom : ℕ → List (List ℕ) → List (List ℕ) → Type 0
KeepsBlocksFrom count old new = (k : ℕ) → count ≤ k → slice_index_or new k [] ≡ slice_index_or old k []
