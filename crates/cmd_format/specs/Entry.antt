-- Command queue entries as bytes.
use Rattle.std.specs.Prelude.{◌≡◌, ℕ, ◌≤◌, ◌==◌, nat_le, ◌&&◌, ◌||◌, IsTrue, List, [], ◌∷◌, slice_range}
use Rattle.prm_fields.specs.Bits.{field_value}
use Rattle.prm_fields.specs.Layout.{is_reserved_clear}
use Rattle.prm_fields.specs.declared.layout.LayoutName.TheVariants.{CmdEntry as EntryLayout}
use Rattle.cmd_format.specs.declared.delivery.Delivery.{Delivery}
use Rattle.cmd_format.specs.declared.delivery.Delivery.TheVariants.{Signature, OutputPointer, InputPointer, InputLength, OutputLength, Reserved, Descriptor}
use Rattle.cmd_format.specs.declared.entry.CmdEntry.{CmdEntry}
use Rattle.cmd_format.specs.Signature.{exclusive_or}
use Rattle.prm_fields.specs.Refusal.{Rule, rule}

-- the parts of an entry stand at their places
pub record HasParts (e : CmdEntry) (bytes : List ℕ) : Type 0 where
  pub in_len : field_value bytes 32 32 ≡ e.in_len
  pub in_ptr : field_value bytes 64 64 ≡ e.in_ptr
  pub input : slice_range bytes 16 32 ≡ e.input
  pub output : slice_range bytes 32 48 ≡ e.output
  pub out_ptr : field_value bytes 384 64 ≡ e.out_ptr
  pub out_len : field_value bytes 448 32 ≡ e.out_len
  pub token : field_value bytes 480 8 ≡ e.token
  pub status_own : field_value bytes 504 8 ≡ e.status_own

-- the bytes spell the entry: type 7, its parts, 0 in the reserved bits, and a signature that makes the whole 0xff
pub record IsEntry (e : CmdEntry) (bytes : List ℕ) : Type 0 where
  pub type_seven : field_value bytes 0 8 ≡ 7
  pub parts : HasParts e bytes
  pub reserved : IsTrue (is_reserved_clear EntryLayout bytes)
  pub signed : exclusive_or bytes ≡ 255

-- input of 16 to 1,040 bytes and output of 12 to 1,040, and no pointer to blocks where none is needed
pub record KeepsLimits (e : CmdEntry) : Type 0 where
  pub input_least : 16 ≤ e.in_len
  pub input_most : e.in_len ≤ 1040
  pub output_least : 12 ≤ e.out_len
  pub output_most : e.out_len ≤ 1040
  pub no_input_block : e.in_len ≤ 16 → e.in_ptr ≡ 0
  pub no_output_block : e.out_len ≤ 16 → e.out_ptr ≡ 0

-- what an entry must keep, in the order in which it is judged
abbrev pub entry_rules : List ℕ → List (Rule Delivery)
entry_rules bytes =
    let in_len = field_value bytes 32 32 in
    let out_len = field_value bytes 448 32 in
    rule (exclusive_or bytes == 255) Signature
    ∷ rule (field_value bytes 0 8 == 7) Descriptor
    ∷ rule (is_reserved_clear EntryLayout bytes) Reserved
    ∷ rule (nat_le 16 in_len && nat_le in_len 1040) InputLength
    ∷ rule (nat_le 12 out_len && nat_le out_len 1040) OutputLength
    ∷ rule (nat_le 17 in_len || (field_value bytes 64 64 == 0)) InputPointer
    ∷ rule (nat_le 17 out_len || (field_value bytes 384 64 == 0)) OutputPointer
    ∷ []
