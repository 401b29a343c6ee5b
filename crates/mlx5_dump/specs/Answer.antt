-- What is answered to a dump: its fields, or what the decoder of its kind says.
use Rattle.std.specs.Prelude.{ℕ, ◌≡◌, Bool, not, List, ◌++◌, codes, decimal, filter, Option, None, Some, ◌⊎◌, ◌*◌, ◌/◌, ◌<◌, length, slice_index}
use Rattle.std.specs.List.{flat_map}
use Rattle.prm_fields.specs.Bits.{field_value}
use Rattle.prm_fields.specs.Layout.{rows, is_reserved}
use Rattle.prm_fields.specs.Names.{field_text}
use Rattle.prm_fields.specs.Refusal.{Rule, first_refusal}
use Rattle.prm_fields.specs.declared.layout.FieldRow.{FieldRow}
use Rattle.prm_fields.specs.declared.layout.LayoutName.{LayoutName}
use Rattle.prm_fields.specs.declared.layout.LayoutName.TheVariants.{BlockTail, CmdEntry, Ctrl}
use Rattle.cmd_format.specs.Delivery.{delivery_number}
use Rattle.cmd_format.specs.Entry.{entry_rules}
use Rattle.cmd_format.specs.Block.{block_rules, tail_of}
use Rattle.cmd_format.specs.declared.delivery.Delivery.{Delivery}
use Rattle.cmd_bodies.specs.Command.{body_rules}
use Rattle.cmd_bodies.specs.Fault.{body_status}
use Rattle.cmd_bodies.specs.declared.decoder.BodyFault.{BodyFault}
use Rattle.cqe_format.specs.Bytes.{IsFirstWrong}
use Rattle.cqe_format.specs.Completion.{IsCqe, layout_of}
use Rattle.cqe_format.specs.Event.{IsEqe, event_layout}
use Rattle.cqe_format.specs.declared.completion.Cqe.{Cqe}
use Rattle.work_entries.specs.Rules.{send_rules}
use Rattle.work_entries.specs.declared.fault.BadEntry.{BadEntry}
use Rattle.work_entries.specs.declared.fault.EntryRule.{EntryRule}
use Rattle.work_entries.specs.declared.fault.EntryRule.TheVariants.{Opcode, Size, Index, Number, Flags, Reserved}
use Rattle.work_entries.specs.declared.units.SendWords.{SendWords}
use Rattle.mlx5_dump.specs.declared.kind.Kind.{Kind}
use Rattle.mlx5_dump.specs.declared.kind.Kind.TheVariants.{Cqe as CqeKind, Eqe as EqeKind, Send as SendKind, Entry, Block, Body}

-- a name and a number
abbrev pub field_words : List ℕ → ℕ → List ℕ
field_words name number = codes " " ++ name ++ codes "=" ++ decimal number

abbrev pub is_named : FieldRow → Bool
is_named row = not (is_reserved row)

-- each row of a layout that is not reserved, in order
abbrev pub row_words : List ℕ → FieldRow → List ℕ
row_words bytes row = field_words (field_text row.name) (field_value bytes row.bit row.width)

abbrev pub fields_text : LayoutName → List ℕ → List ℕ
fields_text layout bytes = flat_map (row_words bytes) (filter is_named (rows layout))

abbrev pub good : List ℕ → List ℕ
good fields = codes "ok" ++ fields

abbrev pub refused : List ℕ → List ℕ
refused why = codes "refused " ++ why

-- where no rule is broken, the fields; else what the first broken rule says
abbrev pub told : {Fault : Type 0} → (Fault → List ℕ) → List ℕ → Option Fault → List ℕ
told says fields None = good fields
told says fields (Some fault) = refused (says fault)

abbrev pub judged : {Fault : Type 0} → (Fault → List ℕ) → List (Rule Fault) → List ℕ → List ℕ
judged says rules fields = told says fields (first_refusal rules)

abbrev pub numbered : List ℕ → ℕ → List ℕ
numbered word number = word ++ codes " " ++ decimal number

abbrev pub delivery_words : Delivery → List ℕ
delivery_words fault = numbered (codes "delivery") (delivery_number fault)

abbrev pub status_words : BodyFault → List ℕ
status_words fault = numbered (codes "status") (body_status fault)

abbrev pub entry_answer : List ℕ → List ℕ
entry_answer bytes = judged delivery_words (entry_rules bytes) (fields_text CmdEntry bytes)

-- a block is read with the token and the number that it has itself
abbrev pub block_answer : List ℕ → List ℕ
block_answer bytes =
    let tail = tail_of bytes in
    judged delivery_words (block_rules (field_value tail 488 8) (field_value tail 448 32) bytes) (fields_text BlockTail tail)

abbrev pub body_fields : List ℕ → List ℕ
body_fields bytes = field_words (codes "opcode") (field_value bytes 0 16) ++ field_words (codes "op_mod") (field_value bytes 48 16)

-- a body is read as the input of a command that wants 16 bytes of output
abbrev pub body_answer : List ℕ → List ℕ
body_answer bytes = judged status_words (body_rules bytes 16) (body_fields bytes)

-- the words lie in the bytes of an entry of a send queue: word k is the eight bytes from 8k on, or 0 past the end
pub record HasWords (w : SendWords) (bytes : List ℕ) : Type 0 where
  pub blocks : w.blocks ≡ length bytes / 64
  pub words : (k : ℕ) → k < 32 → slice_index w.words k ≡ field_value bytes (64 * k) 64

abbrev pub rule_name : EntryRule → List ℕ
rule_name Opcode = codes "opcode"
rule_name Size = codes "size"
rule_name Index = codes "index"
rule_name Number = codes "number"
rule_name Flags = codes "flags"
rule_name Reserved = codes "reserved"

abbrev pub unit_words : BadEntry → List ℕ
unit_words bad = numbered (codes "unit") bad.unit ++ codes " " ++ rule_name bad.why

-- the control segment, and how many units there are
abbrev pub send_fields : List ℕ → List ℕ
send_fields bytes = fields_text Ctrl bytes ++ codes " " ++ numbered (codes "units") (field_value bytes 56 8)

pub record IsSendAnswer (bytes answer : List ℕ) : Type 0 where
  pub entry : SendWords
  pub has : HasWords entry bytes
  pub says : answer ≡ judged unit_words (send_rules entry) (send_fields bytes)

-- what the bytes spell, by its layout
pub record IsSpelled {Entry : Type 0} (Spells : Entry → List ℕ → Type 0) (layout : Entry → LayoutName) (bytes answer : List ℕ) : Type 0 where
  pub entry : Entry
  pub spelled : Spells entry bytes
  pub says : answer ≡ good (fields_text (layout entry) bytes)

-- or the first byte that nothing that is spelled has after the same bytes
pub record IsWrongFrom {Entry : Type 0} (Spells : Entry → List ℕ → Type 0) (bytes answer : List ℕ) : Type 0 where
  pub byte : ℕ
  pub wrong : IsFirstWrong (λ b. (entry : Entry) × Spells entry b) bytes byte
  pub says : answer ≡ refused (numbered (codes "byte") byte)

abbrev pub cqe_layout : Cqe → LayoutName
cqe_layout c = layout_of c.opcode

-- the answer to bytes of a kind
abbrev pub Answers : Kind → List ℕ → List ℕ → Type 0
Answers CqeKind bytes answer = IsSpelled IsCqe cqe_layout bytes answer ⊎ IsWrongFrom IsCqe bytes answer
Answers EqeKind bytes answer = IsSpelled IsEqe event_layout bytes answer ⊎ IsWrongFrom IsEqe bytes answer
Answers SendKind bytes answer = IsSendAnswer bytes answer
Answers Entry bytes answer = answer ≡ entry_answer bytes
Answers Block bytes answer = answer ≡ block_answer bytes
Answers Body bytes answer = answer ≡ body_answer bytes

-- a text has grown by the answer to bytes of a kind
pub record PutsAnswer (kind : Kind) (bytes old new : List ℕ) : Type 0 where
  pub answer : List ℕ
  pub answered : Answers kind bytes answer
  pub grown : new ≡ old ++ answer
