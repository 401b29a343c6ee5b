-- What each part of the reader finds.
use Rattle.std.specs.Prelude.{◌≡◌, ℕ, ◌+◌, ◌==◌, ◌≤◌, false, IsTrue, if◌then◌else◌, List, length, Option, None}
use Rattle.std.specs.List.{AllByRecursion}
use Rattle.prm_fields.specs.declared.layout.LayoutName.TheVariants.{Ctrl}
use Rattle.prm_fields.specs.Refusal.{Rule}
use Rattle.prm_fields.specs.Spelling.{Spells}
use Rattle.verbs_types.specs.declared.request.Op.{Op}
use Rattle.verbs_types.specs.declared.request.Sge.{Sge}
use Rattle.work_entries.specs.declared.control.Control.{Control}
use Rattle.work_entries.specs.declared.fault.BadEntry.{BadEntry}
use Rattle.work_entries.specs.declared.fault.EntryRule.TheVariants.{Reserved}
use Rattle.work_entries.specs.declared.opcode.Opcode.{Opcode}
use Rattle.work_entries.specs.declared.sent.SentBody.{SentBody}
use Rattle.work_entries.specs.declared.units.SendWords.{SendWords}
use Rattle.work_entries.specs.Opcode.{opcode_of, fixed_units, has_immediate}
use Rattle.work_entries.specs.Unit.{unit}
use Rattle.work_entries.specs.Control.{control_values, modifier_at, opcode_at}
use Rattle.work_entries.specs.Operation.{HasOperation, compare_at, immediate_of}
use Rattle.work_entries.specs.Body.{HasBody, HasInline, HasSegments, IsShort, MayCarry, body_units, inline_units}
use Rattle.work_entries.specs.Rules.{at_unit, has_known_flags, has_size}

-- the opcode of a control segment whose modifier is 0
abbrev pub opcode_found : List ℕ → Option Opcode
opcode_found control = if modifier_at control == 0 then opcode_at control else None

-- the control segment of an entry, which fits the entry's blocks
pub record HasControl (c : Control) (w : SendWords) : Type 0 where
  pub spelled : Spells Ctrl (control_values c) (unit w.words 0)
  pub size : IsTrue (has_size c.opcode c.units w.blocks)
  pub flags : IsTrue (has_known_flags c.flags)
  pub immediate : has_immediate c.opcode ≡ false → c.imm ≡ 0

abbrev pub addend_rule : List ℕ → Rule BadEntry
addend_rule words = at_unit 2 Reserved (compare_at (unit words 2) == 0)

-- the operation of an opcode and an immediate, which an opcode without immediate does not have
pub record IsOperationOf (opcode : Opcode) (imm : ℕ) (op : Op) (words : List ℕ) : Type 0 where
  pub named : opcode_of op ≡ opcode
  pub spelled : HasOperation op words
  pub immediate : immediate_of op ≡ (if has_immediate opcode then imm else 0)

pub record AreSegments (sges : List Sge) (words : List ℕ) (k count : ℕ) : Type 0 where
  pub all : length sges ≡ count
  pub short : AllByRecursion IsShort sges
  pub spelled : HasSegments sges words k

pub record IsInlineOf (bytes words : List ℕ) (k count : ℕ) : Type 0 where
  pub most : length bytes ≤ 60
  pub size : inline_units (length bytes) ≡ count
  pub spelled : HasInline bytes words k

-- the data of an entry of `count` units
pub record IsBodyOf (opcode : Opcode) (count : ℕ) (body : SentBody) (words : List ℕ) : Type 0 where
  pub size : fixed_units opcode + body_units body ≡ count
  pub carried : MayCarry opcode body
  pub spelled : HasBody body words (fixed_units opcode)
