-- What a send entry must keep, unit by unit, and in a unit in the order in which it is judged.
use Rattle.std.specs.Prelude.{ℕ, zero, suc, ◌+◌, ◌-◌, ◌*◌, ◌==◌, nat_le, nat_lt, Bool, not, ◌&&◌, ◌||◌, if◌then◌else◌, bit_and, List, [], ◌∷◌, ◌++◌, drop, Option, Some, None, is_some}
use Rattle.std.specs.List.{list_all}
use Rattle.prm_fields.specs.Layout.{is_reserved_clear}
use Rattle.prm_fields.specs.Refusal.{Rule, rule}
use Rattle.prm_fields.specs.declared.layout.LayoutName.TheVariants.{Ctrl, Raddr}
use Rattle.work_entries.specs.declared.fault.BadEntry.{BadEntry}
use Rattle.work_entries.specs.declared.fault.EntryRule.{EntryRule}
use Rattle.work_entries.specs.declared.fault.EntryRule.TheVariants.{Opcode as OpcodeRule, Size, Flags, Reserved}
use Rattle.work_entries.specs.declared.opcode.Opcode.{Opcode}
use Rattle.work_entries.specs.declared.opcode.Opcode.TheVariants.{Nop, Send, SendImm, AtomicFa}
use Rattle.work_entries.specs.declared.units.SendWords.{SendWords}
use Rattle.work_entries.specs.Opcode.{fixed_units, most_data, may_inline, has_immediate}
use Rattle.work_entries.specs.Unit.{unit, units, is_clear_unit, blocks_of}
use Rattle.work_entries.specs.Control.{modifier_at, opcode_at, units_at, signature_at, flags_at, immediate_at}
use Rattle.work_entries.specs.Operation.{compare_at}
use Rattle.work_entries.specs.Body.{begins_inline, inline_count, inline_units}

-- a rule of unit k, and the refusal where it does not hold
abbrev pub at_unit : ℕ → EntryRule → Bool → Rule BadEntry
at_unit k why holds = rule holds (record { unit = k; why = why })

-- whether an entry of an opcode can have `count` units in `blocks` blocks
abbrev pub has_size : Opcode → ℕ → ℕ → Bool
has_size opcode count blocks =
    nat_le (fixed_units opcode) count && nat_le count (fixed_units opcode + most_data opcode) && (blocks == blocks_of count)

-- whether no flag but completion wanted, solicited and fence is set
abbrev pub has_known_flags : ℕ → Bool
has_known_flags flags = bit_and flags 0x75 == 0

-- whether the reserved bits are 0, and the signature, and an immediate that the opcode does not have
abbrev pub is_plain : Opcode → List ℕ → Bool
is_plain opcode control =
    is_reserved_clear Ctrl control && (signature_at control == 0) && (has_immediate opcode || (immediate_at control == 0))

-- the control segment behind its opcode
abbrev pub rest_of_control : Option Opcode → List ℕ → ℕ → List (Rule BadEntry)
rest_of_control None control blocks = []
rest_of_control (Some opcode) control blocks =
    at_unit 0 Size (has_size opcode (units_at control) blocks)
    ∷ at_unit 0 Flags (has_known_flags (flags_at control))
    ∷ at_unit 0 Reserved (is_plain opcode control)
    ∷ []

abbrev pub control_rules : List ℕ → ℕ → List (Rule BadEntry)
control_rules control blocks =
    at_unit 0 OpcodeRule ((modifier_at control == 0) && is_some (opcode_at control)) ∷ rest_of_control (opcode_at control) control blocks

abbrev pub remote_rule : List ℕ → Rule BadEntry
remote_rule words = at_unit 1 Reserved (is_reserved_clear Raddr (unit words 1))

-- the remote address; a fetch and add has one operand
abbrev pub operation_rules : Opcode → List ℕ → List (Rule BadEntry)
operation_rules Nop words = []
operation_rules Send words = []
operation_rules SendImm words = []
operation_rules AtomicFa words = remote_rule words ∷ at_unit 2 Reserved (compare_at (unit words 2) == 0) ∷ []
operation_rules _ words = remote_rule words ∷ []

-- one rule for each of `count` units from unit k on
abbrev pub each_unit : EntryRule → (ℕ → Bool) → ℕ → ℕ → List (Rule BadEntry)
each_unit why holds k zero = []
each_unit why holds k (suc count) = at_unit k why (holds k) ∷ each_unit why holds (suc k) count

-- data segments in `count` units from unit k on: none begins an inline segment
abbrev pub segment_rules : List ℕ → ℕ → ℕ → List (Rule BadEntry)
segment_rules words = each_unit Size (λ j. not (begins_inline (unit words j)))

-- whether an inline segment has at most 60 bytes, and they take just these units
abbrev pub has_inline_size : ℕ → ℕ → Bool
has_inline_size bytes count = nat_le bytes 60 && (inline_units bytes == count)

-- whether what the bytes leave of the last unit is 0
abbrev pub is_filled : List ℕ → ℕ → ℕ → Bool
is_filled words k count = list_all (λ b. b == 0) (drop (4 + inline_count (unit words k)) (units words k count))

-- an inline segment in `count` units from unit k on
abbrev pub inline_rules : List ℕ → ℕ → ℕ → List (Rule BadEntry)
inline_rules words k count =
    at_unit k Size (has_inline_size (inline_count (unit words k)) count) ∷ at_unit (k + count - 1) Reserved (is_filled words k count) ∷ []

-- whether the data of an entry of `count` units is inline
abbrev pub is_inline : Opcode → List ℕ → ℕ → Bool
is_inline opcode words count = may_inline opcode && nat_lt (fixed_units opcode) count && begins_inline (unit words (fixed_units opcode))

abbrev pub body_rules : Opcode → List ℕ → ℕ → List (Rule BadEntry)
body_rules opcode words count =
    if is_inline opcode words count
    then inline_rules words (fixed_units opcode) (count - fixed_units opcode)
    else segment_rules words (fixed_units opcode) (count - fixed_units opcode)

-- `count` units from unit k on that the entry does not use
abbrev pub unused_rules : List ℕ → ℕ → ℕ → List (Rule BadEntry)
unused_rules words = each_unit Reserved (is_clear_unit words)

-- the units behind the control segment
abbrev pub rules_behind : Option Opcode → SendWords → ℕ → List (Rule BadEntry)
rules_behind None w count = []
rules_behind (Some opcode) w count = operation_rules opcode w.words ++ body_rules opcode w.words count ++ unused_rules w.words count (4 * w.blocks - count)

unfoldable pub send_rules : SendWords → List (Rule BadEntry)
send_rules w =
    let control = unit w.words 0 in
    control_rules control w.blocks ++ rules_behind (opcode_at control) w (units_at control)
