-- The grammar of send entries: which words spell a request.
use Rattle.std.specs.Prelude.{◌≡◌, ℕ, ◌+◌, ◌*◌, ◌<◌, ◌≤◌, IsTrue}
use Rattle.prm_fields.specs.declared.layout.LayoutName.TheVariants.{Ctrl}
use Rattle.prm_fields.specs.Spelling.{Spells}
use Rattle.verbs_types.specs.declared.request.Body.{Body}
use Rattle.verbs_types.specs.declared.request.Body.TheVariants.{Sges, Inline}
use Rattle.verbs_types.specs.declared.request.Request.{Request}
use Rattle.work_entries.specs.declared.control.Control.{Control}
use Rattle.work_entries.specs.declared.sent.Sent.{Sent}
use Rattle.work_entries.specs.declared.sent.SentBody.{SentBody}
use Rattle.work_entries.specs.declared.sent.SentBody.TheVariants.{Sges as SentSges, Inline as SentInline}
use Rattle.work_entries.specs.declared.units.SendWords.{SendWords}
use Rattle.work_entries.specs.Opcode.{opcode_of, fixed_units}
use Rattle.work_entries.specs.Unit.{unit, is_clear_unit, blocks_of}
use Rattle.work_entries.specs.Control.{control_values, flags_of}
use Rattle.work_entries.specs.Operation.{HasOperation, immediate_of}
use Rattle.work_entries.specs.Body.{HasBody, MayCarry, body_units}

-- the units of an entry, the control segment included
abbrev pub units_of : Sent → ℕ
units_of s = fixed_units (opcode_of s.op) + body_units s.body

abbrev pub control_of : Sent → Control
control_of s = record {
  opcode = opcode_of s.op;
  index = s.index;
  qpn = s.qpn;
  units = units_of s;
  flags = flags_of s.wanted s.solicited s.fence;
  imm = immediate_of s.op;
}

-- the words spell the request: each segment of it is in its units, and what is left of the last block is 0
pub record IsSend (s : Sent) (w : SendWords) : Type 0 where
  pub blocks : w.blocks ≡ blocks_of (units_of s)
  pub control : Spells Ctrl (control_values (control_of s)) (unit w.words 0)
  pub operation : HasOperation s.op w.words
  pub carried : MayCarry (opcode_of s.op) s.body
  pub body : HasBody s.body w.words (fixed_units (opcode_of s.op))
  pub unused : (k : ℕ) → units_of s ≤ k → k < 4 * w.blocks → IsTrue (is_clear_unit w.words k)

-- a request's data in fixed size
abbrev pub sent_body : Body → SentBody
sent_body (Sges sges) = SentSges sges
sent_body (Inline bytes) = SentInline bytes

-- what the entry of a request says at a block index and a queue pair number
abbrev pub sent_of : Request → ℕ → ℕ → Sent
sent_of r index qpn = record {
  op = r.op;
  wanted = r.wanted;
  solicited = r.solicited;
  fence = r.fence;
  body = sent_body r.body;
  index = index;
  qpn = qpn;
}
