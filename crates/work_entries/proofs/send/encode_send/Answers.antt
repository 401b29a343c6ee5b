use Rattle.std.proofs.Common.{◌≡◌, ◌+◌, ◌∙◌, ap, replicate, arith}
use Rattle.prm_fields.specs.Spelling.{Spells}
use Rattle.prm_fields.specs.declared.layout.LayoutName.TheVariants.{Ctrl}
use Rattle.prm_fields.proofs.Chains.{zeros_read}
use Rattle.work_entries.specs.Opcode.{opcode_number, fixed_units}
use Rattle.work_entries.specs.Control.{control_values}
use Rattle.work_entries.specs.Send.{control_of, sent_of, units_of}
use Rattle.work_entries.specs.Unit.{blocks_of}
use Rattle.work_entries.proofs.Writing.{spelled}
use Rattle.work_entries.proofs.send.encode_send.Goals as goal

pub returns : goal.returns
returns c =
    let s = sent_of c.args.r.now c.args.index c.args.qpn in
    let first = c.fixed_units-first.ensures ∙ ap fixed_units c.of-opcode.ensures in
    let value = c.put_body.ensures.value in
    let units : c.fixed_units-first.result + c.put_body.result ≡ units_of s = omega (arith, first, value) in
    let h = c.control_unit.ensures in
    let control : Spells Ctrl (control_values (control_of s)) c.control_unit.result = (
      h.0,
      (
        h.1.0,
        (
          h.1.1.0 ∙ ap opcode_number c.of-opcode.ensures,
          (
            h.1.1.1.0,
            (
              h.1.1.1.1.0 ∙ units,
              (
                h.1.1.1.1.1.0,
                (
                  h.1.1.1.1.1.1.0,
                  (h.1.1.1.1.1.1.1.0 ∙ c.flags_of.ensures, (h.1.1.1.1.1.1.1.1.0 ∙ c.immediate_of.ensures, tt)),
                ),
              ),
            ),
          ),
        ),
      ),
    )
    in
    spelled s (replicate 32 0) c.put_body.new.words c.put_operation.new.words (record { blocks = c.blocks_of.result; words = c.put_unit.new.words }) (zeros_read 32)
    (rw (first, value) at c.put_body.ensures.others)
    c.put_operation.ensures.others
    c.put_unit.ensures.others
    (c.blocks_of.ensures ∙ ap blocks_of units)
    (rw c.put_unit.ensures.stored control)
    c.put_operation.ensures.stored
    c.requires.carried
    (rw first at c.put_body.ensures.stored)
