use Rattle.std.proofs.Common.{refl, replicate, ◌∙◌}
use Rattle.prm_fields.proofs.Chains.{Chain}
use Rattle.work_entries.proofs.UnitPuts.{control_puts, control_put}
use Rattle.work_entries.proofs.control.control_unit.Goals as goal

pub returns : goal.returns
returns c =
    let chain : Chain (control_puts c.args.c.now) (replicate 16 0) c.put-6.new.bytes = (
      c.put.new.bytes,
      c.put.ensures.stored,
      c.put.ensures.others,
      (
        c.put-2.new.bytes,
        c.put-2.ensures.stored ∙ c.number.ensures,
        c.put-2.ensures.others,
        (
          c.put-3.new.bytes,
          c.put-3.ensures.stored,
          c.put-3.ensures.others,
          (
            c.put-4.new.bytes,
            c.put-4.ensures.stored,
            c.put-4.ensures.others,
            (
              c.put-5.new.bytes,
              c.put-5.ensures.stored,
              c.put-5.ensures.others,
              (c.put-6.new.bytes, c.put-6.ensures.stored, c.put-6.ensures.others, refl),
            ),
          ),
        ),
      ),
    )
    in
    control_put c.args.c.now c.put-6.new.bytes chain
