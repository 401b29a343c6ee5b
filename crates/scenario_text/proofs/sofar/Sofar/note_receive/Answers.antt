use Rattle.std.proofs.Common.{ap, length, arith}
use Rattle.scenario_text.specs.Text.{Parting}
use Rattle.scenario_text.proofs.Noting.{few_fields}
use Rattle.scenario_text.proofs.sofar.Sofar.note_receive.Goals as goal

pub note_segments-requires : goal.note_segments-requires
note_segments-requires c = record { few = omega (arith, few_fields c.args.line.now, ap (λ (p : Parting). length p.left) c.fields.ensures) }
