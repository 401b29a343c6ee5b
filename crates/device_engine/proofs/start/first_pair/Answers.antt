use Rattle.std.proofs.Common.{ap, ◌∙◌}
use Rattle.verbs_types.specs.declared.declaration.Lines.{Lines}
use Rattle.verbs_rules.specs.Start.{is_connected}
use Rattle.device_engine.proofs.Starting.{first_pair_is}
use Rattle.device_engine.proofs.start.first_pair.Goals as goal

pub returns : goal.returns
returns c =
    let d = c.args.d.now in
    let line = c.line_of-line.ensures in
    first_pair_is d c.args.number c.new.result c.send_place-place.result c.line_of-line.result.now c.is_connected-may_send.result
    (record {
      among = c.requires.object;
      place_is = c.send_place-place.ensures.place;
      within = c.send_place-place.ensures.within;
      line_is = line.line;
      send_cq_lives = line.send_cq;
      number = line.number;
      requests_are = c.new.ensures;
      may_is = c.is_connected-may_send.ensures ∙ ap (λ (l : Lines). is_connected l c.args.number) c.lines.ensures.lines;
    })
