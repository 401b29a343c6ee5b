use Rattle.std.proofs.Common.{◌≡◌, ◌∙◌, refl, sym, ap, Option, None, Some, is_some}
use Rattle.std.proofs.lemmas.Bool.{false≢true}
use Rattle.std.proofs.lemmas.Option.{get_or_from_slice_get}
use Rattle.thread_actor.proofs.Places.{found_here, found_none}
use Rattle.thread_actor.proofs.polls.poll.Goals as goal

-- src/polls.rt:48:23
pub poll_on-requires-clause-port : goal.poll_on-requires-clause-port
poll_on-requires-clause-port g c = c.requires.port c.in-Some.side (found_here c.args.sides.now c.args.place c.requires.ready.side c.in-Some.side c.index-sides-place.result c.requires.ready.found c.in-Some.is)

-- src/polls.rt:49:17
pub unreachable-requires : goal.unreachable-requires
unreachable-requires g c = found_none c.args.sides.now c.args.place c.requires.ready.side c.index-sides-place.result c.requires.ready.found c.in-None.is

-- src/polls.rt:36:1
pub returns : goal.returns
returns g c = (
  c.poll_on.ensures.0,
  c.poll_on.ensures.1,
  record {
    before = c.in-Some.side;
    after = c.poll_on.new.side;
    found = found_here c.args.sides.now c.args.place c.requires.ready.side c.in-Some.side c.index-sides-place.result c.requires.ready.found c.in-Some.is;
    sides = refl;
    goes = c.poll_on.ensures.2;
  },
)
