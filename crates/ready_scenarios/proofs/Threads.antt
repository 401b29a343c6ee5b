-- Each thread of a scenario that can run is one that can run.
use Rattle.std.proofs.Common.{◌≡◌, ℕ, suc, ◌<◌, [], length, map, IsTrue, arith}
use Rattle.std.proofs.lemmas.List.{length-map}
use Rattle.verbs_types.specs.declared.call.Call.{Call}
use Rattle.verbs_types.specs.declared.call.Call.TheVariants.{Post, Recv, Poll, Drain}
use Rattle.verbs_types.specs.declared.declaration.Lines.{Lines}
use Rattle.verbs_types.specs.declared.request.Item.TheVariants.{Request as TheRequest, Receive as TheReceive}
use Rattle.verbs_types.specs.Lines.{is_declared}
use Rattle.scenario_text.specs.Calls.{IsCall}
use Rattle.scenario_text.specs.Running as scenario
use Rattle.scenario_text.specs.declared.scenario.ScenarioParts.{ScenarioParts}
use Rattle.object_places.specs.Places.{send_of}
use Rattle.actor_rules.specs.Thread.{program_of}
use Rattle.thread_actor.specs.Calls.{CanCall}
use Rattle.thread_actor.specs.Fresh.{CanRun}
use Rattle.ready_scenarios.proofs.Carried.{takes_nops, takes_receives}
use Rattle.ready_scenarios.proofs.Owners.{calls_of, program_at, each_among}

-- a call of a scenario
can_call : (d : Lines) (c : Call) → IsTrue (is_declared d) → IsCall d c → CanCall d c
can_call d (Post qp requests) declared h =
    let long : length (map TheRequest requests) ≡ length requests = simp length-map in
    record { lives = h.0; fits = record { some = omega (arith, long, h.1.0); few = omega (arith, long, h.1.1); taken = takes_nops (send_of d qp) requests h.2 } }
can_call d (Recv qp receives) declared h =
    let long : length (map TheReceive receives) ≡ length receives = simp length-map in
    record { lives = h.0; fits = record { some = omega (arith, long, h.1.0); few = omega (arith, long, h.1.1); taken = takes_receives d qp receives declared h.0 h.2 } }
can_call d (Poll cq most) declared h = record { lives = h.0; fits = (omega (arith, h.1.0), h.1.1) }
can_call d (Drain cq count) declared h = record { lives = h.0; fits = (omega arith, omega arith) }

pub thread_runs : (s : ScenarioParts) → scenario.CanRun s → (t : ℕ) → t < length s.programs → CanRun s.lines (suc t) (program_of s.programs (suc t))
thread_runs s can t low = record {
  some = omega arith;
  most = omega (arith, low, can.paired, can.threads);
  few = (can.programs t [] low).0;
  each = each_among s.lines (CanCall s.lines) (calls_of s.programs t) (calls_of s.programs t) (λ test h. h) (λ c h among. can_call s.lines c can.declared h) (program_at s.lines s.programs can.programs t);
}
