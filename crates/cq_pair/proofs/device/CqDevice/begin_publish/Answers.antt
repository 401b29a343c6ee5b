use Rattle.std.proofs.Common.{ap, subst, sym, ◌∙◌}
use Rattle.cqe_format.specs.declared.completion.Cqe.{Cqe}
use Rattle.cqe_format.specs.Bytes.{entry_bytes}
use Rattle.cqe_format.specs.Completion.{IsCqe}
use Rattle.cq_pair.proofs.DeviceTurns.{begins}
use Rattle.cq_pair.proofs.device.CqDevice.begin_publish.Goals as goal

pub invariant_of-self : goal.invariant_of-self
invariant_of-self c = record {
  place_ok = c.self.invariant.place_ok;
  ring_is = ap (λ v. v.place) c.begin_publish.ensures ∙ c.self.invariant.ring_is;
  work = begins c.of.result.value c.self.inside.overrun c.self.inside.ring c.begin_publish.new.self c.encode_cqe.result c.if-not-self.true c.begin_publish.ensures (search) c.encode_cqe.ensures.owner (subst (λ (x : Cqe). IsCqe x (entry_bytes c.encode_cqe.result)) (sym c.of.ensures) c.encode_cqe.ensures.spelled);
}
