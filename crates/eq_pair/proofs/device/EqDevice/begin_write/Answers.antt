use Rattle.std.proofs.Common.{ap, subst, sym, ◌∙◌}
use Rattle.verbs_types.specs.declared.completion.EventRecord.{EventRecord}
use Rattle.cqe_format.specs.Bytes.{entry_bytes}
use Rattle.cqe_format.specs.Event.{IsEqe}
use Rattle.eq_pair.proofs.Begun.{begins}
use Rattle.eq_pair.proofs.device.EqDevice.begin_write.Goals as goal

pub invariant_of-self : goal.invariant_of-self
invariant_of-self c = record {
  place_ok = c.self.invariant.place_ok;
  ring_is = ap (λ v. v.place) c.begin_write.ensures ∙ c.self.invariant.ring_is;
  work = begins c.of.result.value c.self.inside.ring c.begin_write.new.self c.encode_eqe.result c.begin_write.ensures (search) c.encode_eqe.ensures.owner (subst (λ (x : EventRecord). IsEqe x (entry_bytes c.encode_eqe.result)) (sym c.of.ensures) c.encode_eqe.ensures.spelled);
}
