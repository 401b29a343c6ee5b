-- What a machine that knows less may do, its side may do, and then it still knows less.
use Rattle.std.proofs.Common.{◌≡◌, refl, ap, sym, subst, Some}
use Rattle.bus_core.specs.declared.operation.BusEntry.{BusEntry}
use Rattle.cqe_format.specs.declared.completion.Cqe.{Cqe}
use Rattle.owner_ring.specs.Consumer.{Consumer, Waiting, Reading, KnowsLess}
use Rattle.owner_ring.proofs.Knowing as ring_knowing
use Rattle.cq_pair.specs.declared.place.CqPlace.{CqPlace}
use Rattle.cq_pair.specs.Place.{ring_of}
use Rattle.cq_pair.specs.Mark.{QueueMark, Publish, Lose, Look, Read, Take, Acknowledge, Foreign, ring_mark}
use Rattle.cq_pair.specs.Queue.{Took}
use Rattle.cq_pair.specs.Host.{Holds, MayPoll, after_poll, polled, took, found}

-- one operation of the host's side, as a machine with this much knowledge sees it and as its list tells it
pub record DoesMore (place : CqPlace) (c d : Consumer) (mark : QueueMark) (e : BusEntry) : Type 0 where
  pub may : MayPoll place d mark e
  pub less : KnowsLess (after_poll place c mark e) (after_poll place d mark e)
  pub says : polled place d mark e ≡ polled place c mark e

module _ (place : CqPlace) (e : BusEntry) where
  took_same : (c d : Consumer) (completion : Cqe) → KnowsLess c d → MayPoll place c (Take completion) e → took d completion ≡ took c completion
  took_same (Waiting a n) d completion less may = absurd may.ring
  took_same (Reading a n i l ws) (Waiting a' n') completion less may = absurd less
  took_same (Reading a n i l ws) (Reading a' n' i' l' ws') completion less may = ap (λ j. Some (Took j completion)) (sym less.2)

  says : (c d : Consumer) (mark : QueueMark) → KnowsLess c d → MayPoll place c mark e → ring_knowing.DoesMore (ring_of place) c d (ring_mark mark) e → polled place d mark e ≡ polled place c mark e
  says c d (Publish completion) less may more = refl
  says c d Lose less may more = refl
  says c d (Look i) less may more = ap found more.says
  says c d Read less may more = refl
  says c d (Take completion) less may more = took_same c d completion less may
  says c d (Acknowledge i) less may more = refl
  says c d Foreign less may more = refl

  pub does_more : (c d : Consumer) (mark : QueueMark) → KnowsLess c d → MayPoll place c mark e → DoesMore place c d mark e
  does_more c d mark less may =
      let more = ring_knowing.does_more (ring_of place) c d (ring_mark mark) e less may.ring in
      record { may = record { ring = more.may; holds = subst (Holds mark) (sym more.says) may.holds }; less = more.less; says = says c d mark less may more }
