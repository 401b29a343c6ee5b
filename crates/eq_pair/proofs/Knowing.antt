-- What a machine that knows less may do, its side may do, and then it still knows less.
use Rattle.std.proofs.Common.{◌≡◌, ℕ, refl, ap, sym, ◌∙◌, subst}
use Rattle.bus_core.specs.declared.operation.BusEntry.{BusEntry}
use Rattle.bus_core.specs.Operation.{IsLoad, loaded}
use Rattle.owner_ring.specs.Place.{slot}
use Rattle.eq_pair.specs.declared.place.EqPlace.{EqPlace}
use Rattle.eq_pair.specs.Place.{ring_of}
use Rattle.eq_pair.specs.Mark.{EqMark, Write, Look, Read, Take, Register, Foreign}
use Rattle.eq_pair.specs.Host.{EventTaker, Waiting, Reading, Holding, next_index, MayTake, after_take, after_look, looked, takes, KnowsLess}

pub KnowsLess_refl : (h : EventTaker) → KnowsLess h h
KnowsLess_refl (Waiting i) = refl
KnowsLess_refl (Reading i last ws) = refl
KnowsLess_refl (Holding i event) = refl

pub KnowsLess_trans : (g h k : EventTaker) → KnowsLess g h → KnowsLess h k → KnowsLess g k
KnowsLess_trans (Waiting i) (Waiting j) k a b = a ∙ b
KnowsLess_trans (Waiting i) (Reading j last ws) k a b = a ∙ ap next_index b
KnowsLess_trans (Waiting i) (Holding j event) k a b = a ∙ ap next_index b
KnowsLess_trans (Reading i last ws) h k a b = subst (λ (x : EventTaker). KnowsLess x k) (sym a) b
KnowsLess_trans (Holding i event) h k a b = subst (λ (x : EventTaker). KnowsLess x k) (sym a) b

-- one operation of the host's side, as a machine with this much knowledge sees it and as its list tells it
pub record DoesMore (place : EqPlace) (g h : EventTaker) (mark : EqMark) (e : BusEntry) : Type 0 where
  pub may : MayTake place h mark e
  pub less : KnowsLess (after_take place g mark e) (after_take place h mark e)
  pub says : takes place h mark e ≡ takes place g mark e

module _ (place : EqPlace) (mark : EqMark) (e : BusEntry) where
  same : (h : EventTaker) → MayTake place h mark e → DoesMore place h h mark e
  same h may = record { may = may; less = KnowsLess_refl (after_take place h mark e); says = refl }

-- a look is of the index alone
looks : (place : EqPlace) (e : BusEntry) (i : ℕ) (h : EventTaker) → i ≡ next_index h → MayTake place (Waiting i) Look e → DoesMore place (Waiting i) h Look e
looks place e i h is may = record {
  may = subst (λ (j : ℕ). IsLoad (slot (ring_of place) j 7) e) is may;
  less = subst (λ (j : ℕ). KnowsLess (after_look place i (loaded e)) (after_look place j (loaded e))) is (KnowsLess_refl (after_look place i (loaded e)));
  says = ap (λ j. looked place j (loaded e)) (sym is);
}

pub does_more : (place : EqPlace) (g h : EventTaker) (mark : EqMark) (e : BusEntry) → KnowsLess g h → MayTake place g mark e → DoesMore place g h mark e
does_more place (Waiting i) h (Write event) e less may = absurd may
does_more place (Waiting i) h Look e less may = looks place e i h less may
does_more place (Waiting i) h Read e less may = absurd may
does_more place (Waiting i) h (Take event) e less may = absurd may
does_more place (Waiting i) h Register e less may = absurd may
does_more place (Waiting i) h Foreign e less may = absurd may
does_more place (Reading i last ws) h mark e less may = subst (λ (x : EventTaker). DoesMore place (Reading i last ws) x mark e) less (same place mark e (Reading i last ws) may)
does_more place (Holding i held) h mark e less may = subst (λ (x : EventTaker). DoesMore place (Holding i held) x mark e) less (same place mark e (Holding i held) may)
