-- What a retirer may do that has dropped a lookup or the ends that it found, the retirer of its list may do.
use Rattle.std.proofs.Common.{◌≡◌, ◌⊎◌, ℕ, ◌+◌, ◌≤◌, inl, inr, refl, ◌∙◌, subst, arith, Bool, true, false, cond, Option, Some, None}
use Rattle.bus_core.specs.declared.operation.BusEntry.{BusEntry}
use Rattle.bus_core.specs.Operation.{loaded}
use Rattle.counted_ring.specs.declared.place.WqPlace.{WqPlace}
use Rattle.counted_ring.specs.Place.{is_send}
use Rattle.counted_ring.specs.Mark.{WqMark, Post, Ring, Lookup, Count, Retire, Look, Record, Read, Foreign}
use Rattle.counted_ring.specs.Retirer.{Asked, Retirer, KnowsLess, MayCountFor, count_says_for, forgotten_side}
use Rattle.counted_ring.specs.Ends.{Finder, IsFirstEnd, MayFind}
use Rattle.counted_ring.specs.RetirerView.{MayServe, after_serve, served}

-- one operation, as a machine with this much knowledge sees it and as its list tells it
pub record DoesMore (place : WqPlace) (k r : Retirer) (mark : WqMark) (e : BusEntry) : Type 0 where
  pub may : MayServe place r mark e
  pub less : KnowsLess (after_serve place k mark e) (after_serve place r mark e)
  pub says : served place r mark e ≡ served place k mark e

pub KnowsLess_refl : (r : Retirer) → KnowsLess r r
KnowsLess_refl r = record { tail = refl; found = inl refl; asked = inl refl }

pub forgets : (k r : Retirer) → KnowsLess k r → KnowsLess (forgotten_side k) r
forgets k r h = record { tail = h.tail; found = inr h.tail; asked = inr refl }

looked_up : (send : Bool) (tail tail' counter from word : ℕ) → tail ≡ tail' →
    KnowsLess (cond send (record { tail = tail; found = from; asked = Some (record { counter = counter; id = word }) }) (record { tail = tail; found = from + 1; asked = None }))
    (cond send (record { tail = tail'; found = from; asked = Some (record { counter = counter; id = word }) }) (record { tail = tail'; found = from + 1; asked = None }))
looked_up true tail tail' counter from word same = record { tail = same; found = inl refl; asked = inl refl }
looked_up false tail tail' counter from word same = record { tail = same; found = inl refl; asked = inl refl }

record Counts (place : WqPlace) (asked asked' : Option Asked) (e : BusEntry) : Type 0 where
  may : MayCountFor place asked' e
  says : count_says_for asked' e ≡ count_says_for asked e

count : (place : WqPlace) (asked asked' : Option Asked) (e : BusEntry) → (asked ≡ asked') ⊎ (asked ≡ None) → MayCountFor place asked e → Counts place asked asked' e
count place None asked' e h may = absurd may
count place (Some a) asked' e h may = elim h [
  | inl same ↦ subst (λ (x : Option Asked). Counts place (Some a) x e) same (record { may = may; says = refl })
  | inr none ↦ absurd cc
]

pub does_more : (place : WqPlace) (k r : Retirer) (mark : WqMark) (e : BusEntry) → KnowsLess k r → MayServe place k mark e → DoesMore place k r mark e
does_more place k r (Lookup counter from) e h may = record {
  may = record {
    follows = elim may.follows [
      | inl last ↦ elim h.found [ inl found ↦ inl (last ∙ found) | inr tail ↦ inr (last ∙ tail) ]
      | inr tail ↦ inr (tail ∙ h.tail)
    ];
    load = may.load;
  };
  less = looked_up (is_send place) k.tail r.tail counter from (loaded e) h.tail;
  says = refl;
}
does_more place k r Count e h may =
    let c = count place k.asked r.asked e h.asked may in
    record { may = c.may; less = record { tail = h.tail; found = inl refl; asked = inl refl }; says = c.says }
does_more place k r (Retire end) e h may =
    let found : end ≤ r.found = elim h.found [ inl same ↦ omega (arith, same, may.found) | inr tail ↦ absurd (omega (arith, tail, h.tail, may.later, may.found)) ] in
    record {
      may = record { later = omega (arith, h.tail, may.later); found = found; one = λ receive. omega (arith, may.one receive, h.tail); store = may.store };
      less = record { tail = refl; found = elim h.found [ inl same ↦ inl same | inr tail ↦ absurd (omega (arith, tail, h.tail, may.later, may.found)) ]; asked = inl refl };
      says = refl;
    }
does_more place k r Post e h may = absurd may
does_more place k r Ring e h may = absurd may
does_more place k r Look e h may = absurd may
does_more place k r (Record passes) e h may = absurd may
does_more place k r Read e h may = absurd may
does_more place k r Foreign e h may = absurd may

-- and it is the list's next operation where what is stored is the first end that was found
pub finds_more : (place : WqPlace) (k : Retirer) (f : Finder) (mark : WqMark) (e : BusEntry) → KnowsLess k f.retirer → MayServe place k mark e → IsFirstEnd f.ends mark → MayFind place f mark e
finds_more place k f mark e h may first = record { serves = (does_more place k f.retirer mark e h may).may; first = first }
