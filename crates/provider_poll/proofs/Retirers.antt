-- What a retirer is at between two turns, and its turns as operations of its rule.
use Rattle.std.proofs.Common.{◌≡◌, ◌↔◌, ℕ, ◌+◌, inr, refl, sym, ap, ◌∙◌, Bool, true, false, IsTrue, Option, Some, None, if◌then◌else◌, nat_lt, ◌^◌}
use Rattle.bus_core.specs.declared.operation.BusEntry.{BusEntry}
use Rattle.bus_core.specs.declared.turn.Step.{Step}
use Rattle.bus_core.specs.declared.turn.Step.TheVariants.{More, Gave, Done}
use Rattle.bus_core.specs.Operation.{loaded}
use Rattle.counted_ring.specs.declared.place.WqPlace.{WqPlace}
use Rattle.counted_ring.specs.declared.retirer.Retired.{Retired}
use Rattle.counted_ring.specs.Place.{is_send}
use Rattle.counted_ring.specs.Queue.{Named, Found}
use Rattle.counted_ring.specs.Mark.{WqMark, Lookup, Retire}
use Rattle.counted_ring.specs.Retirer.{Asked, Retirer}
use Rattle.counted_ring.specs.RetirerView.{RetirerView, RetirerTask, RetirerTurn, Lookups, Retirement, MayServe, after_serve, served, is_found, answered}
use Rattle.counted_ring.specs.Turn.{task_after}
use Rattle.provider_poll.specs.SendQueue.{SendView, task_of, is_idle, asking, retiring}
use Rattle.provider_poll.specs.Rule.{lookup_in}

-- its task shows whether it is idle
pub idle_is : (task : Option RetirerTask) (asked : Option Asked) (b : Bool) → task ≡ task_of asked → (IsTrue b ↔ (task ≡ None)) → b ≡ is_idle asked
idle_is task None true is idle = refl
idle_is task None false is idle = absurd (let no : IsTrue false = idle.1 is in cc)
idle_is task (Some a) true is idle = absurd (let none = idle.0 refl in cc)
idle_is task (Some a) false is idle = refl

on_more : (task : Option RetirerTask) (answer : Step (Unit {0}) Retired) → answered answer ≡ None → task_after task answer ≡ task
on_more task More says = refl
on_more task (Gave part) says = refl
on_more task (Done done) says = absurd cc

on_done : (task : Option RetirerTask) (answer : Step (Unit {0}) Retired) (done : Retired) → answered answer ≡ Some done → task_after task answer ≡ None
on_done task More done says = absurd cc
on_done task (Gave part) done says = absurd cc
on_done task (Done same) done says = refl

-- a turn by an operation of the rule with this mark
pub record Serves (place : WqPlace) (old new : Retirer) (mark : WqMark) (e : BusEntry) (answer : Step (Unit {0}) Retired) : Type 0 where
  pub may : MayServe place old mark e
  pub side : new ≡ after_serve place old mark e
  pub says : answered answer ≡ is_found (served place old mark e)

module _ (place : WqPlace) (e : BusEntry) (answer : Step (Unit {0}) Retired) (new : RetirerView) where
  abbrev Turn : Retirer → RetirerTask → Type 0
  Turn old task = RetirerTurn (record { place = place; side = old; task = Some task }) new e answer

  -- a lookup goes on after its first load
  named : is_send place ≡ true → (tail found counter : ℕ) → Turn (record { tail = tail; found = found; asked = None }) (Lookups counter) → new.task ≡ task_of new.side.asked
  named send tail found counter t =
      let says : answered answer ≡ None = t.says ∙ ap (λ (b : Bool). is_found (if b then Some (Named counter (loaded e)) else Some (Found counter (loaded e) (found + 1)))) send in
      let asked : new.side.asked ≡ Some (record { counter = counter; id = loaded e }) = ap (λ (r : Retirer). r.asked) (t.side ∙ ap (λ (b : Bool). if b then record { tail = tail; found = found; asked = Some (record { counter = counter; id = loaded e }) } else record { tail = tail; found = found + 1; asked = None }) send) in
      t.task ∙ on_more (Some (Lookups counter)) answer says ∙ sym (ap task_of asked)

  -- and ends with its second
  counted : (tail found counter : ℕ) (a : Asked) → Turn (record { tail = tail; found = found; asked = Some a }) (Lookups counter) → new.task ≡ task_of new.side.asked
  counted tail found counter a t = t.task ∙ on_done (Some (Lookups counter)) answer _ t.says ∙ sym (ap (λ (r : Retirer). task_of r.asked) t.side)

  pub retired : (old : Retirer) (end : ℕ) → Turn old (Retirement end) → new.task ≡ task_of new.side.asked
  retired old end t = t.task ∙ on_done (Some (Retirement end)) answer _ t.says ∙ sym (ap (λ (r : Retirer). task_of r.asked) t.side)

  module _ (number counter : ℕ) where
    abbrev Asking : ℕ → ℕ → Option Asked → Type 0
    Asking tail found asked = RetirerTurn (asking counter (record { number = number; place = place; side = record { tail = tail; found = found; asked = asked } })) new e answer

    looked_by : is_send place ≡ true → (tail found : ℕ) (asked : Option Asked) → Asking tail found asked → new.task ≡ task_of new.side.asked
    looked_by send tail found (Some a) t = counted tail found a.counter a t
    looked_by send tail found None t = by_count (nat_lt found (2 ^ 62)) t where
      by_count : (b : Bool) → Turn (if b then record { tail = tail; found = found; asked = None } else record { tail = tail; found = tail; asked = None }) (Lookups counter) → new.task ≡ task_of new.side.asked
      by_count true t = named send tail found counter t
      by_count false t = named send tail tail counter t

    serves_by : (tail found : ℕ) (asked : Option Asked) → Asking tail found asked → Serves place (record { tail = tail; found = found; asked = asked }) new.side (lookup_in counter (record { tail = tail; found = found; asked = asked })) e answer
    serves_by tail found (Some a) t = record { may = t.may; side = t.side; says = t.says }
    serves_by tail found None t = by_count (nat_lt found (2 ^ 62)) t where
      by_count : (b : Bool) → Turn (if b then record { tail = tail; found = found; asked = None } else record { tail = tail; found = tail; asked = None }) (Lookups counter) → Serves place (record { tail = tail; found = found; asked = None }) new.side (Lookup counter (if b then found else tail)) e answer
      by_count true t = record { may = t.may; side = t.side; says = t.says }
      by_count false t = record { may = record { follows = inr refl; load = t.may.load }; side = t.side; says = t.says }

-- after an operation of a lookup
pub looked : (q : SendView) (counter : ℕ) (new : RetirerView) (e : BusEntry) (answer : Step (Unit {0}) Retired) → is_send q.place ≡ true → RetirerTurn (asking counter q) new e answer → new.task ≡ task_of new.side.asked
looked q counter new e answer send t = looked_by q.place e answer new q.number counter send q.side.tail q.side.found q.side.asked t

pub looks_up : (q : SendView) (counter : ℕ) (new : RetirerView) (e : BusEntry) (answer : Step (Unit {0}) Retired) → RetirerTurn (asking counter q) new e answer → Serves q.place q.side new.side (lookup_in counter q.side) e answer
looks_up q counter new e answer t = serves_by q.place e answer new q.number counter q.side.tail q.side.found q.side.asked t

pub retires : (q : SendView) (end : ℕ) (new : RetirerView) (e : BusEntry) (answer : Step (Unit {0}) Retired) → RetirerTurn (retiring end q) new e answer → Serves q.place q.side new.side (Retire end) e answer
retires q end new e answer t = record { may = t.may; side = t.side; says = t.says }
