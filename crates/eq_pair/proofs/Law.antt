-- The law of an event queue.
use Rattle.std.proofs.Common.{◌≡◌, ◌/◌, ◌%◌, ◌^◌, ◌<◌, refl, ap, ◌∙◌, arith, List, [], Option, Some, None}
use Rattle.std.proofs.Math.Nat.{div-lt_iff_lt-mul}
use Rattle.std.proofs.lemmas.Bool.{ne_eqb}
use Rattle.std.proofs.lemmas.Option.{slice_get_within}
use Rattle.bus_core.specs.Mark.{Marked}
use Rattle.bus_core.specs.Trace.{Memory}
use Rattle.bus_core.proofs.TwoSided.{Advances}
use Rattle.owner_ring.specs.Place.{size, owner_bit, is_owned}
use Rattle.owner_ring.specs.Law.{IsStart}
use Rattle.owner_ring.specs.Ring.{empty_ring}
use Rattle.owner_ring.proofs.Slots.{size_positive}
use Rattle.owner_ring.proofs.Law as ring_law
use Rattle.eq_pair.specs.declared.place.EqPlace.{EqPlace}
use Rattle.eq_pair.specs.Place.{ring_of, IsFresh}
use Rattle.eq_pair.specs.Mark.{EqMark}
use Rattle.eq_pair.specs.Queue.{EventList, EqEvent, no_events, IsLegal}
use Rattle.eq_pair.specs.Device.{EventWriter}
use Rattle.eq_pair.specs.Host.{EventTaker}
use Rattle.eq_pair.specs.Law.{eq_object, fresh_writer, fresh_taker, agrees_by, IsRun, history}
use Rattle.eq_pair.proofs.Agreeing.{law_of_agreeing}
use Rattle.eq_pair.proofs.Tied.{Tied, Tied_kept, Goes}
use Rattle.eq_pair.proofs.DeviceStep.{device_step}
use Rattle.eq_pair.proofs.HostStep.{host_step}

advances : (place : EqPlace) (m : Memory) (d : EventWriter) (h : EventTaker) (q : EventList) (said : Option EqEvent) → Goes place m d h q said → Advances (eq_object place) (Tied place) m d h q said
advances place m d h q None g = g
advances place m d h q (Some event) g = g

-- at the start the list is empty
pub start_tied : (place : EqPlace) (start : Memory) → IsStart (ring_of place) 0 start → Tied place start fresh_writer fresh_taker no_events
start_tied place start s = record {
  entries = empty_ring 0;
  ring = ring_law.start_tied (ring_of place) 0 start s;
  fits = record { given = refl; count = refl; spelled = λ n event low h. let inside = slice_get_within [] n event h in absurd (omega arith); taker = tt };
}

pub run_is_legal : (place : EqPlace) (start : Memory) (trace : List (Marked EqMark)) → IsRun place start trace → IsLegal (size (ring_of place)) no_events (history place trace)
run_is_legal place start trace r =
    law_of_agreeing (eq_object place) (Tied place) (agrees_by place) (λ m m' d h q same t. Tied_kept place m m' d h q same t)
    (λ m d h q x t tells may room. advances place _ _ h q _ (device_step place m d h q x.mark x.entry r.place_ok t tells may room))
    (λ m d h q x t tells may room. advances place _ d _ q _ (host_step place m d h q x.mark x.entry r.place_ok t tells may))
    trace start fresh_writer fresh_taker no_events (start_tied place start r.start_ok) r.run r.room

-- the first round does not own a fresh entry
pub fresh_starts : (place : EqPlace) (start : Memory) → IsFresh place start → IsStart (ring_of place) 0 start
fresh_starts place start f = record {
  acked = ap (λ w. w % 2 ^ 24) f.register;
  unowned = λ n low high.
      let below : n < size (ring_of place) = omega arith in
      ap (is_owned (ring_of place) n) (f.entries n below) ∙ ne_eqb 1 (owner_bit (ring_of place) n) (λ (same : 1 ≡ n / size (ring_of place) % 2). let first : n / size (ring_of place) < 1 = (div-lt_iff_lt-mul (size_positive (ring_of place))).1 (omega (arith, below)) in omega (arith, first, same));
}
