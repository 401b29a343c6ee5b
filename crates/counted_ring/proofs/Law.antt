-- The law of a send or receive queue.
use Rattle.std.proofs.Common.{ℕ, inl, refl, arith, List, Option, Some, None}
use Rattle.bus_core.specs.Mark.{Marked}
use Rattle.bus_core.specs.Trace.{Memory, after_entry, Tells}
use Rattle.bus_core.specs.TwoSides.{IsRunOf}
use Rattle.bus_core.specs.declared.operation.BusEntry.{BusEntry}
use Rattle.counted_ring.specs.declared.place.WqPlace.{WqPlace}
use Rattle.counted_ring.specs.Place.{IsPlace}
use Rattle.counted_ring.specs.Mark.{WqMark, Post, Ring, Lookup, Count, Retire, Look, Record, Read, Foreign}
use Rattle.counted_ring.specs.Queue.{Queue, WqEvent, empty_queue, IsLegal, MayAsk, AsksInOrder}
use Rattle.counted_ring.specs.Device.{WqReader}
use Rattle.counted_ring.specs.Law.{QueueHost, MayUse, after_use, used, queue_object, fresh_poster, fresh_finder, fresh_host, fresh_device, IsStart, IsRun, history}
use Rattle.bus_core.proofs.Asking.{Advances, Asked, law_of_asking}
use Rattle.counted_ring.proofs.Users.{run_of_users}
use Rattle.counted_ring.proofs.Orders.{empty_order}
use Rattle.counted_ring.proofs.Tied.{Tied, Tied_kept, Goes, Asks}
use Rattle.counted_ring.proofs.PosterStep.{poster_step}
use Rattle.counted_ring.proofs.RetirerStep.{retirer_step}
use Rattle.counted_ring.proofs.DeviceStep.{device_step}

-- at the start the list is empty
pub start_tied : (place : WqPlace) (index : ℕ) (start : Memory) → IsStart place index start → Tied place start (fresh_poster index) fresh_finder.retirer (fresh_device index) (empty_queue index)
start_tied place index start s = record {
  shape = record {
    order = empty_order place index;
    few = omega arith;
    low = omega (arith, s.low);
    whole = λ n h. absurd (omega (arith, h));
  };
  tail = s.tail;
  recorded = s.recorded;
  stored = λ n low high. absurd (omega (arith, high));
  poster = record { count = refl; index = refl; least = omega arith; room = omega arith; stage = tt };
  retirer = record { tail = refl; found = omega arith; asked = tt };
  device = record { seen = 0; low = omega arith; high = omega arith; next_is = refl; ready_is = omega arith; words = inl refl };
}

host_step : (place : WqPlace) (m : Memory) (h : QueueHost) (d : WqReader) (q : Queue) (mark : WqMark) (e : BusEntry) → IsPlace place → Tied place m h.poster h.finder.retirer d q → Tells m e → MayUse place h mark e → Asks place q (used place h mark e) →
    Goes place (after_entry m e) (after_use place h mark e).poster (after_use place h mark e).finder.retirer d q (used place h mark e)
host_step place m h d q Post e ok t tells may ask = poster_step place m h.poster h.finder.retirer d q Post e ok t tells may
host_step place m h d q Ring e ok t tells may ask = poster_step place m h.poster h.finder.retirer d q Ring e ok t tells may
host_step place m h d q (Lookup counter from) e ok t tells may ask = retirer_step place m h.poster h.finder.retirer d q (Lookup counter from) e ok t tells may.serves ask
host_step place m h d q Count e ok t tells may ask = retirer_step place m h.poster h.finder.retirer d q Count e ok t tells may.serves ask
host_step place m h d q (Retire end) e ok t tells may ask = retirer_step place m h.poster h.finder.retirer d q (Retire end) e ok t tells may.serves ask
host_step place m h d q Look e ok t tells may ask = absurd may.serves
host_step place m h d q (Record passes) e ok t tells may ask = absurd may.serves
host_step place m h d q Read e ok t tells may ask = absurd may.serves
host_step place m h d q Foreign e ok t tells may ask = absurd may.serves

module _ (place : WqPlace) (ok : IsPlace place) where
  abbrev tied : Memory → WqReader → QueueHost → Queue → Type 0
  tied m d h q = Tied place m h.poster h.finder.retirer d q

  advances : (m : Memory) (h : QueueHost) (d : WqReader) (q : Queue) (said : Option WqEvent) → Goes place m h.poster h.finder.retirer d q said → Advances (queue_object place) (MayAsk place) tied m d h q said
  advances m h d q None g = g
  advances m h d q (Some event) g = g

  asks : (q : Queue) (said : Option WqEvent) → Asked (queue_object place) (MayAsk place) tied q said → Asks place q said
  asks q None ask = ask
  asks q (Some event) ask = ask

-- of a run whose host's two users are one side
pub sides_are_legal : (place : WqPlace) (index : ℕ) (start : Memory) (trace : List (Marked WqMark)) → IsPlace place → IsStart place index start → IsRunOf (queue_object place) (fresh_device index) (fresh_host index) start trace
    → AsksInOrder place (empty_queue index) (history place index trace) → IsLegal place (empty_queue index) (history place index trace)
sides_are_legal place index start trace ok begins run ask =
    law_of_asking (queue_object place) (MayAsk place) (λ m d h q. Tied place m h.poster h.finder.retirer d q)
    (λ m m' d h q same t. Tied_kept place m m' h.poster h.finder.retirer d q ok same t)
    (λ m d h q x t tells may said. advances place ok _ h _ q _ (device_step place m h.poster h.finder.retirer d q x.mark x.entry ok t tells may))
    (λ m d h q x t tells may said. advances place ok _ (after_use place h x.mark x.entry) d q _ (host_step place m h d q x.mark x.entry ok t tells may (asks place ok q _ said)))
    trace start (fresh_device index) (fresh_host index) (empty_queue index) (start_tied place index start begins) run ask

pub run_is_legal : (place : WqPlace) (index : ℕ) (start : Memory) (trace : List (Marked WqMark)) → IsRun place index start trace → IsLegal place (empty_queue index) (history place index trace)
run_is_legal place index start trace r = sides_are_legal place index start trace r.place_ok r.start_ok (run_of_users place index start trace r) r.asks
