-- A poster that goes back to its last ring, and the list without the requests that were not rung.
use Rattle.std.proofs.Common.{◌≡◌, ◌≢◌, ℕ, zero, suc, ◌+◌, ◌<◌, ◌≤◌, refl, sym, ap, ◌∙◌, subst, arith, Bool, true, false, cond, Option, Some, None, List, [], ◌∷◌, length, take}
use Rattle.std.specs.Prelude.{slice_index}
use Rattle.std.proofs.lemmas.List.{get_or-take, length-take-le}
use Rattle.bus_core.specs.declared.operation.BusEntry.{BusEntry}
use Rattle.bus_core.specs.Operation.{loaded, stored}
use Rattle.bus_core.specs.Trace.{Memory}
use Rattle.counted_ring.specs.declared.place.WqPlace.{WqPlace}
use Rattle.counted_ring.specs.Place.{is_send, span, all_words, record_of}
use Rattle.counted_ring.specs.Queue.{Request, Queue, WqEvent, Wrote, Full, Rang, Named, Found, Retired, Counted, Took, index_in, index_of, empty_queue, after_event}
use Rattle.counted_ring.specs.Mark.{WqMark, Post, Ring, Lookup, Count, Retire, Look, Record, Read, Foreign}
use Rattle.counted_ring.specs.Poster.{Poster, Stage, Ready, Storing, Naming, Counting, Ringing, has_room, post_says_at, ring_says_at}
use Rattle.counted_ring.specs.PosterView.{brought, fresh_side}
use Rattle.counted_ring.specs.Rung.{Rung, rung_of, rung_at, rung_after, back_to, unrung}
use Rattle.counted_ring.specs.Retirer.{Retirer}
use Rattle.counted_ring.specs.Device.{WqReader}
use Rattle.counted_ring.proofs.Requests.{request_of, index_more}
use Rattle.counted_ring.proofs.Shape.{Shape, Order, rises, last_index}
use Rattle.counted_ring.proofs.Tied.{Tied, Holds, PosterFits, StageFits}
use Rattle.counted_ring.proofs.Moved.{RetirerFits_moved, DeviceFits_moved}

-- requests in front of the cut keep their indices, and the next one begins at it
index_cut : (rs : List Request) (next k n : ℕ) → n ≤ k → k ≤ length rs → index_in (take k rs) (index_in rs next k) n ≡ index_in rs next n
index_cut [] next zero zero low high = refl
index_cut [] next zero (suc n) low high = absurd (omega (arith, low))
index_cut [] next (suc k) n low high = absurd (omega (arith, high))
index_cut (r ∷ rs) next zero zero low high = refl
index_cut (r ∷ rs) next zero (suc n) low high = absurd (omega (arith, low))
index_cut (r ∷ rs) next (suc k) zero low high = refl
index_cut (r ∷ rs) next (suc k) (suc n) low high = index_cut rs next k n (omega (arith, low)) (omega (arith, high))

module _ (place : WqPlace) (q : Queue) (s : Shape place q) where
  abbrev cut : Queue
  cut = unrung q

  count_cut : length cut.requests ≡ q.rung
  count_cut = length-take-le q.rung q.requests s.order.rung

  index_kept : (n : ℕ) → n ≤ q.rung → index_of cut n ≡ index_of q n
  index_kept n low = index_cut q.requests q.next q.rung n low s.order.rung

  request_kept : (n : ℕ) → n < q.rung → request_of cut n ≡ request_of q n
  request_kept n low = get_or-take q.rung q.requests n (record { index = 0; words = []; id = 0 }) low

  order_cut : Order place cut
  order_cut = record {
    retired = s.order.retired;
    taken = s.order.taken;
    rung = omega (arith, count_cut);
    bound = omega (arith, count_cut, s.order.rung, s.order.bound);
    spaced = λ n inside.
        let below : n < q.rung = omega (arith, inside, count_cut) in
        let same = ap (λ (r : Request). span place (slice_index r.words 0)) (request_kept n below) in
        omega (arith, index_kept (n + 1) (omega (arith, below)), index_kept n (omega (arith, below)), s.order.spaced n (omega (arith, below, s.order.rung)), same);
  }

  shape_cut : Shape place cut
  shape_cut = record {
    order = order_cut;
    few = omega (arith, count_cut, s.order.rung, s.few);
    low = omega (arith, rises place q s.order q.rung (length q.requests) s.order.rung (omega arith), last_index place q s.order, s.low);
    whole = λ n inside.
        let below : n < q.rung = omega (arith, inside, count_cut) in
        subst (λ (r : Request). length r.words ≡ all_words place r.words) (sym (request_kept n below)) (s.whole n (omega (arith, below, s.order.rung)));
  }

-- what was posted at the last ring is what the list has rung for
pub record RungFits (q : Queue) (rung : Rung) : Type 0 where
  pub count : rung.count ≡ q.rung
  pub index : rung.index ≡ index_of q q.rung

-- The adapter and the retirer know of none of it.
pub Tied_dropped : (place : WqPlace) (m : Memory) (p : Poster) (rung : Rung) (r : Retirer) (d : WqReader) (q : Queue) → RungFits q rung → Tied place m p r d q → Tied place m (back_to rung p) r d (unrung q)
Tied_dropped place m p rung r d q f t =
    let s = t.shape in
    let o = t.shape.order in
    record {
      shape = shape_cut place q s;
      tail = t.tail;
      recorded = t.recorded ∙ ap record_of (sym (index_kept place q s q.rung (omega arith)));
      stored = λ n low inside.
          let below : n < q.rung = omega (arith, inside, count_cut place q s) in
          subst (λ (x : Request). Holds place m (index_of (unrung q) n) n x) (sym (request_kept place q s n below))
          (subst (λ (i : ℕ). Holds place m i n (request_of q n)) (sym (index_kept place q s n (omega (arith, below)))) (t.stored n low (omega (arith, below, o.rung))));
      poster = record { count = f.count ∙ sym (count_cut place q s); index = f.index; least = t.poster.least; room = omega (arith, f.count, o.rung, t.poster.count, t.poster.room); stage = tt };
      retirer = RetirerFits_moved place q (unrung q) refl (omega arith) (λ n h. index_kept place q s n (omega (arith, h, o.taken))) (λ n h. request_kept place q s n (omega (arith, h, o.taken))) r t.retirer;
      device = DeviceFits_moved q (unrung q) refl (omega arith) (λ n h. index_kept place q s n h) (λ n h. request_kept place q s n h) d t.device;
    }

-- and it stays so where the poster drops them
pub RungFits_dropped : (place : WqPlace) (q : Queue) (rung : Rung) → Shape place q → RungFits q rung → RungFits (unrung q) rung
RungFits_dropped place q rung s f = record { count = f.count; index = f.index ∙ sym (index_kept place q s q.rung (omega arith)) }

-- as what was rung before the first post
pub RungFits_start : (index : ℕ) → RungFits (empty_queue index) (rung_of (fresh_side index))
RungFits_start index = record { count = refl; index = refl }

-- other users leave it
pub RungFits_kept : (place : WqPlace) (q : Queue) (rung : Rung) (event : WqEvent) → Order place q → event ≢ Rang → RungFits q rung → RungFits (after_event place q event) rung
RungFits_kept place q rung (Wrote words id) o other f = record { count = f.count; index = f.index ∙ sym (index_more place q words id q.rung o.rung) }
RungFits_kept place q rung (Full head tail) o other f = f
RungFits_kept place q rung Rang o other f = absurd (other refl)
RungFits_kept place q rung (Named counter id) o other f = f
RungFits_kept place q rung (Found counter id end) o other f = f
RungFits_kept place q rung (Retired end) o other f = record { count = f.count; index = f.index }
RungFits_kept place q rung (Counted ready true) o other f = record { count = f.count; index = f.index }
RungFits_kept place q rung (Counted ready false) o other f = f
RungFits_kept place q rung (Took words) o other f = record { count = f.count; index = f.index }

-- what an event, if there is one, makes of a list
abbrev pub after_says : WqPlace → Queue → Option WqEvent → Queue
after_says place q None = q
after_says place q (Some event) = after_event place q event

-- and an operation of the poster's keeps it, or is the store of a record
module _ (place : WqPlace) (m : Memory) (q : Queue) (p : Poster) (rung : Rung) (o : Order place q) (fits : PosterFits place m q p) (f : RungFits q rung) where
  asked : (e : BusEntry) (room : Bool) → RungFits (after_says place q (cond room None (Some (Full p.count (loaded e))))) rung
  asked e true = f
  asked e false = f

  wrote : (words : List ℕ) (id : ℕ) → RungFits (after_event place q (Wrote words id)) rung
  wrote words id = RungFits_kept place q rung (Wrote words id) o (λ same. cc) f

  named : (words : List ℕ) (id : ℕ) (send : Bool) → RungFits (after_says place q (cond send None (Some (Wrote words id)))) rung
  named words id true = f
  named words id false = wrote words id

  posts : (stage : Stage) (e : BusEntry) → RungFits (after_says place q (post_says_at place p stage e)) rung
  posts Ready e = asked e (has_room place p e)
  posts (Storing words) e = f
  posts (Naming words) e = named words (stored e) (is_send place)
  posts (Counting words id) e = wrote words id
  posts Ringing e = f

  rings : (stage : Stage) → RungFits (after_says place q (ring_says_at stage)) (rung_at stage p rung)
  rings Ready = record { count = fits.count; index = fits.index ∙ sym (last_index place q o) }
  rings (Storing words) = f
  rings (Naming words) = f
  rings (Counting words id) = f
  rings Ringing = f

  pub RungFits_step : (mark : WqMark) (e : BusEntry) → RungFits (after_says place q (brought place p mark e)) (rung_after mark p rung)
  RungFits_step Post e = posts p.stage e
  RungFits_step Ring e = rings p.stage
  RungFits_step (Lookup counter from) e = f
  RungFits_step Count e = f
  RungFits_step (Retire end) e = f
  RungFits_step Look e = f
  RungFits_step (Record passes) e = f
  RungFits_step Read e = f
  RungFits_step Foreign e = f
