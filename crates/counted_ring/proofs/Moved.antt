-- What a user knows of a list still stands where another user has moved the list on.
use Rattle.std.proofs.Common.{◌≡◌, ℕ, ◌%◌, ◌^◌, ◌<◌, ◌≤◌, inl, inr, ap, sym, ◌∙◌, subst, arith, List, length, take, Option, Some, None}
use Rattle.bus_core.specs.Trace.{Memory}
use Rattle.counted_ring.specs.declared.place.WqPlace.{WqPlace}
use Rattle.counted_ring.specs.Place.{word_at, id_at}
use Rattle.counted_ring.specs.Queue.{Request, Queue, index_of}
use Rattle.counted_ring.specs.Poster.{Poster, Stage, Ready, Storing, Naming, Counting, Ringing}
use Rattle.counted_ring.specs.Retirer.{Asked, Retirer}
use Rattle.counted_ring.specs.Device.{WqReader}
use Rattle.counted_ring.proofs.Requests.{request_of}
use Rattle.counted_ring.proofs.Tied.{Fills, StageFits, PosterFits, AskedFits, RetirerFits, Reads, DeviceFits}

-- a list with the same requests, of which more were retired
module _ (place : WqPlace) (m : Memory) (q q' : Queue) (count : length q'.requests ≡ length q.requests) (retired : q.retired ≤ q'.retired) (next : q'.next ≡ q.next) where
  Fills_moved : (words : List ℕ) → Fills place m q words → Fills place m q' words
  Fills_moved words h = record {
    room = omega (arith, h.room, count, retired);
    low = omega (arith, h.low, count);
    next_low = omega (arith, h.next_low, next);
    each = λ k l. ap (λ (i : ℕ). m (word_at place i k)) next ∙ h.each k l;
  }

  StageFits_moved : (stage : Stage) → StageFits place m q stage → StageFits place m q' stage
  StageFits_moved Ready h = tt
  StageFits_moved (Storing words) h = (Fills_moved words h.0, h.1)
  StageFits_moved (Naming words) h = (Fills_moved words h.0, h.1)
  StageFits_moved (Counting words id) h = (Fills_moved words h.0, h.1, record { send = h.2.send; id_is = ap (λ (i : ℕ). m (id_at place i)) next ∙ h.2.id_is })
  StageFits_moved Ringing h = tt

  pub PosterFits_moved : (p : Poster) → PosterFits place m q p → PosterFits place m q' p
  PosterFits_moved p h = record { count = h.count ∙ sym count; index = h.index ∙ sym next; least = omega (arith, h.least, retired); room = h.room; stage = StageFits_moved p.stage h.stage }

-- a list of which more was posted, rung or taken
module _ (place : WqPlace) (q q' : Queue) (retired : q'.retired ≡ q.retired) (taken : q.taken ≤ q'.taken)
    (index : (n : ℕ) → n < q.taken → index_of q' n ≡ index_of q n) (request : (n : ℕ) → n < q.taken → request_of q' n ≡ request_of q n) where
  AskedFits_moved : (asked : Option Asked) → AskedFits place q asked → AskedFits place q' asked
  AskedFits_moved None h = tt
  AskedFits_moved (Some a) h = record {
    send = h.send;
    number = h.number;
    retired = omega (arith, h.retired, retired);
    taken = omega (arith, h.taken, taken);
    counter_is = h.counter_is ∙ ap (λ (i : ℕ). i % 2 ^ 16) (sym (index h.number h.taken));
    id_is = h.id_is ∙ ap (λ (r : Request). r.id) (sym (request h.number h.taken));
  }

  pub RetirerFits_moved : (r : Retirer) → RetirerFits place q r → RetirerFits place q' r
  RetirerFits_moved r h = record { tail = h.tail ∙ sym retired; found = omega (arith, h.found, taken); asked = AskedFits_moved r.asked h.asked }

-- a list of which more was posted, rung or retired
module _ (q q' : Queue) (taken : q'.taken ≡ q.taken) (rung : q.rung ≤ q'.rung)
    (index : (n : ℕ) → n ≤ q.rung → index_of q' n ≡ index_of q n) (request : (n : ℕ) → n < q.rung → request_of q' n ≡ request_of q n) where
  Reads_moved : (words : List ℕ) → Reads q words → Reads q' words
  Reads_moved words h =
      let same : (request_of q q.taken).words ≡ (request_of q' q'.taken).words = ap (λ (r : Request). r.words) (sym (request q.taken h.shown)) ∙ ap (λ (n : ℕ). (request_of q' n).words) (sym taken) in
      record {
        shown = omega (arith, h.shown, taken, rung);
        part = subst (λ (ws : List ℕ). length words < length ws) same h.part;
        words_are = subst (λ (ws : List ℕ). words ≡ take (length words) ws) same h.words_are;
      }

  pub DeviceFits_moved : (d : WqReader) → DeviceFits q d → DeviceFits q' d
  DeviceFits_moved d h = record {
    seen = h.seen;
    low = omega (arith, h.low, taken);
    high = omega (arith, h.high, rung);
    next_is = h.next_is ∙ (sym (index q.taken (omega (arith, h.low, h.high))) ∙ ap (index_of q') (sym taken));
    ready_is = h.ready_is ∙ sym (index h.seen h.high);
    words = elim h.words [ inl none ↦ inl none | inr reads ↦ inr (Reads_moved d.words reads) ];
  }
