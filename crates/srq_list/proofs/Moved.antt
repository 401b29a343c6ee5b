-- What a user knows of a list still stands where another user has moved the list on.
use Rattle.std.proofs.Common.{◌≡◌, ℕ, ◌+◌, ◌<◌, ◌≤◌, ap, sym, ◌∙◌, subst, arith, List, length, take}
use Rattle.bus_core.specs.Trace.{Memory}
use Rattle.srq_list.specs.declared.place.SrqPlace.{SrqPlace}
use Rattle.srq_list.specs.Place.{entry_at}
use Rattle.srq_list.specs.Queue.{Receive, SharedQueue, slot_at}
use Rattle.srq_list.specs.Poster.{Poster, Stage, Ready, Following, Storing, Naming}
use Rattle.srq_list.specs.Device.{Taker, Progress, Asking, Fetching, Reading}
use Rattle.srq_list.proofs.Shape.{Shape, receive_of}
use Rattle.srq_list.proofs.Tied.{Fills, StageFits, PosterFits, Reads, ProgressFits, TakerFits}

-- a list of which more was taken or freed
module _ (place : SrqPlace) (m : Memory) (q q' : SharedQueue) (s : Shape place q) (receives : length q'.receives ≡ length q.receives) (rung : q'.rung ≡ q.rung)
    (longer : length q.chain ≤ length q'.chain) (same : (n : ℕ) → n < length q.chain → slot_at q' n ≡ slot_at q n) where
  head_is : slot_at q' (length q'.receives) ≡ slot_at q (length q.receives)
  head_is = ap (slot_at q') receives ∙ same (length q.receives) s.room

  Fills_moved : (next : ℕ) (words : List ℕ) → Fills place m q next words → Fills place m q' next words
  Fills_moved next words h = record {
    room = omega (arith, h.room, receives, longer);
    next_is = h.next_is ∙ (sym (same (length q.receives + 1) h.room) ∙ ap (λ n. slot_at q' (n + 1)) (sym receives));
    each = λ k low. ap (λ slot. m (entry_at place slot k)) head_is ∙ h.each k low;
  }

  StageFits_moved : (stage : Stage) → StageFits place m q stage → StageFits place m q' stage
  StageFits_moved Ready h = tt
  StageFits_moved Following h = omega (arith, h, receives, longer)
  StageFits_moved (Storing next words) h = (Fills_moved next words h.0, h.1)
  StageFits_moved (Naming next words) h = (Fills_moved next words h.0, h.1)

  pub PosterFits_moved : (p : Poster) → PosterFits place m q p → PosterFits place m q' p
  PosterFits_moved p h = record {
    rung = h.rung ∙ sym rung;
    first = h.first ∙ (sym (same q.rung (omega (arith, s.rung, s.room))) ∙ ap (slot_at q') (sym rung));
    count = h.count ∙ sym receives;
    head = h.head ∙ sym head_is;
    stage = StageFits_moved p.stage h.stage;
  }

-- a list of which more was written, rung or freed
module _ (place : SrqPlace) (q q' : SharedQueue) (s : Shape place q) (taken : q'.taken ≡ q.taken) (rung : q.rung ≤ q'.rung)
    (same : (n : ℕ) → n < length q.chain → slot_at q' n ≡ slot_at q n) (receive : (n : ℕ) → n < q.rung → receive_of q' n ≡ receive_of q n) where
  Reads_moved : (next : ℕ) (words : List ℕ) → Reads place q next words → Reads place q' next words
  Reads_moved next words h =
      let entry : (receive_of q q.taken).words ≡ (receive_of q' q'.taken).words = ap (λ (r : Receive). r.words) (sym (receive q.taken h.rung)) ∙ ap (λ (n : ℕ). (receive_of q' n).words) (sym taken) in
      record {
        rung = omega (arith, h.rung, taken, rung);
        next_is = h.next_is ∙ (sym (same (q.taken + 1) (omega (arith, h.rung, s.rung, s.room))) ∙ ap (λ n. slot_at q' (n + 1)) (sym taken));
        part = h.part;
        words_are = subst (λ (ws : List ℕ). words ≡ take (length words) ws) entry h.words_are;
      }

  ProgressFits_moved : (progress : Progress) → ProgressFits place q progress → ProgressFits place q' progress
  ProgressFits_moved Asking h = tt
  ProgressFits_moved Fetching h = omega (arith, h, taken, rung)
  ProgressFits_moved (Reading next words) h = Reads_moved next words h

  pub TakerFits_moved : (d : Taker) → TakerFits place q d → TakerFits place q' d
  TakerFits_moved d h = record {
    taken = h.taken ∙ sym taken;
    slot = h.slot ∙ (sym (same q.taken (omega (arith, s.taken, s.rung, s.room))) ∙ ap (slot_at q') (sym taken));
    progress = ProgressFits_moved d.progress h.progress;
  }
