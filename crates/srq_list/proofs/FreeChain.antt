-- The free slots are those from the head to the tail word.
use Rattle.std.proofs.Common.{◌≡◌, ℕ, zero, suc, ◌+◌, ◌-◌, ◌<◌, ◌≤◌, ap, sym, ◌∙◌, subst, arith, List, [], ◌∷◌, length, drop, drop-cons}
use Rattle.std.proofs.lemmas.List.{drop_all}
use Rattle.bus_core.specs.Mark.{Marked, entries}
use Rattle.bus_core.specs.Trace.{Memory, memory_after}
use Rattle.srq_list.specs.declared.place.SrqPlace.{SrqPlace}
use Rattle.srq_list.specs.Queue.{SharedQueue, slot_at, free_slots}
use Rattle.srq_list.specs.Mark.{SrqMark}
use Rattle.srq_list.specs.Poster.{Poster}
use Rattle.srq_list.specs.Freer.{Freer}
use Rattle.srq_list.specs.Device.{Taker}
use Rattle.srq_list.specs.Law.{IsRun, users_after, queue_after}
use Rattle.srq_list.specs.Chain.{LeadsAlong, IsFreeChain}
use Rattle.srq_list.proofs.Tied.{Tied}
use Rattle.srq_list.proofs.Law.{run_ends}

module _ (place : SrqPlace) (start : ℕ) (m : Memory) (p : Poster) (f : Freer) (d : Taker) (q : SharedQueue) (t : Tied place start m p f d q) where
  drop-one : (n : ℕ) → n < length q.chain → drop n q.chain ≡ slot_at q n ∷ drop (n + 1) q.chain
  drop-one n inside = drop-cons q.chain n 0 inside ∙ (let one : suc n ≡ n + 1 = omega arith in ap (λ (k : ℕ). slot_at q n ∷ drop k q.chain) one)

  -- from slot n of the chain, behind which so many stand
  leads : (count n : ℕ) → q.taken ≤ n → n + 1 + count ≡ length q.chain → LeadsAlong place m (slot_at q n) (drop (n + 1) q.chain)
  leads zero n low last =
      let none : [] ≡ drop (n + 1) q.chain = sym (drop_all (n + 1) q.chain (omega (arith, last))) in
      subst (LeadsAlong place m (slot_at q n)) none (t.tail ∙ ap (slot_at q) (omega (arith, last)))
  leads (suc count) n low last =
      let inside : n + 1 < length q.chain = omega (arith, last) in
      let more : slot_at q (n + 1) ∷ drop (n + 1 + 1) q.chain ≡ drop (n + 1) q.chain = sym (drop-one (n + 1) inside) in
      subst (LeadsAlong place m (slot_at q n)) more (t.linked n low inside, leads count (n + 1) (omega (arith, low)) (omega (arith, last)))

  pub free_chain : IsFreeChain place m p.head (free_slots q)
  free_chain =
      let n : ℕ = length q.receives in
      let room = t.shape.room in
      let others : List ℕ = drop (n + 1) q.chain in
      record {
        others = others;
        slots_are = drop-one n room ∙ ap (λ slot. slot ∷ others) (sym t.poster.head);
        chain = subst (λ slot. LeadsAlong place m slot others) (sym t.poster.head) (leads (length q.chain - (n + 1)) n (omega (arith, t.shape.taken, t.shape.rung)) (omega (arith, room)));
      }

pub links_free_slots : (place : SrqPlace) (start : ℕ) (m : Memory) (trace : List (Marked SrqMark)) → IsRun place start m trace → IsFreeChain place (memory_after m (entries trace)) (users_after place start trace).poster.head (free_slots (queue_after place start trace))
links_free_slots place start m trace r =
    let u = users_after place start trace in
    free_chain place start (memory_after m (entries trace)) u.poster u.freer u.taker (queue_after place start trace) (run_ends place start r.place_ok m trace r).1
