-- What a poll's look at the completion queue can say, and where the host is after it.
use Rattle.std.proofs.Common.{◌≡◌, ℕ, refl, sym, subst, ◌==◌, ◌+◌, ◌++◌, if◌then◌else◌, eqb, List, [], ◌∷◌, length, Option, None, Some}
use Rattle.std.proofs.lemmas.Bool.{cond_both}
use Rattle.bus_core.specs.declared.operation.BusEntry.{BusEntry}
use Rattle.bus_core.specs.Operation.{loaded}
use Rattle.owner_ring.specs.Place.{is_owned}
use Rattle.owner_ring.specs.Consumer.{Consumer, Waiting, Reading, next_index}
use Rattle.owner_ring.specs.Ring as ring
use Rattle.cq_pair.specs.declared.place.CqPlace.{CqPlace}
use Rattle.cq_pair.specs.Place.{ring_of}
use Rattle.cq_pair.specs.Mark.{QueueMark, Publish, Lose, Look, Read, Take, Acknowledge, Foreign}
use Rattle.cq_pair.specs.Queue.{QueueEvent, Took, Empty}
use Rattle.cq_pair.specs.Host.{after_poll, polled, found}
use Rattle.provider_poll.specs.Rule.{IsNextOf}
use Rattle.actor_rules.specs.Completions.{ReadsNext}

-- at most that there was none, or that the next one was taken
abbrev pub IsLook : Consumer → Option QueueEvent → Type 0
IsLook c None = Unit {0}
IsLook c (Some (Took index completion)) = index ≡ next_index c
IsLook c (Some (Empty index)) = Unit {0}
IsLook c (Some _) = ⊥

module _ (place : CqPlace) (e : BusEntry) where
  pub look_says : (c : Consumer) (mark : QueueMark) → IsNextOf c mark → ReadsNext c → IsLook c (polled place c mark e)
  look_says (Waiting a n) mark next reads = subst (λ (x : QueueMark). IsLook (Waiting a n) (polled place (Waiting a n) x e)) (sym next) (cond_both (is_owned (ring_of place) n (loaded e)) None (Some (ring.Empty n)) (λ x. IsLook (Waiting a n) (found x)) (λ o. tt) (λ o. tt))
  look_says (Reading a n i k words) Read next reads = tt
  look_says (Reading a n i k words) (Take completion) next reads = reads
  look_says (Reading a n i k words) (Publish completion) next reads = absurd next
  look_says (Reading a n i k words) Lose next reads = absurd next
  look_says (Reading a n i k words) (Look j) next reads = absurd next
  look_says (Reading a n i k words) (Acknowledge j) next reads = absurd next
  look_says (Reading a n i k words) Foreign next reads = absurd next

  read_on : (a n i k : ℕ) (words : List ℕ) → i ≡ n → ReadsNext (if length words == 6 then Waiting a (i + 1) else Reading a n i k (words ++ loaded e ∷ []))
  read_on a n i k words reads = cond_both (eqb (length words) 6) (Waiting a (i + 1)) (Reading a n i k (words ++ loaded e ∷ [])) ReadsNext (λ o. tt) (λ o. reads)

  pub look_reads : (c : Consumer) (mark : QueueMark) → IsNextOf c mark → ReadsNext c → ReadsNext (after_poll place c mark e)
  look_reads (Waiting a n) mark next reads = subst (λ (x : QueueMark). ReadsNext (after_poll place (Waiting a n) x e)) (sym next) (cond_both (is_owned (ring_of place) n (loaded e)) (Reading a n n (loaded e) []) (Waiting a n) ReadsNext (λ o. refl) (λ o. tt))
  look_reads (Reading a n i k words) Read next reads = read_on a n i k words reads
  look_reads (Reading a n i k words) (Take completion) next reads = read_on a n i k words reads
  look_reads (Reading a n i k words) (Publish completion) next reads = absurd next
  look_reads (Reading a n i k words) Lose next reads = absurd next
  look_reads (Reading a n i k words) (Look j) next reads = absurd next
  look_reads (Reading a n i k words) (Acknowledge j) next reads = absurd next
  look_reads (Reading a n i k words) Foreign next reads = absurd next
