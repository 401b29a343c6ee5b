-- What a poll has seen as published, and that it serves for the poll's entry.
use Rattle.std.proofs.Common.{◌≡◌, ℕ, refl, sym, subst, arith, ◌==◌, ◌+◌, ◌-◌, ◌<◌, ◌≤◌, ◌++◌, ◌∙◌, Bool, true, false, if◌then◌else◌, eqb, List, [], ◌∷◌, length, map, take, Option, None, Some}
use Rattle.std.specs.Prelude.{MatchBool}
use Rattle.std.proofs.lemmas.Bool.{eq-eqb}
use Rattle.std.proofs.lemmas.List.{length-drop, length-map}
use Rattle.bus_core.specs.declared.operation.BusEntry.{BusEntry}
use Rattle.bus_core.specs.Operation.{loaded}
use Rattle.bus_core.specs.Trace.{Memory}
use Rattle.verbs_types.specs.declared.completion.Completion.{Completion}
use Rattle.verbs_types.specs.declared.declaration.Lines.{Lines}
use Rattle.verbs_types.specs.declared.entry.What.TheVariants.{Poll}
use Rattle.verbs_types.specs.declared.state.Unpolled.{Unpolled}
use Rattle.verbs_rules.specs.State.{Verbs}
use Rattle.verbs_rules.specs.OfOne.{completions_in}
use Rattle.actor_map.specs.Notes.{Serves, ShowsTaken}
use Rattle.owner_ring.specs.Consumer.{Consumer, Waiting, Reading, next_index}
use Rattle.owner_ring.specs.ConsumerView.{seen_after}
use Rattle.owner_ring.specs.Place.{is_owned}
use Rattle.owner_ring.specs.Ring as ring
use Rattle.owner_ring.specs.Ring.{Ring, published}
use Rattle.owner_ring.proofs.Tied.{ConsumerFits}
use Rattle.cq_pair.specs.declared.place.CqPlace.{CqPlace}
use Rattle.cq_pair.specs.Device.{QueueDevice}
use Rattle.cq_pair.specs.Host.{after_poll, polled, found}
use Rattle.cq_pair.specs.Mark.{QueueMark, Publish, Lose, Look, Read, Take, Acknowledge, Foreign, ring_mark}
use Rattle.cq_pair.specs.Place.{ring_of}
use Rattle.cq_pair.specs.Queue.{PlainQueue, QueueEvent, Took, Empty, produced, since}
use Rattle.cq_pair.proofs.Tied as completions
use Rattle.provider_poll.specs.Rule.{PollRule, IsNextOf}
use Rattle.actor_rules.proofs.Matching.{match_length}
use Rattle.actor_rules.specs.Objects.{Lists}
use Rattle.actor_rules.specs.Completions.{CompletionsStand, IsCompletion, IsSeen, ReadsNext, completion_in}

-- Where the host is among the published entries

abbrev pub IsBelow : Consumer → ℕ → Type 0
IsBelow (Waiting acked next) bound = Unit {0}
IsBelow (Reading acked next index last words) bound = index < bound

known_below : (entries : Ring) (c : Consumer) → ConsumerFits entries c → (next_index c ≤ published entries) × IsBelow c (published entries)
known_below entries (Waiting acked next) fits = (fits.next_in, tt)
known_below entries (Reading acked next index last words) fits = (fits.0.next_in, fits.1.high)

pub below_produced : (place : CqPlace) (m : Memory) (d : QueueDevice) (c : Consumer) (q : PlainQueue) → completions.Tied place m d c q → (next_index c ≤ produced q) × IsBelow c (produced q)
below_produced place m d c q t = subst (λ (n : ℕ). (next_index c ≤ n) × IsBelow c n) (sym (completions.same_produced t.entries d c q t.fits)) (known_below t.entries c t.ring.consumer)

-- What a look shows

abbrev pub ShowsAs : Consumer → ℕ → Option QueueEvent → Type 0
ShowsAs c seen None = next_index c ≤ seen
ShowsAs c seen (Some (Took index completion)) = index < seen
ShowsAs c seen (Some (Empty index)) = seen ≡ index
ShowsAs c seen (Some _) = Unit {0}

pub record Sees (c : Consumer) (before seen : ℕ) (said : Option QueueEvent) : Type 0 where
  pub reading : IsSeen c seen
  pub least : (bound : ℕ) → before ≤ bound → next_index c ≤ bound → IsBelow c bound → seen ≤ bound
  pub shows : ShowsAs c seen said

module _ (place : CqPlace) (e : BusEntry) (seen : ℕ) where
  abbrev Looks : Consumer → QueueMark → Type 0
  Looks c mark = Sees (after_poll place c mark e) seen (seen_after (ring_of place) (ring_mark mark) seen e) (polled place c mark e)

  at_look : (a n : ℕ) (b : Bool) → Sees (if b then Reading a n n (loaded e) [] else Waiting a n) seen (if b then n + 1 else n) (found (if b then None else Some (ring.Empty n)))
  at_look a n true = record { reading = omega arith; least = λ bound low next below. omega (arith, below); shows = omega arith }
  at_look a n false = record { reading = tt; least = λ bound low next below. next; shows = refl }

  read_on : (a n i k : ℕ) (ws : List ℕ) (said : Option QueueEvent) → i < seen → ((c : Consumer) → next_index c ≤ seen → ShowsAs c seen said) → i ≡ n → (b : Bool) → Sees (if b then Waiting a (i + 1) else Reading a n i k ws) seen seen said
  read_on a n i k ws said inside shows reads true = record { reading = tt; least = λ bound low next below. low; shows = shows (Waiting a (i + 1)) (omega (arith, inside)) }
  read_on a n i k ws said inside shows reads false = record { reading = inside; least = λ bound low next below. low; shows = shows (Reading a n i k ws) (omega (arith, inside, reads)) }

  pub look_sees : (c : Consumer) (mark : QueueMark) → IsNextOf c mark → ReadsNext c → IsSeen c seen → Looks c mark
  look_sees (Waiting a n) mark next reads inside = subst (Looks (Waiting a n)) (sym next) (at_look a n (is_owned (ring_of place) n (loaded e)))
  look_sees (Reading a n i k ws) Read next reads inside = read_on a n i k (ws ++ loaded e ∷ []) None inside (λ c low. low) reads (eqb (length ws) 6)
  look_sees (Reading a n i k ws) (Take completion) next reads inside = read_on a n i k (ws ++ loaded e ∷ []) (Some (Took i completion)) inside (λ c low. inside) reads (eqb (length ws) 6)
  look_sees (Reading a n i k ws) (Publish completion) next reads inside = absurd next
  look_sees (Reading a n i k ws) Lose next reads inside = absurd next
  look_sees (Reading a n i k ws) (Look j) next reads inside = absurd next
  look_sees (Reading a n i k ws) (Acknowledge j) next reads inside = absurd next
  look_sees (Reading a n i k ws) Foreign next reads inside = absurd next

-- What was seen serves for the entry

module _ (d : Lines) (cq most : ℕ) (l : Lists) (v : Verbs) (p : PollRule) (given : List Completion) (s : CompletionsStand d l p given v cq) (within : next_index p.host ≤ produced (l.completions cq)) where
  abbrev us : List Unpolled
  us = v.unpolled cq

  abbrev told : List Completion
  told = map completion_in (take most us)

  -- all that was published is what entries have told of, and what none has
  all_is : v.device.produced cq ≡ s.from + length us
  all_is =
      let words = match_length (IsCompletion l) (since (l.completions cq) s.from) us s.unpolled in
      omega (arith, words, s.counts.produced, s.low, s.from_is, within, length-drop (s.from - (l.completions cq).acked) (l.completions cq).completions)

  -- of a poll that took as many as it asked for
  pub full_serves : (seen : ℕ) → seen ≤ v.device.produced cq → length (take most us) ≡ most → s.from + most ≤ seen → Serves v (Poll cq most told) seen
  full_serves seen least full enough =
      let count : length told ≡ most = length-map (take most us) completion_in ∙ full in
      subst (λ (b : Bool). MatchBool b (ShowsTaken (completions_in v cq) (length told) seen) (seen ≡ v.device.produced cq)) (sym (eq-eqb (length told) most count)) (record { least = least; enough = omega (arith, count, all_is, enough) })

  -- of one that found no more
  pub exact_serves : (seen : ℕ) → seen ≡ v.device.produced cq → length (take most us) ≤ length us → Serves v (Poll cq most told) seen
  exact_serves seen exact few =
      let count : length told ≡ length (take most us) = length-map (take most us) completion_in in
      cond_by (length told == most) (record { least = omega (arith, exact); enough = omega (arith, exact, all_is, count, few) }) exact
    where
      cond_by : (b : Bool) → ShowsTaken (completions_in v cq) (length told) seen → seen ≡ v.device.produced cq → MatchBool b (ShowsTaken (completions_in v cq) (length told) seen) (seen ≡ v.device.produced cq)
      cond_by true shows same = shows
      cond_by false shows same = same
