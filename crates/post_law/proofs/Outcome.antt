-- What an operation of a call to post comes to, by how far the call is.
use Rattle.std.proofs.Common.{◌≡◌, ℕ, refl, sym, subst, inl, inr, Bool, true, false, if◌then◌else◌, List, [], Option, None, Some}
use Rattle.std.proofs.lemmas.Bool.{cases_Bool}
use Rattle.bus_core.specs.declared.operation.BusEntry.{BusEntry}
use Rattle.bus_core.specs.Operation.{stored, loaded}
use Rattle.counted_ring.specs.declared.place.WqPlace.{WqPlace}
use Rattle.counted_ring.specs.Place.{is_send}
use Rattle.counted_ring.specs.Poster.{Poster, Stage, Ready, Storing, Naming, Counting, Ringing, has_room, at_stage, posted_one, MayPostAt, after_post_at, post_says_at, MayRingAt, after_ring_at, ring_says_at}
use Rattle.counted_ring.specs.PosterView.{MayBring, after_bring, brought}
use Rattle.counted_ring.specs.Queue.{WqEvent, Wrote, Full, Rang}
use Rattle.provider_post.specs.declared.call.Call.{Call}
use Rattle.provider_post.specs.Call.{is_written, mark_of, mark_at}
use Rattle.provider_post.specs.Inside.{StageFits}

-- what the operation says, and the stage of the poster after it
pub data Outcome (place : WqPlace) (c : Call) (stage : Stage) (said : Option WqEvent) : Type 0 where
  GoesOn : said ≡ None → is_written c ≡ false → Outcome place c stage said
  Writes : (words : List ℕ) (id : ℕ) → said ≡ Some (Wrote words id) → is_written c ≡ false → stage ≡ Ready → Outcome place c stage said
  Refuses : (head tail : ℕ) → said ≡ Some (Full head tail) → is_written c ≡ false → stage ≡ Ready → Outcome place c stage said
  Rings : said ≡ Some Rang → is_written c ≡ true → c.recorded ≡ false → stage ≡ (if is_send place then Ringing else Ready) → Outcome place c stage said
  Registers : said ≡ None → is_written c ≡ true → c.recorded ≡ true → stage ≡ Ready → Outcome place c stage said

abbrev is_ready : Stage → Type 0
is_ready Ready = Unit {0}
is_ready _ = ⊥

module _ (place : WqPlace) (c : Call) (p : Poster) (e : BusEntry) where
  abbrev PostComes : Stage → Type 0
  PostComes stage = Outcome place c (after_post_at place p stage e).stage (post_says_at place p stage e)

  begins : (room : Bool) → is_written c ≡ false → Outcome place c (at_stage p (if room then Storing [] else Ready)).stage (if room then None else Some (Full p.count (loaded e)))
  begins true more = GoesOn refl more
  begins false more = Refuses p.count (loaded e) refl more refl

  names : (send : Bool) (words : List ℕ) → is_written c ≡ false → Outcome place c (if send then at_stage p (Counting words (stored e)) else posted_one place p words).stage (if send then None else Some (Wrote words (stored e)))
  names true words more = GoesOn refl more
  names false words more = Writes words (stored e) refl more refl

  post_comes : (stage : Stage) → MayPostAt place p stage e → is_written c ≡ false → PostComes stage
  post_comes Ready may more = begins (has_room place p e) more
  post_comes (Storing words) may more = GoesOn refl more
  post_comes (Naming words) may more = names (is_send place) words more
  post_comes (Counting words id) may more = Writes words id refl more refl
  post_comes Ringing may more = absurd may

  ring_comes : (stage : Stage) → MayRingAt place p stage e → StageFits c stage → is_written c ≡ true → Outcome place c (after_ring_at place p stage).stage (ring_says_at stage)
  ring_comes Ready may fits all = elim (cases_Bool c.recorded) [
    | inl recorded ↦ absurd (subst is_ready (fits.register_next recorded) tt)
    | inr waits ↦ Rings refl all waits refl
  ]
  ring_comes (Storing words) may fits all = absurd may
  ring_comes (Naming words) may fits all = absurd may
  ring_comes (Counting words id) may fits all = absurd may
  ring_comes Ringing may fits all = elim (cases_Bool c.recorded) [
    | inl recorded ↦ Registers refl all recorded refl
    | inr waits ↦ absurd (subst is_ready (sym (fits.record_next all waits)) tt)
  ]

  pub comes_to : MayBring place p (mark_of c) e → StageFits c p.stage → Outcome place c (after_bring place p (mark_of c) e).stage (brought place p (mark_of c) e)
  comes_to may fits = by (is_written c) refl may
    where
      by : (written : Bool) → is_written c ≡ written → MayBring place p (mark_at written) e → Outcome place c (after_bring place p (mark_at written) e).stage (brought place p (mark_at written) e)
      by false more may = post_comes p.stage may more
      by true all may = ring_comes p.stage may fits all
