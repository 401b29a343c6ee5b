-- The rule of the poster, over its own operations on the queue's words.
use Rattle.std.specs.Prelude.{ℕ, ◌≡◌, ◌+◌, ◌==◌, ◌++◌, ◌⊎◌, List, [], ◌∷◌, length, Option, Some, None, if◌then◌else◌}
use Rattle.bus_core.specs.declared.operation.BusEntry.{BusEntry}
use Rattle.bus_core.specs.Operation.{IsLoad, IsStore, loaded, stored}
use Rattle.srq_list.specs.declared.place.SrqPlace.{SrqPlace}
use Rattle.srq_list.specs.Place.{entry_words, next_at, entry_at, id_at, next_of, record_of}
use Rattle.srq_list.specs.Mark.{SrqMark, Begin, Fill, Ring}
use Rattle.srq_list.specs.Queue.{SrqEvent, Began, Full, Wrote, Rang}

-- what a post has done: nothing; a load of a tail word that leaves room; a load of the slot behind the head, and these first words of the entry; all words of it
pub data Stage : Type 0 where
  Ready : Stage
  Following : Stage
  Storing : (next : ℕ) (words : List ℕ) → Stage
  Naming : (next : ℕ) (words : List ℕ) → Stage

pub record Poster : Type 0 where
  -- how many receives it rang for, and the slot behind theirs
  pub rung : ℕ
  pub first : ℕ
  -- how many it wrote since, and the slot behind theirs, which is the head
  pub written : ℕ
  pub head : ℕ
  pub stage : Stage

abbrev pub at_stage : Poster → Stage → Poster
at_stage p stage = record p { stage = stage }

-- behind all that it wrote, or, where it drops that, behind what it rang for
abbrev pub IsBehind : Poster → ℕ → ℕ → Type 0
IsBehind p pending slot = ((pending ≡ p.written) × (slot ≡ p.head)) ⊎ ((pending ≡ 0) × (slot ≡ p.first))

pub record BeginsPost (place : SrqPlace) (p : Poster) (pending slot : ℕ) (e : BusEntry) : Type 0 where
  pub behind : IsBehind p pending slot
  pub load : IsLoad place.tail e

abbrev pub MayFill : SrqPlace → Poster → Stage → BusEntry → Type 0
MayFill place p Ready e = ⊥
MayFill place p Following e = IsLoad (next_at place p.head) e
MayFill place p (Storing next words) e = IsStore (entry_at place p.head (length words)) (stored e) e
MayFill place p (Naming next words) e = IsStore (id_at place p.head) (stored e) e

pub record RingsFor (place : SrqPlace) (start : ℕ) (p : Poster) (pending slot : ℕ) (e : BusEntry) : Type 0 where
  pub behind : IsBehind p pending slot
  pub store : IsStore place.dbr (record_of start (p.rung + pending)) e

-- A post loads the tail word, and where that is not its slot it loads the index of the next slot and stores the receive's entry and its id. A ring stores the record of all that was written.
abbrev pub MayPost : SrqPlace → ℕ → Poster → SrqMark → BusEntry → Type 0
MayPost place start p (Begin pending slot) e = BeginsPost place p pending slot e
MayPost place start p Fill e = MayFill place p p.stage e
MayPost place start p (Ring pending slot) e = RingsFor place start p pending slot e
MayPost place start p _ e = ⊥

abbrev pub stage_with : SrqPlace → ℕ → List ℕ → Stage
stage_with place next words = if length words == entry_words place then Naming next words else Storing next words

abbrev pub after_fill : SrqPlace → Poster → Stage → BusEntry → Poster
after_fill place p Ready e = p
after_fill place p Following e = at_stage p (Storing (next_of place (loaded e)) [])
after_fill place p (Storing next words) e = at_stage p (stage_with place next (words ++ stored e ∷ []))
after_fill place p (Naming next words) e = record { rung = p.rung; first = p.first; written = p.written + 1; head = next; stage = Ready }

abbrev pub after_post : SrqPlace → Poster → SrqMark → BusEntry → Poster
after_post place p (Begin pending slot) e = record { rung = p.rung; first = p.first; written = pending; head = slot; stage = if loaded e == slot then Ready else Following }
after_post place p Fill e = after_fill place p p.stage e
after_post place p (Ring pending slot) e = record { rung = p.rung + pending; first = slot; written = 0; head = slot; stage = Ready }
after_post place p _ e = p

abbrev pub fill_says : Poster → Stage → BusEntry → Option SrqEvent
fill_says p (Naming next words) e = Some (Wrote (record { slot = p.head; words = words; id = stored e }))
fill_says p _ e = None

-- what an operation says, if it is a marked one
abbrev pub post_says : Poster → SrqMark → BusEntry → Option SrqEvent
post_says p (Begin pending slot) e = if loaded e == slot then Some (Full pending slot) else Some (Began pending)
post_says p Fill e = fill_says p p.stage e
post_says p (Ring pending slot) e = Some (Rang pending)
post_says p _ e = None

-- what a poster knows that goes back to what it rang for
abbrev pub dropped : Poster → Poster
dropped p = record { rung = p.rung; first = p.first; written = 0; head = p.first; stage = Ready }

-- What a machine knows of its side may be less than the side's list tells: it has dropped what it wrote since the last ring.
pub record PostsLess (k p : Poster) : Type 0 where
  pub rung : k.rung ≡ p.rung
  pub first : k.first ≡ p.first
  pub rest : ((k.written ≡ p.written) × (k.head ≡ p.head) × (k.stage ≡ p.stage)) ⊎ ((k.written ≡ 0) × (k.head ≡ p.first) × (k.stage ≡ Ready))
