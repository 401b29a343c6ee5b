-- What holds of the words of all queues.
use Rattle.std.specs.Prelude.{ℕ, ◌≡◌, ◌≢◌, ◌<◌, ◌≤◌, IsTrue, true, false}
use Rattle.verbs_types.specs.declared.declaration.Lines.{Lines}
use Rattle.verbs_types.specs.Lines.{is_declared}
use Rattle.actor_map.specs.declared.sizes.TheConstants.{FIRST_OBJECT}
use Rattle.actor_map.specs.Sizes.{words_of}
use Rattle.actor_map.specs.Start.{start_words}
use Rattle.owner_ring.specs.Place as ring
use Rattle.owner_ring.specs.Law as ring_law
use Rattle.cq_pair.specs.Place.{ring_of}
use Rattle.counted_ring.specs.Place as counted
use Rattle.counted_ring.specs.Law as counted_law
use Rattle.object_places.specs.declared.ended.TheConstants.{ENDED_WORD}
use Rattle.object_places.specs.Objects.{Object, Completions, Sends, Receives, Lives, touches}
use Rattle.object_places.specs.Places.{cq_line, qp_line, completions_of, send_of, receive_of}

-- the object lies as its queue asks for
abbrev pub IsObjectPlace : Lines → Object → Type 0
IsObjectPlace d (Completions cq) = ring.IsPlace (ring_of (completions_of d cq))
IsObjectPlace d (Sends qp) = counted.IsPlace (send_of d qp)
IsObjectPlace d (Receives qp) = counted.IsPlace (receive_of d qp)

pub record IsPlacedObject (d : Lines) (o : Object) : Type 0 where
  pub fine : IsObjectPlace d o
  -- its words are words of objects
  pub inside : (a : ℕ) → touches d o a ≡ true → (FIRST_OBJECT ≤ a) × (a < words_of d)
  pub ended : touches d o ENDED_WORD ≡ false

-- each declared object
abbrev pub ArePlaced : Type 0
ArePlaced = (d : Lines) (o : Object) → IsTrue (is_declared d) → Lives d o → IsPlacedObject d o

-- two objects have no word in common
abbrev pub AreApart : Type 0
AreApart = (d : Lines) (o p : Object) (a : ℕ) → IsTrue (is_declared d) → Lives d o → Lives d p → o ≢ p → touches d o a ≡ true → touches d p a ≡ false

-- with the words that a run begins with the object is at its start
abbrev pub IsObjectStart : Lines → ℕ → Object → Type 0
IsObjectStart d start_word (Completions cq) = ring_law.IsStart (ring_of (completions_of d cq)) (cq_line d cq).start (start_words d start_word)
IsObjectStart d start_word (Sends qp) = counted_law.IsStart (send_of d qp) (qp_line d qp).start (start_words d start_word)
IsObjectStart d start_word (Receives qp) = counted_law.IsStart (receive_of d qp) (qp_line d qp).start (start_words d start_word)

abbrev pub AreAtStart : Type 0
AreAtStart = (d : Lines) (start_word : ℕ) (o : Object) → IsTrue (is_declared d) → Lives d o → IsObjectStart d start_word o
