-- All words that the map has for a queue, those included that nobody uses yet.
use Rattle.std.specs.Prelude.{ℕ, ◌≡◌, ◌≢◌, ◌<◌, ◌≤◌, IsTrue, true, slice_index}
use Rattle.verbs_types.specs.declared.declaration.Lines.{Lines}
use Rattle.verbs_types.specs.Lines.{is_declared}
use Rattle.actor_map.specs.declared.sizes.TheConstants.{FIRST_OBJECT}
use Rattle.actor_map.specs.Sizes.{words_of}
use Rattle.object_places.specs.Objects.{Object, Completions, Sends, Receives, Lives, touches}
use Rattle.object_places.specs.Places.{completions_of}

-- of a completion queue both areas, the record, the arm register and the sequence number
abbrev pub IsWordOf : Lines → Object → ℕ → Type 0
IsWordOf d (Completions cq) a = (slice_index (completions_of d cq).areas 0 ≤ a) × (a ≤ (completions_of d cq).sn)
IsWordOf d (Sends qp) a = touches d (Sends qp) a ≡ true
IsWordOf d (Receives qp) a = touches d (Receives qp) a ≡ true

-- the words that a queue uses are among them
abbrev pub AreUsed : Type 0
AreUsed = (d : Lines) (o : Object) (a : ℕ) → IsTrue (is_declared d) → Lives d o → touches d o a ≡ true → IsWordOf d o a

-- two queues have none in common
abbrev pub AreOwn : Type 0
AreOwn = (d : Lines) (o p : Object) (a : ℕ) → IsTrue (is_declared d) → Lives d o → Lives d p → o ≢ p → IsWordOf d o a → IsWordOf d p a → ⊥

-- each is a word of objects
abbrev pub AreOfObjects : Type 0
AreOfObjects = (d : Lines) (o : Object) (a : ℕ) → IsTrue (is_declared d) → Lives d o → IsWordOf d o a → (FIRST_OBJECT ≤ a) × (a < words_of d)
