-- How many operations stand between the looks of a drain, which goes on until it has taken its completions.
use Rattle.std.specs.Prelude.{ℕ, ◌≡◌, ◌++◌, ◌<◌, ◌≤◌, true, List, [], ◌∷◌, length, Option, Some}
use Rattle.bus_core.specs.Follow.{Follows}
use Rattle.bus_core.specs.Mark.{Marked}
use Rattle.bus_core.specs.Operation.{IsLoad, loaded}
use Rattle.verbs_types.specs.declared.call.Call.{Call}
use Rattle.verbs_types.specs.declared.call.Call.TheVariants.{Drain}
use Rattle.verbs_types.specs.declared.completion.Completion.{Completion}
use Rattle.verbs_types.specs.declared.declaration.Lines.{Lines}
use Rattle.verbs_types.specs.declared.entry.What.{What}
use Rattle.verbs_types.specs.declared.entry.What.TheVariants.{Poll}
use Rattle.owner_ring.specs.Consumer.{next_index}
use Rattle.owner_ring.specs.Place.{slot, is_owned}
use Rattle.cq_pair.specs.Place.{ring_of}
use Rattle.object_places.specs.Objects.{Mark}
use Rattle.object_places.specs.Places.{completions_of}
use Rattle.actor_rules.specs.Thread.{Thread}
use Rattle.actor_rules.specs.Calls.{after_thread, thread_says}
use Rattle.operation_bounds.specs.Stretch.{IsStretch, IsWithin, thread_by}

-- how many operations a drain may make between two looks, and until it has told what a look found
abbrev pub drain_operations : ℕ
drain_operations = 64

-- the index of the entry that a thread takes next of a completion queue
abbrev pub next_entry : Thread → ℕ → ℕ
next_entry t cq = next_index (t.polls cq).host

-- a look: it loads the owner word of that entry, which is its word 7
abbrev pub IsLook : Lines → ℕ → Thread → Marked Mark → Type 0
IsLook d cq t x = IsLoad (slot (ring_of (completions_of d cq)) (next_entry t cq) 7) x.entry

-- none of these operations is a look, each in the state that those before it left
abbrev pub HasNoLook : Lines → ℕ → Thread → List (Marked Mark) → Type 0
HasNoLook d cq t ops = Follows (λ s x. IsLook d cq s x → ⊥) (after_thread d) t ops

-- Within a drain, also up to its first look and from its last one on, fewer operations than these stand without a look.
abbrev pub DrainsLook : Lines → List (List Call) → ℕ → List (Marked Mark) → Type 0
DrainsLook d programs x ops =
    (before during : List (Marked Mark)) (cq count : ℕ) → IsStretch ops before during → IsWithin d programs x before during (Drain cq count) → HasNoLook d cq (thread_by d programs x before) during
    → length during < drain_operations

-- a look of a drain that shows software as the owner of the entry
pub record ShowsOwned (d : Lines) (cq : ℕ) (t : Thread) (x : Marked Mark) : Type 0 where
  pub count : ℕ
  pub rest : List Call
  pub drains : t.calls ≡ Drain cq count ∷ rest
  pub look : IsLook d cq t x
  pub owned : is_owned (ring_of (completions_of d cq)) (next_entry t cq) (loaded x.entry) ≡ true

-- an operation tells that a poll took one completion
pub record TakesOne (cq : ℕ) (said : Option What) : Type 0 where
  pub completion : Completion
  pub tells : said ≡ Some (Poll cq 1 (completion ∷ []))

abbrev pub TakesNone : Lines → ℕ → Thread → List (Marked Mark) → Type 0
TakesNone d cq t ops = Follows (λ s x. TakesOne cq (thread_says d s x) → ⊥) (after_thread d) t ops

-- After such a look no more operations than these stand without the one that tells that its entry was taken.
abbrev pub DrainsTake : Lines → List (List Call) → ℕ → List (Marked Mark) → Type 0
DrainsTake d programs x ops =
    (before during : List (Marked Mark)) (look : Marked Mark) (cq : ℕ) → IsStretch ops (before ++ look ∷ []) during → ShowsOwned d cq (thread_by d programs x before) look → TakesNone d cq (thread_by d programs x (before ++ look ∷ [])) during
    → length during ≤ drain_operations
