-- Each operation of a thread in a call that posts keeps what holds.
use Rattle.std.proofs.Common.{◌≡◌, ℕ, suc, refl, List, [], ◌∷◌, option_map}
use Rattle.bus_core.specs.Mark.{Marked}
use Rattle.bus_core.specs.Trace.{Memory, Tells, after_entry}
use Rattle.verbs_types.specs.declared.call.Call.{Call}
use Rattle.verbs_types.specs.declared.declaration.Lines.{Lines}
use Rattle.verbs_rules.specs.Running.{Running}
use Rattle.verbs_rules.specs.Within.{Bounds}
use Rattle.verbs_rules.specs.Shape.{Shape, Posts, Takes, shape_of}
use Rattle.object_places.specs.Objects.{Mark}
use Rattle.actor_rules.specs.Actors.{Actors, by, posted_with}
use Rattle.actor_rules.specs.Calls.{MayCall, after_call, call_says, call_sees, MayIn, after_in, says_in, sees_in}
use Rattle.actor_rules.specs.Family.{put_number}
use Rattle.actor_rules.specs.Holding.{Holds, Goes, IsMapped, IsFirst}
use Rattle.actor_rules.specs.Thread.{Thread}
use Rattle.post_law.specs.Law.{PostsGo, IsPost}
use Rattle.post_law.proofs.Calls.{post_call}
use Rattle.post_law.proofs.Goes.{post_goes}

module _ (d : Lines) (programs : List (List Call)) (total : Bounds) (map_ok : IsMapped d) (t : ℕ) (m : Memory) (w : Actors) (r : Running) (x : Marked Mark) (holds : Holds d programs total m w r) (tells : Tells m x.entry) where
  abbrev s : Thread
  s = w.threads (suc t)

  -- what is to be shown of an operation of a thread in a call of this shape, or with these calls
  abbrev GoalIn : List Call → Shape → Type 0
  GoalIn rest shape = Goes d programs total (after_entry m x.entry) (record { adapter = w.adapter; threads = put_number w.threads (suc t) (after_in d s shape rest x); posted = posted_with w.posted (says_in d s shape x) }) r (sees_in d s shape x) (option_map (by (suc t)) (says_in d s shape x))

  abbrev Goal : List Call → Type 0
  Goal calls = Goes d programs total (after_entry m x.entry) (record { adapter = w.adapter; threads = put_number w.threads (suc t) (after_call d s calls x); posted = posted_with w.posted (call_says d s calls x) }) r (call_sees d s calls x) (option_map (by (suc t)) (call_says d s calls x))

  by_shape : (call : Call) (rest : List Call) → s.calls ≡ call ∷ rest → (shape : Shape) → shape_of call ≡ shape → IsPost shape → MayIn d s shape x → GoalIn rest shape
  by_shape call rest is (Posts queue items) posts so may =
      let stands = holds.stands.bare.threads t in
      post_goes d programs total map_ok m w r x holds t queue items rest (post_call d programs (suc t) s queue items call rest posts is stands.calls stands.work) tells may
  by_shape call rest is (Takes cq taking) posts so may = absurd so

  by_calls : (calls : List Call) → s.calls ≡ calls → IsFirst IsPost calls → MayCall d s (suc t) calls x → Goal calls
  by_calls [] is so may = absurd so
  by_calls (call ∷ rest) is so may = by_shape call rest is (shape_of call) refl so may

pub posts_go : (d : Lines) (programs : List (List Call)) (total : Bounds) → IsMapped d → PostsGo d programs total
posts_go d programs total map_ok t m w r x holds tells actor so may = by_calls d programs total map_ok t m w r x holds tells (w.threads (suc t)).calls refl so may
