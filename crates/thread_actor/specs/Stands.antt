-- What holds of a thread between operations.
use Rattle.std.specs.Prelude.{ℕ, ◌≡◌, ◌≢◌, ◌<◌, ◌≤◌, ◌^◌, IsTrue, IsSome, List, [], ◌∷◌, length, None}
use Rattle.std.specs.List.{AllByRecursion}
use Rattle.arrayvec.specs.ArrayVec.{ArrayVec, array_vec_len}
use Rattle.verbs_types.specs.declared.call.Call.{Call}
use Rattle.verbs_types.specs.declared.completion.Completion.{Completion}
use Rattle.verbs_types.specs.declared.completion.Queue.{Queue}
use Rattle.verbs_types.specs.declared.completion.Queue.TheVariants as queues
use Rattle.verbs_types.specs.declared.declaration.Lines.{Lines}
use Rattle.verbs_types.specs.declared.request.Item.{Item}
use Rattle.verbs_types.specs.Lines.{is_declared}
use Rattle.verbs_rules.specs.Shape.{Shape, Posts, Takes, shape_of, most_of}
use Rattle.actor_map.specs.Sizes.{words_of}
use Rattle.object_places.specs.Objects.{Object, Completions, Sends, Receives}
use Rattle.object_places.specs.Places.{IsWithin}
use Rattle.provider_post.specs.Side.{PostView, IsListOf}
use Rattle.provider_poll.specs.declared.state.End.{End}
use Rattle.provider_poll.specs.declared.state.PollState.{PollState}
use Rattle.provider_poll.specs.declared.state.PollState.TheVariants as states
use Rattle.provider_poll.specs.FollowsRule.{place_of}
use Rattle.provider_poll.specs.Fresh.{poll_place}
use Rattle.provider_poll.specs.Poll.{PollView, LiesWithin}
use Rattle.actor_rules.specs.Thread.{queue_place}
use Rattle.thread_actor.specs.Calls.{CanCall, object_of}
use Rattle.thread_actor.specs.Sides.{SidesView, post_side, poll_side, IfThere}
use Rattle.thread_actor.specs.View.{ThreadView, calls_left}

-- a side is that of its queue
pub record IsPostSide (d : Lines) (queue : Queue) (side : PostView) : Type 0 where
  pub place : side.poster.place ≡ queue_place d queue
  pub queue_is : side.queue ≡ queue
  pub within : IsWithin (words_of d) side.poster.place

pub record IsPollSide (d : Lines) (cq : ℕ) (side : PollView) : Type 0 where
  pub place : place_of side ≡ poll_place d cq
  pub within : LiesWithin (words_of d) side

-- nothing is under way at a side
pub record PostRests (side : PostView) : Type 0 where
  pub call : side.call ≡ None
  pub task : side.poster.task ≡ None

abbrev pub Rests : SidesView → Object → Type 0
Rests s (Completions cq) = IfThere (λ (side : PollView). side.state ≡ states.Idle) (poll_side s cq)
Rests s (Sends qp) = IfThere PostRests (post_side s (queues.Send qp))
Rests s (Receives qp) = IfThere PostRests (post_side s (queues.Recv qp))

-- every side rests but that of the call under way
abbrev pub OthersRest : SidesView → List Call → Type 0
OthersRest s [] = (o : Object) → Rests s o
OthersRest s (call ∷ rest) = (o : Object) → o ≢ object_of call → Rests s o

-- the side of a post is at its items, or rests
pub record IsPosting (items : List Item) (side : PostView) : Type 0 where
  pub list : IsListOf side items
  pub rests : side.call ≡ None → side.poster.task ≡ None

-- a poll has given as many completions as it has ends, and is not done
pub record IsTaking (most : ℕ) (given : List Completion) (asked : ℕ) (ends : ArrayVec End) : Type 0 where
  pub asked_is : asked ≡ most
  pub given_each : length given ≡ array_vec_len ends
  pub more : array_vec_len ends < most

abbrev pub IsPolling : ℕ → List Completion → PollState → Type 0
IsPolling most given states.Idle = given ≡ []
IsPolling most given (states.Polling asked ends) = IsTaking most given asked ends
IsPolling most given (states.LookingUp asked ends c queue) = IsTaking most given asked ends
IsPolling most given (states.Retiring taken empty left) = 0 < taken
IsPolling most given (states.Acking taken empty) = 0 < taken

abbrev pub IsPollWork : ThreadView → (cq most : ℕ) → Type 0
IsPollWork v cq most = IfThere (λ (side : PollView). IsPolling most v.given side.state) (poll_side v.sides cq)

pub record IsPostWork (v : ThreadView) (queue : Queue) (items : List Item) : Type 0 where
  pub side : IfThere (IsPosting items) (post_side v.sides queue)
  pub given : v.given ≡ []

-- how far the call under way has come
abbrev pub IsWorkIn : ThreadView → Shape → Type 0
IsWorkIn v (Posts queue items) = IsPostWork v queue items
IsWorkIn v (Takes cq taking) = IsPollWork v cq (most_of taking)

abbrev pub IsAtWork : ThreadView → List Call → Type 0
IsAtWork v [] = v.given ≡ []
IsAtWork v (call ∷ rest) = IsWorkIn v (shape_of call)

-- the side that the call needs is there
abbrev pub HasSideIn : SidesView → Shape → Type 0
HasSideIn s (Posts queue items) = IsSome (post_side s queue)
HasSideIn s (Takes cq taking) = IsSome (poll_side s cq)

abbrev pub HasSide : SidesView → Call → Type 0
HasSide s call = HasSideIn s (shape_of call)

pub record IsThread (v : ThreadView) : Type 0 where
  pub declared : IsTrue (is_declared v.lines)
  pub some : 0 < v.number
  pub most : v.number ≤ 16
  pub few : length v.program ≤ 2 ^ 16
  pub finished : v.finished ≤ length v.program
  pub calls : AllByRecursion (CanCall v.lines) v.program
  pub sides : AllByRecursion (HasSide v.sides) v.program
  pub posts : (queue : Queue) → IfThere (IsPostSide v.lines queue) (post_side v.sides queue)
  pub polls : (cq : ℕ) → IfThere (IsPollSide v.lines cq) (poll_side v.sides cq)
  pub others : OthersRest v.sides (calls_left v)
  pub work : IsAtWork v (calls_left v)
