-- What holds of a thread between its operations, and what one of them makes of its call.
use Rattle.std.proofs.Common.{◌≡◌, ◌≢◌, ℕ, ◌<◌, sym, subst, List, [], ◌∷◌, length, unwrap_or, Option, None, Some}
use Rattle.std.specs.List.{AllByRecursion}
use Rattle.verbs_types.specs.declared.call.Call.{Call}
use Rattle.verbs_types.specs.declared.call.Call.TheVariants.{Drain}
use Rattle.verbs_types.specs.declared.completion.Completion.{Completion}
use Rattle.verbs_types.specs.declared.completion.Queue.{Queue}
use Rattle.verbs_types.specs.declared.declaration.Lines.{Lines}
use Rattle.verbs_rules.specs.Shape.{Shape, Posts, Takes, shape_of, most_of}
use Rattle.provider_post.specs.declared.call.Call as post
use Rattle.provider_post.specs.Call.{fresh_call}
use Rattle.provider_post.specs.Left.{post_left}
use Rattle.provider_post.proofs.Left.{IsPosting}
use Rattle.provider_poll.specs.declared.state.PollState.{PollState}
use Rattle.provider_poll.specs.declared.state.PollState.TheVariants as states
use Rattle.actor_rules.specs.Polling.{begun}
use Rattle.actor_rules.specs.Ready.{IsOwnCall}
use Rattle.actor_rules.specs.Thread.{Thread, queue_place}
use Rattle.provider_poll.specs.Left.{poll_left}
use Rattle.provider_poll.proofs.LeftLoads.{IsHost, IsWaiting, IsLoading, IsUnderWay}
use Rattle.operation_bounds.proofs.Posts.{IsStaged}

-- What is under way

abbrev pub AreIdle : (ℕ → Type 0) → Thread → Type 0
AreIdle which t = (cq : ℕ) → which cq → (t.polls cq).state ≡ states.Idle

pub record IsResting (t : Thread) : Type 0 where
  pub posting : t.posting ≡ None
  pub given : t.given ≡ []
  pub polls : AreIdle (λ cq. Unit {0}) t

-- a post of so many items, which may be about to begin
abbrev pub IsPostAt : ℕ → Option post.Call → Type 0
IsPostAt items None = Unit {0}
IsPostAt items (Some c) = IsPosting items c

pub record IsInPost (t : Thread) (items : ℕ) : Type 0 where
  pub posting : IsPostAt items t.posting
  pub given : t.given ≡ []
  pub polls : AreIdle (λ cq. Unit {0}) t

-- a poll of at most so many, which may be about to begin
abbrev pub IsPollAt : ℕ → List Completion → PollState → Type 0
IsPollAt most given states.Idle = given ≡ []
IsPollAt most given (states.Polling max ends) = IsLoading most (length given) max (length ends.items)
IsPollAt most given (states.LookingUp max ends c queue) = IsLoading most (length given) max (length ends.items)
IsPollAt most given (states.Retiring taken empty left) = IsUnderWay most (length given) (states.Retiring taken empty left)
IsPollAt most given (states.Acking taken empty) = Unit {0}

pub record IsInPoll (t : Thread) (cq most : ℕ) : Type 0 where
  pub posting : t.posting ≡ None
  pub poll : IsPollAt most t.given (t.polls cq).state
  pub polls : AreIdle (λ other. other ≢ cq) t

abbrev pub IsIn : Thread → Shape → Type 0
IsIn t (Posts queue items) = IsInPost t (length items)
IsIn t (Takes cq taking) = IsInPoll t cq (most_of taking)

abbrev pub IsAtCall : Thread → List Call → Type 0
IsAtCall t [] = Unit {0}
IsAtCall t (call ∷ rest) = IsIn t (shape_of call)

pub record Stands (d : Lines) (programs : List (List Call)) (x : ℕ) (t : Thread) : Type 0 where
  pub own : AllByRecursion (IsOwnCall d programs x) t.calls
  pub staged : (queue : Queue) → IsStaged (queue_place d queue) (t.posters queue).stage
  pub hosts : (cq : ℕ) → IsHost (t.polls cq).host
  pub work : IsAtCall t t.calls

begins_in : (t : Thread) (shape : Shape) → IsResting t → IsIn t shape
begins_in t (Posts queue items) h = record { posting = subst (IsPostAt (length items)) (sym h.posting) tt; given = h.given; polls = h.polls }
begins_in t (Takes cq taking) h = record { posting = h.posting; poll = subst (IsPollAt (most_of taking) t.given) (sym (h.polls cq tt)) h.given; polls = λ other apart. h.polls other tt }

-- a thread that rests is about to begin any call
pub begins : (t : Thread) (calls : List Call) → IsResting t → IsAtCall t calls
begins t [] h = tt
begins t (call ∷ rest) h = begins_in t (shape_of call) h

-- How much is left of it

abbrev pub post_now_left : Thread → Queue → ℕ → ℕ
post_now_left t queue items = post_left (t.posters queue).stage (unwrap_or t.posting (fresh_call items))

abbrev pub poll_now_left : Thread → ℕ → ℕ → ℕ
poll_now_left t cq most = poll_left (t.polls cq).host (t.polls cq).retirers (begun most (t.polls cq).state)

abbrev pub left_in : Thread → Shape → ℕ
left_in t (Posts queue items) = post_now_left t queue (length items)
left_in t (Takes cq taking) = poll_now_left t cq (most_of taking)

-- how many operations the first call still takes at most, or what a drain takes next
abbrev pub left_of : Thread → List Call → ℕ
left_of t [] = 0
left_of t (call ∷ rest) = left_in t (shape_of call)

-- an operation ends the call, or brings it nearer to its end, or makes a drain look again; behind the last call it ends the thread
pub data Went (t t' : Thread) : Type 0 where
  Over : length t'.calls < length t.calls → Went t t'
  On : t'.calls ≡ t.calls → left_of t' t'.calls < left_of t t.calls → Went t t'
  Again : (cq count more : ℕ) (rest : List Call) → t.calls ≡ Drain cq count ∷ rest → t'.calls ≡ Drain cq more ∷ rest → (t'.polls cq).state ≡ states.Idle → IsWaiting (t'.polls cq).host → Went t t'
  Ends : t.calls ≡ [] → t'.calls ≡ t.calls → Went t t'
