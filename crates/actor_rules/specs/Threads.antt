-- What ties a thread to what it owes.
use Rattle.std.specs.Prelude.{◌≡◌, ◌≢◌, ℕ, ◌<◌, ◌≤◌, true, List, [], ◌∷◌, length, Option, None, Some}
use Rattle.std.specs.List.{AllByRecursion}
use Rattle.verbs_types.specs.declared.call.Call.{Call}
use Rattle.verbs_types.specs.declared.completion.Completion.{Completion}
use Rattle.verbs_types.specs.declared.completion.Queue.{Queue}
use Rattle.verbs_types.specs.declared.declaration.Lines.{Lines}
use Rattle.verbs_rules.specs.Answered.{Due}
use Rattle.verbs_rules.specs.Shape.{Shape, Posts, Takes, shape_of, most_of}
use Rattle.counted_ring.specs.Poster.{Poster, Ready}
use Rattle.provider_post.specs.declared.call.Call as post
use Rattle.provider_post.specs.Call.{is_written}
use Rattle.provider_post.specs.Inside.{StageFits}
use Rattle.provider_poll.specs.declared.state.PollState.{PollState}
use Rattle.provider_poll.specs.declared.state.PollState.TheVariants as states
use Rattle.provider_poll.specs.Rule.{PollRule}
use Rattle.actor_rules.specs.Ready.{IsOwnCall}
use Rattle.actor_rules.specs.Thread.{Thread}
use Rattle.actor_rules.specs.Dues.{thread_dues}

-- how far a post of so many items has come
pub record IsPosting (items : ℕ) (poster : Poster) (call : post.Call) : Type 0 where
  pub count : call.count ≡ items
  pub some : call.accepted ≤ call.count
  pub rings_some : is_written call ≡ true → 0 < call.accepted
  pub stage : StageFits call poster.stage

abbrev pub IsPostAt : ℕ → Poster → Option post.Call → Type 0
IsPostAt items poster None = poster.stage ≡ Ready
IsPostAt items poster (Some call) = IsPosting items poster call

-- the poll under way is for at most so many, and has given nothing before it begins
abbrev pub IsPollFor : ℕ → List Completion → PollState → Type 0
IsPollFor most given states.Idle = given ≡ []
IsPollFor most given (states.Polling asked ends) = asked ≡ most
IsPollFor most given (states.LookingUp asked ends c queue) = asked ≡ most
IsPollFor most given _ = Unit {0}

abbrev pub PostersIdle : (Queue → Type 0) → (Queue → Poster) → Type 0
PostersIdle others posters = (queue : Queue) → others queue → (posters queue).stage ≡ Ready

abbrev pub PollsIdle : (ℕ → Type 0) → (ℕ → PollRule) → Type 0
PollsIdle others polls = (cq : ℕ) → others cq → (polls cq).state ≡ states.Idle

abbrev pub PostersRest : (Queue → Type 0) → Thread → Type 0
PostersRest others t = PostersIdle others t.posters

abbrev pub PollsRest : (ℕ → Type 0) → Thread → Type 0
PollsRest others t = PollsIdle others t.polls

-- how far a thread's calls and sides are
module _ (posting_is : Option post.Call) (given_are : List Completion) (posters_are : Queue → Poster) (polls_are : ℕ → PollRule) where
  -- the call under way is on this queue, and every other side rests
  pub record PostsIn (queue : Queue) (items : ℕ) : Type 0 where
    pub post : IsPostAt items (posters_are queue) posting_is
    pub given : given_are ≡ []
    pub posters : PostersIdle (λ other. other ≢ queue) posters_are
    pub polls : PollsIdle (λ cq. Unit {0}) polls_are

  pub record PollsIn (cq most : ℕ) : Type 0 where
    pub posting : posting_is ≡ None
    pub poll : IsPollFor most given_are (polls_are cq).state
    pub posters : PostersIdle (λ queue. Unit {0}) posters_are
    pub polls : PollsIdle (λ other. other ≢ cq) polls_are

  pub record RestsIn : Type 0 where
    pub posting : posting_is ≡ None
    pub given : given_are ≡ []
    pub posters : PostersIdle (λ queue. Unit {0}) posters_are
    pub polls : PollsIdle (λ cq. Unit {0}) polls_are

  abbrev pub StandsIn : Shape → Type 0
  StandsIn (Posts queue items) = PostsIn queue (length items)
  StandsIn (Takes cq taking) = PollsIn cq (most_of taking)

  abbrev pub StandsWith : List Call → Type 0
  StandsWith [] = RestsIn
  StandsWith (call ∷ rest) = StandsIn (shape_of call)

abbrev pub PostsAt : Thread → Queue → ℕ → Type 0
PostsAt t queue items = PostsIn t.posting t.given t.posters t.polls queue items

abbrev pub PollsAt : Thread → ℕ → ℕ → Type 0
PollsAt t cq most = PollsIn t.posting t.given t.posters t.polls cq most

abbrev pub RestsAt : Thread → Type 0
RestsAt t = RestsIn t.posting t.given t.posters t.polls

abbrev pub StandsAs : Thread → Shape → Type 0
StandsAs t shape = StandsIn t.posting t.given t.posters t.polls shape

abbrev pub StandsAt : Thread → List Call → Type 0
StandsAt t calls = StandsWith t.posting t.given t.posters t.polls calls

pub record ThreadStands (d : Lines) (programs : List (List Call)) (x : ℕ) (t : Thread) (owed : List Due) : Type 0 where
  pub dues : owed ≡ thread_dues d t
  pub calls : AllByRecursion (IsOwnCall d programs x) t.calls
  pub work : StandsAt t t.calls
