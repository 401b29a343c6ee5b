-- What a thread is to a caller, and what the rules of threads see of it.
use Rattle.std.specs.Prelude.{ℕ, ◌-◌, Bool, List, [], ◌∷◌, drop, Option, None, Some}
use Rattle.verbs_types.specs.declared.call.Call.{Call}
use Rattle.verbs_types.specs.declared.call.Call.TheVariants.{Drain}
use Rattle.verbs_types.specs.declared.completion.Completion.{Completion}
use Rattle.verbs_types.specs.declared.declaration.Lines.{Lines}
use Rattle.verbs_rules.specs.Shape.{Shape, Posts, shape_of}
use Rattle.counted_ring.specs.Poster.{Poster}
use Rattle.counted_ring.specs.Law.{fresh_poster}
use Rattle.provider_post.specs.declared.call.Call as post
use Rattle.provider_post.specs.Side.{PostView}
use Rattle.provider_poll.specs.Poll.{PollView}
use Rattle.provider_poll.specs.Rule.{PollRule}
use Rattle.provider_poll.specs.FollowsRule.{rule_of}
use Rattle.provider_poll.specs.Fresh.{fresh_rule}
use Rattle.actor_rules.specs.Thread.{Thread, queue_start}
use Rattle.thread_actor.specs.Sides.{SidesView, post_side, poll_side}

pub record ThreadView : Type 0 where
  -- the declared objects of the scenario
  pub lines : Lines
  pub number : ℕ
  -- its calls, in order, and how many of them are finished
  pub program : List Call
  pub finished : ℕ
  -- how many completions the drain under way has taken; 0 in any other call
  pub taken : ℕ
  -- the completions that the poll under way has given
  pub given : List Completion
  pub sides : SidesView
  -- it has set its bit in the word of actors that ended
  pub ended : Bool

-- what a side has done, or one that is not there
abbrev pub poster_in : Poster → Option PostView → Poster
poster_in fresh None = fresh
poster_in fresh (Some side) = side.poster.side

abbrev pub poll_in : PollRule → Option PollView → PollRule
poll_in fresh None = fresh
poll_in fresh (Some side) = rule_of side

abbrev pub call_in : Option PostView → Option post.Call
call_in None = None
call_in (Some side) = side.call

-- of a drain as many completions are left as were not taken
abbrev pub left_of : ℕ → List Call → List Call
left_of taken (Drain cq count ∷ rest) = Drain cq (count - taken) ∷ rest
left_of taken calls = calls

-- the calls that are left, of which the first is under way or begins next
abbrev pub calls_left : ThreadView → List Call
calls_left v = left_of v.taken (drop v.finished v.program)

-- how far the post has come that is under way
abbrev pub posting_of : ThreadView → Shape → Option post.Call
posting_of v (Posts queue items) = call_in (post_side v.sides queue)
posting_of v _ = None

abbrev pub posting_in : ThreadView → List Call → Option post.Call
posting_in v [] = None
posting_in v (call ∷ rest) = posting_of v (shape_of call)

-- the thread as its rule sees it
abbrev pub thread_of : ThreadView → Thread
thread_of v = record {
  calls = calls_left v;
  posting = posting_in v (calls_left v);
  given = v.given;
  posters = λ queue. poster_in (fresh_poster (queue_start v.lines queue)) (post_side v.sides queue);
  polls = λ cq. poll_in (fresh_rule v.lines cq) (poll_side v.sides cq);
  ended = v.ended;
}
