-- A thread at rest: no call of it is under way.
use Rattle.std.proofs.Common.{◌≡◌, refl, sym, ap, subst, Bool, true, false, if◌then◌else◌, List, [], ◌∷◌, ◌++◌, length, flat_map, Option, None}
use Rattle.verbs_types.specs.declared.call.Call.{Call}
use Rattle.verbs_types.specs.declared.completion.Queue.{Queue}
use Rattle.verbs_types.specs.declared.declaration.Lines.{Lines}
use Rattle.verbs_types.specs.declared.request.Item.{Item}
use Rattle.verbs_rules.specs.Answered.{due_by, Due, due_in}
use Rattle.verbs_rules.specs.Same.{same_queue}
use Rattle.verbs_rules.specs.Shape.{Shape, Posts, Takes, Once, Until, shape_of, most_of}
use Rattle.provider_post.specs.declared.call.Call as post
use Rattle.provider_poll.specs.declared.state.PollState.{PollState}
use Rattle.actor_rules.specs.Thread.{Thread}
use Rattle.actor_rules.specs.Dues.{post_dues, poll_dues, drain_dues, call_dues, dues_in}
use Rattle.actor_rules.specs.View.{accepted, written_of}
use Rattle.actor_rules.specs.Queues.{written_by}
use Rattle.actor_rules.specs.Threads.{StandsAt, IsPollFor, IsPostAt, PollsRest, RestsAt, StandsAs}

module _ (d : Lines) (th : Thread) (posting : th.posting ≡ None) where
  owes_in : (shape : Shape) → PollsRest (λ cq. Unit {0}) th → dues_in d th.posting th.polls shape ≡ due_in shape
  owes_in (Posts queue items) polls = ap (λ (o : Option post.Call). post_dues queue items o) posting
  owes_in (Takes cq (Once most)) polls = ap (λ (s : PollState). poll_dues d cq most s) (polls cq tt)
  owes_in (Takes cq (Until count)) polls = ap (λ (s : PollState). drain_dues d cq count s) (polls cq tt)

  -- it owes all of its calls
  pub rest_owes : (calls : List Call) → PollsRest (λ cq. Unit {0}) th → call_dues d th calls ≡ flat_map due_by calls
  rest_owes [] polls = refl
  rest_owes (call ∷ rest) polls = ap (λ (ds : List Due). ds ++ flat_map due_by rest) (owes_in (shape_of call) polls)

  none_accepted : (b : Bool) (items : List Item) → (if b then accepted th.posting items else []) ≡ []
  none_accepted true items = ap (λ (o : Option post.Call). accepted o items) posting
  none_accepted false items = refl

  silent_in : (queue : Queue) (shape : Shape) → written_of queue th.posting shape ≡ []
  silent_in queue (Posts q items) = none_accepted (same_queue queue q) items
  silent_in queue (Takes cq taking) = refl

  -- and has written nothing
  pub rest_silent : (queue : Queue) (calls : List Call) → written_by queue th calls ≡ []
  rest_silent queue [] = refl
  rest_silent queue (call ∷ rest) = silent_in queue (shape_of call)

module _ (th : Thread) (h : RestsAt th) where
  begins_in : (shape : Shape) → StandsAs th shape
  begins_in (Posts queue items) = record { post = subst (IsPostAt (length items) (th.posters queue)) (sym h.posting) (h.posters queue tt); given = h.given; posters = λ other apart. h.posters other tt; polls = h.polls }
  begins_in (Takes cq taking) = record { posting = h.posting; poll = subst (IsPollFor (most_of taking) th.given) (sym (h.polls cq tt)) h.given; posters = h.posters; polls = λ other apart. h.polls other tt }

  -- its next call is about to begin
  pub rest_stands : (calls : List Call) → StandsAt th calls
  rest_stands [] = h
  rest_stands (call ∷ rest) = begins_in (shape_of call)
