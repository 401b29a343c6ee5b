-- A thread all of whose sides rest, and what every turn keeps.
use Rattle.std.proofs.Common.{◌≡◌, ◌≢◌, ℕ, zero, suc, ◌+◌, ◌-◌, ◌≤◌, ◌<◌, arith, refl, sym, ap, ◌∙◌, subst, List, [], ◌∷◌, length, map, drop, slice_get, Option, None, Some, IsSome, is_some, unwrap_or}
use Rattle.std.proofs.lemmas.Option.{slice_get_within}
use Rattle.std.specs.List.{AllByRecursion}
use Rattle.verbs_types.specs.declared.call.Call.{Call}
use Rattle.verbs_types.specs.declared.call.Call.TheVariants.{Post, Recv, Poll, Drain}
use Rattle.verbs_types.specs.declared.completion.Completion.{Completion}
use Rattle.verbs_types.specs.declared.completion.Queue.{Queue}
use Rattle.verbs_types.specs.declared.completion.Queue.TheVariants as queues
use Rattle.verbs_types.specs.declared.request.Item.{Item}
use Rattle.object_places.specs.Objects.{Object, Completions, Sends, Receives}
use Rattle.provider_post.specs.declared.call.Call as post
use Rattle.provider_post.specs.Side.{PostView, IsListOf, IsListIn}
use Rattle.provider_poll.specs.declared.state.PollState.{PollState}
use Rattle.provider_poll.specs.declared.state.PollState.TheVariants as states
use Rattle.provider_poll.specs.Poll.{PollView}
use Rattle.thread_actor.specs.Calls.{CanCall, object_of}
use Rattle.thread_actor.specs.Sides.{SidesView, post_side, poll_side, IfThere}
use Rattle.thread_actor.specs.Stands.{IsThread, IsPostSide, IsPollSide, PostRests, Rests, OthersRest, IsPosting, IsPolling, IsPollWork, IsPostWork, IsAtWork, HasSide}
use Rattle.thread_actor.specs.View.{ThreadView, calls_left, left_of, posting_in, call_in}
use Rattle.thread_actor.proofs.Places.{drop_there}

abbrev pub AllRest : SidesView → Type 0
AllRest s = (o : Object) → Rests s o

pub others_rest : (s : SidesView) (calls : List Call) → AllRest s → OthersRest s calls
others_rest s [] rest = rest
others_rest s (call ∷ calls) rest = λ o differ. rest o

rests_listed : (items : List Item) (side : PostView) → PostRests side → IsPosting items side
rests_listed items side rests = record {
  list = subst (λ (c : Option post.Call). IsListIn side.poster side.queue items c) (sym rests.call) tt;
  rests = λ none. rests.task;
}

pub there : {S : Type 0} (P Q : S → Type 0) → ((side : S) → P side → Q side) → (o : Option S) → IfThere P o → IfThere Q o
there P Q f None h = tt
there P Q f (Some side) h = f side h

post_work : (v : ThreadView) (queue : Queue) (items : List Item) → v.given ≡ [] → IfThere PostRests (post_side v.sides queue) → IsPostWork v queue items
post_work v queue items none rests = record { side = there PostRests (IsPosting items) (rests_listed items) (post_side v.sides queue) rests; given = none }

poll_work : (v : ThreadView) (cq most : ℕ) → v.given ≡ [] → IfThere (λ (side : PollView). side.state ≡ states.Idle) (poll_side v.sides cq) → IsPollWork v cq most
poll_work v cq most none rests =
    there (λ (side : PollView). side.state ≡ states.Idle) (λ (side : PollView). IsPolling most v.given side.state)
    (λ side idle. subst (λ (state : PollState). IsPolling most v.given state) (sym idle) none) (poll_side v.sides cq) rests

-- any call may begin where nothing is under way
pub rests_work : (v : ThreadView) (calls : List Call) → v.given ≡ [] → AllRest v.sides → IsAtWork v calls
rests_work v [] none rest = none
rests_work v (Post qp requests ∷ calls) none rest = post_work v (queues.Send qp) _ none (rest (Sends qp))
rests_work v (Recv qp receives ∷ calls) none rest = post_work v (queues.Recv qp) _ none (rest (Receives qp))
rests_work v (Poll cq most ∷ calls) none rest = poll_work v cq most none (rest (Completions cq))
rests_work v (Drain cq count ∷ calls) none rest = poll_work v cq 1 none (rest (Completions cq))

call_rests : (o : Option PostView) → IfThere PostRests o → call_in o ≡ None
call_rests None h = refl
call_rests (Some side) h = h.call

pub none_posting : (v : ThreadView) (calls : List Call) → AllRest v.sides → posting_in v calls ≡ None
none_posting v [] rest = refl
none_posting v (Post qp requests ∷ calls) rest = call_rests (post_side v.sides (queues.Send qp)) (rest (Sends qp))
none_posting v (Recv qp receives ∷ calls) rest = call_rests (post_side v.sides (queues.Recv qp)) (rest (Receives qp))
none_posting v (Poll cq most ∷ calls) rest = refl
none_posting v (Drain cq count ∷ calls) rest = refl

pub left_none : (calls : List Call) → left_of 0 calls ≡ calls
left_none [] = refl
left_none (Post qp requests ∷ calls) = refl
left_none (Recv qp receives ∷ calls) = refl
left_none (Poll cq most ∷ calls) = refl
left_none (Drain cq count ∷ calls) = let e : count - 0 ≡ count = omega arith in ap (λ (n : ℕ). Drain cq n ∷ calls) e

-- what a turn keeps of the sides
pub record KeepsSides (v : ThreadView) (new : SidesView) : Type 0 where
  pub has : (call : Call) → HasSide v.sides call → HasSide new call
  pub posts : (queue : Queue) → IfThere (IsPostSide v.lines queue) (post_side new queue)
  pub polls : (cq : ℕ) → IfThere (IsPollSide v.lines cq) (poll_side new cq)

pub each : {X : Type 0} (P Q : X → Type 0) → ((x : X) → P x → Q x) → (xs : List X) → AllByRecursion P xs → AllByRecursion Q xs
each P Q f [] h = tt
each P Q f (x ∷ xs) h = (f x h.0, each P Q f xs h.1)

pub each_at : {X : Type 0} (P : X → Type 0) (xs : List X) (k : ℕ) (x : X) → slice_get xs k ≡ Some x → AllByRecursion P xs → P x
each_at P [] zero x found h = absurd cc
each_at P [] (suc k) x found h = absurd cc
each_at P (y ∷ xs) zero x found h = subst P (ap (λ o. unwrap_or o y) found) h.0
each_at P (y ∷ xs) (suc k) x found h = each_at P xs k x found h.1

-- the same thread with these sides
abbrev pub moved : ThreadView → (finished taken : ℕ) → List Completion → SidesView → ThreadView
moved v finished taken given sides = record {
  lines = v.lines;
  number = v.number;
  program = v.program;
  finished = finished;
  taken = taken;
  given = given;
  sides = sides;
  ended = v.ended;
}

-- a turn that ends a call
pub stands_next : (v : ThreadView) (sides : SidesView) (call : Call) → IsThread v → slice_get v.program v.finished ≡ Some call → KeepsSides v sides → AllRest sides → IsThread (moved v (v.finished + 1) 0 [] sides)
stands_next v sides call stands found keeps rest = let low = slice_get_within v.program v.finished call found in record {
  declared = stands.declared;
  some = stands.some;
  most = stands.most;
  few = stands.few;
  finished = omega (arith, low);
  calls = stands.calls;
  sides = each (HasSide v.sides) (HasSide sides) keeps.has v.program stands.sides;
  posts = keeps.posts;
  polls = keeps.polls;
  others = others_rest sides (calls_left (moved v (v.finished + 1) 0 [] sides)) rest;
  work = rests_work (moved v (v.finished + 1) 0 [] sides) (calls_left (moved v (v.finished + 1) 0 [] sides)) refl rest;
}

-- a turn after which a call goes on
pub stands_on : (v : ThreadView) (taken : ℕ) (given : List Completion) (sides : SidesView) → IsThread v → KeepsSides v sides
    → OthersRest sides (calls_left (moved v v.finished taken given sides)) → IsAtWork (moved v v.finished taken given sides) (calls_left (moved v v.finished taken given sides))
    → IsThread (moved v v.finished taken given sides)
stands_on v taken given sides stands keeps others work = record {
  declared = stands.declared;
  some = stands.some;
  most = stands.most;
  few = stands.few;
  finished = stands.finished;
  calls = stands.calls;
  sides = each (HasSide v.sides) (HasSide sides) keeps.has v.program stands.sides;
  posts = keeps.posts;
  polls = keeps.polls;
  others = others;
  work = work;
}
