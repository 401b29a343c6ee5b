-- A turn of a thread in a call that posts.
use Rattle.std.proofs.Common.{◌≡◌, ◌≢◌, inl, inr, ℕ, ◌+◌, ◌≤◌, ◌<◌, arith, refl, sym, ap, ◌∙◌, subst, true, false, Bool, List, ◌∷◌, length, map, drop, slice_get, Option, None, Some, IsSome, IsTrue}
use Rattle.std.proofs.lemmas.Bool.{cases_Bool, false≢true}
use Rattle.bus_core.specs.declared.operation.BusEntry.{BusEntry}
use Rattle.bus_core.specs.declared.turn.Note.{Note}
use Rattle.bus_core.specs.Mark.{Marked}
use Rattle.verbs_types.specs.declared.call.Call.{Call}
use Rattle.verbs_types.specs.declared.call.Call.TheVariants.{Post, Recv}
use Rattle.verbs_types.specs.declared.completion.Completion.{Completion}
use Rattle.verbs_types.specs.declared.completion.Queue.{Queue}
use Rattle.verbs_types.specs.declared.completion.Queue.TheVariants as queues
use Rattle.verbs_types.specs.declared.declaration.Lines.{Lines}
use Rattle.verbs_types.specs.declared.request.Item.{Item}
use Rattle.verbs_types.specs.declared.request.Item.TheVariants.{Request as TheRequest, Receive as TheReceive}
use Rattle.verbs_types.specs.declared.request.Receive.{Receive}
use Rattle.verbs_types.specs.declared.request.Request.{Request}
use Rattle.verbs_types.specs.Lines.{is_declared}
use Rattle.verbs_rules.specs.Shape.{Shape, Posts, Takes, shape_of}
use Rattle.actor_map.specs.Sizes.{words_of}
use Rattle.counted_ring.specs.declared.place.WqPlace.{WqPlace}
use Rattle.counted_ring.specs.Place as place
use Rattle.object_places.specs.Apart.{ArePlaced}
use Rattle.object_places.specs.Objects.{Mark, Object, Completions, Sends, Receives, Lives}
use Rattle.object_places.specs.Places.{IsWithin}
use Rattle.provider_post.specs.declared.call.Call as post
use Rattle.provider_post.specs.Call.{mark_of, answer_with}
use Rattle.provider_post.specs.Rule.{next_call}
use Rattle.provider_post.specs.Side.{PostView, rule_of}
use Rattle.provider_post.proofs.Rule.{answers}
use Rattle.provider_poll.specs.declared.state.PollState.TheVariants as states
use Rattle.provider_poll.specs.Poll.{PollView}
use Rattle.actor_rules.specs.Thread.{Thread, queue_place}
use Rattle.actor_rules.specs.Posting.{MayPost, on_queue, post_now, after_post as rule_after, calls_after_post, post_says, post_sees}
use Rattle.actor_rules.specs.Calls.{MayThread, MayCall, after_call, call_says, call_sees}
use Rattle.thread_actor.specs.declared.posts.Posted.{Posted}
use Rattle.thread_actor.specs.declared.progress.Progress.{Progress}
use Rattle.thread_actor.specs.Progress.{after_post}
use Rattle.thread_actor.specs.Calls.{CanCall, object_of}
use Rattle.thread_actor.specs.Posts.{GoesOn, begun, is_over}
use Rattle.thread_actor.specs.Sides.{SidesView, post_side, IfThere}
use Rattle.thread_actor.specs.Stands.{IsThread, IsPostSide, IsPollSide, PostRests, Rests, OthersRest, IsPosting, IsPostWork, IsAtWork, HasSideIn}
use Rattle.thread_actor.specs.Turn.{IsNoteOf, ThreadTurn, marked}
use Rattle.thread_actor.specs.View.{ThreadView, thread_of, calls_left, left_of, posting_in, call_in}
use Rattle.thread_actor.proofs.Places.{MovesPost, drop_there}
use Rattle.thread_actor.proofs.Posting as rule
use Rattle.thread_actor.proofs.Resting.{AllRest, KeepsSides, moved, none_posting, left_none, stands_next, stands_on, each_at}

abbrev object_on : Queue → Object
object_on (queues.Send qp) = Sends qp
object_on (queues.Recv qp) = Receives qp
object_on (queues.Shared srq) = Completions srq

-- no shared receive queue is posted to
abbrev IsQueueKind : Queue → Type 0
IsQueueKind (queues.Send qp) = Unit {0}
IsQueueKind (queues.Recv qp) = Unit {0}
IsQueueKind (queues.Shared srq) = ⊥

no_completions : (queue : Queue) (cq : ℕ) → IsQueueKind queue → Completions cq ≢ object_on queue
no_completions (queues.Send qp) cq kind is = absurd cc
no_completions (queues.Recv qp) cq kind is = absurd cc
no_completions (queues.Shared srq) cq kind is = kind

-- a call that posts, by its queue and items
pub record IsPost (call : Call) (queue : Queue) (items : List Item) : Type 0 where
  pub kind : IsQueueKind queue
  pub object : object_on queue ≡ object_of call
  pub left : (taken : ℕ) (rest : List Call) → left_of taken (call ∷ rest) ≡ call ∷ rest
  pub posting : (u : ThreadView) (rest : List Call) → posting_in u (call ∷ rest) ≡ call_in (post_side u.sides queue)
  pub work : (u : ThreadView) (rest : List Call) → IsPostWork u queue items → IsAtWork u (call ∷ rest)
  pub at_work : (u : ThreadView) (rest : List Call) → IsAtWork u (call ∷ rest) → IsPostWork u queue items
  pub may : (d : Lines) (t : Thread) (number : ℕ) (x : Marked Mark) (rest : List Call) → MayPost d t queue items x → MayCall d t number (call ∷ rest) x
  pub after : (d : Lines) (t : Thread) (x : Marked Mark) (rest : List Call) → after_call d t (call ∷ rest) x ≡ rule_after d t queue items x.entry rest
  pub says : (d : Lines) (t : Thread) (x : Marked Mark) (rest : List Call) → call_says d t (call ∷ rest) x ≡ post_says d t queue items x.entry
  pub sees : (d : Lines) (t : Thread) (x : Marked Mark) (rest : List Call) → call_sees d t (call ∷ rest) x ≡ post_sees d t queue (length items) x.entry
  pub inside : (d : Lines) (a : ℕ) → ArePlaced → IsTrue (is_declared d) → Lives d (object_of call) → place.touches (queue_place d queue) a ≡ true → a < words_of d

pub is_send : (qp : ℕ) (requests : List Request) → IsPost (Post qp requests) (queues.Send qp) (map TheRequest requests)
is_send qp requests = record {
  kind = tt;
  object = refl;
  left = λ taken rest. refl;
  posting = λ u rest. refl;
  work = λ u rest h. h;
  at_work = λ u rest h. h;
  may = λ d t number x rest h. h;
  after = λ d t x rest. refl;
  says = λ d t x rest. refl;
  sees = λ d t x rest. refl;
  inside = λ d a placed declared lives touched. ((placed d (Sends qp) declared lives).inside a touched).1;
}

pub is_receive : (qp : ℕ) (receives : List Receive) → IsPost (Recv qp receives) (queues.Recv qp) (map TheReceive receives)
is_receive qp receives = record {
  kind = tt;
  object = refl;
  left = λ taken rest. refl;
  posting = λ u rest. refl;
  work = λ u rest h. h;
  at_work = λ u rest h. h;
  may = λ d t number x rest h. h;
  after = λ d t x rest. refl;
  says = λ d t x rest. refl;
  sees = λ d t x rest. refl;
  inside = λ d a placed declared lives touched. ((placed d (Receives qp) declared lives).inside a touched).1;
}

sends_queue : (queue : Queue) (n : ℕ) → Sends n ≡ object_on queue → queues.Send n ≡ queue
sends_queue (queues.Send k) n is = ap number is where
  number : Object → Queue
  number (Sends m) = queues.Send m
  number (Receives m) = queues.Recv m
  number (Completions m) = queues.Shared m
sends_queue (queues.Recv k) n is = absurd cc
sends_queue (queues.Shared k) n is = absurd cc

receives_queue : (queue : Queue) (n : ℕ) → Receives n ≡ object_on queue → queues.Recv n ≡ queue
receives_queue (queues.Recv k) n is = ap number is where
  number : Object → Queue
  number (Sends m) = queues.Send m
  number (Receives m) = queues.Recv m
  number (Completions m) = queues.Shared m
receives_queue (queues.Send k) n is = absurd cc
receives_queue (queues.Shared k) n is = absurd cc

module _ (s s' : SidesView) (queue : Queue) (before after : PostView) (moves : MovesPost s s' queue before after) where
  -- a side that rests elsewhere goes on to rest
  elsewhere : (o : Object) → o ≢ object_on queue → Rests s o → Rests s' o
  elsewhere (Completions cq) differ rests = subst (IfThere (λ (side : PollView). side.state ≡ states.Idle)) (sym (moves.polls cq)) rests
  elsewhere (Sends qp) differ rests = subst (IfThere PostRests) (sym (moves.others (queues.Send qp) (λ is. differ (ap object_on is)))) rests
  elsewhere (Receives qp) differ rests = subst (IfThere PostRests) (sym (moves.others (queues.Recv qp) (λ is. differ (ap object_on is)))) rests

  module _ (rests : PostRests after) (others : (o : Object) → o ≢ object_on queue → Rests s o) where
    here : (q : Queue) → q ≡ queue → IfThere PostRests (post_side s' q)
    here q is = subst (λ (k : Queue). IfThere PostRests (post_side s' k)) (sym is) (subst (IfThere PostRests) (sym moves.now) rests)

    -- all rest where this one does
    all_rest : IsQueueKind queue → AllRest s'
    all_rest kind (Completions cq) = elsewhere (Completions cq) (no_completions queue cq kind) (others (Completions cq) (no_completions queue cq kind))
    all_rest kind (Sends qp) = elim (rule.same_or_other queue (queues.Send qp)) [
      | inl same ↦ here (queues.Send qp) same
      | inr differ ↦ elsewhere (Sends qp) (λ is. differ (sends_queue queue qp is)) (others (Sends qp) (λ is. differ (sends_queue queue qp is)))
    ]
    all_rest kind (Receives qp) = elim (rule.same_or_other queue (queues.Recv qp)) [
      | inl same ↦ here (queues.Recv qp) same
      | inr differ ↦ elsewhere (Receives qp) (λ is. differ (receives_queue queue qp is)) (others (Receives qp) (λ is. differ (receives_queue queue qp is)))
    ]

-- what the side at a queue keeps
keeps : (v : ThreadView) (new : SidesView) (queue : Queue) (before after : PostView) → IsThread v → MovesPost v.sides new queue before after
    → after.poster.place ≡ before.poster.place → after.queue ≡ before.queue → KeepsSides v new
keeps v new queue before after stands moves place_stays queue_stays = record {
  has = λ other h. has (shape_of other) h;
  posts = posts;
  polls = λ cq. subst (IfThere (IsPollSide v.lines cq)) (sym (moves.polls cq)) (stands.polls cq);
} where
  before_is : IsPostSide v.lines queue before
  before_is = subst (IfThere (IsPostSide v.lines queue)) moves.was (stands.posts queue)

  after_is : IsPostSide v.lines queue after
  after_is = record {
    place = place_stays ∙ before_is.place;
    queue_is = queue_stays ∙ before_is.queue_is;
    within = subst (λ (p : WqPlace). IsWithin (words_of v.lines) p) (sym place_stays) before_is.within;
  }

  posts : (q : Queue) → IfThere (IsPostSide v.lines q) (post_side new q)
  posts q = elim (rule.same_or_other queue q) [
    | inl same ↦ subst (λ (k : Queue). IfThere (IsPostSide v.lines k) (post_side new k)) (sym same) (subst (IfThere (IsPostSide v.lines queue)) (sym moves.now) after_is)
    | inr differ ↦ subst (IfThere (IsPostSide v.lines q)) (sym (moves.others q differ)) (stands.posts q)
  ]

  some : (q : Queue) → IsSome (post_side v.sides q) → IsSome (post_side new q)
  some q h = elim (rule.same_or_other queue q) [
    | inl same ↦ subst (λ (k : Queue). IsSome (post_side new k)) (sym same) (subst (λ (o : Option PostView). IsSome o) (sym moves.now) refl)
    | inr differ ↦ subst (λ (o : Option PostView). IsSome o) (sym (moves.others q differ)) h
  ]

  has : (shape : Shape) → HasSideIn v.sides shape → HasSideIn new shape
  has (Posts q items) h = some q h
  has (Takes cq taking) h = subst (λ (o : Option PollView). IsSome o) (sym (moves.polls cq)) h

none_left : (o : Option post.Call) (next : post.Call) → is_over (answer_with o next) ≡ true → o ≡ None
none_left None next is = refl
none_left (Some c) next is = absurd (false≢true is)

some_left : (o : Option post.Call) (next : post.Call) → is_over (answer_with o next) ≡ false → (c : post.Call) × (o ≡ Some c)
some_left None next is = absurd (false≢true (sym is))
some_left (Some c) next is = (c, refl)

-- a turn and what holds after it
pub record Goes (v v' : ThreadView) (e : BusEntry) (noted : Option Note) : Type 0 where
  pub turn : ThreadTurn v v' e noted
  pub stands : IsThread v'
  pub finished : v.finished ≤ v'.finished

module _ (v : ThreadView) (sides : SidesView) (call : Call) (queue : Queue) (items : List Item) (kind : IsPost call queue items) (stands : IsThread v)
    (found : slice_get v.program v.finished ≡ Some call) (before after : PostView) (moves : MovesPost v.sides sides queue before after)
    (e : BusEntry) (posted : Posted) (goes : GoesOn before after items e posted) (placed : ArePlaced) where
  abbrev rest : List Call
  rest = drop (v.finished + 1) v.program

  left : calls_left v ≡ call ∷ rest
  left = ap (left_of v.taken) (drop_there v.program v.finished call found) ∙ kind.left v.taken rest

  posting_was : (thread_of v).posting ≡ before.call
  posting_was = ap (posting_in v) left ∙ (kind.posting v rest ∙ ap call_in moves.was)

  is : IsPostSide v.lines queue before
  is = subst (IfThere (IsPostSide v.lines queue)) moves.was (stands.posts queue)

  kept : KeepsSides v sides
  kept = keeps v sides queue before after stands moves goes.turn.place goes.turn.queue

  work : IsPostWork v queue items
  work = kind.at_work v rest (subst (IsAtWork v) left stands.work)

  others : (o : Object) → o ≢ object_on queue → Rests v.sides o
  others o differ = subst (OthersRest v.sides) left stands.others o (λ same. differ (same ∙ sym kind.object))

  abbrev mark : Mark
  mark = on_queue queue (mark_of (post_now (thread_of v) queue (length items)).call)

  may : MayThread v.lines (thread_of v) v.number (marked e mark)
  may = subst (λ (calls : List Call). MayCall v.lines (thread_of v) v.number calls (marked e mark)) (sym left)
      (kind.may v.lines (thread_of v) v.number (marked e mark) rest (rule.may_post v queue items e before after goes.answer moves.was is goes.turn posting_was))

  module _ (v' : ThreadView) (same_lines : v'.lines ≡ v.lines) (same_sides : v'.sides ≡ sides) where
    moves' : MovesPost v.sides v'.sides queue before after
    moves' = subst (λ (s : SidesView). MovesPost v.sides s queue before after) (sym same_sides) moves

    turns : v'.number ≡ v.number → v'.program ≡ v.program → v'.given ≡ v.given → v'.ended ≡ v.ended → calls_left v' ≡ calls_after_post after.call (calls_left v) rest → posting_in v' (calls_left v') ≡ after.call → ThreadTurn v v' e posted.noted
    turns number program given ended calls posting = record {
      mark = mark;
      may = may;
      goes = rule.post_after v queue items e before after goes.answer moves.was is goes.turn posting_was v' same_lines moves' rest calls posting given ended
          ∙ sym (kind.after v.lines (thread_of v) (marked e mark) rest) ∙ ap (λ (calls : List Call). after_call v.lines (thread_of v) calls (marked e mark)) (sym left);
      noted = goes.noted ∙ coe 1 0 (i. IsNoteOf ((ap (λ (calls : List Call). call_says v.lines (thread_of v) calls (marked e mark)) left ∙ kind.says v.lines (thread_of v) (marked e mark) rest) i) ((ap (λ (calls : List Call). call_sees v.lines (thread_of v) calls (marked e mark)) left ∙ kind.sees v.lines (thread_of v) (marked e mark) rest) i) after.noted)
          (rule.post_noted v queue items e before after goes.answer moves.was is goes.turn posting_was);
      inside = kind.inside v.lines e.addr placed stands.declared (each_at (CanCall v.lines) v.program v.finished call found stands.calls).lives
          (subst (λ (p : WqPlace). place.touches p e.addr ≡ true) is.place goes.turn.inside);
      same = record { lines = same_lines; number = number; program = program };
      rises = rule.post_rises v queue items e before after goes.answer moves.was is goes.turn posting_was v' same_lines moves';
    }

  over : after.call ≡ None → Goes v (moved v (v.finished + 1) 0 v.given sides) e posted.noted
  over none = record {
    turn = turns v' refl refl refl refl refl refl calls (none_posting v' (calls_left v') rests ∙ sym none);
    stands = subst (λ (g : List Completion). IsThread (moved v (v.finished + 1) 0 g sides)) (sym work.given) (stands_next v sides call stands found kept rests);
    finished = omega arith;
  } where
    v' : ThreadView
    v' = moved v (v.finished + 1) 0 v.given sides

    rests : AllRest sides
    rests = all_rest v.sides sides queue before after moves (record { call = none; task = (goes.turn.rest none).task }) others kind.kind

    calls : calls_left v' ≡ calls_after_post after.call (calls_left v) rest
    calls = left_none rest ∙ ap (λ (c : Option post.Call). calls_after_post c (calls_left v) rest) (sym none)

  on : (c : post.Call) → after.call ≡ Some c → Goes v (moved v v.finished v.taken v.given sides) e posted.noted
  on c some = record {
    turn = turns v' refl refl refl refl refl refl (ap (λ (c : Option post.Call). calls_after_post c (calls_left v) rest) (sym some)) posting;
    stands = stands_on v v.taken v.given sides stands kept
        (subst (OthersRest sides) (sym left) (λ o differ. elsewhere v.sides sides queue before after moves o (λ same. differ (same ∙ kind.object)) (others o (λ same. differ (same ∙ kind.object)))))
        (subst (IsAtWork v') (sym left) (kind.work v' rest (record { side = subst (IfThere (IsPosting items)) (sym moves.now) listed; given = work.given })));
    finished = omega arith;
  } where
    v' : ThreadView
    v' = moved v v.finished v.taken v.given sides

    posting : posting_in v' (calls_left v') ≡ after.call
    posting = ap (posting_in v') left ∙ (kind.posting v' rest ∙ ap call_in moves.now)

    listed : IsPosting items after
    listed = record { list = goes.turn.goes_on; rests = λ none. (goes.turn.rest none).task }

  abbrev next : post.Call
  next = next_call before.poster.place (rule_of (begun before (length items))) e

  over_is : posted.is_over ≡ is_over (answer_with after.call next)
  over_is = goes.over ∙ ap is_over (answers (begun before (length items)) after items e goes.answer goes.turn)

  pub post_goes : (p : Progress) → p ≡ after_post (record { finished = v.finished; taken = v.taken }) posted.is_over → Goes v (moved v p.finished p.taken v.given sides) e posted.noted
  post_goes p is = subst (λ (q : Progress). Goes v (moved v q.finished q.taken v.given sides) e posted.noted) (sym is)
      (elim (cases_Bool posted.is_over) [
        | inl yes' ↦ subst (λ (b : Bool). Goes v (moved v (after_post now b).finished (after_post now b).taken v.given sides) e posted.noted) (sym yes') (over (none_left after.call next (sym over_is ∙ yes')))
        | inr no' ↦ let c = some_left after.call next (sym over_is ∙ no') in
            subst (λ (b : Bool). Goes v (moved v (after_post now b).finished (after_post now b).taken v.given sides) e posted.noted) (sym no') (on c.0 c.1)
      ]) where
        now : Progress
        now = record { finished = v.finished; taken = v.taken }
