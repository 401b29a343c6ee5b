-- A thread before the first of its calls.
use Rattle.std.proofs.Common.{◌≡◌, inl, inr, ℕ, ◌+◌, ◌-◌, ◌<◌, ◌≤◌, ◌^◌, nat_lt, arith, refl, sym, ap, ◌∙◌, subst, true, false, List, [], length, map, get_or, drop, Option, None, Some, IsTrue}
use Rattle.std.specs.List.{AllByRecursion}
use Rattle.std.proofs.Math.Path.{fun_ext}
use Rattle.std.proofs.lemmas.Bool.{cases_Bool}
use Rattle.std.proofs.lemmas.List.{get_or_past}
use Rattle.std.proofs.lemmas.Bool.Decides.{nat_tests}
use Rattle.verbs_types.specs.declared.call.Call.{Call}
use Rattle.verbs_types.specs.declared.completion.Queue.{Queue}
use Rattle.verbs_types.specs.declared.completion.Queue.TheVariants as queues
use Rattle.verbs_types.specs.declared.declaration.CqLine.{CqLine}
use Rattle.verbs_types.specs.declared.declaration.Lines.{Lines}
use Rattle.verbs_types.specs.declared.declaration.QpLine.{QpLine}
use Rattle.verbs_types.specs.declared.declaration.TheConstants.{FIRST_QP}
use Rattle.verbs_types.specs.Lines.{is_declared}
use Rattle.counted_ring.specs.Law.{fresh_poster, fresh_finder}
use Rattle.counted_ring.specs.Poster.{Poster}
use Rattle.cq_pair.specs.Law.{fresh_host}
use Rattle.object_places.specs.Objects.{Object, Completions, Sends, Receives}
use Rattle.object_places.specs.Places.{qp_line, no_qp, cq_line, no_cq}
use Rattle.object_places.proofs.Lines.{lines_of, qp_sizes, cq_sizes}
use Rattle.provider_post.specs.Side.{PostView}
use Rattle.provider_poll.specs.declared.state.PollState.TheVariants.{Idle}
use Rattle.provider_poll.specs.FollowsRule as follows
use Rattle.provider_poll.specs.Fresh as side
use Rattle.provider_poll.specs.Poll.{PollView}
use Rattle.provider_poll.specs.Rule.{PollRule}
use Rattle.provider_poll.proofs.Fresh.{begins_as}
use Rattle.provider_poll.specs.Fresh.{fresh_rule}
use Rattle.actor_rules.specs.Thread.{Thread, queue_start}
use Rattle.thread_actor.specs.Fresh.{CanRun, IsFresh, fresh_thread}
use Rattle.thread_actor.specs.NewSides.{IsNewPost, IsNewPoll, AreNew}
use Rattle.thread_actor.specs.Sides.{SidesView, post_side, poll_side, IfThere}
use Rattle.thread_actor.specs.Small.{IsBelow, IsPosterBelow, IsHostBelow}
use Rattle.thread_actor.specs.Stands.{IsThread, IsPostSide, IsPollSide, PostRests, HasSide}
use Rattle.thread_actor.specs.View.{ThreadView, thread_of, calls_left, poster_in, poll_in}
use Rattle.thread_actor.proofs.Posting.{same_thread}
use Rattle.thread_actor.proofs.Resting.{AllRest, there, others_rest, rests_work, none_posting, left_none}
use Rattle.thread_actor.proofs.Turning.{progress_of}

module _ (d : Lines) (declared : IsTrue (is_declared d)) where
  -- each line begins at an index of at most 33 bits
  qp_low : (qp : ℕ) → (qp_line d qp).start ≤ 2 ^ 32
  qp_low qp = elim (cases_Bool (nat_lt (qp - FIRST_QP) (length d.qps))) [
    | inl inside ↦ (qp_sizes d (qp_line d qp) ((lines_of d declared).qps (qp - FIRST_QP) no_qp (grind (arith, nat_tests, inside)))).start
    | inr past ↦ subst (λ (l : QpLine). l.start ≤ 2 ^ 32) (sym (get_or_past d.qps (qp - FIRST_QP) no_qp (grind (arith, nat_tests, past)))) (omega arith)
  ]

  cq_low : (cq : ℕ) → (cq_line d cq).start ≤ 2 ^ 32
  cq_low cq = elim (cases_Bool (nat_lt cq (length d.cqs))) [
    | inl inside ↦ (cq_sizes d (cq_line d cq) ((lines_of d declared).cqs cq no_cq (grind (arith, nat_tests, inside)))).start
    | inr past ↦ subst (λ (l : CqLine). l.start ≤ 2 ^ 32) (sym (get_or_past d.cqs cq no_cq (grind (arith, nat_tests, past)))) (omega arith)
  ]

  queue_low : (queue : Queue) → queue_start d queue ≤ 2 ^ 32
  queue_low (queues.Send qp) = qp_low qp
  queue_low (queues.Recv qp) = qp_low qp
  queue_low (queues.Shared srq) = omega arith

module _ (d : Lines) (s : SidesView) (new : AreNew d s) where
  post_rests : (queue : Queue) → IfThere PostRests (post_side s queue)
  post_rests queue = there (IsNewPost d queue) PostRests (λ v is. record { call = ap (λ (w : PostView). w.call) is.fresh; task = ap (λ (w : PostView). w.poster.task) is.fresh }) (post_side s queue) (new.posts queue)

  rests : AllRest s
  rests (Completions cq) = there (IsNewPoll d cq) (λ (v : PollView). v.state ≡ Idle) (λ v is. ap (λ (w : PollView). w.state) is.fresh) (poll_side s cq) (new.takes cq)
  rests (Sends qp) = post_rests (queues.Send qp)
  rests (Receives qp) = post_rests (queues.Recv qp)

  post_sides : (queue : Queue) → IfThere (IsPostSide d queue) (post_side s queue)
  post_sides queue = there (IsNewPost d queue) (IsPostSide d queue)
      (λ v is. record { place = ap (λ (w : PostView). w.poster.place) is.fresh; queue_is = ap (λ (w : PostView). w.queue) is.fresh; within = is.within }) (post_side s queue) (new.posts queue)

  poll_sides : (cq : ℕ) → IfThere (IsPollSide d cq) (poll_side s cq)
  poll_sides cq = there (IsNewPoll d cq) (IsPollSide d cq) (λ v is. record { place = ap follows.place_of is.fresh ∙ (begins_as d cq).place; within = is.within }) (poll_side s cq) (new.takes cq)

  -- what the sides have done is what the rule has of a thread that has done nothing
  poster_is : (queue : Queue) → poster_in (fresh_poster (queue_start d queue)) (post_side s queue) ≡ fresh_poster (queue_start d queue)
  poster_is queue = by_side (post_side s queue) (new.posts queue) where
    by_side : (o : Option PostView) → IfThere (IsNewPost d queue) o → poster_in (fresh_poster (queue_start d queue)) o ≡ fresh_poster (queue_start d queue)
    by_side None is = refl
    by_side (Some v) is = ap (λ (w : PostView). w.poster.side) is.fresh

  poll_is : (cq : ℕ) → poll_in (fresh_rule d cq) (poll_side s cq) ≡ fresh_rule d cq
  poll_is cq = by_side (poll_side s cq) (new.takes cq) where
    by_side : (o : Option PollView) → IfThere (IsNewPoll d cq) o → poll_in (fresh_rule d cq) o ≡ fresh_rule d cq
    by_side None is = refl
    by_side (Some v) is = ap follows.rule_of is.fresh ∙ (begins_as d cq).rule

  module _ (number : ℕ) (calls : List Call) where
    -- the thread with these sides
    abbrev first : ThreadView
    first = record { lines = d; number = number; program = calls; finished = 0; taken = 0; given = []; sides = s; ended = false }

    first_fresh : IsFresh d number calls first
    first_fresh = record {
      lines = refl;
      number_is = refl;
      program = refl;
      finished = refl;
      rule = same_thread (thread_of first) (fresh_thread d calls) (left_none (drop 0 calls)) (none_posting first (calls_left first) rests) refl (fun_ext poster_is) (fun_ext poll_is) refl;
      below = record {
        posters = λ queue. subst (IsPosterBelow (2 ^ 32 + 1)) (sym (poster_is queue)) (let low = queue_low d new.declared queue in record { count = omega arith; index = omega (arith, low) });
        polls = λ cq. subst (λ (r : PollRule). IsHostBelow (2 ^ 32 + 1) r.host) (sym (poll_is cq)) (let low = cq_low d new.declared cq in omega (arith, low));
      };
    }

    first_stands : CanRun d number calls → AllByRecursion (HasSide s) calls → IsThread first
    first_stands run has = record {
      declared = new.declared;
      some = run.some;
      most = run.most;
      few = run.few;
      finished = omega arith;
      calls = run.each;
      sides = has;
      posts = post_sides;
      polls = poll_sides;
      others = others_rest s (calls_left first) rests;
      work = rests_work first (calls_left first) refl rests;
    }

-- a thread with new sides at the first of its calls
pub record IsFirst (d : Lines) (number : ℕ) (calls : List Call) (v : ThreadView) : Type 0 where
  pub lines : v.lines ≡ d
  pub number_is : v.number ≡ number
  pub program : v.program ≡ calls
  pub progress : progress_of v ≡ record { finished = 0; taken = 0 }
  pub given : v.given ≡ []
  pub ended : v.ended ≡ false
  pub are_new : AreNew d v.sides

module _ (d : Lines) (number : ℕ) (calls : List Call) (v : ThreadView) (is : IsFirst d number calls v) where
  first_is : first d v.sides is.are_new number calls ≡ v
  first_is = λ i. record {
    lines = sym is.lines i;
    number = sym is.number_is i;
    program = sym is.program i;
    finished = (sym is.progress i).finished;
    taken = (sym is.progress i).taken;
    given = sym is.given i;
    sides = v.sides;
    ended = sym is.ended i;
  }

  pub is_fresh : IsFresh d number calls v
  is_fresh = subst (IsFresh d number calls) first_is (first_fresh d v.sides is.are_new number calls)

  pub is_thread : CanRun d number calls → AllByRecursion (HasSide v.sides) calls → IsThread v
  is_thread run has = subst IsThread first_is (first_stands d v.sides is.are_new number calls run has)
