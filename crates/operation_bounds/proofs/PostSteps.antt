-- What an operation of a call to post makes of its thread.
use Rattle.std.proofs.Common.{◌≡◌, ℕ, refl, sym, ap, ◌∙◌, subst, arith, List, ◌∷◌, length, unwrap_or, Option, None, Some}
use Rattle.std.specs.List.{AllByRecursion}
use Rattle.verbs_types.specs.declared.call.Call.{Call}
use Rattle.verbs_types.specs.declared.completion.Queue.{Queue}
use Rattle.verbs_types.specs.declared.declaration.Lines.{Lines}
use Rattle.verbs_types.specs.declared.request.Item.{Item}
use Rattle.verbs_rules.specs.Family.{put}
use Rattle.verbs_rules.specs.Same.{same_queue}
use Rattle.bus_core.specs.Mark.{Marked}
use Rattle.counted_ring.specs.Place.{IsPlace}
use Rattle.counted_ring.specs.Poster.{Poster}
use Rattle.object_places.specs.Objects.{Mark}
use Rattle.provider_post.specs.declared.call.Call as post
use Rattle.provider_post.specs.Call.{fresh_call}
use Rattle.provider_post.specs.Left.{post_left}
use Rattle.provider_post.specs.Rule.{post_side_poster, post_side_call}
use Rattle.provider_post.proofs.Left.{IsPosting, Left}
use Rattle.actor_rules.specs.Posting.{MayPost, post_now, after_post, calls_after_post}
use Rattle.actor_rules.specs.Ready.{IsOwnCall}
use Rattle.actor_rules.specs.Thread.{Thread, queue_place}
use Rattle.actor_rules.proofs.PerQueue.{queue_here, queue_cases}
use Rattle.operation_bounds.proofs.Posts.{IsStaged, staged_goes}
use Rattle.operation_bounds.proofs.Threads.{IsPostAt, IsInPost, IsAtCall, Stands, Went, Over, On, begins, left_of, post_now_left}

pub posting_now : (items : ℕ) (posting : Option post.Call) → IsPostAt items posting → IsPosting items (unwrap_or posting (fresh_call items))
posting_now items None h = record { count = refl; some = omega arith }
posting_now items (Some c) h = h

-- a post, of a send or a receive queue, as the first of a thread's calls
pub record IsPostCall (t : Thread) (queue : Queue) (items : List Item) (first : Call) (rest : List Call) : Type 0 where
  pub calls : t.calls ≡ first ∷ rest
  pub stands : IsInPost t (length items)
  pub goes_on : (s : Thread) → IsInPost s (length items) → IsAtCall s (first ∷ rest)
  pub left : (s : Thread) → left_of s (first ∷ rest) ≡ post_now_left s queue (length items)

module _ (d : Lines) (programs : List (List Call)) (x : ℕ) (t : Thread) (queue : Queue) (items : List Item) (first : Call) (rest : List Call) (op : Marked Mark) (h : Stands d programs x t) (p : IsPostCall t queue items first rest)
    (fine : IsPlace (queue_place d queue)) (may : MayPost d t queue items op) where
  abbrev poster : Poster
  poster = post_side_poster (queue_place d queue) (post_now t queue (length items)) op.entry

  abbrev posters : Queue → Poster
  posters = put same_queue t.posters queue poster

  -- the thread, where its post has come so far
  abbrev later : Option post.Call → Thread
  later o = record { calls = calls_after_post o t.calls rest; posting = o; given = t.given; posters = posters; polls = t.polls; ended = t.ended }

  goes : IsStaged (queue_place d queue) poster.stage × Left (length items) (post_now_left t queue (length items)) poster.stage (post_side_call (queue_place d queue) (post_now t queue (length items)) op.entry)
  goes = staged_goes (queue_place d queue) fine (length items) (t.posters queue) (unwrap_or t.posting (fresh_call (length items))) op.entry (posting_now (length items) t.posting p.stands.posting) (h.staged queue) may.goes_on.brings

  staged : (other : Queue) → IsStaged (queue_place d other) (posters other).stage
  staged = queue_cases (λ other q. IsStaged (queue_place d other) q.stage) t.posters queue poster goes.0 (λ other apart. h.staged other)

  own_rest : AllByRecursion (IsOwnCall d programs x) rest
  own_rest = (subst (AllByRecursion (IsOwnCall d programs x)) p.calls h.own).1

  left_now : left_of t t.calls ≡ post_now_left t queue (length items)
  left_now = ap (left_of t) p.calls ∙ p.left t

  by : (o : Option post.Call) → Left (length items) (post_now_left t queue (length items)) poster.stage o → Stands d programs x (later o) × Went t (later o)
  by None left =
      let long = ap length p.calls in (
        record { own = own_rest; staged = staged; hosts = h.hosts; work = begins (later None) rest (record { posting = refl; given = p.stands.given; polls = p.stands.polls }) },
        Over (omega (arith, long)),
      )
  by (Some c) left =
      let here : post_now_left (later (Some c)) queue (length items) ≡ post_left poster.stage c = ap (λ (q : Poster). post_left q.stage c) (queue_here t.posters queue poster) in
      let then_left : left_of (later (Some c)) t.calls ≡ post_now_left (later (Some c)) queue (length items) = ap (left_of (later (Some c))) p.calls ∙ p.left (later (Some c)) in
      let before = left_now in
      let stands : IsInPost (later (Some c)) (length items) = record { posting = left.0; given = p.stands.given; polls = p.stands.polls } in (
        record { own = h.own; staged = staged; hosts = h.hosts; work = subst (IsAtCall (later (Some c))) (sym p.calls) (p.goes_on (later (Some c)) stands) },
        On refl (omega (arith, here, then_left, before, left.1)),
      )

  pub post_step : Stands d programs x (after_post d t queue items op.entry rest) × Went t (after_post d t queue items op.entry rest)
  post_step = by (post_side_call (queue_place d queue) (post_now t queue (length items)) op.entry) goes.1
