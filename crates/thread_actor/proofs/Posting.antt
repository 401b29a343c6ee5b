-- An operation of a post, as the rule of threads has it.
use Rattle.std.proofs.Common.{◌≡◌, ◌≢◌, ◌⊎◌, inl, inr, ℕ, zero, suc, ◌+◌, ◌-◌, ◌≤◌, ◌<◌, ◌==◌, arith, refl, sym, ap, ◌∙◌, subst, true, false, Bool, not, if◌then◌else◌, List, [], ◌∷◌, length, map, Option, None, Some, IsSome, is_some, unwrap_or, option_map}
use Rattle.std.proofs.Math.Path.{fun_ext}
use Rattle.std.proofs.lemmas.Bool.{cases_Bool, false≢true}
use Rattle.std.proofs.lemmas.Bool.Decides.{eqb_tells}
use Rattle.bus_core.specs.declared.operation.BusEntry.{BusEntry}
use Rattle.bus_core.specs.declared.turn.Note.{Note}
use Rattle.bus_core.specs.declared.turn.Step.{Step}
use Rattle.verbs_types.specs.declared.call.Call.{Call}
use Rattle.verbs_types.specs.declared.completion.Queue.{Queue}
use Rattle.verbs_types.specs.declared.completion.Queue.TheVariants as queues
use Rattle.verbs_types.specs.declared.declaration.Lines.{Lines}
use Rattle.verbs_types.specs.declared.entry.What.{What}
use Rattle.verbs_types.specs.declared.request.Item.{Item}
use Rattle.verbs_rules.specs.Family.{put}
use Rattle.verbs_rules.specs.Same.{same_queue}
use Rattle.actor_map.specs.Notes.{note_of}
use Rattle.counted_ring.specs.declared.place.WqPlace.{WqPlace}
use Rattle.counted_ring.specs.Law.{fresh_poster}
use Rattle.counted_ring.specs.Poster.{Poster}
use Rattle.provider_post.specs.declared.answer.PostAnswer.{PostAnswer}
use Rattle.provider_post.specs.declared.call.Call as post
use Rattle.provider_post.specs.Call.{fresh_call, mark_of}
use Rattle.provider_post.specs.Rule.{PostRule, MayPostSide, post_side_call, post_side_poster, post_side_entry, post_side_note}
use Rattle.provider_poll.specs.Fresh.{fresh_rule}
use Rattle.provider_post.specs.Side.{PostView, PostTurn, rule_of}
use Rattle.actor_rules.specs.Thread.{Thread, queue_place, queue_start}
use Rattle.actor_rules.specs.Thread as rules
use Rattle.provider_poll.specs.Rule.{PollRule}
use Rattle.actor_rules.specs.Posting.{MayPost, on_queue, post_now, after_post, calls_after_post, post_says, post_sees}
use Rattle.thread_actor.specs.Posts.{GoesOn, begun}
use Rattle.thread_actor.specs.Sides.{SidesView, post_side, poll_side, IfThere}
use Rattle.thread_actor.specs.Small.{IsBelow, IsPosterBelow, IsHostBelow}
use Rattle.thread_actor.specs.Stands.{IsPostSide}
use Rattle.thread_actor.specs.Turn.{IsNoteOf, marked}
use Rattle.thread_actor.specs.View.{ThreadView, thread_of, poster_in, poll_in}
use Rattle.thread_actor.proofs.Places.{MovesPost}
use Rattle.thread_actor.proofs.Rising.{brings, weaken_poster, weaken_host}

-- a queue is another one or not
pub same_or_other : (queue other : Queue) → (other ≡ queue) ⊎ (other ≢ queue)
same_or_other (queues.Send n) (queues.Send k) = elim (eqb_tells k n) [ inl same ↦ inl (ap (λ (i : ℕ). queues.Send i) same.1) | inr apart ↦ inr (λ is. apart.1 (ap number is)) ] where
  number : Queue → ℕ
  number (queues.Send i) = i
  number (queues.Recv i) = i
  number (queues.Shared i) = i
same_or_other (queues.Recv n) (queues.Recv k) = elim (eqb_tells k n) [ inl same ↦ inl (ap (λ (i : ℕ). queues.Recv i) same.1) | inr apart ↦ inr (λ is. apart.1 (ap number is)) ] where
  number : Queue → ℕ
  number (queues.Send i) = i
  number (queues.Recv i) = i
  number (queues.Shared i) = i
same_or_other (queues.Shared n) (queues.Shared k) = elim (eqb_tells k n) [ inl same ↦ inl (ap (λ (i : ℕ). queues.Shared i) same.1) | inr apart ↦ inr (λ is. apart.1 (ap number is)) ] where
  number : Queue → ℕ
  number (queues.Send i) = i
  number (queues.Recv i) = i
  number (queues.Shared i) = i
same_or_other (queues.Send n) (queues.Recv k) = inr (λ is. absurd cc)
same_or_other (queues.Send n) (queues.Shared k) = inr (λ is. absurd cc)
same_or_other (queues.Recv n) (queues.Send k) = inr (λ is. absurd cc)
same_or_other (queues.Recv n) (queues.Shared k) = inr (λ is. absurd cc)
same_or_other (queues.Shared n) (queues.Send k) = inr (λ is. absurd cc)
same_or_other (queues.Shared n) (queues.Recv k) = inr (λ is. absurd cc)

module _ {V : Type 0} (values : Queue → V) where
  put_here : (queue : Queue) (value : V) → put same_queue values queue value queue ≡ value
  put_here (queues.Send n) value = elim (eqb_tells n n) [ inl same ↦ rw same.0 refl | inr differ ↦ absurd (differ.1 refl) ]
  put_here (queues.Recv n) value = elim (eqb_tells n n) [ inl same ↦ rw same.0 refl | inr differ ↦ absurd (differ.1 refl) ]
  put_here (queues.Shared n) value = elim (eqb_tells n n) [ inl same ↦ rw same.0 refl | inr differ ↦ absurd (differ.1 refl) ]

  put_there : (queue other : Queue) (value : V) → other ≢ queue → put same_queue values queue value other ≡ values other
  put_there (queues.Send n) (queues.Send k) value differ = elim (eqb_tells k n) [ inl same ↦ absurd (differ (ap (λ (i : ℕ). queues.Send i) same.1)) | inr apart ↦ rw apart.0 refl ]
  put_there (queues.Recv n) (queues.Recv k) value differ = elim (eqb_tells k n) [ inl same ↦ absurd (differ (ap (λ (i : ℕ). queues.Recv i) same.1)) | inr apart ↦ rw apart.0 refl ]
  put_there (queues.Shared n) (queues.Shared k) value differ = elim (eqb_tells k n) [ inl same ↦ absurd (differ (ap (λ (i : ℕ). queues.Shared i) same.1)) | inr apart ↦ rw apart.0 refl ]
  put_there (queues.Send n) (queues.Recv k) value differ = refl
  put_there (queues.Send n) (queues.Shared k) value differ = refl
  put_there (queues.Recv n) (queues.Send k) value differ = refl
  put_there (queues.Recv n) (queues.Shared k) value differ = refl
  put_there (queues.Shared n) (queues.Send k) value differ = refl
  put_there (queues.Shared n) (queues.Recv k) value differ = refl

-- threads with the same parts are the same
pub same_thread : (a b : Thread) → a.calls ≡ b.calls → a.posting ≡ b.posting → a.given ≡ b.given → a.posters ≡ b.posters → a.polls ≡ b.polls → a.ended ≡ b.ended → a ≡ b
same_thread a b calls posting given posters polls ended = λ i. record { calls = calls i; posting = posting i; given = given i; posters = posters i; polls = polls i; ended = ended i }

module _ (v : ThreadView) (queue : Queue) (items : List Item) (e : BusEntry) (before after : PostView) (answer : Step (Unit {0}) PostAnswer)
    (was : post_side v.sides queue ≡ Some before) (is : IsPostSide v.lines queue before)
    (turn : PostTurn (begun before (length items)) after items e answer)
    (posting : (thread_of v).posting ≡ before.call) where
  abbrev d : Lines
  d = v.lines

  abbrev t : Thread
  t = thread_of v

  -- where the rule of threads has the post
  abbrev now : PostRule
  now = post_now t queue (length items)

  poster_is : t.posters queue ≡ before.poster.side
  poster_is = ap (poster_in (fresh_poster (queue_start v.lines queue))) was

  now_is : rule_of (begun before (length items)) ≡ now
  now_is = λ i. record { poster = sym poster_is i; call = unwrap_or (sym posting i) (fresh_call (length items)) }

  pub may_post : MayPost d t queue items (marked e (on_queue queue (mark_of now.call)))
  may_post = record {
    mark_is = refl;
    goes_on = subst (λ (s : PostRule). MayPostSide (queue_place d queue) queue items s e) now_is
        (subst (λ (q : Queue). MayPostSide (queue_place d queue) q items (rule_of (begun before (length items))) e) is.queue_is
        (subst (λ (p : WqPlace). MayPostSide p before.queue items (rule_of (begun before (length items))) e) is.place turn.may));
  }

  pub call_is : after.call ≡ post_side_call (queue_place d queue) now e
  call_is = turn.call ∙ ap (λ (p : WqPlace). post_side_call p (rule_of (begun before (length items))) e) is.place ∙ ap (λ (s : PostRule). post_side_call (queue_place d queue) s e) now_is

  side_is : after.poster.side ≡ post_side_poster (queue_place d queue) now e
  side_is = turn.side ∙ ap (λ (p : WqPlace). post_side_poster p (rule_of (begun before (length items))) e) is.place ∙ ap (λ (s : PostRule). post_side_poster (queue_place d queue) s e) now_is

  pub post_noted : IsNoteOf (post_says d t queue items e) (post_sees d t queue (length items) e) after.noted
  post_noted =
      turn.noted ∙ ap (λ (p : WqPlace). post_side_note p before.queue items (rule_of (begun before (length items))) e) is.place
      ∙ ap (λ (q : Queue). post_side_note (queue_place d queue) q items (rule_of (begun before (length items))) e) is.queue_is
      ∙ ap (λ (s : PostRule). post_side_note (queue_place d queue) queue items s e) now_is

  module _ (v' : ThreadView) (same_lines : v'.lines ≡ v.lines) (moves : MovesPost v.sides v'.sides queue before after) where
    -- each poster after it
    poster_after : (other : Queue) → (thread_of v').posters other ≡ put same_queue t.posters queue (post_side_poster (queue_place d queue) now e) other
    poster_after other = elim (same_or_other queue other) [
      | inl same ↦ subst (λ (q : Queue). (thread_of v').posters q ≡ put same_queue t.posters queue (post_side_poster (queue_place d queue) now e) q) (sym same)
          (ap (poster_in (fresh_poster (queue_start v'.lines queue))) moves.now ∙ side_is ∙ sym (put_here t.posters queue (post_side_poster (queue_place d queue) now e)))
      | inr differ ↦
          ap (λ (l : Lines). poster_in (fresh_poster (queue_start l other)) (post_side v'.sides other)) same_lines
          ∙ ap (poster_in (fresh_poster (queue_start v.lines other))) (moves.others other differ)
          ∙ sym (put_there t.posters queue other (post_side_poster (queue_place d queue) now e) differ)
    ]

    polls_after : (cq : ℕ) → (thread_of v').polls cq ≡ t.polls cq
    polls_after cq =
        ap (λ (l : Lines). poll_in (fresh_rule l cq) (poll_side v'.sides cq)) same_lines
        ∙ ap (poll_in (fresh_rule v.lines cq)) (moves.polls cq)

    pub post_after : (rest : List Call) → (thread_of v').calls ≡ calls_after_post after.call t.calls rest → (thread_of v').posting ≡ after.call → v'.given ≡ v.given → v'.ended ≡ v.ended
        → thread_of v' ≡ after_post d t queue items e rest
    post_after rest calls posting' given ended = same_thread (thread_of v') (after_post d t queue items e rest)
        (calls ∙ ap (λ (c : Option post.Call). calls_after_post c t.calls rest) call_is)
        (posting' ∙ call_is)
        given
        (fun_ext poster_after)
        (fun_ext polls_after)
        ended

    pub post_rises : (most : ℕ) → IsBelow most t → IsBelow (most + 64) (thread_of v')
    post_rises most below = record {
      posters = λ other. subst (IsPosterBelow (most + 64)) (sym (poster_after other)) (put_below other);
      polls = λ cq. subst (λ (r : PollRule). IsHostBelow (most + 64) r.host) (sym (polls_after cq)) (weaken_host most (t.polls cq).host (below.polls cq));
    } where
      put_below : (other : Queue) → IsPosterBelow (most + 64) (put same_queue t.posters queue (post_side_poster (queue_place d queue) now e) other)
      put_below other = elim (same_or_other queue other) [
        | inl same ↦ subst (λ (q : Queue). IsPosterBelow (most + 64) (put same_queue t.posters queue (post_side_poster (queue_place d queue) now e) q)) (sym same)
            (subst (IsPosterBelow (most + 64)) (sym (put_here t.posters queue (post_side_poster (queue_place d queue) now e)))
            (brings most (queue_place d queue) (t.posters queue) (mark_of now.call) e (below.posters queue)))
        | inr differ ↦ subst (IsPosterBelow (most + 64)) (sym (put_there t.posters queue other (post_side_poster (queue_place d queue) now e) differ))
            (weaken_poster most (t.posters other) (below.posters other))
      ]
