-- A call to post, of a send or a receive queue, as its thread owes it.
use Rattle.std.proofs.Common.{◌≡◌, ◌≢◌, ℕ, ◌<◌, ◌==◌, ◌||◌, refl, sym, ap, subst, ◌∙◌, arith, true, false, Bool, if◌then◌else◌, List, [], ◌∷◌, ◌++◌, length, Option, None, Some, is_some, unwrap_or}
use Rattle.std.specs.List.{AllByRecursion, flat_map}
use Rattle.std.proofs.lemmas.Bool.{false≢true, eq-eqb, eqb-true, eqb-false}
use Rattle.verbs_types.specs.declared.call.Call.{Call}
use Rattle.verbs_types.specs.declared.completion.Queue.{Queue}
use Rattle.verbs_types.specs.declared.completion.Queue.TheVariants as queues
use Rattle.verbs_types.specs.declared.declaration.Lines.{Lines}
use Rattle.verbs_types.specs.declared.request.Item.{Item}
use Rattle.verbs_rules.specs.Answered.{due_by}
use Rattle.verbs_rules.specs.Same.{same_queue}
use Rattle.counted_ring.specs.Poster.{Poster}
use Rattle.provider_post.specs.declared.call.Call as post
use Rattle.provider_post.specs.Call.{is_written, fresh_call}
use Rattle.actor_rules.specs.Thread.{Thread}
use Rattle.actor_rules.specs.Dues.{thread_dues, call_dues, post_dues, dues_in}
use Rattle.verbs_rules.specs.Shape.{Shape, Posts, shape_of}
use Rattle.actor_rules.specs.Queues.{written_by}
use Rattle.actor_rules.specs.View.{accepted, written_of}
use Rattle.actor_rules.specs.Ready.{IsOwnCall, IsOwnPost, IsOwnIn}
use Rattle.actor_rules.specs.Threads.{IsPosting, IsPostAt, StandsAt, PostsAt, StandsAs}

-- how far a post is that may be about to begin
abbrev pub now_of : ℕ → Option post.Call → post.Call
now_of count posting = unwrap_or posting (fresh_call count)

-- a post that begins owes and has written the same as one that has not begun
pub dues_begun : (queue : Queue) (items : List Item) (posting : Option post.Call) → post_dues queue items posting ≡ post_dues queue items (Some (now_of (length items) posting))
dues_begun queue items None = refl
dues_begun queue items (Some call) = refl

pub accepted_begun : (items : List Item) (posting : Option post.Call) → accepted posting items ≡ accepted (Some (now_of (length items) posting)) items
accepted_begun items None = refl
accepted_begun items (Some call) = refl

first_of : (b : Bool) → (b || false) ≡ true → b ≡ true
first_of true h = refl
first_of false h = h

fresh_open : (count : ℕ) → 0 < count → is_written (fresh_call count) ≡ true → 0 < 0
fresh_open count some written = let none : 0 ≡ count = eqb-true 0 count (first_of (0 == count) written) in omega (arith, none, some)

pub posting_now : (count : ℕ) (poster : Poster) (posting : Option post.Call) → 0 < count → IsPostAt count poster posting → IsPosting count poster (now_of count posting)
posting_now count poster None some ready = record {
  count = refl;
  some = omega arith;
  rings_some = fresh_open count some;
  stage = record { writes = λ more. refl; record_next = λ all waits. ready; register_next = λ recorded. absurd (false≢true recorded) };
}
posting_now count poster (Some call) some h = h

-- of a call that is not all written
pub record IsOpen (c : post.Call) : Type 0 where
  pub recorded : c.recorded ≡ false
  pub refused : is_some c.refused ≡ false
  pub more : c.accepted < c.count

neither : (a b : Bool) → (a || b) ≡ false → (a ≡ false) × (b ≡ false)
neither true b h = absurd (false≢true (sym h))
neither false b h = (refl, h)

pub is_open : (count : ℕ) (poster : Poster) (c : post.Call) → IsPosting count poster c → is_written c ≡ false → IsOpen c
is_open count poster c h more =
    let parts = neither (c.accepted == c.count) (is_some c.refused) more in
    record { recorded = h.stage.writes more; refused = parts.1; more = omega (arith, h.some, eqb-false c.accepted c.count parts.0) }

-- a thread whose first call is this post
pub record IsPostCall (d : Lines) (programs : List (List Call)) (x : ℕ) (s : Thread) (queue : Queue) (items : List Item) (rest : List Call) : Type 0 where
  pub dues : (thread : Thread) → thread.calls ≡ s.calls → thread_dues d thread ≡ post_dues queue items thread.posting ++ flat_map due_by rest
  pub stands : PostsAt s queue (length items)
  pub goes_on : (thread : Thread) → thread.calls ≡ s.calls → PostsAt thread queue (length items) → StandsAt thread thread.calls
  pub silent : (thread : Thread) → thread.calls ≡ s.calls → (other : Queue) → other ≢ queue → written_by other thread thread.calls ≡ []
  pub writes : (thread : Thread) → thread.calls ≡ s.calls → written_by queue thread thread.calls ≡ accepted thread.posting items
  pub own : IsOwnPost d programs x queue items
  pub all_own : AllByRecursion (IsOwnCall d programs x) s.calls
  pub rest_own : AllByRecursion (IsOwnCall d programs x) rest

same_self : (queue : Queue) → same_queue queue queue ≡ true
same_self (queues.Send n) = eq-eqb n n refl
same_self (queues.Recv n) = eq-eqb n n refl
same_self (queues.Shared n) = eq-eqb n n refl

same_other : (other queue : Queue) → other ≢ queue → same_queue other queue ≡ false
same_other (queues.Send n) (queues.Send k) differ = by (n == k) refl
  where
    by : (b : Bool) → (n == k) ≡ b → b ≡ false
    by true e = absurd (differ (ap (λ (i : ℕ). queues.Send i) (eqb-true n k e)))
    by false e = refl
same_other (queues.Recv n) (queues.Recv k) differ = by (n == k) refl
  where
    by : (b : Bool) → (n == k) ≡ b → b ≡ false
    by true e = absurd (differ (ap (λ (i : ℕ). queues.Recv i) (eqb-true n k e)))
    by false e = refl
same_other (queues.Shared n) (queues.Shared k) differ = by (n == k) refl
  where
    by : (b : Bool) → (n == k) ≡ b → b ≡ false
    by true e = absurd (differ (ap (λ (i : ℕ). queues.Shared i) (eqb-true n k e)))
    by false e = refl
same_other (queues.Send n) (queues.Recv k) differ = refl
same_other (queues.Send n) (queues.Shared k) differ = refl
same_other (queues.Recv n) (queues.Send k) differ = refl
same_other (queues.Recv n) (queues.Shared k) differ = refl
same_other (queues.Shared n) (queues.Send k) differ = refl
same_other (queues.Shared n) (queues.Recv k) differ = refl

-- whatever its first call is called
pub post_call : (d : Lines) (programs : List (List Call)) (x : ℕ) (s : Thread) (queue : Queue) (items : List Item) (call : Call) (rest : List Call) → shape_of call ≡ Posts queue items → s.calls ≡ call ∷ rest → AllByRecursion (IsOwnCall d programs x) s.calls → StandsAt s s.calls → IsPostCall d programs x s queue items rest
post_call d programs x s queue items call rest posts is own work =
    let own_is = subst (AllByRecursion (IsOwnCall d programs x)) is own in record {
      dues = λ thread same. ap (call_dues d thread) (same ∙ is) ∙ ap (λ (shape : Shape). dues_in d thread.posting thread.polls shape ++ flat_map due_by rest) posts;
      stands = subst (StandsAs s) posts (subst (StandsAt s) is work);
      goes_on = λ thread same h. subst (StandsAt thread) (sym (same ∙ is)) (subst (StandsAs thread) (sym posts) h);
      silent = λ thread same other differ. ap (written_by other thread) (same ∙ is) ∙ ap (written_of other thread.posting) posts ∙ ap (λ (b : Bool). if b then accepted thread.posting items else []) (same_other other queue differ);
      writes = λ thread same. ap (written_by queue thread) (same ∙ is) ∙ ap (written_of queue thread.posting) posts ∙ ap (λ (b : Bool). if b then accepted thread.posting items else []) (same_self queue);
      own = subst (IsOwnIn d programs x) posts own_is.0;
      all_own = own;
      rest_own = own_is.1;
    }
