-- What the threads owe before their first operation.
use Rattle.std.proofs.Common.{◌≡◌, ℕ, zero, suc, ◌+◌, ◌==◌, inl, inr, Bool, true, false, ◌||◌, if◌then◌else◌, List, [], ◌∷◌, ◌++◌, length, map, replicate, refl, ◌∙◌, ap, arith}
use Rattle.std.specs.List.{flat_map, list_any, sum_by, All, AllByRecursion}
use Rattle.std.proofs.lemmas.List.{length-map}
use Rattle.std.proofs.lemmas.List.Folds.{list_any-append}
use Rattle.std.proofs.lemmas.List.Sums.{sum_by-append, sum_by-cons}
use Rattle.verbs_types.specs.declared.call.Call.{Call}
use Rattle.verbs_types.specs.declared.call.Call.TheVariants.{Post, Recv, Poll, Drain}
use Rattle.verbs_types.specs.declared.completion.Queue.TheVariants as queues
use Rattle.verbs_types.specs.declared.declaration.Lines.{Lines}
use Rattle.verbs_types.specs.declared.declaration.TheConstants.{FIRST_QP}
use Rattle.verbs_types.specs.declared.request.Item.TheVariants.{Request as TheRequest, Receive as TheReceive}
use Rattle.verbs_types.specs.Lines.{is_among}
use Rattle.verbs_rules.specs.Answered.{Due, Posting, Draining, due_by}
use Rattle.verbs_rules.specs.Proper.{OnePosts, AreProper, IsProper, items_on, posts_on, retires_on, over_dues, dues_of_thread}
use Rattle.verbs_laws.proofs.Owing.{proper_rest}
use Rattle.scenario_text.specs.Calls.{IsCall, IsProgram, IsOfOneThread, posts_on as call_posts_on}
use Rattle.scenario_text.specs.Limits.{posted_by, posted_on}
use Rattle.actor_rules.specs.Ready.{first_dues}
use Rattle.ready_scenarios.proofs.Owned.{nops_of}
use Rattle.ready_scenarios.proofs.Owners.{calls_of, one_of_two}
use Rattle.ready_scenarios.proofs.Uses.{same_test}

-- The requests to be posted are those of the calls

drains_items : (qp n cq : ℕ) → sum_by (items_on qp) (replicate n (Draining cq)) ≡ 0
drains_items qp zero cq = refl
drains_items qp (suc n) cq = drains_items qp n cq

call_items : (qp : ℕ) (c : Call) → sum_by (items_on qp) (due_by c) ≡ posted_by qp c
call_items qp (Post q requests) =
    sum_by-cons (items_on qp) (Posting (queues.Send q) (map TheRequest requests)) []
    ∙ ap (λ m. (if qp == q then m else 0) + 0) (let long : length (map TheRequest requests) ≡ length requests = simp length-map in long)
    ∙ ap (λ b. (if b then length requests else 0) + 0) (same_test qp q)
    ∙ (let none : (if q == qp then length requests else 0) + 0 ≡ (if q == qp then length requests else 0) = omega arith in none)
call_items qp (Recv q receives) = refl
call_items qp (Poll cq most) = refl
call_items qp (Drain cq count) = drains_items qp count cq

calls_items : (qp : ℕ) (calls : List Call) → sum_by (items_on qp) (flat_map due_by calls) ≡ sum_by (posted_by qp) calls
calls_items qp [] = refl
calls_items qp (c ∷ calls) = omega (arith, sum_by-append (items_on qp) (due_by c) (flat_map due_by calls), call_items qp c, calls_items qp calls, sum_by-cons (posted_by qp) c calls)

pub first_items : (qp : ℕ) (programs : List (List Call)) → over_dues (items_on qp) (first_dues programs) ≡ posted_on qp programs
first_items qp [] = refl
first_items qp (p ∷ programs) =
    omega (arith, sum_by-cons (λ (ds : List Due). sum_by (items_on qp) ds) (flat_map due_by p) (first_dues programs), calls_items qp p, first_items qp programs, sum_by-cons (λ (calls : List Call). sum_by (posted_by qp) calls) p programs)

-- Nothing is to be retired

drains_retires : (qp n cq : ℕ) → sum_by (retires_on qp) (replicate n (Draining cq)) ≡ 0
drains_retires qp zero cq = refl
drains_retires qp (suc n) cq = drains_retires qp n cq

call_retires : (qp : ℕ) (c : Call) → sum_by (retires_on qp) (due_by c) ≡ 0
call_retires qp (Post q requests) = refl
call_retires qp (Recv q receives) = refl
call_retires qp (Poll cq most) = refl
call_retires qp (Drain cq count) = drains_retires qp count cq

calls_retires : (qp : ℕ) (calls : List Call) → sum_by (retires_on qp) (flat_map due_by calls) ≡ 0
calls_retires qp [] = refl
calls_retires qp (c ∷ calls) = omega (arith, sum_by-append (retires_on qp) (due_by c) (flat_map due_by calls), call_retires qp c, calls_retires qp calls)

pub first_retires : (qp : ℕ) (programs : List (List Call)) → over_dues (retires_on qp) (first_dues programs) ≡ 0
first_retires qp [] = refl
first_retires qp (p ∷ programs) = omega (arith, sum_by-cons (λ (ds : List Due). sum_by (retires_on qp) ds) (flat_map due_by p) (first_dues programs), calls_retires qp p, first_retires qp programs)

-- One thread posts on each send queue

drains_posts : (qp n cq : ℕ) → list_any (posts_on qp) (replicate n (Draining cq)) ≡ false
drains_posts qp zero cq = refl
drains_posts qp (suc n) cq = drains_posts qp n cq

or_none : (b : Bool) → (b || false) ≡ b
or_none true = refl
or_none false = refl

call_posts : (qp : ℕ) (c : Call) → list_any (posts_on qp) (due_by c) ≡ call_posts_on qp c
call_posts qp (Post q requests) = or_none (qp == q) ∙ same_test qp q
call_posts qp (Recv q receives) = refl
call_posts qp (Poll cq most) = refl
call_posts qp (Drain cq count) = drains_posts qp count cq

calls_posts : (qp : ℕ) (calls : List Call) → list_any (posts_on qp) (flat_map due_by calls) ≡ list_any (call_posts_on qp) calls
calls_posts qp [] = refl
calls_posts qp (c ∷ calls) =
    list_any-append (posts_on qp) (due_by c) (flat_map due_by calls)
    ∙ ap (λ b. b || list_any (posts_on qp) (flat_map due_by calls)) (call_posts qp c)
    ∙ ap (λ b. call_posts_on qp c || b) (calls_posts qp calls)

thread_posts : (qp : ℕ) (programs : List (List Call)) (t : ℕ) → list_any (posts_on qp) (dues_of_thread (first_dues programs) t) ≡ list_any (call_posts_on qp) (calls_of programs t)
thread_posts qp [] zero = refl
thread_posts qp [] (suc t) = refl
thread_posts qp (p ∷ programs) zero = calls_posts qp p
thread_posts qp (p ∷ programs) (suc t) = thread_posts qp programs t

pub first_poster : (programs : List (List Call)) → ((qp : ℕ) → IsOfOneThread (call_posts_on qp) programs) → OnePosts (first_dues programs)
first_poster programs one qp t u apart =
    elim (one_of_two programs (call_posts_on qp) (one qp) t u apart) [ inl h ↦ inl (thread_posts qp programs t ∙ h) | inr h ↦ inr (thread_posts qp programs u ∙ h) ]

-- All is owed on objects that live, and within the limits

all-append : {X : Type 0} (P : X → Type 0) (xs ys : List X) → AllByRecursion P xs → AllByRecursion P ys → AllByRecursion P (xs ++ ys)
all-append P [] ys h k = k
all-append P (x ∷ xs) ys h k = (h.0, all-append P xs ys h.1 k)

module _ (d : Lines) where
  abbrev pairs : ℕ → Bool
  pairs = is_among FIRST_QP (length d.qps)

  abbrev cqs : ℕ → Bool
  cqs = is_among 0 (length d.cqs)

  proper_drains : (n cq : ℕ) → cqs cq ≡ true → AllByRecursion (IsProper pairs cqs) (replicate n (Draining cq))
  proper_drains zero cq live = tt
  proper_drains (suc n) cq live = (live, proper_drains n cq live)

  proper_call : (c : Call) → IsCall d c → AllByRecursion (IsProper pairs cqs) (due_by c)
  proper_call (Post qp requests) h =
      let long : length (map TheRequest requests) ≡ length requests = simp length-map in
      ((h.0, omega (arith, long, h.1.0), nops_of requests h.2), tt)
  proper_call (Recv qp receives) h =
      let long : length (map TheReceive receives) ≡ length receives = simp length-map in
      ((h.0, omega (arith, long, h.1.0)), tt)
  proper_call (Poll cq most) h = ((h.0, h.1.0, h.1.1), tt)
  proper_call (Drain cq count) h = proper_drains count cq h.0

  proper_calls : (calls : List Call) → All (IsCall d) calls → AllByRecursion (IsProper pairs cqs) (flat_map due_by calls)
  proper_calls [] h = tt
  proper_calls (c ∷ calls) h = all-append (IsProper pairs cqs) (due_by c) (flat_map due_by calls) (proper_call c (h 0 c (omega arith))) (proper_calls calls (λ k e low. h (suc k) e (omega (arith, low))))

  pub first_proper : (free : ℕ → ℕ) (programs : List (List Call)) → All (IsProgram d) programs → (t : ℕ) → AreProper pairs cqs free (dues_of_thread (first_dues programs) t)
  first_proper free [] h zero = tt
  first_proper free [] h (suc t) = tt
  first_proper free (p ∷ programs) h zero = proper_rest pairs cqs free (flat_map due_by p) (proper_calls p (h 0 p (omega arith)).1)
  first_proper free (p ∷ programs) h (suc t) = first_proper free programs (λ k e low. h (suc k) e (omega (arith, low))) t
