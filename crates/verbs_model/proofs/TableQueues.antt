-- One changed value of a list is one changed value of the family that the list gives.
use Rattle.std.proofs.Common.{◌≡◌, ℕ, ◌<◌, ◌≢◌, ◌==◌, refl, sym, ap, ◌∙◌, subst, true, false, length, set, get_or, inl, inr, arith, length-set, get_or-set_same, get_or-set_other, eqb-true}
use Rattle.std.proofs.lemmas.Bool.{cases_Bool, cond-true, cond-false, eqb-false}
use Rattle.verbs_types.specs.declared.completion.Queue.{Queue}
use Rattle.verbs_types.specs.declared.completion.Queue.TheVariants.{Send, Recv, Shared}
use Rattle.verbs_types.specs.declared.declaration.TheConstants.{FIRST_QP}
use Rattle.verbs_rules.specs.Family.{put, same_number}
use Rattle.verbs_types.specs.Lines.{is_among}
use Rattle.verbs_rules.specs.Rules.{queue_lives}
use Rattle.verbs_rules.specs.Same.{same_queue}
use Rattle.verbs_rules.specs.OfOne.{WorkQueue, CompletionQueue}
use Rattle.verbs_model.specs.Queues.{no_queue, no_completions, with_queue, with_completions}
use Rattle.verbs_model.specs.Tables.{Tables, place_of, completions_are_in, queue_at, completions_at, all_of, state_of}
use Rattle.verbs_laws.proofs.Sameness.{same_queue-true}
use Rattle.verbs_laws.proofs.Families.{among, put_at, put_beside}

-- living queues that differ stand at different places
apart : (t : Tables) (p q : Queue) → queue_lives (state_of t) p ≡ true → queue_lives (state_of t) q ≡ true → same_queue p q ≡ false → place_of p ≢ place_of q
apart t (Send n) (Send m) lp lq d = let p = among FIRST_QP (length t.pairs) n lp in let q = among FIRST_QP (length t.pairs) m lq in let e = eqb-false n m d in λ h. e (omega arith)
apart t (Recv n) (Recv m) lp lq d = let p = among FIRST_QP (length t.pairs) n lp in let q = among FIRST_QP (length t.pairs) m lq in let e = eqb-false n m d in λ h. e (omega arith)
apart t (Send n) (Recv m) lp lq d = λ h. omega arith
apart t (Recv n) (Send m) lp lq d = λ h. omega arith
apart t (Shared n) q lp lq d = absurd (cc)
apart t p (Shared m) lp lq d = absurd (cc)

-- a queue that lives is the one at its place
pub queue_at_place : (t : Tables) (queue : Queue) → queue_lives (state_of t) queue ≡ true → queue_at t queue ≡ get_or t.queues (place_of queue) no_queue
queue_at_place t (Send qp) h = cond-true _ _ _ h
queue_at_place t (Recv qp) h = cond-true _ _ _ h
queue_at_place t (Shared srq) h = absurd (cc)

queue_at_nothing : (t : Tables) (queue : Queue) → queue_lives (state_of t) queue ≡ false → queue_at t queue ≡ no_queue
queue_at_nothing t (Send qp) h = cond-false _ _ _ h
queue_at_nothing t (Recv qp) h = cond-false _ _ _ h
queue_at_nothing t (Shared srq) h = refl

abbrev with_place : Tables → Queue → WorkQueue → Tables
with_place t queue u = record t { queues = set t.queues (place_of queue) u }

lives_with_place : (t : Tables) (queue : Queue) (u : WorkQueue) (other : Queue) → queue_lives (state_of (with_place t queue u)) other ≡ queue_lives (state_of t) other
lives_with_place t queue u (Send qp) = refl
lives_with_place t queue u (Recv qp) = refl
lives_with_place t queue u (Shared srq) = refl

-- the list with one queue changed gives the family with that queue changed
pub queue_at-set : (t : Tables) (queue : Queue) (u : WorkQueue) → queue_lives (state_of t) queue ≡ true → place_of queue < length t.queues
    → (other : Queue) → queue_at (with_place t queue u) other ≡ put same_queue (queue_at t) queue u other
queue_at-set t queue u lives inside other =
    elim (cases_Bool (same_queue other queue)) [
      | inl same ↦
          let is : other ≡ queue = same_queue-true other queue same in
          let at_it : queue_at (with_place t queue u) queue ≡ u = queue_at_place (with_place t queue u) queue (lives_with_place t queue u queue ∙ lives) ∙ get_or-set_same t.queues (place_of queue) u no_queue inside in
          subst (λ (q : Queue). queue_at (with_place t queue u) q ≡ u) (sym is) at_it ∙ sym (put_at same_queue (queue_at t) queue u other same)
      | inr beside ↦ elim (cases_Bool (queue_lives (state_of t) other)) [
        | inl lives_too ↦
            queue_at_place (with_place t queue u) other (lives_with_place t queue u other ∙ lives_too)
            ∙ (get_or-set_other t.queues (place_of queue) (place_of other) u no_queue (apart t other queue lives_too lives beside)
            ∙ (sym (queue_at_place t other lives_too) ∙ sym (put_beside same_queue (queue_at t) queue u other beside)))
        | inr dead ↦
            queue_at_nothing (with_place t queue u) other (lives_with_place t queue u other ∙ dead)
            ∙ (sym (queue_at_nothing t other dead) ∙ sym (put_beside same_queue (queue_at t) queue u other beside))
      ]
    ]

pub all_of-set_queue : (t : Tables) (queue : Queue) (u : WorkQueue) → queue_lives (state_of t) queue ≡ true → place_of queue < length t.queues
    → all_of (record t { queues = set t.queues (place_of queue) u }) ≡ with_queue (all_of t) queue u
all_of-set_queue t queue u lives inside = λ i. record (all_of t) { queues = λ other. queue_at-set t queue u lives inside other i }

-- the same for completion queues
pub completions_at_place : (t : Tables) (cq : ℕ) → completions_are_in t cq ≡ true → completions_at t cq ≡ get_or t.completions cq no_completions
completions_at_place t cq h = cond-true _ _ _ h

pub completions_inside : (t : Tables) (cq : ℕ) → completions_are_in t cq ≡ true → cq < length t.completions
completions_inside t cq h = let parts = among 0 (length t.completions) cq h in omega arith

abbrev with_completions_at : Tables → ℕ → CompletionQueue → Tables
with_completions_at t cq c = record t { completions = set t.completions cq c }

lives_with_completions : (t : Tables) (cq : ℕ) (c : CompletionQueue) (other : ℕ) → completions_are_in (with_completions_at t cq c) other ≡ completions_are_in t other
lives_with_completions t cq c other = ap (λ (n : ℕ). is_among 0 n other) (length-set t.completions cq c)

pub completions_at-set : (t : Tables) (cq : ℕ) (c : CompletionQueue) → completions_are_in t cq ≡ true
    → (other : ℕ) → completions_at (with_completions_at t cq c) other ≡ put same_number (completions_at t) cq c other
completions_at-set t cq c lives other =
    elim (cases_Bool (other == cq)) [
      | inl same ↦
          let is : other ≡ cq = eqb-true other cq same in
          let at_it : completions_at (with_completions_at t cq c) cq ≡ c = completions_at_place (with_completions_at t cq c) cq (lives_with_completions t cq c cq ∙ lives) ∙ get_or-set_same t.completions cq c no_completions (completions_inside t cq lives) in
          subst (λ (q : ℕ). completions_at (with_completions_at t cq c) q ≡ c) (sym is) at_it ∙ sym (put_at same_number (completions_at t) cq c other same)
      | inr beside ↦ elim (cases_Bool (completions_are_in t other)) [
        | inl lives_too ↦
            completions_at_place (with_completions_at t cq c) other (lives_with_completions t cq c other ∙ lives_too)
            ∙ (get_or-set_other t.completions cq other c no_completions (eqb-false other cq beside)
            ∙ (sym (completions_at_place t other lives_too) ∙ sym (put_beside same_number (completions_at t) cq c other beside)))
        | inr dead ↦
            cond-false _ _ _ (lives_with_completions t cq c other ∙ dead)
            ∙ (sym (cond-false _ _ _ dead) ∙ sym (put_beside same_number (completions_at t) cq c other beside))
      ]
    ]

pub all_of-set_completions : (t : Tables) (cq : ℕ) (c : CompletionQueue) → completions_are_in t cq ≡ true
    → all_of (record t { completions = set t.completions cq c }) ≡ with_completions (all_of t) cq c
all_of-set_completions t cq c lives = λ i. record (all_of t) { completions = λ other. completions_at-set t cq c lives other i; completions_live = λ other. lives_with_completions t cq c other i }
