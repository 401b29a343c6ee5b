-- What stands where one pair or one completion queue has changed.
use Rattle.std.proofs.Common.{◌≡◌, ◌≢◌, ℕ, ◌+◌, ◌<◌, ◌==◌, inl, inr, refl, sym, ap, ◌∙◌, subst, arith, Bool, true, false, MatchBool, List, length, set, length-set, eqb-true, Some, None, slice_get}
use Rattle.std.proofs.lemmas.Bool.{cases_Bool, eqb-false, ne_eqb}
use Rattle.std.proofs.lemmas.Option.{slice_get_within}
use Rattle.verbs_types.specs.declared.declaration.TheConstants.{FIRST_QP}
use Rattle.cqe_format.specs.declared.completion.Cqe.{Cqe}
use Rattle.cq_pair.specs.DeviceView as queue
use Rattle.device_engine.specs.declared.pair.Pair.{Pair}
use Rattle.device_engine.specs.declared.scan.Work.{Work}
use Rattle.device_engine.specs.Scan.{IsPair, IsQueue, IsReading, Task, Idle, ReadsPair, Publishes, PairTask, queue_task, IsScan}
use Rattle.device_engine.specs.View.{ScanView}
use Rattle.device_engine.proofs.Numbers.{get_same, get_other}

-- what holds of each item of a list of which one has changed
pub each_set : {X : Type 0} (P Q : ℕ → X → Type 0) (xs : List X) (k : ℕ) (y : X)
    → ((i : ℕ) (x : X) → slice_get xs i ≡ Some x → P i x) → (k < length xs → Q k y) → ((i : ℕ) (x : X) → i ≢ k → P i x → Q i x)
    → (i : ℕ) (x : X) → slice_get (set xs k y) i ≡ Some x → Q i x
each_set P Q xs k y each here others i x found =
    elim (cases_Bool (i == k)) [
      | inl same ↦
          let is = eqb-true i k same in
          let inside : k < length xs = omega (arith, is, length-set xs k y, slice_get_within (set xs k y) i x found) in
          let item : y ≡ x = some_same y x (sym (get_same xs k y inside) ∙ (ap (slice_get (set xs k y)) (sym is) ∙ found)) in
          subst (λ (j : ℕ). Q j x) (sym is) (subst (Q k) item (here inside))
      | inr beside ↦
          let apart = eqb-false i k beside in
          others i x apart (each i x (sym (get_other xs k i y apart) ∙ found))
    ]
  where
    some_same : {X : Type 0} (a b : X) → Some a ≡ Some b → a ≡ b
    some_same a b h = cc

-- the task of a visit: the pair at this place is read, or none is
abbrev pub reads : Bool → ℕ → Task
reads true place = ReadsPair place
reads false place = Idle

pub none_beside : (b : Bool) (place i : ℕ) (q : Pair) → i ≢ place → PairTask (reads b place) i q → q.requests.task ≡ None
none_beside true place i q apart t = subst (λ (same : Bool). MatchBool same (IsReading q) (q.requests.task ≡ None)) (ne_eqb i place apart) t
none_beside false place i q apart t = t

pub beside_none : (b : Bool) (place i : ℕ) (q : Pair) → i ≢ place → q.requests.task ≡ None → PairTask (reads b place) i q
beside_none true place i q apart t = subst (λ (same : Bool). MatchBool same (IsReading q) (q.requests.task ≡ None)) (sym (ne_eqb i place apart)) t
beside_none false place i q apart t = t

no_publication : (b : Bool) (place i : ℕ) → queue_task (reads b place) i ≡ None
no_publication true place i = refl
no_publication false place i = refl

abbrev pub with_pair : ScanView → Pair → ScanView
with_pair v p = record v { pairs = set v.pairs v.visit p }

-- the visited pair has changed
pub pair_changed : (v : ScanView) (before after : Bool) (p : Pair) → IsScan v (reads before v.visit)
    → IsPair v.declared (FIRST_QP + v.visit) p → PairTask (reads after v.visit) v.visit p → IsScan (with_pair v p) (reads after v.visit)
pair_changed v before after p s pair task = record {
  declared = s.declared;
  all_pairs = length-set v.pairs v.visit p ∙ s.all_pairs;
  all_queues = s.all_queues;
  visit = omega (arith, s.visit, length-set v.pairs v.visit p);
  pairs = each_set (λ i q. IsPair v.declared (FIRST_QP + i) q) (λ i q. IsPair v.declared (FIRST_QP + i) q) v.pairs v.visit p s.pairs (λ inside. pair) (λ i q apart is. is);
  queues = s.queues;
  pair_tasks = each_set (PairTask (reads before v.visit)) (PairTask (reads after v.visit)) v.pairs v.visit p s.pair_tasks (λ inside. task)
      (λ i q apart was. beside_none after v.visit i q apart (none_beside before v.visit i q apart was));
  queue_tasks = λ i q found. s.queue_tasks i q found ∙ (no_publication before v.visit i ∙ sym (no_publication after v.visit i));
}

-- a completion queue has changed
abbrev pub with_queue_at : ScanView → ℕ → queue.DeviceView → ScanView
with_queue_at v cq q = record v { queues = set v.queues cq q }

-- where no pair has a task
abbrev pub publishes : Bool → ℕ → Cqe → Task
publishes true cq completion = Publishes cq completion
publishes false cq completion = Idle

none_of_pairs : (b b' : Bool) (cq : ℕ) (c : Cqe) (i : ℕ) (p : Pair) → PairTask (publishes b cq c) i p → PairTask (publishes b' cq c) i p
none_of_pairs true true cq c i p t = t
none_of_pairs true false cq c i p t = t
none_of_pairs false true cq c i p t = t
none_of_pairs false false cq c i p t = t

beside_publication : (b : Bool) (cq : ℕ) (c : Cqe) (i : ℕ) → i ≢ cq → queue_task (publishes b cq c) i ≡ None
beside_publication true cq c i apart = rw (ne_eqb i cq apart) refl
beside_publication false cq c i apart = refl

pub queue_changed : (v : ScanView) (before after : Bool) (cq : ℕ) (c : Cqe) (q : queue.DeviceView) → IsScan v (publishes before cq c)
    → IsQueue v.declared cq q → q.task ≡ queue_task (publishes after cq c) cq → IsScan (with_queue_at v cq q) (publishes after cq c)
queue_changed v before after cq c q s is task = record {
  declared = s.declared;
  all_pairs = s.all_pairs;
  all_queues = length-set v.queues cq q ∙ s.all_queues;
  visit = s.visit;
  pairs = s.pairs;
  queues = each_set (IsQueue v.declared) (IsQueue v.declared) v.queues cq q s.queues (λ inside. is) (λ i x apart was. was);
  pair_tasks = λ i p found. none_of_pairs before after cq c i p (s.pair_tasks i p found);
  queue_tasks = each_set (λ i x. x.task ≡ queue_task (publishes before cq c) i) (λ i x. x.task ≡ queue_task (publishes after cq c) i) v.queues cq q s.queue_tasks (λ inside. task)
      (λ i x apart was. was ∙ (beside_publication before cq c i apart ∙ sym (beside_publication after cq c i apart)));
}

-- what stands does not hang on what the adapter is at
pub rework : (v : ScanView) (w : Work) (t : Task) → IsScan v t → IsScan (record v { work = w }) t
rework v w t s = record {
  declared = s.declared;
  all_pairs = s.all_pairs;
  all_queues = s.all_queues;
  visit = s.visit;
  pairs = s.pairs;
  queues = s.queues;
  pair_tasks = s.pair_tasks;
  queue_tasks = s.queue_tasks;
}
