-- Whole queues and the parts of the state: what an entry changes in a queue is what its row changes in the parts.
use Rattle.std.proofs.Common.{◌≡◌, ℕ, refl, sym, ap, ◌∙◌, Bool, true, false, if◌then◌else◌, List, [], ◌∷◌, length, drop, eqb-true}
use Rattle.verbs_types.specs.declared.completion.Completion.{Completion}
use Rattle.verbs_types.specs.declared.completion.Queue.{Queue}
use Rattle.verbs_types.specs.declared.request.Item.{Item}
use Rattle.verbs_types.specs.declared.state.Act.{Act}
use Rattle.verbs_types.specs.declared.state.Act.TheVariants.{Complete}
use Rattle.verbs_types.specs.declared.state.Unpolled.{Unpolled}
use Rattle.verbs_rules.specs.Family.{put, same_number}
use Rattle.verbs_rules.specs.OfOne.{WorkQueue, CompletionQueue}
use Rattle.verbs_rules.specs.Rows.{post, retire, ack, poll, publish, end_all}
use Rattle.verbs_rules.specs.Same.{same_queue}
use Rattle.verbs_rules.specs.State.{Settled}
use Rattle.verbs_model.specs.Queues.{AllQueues, settled_of, parts_of, with_queue, with_completions, posted_more, retired_to, taken_to, with_end, published_more}
use Rattle.verbs_laws.proofs.Sameness.{same_queue-true}

pub of_choice : {X V : Type 0} (g : X → V) (b : Bool) (x y : X) → g (if b then x else y) ≡ (if b then g x else g y)
of_choice g true x y = refl
of_choice g false x y = refl

module _ {K X V : Type 0} (same : K → K → Bool) (g : X → V) (f : K → X) (key : K) (u : X) where
  -- a part of the queue that is put is put
  part_changed : (k : K) → g (put same f key u k) ≡ put same (λ (j : K). g (f j)) key (g u) k
  part_changed k = of_choice g (same k key) u (f k)

  kept_by : (k : K) (b : Bool) → (b ≡ true → k ≡ key) → g u ≡ g (f key) → g (if b then u else f k) ≡ g (f k)
  kept_by k true is as_before = as_before ∙ ap (λ (j : K). g (f j)) (sym (is refl))
  kept_by k false is as_before = refl

  -- a part that is as before stays
  part_kept : ((k : K) → same k key ≡ true → k ≡ key) → g u ≡ g (f key) → (k : K) → g (put same f key u k) ≡ g (f k)
  part_kept is as_before k = kept_by k (same k key) (is k) as_before

module _ (a : AllQueues) (queue : Queue) (u : WorkQueue) where
  queue_changed : {V : Type 0} (g : WorkQueue → V) (k : Queue) → g (put same_queue a.queues queue u k) ≡ put same_queue (λ (j : Queue). g (a.queues j)) queue (g u) k
  queue_changed g k = part_changed same_queue g a.queues queue u k

  queue_kept : {V : Type 0} (g : WorkQueue → V) → g u ≡ g (a.queues queue) → (k : Queue) → g (put same_queue a.queues queue u k) ≡ g (a.queues k)
  queue_kept g as_before k = part_kept same_queue g a.queues queue u (λ j h. same_queue-true j queue h) as_before k

module _ (a : AllQueues) (cq : ℕ) (c : CompletionQueue) where
  completions_changed : {V : Type 0} (g : CompletionQueue → V) (k : ℕ) → g (put same_number a.completions cq c k) ≡ put same_number (λ (j : ℕ). g (a.completions j)) cq (g c) k
  completions_changed g k = part_changed same_number g a.completions cq c k

  completions_kept : {V : Type 0} (g : CompletionQueue → V) → g c ≡ g (a.completions cq) → (k : ℕ) → g (put same_number a.completions cq c k) ≡ g (a.completions k)
  completions_kept g as_before k = part_kept same_number g a.completions cq c (λ j h. eqb-true j cq h) as_before k

pub parts_of-posted : (a : AllQueues) (queue : Queue) (items : List Item) → parts_of (with_queue a queue (posted_more (a.queues queue) items)) ≡ post (parts_of a) queue items
parts_of-posted a queue items =
    let u = posted_more (a.queues queue) items in
    let room = queue_kept a queue u (λ (w : WorkQueue). w.room) refl in
    let segments = queue_kept a queue u (λ (w : WorkQueue). w.segments) refl in
    let posted = queue_changed a queue u (λ (w : WorkQueue). w.posted) in
    let taken = queue_kept a queue u (λ (w : WorkQueue). w.taken) refl in
    let settled = queue_kept a queue u settled_of refl in
    let v = parts_of a in
    λ i. record v { limits = record v.limits { room = λ queue. room queue i; segments = λ queue. segments queue i }; posted = λ queue. posted queue i; settled = λ queue. settled queue i; device = record v.device { taken = λ queue. taken queue i } }

pub parts_of-retired : (a : AllQueues) (queue : Queue) (count : ℕ) → parts_of (with_queue a queue (retired_to (a.queues queue) count)) ≡ retire (parts_of a) queue count
parts_of-retired a queue count =
    let u = retired_to (a.queues queue) count in
    let room = queue_kept a queue u (λ (w : WorkQueue). w.room) refl in
    let segments = queue_kept a queue u (λ (w : WorkQueue). w.segments) refl in
    let posted = queue_kept a queue u (λ (w : WorkQueue). w.posted) refl in
    let taken = queue_kept a queue u (λ (w : WorkQueue). w.taken) refl in
    let settled = queue_changed a queue u settled_of in
    let v = parts_of a in
    λ i. record v { limits = record v.limits { room = λ queue. room queue i; segments = λ queue. segments queue i }; posted = λ queue. posted queue i; settled = λ queue. settled queue i; device = record v.device { taken = λ queue. taken queue i } }

-- the adapter took one more request, and owes for it
pub parts_of-taken : (a : AllQueues) (queue : Queue) (number : ℕ) (acts : List Act)
    → parts_of (record (with_queue a queue (taken_to (a.queues queue) number)) { owed = acts }) ≡ record (parts_of a) { device = record (parts_of a).device { taken = put same_queue (parts_of a).device.taken queue number; owed = acts } }
parts_of-taken a queue number acts =
    let u = taken_to (a.queues queue) number in
    let room = queue_kept a queue u (λ (w : WorkQueue). w.room) refl in
    let segments = queue_kept a queue u (λ (w : WorkQueue). w.segments) refl in
    let posted = queue_kept a queue u (λ (w : WorkQueue). w.posted) refl in
    let taken = queue_changed a queue u (λ (w : WorkQueue). w.taken) in
    let settled = queue_kept a queue u settled_of refl in
    let v = parts_of a in
    λ i. record v { limits = record v.limits { room = λ queue. room queue i; segments = λ queue. segments queue i }; posted = λ queue. posted queue i; settled = λ queue. settled queue i; device = record v.device { taken = λ queue. taken queue i; owed = acts } }

pub parts_of-acked : (a : AllQueues) (cq index : ℕ) → parts_of (with_completions a cq (record (a.completions cq) { acked = index })) ≡ ack (parts_of a) cq index
parts_of-acked a cq index =
    let c : CompletionQueue = record (a.completions cq) { acked = index } in
    let size = completions_kept a cq c (λ (d : CompletionQueue). d.size) refl in
    let produced = completions_kept a cq c (λ (d : CompletionQueue). d.produced) refl in
    let acked = completions_changed a cq c (λ (d : CompletionQueue). d.acked) in
    let unpolled = completions_kept a cq c (λ (d : CompletionQueue). d.unpolled) refl in
    let v = parts_of a in
    λ i. record v { limits = record v.limits { size = λ cq. size cq i }; acked = λ cq. acked cq i; unpolled = λ cq. unpolled cq i; device = record v.device { produced = λ cq. produced cq i } }

pub parts_of-published : (a : AllQueues) (cq owner : ℕ) (u : Unpolled) (acts : List Act)
    → parts_of (record (with_completions a cq (published_more (a.completions cq) u)) { owed = acts }) ≡ publish (parts_of a) cq (Complete owner u ∷ acts)
parts_of-published a cq owner u acts =
    let c = published_more (a.completions cq) u in
    let size = completions_kept a cq c (λ (d : CompletionQueue). d.size) refl in
    let produced = completions_changed a cq c (λ (d : CompletionQueue). d.produced) in
    let acked = completions_kept a cq c (λ (d : CompletionQueue). d.acked) refl in
    let unpolled = completions_changed a cq c (λ (d : CompletionQueue). d.unpolled) in
    let v = parts_of a in
    λ i. record v { limits = record v.limits { size = λ cq. size cq i }; acked = λ cq. acked cq i; unpolled = λ cq. unpolled cq i; device = record v.device { produced = λ cq. produced cq i; owed = acts } }

-- each polled completion adds its request's number to its queue
abbrev pub with_ends : (Queue → WorkQueue) → List Completion → List Unpolled → Queue → WorkQueue
with_ends queues [] us = queues
with_ends queues (x ∷ xs) [] = queues
with_ends queues (x ∷ xs) (u ∷ us) = with_ends (put same_queue queues x.queue (with_end (queues x.queue) u.number)) xs us

ends_kept : {V : Type 0} (g : WorkQueue → V) → ((w : WorkQueue) (n : ℕ) → g (with_end w n) ≡ g w) → (f : Queue → WorkQueue) (xs : List Completion) (us : List Unpolled) (k : Queue)
    → g (with_ends f xs us k) ≡ g (f k)
ends_kept g as_before f [] us k = refl
ends_kept g as_before f (x ∷ xs) [] k = refl
ends_kept g as_before f (x ∷ xs) (u ∷ us) k =
    let w = with_end (f x.queue) u.number in
    ends_kept g as_before (put same_queue f x.queue w) xs us k ∙ part_kept same_queue g f x.queue w (λ j h. same_queue-true j x.queue h) (as_before (f x.queue) u.number) k

ends_settled : (f : Queue → WorkQueue) (xs : List Completion) (us : List Unpolled) (k : Queue) → settled_of (with_ends f xs us k) ≡ end_all (λ (j : Queue). settled_of (f j)) xs us k
ends_settled f [] us k = refl
ends_settled f (x ∷ xs) [] k = refl
ends_settled f (x ∷ xs) (u ∷ us) k =
    let w = with_end (f x.queue) u.number in
    let first : ◌≡◌ {A = Queue → Settled} (λ (j : Queue). settled_of (put same_queue f x.queue w j)) (put same_queue (λ (j : Queue). settled_of (f j)) x.queue (settled_of w)) =
    λ i j. part_changed same_queue settled_of f x.queue w j i in
    ends_settled (put same_queue f x.queue w) xs us k ∙ ap (λ (s : Queue → Settled). end_all s xs us k) first

pub parts_of-polled : (a : AllQueues) (cq : ℕ) (xs : List Completion)
    → parts_of (with_completions (record a { queues = with_ends a.queues xs (a.completions cq).unpolled }) cq (record (a.completions cq) { unpolled = drop (length xs) (a.completions cq).unpolled })) ≡ poll (parts_of a) cq xs
parts_of-polled a cq xs =
    let us = (a.completions cq).unpolled in
    let c : CompletionQueue = record (a.completions cq) { unpolled = drop (length xs) us } in
    let room = ends_kept (λ (w : WorkQueue). w.room) (λ w n. refl) a.queues xs us in
    let segments = ends_kept (λ (w : WorkQueue). w.segments) (λ w n. refl) a.queues xs us in
    let posted = ends_kept (λ (w : WorkQueue). w.posted) (λ w n. refl) a.queues xs us in
    let taken = ends_kept (λ (w : WorkQueue). w.taken) (λ w n. refl) a.queues xs us in
    let settled = ends_settled a.queues xs us in
    let size = completions_kept a cq c (λ (d : CompletionQueue). d.size) refl in
    let produced = completions_kept a cq c (λ (d : CompletionQueue). d.produced) refl in
    let acked = completions_kept a cq c (λ (d : CompletionQueue). d.acked) refl in
    let unpolled = completions_changed a cq c (λ (d : CompletionQueue). d.unpolled) in
    let v = parts_of a in
    λ i. record v {
      limits = record { room = λ queue. room queue i; segments = λ queue. segments queue i; size = λ cq. size cq i };
      posted = λ queue. posted queue i;
      settled = λ queue. settled queue i;
      acked = λ cq. acked cq i;
      unpolled = λ cq. unpolled cq i;
      device = record v.device { taken = λ queue. taken queue i; produced = λ cq. produced cq i };
    }
