-- A poll, a retirement and an acknowledgement that a thread owes next are legal, and all stays in bounds.
use Rattle.std.proofs.Common.{◌≡◌, ◌≢◌, ℕ, suc, ◌+◌, ◌-◌, ◌<◌, ◌≤◌, inl, Bool, true, false, if◌then◌else◌, List, [], ◌∷◌, ◌++◌, length, map, take, drop, refl, sym, ◌∙◌, ap, subst, arith, slice_set, append_assoc, length-append}
use Rattle.std.specs.List.{list_any, list_all, sum_by, AllByRecursion}
use Rattle.std.proofs.lemmas.List.Sums.{sum_by-cons, sum_by_push}
use Rattle.verbs_types.specs.declared.request.Item.{Item}
use Rattle.verbs_types.specs.declared.completion.Completion.{Completion}
use Rattle.verbs_types.specs.declared.completion.Queue.TheVariants.{Send}
use Rattle.verbs_types.specs.declared.declaration.TheConstants.{FIRST_QP}
use Rattle.verbs_types.specs.declared.entry.What.{What}
use Rattle.verbs_types.specs.declared.entry.What.TheVariants.{Poll, Retire, Ack}
use Rattle.verbs_types.specs.declared.state.QueuePair.{QueuePair}
use Rattle.verbs_types.specs.declared.state.Unpolled.{Unpolled}
use Rattle.verbs_rules.specs.Rows.{rest_of}
use Rattle.verbs_rules.specs.Rules.{names_living}
use Rattle.verbs_rules.specs.Same.{same_queue}
use Rattle.verbs_rules.specs.State.{Settled, Verbs}
use Rattle.verbs_rules.specs.OfOne.{queue_in, free_of}
use Rattle.verbs_rules.specs.Step.{after}
use Rattle.verbs_rules.specs.Answered.{Due, Polling, Draining, Retiring, Acking, settling}
use Rattle.verbs_laws.proofs.Facts.{MayStep_poll, MayStep_retire, MayStep_ack}
use Rattle.verbs_laws.proofs.Sameness.{same_queue_refl}
use Rattle.verbs_rules.specs.Proper.{Owes, IsProper, items_on, posts_on, retires_on, over_dues}
use Rattle.verbs_rules.specs.Sane.{IsHomed, numbers_in, waiting}
use Rattle.verbs_rules.specs.Within.{Bounds, InBounds, Goes, QueueWithin, CompletionsWithin, taken_of, free_on, into, owed_into}
use Rattle.verbs_laws.proofs.Choices.{put_send, put_one, differs}
use Rattle.verbs_laws.proofs.Counting.{over_after, over_due}
use Rattle.verbs_laws.proofs.Queued.{retired_up}
use Rattle.verbs_laws.proofs.KeptHost.{settled_now}
use Rattle.verbs_laws.proofs.Kept.{goes}
use Rattle.verbs_laws.proofs.Waiting.{completion_in, homed_take}
use Rattle.verbs_laws.proofs.Owing.{owing_after, proper_rest, proper_at}
use Rattle.verbs_laws.proofs.Steady.{host_of, rest_posts, no_more}

-- What a poll leaves owed

abbrev pub ends_owed : ℕ → List Unpolled → List Due
ends_owed cq us = settling cq (map completion_in us)

abbrev retiring_each : List Unpolled → List Due
retiring_each us = map (λ (y : Completion). Retiring y.queue) (map completion_in us)

sum_settling : (f : Due → ℕ) (cq : ℕ) (us : List Unpolled) → f (Acking cq) ≡ 0 → sum_by f (ends_owed cq us) ≡ sum_by f (retiring_each us)
sum_settling f cq [] e = refl
sum_settling f cq (u ∷ us) e = sum_by_push f (retiring_each (u ∷ us)) (Acking cq) ∙ ap (λ k. sum_by f (retiring_each (u ∷ us)) + k) e ∙ plus_none (sum_by f (retiring_each (u ∷ us)))
  where
    plus_none : (k : ℕ) → k + 0 ≡ k
    plus_none k = omega arith

retires_each : (i : ℕ) (us : List Unpolled) → sum_by (retires_on i) (retiring_each us) ≡ length (numbers_in i us)
retires_each i [] = refl
retires_each i (u ∷ us) =
    sum_by-cons (retires_on i) (Retiring u.completion.queue) (retiring_each us)
    ∙ ap (λ k. retires_on i (Retiring u.completion.queue) + k) (retires_each i us)
    ∙ by (same_queue (Send i) u.completion.queue)
  where
    by : (b : Bool) → (if b then 1 else 0) + length (numbers_in i us) ≡ length (if b then u.number ∷ numbers_in i us else numbers_in i us)
    by true = omega arith
    by false = omega arith

pub retires_settling : (i cq : ℕ) (us : List Unpolled) → sum_by (retires_on i) (ends_owed cq us) ≡ length (numbers_in i us)
retires_settling i cq us = sum_settling (retires_on i) cq us refl ∙ retires_each i us

items_each : (i : ℕ) (us : List Unpolled) → sum_by (items_on i) (retiring_each us) ≡ 0
items_each i [] = refl
items_each i (u ∷ us) = items_each i us

pub items_settling : (i cq : ℕ) (us : List Unpolled) → sum_by (items_on i) (ends_owed cq us) ≡ 0
items_settling i cq us = sum_settling (items_on i) cq us refl ∙ items_each i us

posts_each : (i : ℕ) (us : List Unpolled) (rest : List Due) → list_any (posts_on i) (retiring_each us ++ rest) ≡ list_any (posts_on i) rest
posts_each i [] rest = refl
posts_each i (u ∷ us) rest = posts_each i us rest

posts_settling : (i cq : ℕ) (us : List Unpolled) (rest : List Due) → list_any (posts_on i) (ends_owed cq us ++ rest) ≡ list_any (posts_on i) rest
posts_settling i cq [] rest = refl
posts_settling i cq (u ∷ us) rest = ap (list_any (posts_on i)) (append_assoc (retiring_each (u ∷ us)) (Acking cq ∷ []) rest) ∙ posts_each i (u ∷ us) (Acking cq ∷ rest)

module _ (lives cqs : ℕ → Bool) (pairs : ℕ → QueuePair) (cq : ℕ) where
  proper_each : (us : List Unpolled) (rest : List Due) → AllByRecursion (IsHomed lives pairs cq) us → AllByRecursion (IsProper lives cqs) rest → AllByRecursion (IsProper lives cqs) (retiring_each us ++ rest)
  proper_each [] rest homed h = h
  proper_each (u ∷ us) rest homed h = (record { qp = u.completion.qp; is = homed.0.queue; living = homed.0.living }, proper_each us rest homed.1 h)

  proper_settling : (us : List Unpolled) (rest : List Due) → cqs cq ≡ true → AllByRecursion (IsHomed lives pairs cq) us → AllByRecursion (IsProper lives cqs) rest → AllByRecursion (IsProper lives cqs) (ends_owed cq us ++ rest)
  proper_settling [] rest live homed h = h
  proper_settling (u ∷ us) rest live homed h = subst (AllByRecursion (IsProper lives cqs)) (sym (append_assoc (retiring_each (u ∷ us)) (Acking cq ∷ []) rest)) (proper_each (u ∷ us) (Acking cq ∷ rest) homed (live, h))

pub named_one : (v : Verbs) (cq : ℕ) (u : Unpolled) → IsHomed v.device.pair_lives v.device.pairs cq u → names_living v u.completion ≡ true
named_one v cq u h = rw (h.queue, h.living) refl

pub named_each : (v : Verbs) (cq : ℕ) (us : List Unpolled) → AllByRecursion (IsHomed v.device.pair_lives v.device.pairs cq) us → list_all (names_living v) (map completion_in us) ≡ true
named_each v cq [] h = refl
named_each v cq (u ∷ us) h = rw (named_one v cq u h.0) (named_each v cq us h.1)

-- a poll of this queue for at most so many is owed next
pub record PollsNext (v : Verbs) (cq most : ℕ) (due : Due) : Type 0 where
  pub items_are : (i : ℕ) → items_on i due ≡ 0
  pub retires_are : (i : ℕ) → retires_on i due ≡ 0
  pub live : v.device.completions_live cq ≡ true
  pub least : 1 ≤ most
  pub greatest : most ≤ 16

module _ (n : ℕ) (bounds : Bounds) (v : Verbs) (dues : List (List Due)) (cq most : ℕ) (s : InBounds n bounds v dues) where
  abbrev polled : List Unpolled
  polled = take most (v.unpolled cq)

  abbrev what : What
  what = Poll cq most (map completion_in polled)

  settled_is : (i : ℕ) → (after v what).settled (Send i) ≡ record (v.settled (Send i)) { ends = (v.settled (Send i)).ends ++ numbers_in i polled }
  settled_is i = settled_now n v cq most s.sane i

  free_now : (i : ℕ) → free_on v i ≤ free_on (after v what) i
  free_now i = let e : ((after v what).settled (Send i)).retired ≡ (v.settled (Send i)).retired = ap (λ (x : Settled). x.retired) (settled_is i) in omega (arith, e)

  polled_more : (posted : List Item) (ends ns : List ℕ) (i i' r r' total : ℕ) → i' ≤ i → r' ≡ r + length ns → QueueWithin posted ends i r total → QueueWithin posted (ends ++ ns) i' r' total
  polled_more posted ends ns i i' r r' total le e q =
      let long : length (ends ++ ns) ≡ length ends + length ns = length-append ends ns in
      record { nops = q.nops; posts = omega (arith, q.posts, le); retires = omega (arith, e, long, q.retires) }

  poll_goes : (t : ℕ) (due : Due) (rest : List Due) → Owes dues t due rest → PollsNext v cq most due → Goes n bounds v (suc t) what (slice_set dues t (ends_owed cq polled ++ rest))
  poll_goes t due rest o h =
      let homed : AllByRecursion (IsHomed v.device.pair_lives v.device.pairs cq) polled = homed_take (IsHomed v.device.pair_lives v.device.pairs cq) most (v.unpolled cq) (s.sane.completions cq).homed in
      let p = proper_at v.device.pair_lives v.device.completions_live (free_on v) dues t due rest s.within.owing o in
      let left : List Due = ends_owed cq polled in
      goes n v (suc t) what bounds (slice_set dues t (left ++ rest)) s.sane
      (MayStep_poll {v = v} {cq = cq} (record {
        host = host_of n bounds v dues t due rest s o;
        lives = h.live;
        named = named_each v cq polled homed;
        least = h.least;
        greatest = h.greatest;
        front = refl;
      }))
      (record {
        queues = λ i. subst (λ (settled : Settled). QueueWithin (v.posted (Send i)) settled.ends (over_dues (items_on i) (slice_set dues t (left ++ rest))) (over_dues (retires_on i) (slice_set dues t (left ++ rest))) (bounds.posts i)) (sym (settled_is i))
            (polled_more (v.posted (Send i)) (v.settled (Send i)).ends (numbers_in i polled) _ _ _ _ (bounds.posts i) (omega (arith, over_after (items_on i) dues t due rest left o, items_settling i cq polled)) (omega (arith, over_after (retires_on i) dues t due rest left o, retires_settling i cq polled, h.retires_are i)) (s.within.queues i));
        completions = s.within.completions;
        owing = owing_after v.device.pair_lives v.device.completions_live (free_on v) (free_on (after v what)) dues t due rest (left ++ rest) s.within.owing o (record {
          proper = proper_rest v.device.pair_lives v.device.completions_live _ (left ++ rest) (proper_settling v.device.pair_lives v.device.completions_live v.device.pairs cq polled rest h.live homed p.1);
          posts = λ i none. posts_settling i cq polled rest ∙ rest_posts (posts_on i due) (list_any (posts_on i) rest) none;
          others = λ i. inl (free_now i);
        });
      })

  pub polling_goes : (t : ℕ) (rest : List Due) → Owes dues t (Polling cq most) rest → Goes n bounds v (suc t) what (slice_set dues t (ends_owed cq polled ++ rest))
  polling_goes t rest o =
      let p = (proper_at v.device.pair_lives v.device.completions_live (free_on v) dues t (Polling cq most) rest s.within.owing o).0 in
      poll_goes t (Polling cq most) rest o (record { items_are = λ i. refl; retires_are = λ i. refl; live = p.0; least = p.1; greatest = p.2 })

  -- told by the completions that it took
  pub polling_shown : (t : ℕ) (rest : List Due) (completions : List Completion) → Owes dues t (Polling cq most) rest → completions ≡ map completion_in (take most (v.unpolled cq))
      → Goes n bounds v (suc t) (Poll cq most completions) (slice_set dues t (settling cq completions ++ rest))
  polling_shown t rest completions o is = subst (λ (xs : List Completion). Goes n bounds v (suc t) (Poll cq most xs) (slice_set dues t (settling cq xs ++ rest))) (sym is) (polling_goes t rest o)

-- a poll that takes one
pub draining_goes : (n : ℕ) (bounds : Bounds) (v : Verbs) (dues : List (List Due)) (t cq : ℕ) (rest : List Due) → InBounds n bounds v dues → Owes dues t (Draining cq) rest
    → Goes n bounds v (suc t) (Poll cq 1 (map completion_in (take 1 (v.unpolled cq)))) (slice_set dues t (ends_owed cq (take 1 (v.unpolled cq)) ++ rest))
draining_goes n bounds v dues t cq rest s o =
    let p = (proper_at v.device.pair_lives v.device.completions_live (free_on v) dues t (Draining cq) rest s.within.owing o).0 in
    poll_goes n bounds v dues cq 1 s t (Draining cq) rest o (record { items_are = λ i. refl; retires_are = λ i. refl; live = p; least = omega arith; greatest = omega arith })

-- told by the completions that it took
pub draining_shown : (n : ℕ) (bounds : Bounds) (v : Verbs) (dues : List (List Due)) (t cq : ℕ) (rest : List Due) (completions : List Completion) → InBounds n bounds v dues → Owes dues t (Draining cq) rest → completions ≡ map completion_in (take 1 (v.unpolled cq))
    → Goes n bounds v (suc t) (Poll cq 1 completions) (slice_set dues t (settling cq completions ++ rest))
draining_shown n bounds v dues t cq rest completions s o is =
    subst (λ (xs : List Completion). Goes n bounds v (suc t) (Poll cq 1 xs) (slice_set dues t (settling cq xs ++ rest))) (sym is) (draining_goes n bounds v dues t cq rest s o)

-- Retirements

-- where a retirement is owed, an end is there
pub retire_there : (n : ℕ) (bounds : Bounds) (v : Verbs) (dues : List (List Due)) (t qp : ℕ) (rest : List Due) → InBounds n bounds v dues → Owes dues t (Retiring (Send qp)) rest → 0 < length (v.settled (Send qp)).ends
retire_there n bounds v dues t qp rest s o =
    let one : retires_on qp (Retiring (Send qp)) ≡ 1 = ap (λ b. if b then 1 else 0) (same_queue_refl (Send qp)) in
    let le : retires_on qp (Retiring (Send qp)) ≤ over_dues (retires_on qp) dues = over_due (retires_on qp) dues t (Retiring (Send qp)) rest o in
    omega (arith, one, le, (s.within.queues qp).retires)

-- and which end is the first
pub retire_first : (n : ℕ) (bounds : Bounds) (v : Verbs) (dues : List (List Due)) (t qp : ℕ) (rest : List Due) → InBounds n bounds v dues → Owes dues t (Retiring (Send qp)) rest → (number : ℕ) × (others : List ℕ) × ((v.settled (Send qp)).ends ≡ number ∷ others)
retire_first n bounds v dues t qp rest s o = by (v.settled (Send qp)).ends (retire_there n bounds v dues t qp rest s o)
  where
    by : (ns : List ℕ) → 0 < length ns → (number : ℕ) × (others : List ℕ) × (ns ≡ number ∷ others)
    by [] low = absurd (omega (arith, low))
    by (m ∷ ms) low = (m, ms, refl)

-- told by the first end
pub retire_goes : (n : ℕ) (bounds : Bounds) (v : Verbs) (dues : List (List Due)) (t qp number : ℕ) (others : List ℕ) (rest : List Due) → InBounds n bounds v dues → Owes dues t (Retiring (Send qp)) rest → (v.settled (Send qp)).ends ≡ number ∷ others
    → Goes n bounds v (suc t) (Retire (Send qp) number) (slice_set dues t rest)
retire_goes n bounds v dues t qp number others rest s o first =
    let due : Due = Retiring (Send qp) in
    let settled : Settled = record { retired = number; ends = rest_of (v.settled (Send qp)).ends } in
    let p = proper_at v.device.pair_lives v.device.completions_live (free_on v) dues t due rest s.within.owing o in
    let same : p.0.qp ≡ qp = cc p.0.is in
    let one : retires_on qp due ≡ 1 = ap (λ b. if b then 1 else 0) (same_queue_refl (Send qp)) in
    let none : (i : ℕ) → i ≢ qp → retires_on i due ≡ 0 = λ i apart. ap (λ b. if b then 1 else 0) (differs i qp apart) in
    let is_first : (v.settled (Send qp)).ends ≡ number ∷ rest_of (v.settled (Send qp)).ends = first ∙ ap (λ (ns : List ℕ). number ∷ rest_of ns) (sym first) in
    let long : length (v.settled (Send qp)).ends ≡ suc (length (rest_of (v.settled (Send qp)).ends)) = ap length is_first in
    goes n v (suc t) (Retire (Send qp) number) bounds (slice_set dues t rest) s.sane
    (MayStep_retire {v = v} {queue = Send qp} (record {
      host = host_of n bounds v dues t due rest s o;
      lives = subst (λ k. v.device.pair_lives k ≡ true) same p.0.living;
      first = is_first;
    }))
    (record {
      queues = put_send (λ i x. QueueWithin (v.posted (Send i)) x.ends (over_dues (items_on i) (slice_set dues t rest)) (over_dues (retires_on i) (slice_set dues t rest)) (bounds.posts i)) v.settled qp settled
          (let q = s.within.queues qp in
          record { nops = q.nops; posts = omega (arith, over_after (items_on qp) dues t due rest [] o, q.posts); retires = omega (arith, over_after (retires_on qp) dues t due rest [] o, one, q.retires, long) })
          (λ i apart. no_more (v.posted (Send i)) (v.settled (Send i)).ends _ _ _ _ (bounds.posts i) (omega (arith, over_after (items_on i) dues t due rest [] o)) (omega (arith, over_after (retires_on i) dues t due rest [] o, none i apart)) (s.within.queues i));
      completions = s.within.completions;
      owing = owing_after v.device.pair_lives v.device.completions_live (free_on v) (free_on (after v (Retire (Send qp) number))) dues t due rest rest s.within.owing o (record {
        proper = proper_rest v.device.pair_lives v.device.completions_live _ rest p.1;
        posts = λ i none. none;
        others = λ i. inl (put_send (λ i x. free_on v i ≤ free_of (record (queue_in v (Send i)) { ends = x.ends; retired = x.retired })) v.settled qp settled (omega (arith, retired_up (queue_in v (Send qp)) number (waiting v qp) is_first (s.sane.queues qp))) (λ i apart. omega arith) i);
      });
    })

-- the same where the first end is told by what is left
pub retire_next : (n : ℕ) (bounds : Bounds) (v : Verbs) (dues : List (List Due)) (t qp : ℕ) (rest : List Due) → InBounds n bounds v dues → Owes dues t (Retiring (Send qp)) rest → (number : ℕ) × Goes n bounds v (suc t) (Retire (Send qp) number) (slice_set dues t rest)
retire_next n bounds v dues t qp rest s o = let first = retire_first n bounds v dues t qp rest s o in (first.0, retire_goes n bounds v dues t qp first.0 first.1 rest s o first.2)

-- Acknowledgements

pub ack_goes : (n : ℕ) (bounds : Bounds) (v : Verbs) (dues : List (List Due)) (t cq : ℕ) (rest : List Due) → InBounds n bounds v dues → Owes dues t (Acking cq) rest
    → Goes n bounds v (suc t) (Ack cq (v.device.produced cq - length (v.unpolled cq))) (slice_set dues t rest)
ack_goes n bounds v dues t cq rest s o =
    let due : Due = Acking cq in
    let index : ℕ = v.device.produced cq - length (v.unpolled cq) in
    let p = proper_at v.device.pair_lives v.device.completions_live (free_on v) dues t due rest s.within.owing o in
    goes n v (suc t) (Ack cq index) bounds (slice_set dues t rest) s.sane
    (MayStep_ack {v = v} {cq = cq} (record { host = host_of n bounds v dues t due rest s o; lives = p.0; oldest = refl }))
    (record {
      queues = λ i. no_more (v.posted (Send i)) (v.settled (Send i)).ends _ _ _ _ (bounds.posts i) (omega (arith, over_after (items_on i) dues t due rest [] o)) (omega (arith, over_after (retires_on i) dues t due rest [] o)) (s.within.queues i);
      completions = put_one (λ k acked. CompletionsWithin (v.device.completions_live k) (v.limits.size k) (v.device.produced k) acked (owed_into k v.device.owed) (into v.device.pairs (taken_of v) k FIRST_QP n) (into v.device.pairs bounds.posts k FIRST_QP n) (bounds.first k)) v.acked cq index
          (let c = s.within.completions cq in record { begun = omega (arith, (s.sane.completions cq).acked, c.begun); produced = c.produced; fits = c.fits })
          (λ k apart. s.within.completions k);
      owing = owing_after v.device.pair_lives v.device.completions_live (free_on v) (free_on v) dues t due rest rest s.within.owing o (record {
        proper = proper_rest v.device.pair_lives v.device.completions_live _ rest p.1;
        posts = λ i none. none;
        others = λ i. inl (omega arith);
      });
    })

-- told by the index
pub ack_shown : (n : ℕ) (bounds : Bounds) (v : Verbs) (dues : List (List Due)) (t cq index : ℕ) (rest : List Due) → InBounds n bounds v dues → Owes dues t (Acking cq) rest → index ≡ v.device.produced cq - length (v.unpolled cq)
    → Goes n bounds v (suc t) (Ack cq index) (slice_set dues t rest)
ack_shown n bounds v dues t cq index rest s o is = subst (λ k. Goes n bounds v (suc t) (Ack cq k) (slice_set dues t rest)) (sym is) (ack_goes n bounds v dues t cq rest s o)
