-- What the thread of a poll owes, while the poll goes on and when it is over.
use Rattle.std.proofs.Common.{◌≡◌, ◌≢◌, ◌⊎◌, ℕ, zero, suc, inl, inr, refl, sym, ap, ◌∙◌, subst, arith, ◌==◌, ◌-◌, ◌<◌, nat_le, Bool, true, false, if◌then◌else◌, List, [], ◌∷◌, ◌++◌, length, replicate, flat_map, slice_set, append_assoc, None, Some}
use Rattle.std.specs.List.{AllByRecursion}
use Rattle.std.proofs.lemmas.Bool.{cases_lt, leb-true, leb-false}
use Rattle.std.proofs.lemmas.List.{get_or_past, get_or-set_same, get_or-set_other}
use Rattle.std.proofs.Math.ListN.{length-set}
use Rattle.bus_core.specs.Trace.{Memory}
use Rattle.verbs_types.specs.declared.call.Call.{Call}
use Rattle.verbs_types.specs.declared.call.Call.TheVariants.{Drain}
use Rattle.verbs_types.specs.declared.completion.Completion.{Completion}
use Rattle.verbs_types.specs.declared.completion.Queue.{Queue}
use Rattle.verbs_types.specs.declared.declaration.Lines.{Lines}
use Rattle.verbs_types.specs.declared.entry.What.{What}
use Rattle.actor_map.specs.Notes.{Serves}
use Rattle.verbs_rules.specs.Answered.{Due, Polling, Draining, Answers, MayAnswer, left_by, after_answer, due_by}
use Rattle.verbs_rules.specs.Family.{put}
use Rattle.verbs_rules.specs.Step.{after}
use Rattle.verbs_rules.specs.Running.{Running}
use Rattle.provider_poll.specs.declared.state.PollState.{PollState}
use Rattle.provider_poll.specs.declared.state.PollState.TheVariants as states
use Rattle.provider_poll.specs.Rule.{PollRule}
use Rattle.actor_rules.specs.Thread.{Thread}
use Rattle.actor_rules.specs.Polling.{drain_left}
use Rattle.actor_rules.specs.Actors.{Actors, by}
use Rattle.actor_rules.specs.Dues.{dues_at, is_storing, store_dues, call_dues, dues_in}
use Rattle.verbs_rules.specs.Proper.{Owes, dues_of_thread}
use Rattle.verbs_rules.specs.Within as within
use Rattle.verbs_laws.proofs.Choices.{either}
use Rattle.actor_rules.proofs.Dues.{dues_at-set}
use Rattle.actor_rules.specs.View.{view, given_in, written_of}
use Rattle.actor_rules.specs.Queues.{written_by}
use Rattle.actor_rules.specs.Ready.{IsOwnCall, IsOwnPoll, IsOwnIn}
use Rattle.actor_rules.specs.Threads.{ThreadStands, StandsAt, PollsAt, IsPollFor, PollsRest, StandsAs}
use Rattle.actor_rules.specs.Holding.{Holds, Goes}
use Rattle.actor_rules.proofs.Threading.{put_here, put_there}
use Rattle.poll_law.proofs.Frame.{goes_on, poll_goes_on, IsPoller, stands_after}
use Rattle.poll_outcomes.specs.Moves.{Moves}
use Rattle.verbs_rules.specs.Within.{Bounds}
use Rattle.verbs_rules.specs.Shape.{Shape, Takes, Once, Until, shape_of}
use Rattle.actor_rules.proofs.Resting.{rest_owes, rest_silent, rest_stands}

-- by how far the poll has come, with what is owed after it
abbrev pub owed_at : Lines → ℕ → Due → List Due → PollState → List Due
owed_at d cq due more state = (if is_storing state then store_dues d cq state else due ∷ []) ++ more

-- what a poll shows of what its thread has given
pub shown_for : (most : ℕ) (given : List Completion) (state : PollState) → IsPollFor most given state → given_in state given ≡ given
shown_for most given states.Idle h = sym h
shown_for most given (states.Polling asked ends) h = refl
shown_for most given (states.LookingUp asked ends c queue) h = refl
shown_for most given (states.Retiring taken empty left) h = refl
shown_for most given (states.Acking taken empty) h = refl

-- a call that polls for so many: what it owes until its entry, what after it, and the calls that are left then
pub record Job (d : Lines) (programs : List (List Call)) (x cq most : ℕ) (calls : List Call) : Type 0 where
  pub due : Due
  pub more : List Due
  pub left : List Call
  pub owes : (th : Thread) → call_dues d th calls ≡ owed_at d cq due more (th.polls cq).state
  pub own : IsOwnPoll d programs x cq most
  pub all_own : AllByRecursion (IsOwnCall d programs x) calls
  pub left_own : AllByRecursion (IsOwnCall d programs x) left
  pub left_owes : flat_map due_by left ≡ more
  pub enter : (th : Thread) → PollsAt th cq most → StandsAt th calls
  pub leave : (th : Thread) → StandsAt th calls → PollsAt th cq most
  pub silent : (queue : Queue) (th : Thread) → written_by queue th calls ≡ []

module _ (d : Lines) (programs : List (List Call)) (x cq : ℕ) (call : Call) (rest : List Call) where
  abbrev owes_as : Thread → Shape → List Due
  owes_as th shape = dues_in d th.posting th.polls shape ++ flat_map due_by rest

  abbrev pub poll_job : (most : ℕ) → shape_of call ≡ Takes cq (Once most) → AllByRecursion (IsOwnCall d programs x) (call ∷ rest) → Job d programs x cq most (call ∷ rest)
  poll_job most so own = record {
    due = Polling cq most;
    more = flat_map due_by rest;
    left = rest;
    owes = λ th. ap (owes_as th) so;
    own = (subst (IsOwnIn d programs x) so own.0).0;
    all_own = own;
    left_own = own.1;
    left_owes = refl;
    enter = λ th h. subst (StandsAs th) (sym so) h;
    leave = λ th h. subst (StandsAs th) so h;
    silent = λ queue th. ap (written_of queue th.posting) so;
  }

  module _ (count : ℕ) (so : shape_of call ≡ Takes cq (Until count)) (own : AllByRecursion (IsOwnCall d programs x) (call ∷ rest)) where
    abbrev own_drain : IsOwnIn d programs x (Takes cq (Until count))
    own_drain = subst (IsOwnIn d programs x) so own.0

    one_first : (n : ℕ) → 0 < n → replicate n (Draining cq) ≡ Draining cq ∷ replicate (n - 1) (Draining cq)
    one_first zero some = absurd (omega (arith, some))
    one_first (suc n) some = let less : n ≡ suc n - 1 = omega arith in ap (λ (k : ℕ). Draining cq ∷ replicate k (Draining cq)) less

    pub drain_owes : (b : Bool) (stores : List Due) → (if b then stores ++ replicate (count - 1) (Draining cq) else replicate count (Draining cq)) ++ flat_map due_by rest ≡ (if b then stores else Draining cq ∷ []) ++ (replicate (count - 1) (Draining cq) ++ flat_map due_by rest)
    drain_owes true stores = append_assoc stores (replicate (count - 1) (Draining cq)) (flat_map due_by rest)
    drain_owes false stores = ap (λ (ds : List Due). ds ++ flat_map due_by rest) (one_first count own_drain.1)

    pub left_by_count : (b : Bool) → nat_le count 1 ≡ b → flat_map due_by (if b then rest else Drain cq (count - 1) ∷ rest) ≡ replicate (count - 1) (Draining cq) ++ flat_map due_by rest
    left_by_count true few = let none : 0 ≡ count - 1 = omega (arith, leb-true count 1 few) in ap (λ (k : ℕ). replicate k (Draining cq) ++ flat_map due_by rest) none
    left_by_count false many = refl

    pub own_by_count : (b : Bool) → nat_le count 1 ≡ b → AllByRecursion (IsOwnCall d programs x) (if b then rest else Drain cq (count - 1) ∷ rest)
    own_by_count true few = own.1
    own_by_count false many = ((own_drain.0, omega (arith, leb-false count 1 many)), own.1)

    abbrev pub drain_job : Job d programs x cq 1 (call ∷ rest)
    drain_job = record {
      due = Draining cq;
      more = replicate (count - 1) (Draining cq) ++ flat_map due_by rest;
      left = drain_left cq count rest;
      owes = λ th. ap (owes_as th) so ∙ drain_owes (is_storing (th.polls cq).state) (store_dues d cq (th.polls cq).state);
      own = own_drain.0;
      all_own = own;
      left_own = own_by_count (nat_le count 1) refl;
      left_owes = left_by_count (nat_le count 1) refl;
      enter = λ th h. subst (StandsAs th) (sym so) h;
      leave = λ th h. subst (StandsAs th) so h;
      silent = λ queue th. ap (written_of queue th.posting) so;
    }

-- who owes something is one of the threads
pub owes_from : (dues : List (List Due)) (t : ℕ) (due : Due) (rest : List Due) → dues_of_thread dues t ≡ due ∷ rest → Owes dues t due rest
owes_from dues t due rest is = record {
  low = elim (cases_lt t (length dues)) [
    | inl low ↦ low
    | inr past ↦ absurd (let never : due ∷ rest ≡ [] = sym is ∙ get_or_past dues t [] past in cc)
  ];
  is = is;
}

module _ (d : Lines) (programs : List (List Call)) (total : Bounds) (m m' : Memory) (w : Actors) (r : Running) (t cq most : ℕ) (h : Holds d programs total m w r)
    (calls : List Call) (calls_are : (w.threads (suc t)).calls ≡ calls) (job : Job d programs (suc t) cq most calls) where
  abbrev th : Thread
  th = w.threads (suc t)

  pub polls_at : PollsAt th cq most
  polls_at = job.leave th (subst (StandsAt th) calls_are (h.stands.bare.threads t).work)

  pub owed_now : dues_of_thread h.dues t ≡ owed_at d cq job.due job.more (th.polls cq).state
  owed_now = (h.stands.bare.threads t).dues ∙ ap (λ (cs : List Call). call_dues d th cs) calls_are ∙ job.owes th

  poller : (calls' : List Call) → IsPoller d programs w t cq total calls'
  poller calls' = record {
    owner = job.own.owner;
    none = λ queue. ap (λ (cs : List Call). written_by queue th cs) calls_are ∙ job.silent queue th;
    still = λ queue other none. rest_silent d other none queue calls';
    posting = polls_at.posting;
    rest = polls_at.polls;
  }

  module _ (p : PollRule) (given : List Completion) where
    pub thread_goes_on : IsPollFor most given p.state → ThreadStands d programs (suc t) (goes_on th cq p given calls) (owed_at d cq job.due job.more p.state)
    thread_goes_on poll = record {
      dues = ap (λ (x : PollRule). owed_at d cq job.due job.more x.state) (sym (put_here th.polls cq p)) ∙ sym (job.owes (goes_on th cq p given calls));
      calls = job.all_own;
      work = job.enter (goes_on th cq p given calls) (record {
        posting = polls_at.posting;
        poll = subst (λ (x : PollRule). IsPollFor most given x.state) (sym (put_here th.polls cq p)) poll;
        posters = polls_at.posters;
        polls = λ other apart. ap (λ (x : PollRule). x.state) (put_there th.polls cq p other apart) ∙ polls_at.polls other apart;
      });
    }

    -- nothing is said, and nothing else is owed
    pub silent_goes : IsPollFor most given p.state → owed_at d cq job.due job.more p.state ≡ owed_at d cq job.due job.more (th.polls cq).state → Moves d (view programs w) cq m' h.stands.lists r.verbs p given r.verbs → Goes d programs total m' (poll_goes_on w t cq p given calls) r p.seen None
    silent_goes poll same move = record {
      dues = h.dues;
      owed = h.owed;
      stands = stands_after d programs w t cq total m m' r.verbs r.verbs h.dues h.dues p given calls h.stands move (poller calls)
          (record { thread = subst (λ (ds : List Due). ThreadStands d programs (suc t) (goes_on th cq p given calls) ds) (same ∙ sym owed_now) (thread_goes_on poll); others = λ j apart. refl; long = refl; shown = shown_for most given p.state poll }) h.stands.bare.sound.bounded;
    }

  -- a poll that is over
  pub thread_ends : (p : PollRule) → p.state ≡ states.Idle → ThreadStands d programs (suc t) (goes_on th cq p [] job.left) job.more
  thread_ends p idle =
      let now : Thread = goes_on th cq p [] job.left in
      let rests : PollsRest (λ k. Unit {0}) now = λ k none. by_queue k (either k cq) in
      record {
        dues = sym job.left_owes ∙ sym (rest_owes d now polls_at.posting job.left rests);
        calls = job.left_own;
        work = rest_stands now (record { posting = polls_at.posting; given = refl; posters = polls_at.posters; polls = rests }) job.left;
      }
    where
      by_queue : (k : ℕ) → (k ≡ cq) ⊎ (k ≢ cq) → ((goes_on th cq p [] job.left).polls k).state ≡ states.Idle
      by_queue k (inl same) = ap (λ (n : ℕ). ((goes_on th cq p [] job.left).polls n).state) same ∙ ap (λ (x : PollRule). x.state) (put_here th.polls cq p) ∙ idle
      by_queue k (inr apart) = ap (λ (x : PollRule). x.state) (put_there th.polls cq p k apart) ∙ polls_at.polls k apart

  -- an entry is said, which was owed next
  pub says_goes : (what : What) (p : PollRule) (given : List Completion) (calls' : List Call) (due : Due) (rest left : List Due) → given_in p.state given ≡ given → dues_of_thread h.dues t ≡ due ∷ rest → Answers due what → Serves r.verbs what p.seen → left_by due what ≡ left
      → within.Goes (length d.qps) total r.verbs (suc t) what (slice_set h.dues t (left ++ rest)) → ThreadStands d programs (suc t) (goes_on th cq p given calls') (left ++ rest)
      → Moves d (view programs w) cq m' h.stands.lists r.verbs p given (after r.verbs what) → Goes d programs total m' (poll_goes_on w t cq p given calls') r p.seen (Some (by (suc t) what))
  says_goes what p given calls' due rest left shown is answers serves leaves goes thread move =
      let low : t < length h.dues = (owes_from h.dues t due rest is).low in
      let owed : r.owed (suc t) ≡ due ∷ rest = ap (λ (f : ℕ → List Due). f (suc t)) h.owed ∙ is in
      let after_is : after_answer (r.owed (suc t)) what ≡ left ++ rest = ap (λ (ds : List Due). after_answer ds what) owed ∙ ap (λ (ds : List Due). ds ++ rest) leaves in
      let now : dues_at (slice_set h.dues t (left ++ rest)) (suc t) ≡ left ++ rest = get_or-set_same h.dues t (left ++ rest) [] low in (
        record { legal = goes.legal; due = subst (λ (ds : List Due). MayAnswer ds what) (sym owed) answers; serves = serves },
        record {
          dues = slice_set h.dues t (left ++ rest);
          owed = ap (λ (f : ℕ → List Due). put (λ (j k : ℕ). j == k) f (suc t) (after_answer (r.owed (suc t)) what)) h.owed ∙ ap (λ (ds : List Due). put (λ (j k : ℕ). j == k) (dues_at h.dues) (suc t) ds) after_is ∙ sym (dues_at-set h.dues t (left ++ rest) low);
          stands = stands_after d programs w t cq total m m' r.verbs (after r.verbs what) h.dues (slice_set h.dues t (left ++ rest)) p given calls' h.stands move (poller calls')
              (record {
                thread = subst (λ (ds : List Due). ThreadStands d programs (suc t) (goes_on th cq p given calls') ds) (sym now) thread;
                others = λ j apart. get_or-set_other h.dues t j (left ++ rest) [] apart;
                long = length-set h.dues t (left ++ rest);
                shown = shown;
              }) goes.bounded;
        },
      )
