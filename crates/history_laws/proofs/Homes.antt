-- Each completion waits on the completion queue of its work queue.
use Rattle.std.proofs.Common.{◌≡◌, ◌≢◌, ℕ, ◌==◌, ◌||◌, Bool, true, false, not, if◌then◌else◌, refl, sym, ap, ◌∙◌, subst, inl, inr, List, [], ◌∷◌, ◌++◌, eqb-true}
use Rattle.std.specs.List.{AllByRecursion}
use Rattle.std.specs.Prelude.{Option, None, Some}
use Rattle.std.proofs.lemmas.Bool.{cases_Bool, cond-false}
use Rattle.verbs_types.specs.declared.completion.Completion.{Completion}
use Rattle.verbs_types.specs.declared.completion.Queue.{Queue}
use Rattle.verbs_types.specs.declared.completion.Queue.TheVariants.{Send, Recv, Shared}
use Rattle.verbs_types.specs.declared.entry.What.{What}
use Rattle.verbs_types.specs.declared.entry.What.TheVariants.{Post, PostFull, Poll, Retire, Free, Ack, Arm, TakeEvent, Submit, Reply, ReadByte, WriteByte, Clean, Fetch, TakeReceive, GetByte, PutByte, Publish, SeeArm, Event, Overrun, Lost, Execute}
use Rattle.verbs_types.specs.declared.request.Item.{Item}
use Rattle.verbs_types.specs.declared.request.Item.TheVariants.{Request as TheRequest, Receive as TheReceive}
use Rattle.verbs_types.specs.declared.state.Act.{Act}
use Rattle.verbs_types.specs.declared.state.Act.TheVariants.{Complete}
use Rattle.verbs_types.specs.declared.state.QueuePair.{QueuePair}
use Rattle.verbs_rules.specs.Rows.{acts_of, publish, poll, status_of}
use Rattle.verbs_rules.specs.Same.{same_queue}
use Rattle.verbs_rules.specs.State.{Verbs}
use Rattle.verbs_rules.specs.Step.{MayStep, after}
use Rattle.verbs_laws.proofs.Choices.{either}
use Rattle.verbs_laws.proofs.Facts.{MayPublish, MayPublish_by_step}
use Rattle.verbs_laws.proofs.Sameness.{same_queue-true}
use Rattle.history_laws.specs.Laws.{waiting_on}
use Rattle.history_laws.specs.Said.{of_queue}
use Rattle.history_laws.proofs.Waiting.{here, elsewhere, front_splits, polled_front, poll_takes, owed_adds}

-- the completion queue of a work queue
abbrev pub home : (ℕ → QueuePair) → Queue → ℕ
home pairs (Send qp) = (pairs qp).send_cq
home pairs (Recv qp) = (pairs qp).recv_cq
home pairs (Shared srq) = 0

abbrev pub IsAt : (ℕ → QueuePair) → ℕ → Completion → Type 0
IsAt pairs cq x = home pairs x.queue ≡ cq

abbrev pub IsOwedAt : (ℕ → QueuePair) → Act → Type 0
IsOwedAt pairs (Complete cq u) = IsAt pairs cq u.completion

pub record Homed (v : Verbs) : Type 0 where
  pub waiting : (cq : ℕ) → AllByRecursion (IsAt v.device.pairs cq) (waiting_on v cq)
  pub hand : AllByRecursion (IsOwedAt v.device.pairs) v.device.owed

module _ {X : Type 0} (P : X → Type 0) where
  pub all_front : (xs ys : List X) → AllByRecursion P (xs ++ ys) → AllByRecursion P xs
  all_front [] ys h = tt
  all_front (x ∷ xs) ys h = (h.0, all_front xs ys h.1)

  pub all_back : (xs ys : List X) → AllByRecursion P (xs ++ ys) → AllByRecursion P ys
  all_back [] ys h = h
  all_back (x ∷ xs) ys h = all_back xs ys h.1

  all_append : (xs ys : List X) → AllByRecursion P xs → AllByRecursion P ys → AllByRecursion P (xs ++ ys)
  all_append [] ys h k = k
  all_append (x ∷ xs) ys h k = (h.0, all_append xs ys h.1 k)

  all_if : (b : Bool) (x : X) → (b ≡ true → P x) → AllByRecursion P (if b then x ∷ [] else [])
  all_if true x h = (h refl, tt)
  all_if false x h = tt

acts_home : (pairs : ℕ → QueuePair) (qp number : ℕ) (o : Option Item) → AllByRecursion (IsOwedAt pairs) (acts_of (pairs qp) qp number o)
acts_home pairs qp number None = tt
acts_home pairs qp number (Some (TheReceive r)) = tt
acts_home pairs qp number (Some (TheRequest r)) = all_if (IsOwedAt pairs) (r.wanted || not (status_of (pairs qp).state == 0)) _ (λ due. refl)

pub polled_home : (v : Verbs) (actor cq most : ℕ) (xs : List Completion) → MayStep v (record { actor = actor; what = Poll cq most xs }) → Homed v → AllByRecursion (IsAt v.device.pairs cq) xs
polled_home v actor cq most xs step h = all_front (IsAt v.device.pairs cq) xs _ (subst (AllByRecursion (IsAt v.device.pairs cq)) (front_splits xs (v.unpolled cq) (polled_front v actor cq most xs step)) (h.waiting cq))

pub published_home : (v : Verbs) (actor cq : ℕ) (x : Completion) (may : MayPublish v actor cq x) → Homed v → IsAt v.device.pairs cq may.first.completion × AllByRecursion (IsOwedAt v.device.pairs) may.others
published_home v actor cq x may h = subst (AllByRecursion (IsOwedAt v.device.pairs)) may.owed h.hand

homed_published : (v : Verbs) (actor cq : ℕ) (x : Completion) → MayPublish v actor cq x → Homed v → Homed (publish v cq v.device.owed)
homed_published v actor cq x may h =
    let parts = published_home v actor cq x may h in
    subst (λ (acts : List Act). Homed (publish v cq acts)) (sym may.owed) (record {
      waiting = λ k. subst (AllByRecursion (IsAt v.device.pairs k)) (sym (owed_adds v cq may.first may.others k))
          (all_append (IsAt v.device.pairs k) (waiting_on v k) _ (h.waiting k) (all_if (IsAt v.device.pairs k) (k == cq) may.first.completion (λ same. parts.0 ∙ sym (eqb-true k cq same))));
      hand = parts.1;
    })

pub homed_after : (v : Verbs) (actor : ℕ) (w : What) → MayStep v (record { actor = actor; what = w }) → Homed v → Homed (after v w)
homed_after v actor (Post queue items) step h = record { waiting = h.waiting; hand = h.hand }
homed_after v actor (PostFull queue pending head tail) step h = h
homed_after v actor (Poll cq most xs) step h = record {
  waiting = λ k. all_back (IsAt v.device.pairs k) (if k == cq then xs else []) (waiting_on (poll v cq xs) k) (subst (AllByRecursion (IsAt v.device.pairs k)) (poll_takes v actor cq most xs step k) (h.waiting k));
  hand = h.hand;
}
homed_after v actor (Retire queue count) step h = record { waiting = h.waiting; hand = h.hand }
homed_after v actor (Ack cq index) step h = record { waiting = h.waiting; hand = h.hand }
homed_after v actor (Fetch (Send qp) number) step h = record { waiting = h.waiting; hand = acts_home v.device.pairs qp number _ }
homed_after v actor (Fetch (Recv qp) number) step h = h
homed_after v actor (Fetch (Shared srq) number) step h = h
homed_after v actor (Publish cq x) step h = homed_published v actor cq x (MayPublish_by_step v actor cq x step) h
homed_after v actor (Free srq) step h = h
homed_after v actor (Arm cq kind index number) step h = h
homed_after v actor (TakeEvent eq event) step h = h
homed_after v actor (Submit command) step h = h
homed_after v actor (Reply command answer) step h = h
homed_after v actor (ReadByte addr byte) step h = h
homed_after v actor (WriteByte addr byte) step h = h
homed_after v actor (Clean cq qp index) step h = h
homed_after v actor (TakeReceive queue) step h = h
homed_after v actor (GetByte addr byte) step h = h
homed_after v actor (PutByte addr byte) step h = h
homed_after v actor (SeeArm cq kind index number) step h = h
homed_after v actor (Event eq event) step h = h
homed_after v actor (Overrun cq index acked) step h = h
homed_after v actor (Lost cq) step h = h
homed_after v actor (Execute of command answer) step h = h

-- on another completion queue there is none of a work queue's
nothing_elsewhere : (pairs : ℕ → QueuePair) (queue : Queue) (cq : ℕ) (xs : List Completion) → AllByRecursion (IsAt pairs cq) xs → home pairs queue ≢ cq → of_queue queue xs ≡ []
nothing_elsewhere pairs queue cq [] h apart = refl
nothing_elsewhere pairs queue cq (x ∷ xs) h apart =
    elim (cases_Bool (same_queue queue x.queue)) [
      | inl same ↦ absurd (apart (ap (home pairs) (same_queue-true queue x.queue same) ∙ h.0))
      | inr other ↦ cond-false (same_queue queue x.queue) (x ∷ of_queue queue xs) (of_queue queue xs) other ∙ nothing_elsewhere pairs queue cq xs h.1 apart
    ]

pub own_alone : (pairs : ℕ → QueuePair) (queue : Queue) (cq : ℕ) (xs : List Completion) → AllByRecursion (IsAt pairs cq) xs → of_queue queue (if home pairs queue == cq then xs else []) ≡ of_queue queue xs
own_alone pairs queue cq xs h =
    elim (either (home pairs queue) cq) [
      | inl same ↦ ap (of_queue queue) (here (home pairs queue) cq xs same)
      | inr apart ↦ ap (of_queue queue) (elsewhere (home pairs queue) cq xs apart) ∙ sym (nothing_elsewhere pairs queue cq xs h apart)
    ]
