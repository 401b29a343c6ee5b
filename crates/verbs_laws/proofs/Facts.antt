-- What each entry needs, as plain facts: an entry has a step exactly where they hold.
use Rattle.std.proofs.Common.{◌≡◌, ℕ, ◌+◌, ◌-◌, ◌<◌, ◌≤◌, refl, sym, ap, ◌∙◌, true, min, List, [], ◌∷◌, length, map, take, Some, eqb-true, eq-eqb, leb-true, le-leb, ltb-true, lt-ltb}
use Rattle.std.specs.Prelude.{slice_get}
use Rattle.std.specs.List.{list_all}
use Rattle.std.proofs.lemmas.List.{length-map, length-take, take_min}
use Rattle.std.proofs.lemmas.Bool.{and_parts, and_from, false≢true}
use Rattle.verbs_types.specs.declared.request.Item.{Item}
use Rattle.verbs_types.specs.declared.request.Item.TheVariants.{Request as TheRequest}
use Rattle.verbs_types.specs.declared.request.Request.{Request}
use Rattle.verbs_types.specs.declared.request.Op.TheVariants.{Nop}
use Rattle.verbs_types.specs.declared.completion.Queue.{Queue}
use Rattle.verbs_types.specs.declared.completion.Queue.TheVariants.{Send}
use Rattle.verbs_types.specs.declared.completion.Completion.{Completion}
use Rattle.verbs_types.specs.declared.entry.What.TheVariants.{Post, PostFull, Poll, Retire, Ack, Fetch, Publish}
use Rattle.verbs_types.specs.declared.entry.TheConstants.{ADAPTER}
use Rattle.verbs_types.specs.declared.state.Act.{Act}
use Rattle.verbs_types.specs.declared.state.Act.TheVariants.{Complete}
use Rattle.verbs_types.specs.declared.state.QpState.TheVariants.{Rts}
use Rattle.verbs_types.specs.declared.state.Unpolled.{Unpolled}
use Rattle.verbs_rules.specs.State.{Verbs}
use Rattle.verbs_rules.specs.Rules.{queue_lives, names_living}
use Rattle.verbs_rules.specs.Rows.{item_fits, rest_of, runs, owes, owes_for}
use Rattle.verbs_rules.specs.Step.{MayStep}
use Rattle.verbs_laws.proofs.Failing.{IsHost, passes, passed, host_is_host, is_host-true, is_between-true, between_is_between, is_idle-true, nothing_is_idle, is_first-true, first_is_first}
use Rattle.verbs_laws.proofs.Sameness.{same_completion_refl, same_completion-true, is_front-true, front_is_front}

-- Post

pub record MayPost (v : Verbs) (actor : ℕ) (queue : Queue) (items : List Item) : Type 0 where
  pub host : IsHost actor
  pub lives : queue_lives v queue ≡ true
  pub room : length (v.posted queue) + length items - (v.settled queue).retired ≤ (v.limits.room queue)
  pub some : 0 < length items
  pub fit : list_all (item_fits queue (v.limits.segments queue)) items ≡ true

pub MayStep_post : {v : Verbs} {actor : ℕ} {queue : Queue} {items : List Item} → MayPost v actor queue items → MayStep v (record { actor = actor; what = Post queue items })
MayStep_post {v} {actor} {queue} {items} h =
    passes _ _ _ (host_is_host actor h.host)
    (passes _ _ _ h.lives
    (passes _ _ _ (le-leb _ _ h.room)
    (passes _ _ _ (and_from _ _ (lt-ltb _ _ h.some) h.fit) refl)))

pub MayPost_by_step : (v : Verbs) (actor : ℕ) (queue : Queue) (items : List Item) → MayStep v (record { actor = actor; what = Post queue items }) → MayPost v actor queue items
MayPost_by_step v actor queue items step =
    let by = passed _ _ _ step in
    let object = passed _ _ _ by.1 in
    let count = passed _ _ _ object.1 in
    let content = and_parts _ _ (passed _ _ _ count.1).0 in
    record { host = is_host-true actor by.0; lives = object.0; room = leb-true _ _ count.0; some = ltb-true _ _ content.0; fit = content.1 }

-- PostFull

pub record MayPostFull (v : Verbs) (actor : ℕ) (queue : Queue) (pending head tail : ℕ) : Type 0 where
  pub host : IsHost actor
  pub lives : queue_lives v queue ≡ true
  pub posted : head ≡ length (v.posted queue) + pending
  pub retired : tail ≡ (v.settled queue).retired
  pub full : head - tail ≡ (v.limits.room queue)

pub MayStep_full : {v : Verbs} {actor : ℕ} {queue : Queue} {pending head tail : ℕ} → MayPostFull v actor queue pending head tail → MayStep v (record { actor = actor; what = PostFull queue pending head tail })
MayStep_full {v} {actor} {queue} {pending} {head} {tail} h =
    passes _ _ _ (host_is_host actor h.host)
    (passes _ _ _ h.lives
    (passes _ _ _ (and_from _ _ (and_from _ _ (eq-eqb _ _ h.posted) (eq-eqb _ _ h.retired)) (eq-eqb _ _ h.full)) refl))

pub MayPostFull_by_step : (v : Verbs) (actor : ℕ) (queue : Queue) (pending head tail : ℕ) → MayStep v (record { actor = actor; what = PostFull queue pending head tail }) → MayPostFull v actor queue pending head tail
MayPostFull_by_step v actor queue pending head tail step =
    let by = passed _ _ _ step in
    let object = passed _ _ _ by.1 in
    let count = and_parts _ _ (passed _ _ _ object.1).0 in
    let counts = and_parts _ _ count.0 in
    record { host = is_host-true actor by.0; lives = object.0; posted = eqb-true _ _ counts.0; retired = eqb-true _ _ counts.1; full = eqb-true _ _ count.1 }

-- Poll

pub record MayPoll (v : Verbs) (actor cq most : ℕ) (completions : List Completion) : Type 0 where
  pub host : IsHost actor
  pub lives : v.device.completions_live cq ≡ true
  pub named : list_all (names_living v) completions ≡ true
  pub least : 1 ≤ most
  pub greatest : most ≤ 16
  -- as many as there are, but no more than are asked for, from the front
  pub front : completions ≡ map (λ (u : Unpolled). u.completion) (take most (v.unpolled cq))

front_length : (most : ℕ) (us : List Unpolled) → length (map (λ (u : Unpolled). u.completion) (take most us)) ≡ min most (length us)
front_length most us = simp (length-map, length-take)

pub MayStep_poll : {v : Verbs} {actor cq most : ℕ} {completions : List Completion} → MayPoll v actor cq most completions → MayStep v (record { actor = actor; what = Poll cq most completions })
MayStep_poll {v} {actor} {cq} {most} {completions} h =
    let us = (v.unpolled cq) in
    let many : length completions ≡ min most (length us) = ap length h.front ∙ front_length most us in
    passes _ _ _ (host_is_host actor h.host)
    (passes _ _ _ (and_from _ _ h.lives h.named)
    (passes _ _ _ (and_from _ _ (between_is_between 1 16 most h.least h.greatest) (eq-eqb _ _ many))
    (passes _ _ _ (rw h.front (front_is_front us most)) refl)))

pub MayPoll_by_step : (v : Verbs) (actor cq most : ℕ) (completions : List Completion) → MayStep v (record { actor = actor; what = Poll cq most completions }) → MayPoll v actor cq most completions
MayPoll_by_step v actor cq most completions step =
    let us = (v.unpolled cq) in
    let by = passed _ _ _ step in
    let object = passed _ _ _ by.1 in
    let living = and_parts _ _ object.0 in
    let count = passed _ _ _ object.1 in
    let counts = and_parts _ _ count.0 in
    let bounds = is_between-true 1 16 most counts.0 in
    let many = eqb-true (length completions) (min most (length us)) counts.1 in
    let front : completions ≡ map (λ (u : Unpolled). u.completion) (take (length completions) us) = is_front-true completions us (passed _ _ _ count.1).0 in
    let all : take (length completions) us ≡ take most us = ap (λ (n : ℕ). take n us) many ∙ take_min most us in
    record {
      host = is_host-true actor by.0;
      lives = living.0;
      named = living.1;
      least = bounds.0;
      greatest = bounds.1;
      front = front ∙ ap (map (λ (u : Unpolled). u.completion)) all;
    }

-- Retire

pub record MayRetire (v : Verbs) (actor : ℕ) (queue : Queue) (count : ℕ) : Type 0 where
  pub host : IsHost actor
  pub lives : queue_lives v queue ≡ true
  pub first : (v.settled queue).ends ≡ count ∷ rest_of (v.settled queue).ends

pub MayStep_retire : {v : Verbs} {actor : ℕ} {queue : Queue} {count : ℕ} → MayRetire v actor queue count → MayStep v (record { actor = actor; what = Retire queue count })
MayStep_retire {v} {actor} {queue} {count} h =
    passes _ _ _ (host_is_host actor h.host)
    (passes _ _ _ h.lives
    (passes _ _ _ (first_is_first count (v.settled queue).ends h.first) refl))

pub MayRetire_by_step : (v : Verbs) (actor : ℕ) (queue : Queue) (count : ℕ) → MayStep v (record { actor = actor; what = Retire queue count }) → MayRetire v actor queue count
MayRetire_by_step v actor queue count step =
    let by = passed _ _ _ step in
    let object = passed _ _ _ by.1 in
    record { host = is_host-true actor by.0; lives = object.0; first = is_first-true count (v.settled queue).ends (passed _ _ _ object.1).0 }

-- Ack

pub record MayAck (v : Verbs) (actor cq index : ℕ) : Type 0 where
  pub host : IsHost actor
  pub lives : v.device.completions_live cq ≡ true
  pub oldest : index ≡ (v.device.produced cq) - length (v.unpolled cq)

pub MayStep_ack : {v : Verbs} {actor cq index : ℕ} → MayAck v actor cq index → MayStep v (record { actor = actor; what = Ack cq index })
MayStep_ack {v} {actor} {cq} {index} h =
    passes _ _ _ (host_is_host actor h.host)
    (passes _ _ _ h.lives
    (passes _ _ _ (eq-eqb _ _ h.oldest) refl))

pub MayAck_by_step : (v : Verbs) (actor cq index : ℕ) → MayStep v (record { actor = actor; what = Ack cq index }) → MayAck v actor cq index
MayAck_by_step v actor cq index step =
    let by = passed _ _ _ step in
    let object = passed _ _ _ by.1 in
    record { host = is_host-true actor by.0; lives = object.0; oldest = eqb-true _ _ (passed _ _ _ object.1).0 }

-- Fetch

pub record MayFetch (v : Verbs) (actor : ℕ) (queue : Queue) (number : ℕ) : Type 0 where
  pub adapter : actor ≡ ADAPTER
  pub lives : queue_lives v queue ≡ true
  pub idle : v.device.owed ≡ []
  pub next : number ≡ (v.device.taken queue) + 1
  pub posted : number ≤ length (v.posted queue)
  pub content : runs v queue number ≡ true

pub MayStep_fetch : {v : Verbs} {actor : ℕ} {queue : Queue} {number : ℕ} → MayFetch v actor queue number → MayStep v (record { actor = actor; what = Fetch queue number })
MayStep_fetch {v} {actor} {queue} {number} h =
    passes _ _ _ (eq-eqb actor ADAPTER h.adapter)
    (passes _ _ _ h.lives
    (passes _ _ _ (nothing_is_idle v.device.owed h.idle)
    (passes _ _ _ (and_from _ _ (eq-eqb _ _ h.next) (le-leb _ _ h.posted))
    (passes _ _ _ h.content refl))))

pub MayFetch_by_step : (v : Verbs) (actor : ℕ) (queue : Queue) (number : ℕ) → MayStep v (record { actor = actor; what = Fetch queue number }) → MayFetch v actor queue number
MayFetch_by_step v actor queue number step =
    let by = passed _ _ _ step in
    let object = passed _ _ _ by.1 in
    let hand = passed _ _ _ object.1 in
    let count = passed _ _ _ hand.1 in
    let counts = and_parts _ _ count.0 in
    record {
      adapter = eqb-true actor ADAPTER by.0;
      lives = object.0;
      idle = is_idle-true v.device.owed hand.0;
      next = eqb-true _ _ counts.0;
      posted = leb-true _ _ counts.1;
      content = (passed _ _ _ count.1).0;
    }

-- a NOP of a queue pair that may send
pub runs_nop : (v : Verbs) (qp number : ℕ) (r : Request) → (v.device.pairs qp).state ≡ Rts → slice_get (v.posted (Send qp)) (number - 1) ≡ Some (TheRequest r) → r.op ≡ Nop → runs v (Send qp) number ≡ true
runs_nop v qp number r state item op = rw (state, item, op) refl

-- Publish

pub record MayPublish (v : Verbs) (actor cq : ℕ) (completion : Completion) : Type 0 where
  pub adapter : actor ≡ ADAPTER
  pub lives : v.device.completions_live cq ≡ true
  pub named : names_living v completion ≡ true
  pub first : Unpolled
  pub others : List Act
  pub owed : v.device.owed ≡ Complete cq first ∷ others
  pub room : (v.device.produced cq) - (v.acked cq) < (v.limits.size cq)
  pub content : completion ≡ first.completion

pub MayStep_publish : {v : Verbs} {actor cq : ℕ} {completion : Completion} → MayPublish v actor cq completion → MayStep v (record { actor = actor; what = Publish cq completion })
MayStep_publish {v} {actor} {cq} {completion} h =
    let owner : owes_for cq v.device.owed ≡ true = rw h.owed (eq-eqb cq cq refl) in
    let same : owes completion v.device.owed ≡ true = rw (h.owed, h.content) (same_completion_refl h.first.completion) in
    passes _ _ _ (eq-eqb actor ADAPTER h.adapter)
    (passes _ _ _ (and_from _ _ h.lives h.named)
    (passes _ _ _ owner
    (passes _ _ _ (lt-ltb _ _ h.room)
    (passes _ _ _ same refl))))

-- the first act is this completion's
first_owed : (acts : List Act) (cq : ℕ) (x : Completion) → owes_for cq acts ≡ true → owes x acts ≡ true → (first : Unpolled) × (others : List Act) × (acts ≡ Complete cq first ∷ others) × (x ≡ first.completion)
first_owed [] cq x h k = absurd (false≢true h)
first_owed (Complete owner u ∷ acts) cq x h k =
    let same = eqb-true cq owner h in
    (u, acts, ap (λ (c : ℕ). Complete c u ∷ acts) (sym same), same_completion-true x u.completion k)

pub MayPublish_by_step : (v : Verbs) (actor cq : ℕ) (completion : Completion) → MayStep v (record { actor = actor; what = Publish cq completion }) → MayPublish v actor cq completion
MayPublish_by_step v actor cq completion step =
    let by = passed _ _ _ step in
    let object = passed _ _ _ by.1 in
    let living = and_parts _ _ object.0 in
    let hand = passed _ _ _ object.1 in
    let count = passed _ _ _ hand.1 in
    let owed = first_owed v.device.owed cq completion hand.0 (passed _ _ _ count.1).0 in
    record {
      adapter = eqb-true actor ADAPTER by.0;
      lives = living.0;
      named = living.1;
      first = owed.0;
      others = owed.1;
      owed = owed.2;
      room = ltb-true _ _ count.0;
      content = owed.3;
    }
