-- That the first of the ends that a poll has found may be stored, and what a poll knows of its queues.
use Rattle.std.proofs.Common.{◌≡◌, ◌≢◌, ℕ, zero, suc, refl, sym, ap, ◌∙◌, subst, arith, ◌<◌, ◌≤◌, ◌^◌, true, List, [], ◌∷◌, ◌++◌, length, take, slice_get, Option, None, Some}
use Rattle.bus_core.specs.Trace.{Memory}
use Rattle.verbs_types.specs.declared.completion.Completion.{Completion}
use Rattle.verbs_types.specs.declared.completion.Queue.TheVariants.{Send}
use Rattle.verbs_types.specs.declared.declaration.Lines.{Lines}
use Rattle.verbs_types.specs.declared.state.Unpolled.{Unpolled}
use Rattle.verbs_rules.specs.State.{Verbs}
use Rattle.cqe_format.specs.declared.completion.Cqe.{Cqe}
use Rattle.counted_ring.specs.Retirer.{Asked, Retirer}
use Rattle.provider_poll.specs.declared.state.End.{End}
use Rattle.provider_poll.specs.declared.state.PollState.TheVariants as states
use Rattle.provider_poll.specs.Rule.{PollRule, queues_at}
use Rattle.provider_poll.specs.SendQueue.{SendView}
use Rattle.provider_poll.specs.Stores.{may_store, storing}
use Rattle.provider_poll.specs.PollStep.{place_of}
use Rattle.provider_poll.specs.Fresh.{senders}
use Rattle.actor_rules.specs.Polling.{place_in}
use Rattle.verbs_rules.specs.Sane.{Climbs, numbers_in}
use Rattle.actor_rules.specs.View.{View}
use Rattle.actor_rules.specs.Objects.{Lists, retirer_in}
use Rattle.actor_rules.specs.Completions.{IsCompletion, IsEnd, AskedFor, pending, ends_on, HasPlace}
use Rattle.actor_rules.proofs.PollPlaces.{living_by_place, places_of}
use Rattle.poll_outcomes.specs.Now.{IsPlaced, PollNow, in_hand}
use Rattle.poll_outcomes.proofs.Lists.{may_be_stored, place_of_view, stores_all, number_above}

-- the send queues by place
abbrev pub views : Lines → ℕ → List Retirer → List SendView
views d cq rs = queues_at (places_of d (senders d cq)) rs

-- what the retirers know
pub record Finds (l : Lists) (qp : ℕ) (r : Retirer) : Type 0 where
  pub tail : r.tail ≡ (l.queues (Send qp)).retired
  pub found : r.found ≤ (l.queues (Send qp)).taken
  pub low : (l.queues (Send qp)).taken < 2 ^ 62

pub first_ready : (d : Lines) (cq : ℕ) (l : Lists) (rs : List Retirer) (x : End) (u : Unpolled) → length rs ≡ length (senders d cq) → IsPlaced d cq u → IsEnd d cq rs x u → (retirer_in rs (place_in d cq u.completion.qp)).asked ≡ None
    → Finds l u.completion.qp (retirer_in rs (place_in d cq u.completion.qp)) → (l.queues (Send u.completion.qp)).retired < u.number → may_store (views d cq rs) x ≡ true
first_ready d cq l rs x u long placed is none finds later =
    let found : u.number ≤ (retirer_in rs (place_in d cq u.completion.qp)).found = subst (λ (i : ℕ). u.number ≤ (retirer_in rs i).found) is.queue is.found in
    may_be_stored d cq u.completion.qp rs x long placed.place is.queue (record {
      idle = none;
      later = omega (arith, finds.tail, later, is.end);
      found = omega (arith, found, is.end);
      low = omega (arith, found, is.end, finds.found, finds.low);
    })

-- where the first may be stored, the poll stores all
pub stores_these : (queues : List SendView) (taken : ℕ) (empty : Option ℕ) (x : End) (xs : List End) → may_store queues x ≡ true → storing queues taken empty (x ∷ xs) ≡ states.Retiring taken empty (record { items = x ∷ xs })
stores_these queues taken empty x xs ready = stores_all queues taken empty (x ∷ xs) ready

-- the place of the queue whose request a completion is of
pub place_found : (d : Lines) (cq : ℕ) (l : Lists) (rs : List Retirer) (c : Cqe) (u : Unpolled) → length rs ≡ length (senders d cq) → IsPlaced d cq u → IsCompletion l c u → place_of (views d cq rs) c ≡ Some (place_in d cq u.completion.qp)
place_found d cq l rs c u long placed is =
    ap (λ (x : Cqe). place_of (views d cq rs) x) is.words
    ∙ place_of_view d u.completion.qp (senders d cq) rs long
    ∙ placed.place.is

-- no lookup has loaded an id but that of the completion that is looked up
pub idle_polling : (most : ℕ) (ends : _) (place : ℕ) (asked : Option Asked) → AskedFor (states.Polling most ends) place asked → asked ≡ None
idle_polling most ends place None h = refl
idle_polling most ends place (Some a) h = absurd h

pub idle_retiring : (taken : ℕ) (empty : Option ℕ) (left : _) (place : ℕ) (asked : Option Asked) → AskedFor (states.Retiring taken empty left) place asked → asked ≡ None
idle_retiring taken empty left place None h = refl
idle_retiring taken empty left place (Some a) h = absurd h

pub idle_beside : (most : ℕ) (ends : _) (c : Cqe) (queue place : ℕ) (asked : Option Asked) → place ≢ queue → AskedFor (states.LookingUp most ends c queue) place asked → asked ≡ None
idle_beside most ends c queue place None apart h = refl
idle_beside most ends c queue place (Some a) apart h = absurd (apart (sym h.0))

module _ (d : Lines) (m : Memory) (around : View) (cq most : ℕ) (l : Lists) (v : Verbs) (p : PollRule) (given : List Completion) (now : PollNow d m around cq most l v p given) where
  pub finds_now : (qp : ℕ) → HasPlace d cq qp → Finds l qp (retirer_in p.retirers (place_in d cq qp))
  finds_now qp place = let r = (now.sends qp place).retirer in record { tail = r.tail; found = r.found; low = now.low qp place }

  -- where no end is to be stored, the unpolled completions of a queue pair are those next to be retired
  module _ (fresh : pending p.state ≡ []) where
    pub climbs_now : (qp : ℕ) → HasPlace d cq qp → Climbs (l.queues (Send qp)).retired (numbers_in qp (v.unpolled cq) ++ in_hand v qp) (l.queues (Send qp)).taken
    climbs_now qp place =
        let lives = living_by_place d cq qp place in
        let none : (v.settled (Send qp)).ends ≡ [] = now.stands.ends qp lives.0 lives.1 ∙ ap (λ (xs : List End). ends_on (place_in d cq qp) xs) fresh in
        subst (λ (ns : List ℕ). Climbs (l.queues (Send qp)).retired (ns ++ (numbers_in qp (v.unpolled cq) ++ in_hand v qp)) (l.queues (Send qp)).taken) none (now.under_way qp place)

    pub later_now : (k : ℕ) (u : Unpolled) → slice_get (v.unpolled cq) k ≡ Some u → IsPlaced d cq u → (l.queues (Send u.completion.qp)).retired < u.number
    later_now k u there placed = number_above u.completion.qp (l.queues (Send u.completion.qp)).taken (in_hand v u.completion.qp) (l.queues (Send u.completion.qp)).retired (v.unpolled cq) k u there placed.queue (climbs_now u.completion.qp placed.place)

-- Lists that are taken from

pub take_whole : {X : Type 0} (n : ℕ) (xs : List X) → length xs ≤ n → take n xs ≡ xs
take_whole zero [] h = refl
take_whole zero (x ∷ xs) h = absurd (omega (arith, h))
take_whole (suc n) [] h = refl
take_whole (suc n) (x ∷ xs) h = ap (λ ys. x ∷ ys) (take_whole n xs (omega (arith, h)))

pub take_within : {X : Type 0} (n : ℕ) (xs : List X) → length (take n xs) ≤ length xs
take_within zero xs = omega arith
take_within (suc n) [] = omega arith
take_within (suc n) (x ∷ xs) = omega (arith, take_within n xs)

-- what is taken begins as the list does
pub first_of_take : {X : Type 0} (n : ℕ) (xs : List X) (x : X) (rest : List X) → take n xs ≡ x ∷ rest → slice_get xs 0 ≡ Some x
first_of_take zero xs x rest is = absurd cc
first_of_take (suc n) [] x rest is = absurd cc
first_of_take (suc n) (y ∷ ys) x rest is = ap (λ (zs : _). slice_get zs 0) is
