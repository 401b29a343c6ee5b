-- The places of the queue pairs that complete into a queue.
use Rattle.std.proofs.Common.{◌≡◌, ℕ, zero, suc, ◌+◌, ◌<◌, ◌-◌, ◌==◌, refl, sym, ap, ◌∙◌, arith, Bool, true, false, cond, not, List, [], ◌∷◌, length, map, filter, get_or, slice_get, position, unwrap_or, is_some, Option, Some, nat_lt}
use Rattle.std.specs.List.{position_or_len, prefix_len}
use Rattle.std.specs.Option.{option_map_or}
use Rattle.std.proofs.lemmas.Bool.{eq-eqb, eqb-true, lt-ltb, le-leb, false≢true, and_from}
use Rattle.std.proofs.lemmas.List.Quantifiers.{position-Some}
use Rattle.std.proofs.lemmas.Option.{slice_get_within, slice_get-get_or}
use Rattle.verbs_types.specs.declared.declaration.Lines.{Lines}
use Rattle.verbs_types.specs.declared.declaration.QpLine.{QpLine}
use Rattle.verbs_types.specs.declared.declaration.TheConstants.{FIRST_QP}
use Rattle.verbs_types.specs.Lines.{is_among}
use Rattle.verbs_rules.specs.Start.{first_state, no_pair}
use Rattle.verbs_laws.proofs.Families.{among}
use Rattle.device_engine.specs.State.{send_cq}
use Rattle.provider_poll.specs.Fresh.{completes_to, senders}
use Rattle.provider_poll.proofs.Ranges.{from_least, below_most, passes, is_there}
use Rattle.actor_rules.specs.Polling.{place_in}
use Rattle.actor_rules.specs.Completions.{HasPlace}
use Rattle.object_places.specs.Places.{no_qp, qp_line, send_of}
use Rattle.provider_poll.specs.Rule.{QueuePlace}

module _ {X : Type 0} (p : X → Bool) where
  -- an item that passes has a place before which none passes
  first_inside : (xs : List X) (i : ℕ) (x : X) → slice_get xs i ≡ Some x → p x ≡ true → prefix_len (λ y. not (p y)) xs < length xs
  first_inside [] zero x there passes = absurd (false≢true (ap is_some there))
  first_inside [] (suc i) x there passes = absurd (false≢true (ap is_some there))
  first_inside (y ∷ ys) zero x there passes =
      let same : p y ≡ true = ap (λ o. p (unwrap_or o y)) there ∙ passes in
      let first : prefix_len (λ z. not (p z)) (y ∷ ys) ≡ 0 = ap (λ b. cond (not b) (1 + prefix_len (λ z. not (p z)) ys) 0) same in
      omega (arith, first)
  first_inside (y ∷ ys) (suc i) x there passes = by (p y) (first_inside ys i x there passes)
    where
      by : (b : Bool) → prefix_len (λ z. not (p z)) ys < length ys → cond (not b) (1 + prefix_len (λ z. not (p z)) ys) 0 < suc (length ys)
      by true low = omega arith
      by false low = omega (arith, low)

  pub position_there : (xs : List X) (i : ℕ) (x : X) → slice_get xs i ≡ Some x → p x ≡ true → position p xs ≡ Some (unwrap_or (position p xs) 0)
  position_there xs i x there passes =
      let inside : nat_lt (position_or_len p xs) (length xs) ≡ true = lt-ltb _ _ (first_inside xs i x there passes) in
      rw inside refl

-- the item at a number's place
pub at_position : (xs : List ℕ) (n k : ℕ) → position (λ m. m == n) xs ≡ Some k → slice_get xs k ≡ Some n
at_position xs n k is =
    let found = position-Some (λ m. m == n) xs k 0 is in
    slice_get-get_or xs k 0 found.0 ∙ ap (λ m. Some m) (eqb-true (get_or xs k 0) n found.1)

pub place_of_position : (d : Lines) (cq qp : ℕ) → position (λ n. n == qp) (senders d cq) ≡ Some (place_in d cq qp) → HasPlace d cq qp
place_of_position d cq qp is =
    let there = at_position (senders d cq) qp (place_in d cq qp) is in
    record { is = is; there = there; inside = slice_get_within (senders d cq) (place_in d cq qp) qp there }

-- queue pairs of one place are one
pub same_pair : (d : Lines) (cq qp other : ℕ) → HasPlace d cq qp → HasPlace d cq other → place_in d cq qp ≡ place_in d cq other → qp ≡ other
same_pair d cq qp other h g same = ap (λ o. unwrap_or o qp) (sym h.there ∙ ap (λ i. slice_get (senders d cq) i) same ∙ g.there)

pair_line : (d : Lines) (qp place : ℕ) (line : QpLine) → qp ≡ FIRST_QP + place → slice_get d.qps place ≡ Some line → (is_among FIRST_QP (length d.qps) qp ≡ true) × (send_cq d qp ≡ line.send_cq)
pair_line d qp place line number there =
    let low : place < length d.qps = slice_get_within d.qps place line there in
    let back : qp - FIRST_QP ≡ place = omega (arith, number) in
    let among_them : is_among FIRST_QP (length d.qps) qp ≡ true = and_from _ _ (le-leb FIRST_QP qp (omega (arith, number))) (lt-ltb (qp - FIRST_QP) (length d.qps) (omega (arith, number, low))) in (
      among_them,
      ap (λ (b : Bool). (cond b (option_map_or (λ (l : QpLine). record { state = first_state d qp; send_cq = l.send_cq; recv_cq = l.recv_cq }) (slice_get d.qps (qp - FIRST_QP)) no_pair) no_pair).send_cq) among_them
          ∙ ap (λ (i : ℕ). (option_map_or (λ (l : QpLine). record { state = first_state d qp; send_cq = l.send_cq; recv_cq = l.recv_cq }) (slice_get d.qps i) no_pair).send_cq) back
          ∙ ap (λ (o : Option QpLine). (option_map_or (λ (l : QpLine). record { state = first_state d qp; send_cq = l.send_cq; recv_cq = l.recv_cq }) o no_pair).send_cq) there,
    )

-- who has a place lives, and completes into the queue
pub living_by_place : (d : Lines) (cq qp : ℕ) → HasPlace d cq qp → (is_among FIRST_QP (length d.qps) qp ≡ true) × (send_cq d qp ≡ cq)
living_by_place d cq qp h =
    let test : ℕ → Bool = completes_to d cq in
    let low = from_least test FIRST_QP (length d.qps) (place_in d cq qp) qp h.there in
    let high = below_most test FIRST_QP (length d.qps) (place_in d cq qp) qp h.there in
    let home : (qp_line d qp).send_cq ≡ cq = eqb-true (qp_line d qp).send_cq cq (passes test FIRST_QP (length d.qps) (place_in d cq qp) qp h.there) in
    let there : slice_get d.qps (qp - FIRST_QP) ≡ Some (qp_line d qp) = slice_get-get_or d.qps (qp - FIRST_QP) no_qp (omega (arith, low, high)) in
    let p = pair_line d qp (qp - FIRST_QP) (qp_line d qp) (omega (arith, low)) there in
    (p.0, p.1 ∙ home)

-- and the other way round
pub place_by_living : (d : Lines) (cq qp : ℕ) → is_among FIRST_QP (length d.qps) qp ≡ true → send_cq d qp ≡ cq → HasPlace d cq qp
place_by_living d cq qp lives home =
    let inside = among FIRST_QP (length d.qps) qp lives in
    let there : slice_get d.qps (qp - FIRST_QP) ≡ Some (qp_line d qp) = slice_get-get_or d.qps (qp - FIRST_QP) no_qp inside.1 in
    let line = pair_line d qp (qp - FIRST_QP) (qp_line d qp) (omega (arith, inside.0)) there in
    let good : completes_to d cq qp ≡ true = eq-eqb (qp_line d qp).send_cq cq (sym line.1 ∙ home) in
    let found = is_there (completes_to d cq) FIRST_QP (length d.qps) qp inside.0 (omega (arith, inside.0, inside.1)) good in
    place_of_position d cq qp (position_there (λ n. n == qp) (senders d cq) found.0 qp found.1 (eq-eqb qp qp refl))

-- their places, with where each queue lies
abbrev pub places_of : Lines → List ℕ → List QueuePlace
places_of d numbers = map (λ (qp : ℕ). record { number = qp; place = send_of d qp }) numbers
