-- The send queues that complete to a declared completion queue.
use Rattle.std.proofs.Common.{◌≡◌, ℕ, zero, suc, ◌+◌, ◌^◌, ◌<◌, ◌≤◌, ◌++◌, refl, sym, ap, ◌∙◌, subst, arith, Bool, true, false, IsTrue, List, [], ◌∷◌, length, map, filter, All, if◌then◌else◌, Option, Some, None, unwrap_or}
use Rattle.std.proofs.lemmas.List.{map-append, append-nil}
use Rattle.std.proofs.lemmas.Simd.{map-map}
use Rattle.std.proofs.Math.Pow.{pow_mono}
use Rattle.std.specs.List.{range_with_len}
use Rattle.std.proofs.lemmas.List.Elements.{filter-append, All-map, All-filter}
use Rattle.std.proofs.lemmas.List.FromFn.{length-range_with_len, get_or-range_with_len}
use Rattle.verbs_types.specs.declared.declaration.Lines.{Lines}
use Rattle.verbs_types.specs.declared.declaration.TheConstants.{FIRST_QP}
use Rattle.verbs_types.specs.Lines.{is_among, is_declared}
use Rattle.actor_map.specs.declared.kind.ObjectKind.TheVariants.{Qp}
use Rattle.actor_map.specs.Apart.{AreInside, IsWhole, begins}
use Rattle.actor_map.specs.Map.{map_of, first_word, place}
use Rattle.actor_map.specs.Sizes.{words_of, send_words, receive_words, qp_words}
use Rattle.object_places.specs.Places.{cq_line, qp_line, completions_of, send_of, IsWithin}
use Rattle.owner_ring.specs.Consumer.{Waiting}
use Rattle.counted_ring.specs.Retirer.{Retirer}
use Rattle.object_places.proofs.Lines.{IsQpNumber, is_cq}
use Rattle.object_places.proofs.Standing.{cq_stands, qp_stands}
use Rattle.provider_poll.specs.SendQueue.{SendView}
use Rattle.provider_poll.specs.Poll.{LiesWithin}
use Rattle.provider_poll.specs.declared.state.PollState.TheVariants.{Idle}
use Rattle.provider_poll.specs.Rule.{QueuePlace}
use Rattle.provider_poll.specs.FollowsRule.{queue_place}
use Rattle.provider_poll.specs.Fresh.{completes_to, senders, fresh_sender, fresh_poll, next_place, BeginsAs}
use Rattle.provider_poll.specs.SendQueues.{HasEachPlace}
use Rattle.provider_poll.proofs.EachPlace.{grown, passed}

range_more : (a n : ℕ) → range_with_len a (suc n) ≡ range_with_len a n ++ (a + n) ∷ []
range_more a zero = ap (λ i. i ∷ []) (omega arith)
range_more a (suc n) =
    let same : a + 1 + n ≡ a + suc n = omega arith in
    ap (λ is. a ∷ is) (range_more (a + 1) n) ∙ ap (λ i. a ∷ (range_with_len (a + 1) n ++ i ∷ [])) same

module _ (d : Lines) (cq : ℕ) where
  -- the queues of the first so many queue pairs
  abbrev pub so_far : ℕ → List SendView
  so_far n = map (fresh_sender d) (filter (completes_to d cq) (range_with_len FIRST_QP n))

  abbrev pub next_one : ℕ → List SendView
  next_one qp = if completes_to d cq qp then fresh_sender d qp ∷ [] else []

  one : (qp : ℕ) → map (fresh_sender d) (filter (completes_to d cq) (qp ∷ [])) ≡ next_one qp
  one qp = by_test (completes_to d cq qp) where
    by_test : (b : Bool) → map (fresh_sender d) (if b then qp ∷ [] else []) ≡ (if b then fresh_sender d qp ∷ [] else [])
    by_test true = refl
    by_test false = refl

  pub one_more : (n : ℕ) → so_far (n + 1) ≡ so_far n ++ next_one (FIRST_QP + n)
  one_more n =
      let next : n + 1 ≡ suc n = omega arith in
      let p = completes_to d cq in
      let qs = range_with_len FIRST_QP n in
      ap so_far next ∙ ap (λ is. map (fresh_sender d) (filter p is)) (range_more FIRST_QP n) ∙ ap (map (fresh_sender d)) (filter-append p qs ((FIRST_QP + n) ∷ []))
      ∙ map-append (fresh_sender d) (filter p qs) (filter p ((FIRST_QP + n) ∷ [])) ∙ ap (λ rest. so_far n ++ rest) (one (FIRST_QP + n))

-- the places after the next queue pair
pub places_more : (d : Lines) (cq qp : ℕ) (places : List (Option ℕ)) (queues : List SendView) → HasEachPlace places queues → qp ≡ FIRST_QP + length places → HasEachPlace (places ++ next_place d cq qp (length queues) ∷ []) (queues ++ next_one d cq qp)
places_more d cq qp places queues has is = by_test (completes_to d cq qp) where
  by_test : (b : Bool) → HasEachPlace (places ++ (if b then Some (length queues) else None) ∷ []) (queues ++ (if b then fresh_sender d qp ∷ [] else []))
  by_test true = grown places queues has (fresh_sender d qp) is
  by_test false = subst (HasEachPlace (places ++ None ∷ [])) (sym (append-nil queues)) (passed places queues has)

-- what all numbers from the first on have
all_numbers : (P : ℕ → Type 0) (a n : ℕ) → ((i : ℕ) → i < n → P (a + i)) → All P (range_with_len a n)
all_numbers P a n h k default inside =
    let below : k < n = omega (arith, inside, length-range_with_len a n) in
    subst P (sym (get_or-range_with_len a n k default below)) (h k below)

module _ (whole : IsWhole) (inside : AreInside) (d : Lines) where
  sends_within : (qp : ℕ) → IsQpNumber d qp → IsWithin (words_of d) (send_of d qp)
  sends_within qp number =
      let stands = qp_stands whole inside d qp number in
      record { record_word = omega (arith, stands.high); register = λ r is. let same : Some _ ≡ Some r = is in within r (ap (λ o. unwrap_or o 0) same) stands.high } where
        within : (r : ℕ) → first_word (map_of d) Qp qp + send_words (qp_line d qp) + receive_words (qp_line d qp) + 2 ≡ r → begins d (place (map_of d) Qp qp) + qp_words (qp_line d qp) ≤ words_of d → r < words_of d
        within r is high = omega (arith, is, high)

  -- the words of a declared side are those of its objects
  pub lies_within : IsTrue (is_declared d) → (cq : ℕ) → IsTrue (is_among 0 (length d.cqs) cq) → LiesWithin (words_of d) (fresh_poll d cq)
  lies_within declared cq among =
      let line = is_cq d cq declared among in
      let stands = cq_stands whole inside d cq line.below in
      let entries : 2 ^ (cq_line d cq).log ≤ 2 ^ (cq_line d cq).ceiling = pow_mono line.log in
      let each : All (λ qp. IsWithin (words_of d) (send_of d qp)) (range_with_len FIRST_QP (length d.qps)) = all_numbers (λ qp. IsWithin (words_of d) (send_of d qp)) FIRST_QP (length d.qps) (λ i below. sends_within (FIRST_QP + i) (record { low = omega arith; below = omega (arith, below) })) in
      record {
        ring = omega (arith, entries, stands.high);
        record_word = omega (arith, stands.high);
        queues = All-map (IsWithin (words_of d)) (λ (q : SendView). q.place) (map (fresh_sender d) (senders d cq))
            (All-map (λ (q : SendView). IsWithin (words_of d) q.place) (fresh_sender d) (senders d cq)
            (All-filter (completes_to d cq) (λ qp. IsWithin (words_of d) (send_of d qp)) (range_with_len FIRST_QP (length d.qps)) each));
      }

pub begins_as : (d : Lines) (cq : ℕ) → BeginsAs d cq
begins_as d cq = record {
  place = ap (λ (qs : List QueuePlace). record { cq = completions_of d cq; queues = qs }) (map-map queue_place (fresh_sender d) (senders d cq));
  rule = ap (λ (rs : List Retirer). record { host = Waiting (cq_line d cq).start (cq_line d cq).start; seen = 0; retirers = rs; state = Idle }) (map-map (λ (q : SendView). q.side) (fresh_sender d) (senders d cq));
}
