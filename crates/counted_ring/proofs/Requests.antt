-- The requests of a list by number, and the list with one more.
use Rattle.std.proofs.Common.{◌≡◌, ℕ, ◌+◌, ◌<◌, ◌≤◌, zero, suc, inl, inr, refl, ◌∙◌, arith, List, [], ◌∷◌, ◌++◌, length, get_or, length-append}
use Rattle.std.specs.Prelude.{slice_index}
use Rattle.std.proofs.lemmas.Bool.{cases_lt}
use Rattle.std.proofs.lemmas.List.{get_or_push, get_or_append_left}
use Rattle.counted_ring.specs.declared.place.WqPlace.{WqPlace}
use Rattle.counted_ring.specs.Place.{span}
use Rattle.counted_ring.specs.Queue.{Request, Queue, Wrote, index_in, index_of, after_event}

-- the request of a number, of no words past the last
abbrev pub request_of : Queue → ℕ → Request
request_of q n = get_or q.requests n (record { index = 0; words = []; id = 0 })

-- how many blocks request n takes
abbrev pub span_of : WqPlace → Queue → ℕ → ℕ
span_of place q n = span place (slice_index (request_of q n).words 0)

pub index_past : (rs : List Request) (next n : ℕ) → length rs ≤ n → index_in rs next n ≡ next
index_past [] next n h = refl
index_past (r ∷ rs) next zero h = absurd (omega (arith, h))
index_past (r ∷ rs) next (suc n) h = index_past rs next n (omega (arith, h))

index_before : (rs : List Request) (r : Request) (next next' n : ℕ) → n < length rs → index_in (rs ++ r ∷ []) next' n ≡ index_in rs next n
index_before [] r next next' n h = absurd (omega (arith, h))
index_before (x ∷ rs) r next next' zero h = refl
index_before (x ∷ rs) r next next' (suc n) h = index_before rs r next next' n (omega (arith, h))

index_last : (rs : List Request) (r : Request) (next' n : ℕ) → n ≡ length rs → index_in (rs ++ r ∷ []) next' n ≡ r.index
index_last [] r next' zero h = refl
index_last [] r next' (suc n) h = absurd (omega (arith, h))
index_last (x ∷ rs) r next' zero h = absurd (omega (arith, h))
index_last (x ∷ rs) r next' (suc n) h = index_last rs r next' n (omega (arith, h))

module _ (place : WqPlace) (q : Queue) (words : List ℕ) (id : ℕ) where
  abbrev pub more : Queue
  more = after_event place q (Wrote words id)

  abbrev pub added : Request
  added = record { index = q.next; words = words; id = id }

  pub count_more : length more.requests ≡ length q.requests + 1
  count_more = omega (arith, length-append q.requests (added ∷ []))

  pub request_before : (n : ℕ) → n < length q.requests → request_of more n ≡ request_of q n
  request_before n h = get_or_append_left q.requests (added ∷ []) (record { index = 0; words = []; id = 0 }) n h

  pub request_last : (n : ℕ) → n ≡ length q.requests → request_of more n ≡ added
  request_last n h = get_or_push q.requests added (record { index = 0; words = []; id = 0 }) n (omega (arith, h))

  pub index_more : (n : ℕ) → n ≤ length q.requests → index_of more n ≡ index_of q n
  index_more n h = elim (cases_lt n (length q.requests)) [
    | inl before ↦ index_before q.requests added q.next more.next n before
    | inr last ↦ index_last q.requests added more.next n (omega (arith, h, last)) ∙ omega (arith, index_past q.requests q.next n last)
  ]

  pub index_next : (n : ℕ) → length q.requests < n → index_of more n ≡ q.next + span place (slice_index words 0)
  index_next n h = index_past more.requests more.next n (omega (arith, h, count_more))
