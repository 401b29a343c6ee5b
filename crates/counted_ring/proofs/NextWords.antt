-- A store into the words of the request that comes next leaves those of the requests before it.
use Rattle.std.proofs.Common.{◌≡◌, ◌≢◌, ℕ, ◌+◌, ◌*◌, ◌/◌, ◌%◌, ◌<◌, ◌≤◌, inl, inr, ap, sym, ◌∙◌, subst, arith, true, List, [], ◌∷◌, ◌++◌, length, get_or, length-append}
use Rattle.std.specs.Prelude.{slice_index}
use Rattle.std.proofs.Math.Nat.{mul-le-mul_right, div-lt_iff_lt-mul, div-add-mod}
use Rattle.std.proofs.lemmas.Bool.{cases_lt}
use Rattle.std.proofs.lemmas.List.{get_or_push, get_or_append_left}
use Rattle.bus_core.specs.Trace.{Memory}
use Rattle.counted_ring.specs.declared.place.WqPlace.{WqPlace}
use Rattle.counted_ring.specs.Place.{IsPlace, is_send, most, span, word_at, id_at, head_at, all_words}
use Rattle.counted_ring.specs.Queue.{Queue, index_of}
use Rattle.counted_ring.proofs.Parts.{span_few}
use Rattle.counted_ring.proofs.Slots.{words_differ, ids_differ, heads_differ, word_below, id_low, id_before_heads}
use Rattle.counted_ring.proofs.Requests.{request_of, span_of}
use Rattle.counted_ring.proofs.Shape.{Shape, product_some, span_some, rises, rises_by, last_index, window, room_high}
use Rattle.counted_ring.proofs.Tied.{Stored, IsPart}

-- different words of one entry
inner : (s k l : ℕ) → k / s ≡ l / s → k ≢ l → k % s ≢ l % s
inner s k l block ne same = omega (arith, div-add-mod k s, div-add-mod l s, ap (λ x. s * x) block, same, ne)

module _ (place : WqPlace) (m m' : Memory) (q : Queue) (ok : IsPlace place) (s : Shape place q) (room : length q.requests < q.retired + place.max_post) where
  abbrev low : ℕ
  low = index_of q q.retired

  all_retired : q.retired ≤ length q.requests
  all_retired = omega (arith, s.order.retired, s.order.taken, s.order.rung)

  -- the next request's blocks are those of the window that no other has
  next_low : low ≤ q.next
  next_low = omega (arith, rises place q s.order q.retired (length q.requests) all_retired (omega arith), last_index place q s.order)

  next_block : (k : ℕ) → k < most place * place.stride → q.next + k / place.stride < low + place.blocks
  next_block k h = omega (arith, (div-lt_iff_lt-mul ok.some_stride).1 h, room_high place q s.order ok room)

  next_first : q.next < low + place.blocks
  next_first = omega (arith, room_high place q s.order ok room, span_some place 0, span_few place 0)

  module _ (n : ℕ) (live : q.retired ≤ n) (inside : n < length q.requests) where
    index_low : low ≤ index_of q n
    index_low = rises place q s.order q.retired n live (omega (arith, inside))

    index_high : index_of q n + span_of place q n ≤ q.next
    index_high = omega (arith, rises_by place q s.order n (length q.requests) inside (omega arith), last_index place q s.order)

    block_high : (k : ℕ) → k < length (request_of q n).words → k / place.stride < span_of place q n
    block_high k h = (div-lt_iff_lt-mul ok.some_stride).1 (omega (arith, h, s.whole n inside))

    index_before : index_of q n < q.next
    index_before = omega (arith, index_high, span_some place (slice_index (request_of q n).words 0))

    word_apart : (k l : ℕ) → k < most place * place.stride → l < length (request_of q n).words → word_at place q.next k ≢ word_at place (index_of q n) l
    word_apart k l hk hl = words_differ place ok low q.next (index_of q n) k l next_low (next_block k hk) index_low
        (omega (arith, block_high l hl, index_high, window place q s.order ok)) (λ e. absurd (omega (arith, e, block_high l hl, index_high)))

    id_apart : id_at place q.next ≢ id_at place (index_of q n)
    id_apart = ids_differ place ok low q.next (index_of q n) next_low next_first index_low (omega (arith, index_before, next_first)) (λ e. omega (arith, e, index_before))

    head_apart : head_at place q.next ≢ head_at place (index_of q n)
    head_apart = heads_differ place ok low q.next (index_of q n) next_low next_first index_low (omega (arith, index_before, next_first)) (λ e. omega (arith, e, index_before))

  -- a word of its entry is stored
  pub word_stored : (k : ℕ) → k < most place * place.stride → ((a : ℕ) → word_at place q.next k ≢ a → m' a ≡ m a) → Stored place m q → Stored place m' q
  word_stored k few other stored n live inside =
      let h = stored n live inside in
      record {
        each = λ l hl. other (word_at place (index_of q n) l) (word_apart n live inside k l few hl) ∙ h.each l hl;
        id = other (id_at place (index_of q n)) (λ e. omega (arith, e, word_below place ok q.next k, id_low place (index_of q n))) ∙ h.id;
        head = λ send. other (head_at place (index_of q n)) (λ e. omega (arith, e, word_below place ok q.next k, id_low place 0, id_before_heads place ok send 0 (index_of q n))) ∙ h.head send;
      }

  -- its id
  pub id_stored : ((a : ℕ) → id_at place q.next ≢ a → m' a ≡ m a) → Stored place m q → Stored place m' q
  id_stored other stored n live inside =
      let h = stored n live inside in
      record {
        each = λ l hl. other (word_at place (index_of q n) l) (λ e. omega (arith, e, word_below place ok (index_of q n) l, id_low place q.next)) ∙ h.each l hl;
        id = other (id_at place (index_of q n)) (id_apart n live inside) ∙ h.id;
        head = λ send. other (head_at place (index_of q n)) (λ e. omega (arith, e, id_before_heads place ok send q.next (index_of q n))) ∙ h.head send;
      }

  -- its head word
  pub head_stored : is_send place ≡ true → ((a : ℕ) → head_at place q.next ≢ a → m' a ≡ m a) → Stored place m q → Stored place m' q
  head_stored send other stored n live inside =
      let h = stored n live inside in
      record {
        each = λ l hl. other (word_at place (index_of q n) l) (λ e. omega (arith, e, word_below place ok (index_of q n) l, id_low place 0, id_before_heads place ok send 0 q.next)) ∙ h.each l hl;
        id = other (id_at place (index_of q n)) (λ e. omega (arith, e, id_before_heads place ok send (index_of q n) q.next)) ∙ h.id;
        head = λ send. other (head_at place (index_of q n)) (head_apart n live inside) ∙ h.head send;
      }

-- the first words of an entry, with one more
module _ (place : WqPlace) (ok : IsPlace place) (words : List ℕ) (part : IsPart place words) where
  all_few : (ws : List ℕ) → all_words place ws ≤ most place * place.stride
  all_few ws = mul-le-mul_right place.stride (span_few place (slice_index ws 0))

  all_some : (ws : List ℕ) → 0 < all_words place ws
  all_some ws = product_some (span place (slice_index ws 0)) place.stride (span_some place (slice_index ws 0)) ok.some_stride

  pub few_words : length words < most place * place.stride
  few_words = elim (cases_lt 0 (length words)) [
    | inl some ↦ omega (arith, part some, all_few words)
    | inr none ↦ omega (arith, none, all_few words, all_some words)
  ]

  pub more_part : (word : ℕ) → length (words ++ word ∷ []) ≤ all_words place (words ++ word ∷ [])
  more_part word = elim (cases_lt 0 (length words)) [
    | inl some ↦
        let first : all_words place (words ++ word ∷ []) ≡ all_words place words = ap (λ w. span place w * place.stride) (get_or_append_left words (word ∷ []) 0 0 some) in
        omega (arith, first, part some, length-append words (word ∷ []))
    | inr none ↦ omega (arith, none, length-append words (word ∷ []), all_some (words ++ word ∷ []))
  ]

  pub each_more : (m m' : Memory) (index word : ℕ) → m' (word_at place index (length words)) ≡ word → ((a : ℕ) → word_at place index (length words) ≢ a → m' a ≡ m a) → index + most place ≤ index + place.blocks
      → ((k : ℕ) → k < length words → m (word_at place index k) ≡ get_or words k 0) → (k : ℕ) → k < length (words ++ word ∷ []) → m' (word_at place index k) ≡ get_or (words ++ word ∷ []) k 0
  each_more m m' index word here other fits each k h = elim (cases_lt k (length words)) [
    | inl before ↦
        let at_k : k / place.stride < most place = (div-lt_iff_lt-mul ok.some_stride).1 (omega (arith, before, few_words)) in
        let at_end : length words / place.stride < most place = (div-lt_iff_lt-mul ok.some_stride).1 few_words in
        let apart = words_differ place ok index index index (length words) k (omega arith) (omega (arith, at_end, fits)) (omega arith) (omega (arith, at_k, fits))
        (λ e. inner place.stride (length words) k (omega (arith, e)) (λ same. omega (arith, same, before))) in
        other (word_at place index k) apart ∙ (each k before ∙ sym (get_or_append_left words (word ∷ []) 0 k before))
    | inr last ↦
        let e : length words ≡ k = omega (arith, last, h, length-append words (word ∷ [])) in
        subst (λ (n : ℕ). m' (word_at place index n) ≡ get_or (words ++ word ∷ []) n 0) e (here ∙ sym (get_or_push words word 0 (length words) (omega arith)))
  ]
