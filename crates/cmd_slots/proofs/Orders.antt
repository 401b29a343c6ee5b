-- Words that are stored in the order of a question or an answer: those behind a head first, and then the head.
use Rattle.std.proofs.Common.{◌≡◌, ◌≢◌, ℕ, ◌+◌, ◌-◌, ◌<◌, ◌≤◌, inl, inr, refl, sym, ◌∙◌, subst, arith, cond, ltb, List, length, get_or}
use Rattle.std.proofs.lemmas.Bool.{cases_lt, lt-ltb, le-ltb}
use Rattle.bus_core.specs.Trace.{Memory}
use Rattle.cmd_slots.specs.Host.{stored_next}

-- how many words are stored before word p
abbrev pub rank : ℕ → ℕ → ℕ → ℕ
rank head long p = cond (ltb p head) (p + long - head) (p - head)

rank_head : (head long p : ℕ) → p < head → rank head long p ≡ p + long - head
rank_head head long p h = rw (lt-ltb p head h) refl

rank_behind : (head long p : ℕ) → head ≤ p → rank head long p ≡ p - head
rank_behind head long p h = rw (le-ltb p head h) refl

next_behind : (head long count : ℕ) → count + head < long → stored_next head long count ≡ count + head
next_behind head long count h = rw (lt-ltb (count + head) long h) refl

next_head : (head long count : ℕ) → long ≤ count + head → stored_next head long count ≡ count + head - long
next_head head long count h = rw (le-ltb (count + head) long h) refl

pub next_low : (head long count : ℕ) → head ≤ long → count < long → stored_next head long count < long
next_low head long count fits low = elim (cases_lt (count + head) long) [
  | inl h ↦ omega (arith, next_behind head long count h)
  | inr h ↦ omega (arith, next_head head long count h)
]

pub rank_low : (head long p : ℕ) → head ≤ long → p < long → rank head long p < long
rank_low head long p fits low = elim (cases_lt p head) [
  | inl h ↦ omega (arith, rank_head head long p h)
  | inr h ↦ omega (arith, rank_behind head long p h)
]

-- the word with so many before it is the one that is stored next
pub next_of_rank : (head long count p : ℕ) → head ≤ long → p < long → rank head long p ≡ count → p ≡ stored_next head long count
next_of_rank head long count p fits low is = elim (cases_lt p head) [
  | inl h ↦
      let r = rank_head head long p h in
      omega (arith, is, r, next_head head long count (omega (arith, is, r)))
  | inr h ↦
      let r = rank_behind head long p h in
      omega (arith, is, r, next_behind head long count (omega (arith, is, r)))
]

-- the last one is the last of the head
pub last_is_head : (head long count : ℕ) → 0 < head → head ≤ long → count + 1 ≡ long → stored_next head long count ≡ head - 1
last_is_head head long count some fits last = omega (arith, next_head head long count (omega (arith, last)))

pub before_last : (head long count : ℕ) → 0 < head → head ≤ long → count + 1 < long → stored_next head long count ≢ head - 1
before_last head long count some fits low same = elim (cases_lt (count + head) long) [
  | inl h ↦ omega (arith, same, next_behind head long count h)
  | inr h ↦ omega (arith, same, next_head head long count h)
]

-- the words that have fewer than so many before them are stored, each at its address
pub record Stored (address : ℕ → ℕ) (m : Memory) (head : ℕ) (words : List ℕ) (count : ℕ) : Type 0 where
  pub each : (p : ℕ) → p < length words → rank head (length words) p < count → m (address p) ≡ get_or words p 0

module _ (address : ℕ → ℕ) (m m' : Memory) (head : ℕ) (words : List ℕ) where
  pub Stored_none : Stored address m head words 0
  Stored_none = record { each = λ p inside low. absurd (omega (arith, low)) }

  pub Stored_kept : (count : ℕ) → ((p : ℕ) → p < length words → m' (address p) ≡ m (address p)) → Stored address m head words count → Stored address m' head words count
  Stored_kept count same s = record { each = λ p inside low. same p inside ∙ s.each p inside low }

  pub Stored_all : (p : ℕ) → head ≤ length words → p < length words → Stored address m head words (length words) → m (address p) ≡ get_or words p 0
  Stored_all p fits inside s = s.each p inside (rank_low head (length words) p fits inside)

  -- one word more
  pub Stored_more : (count : ℕ) → head ≤ length words
      → ((p q : ℕ) → p < length words → q < length words → p ≢ q → address p ≢ address q) → count < length words
      → m' (address (stored_next head (length words) count)) ≡ get_or words (stored_next head (length words) count) 0
      → ((x : ℕ) → address (stored_next head (length words) count) ≢ x → m' x ≡ m x)
      → Stored address m head words count → Stored address m' head words (count + 1)
  Stored_more count fits apart low here other s =
      let long = length words in
      let next = stored_next head long count in
      record {
        each = λ p inside below. elim (cases_lt (rank head long p) count) [
          | inl before ↦
              let differs : next ≢ p = λ same. absurd (omega (arith, before, rank_of_next p same)) in
              other (address p) (apart next p (next_low head long count fits low) inside differs) ∙ s.each p inside before
          | inr last ↦
              let same : p ≡ next = next_of_rank head long count p fits inside (omega (arith, below, last)) in
              subst (λ (n : ℕ). m' (address n) ≡ get_or words n 0) (sym same) here
        ];
      } where
        rank_of_next : (p : ℕ) → stored_next head (length words) count ≡ p → rank head (length words) p ≡ count
        rank_of_next p same = elim (cases_lt (count + head) (length words)) [
          | inl h ↦ let n = next_behind head (length words) count h in let r = rank_behind head (length words) p (omega (arith, n, same)) in omega (arith, n, same, r)
          | inr h ↦ let n = next_head head (length words) count h in let r = rank_head head (length words) p (omega (arith, n, same)) in omega (arith, n, same, r)
        ]
