-- What a host reads of an answer, word after word: as many words as there are, and then the reply that was given.
use Rattle.std.proofs.Common.{◌≡◌, ◌≢◌, ◌^◌, ◌/◌, ◌%◌, ℕ, zero, suc, ◌+◌, ◌<◌, ◌≤◌, min, inl, inr, refl, ap, sym, ◌∙◌, subst, arith, Bool, true, false, cond, eqb, ◌&&◌, List, [], ◌∷◌, length, take, get_or}
use Rattle.std.proofs.lemmas.Bool.{cases_lt, cases_eq, eq-eqb, le-leb, lt-leb, ne_eqb, cond-true, cond-false}
use Rattle.std.proofs.lemmas.List.{length-take-le}
use Rattle.prm_fields.specs.Bits.{field_value}
use Rattle.cmd_bodies.specs.declared.command.Command.{Command}
use Rattle.cmd_bodies.specs.declared.command.Command.TheVariants.{QueryPages, ReturnPages, AllocPd, AllocUar, CreateMkey, CreateEq, CreateCq, CreateSrq, CreateQp}
use Rattle.cmd_bodies.specs.declared.reply.Reply.{Reply}
use Rattle.cmd_bodies.specs.Reply.{answer_of, listed_of, reply_at, HasReply, IsReplyTo, Carries}
use Rattle.cmd_bodies.proofs.Replies.{reads_back}
use Rattle.cmd_slots.specs.Bytes.{bytes_of}
use Rattle.cmd_slots.specs.Answer.{listed_word, listed_words, output_words, lists_pages, listed_behind, is_output}
use Rattle.cmd_slots.proofs.Spelling.{length-bytes_of, field_of_first, word_part}

pub length-listed_words : (words : List ℕ) (k more : ℕ) → length (listed_words words k more) ≡ more
unfolding listed_words
length-listed_words words k zero = refl
length-listed_words words k (suc more) = omega (arith, length-listed_words words (k + 1) more)

pub listed_words-read : (words : List ℕ) (k more j : ℕ) → j < more → get_or (listed_words words k more) j 0 ≡ listed_word words (k + j)
unfolding listed_words
listed_words-read words k zero j inside = absurd (omega arith)
listed_words-read words k (suc more) zero inside = ap (listed_word words) (omega arith)
listed_words-read words k (suc more) (suc j) inside = listed_words-read words (k + 1) more j (omega arith) ∙ ap (listed_word words) (omega arith)

pub length-output_words : (words : List ℕ) (listed : ℕ) → length (output_words words listed) ≡ 2 + listed
length-output_words words listed = omega (arith, length-listed_words words 0 listed)

pub output_words-listed : (words : List ℕ) (listed j : ℕ) → j < listed → get_or (output_words words listed) (2 + j) 0 ≡ listed_word words j
output_words-listed words listed j inside =
    let e : 2 + j ≡ suc (suc j) = omega arith in
    ap (λ n. get_or (output_words words listed) n 0) e ∙ listed_words-read words 0 listed j inside ∙ ap (listed_word words) (omega arith)

-- how many addresses a reply with status 0 lists
listed_none : (r : Reply) → r.number ≡ 0 → listed_of r ≡ 0
listed_none r none = rw none refl

listed_without_pages : (r : Reply) → r.pages ≡ 0 → listed_of r ≡ 0
listed_without_pages r none = rw none (at_zero (eqb r.number 0)) where
  at_zero : (b : Bool) → cond {A = ℕ} b 0 0 ≡ 0
  at_zero true = refl
  at_zero false = refl

listed_all : (r : Reply) → r.number ≡ r.pages → r.pages ≤ 88 → listed_of r ≡ min r.number 88
listed_all r same few = elim (cases_eq r.number 0) [
  | inl none ↦ listed_none r none ∙ omega (arith, none)
  | inr some ↦ cond-false (eqb r.number 0) 0 r.pages (ne_eqb r.number 0 some) ∙ omega (arith, same, few)
]

listed_good : (c : Command) (r : Reply) → Carries (answer_of c) r → listed_of r ≡ cond (lists_pages c) (min r.number 88) 0
listed_good (ReturnPages count) r carries = listed_all r carries.number_same carries.few
listed_good (QueryPages use_of) r carries = listed_none r carries.number_none
listed_good AllocPd r carries = listed_without_pages r carries.pages_none
listed_good AllocUar r carries = listed_without_pages r carries.pages_none
listed_good (CreateMkey parameters) r carries = listed_without_pages r carries.pages_none
listed_good (CreateEq parameters) r carries = listed_without_pages r carries.pages_none
listed_good (CreateCq parameters) r carries = listed_without_pages r carries.pages_none
listed_good (CreateSrq parameters) r carries = listed_without_pages r carries.pages_none
listed_good (CreateQp parameters) r carries = listed_without_pages r carries.pages_none
listed_good _ r carries = listed_none r carries.number_none

pub listed_few : (c : Command) (r : Reply) → IsReplyTo c r → listed_of r ≤ 88
listed_few c r is = elim (cases_eq r.status 0) [
  | inl good ↦ subst (λ (n : ℕ). n ≤ 88) (sym (listed_good c r (is.good good))) (few (lists_pages c))
  | inr bad ↦ subst (λ (n : ℕ). n ≤ 88) (sym (listed_none r (is.refused bad).number_none)) (omega arith)
] where
  few : (b : Bool) → cond b (min r.number 88) 0 ≤ 88
  few true = omega arith
  few false = omega arith

module _ (c : Command) (r : Reply) (words : List ℕ) (is : IsReplyTo c r) (has : HasReply r (bytes_of (output_words words (listed_of r)))) where
  abbrev output : List ℕ
  output = output_words words (listed_of r)

  long : length output ≡ 2 + listed_of r
  long = length-output_words words (listed_of r)

  -- two words tell how many follow
  tells_listed : (count : ℕ) → 2 ≤ count → count ≤ length output → listed_behind c (take count output) ≡ listed_of r
  tells_listed count some few =
      let held : length (take count output) ≡ count = length-take-le count output few in
      let status : field_value (bytes_of (take count output)) 0 8 ≡ r.status = field_of_first output count 0 8 held (omega arith) ∙ has.head.status_there in
      let number : field_value (bytes_of (take count output)) 64 32 ≡ r.number = field_of_first output count 64 32 held (omega arith) ∙ has.head.number_there in
      ap (λ n. cond (lists_pages c && eqb n 0) (min (field_value (bytes_of (take count output)) 64 32) 88) 0) status
      ∙ ap (λ n. cond (lists_pages c && eqb r.status 0) (min n 88) 0) number
      ∙ elim (cases_eq r.status 0) [
        | inl good ↦ ap (λ t. cond (lists_pages c && t) (min r.number 88) 0) (eq-eqb r.status 0 good) ∙ ap (λ t. cond t (min r.number 88) 0) (and_true (lists_pages c)) ∙ sym (listed_good c r (is.good good))
        | inr bad ↦ ap (λ t. cond (lists_pages c && t) (min r.number 88) 0) (ne_eqb r.status 0 bad) ∙ ap (λ t. cond t (min r.number 88) 0) (and_false (lists_pages c)) ∙ sym (listed_none r (is.refused bad).number_none)
      ] where
        and_true : (b : Bool) → (b && true) ≡ b
        and_true true = refl
        and_true false = refl

        and_false : (b : Bool) → (b && false) ≡ false
        and_false true = refl
        and_false false = refl

  -- the output is whole with its last word, and not before
  pub output_goes_on : (count : ℕ) → 0 < count → count < length output → is_output c (take count output) ≡ false
  output_goes_on count some low =
      let held : length (take count output) ≡ count = length-take-le count output (omega arith) in
      elim (cases_lt count 2) [
        | inl first ↦ lt-leb (2 + listed_behind c (take count output)) (length (take count output)) (omega (arith, held, first))
        | inr later ↦ lt-leb (2 + listed_behind c (take count output)) (length (take count output)) (omega (arith, held, low, long, tells_listed count later (omega arith)))
      ]

  pub output_ends : (ws : List ℕ) → ws ≡ output → is_output c ws ≡ true
  output_ends ws same =
      let listed = tells_listed (length output) (omega (arith, long)) (omega arith) in
      let whole : take (length output) output ≡ output = all output in
      subst (λ (xs : List ℕ). is_output c xs ≡ true) (sym same) (le-leb (2 + listed_behind c output) (length output) (omega (arith, long, subst (λ (xs : List ℕ). listed_behind c xs ≡ listed_of r) whole listed))) where
        all : (xs : List ℕ) → take (length xs) xs ≡ xs
        all [] = refl
        all (x ∷ xs) = ap (λ ys. x ∷ ys) (all xs)

  -- and it is the reply
  pub output_reads : reply_at c (bytes_of output) ≡ r
  output_reads = reads_back c r (bytes_of output) is has (omega (arith, length-bytes_of output, long))

-- status and number in the first two words
pub status_read : (words : List ℕ) → 2 ≤ length words → get_or words 0 0 < 2 ^ 64 → field_value (bytes_of words) 0 8 ≡ get_or words 0 0 / 2 ^ 56
status_read words some small =
    let part = word_part words 0 0 8 56 (omega (arith, some)) (omega arith) in
    omega (arith, part, small)

pub number_read : (words : List ℕ) → 2 ≤ length words → get_or words 1 0 < 2 ^ 64 → field_value (bytes_of words) 64 32 ≡ get_or words 1 0 / 2 ^ 32
number_read words some small =
    let part = word_part words 1 0 32 32 (omega (arith, some)) (omega arith) in
    omega (arith, part, small)

module _ (c : Command) (words : List ℕ) where
  pub listed_here : lists_pages c ≡ true → field_value (bytes_of words) 0 8 ≡ 0 → listed_behind c words ≡ min (field_value (bytes_of words) 64 32) 88
  listed_here lists good =
      ap (λ t. cond (t && eqb (field_value (bytes_of words) 0 8) 0) (min (field_value (bytes_of words) 64 32) 88) 0) lists
      ∙ cond-true _ (min (field_value (bytes_of words) 64 32) 88) 0 (eq-eqb _ 0 good)

  pub listed_no_pages : lists_pages c ≡ false → listed_behind c words ≡ 0
  listed_no_pages none = ap (λ t. cond (t && eqb (field_value (bytes_of words) 0 8) 0) (min (field_value (bytes_of words) 64 32) 88) 0) none

  pub listed_bad : field_value (bytes_of words) 0 8 ≢ 0 → listed_behind c words ≡ 0
  listed_bad bad =
      ap (λ t. cond (lists_pages c && t) (min (field_value (bytes_of words) 64 32) 88) 0) (ne_eqb _ 0 bad) ∙ neither (lists_pages c) where
        neither : (b : Bool) → cond (b && false) (min (field_value (bytes_of words) 64 32) 88) 0 ≡ 0
        neither true = refl
        neither false = refl
