-- A line that breaks no rule says nothing, or is one of a word and passes the rules.
use Rattle.std.proofs.Common.{◌≡◌, ℕ, Bool, true, false, not, cond, List, IsTrue, Option, None, Some, ◌⊎◌, inl, inr, refl, ap, ◌∙◌}
use Rattle.std.specs.List.{list_all}
use Rattle.scenario_text.specs.After.{after_line, add_known, add_line, count_line}
use Rattle.scenario_text.specs.Built.{is_built, is_built_line}
use Rattle.scenario_text.specs.Keywords.{keyword_in}
use Rattle.scenario_text.specs.Rules.{broken_by, fault_of}
use Rattle.scenario_text.specs.Sofar.{Said}
use Rattle.scenario_text.specs.Text.{split, part_at, is_text_byte, is_skipped}
use Rattle.scenario_text.specs.declared.fault.TextRule.TheVariants as rules
use Rattle.scenario_text.specs.declared.keyword.Keyword.{Keyword}
use Rattle.scenario_text.proofs.Asked.{Passes, passes_rules, unless}
use Rattle.scenario_text.proofs.Words.{word_of, word_is}

-- the line is one of this word
pub record IsKnown (s : Said) (bytes : List ℕ) : Type 0 where
  pub words : is_skipped bytes ≡ false
  pub keyword : Keyword
  pub word : part_at (split 32 bytes) 0 ≡ word_of keyword
  pub found : keyword_in s.place (part_at (split 32 bytes) 0) ≡ Some keyword
  pub passes : Passes (count_line s) keyword (split 32 bytes)
  pub after : after_line s bytes ≡ add_line keyword (split 32 bytes) (count_line s)

-- the line is empty or a comment
pub record IsSkipped (s : Said) (bytes : List ℕ) : Type 0 where
  pub skipped : is_skipped bytes ≡ true
  pub after : after_line s bytes ≡ count_line s

module _ (s : Said) (bytes : List ℕ) where
  by_word : (found : Option Keyword) → keyword_in s.place (part_at (split 32 bytes) 0) ≡ found → IsTrue (is_built_line (count_line s) found (split 32 bytes))
      → broken_by (count_line s) found (split 32 bytes) ≡ None → is_skipped bytes ≡ false → IsKnown s bytes
  by_word None is built unbroken words = absurd (cc)
  by_word (Some keyword) is built unbroken words = record {
    words = words;
    keyword = keyword;
    word = word_is (part_at (split 32 bytes) 0) s.place keyword is;
    found = is;
    passes = passes_rules (count_line s) keyword (split 32 bytes) built unbroken;
    after = ap (λ b. cond b (count_line s) (add_known (keyword_in s.place (part_at (split 32 bytes) 0)) (split 32 bytes) (count_line s))) words
        ∙ ap (λ k. add_known k (split 32 bytes) (count_line s)) is;
  }

  by_skip : (skipped : Bool) → is_skipped bytes ≡ skipped
      → (cond skipped None (cond (not (is_built (count_line s) (split 32 bytes))) (Some rules.NotBuilt) (broken_by (count_line s) (keyword_in s.place (part_at (split 32 bytes) 0)) (split 32 bytes)))) ≡ None
      → IsSkipped s bytes ⊎ IsKnown s bytes
  by_skip true is h =
      inl (record { skipped = is; after = ap (λ b. cond b (count_line s) (add_known (keyword_in s.place (part_at (split 32 bytes) 0)) (split 32 bytes) (count_line s))) is })
  by_skip false is h =
      let built = unless (is_built (count_line s) (split 32 bytes)) rules.NotBuilt (broken_by (count_line s) (keyword_in s.place (part_at (split 32 bytes) 0)) (split 32 bytes)) h in
      inr (by_word (keyword_in s.place (part_at (split 32 bytes) 0)) refl built.0 built.1 is)

  pub line_cases : fault_of s bytes ≡ None → IsSkipped s bytes ⊎ IsKnown s bytes
  line_cases h = by_skip (is_skipped bytes) refl (unless (list_all is_text_byte bytes) rules.Byte _ h).1
