-- Lists of one and of two words.
use Rattle.std.proofs.Common.{String, map, string_bytes, ℕ, ◌≡◌, ◌≤◌, ◌<◌, List, [], ◌∷◌, length, get_or, arith}
use Rattle.std.specs.declared.alloc.Global.{Global}

pub one_word : (words : List (String Global)) (word : String Global) (text : List ℕ) → 1 ≤ length words → length words < 2 → word ≡ get_or words 0 word → string_bytes word ≡ text → map string_bytes words ≡ text ∷ []
one_word [] word text some few is spelled = absurd (omega (arith, some))
one_word (w ∷ []) word text some few is spelled = cc
one_word (w ∷ v ∷ words) word text some few is spelled = absurd (omega (arith, few))

pub two_words : (words : List (String Global)) (word other : String Global) (text name : List ℕ) → 2 ≤ length words → length words < 3 → word ≡ get_or words 0 word → other ≡ get_or words 1 other → string_bytes word ≡ text → string_bytes other ≡ name → map string_bytes words ≡ text ∷ name ∷ []
two_words [] word other text name some few is is_other spelled spelled_other = absurd (omega (arith, some))
two_words (w ∷ []) word other text name some few is is_other spelled spelled_other = absurd (omega (arith, some))
two_words (w ∷ v ∷ []) word other text name some few is is_other spelled spelled_other = cc
two_words (w ∷ v ∷ u ∷ words) word other text name some few is is_other spelled spelled_other = absurd (omega (arith, few))
