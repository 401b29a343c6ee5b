-- The answers to entries that are read as words.
use Rattle.std.proofs.Common.{◌≡◌, ℕ, ◌+◌, ◌*◌, ◌<◌, List, Option, length, slice_index, slice_set, codes, refl, sym, ap, ◌∙◌, subst, arith, ⊎_elim}
use Rattle.std.proofs.lemmas.Bool.{cases_eq}
use Rattle.std.proofs.lemmas.List.{get_or-set_other}
use Rattle.std.proofs.lemmas.Grind.{get_or-set_at}
use Rattle.prm_fields.specs.Bits.{field_value}
use Rattle.prm_fields.specs.Refusal.{first_refusal}
use Rattle.prm_fields.specs.declared.layout.LayoutName.{LayoutName}
use Rattle.cqe_format.specs.Bytes.{IsFirstWrong}
use Rattle.work_entries.specs.Rules.{send_rules}
use Rattle.work_entries.specs.declared.fault.BadEntry.{BadEntry}
use Rattle.work_entries.specs.declared.units.SendWords.{SendWords}
use Rattle.mlx5_dump.specs.Answer.{HasWords, IsSendAnswer, IsSpelled, IsWrongFrom, fields_text, good, numbered, refused, send_fields, told, unit_words}

-- one more word
pub each_set : (words bytes : List ℕ) (k word : ℕ) → ((j : ℕ) → j < k → slice_index words j ≡ field_value bytes (64 * j) 64) → k < length words → word ≡ field_value bytes (64 * k) 64
    → (j : ℕ) → j < k + 1 → slice_index (slice_set words k word) j ≡ field_value bytes (64 * j) 64
each_set words bytes k word each inside is j below =
    ⊎_elim (λ same. get_or-set_at words k j word 0 same inside ∙ is ∙ ap (λ n. field_value bytes (64 * n) 64) (sym same))
    (λ other. get_or-set_other words k j word 0 other ∙ each j (omega (arith, below, other)))
    (cases_eq j k)

-- what is spelled by the bytes of the words is spelled by the bytes
pub spelled : {Entry : Type 0} (Spells : Entry → List ℕ → Type 0) (layout_of : Entry → LayoutName) (again bytes : List ℕ) (entry : Entry) (layout : LayoutName)
    → again ≡ bytes → Spells entry again → layout ≡ layout_of entry → IsSpelled Spells layout_of bytes (good (fields_text layout bytes))
spelled Spells layout_of again bytes entry layout same spells is = record {
  entry = entry;
  spelled = subst (Spells entry) same spells;
  says = ap (λ l. good (fields_text l bytes)) is;
}

pub wrong_from : {Entry : Type 0} (Spells : Entry → List ℕ → Type 0) (again bytes : List ℕ) (byte : ℕ)
    → again ≡ bytes → IsFirstWrong (λ b. (entry : Entry) × Spells entry b) again byte → IsWrongFrom Spells bytes (refused (numbered (codes "byte") byte))
wrong_from {Entry} Spells again bytes byte same wrong = record {
  byte = byte;
  wrong = subst (λ b. IsFirstWrong (λ c. (entry : Entry) × Spells entry c) b byte) same wrong;
  says = refl;
}

pub send_answer : (entry : SendWords) (bytes : List ℕ) (said : Option BadEntry) → HasWords entry bytes → first_refusal (send_rules entry) ≡ said → IsSendAnswer bytes (told unit_words (send_fields bytes) said)
send_answer entry bytes said has says = record { entry = entry; has = has; says = ap (told unit_words (send_fields bytes)) (sym says) }
