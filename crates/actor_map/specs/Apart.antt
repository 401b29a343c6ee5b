-- What holds of the words of all objects.
use Rattle.std.specs.Prelude.{ℕ, ◌≡◌, ◌+◌, ◌<◌, ◌≤◌, length, get_or}
use Rattle.verbs_types.specs.declared.declaration.EqLine.{EqLine}
use Rattle.verbs_types.specs.declared.declaration.CqLine.{CqLine}
use Rattle.verbs_types.specs.declared.declaration.QpLine.{QpLine}
use Rattle.verbs_types.specs.declared.declaration.Lines.{Lines}
use Rattle.verbs_types.specs.declared.declaration.TheConstants.{FIRST_QP}
use Rattle.actor_map.specs.declared.kind.ObjectKind.TheVariants.{Eq, Cq, Qp}
use Rattle.actor_map.specs.declared.sizes.TheConstants.{FIRST_OBJECT}
use Rattle.actor_map.specs.Map.{IsMapped, map_of, place}
use Rattle.actor_map.specs.Sizes.{eq_words, cq_words, qp_words, firsts, sizes, words_of}

-- where the object at a place begins, and how many words it has
abbrev pub begins : Lines → ℕ → ℕ
begins d i = get_or (firsts FIRST_OBJECT (sizes d)) i 0

abbrev pub size : Lines → ℕ → ℕ
size d i = get_or (sizes d) i 0

-- each object ends before a later one begins
abbrev pub AreApart : Type 0
AreApart = (d : Lines) (i j : ℕ) → i < j → j < length (sizes d) → begins d i + size d i ≤ begins d j

-- each object stands between the first word of objects and the end of the map
abbrev pub AreInside : Type 0
AreInside = (d : Lines) (i : ℕ) → i < length (sizes d) → (FIRST_OBJECT ≤ begins d i) × (begins d i + size d i ≤ words_of d)

-- each declared object is mapped, with the words of its kind
pub record IsWholeFor (d : Lines) : Type 0 where
  pub eqs : (n : ℕ) (l : EqLine) → n < length d.eqs → IsMapped (map_of d) Eq n × (size d (place (map_of d) Eq n) ≡ eq_words (get_or d.eqs n l))
  pub cqs : (n : ℕ) (l : CqLine) → n < length d.cqs → IsMapped (map_of d) Cq n × (size d (place (map_of d) Cq n) ≡ cq_words (get_or d.cqs n l))
  pub qps : (n : ℕ) (l : QpLine) → n < length d.qps → IsMapped (map_of d) Qp (FIRST_QP + n) × (size d (place (map_of d) Qp (FIRST_QP + n)) ≡ qp_words (get_or d.qps n l))

abbrev pub IsWhole : Type 0
IsWhole = (d : Lines) → IsWholeFor d
