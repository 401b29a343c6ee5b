-- The map of declared objects.
use Rattle.std.specs.Prelude.{ℕ, ◌+◌, ◌-◌, ◌<◌, ◌≤◌, List, length, get_or}
use Rattle.verbs_types.specs.declared.declaration.Lines.{Lines}
use Rattle.verbs_types.specs.declared.declaration.TheConstants.{FIRST_QP}
use Rattle.actor_map.specs.declared.kind.ObjectKind.{ObjectKind}
use Rattle.actor_map.specs.declared.kind.ObjectKind.TheVariants.{Eq, Cq, Qp}
use Rattle.actor_map.specs.declared.sizes.TheConstants.{FIRST_OBJECT}
use Rattle.actor_map.specs.Sizes.{firsts, sizes}

pub record MapView : Type 0 where
  -- the first word of each object, kind by kind
  pub first_words : List ℕ
  -- how many event queues and how many completion queues there are
  pub eqs : ℕ
  pub cqs : ℕ

abbrev pub map_of : Lines → MapView
map_of d = record { first_words = firsts FIRST_OBJECT (sizes d); eqs = length d.eqs; cqs = length d.cqs }

-- the place of an object among all objects
abbrev pub place : MapView → ObjectKind → ℕ → ℕ
place m Eq n = n
place m Cq n = m.eqs + n
place m Qp n = m.eqs + m.cqs + (n - FIRST_QP)

-- there is such an object
abbrev pub IsMapped : MapView → ObjectKind → ℕ → Type 0
IsMapped m Eq n = (n < m.eqs) × (m.eqs ≤ length m.first_words)
IsMapped m Cq n = (n < m.cqs) × (m.eqs + m.cqs ≤ length m.first_words)
IsMapped m Qp n = (FIRST_QP ≤ n) × (place m Qp n < length m.first_words)

abbrev pub first_word : MapView → ObjectKind → ℕ → ℕ
first_word m kind n = get_or m.first_words (place m kind n) 0
