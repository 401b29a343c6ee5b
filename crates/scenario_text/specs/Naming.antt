-- What names stand for.
use Rattle.std.specs.Prelude.{ℕ, List, [], ◌∷◌, codes, Option, None, Some, if◌then◌else◌, bytes_eq}
use Rattle.std.specs.Option.{option_and_then}
use Rattle.verbs_types.specs.declared.declaration.Object.TheVariants as objects
use Rattle.scenario_text.specs.declared.names.Meaning.{Meaning}
use Rattle.scenario_text.specs.declared.names.Meaning.TheVariants.{Taken, Actor, Object}
use Rattle.scenario_text.specs.declared.slot.Kind.{Kind}
use Rattle.scenario_text.specs.declared.slot.Kind.TheVariants as kinds

-- a name, and what it stands for
pub record Entry : Type 0 where
  pub name : List ℕ
  pub meaning : Meaning

-- what the name stands for, where it has a meaning
abbrev pub meaning_of : List Entry → List ℕ → Option Meaning
meaning_of [] name = None
meaning_of (e ∷ es) name = if bytes_eq name e.name then Some e.meaning else meaning_of es name

-- the number of the object or actor that is meant, where it is of the kind
abbrev pub number_as : Kind → Meaning → Option ℕ
number_as kinds.Eq (Object (objects.Eq n)) = Some n
number_as kinds.Pd (Object (objects.Pd n)) = Some n
number_as kinds.Cq (Object (objects.Cq n)) = Some n
number_as kinds.Qp (Object (objects.Qp n)) = Some n
number_as kinds.Actor (Actor n) = Some n
number_as _ _ = None

-- the number of the object or actor of the kind that has the name
abbrev pub number_named : List Entry → Kind → List ℕ → Option ℕ
number_named names kind name = option_and_then (number_as kind) (meaning_of names name)

-- the names that no scenario gives: the adapter, who opens and closes it, and who starts the threads
abbrev pub taken_names : List Entry
taken_names =
    record { name = codes "dev"; meaning = Actor 0 }
    ∷ record { name = codes "ctl"; meaning = Taken }
    ∷ record { name = codes "main"; meaning = Taken }
    ∷ []
