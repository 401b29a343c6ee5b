-- Legal histories: each entry has a step from where the entries before it led.
use Rattle.std.specs.Prelude.{ℕ, ◌+◌, List, [], ◌∷◌, Option, None, Some}
use Rattle.bus_core.specs.Follow.{Follows}
use Rattle.verbs_types.specs.declared.entry.Entry.{Entry}
use Rattle.verbs_types.specs.declared.entry.RuleName.{RuleName}
use Rattle.verbs_types.specs.declared.entry.Illegal.{Illegal}
use Rattle.verbs_rules.specs.State.{Verbs}
use Rattle.verbs_rules.specs.Step.{first_fault, MayStep, after_entry}

abbrev pub IsLegal : Verbs → List Entry → Type 0
IsLegal v history = Follows MayStep after_entry v history

abbrev pub illegal_or : Option RuleName → ℕ → Option Illegal → Option Illegal
illegal_or None at_place later = later
illegal_or (Some rule) at_place later = Some (record { «at» = at_place; rule = rule })

-- the first entry without a step, counted from n, with its first failing rule
abbrev pub first_illegal : Verbs → ℕ → List Entry → Option Illegal
first_illegal v n [] = None
first_illegal v n (e ∷ history) = illegal_or (first_fault v e) n (first_illegal (after_entry v e) (n + 1) history)
