-- What is told are the entries that are said.
use Rattle.std.proofs.Common.{◌≡◌, ℕ, refl, ap, List, [], ◌∷◌, option_map, Option, Some, None}
use Rattle.std.specs.List.{cons_option}
use Rattle.bus_core.specs.Mark.{Marked}
use Rattle.bus_core.specs.Weave.{spelled}
use Rattle.verbs_types.specs.declared.declaration.Lines.{Lines}
use Rattle.verbs_types.specs.declared.entry.Entry.{Entry}
use Rattle.actor_map.specs.Notes.{Told, with_seen, entries_of}
use Rattle.object_places.specs.Objects.{Mark}
use Rattle.actor_rules.specs.Actors.{Actors, after, says, sees_of, tells}

one_told : (seen : ℕ) (said : Option Entry) (told : List Told) (history : List Entry) → entries_of told ≡ history → entries_of (cons_option (option_map (with_seen seen) said) told) ≡ cons_option said history
one_told seen None told history same = same
one_told seen (Some e) told history same = ap (λ (rest : List Entry). e ∷ rest) same

pub entries_told : (d : Lines) (w : Actors) (trace : List (Marked Mark)) → entries_of (spelled (after d) (tells d) w trace) ≡ spelled (after d) (says d) w trace
entries_told d w [] = refl
entries_told d w (x ∷ trace) = one_told (sees_of d w x.entry.actor x) (says d w x) (spelled (after d) (tells d) (after d w x) trace) (spelled (after d) (says d) (after d w x) trace) (entries_told d (after d w x) trace)
