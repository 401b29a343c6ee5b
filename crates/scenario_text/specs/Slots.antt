-- What may stand in each place of a line, whatever stands before it.
use Rattle.std.specs.Prelude.{ℕ, ◌==◌, List, [], ◌∷◌, codes, Bool, true, ◌||◌, ◌&&◌, nat_eq, drop, length, bytes_eq}
use Rattle.std.specs.List.{list_any, starts_with}
use Rattle.verbs_types.specs.Names.{is_name}
use Rattle.scenario_text.specs.Segments as segments
use Rattle.scenario_text.specs.Text.{Field, split, part_at, is_digits, is_number}
use Rattle.scenario_text.specs.declared.slot.Slot.{Slot}
use Rattle.scenario_text.specs.declared.slot.Slot.TheVariants.{NewName, Name, Pair, Poster, Receiver, Poller, Number, RecvLog, Operation, Flags, Segment, Turns}

-- what follows `rq:`
abbrev pub after_rq : Field → Field
after_rq field = drop 3 field

-- the name of an actor, and the digits after `*`
abbrev pub actor_part : Field → Field
actor_part field = part_at (split 42 field) 0

abbrev pub times_part : Field → Field
times_part field = part_at (split 42 field) 1

-- nothing, or a row of digits, follows the name
abbrev pub is_counted : Field → Bool
is_counted field = (length (split 42 field) == 1) || ((length (split 42 field) == 2) && is_digits (times_part field))

abbrev pub all_flags : List Field
all_flags = codes "-" ∷ codes "c" ∷ codes "s" ∷ codes "f" ∷ codes "cs" ∷ codes "cf" ∷ codes "sf" ∷ codes "csf" ∷ []

abbrev pub are_flags : Field → Bool
are_flags field = list_any (bytes_eq field) all_flags

abbrev pub has_flag : Field → ℕ → Bool
has_flag field letter = list_any (λ b. b == letter) field

-- the form of a field
abbrev pub is_formed : Slot → Field → Bool
is_formed NewName field = is_name field
is_formed (Name kind) field = is_name field
is_formed Pair field = is_name field
is_formed Poster field = is_name field
is_formed Receiver field = is_name field
is_formed Poller field = is_name field
is_formed Number field = is_digits field
is_formed RecvLog field = starts_with nat_eq field (codes "rq:") && is_digits (after_rq field)
is_formed Operation field = bytes_eq field (codes "nop")
is_formed Flags field = are_flags field
is_formed Segment field = segments.is_formed field
is_formed Turns field = is_name (actor_part field) && is_counted field

-- the digits of a field, if it has any, are a number
abbrev pub has_number : Slot → Field → Bool
has_number Number field = is_number field
has_number RecvLog field = is_number (after_rq field)
has_number Segment field = segments.has_numbers field
has_number Turns field = (length (split 42 field) == 1) || is_number (times_part field)
has_number _ field = true
