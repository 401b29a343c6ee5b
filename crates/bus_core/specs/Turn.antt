-- What a turn of a machine leaves of its answer and of its note.
use Rattle.std.specs.Prelude.{ℕ}
use Rattle.bus_core.specs.declared.turn.Note.{Note}
use Rattle.bus_core.specs.declared.turn.Step.{Step}
use Rattle.bus_core.specs.declared.turn.Step.TheVariants.{More, Gave, Done}

-- a turn of a machine that gives no parts: its operation goes on or ended
abbrev pub IsWhole : {G D : Type 0} → Step G D → Type 0
IsWhole More = Unit {0}
IsWhole (Gave part) = ⊥
IsWhole (Done answer) = Unit {0}

-- a note that shows one count of another side
abbrev pub count_note : ℕ → Note
count_note count = record { kind = 0; object = 0; a = count; b = 0; c = 0; d = 0 }
