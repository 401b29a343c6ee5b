-- Operations that write a word of news, and what they say.
use Rattle.std.specs.Prelude.{◌≡◌, ◌≢◌, ◌++◌, List, ◌∷◌, fold, is_some, true}
use Rattle.bus_core.specs.declared.operation.BusEntry.{BusEntry}
use Rattle.bus_core.specs.declared.operation.BusOp.TheVariants.{Load}
use Rattle.bus_core.specs.Mark.{Marked}
use Rattle.verbs_types.specs.declared.call.Call.{Call}
use Rattle.verbs_types.specs.declared.declaration.Lines.{Lines}
use Rattle.object_places.specs.Objects.{Mark}
use Rattle.actor_rules.specs.Actors.{Actors, fresh_actors, after, says}
use Rattle.marked_stores.specs.News.{IsNews}

-- every operation but a load may leave another word
abbrev pub Writes : BusEntry → Type 0
Writes e = e.op ≢ Load

-- where it writes a word of news it says an entry
abbrev pub SaysEntry : Lines → Actors → Marked Mark → Type 0
SaysEntry d w x = Writes x.entry → IsNews d x.entry.addr → is_some (says d w x) ≡ true

-- each operation of the trace, with the actors as the operations before it left them
abbrev pub SayEntries : Lines → List (List Call) → List (Marked Mark) → Type 0
SayEntries d programs trace =
    (before : List (Marked Mark)) (x : Marked Mark) (later : List (Marked Mark)) → trace ≡ before ++ (x ∷ later) → SaysEntry d (fold (after d) (fresh_actors d programs) before) x
