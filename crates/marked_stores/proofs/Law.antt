-- From one operation to every one of a run.
use Rattle.std.proofs.Common.{ℕ, subst, List, [], ◌∷◌, ◌++◌, Option, None, Some}
use Rattle.std.specs.List.{fold}
use Rattle.bus_core.specs.Follow.{Follows}
use Rattle.bus_core.specs.Mark.{Marked, entries}
use Rattle.bus_core.specs.Trace.{Memory, IsConsistent, after_entry}
use Rattle.verbs_types.specs.declared.call.Call.{Call}
use Rattle.verbs_types.specs.declared.declaration.Lines.{Lines}
use Rattle.verbs_types.specs.declared.entry.Entry.{Entry}
use Rattle.verbs_rules.specs.Within.{Bounds}
use Rattle.verbs_rules.specs.Start.{start}
use Rattle.verbs_rules.specs.Running.{Running, after_turn}
use Rattle.actor_map.specs.Start.{start_words}
use Rattle.object_places.specs.Apart.{ArePlaced, AreApart, AreAtStart}
use Rattle.object_places.specs.Objects.{Mark}
use Rattle.object_places.specs.Words.{AreUsed, AreOwn, AreOfObjects}
use Rattle.actor_rules.specs.Actors.{Actors, fresh_actors, after, says, sees_of}
use Rattle.actor_rules.specs.Roles.{MayAny}
use Rattle.actor_rules.specs.Dues.{dues_at}
use Rattle.actor_rules.specs.Ready.{AreReady, first_dues}
use Rattle.actor_rules.specs.Run.{Phases, IsRun, whole}
use Rattle.actor_rules.specs.Holding.{Holds, Goes, IsMapped, AllGo}
use Rattle.run_law.proofs.StartHolds.{CanAct, start_holds}
use Rattle.actor_rules.proofs.Phases.{run_keeps}
use Rattle.marked_stores.specs.Stores.{SaysEntry, SayEntries}
use Rattle.marked_stores.proofs.Actors.{told}
use Rattle.marked_stores.proofs.Places.{AreWords}

module _ (d : Lines) (programs : List (List Call)) (bounds : Bounds) (all : AllGo d programs bounds) (words : AreWords d) where
  -- whatever an operation says, what holds goes on
  goes_on : (m : Memory) (w : Actors) (r : Running) (seen : ℕ) (said : Option Entry) → Goes d programs bounds m w r seen said → (s : Running) × Holds d programs bounds m w s
  goes_on m w r seen None g = (r, g)
  goes_on m w r seen (Some e) g = (after_turn r e, g.1)

  all_told : (trace : List (Marked Mark)) (m : Memory) (w : Actors) (r : Running) → Holds d programs bounds m w r → IsConsistent m (entries trace) → Follows (MayAny d) (after d) w trace → Follows (SaysEntry d) (after d) w trace
  all_told [] m w r holds consistent keeps = tt
  all_told (x ∷ trace) m w r holds consistent keeps =
      let next = goes_on (after_entry m x.entry) (after d w x) r (sees_of d w x.entry.actor x) (says d w x) (all m w r x holds consistent.0 keeps.0) in
      (told d programs bounds words m w r x holds keeps.0, all_told trace (after_entry m x.entry) (after d w x) next.0 next.1 consistent.1 keeps.1)

-- the item after those before it
follows_at : {S E : Type 0} (allowed : S → E → Type 0) (next : S → E → S) (s : S) (before : List E) (x : E) (later : List E) → Follows allowed next s (before ++ (x ∷ later)) → allowed (fold next s before) x
follows_at allowed next s [] x later h = h.0
follows_at allowed next s (e ∷ before) x later h = follows_at allowed next (next s e) before x later h.1

-- what a run writes of news it says
pub all_are_told : ((d : Lines) (programs : List (List Call)) (bounds : Bounds) → IsMapped d → AllGo d programs bounds) → ArePlaced → AreApart → AreAtStart → AreUsed → AreOwn → AreOfObjects → (d : Lines) (programs : List (List Call)) (bounds : Bounds) (phases : Phases) → AreReady d programs bounds → IsRun d programs phases → SayEntries d programs (whole phases)
all_are_told go placed apart starts used own of_objects d programs bounds phases ready run before x later is =
    let trace : List (Marked Mark) = whole phases in
    let map_ok : IsMapped d = record { declared = ready.declared; placed = placed; apart = apart } in
    let words : AreWords d = record { map = map_ok; used = used; own = own; of_objects = of_objects } in
    let begins : CanAct d programs bounds = record { map = map_ok; starts = starts; ready = ready } in
    let first : Running = record { verbs = start d; owed = dues_at (first_dues programs) } in
    let all = all_told d programs bounds (go d programs bounds map_ok) words trace (start_words d 1) (fresh_actors d programs) first (start_holds d programs bounds begins) run.consistent (run_keeps d programs phases run) in
    follows_at (SaysEntry d) (after d) (fresh_actors d programs) before x later (subst (Follows (SaysEntry d) (after d) (fresh_actors d programs)) is all)
