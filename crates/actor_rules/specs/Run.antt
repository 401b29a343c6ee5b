-- A run of all actors over the words, and the history that it spells.
use Rattle.std.specs.Prelude.{ℕ, suc, ◌==◌, ◌++◌, List, [], filter, fold}
use Rattle.bus_core.specs.Follow.{Follows}
use Rattle.bus_core.specs.Mark.{Marked, entries}
use Rattle.bus_core.specs.Trace.{IsConsistent}
use Rattle.bus_core.specs.Weave.{spelled}
use Rattle.verbs_types.specs.declared.call.Call.{Call}
use Rattle.verbs_types.specs.declared.declaration.Lines.{Lines}
use Rattle.verbs_types.specs.declared.entry.Entry.{Entry}
use Rattle.verbs_rules.specs.Start.{start}
use Rattle.verbs_rules.specs.Answered.{IsAnswered, own_entries}
use Rattle.verbs_rules.specs.Legal.{IsLegal}
use Rattle.actor_map.specs.Notes.{Told, AllServe}
use Rattle.actor_map.specs.Start.{start_words}
use Rattle.object_places.specs.Objects.{Mark}
use Rattle.actor_rules.specs.Thread.{program_of}
use Rattle.actor_rules.specs.Actors.{Actors, fresh_actors, after, says, tells}
use Rattle.actor_rules.specs.Roles.{Role, turn_role, alone_role, known_as, MayAs, next_as}

-- the operations of one actor, in order
abbrev pub own : ℕ → List (Marked Mark) → List (Marked Mark)
own actor trace = filter (λ x. x.entry.actor == actor) trace

-- what the marked operations say, in order
abbrev pub history : Lines → List (List Call) → List (Marked Mark) → List Entry
history d programs trace = spelled (after d) (says d) (fresh_actors d programs) trace

-- the same with what each maker saw
abbrev pub told : Lines → List (List Call) → List (Marked Mark) → List Told
told d programs trace = spelled (after d) (tells d) (fresh_actors d programs) trace

-- The phases of a run: it opens, the actors take turns, and it closes.
pub record Phases : Type 0 where
  pub opening : List (Marked Mark)
  pub turns : List (Marked Mark)
  pub closing : List (Marked Mark)

-- all operations, in order
abbrev pub whole : Phases → List (Marked Mark)
whole p = p.opening ++ (p.turns ++ p.closing)

-- a run of turns alone: it opens with all declared objects made, and ends without a close
abbrev pub turns_alone : List (Marked Mark) → Phases
turns_alone trace = record { opening = []; turns = trace; closing = [] }

-- each actor's own operations of a phase keep the rule of its role, from what the actors know before it
abbrev pub KeepRoles : Lines → (ℕ → Role) → Actors → List (Marked Mark) → Type 0
KeepRoles d role w trace = (actor : ℕ) → Follows (MayAs d (role actor)) (next_as d (role actor)) (known_as (role actor) w) (own actor trace)

-- what all actors know after these operations
abbrev pub actors_after : Lines → Actors → List (Marked Mark) → Actors
actors_after d w trace = fold (after d) w trace

-- A consistent trace from the words with which a run begins, in which each actor keeps the rule of its role in each phase.
pub record IsRun (d : Lines) (programs : List (List Call)) (phases : Phases) : Type 0 where
  pub consistent : IsConsistent (start_words d 1) (entries (whole phases))
  pub opens : KeepRoles d alone_role (fresh_actors d programs) phases.opening
  pub turns : KeepRoles d turn_role (actors_after d (fresh_actors d programs) phases.opening) phases.turns
  pub closes : KeepRoles d alone_role (actors_after d (fresh_actors d programs) (phases.opening ++ phases.turns)) phases.closing

-- The history is legal from the state in which all declared objects live, and each thread's entries are those of its calls, each once and in order.
pub record IsHistory (d : Lines) (programs : List (List Call)) (entries : List Entry) : Type 0 where
  pub legal : IsLegal (start d) entries
  pub answered : (t : ℕ) → IsAnswered (program_of programs (suc t)) (own_entries (suc t) entries)

-- What a run spells is such a history, and what each maker saw serves for its entry.
pub record IsWoven (d : Lines) (programs : List (List Call)) (trace : List (Marked Mark)) : Type 0 where
  pub history : IsHistory d programs (history d programs trace)
  pub serves : AllServe (start d) (told d programs trace)
