-- The law of the whole: each operation keeps what holds, so what all operations say is legal, and answers each thread's calls.
use Rattle.std.proofs.Common.{◌≡◌, ℕ, zero, suc, refl, subst, List, [], ◌∷◌, map, option_map, sym}
use Rattle.bus_core.specs.Follow.{Follows}
use Rattle.bus_core.specs.Mark.{Marked}
use Rattle.bus_core.specs.Trace.{Memory, Tells, after_entry}
use Rattle.verbs_types.specs.declared.call.Call.{Call}
use Rattle.verbs_types.specs.declared.declaration.Lines.{Lines}
use Rattle.verbs_rules.specs.Answered.{Due, MayAnswer, after_answer, own_entries}
use Rattle.verbs_rules.specs.Within.{Bounds}
use Rattle.verbs_rules.specs.Start.{start}
use Rattle.verbs_rules.specs.Running.{Running}
use Rattle.verbs_rules.specs.Shape.{Shape, Posts, Takes, shape_of}
use Rattle.actor_map.specs.Notes.{Told, entries_of}
use Rattle.actor_map.specs.Start.{start_words}
use Rattle.object_places.specs.Apart.{ArePlaced, AreApart, AreAtStart}
use Rattle.object_places.specs.Objects.{Mark}
use Rattle.actor_rules.specs.Actors.{Actors, fresh_actors, by, posted_with}
use Rattle.actor_rules.specs.Roles.{May, part}
use Rattle.actor_rules.specs.Calls.{MayCall, after_call, call_says, call_sees, MayThread}
use Rattle.actor_rules.specs.Dues.{dues_at}
use Rattle.actor_rules.specs.Family.{put_number}
use Rattle.actor_rules.specs.Ready.{AreReady, first_dues}
use Rattle.actor_rules.specs.Run.{Phases, IsRun, IsHistory, IsWoven, whole, history, told}
use Rattle.actor_rules.specs.Thread.{Thread}
use Rattle.run_law.proofs.EndGoes.{end_goes}
use Rattle.actor_rules.specs.Holding.{Holds, Goes, IsMapped, GoesBy, IsFirst, AllGo}
use Rattle.run_law.proofs.StartHolds.{CanAct, start_holds, first_owed}
use Rattle.actor_rules.proofs.Phases.{run_keeps}
use Rattle.run_law.proofs.Woven.{turns_follow, legal_turns, serving_turns, answered_turns}
use Rattle.actor_rules.proofs.Told.{entries_told}
use Rattle.adapter_law.specs.Law.{AdapterGoes}
use Rattle.post_law.specs.Law.{IsPost, PostsGo}
use Rattle.poll_law.specs.Law.{IsPoll, PollsGo}

module _ (d : Lines) (programs : List (List Call)) (bounds : Bounds) (map_ok : IsMapped d) (adapter : AdapterGoes d programs bounds) (posts : PostsGo d programs bounds) (polls : PollsGo d programs bounds) where
  module _ (t : ℕ) (m : Memory) (w : Actors) (r : Running) (x : Marked Mark) (holds : Holds d programs bounds m w r) (tells : Tells m x.entry) (actor : x.entry.actor ≡ suc t) (may : MayThread d (w.threads (suc t)) (suc t) x) where
    abbrev s : Thread
    s = w.threads (suc t)

    -- what is to be shown of an operation of a thread with these calls
    abbrev Goal : List Call → Type 0
    Goal calls = Goes d programs bounds (after_entry m x.entry) (record { adapter = w.adapter; threads = put_number w.threads (suc t) (after_call d s calls x); posted = posted_with w.posted (call_says d s calls x) }) r (call_sees d s calls x) (option_map (by (suc t)) (call_says d s calls x))

    by_calls : (calls : List Call) → s.calls ≡ calls → Goal s.calls
    by_calls [] is = subst Goal (sym is) (end_goes d programs bounds w t map_ok m r x holds (subst (λ (calls : List Call). MayCall d s (suc t) calls x) is may))
    by_calls (call ∷ rest) is = by_shape (shape_of call) refl
      where
        by_shape : (shape : Shape) → shape_of call ≡ shape → Goal s.calls
        by_shape (Posts queue items) so = posts t m w r x holds tells actor (subst (IsFirst IsPost) (sym is) (subst IsPost (sym so) tt)) may
        by_shape (Takes cq taking) so = polls t m w r x holds tells actor (subst (IsFirst IsPoll) (sym is) (subst IsPoll (sym so) tt)) may

  -- each operation keeps what holds
  pub all_go : AllGo d programs bounds
  all_go m w r x holds tells may = by_actor x.entry.actor refl may
    where
      by_actor : (actor : ℕ) → x.entry.actor ≡ actor → May d actor (part actor w) x → GoesBy d programs bounds m w r actor x
      by_actor zero is may = adapter m w r x holds tells is tt may
      by_actor (suc t) is may = by_calls t m w r x holds tells is may (w.threads (suc t)).calls refl

-- what a run says
pub woven : ((d : Lines) (programs : List (List Call)) (bounds : Bounds) → IsMapped d → AllGo d programs bounds) → ArePlaced → AreApart → AreAtStart → (d : Lines) (programs : List (List Call)) (bounds : Bounds) (phases : Phases) → AreReady d programs bounds → IsRun d programs phases → IsWoven d programs (whole phases)
woven all placed apart starts d programs bounds phases ready run =
    let trace : List (Marked Mark) = whole phases in
    let map_ok : IsMapped d = record { declared = ready.declared; placed = placed; apart = apart } in
    let begins : CanAct d programs bounds = record { map = map_ok; starts = starts; ready = ready } in
    let first : Running = record { verbs = start d; owed = dues_at (first_dues programs) } in
    let follows = turns_follow d programs bounds (all d programs bounds map_ok) trace (start_words d 1) (fresh_actors d programs) first (start_holds d programs bounds begins) run.consistent (run_keeps d programs phases run) in
    let tale : List Told = told d programs trace in
    record {
      history = subst (IsHistory d programs) (entries_told d (fresh_actors d programs) trace) (record {
        legal = legal_turns first tale follows;
        answered = λ t. subst (λ (ds : List Due). Follows MayAnswer after_answer ds (own_entries (suc t) (entries_of tale))) (first_owed d programs programs t) (answered_turns t tale first follows);
      });
      serves = serving_turns first tale follows;
    }
