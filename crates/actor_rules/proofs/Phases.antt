-- The phases of a run follow one another: an actor that stands by moves nothing, so all operations keep the rules of the turns.
use Rattle.std.proofs.Common.{◌≡◌, ℕ, zero, suc, subst, List, [], ◌∷◌, ◌++◌, append_assoc, append-nil}
use Rattle.std.specs.List.{fold}
use Rattle.bus_core.specs.Follow.{Follows}
use Rattle.bus_core.specs.Mark.{Marked}
use Rattle.bus_core.proofs.Following.{Follows-append}
use Rattle.verbs_types.specs.declared.call.Call.{Call}
use Rattle.verbs_types.specs.declared.declaration.Lines.{Lines}
use Rattle.object_places.specs.Objects.{Mark}
use Rattle.actor_rules.specs.Actors.{Actors, fresh_actors, after}
use Rattle.actor_rules.specs.Roles.{MayAny, May, next, part, MayAs, next_as, Bystander, turn_role, alone_role}
use Rattle.actor_rules.specs.Run.{Phases, IsRun, KeepRoles, whole, turns_alone, own}
use Rattle.actor_rules.proofs.Keeping.{all_keep, own_keep}

-- whoever stands by made nothing, which keeps any rule
nobody_moves : {S : Type 0} (d : Lines) (may : S → Marked Mark → Type 0) (next : S → Marked Mark → S) (s : S) (ops : List (Marked Mark)) → Follows (MayAs d Bystander) (next_as d Bystander) tt ops → Follows may next s ops
nobody_moves d may next s [] none = tt
nobody_moves d may next s (x ∷ ops) none = absurd none.0

module _ (d : Lines) where
  roles_keep : (w : Actors) (trace : List (Marked Mark)) → KeepRoles d alone_role w trace → KeepRoles d turn_role w trace
  roles_keep w trace keeps zero = keeps zero
  roles_keep w trace keeps (suc t) = nobody_moves d (May d (suc t)) (next d (suc t)) (part (suc t) w) (own (suc t) trace) (keeps (suc t))

  -- all operations of a run keep the rules of the turns, from what the actors know at first
  pub run_keeps : (programs : List (List Call)) (p : Phases) → IsRun d programs p → Follows (MayAny d) (after d) (fresh_actors d programs) (whole p)
  run_keeps programs p run =
      let first : Actors = fresh_actors d programs in
      let opened : Actors = fold (after d) first p.opening in
      let closing : Actors = fold (after d) first (p.opening ++ p.turns) in
      let opens = all_keep d p.opening first (roles_keep first p.opening run.opens) in
      let turned = all_keep d p.turns opened run.turns in
      let closes = all_keep d p.closing closing (roles_keep closing p.closing run.closes) in
      let before = Follows-append (MayAny d) (after d) first p.opening p.turns opens turned in
      subst (Follows (MayAny d) (after d) first) (append_assoc p.opening p.turns p.closing) (Follows-append (MayAny d) (after d) first (p.opening ++ p.turns) p.closing before closes)

  -- and so do each actor's own
  pub each_keeps : (programs : List (List Call)) (p : Phases) → IsRun d programs p → (actor : ℕ) → Follows (May d actor) (next d actor) (part actor (fresh_actors d programs)) (own actor (whole p))
  each_keeps programs p run actor = own_keep d (whole p) (fresh_actors d programs) (run_keeps programs p run) actor

-- a run of turns alone is its turns
pub whole_is : (trace : List (Marked Mark)) → whole (turns_alone trace) ≡ trace
whole_is trace = append-nil trace
