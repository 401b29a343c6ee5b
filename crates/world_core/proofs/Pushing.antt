-- Turns and operations, with one more.
use Rattle.std.proofs.Common.{◌≡◌, ◌∙◌, refl, sym, ap, inl, inr, ℕ, ◌++◌, Bool, List, [], ◌∷◌, is_some}
use Rattle.std.specs.List.{fold}
use Rattle.bus_core.specs.Mark.{Marked}
use Rattle.verbs_types.specs.declared.declaration.Lines.{Lines}
use Rattle.object_places.specs.Objects.{Mark}
use Rattle.actor_rules.specs.Actors.{Actors, after, says}
use Rattle.world_core.specs.Outcome.{AreTurns, Makes, Passes, marks_of}

module _ (d : Lines) where
  -- a turn of an actor that has ended
  pub turns_pass : (turns : List ℕ) (trace : List (Marked Mark)) (w : Actors) (actor : ℕ) → AreTurns d w turns trace → Passes (fold (after d) w trace) actor → AreTurns d w (turns ++ actor ∷ []) trace
  turns_pass [] [] w actor are passes = (passes, tt)
  turns_pass [] (y ∷ trace) w actor are passes = absurd are
  turns_pass (a ∷ turns) [] w actor are passes = (are.0, turns_pass turns [] w actor are.1 passes)
  turns_pass (a ∷ turns) (y ∷ trace) w actor are passes = elim are [
    | inl p ↦ inl (p.0, turns_pass turns (y ∷ trace) w actor p.1 passes)
    | inr m ↦ inr (m.0, turns_pass turns trace (after d w y) actor m.1 passes)
  ]

  -- a turn that makes the next operation
  pub turns_make : (turns : List ℕ) (trace : List (Marked Mark)) (w : Actors) (actor : ℕ) (x : Marked Mark) → AreTurns d w turns trace → Makes (fold (after d) w trace) actor x → AreTurns d w (turns ++ actor ∷ []) (trace ++ x ∷ [])
  turns_make [] [] w actor x are makes = inr (makes, tt)
  turns_make [] (y ∷ trace) w actor x are makes = absurd are
  turns_make (a ∷ turns) [] w actor x are makes = inl (are.0, turns_make turns [] w actor x are.1 makes)
  turns_make (a ∷ turns) (y ∷ trace) w actor x are makes = elim are [
    | inl p ↦ inl (p.0, turns_make turns (y ∷ trace) w actor x p.1 makes)
    | inr m ↦ inr (m.0, turns_make turns trace (after d w y) actor x m.1 makes)
  ]

  pub marks_push : (trace : List (Marked Mark)) (w : Actors) (x : Marked Mark) → marks_of d w (trace ++ x ∷ []) ≡ marks_of d w trace ++ is_some (says d (fold (after d) w trace) x) ∷ []
  marks_push [] w x = refl
  marks_push (y ∷ trace) w x = ap (λ (bs : List Bool). is_some (says d w y) ∷ bs) (marks_push trace (after d w y) x)
