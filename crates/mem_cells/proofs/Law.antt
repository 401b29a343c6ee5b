-- The law of an arena.
use Rattle.std.proofs.Common.{◌≡◌, ℕ, inl, inr, refl, ap, sym, subst, Bool, true, false, List, [], ◌∷◌, Option, None}
use Rattle.std.specs.List.{cons_option, filter_map}
use Rattle.std.specs.Prelude.{◌&&◌, if◌then◌else◌, Some}
use Rattle.std.proofs.lemmas.Bool.{cases_Bool, both_ways}
use Rattle.bus_core.specs.declared.operation.BusEntry.{BusEntry}
use Rattle.bus_core.specs.Mark.{Marked}
use Rattle.bus_core.specs.Trace.{Memory, after_entry, Tells}
use Rattle.bus_core.specs.Weave.{spelled}
use Rattle.bus_core.proofs.Weaving.{legal_by_steps}
use Rattle.bus_core.proofs.Words.{harmless_kept}
use Rattle.mem_cells.specs.Place.{ArenaPlace, touches}
use Rattle.mem_cells.specs.Arena.{Arena, CellEvent, MayHappen, after_event, empty_arena, IsLegal}
use Rattle.mem_cells.specs.Mark.{CellMark, Read, Write, Foreign, is_use}
use Rattle.mem_cells.specs.User.{User, new_user, use_says}
use Rattle.mem_cells.specs.Law.{IsRun, says, history}
use Rattle.mem_cells.proofs.Tied.{Tied, Tied_kept, start_tied}
use Rattle.mem_cells.proofs.UserStep.{Goes, user_step}
use Rattle.mem_cells.proofs.Users.{MayAny, after_any, after_by, may_part, part, keeps_any}

-- what operations say without a look at their maker's state
spelled_alone : {W X H : Type 0} (after : W → X → W) (say : X → Option H) (w : W) (xs : List X) → spelled after (λ (v : W) (x : X). say x) w xs ≡ filter_map say xs
spelled_alone after say w [] = refl
spelled_alone after say w (x ∷ xs) = ap (cons_option (say x)) (spelled_alone after say (after w x) xs)

module _ (place : ArenaPlace) (m : Memory) (users : ℕ → User) (arena : Arena) (t : Tied place m users arena) where
  -- the same step, by whether the operation is on the arena's words, and whose it is
  abbrev StepBy : Bool → Marked CellMark → Type 0
  StepBy inside x =
      let who = if inside && is_use x.mark then Some x.entry.actor else None in
      may_part place who (part who users) x → Goes place (after_entry m x.entry) (after_by who users x.mark) arena (if inside then use_says x.mark x.entry else None)

  step_inside : (e : BusEntry) (mark : CellMark) → Tells m e → touches place e.addr ≡ true → StepBy true (record { entry = e; mark = mark })
  step_inside e (Read cell) tells inside = λ may. user_step place m users arena e.actor (Read cell) e t tells may
  step_inside e (Write cell) tells inside = λ may. user_step place m users arena e.actor (Write cell) e t tells may
  step_inside e Foreign tells inside = λ may. Tied_kept place m (after_entry m e) users arena (harmless_kept (touches place) m e (λ h. may h refl)) t

  step_outside : (x : Marked CellMark) → touches place x.entry.addr ≡ false → StepBy false x
  step_outside x outside = λ may. Tied_kept place m (after_entry m x.entry) users arena (harmless_kept (touches place) m x.entry (λ h. absurd (both_ways _ outside h))) t

  step : (x : Marked CellMark) → Tells m x.entry → MayAny place users x → Goes place (after_entry m x.entry) (after_any place users x) arena (says place x)
  step x tells = elim (cases_Bool (touches place x.entry.addr)) [
    | inl inside ↦ subst (λ (b : Bool). StepBy b x) (sym inside) (step_inside x.entry x.mark tells inside)
    | inr outside ↦ subst (λ (b : Bool). StepBy b x) (sym outside) (step_outside x outside)
  ]

pub run_is_legal : (place : ArenaPlace) (start : Memory) (trace : List (Marked CellMark)) → IsRun place start trace → IsLegal place.cells empty_arena (history place trace)
run_is_legal place start trace r =
    subst (λ (events : List CellEvent). IsLegal place.cells empty_arena events) (spelled_alone (after_any place) (says place) new_user trace)
    (legal_by_steps (MayHappen place.cells) after_event (Tied place) (λ (x : Marked CellMark). x.entry) (MayAny place) (after_any place) (λ users x. says place x)
    (λ m users arena x t tells may. step place m users arena t x tells may)
    trace start new_user empty_arena (start_tied place start r.start_ok) r.consistent (keeps_any place start trace r))
