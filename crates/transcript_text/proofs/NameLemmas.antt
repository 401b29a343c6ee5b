-- The name of an actor stands at its place among those of all.
use Rattle.std.proofs.Common.{◌≡◌, ℕ, zero, suc, List, [], get_or, refl, sym, ◌∙◌, inl, inr, add-one, Option, None, Some, unwrap_or}
use Rattle.std.specs.Option.{option_map_or}
use Rattle.std.specs.List.{slice_get}
use Rattle.std.proofs.lemmas.Bool.Decides.{eqb_tells}
use Rattle.std.proofs.lemmas.Option.{unwrap_or-slice_get}
use Rattle.verbs_types.specs.declared.declaration.Lines.{Lines}
use Rattle.verbs_types.specs.declared.entry.TheConstants.{CONTROL}
use Rattle.transcript_text.specs.History.{actor_name}
use Rattle.transcript_text.specs.ActorNames.{actor_names, place_of}

unwrapped : (name : Option (List ℕ)) → option_map_or (λ (n : List ℕ). n) name [] ≡ unwrap_or name []
unwrapped None = refl
unwrapped (Some n) = refl

pub name_found : (d : Lines) (actor : ℕ) → get_or (actor_names d) (place_of actor) [] ≡ actor_name d actor
name_found d zero = refl
name_found d (suc t) = elim (eqb_tells (suc t) CONTROL) [
  | inl h ↦ rw h.0 refl
  | inr h ↦ rw (h.0, add-one (suc t)) (sym (unwrapped (slice_get d.threads t) ∙ unwrap_or-slice_get d.threads t []))
]
