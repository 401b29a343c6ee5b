-- From the rule of each actor to the whole trace, and back.
use Rattle.std.proofs.Common.{◌≡◌, ◌≢◌, ℕ, zero, suc, inl, inr, refl, sym, eqb, List}
use Rattle.std.proofs.lemmas.Bool.Decides.{eqb_tells}
use Rattle.bus_core.specs.Follow.{Follows}
use Rattle.bus_core.specs.Mark.{Marked}
use Rattle.bus_core.specs.Weave.{TellsApart}
use Rattle.bus_core.proofs.Weaving as weaving
use Rattle.verbs_types.specs.declared.declaration.Lines.{Lines}
use Rattle.object_places.specs.Objects.{Mark}
use Rattle.actor_rules.specs.Actors.{Actors, after, after_by}
use Rattle.actor_rules.specs.Roles.{Knows, part, May, MayAny, next}
use Rattle.actor_rules.specs.Run.{own}

apart : TellsApart eqb
apart a b = elim (eqb_tells a b) [ inl t ↦ inl t | inr t ↦ inr t ]

module _ (d : Lines) where
  -- an operation moves what its own actor knows, and nothing of another
  moves_by : (actor : ℕ) (w : Actors) (x : Marked Mark) → part actor (after_by d w actor x) ≡ next d actor (part actor w) x
  moves_by zero w x = refl
  moves_by (suc t) w x = elim (eqb_tells (suc t) (suc t)) [ inl same ↦ rw same.0 refl | inr differ ↦ absurd (differ.1 refl) ]

  stays_by : (actor k : ℕ) (w : Actors) (x : Marked Mark) → actor ≢ k → part k (after_by d w actor x) ≡ part k w
  stays_by zero zero w x differ = absurd (differ refl)
  stays_by zero (suc t) w x differ = refl
  stays_by (suc t) zero w x differ = refl
  stays_by (suc t) (suc k) w x differ = elim (eqb_tells (suc k) (suc t)) [ inl same ↦ absurd (differ (sym same.1)) | inr other ↦ rw other.0 refl ]

  -- each actor's own list keeps its rule, so each operation of the trace keeps its actor's
  pub all_keep : (trace : List (Marked Mark)) (w : Actors) → ((actor : ℕ) → Follows (May d actor) (next d actor) (part actor w) (own actor trace)) → Follows (MayAny d) (after d) w trace
  all_keep trace w each = weaving.woven eqb apart (λ x. x.entry.actor) Knows part (May d) (next d) (after d) (λ v x. moves_by x.entry.actor v x) (λ k v x differ. stays_by x.entry.actor k v x differ) trace w each

  -- and back
  pub own_keep : (trace : List (Marked Mark)) (w : Actors) → Follows (MayAny d) (after d) w trace → (actor : ℕ) → Follows (May d actor) (next d actor) (part actor w) (own actor trace)
  own_keep trace w keeps actor = weaving.unwoven eqb apart (λ x. x.entry.actor) Knows part (May d) (next d) (after d) (λ v x. moves_by x.entry.actor v x) (λ k v x differ. stays_by x.entry.actor k v x differ) actor trace w keeps
