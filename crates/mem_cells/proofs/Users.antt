-- Each user's own list keeps its rule, so each operation of the trace keeps the rule of whoever makes it.
use Rattle.std.proofs.Common.{◌≡◌, ◌≢◌, ℕ, inl, inr, refl, ap, Bool, true, false, List, Option, Some, None}
use Rattle.std.specs.Prelude.{filter}
use Rattle.std.proofs.lemmas.Bool.Decides.{eqb_tells}
use Rattle.bus_core.specs.Follow.{Follows}
use Rattle.bus_core.specs.Mark.{Marked}
use Rattle.bus_core.specs.Trace.{Memory}
use Rattle.bus_core.specs.Weave.{TellsApart}
use Rattle.bus_core.proofs.Following.{Follows_All}
use Rattle.bus_core.proofs.Weaving.{woven}
use Rattle.mem_cells.specs.Mark.{CellMark}
use Rattle.mem_cells.specs.Place.{ArenaPlace}
use Rattle.mem_cells.specs.User.{User, new_user, MayUse, after_use}
use Rattle.mem_cells.specs.Law.{user_of, is_of, IsHarmless, IsRun}
use Rattle.mem_cells.proofs.Words.{put_here, put_there}
use Rattle.mem_cells.proofs.UserStep.{users_after}

-- whoever makes an operation is a user, by its actor's number, or none
abbrev is_same : Option ℕ → Option ℕ → Bool
is_same who (Some actor) = is_of actor who
is_same None None = true
is_same (Some user) None = false

tells : TellsApart is_same
tells None None = inl (refl, refl)
tells None (Some b) = inr (refl, λ h. cc)
tells (Some a) None = inr (refl, λ h. cc)
tells (Some a) (Some b) = elim (eqb_tells a b) [ inl t ↦ inl (t.0, ap Some t.1) | inr t ↦ inr (t.0, λ h. t.1 (cc)) ]

abbrev pub Part : Option ℕ → Type 0
Part None = Unit {0}
Part (Some actor) = User

abbrev pub part : (k : Option ℕ) → (ℕ → User) → Part k
part None users = tt
part (Some actor) users = users actor

abbrev next_part : (k : Option ℕ) → Part k → Marked CellMark → Part k
next_part None s x = s
next_part (Some actor) s x = after_use s x.mark

abbrev pub after_by : Option ℕ → (ℕ → User) → CellMark → ℕ → User
after_by None users mark = users
after_by (Some actor) users mark = users_after actor mark users

moves : (who : Option ℕ) (users : ℕ → User) (x : Marked CellMark) → part who (after_by who users x.mark) ≡ next_part who (part who users) x
moves None users x = refl
moves (Some actor) users x = put_here actor actor (after_use (users actor) x.mark) users refl

stays : (who k : Option ℕ) (users : ℕ → User) (x : Marked CellMark) → who ≢ k → part k (after_by who users x.mark) ≡ part k users
stays None None users x other = refl
stays None (Some k) users x other = refl
stays (Some actor) None users x other = refl
stays (Some actor) (Some k) users x other = put_there actor k (after_use (users actor) x.mark) users (λ same. other (ap Some same))

module _ (place : ArenaPlace) where
  abbrev pub may_part : (k : Option ℕ) → Part k → Marked CellMark → Type 0
  may_part None s x = IsHarmless place x
  may_part (Some actor) s x = MayUse place s x.mark x.entry

  -- the rule of whoever makes an operation
  abbrev pub MayAny : (ℕ → User) → Marked CellMark → Type 0
  MayAny users x = may_part (user_of place x) (part (user_of place x) users) x

  -- the users after it
  abbrev pub after_any : (ℕ → User) → Marked CellMark → ℕ → User
  after_any users x = after_by (user_of place x) users x.mark

  own : (start : Memory) (trace : List (Marked CellMark)) → IsRun place start trace → (k : Option ℕ) → Follows (may_part k) (next_part k) (part k new_user) (filter (λ x. is_same (user_of place x) k) trace)
  own start trace r None = Follows_All (IsHarmless place) (λ x. is_same (user_of place x) None) trace r.others
  own start trace r (Some actor) = r.users actor

  pub keeps_any : (start : Memory) (trace : List (Marked CellMark)) → IsRun place start trace → Follows MayAny after_any new_user trace
  keeps_any start trace r =
      woven is_same tells (user_of place) Part part may_part next_part after_any (λ users x. moves (user_of place x) users x) (λ k users x other. stays (user_of place x) k users x other) trace new_user (own start trace r)
