-- The three users' own lists keep their rules, so each operation of a trace keeps that of whoever makes it.
use Rattle.std.proofs.Common.{◌≡◌, ◌≢◌, ℕ, inl, inr, refl, List}
use Rattle.bus_core.specs.Follow.{Follows}
use Rattle.bus_core.specs.Mark.{Marked}
use Rattle.bus_core.specs.Trace.{Memory}
use Rattle.bus_core.specs.Weave.{TellsApart}
use Rattle.bus_core.proofs.Following.{Follows_All}
use Rattle.bus_core.proofs.Weaving.{woven}
use Rattle.srq_list.specs.declared.place.SrqPlace.{SrqPlace}
use Rattle.srq_list.specs.Mark.{SrqMark, User, Posting, Freeing, Taking, Watching, is_user}
use Rattle.srq_list.specs.Poster.{Poster, MayPost, after_post}
use Rattle.srq_list.specs.Freer.{Freer, MayServe, after_serve}
use Rattle.srq_list.specs.Device.{Taker, MayTakeBy, after_take}
use Rattle.srq_list.specs.Law.{Users, maker, of_user, IsHarmless, fresh_users, after_by, after_any, IsRun}

tells : TellsApart is_user
tells Posting Posting = inl (refl, refl)
tells Posting Freeing = inr (refl, λ h. cc)
tells Posting Taking = inr (refl, λ h. cc)
tells Posting Watching = inr (refl, λ h. cc)
tells Freeing Posting = inr (refl, λ h. cc)
tells Freeing Freeing = inl (refl, refl)
tells Freeing Taking = inr (refl, λ h. cc)
tells Freeing Watching = inr (refl, λ h. cc)
tells Taking Posting = inr (refl, λ h. cc)
tells Taking Freeing = inr (refl, λ h. cc)
tells Taking Taking = inl (refl, refl)
tells Taking Watching = inr (refl, λ h. cc)
tells Watching Posting = inr (refl, λ h. cc)
tells Watching Freeing = inr (refl, λ h. cc)
tells Watching Taking = inr (refl, λ h. cc)
tells Watching Watching = inl (refl, refl)

-- each user's part of what the users know
abbrev Part : User → Type 0
Part Posting = Poster
Part Freeing = Freer
Part Taking = Taker
Part Watching = Unit {0}

abbrev part : (k : User) → Users → Part k
part Posting u = u.poster
part Freeing u = u.freer
part Taking u = u.taker
part Watching u = tt

module _ (place : SrqPlace) (start : ℕ) where
  abbrev pub may_part : (k : User) → Part k → Marked SrqMark → Type 0
  may_part Posting p x = MayPost place start p x.mark x.entry
  may_part Freeing f x = MayServe place f x.mark x.entry
  may_part Taking d x = MayTakeBy place d x.mark x.entry
  may_part Watching u x = IsHarmless place x

  abbrev next_part : (k : User) → Part k → Marked SrqMark → Part k
  next_part Posting p x = after_post place p x.mark x.entry
  next_part Freeing f x = after_serve f x.mark
  next_part Taking d x = after_take place start d x.mark x.entry
  next_part Watching u x = u

  -- the rule of whoever makes an operation
  abbrev pub may_by : User → Users → Marked SrqMark → Type 0
  may_by k u x = may_part k (part k u) x

  moves : (k : User) (u : Users) (x : Marked SrqMark) → part k (after_by place start k u x) ≡ next_part k (part k u) x
  moves Posting u x = refl
  moves Freeing u x = refl
  moves Taking u x = refl
  moves Watching u x = refl

  stays : (j k : User) (u : Users) (x : Marked SrqMark) → j ≢ k → part k (after_by place start j u x) ≡ part k u
  stays Posting Posting u x other = absurd (other refl)
  stays Freeing Posting u x other = refl
  stays Taking Posting u x other = refl
  stays Watching Posting u x other = refl
  stays Posting Freeing u x other = refl
  stays Freeing Freeing u x other = absurd (other refl)
  stays Taking Freeing u x other = refl
  stays Watching Freeing u x other = refl
  stays Posting Taking u x other = refl
  stays Freeing Taking u x other = refl
  stays Taking Taking u x other = absurd (other refl)
  stays Watching Taking u x other = refl
  stays j Watching u x other = refl

  own : (m : Memory) (trace : List (Marked SrqMark)) → IsRun place start m trace → (k : User) → Follows (may_part k) (next_part k) (part k (fresh_users place)) (of_user place k trace)
  own m trace r Posting = r.poster
  own m trace r Freeing = r.freer
  own m trace r Taking = r.device
  own m trace r Watching = Follows_All (IsHarmless place) (λ x. is_user (maker place x) Watching) trace r.others

  pub keeps_all : (m : Memory) (trace : List (Marked SrqMark)) → IsRun place start m trace → Follows (λ (u : Users) (x : Marked SrqMark). may_by (maker place x) u x) (after_any place start) (fresh_users place) trace
  keeps_all m trace r = woven is_user tells (maker place) Part part may_part next_part (after_any place start) (λ u x. moves (maker place x) u x) (λ k u x other. stays (maker place x) k u x other) trace (fresh_users place) (own m trace r)
