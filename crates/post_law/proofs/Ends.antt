-- Whether an operation of a call to post is the call's last one.
use Rattle.std.proofs.Common.{◌≡◌, ℕ, ◌<◌, ◌==◌, ◌||◌, ◌&&◌, not, refl, arith, true, false, Bool, is_some}
use Rattle.std.proofs.lemmas.Bool.{eqb-true}
use Rattle.counted_ring.specs.declared.place.WqPlace.{WqPlace}
use Rattle.counted_ring.specs.Place.{is_send}
use Rattle.provider_post.specs.declared.call.Call.{Call}
use Rattle.provider_post.specs.Call.{is_last}

-- the operation between two states of a call was its last one
abbrev pub ends : WqPlace → Call → Call → Bool
ends place c next = is_last (is_send place) c next

never_none : (n : ℕ) → 0 < n → (n == 0) ≡ false
never_none n some = by (n == 0) refl
  where
    by : (b : Bool) → (n == 0) ≡ b → b ≡ false
    by true e = let none : n ≡ 0 = eqb-true n 0 e in absurd (omega (arith, none, some))
    by false e = refl

and_false : (b : Bool) → (b && false) ≡ false
and_false true = refl
and_false false = refl

-- nothing ends a call that is neither refused nor rung
pub ends_open : (place : WqPlace) (c next : Call) → c.recorded ≡ false → next.recorded ≡ false → is_some next.refused ≡ false → ends place c next ≡ false
ends_open place c next waits still more = rw (waits, still, more) refl

-- a refusal ends it where nothing was accepted
pub ends_refused : (place : WqPlace) (c next : Call) → c.recorded ≡ false → next.recorded ≡ false → is_some next.refused ≡ true → ends place c next ≡ (next.accepted == 0)
ends_refused place c next waits still refused = rw (waits, still, refused) refl

-- the record ends it where the queue has no register
pub ends_rung : (place : WqPlace) (c next : Call) → c.recorded ≡ false → next.recorded ≡ true → 0 < next.accepted → ends place c next ≡ not (is_send place)
ends_rung place c next waits rung some = rw (waits, rung, never_none next.accepted some, and_false (is_some next.refused)) (by (is_send place))
  where
    by : (send : Bool) → (not send || false) ≡ not send
    by true = refl
    by false = refl

-- the register ends it
pub ends_registered : (place : WqPlace) (c next : Call) → c.recorded ≡ true → ends place c next ≡ true
ends_registered place c next recorded = rw recorded refl
