-- Where queues lie, after one of them moved.
use Rattle.std.proofs.Common.{◌≡◌, ℕ, zero, suc, ◌<◌, refl, sym, ap, ◌∙◌, subst, arith, List, [], ◌∷◌, length, map, All, slice_get, slice_set, get_or, true, Option, Some, unwrap_or}
use Rattle.std.proofs.lemmas.List.Elements.{All-head, All-tail}
use Rattle.std.proofs.lemmas.Option.{slice_get-get_or}
use Rattle.counted_ring.specs.declared.place.WqPlace.{WqPlace}
use Rattle.provider_poll.specs.SendQueue.{SendView}
use Rattle.bus_core.specs.Port.{Port}
use Rattle.counted_ring.specs.Turn.{CanServe}
use Rattle.object_places.specs.Places.{IsWithin}
use Rattle.provider_poll.specs.Stores.{may_store_in}
use Rattle.provider_poll.specs.Turns.{CanServeEach, InQueue}

abbrev place_of : SendView → WqPlace
place_of q = q.place

-- a queue that stays as it was, as far as f tells
pub stays : {B : Type 0} (f : SendView → B) (qs : List SendView) (i : ℕ) (before after : SendView) → slice_get qs i ≡ Some before → f after ≡ f before → map f (slice_set qs i after) ≡ map f qs
stays f [] i before after found same = refl
stays f (q ∷ qs) zero before after found same = ap (λ p. p ∷ map f qs) (same ∙ ap (λ (o : Option SendView). f (unwrap_or o q)) (sym found))
stays f (q ∷ qs) (suc i) before after found same = ap (λ ps. f q ∷ ps) (stays f qs i before after found same)

-- what all places have, one has
all_at : (P : WqPlace → Type 0) (qs : List SendView) (i : ℕ) (d : SendView) → i < length qs → All P (map place_of qs) → P (place_of (get_or qs i d))
all_at P [] i d inside all = absurd (omega (arith, inside))
all_at P (q ∷ qs) zero d inside all = All-head P (place_of q) (map place_of qs) all
all_at P (q ∷ qs) (suc i) d inside all = all_at P qs i d (omega (arith, inside)) (All-tail P (place_of q) (map place_of qs) all)

module _ (qs : List SendView) (i : ℕ) (q : SendView) (inside : i < length qs) (is : q ≡ get_or qs i q) where
  -- the queue at a place
  pub found_at : slice_get qs i ≡ Some q
  found_at = slice_get-get_or qs i q inside ∙ ap (λ q. Some q) (sym is)

  -- a port through which each of these queues can be served serves it
  pub serves_at : {Bus : Type 0} (port : Port Bus) → CanServeEach qs port → CanServe q.place port
  serves_at port can =
      let within = all_at (IsWithin port.words) qs i q inside can.words in
      subst (λ (q : SendView). CanServe q.place port) (sym is) (record { room = can.room; words = within.record_word; register = within.register })

-- one of them went on, and the others are as they were
pub goes_on : (qs now : List SendView) (i : ℕ) (before after : SendView) → qs ≡ now → slice_get qs i ≡ Some before → InQueue now (slice_set qs i after) i before after
goes_on qs now i before after same found = subst (λ (now : List SendView). InQueue now (slice_set qs i after) i before after) same (record { found = found; queues = refl })

-- an end that may be stored is of one of the queues
pub stored_within : (qs : List SendView) (i end : ℕ) → may_store_in (slice_get qs i) end ≡ true → i < length qs
stored_within [] i end may = absurd cc
stored_within (q ∷ qs) zero end may = omega arith
stored_within (q ∷ qs) (suc i) end may = let inside = stored_within qs i end may in omega (arith, inside)
