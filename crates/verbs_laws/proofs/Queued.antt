-- A send queue stays sane at each kind of entry.
use Rattle.std.proofs.Common.{◌≡◌, ℕ, ◌+◌, ◌-◌, ◌<◌, ◌≤◌, List, [], ◌∷◌, ◌++◌, length, sym, ◌∙◌, ap, subst, arith, length-append, append_assoc}
use Rattle.verbs_types.specs.declared.request.Item.{Item}
use Rattle.verbs_rules.specs.Rows.{rest_of}
use Rattle.verbs_rules.specs.OfOne.{WorkQueue, free_of}
use Rattle.verbs_rules.specs.Sane.{QueueSane, Climbs}
use Rattle.verbs_laws.proofs.Climbing.{climbs_length, climbs_more, climbs_push}

-- what is outstanding was taken or not
pub retired_low : (u : WorkQueue) (w : List ℕ) → QueueSane u w → u.retired ≤ u.taken
retired_low u w q = omega (arith, climbs_length u.retired u.taken (u.ends ++ w) q.under_way)

-- the polled ones and the waiting ones are within the queue's room
pub ends_fit : (u : WorkQueue) (w : List ℕ) → QueueSane u w → length u.ends + length w ≤ u.room
ends_fit u w q =
    let long : length (u.ends ++ w) ≡ length u.ends + length w = length-append u.ends w in
    omega (arith, climbs_length u.retired u.taken (u.ends ++ w) q.under_way, long, q.taken, q.outstanding)

-- so many more fit, told by what is retired or by what is free
pub fits_by_room : (u : WorkQueue) (w : List ℕ) (m : ℕ) → QueueSane u w → length u.posted + m - u.retired ≤ u.room → m ≤ free_of u
fits_by_room u w m q room = omega (arith, room, retired_low u w q, q.taken)

pub room_by_free : (u : WorkQueue) (w : List ℕ) (m : ℕ) → QueueSane u w → m ≤ free_of u → length u.posted + m - u.retired ≤ u.room
room_by_free u w m q fits = omega (arith, fits, q.outstanding, retired_low u w q, q.taken)

-- a queue is full with as many more as are free, and with no other number
pub free_by_full : (u : WorkQueue) (w : List ℕ) (pending : ℕ) → QueueSane u w → length u.posted + pending - u.retired ≡ u.room → pending ≡ free_of u
free_by_full u w pending q full = omega (arith, full, retired_low u w q, q.taken, q.outstanding)

pub full_by_free : (u : WorkQueue) (w : List ℕ) → QueueSane u w → length u.posted + free_of u - u.retired ≡ u.room
full_by_free u w q = omega (arith, retired_low u w q, q.taken, q.outstanding)

pub stays : (u : WorkQueue) (w w' : List ℕ) → w' ≡ w → QueueSane u w → QueueSane u w'
stays u w w' same q = subst (QueueSane u) (sym same) q

pub posts : (u : WorkQueue) (w : List ℕ) (items : List Item) → length u.posted + length items - u.retired ≤ u.room → QueueSane u w → QueueSane (record u { posted = u.posted ++ items }) w
posts u w items room q =
    let long : length (u.posted ++ items) ≡ length u.posted + length items = length-append u.posted items in record {
      taken = omega (arith, long, q.taken);
      outstanding = omega (arith, long, room);
      under_way = q.under_way;
    }

-- a poll took the first of those that waited
pub polls : (u : WorkQueue) (ns w w' : List ℕ) → w ≡ ns ++ w' → QueueSane u w → QueueSane (record u { ends = u.ends ++ ns }) w'
polls u ns w w' same q = record {
  taken = q.taken;
  outstanding = q.outstanding;
  under_way = subst (λ (ms : List ℕ). Climbs u.retired ms u.taken) (ap (λ ms. u.ends ++ ms) same ∙ sym (append_assoc u.ends ns w')) q.under_way;
}

first_climbs : (u : WorkQueue) (number : ℕ) (w : List ℕ) → u.ends ≡ number ∷ rest_of u.ends → QueueSane u w → Climbs u.retired (number ∷ rest_of u.ends ++ w) u.taken
first_climbs u number w first q = subst (λ (ns : List ℕ). Climbs u.retired (ns ++ w) u.taken) first q.under_way

pub retires : (u : WorkQueue) (number : ℕ) (w : List ℕ) → u.ends ≡ number ∷ rest_of u.ends → QueueSane u w → QueueSane (record u { ends = rest_of u.ends; retired = number }) w
retires u number w first q =
    let climbs = first_climbs u number w first q in record {
      taken = q.taken;
      outstanding = omega (arith, q.outstanding, climbs.0);
      under_way = climbs.1;
    }

-- a retirement goes on from where the queue was
pub retired_up : (u : WorkQueue) (number : ℕ) (w : List ℕ) → u.ends ≡ number ∷ rest_of u.ends → QueueSane u w → u.retired ≤ number
retired_up u number w first q = omega (arith, (first_climbs u number w first q).0)

-- the adapter took the next request, and nothing waits for it
pub takes : (u : WorkQueue) (w w' : List ℕ) → w' ≡ w → u.taken < length u.posted → QueueSane u w → QueueSane (record u { taken = u.taken + 1 }) w'
takes u w w' same low q = record {
  taken = omega (arith, low);
  outstanding = q.outstanding;
  under_way = climbs_more u.retired u.taken (u.taken + 1) (u.ends ++ w') (omega arith) (subst (λ (ns : List ℕ). Climbs u.retired (u.ends ++ ns) u.taken) (sym same) q.under_way);
}

-- or its completion waits, after all others
pub takes_wanted : (u : WorkQueue) (w w' : List ℕ) → w' ≡ w ++ (u.taken + 1) ∷ [] → u.taken < length u.posted → QueueSane u w → QueueSane (record u { taken = u.taken + 1 }) w'
takes_wanted u w w' more low q = record {
  taken = omega (arith, low);
  outstanding = q.outstanding;
  under_way = subst (λ (ns : List ℕ). Climbs u.retired ns (u.taken + 1)) (append_assoc u.ends w ((u.taken + 1) ∷ []) ∙ ap (λ ns. u.ends ++ ns) (sym more)) (climbs_push u.retired u.taken (u.taken + 1) (u.ends ++ w) (omega arith) q.under_way);
}
