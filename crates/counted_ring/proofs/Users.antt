-- The three users' own lists keep their rules, so the device's list and the host's do.
use Rattle.std.proofs.Common.{◌≡◌, ◌≢◌, ℕ, inl, inr, refl, ap, sym, subst, Bool, true, false, ◌&&◌, cond, List, [], ◌∷◌}
use Rattle.std.specs.Prelude.{filter}
use Rattle.bus_core.specs.declared.operation.BusEntry.{BusEntry}
use Rattle.bus_core.specs.Follow.{Follows}
use Rattle.bus_core.specs.Mark.{Marked}
use Rattle.bus_core.specs.Trace.{Memory}
use Rattle.bus_core.specs.Weave.{TellsApart}
use Rattle.bus_core.specs.TwoSides.{Device, Host, Bystander, is_party, IsRunOf, party, side}
use Rattle.bus_core.proofs.Following.{Follows_weaker}
use Rattle.bus_core.proofs.Lists.{filter-filter}
use Rattle.bus_core.proofs.Weaving.{woven}
use Rattle.counted_ring.specs.declared.place.WqPlace.{WqPlace}
use Rattle.counted_ring.specs.Place.{touches}
use Rattle.counted_ring.specs.Mark.{WqMark, Post, Ring, Lookup, Count, Retire, Look, Record, Read, Foreign, role_of}
use Rattle.counted_ring.specs.Poster.{Poster}
use Rattle.counted_ring.specs.PosterView.{MayBring, after_bring}
use Rattle.counted_ring.specs.Ends.{Finder, MayFind, after_find}
use Rattle.counted_ring.specs.Device.{WqReader}
use Rattle.counted_ring.specs.DeviceView.{MayDeliver, after_deliver}
use Rattle.counted_ring.specs.Law.{QueueHost, MayUse, after_use, queue_object, is_posters, is_retirers, is_devices, of_user, fresh_host, fresh_device, IsRun}

-- of the host's two users the poster is the first
abbrev is_same : Bool → Bool → Bool
is_same true true = true
is_same true false = false
is_same false true = false
is_same false false = true

tells : TellsApart is_same
tells true true = inl (refl, refl)
tells true false = inr (refl, λ h. cc)
tells false true = inr (refl, λ h. cc)
tells false false = inl (refl, refl)

abbrev Part : Bool → Type 0
Part true = Poster
Part false = Finder

abbrev part : (k : Bool) → QueueHost → Part k
part true h = h.poster
part false h = h.finder

filter_same : {X : Type 0} (p q : X → Bool) → ((x : X) → p x ≡ q x) → (xs : List X) → filter p xs ≡ filter q xs
filter_same p q same [] = refl
filter_same p q same (x ∷ xs) = rw (same x) (ap (λ ys. cond (q x) (x ∷ ys) ys) (filter_same p q same xs))

module _ (place : WqPlace) where
  abbrev may_part : (k : Bool) → Part k → Marked WqMark → Type 0
  may_part true p x = MayBring place p x.mark x.entry
  may_part false f x = MayFind place f x.mark x.entry

  abbrev next_part : (k : Bool) → Part k → Marked WqMark → Part k
  next_part true p x = after_bring place p x.mark x.entry
  next_part false f x = after_find place f x.mark x.entry

  abbrev of_mark : (mark : WqMark) → BusEntry → Marked WqMark
  of_mark mark e = record { entry = e; mark = mark }

  moves : (h : QueueHost) (mark : WqMark) (e : BusEntry) → part (is_posters mark) (after_use place h mark e) ≡ next_part (is_posters mark) (part (is_posters mark) h) (of_mark mark e)
  moves h Post e = refl
  moves h Ring e = refl
  moves h (Lookup counter from) e = refl
  moves h Count e = refl
  moves h (Retire end) e = refl
  moves h Look e = refl
  moves h (Record passes) e = refl
  moves h Read e = refl
  moves h Foreign e = refl

  stays : (k : Bool) (h : QueueHost) (mark : WqMark) (e : BusEntry) → is_posters mark ≢ k → part k (after_use place h mark e) ≡ part k h
  stays true h Post e other = absurd (other refl)
  stays true h Ring e other = absurd (other refl)
  stays true h (Lookup counter from) e other = refl
  stays true h Count e other = refl
  stays true h (Retire end) e other = refl
  stays true h Look e other = refl
  stays true h (Record passes) e other = refl
  stays true h Read e other = refl
  stays true h Foreign e other = refl
  stays false h Post e other = refl
  stays false h Ring e other = refl
  stays false h (Lookup counter from) e other = absurd (other refl)
  stays false h Count e other = absurd (other refl)
  stays false h (Retire end) e other = absurd (other refl)
  stays false h Look e other = absurd (other refl)
  stays false h (Record passes) e other = absurd (other refl)
  stays false h Read e other = absurd (other refl)
  stays false h Foreign e other = absurd (other refl)

  uses : (h : QueueHost) (mark : WqMark) (e : BusEntry) → may_part (is_posters mark) (part (is_posters mark) h) (of_mark mark e) → MayUse place h mark e
  uses h Post e may = may
  uses h Ring e may = may
  uses h (Lookup counter from) e may = may
  uses h Count e may = may
  uses h (Retire end) e may = may
  uses h Look e may = may
  uses h (Record passes) e may = may
  uses h Read e may = may
  uses h Foreign e may = may

  -- the two users' operations are the host's
  abbrev of_part : Bool → WqMark → Bool
  of_part true = is_posters
  of_part false = is_retirers

  sorted : (k inside : Bool) (mark : WqMark) → (is_party (cond inside (role_of mark) Bystander) Host && is_same (is_posters mark) k) ≡ (inside && of_part k mark)
  sorted k false mark = refl
  sorted true true Post = refl
  sorted true true Ring = refl
  sorted true true (Lookup counter from) = refl
  sorted true true Count = refl
  sorted true true (Retire end) = refl
  sorted true true Look = refl
  sorted true true (Record passes) = refl
  sorted true true Read = refl
  sorted true true Foreign = refl
  sorted false true Post = refl
  sorted false true Ring = refl
  sorted false true (Lookup counter from) = refl
  sorted false true Count = refl
  sorted false true (Retire end) = refl
  sorted false true Look = refl
  sorted false true (Record passes) = refl
  sorted false true Read = refl
  sorted false true Foreign = refl

  devices : (inside : Bool) (mark : WqMark) → (inside && is_devices mark) ≡ is_party (cond inside (role_of mark) Bystander) Device
  devices false mark = refl
  devices true Post = refl
  devices true Ring = refl
  devices true (Lookup counter from) = refl
  devices true Count = refl
  devices true (Retire end) = refl
  devices true Look = refl
  devices true (Record passes) = refl
  devices true Read = refl
  devices true Foreign = refl

  host_keeps : (h : QueueHost) (trace : List (Marked WqMark)) → ((k : Bool) → Follows (may_part k) (next_part k) (part k h) (of_user place (of_part k) trace)) →
      Follows (λ (s : QueueHost) (x : Marked WqMark). MayUse place s x.mark x.entry) (λ (s : QueueHost) (x : Marked WqMark). after_use place s x.mark x.entry) h (side (queue_object place) Host trace)
  host_keeps h trace own =
      let hosts = side (queue_object place) Host trace in
      let who : Marked WqMark → Bool = λ x. is_posters x.mark in
      let after : QueueHost → Marked WqMark → QueueHost = λ s x. after_use place s x.mark x.entry in
      let lists = λ (k : Bool). subst (Follows (may_part k) (next_part k) (part k h))
      (sym (filter-filter (λ x. is_same (who x) k) (λ x. is_party (party (queue_object place) x) Host) (λ x. touches place x.entry.addr && of_part k x.mark) (λ x. sorted k (touches place x.entry.addr) x.mark) trace)) (own k) in
      Follows_weaker (λ (s : QueueHost) (x : Marked WqMark). may_part (who x) (part (who x) s) x) (λ (s : QueueHost) (x : Marked WqMark). MayUse place s x.mark x.entry) after (λ s x may. uses s x.mark x.entry may) h hosts
      (woven is_same tells who Part part may_part next_part after (λ s x. moves s x.mark x.entry) (λ k s x other. stays k s x.mark x.entry other) hosts h lists)

  device_keeps : (d : WqReader) (trace : List (Marked WqMark)) → Follows (λ (s : WqReader) (x : Marked WqMark). MayDeliver place s x.mark x.entry) (λ (s : WqReader) (x : Marked WqMark). after_deliver place s x.mark x.entry) d (of_user place is_devices trace) →
      Follows (λ (s : WqReader) (x : Marked WqMark). MayDeliver place s x.mark x.entry) (λ (s : WqReader) (x : Marked WqMark). after_deliver place s x.mark x.entry) d (side (queue_object place) Device trace)
  device_keeps d trace own = subst (Follows (λ (s : WqReader) (x : Marked WqMark). MayDeliver place s x.mark x.entry) (λ (s : WqReader) (x : Marked WqMark). after_deliver place s x.mark x.entry) d)
      (filter_same (λ x. touches place x.entry.addr && is_devices x.mark) (λ x. is_party (party (queue_object place) x) Device) (λ x. devices (touches place x.entry.addr) x.mark) trace) own

own : {place : WqPlace} {index : ℕ} {start : Memory} {trace : List (Marked WqMark)} → IsRun place index start trace → (k : Bool) → Follows (may_part place k) (next_part place k) (part k (fresh_host index)) (of_user place (of_part place k) trace)
own r true = r.poster
own r false = r.retirer

pub run_of_users : (place : WqPlace) (index : ℕ) (start : Memory) (trace : List (Marked WqMark)) → IsRun place index start trace → IsRunOf (queue_object place) (fresh_device index) (fresh_host index) start trace
run_of_users place index start trace r = record {
  consistent = r.consistent;
  device = device_keeps place (fresh_device index) trace r.device;
  host = host_keeps place (fresh_host index) trace (own r);
  others = r.others;
}
