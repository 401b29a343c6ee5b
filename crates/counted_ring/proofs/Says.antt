-- Where the operations of the three users are, and which events each can say.
use Rattle.std.proofs.Common.{◌≡◌, ℕ, ◌+◌, refl, true, [], ◌∷◌, ◌++◌, length, Option, Some, None}
use Rattle.std.proofs.lemmas.Bool.{cond_both}
use Rattle.bus_core.specs.declared.operation.BusEntry.{BusEntry}
use Rattle.bus_core.specs.Operation.{loaded, stored}
use Rattle.bus_core.specs.Trace.{Memory}
use Rattle.counted_ring.specs.declared.place.WqPlace.{WqPlace}
use Rattle.counted_ring.specs.Place.{IsPlace, is_send, touches}
use Rattle.counted_ring.specs.Queue.{Queue, WqEvent, Wrote, Full, Rang, Named, Found, Retired, Counted, Took}
use Rattle.counted_ring.specs.Mark.{WqMark, Post, Ring, Lookup, Count, Retire, Look, Record, Read, Foreign}
use Rattle.counted_ring.specs.Poster.{Poster, Stage, Ready, Storing, Naming, Counting, Ringing, has_room, MayPostAt, MayRingAt, IsRegisterStore, post_says_at, ring_says_at}
use Rattle.counted_ring.specs.PosterView.{MayBring, brought}
use Rattle.counted_ring.specs.Retirer.{Asked, Retirer, MayCountFor, count_says_for}
use Rattle.counted_ring.specs.RetirerView.{MayServe, served}
use Rattle.counted_ring.specs.Device.{WqReader, IsLook, is_whole}
use Rattle.counted_ring.specs.DeviceView.{MayDeliver, delivered}
use Rattle.counted_ring.proofs.Slots.{touches_word, touches_id, touches_head, touches_tail, touches_record, touches_register}
use Rattle.counted_ring.proofs.Tied.{Tied, StageFits, AskedFits}

module _ (place : WqPlace) (ok : IsPlace place) (e : BusEntry) where
  abbrev IsInside : Type 0
  IsInside = touches place e.addr ≡ true

  post_inside : (m : Memory) (q : Queue) (p : Poster) (stage : Stage) → StageFits place m q stage → MayPostAt place p stage e → IsInside
  post_inside m q p Ready fits may = rw may.load.at_address (touches_tail place)
  post_inside m q p (Storing words) fits may = rw may.at_address (touches_word place ok p.index (length words))
  post_inside m q p (Naming words) fits may = rw may.at_address (touches_id place ok p.index)
  post_inside m q p (Counting words id) fits may = rw may.at_address (touches_head place ok fits.2.send p.index)
  post_inside m q p Ringing fits may = absurd may

  press_inside : (reg : Option ℕ) (value : ℕ) → place.reg ≡ reg → IsRegisterStore reg value e → IsInside
  press_inside None value same may = absurd may
  press_inside (Some a) value same may = rw may.at_address (touches_register place a same)

  ring_inside : (p : Poster) (stage : Stage) → MayRingAt place p stage e → IsInside
  ring_inside p Ready may = rw may.at_address (touches_record place)
  ring_inside p (Storing words) may = absurd may
  ring_inside p (Naming words) may = absurd may
  ring_inside p (Counting words id) may = absurd may
  ring_inside p Ringing may = press_inside place.reg p.first refl may

  pub bring_inside : (m : Memory) (p : Poster) (r : Retirer) (d : WqReader) (q : Queue) (mark : WqMark) → Tied place m p r d q → MayBring place p mark e → IsInside
  bring_inside m p r d q Post t may = post_inside m q p p.stage t.poster.stage may
  bring_inside m p r d q Ring t may = ring_inside p p.stage may
  bring_inside m p r d q (Lookup counter from) t may = absurd may
  bring_inside m p r d q Count t may = absurd may
  bring_inside m p r d q (Retire end) t may = absurd may
  bring_inside m p r d q Look t may = absurd may
  bring_inside m p r d q (Record passes) t may = absurd may
  bring_inside m p r d q Read t may = absurd may
  bring_inside m p r d q Foreign t may = absurd may

  count_inside : (q : Queue) (asked : Option Asked) → AskedFits place q asked → MayCountFor place asked e → IsInside
  count_inside q None fits may = absurd may
  count_inside q (Some a) fits may = rw may.at_address (touches_head place ok fits.send a.counter)

  pub serve_inside : (m : Memory) (p : Poster) (r : Retirer) (d : WqReader) (q : Queue) (mark : WqMark) → Tied place m p r d q → MayServe place r mark e → IsInside
  serve_inside m p r d q (Lookup counter from) t may = rw may.load.at_address (touches_id place ok counter)
  serve_inside m p r d q Count t may = count_inside q r.asked t.retirer.asked may
  serve_inside m p r d q (Retire end) t may = rw may.store.at_address (touches_tail place)
  serve_inside m p r d q Post t may = absurd may
  serve_inside m p r d q Ring t may = absurd may
  serve_inside m p r d q Look t may = absurd may
  serve_inside m p r d q (Record passes) t may = absurd may
  serve_inside m p r d q Read t may = absurd may
  serve_inside m p r d q Foreign t may = absurd may

  look_inside : (reg : Option ℕ) → place.reg ≡ reg → IsLook reg e → IsInside
  look_inside None same may = absurd may
  look_inside (Some a) same may = rw may.at_address (touches_register place a same)

  pub deliver_inside : (d : WqReader) (mark : WqMark) → MayDeliver place d mark e → IsInside
  deliver_inside d Look may = look_inside place.reg refl may.load
  deliver_inside d (Record passes) may = rw may.load.at_address (touches_record place)
  deliver_inside d Read may = rw may.load.at_address (touches_word place ok d.next (length d.words))
  deliver_inside d Post may = absurd may
  deliver_inside d Ring may = absurd may
  deliver_inside d (Lookup counter from) may = absurd may
  deliver_inside d Count may = absurd may
  deliver_inside d (Retire end) may = absurd may
  deliver_inside d Foreign may = absurd may

-- what a poster can say
abbrev pub IsBringing : Option WqEvent → Type 0
IsBringing None = Unit {0}
IsBringing (Some (Wrote words id)) = Unit {0}
IsBringing (Some (Full head tail)) = Unit {0}
IsBringing (Some Rang) = Unit {0}
IsBringing (Some _) = ⊥

post_says : (place : WqPlace) (p : Poster) (stage : Stage) (e : BusEntry) → IsBringing (post_says_at place p stage e)
post_says place p Ready e = cond_both (has_room place p e) None (Some (Full p.count (loaded e))) IsBringing (λ t. tt) (λ t. tt)
post_says place p (Storing words) e = tt
post_says place p (Naming words) e = cond_both (is_send place) None (Some (Wrote words (stored e))) IsBringing (λ t. tt) (λ t. tt)
post_says place p (Counting words id) e = tt
post_says place p Ringing e = tt

ring_says : (stage : Stage) → IsBringing (ring_says_at stage)
ring_says Ready = tt
ring_says (Storing words) = tt
ring_says (Naming words) = tt
ring_says (Counting words id) = tt
ring_says Ringing = tt

pub brought_says : (place : WqPlace) (p : Poster) (mark : WqMark) (e : BusEntry) → IsBringing (brought place p mark e)
brought_says place p Post e = post_says place p p.stage e
brought_says place p Ring e = ring_says p.stage
brought_says place p (Lookup counter from) e = tt
brought_says place p Count e = tt
brought_says place p (Retire end) e = tt
brought_says place p Look e = tt
brought_says place p (Record passes) e = tt
brought_says place p Read e = tt
brought_says place p Foreign e = tt

-- what a retirer can say
abbrev pub IsServing : Option WqEvent → Type 0
IsServing None = Unit {0}
IsServing (Some (Named counter id)) = Unit {0}
IsServing (Some (Found counter id end)) = Unit {0}
IsServing (Some (Retired end)) = Unit {0}
IsServing (Some _) = ⊥

count_says : (asked : Option Asked) (e : BusEntry) → IsServing (count_says_for asked e)
count_says None e = tt
count_says (Some a) e = tt

pub served_says : (place : WqPlace) (r : Retirer) (mark : WqMark) (e : BusEntry) → IsServing (served place r mark e)
served_says place r (Lookup counter from) e = cond_both (is_send place) (Some (Named counter (loaded e))) (Some (Found counter (loaded e) (from + 1))) IsServing (λ t. tt) (λ t. tt)
served_says place r Count e = count_says r.asked e
served_says place r (Retire end) e = tt
served_says place r Post e = tt
served_says place r Ring e = tt
served_says place r Look e = tt
served_says place r (Record passes) e = tt
served_says place r Read e = tt
served_says place r Foreign e = tt

-- what a device can say
abbrev pub IsDelivering : Option WqEvent → Type 0
IsDelivering None = Unit {0}
IsDelivering (Some (Counted ready passes)) = Unit {0}
IsDelivering (Some (Took words)) = Unit {0}
IsDelivering (Some _) = ⊥

pub delivered_says : (place : WqPlace) (d : WqReader) (mark : WqMark) (e : BusEntry) → IsDelivering (delivered place d mark e)
delivered_says place d Look e = tt
delivered_says place d (Record passes) e = tt
delivered_says place d Read e = cond_both (is_whole place d.ready (d.words ++ loaded e ∷ [])) (Some (Took (d.words ++ loaded e ∷ []))) None IsDelivering (λ t. tt) (λ t. tt)
delivered_says place d Post e = tt
delivered_says place d Ring e = tt
delivered_says place d (Lookup counter from) e = tt
delivered_says place d Count e = tt
delivered_says place d (Retire end) e = tt
delivered_says place d Foreign e = tt
