-- Where the operations of the three users are, and which events each can say.
use Rattle.std.proofs.Common.{◌≡◌, ℕ, ◌+◌, true, [], ◌∷◌, ◌++◌, length, eqb, Option, Some, None}
use Rattle.std.proofs.lemmas.Bool.{cond_both}
use Rattle.bus_core.specs.declared.operation.BusEntry.{BusEntry}
use Rattle.bus_core.specs.Operation.{loaded}
use Rattle.bus_core.specs.Trace.{Memory}
use Rattle.srq_list.specs.declared.place.SrqPlace.{SrqPlace}
use Rattle.srq_list.specs.Place.{IsPlace, entry_words, touches}
use Rattle.srq_list.specs.Queue.{SharedQueue, SrqEvent, Began, Full, Wrote, Rang, Found, Freed, Showed, NoneThere, Took}
use Rattle.srq_list.specs.Mark.{SrqMark, Begin, Fill, Ring, Lookup, Link, Free, Take, Foreign}
use Rattle.srq_list.specs.Poster.{Poster, Stage, Ready, Following, Storing, Naming, MayFill, MayPost, fill_says, post_says}
use Rattle.srq_list.specs.Freer.{Freer, MayServe, serve_says}
use Rattle.srq_list.specs.Device.{Taker, Progress, Asking, Fetching, Reading, MayTakeAt, MayTakeBy, ready, take_says_at, take_says}
use Rattle.srq_list.proofs.Slots.{touches_next, touches_entry, touches_id, touches_record, touches_tail}
use Rattle.srq_list.proofs.Tied.{Tied, StageFits, ProgressFits}

module _ (place : SrqPlace) (ok : IsPlace place) (e : BusEntry) where
  abbrev IsInside : Type 0
  IsInside = touches place e.addr ≡ true

  fill_inside : (m : Memory) (q : SharedQueue) (p : Poster) (stage : Stage) → StageFits place m q stage → MayFill place p stage e → IsInside
  fill_inside m q p Ready fits may = absurd may
  fill_inside m q p Following fits may = rw may.at_address (touches_next place ok p.head)
  fill_inside m q p (Storing next words) fits may = rw may.at_address (touches_entry place ok p.head (length words) fits.1)
  fill_inside m q p (Naming next words) fits may = rw may.at_address (touches_id place ok p.head)

  pub post_inside : (start : ℕ) (m : Memory) (p : Poster) (f : Freer) (d : Taker) (q : SharedQueue) (mark : SrqMark) → Tied place start m p f d q → MayPost place start p mark e → IsInside
  post_inside start m p f d q (Begin pending slot) t may = rw may.load.at_address (touches_tail place)
  post_inside start m p f d q Fill t may = fill_inside m q p p.stage t.poster.stage may
  post_inside start m p f d q (Ring pending slot) t may = rw may.store.at_address (touches_record place)
  post_inside start m p f d q (Lookup slot) t may = absurd may
  post_inside start m p f d q (Link slot) t may = absurd may
  post_inside start m p f d q (Free slot) t may = absurd may
  post_inside start m p f d q Take t may = absurd may
  post_inside start m p f d q Foreign t may = absurd may

  pub serve_inside : (f : Freer) (mark : SrqMark) → MayServe place f mark e → IsInside
  serve_inside f (Lookup slot) may = rw may.at_address (touches_id place ok slot)
  serve_inside f (Link slot) may = rw may.at_address (touches_next place ok f.tail)
  serve_inside f (Free slot) may = rw may.store.at_address (touches_tail place)
  serve_inside f (Begin pending slot) may = absurd may
  serve_inside f Fill may = absurd may
  serve_inside f (Ring pending slot) may = absurd may
  serve_inside f Take may = absurd may
  serve_inside f Foreign may = absurd may

  take_inside_at : (q : SharedQueue) (d : Taker) (progress : Progress) → ProgressFits place q progress → MayTakeAt place d progress e → IsInside
  take_inside_at q d Asking fits may = rw may.at_address (touches_record place)
  take_inside_at q d Fetching fits may = rw may.at_address (touches_next place ok d.slot)
  take_inside_at q d (Reading next words) fits may = rw may.at_address (touches_entry place ok d.slot (length words) fits.part)

  pub take_inside : (start : ℕ) (m : Memory) (p : Poster) (f : Freer) (d : Taker) (q : SharedQueue) (mark : SrqMark) → Tied place start m p f d q → MayTakeBy place d mark e → IsInside
  take_inside start m p f d q Take t may = take_inside_at q d d.progress t.taker.progress may
  take_inside start m p f d q (Begin pending slot) t may = absurd may
  take_inside start m p f d q Fill t may = absurd may
  take_inside start m p f d q (Ring pending slot) t may = absurd may
  take_inside start m p f d q (Lookup slot) t may = absurd may
  take_inside start m p f d q (Link slot) t may = absurd may
  take_inside start m p f d q (Free slot) t may = absurd may
  take_inside start m p f d q Foreign t may = absurd may

-- what a poster can say
abbrev pub IsPosted : Option SrqEvent → Type 0
IsPosted None = Unit {0}
IsPosted (Some (Began pending)) = Unit {0}
IsPosted (Some (Full pending slot)) = Unit {0}
IsPosted (Some (Wrote receive)) = Unit {0}
IsPosted (Some (Rang pending)) = Unit {0}
IsPosted (Some _) = ⊥

fills_say : (p : Poster) (stage : Stage) (e : BusEntry) → IsPosted (fill_says p stage e)
fills_say p Ready e = tt
fills_say p Following e = tt
fills_say p (Storing next words) e = tt
fills_say p (Naming next words) e = tt

pub posts_say : (p : Poster) (mark : SrqMark) (e : BusEntry) → IsPosted (post_says p mark e)
posts_say p (Begin pending slot) e = cond_both (eqb (loaded e) slot) (Some (Full pending slot)) (Some (Began pending)) IsPosted (λ t. tt) (λ t. tt)
posts_say p Fill e = fills_say p p.stage e
posts_say p (Ring pending slot) e = tt
posts_say p (Lookup slot) e = tt
posts_say p (Link slot) e = tt
posts_say p (Free slot) e = tt
posts_say p Take e = tt
posts_say p Foreign e = tt

-- what a freer can say
abbrev pub IsServed : Option SrqEvent → Type 0
IsServed None = Unit {0}
IsServed (Some (Found slot id)) = Unit {0}
IsServed (Some (Freed slot)) = Unit {0}
IsServed (Some _) = ⊥

pub serves_say : (mark : SrqMark) (e : BusEntry) → IsServed (serve_says mark e)
serves_say (Begin pending slot) e = tt
serves_say Fill e = tt
serves_say (Ring pending slot) e = tt
serves_say (Lookup slot) e = tt
serves_say (Link slot) e = tt
serves_say (Free slot) e = tt
serves_say Take e = tt
serves_say Foreign e = tt

-- what a device can say
abbrev pub IsTaking : Option SrqEvent → Type 0
IsTaking None = Unit {0}
IsTaking (Some (Showed count)) = Unit {0}
IsTaking (Some (NoneThere taken)) = Unit {0}
IsTaking (Some (Took slot words)) = Unit {0}
IsTaking (Some _) = ⊥

takes_say_at : (place : SrqPlace) (start : ℕ) (d : Taker) (progress : Progress) (e : BusEntry) → IsTaking (take_says_at place start d progress e)
takes_say_at place start d Asking e = cond_both (eqb (ready start d (loaded e)) 0) (Some (NoneThere d.taken)) (Some (Showed (d.taken + ready start d (loaded e)))) IsTaking (λ t. tt) (λ t. tt)
takes_say_at place start d Fetching e = tt
takes_say_at place start d (Reading next words) e = cond_both (eqb (length (words ++ loaded e ∷ [])) (entry_words place)) (Some (Took d.slot (words ++ loaded e ∷ []))) None IsTaking (λ t. tt) (λ t. tt)

pub takes_say : (place : SrqPlace) (start : ℕ) (d : Taker) (mark : SrqMark) (e : BusEntry) → IsTaking (take_says place start d mark e)
takes_say place start d Take e = takes_say_at place start d d.progress e
takes_say place start d (Begin pending slot) e = tt
takes_say place start d Fill e = tt
takes_say place start d (Ring pending slot) e = tt
takes_say place start d (Lookup slot) e = tt
takes_say place start d (Link slot) e = tt
takes_say place start d (Free slot) e = tt
takes_say place start d Foreign e = tt
