-- An operation of a poster loads, stores a word that is no news of its queue, or rings.
use Rattle.std.proofs.Common.{◌≡◌, ◌≢◌, ◌<◌, ℕ, refl, arith, length, Option, None, Some}
use Rattle.bus_core.specs.declared.operation.BusEntry.{BusEntry}
use Rattle.bus_core.specs.declared.operation.BusOp.TheVariants.{Load}
use Rattle.bus_core.specs.Trace.{Memory}
use Rattle.counted_ring.specs.declared.place.WqPlace.{WqPlace}
use Rattle.counted_ring.specs.Device.{WqReader}
use Rattle.counted_ring.specs.Mark.{WqMark, Post, Ring, Lookup, Count, Retire, Look, Record, Read, Foreign}
use Rattle.counted_ring.specs.Place.{IsPlace, word_at, id_at, head_at}
use Rattle.counted_ring.specs.Poster.{Poster, Stage, Ready, Storing, Naming, Counting, Ringing, MayPostAt, MayRingAt, IsRegisterStore, post_says_at, ring_says_at}
use Rattle.counted_ring.specs.PosterView.{MayBring, brought}
use Rattle.counted_ring.specs.Queue.{Queue, WqEvent, Rang}
use Rattle.counted_ring.specs.Retirer.{Retirer}
use Rattle.counted_ring.proofs.Slots.{word_below, id_low, id_below, head_below}
use Rattle.counted_ring.proofs.Tied.{Tied, StageFits}

pub data Brings (place : WqPlace) (e : BusEntry) (said : Option WqEvent) : Type 0 where
  Loads : e.op ≡ Load → Brings place e said
  Beside : e.addr ≢ place.tail → e.addr ≢ place.dbr → Brings place e said
  Rings : said ≡ Some Rang → Brings place e said

module _ (place : WqPlace) (ok : IsPlace place) (e : BusEntry) where
  -- below the tail, and so below the record
  below : (said : Option WqEvent) (a : ℕ) → e.addr ≡ a → a < place.tail → Brings place e said
  below said a is low = Beside (λ same. omega (arith, is, low, same)) (λ same. omega (arith, is, low, same, ok.record_next))

  posts : (m : Memory) (q : Queue) (p : Poster) (stage : Stage) → StageFits place m q stage → MayPostAt place p stage e → Brings place e (post_says_at place p stage e)
  posts m q p Ready fits may = Loads may.load.op
  posts m q p (Storing words) fits may = below _ (word_at place p.index (length words)) may.at_address (omega (arith, word_below place ok p.index (length words), id_low place 0, id_below place ok 0))
  posts m q p (Naming words) fits may = below _ (id_at place p.index) may.at_address (id_below place ok p.index)
  posts m q p (Counting words id) fits may = below _ (head_at place p.index) may.at_address (head_below place ok fits.2.send p.index)
  posts m q p Ringing fits may = absurd may

  presses : (said : Option WqEvent) (reg : Option ℕ) (value : ℕ) → place.reg ≡ reg → IsRegisterStore reg value e → Brings place e said
  presses said None value same may = absurd may
  presses said (Some a) value same may =
      let last = ok.register_last a same in
      Beside (λ tail. omega (arith, may.at_address, last, tail, ok.record_next)) (λ dbr. omega (arith, may.at_address, last, dbr))

  rings : (p : Poster) (stage : Stage) → MayRingAt place p stage e → Brings place e (ring_says_at stage)
  rings p Ready may = Rings refl
  rings p (Storing words) may = absurd may
  rings p (Naming words) may = absurd may
  rings p (Counting words id) may = absurd may
  rings p Ringing may = presses _ place.reg p.first refl may

  pub brings : (m : Memory) (p : Poster) (r : Retirer) (d : WqReader) (q : Queue) (mark : WqMark) → Tied place m p r d q → MayBring place p mark e → Brings place e (brought place p mark e)
  brings m p r d q Post t may = posts m q p p.stage t.poster.stage may
  brings m p r d q Ring t may = rings p p.stage may
  brings m p r d q (Lookup counter from) t may = absurd may
  brings m p r d q Count t may = absurd may
  brings m p r d q (Retire end) t may = absurd may
  brings m p r d q Look t may = absurd may
  brings m p r d q (Record passes) t may = absurd may
  brings m p r d q Read t may = absurd may
  brings m p r d q Foreign t may = absurd may
