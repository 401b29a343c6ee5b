-- What ties the words, the three users and the list, and what keeps it.
use Rattle.std.proofs.Common.{◌≡◌, ℕ, ◌+◌, ◌-◌, ◌<◌, ◌≤◌, ap, ◌∙◌, arith, true, List, length, get_or, take, Option, Some, None}
use Rattle.bus_core.specs.Trace.{Memory}
use Rattle.srq_list.specs.declared.place.SrqPlace.{SrqPlace}
use Rattle.srq_list.specs.Place.{IsPlace, entry_words, next_at, entry_at, id_at, link_word, next_of, record_of, touches}
use Rattle.srq_list.specs.Queue.{Receive, SharedQueue, SrqEvent, slot_at, IsKept, MayHappen, after_event, MayAsk}
use Rattle.srq_list.specs.Poster.{Poster, Stage, Ready, Following, Storing, Naming}
use Rattle.srq_list.specs.Freer.{Freer}
use Rattle.srq_list.specs.Device.{Taker, Progress, Asking, Fetching, Reading}
use Rattle.srq_list.proofs.Slots.{touches_next, touches_entry, touches_id, touches_record, touches_tail}
use Rattle.srq_list.proofs.Shape.{Shape, receive_of}

-- the last slot of the chain
abbrev pub last_slot : SharedQueue → ℕ
last_slot q = slot_at q (length q.chain - 1)

-- the words of a receive at its slot
pub record Holds (place : SrqPlace) (m : Memory) (slot : ℕ) (r : Receive) : Type 0 where
  pub each : (k : ℕ) → k < entry_words place → m (entry_at place slot k) ≡ get_or r.words k 0
  pub id : m (id_at place slot) ≡ r.id

-- the words of the receives whose slots were not freed since
abbrev pub Stored : SrqPlace → Memory → SharedQueue → Type 0
Stored place m q = (n : ℕ) → n < length q.receives → IsKept q n → Holds place m (slot_at q n) (receive_of q n)

-- from the taken ones on each slot names the one behind it
abbrev pub Linked : SrqPlace → Memory → SharedQueue → Type 0
Linked place m q = (n : ℕ) → q.taken ≤ n → n + 1 < length q.chain → next_of place (m (next_at place (slot_at q n))) ≡ slot_at q (n + 1)

-- what is stored of the receive that is written next
pub record Fills (place : SrqPlace) (m : Memory) (q : SharedQueue) (next : ℕ) (words : List ℕ) : Type 0 where
  pub room : length q.receives + 1 < length q.chain
  pub next_is : next ≡ slot_at q (length q.receives + 1)
  pub each : (k : ℕ) → k < length words → m (entry_at place (slot_at q (length q.receives)) k) ≡ get_or words k 0

abbrev pub IsPart : SrqPlace → List ℕ → Type 0
IsPart place words = length words < entry_words place

abbrev pub IsAll : SrqPlace → List ℕ → Type 0
IsAll place words = length words ≡ entry_words place

abbrev pub StageFits : SrqPlace → Memory → SharedQueue → Stage → Type 0
StageFits place m q Ready = Unit {0}
StageFits place m q Following = length q.receives + 1 < length q.chain
StageFits place m q (Storing next words) = Fills place m q next words × IsPart place words
StageFits place m q (Naming next words) = Fills place m q next words × IsAll place words

pub record PosterFits (place : SrqPlace) (m : Memory) (q : SharedQueue) (p : Poster) : Type 0 where
  pub rung : p.rung ≡ q.rung
  pub first : p.first ≡ slot_at q q.rung
  pub count : p.rung + p.written ≡ length q.receives
  pub head : p.head ≡ slot_at q (length q.receives)
  pub stage : StageFits place m q p.stage

-- a slot that is linked behind the last one
abbrev pub LinkFits : SrqPlace → Memory → ℕ → Option ℕ → Type 0
LinkFits place m tail None = Unit {0}
LinkFits place m tail (Some slot) = m (next_at place tail) ≡ link_word slot

pub record FreerFits (place : SrqPlace) (m : Memory) (q : SharedQueue) (f : Freer) : Type 0 where
  pub tail : f.tail ≡ last_slot q
  pub link : LinkFits place m f.tail f.linked

-- what is read of the receive that is taken next
pub record Reads (place : SrqPlace) (q : SharedQueue) (next : ℕ) (words : List ℕ) : Type 0 where
  pub rung : q.taken < q.rung
  pub next_is : next ≡ slot_at q (q.taken + 1)
  pub part : IsPart place words
  pub words_are : words ≡ take (length words) (receive_of q q.taken).words

abbrev pub ProgressFits : SrqPlace → SharedQueue → Progress → Type 0
ProgressFits place q Asking = Unit {0}
ProgressFits place q Fetching = q.taken < q.rung
ProgressFits place q (Reading next words) = Reads place q next words

pub record TakerFits (place : SrqPlace) (q : SharedQueue) (d : Taker) : Type 0 where
  pub taken : d.taken ≡ q.taken
  pub slot : d.slot ≡ slot_at q q.taken
  pub progress : ProgressFits place q d.progress

pub record Tied (place : SrqPlace) (start : ℕ) (m : Memory) (p : Poster) (f : Freer) (d : Taker) (q : SharedQueue) : Type 0 where
  pub shape : Shape place q
  pub tail : m place.tail ≡ last_slot q
  pub recorded : m place.dbr ≡ record_of start q.rung
  pub linked : Linked place m q
  pub stored : Stored place m q
  pub poster : PosterFits place m q p
  pub freer : FreerFits place m q f
  pub taker : TakerFits place q d

-- what an operation makes of this, with what it says
abbrev pub Goes : SrqPlace → ℕ → Memory → Poster → Freer → Taker → SharedQueue → Option SrqEvent → Type 0
Goes place start m p f d q None = Tied place start m p f d q
Goes place start m p f d q (Some event) = MayHappen place q event × Tied place start m p f d (after_event q event)

-- what is asked of a slot that an operation speaks of
abbrev pub Asks : SharedQueue → Option SrqEvent → Type 0
Asks q None = Unit {0}
Asks q (Some event) = MayAsk q event

module _ (place : SrqPlace) (m m' : Memory) where
  pub Holds_kept : (slot : ℕ) (r : Receive) → ((k : ℕ) → k < entry_words place → m' (entry_at place slot k) ≡ m (entry_at place slot k)) → m' (id_at place slot) ≡ m (id_at place slot) → Holds place m slot r → Holds place m' slot r
  Holds_kept slot r entry id h = record { each = λ k low. entry k low ∙ h.each k low; id = id ∙ h.id }

  -- a word that is neither of an entry nor an id is another one
  pub Stored_kept : (q : SharedQueue) → ((slot k : ℕ) → k < entry_words place → m' (entry_at place slot k) ≡ m (entry_at place slot k)) → ((slot : ℕ) → m' (id_at place slot) ≡ m (id_at place slot)) → Stored place m q → Stored place m' q
  Stored_kept q entry id h n inside kept = Holds_kept (slot_at q n) (receive_of q n) (entry (slot_at q n)) (id (slot_at q n)) (h n inside kept)

  pub Linked_kept : (q : SharedQueue) → ((slot : ℕ) → m' (next_at place slot) ≡ m (next_at place slot)) → Linked place m q → Linked place m' q
  Linked_kept q next h n low inside = ap (next_of place) (next (slot_at q n)) ∙ h n low inside

  Fills_kept : (q : SharedQueue) (next : ℕ) (words : List ℕ) → length words ≤ entry_words place → ((slot k : ℕ) → k < entry_words place → m' (entry_at place slot k) ≡ m (entry_at place slot k)) → Fills place m q next words → Fills place m' q next words
  Fills_kept q next words few entry h = record { room = h.room; next_is = h.next_is; each = λ k low. entry (slot_at q (length q.receives)) k (omega (arith, low, few)) ∙ h.each k low }

  pub StageFits_kept : (q : SharedQueue) (stage : Stage) → ((slot k : ℕ) → k < entry_words place → m' (entry_at place slot k) ≡ m (entry_at place slot k)) → StageFits place m q stage → StageFits place m' q stage
  StageFits_kept q Ready entry h = tt
  StageFits_kept q Following entry h = h
  StageFits_kept q (Storing next words) entry h = (Fills_kept q next words (omega (arith, h.1)) entry h.0, h.1)
  StageFits_kept q (Naming next words) entry h = (Fills_kept q next words (omega (arith, h.1)) entry h.0, h.1)

  pub PosterFits_kept : (q : SharedQueue) (p : Poster) → ((slot k : ℕ) → k < entry_words place → m' (entry_at place slot k) ≡ m (entry_at place slot k)) → PosterFits place m q p → PosterFits place m' q p
  PosterFits_kept q p entry h = record { rung = h.rung; first = h.first; count = h.count; head = h.head; stage = StageFits_kept q p.stage entry h.stage }

  LinkFits_kept : (tail : ℕ) (linked : Option ℕ) → m' (next_at place tail) ≡ m (next_at place tail) → LinkFits place m tail linked → LinkFits place m' tail linked
  LinkFits_kept tail None same h = tt
  LinkFits_kept tail (Some slot) same h = same ∙ h

  pub FreerFits_kept : (q : SharedQueue) (f : Freer) → m' (next_at place f.tail) ≡ m (next_at place f.tail) → FreerFits place m q f → FreerFits place m' q f
  FreerFits_kept q f same h = record { tail = h.tail; link = LinkFits_kept f.tail f.linked same h.link }

-- what leaves the queue's words alone keeps it
pub Tied_kept : (place : SrqPlace) (start : ℕ) (m m' : Memory) (p : Poster) (f : Freer) (d : Taker) (q : SharedQueue) → IsPlace place → ((a : ℕ) → touches place a ≡ true → m' a ≡ m a) → Tied place start m p f d q → Tied place start m' p f d q
Tied_kept place start m m' p f d q ok same t =
    let next = λ (slot : ℕ). same (next_at place slot) (touches_next place ok slot) in
    let entry = λ (slot k : ℕ) (low : k < entry_words place). same (entry_at place slot k) (touches_entry place ok slot k low) in
    record {
      shape = t.shape;
      tail = same place.tail (touches_tail place) ∙ t.tail;
      recorded = same place.dbr (touches_record place) ∙ t.recorded;
      linked = Linked_kept place m m' q next t.linked;
      stored = Stored_kept place m m' q entry (λ slot. same (id_at place slot) (touches_id place ok slot)) t.stored;
      poster = PosterFits_kept place m m' q p entry t.poster;
      freer = FreerFits_kept place m m' q f (next f.tail) t.freer;
      taker = t.taker;
    }

-- a state of one user, in place of another
pub Tied_poster : (place : SrqPlace) (start : ℕ) (m : Memory) (p p' : Poster) (f : Freer) (d : Taker) (q : SharedQueue) → PosterFits place m q p' → Tied place start m p f d q → Tied place start m p' f d q
Tied_poster place start m p p' f d q fits t = record { shape = t.shape; tail = t.tail; recorded = t.recorded; linked = t.linked; stored = t.stored; poster = fits; freer = t.freer; taker = t.taker }

pub Tied_freer : (place : SrqPlace) (start : ℕ) (m : Memory) (p : Poster) (f f' : Freer) (d : Taker) (q : SharedQueue) → FreerFits place m q f' → Tied place start m p f d q → Tied place start m p f' d q
Tied_freer place start m p f f' d q fits t = record { shape = t.shape; tail = t.tail; recorded = t.recorded; linked = t.linked; stored = t.stored; poster = t.poster; freer = fits; taker = t.taker }

pub Tied_taker : (place : SrqPlace) (start : ℕ) (m : Memory) (p : Poster) (f : Freer) (d d' : Taker) (q : SharedQueue) → TakerFits place q d' → Tied place start m p f d q → Tied place start m p f d' q
Tied_taker place start m p f d d' q fits t = record { shape = t.shape; tail = t.tail; recorded = t.recorded; linked = t.linked; stored = t.stored; poster = t.poster; freer = t.freer; taker = fits }
