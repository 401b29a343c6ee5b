-- What ties the words, the three users and the list of requests, and what keeps it.
use Rattle.std.proofs.Common.{◌≡◌, ◌⊎◌, ℕ, ◌+◌, ◌%◌, ◌^◌, ◌<◌, ◌≤◌, ◌∙◌, arith, true, List, [], length, get_or, take, Option, Some, None}
use Rattle.bus_core.specs.Trace.{Memory}
use Rattle.counted_ring.specs.declared.place.WqPlace.{WqPlace}
use Rattle.counted_ring.specs.Place.{IsPlace, is_send, word_at, id_at, head_at, record_of, touches, all_words}
use Rattle.counted_ring.specs.Queue.{Request, Queue, WqEvent, index_of, MayHappen, after_event, MayAsk}
use Rattle.counted_ring.specs.Poster.{Poster, Stage, Ready, Storing, Naming, Counting, Ringing}
use Rattle.counted_ring.specs.Retirer.{Asked, Retirer, forgotten_side}
use Rattle.counted_ring.specs.Device.{WqReader}
use Rattle.counted_ring.proofs.Slots.{word_below, id_low, id_below, head_below, touches_word, touches_id, touches_head, touches_tail, touches_record}
use Rattle.counted_ring.proofs.Requests.{request_of}
use Rattle.counted_ring.proofs.Shape.{Shape}

-- the words of request n, from the block of this index on
pub record Holds (place : WqPlace) (m : Memory) (index n : ℕ) (r : Request) : Type 0 where
  pub each : (k : ℕ) → k < length r.words → m (word_at place index k) ≡ get_or r.words k 0
  pub id : m (id_at place index) ≡ r.id
  pub head : is_send place ≡ true → m (head_at place index) ≡ n

-- the words of the requests that are not retired
abbrev pub Stored : WqPlace → Memory → Queue → Type 0
Stored place m q = (n : ℕ) → q.retired ≤ n → n < length q.requests → Holds place m (index_of q n) n (request_of q n)

-- what is stored of the request that comes next
pub record Fills (place : WqPlace) (m : Memory) (q : Queue) (words : List ℕ) : Type 0 where
  pub room : length q.requests < q.retired + place.max_post
  pub low : length q.requests < 2 ^ 62
  pub next_low : q.next < 2 ^ 62
  pub each : (k : ℕ) → k < length words → m (word_at place q.next k) ≡ get_or words k 0

abbrev pub IsPart : WqPlace → List ℕ → Type 0
IsPart place words = 0 < length words → length words < all_words place words

abbrev pub IsAll : WqPlace → List ℕ → Type 0
IsAll place words = length words ≡ all_words place words

pub record Named (place : WqPlace) (m : Memory) (q : Queue) (id : ℕ) : Type 0 where
  pub send : is_send place ≡ true
  pub id_is : m (id_at place q.next) ≡ id

abbrev pub StageFits : WqPlace → Memory → Queue → Stage → Type 0
StageFits place m q Ready = Unit {0}
StageFits place m q (Storing words) = Fills place m q words × IsPart place words
StageFits place m q (Naming words) = Fills place m q words × IsAll place words
StageFits place m q (Counting words id) = Fills place m q words × IsAll place words × Named place m q id
StageFits place m q Ringing = Unit {0}

-- how many requests are being written
abbrev pub coming : Stage → ℕ
coming Ready = 0
coming (Storing words) = 1
coming (Naming words) = 1
coming (Counting words id) = 1
coming Ringing = 0

pub record PosterFits (place : WqPlace) (m : Memory) (q : Queue) (p : Poster) : Type 0 where
  pub count : p.count ≡ length q.requests
  pub index : p.index ≡ q.next
  -- the tail that was seen may be old, and leaves room for all that was posted since
  pub least : p.seen ≤ q.retired
  pub room : p.count + coming p.stage ≤ p.seen + place.max_post
  pub stage : StageFits place m q p.stage

-- a request that was taken and not retired, with the counter and the id that were loaded
pub record Knows (place : WqPlace) (q : Queue) (a : Asked) : Type 0 where
  pub send : is_send place ≡ true
  pub number : ℕ
  pub retired : q.retired ≤ number
  pub taken : number < q.taken
  pub counter_is : a.counter ≡ index_of q number % 2 ^ 16
  pub id_is : a.id ≡ (request_of q number).id

abbrev pub AskedFits : WqPlace → Queue → Option Asked → Type 0
AskedFits place q None = Unit {0}
AskedFits place q (Some a) = Knows place q a

pub record RetirerFits (place : WqPlace) (q : Queue) (r : Retirer) : Type 0 where
  pub tail : r.tail ≡ q.retired
  pub found : r.found ≤ q.taken
  pub asked : AskedFits place q r.asked

-- what is read of the request that is taken next
pub record Reads (q : Queue) (words : List ℕ) : Type 0 where
  pub shown : q.taken < q.rung
  pub part : length words < length (request_of q q.taken).words
  pub words_are : words ≡ take (length words) (request_of q q.taken).words

pub record DeviceFits (q : Queue) (d : WqReader) : Type 0 where
  -- how many requests the record showed
  pub seen : ℕ
  pub low : q.taken ≤ seen
  pub high : seen ≤ q.rung
  pub next_is : d.next ≡ index_of q q.taken
  pub ready_is : d.next + d.ready ≡ index_of q seen
  pub words : (d.words ≡ []) ⊎ Reads q d.words

pub record Tied (place : WqPlace) (m : Memory) (p : Poster) (r : Retirer) (d : WqReader) (q : Queue) : Type 0 where
  pub shape : Shape place q
  pub tail : m place.tail ≡ q.retired
  pub recorded : m place.dbr ≡ record_of (index_of q q.rung)
  pub stored : Stored place m q
  pub poster : PosterFits place m q p
  pub retirer : RetirerFits place q r
  pub device : DeviceFits q d

-- what an operation makes of this, with what it says
abbrev pub Goes : WqPlace → Memory → Poster → Retirer → WqReader → Queue → Option WqEvent → Type 0
Goes place m p r d q None = Tied place m p r d q
Goes place m p r d q (Some event) = MayHappen place q event × Tied place m p r d (after_event place q event)

-- what is asked of a request that an operation speaks of
abbrev pub Asks : WqPlace → Queue → Option WqEvent → Type 0
Asks place q None = Unit {0}
Asks place q (Some event) = MayAsk place q event

-- words of entries, ids and head words that are as they were
pub record SameEntries (place : WqPlace) (m m' : Memory) : Type 0 where
  pub word : (n k : ℕ) → m' (word_at place n k) ≡ m (word_at place n k)
  pub id : (n : ℕ) → m' (id_at place n) ≡ m (id_at place n)
  pub head : is_send place ≡ true → (n : ℕ) → m' (head_at place n) ≡ m (head_at place n)

-- they lie below the tail
pub entries_kept : (place : WqPlace) (m m' : Memory) → IsPlace place → ((a : ℕ) → a < place.tail → m' a ≡ m a) → SameEntries place m m'
entries_kept place m m' ok same = record {
  word = λ n k. same (word_at place n k) (omega (arith, word_below place ok n k, id_low place 0, id_below place ok 0));
  id = λ n. same (id_at place n) (id_below place ok n);
  head = λ send n. same (head_at place n) (head_below place ok send n);
}

module _ (place : WqPlace) (m m' : Memory) (same : SameEntries place m m') where
  pub Holds_kept : (index n : ℕ) (r : Request) → Holds place m index n r → Holds place m' index n r
  Holds_kept index n r h = record { each = λ k l. same.word index k ∙ h.each k l; id = same.id index ∙ h.id; head = λ send. same.head send index ∙ h.head send }

  pub Stored_kept : (q : Queue) → Stored place m q → Stored place m' q
  Stored_kept q h n low high = Holds_kept (index_of q n) n (request_of q n) (h n low high)

  Fills_kept : (q : Queue) (words : List ℕ) → Fills place m q words → Fills place m' q words
  Fills_kept q words h = record { room = h.room; low = h.low; next_low = h.next_low; each = λ k l. same.word q.next k ∙ h.each k l }

  pub StageFits_kept : (q : Queue) (stage : Stage) → StageFits place m q stage → StageFits place m' q stage
  StageFits_kept q Ready h = tt
  StageFits_kept q (Storing words) h = (Fills_kept q words h.0, h.1)
  StageFits_kept q (Naming words) h = (Fills_kept q words h.0, h.1)
  StageFits_kept q (Counting words id) h = (Fills_kept q words h.0, h.1, record { send = h.2.send; id_is = same.id q.next ∙ h.2.id_is })
  StageFits_kept q Ringing h = tt

  pub PosterFits_kept : (q : Queue) (p : Poster) → PosterFits place m q p → PosterFits place m' q p
  PosterFits_kept q p h = record { count = h.count; index = h.index; least = h.least; room = h.room; stage = StageFits_kept q p.stage h.stage }

-- what leaves the queue's words alone keeps it
pub Tied_kept : (place : WqPlace) (m m' : Memory) (p : Poster) (r : Retirer) (d : WqReader) (q : Queue) → IsPlace place → ((a : ℕ) → touches place a ≡ true → m' a ≡ m a) → Tied place m p r d q → Tied place m' p r d q
Tied_kept place m m' p r d q ok same t =
    let entries : SameEntries place m m' = record {
      word = λ n k. same (word_at place n k) (touches_word place ok n k);
      id = λ n. same (id_at place n) (touches_id place ok n);
      head = λ send n. same (head_at place n) (touches_head place ok send n);
    } in
    record {
      shape = t.shape;
      tail = same place.tail (touches_tail place) ∙ t.tail;
      recorded = same place.dbr (touches_record place) ∙ t.recorded;
      stored = Stored_kept place m m' entries q t.stored;
      poster = PosterFits_kept place m m' entries q p t.poster;
      retirer = t.retirer;
      device = t.device;
    }

-- a state of one user, in place of another
pub Tied_poster : (place : WqPlace) (m : Memory) (p p' : Poster) (r : Retirer) (d : WqReader) (q : Queue) → PosterFits place m q p' → Tied place m p r d q → Tied place m p' r d q
Tied_poster place m p p' r d q fits t = record { shape = t.shape; tail = t.tail; recorded = t.recorded; stored = t.stored; poster = fits; retirer = t.retirer; device = t.device }

pub Tied_retirer : (place : WqPlace) (m : Memory) (p : Poster) (r r' : Retirer) (d : WqReader) (q : Queue) → RetirerFits place q r' → Tied place m p r d q → Tied place m p r' d q
Tied_retirer place m p r r' d q fits t = record { shape = t.shape; tail = t.tail; recorded = t.recorded; stored = t.stored; poster = t.poster; retirer = fits; device = t.device }

pub Tied_device : (place : WqPlace) (m : Memory) (p : Poster) (r : Retirer) (d d' : WqReader) (q : Queue) → DeviceFits q d' → Tied place m p r d q → Tied place m p r d' q
Tied_device place m p r d d' q fits t = record { shape = t.shape; tail = t.tail; recorded = t.recorded; stored = t.stored; poster = t.poster; retirer = t.retirer; device = fits }

-- a retirer that drops what it found
pub Tied_forgotten : (place : WqPlace) (m : Memory) (p : Poster) (r : Retirer) (d : WqReader) (q : Queue) → Tied place m p r d q → Tied place m p (forgotten_side r) d q
Tied_forgotten place m p r d q t = Tied_retirer place m p r (forgotten_side r) d q (record { tail = t.retirer.tail; found = omega (arith, t.retirer.tail, t.shape.order.retired); asked = tt }) t
