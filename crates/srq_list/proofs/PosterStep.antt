-- One operation of the poster keeps what ties words, users and list, and what it says is a step of the list.
use Rattle.std.proofs.Common.{◌≡◌, ◌≢◌, ℕ, ◌+◌, ◌-◌, ◌<◌, ◌≤◌, inl, inr, refl, ap, sym, ◌∙◌, subst, arith, cond, eqb, List, [], ◌∷◌, ◌++◌, length, take, Option, Some, length-append}
use Rattle.std.proofs.lemmas.Bool.{cases_Bool, cases_lt, eqb-true, eqb-false}
use Rattle.std.proofs.lemmas.List.{get_or_push, get_or_append_left, get_or-take, length-take-le}
use Rattle.bus_core.specs.declared.operation.BusEntry.{BusEntry}
use Rattle.bus_core.specs.Operation.{IsStore, loaded, stored}
use Rattle.bus_core.specs.Trace.{Memory, after_entry, Tells}
use Rattle.bus_core.proofs.Words.{elsewhere, load_keeps, load_tells, store_leaves}
use Rattle.srq_list.specs.declared.place.SrqPlace.{SrqPlace}
use Rattle.srq_list.specs.Place.{IsPlace, size, entry_words, next_at, entry_at, id_at, next_of, record_of}
use Rattle.srq_list.specs.Queue.{Receive, SharedQueue, SrqEvent, Began, Full, Wrote, Rang, slot_at, IsPending, MayWrite}
use Rattle.srq_list.specs.Mark.{SrqMark, Begin, Fill, Ring, Lookup, Link, Free, Take, Foreign}
use Rattle.srq_list.specs.Poster.{Poster, Stage, Ready, Following, Storing, Naming, at_stage, IsBehind, MayFill, MayPost, stage_with, after_fill, after_post, fill_says, post_says}
use Rattle.srq_list.specs.Freer.{Freer}
use Rattle.srq_list.specs.Device.{Taker}
use Rattle.srq_list.proofs.Slots.{next_below, entry_below, id_low, id_below, entry_not_next, entries_differ, ids_differ}
use Rattle.srq_list.proofs.Shape.{nothing, receive_of, pending_low, shape_cut, wrote, count_wrote, receive_before, receive_last, shape_wrote}
use Rattle.srq_list.proofs.Tied.{Tied, Tied_kept, Tied_poster, Goes, Holds, Holds_kept, Stored, Linked_kept, Fills, IsPart, IsAll, StageFits, PosterFits, FreerFits_kept, last_slot}
use Rattle.srq_list.proofs.Moved.{TakerFits_moved}

-- a post, or a ring, behind so many receives that were not rung
module _ (place : SrqPlace) (start : ℕ) (m : Memory) (p : Poster) (f : Freer) (d : Taker) (q : SharedQueue) (t : Tied place start m p f d q)
    (pending slot : ℕ) (behind : IsBehind p pending slot) where
  pending_is : IsPending q pending
  pending_is = elim behind [ inl all ↦ inl (omega (arith, all.0, t.poster.rung, t.poster.count)) | inr none ↦ inr none.0 ]

  count_low : q.rung + pending ≤ length q.receives
  count_low = pending_low place q t.shape pending pending_is

  slot_is : slot ≡ slot_at q (q.rung + pending)
  slot_is = elim behind [
    | inl all ↦ all.1 ∙ (t.poster.head ∙ ap (slot_at q) (omega (arith, all.0, t.poster.rung, t.poster.count)))
    | inr none ↦ none.1 ∙ (t.poster.first ∙ ap (slot_at q) (omega (arith, none.0)))
  ]

  -- the receives behind these ones are dropped, and these ones may be rung
  module _ (m' : Memory) (rung : ℕ) (p' : Poster) (low : q.rung ≤ rung) (high : rung ≤ q.rung + pending) where
    abbrev pub left : SharedQueue
    left = record { chain = q.chain; receives = take (q.rung + pending) q.receives; rung = rung; taken = q.taken }

    pub count_left : length left.receives ≡ q.rung + pending
    count_left = length-take-le (q.rung + pending) q.receives count_low

    receive_left : (n : ℕ) → n < q.rung + pending → receive_of left n ≡ receive_of q n
    receive_left n inside = get_or-take (q.rung + pending) q.receives n nothing inside

    pub tied_left : ((a : ℕ) → place.dbr ≢ a → m' a ≡ m a) → IsPlace place → m' place.dbr ≡ record_of start rung → PosterFits place m' left p' → Tied place start m' p' f d left
    tied_left other ok here fits =
        let low_words = λ (a : ℕ) (below : a < place.dbr). other a (λ e. omega (arith, e, below)) in
        let next = λ (x : ℕ). low_words (next_at place x) (omega (arith, next_below place ok x, ok.ids_next)) in
        let entry = λ (x k : ℕ) (few : k < entry_words place). low_words (entry_at place x k) (omega (arith, entry_below place ok x k few, ok.ids_next)) in
        record {
          shape = shape_cut place q t.shape rung (q.rung + pending) (omega (arith, t.shape.taken, low)) high count_low;
          tail = other place.tail (λ e. omega (arith, e, ok.tail_last)) ∙ t.tail;
          recorded = here;
          linked = λ n above inside. ap (next_of place) (next (slot_at q n)) ∙ t.linked n above inside;
          stored = λ n inside keeps.
              let within : n < q.rung + pending = omega (arith, inside, count_left) in
              subst (Holds place m' (slot_at q n)) (sym (receive_left n within))
              (Holds_kept place m m' (slot_at q n) (receive_of q n) (entry (slot_at q n)) (low_words (id_at place (slot_at q n)) (id_below place ok (slot_at q n))) (t.stored n (omega (arith, within, count_low)) keeps));
          poster = fits;
          freer = let same = FreerFits_kept place m m' q f (next f.tail) t.freer in record { tail = same.tail; link = same.link };
          taker = TakerFits_moved place q left t.shape refl low (λ n inside. refl) (λ n below. receive_left n (omega (arith, below))) d t.taker;
        }

  -- the tail word that was loaded tells whether there is room
  asked : (word : ℕ) → IsPlace place → word ≡ m place.tail →
      Goes place start m (record { rung = p.rung; first = p.first; written = pending; head = slot; stage = cond (eqb word slot) Ready Following }) f d q (cond {A = Option SrqEvent} (eqb word slot) (Some (Full pending slot)) (Some (Began pending)))
  asked word ok is =
      let s = t.shape in
      let count : length (take (q.rung + pending) q.receives) ≡ q.rung + pending = count_left m q.rung p (omega arith) (omega arith) in
      let loaded_is : word ≡ last_slot q = is ∙ t.tail in
      let begun = λ (stage : Stage) (fits : StageFits place m (left m q.rung p (omega arith) (omega arith)) stage).
      let p' : Poster = record { rung = p.rung; first = p.first; written = pending; head = slot; stage = stage } in
      tied_left m q.rung p' (omega arith) (omega arith) (λ a ne. refl) ok t.recorded (record {
        rung = t.poster.rung;
        first = t.poster.first;
        count = omega (arith, t.poster.rung, count);
        head = slot_is ∙ ap (slot_at q) (sym count);
        stage = fits;
      }) in
      elim (cases_Bool (eqb word slot)) [
        | inl full ↦
            let same : slot_at q (q.rung + pending) ≡ last_slot q = sym slot_is ∙ (sym (eqb-true word slot full) ∙ loaded_is) in
            let last : q.rung + pending + 1 ≡ length q.chain = elim (cases_lt (q.rung + pending + 1) (length q.chain)) [
              | inl before ↦ absurd (s.apart (q.rung + pending) (length q.chain - 1) (omega (arith, s.taken)) (omega (arith, before)) (omega (arith, before)) same)
              | inr past ↦ omega (arith, past, count_low, s.room)
            ] in
            rw full (record { pending_is = pending_is; last = last; slot_is = slot_is }, begun Ready tt)
        | inr room ↦
            let more : q.rung + pending + 1 < length q.chain = elim (cases_lt (q.rung + pending + 1) (length q.chain)) [
              | inl before ↦ before
              | inr past ↦ absurd (eqb-false word slot room (loaded_is ∙ (ap (slot_at q) (omega (arith, past, count_low, s.room)) ∙ sym slot_is)))
            ] in
            rw room (record { pending_is = pending_is; room = more }, begun Following (omega (arith, more, count)))
      ]

  -- the record
  rang : (m' : Memory) → IsPlace place → m' place.dbr ≡ record_of start (p.rung + pending) → ((a : ℕ) → place.dbr ≢ a → m' a ≡ m a) →
      Goes place start m' (record { rung = p.rung + pending; first = slot; written = 0; head = slot; stage = Ready }) f d q (Some (Rang pending))
  rang m' ok here other =
      let p' : Poster = record { rung = p.rung + pending; first = slot; written = 0; head = slot; stage = Ready } in
      let count : length (take (q.rung + pending) q.receives) ≡ q.rung + pending = count_left m' (q.rung + pending) p' (omega arith) (omega arith) in (
        pending_is,
        tied_left m' (q.rung + pending) p' (omega arith) (omega arith) other ok (here ∙ ap (λ n. record_of start (n + pending)) t.poster.rung) (record {
          rung = ap (λ n. n + pending) t.poster.rung;
          first = slot_is;
          count = omega (arith, t.poster.rung, count);
          head = slot_is ∙ ap (slot_at q) (sym count);
          stage = tt;
        }),
      )

-- the words of the receive that is written next
module _ (place : SrqPlace) (start : ℕ) (m m' : Memory) (p : Poster) (f : Freer) (d : Taker) (q : SharedQueue) (ok : IsPlace place) (t : Tied place start m p f d q) where
  abbrev head : ℕ
  head = slot_at q (length q.receives)

  taken_low : q.taken ≤ length q.receives
  taken_low = omega (arith, t.shape.taken, t.shape.rung)

  head_low : head < size place
  head_low = t.shape.within (length q.receives) t.shape.room

  -- the receives whose slots were not freed since lie elsewhere
  module _ (n : ℕ) (inside : n < length q.receives) (keeps : (k : ℕ) → n < k → k < length q.chain → slot_at q k ≢ slot_at q n) where
    other_slot : head ≢ slot_at q n
    other_slot = keeps (length q.receives) inside t.shape.room

    slot_low : slot_at q n < size place
    slot_low = t.shape.within n (omega (arith, inside, t.shape.room))

  -- a store into a slot's entry or id leaves these
  with_stored : (p' : Poster) → ((a : ℕ) → place.dbr ≤ a → m' a ≡ m a) → ((x : ℕ) → m' (next_at place x) ≡ m (next_at place x)) → Stored place m' q → PosterFits place m' q p' → Tied place start m' p' f d q
  with_stored p' high next stored fits = record {
    shape = t.shape;
    tail = high place.tail (omega (arith, ok.tail_last)) ∙ t.tail;
    recorded = high place.dbr (omega arith) ∙ t.recorded;
    linked = Linked_kept place m m' q next t.linked;
    stored = stored;
    poster = fits;
    freer = FreerFits_kept place m m' q f (next f.tail) t.freer;
    taker = t.taker;
  }

  -- a word of the entry
  module _ (next word : ℕ) (words : List ℕ) (fits : Fills place m q next words) (part : IsPart place words)
      (here : m' (entry_at place head (length words)) ≡ word) (other : (a : ℕ) → entry_at place head (length words) ≢ a → m' a ≡ m a) where
    abbrev more : List ℕ
    more = words ++ word ∷ []

    long : length more ≡ length words + 1
    long = length-append words (word ∷ [])

    above_entry : (a : ℕ) → place.ids ≤ a → m' a ≡ m a
    above_entry a high = other a (λ e. omega (arith, e, high, entry_below place ok head (length words) part))

    fills_more : Fills place m' q next more
    fills_more = record {
      room = fits.room;
      next_is = fits.next_is;
      each = λ k low. elim (cases_lt k (length words)) [
        | inl before ↦
            let apart : length words ≢ k = λ e. omega (arith, e, before) in
            other (entry_at place head k) (entries_differ place ok head head (length words) k head_low head_low part (omega (arith, before, part)) (λ same. apart)) ∙ (fits.each k before ∙ sym (get_or_append_left words (word ∷ []) 0 k before))
        | inr past ↦
            let last : k ≡ length words = omega (arith, past, low, long) in
            ap (λ i. m' (entry_at place head i)) last ∙ (here ∙ sym (get_or_push words word 0 k (sym last)))
      ];
    }

    stage_more : StageFits place m' q (stage_with place next more)
    stage_more = elim (cases_Bool (eqb (length more) (entry_words place))) [
      | inl full ↦ rw full (fills_more, eqb-true (length more) (entry_words place) full)
      | inr rest ↦ let below : length more < entry_words place = omega (arith, eqb-false (length more) (entry_words place) rest, long, part) in rw rest (fills_more, below)
    ]

    stored_word : Tied place start m' (at_stage p (stage_with place next more)) f d q
    stored_word = with_stored (at_stage p (stage_with place next more)) (λ a high. above_entry a (omega (arith, high, ok.ids_next)))
        (λ x. other (next_at place x) (λ e. entry_not_next place ok head x (length words) part e))
        (λ n inside keeps. Holds_kept place m m' (slot_at q n) (receive_of q n)
        (λ k few. other (entry_at place (slot_at q n) k) (entries_differ place ok head (slot_at q n) (length words) k head_low (slot_low n inside keeps) part few (λ same. absurd (other_slot n inside keeps same))))
        (above_entry (id_at place (slot_at q n)) (id_low place ok (slot_at q n))) (t.stored n inside keeps))
        (record { rung = t.poster.rung; first = t.poster.first; count = t.poster.count; head = t.poster.head; stage = stage_more })

  -- the id
  module _ (next id : ℕ) (words : List ℕ) (fits : Fills place m q next words) (all : IsAll place words)
      (here : m' (id_at place head) ≡ id) (other : (a : ℕ) → id_at place head ≢ a → m' a ≡ m a) where
    abbrev receive : Receive
    receive = record { slot = p.head; words = words; id = id }

    abbrev after : SharedQueue
    after = wrote place q t.shape receive

    entry_kept : (x k : ℕ) → k < entry_words place → m' (entry_at place x k) ≡ m (entry_at place x k)
    entry_kept x k few = other (entry_at place x k) (λ e. omega (arith, e, entry_below place ok x k few, id_low place ok head))

    may : MayWrite place q receive
    may = record { room = fits.room; slot_is = t.poster.head; whole = all }

    last_holds : Holds place m' head receive
    last_holds = record { each = λ k few. entry_kept head k few ∙ fits.each k (omega (arith, few, all)); id = here }

    stored_more : Stored place m' after
    stored_more n inside keeps = elim (cases_lt n (length q.receives)) [
      | inl before ↦ subst (Holds place m' (slot_at q n)) (sym (receive_before place q t.shape receive n before))
          (Holds_kept place m m' (slot_at q n) (receive_of q n) (entry_kept (slot_at q n)) (other (id_at place (slot_at q n)) (ids_differ place ok head (slot_at q n) head_low (slot_low n before keeps) (other_slot n before keeps))) (t.stored n before keeps))
      | inr past ↦
          let last : n ≡ length q.receives = omega (arith, past, inside, count_wrote place q t.shape receive) in
          subst (Holds place m' (slot_at q n)) (sym (receive_last place q t.shape receive n last)) (subst (λ x. Holds place m' x receive) (ap (slot_at q) (sym last)) last_holds)
    ]

    named : Goes place start m' (record { rung = p.rung; first = p.first; written = p.written + 1; head = next; stage = Ready }) f d q (Some (Wrote receive))
    named =
        let count = count_wrote place q t.shape receive in
        let next_words = λ (x : ℕ). other (next_at place x) (λ e. omega (arith, e, next_below place ok x, id_low place ok head)) in
        let high = λ (a : ℕ) (above : place.dbr ≤ a). other a (λ e. omega (arith, e, above, id_below place ok head)) in (
          may,
          record {
            shape = shape_wrote place q t.shape receive may;
            tail = high place.tail (omega (arith, ok.tail_last)) ∙ t.tail;
            recorded = high place.dbr (omega arith) ∙ t.recorded;
            linked = λ n above inside. ap (next_of place) (next_words (slot_at q n)) ∙ t.linked n above inside;
            stored = stored_more;
            poster = record {
              rung = t.poster.rung;
              first = t.poster.first;
              count = omega (arith, t.poster.count, count);
              head = fits.next_is ∙ ap (slot_at q) (sym count);
              stage = tt;
            };
            freer = let same = FreerFits_kept place m m' q f (next_words f.tail) t.freer in record { tail = same.tail; link = same.link };
            taker = TakerFits_moved place q after t.shape refl (omega arith) (λ n inside. refl) (λ n below. receive_before place q t.shape receive n (omega (arith, below, t.shape.rung))) d t.taker;
          },
        )

-- the index of the slot behind the head
followed : (place : SrqPlace) (start : ℕ) (m : Memory) (p : Poster) (f : Freer) (d : Taker) (q : SharedQueue) (word : ℕ) → IsPlace place → Tied place start m p f d q → length q.receives + 1 < length q.chain → word ≡ m (next_at place p.head) →
    Tied place start m (at_stage p (Storing (next_of place word) [])) f d q
followed place start m p f d q word ok t room is = Tied_poster place start m p (at_stage p (Storing (next_of place word) [])) f d q (record {
  rung = t.poster.rung;
  first = t.poster.first;
  count = t.poster.count;
  head = t.poster.head;
  stage = (
    record {
      room = room;
      next_is = ap (next_of place) (is ∙ ap (λ x. m (next_at place x)) t.poster.head) ∙ t.linked (length q.receives) (omega (arith, t.shape.taken, t.shape.rung)) room;
      each = λ k low. absurd (omega (arith, low));
    },
    omega (arith, ok.some_words),
  );
}) t

-- an operation that stores leaves the word, and every other one as it was
stores : (m : Memory) (e : BusEntry) (address value : ℕ) → IsStore address value e → (a : ℕ) → address ≢ a → after_entry m e a ≡ m a
stores m e address value store a ne = elsewhere m e a (λ same. ne (sym store.at_address ∙ same))

module _ (place : SrqPlace) (start : ℕ) (m : Memory) (p : Poster) (f : Freer) (d : Taker) (q : SharedQueue) (e : BusEntry) (ok : IsPlace place) (t : Tied place start m p f d q) (tells : Tells m e) where
  abbrev now : Memory
  now = after_entry m e

  fills : (stage : Stage) → StageFits place m q stage → MayFill place p stage e → Goes place start now (after_fill place p stage e) f d q (fill_says p stage e)
  fills Ready fits may = absurd may
  fills Following fits may =
      let same : (a : ℕ) → now a ≡ m a = λ a. load_keeps m e a may.op in
      followed place start now p f d q (loaded e) ok (Tied_kept place start m now p f d q ok (λ a h. same a) t) fits (load_tells m e (next_at place p.head) tells may.op may.at_address ∙ sym (same (next_at place p.head)))
  fills (Storing next words) fits may =
      let store = subst (λ (x : ℕ). IsStore (entry_at place x (length words)) (stored e) e) t.poster.head may in
      stored_word place start m now p f d q ok t next (stored e) words fits.0 fits.1 (store_leaves m e _ (stored e) store.op store.at_address) (stores m e _ (stored e) store)
  fills (Naming next words) fits may =
      let store = subst (λ (x : ℕ). IsStore (id_at place x) (stored e) e) t.poster.head may in
      named place start m now p f d q ok t next (stored e) words fits.0 fits.1 (store_leaves m e _ (stored e) store.op store.at_address) (stores m e _ (stored e) store)

pub poster_step : (place : SrqPlace) (start : ℕ) (m : Memory) (p : Poster) (f : Freer) (d : Taker) (q : SharedQueue) (mark : SrqMark) (e : BusEntry) → IsPlace place → Tied place start m p f d q → Tells m e → MayPost place start p mark e →
    Goes place start (after_entry m e) (after_post place p mark e) f d q (post_says p mark e)
poster_step place start m p f d q (Begin pending slot) e ok t tells may =
    let m' : Memory = after_entry m e in
    let same : (a : ℕ) → m' a ≡ m a = λ a. load_keeps m e a may.load.op in
    asked place start m' p f d q (Tied_kept place start m m' p f d q ok (λ a h. same a) t) pending slot may.behind (loaded e) ok (load_tells m e place.tail tells may.load.op may.load.at_address ∙ sym (same place.tail))
poster_step place start m p f d q Fill e ok t tells may = fills place start m p f d q e ok t tells p.stage t.poster.stage may
poster_step place start m p f d q (Ring pending slot) e ok t tells may =
    rang place start m p f d q t pending slot may.behind (after_entry m e) ok (store_leaves m e place.dbr (record_of start (p.rung + pending)) may.store.op may.store.at_address) (stores m e place.dbr (record_of start (p.rung + pending)) may.store)
poster_step place start m p f d q (Lookup slot) e ok t tells may = absurd may
poster_step place start m p f d q (Link slot) e ok t tells may = absurd may
poster_step place start m p f d q (Free slot) e ok t tells may = absurd may
poster_step place start m p f d q Take e ok t tells may = absurd may
poster_step place start m p f d q Foreign e ok t tells may = absurd may
