-- One operation of the poster keeps what ties words, users and list, and what it says is a step of the list.
use Rattle.std.proofs.Common.{◌≡◌, ◌≢◌, ℕ, ◌+◌, ◌^◌, ◌<◌, ◌≤◌, inl, inr, refl, ap, sym, ◌∙◌, subst, arith, Bool, true, false, cond, eqb, List, [], ◌∷◌, ◌++◌, length, nat_lt, Option, Some, None}
use Rattle.std.proofs.lemmas.Bool.{cases_Bool, both_ways, cond_both, eqb-true, eqb-false, ltb-true, ltb-false}
use Rattle.bus_core.specs.declared.operation.BusEntry.{BusEntry}
use Rattle.bus_core.specs.Operation.{IsStore, loaded, stored}
use Rattle.bus_core.specs.Trace.{Memory, after_entry, Tells}
use Rattle.bus_core.proofs.Words.{elsewhere, load_keeps, load_tells, store_leaves}
use Rattle.counted_ring.specs.declared.place.WqPlace.{WqPlace}
use Rattle.counted_ring.specs.Place.{IsPlace, is_send, word_at, id_at, head_at, record_of, outstanding, all_words}
use Rattle.counted_ring.specs.Queue.{Queue, Wrote, Full, Rang, after_event}
use Rattle.counted_ring.specs.Mark.{WqMark, Post, Ring, Lookup, Count, Retire, Look, Record, Read, Foreign}
use Rattle.counted_ring.specs.Poster.{Poster, Stage, Ready, Storing, Naming, Counting, Ringing, at_stage, at_tail, has_room, posted_one, stage_with, MayPostAt, after_post_at, post_says_at, MayRingAt, after_ring_at, ring_says_at, IsRegisterStore}
use Rattle.counted_ring.specs.PosterView.{MayBring, after_bring, brought}
use Rattle.counted_ring.specs.Retirer.{Retirer}
use Rattle.counted_ring.specs.Device.{WqReader}
use Rattle.counted_ring.proofs.Slots.{outstanding_is, word_below, id_low, id_below, id_before_heads, head_below}
use Rattle.counted_ring.proofs.Shape.{last_index, most_fits}
use Rattle.counted_ring.proofs.Orders.{order_rung}
use Rattle.counted_ring.proofs.Tied.{Tied, Tied_kept, Tied_poster, coming, Goes, Stored, Fills, IsPart, IsAll, Named, StageFits, PosterFits, SameEntries, entries_kept, Stored_kept}
use Rattle.counted_ring.proofs.Moved.{DeviceFits_moved, RetirerFits_moved}
use Rattle.counted_ring.proofs.OneMore.{wrote}
use Rattle.counted_ring.proofs.NextWords.{word_stored, id_stored, head_stored, few_words, more_part, each_more}

-- the tail that was loaded tells whether there is room
module _ (place : WqPlace) (m : Memory) (p : Poster) (r : Retirer) (d : WqReader) (q : Queue) (t : Tied place m p r d q) where
  asked : (word : ℕ) (room : Bool) → word ≡ m place.tail → p.count < 2 ^ 62 → p.index < 2 ^ 62 → nat_lt (outstanding p.count word) place.max_post ≡ room →
      Goes place m (at_stage (at_tail p word) (cond room (Storing []) Ready)) r d q (cond room None (Some (Full p.count word)))
  asked word true is count index test =
      let tail : word ≡ q.retired = is ∙ t.tail in
      let posted = t.poster.count in
      let near = ltb-true (outstanding p.count word) place.max_post test in
      let far = outstanding_is p.count word (omega (arith, tail, posted, t.shape.order.retired, t.shape.order.taken, t.shape.order.rung)) count in
      Tied_poster place m p (at_stage (at_tail p word) (Storing [])) r d q (record {
        count = posted;
        index = t.poster.index;
        least = omega (arith, tail);
        room = omega (arith, near, far);
        stage = (
          record { room = omega (arith, near, far, tail, posted); low = omega (arith, count, posted); next_low = omega (arith, index, t.poster.index); each = λ k l. absurd (omega (arith, l)) },
          λ l. absurd (omega (arith, l)),
        );
      }) t
  asked word false is count index test =
      let tail : word ≡ q.retired = is ∙ t.tail in
      let posted = t.poster.count in
      let wide = ltb-false (outstanding p.count word) place.max_post test in
      let far = outstanding_is p.count word (omega (arith, tail, posted, t.shape.order.retired, t.shape.order.taken, t.shape.order.rung)) count in (
        record { head_is = posted; tail_is = tail; full = omega (arith, wide, far, tail, posted, t.shape.order.bound) },
        Tied_poster place m p (at_stage (at_tail p word) Ready) r d q (record { count = posted; index = t.poster.index; least = omega (arith, tail); room = omega (arith, tail, posted, t.shape.order.bound); stage = tt }) t,
      )

-- a store of a word that comes below the tail
module _ (place : WqPlace) (m m' : Memory) (p : Poster) (r : Retirer) (d : WqReader) (q : Queue) (ok : IsPlace place) (t : Tied place m p r d q) where
  with_stored : (p' : Poster) → ((a : ℕ) → place.tail ≤ a → m' a ≡ m a) → Stored place m' q → PosterFits place m' q p' → Tied place m' p' r d q
  with_stored p' high entries fits = record {
    shape = t.shape;
    tail = high place.tail (omega arith) ∙ t.tail;
    recorded = high place.dbr (omega (arith, ok.record_next)) ∙ t.recorded;
    stored = entries;
    poster = fits;
    retirer = t.retirer;
    device = t.device;
  }

  -- a word of the entry
  module _ (words : List ℕ) (word : ℕ) (leaves : p.count + 1 ≤ p.seen + place.max_post) (fits : Fills place m q words) (part : IsPart place words)
      (here : m' (word_at place q.next (length words)) ≡ word) (other : (a : ℕ) → word_at place q.next (length words) ≢ a → m' a ≡ m a) where
    abbrev more : List ℕ
    more = words ++ word ∷ []

    filled : Fills place m' q more
    filled = record {
      room = fits.room;
      low = fits.low;
      next_low = fits.next_low;
      each = each_more place ok words part m m' q.next word here other (omega (arith, most_fits place q t.shape.order ok fits.room)) fits.each;
    }

    stage_fits : StageFits place m' q (stage_with place more)
    stage_fits = elim (cases_Bool (eqb (length more) (all_words place more))) [
      | inl whole ↦ rw whole (filled, eqb-true (length more) (all_words place more) whole)
      | inr less ↦ rw less (filled, λ some. omega (arith, more_part place ok words part word, eqb-false (length more) (all_words place more) less))
    ]

    still_coming : coming (stage_with place more) ≡ 1
    still_coming = cond_both (eqb (length more) (all_words place more)) (Naming more) (Storing more) (λ (s : Stage). coming s ≡ 1) (λ whole. refl) (λ less. refl)

    stored_word : Tied place m' (at_stage p (stage_with place more)) r d q
    stored_word = with_stored (at_stage p (stage_with place more))
        (λ a above. other a (λ e. omega (arith, e, above, word_below place ok q.next (length words), id_low place 0, id_below place ok 0)))
        (word_stored place m m' q ok t.shape fits.room (length words) (few_words place ok words part) other t.stored)
        (record { count = t.poster.count; index = t.poster.index; least = t.poster.least; room = omega (arith, leaves, still_coming); stage = stage_fits })

  -- its id
  module _ (words : List ℕ) (id : ℕ) (leaves : p.count + 1 ≤ p.seen + place.max_post) (fits : Fills place m q words) (all : IsAll place words)
      (here : m' (id_at place q.next) ≡ id) (other : (a : ℕ) → id_at place q.next ≢ a → m' a ≡ m a) where
    id_filled : Fills place m' q words
    id_filled = record {
      room = fits.room;
      low = fits.low;
      next_low = fits.next_low;
      each = λ k l. other (word_at place q.next k) (λ e. omega (arith, e, word_below place ok q.next k, id_low place q.next)) ∙ fits.each k l;
    }

    stored_id : (p' : Poster) → PosterFits place m' q p' → Tied place m' p' r d q
    stored_id p' fits' = with_stored p' (λ a above. other a (λ e. omega (arith, e, above, id_below place ok q.next))) (id_stored place m m' q ok t.shape fits.room other t.stored) fits'

    named : (send : Bool) → is_send place ≡ send → Goes place m' (cond send (at_stage p (Counting words id)) (posted_one place p words)) r d q (cond send None (Some (Wrote words id)))
    named true send = stored_id (at_stage p (Counting words id)) (record { count = t.poster.count; index = t.poster.index; least = t.poster.least; room = omega (arith, leaves); stage = (id_filled, all, record { send = send; id_is = here }) })
    named false receive = wrote place m' (at_stage p Ready) r d q words id
        (stored_id (at_stage p Ready) (record { count = t.poster.count; index = t.poster.index; least = t.poster.least; room = omega (arith, leaves); stage = tt })) id_filled all here (λ send. absurd (both_ways (is_send place) receive send)) leaves

  -- its head word
  module _ (words : List ℕ) (id : ℕ) (leaves : p.count + 1 ≤ p.seen + place.max_post) (fits : Fills place m q words) (all : IsAll place words) (n : Named place m q id)
      (here : m' (head_at place q.next) ≡ p.count) (other : (a : ℕ) → head_at place q.next ≢ a → m' a ≡ m a) where
    head_filled : Fills place m' q words
    head_filled = record {
      room = fits.room;
      low = fits.low;
      next_low = fits.next_low;
      each = λ k l. other (word_at place q.next k) (λ e. omega (arith, e, word_below place ok q.next k, id_low place 0, id_before_heads place ok n.send 0 q.next)) ∙ fits.each k l;
    }

    counted : Goes place m' (posted_one place p words) r d q (Some (Wrote words id))
    counted =
        let tied = with_stored (at_stage p Ready) (λ a above. other a (λ e. omega (arith, e, above, head_below place ok n.send q.next))) (head_stored place m m' q ok t.shape fits.room n.send other t.stored)
        (record { count = t.poster.count; index = t.poster.index; least = t.poster.least; room = omega (arith, leaves); stage = tt }) in
        wrote place m' (at_stage p Ready) r d q words id tied head_filled all (other (id_at place q.next) (λ e. omega (arith, e, id_before_heads place ok n.send q.next q.next)) ∙ n.id_is) (λ send. here ∙ t.poster.count) leaves

  -- the record
  rang : m' place.dbr ≡ record_of p.index → ((a : ℕ) → place.dbr ≢ a → m' a ≡ m a) → Goes place m' (at_stage p (cond (is_send place) Ringing Ready)) r d q (Some Rang)
  rang here other =
      let s = t.shape in
      let after : Queue = after_event place q Rang in
      let same : SameEntries place m m' = entries_kept place m m' ok (λ a below. other a (λ e. omega (arith, e, below, ok.record_next))) in
      let none : StageFits place m' after (cond (is_send place) Ringing Ready) = cond_both (is_send place) Ringing Ready (StageFits place m' after) (λ send. tt) (λ receive. tt) in
      let none_coming : coming (cond (is_send place) Ringing Ready) ≡ 0 = cond_both (is_send place) Ringing Ready (λ (s : Stage). coming s ≡ 0) (λ send. refl) (λ receive. refl) in (
        tt,
        record {
          shape = record { order = order_rung place q s.order; few = s.few; low = s.low; whole = s.whole };
          tail = other place.tail (λ e. omega (arith, e, ok.record_next)) ∙ t.tail;
          recorded = here ∙ ap record_of (t.poster.index ∙ sym (last_index place q s.order));
          stored = λ n low high. Stored_kept place m m' same q t.stored n low high;
          poster = record { count = t.poster.count; index = t.poster.index; least = t.poster.least; room = omega (arith, t.poster.room, none_coming); stage = none };
          retirer = RetirerFits_moved place q after refl (omega arith) (λ n h. refl) (λ n h. refl) r t.retirer;
          device = DeviceFits_moved q after refl s.order.rung (λ n h. refl) (λ n h. refl) d t.device;
        },
      )

  -- the register
  pressed : ((a : ℕ) → a ≤ place.dbr → m' a ≡ m a) → Tied place m' (at_stage p Ready) r d q
  pressed low =
      let same : SameEntries place m m' = entries_kept place m m' ok (λ a below. low a (omega (arith, below, ok.record_next))) in
      record {
        shape = t.shape;
        tail = low place.tail (omega (arith, ok.record_next)) ∙ t.tail;
        recorded = low place.dbr (omega arith) ∙ t.recorded;
        stored = Stored_kept place m m' same q t.stored;
        poster = record { count = t.poster.count; index = t.poster.index; least = t.poster.least; room = omega (arith, t.poster.room); stage = tt };
        retirer = t.retirer;
        device = t.device;
      }

-- an operation that stores leaves the word, and every other one as it was
stores : (m : Memory) (e : BusEntry) (address value : ℕ) → IsStore address value e → (a : ℕ) → address ≢ a → after_entry m e a ≡ m a
stores m e address value store a ne = elsewhere m e a (λ same. ne (sym store.at_address ∙ same))

register_last : (place : WqPlace) (reg : Option ℕ) (value : ℕ) (e : BusEntry) → IsPlace place → place.reg ≡ reg → IsRegisterStore reg value e → place.dbr < e.addr
register_last place None value e ok same may = absurd may
register_last place (Some a) value e ok same may = omega (arith, ok.register_last a same, may.at_address)

module _ (place : WqPlace) (m : Memory) (p : Poster) (r : Retirer) (d : WqReader) (q : Queue) (e : BusEntry) (ok : IsPlace place) (t : Tied place m p r d q) (tells : Tells m e) where
  abbrev after : Memory
  after = after_entry m e

  post : (stage : Stage) → StageFits place m q stage → p.count + coming stage ≤ p.seen + place.max_post → MayPostAt place p stage e → Goes place after (after_post_at place p stage e) r d q (post_says_at place p stage e)
  post Ready fits leaves may =
      let same : (a : ℕ) → after a ≡ m a = λ a. load_keeps m e a may.load.op in
      asked place after p r d q (Tied_kept place m after p r d q ok (λ a h. same a) t) (loaded e) (has_room place p e) (load_tells m e place.tail tells may.load.op may.load.at_address ∙ sym (same place.tail)) may.count may.index refl
  post (Storing words) fits leaves may =
      let store = subst (λ (i : ℕ). IsStore (word_at place i (length words)) (stored e) e) t.poster.index may in
      stored_word place m after p r d q ok t words (stored e) leaves fits.0 fits.1 (store_leaves m e _ (stored e) store.op store.at_address) (stores m e _ (stored e) store)
  post (Naming words) fits leaves may =
      let store = subst (λ (i : ℕ). IsStore (id_at place i) (stored e) e) t.poster.index may in
      named place m after p r d q ok t words (stored e) leaves fits.0 fits.1 (store_leaves m e _ (stored e) store.op store.at_address) (stores m e _ (stored e) store) (is_send place) refl
  post (Counting words id) fits leaves may =
      let store = subst (λ (i : ℕ). IsStore (head_at place i) p.count e) t.poster.index may in
      counted place m after p r d q ok t words id leaves fits.0 fits.1 fits.2 (store_leaves m e _ p.count store.op store.at_address) (stores m e _ p.count store)
  post Ringing fits leaves may = absurd may

  ring : (stage : Stage) → MayRingAt place p stage e → Goes place after (after_ring_at place p stage) r d q (ring_says_at stage)
  ring Ready may = rang place m after p r d q ok t (store_leaves m e place.dbr (record_of p.index) may.op may.at_address) (stores m e place.dbr (record_of p.index) may)
  ring (Storing words) may = absurd may
  ring (Naming words) may = absurd may
  ring (Counting words id) may = absurd may
  ring Ringing may =
      let above = register_last place place.reg p.first e ok refl may in
      pressed place m after p r d q ok t (λ a low. elsewhere m e a (λ same. omega (arith, same, low, above)))

pub poster_step : (place : WqPlace) (m : Memory) (p : Poster) (r : Retirer) (d : WqReader) (q : Queue) (mark : WqMark) (e : BusEntry) → IsPlace place → Tied place m p r d q → Tells m e → MayBring place p mark e →
    Goes place (after_entry m e) (after_bring place p mark e) r d q (brought place p mark e)
poster_step place m p r d q Post e ok t tells may = post place m p r d q e ok t tells p.stage t.poster.stage t.poster.room may
poster_step place m p r d q Ring e ok t tells may = ring place m p r d q e ok t tells p.stage may
poster_step place m p r d q (Lookup counter from) e ok t tells may = absurd may
poster_step place m p r d q Count e ok t tells may = absurd may
poster_step place m p r d q (Retire end) e ok t tells may = absurd may
poster_step place m p r d q Look e ok t tells may = absurd may
poster_step place m p r d q (Record passes) e ok t tells may = absurd may
poster_step place m p r d q Read e ok t tells may = absurd may
poster_step place m p r d q Foreign e ok t tells may = absurd may
