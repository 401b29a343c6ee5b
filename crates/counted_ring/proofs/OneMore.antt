-- The list with one request more, whose words are stored.
use Rattle.std.proofs.Common.{◌≡◌, ℕ, ◌+◌, ◌<◌, ◌≤◌, inl, inr, refl, ap, sym, ◌∙◌, subst, arith, true, List, length, Some}
use Rattle.std.specs.Prelude.{slice_index}
use Rattle.std.proofs.lemmas.Bool.{cases_Bool, cases_lt}
use Rattle.bus_core.specs.Trace.{Memory}
use Rattle.counted_ring.specs.declared.place.WqPlace.{WqPlace}
use Rattle.counted_ring.specs.Place.{is_send, most, span, id_at, head_at, record_of, all_words}
use Rattle.counted_ring.specs.Queue.{Request, Queue, Wrote, index_of}
use Rattle.counted_ring.specs.Poster.{Poster, posted_one}
use Rattle.counted_ring.specs.Retirer.{Retirer}
use Rattle.counted_ring.specs.Device.{WqReader}
use Rattle.counted_ring.proofs.Parts.{span_few}
use Rattle.counted_ring.proofs.Requests.{request_of, more, added, count_more, request_before, request_last, index_more}
use Rattle.counted_ring.proofs.Shape.{Shape, last_index}
use Rattle.counted_ring.proofs.Orders.{order_more}
use Rattle.counted_ring.proofs.Tied.{Tied, Goes, Holds, Fills, IsAll, Stored}
use Rattle.counted_ring.proofs.Moved.{RetirerFits_moved, DeviceFits_moved}

most_few : (place : WqPlace) → most place ≤ 4
most_few place = elim (cases_Bool (is_send place)) [ inl send ↦ rw send (omega arith) | inr receive ↦ rw receive (omega arith) ]

module _ (place : WqPlace) (m : Memory) (p : Poster) (r : Retirer) (d : WqReader) (q : Queue) (words : List ℕ) (id : ℕ) (t : Tied place m p r d q)
    (fills : Fills place m q words) (all : IsAll place words) (named : m (id_at place q.next) ≡ id) (counted : is_send place ≡ true → m (head_at place q.next) ≡ length q.requests)
    (leaves : p.count + 1 ≤ p.seen + place.max_post) where
  abbrev after : Queue
  after = more place q words id

  count : length after.requests ≡ length q.requests + 1
  count = count_more place q words id

  whole : (n : ℕ) → n < length after.requests → length (request_of after n).words ≡ all_words place (request_of after n).words
  whole n inside = elim (cases_lt n (length q.requests)) [
    | inl before ↦ subst (λ (x : Request). length x.words ≡ all_words place x.words) (sym (request_before place q words id n before)) (t.shape.whole n before)
    | inr past ↦ subst (λ (x : Request). length x.words ≡ all_words place x.words) (sym (request_last place q words id n (omega (arith, past, inside, count)))) all
  ]

  shape : Shape place after
  shape = record {
    order = order_more place q t.shape.order words id fills.room;
    few = omega (arith, count, fills.low);
    low = omega (arith, fills.next_low, span_few place (slice_index words 0), most_few place);
    whole = whole;
  }

  stored : Stored place m after
  stored n low inside = elim (cases_lt n (length q.requests)) [
    | inl before ↦
        subst (λ (x : Request). Holds place m (index_of after n) n x) (sym (request_before place q words id n before))
        (subst (λ (i : ℕ). Holds place m i n (request_of q n)) (sym (index_more place q words id n (omega (arith, before)))) (t.stored n low before))
    | inr past ↦
        let last : n ≡ length q.requests = omega (arith, past, inside, count) in
        let here : index_of after n ≡ q.next = index_more place q words id n (omega (arith, last)) ∙ (ap (index_of q) last ∙ last_index place q t.shape.order) in
        let holds : Holds place m q.next n (added place q words id) = record { each = fills.each; id = named; head = λ send. counted send ∙ sym last } in
        subst (λ (x : Request). Holds place m (index_of after n) n x) (sym (request_last place q words id n last)) (subst (λ (i : ℕ). Holds place m i n (added place q words id)) (sym here) holds)
  ]

  pub wrote : Goes place m (posted_one place p words) r d q (Some (Wrote words id))
  wrote =
      let s = t.shape.order in (
        record { room = fills.room; whole = all },
        record {
          shape = shape;
          tail = t.tail;
          recorded = t.recorded ∙ ap record_of (sym (index_more place q words id q.rung s.rung));
          stored = stored;
          poster = record { count = omega (arith, t.poster.count, count); index = ap (λ i. i + span place (slice_index words 0)) t.poster.index; least = t.poster.least; room = omega (arith, leaves); stage = tt };
          retirer = RetirerFits_moved place q after refl (omega arith) (λ n h. index_more place q words id n (omega (arith, h, s.taken, s.rung))) (λ n h. request_before place q words id n (omega (arith, h, s.taken, s.rung))) r t.retirer;
          device = DeviceFits_moved q after refl (omega arith) (λ n h. index_more place q words id n (omega (arith, h, s.rung))) (λ n h. request_before place q words id n (omega (arith, h, s.rung))) d t.device;
        },
      )
