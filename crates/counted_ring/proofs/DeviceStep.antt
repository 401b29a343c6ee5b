-- One operation of the device keeps what ties words, users and list, and what it says is a step of the list.
use Rattle.std.proofs.Common.{◌≡◌, ◌≢◌, ℕ, ◌+◌, ◌-◌, ◌*◌, ◌^◌, ◌<◌, ◌≤◌, inl, inr, refl, ap, sym, ◌∙◌, subst, arith, Bool, true, false, ltb, List, [], ◌∷◌, ◌++◌, length, get_or, take, Option, Some, None, length-append}
use Rattle.std.specs.Prelude.{slice_index}
use Rattle.std.proofs.Math.Seq.{take-length}
use Rattle.std.proofs.lemmas.Bool.{cases_Bool, cases_lt, cond-false, le-ltb, eqb-true, eqb-false}
use Rattle.std.proofs.lemmas.List.{take_more, get_or-take}
use Rattle.std.proofs.lemmas.Option.{slice_get-get_or}
use Rattle.bus_core.specs.declared.operation.BusEntry.{BusEntry}
use Rattle.bus_core.specs.declared.operation.BusOp.TheVariants.{Load}
use Rattle.bus_core.specs.Operation.{loaded}
use Rattle.bus_core.specs.Trace.{Memory, after_entry, Tells}
use Rattle.bus_core.proofs.Words.{load_keeps, load_tells}
use Rattle.counted_ring.specs.declared.place.WqPlace.{WqPlace}
use Rattle.counted_ring.specs.Place.{IsPlace, is_send, word_at, span, shown}
use Rattle.counted_ring.specs.Queue.{Queue, Counted, Took, MayTake, index_of, after_event}
use Rattle.counted_ring.specs.Mark.{WqMark, Post, Ring, Lookup, Count, Retire, Look, Record, Read, Foreign}
use Rattle.counted_ring.specs.Poster.{Poster}
use Rattle.counted_ring.specs.Retirer.{Retirer}
use Rattle.counted_ring.specs.Device.{WqReader, IsLook, reach, is_whole, pass_if, reader_with, words_say}
use Rattle.counted_ring.specs.DeviceView.{MayDeliver, after_deliver, delivered}
use Rattle.counted_ring.proofs.Slots.{shown_is}
use Rattle.counted_ring.proofs.Requests.{request_of, span_of}
use Rattle.counted_ring.proofs.Shape.{product_some, span_some, rises, rises_by, last_index, window}
use Rattle.counted_ring.proofs.Orders.{order_taken}
use Rattle.counted_ring.proofs.Tied.{Tied, Tied_kept, Tied_device, Goes, Reads, DeviceFits}
use Rattle.counted_ring.proofs.Moved.{PosterFits_moved, RetirerFits_moved}

-- an entry whose blocks the record showed is read whole
reaches : (place : WqPlace) (ready first : ℕ) → span place first ≤ ready → reach place ready first ≡ span place first
reaches place ready first h = cond-false (ltb ready (span place first)) ready (span place first) (le-ltb ready (span place first) h)

module _ (place : WqPlace) (m : Memory) (p : Poster) (r : Retirer) (d : WqReader) (q : Queue) (ok : IsPlace place) (t : Tied place m p r d q) where
  abbrev fits : DeviceFits q d
  fits = t.device

  -- the next request is taken
  module _ (d' : WqReader) (rung : q.taken < q.rung) where
    abbrev after : Queue
    after = record { requests = q.requests; next = q.next; rung = q.rung; taken = q.taken + 1; retired = q.retired }

    tied_taken : DeviceFits after d' → Tied place m p r d' after
    tied_taken fits' =
        record {
          shape = record { order = order_taken place q t.shape.order rung; few = t.shape.few; low = t.shape.low; whole = t.shape.whole };
          tail = t.tail;
          recorded = t.recorded;
          stored = λ n low high. t.stored n low high;
          poster = PosterFits_moved place m q after refl (omega arith) refl p t.poster;
          retirer = RetirerFits_moved place q after refl (omega arith) (λ n h. refl) (λ n h. refl) r t.retirer;
          device = fits';
        }

  looked : (register : ℕ) → Tied place m p r (record { next = d.next; ready = d.ready; register = register; words = d.words }) q
  looked register = Tied_device place m p r d (record { next = d.next; ready = d.ready; register = register; words = d.words }) q
      (record { seen = fits.seen; low = fits.low; high = fits.high; next_is = fits.next_is; ready_is = fits.ready_is; words = fits.words }) t

  -- the record shows all that was rung
  shown_all : (word : ℕ) → word ≡ m place.dbr → shown d.next word ≡ index_of q q.rung - index_of q q.taken
  shown_all word is =
      let s = t.shape.order in
      let low = rises place q s q.taken q.rung s.taken s.rung in
      let first = rises place q s q.retired q.taken s.retired (omega (arith, s.taken, s.rung)) in
      let high = rises place q s q.rung (length q.requests) s.rung (omega arith) in
      let next = fits.next_is in
      let near : index_of q q.rung < d.next + 2 ^ 16 = omega (arith, next, first, high, last_index place q s, window place q s ok, ok.few_blocks) in
      let small : d.next < 2 ^ 63 = omega (arith, next, low, high, last_index place q s, t.shape.low) in
      omega (arith, next, shown_is d.next (index_of q q.rung) word (omega (arith, next, low)) near small (is ∙ t.recorded))

  all_ready : (word : ℕ) → word ≡ m place.dbr → d.next + shown d.next word ≡ index_of q q.rung
  all_ready word is = omega (arith, fits.next_is, shown_all word is, rises place q t.shape.order q.taken q.rung t.shape.order.taken t.shape.order.rung)

  recorded_fits : (word register : ℕ) → word ≡ m place.dbr → d.words ≡ [] → DeviceFits q (record { next = d.next; ready = shown d.next word; register = register; words = d.words })
  recorded_fits word register is between = record { seen = q.rung; low = t.shape.order.taken; high = omega arith; next_is = fits.next_is; ready_is = all_ready word is; words = inl between }

  -- blocks that are shown are those of requests
  is_seen : (seen ready : ℕ) → q.taken ≤ seen → d.next + ready ≡ index_of q seen → 0 < ready → q.taken < seen
  is_seen seen ready low is some = elim (cases_lt q.taken seen) [
    | inl h ↦ h
    | inr h ↦ let e : index_of q q.taken ≡ index_of q seen = ap (index_of q) (omega (arith, low, h)) in absurd (omega (arith, is, some, e, fits.next_is))
  ]

  counted : (passes : Bool) (word : ℕ) → word ≡ m place.dbr → d.words ≡ [] → (passes ≡ true → is_send place ≡ false) → (passes ≡ true → 0 < shown d.next word) →
      Goes place m p r (pass_if passes (record { next = d.next; ready = shown d.next word; register = d.register; words = d.words })) q (Some (Counted (shown d.next word) passes))
  counted false word is between receive shows = (
    record { ready_is = shown_all word is; one = λ no. absurd cc },
    Tied_device place m p r d (record { next = d.next; ready = shown d.next word; register = d.register; words = d.words }) q (recorded_fits word d.register is between) t,
  )
  counted true word is between receive shows =
      let s = t.shape.order in
      let ready = all_ready word is in
      let rung : q.taken < q.rung = is_seen q.rung (shown d.next word) s.taken ready (shows refl) in
      let one : span_of place q q.taken ≡ 1 = rw (receive refl) refl in
      let next : index_of q (q.taken + 1) ≡ d.next + 1 = omega (arith, s.spaced q.taken (omega (arith, rung, s.rung)), one, fits.next_is) in (
        record { ready_is = shown_all word is; one = λ yes. rung },
        tied_taken (record { next = d.next + 1; ready = shown d.next word - 1; register = d.register; words = d.words }) rung
            (record { seen = q.rung; low = omega (arith, rung); high = omega arith; next_is = sym next; ready_is = omega (arith, ready, shows refl); words = inl between }),
      )

  module _ (ready : 0 < d.ready) where
    shows : q.taken < fits.seen
    shows = is_seen fits.seen d.ready fits.low fits.ready_is ready

    inside : q.taken < length q.requests
    inside = omega (arith, shows, fits.high, t.shape.order.rung)

    abbrev entry : List ℕ
    entry = (request_of q q.taken).words

    whole : length entry ≡ span_of place q q.taken * place.stride
    whole = t.shape.whole q.taken inside

    some_words : 0 < length entry
    some_words = omega (arith, whole, product_some (span_of place q q.taken) place.stride (span_some place (slice_index entry 0)) ok.some_stride)

    reads : Reads q d.words
    reads = elim fits.words [
      | inl none ↦ subst (Reads q) (sym none) (record { shown = omega (arith, shows, fits.high); part = some_words; words_are = refl })
      | inr r ↦ r
    ]

    -- its blocks were shown
    spanned : span_of place q q.taken ≤ d.ready
    spanned = omega (arith, rises_by place q t.shape.order q.taken fits.seen shows (omega (arith, fits.high, t.shape.order.rung)), fits.next_is, fits.ready_is)

    module _ (word : ℕ) (is : word ≡ m (word_at place d.next (length d.words))) where
      abbrev words : List ℕ
      words = d.words ++ word ∷ []

      word_is : word ≡ get_or entry (length d.words) 0
      word_is = is ∙ (ap (λ i. m (word_at place i (length d.words))) fits.next_is ∙ (t.stored q.taken t.shape.order.retired inside).each (length d.words) reads.part)

      long : length words ≡ length d.words + 1
      long = omega (arith, length-append d.words (word ∷ []))

      words_are : words ≡ take (length d.words + 1) entry
      words_are = ap (λ ws. ws ++ word ∷ []) reads.words_are ∙ (ap (λ w. take (length d.words) entry ++ w ∷ []) word_is ∙ sym (take_more entry (length d.words) 0 reads.part))

      reach_is : reach place d.ready (slice_index words 0) ≡ span_of place q q.taken
      reach_is =
          let first : slice_index words 0 ≡ slice_index entry 0 = ap (λ ws. slice_index ws 0) words_are ∙ get_or-take (length d.words + 1) entry 0 0 (omega arith) in
          ap (reach place d.ready) first ∙ reaches place d.ready (slice_index entry 0) spanned

      all_is : reach place d.ready (slice_index words 0) * place.stride ≡ length entry
      all_is = ap (λ b. b * place.stride) reach_is ∙ sym whole

      took : length words ≡ reach place d.ready (slice_index words 0) * place.stride →
          MayTake q words × Tied place m p r (record { next = d.next + reach place d.ready (slice_index words 0); ready = d.ready - reach place d.ready (slice_index words 0); register = d.register; words = [] }) (after_event place q (Took words))
      took full =
          let count : length d.words + 1 ≡ length entry = omega (arith, long, full, all_is) in
          let next = t.shape.order.spaced q.taken inside in (
            record {
              rung = omega (arith, shows, fits.high);
              request = request_of q q.taken;
              found = slice_get-get_or q.requests q.taken (record { index = 0; words = []; id = 0 }) inside;
              words_are = words_are ∙ (ap (λ n. take n entry) count ∙ take-length entry);
            },
            tied_taken (record { next = d.next + reach place d.ready (slice_index words 0); ready = d.ready - reach place d.ready (slice_index words 0); register = d.register; words = [] })
                (omega (arith, shows, fits.high))
                (record {
                  seen = fits.seen;
                  low = omega (arith, shows);
                  high = fits.high;
                  next_is = omega (arith, next, reach_is, fits.next_is);
                  ready_is = omega (arith, reach_is, spanned, fits.ready_is);
                  words = inl refl;
                }),
          )

      read_on : length words ≢ reach place d.ready (slice_index words 0) * place.stride → Tied place m p r (record { next = d.next; ready = d.ready; register = d.register; words = words }) q
      read_on part = Tied_device place m p r d (record { next = d.next; ready = d.ready; register = d.register; words = words }) q (record {
        seen = fits.seen;
        low = fits.low;
        high = fits.high;
        next_is = fits.next_is;
        ready_is = fits.ready_is;
        words = inr (record {
          shown = reads.shown;
          part = omega (arith, part, long, all_is, reads.part);
          words_are = words_are ∙ ap (λ n. take n entry) (sym long);
        });
      }) t

      read : Goes place m p r (reader_with place d words) q (words_say place d.ready words)
      read = elim (cases_Bool (is_whole place d.ready words)) [
        | inl full ↦ rw full (took (eqb-true (length words) (reach place d.ready (slice_index words 0) * place.stride) full))
        | inr part ↦ rw part (read_on (eqb-false (length words) (reach place d.ready (slice_index words 0) * place.stride) part))
      ]

look_loads : (reg : Option ℕ) (e : BusEntry) → IsLook reg e → e.op ≡ Load
look_loads None e may = absurd may
look_loads (Some r) e may = may.op

pub device_step : (place : WqPlace) (m : Memory) (p : Poster) (r : Retirer) (d : WqReader) (q : Queue) (mark : WqMark) (e : BusEntry) → IsPlace place → Tied place m p r d q → Tells m e → MayDeliver place d mark e →
    Goes place (after_entry m e) p r (after_deliver place d mark e) q (delivered place d mark e)
device_step place m p r d q Look e ok t tells may =
    let m' : Memory = after_entry m e in
    looked place m' p r d q ok (Tied_kept place m m' p r d q ok (λ a h. load_keeps m e a (look_loads place.reg e may.load)) t) (loaded e)
device_step place m p r d q (Record passes) e ok t tells may =
    let m' : Memory = after_entry m e in
    let same : (a : ℕ) → m' a ≡ m a = λ a. load_keeps m e a may.load.op in
    counted place m' p r d q ok (Tied_kept place m m' p r d q ok (λ a h. same a) t) passes (loaded e)
    (load_tells m e place.dbr tells may.load.op may.load.at_address ∙ sym (same place.dbr)) may.between may.receive may.shows
device_step place m p r d q Read e ok t tells may =
    let m' : Memory = after_entry m e in
    let same : (a : ℕ) → m' a ≡ m a = λ a. load_keeps m e a may.load.op in
    let address : ℕ = word_at place d.next (length d.words) in
    read place m' p r d q ok (Tied_kept place m m' p r d q ok (λ a h. same a) t) (omega (arith, may.ready)) (loaded e) (load_tells m e address tells may.load.op may.load.at_address ∙ sym (same address))
device_step place m p r d q Post e ok t tells may = absurd may
device_step place m p r d q Ring e ok t tells may = absurd may
device_step place m p r d q (Lookup counter from) e ok t tells may = absurd may
device_step place m p r d q Count e ok t tells may = absurd may
device_step place m p r d q (Retire end) e ok t tells may = absurd may
device_step place m p r d q Foreign e ok t tells may = absurd may
