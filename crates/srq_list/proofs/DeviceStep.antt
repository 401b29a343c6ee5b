-- One operation of the device keeps what ties words, users and list, and what it says is a step of the list.
use Rattle.std.proofs.Common.{◌≡◌, ◌≢◌, ℕ, ◌+◌, ◌-◌, ◌^◌, ◌<◌, inl, inr, refl, ap, sym, ◌∙◌, arith, cond, eqb, List, [], ◌∷◌, ◌++◌, length, get_or, take, Option, Some, length-append}
use Rattle.std.proofs.Math.Seq.{take-length}
use Rattle.std.proofs.lemmas.Bool.{cases_Bool, eqb-true, eqb-false}
use Rattle.std.proofs.lemmas.List.{take_more}
use Rattle.std.proofs.lemmas.Option.{slice_get-get_or}
use Rattle.bus_core.specs.declared.operation.BusEntry.{BusEntry}
use Rattle.bus_core.specs.Operation.{loaded}
use Rattle.bus_core.specs.Trace.{Memory, after_entry, Tells}
use Rattle.bus_core.proofs.Words.{load_keeps, load_tells}
use Rattle.srq_list.specs.declared.place.SrqPlace.{SrqPlace}
use Rattle.srq_list.specs.Place.{IsPlace, entry_words, next_at, entry_at, next_of, record_of, shown}
use Rattle.srq_list.specs.Queue.{SharedQueue, SrqEvent, Showed, NoneThere, Took, MayTake, after_event}
use Rattle.srq_list.specs.Mark.{SrqMark, Begin, Fill, Ring, Lookup, Link, Free, Take, Foreign}
use Rattle.srq_list.specs.Poster.{Poster}
use Rattle.srq_list.specs.Freer.{Freer}
use Rattle.srq_list.specs.Device.{Taker, Progress, Asking, Fetching, Reading, at_progress, ready, MayTakeAt, MayTakeBy, after_take_at, after_take, take_says_at, take_says, taker_with, words_say}
use Rattle.srq_list.proofs.Slots.{shown_is, few_slots}
use Rattle.srq_list.proofs.Shape.{nothing, receive_of, kept, window, shape_took}
use Rattle.srq_list.proofs.Tied.{Tied, Tied_kept, Tied_taker, Goes, Reads, ProgressFits}
use Rattle.srq_list.proofs.Moved.{PosterFits_moved}

module _ (place : SrqPlace) (start : ℕ) (m : Memory) (p : Poster) (f : Freer) (d : Taker) (q : SharedQueue) (ok : IsPlace place) (t : Tied place start m p f d q) where
  -- the record shows all that was rung
  pub ready_is : (word : ℕ) → word ≡ m place.dbr → ready start d word ≡ q.rung - q.taken
  ready_is word is =
      let near : q.rung < q.taken + 2 ^ 16 = omega (arith, t.shape.rung, t.shape.room, window place q t.shape, few_slots place ok) in
      ap (λ n. shown (record_of start n) word) t.taker.taken ∙ shown_is start q.taken q.rung word t.shape.taken near (is ∙ t.recorded)

  at_stage : (progress : Progress) → ProgressFits place q progress → Tied place start m p f (at_progress d progress) q
  at_stage progress fits = Tied_taker place start m p f d (at_progress d progress) q (record { taken = t.taker.taken; slot = t.taker.slot; progress = fits }) t

  asked : (word : ℕ) → word ≡ m place.dbr → Goes place start m p f (at_progress d (cond (eqb (ready start d word) 0) Asking Fetching)) q
      (cond {A = Option SrqEvent} (eqb (ready start d word) 0) (Some (NoneThere d.taken)) (Some (Showed (d.taken + ready start d word))))
  asked word is =
      let count = ready_is word is in
      elim (cases_Bool (eqb (ready start d word) 0)) [
        | inl none ↦ rw none (
          (let e : q.taken ≡ q.rung = omega (arith, eqb-true (ready start d word) 0 none, count, t.shape.taken) in e, t.taker.taken),
          at_stage Asking tt,
        )
        | inr some ↦
            let rung : q.taken < q.rung = omega (arith, eqb-false (ready start d word) 0 some, count) in
            rw some ((rung, omega (arith, count, t.taker.taken, t.shape.taken)), at_stage Fetching rung)
      ]

  module _ (rung : q.taken < q.rung) where
    inside : q.taken < length q.receives
    inside = omega (arith, rung, t.shape.rung)

    fetched : (word : ℕ) → word ≡ m (next_at place d.slot) → Tied place start m p f (at_progress d (Reading (next_of place word) [])) q
    fetched word is = at_stage (Reading (next_of place word) []) (record {
      rung = rung;
      next_is = ap (next_of place) (is ∙ ap (λ slot. m (next_at place slot)) t.taker.slot) ∙ t.linked q.taken (omega arith) (omega (arith, inside, t.shape.room));
      part = omega (arith, ok.some_words);
      words_are = refl;
    })

    abbrev entry : List ℕ
    entry = (receive_of q q.taken).words

    whole : length entry ≡ entry_words place
    whole = t.shape.whole q.taken inside

    module _ (next word : ℕ) (words : List ℕ) (reads : Reads place q next words) (is : word ≡ m (entry_at place d.slot (length words))) where
      abbrev more : List ℕ
      more = words ++ word ∷ []

      word_is : word ≡ get_or entry (length words) 0
      word_is = is ∙ (ap (λ slot. m (entry_at place slot (length words))) t.taker.slot ∙ (t.stored q.taken inside (kept place q t.shape q.taken (omega arith))).each (length words) reads.part)

      long : length more ≡ length words + 1
      long = length-append words (word ∷ [])

      words_are : more ≡ take (length words + 1) entry
      words_are = ap (λ ws. ws ++ word ∷ []) reads.words_are ∙ (ap (λ w. take (length words) entry ++ w ∷ []) word_is ∙ sym (take_more entry (length words) 0 (omega (arith, whole, reads.part))))

      took : length more ≡ entry_words place → MayTake q d.slot more × Tied place start m p f (record { taken = d.taken + 1; slot = next; progress = Asking }) (after_event q (Took d.slot more))
      took full =
          let s = t.shape in
          let after : SharedQueue = after_event q (Took d.slot more) in
          let all : length words + 1 ≡ length entry = omega (arith, long, full, whole) in (
            record {
              rung = rung;
              receive = receive_of q q.taken;
              found = slice_get-get_or q.receives q.taken nothing inside;
              slot_is = t.taker.slot ∙ sym (s.placed q.taken inside);
              words_are = words_are ∙ (ap (λ n. take n entry) all ∙ take-length entry);
            },
            record {
              shape = shape_took place q s rung;
              tail = t.tail;
              recorded = t.recorded;
              linked = λ n low high. t.linked n (omega (arith, low)) high;
              stored = λ n low keeps. t.stored n low keeps;
              poster = PosterFits_moved place m q after s refl refl (omega arith) (λ n low. refl) p t.poster;
              freer = record { tail = t.freer.tail; link = t.freer.link };
              taker = record { taken = ap (λ n. n + 1) t.taker.taken; slot = reads.next_is; progress = tt };
            },
          )

      read_on : length more ≢ entry_words place → Tied place start m p f (at_progress d (Reading next more)) q
      read_on part = at_stage (Reading next more) (record {
        rung = rung;
        next_is = reads.next_is;
        part = omega (arith, part, long, reads.part);
        words_are = words_are ∙ ap (λ n. take n entry) (sym long);
      })

      read : Goes place start m p f (taker_with place d next more) q (words_say place d.slot more)
      read = elim (cases_Bool (eqb (length more) (entry_words place))) [
        | inl full ↦ rw full (took (eqb-true (length more) (entry_words place) full))
        | inr part ↦ rw part (read_on (eqb-false (length more) (entry_words place) part))
      ]

module _ (place : SrqPlace) (start : ℕ) (m : Memory) (p : Poster) (f : Freer) (d : Taker) (q : SharedQueue) (e : BusEntry) (ok : IsPlace place) (t : Tied place start m p f d q) (tells : Tells m e) where
  abbrev after : Memory
  after = after_entry m e

  takes : (progress : Progress) → ProgressFits place q progress → MayTakeAt place d progress e → Goes place start after p f (after_take_at place start d progress e) q (take_says_at place start d progress e)
  takes Asking fits may =
      let same : (a : ℕ) → after a ≡ m a = λ a. load_keeps m e a may.op in
      asked place start after p f d q ok (Tied_kept place start m after p f d q ok (λ a h. same a) t) (loaded e) (load_tells m e place.dbr tells may.op may.at_address ∙ sym (same place.dbr))
  takes Fetching fits may =
      let same : (a : ℕ) → after a ≡ m a = λ a. load_keeps m e a may.op in
      fetched place start after p f d q ok (Tied_kept place start m after p f d q ok (λ a h. same a) t) fits (loaded e) (load_tells m e (next_at place d.slot) tells may.op may.at_address ∙ sym (same (next_at place d.slot)))
  takes (Reading next words) fits may =
      let same : (a : ℕ) → after a ≡ m a = λ a. load_keeps m e a may.op in
      let address : ℕ = entry_at place d.slot (length words) in
      read place start after p f d q ok (Tied_kept place start m after p f d q ok (λ a h. same a) t) fits.rung next (loaded e) words fits (load_tells m e address tells may.op may.at_address ∙ sym (same address))

pub device_step : (place : SrqPlace) (start : ℕ) (m : Memory) (p : Poster) (f : Freer) (d : Taker) (q : SharedQueue) (mark : SrqMark) (e : BusEntry) → IsPlace place → Tied place start m p f d q → Tells m e → MayTakeBy place d mark e →
    Goes place start (after_entry m e) p f (after_take place start d mark e) q (take_says place start d mark e)
device_step place start m p f d q Take e ok t tells may = takes place start m p f d q e ok t tells d.progress t.taker.progress may
device_step place start m p f d q (Begin pending slot) e ok t tells may = absurd may
device_step place start m p f d q Fill e ok t tells may = absurd may
device_step place start m p f d q (Ring pending slot) e ok t tells may = absurd may
device_step place start m p f d q (Lookup slot) e ok t tells may = absurd may
device_step place start m p f d q (Link slot) e ok t tells may = absurd may
device_step place start m p f d q (Free slot) e ok t tells may = absurd may
device_step place start m p f d q Foreign e ok t tells may = absurd may
