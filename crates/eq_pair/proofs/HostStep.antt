-- One operation of the host's side keeps what ties words, sides and list, and what it says is a step of the list.
use Rattle.std.proofs.Common.{◌≡◌, ℕ, ◌+◌, ◌-◌, ◌≤◌, refl, ap, sym, ◌∙◌, subst, arith, Bool, true, false, cond, eqb, List, [], ◌∷◌, ◌++◌, length, get_or, Some, None}
use Rattle.std.specs.Prelude.{slice_get}
use Rattle.std.proofs.Math.ListN.{drop_of_length-le}
use Rattle.std.proofs.lemmas.Bool.{eq-eqb, ne_eqb}
use Rattle.std.proofs.lemmas.Option.{slice_get_within, slice_get-get_or, get_or_from_slice_get}
use Rattle.bus_core.specs.declared.operation.BusEntry.{BusEntry}
use Rattle.bus_core.specs.declared.operation.BusOp.TheVariants.{Store}
use Rattle.bus_core.specs.Operation.{IsLoad, IsStore, loaded, stored, carried}
use Rattle.bus_core.specs.Trace.{Memory, after_entry, Tells}
use Rattle.verbs_types.specs.declared.completion.EventRecord.{EventRecord}
use Rattle.cqe_format.specs.Bytes.{entry_bytes}
use Rattle.cqe_format.specs.Event.{IsEqe}
use Rattle.cqe_format.proofs.Values.{one_event}
use Rattle.owner_ring.specs.Place.{slot, is_owned, IsPlace}
use Rattle.owner_ring.specs.Ring.{Ring, published, IsEntry}
use Rattle.owner_ring.specs.Ring as ring
use Rattle.owner_ring.specs.Mark as ring_marks
use Rattle.owner_ring.specs.Consumer.{MayConsume}
use Rattle.owner_ring.specs.Consumer as ring_side
use Rattle.owner_ring.proofs.Tied as ring_tied
use Rattle.owner_ring.proofs.Tied.{Tied_consumer, entry_at}
use Rattle.owner_ring.proofs.ConsumerStep.{consumer_step, published_fewer, entry_after}
use Rattle.eq_pair.specs.declared.place.EqPlace.{EqPlace}
use Rattle.eq_pair.specs.Place.{ring_of, register_of}
use Rattle.eq_pair.specs.Mark.{EqMark, Write, Look, Read, Take, Register, Foreign}
use Rattle.eq_pair.specs.Queue.{EventList, Took, NoEvent, Gave, MayTake, MayGive, after_event}
use Rattle.eq_pair.specs.Device.{EventWriter}
use Rattle.eq_pair.specs.Host.{EventTaker, Waiting, Reading, Holding, next_index, consumer_of, IsReadAs, whole_entry, after_take, takes}
use Rattle.eq_pair.specs.Host as host
use Rattle.eq_pair.proofs.Tied.{Tied, Fits, Goes, producer_of, next_given}

module _ (place : EqPlace) (m : Memory) (d : EventWriter) (q : EventList) (entries : Ring) where
  abbrev RingTied : ring_side.Consumer → Type 0
  RingTied c = ring_tied.Tied (ring_of place) m (producer_of d) c entries

  -- a look forgets the event that was held
  lower_waiting : (i n : ℕ) → RingTied (ring_side.Waiting i n) → i ≤ n → RingTied (ring_side.Waiting i i)
  lower_waiting i n t low = Tied_consumer (ring_of place) m (producer_of d) (ring_side.Waiting i n) (ring_side.Waiting i i) entries (record { acked_is = t.consumer.acked_is; next_in = omega (arith, t.consumer.next_in) }) t

  lower_reading : (i n last : ℕ) → RingTied (ring_side.Reading i n i last []) → i ≤ n → RingTied (ring_side.Reading i i i last [])
  lower_reading i n last t low = Tied_consumer (ring_of place) m (producer_of d) (ring_side.Reading i n i last []) (ring_side.Reading i i i last []) entries (record { acked_is = t.consumer.0.acked_is; next_in = omega (arith, t.consumer.0.next_in) }, t.consumer.1) t

  looks : (h : EventTaker) (i n word : ℕ) (owned : Bool) → Fits entries h q → i ≡ entries.acked → i ≤ n →
      ring_tied.Goes (ring_of place) m (producer_of d) (cond owned (ring_side.Reading i n i word []) (ring_side.Waiting i n)) entries (cond owned None (Some (ring.Empty i))) →
      Goes place m d (cond owned (Reading i word []) (Waiting i)) q (cond owned None (Some (NoEvent i)))
  looks h i n word true f is low g = record { entries = entries; ring = lower_reading i n word g low; fits = record { given = f.given; count = f.count; spelled = f.spelled; taker = tt } }
  looks h i n word false f is low g = (
    record { index_is = omega (arith, is, f.given); none = drop_of_length-le q.written (omega (arith, g.0, f.count, f.given, is)) },
    record { entries = entries; ring = lower_waiting i n g.1 low; fits = record { given = f.given; count = f.count; spelled = f.spelled; taker = tt } },
  )

  reads : (i last word : ℕ) (ws : List ℕ) (full : Bool) → full ≡ false → Fits entries (Reading i last ws) q →
      ring_tied.Goes (ring_of place) m (producer_of d) (cond full (ring_side.Waiting i (i + 1)) (ring_side.Reading i i i last (ws ++ word ∷ []))) entries (cond full (Some (ring.Took i (whole_entry ws word last))) None) →
      Tied place m d (Reading i last (ws ++ word ∷ [])) q
  reads i last word ws true is f g = absurd (cc)
  reads i last word ws false is f g = record { entries = entries; ring = g; fits = record { given = f.given; count = f.count; spelled = f.spelled; taker = tt } }

  takes_entry : (i last word : ℕ) (ws : List ℕ) (event : EventRecord) (full : Bool) → full ≡ true → Fits entries (Reading i last ws) q → i ≡ entries.acked → IsReadAs (whole_entry ws word last) event →
      ring_tied.Goes (ring_of place) m (producer_of d) (cond full (ring_side.Waiting i (i + 1)) (ring_side.Reading i i i last (ws ++ word ∷ []))) entries (cond full (Some (ring.Took i (whole_entry ws word last))) None) →
      MayTake q i event × Tied place m d (Holding i event) (after_event q (Took i event))
  takes_entry i last word ws event false full f is read_as g = absurd (cc)
  takes_entry i last word ws event true full f is read_as g =
      let entry = whole_entry ws word last in
      let inside = slice_get_within entries.entries (i - entries.acked) entry g.0.found in
      let first : EventRecord = get_or q.written i event in
      let found : slice_get q.written i ≡ Some first = slice_get-get_or q.written i event (omega (arith, inside, f.count, g.0.acked)) in
      let spelled : IsEqe first (entry_bytes entry) = subst (λ (xs : List ℕ). IsEqe first (entry_bytes xs)) (get_or_from_slice_get entries.entries (i - entries.acked) entry [] g.0.found) (f.spelled i first g.0.acked found) in
      let same : first ≡ event = one_event first event (entry_bytes entry) spelled (read_as (first, spelled)) in
      let taken : slice_get q.written i ≡ Some event = found ∙ ap (λ (x : EventRecord). Some x) same in (
        record { index_is = omega (arith, is, f.given); found = taken },
        record { entries = entries; ring = g.1; fits = record { given = f.given; count = f.count; spelled = f.spelled; taker = (refl, taken) } },
      )

  gives : (i : ℕ) (event : EventRecord) → Fits entries (Holding i event) q → i ≡ entries.acked → ring_tied.Goes (ring_of place) m (producer_of d) (ring_side.Waiting (i + 1) (i + 1)) entries (Some (ring.Acked (i + 1))) →
      MayGive q i event × Tied place m d (Waiting (i + 1)) (after_event q (Gave i event))
  gives i event f is g =
      let rest = ring.after_event entries (ring.Acked (i + 1)) in (
        record { index_is = omega (arith, is, f.given); taken = f.taker.0; found = f.taker.1 },
        record {
          entries = rest;
          ring = g.1;
          fits = record {
            given = refl;
            count = f.count ∙ sym (published_fewer entries (i + 1) g.0.0 g.0.1);
            spelled = λ n x low h. subst (λ (xs : List ℕ). IsEqe x (entry_bytes xs)) (sym (entry_after entries (i + 1) g.0.0 g.0.1 n low)) (f.spelled n x (omega (arith, is, low)) h);
            taker = tt;
          };
        },
      )

-- the register's word records the index
registers : (place : EqPlace) (i : ℕ) (e : BusEntry) → IsStore place.reg (register_of place (i + 1)) e → MayConsume (ring_of place) (ring_side.Waiting i (i + 1)) (ring_marks.Acknowledge (i + 1)) e
registers place i e store =
    let word : stored e ≡ register_of place (i + 1) = ap carried store.op in
    record {
      reachable = record { acked = omega arith; next = omega arith };
      store = record { op = store.op ∙ ap Store (sym word); at_address = store.at_address };
      recorded = omega (arith, word);
    }

-- the next entry may be looked at, whatever else the side is at
looks_at : (h : EventTaker) → ring_side.IsReachable (consumer_of h) (next_index h)
looks_at (Waiting i) = record { acked = omega arith; next = omega arith }
looks_at (Reading i last ws) = record { acked = omega arith; next = omega arith }
looks_at (Holding i event) = record { acked = omega arith; next = omega arith }

-- what a look makes of the ring
look : (place : EqPlace) (m : Memory) (d : EventWriter) (h : EventTaker) (q : EventList) (e : BusEntry) → IsPlace (ring_of place) → (t : Tied place m d h q) → Tells m e → IsLoad (slot (ring_of place) (next_index h) 7) e →
    ring_tied.Goes (ring_of place) (after_entry m e) (producer_of d) (ring_side.after_consume (ring_of place) (consumer_of h) (ring_marks.Look (next_index h)) e) t.entries (ring_side.consumed (ring_of place) (consumer_of h) (ring_marks.Look (next_index h)) e)
look place m d h q e ok t tells load = consumer_step (ring_of place) m (producer_of d) (consumer_of h) t.entries (ring_marks.Look (next_index h)) e ok t.ring tells (record { reachable = looks_at h; load = load })

pub host_step : (place : EqPlace) (m : Memory) (d : EventWriter) (h : EventTaker) (q : EventList) (mark : EqMark) (e : BusEntry) → IsPlace (ring_of place) → Tied place m d h q → Tells m e → host.MayTake place h mark e →
    Goes place (after_entry m e) d (after_take place h mark e) q (takes place h mark e)
host_step place m d h q (Write event) e ok t tells may = absurd may
host_step place m d (Waiting i) q Look e ok t tells may =
    looks place (after_entry m e) d q t.entries (Waiting i) i i (loaded e) (is_owned (ring_of place) i (loaded e)) t.fits (next_given place m d (Waiting i) q t) (omega arith)
    (look place m d (Waiting i) q e ok t tells may)
host_step place m d (Reading i last ws) q Look e ok t tells may =
    looks place (after_entry m e) d q t.entries (Reading i last ws) i i (loaded e) (is_owned (ring_of place) i (loaded e)) t.fits (next_given place m d (Reading i last ws) q t) (omega arith)
    (look place m d (Reading i last ws) q e ok t tells may)
host_step place m d (Holding i held) q Look e ok t tells may =
    looks place (after_entry m e) d q t.entries (Holding i held) i (i + 1) (loaded e) (is_owned (ring_of place) i (loaded e)) t.fits (next_given place m d (Holding i held) q t) (omega arith)
    (look place m d (Holding i held) q e ok t tells may)
host_step place m d (Waiting i) q Read e ok t tells may = absurd may
host_step place m d (Reading i last ws) q Read e ok t tells may =
    reads place (after_entry m e) d q t.entries i last (loaded e) ws (eqb (length ws) 6) (ne_eqb (length ws) 6 (λ six. absurd (omega (arith, may.part, six)))) t.fits
    (consumer_step (ring_of place) m (producer_of d) (consumer_of (Reading i last ws)) t.entries ring_marks.Read e ok t.ring tells may.load)
host_step place m d (Holding i held) q Read e ok t tells may = absurd may
host_step place m d (Waiting i) q (Take event) e ok t tells may = absurd may
host_step place m d (Reading i last ws) q (Take event) e ok t tells may =
    takes_entry place (after_entry m e) d q t.entries i last (loaded e) ws event (eqb (length ws) 6) (eq-eqb (length ws) 6 may.rest) t.fits (next_given place m d (Reading i last ws) q t) may.read_as
    (consumer_step (ring_of place) m (producer_of d) (consumer_of (Reading i last ws)) t.entries ring_marks.Read e ok t.ring tells (record { op = may.load.op; at_address = may.load.at_address ∙ ap (slot (ring_of place) i) (sym may.rest) }))
host_step place m d (Holding i held) q (Take event) e ok t tells may = absurd may
host_step place m d (Waiting i) q Register e ok t tells may = absurd may
host_step place m d (Reading i last ws) q Register e ok t tells may = absurd may
host_step place m d (Holding i event) q Register e ok t tells may =
    gives place (after_entry m e) d q t.entries i event t.fits (next_given place m d (Holding i event) q t)
    (consumer_step (ring_of place) m (producer_of d) (consumer_of (Holding i event)) t.entries (ring_marks.Acknowledge (i + 1)) e ok t.ring tells (registers place i e may))
host_step place m d h q Foreign e ok t tells may = absurd may
