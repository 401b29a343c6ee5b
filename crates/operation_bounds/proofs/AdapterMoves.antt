-- What an operation of the adapter makes of its work.
use Rattle.std.proofs.Common.{◌≡◌, ◌⊎◌, inl, inr, ℕ, ◌+◌, ◌-◌, ◌<◌, ◌≤◌, ◌==◌, refl, sym, ap, ◌∙◌, subst, arith, Bool, true, false, if◌then◌else◌, List, [], ◌∷◌, ◌++◌, length, is_some, nat_lt, Option, None, Some}
use Rattle.std.proofs.lemmas.Bool.{eqb-false, false≢true}
use Rattle.std.proofs.lemmas.List.{length-append}
use Rattle.bus_core.specs.declared.operation.BusEntry.{BusEntry}
use Rattle.bus_core.specs.Operation.{loaded, stored}
use Rattle.verbs_types.specs.declared.declaration.Lines.{Lines}
use Rattle.verbs_types.specs.declared.declaration.TheConstants.{FIRST_QP}
use Rattle.verbs_types.specs.Lines.{is_among}
use Rattle.cqe_format.specs.declared.completion.Cqe.{Cqe}
use Rattle.owner_ring.specs.Place.{size, distance, index_of_record}
use Rattle.owner_ring.specs.Producer.{Producer, Ready, Filling, after_produce, produced}
use Rattle.owner_ring.specs.Ring as ring
use Rattle.cq_pair.specs.declared.place.CqPlace.{CqPlace}
use Rattle.cq_pair.specs.Device.{QueueDevice, after_deliver, delivered, published_as, is_full}
use Rattle.cq_pair.specs.DeviceView.{mark_of, turns_for, publish_turns}
use Rattle.cq_pair.specs.Place.{ring_of}
use Rattle.cq_pair.specs.Queue as completions
use Rattle.cq_pair.specs.Queue.{QueueEvent}
use Rattle.counted_ring.specs.Device.{WqReader, after_look, after_read, is_whole}
use Rattle.counted_ring.specs.Queue.{Took}
use Rattle.object_places.specs.Places.{completions_of, send_of}
use Rattle.device_engine.specs.Entry.{wants, nop_cqe}
use Rattle.device_engine.specs.Event.{AdapterEvent, Fetched, Published, fetch_said, publish_said}
use Rattle.device_engine.specs.Rows.{is_ready, read_or_next, recorded, fetched, published, publish_event, publish_mark}
use Rattle.device_engine.specs.Rule.{after_at, after_adapt, said_at, adapter_says}
use Rattle.device_engine.specs.State.{AdapterAt, AdapterRule, Looking, Recording, Reading, Publishing, Ending, reader, send_cq, first_work, next_visit, first_visit, working, with_reader, with_taken, with_queue, put_number, fresh_adapter}
use Rattle.actor_rules.proofs.Threading.{put_here, put_all}

-- A publication

abbrev pub IsFilling : Producer → Type 0
IsFilling (Ready index) = Unit {0}
IsFilling (Filling index words) = length words ≤ 7

-- how many operations a publication still takes
abbrev pub publish_left : QueueDevice → ℕ
publish_left q = turns_for q.overrun q.producer

pub publish_few : (overrun : Bool) (p : Producer) → IsFilling p → (0 < turns_for overrun p) × (turns_for overrun p ≤ 9)
publish_few true p h = (omega arith, omega arith)
publish_few false (Ready index) h = (omega arith, omega arith)
publish_few false (Filling index words) h = (omega (arith, h), omega arith)

-- an operation of it ends it, or brings it nearer to its end
abbrev Delivers : ℕ → Cqe → Bool → Producer → Option QueueEvent → Type 0
Delivers before completion overrun p None = turns_for overrun p < before
Delivers before completion overrun p (Some event) = (index : ℕ) (other : Cqe) → event ≡ completions.Published index other → other ≡ completion

module _ (place : CqPlace) (completion : Cqe) (e : BusEntry) where
  -- the side after an operation that says this to the ring
  abbrev Made : ℕ → Producer → Option ring.RingEvent → Type 0
  Made before p said = IsFilling p × Delivers before completion (is_full said) p (published_as completion said)

  same_one : (index i : ℕ) (other : Cqe) → completions.Published index completion ≡ completions.Published i other → other ≡ completion
  same_one index i other same = cc

  overrun_none : (index ci i : ℕ) (other : Cqe) → completions.Overrun index ci ≡ completions.Published i other → other ≡ completion
  overrun_none index ci i other same = cc

  lost_none : (i : ℕ) (other : Cqe) → completions.Lost ≡ completions.Published i other → other ≡ completion
  lost_none i other same = cc

  produces : (p : Producer) → IsFilling p → Made (publish_turns p) (after_produce (ring_of place) p e) (produced (ring_of place) p e)
  produces (Ready index) h = by (nat_lt (distance index (loaded e)) (size (ring_of place)))
    where
      by : (b : Bool) → Made 9 (if b then Filling index [] else Ready index) (if b then None else Some (ring.Full index (index_of_record index (loaded e))))
      by true = (omega arith, omega arith)
      by false = (tt, overrun_none index (index_of_record index (loaded e)))
  produces (Filling index words) h = by (length words == 7) refl
    where
      long : length (words ++ stored e ∷ []) ≡ length words + 1
      long = length-append words (stored e ∷ [])

      by : (b : Bool) → (length words == 7) ≡ b → Made (8 - length words) (if b then Ready (index + 1) else Filling index (words ++ stored e ∷ [])) (if b then Some (ring.Published index (words ++ stored e ∷ [])) else None)
      by true all = (tt, same_one index)
      by false more = let differ = eqb-false (length words) 7 more in (omega (arith, h, differ, long), omega (arith, h, differ, long))

  abbrev side_with : Bool → Producer → ℕ → QueueDevice
  side_with overrun p seen = record { producer = p; overrun = overrun; seen = seen }

  abbrev side_then : Bool → Producer → ℕ → QueueDevice
  side_then overrun p seen = after_deliver place (side_with overrun p seen) (mark_of (Some completion) overrun) e

  pub delivers : (overrun : Bool) (p : Producer) (seen : ℕ) → IsFilling p → IsFilling (side_then overrun p seen).producer
      × Delivers (turns_for overrun p) completion (side_then overrun p seen).overrun (side_then overrun p seen).producer (delivered place (side_with overrun p seen) (mark_of (Some completion) overrun) e)
  delivers true p seen h = (h, lost_none)
  delivers false p seen h = produces p h

-- The work

abbrev pub IsIdle : AdapterAt → Type 0
IsIdle Looking = Unit {0}
IsIdle Recording = Unit {0}
IsIdle Reading = Unit {0}
IsIdle (Publishing cq completion) = ⊥
IsIdle Ending = Unit {0}

-- the completion that is published is of the pair that is visited
abbrev pub IsOfPair : ℕ → AdapterAt → Type 0
IsOfPair visit (Publishing cq completion) = completion.qpn ≡ visit
IsOfPair visit _ = Unit {0}

pub record AdapterStands (s : AdapterRule) : Type 0 where
  pub queues : (cq : ℕ) → IsFilling (s.queues cq).producer
  pub pair : IsOfPair s.visit s.at_work

-- it goes on to work without a publication
pub record Idles (s s' : AdapterRule) (said : Option AdapterEvent) : Type 0 where
  pub taken : s'.taken ≡ s.taken
  pub was : IsIdle s.at_work
  pub now : IsIdle s'.at_work
  pub silent : said ≡ None

-- it begins to publish the completion of the request that it took
pub record Begins (s s' : AdapterRule) : Type 0 where
  pub cq : ℕ
  pub completion : Cqe
  pub work : s'.at_work ≡ Publishing cq completion
  pub visit : s'.visit ≡ s.visit

pub record Fetches (s s' : AdapterRule) (said : Option AdapterEvent) : Type 0 where
  pub taken : s'.taken ≡ put_number s.taken s.visit (s.taken s.visit + 1)
  pub was : IsIdle s.at_work
  pub next : IsIdle s'.at_work ⊎ Begins s s'
  pub tells : said ≡ Some (Fetched s.visit (s.taken s.visit + 1))

-- a publication goes on
pub record GoesOn (s s' : AdapterRule) (said : Option AdapterEvent) : Type 0 where
  pub cq : ℕ
  pub completion : Cqe
  pub was : s.at_work ≡ Publishing cq completion
  pub now : s'.at_work ≡ Publishing cq completion
  pub visit : s'.visit ≡ s.visit
  pub taken : s'.taken ≡ s.taken
  pub falls : publish_left (s'.queues cq) < publish_left (s.queues cq)
  pub silent : said ≡ None

-- it is over: with its entry, or with none where the queue is full or has overrun
pub record Publishes (s s' : AdapterRule) (said : Option AdapterEvent) : Type 0 where
  pub cq : ℕ
  pub completion : Cqe
  pub was : s.at_work ≡ Publishing cq completion
  pub now : IsIdle s'.at_work
  pub taken : s'.taken ≡ s.taken
  pub tells : (number index c : ℕ) (other : Cqe) → said ≡ Some (Published c other number index) → (other ≡ completion) × (number ≡ s.taken s.visit)
  pub fetches_none : (qp number : ℕ) → said ≡ Some (Fetched qp number) → ⊥

pub data Moved (s s' : AdapterRule) (said : Option AdapterEvent) : Type 0 where
  Idle : Idles s s' said → Moved s s' said
  Fetch : Fetches s s' said → Moved s s' said
  Goes : GoesOn s s' said → Moved s s' said
  Over : Publishes s s' said → Moved s s' said

first_idle : (d : Lines) (qp : ℕ) → IsIdle (first_work d qp)
first_idle d qp = by (is_among FIRST_QP (length d.qps) qp)
  where
    by : (b : Bool) → IsIdle (if b then Looking else Ending)
    by true = tt
    by false = tt

idle_pair : (visit : ℕ) (work : AdapterAt) → IsIdle work → IsOfPair visit work
idle_pair visit Looking h = tt
idle_pair visit Recording h = tt
idle_pair visit Reading h = tt
idle_pair visit (Publishing cq completion) h = absurd h
idle_pair visit Ending h = tt

module _ (d : Lines) (s : AdapterRule) (e : BusEntry) (h : AdapterStands s) where
  abbrev Result : AdapterRule → Option AdapterEvent → Type 0
  Result s' said = AdapterStands s' × Moved s s' said

  idles : (s' : AdapterRule) → IsIdle s.at_work → s'.queues ≡ s.queues → s'.taken ≡ s.taken → IsIdle s'.at_work → Result s' None
  idles s' was queues taken now = (record { queues = subst (λ (q : ℕ → QueueDevice). (cq : ℕ) → IsFilling (q cq).producer) (sym queues) h.queues; pair = idle_pair s'.visit s'.at_work now }, Idle (record { taken = taken; was = was; now = now; silent = refl }))

  reads_or_goes : (r : WqReader) (s' : AdapterRule) → IsIdle s.at_work → s'.queues ≡ s.queues → s'.taken ≡ s.taken → Result (read_or_next d r s') None
  reads_or_goes r s' was queues taken = by (is_ready d s'.visit r)
    where
      by : (b : Bool) → Result (if b then working Reading s' else next_visit d s') None
      by true = idles (working Reading s') was queues taken tt
      by false = idles (next_visit d s') was queues taken (first_idle d (s'.visit + 1))

  looks : IsIdle s.at_work → Result (after_at d s Looking e) None
  looks was = by (loaded e == (reader s).register)
    where
      by : (b : Bool) → Result (if b then read_or_next d (reader s) (with_reader (after_look (reader s) e) s) else working Recording (with_reader (after_look (reader s) e) s)) None
      by true = reads_or_goes (reader s) (with_reader (after_look (reader s) e) s) was refl refl
      by false = idles (working Recording (with_reader (after_look (reader s) e) s)) was refl refl tt

  reads : IsIdle s.at_work → Result (after_at d s Reading e) (said_at d s Reading e)
  reads was = by (is_whole (send_of d s.visit) (reader s).ready words)
    where
      words : List ℕ
      words = (reader s).words ++ loaded e ∷ []

      read : AdapterRule
      read = with_reader (after_read (send_of d s.visit) (reader s) e) s

      takes : (b : Bool) → Result (if b then working (Publishing (send_cq d s.visit) (nop_cqe s.visit (reader s).next)) (with_taken read) else next_visit d (with_taken read)) (Some (Fetched s.visit (s.taken s.visit + 1)))
      takes true = (
        record { queues = h.queues; pair = refl },
        Fetch (record { taken = refl; was = was; next = inr (record { cq = send_cq d s.visit; completion = nop_cqe s.visit (reader s).next; work = refl; visit = refl }); tells = refl }),
      )
      takes false = (
        record { queues = h.queues; pair = idle_pair (s.visit + 1) (first_work d (s.visit + 1)) (first_idle d (s.visit + 1)) },
        Fetch (record { taken = refl; was = was; next = inl (first_idle d (s.visit + 1)); tells = refl }),
      )

      by : (b : Bool) → Result (fetched d (reader s).next (if b then Some (Took words) else None) read) (fetch_said s.visit (s.taken s.visit + 1) (if b then Some (Took words) else None))
      by true = takes (wants words)
      by false = idles read was refl refl was

  tells_by : (cq n : ℕ) (completion : Cqe) (event : QueueEvent) → ((index : ℕ) (other : Cqe) → event ≡ completions.Published index other → other ≡ completion)
      → (number index c : ℕ) (other : Cqe) → publish_said cq n (Some event) ≡ Some (Published c other number index) → (other ≡ completion) × (number ≡ n)
  tells_by cq n completion (completions.Published i one) is number index c other said =
      let same : one ≡ other = cc in
      let count : n ≡ number = cc in
      (sym same ∙ is i one refl, sym count)
  tells_by cq n completion (completions.Overrun i ci) is number index c other said = absurd (false≢true (ap is_some said))
  tells_by cq n completion completions.Lost is number index c other said = absurd (false≢true (ap is_some said))
  tells_by cq n completion (completions.Took i one) is number index c other said = absurd (false≢true (ap is_some said))
  tells_by cq n completion (completions.Empty i) is number index c other said = absurd (false≢true (ap is_some said))
  tells_by cq n completion (completions.Acked ci) is number index c other said = absurd (false≢true (ap is_some said))

  no_fetch : (cq n : ℕ) (event : QueueEvent) (qp number : ℕ) → publish_said cq n (Some event) ≡ Some (Fetched qp number) → ⊥
  no_fetch cq n (completions.Published i one) qp number said = cc
  no_fetch cq n (completions.Overrun i ci) qp number said = false≢true (ap is_some said)
  no_fetch cq n completions.Lost qp number said = false≢true (ap is_some said)
  no_fetch cq n (completions.Took i one) qp number said = false≢true (ap is_some said)
  no_fetch cq n (completions.Empty i) qp number said = false≢true (ap is_some said)
  no_fetch cq n (completions.Acked ci) qp number said = false≢true (ap is_some said)

  publishes : (cq : ℕ) (completion : Cqe) → s.at_work ≡ Publishing cq completion → Result (after_at d s (Publishing cq completion) e) (said_at d s (Publishing cq completion) e)
  publishes cq completion is = by (publish_event d s cq completion e) goes.1
    where
      side : QueueDevice
      side = after_deliver (completions_of d cq) (s.queues cq) (publish_mark s cq completion) e

      goes : IsFilling side.producer × Delivers (publish_left (s.queues cq)) completion side.overrun side.producer (publish_event d s cq completion e)
      goes = delivers (completions_of d cq) completion e (s.queues cq).overrun (s.queues cq).producer (s.queues cq).seen (h.queues cq)

      queues : (n : ℕ) → IsFilling (put_number s.queues cq side n).producer
      queues = put_all s.queues cq side (λ n q. IsFilling q.producer) goes.0 (λ other apart. h.queues other)

      by : (o : Option QueueEvent) → Delivers (publish_left (s.queues cq)) completion side.overrun side.producer o → Result (published d o (with_queue cq side s)) (publish_said cq (s.taken s.visit) o)
      by None less = (
        record { queues = queues; pair = h.pair },
        Goes (record { cq = cq; completion = completion; was = is; now = is; visit = refl; taken = refl; falls = subst (λ (q : QueueDevice). publish_left q < publish_left (s.queues cq)) (sym (put_here s.queues cq side)) less; silent = refl }),
      )
      by (Some event) same = (
        record { queues = queues; pair = idle_pair (s.visit + 1) (first_work d (s.visit + 1)) (first_idle d (s.visit + 1)) },
        Over (record { cq = cq; completion = completion; was = is; now = first_idle d (s.visit + 1); taken = refl; tells = tells_by cq (s.taken s.visit) completion event same; fetches_none = no_fetch cq (s.taken s.visit) event }),
      )

  step_by : (work : AdapterAt) → s.at_work ≡ work → Result (after_at d s work e) (said_at d s work e)
  step_by Looking is = looks (subst IsIdle (sym is) tt)
  step_by Recording is = reads_or_goes (recorded s e) (with_reader (recorded s e) s) (subst IsIdle (sym is) tt) refl refl
  step_by Reading is = reads (subst IsIdle (sym is) tt)
  step_by (Publishing cq completion) is = publishes cq completion is
  step_by Ending is = idles (first_visit d s) (subst IsIdle (sym is) tt) refl refl (first_idle d FIRST_QP)

  -- each operation keeps what holds of the adapter
  pub adapter_step : AdapterStands (after_adapt d s e) × Moved s (after_adapt d s e) (adapter_says d s e)
  adapter_step = step_by s.at_work refl

-- before its first operation
pub adapter_first : (d : Lines) → AdapterStands (fresh_adapter d)
adapter_first d = record { queues = λ cq. tt; pair = idle_pair FIRST_QP (first_work d FIRST_QP) (first_idle d FIRST_QP) }
