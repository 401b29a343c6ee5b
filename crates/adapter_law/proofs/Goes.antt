-- Every operation of the adapter keeps what holds, and what it says is legal.
use Rattle.std.proofs.Common.{◌≡◌, ℕ, ◌+◌, ◌-◌, ◌++◌, arith, Bool, true, false, if◌then◌else◌, List, [], ◌∷◌, Option, None, Some, option_map, refl, sym, ◌∙◌, subst}
use Rattle.std.specs.Prelude.{slice_index}
use Rattle.std.proofs.lemmas.Bool.{false≢true}
use Rattle.bus_core.specs.declared.operation.BusEntry.{BusEntry}
use Rattle.bus_core.specs.Operation.{loaded}
use Rattle.bus_core.specs.Trace.{Memory, Tells, after_entry}
use Rattle.verbs_types.specs.declared.call.Call.{Call}
use Rattle.verbs_types.specs.declared.completion.Queue.TheVariants.{Send}
use Rattle.verbs_types.specs.declared.declaration.Lines.{Lines}
use Rattle.verbs_types.specs.declared.entry.What.{What}
use Rattle.verbs_types.specs.declared.entry.What.TheVariants.{Fetch, Publish}
use Rattle.actor_map.specs.Notes.{Serves}
use Rattle.owner_ring.specs.Place.{size}
use Rattle.cq_pair.specs.Seeing.{SeenServes}
use Rattle.cq_pair.proofs.Seeing.{device_sees, seen_after_deliver}
use Rattle.device_engine.specs.Rows.{publish_mark, fetched, published}
use Rattle.verbs_rules.specs.Step.{MayStep, after}
use Rattle.verbs_rules.specs.Running.{Running}
use Rattle.cqe_format.specs.declared.completion.Cqe.{Cqe}
use Rattle.owner_ring.specs.Place as ring_place
use Rattle.owner_ring.specs.Ring.{RingEvent}
use Rattle.owner_ring.specs.Ring as ring
use Rattle.cq_pair.specs.declared.place.CqPlace.{CqPlace}
use Rattle.cq_pair.specs.Device.{QueueDevice, MayDeliver, after_deliver, delivered, published_as}
use Rattle.cq_pair.specs.Device as completion_side
use Rattle.cq_pair.specs.DeviceView.{mark_of}
use Rattle.cq_pair.specs.Mark as completion_marks
use Rattle.cq_pair.specs.Place.{ring_of}
use Rattle.cq_pair.proofs.DeviceStep as completion_step
use Rattle.cq_pair.proofs.Says as completion_says
use Rattle.cq_pair.proofs.Tied as completions
use Rattle.counted_ring.specs.declared.place.WqPlace.{WqPlace}
use Rattle.counted_ring.specs.Device.{WqReader, MayRead, reach, is_whole}
use Rattle.counted_ring.specs.Mark as request_marks
use Rattle.counted_ring.specs.Place as requests_place
use Rattle.counted_ring.specs.Queue.{WqEvent, Took}
use Rattle.counted_ring.proofs.DeviceStep as request_step
use Rattle.counted_ring.proofs.Says as request_says
use Rattle.counted_ring.proofs.Tied as requests
use Rattle.object_places.specs.Objects.{Completions, Sends, Lives}
use Rattle.object_places.specs.Places.{send_of, completions_of}
use Rattle.provider_poll.specs.Completion.{completion_of}
use Rattle.device_engine.specs.Event.{AdapterEvent, fetch_said, publish_said}
use Rattle.device_engine.specs.Rule.{MayAt, after_at, said_at, sees_at}
use Rattle.device_engine.specs.State.{AdapterAt, AdapterRule, Looking, Recording, Reading, Publishing, Ending, reader, next_visit, with_reader, with_queue}
use Rattle.actor_rules.specs.Actors.{Actors, id_in, adapter_entry, by}
use Rattle.actor_rules.specs.Adapter.{AdapterStandsAt, Owes, Reads}
use Rattle.adapter_law.proofs.Fetches as fetches
use Rattle.adapter_law.proofs.Keeps.{with_adapter, owed_after}
use Rattle.adapter_law.proofs.Looks.{looks, records, reads_on, ends, fine}
use Rattle.adapter_law.proofs.Publishes as publishes
use Rattle.actor_rules.specs.Holding.{Holds, Stands, Goes, IsMapped}
use Rattle.actor_rules.specs.Objects.{poll_side, poster_side, retirer_side}
use Rattle.verbs_rules.specs.Within.{Bounds}
use Rattle.adapter_law.specs.Law.{AdapterGoes}

module _ (d : Lines) (programs : List (List Call)) (total : Bounds) (map : IsMapped d) (m : Memory) (w : Actors) (r : Running) (h : Holds d programs total m w r) (e : BusEntry) (tells : Tells m e) where
  abbrev st : Stands d programs total m w r.verbs h.dues
  st = h.stands

  abbrev m' : Memory
  m' = after_entry m e

  abbrev a : AdapterRule
  a = w.adapter

  -- where the adapter goes on to this with what it has seen and says
  abbrev GoesTo : AdapterRule → ℕ → Option AdapterEvent → Type 0
  GoesTo s seen said = Goes d programs total m' (with_adapter w s) r seen (option_map (by 0) (option_map (adapter_entry w.posted) said))

  quiet : (s : AdapterRule) (seen : ℕ) → Stands d programs total m' (with_adapter w s) r.verbs h.dues → GoesTo s seen None
  quiet s seen stands = record { dues = h.dues; owed = h.owed; stands = stands }

  -- an entry of the adapter is owed by no thread
  turns : (s : AdapterRule) (seen : ℕ) (what : What) → MayStep r.verbs (by 0 what) → Serves r.verbs what seen → Stands d programs total m' (with_adapter w s) (after r.verbs what) h.dues → Goes d programs total m' (with_adapter w s) r seen (Some (by 0 what))
  turns s seen what legal serves stands = (record { legal = legal; due = tt; serves = serves }, record { dues = h.dues; owed = owed_after r.owed h.dues what h.owed; stands = stands })

  module _ (work : a.at_work ≡ Reading) (reads : Reads d r.verbs a) (may : MayRead (send_of d a.visit) (reader a) e) where
    abbrev place : WqPlace
    place = send_of d a.visit

    abbrev words : List ℕ
    words = (reader a).words ++ loaded e ∷ []

    abbrev reached : ℕ
    reached = reach place (reader a).ready (slice_index words 0)

    -- the visited pair's side after it, and what it says, by whether that was the entry's last word
    abbrev read_to : Bool → WqReader
    read_to whole =
        if whole then record { next = (reader a).next + reached; ready = (reader a).ready - reached; register = (reader a).register; words = [] }
        else record { next = (reader a).next; ready = (reader a).ready; register = (reader a).register; words = words }

    abbrev took : Bool → Option WqEvent
    took whole = if whole then Some (Took words) else None

    lives : Lives d (Sends a.visit)
    lives = reads.visits.lives

    inside : requests_place.touches place e.addr ≡ true
    inside = request_says.deliver_inside place (fine d programs total map m w r.verbs h.dues st e tells lives) e (reader a) request_marks.Read may

    read_goes : (whole : Bool) → requests.Goes place m' (poster_side programs w (Send a.visit)) (retirer_side d programs w a.visit) (read_to whole) (st.lists.queues (Send a.visit)) (took whole)
        → GoesTo (fetched d (reader a).next (took whole) (with_reader (read_to whole) a)) (a.taken a.visit + 1) (fetch_said a.visit (a.taken a.visit + 1) (took whole))
    read_goes false t = quiet (with_reader (read_to false) a) (a.taken a.visit + 1) (reads_on d programs total map m w r.verbs h.dues st e tells lives (read_to false) work reads inside refl t)
    read_goes true t =
        let rule : AdapterRule = fetched d (reader a).next (took true) (with_reader (read_to true) a) in
        subst (λ (n : ℕ). Goes d programs total m' (with_adapter w rule) r (n + 1) (Some (by 0 (Fetch (Send a.visit) (n + 1))))) (sym (st.bare.state.taken a.visit lives))
        (turns rule (fetches.number d programs total map m w r.verbs h.dues st) (Fetch (Send a.visit) (fetches.number d programs total map m w r.verbs h.dues st)) (fetches.goes d programs total map m w r.verbs h.dues st reads words t.0).legal (fetches.serves d programs total map m w r.verbs h.dues st reads words t.0)
        (fetches.takes d programs total map m w r.verbs h.dues st reads words t.0 e (read_to true) inside t.1))

    pub reading_goes : GoesTo (after_at d a Reading e) (sees_at a Reading e) (said_at d a Reading e)
    reading_goes =
        read_goes (is_whole place (reader a).ready words)
        (request_step.device_step place m (poster_side programs w (Send a.visit)) (retirer_side d programs w a.visit) (reader a) (st.lists.queues (Send a.visit)) request_marks.Read e
        (fine d programs total map m w r.verbs h.dues st e tells lives) (st.bare.objects (Sends a.visit) lives) tells may)

  module _ (cq : ℕ) (c : Cqe) (work : a.at_work ≡ Publishing cq c) (o : Owes d st.lists r.verbs a cq c) where
    abbrev cq_place : CqPlace
    cq_place = completions_of d cq

    abbrev side : QueueDevice
    side = a.queues cq

    module _ (inside_cq : ring_place.touches (ring_of cq_place) e.addr ≡ true) (device : QueueDevice) where
      goes_on : completions.Tied cq_place m' device (poll_side programs w cq).host (st.lists.completions cq) → GoesTo (with_queue cq device a) device.seen None
      goes_on t = quiet (with_queue cq device a) device.seen (publishes.publishes_on d programs total map m w r.verbs h.dues st cq c o e device inside_cq work t)

      publish_goes : (said : Option RingEvent) → completions.Goes cq_place m' device (poll_side programs w cq).host (st.lists.completions cq) (published_as c said) → SeenServes (size (ring_of cq_place)) (st.lists.completions cq) device.seen (published_as c said)
          → GoesTo (published d (published_as c said) (with_queue cq device a)) device.seen (publish_said cq (a.taken a.visit) (published_as c said))
      publish_goes None t sees = goes_on t
      publish_goes (Some (ring.Published index ws)) t sees =
          let counts = (st.bare.state.completions cq (publishes.lives d programs total map m w r.verbs h.dues st cq c o)).counts in
          let is = publishes.owed_is d programs total map m w r.verbs h.dues st cq c o in
          turns (next_visit d (with_queue cq device a)) device.seen (Publish cq (completion_of c (id_in (w.posted (Send c.qpn)) (a.taken a.visit)))) (publishes.goes d programs total map m w r.verbs h.dues st cq c o _ is).legal
          (record { least = omega (arith, sees.least, counts.acked); enough = omega (arith, sees.enough, counts.produced, counts.size) })
          (publishes.published_stands d programs total map m w r.verbs h.dues st cq c o e device inside_cq index t.0 _ is t.1)
      publish_goes (Some (ring.Full index ci)) t sees = absurd (publishes.never_full d programs total map m w r.verbs h.dues st cq c o index ci t.0)
      publish_goes (Some (ring.Took index ws)) t sees = goes_on t
      publish_goes (Some (ring.Empty index)) t sees = goes_on t
      publish_goes (Some (ring.Acked ci)) t sees = goes_on t

    -- the queue has not overrun
    runs : side.overrun ≡ false
    runs = sym (publishes.tied d programs total map m w r.verbs h.dues st cq c o).fits.overrun ∙ (st.bare.state.completions cq (publishes.lives d programs total map m w r.verbs h.dues st cq c o)).counts.runs

    mark_goes : (overrun : Bool) → overrun ≡ false → MayDeliver cq_place side (mark_of (Some c) overrun) e
        → GoesTo (published d (delivered cq_place side (mark_of (Some c) overrun) e) (with_queue cq (after_deliver cq_place side (mark_of (Some c) overrun) e) a)) (after_deliver cq_place side (mark_of (Some c) overrun) e).seen (publish_said cq (a.taken a.visit) (delivered cq_place side (mark_of (Some c) overrun) e))
    mark_goes true stopped may = absurd (false≢true (sym stopped))
    mark_goes false running may =
        let t = publishes.tied d programs total map m w r.verbs h.dues st cq c o in
        let lives_cq = publishes.lives d programs total map m w r.verbs h.dues st cq c o in
        let inside_cq = completion_says.deliver_inside cq_place m side (poll_side programs w cq).host (st.lists.completions cq) (completion_marks.Publish c) e t may in
        publish_goes inside_cq (after_deliver cq_place side (completion_marks.Publish c) e) (completion_side.produced cq_place side e)
        (completion_step.device_step cq_place m side (poll_side programs w cq).host (st.lists.completions cq) (completion_marks.Publish c) e (map.placed d (Completions cq) map.declared lives_cq).fine t tells may)
        (device_sees cq_place m side (poll_side programs w cq).host (st.lists.completions cq) e (map.placed d (Completions cq) map.declared lives_cq).fine t tells (completion_marks.Publish c) may)

    pub publishing_goes : MayAt d a (Publishing cq c) e → GoesTo (after_at d a (Publishing cq c) e) (sees_at a (Publishing cq c) e) (said_at d a (Publishing cq c) e)
    publishing_goes may = subst (λ (n : ℕ). GoesTo (after_at d a (Publishing cq c) e) n (said_at d a (Publishing cq c) e)) (seen_after_deliver cq_place side (publish_mark a cq c) e) (mark_goes side.overrun runs may)

  by_work : (work : AdapterAt) → a.at_work ≡ work → AdapterStandsAt d st.lists r.verbs a work → MayAt d a work e → GoesTo (after_at d a work e) (sees_at a work e) (said_at d a work e)
  by_work Looking same stands may = quiet (after_at d a Looking e) 0 (looks d programs total map m w r.verbs h.dues st e tells stands.lives stands.idle may)
  by_work Recording same stands may = quiet (after_at d a Recording e) 0 (records d programs total map m w r.verbs h.dues st e tells stands.lives stands.idle may)
  by_work Reading same stands may = reading_goes same stands may
  by_work (Publishing cq c) same stands may = publishing_goes cq c same stands may
  by_work Ending same stands may = quiet (after_at d a Ending e) 0 (ends d programs total map m w r.verbs h.dues st e may stands)

-- an operation of the adapter that keeps its rule
pub adapter_goes : (d : Lines) (programs : List (List Call)) (total : Bounds) → IsMapped d → AdapterGoes d programs total
adapter_goes d programs total map m w r x h tells is so may = by_work d programs total map m w r h x.entry tells w.adapter.at_work refl h.stands.work may.goes_on
