-- The adapter looks at a queue pair, loads its record, or reads one more word of its next entry; or it loads the word of actors that ended.
use Rattle.std.proofs.Common.{◌≡◌, ◌≢◌, ℕ, ◌<◌, ◌==◌, Bool, true, false, if◌then◌else◌, List, refl, sym, ◌∙◌, ap, subst, []}
use Rattle.bus_core.specs.declared.operation.BusEntry.{BusEntry}
use Rattle.bus_core.specs.Operation.{IsLoad, loaded}
use Rattle.bus_core.specs.Trace.{Memory, Tells, after_entry}
use Rattle.verbs_types.specs.declared.call.Call.{Call}
use Rattle.verbs_types.specs.declared.completion.Queue.{Queue}
use Rattle.verbs_types.specs.declared.completion.Queue.TheVariants.{Send, Recv}
use Rattle.verbs_types.specs.declared.declaration.Lines.{Lines}
use Rattle.verbs_rules.specs.Answered.{Due}
use Rattle.verbs_rules.specs.State.{Verbs}
use Rattle.counted_ring.specs.declared.place.WqPlace.{WqPlace}
use Rattle.counted_ring.specs.Device.{WqReader, MayLook, MayRecord, after_look}
use Rattle.counted_ring.specs.Mark as requests_marks
use Rattle.counted_ring.specs.Place as requests_place
use Rattle.counted_ring.proofs.DeviceStep.{device_step}
use Rattle.counted_ring.proofs.Says.{deliver_inside}
use Rattle.counted_ring.proofs.Tied as requests
use Rattle.object_places.specs.declared.ended.TheConstants.{ENDED_WORD}
use Rattle.object_places.specs.Objects.{Object, Completions, Sends, Receives, Lives}
use Rattle.object_places.specs.Places.{send_of}
use Rattle.device_engine.specs.State.{AdapterRule, AdapterAt, Recording, Reading, reader, first_visit, working, with_reader, put_number}
use Rattle.device_engine.specs.Rows.{read_or_next, recorded, after_looking, after_recording}
use Rattle.actor_rules.specs.Actors.{Actors}
use Rattle.actor_rules.specs.Adapter.{AdapterStandsAt, Reads}
use Rattle.adapter_law.proofs.Keeps.{with_adapter, at_visit, finish, to_first, to_read_or_next}
use Rattle.bus_core.proofs.Words.{load_keeps}
use Rattle.actor_rules.specs.View.{view}
use Rattle.actor_rules.proofs.Frame.{frame_in, frame_elsewhere}
use Rattle.actor_rules.specs.Holding.{Stands, Bare, IsMapped}
use Rattle.actor_rules.specs.Objects.{AllTied, sides, Lists, poster_side, retirer_side}
use Rattle.actor_rules.proofs.Threading.{put_here, put_there}
use Rattle.verbs_rules.specs.Within.{Bounds}

module _ (d : Lines) (programs : List (List Call)) (total : Bounds) (map : IsMapped d) (m : Memory) (w : Actors) (v : Verbs) (dues : List (List Due)) (st : Stands d programs total m w v dues) where
  abbrev pub qp : ℕ
  qp = w.adapter.visit

  abbrev pub place : WqPlace
  place = send_of d qp

  -- the visited pair's side is this one, and so many were taken of each
  abbrev pub read_as : (ℕ → ℕ) → WqReader → AdapterRule
  read_as taken r = record { visit = qp; at_work = w.adapter.at_work; taken = taken; readers = put_number w.adapter.readers qp r; queues = w.adapter.queues }

  -- where only words and the adapter's sides have changed
  pub bare_quiet : (m' : Memory) (s : AdapterRule) → ((n : ℕ) → s.taken n ≡ w.adapter.taken n) → AllTied d programs m' (with_adapter w s) st.lists → Bare d programs total m' (with_adapter w s) st.lists v dues
  bare_quiet m' s taken tied = record {
    objects = tied;
    state = record { queues = st.bare.state.queues; completions = st.bare.state.completions; taken = λ n lives. taken n ∙ st.bare.state.taken n lives };
    threads = st.bare.threads;
    sound = st.bare.sound;
  }

  -- the visited pair's send queue is all that may change of the queues of words
  pub record OneQueue (now : Lists) : Type 0 where
    pub queues : (queue : Queue) → queue ≢ Send qp → now.queues queue ≡ st.lists.queues queue
    pub completions : (cq : ℕ) → now.completions cq ≡ st.lists.completions cq

  reader_apart : (now : Lists) (taken : ℕ → ℕ) (r : WqReader) → OneQueue now → (p : Object) → Lives d p → p ≢ Sends qp → sides d (view programs (with_adapter w (read_as taken r))) now p ≡ sides d (view programs w) st.lists p
  reader_apart now taken r one (Completions cq) alive differ = λ i. record (sides d (view programs w) st.lists (Completions cq)) { words = one.completions cq i }
  reader_apart now taken r one (Sends n) alive differ =
      let apart : n ≢ qp = λ same. differ (ap (λ (k : ℕ). Sends k) same) in
      λ i. record (sides d (view programs w) st.lists (Sends n)) { reader = put_there w.adapter.readers qp r n apart i; words = one.queues (Send n) (λ same. apart cc) i }
  reader_apart now taken r one (Receives n) alive differ = λ i. record (sides d (view programs w) st.lists (Receives n)) { words = one.queues (Recv n) (λ same. absurd (cc same)) i }

  pub reader_moves : (e : BusEntry) (now : Lists) (taken : ℕ → ℕ) (r : WqReader) → Lives d (Sends qp) → requests_place.touches place e.addr ≡ true → OneQueue now
      → requests.Tied place (after_entry m e) (poster_side programs w (Send qp)) (retirer_side d programs w qp) r (now.queues (Send qp))
      → AllTied d programs (after_entry m e) (with_adapter w (read_as taken r)) now
  reader_moves e now taken r lives inside one tied =
      frame_in d map m e (view programs w) (view programs (with_adapter w (read_as taken r))) st.lists now st.bare.objects (Sends qp) lives inside (reader_apart now taken r one)
      (coe 1 0 (i. requests.Tied place (after_entry m e) (poster_side programs w (Send qp)) (retirer_side d programs w qp) (put_here w.adapter.readers qp r i) (now.queues (Send qp))) tied)

  pub same_queues : OneQueue st.lists
  same_queues = record { queues = λ queue differ. refl; completions = λ cq. refl }

  module _ (e : BusEntry) (tells : Tells m e) (lives : Lives d (Sends qp)) where
    pub fine : requests_place.IsPlace place
    fine = (map.placed d (Sends qp) map.declared lives).fine

    -- with another state of the pair's side, and nothing taken
    reader_bare : (r : WqReader) → requests_place.touches place e.addr ≡ true → requests.Tied place (after_entry m e) (poster_side programs w (Send qp)) (retirer_side d programs w qp) r (st.lists.queues (Send qp))
        → Bare d programs total (after_entry m e) (with_adapter w (with_reader r w.adapter)) st.lists v dues
    reader_bare r inside tied = bare_quiet (after_entry m e) (with_reader r w.adapter) (λ n. refl) (reader_moves e st.lists w.adapter.taken r lives inside same_queues tied)

    ready_here : (r : WqReader) → r.ready ≡ (put_number w.adapter.readers qp r qp).ready
    ready_here r = ap (λ (x : WqReader). x.ready) (sym (put_here w.adapter.readers qp r))

    module _ (idle : v.device.owed ≡ []) where
      pub looks : MayLook place (reader w.adapter) e → Stands d programs total (after_entry m e) (with_adapter w (after_looking d w.adapter e)) v dues
      looks may = by (loaded e == (reader w.adapter).register)
        where
          r : WqReader
          r = after_look (reader w.adapter) e

          bare : Bare d programs total (after_entry m e) (with_adapter w (with_reader r w.adapter)) st.lists v dues
          bare = reader_bare r (deliver_inside place fine e (reader w.adapter) requests_marks.Look may)
              (device_step place m (poster_side programs w (Send qp)) (retirer_side d programs w qp) (reader w.adapter) (st.lists.queues (Send qp)) requests_marks.Look e fine (st.bare.objects (Sends qp) lives) tells may)

          by : (same : Bool) → Stands d programs total (after_entry m e) (with_adapter w (if same then read_or_next d (reader w.adapter) (with_reader r w.adapter) else working Recording (with_reader r w.adapter))) v dues
          by true = to_read_or_next d programs total (after_entry m e) w st.lists v dues (with_reader r w.adapter) bare (reader w.adapter) lives idle (ready_here r)
          by false = finish d programs total (after_entry m e) w st.lists v dues (with_reader r w.adapter) bare qp Recording (record { lives = lives; idle = idle })

      pub records : MayRecord place (reader w.adapter) false e → Stands d programs total (after_entry m e) (with_adapter w (after_recording d w.adapter e)) v dues
      records may =
          let r : WqReader = recorded w.adapter e in
          let step = device_step place m (poster_side programs w (Send qp)) (retirer_side d programs w qp) (reader w.adapter) (st.lists.queues (Send qp)) (requests_marks.Record false) e fine (st.bare.objects (Sends qp) lives) tells may in
          let bare = reader_bare r (deliver_inside place fine e (reader w.adapter) (requests_marks.Record false) may) step.1 in
          to_read_or_next d programs total (after_entry m e) w st.lists v dues (with_reader r w.adapter) bare r lives idle (ready_here r)

    -- a word of the entry was read that is not its last
    pub reads_on : (r : WqReader) → w.adapter.at_work ≡ Reading → Reads d v w.adapter → requests_place.touches place e.addr ≡ true → r.ready ≡ (reader w.adapter).ready
        → requests.Tied place (after_entry m e) (poster_side programs w (Send qp)) (retirer_side d programs w qp) r (st.lists.queues (Send qp))
        → Stands d programs total (after_entry m e) (with_adapter w (with_reader r w.adapter)) v dues
    reads_on r work reads inside ready tied =
        let bare = reader_bare r inside tied in
        finish d programs total (after_entry m e) w st.lists v dues (with_reader r w.adapter) bare qp w.adapter.at_work
        (subst (λ (a : AdapterAt). AdapterStandsAt d st.lists v (at_visit qp w.adapter.at_work (with_reader r w.adapter)) a) (sym work)
        (record { visits = reads.visits; sends = reads.sends; ready = subst (λ (n : ℕ). 0 < n) (sym ready ∙ ready_here r) reads.ready }))

  pub ends : (e : BusEntry) → IsLoad ENDED_WORD e → v.device.owed ≡ [] → Stands d programs total (after_entry m e) (with_adapter w (first_visit d w.adapter)) v dues
  ends e load idle =
      let tied = frame_elsewhere d map m (after_entry m e) (view programs w) st.lists (λ p lives a inside. load_keeps m e a load.op) st.bare.objects in
      to_first d programs total (after_entry m e) w st.lists v dues w.adapter (bare_quiet (after_entry m e) w.adapter (λ n. refl) tied) idle
