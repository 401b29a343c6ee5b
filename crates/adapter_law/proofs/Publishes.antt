-- The adapter publishes the completion that it owes.
use Rattle.std.proofs.Common.{◌≡◌, ◌≢◌, ℕ, ◌+◌, ◌-◌, ◌<◌, ◌≤◌, true, if◌then◌else◌, List, [], ◌∷◌, ◌++◌, length, refl, sym, ◌∙◌, ap, subst, arith, length-append}
use Rattle.std.proofs.lemmas.Option.{slice_get-get_or}
use Rattle.bus_core.specs.declared.operation.BusEntry.{BusEntry}
use Rattle.bus_core.specs.Trace.{Memory, after_entry}
use Rattle.verbs_types.specs.declared.call.Call.{Call}
use Rattle.verbs_types.specs.declared.completion.Completion.{Completion}
use Rattle.verbs_types.specs.declared.completion.Queue.{Queue}
use Rattle.verbs_types.specs.declared.completion.Queue.TheVariants.{Send, Recv}
use Rattle.verbs_types.specs.declared.declaration.Lines.{Lines}
use Rattle.verbs_types.specs.declared.entry.What.TheVariants.{Publish}
use Rattle.verbs_types.specs.declared.request.Item.{Item}
use Rattle.verbs_types.specs.declared.state.Act.{Act}
use Rattle.verbs_types.specs.declared.state.Act.TheVariants.{Complete}
use Rattle.verbs_types.specs.declared.state.QueuePair.{QueuePair}
use Rattle.verbs_types.specs.declared.state.Unpolled.{Unpolled}
use Rattle.verbs_rules.specs.Answered.{Due}
use Rattle.verbs_rules.specs.Rows.{publish}
use Rattle.verbs_rules.specs.State.{Verbs}
use Rattle.verbs_rules.specs.OfOne.{CompletionQueue, completions_in}
use Rattle.verbs_rules.specs.Step.{after}
use Rattle.cqe_format.specs.declared.completion.Cqe.{Cqe}
use Rattle.owner_ring.specs.Consumer.{Consumer}
use Rattle.owner_ring.specs.Place as ring_place
use Rattle.owner_ring.specs.Place.{size}
use Rattle.owner_ring.proofs.Tied.{known}
use Rattle.cq_pair.specs.declared.place.CqPlace.{CqPlace}
use Rattle.cq_pair.specs.Device.{QueueDevice}
use Rattle.cq_pair.specs.Place.{ring_of}
use Rattle.cq_pair.specs.Queue.{PlainQueue, MayPublish, MayOverrun, Published, after_event, produced, since}
use Rattle.cq_pair.proofs.Rows.{reads_as_history}
use Rattle.cq_pair.proofs.Tied as completions
use Rattle.cq_pair.proofs.Tied.{same_produced}
use Rattle.counted_ring.specs.Queue as counted
use Rattle.counted_ring.proofs.Requests.{request_of}
use Rattle.object_places.specs.Objects.{Object, Completions, Sends, Receives, Lives}
use Rattle.object_places.specs.Places.{completions_of}
use Rattle.provider_poll.specs.Completion.{completion_of}
use Rattle.device_engine.specs.State.{AdapterAt, AdapterRule, Publishing, next_visit, with_queue, put_number}
use Rattle.actor_rules.specs.Actors.{Actors, id_in}
use Rattle.actor_rules.specs.View.{view}
use Rattle.verbs_rules.specs.Within as within
use Rattle.actor_rules.specs.Adapter.{AdapterStandsAt, Owes}
use Rattle.adapter_law.proofs.Entries.{IsPosted, completion_is, posted_at, id_posted}
use Rattle.adapter_law.proofs.Keeps.{with_adapter, at_visit, finish, to_next}
use Rattle.adapter_law.proofs.Looks.{bare_quiet}
use Rattle.adapter_law.proofs.Queues.{poll_front}
use Rattle.actor_rules.specs.Completions.{CompletionsIn, IsCompletion, ends_in, CompletionsStand}
use Rattle.actor_rules.proofs.Frame.{frame_in}
use Rattle.verbs_laws.proofs.GoesAdapter.{publish_goes, publish_room}
use Rattle.actor_rules.specs.Holding.{Stands, Bare, IsMapped}
use Rattle.actor_rules.specs.Objects.{AllTied, sides, Lists, poll_side}
use Rattle.actor_rules.specs.Queues.{QueueStands}
use Rattle.actor_rules.proofs.Threading.{put_here, put_there, number_by}
use Rattle.actor_rules.specs.Matching.{Match}
use Rattle.actor_rules.proofs.Matching.{match_push}
use Rattle.verbs_rules.specs.Within.{Bounds}

module _ (d : Lines) (programs : List (List Call)) (total : Bounds) (map : IsMapped d) (m : Memory) (w : Actors) (v : Verbs) (dues : List (List Due)) (st : Stands d programs total m w v dues) (cq : ℕ) (c : Cqe) (o : Owes d st.lists v w.adapter cq c) where
  abbrev qp : ℕ
  qp = w.adapter.visit

  abbrev u : Unpolled
  u = o.unpolled

  abbrev place : CqPlace
  place = completions_of d cq

  abbrev q : PlainQueue
  q = st.lists.completions cq

  abbrev host : Consumer
  host = (poll_side programs w cq).host

  -- the queue is one that lives
  pub lives : Lives d (Completions cq)
  lives =
      let home : v.device.completions_live (v.device.pairs qp).send_cq ≡ true = (st.bare.sound.bounded.sane.lives qp (st.bare.sound.declared.pair_lives qp ∙ o.lives)).home in
      let same : (v.device.pairs qp).send_cq ≡ cq = ap (λ (p : QueuePair). p.send_cq) (st.bare.sound.declared.pairs qp) ∙ sym o.queue in
      sym (st.bare.sound.declared.completions_live cq) ∙ ap v.device.completions_live (sym same) ∙ home

  stands : CompletionsStand d st.lists (poll_side programs w cq) ((view programs w).given cq) v cq
  stands = st.bare.state.completions cq lives

  pub tied : completions.Tied place m (w.adapter.queues cq) host q
  tied = st.bare.objects (Completions cq) lives

  -- there is room for it
  pub never_full : (index ci : ℕ) → MayOverrun (size (ring_of place)) q index ci → ⊥
  never_full index ci may = omega (arith, may.full, publish_room (length d.qps) total v dues cq u [] st.bare.sound.bounded o.owed, stands.counts.produced, stands.counts.acked, stands.counts.size, (st.bare.sound.bounded.within.completions cq).begun, (st.bare.sound.bounded.sane.completions cq).acked)

  -- The completion of the words, with the id that was stored, is the one that is owed.

  abbrev pair : ℕ
  pair = u.completion.qp

  abbrev requests_of : counted.Queue
  requests_of = st.lists.queues (Send pair)

  pair_lives : Lives d (Sends pair)
  pair_lives = subst (λ (k : ℕ). Lives d (Sends k)) (sym o.pair) o.lives

  pair_stands : QueueStands d programs w v requests_of (Send pair)
  pair_stands = st.bare.state.queues (Send pair) pair_lives

  posted : IsPosted d pair (v.posted (Send pair)) (u.number - 1) (request_of requests_of (u.number - 1))
  posted =
      let order = (st.bare.objects (Sends pair) pair_lives).shape.order in
      let low : u.number - 1 < requests_of.rung = omega (arith, o.spells.some, o.spells.taken, order.taken) in
      posted_at d programs w v requests_of pair (u.number - 1) (request_of requests_of (u.number - 1)) pair_stands low
      (slice_get-get_or requests_of.requests (u.number - 1) (record { index = 0; words = []; id = 0 }) (omega (arith, low, order.rung)))

  pub owed_is : completion_of c (id_in (w.posted (Send c.qpn)) (w.adapter.taken qp)) ≡ u.completion
  owed_is =
      ap (λ (n : ℕ). completion_of c (id_in (w.posted (Send c.qpn)) n)) (sym o.number)
      ∙ ap (λ (x : Cqe). completion_of c (id_in (w.posted (Send x.qpn)) u.number)) o.spells.words
      ∙ ap (λ (items : List Item). completion_of c (id_in items u.number)) pair_stands.told
      ∙ ap (completion_of c) (id_posted d pair (v.posted (Send pair)) u.number (request_of requests_of (u.number - 1)) posted)
      ∙ ap (λ (x : Cqe). completion_of x (request_of requests_of (u.number - 1)).id) o.spells.words
      ∙ completion_is pair (counted.index_of requests_of (u.number - 1)) (request_of requests_of (u.number - 1)).id
      ∙ sym o.spells.told

  pub goes : (x : Completion) → x ≡ u.completion → within.Goes (length d.qps) total v 0 (Publish cq x) dues
  goes x is = publish_goes (length d.qps) total v dues cq u [] st.bare.sound.bounded o.owed x is

  module _ (e : BusEntry) (device : QueueDevice) (inside : ring_place.touches (ring_of place) e.addr ≡ true) where
    abbrev rule : AdapterRule
    rule = with_queue cq device w.adapter

    -- this completion queue is all that may change of the queues of words
    record OneCompletions (now : Lists) : Type 0 where
      queues : (queue : Queue) → now.queues queue ≡ st.lists.queues queue
      completions : (k : ℕ) → k ≢ cq → now.completions k ≡ st.lists.completions k

    device_apart : (now : Lists) → OneCompletions now → (p : Object) → Lives d p → p ≢ Completions cq → sides d (view programs (with_adapter w rule)) now p ≡ sides d (view programs w) st.lists p
    device_apart now only (Completions k) alive differ =
        let apart : k ≢ cq = λ same. differ (ap (λ (n : ℕ). Completions n) same) in
        λ i. record { device = put_there w.adapter.queues cq device k apart i; host = (poll_side programs w k).host; words = only.completions k apart i }
    device_apart now only (Sends n) alive differ = λ i. record (sides d (view programs w) st.lists (Sends n)) { words = only.queues (Send n) i }
    device_apart now only (Receives n) alive differ = λ i. record (sides d (view programs w) st.lists (Receives n)) { words = only.queues (Recv n) i }

    device_moves : (now : Lists) → OneCompletions now → completions.Tied place (after_entry m e) device host (now.completions cq) → AllTied d programs (after_entry m e) (with_adapter w rule) now
    device_moves now only t =
        frame_in d map m e (view programs w) (view programs (with_adapter w rule)) st.lists now st.bare.objects (Completions cq) lives inside (device_apart now only)
        (coe 1 0 (i. completions.Tied place (after_entry m e) (put_here w.adapter.queues cq device i) host (now.completions cq)) t)

    -- one more word of it is stored
    pub publishes_on : w.adapter.at_work ≡ Publishing cq c → completions.Tied place (after_entry m e) device host q → Stands d programs total (after_entry m e) (with_adapter w rule) v dues
    publishes_on work t =
        let bare : Bare d programs total (after_entry m e) (with_adapter w rule) st.lists v dues =
        bare_quiet d programs total map m w v dues st (after_entry m e) rule (λ n. refl) (device_moves st.lists (record { queues = λ queue. refl; completions = λ k differ. refl }) t) in
        finish d programs total (after_entry m e) w st.lists v dues rule bare qp w.adapter.at_work
        (subst (λ (a : AdapterAt). AdapterStandsAt d st.lists v (at_visit qp w.adapter.at_work rule) a) (sym work)
        (record { lives = o.lives; queue = o.queue; unpolled = u; owed = o.owed; spells = o.spells; pair = o.pair; number = o.number }))

    module _ (index : ℕ) (may : MayPublish (size (ring_of place)) q index) where
      abbrev longer : PlainQueue
      longer = after_event q (Published index c)

      abbrev lists : Lists
      lists = record { completions = put_number st.lists.completions cq longer; queues = st.lists.queues }

      abbrev now : Verbs
      now = publish v cq (Complete cq u ∷ [])

      abbrev told : CompletionQueue
      told = record (completions_in v cq) { produced = v.device.produced cq + 1; unpolled = v.unpolled cq ++ u ∷ [] }

      lists_here : lists.completions cq ≡ longer
      lists_here = put_here st.lists.completions cq longer

      -- what no poll's entry tells of is among what was published
      from_low : stands.from ≤ produced q
      from_low =
          let count : produced q ≡ _ = same_produced tied.entries (w.adapter.queues cq) host q tied.fits in
          omega (arith, stands.from_is, count, (known tied.entries host tied.ring.consumer).next_in)

      gains_now : CompletionsIn d cq st.lists.queues longer (poll_side programs w cq) ((view programs w).given cq) told (ends_in v)
      gains_now =
          let long : length (q.completions ++ c ∷ []) ≡ length q.completions + 1 = length-append q.completions (c ∷ []) in
          let us : List Unpolled = v.unpolled cq in record {
            counts = record { acked = stands.counts.acked; produced = omega (arith, stands.counts.produced, long); size = stands.counts.size; runs = stands.counts.runs };
            from = stands.from;
            from_is = stands.from_is;
            low = stands.low;
            unpolled = subst (λ (cs : List Cqe). Match (IsCompletion st.lists) cs (us ++ u ∷ [])) (sym ((reads_as_history (size (ring_of place)) q).published index stands.from c may from_low))
                (match_push (IsCompletion st.lists) (since q stands.from) us c u stands.unpolled o.spells);
            reads = stands.reads;
            shows = record { least = omega (arith, stands.shows.least, long); enough = stands.shows.enough; reading = stands.shows.reading };
            poll = poll_front d cq (poll_side programs w cq).retirers st.lists.queues ((view programs w).given cq) us (u ∷ []) (poll_side programs w cq).state stands.poll;
            retirers = stands.retirers;
            asked = stands.asked;
            ends = stands.ends;
          }

      completions_now : (k : ℕ) → Lives d (Completions k) → CompletionsStand d lists (poll_side programs w k) ((view programs w).given k) now k
      completions_now = number_by (λ k b. Lives d (Completions k) → CompletionsIn d k st.lists.queues (if b then longer else st.lists.completions k) (poll_side programs w k) ((view programs w).given k) (record (completions_in v k) { produced = if b then v.device.produced cq + 1 else v.device.produced k; unpolled = if b then v.unpolled cq ++ u ∷ [] else v.unpolled k }) (ends_in v)) cq
          (λ alive. gains_now) (λ k differ alive. st.bare.state.completions k alive)

      -- it is published
      pub published_stands : (x : Completion) → x ≡ u.completion → completions.Tied place (after_entry m e) device host longer → Stands d programs total (after_entry m e) (with_adapter w (next_visit d rule)) (after v (Publish cq x)) dues
      published_stands x is t =
          let was = st.bare.sound.declared in
          let bare : Bare d programs total (after_entry m e) (with_adapter w rule) lists now dues = record {
            objects = device_moves lists (record { queues = λ queue. refl; completions = λ k differ. put_there st.lists.completions cq longer k differ })
                (subst (λ (y : PlainQueue). completions.Tied place (after_entry m e) device host y) (sym lists_here) t);
            state = record { queues = λ queue alive. let h = st.bare.state.queues queue alive in record { posted = h.posted; rung = h.rung; taken = h.taken; retired = h.retired; room = h.room; segments = h.segments; told = h.told }; completions = completions_now; taken = st.bare.state.taken };
            threads = st.bare.threads;
            sound = record {
              declared = record { pairs = was.pairs; pair_lives = was.pair_lives; completions_live = was.completions_live };
              long = st.bare.sound.long;
              bounded = subst (λ (acts : List Act). within.InBounds (length d.qps) total (publish v cq acts) dues) o.owed (goes x is).bounded;
            };
          } in
          subst (λ (acts : List Act). Stands d programs total (after_entry m e) (with_adapter w (next_visit d rule)) (publish v cq acts) dues) (sym o.owed)
          (to_next d programs total (after_entry m e) w lists now dues rule bare refl)
