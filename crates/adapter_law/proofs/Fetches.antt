-- The adapter has read the last word of an entry, and takes the request.
use Rattle.std.proofs.Common.{◌≡◌, ℕ, ◌+◌, ◌-◌, ◌<◌, Bool, true, false, if◌then◌else◌, List, [], ◌∷◌, length, slice_get, Some, refl, sym, ◌∙◌, ap, subst, arith}
use Rattle.std.proofs.lemmas.Option.{get_or_from_slice_get}
use Rattle.bus_core.specs.declared.operation.BusEntry.{BusEntry}
use Rattle.bus_core.specs.Trace.{Memory, after_entry}
use Rattle.verbs_types.specs.declared.call.Call.{Call}
use Rattle.verbs_types.specs.declared.completion.Queue.{Queue}
use Rattle.verbs_types.specs.declared.completion.Queue.TheVariants.{Send}
use Rattle.verbs_types.specs.declared.declaration.Lines.{Lines}
use Rattle.verbs_types.specs.declared.entry.What.TheVariants.{Fetch}
use Rattle.verbs_types.specs.declared.request.Op.TheVariants.{Nop}
use Rattle.verbs_types.specs.declared.request.Request.{Request}
use Rattle.verbs_types.specs.declared.state.Act.{Act}
use Rattle.verbs_types.specs.declared.state.Act.TheVariants.{Complete}
use Rattle.verbs_types.specs.declared.state.QpState.TheVariants.{Rts}
use Rattle.verbs_types.specs.declared.state.QueuePair.{QueuePair}
use Rattle.verbs_types.specs.declared.state.Unpolled.{Unpolled}
use Rattle.verbs_rules.specs.Answered.{Due}
use Rattle.verbs_rules.specs.Family.{put}
use Rattle.verbs_rules.specs.Rows.{nop_completion}
use Rattle.verbs_rules.specs.Same.{same_queue}
use Rattle.actor_map.specs.Notes.{Serves}
use Rattle.verbs_rules.specs.State.{Verbs}
use Rattle.verbs_rules.specs.OfOne.{WorkQueue, queue_in}
use Rattle.verbs_rules.specs.Step.{after}
use Rattle.counted_ring.specs.declared.place.WqPlace.{WqPlace}
use Rattle.counted_ring.specs.Device.{WqReader}
use Rattle.counted_ring.specs.Place as requests_place
use Rattle.counted_ring.specs.Queue as counted
use Rattle.counted_ring.specs.Queue.{MayTake, Took, index_of, after_event}
use Rattle.counted_ring.proofs.Requests.{request_of}
use Rattle.counted_ring.proofs.Tied as requests
use Rattle.object_places.specs.Objects.{Completions, Sends, Lives}
use Rattle.object_places.specs.Places.{send_of}
use Rattle.device_engine.specs.Entry.{nop_cqe, wants}
use Rattle.device_engine.specs.Rows.{publish_or_next}
use Rattle.device_engine.specs.State.{AdapterRule, Publishing, reader, send_cq, next_visit, working, with_reader, with_taken, put_number}
use Rattle.actor_rules.specs.Actors.{Actors}
use Rattle.actor_rules.specs.View.{view}
use Rattle.verbs_rules.specs.Within as within
use Rattle.actor_rules.specs.Adapter.{Reads}
use Rattle.adapter_law.proofs.Entries.{IsPosted, posted_at, wants_posted, sends_rts, nop_at}
use Rattle.adapter_law.proofs.Keeps.{with_adapter, finish, to_next}
use Rattle.adapter_law.proofs.Looks.{OneQueue, reader_moves}
use Rattle.actor_rules.proofs.Kept.{completions_kept}
use Rattle.actor_rules.specs.Completions.{CompletionsStand, IsCompletion}
use Rattle.verbs_laws.proofs.GoesAdapter.{owed_by, fetch_goes, is_fetched}
use Rattle.actor_rules.proofs.Growing.{Grows, grows_refl, grows_event}
use Rattle.actor_rules.specs.Holding.{AsDeclared, Stands, Bare, IsMapped}
use Rattle.actor_rules.specs.Objects.{Lists, poll_side, poster_side, retirer_side}
use Rattle.actor_rules.proofs.PerQueue.{queue_here, queue_there, queue_cases, queue_cases₂}
use Rattle.actor_rules.specs.Queues.{QueueIs, QueueIn, QueueStands}
use Rattle.actor_rules.specs.Thread.{QueueLives}
use Rattle.actor_rules.proofs.Threading.{put_here, number_by}
use Rattle.verbs_rules.specs.Within.{Bounds}

module _ (d : Lines) (programs : List (List Call)) (total : Bounds) (map : IsMapped d) (m : Memory) (w : Actors) (v : Verbs) (dues : List (List Due)) (st : Stands d programs total m w v dues) where
  abbrev qp : ℕ
  qp = w.adapter.visit

  abbrev place : WqPlace
  place = send_of d qp

  -- the queue in words, and in the abstract state
  abbrev q : counted.Queue
  q = st.lists.queues (Send qp)

  abbrev u : WorkQueue
  u = queue_in v (Send qp)

  abbrev pub number : ℕ
  number = u.taken + 1

  module _ (reads : Reads d v w.adapter) (words : List ℕ) (may : MayTake q words) where
    lives : Lives d (Sends qp)
    lives = reads.visits.lives

    stands : QueueStands d programs w v q (Send qp)
    stands = st.bare.state.queues (Send qp) lives

    found : slice_get q.requests u.taken ≡ Some may.request
    found = ap (slice_get q.requests) stands.taken ∙ may.found

    posted : IsPosted d qp u.posted u.taken may.request
    posted = posted_at d programs w v q qp u.taken may.request stands (omega (arith, stands.taken, may.rung)) found

    abbrev item : Request
    item = posted.of

    more : u.taken < length u.posted
    more = omega (arith, stands.taken, may.rung, stands.rung)

    alive : v.device.pair_lives qp ≡ true
    alive = st.bare.sound.declared.pair_lives qp ∙ lives

    sends : (v.device.pairs qp).state ≡ Rts
    sends = ap (λ (p : QueuePair). p.state) (st.bare.sound.declared.pairs qp) ∙ sends_rts d qp reads.sends

    pub goes : within.Goes (length d.qps) total v 0 (Fetch (Send qp) number) dues
    goes = fetch_goes (length d.qps) total v dues qp item st.bare.sound.bounded alive sends reads.visits.idle posted.there more

    -- the record showed it as posted
    pub serves : Serves v (Fetch (Send qp) number) number
    serves = record { least = omega (arith, more); enough = omega arith }

    nop : item.op ≡ Nop
    nop = nop_at u.posted u.taken item (st.bare.sound.bounded.within.queues qp).nops posted.there

    wanted : wants words ≡ item.wanted
    wanted = ap wants may.words_are ∙ wants_posted d qp u.posted u.taken may.request posted nop

    -- the queues after it, where these acts are owed
    abbrev now : List Act → Verbs
    now acts = record v { device = record v.device { taken = put same_queue v.device.taken (Send qp) number; owed = acts } }

    abbrev lists : Lists
    lists = record { completions = st.lists.completions; queues = put same_queue st.lists.queues (Send qp) (after_event place q (Took words)) }

    is_now : after v (Fetch (Send qp) number) ≡ now (owed_by (v.device.pairs qp) qp number item)
    is_now = is_fetched (length d.qps) total v dues qp item st.bare.sound.bounded alive sends reads.visits.idle posted.there more

    lists_here : lists.queues (Send qp) ≡ after_event place q (Took words)
    lists_here = queue_here st.lists.queues (Send qp) (after_event place q (Took words))

    -- one more is taken, in words and in the state, and every other queue is as before
    queues_now : (acts : List Act) (queue : Queue) → QueueLives d queue → QueueIn d (view programs w) (now acts) (lists.queues queue) queue
    queues_now acts = queue_cases₂ (λ k taken y. QueueLives d k → QueueIs d ((view programs w).written k) (w.posted k) (record (queue_in v k) { taken = taken }) y k) v.device.taken st.lists.queues (Send qp) number (after_event place q (Took words))
        (λ alive_queue. record { posted = stands.posted; rung = stands.rung; taken = ap (λ (k : ℕ). k + 1) stands.taken; retired = stands.retired; room = stands.room; segments = stands.segments; told = stands.told })
        (λ k differ alive_queue. st.bare.state.queues k alive_queue)

    grows_now : (i : ℕ) → Grows (st.lists.queues (Send i)) (lists.queues (Send i))
    grows_now i =
        let order = (st.bare.objects (Sends qp) lives).shape.order in
        queue_cases (λ k x. Grows (st.lists.queues k) x) st.lists.queues (Send qp) (after_event place q (Took words)) (grows_event place q (Took words) (omega (arith, order.taken, order.rung))) (λ k differ. grows_refl (st.lists.queues k)) (Send i)

    completions_now : (acts : List Act) (cq : ℕ) → Lives d (Completions cq) → CompletionsStand d lists (poll_side programs w cq) ((view programs w).given cq) (now acts) cq
    completions_now acts cq alive = completions_kept d st.lists lists grows_now (poll_side programs w cq) ((view programs w).given cq) v (now acts) cq refl refl (λ i live home. refl) (st.bare.state.completions cq alive)

    module _ (e : BusEntry) (r : WqReader) (inside : requests_place.touches place e.addr ≡ true)
        (tied : requests.Tied place (after_entry m e) (poster_side programs w (Send qp)) (retirer_side d programs w qp) r (after_event place q (Took words))) where
      abbrev pub rule : AdapterRule
      rule = with_taken (with_reader r w.adapter)

      taken_now : (acts : List Act) (n : ℕ) → Lives d (Sends n) → rule.taken n ≡ (now acts).device.taken (Send n)
      taken_now acts = number_by (λ n b. Lives d (Sends n) → (if b then w.adapter.taken qp + 1 else w.adapter.taken n) ≡ (if b then number else v.device.taken (Send n))) qp (λ alive. ap (λ (k : ℕ). k + 1) (st.bare.state.taken qp alive)) (λ n differ alive. st.bare.state.taken n alive)

      abbrev was : AsDeclared d v.device
      was = st.bare.sound.declared

      one : OneQueue d programs total map m w v dues st lists
      one = record { queues = λ queue differ. queue_there st.lists.queues (Send qp) (after_event place q (Took words)) queue differ; completions = λ cq. refl }

      bare : (acts : List Act) → within.InBounds (length d.qps) total (now acts) dues → Bare d programs total (after_entry m e) (with_adapter w rule) lists (now acts) dues
      bare acts bounded_now = record {
        objects = reader_moves d programs total map m w v dues st e lists (put_number w.adapter.taken qp (w.adapter.taken qp + 1)) r lives inside one
            (subst (λ (x : counted.Queue). requests.Tied place (after_entry m e) (poster_side programs w (Send qp)) (retirer_side d programs w qp) r x) (sym lists_here) tied);
        state = record { queues = queues_now acts; completions = completions_now acts; taken = taken_now acts };
        threads = st.bare.threads;
        sound = record { declared = record { pairs = was.pairs; pair_lives = was.pair_lives; completions_live = was.completions_live }; long = st.bare.sound.long; bounded = bounded_now };
      }

      -- what is owed is the completion of the words
      abbrev owed_now : Unpolled
      owed_now = record { completion = nop_completion qp item.id 0; number = number }

      spells_now : IsCompletion lists (nop_cqe qp (reader w.adapter).next) owed_now
      spells_now =
          let back : number - 1 ≡ q.taken = omega (arith, stands.taken) in
          let index : index_of (lists.queues (Send qp)) (number - 1) ≡ index_of q q.taken = ap (λ (x : counted.Queue). index_of x (number - 1)) lists_here ∙ ap (index_of q) back in
          let request : request_of (lists.queues (Send qp)) (number - 1) ≡ may.request =
          ap (λ (x : counted.Queue). request_of x (number - 1)) lists_here ∙ ap (request_of q) back ∙ get_or_from_slice_get q.requests q.taken may.request _ may.found in
          let taken : (lists.queues (Send qp)).taken ≡ q.taken + 1 = ap (λ (x : counted.Queue). x.taken) lists_here in record {
            some = omega arith;
            taken = omega (arith, taken, stands.taken);
            words = ap (nop_cqe qp) ((st.bare.objects (Sends qp) lives).device.next_is ∙ sym index);
            told = ap (λ (i : ℕ). nop_completion qp i 0) (sym posted.spells.id_is ∙ ap (λ (x : counted.Request). x.id) (sym request));
          }

      by_wish : (wish : Bool) → within.InBounds (length d.qps) total (now (if wish then Complete (v.device.pairs qp).send_cq owed_now ∷ [] else [])) dues
          → Stands d programs total (after_entry m e) (with_adapter w (if wish then working (Publishing (send_cq d qp) (nop_cqe qp (reader w.adapter).next)) rule else next_visit d rule)) (now (if wish then Complete (v.device.pairs qp).send_cq owed_now ∷ [] else [])) dues
      by_wish true bounded_now =
          finish d programs total (after_entry m e) w lists (now (Complete (v.device.pairs qp).send_cq owed_now ∷ [])) dues rule (bare (Complete (v.device.pairs qp).send_cq owed_now ∷ []) bounded_now) qp (Publishing (send_cq d qp) (nop_cqe qp (reader w.adapter).next)) (record {
            lives = lives;
            queue = refl;
            unpolled = owed_now;
            owed = ap (λ (p : QueuePair). Complete p.send_cq owed_now ∷ []) (st.bare.sound.declared.pairs qp);
            spells = spells_now;
            pair = refl;
            number = ap (λ (k : ℕ). k + 1) (sym (st.bare.state.taken qp lives)) ∙ sym (put_here w.adapter.taken qp (w.adapter.taken qp + 1));
          })
      by_wish false bounded_now = to_next d programs total (after_entry m e) w lists (now []) dues rule (bare [] bounded_now) refl

      -- the request is taken
      pub takes : Stands d programs total (after_entry m e) (with_adapter w (publish_or_next d (reader w.adapter).next words rule)) (after v (Fetch (Send qp) number)) dues
      takes =
          subst (λ (x : Verbs). Stands d programs total (after_entry m e) (with_adapter w (publish_or_next d (reader w.adapter).next words rule)) x dues) (sym is_now)
          (subst (λ (b : Bool). Stands d programs total (after_entry m e) (with_adapter w (if b then working (Publishing (send_cq d qp) (nop_cqe qp (reader w.adapter).next)) rule else next_visit d rule)) (now (owed_by (v.device.pairs qp) qp number item)) dues) (sym wanted)
          (by_wish item.wanted (subst (λ (x : Verbs). within.InBounds (length d.qps) total x dues) is_now goes.bounded)))
