-- Whoever writes a word of news says an entry.
use Rattle.std.proofs.Common.{◌≡◌, ◌≢◌, ℕ, zero, suc, ◌<◌, inl, inr, refl, sym, ap, subst, ◌∙◌, arith, true, List, [], ◌∷◌, length, is_some, option_map, Option, None, Some}
use Rattle.bus_core.specs.declared.operation.BusOp.TheVariants.{Load}
use Rattle.bus_core.specs.Mark.{Marked}
use Rattle.bus_core.specs.Trace.{Memory}
use Rattle.verbs_types.specs.declared.call.Call.{Call}
use Rattle.verbs_types.specs.declared.completion.Queue.{Queue}
use Rattle.verbs_types.specs.declared.completion.Queue.TheVariants as queues
use Rattle.verbs_types.specs.declared.declaration.Lines.{Lines}
use Rattle.verbs_types.specs.declared.request.Item.{Item}
use Rattle.verbs_rules.specs.Within.{Bounds}
use Rattle.verbs_rules.specs.Running.{Running}
use Rattle.verbs_rules.specs.Shape.{Shape, Posts, Takes, Once, Until, shape_of}
use Rattle.cqe_format.specs.declared.completion.Cqe.{Cqe}
use Rattle.owner_ring.proofs.Slots.{slot_not_record, touches_slot}
use Rattle.cq_pair.specs.Place.{ring_of}
use Rattle.cq_pair.specs.Queue.{QueueEvent}
use Rattle.counted_ring.proofs.Says.{bring_inside}
use Rattle.object_places.specs.Objects.{Mark, Completions, Lives, touches}
use Rattle.object_places.specs.Places.{completions_of}
use Rattle.provider_post.specs.Call.{mark_of, told_of}
use Rattle.provider_post.specs.Rule.{entry_told}
use Rattle.device_engine.specs.Event.{AdapterEvent, publish_said}
use Rattle.device_engine.specs.Rule.{MayAt, said_at}
use Rattle.device_engine.specs.State.{AdapterAt, AdapterRule, Looking, Recording, Reading, Publishing, Ending}
use Rattle.actor_rules.specs.Actors.{Actors, adapter_entry, by, what_of}
use Rattle.actor_rules.specs.Roles.{May, MayAny, part}
use Rattle.actor_rules.specs.Calls.{MayCall, call_says, MayIn, says_in}
use Rattle.actor_rules.specs.Posting.{MayPost, post_now, post_says}
use Rattle.actor_rules.specs.Thread.{Thread, queue_place, queue_object, QueueLives}
use Rattle.actor_rules.specs.Adapter.{AdapterStandsAt, Owes}
use Rattle.adapter_law.proofs.Publishes as publishes
use Rattle.actor_rules.specs.Holding.{Holds, IsMapped}
use Rattle.post_law.proofs.Calls.{IsPostCall, now_of, post_call}
use Rattle.post_law.proofs.Now.{QueueTied, queue_tied, retirer_at, reader_at, place_fine, object_lives, touches_queue}
use Rattle.marked_stores.specs.News.{IsNews}
use Rattle.marked_stores.specs.Stores.{SaysEntry}
use Rattle.marked_stores.proofs.Places.{AreWords, IsNewsIn, news_in, ended_no_news}
use Rattle.marked_stores.proofs.Polls.{poll_told}
use Rattle.marked_stores.proofs.Posters as posters
use Rattle.marked_stores.proofs.Publications as publications

-- what is said of a value is said of what is made of it
some_made : {A B : Type 0} (f : A → B) (o : Option A) → is_some o ≡ true → is_some (option_map f o) ≡ true
some_made f None h = h
some_made f (Some a) h = refl

-- a word beside the tail and the record of a queue is no news of it
beside_no_news : (d : Lines) (queue : Queue) (a : ℕ) → QueueLives d queue → a ≢ (queue_place d queue).tail → a ≢ (queue_place d queue).dbr → IsNewsIn d (queue_object queue) a → ⊥
beside_no_news d (queues.Send qp) a lives tail dbr news = elim news [ inl record_word ↦ dbr record_word | inr tail_word ↦ tail tail_word ]
beside_no_news d (queues.Recv qp) a lives tail dbr news = elim news [ inl record_word ↦ dbr record_word | inr tail_word ↦ tail tail_word ]
beside_no_news d (queues.Shared srq) a lives tail dbr news = lives

-- nor is a word of a completion that is not its last
plain_no_news : (d : Lines) (words : AreWords d) (cq a : ℕ) → Lives d (Completions cq) → publications.IsPlainWord (ring_of (completions_of d cq)) a → IsNews d a → ⊥
plain_no_news d words cq a lives plain news =
    let place = ring_of (completions_of d cq) in
    let few : plain.word < 8 = omega (arith, plain.early) in
    let inside : touches d (Completions cq) a ≡ true = subst (λ (n : ℕ). touches d (Completions cq) n ≡ true) (sym plain.is) (touches_slot place plain.index plain.word few) in
    elim (news_in d words (Completions cq) a lives inside news) [
      | inl record_word ↦ slot_not_record place plain.index plain.word (words.map.placed d (Completions cq) words.map.declared lives).fine few (sym plain.is ∙ record_word)
      | inr owner ↦ omega (arith, plain.is, plain.early, owner.is)
    ]

module _ (d : Lines) (programs : List (List Call)) (bounds : Bounds) (words : AreWords d) (m : Memory) (w : Actors) (r : Running) (x : Marked Mark) (holds : Holds d programs bounds m w r) (writes : x.entry.op ≢ Load) (news : IsNews d x.entry.addr) where
  abbrev map_ok : IsMapped d
  map_ok = words.map

  -- Threads

  module _ (t : ℕ) where
    abbrev s : Thread
    s = w.threads (suc t)

    post_told : (queue : Queue) (items : List Item) (rest : List Call) → IsPostCall d programs (suc t) s queue items rest → MayPost d s queue items x → is_some (post_says d s queue items x.entry) ≡ true
    post_told queue items rest call may =
        let lives = call.own.lives in
        let fine = place_fine d programs map_ok queue lives in
        let q = holds.stands.lists.queues queue in
        let mark = mark_of (now_of (length items) s.posting) in
        let tied : QueueTied d programs m w queue (s.posters queue) q = subst (λ (n : ℕ). QueueTied d programs m w queue ((w.threads n).posters queue) q) call.own.owner (queue_tied d programs queue m w holds.stands.lists lives holds.stands.bare.objects) in
        let inside = touches_queue d programs queue x.entry.addr lives (bring_inside (queue_place d queue) fine x.entry m (s.posters queue) (retirer_at d programs w queue) (reader_at d w queue) q mark tied may.goes_on.brings) in
        let here = news_in d words (queue_object queue) x.entry.addr (object_lives d programs queue lives) inside news in
        elim (posters.brings (queue_place d queue) fine x.entry m (s.posters queue) (retirer_at d programs w queue) (reader_at d w queue) q mark tied may.goes_on.brings) [
          | posters.Loads load ↦ absurd (writes load)
          | posters.Beside tail dbr ↦ absurd (beside_no_news d queue x.entry.addr lives tail dbr here)
          | posters.Rings rang ↦ ap (λ (said : Option _). is_some (entry_told queue items (post_now s queue (length items)).call (told_of said))) rang
        ]

    call_told : (calls : List Call) → s.calls ≡ calls → MayCall d s (suc t) calls x → is_some (call_says d s calls x) ≡ true
    call_told [] is may = absurd (ended_no_news d words x.entry.addr may.sets.at_address news)
    call_told (call ∷ rest) is may = by_shape (shape_of call) refl may
      where
        by_shape : (shape : Shape) → shape_of call ≡ shape → MayIn d s shape x → is_some (says_in d s shape x) ≡ true
        by_shape (Posts queue items) posts may = let stands = holds.stands.bare.threads t in post_told queue items rest (post_call d programs (suc t) s queue items call rest posts is stands.calls stands.work) may
        by_shape (Takes cq (Once most)) posts may = (poll_told d s cq most x may writes).polled
        by_shape (Takes cq (Until count)) posts may = (poll_told d s cq 1 x may writes).drained

  -- The adapter

  abbrev a : AdapterRule
  a = w.adapter

  abbrev Told : Option AdapterEvent → Type 0
  Told said = is_some (option_map (adapter_entry w.posted) said) ≡ true

  publish_told : (cq : ℕ) (c : Cqe) → Owes d holds.stands.lists r.verbs a cq c → MayAt d a (Publishing cq c) x.entry → Told (said_at d a (Publishing cq c) x.entry)
  publish_told cq c owes may =
      let lives : Lives d (Completions cq) = publishes.lives d programs bounds map_ok m w r.verbs holds.dues holds.stands cq c owes in
      let tied = publishes.tied d programs bounds map_ok m w r.verbs holds.dues holds.stands cq c owes in
      elim (publications.delivers (completions_of d cq) c x.entry m tied.entries (a.queues cq) (a.queues cq).overrun tied.ring.producer may) [
        | publications.Loads load ↦ absurd (writes load)
        | publications.Fills plain ↦ absurd (plain_no_news d words cq x.entry.addr lives plain news)
        | publications.Publishes index is ↦ ap (λ (said : Option QueueEvent). is_some (option_map (adapter_entry w.posted) (publish_said cq (a.taken a.visit) said))) is
      ]

  adapter_told : (work : AdapterAt) → AdapterStandsAt d holds.stands.lists r.verbs a work → MayAt d a work x.entry → Told (said_at d a work x.entry)
  adapter_told Looking stands may = absurd (writes may.load.op)
  adapter_told Recording stands may = absurd (writes may.load.op)
  adapter_told Reading stands may = absurd (writes may.load.op)
  adapter_told (Publishing cq c) stands may = publish_told cq c stands may
  adapter_told Ending stands may = absurd (writes may.op)

  what_told : (actor : ℕ) → May d actor (part actor w) x → is_some (what_of d w actor x) ≡ true
  what_told zero may = adapter_told a.at_work holds.stands.work may.goes_on
  what_told (suc t) may = call_told t (w.threads (suc t)).calls refl may

-- an operation that keeps its actor's rule
pub told : (d : Lines) (programs : List (List Call)) (bounds : Bounds) → AreWords d → (m : Memory) (w : Actors) (r : Running) (x : Marked Mark) → Holds d programs bounds m w r → MayAny d w x → SaysEntry d w x
told d programs bounds words m w r x holds may writes news = some_made (by x.entry.actor) (what_of d w x.entry.actor x) (what_told d programs bounds words m w r x holds writes news x.entry.actor may)
