-- All that stands after an operation of a call to post, from what it made of its own queue, of the call and of the abstract state.
use Rattle.std.proofs.Common.{if◌then◌else◌, Option, ◌≡◌, ◌≢◌, ℕ, suc, refl, sym, ap, subst, ◌∙◌, true, List, []}
use Rattle.bus_core.specs.declared.operation.BusEntry.{BusEntry}
use Rattle.bus_core.specs.Trace.{Memory, after_entry}
use Rattle.verbs_types.specs.declared.call.Call.{Call}
use Rattle.verbs_types.specs.declared.completion.Queue.{Queue}
use Rattle.verbs_types.specs.declared.completion.Queue.TheVariants as queues
use Rattle.verbs_types.specs.declared.declaration.Lines.{Lines}
use Rattle.verbs_types.specs.declared.request.Item.{Item}
use Rattle.verbs_rules.specs.Answered.{Due}
use Rattle.verbs_rules.specs.Family.{put}
use Rattle.verbs_rules.specs.Same.{same_queue}
use Rattle.counted_ring.specs.Device.{WqReader}
use Rattle.counted_ring.specs.Law.{fresh_finder, fresh_device}
use Rattle.counted_ring.specs.Place as place_of
use Rattle.counted_ring.specs.Poster.{Poster}
use Rattle.counted_ring.specs.Queue as counted
use Rattle.counted_ring.specs.Retirer.{Retirer}
use Rattle.counted_ring.proofs.Tied as requests
use Rattle.object_places.specs.Objects.{Object, Completions, Sends, Receives, Lives, touches}
use Rattle.object_places.specs.Places.{qp_line}
use Rattle.provider_poll.specs.Rule.{PollRule}
use Rattle.actor_rules.specs.Owners.{poster_of, poller_of}
use Rattle.actor_rules.specs.Thread.{Thread, queue_place, queue_object, QueueLives}
use Rattle.actor_rules.specs.Actors.{Actors}
use Rattle.actor_rules.specs.Dues.{dues_at}
use Rattle.actor_rules.specs.Family.{put_number}
use Rattle.actor_rules.specs.Polling.{place_in}
use Rattle.verbs_rules.specs.Within.{Bounds}
use Rattle.verbs_rules.specs.State.{Verbs}
use Rattle.verbs_rules.specs.OfOne.{queue_in}
use Rattle.device_engine.specs.State.{send_cq}
use Rattle.actor_rules.specs.View.{View, view, post_written, poll_given, written_in}
use Rattle.actor_rules.proofs.Seen.{seen_kept, seen_put}
use Rattle.actor_rules.specs.Objects.{Lists, sides, TiedIn, IsTied, poster_side, retirer_in}
use Rattle.verbs_laws.proofs.Sameness.{same_queue-true}
use Rattle.provider_post.specs.declared.call.Call as post
use Rattle.actor_rules.proofs.Families.{put_same}
use Rattle.actor_rules.proofs.PerQueue.{queue_tells, queue_here, queue_there, queue_by, queue_cases}
use Rattle.actor_rules.specs.Queues.{QueueIs, written_by}
use Rattle.actor_rules.specs.Threads.{ThreadStands}
use Rattle.actor_rules.proofs.Threads.{threads_now}
use Rattle.actor_rules.specs.Holding.{IsSound, Stands, StandsIn, IsMapped}
use Rattle.actor_rules.proofs.Frame.{frame_in}
use Rattle.actor_rules.proofs.Growing.{Grows, grows_refl}
use Rattle.actor_rules.proofs.Kept.{completions_kept, work_kept}

-- the retirer and the adapter's side of a work queue; no receive is taken or retired yet
abbrev pub retirer_for : Lines → (ℕ → PollRule) → Queue → Retirer
retirer_for d polls (queues.Send qp) = retirer_in (polls (send_cq d qp)).retirers (place_in d (send_cq d qp) qp)
retirer_for d polls _ = fresh_finder.retirer

abbrev pub reader_for : Lines → (ℕ → WqReader) → Queue → WqReader
reader_for d readers (queues.Send qp) = readers qp
reader_for d readers (queues.Recv qp) = fresh_device (qp_line d qp).start
reader_for d readers (queues.Shared srq) = fresh_device 0

abbrev pub QueueTiedIn : Lines → Memory → View → Queue → Poster → counted.Queue → Type 0
QueueTiedIn d m s queue poster q = requests.Tied (queue_place d queue) m poster (retirer_for d s.polls queue) (reader_for d s.readers queue) q

abbrev pub retirer_at : Lines → List (List Call) → Actors → Queue → Retirer
retirer_at d programs w queue = retirer_for d (view programs w).polls queue

abbrev pub reader_at : Lines → Actors → Queue → WqReader
reader_at d w queue = reader_for d w.adapter.readers queue

abbrev pub QueueTied : Lines → List (List Call) → Memory → Actors → Queue → Poster → counted.Queue → Type 0
QueueTied d programs m w queue poster q = QueueTiedIn d m (view programs w) queue poster q

-- a thread whose call to post has come so far, with the poster of its queue
abbrev pub posts_on : Thread → Queue → Poster → Option post.Call → List Call → Thread
posts_on t queue poster posting calls = record { calls = calls; posting = posting; given = t.given; posters = put same_queue t.posters queue poster; polls = t.polls; ended = t.ended }

module _ (d : Lines) (programs : List (List Call)) where
  pub queue_tied : (queue : Queue) (m : Memory) (w : Actors) (l : Lists) → QueueLives d queue → ((o : Object) → Lives d o → IsTied d programs m w l o) → QueueTied d programs m w queue (poster_side programs w queue) (l.queues queue)
  queue_tied (queues.Send qp) m w l lives all = all (Sends qp) lives
  queue_tied (queues.Recv qp) m w l lives all = all (Receives qp) lives
  queue_tied (queues.Shared srq) m w l lives all = absurd lives

  object_tied : (queue : Queue) (m : Memory) (s : View) (l : Lists) → QueueLives d queue → QueueTiedIn d m s queue (s.posters queue) (l.queues queue) → TiedIn d m s l (queue_object queue)
  object_tied (queues.Send qp) m s l lives t = t
  object_tied (queues.Recv qp) m s l lives t = t
  object_tied (queues.Shared srq) m s l lives t = absurd lives

  pub object_lives : (queue : Queue) → QueueLives d queue → Lives d (queue_object queue)
  object_lives (queues.Send qp) lives = lives
  object_lives (queues.Recv qp) lives = lives
  object_lives (queues.Shared srq) lives = absurd lives

  pub place_fine : IsMapped d → (queue : Queue) → QueueLives d queue → place_of.IsPlace (queue_place d queue)
  place_fine map (queues.Send qp) lives = (map.placed d (Sends qp) map.declared lives).fine
  place_fine map (queues.Recv qp) lives = (map.placed d (Receives qp) map.declared lives).fine
  place_fine map (queues.Shared srq) lives = absurd lives

  pub touches_queue : (queue : Queue) (a : ℕ) → QueueLives d queue → place_of.touches (queue_place d queue) a ≡ true → touches d (queue_object queue) a ≡ true
  touches_queue (queues.Send qp) a lives h = h
  touches_queue (queues.Recv qp) a lives h = h
  touches_queue (queues.Shared srq) a lives h = absurd lives

  module _ (total : Bounds) (map : IsMapped d) (m : Memory) (w : Actors) (v : Verbs) (dues : List (List Due)) (stands : Stands d programs total m w v dues)
      (t : ℕ) (queue : Queue) (lives : QueueLives d queue) (owner : poster_of programs queue ≡ suc t) (e : BusEntry)
      (poster : Poster) (posting : Option post.Call) (calls : List Call) (q : counted.Queue) where
    abbrev old : Thread
    old = w.threads (suc t)

    abbrev thread : Thread
    thread = posts_on old queue poster posting calls

    -- all actors, where this thread is as it is now, and this was posted
    abbrev pub now : (Queue → List Item) → Actors
    now posted = record { adapter = w.adapter; threads = put_number w.threads (suc t) thread; posted = posted }

    -- What the operation made: of the words and the queue that they stand for, where this is posted on the state's queue and this is told, and of its thread.
    pub record Posts (list told : List Item) (dues' : List (List Due)) : Type 0 where
      pub inside : touches d (queue_object queue) e.addr ≡ true
      pub tied : QueueTied d programs (after_entry m e) w queue poster q
      pub stands_for : QueueIs d (written_in queue posting calls) told (record (queue_in v queue) { posted = list }) q queue
      pub grows : Grows (stands.lists.queues queue) q
      pub silent : (other : Queue) → other ≢ queue → written_by other old old.calls ≡ []
      pub silent_now : (other : Queue) → other ≢ queue → written_in other posting calls ≡ []
      pub own : ThreadStands d programs (suc t) thread (dues_at dues' (suc t))
      pub others : (k : ℕ) → k ≢ t → dues_at dues' (suc k) ≡ dues_at dues (suc k)

    abbrev m' : Memory
    m' = after_entry m e

    abbrev l : Lists
    l = stands.lists

    abbrev l' : Lists
    l' = record { completions = l.completions; queues = put same_queue l.queues queue q }

    abbrev s : View
    s = view programs w

    module _ (list told : List Item) (dues' : List (List Due)) (made : Posts list told dues') where
      -- one queue's side has moved, and what is written and told there
      abbrev s' : View
      s' = record s { posters = put same_queue s.posters queue poster; written = put same_queue s.written queue (written_in queue posting calls); told = put same_queue w.posted queue told }

      abbrev v' : Verbs
      v' = record v { posted = put same_queue v.posted queue list }

      view_now : view programs (now s'.told) ≡ s'
      view_now = λ i. record {
        posters = seen_put (poster_of programs) (λ k (x : Thread). x.posters k) w.threads (suc t) thread same_queue queue poster (λ k. queue_tells k queue) owner (queue_here old.posters queue poster) (λ k differ. queue_there old.posters queue poster k differ) i;
        written = seen_put (poster_of programs) post_written w.threads (suc t) thread same_queue queue (written_in queue posting calls) (λ k. queue_tells k queue) owner refl (λ k differ. made.silent_now k differ ∙ sym (made.silent k differ)) i;
        told = s'.told;
        polls = seen_kept (poller_of programs) (λ k (x : Thread). x.polls k) w.threads (suc t) thread (λ k. refl) i;
        given = seen_kept (poller_of programs) poll_given w.threads (suc t) thread (λ k. refl) i;
        readers = w.adapter.readers;
        devices = w.adapter.queues;
        taken = w.adapter.taken;
      }

      other_sides : (p : Object) → Lives d p → p ≢ queue_object queue → sides d s' l' p ≡ sides d s l p
      other_sides (Completions cq) alive differ = refl
      other_sides (Sends qp) alive differ =
          let apart : queues.Send qp ≢ queue = λ same. differ (ap queue_object same) in
          λ i. record (sides d s l (Sends qp)) { poster = queue_there s.posters queue poster (queues.Send qp) apart i; words = queue_there l.queues queue q (queues.Send qp) apart i }
      other_sides (Receives qp) alive differ =
          let apart : queues.Recv qp ≢ queue = λ same. differ (ap queue_object same) in
          λ i. record (sides d s l (Receives qp)) { poster = queue_there s.posters queue poster (queues.Recv qp) apart i; words = queue_there l.queues queue q (queues.Recv qp) apart i }

      grows_all : (qp : ℕ) → Grows (l.queues (queues.Send qp)) (l'.queues (queues.Send qp))
      grows_all qp = queue_cases (λ k x. Grows (l.queues k) x) l.queues queue q made.grows (λ other differ. grows_refl (l.queues other)) (queues.Send qp)

      -- what the adapter takes, and what a poll has told, stays
      pub stands_now : IsSound d programs total v' dues' → Stands d programs total m' (now s'.told) v' dues'
      stands_now sound =
          let b = stands.bare in
          subst (λ (x : View). StandsIn d programs total m' x (now s'.told).threads w.adapter v' dues') (sym view_now) (record {
            lists = l';
            bare = record {
              objects = frame_in d map m e s s' l l' b.objects (queue_object queue) (object_lives queue lives) made.inside other_sides
                  (object_tied queue m' s' l' lives (coe 1 0 (i. QueueTiedIn d m' s queue (queue_here s.posters queue poster i) (queue_here l.queues queue q i)) made.tied));
              state = record {
                queues = queue_by (λ k b. QueueLives d k → QueueIs d (if b then written_in queue posting calls else s.written k) (if b then told else w.posted k) (record (queue_in v k) { posted = if b then list else v.posted k }) (if b then q else l.queues k) k) queue (λ alive. made.stands_for) (λ k differ alive. b.state.queues k alive);
                completions = λ cq alive. completions_kept d l l' grows_all (s.polls cq) (s.given cq) v v' cq refl refl (λ qp live home. refl) (b.state.completions cq alive);
                taken = b.state.taken;
              };
              threads = threads_now d programs w.threads t thread dues dues' made.others made.own b.threads;
              sound = sound;
            };
            work = work_kept d l l' grows_all v v' w.adapter w.adapter.at_work refl stands.work;
          })

    -- an operation that leaves the abstract state, and of which nothing is told
    pub stands_still : (dues' : List (List Due)) → Posts (v.posted queue) (w.posted queue) dues' → IsSound d programs total v dues' → Stands d programs total m' (now w.posted) v dues'
    stands_still dues' made sound =
        let posted_same : put same_queue v.posted queue (v.posted queue) ≡ v.posted = put_same same_queue v.posted queue (v.posted queue) (λ j same. same_queue-true j queue same) refl in
        let told_same : put same_queue w.posted queue (w.posted queue) ≡ w.posted = put_same same_queue w.posted queue (w.posted queue) (λ j same. same_queue-true j queue same) refl in
        coe 0 1 (i. Stands d programs total m' (now (told_same i)) (record v { posted = posted_same i }) dues')
        (stands_now (v.posted queue) (w.posted queue) dues' made (coe 1 0 (i. IsSound d programs total (record v { posted = posted_same i }) dues') sound))
