-- What an operation of a poll leaves of all that it is not about.
use Rattle.std.proofs.Common.{if◌then◌else◌, ◌≡◌, ◌≢◌, ℕ, suc, refl, sym, ap, ◌∙◌, subst, eqb, List, [], ◌++◌, length, None}
use Rattle.std.proofs.lemmas.Bool.Decides.{eqb_tells}
use Rattle.bus_core.specs.Trace.{Memory}
use Rattle.verbs_types.specs.declared.call.Call.{Call}
use Rattle.verbs_types.specs.declared.completion.Completion.{Completion}
use Rattle.verbs_types.specs.declared.request.Item.{Item}
use Rattle.verbs_types.specs.declared.completion.Queue.{Queue}
use Rattle.verbs_types.specs.declared.completion.Queue.TheVariants.{Send}
use Rattle.verbs_types.specs.declared.declaration.Lines.{Lines}
use Rattle.verbs_rules.specs.State.{Verbs, Device, Limits}
use Rattle.verbs_rules.specs.Answered.{Due}
use Rattle.object_places.specs.Objects.{Lives, Completions}
use Rattle.provider_poll.specs.declared.state.PollState.{PollState}
use Rattle.provider_poll.specs.Rule.{PollRule}
use Rattle.actor_rules.specs.Family.{put_number}
use Rattle.actor_rules.specs.Owners.{poster_of, poller_of}
use Rattle.actor_rules.specs.Thread.{Thread, QueueLives}
use Rattle.actor_rules.specs.Actors.{Actors}
use Rattle.actor_rules.specs.Dues.{dues_at}
use Rattle.verbs_rules.specs.Within.{Bounds, InBounds}
use Rattle.actor_rules.proofs.Threading.{put_here, put_there, number_by}
use Rattle.actor_rules.specs.View.{View, view, post_written, poll_given, given_in}
use Rattle.actor_rules.proofs.Seen.{seen_kept, seen_put}
use Rattle.actor_rules.specs.Matching.{Match}
use Rattle.actor_rules.specs.Queues.{QueueIn, IsItem, written_by}
use Rattle.actor_rules.specs.Completions.{CompletionsStand}
use Rattle.actor_rules.specs.Threads.{ThreadStands, PollsRest}
use Rattle.actor_rules.proofs.Threads.{threads_now}
use Rattle.actor_rules.specs.Holding.{AsDeclared, Stands, StandsIn}
use Rattle.actor_rules.proofs.Growing.{Grows}
use Rattle.actor_rules.proofs.Kept.{completions_kept, work_kept}
use Rattle.poll_outcomes.specs.Moves.{polled_view, Moves}
use Rattle.poll_outcomes.proofs.Same.{same_grows}

-- a thread whose poll has come so far
abbrev pub goes_on : Thread → ℕ → PollRule → List Completion → List Call → Thread
goes_on th cq p given calls = record { calls = calls; posting = th.posting; given = given; posters = th.posters; polls = put_number th.polls cq p; ended = th.ended }

abbrev pub poll_goes_on : Actors → ℕ → ℕ → PollRule → List Completion → List Call → Actors
poll_goes_on w t cq p given calls = record { adapter = w.adapter; threads = put_number w.threads (suc t) (goes_on (w.threads (suc t)) cq p given calls); posted = w.posted }

module _ (d : Lines) (programs : List (List Call)) (w : Actors) (t cq : ℕ) where
  abbrev s : View
  s = view programs w

  -- the thread whose poll it is
  pub record IsPoller (total : Bounds) (calls : List Call) : Type 0 where
    pub owner : poller_of programs cq ≡ suc t
    pub none : (queue : Queue) → written_by queue (w.threads (suc t)) (w.threads (suc t)).calls ≡ []
    pub still : (queue : Queue) (th : Thread) → th.posting ≡ None → written_by queue th calls ≡ []
    pub posting : (w.threads (suc t)).posting ≡ None
    pub rest : PollsRest (λ other. other ≢ cq) (w.threads (suc t))

  -- what all owe now
  pub record Owed (p : PollRule) (given : List Completion) (calls : List Call) (dues dues' : List (List Due)) : Type 0 where
    pub thread : ThreadStands d programs (suc t) (goes_on (w.threads (suc t)) cq p given calls) (dues_at dues' (suc t))
    pub others : (j : ℕ) → j ≢ t → dues_at dues' (suc j) ≡ dues_at dues (suc j)
    pub long : length dues' ≡ length dues
    -- what was given is that of the poll under way
    pub shown : given_in p.state given ≡ given

  module _ (total : Bounds) (m m' : Memory) (v v' : Verbs) (dues dues' : List (List Due)) (p : PollRule) (given : List Completion) (calls : List Call)
      (stands : Stands d programs total m w v dues) (move : Moves d s cq m' stands.lists v p given v') (poller : IsPoller total calls) (owed : Owed p given calls dues dues') where
    abbrev th : Thread
    th = w.threads (suc t)

    abbrev moved : Thread
    moved = goes_on th cq p given calls

    abbrev after : Actors
    after = poll_goes_on w t cq p given calls

    given_there : (k : ℕ) → k ≢ cq → poll_given k moved ≡ poll_given k th
    given_there k apart = ap (λ (x : PollRule). given_in x.state given) (put_there th.polls cq p k apart) ∙ ap (λ (st : PollState). given_in st given) (poller.rest k apart) ∙ sym (ap (λ (st : PollState). given_in st th.given) (poller.rest k apart))

    view_now : view programs after ≡ polled_view s cq p given
    view_now = λ i. record {
      posters = seen_kept (poster_of programs) (λ queue (x : Thread). x.posters queue) w.threads (suc t) moved (λ queue. refl) i;
      written = seen_kept (poster_of programs) post_written w.threads (suc t) moved (λ queue. poller.still queue moved poller.posting ∙ sym (poller.none queue)) i;
      told = w.posted;
      polls = seen_put (poller_of programs) (λ k (x : Thread). x.polls k) w.threads (suc t) moved eqb cq p (λ k. eqb_tells k cq) poller.owner (put_here th.polls cq p) (λ k apart. put_there th.polls cq p k apart) i;
      given = seen_put (poller_of programs) poll_given w.threads (suc t) moved eqb cq given (λ k. eqb_tells k cq) poller.owner (ap (λ (x : PollRule). given_in x.state given) (put_here th.polls cq p) ∙ owed.shown) given_there i;
      readers = w.adapter.readers;
      devices = w.adapter.queues;
      taken = w.adapter.taken;
    }

    queue_stands : (queue : Queue) → QueueLives d queue → QueueIn d (polled_view s cq p given) v' (move.lists.queues queue) queue
    queue_stands queue lives =
        let h = stands.bare.state.queues queue lives in
        let words = move.words queue in
        let same = move.verbs in
        record {
          posted = coe 1 0 (i. Match (IsItem d queue) (words.requests i) (same.posted i queue ++ s.written queue)) h.posted;
          rung = words.rung ∙ h.rung ∙ sym (ap (λ (posted : Queue → List Item). length (posted queue)) same.posted);
          taken = ap (λ (x : Device). x.taken queue) same.device ∙ h.taken ∙ sym words.taken;
          retired = move.retired queue lives;
          room = ap (λ (x : Limits). x.room queue) same.limits ∙ h.room;
          segments = ap (λ (x : Limits). x.segments queue) same.limits ∙ h.segments;
          told = h.told ∙ sym (ap (λ (posted : Queue → List Item). posted queue) same.posted);
        }

    grows : (qp : ℕ) → Grows (stands.lists.queues (Send qp)) (move.lists.queues (Send qp))
    grows qp = same_grows _ _ (move.words (Send qp))

    completions_stand : (k : ℕ) → Lives d (Completions k) → CompletionsStand d move.lists (put_number s.polls cq p k) (put_number s.given cq given k) v' k
    completions_stand = number_by (λ k b. Lives d (Completions k) → CompletionsStand d move.lists (if b then p else s.polls k) (if b then given else s.given k) v' k) cq (λ lives. move.completions)
        (λ k apart lives. completions_kept d stands.lists move.lists grows (s.polls k) (s.given k) v v' k (move.plain k apart) (move.others k apart) (λ qp living home. move.ends qp living (λ same. apart (sym home ∙ same))) (stands.bare.state.completions k lives))

    pub stands_after : InBounds (length d.qps) total v' dues' → Stands d programs total m' after v' dues'
    stands_after bounded =
        let b = stands.bare in
        subst (λ (x : View). StandsIn d programs total m' x after.threads w.adapter v' dues') (sym view_now) (record {
          lists = move.lists;
          bare = record {
            objects = move.objects;
            state = record { queues = queue_stands; completions = completions_stand; taken = λ qp lives. b.state.taken qp lives ∙ sym (ap (λ (x : Device). x.taken (Send qp)) move.verbs.device) };
            threads = threads_now d programs w.threads t moved dues dues' owed.others owed.thread b.threads;
            sound = record {
              declared = subst (AsDeclared d) (sym move.verbs.device) b.sound.declared;
              long = owed.long ∙ b.sound.long;
              bounded = bounded;
            };
          };
          work = work_kept d stands.lists move.lists grows v v' w.adapter w.adapter.at_work (ap (λ (x : Device). x.owed) move.verbs.device) stands.work;
        })
