-- What an operation of a poll moves: of the words, the sides and the lists that stand for them.
use Rattle.std.proofs.Common.{◌≡◌, ◌≢◌, ℕ, inl, inr, refl, sym, ap, ◌∙◌, subst, arith, ◌<◌, true, List, length, slice_set}
use Rattle.std.proofs.lemmas.List.{get_or-set_same, get_or-set_other}
use Rattle.bus_core.specs.declared.operation.BusEntry.{BusEntry}
use Rattle.bus_core.specs.Trace.{Memory, after_entry}
use Rattle.verbs_types.specs.declared.completion.Completion.{Completion}
use Rattle.verbs_types.specs.declared.completion.Queue.{Queue}
use Rattle.verbs_types.specs.declared.completion.Queue.TheVariants.{Send}
use Rattle.verbs_types.specs.declared.declaration.Lines.{Lines}
use Rattle.verbs_rules.specs.Family.{put}
use Rattle.verbs_rules.specs.Same.{same_queue}
use Rattle.verbs_rules.specs.State.{Verbs}
use Rattle.verbs_rules.specs.OfOne.{completions_in}
use Rattle.cq_pair.specs.Queue.{PlainQueue}
use Rattle.cq_pair.proofs.Tied as completions
use Rattle.counted_ring.specs.Queue as counted
use Rattle.counted_ring.specs.Retirer.{Retirer}
use Rattle.counted_ring.specs.Law.{fresh_finder}
use Rattle.counted_ring.proofs.Tied as requests
use Rattle.object_places.specs.Objects.{Object, Completions, Sends, Receives, Lives, touches}
use Rattle.object_places.specs.Places.{send_of, completions_of}
use Rattle.provider_poll.specs.Rule.{PollRule}
use Rattle.device_engine.specs.State.{send_cq}
use Rattle.actor_rules.specs.Family.{put_number}
use Rattle.actor_rules.specs.Polling.{place_in}
use Rattle.verbs_laws.proofs.Choices.{either}
use Rattle.actor_rules.specs.Completions.{CompletionsIn, CompletionsStand, ends_in, HasPlace}
use Rattle.actor_rules.proofs.PollPlaces.{same_pair, living_by_place, place_by_living}
use Rattle.poll_outcomes.specs.Now.{PollNow}
use Rattle.actor_rules.specs.View.{View}
use Rattle.actor_rules.specs.Objects.{Lists, sides, retirer_in, retirer_of}
use Rattle.actor_rules.specs.Thread.{QueueLives}
use Rattle.actor_rules.proofs.Threading.{put_here, put_there, put_keeps}
use Rattle.actor_rules.proofs.PerQueue.{queue_here, queue_there, queue_cases}
use Rattle.actor_rules.proofs.Kept.{completions_kept}
use Rattle.actor_rules.proofs.Frame.{frame_in}
use Rattle.poll_outcomes.specs.Moves.{polled_view, Moves, SameVerbs, SameRequests}
use Rattle.poll_outcomes.proofs.Same.{requests_refl, same_grows}

-- what an entry keeps of the state beside one completion queue
pub record VerbsKept (d : Lines) (cq : ℕ) (v v' : Verbs) : Type 0 where
  pub same : SameVerbs v v'
  pub others : (k : ℕ) → k ≢ cq → completions_in v' k ≡ completions_in v k
  pub ends : (qp : ℕ) → Lives d (Sends qp) → send_cq d qp ≢ cq → (v'.settled (Send qp)).ends ≡ (v.settled (Send qp)).ends

module _ (d : Lines) (m : Memory) (around : View) (cq most : ℕ) (l : Lists) (v : Verbs) (p : PollRule) (given : List Completion) (now : PollNow d m around cq most l v p given)
    (e : BusEntry) (p' : PollRule) (given' : List Completion) (v' : Verbs) where
  abbrev now_around : View
  now_around = polled_view around cq p' given'

  -- an operation on the completion queue's words
  module _ (q : PlainQueue) where
    abbrev lists_with : Lists
    lists_with = record { completions = put_number l.completions cq q; queues = l.queues }

    pub record HostMoves : Type 0 where
      pub inside : touches d (Completions cq) e.addr ≡ true
      pub tied : completions.Tied (completions_of d cq) (after_entry m e) (around.devices cq) p'.host q
      pub retirers : p'.retirers ≡ p.retirers
      pub verbs : VerbsKept d cq v v'
      pub retired : (queue : Queue) → (v'.settled queue).retired ≡ (v.settled queue).retired
      pub stands : CompletionsIn d cq l.queues q p' given' (completions_in v' cq) (ends_in v')

    pub host_moves : HostMoves → Moves d around cq (after_entry m e) l v p' given' v'
    host_moves h = record {
      lists = lists_with;
      objects = frame_in d now.mapped m e around now_around l lists_with now.objects (Completions cq) now.lives h.inside same_at (coe 1 0 (i. completions.Tied (completions_of d cq) (after_entry m e) (around.devices cq) (put_here around.polls cq p' i).host (put_here l.completions cq q i)) h.tied);
      words = λ queue. requests_refl (l.queues queue);
      verbs = h.verbs.same;
      retired = λ queue lives. h.retired queue ∙ now.retired queue lives;
      plain = λ k apart. put_there l.completions cq q k apart;
      others = h.verbs.others;
      ends = h.verbs.ends;
      completions = coe 1 0 (i. CompletionsIn d cq l.queues (put_here l.completions cq q i) p' given' (completions_in v' cq) (ends_in v')) h.stands;
    }
      where
        same_at : (o : Object) → Lives d o → o ≢ Completions cq → sides d now_around lists_with o ≡ sides d around l o
        same_at (Completions k) lives apart =
            let other : k ≢ cq = λ same. apart (ap (λ (n : ℕ). Completions n) same) in
            λ i. record { device = around.devices k; host = (put_there around.polls cq p' k other i).host; words = put_there l.completions cq q k other i }
        same_at (Sends qp) lives apart = λ i. record (sides d around l (Sends qp)) { retirer = retirer_in (put_keeps around.polls cq p' (λ (x : PollRule). x.retirers) (h.retirers ∙ now.retirers_same) (send_cq d qp) i) (place_in d (send_cq d qp) qp) }
        same_at (Receives qp) lives apart = refl

  -- an operation on a send queue's words
  module _ (qp : ℕ) (place : HasPlace d cq qp) (side : Retirer) (q : counted.Queue) where
    abbrev lists_by : Lists
    lists_by = record { completions = l.completions; queues = put same_queue l.queues (Send qp) q }

    pub record QueueMoves : Type 0 where
      pub inside : touches d (Sends qp) e.addr ≡ true
      pub tied : requests.Tied (send_of d qp) (after_entry m e) (around.posters (Send qp)) side (around.readers qp) q
      pub host : p'.host ≡ p.host
      pub retirers : p'.retirers ≡ slice_set p.retirers (place_in d cq qp) side
      pub requests_same : SameRequests (l.queues (Send qp)) q
      pub verbs : VerbsKept d cq v v'
      pub retired : (v'.settled (Send qp)).retired ≡ q.retired
      pub retired_others : (queue : Queue) → queue ≢ Send qp → (v'.settled queue).retired ≡ (v.settled queue).retired
      pub stands : CompletionsStand d l p' given' v' cq

    pub queue_moves : QueueMoves → Moves d around cq (after_entry m e) l v p' given' v'
    queue_moves h = record {
      lists = lists_by;
      objects = frame_in d now.mapped m e around now_around l lists_by now.objects (Sends qp) (living_by_place d cq qp place).0 h.inside same_at
          (coe 1 0 (i. requests.Tied (send_of d qp) (after_entry m e) (around.posters (Send qp)) (side_now i) (around.readers qp) (queue_here l.queues (Send qp) q i)) h.tied);
      words = words_same;
      verbs = h.verbs.same;
      retired = λ queue lives. queue_cases (λ other x. QueueLives d other → (v'.settled other).retired ≡ x.retired) l.queues (Send qp) q (λ live. h.retired) (λ other apart live. h.retired_others other apart ∙ now.retired other live) queue lives;
      plain = λ k apart. refl;
      others = h.verbs.others;
      ends = h.verbs.ends;
      completions = completions_kept d l lists_by (λ n. same_grows _ _ (words_same (Send n))) p' given' v' v' cq refl refl (λ i lives home. refl) h.stands;
    }
      where
        words_same : (queue : Queue) → SameRequests (l.queues queue) (lists_by.queues queue)
        words_same = queue_cases (λ other x. SameRequests (l.queues other) x) l.queues (Send qp) q h.requests_same (λ other apart. requests_refl (l.queues other))

        inside_list : place_in d cq qp < length p.retirers
        inside_list = omega (arith, place.inside, now.stands.retirers)

        retirer_at : (k i : ℕ) → Lives d (Sends i) → send_cq d i ≡ k → i ≢ qp → retirer_in (now_around.polls k).retirers (place_in d k i) ≡ retirer_in (around.polls k).retirers (place_in d k i)
        retirer_at k i lives home differ = elim (either k cq) [
          | inl same ↦
              let apart : place_in d cq i ≢ place_in d cq qp = λ one. differ (same_pair d cq i qp (place_by_living d cq i lives (home ∙ same)) place one) in
              subst (λ (j : ℕ). retirer_in (now_around.polls j).retirers (place_in d j i) ≡ retirer_in (around.polls j).retirers (place_in d j i)) (sym same)
              (ap (λ (x : PollRule). retirer_in x.retirers (place_in d cq i)) (put_here around.polls cq p') ∙ ap (λ (rs : List Retirer). retirer_in rs (place_in d cq i)) h.retirers
              ∙ get_or-set_other p.retirers (place_in d cq qp) (place_in d cq i) side fresh_finder.retirer apart ∙ ap (λ (rs : List Retirer). retirer_in rs (place_in d cq i)) now.retirers_same)
          | inr apart ↦ ap (λ (x : PollRule). retirer_in x.retirers (place_in d k i)) (put_there around.polls cq p' k apart)
        ]

        same_at : (o : Object) → Lives d o → o ≢ Sends qp → sides d now_around lists_by o ≡ sides d around l o
        same_at (Completions k) lives apart = λ i. record (sides d around l (Completions k)) { host = put_keeps around.polls cq p' (λ (x : PollRule). x.host) (h.host ∙ now.host_same) k i }
        same_at (Sends i) lives apart =
            let differ : i ≢ qp = λ same. apart (ap (λ (n : ℕ). Sends n) same) in
            λ j. record (sides d around l (Sends i)) { retirer = retirer_at (send_cq d i) i lives refl differ j; words = queue_there l.queues (Send qp) q (Send i) (λ same. differ cc) j }
        same_at (Receives i) lives apart = refl

        side_now : retirer_of d now_around qp ≡ side
        side_now =
            ap (λ (k : ℕ). retirer_in (now_around.polls k).retirers (place_in d k qp)) (living_by_place d cq qp place).1 ∙ ap (λ (x : PollRule). retirer_in x.retirers (place_in d cq qp)) (put_here around.polls cq p')
            ∙ ap (λ (rs : List Retirer). retirer_in rs (place_in d cq qp)) h.retirers ∙ get_or-set_same p.retirers (place_in d cq qp) side fresh_finder.retirer inside_list
