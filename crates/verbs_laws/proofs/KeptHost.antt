-- A post, a poll, a retirement and an acknowledgement keep what verbs queues keep.
use Rattle.std.proofs.Common.{◌≡◌, ◌≢◌, ℕ, ◌-◌, ◌==◌, Bool, if◌then◌else◌, List, [], ◌++◌, length, map, take, drop, refl, sym, ◌∙◌, ap, subst, arith, append_assoc}
use Rattle.std.specs.List.{AllByRecursion}
use Rattle.std.proofs.lemmas.List.{take-append-drop, length-drop}
use Rattle.verbs_types.specs.declared.request.Item.{Item}
use Rattle.verbs_types.specs.declared.completion.Completion.{Completion}
use Rattle.verbs_types.specs.declared.completion.Queue.{Queue}
use Rattle.verbs_types.specs.declared.completion.Queue.TheVariants.{Send, Recv, Shared}
use Rattle.verbs_types.specs.declared.entry.What.{What}
use Rattle.verbs_types.specs.declared.entry.What.TheVariants.{Poll}
use Rattle.verbs_types.specs.declared.state.Unpolled.{Unpolled}
use Rattle.verbs_rules.specs.Rows.{rest_of, post, poll, retire, ack, end_all}
use Rattle.verbs_rules.specs.State.{Settled, Verbs}
use Rattle.verbs_rules.specs.OfOne.{WorkQueue, queue_in}
use Rattle.verbs_rules.specs.Step.{after}
use Rattle.verbs_rules.specs.Sane.{Sane, QueueSane, CompletionsSane, IsHomed, numbers_in, waiting, completed_by}
use Rattle.verbs_laws.proofs.Choices.{number_by, put_one}
use Rattle.verbs_laws.proofs.Facts.{MayPost, MayPoll, MayRetire, MayAck}
use Rattle.verbs_laws.proofs.Queued.{stays, posts, polls, retires}
use Rattle.verbs_laws.proofs.Waiting.{completion_in, numbers-append, numbers_away, ended_at, left_behind, homed_take, homed_drop}

module _ (n : ℕ) (v : Verbs) (actor : ℕ) (s : Sane n v) where
  pub post_kept : (queue : Queue) (items : List Item) → MayPost v actor queue items → Sane n (post v queue items)
  post_kept (Send qp) items may = record {
    lives = s.lives;
    queues = number_by (λ i b. QueueSane (record (queue_in v (Send i)) { posted = if b then v.posted (Send qp) ++ items else v.posted (Send i) }) (waiting v i)) qp
        (posts (queue_in v (Send qp)) (waiting v qp) items may.room (s.queues qp)) (λ i apart. s.queues i);
    completions = s.completions;
    hand = s.hand;
  }
  post_kept (Recv qp) items may = record { lives = s.lives; queues = s.queues; completions = s.completions; hand = s.hand }
  post_kept (Shared srq) items may = record { lives = s.lives; queues = s.queues; completions = s.completions; hand = s.hand }

  pub retire_kept : (queue : Queue) (count : ℕ) → MayRetire v actor queue count → Sane n (retire v queue count)
  retire_kept (Send qp) count may =
      let settled : Settled = record { retired = count; ends = rest_of (v.settled (Send qp)).ends } in record {
        lives = s.lives;
        queues = number_by (λ i b. QueueSane (record (queue_in v (Send i)) { ends = (if b then settled else v.settled (Send i)).ends; retired = (if b then settled else v.settled (Send i)).retired }) (waiting v i)) qp
            (retires (queue_in v (Send qp)) count (waiting v qp) may.first (s.queues qp)) (λ i apart. s.queues i);
        completions = s.completions;
        hand = s.hand;
      }
  retire_kept (Recv qp) count may = record { lives = s.lives; queues = s.queues; completions = s.completions; hand = s.hand }
  retire_kept (Shared srq) count may = record { lives = s.lives; queues = s.queues; completions = s.completions; hand = s.hand }

  pub ack_kept : (cq index : ℕ) → MayAck v actor cq index → Sane n (ack v cq index)
  ack_kept cq index may = record {
    lives = s.lives;
    queues = s.queues;
    completions = put_one (λ k c. CompletionsSane v.device.pair_lives v.device.pairs k (v.device.produced k) c (v.unpolled k)) v.acked cq index
        (record { homed = (s.completions cq).homed; acked = omega (arith, may.oldest, (s.completions cq).acked) })
        (λ k apart. s.completions k);
    hand = s.hand;
  }

-- Polls

-- a poll's own
module _ (n : ℕ) (v : Verbs) (cq most : ℕ) (s : Sane n v) where
  abbrev pub polled_by : List Unpolled
  polled_by = take most (v.unpolled cq)

  abbrev now : Verbs
  now = poll v cq (map completion_in polled_by)

  pub settled_now : (i : ℕ) → now.settled (Send i) ≡ record (v.settled (Send i)) { ends = (v.settled (Send i)).ends ++ numbers_in i polled_by }
  settled_now i =
      ap (λ (us : List Unpolled). end_all v.settled (map completion_in polled_by) us (Send i)) (sym (take-append-drop most (v.unpolled cq)))
      ∙ ended_at v.settled polled_by (drop most (v.unpolled cq)) i

  waits_at : (i k : ℕ) → k ≡ (v.device.pairs i).send_cq → numbers_in i (v.unpolled k) ≡ numbers_in i polled_by ++ numbers_in i (now.unpolled k)
  waits_at i =
      put_one (λ k us. k ≡ (v.device.pairs i).send_cq → numbers_in i (v.unpolled k) ≡ numbers_in i polled_by ++ numbers_in i us) v.unpolled cq (drop (length (map completion_in polled_by)) (v.unpolled cq))
      (λ e.
      ap (numbers_in i) (sym (take-append-drop most (v.unpolled cq)))
      ∙ numbers-append i polled_by (drop most (v.unpolled cq))
      ∙ ap (λ (us : List Unpolled). numbers_in i polled_by ++ numbers_in i us) (sym (left_behind most (v.unpolled cq))))
      (λ k apart e. ap (λ (ns : List ℕ). ns ++ numbers_in i (v.unpolled k)) (sym (numbers_away v.device.pair_lives v.device.pairs cq i polled_by (homed_take (IsHomed v.device.pair_lives v.device.pairs cq) most (v.unpolled cq) (s.completions cq).homed) (λ same. apart (e ∙ same)))))

  pub waits_now : (i : ℕ) → waiting v i ≡ numbers_in i polled_by ++ waiting now i
  waits_now i =
      ap (λ (ns : List ℕ). ns ++ numbers_in i (map completed_by v.device.owed)) (waits_at i (v.device.pairs i).send_cq refl)
      ∙ append_assoc (numbers_in i polled_by) (numbers_in i (now.unpolled (v.device.pairs i).send_cq)) (numbers_in i (map completed_by v.device.owed))

  taken_kept : Sane n now
  taken_kept = record {
    lives = s.lives;
    queues = λ i. subst (λ (settled : Settled). QueueSane (record (queue_in v (Send i)) { ends = settled.ends; retired = settled.retired }) (waiting now i)) (sym (settled_now i))
        (polls (queue_in v (Send i)) (numbers_in i polled_by) (waiting v i) (waiting now i) (waits_now i) (s.queues i));
    completions = put_one (λ k us. CompletionsSane v.device.pair_lives v.device.pairs k (v.device.produced k) (v.acked k) us) v.unpolled cq (drop (length (map completion_in polled_by)) (v.unpolled cq))
        (let long : length (drop (length (map completion_in polled_by)) (v.unpolled cq)) ≡ length (v.unpolled cq) - length (map completion_in polled_by) = length-drop (length (map completion_in polled_by)) (v.unpolled cq) in
        record { homed = homed_drop (IsHomed v.device.pair_lives v.device.pairs cq) (length (map completion_in polled_by)) (v.unpolled cq) (s.completions cq).homed; acked = omega (arith, (s.completions cq).acked, long) })
        (λ k apart. s.completions k);
    hand = s.hand;
  }

  pub poll_kept : (actor : ℕ) (completions : List Completion) → MayPoll v actor cq most completions → Sane n (poll v cq completions)
  poll_kept actor completions may = subst (λ (xs : List Completion). Sane n (poll v cq xs)) (sym may.front) taken_kept
