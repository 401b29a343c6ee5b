-- Each line of a thread's calls that opens a list or polls keeps what holds.
use Rattle.std.proofs.Common.{◌≡◌, ℕ, suc, ◌+◌, ◌-◌, ◌<◌, ◌≤◌, ◌==◌, false, List, [], ◌∷◌, ◌++◌, length, All, IsTrue, None, Some, refl, sym, ap, ◌∙◌, subst, arith}
use Rattle.std.proofs.lemmas.List.{length_push}
use Rattle.std.proofs.lemmas.List.Elements.{All-nil, All-push}
use Rattle.verbs_types.specs.declared.call.Call.{Call}
use Rattle.verbs_types.specs.declared.call.Call.TheVariants.{Post, Recv, Poll, Drain}
use Rattle.verbs_types.specs.declared.declaration.TheConstants.{FIRST_QP}
use Rattle.verbs_types.specs.declared.request.Receive.{Receive}
use Rattle.verbs_types.specs.declared.request.Request.{Request}
use Rattle.scenario_text.specs.AfterObjects.{change}
use Rattle.scenario_text.specs.AfterCalls.{posted_by_thread, received_by_thread, polled_by_thread, poll_by_this, add_post, add_recv, add_poll, add_drain}
use Rattle.scenario_text.specs.Calls.{CanReceive, IsCall, IsPlainNop, IsProgram, segments_of}
use Rattle.scenario_text.specs.Limits.{posted_by, received_by}
use Rattle.scenario_text.specs.Rules.{is_this}
use Rattle.scenario_text.specs.Sofar.{Said}
use Rattle.scenario_text.specs.Text.{Line, part_at, number_at, small_at}
use Rattle.scenario_text.specs.Uses.{qp_named, cq_named, pair_use, queue_use}
use Rattle.scenario_text.specs.declared.slot.Kind.TheVariants as kinds
use Rattle.scenario_text.specs.declared.sofar.PairUse.{PairUse}
use Rattle.scenario_text.specs.declared.sofar.Place.{Place}
use Rattle.scenario_text.specs.declared.sofar.Place.TheVariants.{InThread, InPost, InRecv}
use Rattle.scenario_text.specs.declared.sofar.QueueUse.{QueueUse}
use Rattle.scenario_text.proofs.Calling.{own_side, held_more, posted_none, none_on}
use Rattle.scenario_text.proofs.Filling.{unused, filled_same, filled_rooms}
use Rattle.scenario_text.proofs.Growing.{among_parts, push_some, length_change, change_unseen}
use Rattle.scenario_text.proofs.Rooms.{SameCounts}
use Rattle.scenario_text.proofs.Sides.{KeepSides, side_here, side_kept}
use Rattle.scenario_text.proofs.Standing.{IsNumber, IsHeld, AreHeld, AreFilled, IsOpen, IsPost, IsRecv, Stands, shown, shown_in, poster_at, receiver_at, poller_at}

abbrev pub unpaired : PairUse
unpaired = record { connected = false; poster = None; receiver = None }

-- in a thread
module _ (s : Said) (inside : s.place ≡ InThread) (h : Stands s) where
  was_open : IsProgram s.lines s.calls × (s.requests ≡ []) × (s.receives ≡ [])
  was_open = subst (λ p. IsOpen s.lines p s.calls s.requests s.receives) inside h.opened

  shown_was : shown s ≡ s.programs ++ s.calls ∷ []
  shown_was = ap (λ p. shown_in p s.programs s.calls s.requests s.receives) inside

  -- the thread's number
  this : suc (length s.programs) ≡ length s.lines.threads
  this = omega (arith, h.paired, ap (λ (ps : List (List Call)). length ps) shown_was, length_push s.programs s.calls)

  was_held : AreHeld s.pairs s.queues (s.programs ++ s.calls ∷ [])
  was_held = subst (AreHeld s.pairs s.queues) shown_was h.held

  was_filled : AreFilled s.lines s.queues (s.programs ++ s.calls ∷ [])
  was_filled = subst (AreFilled s.lines s.queues) shown_was h.filled

  -- a call with no item yet, on the side of a queue pair that becomes this thread's
  list_line : (p : Place) (call : Call) (pairs : List PairUse) → length pairs ≡ length s.pairs → KeepSides s.pairs pairs s.queues s.queues → IsHeld pairs s.queues (suc (length s.programs)) call
      → SameCounts (s.programs ++ s.calls ∷ []) (s.programs ++ (s.calls ++ call ∷ []) ∷ []) → IsOpen s.lines p s.calls s.requests s.receives
      → shown_in p s.programs s.calls s.requests s.receives ≡ s.programs ++ (s.calls ++ call ∷ []) ∷ [] → Stands (record s { pairs = pairs; place = p })
  list_line p call pairs long keep here none open_now shown_now = record {
    declared = h.declared;
    named = h.named;
    pairs = long ∙ h.pairs;
    queues = h.queues;
    finished = h.finished;
    opened = open_now;
    paired = omega (arith, this, ap (λ (ps : List (List Call)). length ps) shown_now, length_push s.programs (s.calls ++ call ∷ []));
    held = subst (AreHeld pairs s.queues) (sym shown_now) (held_more s.pairs pairs s.queues s.queues keep s.programs s.calls call here was_held);
    filled = subst (AreFilled s.lines s.queues) (sym shown_now) (filled_same s.lines s.queues _ _ none was_filled);
    planned = h.planned;
    early = λ soon. absurd (push_some s.programs s.calls (sym shown_was ∙ h.early soon));
  }

  pub post_stands : (line : Line) → length s.calls + 1 ≤ 65536 → IsNumber s.lines kinds.Qp (qp_named s (part_at line 1)) → IsTrue (is_this s (pair_use s (qp_named s (part_at line 1))).poster)
      → Stands (add_post line s)
  post_stands line few there own =
      list_line (InPost qp) (Post qp s.requests) pairs (length_change by unpaired s.pairs place) keep (here ∙ ap Some (sym this))
      (posted_none s.programs s.calls (Post qp s.requests) (λ k. none_on (qp == k) s.requests was_open.1) (λ k. refl))
      (omega (arith, few), was_open.0.1, no_requests, was_open.2) refl
    where
      qp : ℕ
      qp = qp_named s (part_at line 1)

      place : ℕ
      place = qp - FIRST_QP

      by : PairUse → PairUse
      by = posted_by_thread (length s.lines.threads)

      pairs : List PairUse
      pairs = change by s.pairs place

      no_requests : IsPost s.lines qp s.requests
      no_requests = record {
        there = there;
        few = omega (arith, ap (λ (rs : List Request). length rs) was_open.1);
        plain = subst (All IsPlainNop) (sym was_open.1) (All-nil IsPlainNop);
      }

      below : place < length s.pairs
      below = omega (arith, (among_parts FIRST_QP (length s.lines.qps) qp there).1, h.pairs)

      keep : KeepSides s.pairs pairs s.queues s.queues
      keep = record {
        posters = side_kept by unpaired (λ (u : PairUse). u.poster) (length s.lines.threads) (λ u. refl) s.pairs place below (own_side s (pair_use s qp).poster own);
        receivers = λ k thread e. change_unseen by unpaired (λ (u : PairUse). u.receiver) (λ u. refl) s.pairs place k ∙ e;
        pollers = λ k thread e. e;
      }

      here : poster_at pairs place ≡ Some (length s.lines.threads)
      here = side_here by unpaired (λ (u : PairUse). u.poster) (length s.lines.threads) (λ u. refl) s.pairs place below

  pub recv_stands : (line : Line) → length s.calls + 1 ≤ 65536 → IsNumber s.lines kinds.Qp (qp_named s (part_at line 1)) → IsTrue (is_this s (pair_use s (qp_named s (part_at line 1))).receiver)
      → Stands (add_recv line s)
  recv_stands line few there own =
      list_line (InRecv qp) (Recv qp s.receives) pairs (length_change by unpaired s.pairs place) keep (here ∙ ap Some (sym this))
      (posted_none s.programs s.calls (Recv qp s.receives) (λ k. refl) (λ k. none_on (qp == k) s.receives was_open.2))
      (omega (arith, few), was_open.0.1, was_open.1, no_receives) refl
    where
      qp : ℕ
      qp = qp_named s (part_at line 1)

      place : ℕ
      place = qp - FIRST_QP

      by : PairUse → PairUse
      by = received_by_thread (length s.lines.threads)

      pairs : List PairUse
      pairs = change by s.pairs place

      no_receives : IsRecv s.lines qp s.receives
      no_receives = record {
        there = there;
        few = omega (arith, ap (λ (rs : List Receive). length rs) was_open.2);
        right = subst (All (CanReceive (segments_of s.lines qp))) (sym was_open.2) (All-nil (CanReceive (segments_of s.lines qp)));
      }

      below : place < length s.pairs
      below = omega (arith, (among_parts FIRST_QP (length s.lines.qps) qp there).1, h.pairs)

      keep : KeepSides s.pairs pairs s.queues s.queues
      keep = record {
        posters = λ k thread e. change_unseen by unpaired (λ (u : PairUse). u.poster) (λ u. refl) s.pairs place k ∙ e;
        receivers = side_kept by unpaired (λ (u : PairUse). u.receiver) (length s.lines.threads) (λ u. refl) s.pairs place below (own_side s (pair_use s qp).receiver own);
        pollers = λ k thread e. e;
      }

      here : receiver_at pairs place ≡ Some (length s.lines.threads)
      here = side_here by unpaired (λ (u : PairUse). u.receiver) (length s.lines.threads) (λ u. refl) s.pairs place below

  -- a call that polls the queue
  poll_line : (cq : ℕ) (call : Call) → length s.calls + 1 ≤ 65536 → IsNumber s.lines kinds.Cq cq → IsTrue (is_this s (queue_use s cq).poller) → IsCall s.lines call
      → ((queues : List QueueUse) (thread : ℕ) → poller_at queues cq ≡ Some thread → IsHeld s.pairs queues thread call) → ((k : ℕ) → posted_by k call ≡ 0)
      → ((k : ℕ) → received_by k call ≡ 0)
      → Stands (let p = poll_by_this cq s in record p { calls = p.calls ++ call ∷ [] })
  poll_line cq call few there own right polls none none_received = record {
    declared = h.declared;
    named = h.named;
    pairs = h.pairs;
    queues = length_change (polled_by_thread (length s.lines.threads)) unused s.queues cq ∙ h.queues;
    finished = h.finished;
    opened = subst (λ p. IsOpen s.lines p (s.calls ++ call ∷ []) s.requests s.receives) (sym inside)
        ((omega (arith, few, length_push s.calls call), All-push (IsCall s.lines) s.calls call was_open.0.1 right), was_open.1, was_open.2);
    paired = omega (arith, this, ap (λ (ps : List (List Call)). length ps) shown_now, length_push s.programs (s.calls ++ call ∷ []));
    held = subst (AreHeld s.pairs queues) (sym shown_now) (held_more s.pairs s.pairs s.queues queues keep s.programs s.calls call (polls queues _ (here ∙ ap Some (sym this))) was_held);
    filled = subst (AreFilled s.lines queues) (sym shown_now)
        (filled_rooms s.lines s.queues queues (s.programs ++ (s.calls ++ call ∷ []) ∷ []) (change_unseen (polled_by_thread (length s.lines.threads)) unused (λ (u : QueueUse). u.room) (λ u. refl) s.queues cq)
        (filled_same s.lines s.queues (s.programs ++ s.calls ∷ []) (s.programs ++ (s.calls ++ call ∷ []) ∷ []) (posted_none s.programs s.calls call none none_received) was_filled));
    planned = h.planned;
    early = λ soon. absurd (push_some s.programs s.calls (sym shown_was ∙ h.early soon));
  }
    where
      queues : List QueueUse
      queues = change (polled_by_thread (length s.lines.threads)) s.queues cq

      shown_now : shown_in s.place s.programs (s.calls ++ call ∷ []) s.requests s.receives ≡ s.programs ++ (s.calls ++ call ∷ []) ∷ []
      shown_now = ap (λ p. shown_in p s.programs (s.calls ++ call ∷ []) s.requests s.receives) inside

      below : cq < length s.queues
      below = omega (arith, (among_parts 0 (length s.lines.cqs) cq there).1, h.queues)

      keep : KeepSides s.pairs s.pairs s.queues queues
      keep = record {
        posters = λ k thread e. e;
        receivers = λ k thread e. e;
        pollers = side_kept (polled_by_thread (length s.lines.threads)) unused (λ (u : QueueUse). u.poller) (length s.lines.threads) (λ u. refl) s.queues cq below
            (own_side s (queue_use s cq).poller own);
      }

      here : poller_at queues cq ≡ Some (length s.lines.threads)
      here = side_here (polled_by_thread (length s.lines.threads)) unused (λ (u : QueueUse). u.poller) (length s.lines.threads) (λ u. refl) s.queues cq below

  pub poll_stands : (line : Line) → length s.calls + 1 ≤ 65536 → 1 ≤ number_at line 2 → number_at line 2 ≤ 16 → IsNumber s.lines kinds.Cq (cq_named s (part_at line 1))
      → IsTrue (is_this s (queue_use s (cq_named s (part_at line 1))).poller) → Stands (add_poll line s)
  poll_stands line few low high there own =
      poll_line (cq_named s (part_at line 1)) (Poll (cq_named s (part_at line 1)) (small_at line 2)) few there own (there, (omega (arith, low), omega (arith, high))) (λ queues thread e. e) (λ k. refl) (λ k. refl)

  pub drain_stands : (line : Line) → length s.calls + 1 ≤ 65536 → 1 ≤ number_at line 2 → number_at line 2 ≤ 65536 → IsNumber s.lines kinds.Cq (cq_named s (part_at line 1))
      → IsTrue (is_this s (queue_use s (cq_named s (part_at line 1))).poller) → Stands (add_drain line s)
  drain_stands line few low high there own =
      poll_line (cq_named s (part_at line 1)) (Drain (cq_named s (part_at line 1)) (small_at line 2)) few there own (there, (omega (arith, low), omega (arith, high))) (λ queues thread e. e) (λ k. refl) (λ k. refl)
