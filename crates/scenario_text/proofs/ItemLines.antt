-- Each request and each receive keeps what holds.
use Rattle.std.proofs.Common.{◌≡◌, ℕ, ◌+◌, ◌-◌, ◌^◌, ◌<◌, ◌≤◌, nat_lt, ◌==◌, true, cond, List, [], ◌∷◌, ◌++◌, length, All, IsTrue, Option, Some, slice_get, refl, sym, ap, ◌∙◌, subst, arith}
use Rattle.std.specs.Option.{option_map_or}
use Rattle.std.proofs.lemmas.Bool.{ltb-true}
use Rattle.std.proofs.lemmas.List.{length_push}
use Rattle.std.proofs.lemmas.List.Elements.{All-push}
use Rattle.verbs_types.specs.declared.call.Call.{Call}
use Rattle.verbs_types.specs.declared.call.Call.TheVariants.{Post, Recv}
use Rattle.verbs_types.specs.declared.declaration.QpLine.{QpLine}
use Rattle.verbs_types.specs.declared.declaration.TheConstants.{FIRST_QP}
use Rattle.verbs_types.specs.declared.request.Receive.{Receive}
use Rattle.verbs_types.specs.declared.request.Request.{Request}
use Rattle.scenario_text.specs.AfterObjects.{change}
use Rattle.scenario_text.specs.AfterCalls.{fuller, request_in, receive_in, take_room_of, add_request, add_receive}
use Rattle.scenario_text.specs.Calls.{CanReceive, IsCall, IsPlainNop, segments_of}
use Rattle.scenario_text.specs.Limits.{posted_on, received_on}
use Rattle.scenario_text.specs.Sofar.{Said}
use Rattle.scenario_text.specs.Text.{Line, number_at}
use Rattle.scenario_text.specs.Uses.{queue_use, list_cq, list_cq_in, has_room}
use Rattle.scenario_text.specs.declared.sofar.Place.TheVariants.{InPost, InRecv}
use Rattle.scenario_text.specs.declared.sofar.QueueUse.{QueueUse}
use Rattle.scenario_text.proofs.Calling.{held_longer, posted_one, posted_rest, received_one, received_rest}
use Rattle.scenario_text.proofs.Filling.{unused, filled_more}
use Rattle.scenario_text.proofs.Growing.{among_parts, get_there, push_some, length_change, change_unseen}
use Rattle.scenario_text.proofs.Rooms.{OneMore, one_request, one_receive}
use Rattle.scenario_text.proofs.Sides.{KeepSides}
use Rattle.scenario_text.proofs.Standing.{IsHeld, AreHeld, AreFilled, IsOpen, IsPost, IsRecv, Stands, shown, shown_in, room_at}

-- an item of a list: the call before it and with it, and the queue into which it completes
record IsItem (s : Said) (requests : List Request) (receives : List Receive) (before now : Call) (queue : ℕ) : Type 0 where
  shown_was : shown s ≡ s.programs ++ (s.calls ++ before ∷ []) ∷ []
  shown_now : shown_in s.place s.programs s.calls requests receives ≡ s.programs ++ (s.calls ++ now ∷ []) ∷ []
  opened : IsOpen s.lines s.place s.calls requests receives
  side : (queues : List QueueUse) (thread : ℕ) → IsHeld s.pairs queues thread before → IsHeld s.pairs queues thread now
  room : 0 < room_at s.queues queue
  one : OneMore s.lines.qps FIRST_QP (s.programs ++ (s.calls ++ before ∷ []) ∷ []) (s.programs ++ (s.calls ++ now ∷ []) ∷ []) queue

item_stands : (s : Said) (requests : List Request) (receives : List Receive) (before now : Call) (queue : ℕ) → IsItem s requests receives before now queue → Stands s
    → Stands (record s { queues = change fuller s.queues queue; requests = requests; receives = receives })
item_stands s requests receives before now queue i h = record {
  declared = h.declared;
  named = h.named;
  pairs = h.pairs;
  queues = length_change fuller unused s.queues queue ∙ h.queues;
  finished = h.finished;
  opened = i.opened;
  paired = omega (
    arith,
    h.paired,
    ap (λ (ps : List (List Call)). length ps) i.shown_was,
    ap (λ (ps : List (List Call)). length ps) i.shown_now,
    length_push s.programs (s.calls ++ before ∷ []),
    length_push s.programs (s.calls ++ now ∷ []),
  );
  held = subst (AreHeld s.pairs queues) (sym i.shown_now)
      (held_longer s.pairs s.queues queues keep s.programs s.calls before now (i.side queues) (subst (AreHeld s.pairs s.queues) i.shown_was h.held));
  filled = subst (AreFilled s.lines queues) (sym i.shown_now) (filled_more s.lines s.queues _ _ queue h.queues i.room i.one (subst (AreFilled s.lines s.queues) i.shown_was h.filled));
  planned = h.planned;
  early = λ soon. absurd (push_some s.programs (s.calls ++ before ∷ []) (sym i.shown_was ∙ h.early soon));
}
  where
    queues : List QueueUse
    queues = change fuller s.queues queue

    keep : KeepSides s.pairs s.pairs s.queues queues
    keep = record {
      posters = λ k thread e. e;
      receivers = λ k thread e. e;
      pollers = λ k thread e. change_unseen fuller unused (λ (u : QueueUse). u.poller) (λ u. refl) s.queues queue k ∙ e;
    }

-- the list's queue has room
room_in : (s : Said) (queue : ℕ) → list_cq s ≡ Some queue → IsTrue (has_room s) → 0 < room_at s.queues queue
room_in s queue is room = ltb-true 0 (room_at s.queues queue) (subst (λ o. IsTrue (option_map_or (λ cq. nat_lt 0 (queue_use s cq).room) o true)) is room)

-- in a post of requests
module _ (s : Said) (qp : ℕ) (inside : s.place ≡ InPost qp) (h : Stands s) where
  was_post : (length s.calls < 65536) × All (IsCall s.lines) s.calls × IsPost s.lines qp s.requests × (s.receives ≡ [])
  was_post = subst (λ p. IsOpen s.lines p s.calls s.requests s.receives) inside h.opened

  post_shown : (requests : List Request) → shown_in s.place s.programs s.calls requests s.receives ≡ s.programs ++ (s.calls ++ Post qp requests ∷ []) ∷ []
  post_shown requests = ap (λ p. shown_in p s.programs s.calls requests s.receives) inside

  pub request_stands : (line : Line) → length s.requests + 1 ≤ 16 → number_at line 1 < 2 ^ 64 → IsTrue (has_room s) → Stands (add_request line s)
  request_stands line few low room =
      let below : qp - FIRST_QP < length s.lines.qps = (among_parts FIRST_QP (length s.lines.qps) qp was_post.2.there).1 in
      let found : (l : QpLine) × (slice_get s.lines.qps (qp - FIRST_QP) ≡ Some l) = get_there s.lines.qps (qp - FIRST_QP) below in
      by found.0 found.1
    where
      r : Request
      r = request_in line

      open_now : IsOpen s.lines (InPost qp) s.calls (s.requests ++ r ∷ []) s.receives
      open_now = (
        was_post.0,
        was_post.1,
        record {
          there = was_post.2.there;
          few = omega (arith, few, length_push s.requests r);
          plain = All-push IsPlainNop s.requests r was_post.2.plain (refl, refl, low);
        },
        was_post.3,
      )

      -- the numbers of the queue pair
      place : FIRST_QP + (qp - FIRST_QP) ≡ qp
      place = omega (arith, (among_parts FIRST_QP (length s.lines.qps) qp was_post.2.there).0)

      by : (l : QpLine) → slice_get s.lines.qps (qp - FIRST_QP) ≡ Some l → Stands (add_request line s)
      by l there =
          let queue : list_cq s ≡ Some l.send_cq = ap (list_cq_in s) inside ∙ ap (λ (o : Option QpLine). Some (option_map_or (λ (x : QpLine). x.send_cq) o 0)) there in
          let item : IsItem s (s.requests ++ r ∷ []) s.receives (Post qp s.requests) (Post qp (s.requests ++ r ∷ [])) l.send_cq = record {
            shown_was = post_shown s.requests;
            shown_now = post_shown (s.requests ++ r ∷ []);
            opened = subst (λ p. IsOpen s.lines p s.calls (s.requests ++ r ∷ []) s.receives) (sym inside) open_now;
            side = λ queues thread held. held;
            room = room_in s l.send_cq queue room;
            one = one_request FIRST_QP (qp - FIRST_QP) s.lines.qps l _ _ there
                (λ k. posted_one s.programs s.calls qp k s.requests r ∙ ap (λ n. posted_on k (s.programs ++ (s.calls ++ Post qp s.requests ∷ []) ∷ []) + cond (n == k) 1 0) (sym place))
                (λ k. posted_rest s.programs s.calls qp k s.requests r);
          }
          in
          subst (λ o. Stands (let t = take_room_of o s in record t { requests = t.requests ++ request_in line ∷ [] })) (sym queue)
          (item_stands s (s.requests ++ r ∷ []) s.receives (Post qp s.requests) (Post qp (s.requests ++ r ∷ [])) l.send_cq item h)

-- in a post of receives
module _ (s : Said) (qp : ℕ) (inside : s.place ≡ InRecv qp) (h : Stands s) where
  was_recv : (length s.calls < 65536) × All (IsCall s.lines) s.calls × (s.requests ≡ []) × IsRecv s.lines qp s.receives
  was_recv = subst (λ p. IsOpen s.lines p s.calls s.requests s.receives) inside h.opened

  recv_shown : (receives : List Receive) → shown_in s.place s.programs s.calls s.requests receives ≡ s.programs ++ (s.calls ++ Recv qp receives ∷ []) ∷ []
  recv_shown receives = ap (λ p. shown_in p s.programs s.calls s.requests receives) inside

  pub receive_stands : (line : Line) → length s.receives + 1 ≤ 16 → CanReceive (segments_of s.lines qp) (receive_in line) → IsTrue (has_room s) → Stands (add_receive line s)
  receive_stands line few right room =
      let below : qp - FIRST_QP < length s.lines.qps = (among_parts FIRST_QP (length s.lines.qps) qp was_recv.3.there).1 in
      let found : (l : QpLine) × (slice_get s.lines.qps (qp - FIRST_QP) ≡ Some l) = get_there s.lines.qps (qp - FIRST_QP) below in
      by found.0 found.1
    where
      r : Receive
      r = receive_in line

      open_now : IsOpen s.lines (InRecv qp) s.calls s.requests (s.receives ++ r ∷ [])
      open_now = (
        was_recv.0,
        was_recv.1,
        was_recv.2,
        record {
          there = was_recv.3.there;
          few = omega (arith, few, length_push s.receives r);
          right = All-push (CanReceive (segments_of s.lines qp)) s.receives r was_recv.3.right right;
        },
      )

      place : FIRST_QP + (qp - FIRST_QP) ≡ qp
      place = omega (arith, (among_parts FIRST_QP (length s.lines.qps) qp was_recv.3.there).0)

      by : (l : QpLine) → slice_get s.lines.qps (qp - FIRST_QP) ≡ Some l → Stands (add_receive line s)
      by l there =
          let queue : list_cq s ≡ Some l.recv_cq = ap (list_cq_in s) inside ∙ ap (λ (o : Option QpLine). Some (option_map_or (λ (x : QpLine). x.recv_cq) o 0)) there in
          let item : IsItem s s.requests (s.receives ++ r ∷ []) (Recv qp s.receives) (Recv qp (s.receives ++ r ∷ [])) l.recv_cq = record {
            shown_was = recv_shown s.receives;
            shown_now = recv_shown (s.receives ++ r ∷ []);
            opened = subst (λ p. IsOpen s.lines p s.calls s.requests (s.receives ++ r ∷ [])) (sym inside) open_now;
            side = λ queues thread held. held;
            room = room_in s l.recv_cq queue room;
            one = one_receive FIRST_QP (qp - FIRST_QP) s.lines.qps l _ _ there
                (λ k. received_one s.programs s.calls qp k s.receives r ∙ ap (λ n. received_on k (s.programs ++ (s.calls ++ Recv qp s.receives ∷ []) ∷ []) + cond (n == k) 1 0) (sym place))
                (λ k. received_rest s.programs s.calls qp k s.receives r);
          }
          in
          subst (λ o. Stands (let t = take_room_of o s in record t { receives = t.receives ++ receive_in line ∷ [] })) (sym queue)
          (item_stands s s.requests (s.receives ++ r ∷ []) (Recv qp s.receives) (Recv qp (s.receives ++ r ∷ [])) l.recv_cq item h)
