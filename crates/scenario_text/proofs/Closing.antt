-- A list of requests or receives that ends is one more call of its thread.
use Rattle.std.proofs.Common.{◌≡◌, ℕ, ◌<◌, nat_lt, List, [], ◌∷◌, ◌++◌, length, All, IsTrue, refl, sym, ap, ◌∙◌, subst, arith}
use Rattle.std.proofs.lemmas.Bool.{ltb-true}
use Rattle.std.proofs.lemmas.List.{length_push}
use Rattle.std.proofs.lemmas.List.Elements.{All-push}
use Rattle.verbs_types.specs.declared.call.Call.{Call}
use Rattle.verbs_types.specs.declared.call.Call.TheVariants.{Post, Recv}
use Rattle.verbs_types.specs.declared.request.Receive.{Receive}
use Rattle.verbs_types.specs.declared.request.Request.{Request}
use Rattle.scenario_text.specs.AfterCalls.{close_post, close_recv}
use Rattle.scenario_text.specs.Calls.{IsCall}
use Rattle.scenario_text.specs.Sofar.{Said}
use Rattle.scenario_text.specs.declared.sofar.Place.TheVariants.{InThread, InPost, InRecv}
use Rattle.scenario_text.proofs.Standing.{AreHeld, AreFilled, IsOpen, IsPost, IsRecv, Kept, Stands, shown, shown_in}

-- the list is this call
closed_stands : (s : Said) (call : Call) → shown s ≡ s.programs ++ (s.calls ++ call ∷ []) ∷ [] → length s.calls < 65536 → All (IsCall s.lines) s.calls → IsCall s.lines call → Stands s
    → Stands (record s { calls = s.calls ++ call ∷ []; requests = []; receives = []; place = InThread })
closed_stands s call shown_was few all right h = record {
  declared = h.declared;
  named = h.named;
  pairs = h.pairs;
  queues = h.queues;
  finished = h.finished;
  opened = ((omega (arith, few, length_push s.calls call), All-push (IsCall s.lines) s.calls call all right), refl, refl);
  paired = ap (λ (ps : List (List Call)). length ps) (sym shown_was) ∙ h.paired;
  held = subst (AreHeld s.pairs s.queues) shown_was h.held;
  filled = subst (AreFilled s.lines s.queues) shown_was h.filled;
  planned = h.planned;
  early = λ soon. sym shown_was ∙ h.early soon;
}

pub post_closed : (qp : ℕ) (s : Said) → s.place ≡ InPost qp → IsTrue (nat_lt 0 (length s.requests)) → Kept s → Kept (close_post qp s)
post_closed qp s inside some kept none =
    subst (λ (rs : List Receive). Stands (record s { calls = s.calls ++ Post qp s.requests ∷ []; requests = []; receives = rs; place = InThread })) (sym was_open.3)
    (closed_stands s (Post qp s.requests) shown_was was_open.0 was_open.1 right (kept none))
  where
    h : Stands s
    h = kept none

    was_open : (length s.calls < 65536) × All (IsCall s.lines) s.calls × IsPost s.lines qp s.requests × (s.receives ≡ [])
    was_open = subst (λ p. IsOpen s.lines p s.calls s.requests s.receives) inside h.opened

    shown_was : shown s ≡ s.programs ++ (s.calls ++ Post qp s.requests ∷ []) ∷ []
    shown_was = ap (λ p. shown_in p s.programs s.calls s.requests s.receives) inside

    right : IsCall s.lines (Post qp s.requests)
    right = (was_open.2.there, (ltb-true 0 (length s.requests) some, was_open.2.few), was_open.2.plain)

pub recv_closed : (qp : ℕ) (s : Said) → s.place ≡ InRecv qp → IsTrue (nat_lt 0 (length s.receives)) → Kept s → Kept (close_recv qp s)
recv_closed qp s inside some kept none =
    subst (λ (rs : List Request). Stands (record s { calls = s.calls ++ Recv qp s.receives ∷ []; requests = rs; receives = []; place = InThread })) (sym was_open.2)
    (closed_stands s (Recv qp s.receives) shown_was was_open.0 was_open.1 right (kept none))
  where
    h : Stands s
    h = kept none

    was_open : (length s.calls < 65536) × All (IsCall s.lines) s.calls × (s.requests ≡ []) × IsRecv s.lines qp s.receives
    was_open = subst (λ p. IsOpen s.lines p s.calls s.requests s.receives) inside h.opened

    shown_was : shown s ≡ s.programs ++ (s.calls ++ Recv qp s.receives ∷ []) ∷ []
    shown_was = ap (λ p. shown_in p s.programs s.calls s.requests s.receives) inside

    right : IsCall s.lines (Recv qp s.receives)
    right = (was_open.3.there, (ltb-true 0 (length s.receives) some, was_open.3.few), was_open.3.right)
