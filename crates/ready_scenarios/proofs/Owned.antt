-- Each call of a scenario that can run is its thread's own.
use Rattle.std.proofs.Common.{◌≡◌, ℕ, zero, suc, ◌-◌, ◌<◌, ◌≤◌, Bool, true, List, [], ◌∷◌, length, map, refl, ◌∙◌, ap, subst, arith, slice_get, get_or}
use Rattle.std.specs.List.{list_all, list_any, All, AllByRecursion}
use Rattle.std.specs.Option.{option_map_or}
use Rattle.std.proofs.lemmas.Bool.{and_from, le-leb, eq-eqb}
use Rattle.std.proofs.lemmas.List.{length-map}
use Rattle.verbs_types.specs.declared.call.Call.{Call}
use Rattle.verbs_types.specs.declared.call.Call.TheVariants.{Post, Recv, Poll, Drain}
use Rattle.verbs_types.specs.declared.completion.Queue.TheVariants as queues
use Rattle.verbs_types.specs.declared.declaration.Lines.{Lines}
use Rattle.verbs_types.specs.declared.declaration.QpLine.{QpLine}
use Rattle.verbs_types.specs.declared.declaration.TheConstants.{FIRST_QP}
use Rattle.verbs_types.specs.declared.request.Item.TheVariants.{Request as TheRequest, Receive as TheReceive}
use Rattle.verbs_types.specs.declared.request.Receive.{Receive}
use Rattle.verbs_types.specs.declared.request.Request.{Request}
use Rattle.verbs_rules.specs.Proper.{IsNop}
use Rattle.verbs_rules.specs.Rows.{body_fits, item_fits}
use Rattle.scenario_text.specs.Calls as scenario
use Rattle.scenario_text.specs.Calls.{IsPlainNop, CanReceive, IsCall, IsOfOneThread, segments_of}
use Rattle.scenario_text.specs.Running.{CanRun}
use Rattle.scenario_text.specs.declared.scenario.ScenarioParts.{ScenarioParts}
use Rattle.object_places.specs.Objects.{Lives, Completions}
use Rattle.object_places.specs.Places.{qp_line, no_qp}
use Rattle.actor_rules.specs.Owners as actors
use Rattle.actor_rules.specs.Ready.{IsOwnCall, IsOwnPoll}
use Rattle.actor_rules.specs.Thread.{program_of}
use Rattle.ready_scenarios.proofs.Owners.{calls_of, owner_is, program_at, each_among}
use Rattle.ready_scenarios.proofs.Uses.{posts_are, receives_are, polls_are}

-- Items

pub nops_of : (requests : List Request) → All IsPlainNop requests → AllByRecursion IsNop (map TheRequest requests)
nops_of [] h = tt
nops_of (r ∷ requests) h = let one = h 0 r (omega arith) in ((one.0, one.1), nops_of requests (λ k e low. h (suc k) e (omega (arith, low))))

-- requests without data fit any queue pair
nops_fit : (qp segments : ℕ) (requests : List Request) → All IsPlainNop requests → list_all (item_fits (queues.Send qp) segments) (map TheRequest requests) ≡ true
nops_fit qp segments [] h = refl
nops_fit qp segments (r ∷ requests) h =
    let fits : body_fits segments r.body ≡ true = ap (body_fits segments) (h 0 r (omega arith)).1 ∙ le-leb 0 segments (omega arith) in
    and_from _ _ fits (nops_fit qp segments requests (λ k e low. h (suc k) e (omega (arith, low))))

receives_fit : (qp segments : ℕ) (receives : List Receive) → All (CanReceive segments) receives → list_all (item_fits (queues.Recv qp) segments) (map TheReceive receives) ≡ true
receives_fit qp segments [] h = refl
receives_fit qp segments (r ∷ receives) h =
    and_from _ _ (le-leb (length r.sges) segments (h 0 r (omega arith)).few) (receives_fit qp segments receives (λ k e low. h (suc k) e (omega (arith, low))))

segments_at : (ls : List QpLine) (k : ℕ) → option_map_or (λ (l : QpLine). l.segments) (slice_get ls k) 0 ≡ (get_or ls k no_qp).segments
segments_at [] zero = refl
segments_at [] (suc k) = refl
segments_at (l ∷ ls) zero = refl
segments_at (l ∷ ls) (suc k) = segments_at ls k

-- a receive has as many entries as its queue pair's line says
pub segments_are : (d : Lines) (qp : ℕ) → segments_of d qp ≡ (qp_line d qp).segments
segments_are d qp = segments_at d.qps (qp - FIRST_QP)

-- Calls

module _ (s : ScenarioParts) (can : CanRun s) (t : ℕ) where
  abbrev calls : List Call
  calls = calls_of s.programs t

  abbrev IsAmong : Call → Type 0
  IsAmong c = (test : Call → Bool) → test c ≡ true → list_any test calls ≡ true

  -- the side of a call is this thread's
  owns : (test uses : Call → Bool) (c : Call) → uses ≡ test → IsOfOneThread uses s.programs → IsAmong c → test c ≡ true → actors.first_with test s.programs ≡ suc t
  owns test uses c same one among here = owner_is test s.programs t (subst (λ (u : Call → Bool). IsOfOneThread u s.programs) same one) (among test here)

  polls_own : (c : Call) (cq most : ℕ) → IsAmong c → actors.polls_on cq c ≡ true → Lives s.lines (Completions cq) → 0 < most → most ≤ 16 → IsOwnPoll s.lines s.programs (suc t) cq most
  polls_own c cq most among here living some few = record { lives = living; owner = owns (actors.polls_on cq) (scenario.polls_on cq) c (polls_are cq) (can.poller cq) among here; some = some; few = few }

  own_call : (c : Call) → IsCall s.lines c → IsAmong c → IsOwnCall s.lines s.programs (suc t) c
  own_call (Post qp requests) h among =
      let long : length (map TheRequest requests) ≡ length requests = simp length-map in
      record {
        lives = h.0;
        owner = owns (actors.posts_on (queues.Send qp)) (scenario.posts_on qp) (Post qp requests) (posts_are qp) (can.poster qp) among (eq-eqb qp qp refl);
        some = omega (arith, long, h.1.0);
        fits = nops_fit qp (qp_line s.lines qp).segments requests h.2;
        built = nops_of requests h.2;
      }
  own_call (Recv qp receives) h among =
      let long : length (map TheReceive receives) ≡ length receives = simp length-map in
      record {
        lives = h.0;
        owner = owns (actors.posts_on (queues.Recv qp)) (scenario.receives_on qp) (Recv qp receives) (receives_are qp) (can.receiver qp) among (eq-eqb qp qp refl);
        some = omega (arith, long, h.1.0);
        fits = receives_fit qp (qp_line s.lines qp).segments receives (subst (λ n. All (CanReceive n) receives) (segments_are s.lines qp) h.2);
        built = tt;
      }
  own_call (Poll cq most) h among = (polls_own (Poll cq most) cq most among (eq-eqb cq cq refl) h.0 (omega (arith, h.1.0)) h.1.1, omega (arith, h.1.0))
  own_call (Drain cq count) h among = (polls_own (Drain cq count) cq 1 among (eq-eqb cq cq refl) h.0 (omega arith) (omega arith), omega (arith, h.1.0))

  pub own_calls : AllByRecursion (IsOwnCall s.lines s.programs (suc t)) (program_of s.programs (suc t))
  own_calls = each_among s.lines (IsOwnCall s.lines s.programs (suc t)) calls calls (λ test h. h) own_call (program_at s.lines s.programs can.programs t)
