-- The entries of work queues carry what scenarios that can run post.
use Rattle.std.proofs.Common.{◌≡◌, ℕ, suc, ◌-◌, ◌≤◌, nat_le, Bool, true, false, if◌then◌else◌, List, [], ◌∷◌, length, map, refl, sym, subst, arith}
use Rattle.std.specs.List.{All, AllByRecursion}
use Rattle.std.proofs.lemmas.Bool.{leb-true}
use Rattle.std.proofs.lemmas.Option.{get_or_from_slice_get}
use Rattle.verbs_types.specs.declared.declaration.Lines.{Lines}
use Rattle.verbs_types.specs.declared.declaration.QpLine.{QpLine}
use Rattle.verbs_types.specs.declared.declaration.TheConstants.{FIRST_QP}
use Rattle.verbs_types.specs.declared.request.Body.{Body}
use Rattle.verbs_types.specs.declared.request.Item.TheVariants.{Request as TheRequest, Receive as TheReceive}
use Rattle.verbs_types.specs.declared.request.Op.{Op}
use Rattle.verbs_types.specs.declared.request.Op.TheVariants.{Nop}
use Rattle.verbs_types.specs.declared.request.Receive.{Receive}
use Rattle.verbs_types.specs.declared.request.Request.{Request}
use Rattle.verbs_types.specs.declared.request.Sge.{Sge}
use Rattle.verbs_types.specs.Lines.{is_declared, is_qp_line}
use Rattle.verbs_laws.proofs.Families.{among}
use Rattle.actor_map.specs.Sizes.{stride}
use Rattle.scenario_text.specs.Calls.{IsPlainNop, IsSegment, CanReceive, IsPair, segments_of}
use Rattle.work_entries.specs.Body.{MayCarry}
use Rattle.work_entries.specs.Opcode.{opcode_of}
use Rattle.work_entries.specs.Receive.{IsReal, room_of}
use Rattle.work_entries.specs.Send.{sent_body}
use Rattle.counted_ring.specs.declared.place.WqPlace.{WqPlace}
use Rattle.object_places.specs.Places.{qp_line, no_qp, receive_of}
use Rattle.provider_post.specs.Item.{CanTake, CanCarry}
use Rattle.ready_scenarios.proofs.Declared.{declares_by, line_at, segments_low}
use Rattle.ready_scenarios.proofs.Owned.{segments_are}

-- a request without data
carries_nop : (r : Request) → IsPlainNop r → CanCarry r
carries_nop r h =
    subst (λ (o : Op). MayCarry (opcode_of o) (sent_body r.body)) (sym h.0)
    (subst (λ (b : Body). MayCarry (opcode_of Nop) (sent_body b)) (sym h.1) (omega arith, tt))

pub takes_nops : (place : WqPlace) (requests : List Request) → All IsPlainNop requests → AllByRecursion (CanTake place) (map TheRequest requests)
takes_nops place [] h = tt
takes_nops place (r ∷ requests) h = (carries_nop r (h 0 r (omega arith)), takes_nops place requests (λ k e low. h (suc k) e (omega (arith, low))))

-- a block has room for as many segments as its line says
stride_has : (segments : ℕ) → segments ≤ 8 → segments ≤ room_of (stride segments)
stride_has segments low = by (nat_le segments 1) (nat_le segments 2) (nat_le segments 4) refl refl refl
  where
    by : (one two four : Bool) → nat_le segments 1 ≡ one → nat_le segments 2 ≡ two → nat_le segments 4 ≡ four → segments ≤ room_of (if one then 2 else (if two then 4 else (if four then 8 else 16)))
    by true two four e f g = leb-true segments 1 e
    by false true four e f g = leb-true segments 2 f
    by false false true e f g = leb-true segments 4 g
    by false false false e f g = low

reals : (sges : List Sge) → All IsSegment sges → AllByRecursion IsReal sges
reals [] h = tt
reals (s ∷ sges) h = ((h 0 s (omega arith)).real, reals sges (λ k e low. h (suc k) e (omega (arith, low))))

takes_all : (place : WqPlace) (most : ℕ) (receives : List Receive) → most ≤ room_of place.stride → All (CanReceive most) receives → AllByRecursion (CanTake place) (map TheReceive receives)
takes_all place most [] room h = tt
takes_all place most (r ∷ receives) room h =
    let one = h 0 r (omega arith) in
    (record { room = omega (arith, room, one.few); real = reals r.sges one.segments }, takes_all place most receives room (λ k e low. h (suc k) e (omega (arith, low))))

-- the line of a declared queue pair has at most 8 segments
few_segments : (d : Lines) (qp : ℕ) → is_declared d ≡ true → IsPair d qp → (qp_line d qp).segments ≤ 8
few_segments d qp declared lives =
    let l = line_at (is_qp_line d) d.qps (qp - FIRST_QP) (declares_by d declared).qps (among FIRST_QP (length d.qps) qp lives).1 in
    let is : qp_line d qp ≡ l.line = get_or_from_slice_get d.qps (qp - FIRST_QP) l.line no_qp l.there in
    subst (λ (x : QpLine). x.segments ≤ 8) (sym is) (segments_low d l.line l.passed)

pub takes_receives : (d : Lines) (qp : ℕ) (receives : List Receive) → is_declared d ≡ true → IsPair d qp → All (CanReceive (segments_of d qp)) receives → AllByRecursion (CanTake (receive_of d qp)) (map TheReceive receives)
takes_receives d qp receives declared lives h =
    takes_all (receive_of d qp) (segments_of d qp) receives
    (subst (λ n. n ≤ room_of (stride (qp_line d qp).segments)) (sym (segments_are d qp)) (stride_has (qp_line d qp).segments (few_segments d qp declared lives)))
    h
