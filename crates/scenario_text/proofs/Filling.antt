-- Posted requests and the room that is left fill each completion queue, line by line.
use Rattle.std.proofs.Common.{◌≡◌, ℕ, ◌+◌, ◌-◌, ◌^◌, ◌<◌, ◌==◌, cond, List, [], ◌∷◌, ◌++◌, length, Option, None, Some, slice_get, unwrap_or, ⊎_elim, sym, ap, ◌∙◌, arith}
use Rattle.std.proofs.lemmas.Bool.{cases_eq, eq-eqb, ne_eqb}
use Rattle.std.proofs.lemmas.Option.{slice_get_within}
use Rattle.verbs_types.specs.declared.call.Call.{Call}
use Rattle.verbs_types.specs.declared.declaration.CqLine.{CqLine}
use Rattle.verbs_types.specs.declared.declaration.Lines.{Lines}
use Rattle.verbs_types.specs.declared.declaration.QpLine.{QpLine}
use Rattle.verbs_types.specs.declared.declaration.TheConstants.{FIRST_QP}
use Rattle.scenario_text.specs.AfterObjects.{change}
use Rattle.scenario_text.specs.AfterCalls.{fuller}
use Rattle.scenario_text.specs.Limits.{completing_into}
use Rattle.scenario_text.specs.declared.sofar.QueueUse.{QueueUse}
use Rattle.scenario_text.proofs.Declaring.{with_cq}
use Rattle.scenario_text.proofs.Growing.{push_get, push_before, push_last, change_here, change_other}
use Rattle.scenario_text.proofs.Rooms.{SameCounts, OneMore, completing_none, completing_same}
use Rattle.scenario_text.proofs.Standing.{AreFilled, room_at}

-- a queue of which no more is known
abbrev pub unused : QueueUse
unused = record { poller = None; room = 0 }

-- before the threads a queue has all its room
pub filled_cq : (d : Lines) (queues : List QueueUse) (l : CqLine) (u : QueueUse) → length queues ≡ length d.cqs → u.room ≡ 2 ^ l.log → AreFilled d queues []
    → AreFilled (with_cq d l) (queues ++ u ∷ []) []
filled_cq d queues l u same room all c x there = ⊎_elim before last (push_get d.cqs l x c there)
  where
    before : slice_get d.cqs c ≡ Some x → room_at (queues ++ u ∷ []) c + completing_into c FIRST_QP d.qps [] ≡ 2 ^ x.log
    before known =
        let below : c < length queues = omega (arith, slice_get_within d.cqs c x known, same) in
        ap (λ (o : Option QueueUse). (unwrap_or o unused).room + completing_into c FIRST_QP d.qps []) (push_before queues u c below) ∙ all c x known

    last : (c ≡ length d.cqs) × (l ≡ x) → room_at (queues ++ u ∷ []) c + completing_into c FIRST_QP d.qps [] ≡ 2 ^ x.log
    last (here, is) =
        let now : room_at (queues ++ u ∷ []) c ≡ u.room = ap (λ (o : Option QueueUse). (unwrap_or o unused).room) (push_last queues u c (omega (arith, here, same))) in
        let size : 2 ^ l.log ≡ 2 ^ x.log = ap (λ (y : CqLine). 2 ^ y.log) is in
        omega (arith, now, room, size, completing_none c FIRST_QP d.qps)

pub filled_qps : (d : Lines) (queues : List QueueUse) (qps : List QpLine) → AreFilled d queues [] → AreFilled (record d { qps = qps }) queues []
filled_qps d queues qps all c x there = omega (arith, all c x there, completing_none c FIRST_QP d.qps, completing_none c FIRST_QP qps)

pub filled_same : (d : Lines) (queues : List QueueUse) (before now : List (List Call)) → SameCounts before now → AreFilled d queues before → AreFilled d queues now
filled_same d queues before now same all c x there = ap (λ n. room_at queues c + n) (completing_same c FIRST_QP d.qps before now same) ∙ all c x there

-- what is polled makes no difference
pub filled_rooms : (d : Lines) (queues queues_now : List QueueUse) (programs : List (List Call)) → ((c : ℕ) → room_at queues_now c ≡ room_at queues c) → AreFilled d queues programs
    → AreFilled d queues_now programs
filled_rooms d queues queues_now programs same all c x there = ap (λ n. n + completing_into c FIRST_QP d.qps programs) (same c) ∙ all c x there

-- one more request or receive takes the room of one
pub filled_more : (d : Lines) (queues : List QueueUse) (before now : List (List Call)) (queue : ℕ) → length queues ≡ length d.cqs → 0 < room_at queues queue → OneMore d.qps FIRST_QP before now queue
    → AreFilled d queues before → AreFilled d (change fuller queues queue) now
filled_more d queues before now queue same_length room one all c x there = ⊎_elim here other (cases_eq c queue)
  where
    here : c ≡ queue → room_at (change fuller queues queue) c + completing_into c FIRST_QP d.qps now ≡ 2 ^ x.log
    here same =
        let below : queue < length queues = omega (arith, slice_get_within d.cqs c x there, same_length, same) in
        let less : room_at (change fuller queues queue) queue ≡ room_at queues queue - 1 = ap (λ (u : QueueUse). u.room) (change_here fuller unused queues queue below) in
        let now_room : room_at (change fuller queues queue) c ≡ room_at (change fuller queues queue) queue = ap (room_at (change fuller queues queue)) same in
        let was_room : room_at queues c ≡ room_at queues queue = ap (room_at queues) same in
        let taken : cond {A = ℕ} (queue == c) 1 0 ≡ 1 = ap (λ t. cond {A = ℕ} t 1 0) (eq-eqb queue c (sym same)) in
        omega (arith, less, now_room, was_room, taken, one.more c, room, all c x there)

    other : (c ≡ queue → ⊥) → room_at (change fuller queues queue) c + completing_into c FIRST_QP d.qps now ≡ 2 ^ x.log
    other apart =
        let stays : room_at (change fuller queues queue) c ≡ room_at queues c = ap (λ (u : QueueUse). u.room) (change_other fuller unused queues queue c apart) in
        let none : cond {A = ℕ} (queue == c) 1 0 ≡ 0 = ap (λ t. cond {A = ℕ} t 1 0) (ne_eqb queue c (λ e. apart (sym e))) in
        omega (arith, stays, none, one.more c, all c x there)
