-- The words of declared objects are few.
use Rattle.std.proofs.Common.{◌+◌, ◌*◌, ◌^◌, ◌≤◌, IsTrue, get_or, arith}
use Rattle.std.proofs.Math.Pow.{pow_mono}
use Rattle.std.proofs.lemmas.List.Sums.{sum_by-le}
use Rattle.verbs_types.specs.Lines.{is_declared}
use Rattle.verbs_types.specs.declared.declaration.EqLine.{EqLine}
use Rattle.verbs_types.specs.declared.declaration.CqLine.{CqLine}
use Rattle.verbs_types.specs.declared.declaration.QpLine.{QpLine}
use Rattle.verbs_types.specs.declared.declaration.Lines.{Lines}
use Rattle.actor_map.specs.Limits.{IsEqSize, IsQpSize}
use Rattle.actor_map.specs.Sizes.{eq_words, cq_words, qp_words, stride, words_of}
use Rattle.object_places.proofs.Lines.{lines_of, eq_size, cq_sizes, qp_sizes}
use Rattle.object_places.proofs.Strides.{receives_few}

eq_few : (l : EqLine) → IsEqSize l → eq_words l ≤ 65540
eq_few l h = let places : 2 ^ l.log ≤ 2 ^ 10 = pow_mono h in omega (arith, places)

cq_few : (l : CqLine) → l.ceiling ≤ 12 → cq_words l ≤ 65540
cq_few l h = let places : 2 ^ l.ceiling ≤ 2 ^ 12 = pow_mono h in omega (arith, places)

qp_few : (l : QpLine) → IsQpSize l → qp_words l ≤ 65540
qp_few l h =
    let sends : 2 ^ l.send_log ≤ 2 ^ 8 = pow_mono h.0 in
    let receives : 2 ^ l.recv_log ≤ 2 ^ 8 = pow_mono h.1 in
    let few : (stride l.segments + 1) * 2 ^ l.recv_log ≤ 4352 = receives_few l.segments (2 ^ l.recv_log) (omega (arith, receives)) in
    omega (arith, sends, few)

-- an address of a word has 32 bits
pub words_few : (d : Lines) → IsTrue (is_declared d) → words_of d ≤ 2 ^ 32
words_few d h =
    let lines = lines_of d h in
    omega (
      arith,
      lines.few_eqs,
      lines.few_cqs,
      lines.few_qps,
      sum_by-le eq_words 65540 d.eqs (λ n l below. eq_few (get_or d.eqs n l) (eq_size (get_or d.eqs n l) (lines.eqs n l below))),
      sum_by-le cq_words 65540 d.cqs (λ n l below. cq_few (get_or d.cqs n l) (cq_sizes d (get_or d.cqs n l) (lines.cqs n l below)).ceiling),
      sum_by-le qp_words 65540 d.qps (λ n l below. qp_few (get_or d.qps n l) (qp_sizes d (get_or d.qps n l) (lines.qps n l below)).small),
    )
