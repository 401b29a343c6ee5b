use Rattle.std.proofs.Common.{◌≡◌, List, All, sym, ap, ◌∙◌, subst, arith}
use Rattle.std.specs.List.{sum_by}
use Rattle.verbs_types.specs.declared.declaration.CqLine.{CqLine}
use Rattle.verbs_types.specs.declared.declaration.EqLine.{EqLine}
use Rattle.verbs_types.specs.declared.declaration.QpLine.{QpLine}
use Rattle.verbs_types.specs.declared.declaration.Lines.{Lines}
use Rattle.actor_map.specs.Limits.{IsQpSize}
use Rattle.actor_map.specs.Sizes.{cq_words, eq_words, qp_words}
use Rattle.actor_map.proofs.Bounds.{cqs_small, eqs_small, limits_of, qps_small}
use Rattle.actor_map.proofs.sizes.words.Goals as goal

pub words_of_eqs-requires-clause-sum : goal.words_of_eqs-requires-clause-sum
words_of_eqs-requires-clause-sum c =
    let same : c.as_slice.result.now ≡ c.args.declared.now.eqs = c.as_slice.ensures ∙ ap (λ (d : Lines). d.eqs) c.lines-lines.ensures.lines in
    omega (arith, ap (λ (ls : List EqLine). sum_by eq_words ls) same, eqs_small c.args.declared.now (limits_of c.args.declared.now c.lines-lines.ensures.declared))

pub overflow_add-result : goal.overflow_add-result
overflow_add-result c =
    let same : c.as_slice.result.now ≡ c.args.declared.now.eqs = c.as_slice.ensures ∙ ap (λ (d : Lines). d.eqs) c.lines-lines.ensures.lines in
    omega (arith, c.words_of_eqs.ensures, ap (λ (ls : List EqLine). sum_by eq_words ls) same, eqs_small c.args.declared.now (limits_of c.args.declared.now c.lines-lines.ensures.declared))

pub words_of_cqs-requires-clause-sum : goal.words_of_cqs-requires-clause-sum
words_of_cqs-requires-clause-sum c =
    let same : c.as_slice-2.result.now ≡ c.args.declared.now.cqs = c.as_slice-2.ensures ∙ ap (λ (d : Lines). d.cqs) c.lines-lines.ensures.lines in
    omega (arith, ap (λ (ls : List CqLine). sum_by cq_words ls) same, cqs_small c.args.declared.now (limits_of c.args.declared.now c.lines-lines.ensures.declared))

pub overflow_add-result-2 : goal.overflow_add-result-2
overflow_add-result-2 c =
    let eqs : c.as_slice.result.now ≡ c.args.declared.now.eqs = c.as_slice.ensures ∙ ap (λ (d : Lines). d.eqs) c.lines-lines.ensures.lines in
    let cqs : c.as_slice-2.result.now ≡ c.args.declared.now.cqs = c.as_slice-2.ensures ∙ ap (λ (d : Lines). d.cqs) c.lines-lines.ensures.lines in
    let limits = limits_of c.args.declared.now c.lines-lines.ensures.declared in
    omega (
      arith,
      c.words_of_eqs.ensures,
      c.words_of_cqs.ensures,
      ap (λ (ls : List EqLine). sum_by eq_words ls) eqs,
      ap (λ (ls : List CqLine). sum_by cq_words ls) cqs,
      eqs_small c.args.declared.now limits,
      cqs_small c.args.declared.now limits,
    )

pub words_of_qps-requires-clause-limits : goal.words_of_qps-requires-clause-limits
words_of_qps-requires-clause-limits c =
    let same : c.as_slice-3.result.now ≡ c.args.declared.now.qps = c.as_slice-3.ensures ∙ ap (λ (d : Lines). d.qps) c.lines-lines.ensures.lines in
    subst (λ (ls : List QpLine). All IsQpSize ls) (sym same) (limits_of c.args.declared.now c.lines-lines.ensures.declared).qps

pub words_of_qps-requires-clause-sum : goal.words_of_qps-requires-clause-sum
words_of_qps-requires-clause-sum c =
    let same : c.as_slice-3.result.now ≡ c.args.declared.now.qps = c.as_slice-3.ensures ∙ ap (λ (d : Lines). d.qps) c.lines-lines.ensures.lines in
    omega (arith, ap (λ (ls : List QpLine). sum_by qp_words ls) same, qps_small c.args.declared.now (limits_of c.args.declared.now c.lines-lines.ensures.declared))

pub overflow_add-result-3 : goal.overflow_add-result-3
overflow_add-result-3 c =
    let eqs : c.as_slice.result.now ≡ c.args.declared.now.eqs = c.as_slice.ensures ∙ ap (λ (d : Lines). d.eqs) c.lines-lines.ensures.lines in
    let cqs : c.as_slice-2.result.now ≡ c.args.declared.now.cqs = c.as_slice-2.ensures ∙ ap (λ (d : Lines). d.cqs) c.lines-lines.ensures.lines in
    let qps : c.as_slice-3.result.now ≡ c.args.declared.now.qps = c.as_slice-3.ensures ∙ ap (λ (d : Lines). d.qps) c.lines-lines.ensures.lines in
    let limits = limits_of c.args.declared.now c.lines-lines.ensures.declared in
    omega (
      arith,
      c.words_of_eqs.ensures,
      c.words_of_cqs.ensures,
      c.words_of_qps.ensures,
      ap (λ (ls : List EqLine). sum_by eq_words ls) eqs,
      ap (λ (ls : List CqLine). sum_by cq_words ls) cqs,
      ap (λ (ls : List QpLine). sum_by qp_words ls) qps,
      eqs_small c.args.declared.now limits,
      cqs_small c.args.declared.now limits,
      qps_small c.args.declared.now limits,
    )
