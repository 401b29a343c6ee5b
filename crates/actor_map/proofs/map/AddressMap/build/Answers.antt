use Rattle.std.proofs.Common.{◌≡◌, List, All, ◌++◌, length, map, refl, sym, ap, ◌∙◌, subst, arith}
use Rattle.std.specs.List.{sum_by}
use Rattle.std.proofs.lemmas.List.Sums.{sum-map}
use Rattle.verbs_types.specs.declared.declaration.CqLine.{CqLine}
use Rattle.verbs_types.specs.declared.declaration.EqLine.{EqLine}
use Rattle.verbs_types.specs.declared.declaration.QpLine.{QpLine}
use Rattle.verbs_types.specs.declared.declaration.Lines.{Lines}
use Rattle.actor_map.specs.declared.sizes.TheConstants.{FIRST_OBJECT}
use Rattle.actor_map.specs.Limits.{IsQpSize}
use Rattle.actor_map.specs.Sizes.{cq_words, eq_words, firsts, qp_words, sizes}
use Rattle.actor_map.proofs.Bounds.{limits_of}
use Rattle.actor_map.proofs.Placing.{placed_all}
use Rattle.actor_map.proofs.map.AddressMap.build.Goals as goal

pub place_cqs-requires-clause-room : goal.place_cqs-requires-clause-room
place_cqs-requires-clause-room c =
    let eqs : c.as_slice.result.now ≡ c.args.declared.now.eqs = c.as_slice.ensures ∙ ap (λ (d : Lines). d.eqs) c.lines-lines.ensures.lines in
    let cqs : c.as_slice-2.result.now ≡ c.args.declared.now.cqs = c.as_slice-2.ensures ∙ ap (λ (d : Lines). d.cqs) c.lines-lines.ensures.lines in
    omega (arith, c.words-words.ensures, c.in_ok-place_eqs.ensures.next, sum-map eq_words c.as_slice.result.now, ap (λ (ls : List EqLine). sum_by eq_words ls) eqs, ap (λ (ls : List CqLine). sum_by cq_words ls) cqs)

pub place_qps-requires-clause-limits : goal.place_qps-requires-clause-limits
place_qps-requires-clause-limits c =
    let same : c.as_slice-3.result.now ≡ c.args.declared.now.qps = c.as_slice-3.ensures ∙ ap (λ (d : Lines). d.qps) c.lines-lines.ensures.lines in
    subst (λ (ls : List QpLine). All IsQpSize ls) (sym same) (limits_of c.args.declared.now c.lines-lines.ensures.declared).qps

pub place_qps-requires-clause-room : goal.place_qps-requires-clause-room
place_qps-requires-clause-room c =
    let eqs : c.as_slice.result.now ≡ c.args.declared.now.eqs = c.as_slice.ensures ∙ ap (λ (d : Lines). d.eqs) c.lines-lines.ensures.lines in
    let cqs : c.as_slice-2.result.now ≡ c.args.declared.now.cqs = c.as_slice-2.ensures ∙ ap (λ (d : Lines). d.cqs) c.lines-lines.ensures.lines in
    let qps : c.as_slice-3.result.now ≡ c.args.declared.now.qps = c.as_slice-3.ensures ∙ ap (λ (d : Lines). d.qps) c.lines-lines.ensures.lines in
    omega (
      arith,
      c.words-words.ensures,
      c.in_ok-place_eqs.ensures.next,
      c.in_ok-place_cqs.ensures.next,
      sum-map eq_words c.as_slice.result.now,
      sum-map cq_words c.as_slice-2.result.now,
      ap (λ (ls : List EqLine). sum_by eq_words ls) eqs,
      ap (λ (ls : List CqLine). sum_by cq_words ls) cqs,
      ap (λ (ls : List QpLine). sum_by qp_words ls) qps,
    )

pub returns-clause-found : goal.returns-clause-found
returns-clause-found c =
    let eqs : c.as_slice.result.now ≡ c.args.declared.now.eqs = c.as_slice.ensures ∙ ap (λ (d : Lines). d.eqs) c.lines-lines.ensures.lines in
    let cqs : c.as_slice-2.result.now ≡ c.args.declared.now.cqs = c.as_slice-2.ensures ∙ ap (λ (d : Lines). d.cqs) c.lines-lines.ensures.lines in
    let qps : c.as_slice-3.result.now ≡ c.args.declared.now.qps = c.as_slice-3.ensures ∙ ap (λ (d : Lines). d.qps) c.lines-lines.ensures.lines in
    let all_of =
    placed_all _ c.place_eqs.new.self c.place_cqs.new.self c.place_qps.new.self (map eq_words c.as_slice.result.now) (map cq_words c.as_slice-2.result.now) (map qp_words c.as_slice-3.result.now) c.new.ensures.items refl
    c.in_ok-place_eqs.ensures
    c.in_ok-place_cqs.ensures
    c.in_ok-place_qps.ensures
    in
    let words : c.place_qps.new.self.first_words.items ≡ firsts FIRST_OBJECT (sizes c.args.declared.now) =
    all_of ∙ λ i. firsts FIRST_OBJECT (map eq_words (eqs i) ++ map cq_words (cqs i) ++ map qp_words (qps i))
    in
    let event_queues : c.len.result ≡ length c.args.declared.now.eqs = c.len.ensures ∙ ap (λ (d : Lines). length d.eqs) c.lines-lines.ensures.lines in
    let completion_queues : c.len-2.result ≡ length c.args.declared.now.cqs = c.len-2.ensures ∙ ap (λ (d : Lines). length d.cqs) c.lines-lines.ensures.lines in
    λ i. record { first_words = words i; eqs = event_queues i; cqs = completion_queues i }
