use Rattle.std.proofs.Common.{◌≡◌, ℕ, ◌+◌, ◌++◌, List, All, drop, length, sym, ap, ◌∙◌, subst, arith}
use Rattle.std.specs.List.{flat_map, sum_by}
use Rattle.std.proofs.lemmas.List.{length-append}
use Rattle.bus_core.specs.Plain.{Plain}
use Rattle.verbs_types.specs.declared.declaration.CqLine.{CqLine}
use Rattle.verbs_types.specs.declared.declaration.EqLine.{EqLine}
use Rattle.verbs_types.specs.declared.declaration.QpLine.{QpLine}
use Rattle.verbs_types.specs.declared.declaration.Lines.{Lines}
use Rattle.actor_map.specs.Limits.{IsQpSize}
use Rattle.actor_map.specs.Sizes.{cq_words, eq_words, qp_words, words_of}
use Rattle.actor_map.specs.Start.{cq_start, eq_start, head_start, qp_start, starts}
use Rattle.actor_map.proofs.Bounds.{limits_of}
use Rattle.actor_map.proofs.Setting.{can_set_more, sets_all, sets_both}
use Rattle.actor_map.proofs.Starts.{length_of_cqs, length_of_eqs, length_of_head, length_of_qps, room_of}
use Rattle.actor_map.proofs.start.set_starts.Goals as goal

pub set_eqs-next-requires-clause-room : goal.set_eqs-next-requires-clause-room
set_eqs-next-requires-clause-room c =
    let d = c.args.declared.now in
    let eqs : c.as_slice.result.now ≡ d.eqs = c.as_slice.ensures ∙ ap (λ (m : Lines). m.eqs) c.lines-lines.ensures.lines in
    let head = head_start c.args.start_word in
    can_set_more c.args.bus.now c.set_head-next.new.bus 0 c.set_head-next.result (words_of d) (length (flat_map eq_start c.as_slice.result.now)) head c.set_head-next.ensures
    (room_of d c.args.bus.now (limits_of d c.lines-lines.ensures.declared) c.requires.empty c.requires.inside)
    (omega (arith, length_of_head c.args.start_word, length_of_eqs c.as_slice.result.now, ap (λ (ls : List EqLine). sum_by eq_words ls) eqs))

pub set_cqs-next-requires-clause-room : goal.set_cqs-next-requires-clause-room
set_cqs-next-requires-clause-room c =
    let d = c.args.declared.now in
    let eqs : c.as_slice.result.now ≡ d.eqs = c.as_slice.ensures ∙ ap (λ (m : Lines). m.eqs) c.lines-lines.ensures.lines in
    let cqs : c.as_slice-2.result.now ≡ d.cqs = c.as_slice-2.ensures ∙ ap (λ (m : Lines). m.cqs) c.lines-lines.ensures.lines in
    let head = head_start c.args.start_word in
    let first = flat_map eq_start c.as_slice.result.now in
    can_set_more c.args.bus.now c.set_eqs-next.new.bus 0 c.set_eqs-next.result (words_of d) (length (flat_map cq_start c.as_slice-2.result.now)) (head ++ first)
    (sets_both c.args.bus.now c.set_head-next.new.bus c.set_eqs-next.new.bus 0 c.set_head-next.result c.set_eqs-next.result head first c.set_head-next.ensures c.set_eqs-next.ensures)
    (room_of d c.args.bus.now (limits_of d c.lines-lines.ensures.declared) c.requires.empty c.requires.inside)
    (omega (
      arith,
      length-append head first,
      length_of_head c.args.start_word,
      length_of_eqs c.as_slice.result.now,
      length_of_cqs c.as_slice-2.result.now,
      ap (λ (ls : List EqLine). sum_by eq_words ls) eqs,
      ap (λ (ls : List CqLine). sum_by cq_words ls) cqs,
    ))

pub set_qps-requires-clause-limits : goal.set_qps-requires-clause-limits
set_qps-requires-clause-limits c =
    let same : c.as_slice-3.result.now ≡ c.args.declared.now.qps = c.as_slice-3.ensures ∙ ap (λ (m : Lines). m.qps) c.lines-lines.ensures.lines in
    subst (λ (ls : List QpLine). All IsQpSize ls) (sym same) (limits_of c.args.declared.now c.lines-lines.ensures.declared).qps

pub set_qps-requires-clause-room : goal.set_qps-requires-clause-room
set_qps-requires-clause-room c =
    let d = c.args.declared.now in
    let eqs : c.as_slice.result.now ≡ d.eqs = c.as_slice.ensures ∙ ap (λ (m : Lines). m.eqs) c.lines-lines.ensures.lines in
    let cqs : c.as_slice-2.result.now ≡ d.cqs = c.as_slice-2.ensures ∙ ap (λ (m : Lines). m.cqs) c.lines-lines.ensures.lines in
    let qps : c.as_slice-3.result.now ≡ d.qps = c.as_slice-3.ensures ∙ ap (λ (m : Lines). m.qps) c.lines-lines.ensures.lines in
    let head = head_start c.args.start_word in
    let first = flat_map eq_start c.as_slice.result.now in
    let second = flat_map cq_start c.as_slice-2.result.now in
    let both = sets_both c.args.bus.now c.set_head-next.new.bus c.set_eqs-next.new.bus 0 c.set_head-next.result c.set_eqs-next.result head first c.set_head-next.ensures c.set_eqs-next.ensures in
    can_set_more c.args.bus.now c.set_cqs-next.new.bus 0 c.set_cqs-next.result (words_of d) (length (flat_map qp_start c.as_slice-3.result.now)) (head ++ first ++ second)
    (sets_both c.args.bus.now c.set_eqs-next.new.bus c.set_cqs-next.new.bus 0 c.set_eqs-next.result c.set_cqs-next.result (head ++ first) second both c.set_cqs-next.ensures)
    (room_of d c.args.bus.now (limits_of d c.lines-lines.ensures.declared) c.requires.empty c.requires.inside)
    (omega (
      arith,
      length-append head first,
      length-append (head ++ first) second,
      length_of_head c.args.start_word,
      length_of_eqs c.as_slice.result.now,
      length_of_cqs c.as_slice-2.result.now,
      length_of_qps c.as_slice-3.result.now,
      ap (λ (ls : List EqLine). sum_by eq_words ls) eqs,
      ap (λ (ls : List CqLine). sum_by cq_words ls) cqs,
      ap (λ (ls : List QpLine). sum_by qp_words ls) qps,
    ))

pub returns-clause-words : goal.returns-clause-words
returns-clause-words c =
    let d = c.args.declared.now in
    let eqs : c.as_slice.result.now ≡ d.eqs = c.as_slice.ensures ∙ ap (λ (m : Lines). m.eqs) c.lines-lines.ensures.lines in
    let cqs : c.as_slice-2.result.now ≡ d.cqs = c.as_slice-2.ensures ∙ ap (λ (m : Lines). m.cqs) c.lines-lines.ensures.lines in
    let qps : c.as_slice-3.result.now ≡ d.qps = c.as_slice-3.ensures ∙ ap (λ (m : Lines). m.qps) c.lines-lines.ensures.lines in
    let head = head_start c.args.start_word in
    let first = flat_map eq_start c.as_slice.result.now in
    let second = flat_map cq_start c.as_slice-2.result.now in
    let third = flat_map qp_start c.as_slice-3.result.now in
    let two = sets_both c.args.bus.now c.set_head-next.new.bus c.set_eqs-next.new.bus 0 c.set_head-next.result c.set_eqs-next.result head first c.set_head-next.ensures c.set_eqs-next.ensures in
    let three = sets_both c.args.bus.now c.set_eqs-next.new.bus c.set_cqs-next.new.bus 0 c.set_eqs-next.result c.set_cqs-next.result (head ++ first) second two c.set_cqs-next.ensures in
    let all_of = sets_both c.args.bus.now c.set_cqs-next.new.bus c.set_qps.new.bus 0 c.set_cqs-next.result c.set_qps.result (head ++ first ++ second) third three c.set_qps.ensures in
    let behind : c.set_qps.result ≡ words_of d = omega (
      arith,
      all_of.behind_is,
      length-append head first,
      length-append (head ++ first) second,
      length-append (head ++ first ++ second) third,
      length_of_head c.args.start_word,
      length_of_eqs c.as_slice.result.now,
      length_of_cqs c.as_slice-2.result.now,
      length_of_qps c.as_slice-3.result.now,
      ap (λ (ls : List EqLine). sum_by eq_words ls) eqs,
      ap (λ (ls : List CqLine). sum_by cq_words ls) cqs,
      ap (λ (ls : List QpLine). sum_by qp_words ls) qps,
    ) in
    sets_all c.args.bus.now c.set_qps.new.bus (head ++ first ++ second ++ third) c.set_qps.result all_of
    ∙ λ i. record c.args.bus.now { start = head ++ flat_map eq_start (eqs i) ++ flat_map cq_start (cqs i) ++ flat_map qp_start (qps i) ++ drop (behind i) c.args.bus.now.start }
