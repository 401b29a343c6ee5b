use Rattle.std.proofs.Common.{◌≡◌, ℕ, ◌*◌, ap, sym, ◌∙◌, length, map, None}
use Rattle.std.proofs.lemmas.List.{length-map}
use Rattle.verbs_model.specs.Ends.{queue_of}
use Rattle.verbs_model.specs.Tables.{Tables, state_of}
use Rattle.verbs_model.proofs.Beginnings.{first_tables, length-both_queues, length-pairs, state_of-first}
use Rattle.verbs_model.proofs.abstract_state.beginning.first_state.Goals as goal

pub invariant_of-result : goal.invariant_of-result
invariant_of-result c =
    let d = c.args.lines.now in
    let queues = c.in_ok-first_queues.field-0.items in
    sym (length-map queues queue_of)
    ∙ (ap length c.in_ok-first_queues.ensures
    ∙ (length-both_queues d.qps ∙ ap (λ (n : ℕ). 2 * n) (sym (ap length c.in_ok-first_pairs.ensures ∙ length-pairs d))))

pub returns : goal.returns
returns c =
    let d = c.args.lines.now in
    let queues = c.in_ok-first_queues.ensures in
    let pairs = c.in_ok-first_pairs.ensures in
    let completions = c.in_ok-first_completions.ensures in
    let tables : ◌≡◌ {A = Tables} (record { queues = map queue_of c.in_ok-first_queues.field-0.items; pairs = c.in_ok-first_pairs.field-0.items; completions = c.in_ok-first_completions.field-0.items; owed = None }) (first_tables d) =
    λ i. record { queues = queues i; pairs = pairs i; completions = completions i; owed = None } in
    ap state_of tables ∙ state_of-first d
