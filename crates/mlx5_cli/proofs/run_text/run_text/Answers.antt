-- The operations and the entries of an outcome are of declared actors, and the entries name declared objects.
use Rattle.std.proofs.Common.{◌≡◌, ◌∙◌, ◌++◌, ℕ, List, All, sym, ap, subst, length, Bool}
use Rattle.bus_core.specs.declared.operation.BusEntry.{BusEntry}
use Rattle.verbs_types.specs.declared.declaration.Lines.{Lines}
use Rattle.verbs_types.specs.declared.entry.Entry.{Entry}
use Rattle.transcript_text.specs.History.{history_text}
use Rattle.transcript_text.specs.Numbers.{IsEntry}
use Rattle.transcript_text.specs.Trace.{IsOperation, trace_text}
use Rattle.mlx5_cli.proofs.Outcomes.{outcome_entries, outcome_operations, outcome_long}
use Rattle.mlx5_cli.proofs.run_text.run_text.Goals as goal

pub print_run-requires-clause-entries : goal.print_run-requires-clause-entries
print_run-requires-clause-entries c =
    subst (λ (d : Lines). All (IsEntry d) c.as_slice.result.now) (sym c.declared.ensures.lines)
    (subst (λ (h : List Entry). All (IsEntry c.args.scenario.now.lines) h) (sym c.as_slice.ensures)
    (outcome_entries c.args.scenario.now c.declared.ensures.scenario c.in_ok-outcome.outcome c.in_ok-outcome.ensures))

pub print_run-requires-clause-lengths : goal.print_run-requires-clause-lengths
print_run-requires-clause-lengths c =
    ap (λ (bs : List Bool). length bs) c.as_slice-3.ensures.value
    ∙ outcome_long c.args.scenario.now c.declared.ensures.scenario c.in_ok-outcome.outcome c.in_ok-outcome.ensures
    ∙ ap (λ (es : List BusEntry). length es) (sym c.as_slice-2.ensures.value)

pub print_run-requires-clause-actors : goal.print_run-requires-clause-actors
print_run-requires-clause-actors c =
    subst (λ (d : Lines). All (IsOperation d) c.as_slice-2.result.now) (sym c.declared.ensures.lines)
    (subst (λ (es : List BusEntry). All (IsOperation c.args.scenario.now.lines) es) (sym c.as_slice-2.ensures.value)
    (outcome_operations c.args.scenario.now c.declared.ensures.scenario c.in_ok-outcome.outcome c.in_ok-outcome.ensures))

pub returns : goal.returns
returns c =
    let s = c.args.scenario.now in
    let o = c.in_ok-outcome.outcome in
    record {
      outcome = o;
      is_outcome = c.in_ok-outcome.ensures;
      printed = c.in_ok-text.ensures
          ∙ ap (λ (d : Lines). history_text d c.as_slice.result.now ++ trace_text d c.as_slice-2.result.now c.as_slice-3.result.now) c.declared.ensures.lines
          ∙ ap (λ (h : List Entry). history_text s.lines h ++ trace_text s.lines c.as_slice-2.result.now c.as_slice-3.result.now) c.as_slice.ensures
          ∙ ap (λ (es : List BusEntry). history_text s.lines o.history ++ trace_text s.lines es c.as_slice-3.result.now) c.as_slice-2.ensures.value
          ∙ ap (λ (bs : List Bool). history_text s.lines o.history ++ trace_text s.lines o.trace.items bs) c.as_slice-3.ensures.value;
    }
