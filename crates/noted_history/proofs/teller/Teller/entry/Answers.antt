-- What was told has a step, and so it is what the note tells.
use Rattle.std.proofs.Common.{◌≡◌, sym, ap, ◌∙◌, Err}
use Rattle.std.proofs.lemmas.Option.{none-some}
use Rattle.verbs_rules.specs.Step.{MayStep, after_entry}
use Rattle.verbs_model.specs.Tables.{state_of}
use Rattle.noted_history.specs.declared.log.Noted.{Noted}
use Rattle.noted_history.proofs.teller.Teller.entry.Goals as goal

pub returns-in-Ok : goal.returns-in-Ok
returns-in-Ok c = λ t told.
    let says = c.in_ok-what.ensures t told in
    let by : c.args.actor ≡ t.entry.actor = ap (λ (n : Noted). n.actor) told.noted in
    record {
      told_is = λ i. record { actor = by i; what = says.what_is i };
      state_is = c.in-Ok.ensures.made ∙ (λ i. after_entry (state_of (says.same_state i)) (record { actor = by i; what = says.what_is i }));
      moves = says.moves;
    }

pub unreachable-requires : goal.unreachable-requires
unreachable-requires c =
    let t = c.requires.told in
    let says = c.in_ok-what.ensures t c.requires.tells in
    let by : c.args.actor ≡ t.entry.actor = ap (λ (n : Noted). n.actor) c.requires.tells.noted in
    let none = coe 1 0 (i. MayStep (state_of (says.same_state i)) (record { actor = by i; what = says.what_is i })) c.requires.tells.may in
    let some = (c.in-Err-Illegal.ensures.illegal c.in-Err-Illegal.field-0-0).0 (ap Err c.in-Err-Illegal.field-0-is) in
    none-some _ (sym none ∙ some.1)
