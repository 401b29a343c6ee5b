-- The pair of this turn stands next in both lists.
use Rattle.std.proofs.Common.{◌≡◌, ℕ, ◌+◌, List, [], ◌∷◌, ◌++◌, get_or, length, take, zip, subst, sym, ap, ◌∙◌, rules, Bool, Bor}
use Rattle.std.specs.List.{flat_map}
use Rattle.std.specs.Iterator.Adapters.{zip_first, zip_second}
use Rattle.std.specs.Slice.Iter.{iter_rest}
use Rattle.std.proofs.lemmas.List.{length-append}
use Rattle.std.proofs.lemmas.Slice.Zip.{zip_turn, zip_end}
use Rattle.bus_core.specs.declared.operation.BusEntry.{BusEntry}
use Rattle.scenario_text.specs.Requests.{line}
use Rattle.transcript_text.specs.Trace.{operation_text, operation_fields}
use Rattle.transcript_text.specs.ActorNames.{place_of}
use Rattle.transcript_text.proofs.NameLemmas.{name_found}
use Rattle.transcript_text.proofs.ZipLemmas.{pair_added, all_added}
use Rattle.transcript_text.proofs.trace.put_operations.Goals as goal

pub loop-entry-preserved : goal.loop-entry-preserved
loop-entry-preserved c =
    let trace = c.args.trace.now in
    let marks = c.args.marks.now in
    let text = operation_text c.args.lines.now in
    let so_far = c.loop-entry.yielded in
    let pair : Bor BusEntry × Bor Bool = (c.in-Some.entry, c.in-Some.marked) in
    let first : iter_rest (zip_first c.into_iter-entry-iterator.result) ≡ trace = search rules in
    let second : iter_rest (zip_second c.into_iter-entry-iterator.result) ≡ marks = search rules in
    let turn = zip_turn trace marks so_far c.into_iter-entry-iterator.result c.loop-entry.entry-iterator c.next.new.self c.next.result first second c.loop-entry.yielded_by pair c.in-Some.is c.next.ensures.steps in
    let more : length so_far + 1 ≡ length (so_far ++ pair ∷ []) = sym (length-append so_far (pair ∷ [])) in
    let entry = c.entry-entry.result in
    let name = c.name_of-name.ensures ∙ ap (λ (names : List (List ℕ)). get_or names (place_of entry.actor) []) (c.as_slice.ensures.value ∙ c.in_ok-names.ensures) ∙ name_found c.args.lines.now entry.actor in
    let added : c.put_operation.new.out ≡ c.loop-entry.out ++ text (entry, c.in-Some.marked.now) = c.in_ok-put_operation.ensures ∙ ap (λ name. c.loop-entry.out ++ line (name ∷ operation_fields entry c.in-Some.marked.now)) name in
    let here = subst (λ (e : BusEntry). c.put_operation.new.out ≡ c.loop-entry.out ++ text (e, c.in-Some.marked.now)) c.entry-entry.ensures added in
    subst (λ n. c.put_operation.new.out ≡ c.args.out.now ++ flat_map text (take n (zip trace marks))) more
    (pair_added text trace marks c.args.out.now c.loop-entry.out c.put_operation.new.out (length so_far) c.in-Some.entry.now c.in-Some.marked.now turn.0 turn.1 (turn.2 c.in-Some.entry.now) (turn.3 c.in-Some.marked.now) c.loop-entry.invariant here)

pub returns : goal.returns
returns c =
    let trace = c.args.trace.now in
    let marks = c.args.marks.now in
    let first : iter_rest (zip_first c.into_iter-entry-iterator.result) ≡ trace = search rules in
    let second : iter_rest (zip_second c.into_iter-entry-iterator.result) ≡ marks = search rules in
    let turns = zip_end trace marks c.loop-entry.yielded c.into_iter-entry-iterator.result c.loop-entry.entry-iterator c.next.new.self c.next.result first second c.loop-entry.yielded_by c.in-None.is c.next.ensures.steps in
    all_added (operation_text c.args.lines.now) trace marks c.args.out.now c.loop-entry.out (length c.loop-entry.yielded) turns c.loop-entry.invariant
