-- The next call that posts is the first that was not passed over.
use Rattle.std.proofs.Common.{◌<◌, length, refl, sym, ◌∙◌}
use Rattle.std.proofs.lemmas.Option.{slice_get_read}
use Rattle.noted_history.proofs.Passing.{arrives, call_left}
use Rattle.noted_history.proofs.posting.Posting.place.Goals as goal

pub returns : goal.returns
returns c =
    let calls = c.args.calls.now in
    let place = c.loop-place.place in
    let list = c.loop-place-test.ensures in
    let same = sym c.loop-place.invariant in
    let inside : place < length calls = call_left calls place (λ none. c.requires.left (same ∙ none)) in
    let there = slice_get_read calls (length calls) place c.index-calls-place.result refl inside c.index-calls-place.is in (
      list.0,
      record {
        call = c.index-calls-place.result;
        there = there;
        list = list.1;
        first = same ∙ arrives calls place c.index-calls-place.result list.0 there list.1;
      },
    )
