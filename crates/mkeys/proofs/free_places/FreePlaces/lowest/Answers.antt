use Rattle.std.proofs.Common.{◌^◌, ◌<◌, arith, get_or, w64}
use Rattle.std.specs.Int.{trailing_zeros}
use Rattle.mkeys.proofs.PlaceBits.{lowest_is_free}
use Rattle.mkeys.proofs.free_places.FreePlaces.lowest.Goals as goal

pub returns : goal.returns
returns c =
    let summary = c.self.inside.summary in
    let fits : summary < 2 ^ 64 = omega arith in
    let word_fits : get_or c.self.inside.words (trailing_zeros w64 summary) 0 < 2 ^ 64 = omega arith in
    rw (← c.self.view_is) (lowest_is_free c.self.inside.words summary c.self.invariant c.if-self-eq0.false fits word_fits)
