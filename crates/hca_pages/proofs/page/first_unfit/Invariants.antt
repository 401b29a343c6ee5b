use Rattle.std.proofs.Common.{◌≡◌, ◌++◌, take, drop}
use Rattle.hca_pages.specs.Page.{first_unfit}
use Rattle.hca_pages.proofs.page.first_unfit.Given as goal

-- none of the pages so far is unfit, so the first one is that of the rest
abbrev pub invariant-loop-i : goal.invariant-loop-i
invariant-loop-i l = first_unfit l.held l.given ≡ first_unfit (l.held ++ take l.i l.given) (drop l.i l.given)
