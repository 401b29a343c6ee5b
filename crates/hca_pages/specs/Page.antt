-- Pages of memory that are given to an adapter.
use Rattle.std.specs.Prelude.{ℕ, ◌%◌, ◌==◌, ◌&&◌, ◌++◌, not, List, [], ◌∷◌, Bool, Option, Some, None, if◌then◌else◌}
use Rattle.std.specs.List.{list_any}
use Rattle.verbs_types.specs.declared.command.PageUse.{PageUse}
use Rattle.verbs_types.specs.declared.command.PageUse.TheVariants.{Boot, Init}
use Rattle.hca_pages.specs.declared.page.TheConstants.{PAGE_SIZE}

-- how many an adapter needs for a use
abbrev pub page_count : PageUse → ℕ
page_count Boot = 8
page_count Init = 80

abbrev pub is_among : ℕ → List ℕ → Bool
is_among page pages = list_any (λ other. other == page) pages

-- whether a page can be given where these are held or stand before it
abbrev pub is_fit : List ℕ → ℕ → Bool
is_fit taken page = (page % PAGE_SIZE == 0) && not (is_among page taken)

-- the first page of a list that cannot be given where these are held
abbrev pub first_unfit : List ℕ → List ℕ → Option ℕ
first_unfit held [] = None
first_unfit held (page ∷ pages) = if is_fit held page then first_unfit (held ++ page ∷ []) pages else Some page
