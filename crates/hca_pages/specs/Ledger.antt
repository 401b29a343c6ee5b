-- What the ledger of pages is worth after any sequence of calls.
use Rattle.std.specs.Prelude.{ℕ, ◌≡◌, ◌≢◌, ◌≤◌, ◌%◌, ◌&&◌, ◌||◌, not, List, [], ◌∷◌, length, Bool, true, false, is_none, if◌then◌else◌}
use Rattle.std.specs.List.{All, AllPairs, fold}
use Rattle.hca_pages.specs.declared.page.TheConstants.{PAGE_SIZE, PAGE_LIMIT}
use Rattle.hca_pages.specs.declared.phase.Phase.TheVariants.{Running}
use Rattle.hca_pages.specs.Adapter.{Adapter, off}
use Rattle.hca_pages.specs.Page.{is_among}
use Rattle.hca_pages.specs.Faults.{give_fault}
use Rattle.hca_pages.specs.Calls.{Call, Give, TakeBack, after_call, after_calls, pages_back}

-- the pages that a call brought to the adapter, and those that it took back
pub record Move : Type 0 where
  pub given : List ℕ
  pub taken : List ℕ

abbrev pub move_of : Adapter → Call → Move
move_of a (Give pages) = record { given = if is_none (give_fault a pages) then pages else []; taken = [] }
move_of a (TakeBack n) = record { given = []; taken = pages_back a n }
move_of a _ = record { given = []; taken = [] }

-- the moves of calls, one after another
abbrev pub moves : Adapter → List Call → List Move
moves a [] = []
moves a (call ∷ calls) = move_of a call ∷ moves (after_call a call) calls

abbrev pub out_after : ℕ → Bool → Move → Bool
out_after page out move = is_among page move.given || (out && not (is_among page move.taken))

-- whether a page was given, and not taken back since
abbrev pub is_out : ℕ → List Move → Bool
is_out page moved = fold (out_after page) false moved

-- at most 88 pages, all different and multiples of 4,096; a running adapter holds 88
pub record IsSane (a : Adapter) : Type 0 where
  pub few : length a.pages ≤ PAGE_LIMIT
  pub aligned : All (λ page. page % PAGE_SIZE ≡ 0) a.pages
  pub different : AllPairs (λ page other. page ≢ other) a.pages
  pub full : a.phase ≡ Running → length a.pages ≡ PAGE_LIMIT

-- After any calls on an adapter that was off it is sane, the pages that it holds are those that were given and not taken back since, and whatever number is asked back, each page that it gives back is one of those.
pub record KeepsLedger (calls : List Call) : Type 0 where
  pub sane : IsSane (after_calls calls)
  pub held : (page : ℕ) → is_among page (after_calls calls).pages ≡ is_out page (moves off calls)
  pub taken : (n : ℕ) → All (λ page. is_out page (moves off calls) ≡ true) (pages_back (after_calls calls) n)
