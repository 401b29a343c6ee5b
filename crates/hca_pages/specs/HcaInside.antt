-- How the fields of an `Hca` are seen.
use Rattle.std.specs.Prelude.{◌≤◌, vec_capacity, vec_len}
use Rattle.hca_pages.specs.declared.hca.Hca.TheInside.{Inside}
use Rattle.hca_pages.specs.declared.page.TheConstants.{PAGE_LIMIT}
use Rattle.hca_pages.specs.Adapter.{Adapter}

abbrev pub hca_view : Inside → Adapter
hca_view a = record { phase = a.phase; pages = a.pages.items }

-- it has room for all pages that it can hold
pub record IsHca (a : Inside) : Type 0 where
  pub few : vec_len a.pages ≤ PAGE_LIMIT
  pub room : PAGE_LIMIT ≤ vec_capacity a.pages
