-- What an `Hca` is to a caller.
use Rattle.std.specs.Prelude.{ℕ, List, [], Bool, true, false}
use Rattle.hca_pages.specs.declared.phase.Phase.{Phase}
use Rattle.hca_pages.specs.declared.phase.Phase.TheVariants.{Off, Enabled, Running}

pub record Adapter : Type 0 where
  pub phase : Phase
  -- the pages that it holds, the one given first first
  pub pages : List ℕ

abbrev pub off : Adapter
off = record { phase = Off; pages = [] }

abbrev pub is_off : Phase → Bool
is_off Off = true
is_off Enabled = false
is_off Running = false

-- enabled and not running
abbrev pub is_enabled : Phase → Bool
is_enabled Off = false
is_enabled Enabled = true
is_enabled Running = false

abbrev pub is_running : Phase → Bool
is_running Off = false
is_running Enabled = false
is_running Running = true
