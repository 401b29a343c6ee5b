-- What each call makes of an adapter.
use Rattle.std.specs.Prelude.{ℕ, ◌-◌, ◌++◌, List, [], length, take, drop, Option, is_none, if◌then◌else◌}
use Rattle.std.specs.List.{fold}
use Rattle.hca_pages.specs.declared.fault.HcaFault.{HcaFault}
use Rattle.hca_pages.specs.declared.phase.Phase.TheVariants.{Off, Enabled, Running}
use Rattle.hca_pages.specs.Adapter.{Adapter, off}
use Rattle.hca_pages.specs.Faults.{enable_fault, query_fault, give_fault, init_fault, teardown_fault, take_back_fault, disable_fault}

pub data Call : Type 0 where
  Enable : Call
  Query : Call
  Give : (pages : List ℕ) → Call
  Init : Call
  Teardown : Call
  TakeBack : (n : ℕ) → Call
  Disable : Call

abbrev pub fault_of : Adapter → Call → Option HcaFault
fault_of a Enable = enable_fault a
fault_of a Query = query_fault a
fault_of a (Give pages) = give_fault a pages
fault_of a Init = init_fault a
fault_of a Teardown = teardown_fault a
fault_of a (TakeBack n) = take_back_fault a n
fault_of a Disable = disable_fault a

-- the adapter after a call that is not refused: a page that is given comes last, and those given last are taken back first
abbrev pub served : Adapter → Call → Adapter
served a Enable = record a { phase = Enabled }
served a Query = a
served a (Give pages) = record a { pages = a.pages ++ pages }
served a Init = record a { phase = Running }
served a Teardown = record a { phase = Enabled }
served a (TakeBack n) = record a { pages = take (length a.pages - n) a.pages }
served a Disable = record a { phase = Off }

-- a refusal changes nothing
abbrev pub after_call : Adapter → Call → Adapter
after_call a call = if is_none (fault_of a call) then served a call else a

-- the pages that are given back where n are asked for: those given last, in the order in which they were given
abbrev pub pages_back : Adapter → ℕ → List ℕ
pages_back a n = if is_none (take_back_fault a n) then drop (length a.pages - n) a.pages else []

-- an adapter that was off, after these calls
abbrev pub after_calls : List Call → Adapter
after_calls calls = fold after_call off calls
