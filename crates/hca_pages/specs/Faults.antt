-- Which fault each call meets, if any.
use Rattle.std.specs.Prelude.{ℕ, ◌+◌, ◌-◌, ◌^◌, ◌==◌, ◌&&◌, nat_le, min, List, length, Bool, true, false, Option, Some, None, Result, Ok, Err}
use Rattle.std.specs.Option.{option_map}
use Rattle.hca_pages.specs.declared.fault.HcaFault.{HcaFault}
use Rattle.hca_pages.specs.declared.fault.HcaFault.TheVariants.{BadSystemState, BadParameter, Limit, NoPages}
use Rattle.hca_pages.specs.declared.page.TheConstants.{PAGE_LIMIT}
use Rattle.hca_pages.specs.Adapter.{Adapter, is_off, is_enabled, is_running}
use Rattle.hca_pages.specs.Page.{first_unfit}

-- the fault where the test fails
abbrev pub unless : Bool → HcaFault → Option HcaFault
unless true fault = None
unless false fault = Some fault

-- the first of two
abbrev pub or_then : Option HcaFault → Option HcaFault → Option HcaFault
or_then None next = next
or_then (Some fault) next = Some fault

-- pages are asked for, given and taken back, and the adapter initialised and disabled, while it is enabled and not running
abbrev pub order_fault : Adapter → Option HcaFault
order_fault a = unless (is_enabled a.phase) BadSystemState

abbrev pub enable_fault : Adapter → Option HcaFault
enable_fault a = unless (is_off a.phase) BadSystemState

abbrev pub query_fault : Adapter → Option HcaFault
query_fault a = order_fault a

-- more pages than an adapter holds, as a number of 32 bits
abbrev pub limit_fault : ℕ → Option HcaFault
limit_fault pages = unless (nat_le pages PAGE_LIMIT) (Limit (min pages (2 ^ 32 - 1)))

abbrev pub give_fault : Adapter → List ℕ → Option HcaFault
give_fault a pages =
    or_then (order_fault a)
    (or_then (option_map (λ page. BadParameter page) (first_unfit a.pages pages))
    (limit_fault (length a.pages + length pages)))

abbrev pub init_fault : Adapter → Option HcaFault
init_fault a = or_then (order_fault a) (unless (nat_le PAGE_LIMIT (length a.pages)) (NoPages PAGE_LIMIT (length a.pages)))

abbrev pub teardown_fault : Adapter → Option HcaFault
teardown_fault a = unless (is_running a.phase) BadSystemState

abbrev pub take_back_fault : Adapter → ℕ → Option HcaFault
take_back_fault a n = or_then (order_fault a) (unless (nat_le n (length a.pages)) (BadParameter n))

abbrev pub disable_fault : Adapter → Option HcaFault
disable_fault a = unless (is_enabled a.phase && (length a.pages == 0)) BadSystemState

-- the answer of a call that has this value where it is not refused
abbrev pub answered : {T : Type 0} → Option HcaFault → T → Result T HcaFault
answered None value = Ok value
answered (Some fault) value = Err fault
