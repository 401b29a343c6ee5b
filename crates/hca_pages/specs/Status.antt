-- The command status of a fault.
use Rattle.std.specs.Prelude.{ℕ}
use Rattle.hca_pages.specs.declared.fault.HcaFault.{HcaFault}
use Rattle.hca_pages.specs.declared.fault.HcaFault.TheVariants.{BadSystemState, BadParameter, Limit, NoPages}

abbrev pub status_of : HcaFault → ℕ
status_of BadSystemState = 0x04
status_of (BadParameter page) = 0x03
status_of (Limit pages) = 0x08
status_of (NoPages needed held) = 0x0f
