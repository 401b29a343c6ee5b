-- The command status of a refusal.
use Rattle.std.specs.Prelude.{ℕ}
use Rattle.hca_pages.specs.Status.{status_of}
use Rattle.device_commands.specs.declared.refusal.Refusal.{Refusal}
use Rattle.device_commands.specs.declared.refusal.Refusal.TheVariants.{NotDone, Adapter, BadResource, BadParameter, BadQpState, Busy}

abbrev pub code_of : Refusal → ℕ
code_of NotDone = 0x02
code_of (Adapter fault) = status_of fault
code_of BadResource = 0x05
code_of BadParameter = 0x03
code_of BadQpState = 0x10
code_of Busy = 0x09
