-- The command statuses of refused bodies.
use Rattle.std.specs.Prelude.{ℕ}
use Rattle.cmd_bodies.specs.declared.decoder.BodyFault.{BodyFault}
use Rattle.cmd_bodies.specs.declared.decoder.BodyFault.TheVariants.{BadOpcode, InputLength, OutputLength, Reserved}

abbrev pub body_status : BodyFault → ℕ
body_status BadOpcode = 0x02
body_status InputLength = 0x50
body_status OutputLength = 0x51
body_status Reserved = 0x03
