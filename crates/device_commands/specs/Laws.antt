-- What holds of every command.
use Rattle.std.specs.Prelude.{◌≡◌, ◌≢◌}
use Rattle.cmd_bodies.specs.declared.command.Command.{Command}
use Rattle.device_commands.specs.Tables.{Tables}
use Rattle.device_commands.specs.Rules.{status_of}
use Rattle.device_commands.specs.Effect.{after}

-- a status other than 0 changes nothing
abbrev pub RefusalsChangeNothing : Type 0
RefusalsChangeNothing = (t : Tables) (c : Command) → status_of t c ≢ 0 → after t c ≡ t
