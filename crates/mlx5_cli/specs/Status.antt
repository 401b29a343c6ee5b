-- The table of statuses.
use Rattle.std.specs.Prelude.{ℕ, ◌+◌, ◌++◌, List, [], codes, decimal}
use Rattle.scenario_text.specs.Faults.{limit_text, rule_text}
use Rattle.scenario_text.specs.declared.fault.LimitName.TheVariants.{Text}
use Rattle.scenario_text.specs.declared.fault.ScenarioFault.{ScenarioFault}
use Rattle.scenario_text.specs.declared.fault.ScenarioFault.TheVariants.{Malformed as MalformedText, Limit as PastLimit, NoMemory as NoMemoryToRun}
use Rattle.mlx5_cli.specs.declared.reading.ReadError.{ReadError}
use Rattle.mlx5_cli.specs.declared.reading.ReadError.TheVariants.{Failed, TooLong, NoMemory as NoMemoryToRead}
use Rattle.mlx5_cli.specs.declared.reading.TheConstants.{TEXT_LIMIT}
use Rattle.mlx5_cli.specs.declared.status.Status.{Status}
use Rattle.mlx5_cli.specs.declared.status.Status.TheVariants.{Done, Illegal, Usage, Malformed, Limit, ReadFault, WriteFault, SpawnFault, NoMemory}

-- the exit status of the process
abbrev pub number_of : Status → ℕ
number_of Done = 0
number_of Illegal = 1
number_of Usage = 2
number_of (Malformed line rule) = 3
number_of (Limit name value) = 4
number_of ReadFault = 5
number_of WriteFault = 6
number_of SpawnFault = 7
number_of NoMemory = 8

-- the line for standard error
abbrev pub line_of : Status → List ℕ
line_of Done = []
line_of Illegal = []
line_of Usage = codes "mlx5: usage\n"
line_of (Malformed line rule) = codes "mlx5: line " ++ decimal line ++ codes ": " ++ rule_text rule ++ codes "\n"
line_of (Limit name value) = codes "mlx5: limit " ++ limit_text name ++ codes " " ++ decimal value ++ codes "\n"
line_of ReadFault = codes "mlx5: read fault\n"
line_of WriteFault = codes "mlx5: write fault\n"
line_of SpawnFault = codes "mlx5: start fault\n"
line_of NoMemory = codes "mlx5: no memory\n"

-- what ends a command whose text was not read; a text that is too long is told by one byte too many
abbrev pub status_of_unread : ReadError → Status
status_of_unread Failed = ReadFault
status_of_unread TooLong = Limit Text (TEXT_LIMIT + 1)
status_of_unread NoMemoryToRead = NoMemory

-- what ends a command whose text is refused
abbrev pub status_of_fault : ScenarioFault → Status
status_of_fault (MalformedText line rule) = Malformed line rule
status_of_fault (PastLimit name value) = Limit name value
status_of_fault NoMemoryToRun = NoMemory
