-- The table of statuses.
use Rattle.std.specs.Prelude.{ℕ, List, [], codes}
use Rattle.mlx5_dump.specs.declared.status.Status.{Status}
use Rattle.mlx5_dump.specs.declared.status.Status.TheVariants.{Done, Usage, Limit, ReadFault, WriteFault, NoMemory}

-- the exit status of the process
abbrev pub number_of : Status → ℕ
number_of Done = 0
number_of Usage = 2
number_of Limit = 4
number_of ReadFault = 5
number_of WriteFault = 6
number_of NoMemory = 8

-- the line for standard error
abbrev pub line_of : Status → List ℕ
line_of Done = []
line_of Usage = codes "mlx5_dump: usage\n"
line_of Limit = codes "mlx5_dump: limit\n"
line_of ReadFault = codes "mlx5_dump: read fault\n"
line_of WriteFault = codes "mlx5_dump: write fault\n"
line_of NoMemory = codes "mlx5_dump: no memory\n"
