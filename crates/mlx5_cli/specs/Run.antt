-- What a call of `run_plain` was given, what it left, and what its status says of both.
use Rattle.std.specs.Prelude.{String, map, string_bytes, ℕ, ◌≡◌, ◌≢◌, ◌↔◌, List, Result, Ok, Err, IsSome}
use Rattle.std.specs.declared.alloc.Global.{Global}
use Rattle.std.specs.Io.KnownBytes.{Appends}
use Rattle.byte_streams.specs.Count.{Rose}
use Rattle.byte_streams.specs.Sink.{SinkState}
use Rattle.byte_streams.specs.Source.{SourceState}
use Rattle.byte_streams.specs.Writing.{WritesPart}
use Rattle.scenario_text.specs.declared.fault.LimitName.{LimitName}
use Rattle.scenario_text.specs.declared.fault.ScenarioFault.TheVariants.{Malformed as MalformedText, Limit as PastLimit}
use Rattle.scenario_text.specs.declared.fault.TextRule.{TextRule}
use Rattle.mlx5_cli.specs.declared.command.Command.{Command}
use Rattle.mlx5_cli.specs.declared.command.Command.TheVariants.{Run}
use Rattle.mlx5_cli.specs.declared.status.Status.{Status}
use Rattle.mlx5_cli.specs.declared.status.Status.TheVariants.{Done, Usage, Malformed, Limit, ReadFault, WriteFault, NoMemory}
use Rattle.mlx5_cli.specs.Command.{words_of, AskNothing}
use Rattle.mlx5_cli.specs.Making.{Makes, Stops, ReadsFaulty, GivesInput}

pub record Call : Type 0 where
  -- the bytes of each word
  pub words : List (List ℕ)
  pub source : SourceState
  pub source_after : SourceState
  pub out : SinkState
  pub out_after : SinkState

abbrev pub call : List (String Global) → SourceState → SourceState → SinkState → SinkState → Call
call words source source_after out out_after = record {
  words = map string_bytes words;
  source = source;
  source_after = source_after;
  out = out;
  out_after = out_after;
}

-- the whole output of the command was written
pub record SaysDone (c : Call) : Type 0 where
  pub command : Command
  pub output : List ℕ
  pub asked : c.words ≡ words_of command
  pub makes : Makes command c.source c.source_after output
  pub writes : Appends c.out.written c.out_after.written output

-- the words ask for nothing that is there, and nothing was touched
pub record SaysUsage (c : Call) : Type 0 where
  pub not_asked : AskNothing c.words
  pub source_stays : c.source_after ≡ c.source
  pub out_stays : c.out_after ≡ c.out

-- a part of the output of the command was written
pub record SaysWriteFault (c : Call) : Type 0 where
  pub command : Command
  pub output : List ℕ
  pub asked : c.words ≡ words_of command
  pub makes : Makes command c.source c.source_after output
  pub rose : Rose c.out.faults c.out_after.faults
  pub writes : WritesPart c.out c.out_after output

-- the command stopped before it wrote
pub record SaysStopped (c : Call) (status : Status) : Type 0 where
  pub command : Command
  pub asked : c.words ≡ words_of command
  pub stops : Stops command c.source c.source_after status
  pub out_stays : c.out_after ≡ c.out

-- what each status says
abbrev pub Says : Call → Status → Type 0
Says c Done = SaysDone c
Says c Usage = SaysUsage c
Says c WriteFault = SaysWriteFault c
Says c status = SaysStopped c status

-- the status that a result stands for
abbrev pub status_of : {T : Type 0} → Result T Status → Status
status_of (Ok _) = Done
status_of (Err status) = status

-- Usage exactly where the words ask for no command
abbrev pub UsageExactly : Call → Status → Type 0
UsageExactly c status = (status ≡ Usage) ↔ AskNothing c.words

-- `run` read from a telling source, no read failed and memory did not run out
pub record RunReads (c : Call) (status : Status) : Type 0 where
  pub asked : c.words ≡ words_of Run
  pub not_failed : status ≢ ReadFault
  pub memory : status ≢ NoMemory
  pub tells : IsSome c.source.left

-- Malformed, with a line and a rule, exactly where this is the fault of what was read
abbrev pub MalformedExactly : Call → Status → Type 0
MalformedExactly c status = RunReads c status → (line : ℕ) (rule : TextRule) → ReadsFaulty c.source c.source_after (MalformedText line rule) → status ≡ Malformed line rule

-- Limit, with a name and a value, exactly where what was read passes that limit with that value
abbrev pub LimitExactly : Call → Status → Type 0
LimitExactly c status = RunReads c status → (name : LimitName) (value : ℕ) → ReadsFaulty c.source c.source_after (PastLimit name value) → status ≡ Limit name value

-- a command whose source gave what it wants is done, unless a write failed or memory ran out
abbrev pub DoneUnless : Call → Status → Type 0
DoneUnless c status = (command : Command) → c.words ≡ words_of command → GivesInput command c.source c.source_after
    → (¬ Rose c.out.faults c.out_after.faults) → status ≢ NoMemory → status ≡ Done

-- what a call's status says, and when it comes
pub record Answers (c : Call) (status : Status) : Type 0 where
  pub says : Says c status
  pub usage : UsageExactly c status
  pub malformed : MalformedExactly c status
  pub limit : LimitExactly c status
  pub done : DoneUnless c status

-- no more than the line went to the error sink, and the whole of it unless a write failed
pub record Tells (old new : SinkState) (line : List ℕ) : Type 0 where
  pub part : WritesPart old new line
  pub whole : (¬ Rose old.faults new.faults) → Appends old.written new.written line
