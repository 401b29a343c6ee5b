-- What a call of `dump` was given, what it left, and what its status says of both.
use Rattle.std.specs.Prelude.{ℕ, ◌≡◌, ◌-◌, ◌^◌, ◌≤◌, List, ◌++◌, length, Option, IfSome, Result, Ok, Err}
use Rattle.std.specs.Io.KnownBytes.{Appends, Consumes, IsAtEnd}
use Rattle.byte_streams.specs.Count.{Rose}
use Rattle.byte_streams.specs.Source.{SourceState}
use Rattle.byte_streams.specs.Sink.{SinkState}
use Rattle.byte_streams.specs.Writing.{WritesPart}
use Rattle.mlx5_dump.specs.declared.status.Status.{Status}
use Rattle.mlx5_dump.specs.declared.status.Status.TheVariants.{Done, Usage, Limit, ReadFault, WriteFault, NoMemory}
use Rattle.mlx5_dump.specs.Lines.{HasLines, AreAnswers, and_last}

pub record Call : Type 0 where
  pub source : SourceState
  pub source_after : SourceState
  pub out : SinkState
  pub out_after : SinkState

abbrev pub call : SourceState → SourceState → SinkState → SinkState → Call
call source source_after out out_after = record {
  source = source;
  source_after = source_after;
  out = out;
  out_after = out_after;
}

-- a text with its lines, and the answers to them
pub record Reading : Type 0 where
  pub text : List ℕ
  pub lines : List (List ℕ)
  pub last : List ℕ
  pub answers : List ℕ

pub record IsReading (r : Reading) : Type 0 where
  pub in_lines : HasLines r.text r.lines r.last
  pub answered : AreAnswers (and_last r.lines r.last) r.answers

-- what was left began with this text
abbrev pub BeganWith : Option (List ℕ) → List ℕ → Type 0
BeganWith left text = IfSome left (λ input. (rest : List ℕ) × (input ≡ text ++ rest))

-- the whole text was read, and all its lines answered
pub record AnswersAll (c : Call) (r : Reading) : Type 0 where
  pub reading : IsReading r
  pub gives : Consumes c.source.left c.source_after.left r.text
  pub ends : IsAtEnd c.source_after.left
  pub writes : Appends c.out.written c.out_after.written r.answers

-- the lines of some front of the text were answered
pub record AnswersFront (c : Call) (r : Reading) : Type 0 where
  pub reading : IsReading r
  pub gave : BeganWith c.source.left r.text
  pub writes : Appends c.out.written c.out_after.written r.answers

-- a part of these answers was written
pub record AnswersPart (c : Call) (r : Reading) : Type 0 where
  pub reading : IsReading r
  pub gave : BeganWith c.source.left r.text
  pub writes : WritesPart c.out c.out_after r.answers

pub record SaysReadFault (c : Call) : Type 0 where
  pub rose : Rose c.source.faults c.source_after.faults
  pub front : (r : Reading) × AnswersFront c r

pub record SaysWriteFault (c : Call) : Type 0 where
  pub rose : Rose c.out.faults c.out_after.faults
  pub part : (r : Reading) × AnswersPart c r

-- more bytes were read than there is a number for
pub record SaysLimit (c : Call) : Type 0 where
  pub over : (text : List ℕ) × Consumes c.source.left c.source_after.left text × (2 ^ 64 - 1 ≤ length text)
  pub front : (r : Reading) × AnswersFront c r

-- what each status says; `Usage` does not come
abbrev pub Says : Call → Status → Type 0
Says c Done = (r : Reading) × AnswersAll c r
Says c Usage = ⊥
Says c Limit = SaysLimit c
Says c ReadFault = SaysReadFault c
Says c WriteFault = SaysWriteFault c
Says c NoMemory = (r : Reading) × AnswersFront c r

-- the status that a result stands for
abbrev pub status_of : {T : Type 0} → Result T Status → Status
status_of (Ok _) = Done
status_of (Err status) = status
