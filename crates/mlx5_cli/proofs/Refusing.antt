-- Why a command stops, from why its text was not read or is refused.
use Rattle.std.proofs.Common.{◌≡◌, ℕ, ◌+◌, Bool, true, false, cond, nat_lt, List, length, Err, arith, refl, inl, inr}
use Rattle.std.proofs.lemmas.Bool.Decides.{nat_tests}
use Rattle.scenario_text.specs.Text.{split}
use Rattle.scenario_text.specs.Whole.{Answer, HasFault, nothing_said, reading_from}
use Rattle.scenario_text.specs.declared.fault.LimitName.TheVariants.{Text}
use Rattle.scenario_text.specs.declared.fault.ScenarioFault.{ScenarioFault}
use Rattle.scenario_text.specs.declared.fault.ScenarioFault.TheVariants.{Malformed, Limit, NoMemory}
use Rattle.byte_streams.specs.Source.{SourceState}
use Rattle.mlx5_cli.specs.declared.reading.ReadError.{ReadError}
use Rattle.mlx5_cli.specs.declared.reading.ReadError.TheVariants.{Failed, TooLong, NoMemory as NoMemoryToRead}
use Rattle.mlx5_cli.specs.declared.reading.TheConstants.{TEXT_LIMIT}
use Rattle.mlx5_cli.specs.Making.{StopsRun}
use Rattle.mlx5_cli.specs.Reading.{ReadsWhole, StopsReading}
use Rattle.mlx5_cli.specs.Status.{status_of_fault, status_of_unread}

-- a text that is too long passes the limit of its bytes
by_length : (long : Bool) (text : List ℕ) (rest : Answer) → nat_lt 4194304 (length text) ≡ long → length text ≡ TEXT_LIMIT + 1 → (cond long (Err (Limit Text 4194305)) rest) ≡ Err (Limit Text (TEXT_LIMIT + 1))
by_length true text rest e over = refl
by_length false text rest e over = absurd (grind (arith, nat_tests))

too_long : (text : List ℕ) → length text ≡ TEXT_LIMIT + 1 → HasFault text (Limit Text (TEXT_LIMIT + 1))
too_long text over = by_length (nat_lt 4194304 (length text)) text (reading_from nothing_said (split 10 text)) refl over

-- a text that was not read stops `run`
pub stops_unread : (old new : SourceState) (error : ReadError) → StopsReading old new error → StopsRun old new (status_of_unread error)
stops_unread old new Failed stops = stops
stops_unread old new TooLong stops = record {
  text = stops.0;
  reads = inr stops.1;
  refused = too_long stops.0 stops.1.over;
}
stops_unread old new NoMemoryToRead stops = tt

-- a text that is refused stops `run`
pub stops_refused : (old new : SourceState) (text : List ℕ) (fault : ScenarioFault) → ReadsWhole old new text → HasFault text fault → StopsRun old new (status_of_fault fault)
stops_refused old new text (Malformed line rule) reads refused = record { text = text; reads = inl reads; refused = refused }
stops_refused old new text (Limit name value) reads refused = record { text = text; reads = inl reads; refused = refused }
stops_refused old new text NoMemory reads refused = tt
