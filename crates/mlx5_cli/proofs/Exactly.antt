-- What the statuses say, read from what was given.
use Rattle.std.proofs.Common.{ℕ, ◌≡◌, ◌≢◌, ◌+◌, ◌⊎◌, inl, inr, List, ◌++◌, length, Option, None, Some, IfSome, IsSome, length-append, subst, sym, ap, ◌∙◌, append-nil, arith, refl}
use Rattle.std.proofs.lemmas.List.{append_cancel_right}
use Rattle.std.specs.Io.KnownBytes.{Consumes, IsAtEnd}
use Rattle.byte_streams.specs.Source.{SourceState}
use Rattle.scenario_text.specs.declared.fault.ScenarioFault.{ScenarioFault}
use Rattle.scenario_text.specs.declared.fault.ScenarioFault.TheVariants.{Malformed as MalformedText, Limit as PastLimit, NoMemory as OutOfMemory}
use Rattle.mlx5_cli.specs.declared.command.Command.{Command}
use Rattle.mlx5_cli.specs.declared.command.Command.TheVariants.{Run, Layout}
use Rattle.mlx5_cli.specs.declared.reading.TheConstants.{TEXT_LIMIT}
use Rattle.mlx5_cli.specs.declared.status.Status.{Status}
use Rattle.mlx5_cli.specs.declared.status.Status.TheVariants.{Done, Illegal, Usage, Malformed, Limit, ReadFault, WriteFault, SpawnFault, NoMemory}
use Rattle.mlx5_cli.specs.Command.{words_of}
use Rattle.scenario_text.specs.Whole.{HasFault}
use Rattle.mlx5_cli.specs.Grammar.{OfGrammar}
use Rattle.mlx5_cli.specs.Making.{Makes, Stops, StopsRun, ReadsFaulty, GivesInput, GivesScenario}
use Rattle.mlx5_cli.specs.Reading.{ReadsText}
use Rattle.mlx5_cli.specs.Run.{Call, Says, SaysStopped, RunReads, UsageExactly, DoneUnless, Answers}
use Rattle.mlx5_cli.specs.Status.{status_of_fault}
use Rattle.mlx5_cli.proofs.FaultLemmas.{good_not_faulty, one_fault}
use Rattle.mlx5_cli.proofs.GrammarLemmas.{length-of_grammar, of_grammar}

-- what a source gave is one text
given_once : (left after : Option (List ℕ)) (text bytes : List ℕ) → IsSome left → Consumes left after text → Consumes left after bytes → text ≡ bytes
given_once None after text bytes told gives gives_too = cc
given_once (Some input) None text bytes told gives gives_too = absurd gives
given_once (Some input) (Some rest) text bytes told gives gives_too = append_cancel_right text bytes rest (sym gives ∙ gives_too)

-- a text of the grammar is not longer than a text may be, so what was read is of the grammar too
good_read : (left after : Option (List ℕ)) (text : List ℕ) → Consumes left after text → (IsAtEnd after ⊎ (length text ≡ TEXT_LIMIT + 1))
    → IfSome left (λ input. OfGrammar input → OfGrammar text)
good_read None after text gives ends = tt
good_read (Some input) None text gives ends = absurd gives
good_read (Some input) (Some rest) text gives (inl ends) = λ good. subst OfGrammar (gives ∙ ap (λ l. text ++ l) ends ∙ append-nil text) good
good_read (Some input) (Some rest) text gives (inr over) =
    λ good. absurd (let within = length-of_grammar input good in let parts = ap length gives in omega (arith, length-append text rest))

gives_read : (old new : SourceState) (text : List ℕ) → ReadsText old new text → Consumes old.left new.left text
gives_read old new text (inl whole) = whole.gives
gives_read old new text (inr over) = over.gives

ends_read : (old new : SourceState) (text : List ℕ) → ReadsText old new text → IsAtEnd new.left ⊎ (length text ≡ TEXT_LIMIT + 1)
ends_read old new text (inl whole) = inl whole.ends
ends_read old new text (inr over) = inr over.over

-- a good text was told, so what was read of it is good
good_text : (old new : SourceState) (text : List ℕ) → ReadsText old new text → GivesScenario old new → OfGrammar text
good_text old new text reads gives =
    subst (λ left. IfSome left (λ input. OfGrammar input → OfGrammar text)) gives.told
    (good_read old.left new.left text (gives_read old new text reads) (ends_read old new text reads)) gives.good

-- the fault of what was read is that of any text that was read
fault_of_read : (old new : SourceState) (text : List ℕ) (fault : ScenarioFault) → IsSome old.left → ReadsText old new text → ReadsFaulty old new fault → HasFault text fault
fault_of_read old new text fault told reads faulty =
    subst (λ bytes. HasFault bytes fault) (given_once _ _ faulty.text text told (gives_read old new faulty.text faulty.reads) (gives_read old new text reads)) faulty.refused

-- a command that made its output read nothing that is refused
made_good : (P : Type 0) (old new : SourceState) (words : List (List ℕ)) (output : List ℕ) (command : Command) (fault : ScenarioFault) → words ≡ words_of command → Makes command old new output
    → words ≡ words_of Run → IsSome old.left → ReadsFaulty old new fault → fault ≢ OutOfMemory → P
made_good P old new words output Run fault asked makes run told faulty memory =
    good_not_faulty P makes.text fault (of_grammar makes.runs) (fault_of_read old new makes.text fault told (inl makes.reads) faulty) memory
made_good P old new words output (Layout name) fault asked makes run told faulty memory = cc

-- what was read has one fault
same_fault : (old new : SourceState) (fault other : ScenarioFault) → IsSome old.left → ReadsFaulty old new other → ReadsFaulty old new fault → other ≢ OutOfMemory → fault ≢ OutOfMemory
    → status_of_fault other ≡ status_of_fault fault
same_fault old new fault other told stops faulty memory memory' =
    ap status_of_fault (one_fault stops.text other fault stops.refused (fault_of_read old new stops.text fault told stops.reads faulty) memory memory')

-- where what was read is refused, `run` stopped with that
stopped_so : (old new : SourceState) (status : Status) (fault : ScenarioFault) → StopsRun old new status → status ≢ ReadFault → status ≢ NoMemory → IsSome old.left
    → ReadsFaulty old new fault → fault ≢ OutOfMemory → status ≡ status_of_fault fault
stopped_so old new (Malformed line rule) fault stops not_failed memory told faulty able = same_fault old new fault (MalformedText line rule) told stops faulty (λ e. cc) able
stopped_so old new (Limit name value) fault stops not_failed memory told faulty able = same_fault old new fault (PastLimit name value) told stops faulty (λ e. cc) able
stopped_so old new ReadFault fault stops not_failed memory told faulty able = absurd (not_failed refl)
stopped_so old new NoMemory fault stops not_failed memory told faulty able = absurd (memory refl)
stopped_so old new Done fault stops not_failed memory told faulty able = absurd stops
stopped_so old new Illegal fault stops not_failed memory told faulty able = absurd stops
stopped_so old new Usage fault stops not_failed memory told faulty able = absurd stops
stopped_so old new WriteFault fault stops not_failed memory told faulty able = absurd stops
stopped_so old new SpawnFault fault stops not_failed memory told faulty able = absurd stops

-- what a scenario's source gave is no reason for `run` to stop
run_goes_on : (P : Type 0) (old new : SourceState) (status : Status) → StopsRun old new status → GivesScenario old new → status ≢ NoMemory → P
run_goes_on P old new (Malformed line rule) stops gives memory = good_not_faulty P stops.text (MalformedText line rule) (good_text old new stops.text stops.reads gives) stops.refused (λ e. cc)
run_goes_on P old new (Limit name value) stops gives memory = good_not_faulty P stops.text (PastLimit name value) (good_text old new stops.text stops.reads gives) stops.refused (λ e. cc)
run_goes_on P old new ReadFault stops gives memory = absurd (gives.no_fault stops)
run_goes_on P old new NoMemory stops gives memory = absurd (memory refl)
run_goes_on P old new Done stops gives memory = absurd stops
run_goes_on P old new Illegal stops gives memory = absurd stops
run_goes_on P old new Usage stops gives memory = absurd stops
run_goes_on P old new WriteFault stops gives memory = absurd stops
run_goes_on P old new SpawnFault stops gives memory = absurd stops

-- a command whose source gave what it wants does not stop
goes_on : (P : Type 0) (old new : SourceState) (words : List (List ℕ)) (command asked_for : Command) (status : Status) → words ≡ words_of command → words ≡ words_of asked_for
    → Stops command old new status → GivesInput asked_for old new → status ≢ NoMemory → P
goes_on P old new words Run Run status asked asks stops gives memory = run_goes_on P old new status stops gives memory
goes_on P old new words Run (Layout name) status asked asks stops gives memory = cc
goes_on P old new words (Layout name) asked_for status asked asks stops gives memory = absurd (memory stops.0)

stopped_usage : (c : Call) (status other : Status) → SaysStopped c other → status ≢ Usage → UsageExactly c status
stopped_usage c status other says differs = (λ e. absurd (differs e), λ nothing. absurd (nothing says.command says.asked))

usage_exactly : (c : Call) (status : Status) → Says c status → UsageExactly c status
usage_exactly c Usage says = (λ _. says.not_asked, λ _. refl)
usage_exactly c Done says = (λ e. cc, λ nothing. absurd (nothing says.command says.asked))
usage_exactly c WriteFault says = (λ e. cc, λ nothing. absurd (nothing says.command says.asked))
usage_exactly c (Malformed line rule) says = stopped_usage c _ _ says (λ e. cc)
usage_exactly c (Limit name value) says = stopped_usage c _ _ says (λ e. cc)
usage_exactly c ReadFault says = stopped_usage c _ _ says (λ e. cc)
usage_exactly c NoMemory says = stopped_usage c _ _ says (λ e. cc)
usage_exactly c Illegal says = stopped_usage c _ _ says (λ e. cc)
usage_exactly c SpawnFault says = stopped_usage c _ _ says (λ e. cc)

-- where what was read is refused, the status says so
abbrev RefusedExactly : Call → Status → Type 0
RefusedExactly c status = RunReads c status → (fault : ScenarioFault) → ReadsFaulty c.source c.source_after fault → fault ≢ OutOfMemory → status ≡ status_of_fault fault

stopped_run : (c : Call) (command : Command) (status : Status) → c.words ≡ words_of command → Stops command c.source c.source_after status → RefusedExactly c status
stopped_run c Run status asked stops = λ r fault faulty able. stopped_so c.source c.source_after status fault stops r.not_failed r.memory r.tells faulty able
stopped_run c (Layout name) status asked stops = λ r _ _ _. let run = r.asked in cc

stopped_exactly : (c : Call) (status : Status) → SaysStopped c status → RefusedExactly c status
stopped_exactly c status says = stopped_run c says.command status says.asked says.stops

refused_exactly : (c : Call) (status : Status) → Says c status → RefusedExactly c status
refused_exactly c Done says = λ r fault faulty able. made_good _ _ _ _ _ says.command fault says.asked says.makes r.asked r.tells faulty able
refused_exactly c WriteFault says = λ r fault faulty able. made_good _ _ _ _ _ says.command fault says.asked says.makes r.asked r.tells faulty able
refused_exactly c Usage says = λ r _ _ _. absurd (says.not_asked Run r.asked)
refused_exactly c (Malformed line rule) says = stopped_exactly c _ says
refused_exactly c (Limit name value) says = stopped_exactly c _ says
refused_exactly c ReadFault says = stopped_exactly c _ says
refused_exactly c NoMemory says = stopped_exactly c _ says
refused_exactly c Illegal says = stopped_exactly c _ says
refused_exactly c SpawnFault says = stopped_exactly c _ says

stopped_unless : (c : Call) (status : Status) → SaysStopped c status → DoneUnless c status
stopped_unless c status says = λ command asked gives _ memory. goes_on _ c.source c.source_after c.words says.command command status says.asked asked says.stops gives memory

done_unless : (c : Call) (status : Status) → Says c status → DoneUnless c status
done_unless c Done says = λ _ _ _ _ _. refl
done_unless c Usage says = λ command asked _ _ _. absurd (says.not_asked command asked)
done_unless c WriteFault says = λ _ _ _ whole _. absurd (whole says.rose)
done_unless c (Malformed line rule) says = stopped_unless c _ says
done_unless c (Limit name value) says = stopped_unless c _ says
done_unless c ReadFault says = stopped_unless c _ says
done_unless c NoMemory says = stopped_unless c _ says
done_unless c Illegal says = stopped_unless c _ says
done_unless c SpawnFault says = stopped_unless c _ says

pub answers : (c : Call) (status : Status) → Says c status → Answers c status
answers c status says = record {
  says = says;
  usage = usage_exactly c status says;
  malformed = λ reads line rule faulty. refused_exactly c status says reads (MalformedText line rule) faulty (λ e. cc);
  limit = λ reads name value faulty. refused_exactly c status says reads (PastLimit name value) faulty (λ e. cc);
  done = done_unless c status says;
}
