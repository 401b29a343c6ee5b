-- A text has one fault, and one of the grammar has none.
use Rattle.std.proofs.Common.{ℕ, ◌≡◌, ◌≢◌, List, Ok, Err, sym, ◌∙◌, refl}
use Rattle.scenario_text.specs.Whole.{HasFault, reading}
use Rattle.scenario_text.specs.declared.fault.ScenarioFault.{ScenarioFault}
use Rattle.scenario_text.specs.declared.fault.ScenarioFault.TheVariants.{Malformed, Limit, NoMemory}
use Rattle.mlx5_cli.specs.Grammar.{OfGrammar}

-- a fault other than want of memory is what the text says
read_as : (text : List ℕ) (fault : ScenarioFault) → HasFault text fault → fault ≢ NoMemory → reading text ≡ Err fault
read_as text (Malformed line rule) is memory = is
read_as text (Limit name value) is memory = is
read_as text NoMemory is memory = absurd (memory refl)

pub good_not_faulty : (P : Type 0) (text : List ℕ) (fault : ScenarioFault) → OfGrammar text → HasFault text fault → fault ≢ NoMemory → P
good_not_faulty P text fault (s, says) is memory = let faulty = sym says ∙ read_as text fault is memory in absurd (cc)

pub one_fault : (text : List ℕ) (fault other : ScenarioFault) → HasFault text fault → HasFault text other → fault ≢ NoMemory → other ≢ NoMemory → fault ≡ other
one_fault text fault other is is_other memory memory_other = let same = sym (read_as text fault is memory) ∙ read_as text other is_other memory_other in cc
