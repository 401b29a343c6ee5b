-- What a line that breaks no rule gives to those who add it.
use Rattle.std.specs.Prelude.{◌≡◌, IsTrue, None, ⊤}
use Rattle.verbs_types.specs.Names.{is_name}
use Rattle.scenario_text.specs.Text.{Line, name_in}
use Rattle.scenario_text.specs.Naming.{meaning_of}
use Rattle.scenario_text.specs.Sofar.{Said}
use Rattle.scenario_text.specs.declared.keyword.Keyword.{Keyword}
use Rattle.scenario_text.specs.declared.keyword.Keyword.TheVariants.{Eq, Pd, Cq, Qp, Thread}

-- a name that was not given before
abbrev pub IsNewName : Said → Line → Type 0
IsNewName s line = IsTrue (is_name (name_in line)) × (meaning_of s.names (name_in line) ≡ None)

-- the line names what it declares
abbrev pub IsNamed : Said → Keyword → Line → Type 0
IsNamed s Eq line = IsNewName s line
IsNamed s Pd line = IsNewName s line
IsNamed s Cq line = IsNewName s line
IsNamed s Qp line = IsNewName s line
IsNamed s Thread line = IsNewName s line
IsNamed s _ line = ⊤
