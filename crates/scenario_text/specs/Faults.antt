-- The words of the rules that a line may break, and of the limits that a text may pass.
use Rattle.std.specs.Prelude.{ℕ, List, codes}
use Rattle.scenario_text.specs.declared.fault.TextRule.{TextRule}
use Rattle.scenario_text.specs.declared.fault.TextRule.TheVariants.{Byte, Form, Number, Double, Name, Side, Missing, NotBuilt}
use Rattle.scenario_text.specs.declared.fault.LimitName.{LimitName}
use Rattle.scenario_text.specs.declared.fault.LimitName.TheVariants as limits

abbrev pub rule_text : TextRule → List ℕ
rule_text Byte = codes "byte"
rule_text Form = codes "form"
rule_text Number = codes "number"
rule_text Double = codes "double"
rule_text Name = codes "name"
rule_text Side = codes "side"
rule_text Missing = codes "missing"
rule_text NotBuilt = codes "not built"

abbrev pub limit_text : LimitName → List ℕ
limit_text limits.Text = codes "text"
limit_text limits.Threads = codes "threads"
limit_text limits.Calls = codes "calls"
limit_text limits.List = codes "list"
limit_text limits.Objects = codes "objects"
limit_text limits.Arena = codes "arena"
limit_text limits.Log = codes "log"
limit_text limits.Sges = codes "sges"
limit_text limits.Start = codes "start"
limit_text limits.Length = codes "length"
limit_text limits.Immediate = codes "immediate"
limit_text limits.Poll = codes "poll"
limit_text limits.Drain = codes "drain"
limit_text limits.Bytes = codes "bytes"
limit_text limits.Events = codes "events"
limit_text limits.Turns = codes "turns"
limit_text limits.Words = codes "words"
limit_text limits.Notes = codes "notes"
limit_text limits.Closing = codes "closing"
