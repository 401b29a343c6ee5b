-- Lines that declare objects and connect queue pairs.
use Rattle.std.proofs.Common.{◌≡◌, ℕ, List, [], length, All, Option, sym, ap, ◌∙◌, subst, arith}
use Rattle.std.proofs.lemmas.List.Elements.{All-nil}
use Rattle.verbs_types.specs.declared.call.Call.{Call}
use Rattle.verbs_types.specs.declared.declaration.Lines.{Lines}
use Rattle.scenario_text.specs.Calls.{IsProgram}
use Rattle.scenario_text.specs.Naming.{Entry}
use Rattle.scenario_text.specs.Running.{IsActorOf, items_of_plan}
use Rattle.scenario_text.specs.Sofar.{Said}
use Rattle.scenario_text.specs.declared.keyword.Section.{Section}
use Rattle.scenario_text.specs.declared.sofar.PairUse.{PairUse}
use Rattle.scenario_text.specs.declared.sofar.Passed.{Passed}
use Rattle.scenario_text.specs.declared.sofar.Place.TheVariants.{Outside}
use Rattle.scenario_text.specs.declared.sofar.QueueUse.{QueueUse}
use Rattle.scenario_text.proofs.Standing.{AreDeclared, AllThere, AreHeld, AreFilled, IsOpen, IsEarly, Stands, shown, shown_in}

-- the count of lines, the section and the limits are apart from all else
pub moved : (s : Said) (count : ℕ) (section : Section) (passed : Option Passed) → IsEarly section (shown s) → Stands s → Stands (record s { count = count; section = section; passed = passed })
moved s count section passed early h = record {
  declared = h.declared;
  named = h.named;
  pairs = h.pairs;
  queues = h.queues;
  finished = h.finished;
  opened = h.opened;
  paired = h.paired;
  held = h.held;
  filled = h.filled;
  planned = h.planned;
  early = early;
}

-- what a line before the threads says
pub record IsObjectLine (s : Said) (d : Lines) (names : List Entry) (pairs : List PairUse) (queues : List QueueUse) : Type 0 where
  pub outside : s.place ≡ Outside
  pub none : shown s ≡ []
  pub threads : d.threads ≡ s.lines.threads
  pub declared : AreDeclared d
  pub named : AllThere d names
  pub pairs_counted : length pairs ≡ length d.qps
  pub queues_counted : length queues ≡ length d.cqs
  pub filled : AreFilled d queues []

none_held : (pairs : List PairUse) (queues : List QueueUse) → AreHeld pairs queues []
none_held pairs queues k d below = absurd (omega (arith, below))

pub object_stands : (s : Said) (d : Lines) (names : List Entry) (pairs : List PairUse) (queues : List QueueUse) → IsObjectLine s d names pairs queues → Stands s
    → Stands (record s { lines = d; names = names; pairs = pairs; queues = queues })
object_stands s d names pairs queues o h = record {
  declared = o.declared;
  named = o.named;
  pairs = o.pairs_counted;
  queues = o.queues_counted;
  finished = subst (λ (ps : List (List Call)). All (IsProgram d) ps) (sym finished) (All-nil (IsProgram d));
  opened = subst (λ p. IsOpen d p s.calls s.requests s.receives) (sym o.outside) (subst (λ p. IsOpen s.lines p s.calls s.requests s.receives) o.outside h.opened);
  paired = h.paired ∙ sym (ap (λ (ts : List (List ℕ)). length ts) o.threads);
  held = subst (AreHeld pairs queues) (sym o.none) (none_held pairs queues);
  filled = subst (AreFilled d queues) (sym o.none) o.filled;
  planned = subst (λ (ts : List (List ℕ)). All (IsActorOf (length ts)) (items_of_plan s.plan)) (sym o.threads) h.planned;
  early = h.early;
}
  where
    finished : s.programs ≡ []
    finished = subst (λ p. shown_in p s.programs s.calls s.requests s.receives ≡ []) o.outside o.none

pub filled_early : (s : Said) → shown s ≡ [] → Stands s → AreFilled s.lines s.queues []
filled_early s none h = subst (AreFilled s.lines s.queues) none h.filled
