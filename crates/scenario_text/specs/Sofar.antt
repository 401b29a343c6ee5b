-- What the lines read so far say.
use Rattle.std.specs.Prelude.{ℕ, ◌≤◌, ◌<◌, List, length, Option}
use Rattle.verbs_types.specs.declared.call.Call.{Call}
use Rattle.verbs_types.specs.declared.declaration.Lines.{Lines}
use Rattle.verbs_types.specs.declared.request.Receive.{Receive}
use Rattle.verbs_types.specs.declared.request.Request.{Request}
use Rattle.scenario_text.specs.Naming.{Entry}
use Rattle.scenario_text.specs.declared.keyword.Section.{Section}
use Rattle.scenario_text.specs.declared.scenario.Plan.{Plan}
use Rattle.scenario_text.specs.declared.sofar.PairUse.{PairUse}
use Rattle.scenario_text.specs.declared.sofar.Passed.{Passed}
use Rattle.scenario_text.specs.declared.sofar.Place.{Place}
use Rattle.scenario_text.specs.declared.sofar.QueueUse.{QueueUse}
use Rattle.scenario_text.specs.declared.sofar.Sofar.{Sofar}

pub record Said : Type 0 where
  -- how many lines were read
  pub count : ℕ
  -- the first section of which a line may follow
  pub section : Section
  -- what each name stands for
  pub names : List Entry
  -- what is declared, with the threads' names
  pub lines : Lines
  -- how each queue pair and each completion queue is used
  pub pairs : List PairUse
  pub queues : List QueueUse
  -- the calls of each thread whose end was read
  pub programs : List (List Call)
  -- what the next line stands in: outside threads, in a thread with these calls, in a post with these requests, or in a post of these receives
  pub place : Place
  pub calls : List Call
  pub requests : List Request
  pub receives : List Receive
  pub plan : Plan
  -- the first limit that was passed
  pub passed : Option Passed

abbrev pub view_of : Sofar → Said
view_of s = record {
  count = s.count;
  section = s.section;
  names = s.names;
  lines = record { eqs = s.eqs.items; pds = s.pds.items; cqs = s.cqs.items; qps = s.qps.items; order = s.order.items; connects = s.connects.items; threads = s.threads.items };
  pairs = s.pairs.items;
  queues = s.queues.items;
  programs = s.programs.items;
  place = s.place;
  calls = s.calls.items;
  requests = s.requests.items;
  receives = s.receives.items;
  plan = s.plan;
  passed = s.passed;
}

-- a list is no longer than the text
pub record IsSmall (s : Said) : Type 0 where
  pub count : s.count ≤ 4194304
  pub eqs : length s.lines.eqs ≤ s.count
  pub pds : length s.lines.pds ≤ s.count
  pub cqs : length s.lines.cqs ≤ s.count
  pub qps : length s.lines.qps ≤ s.count
  pub threads : length s.lines.threads ≤ s.count

-- there is room for one more of each
pub record IsFew (s : Said) : Type 0 where
  pub eqs : length s.lines.eqs < 4194304
  pub pds : length s.lines.pds < 4194304
  pub cqs : length s.lines.cqs < 4194304
  pub qps : length s.lines.qps < 4194304
  pub threads : length s.lines.threads < 4194304
