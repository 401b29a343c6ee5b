-- What a turn of the adapter asks of its port, and what it does.
use Rattle.std.specs.Prelude.{ℕ, ◌≡◌, ◌≤◌, ◌==◌, Bool, true, Option}
use Rattle.bus_core.specs.declared.operation.BusEntry.{BusEntry}
use Rattle.bus_core.specs.declared.turn.Note.{Note}
use Rattle.bus_core.specs.Port.{Port, HasRoom}
use Rattle.verbs_types.specs.declared.declaration.Lines.{Lines}
use Rattle.actor_map.specs.Sizes.{words_of}
use Rattle.object_places.specs.declared.ended.TheConstants.{ENDED_WORD}
use Rattle.object_places.specs.Objects.{Mark, OnCompletions, OnSends, OnReceives, Ends, Completions, Sends, Receives, touches}
use Rattle.device_engine.specs.declared.outcome.Outcome.{Outcome}
use Rattle.device_engine.specs.Event.{IsAdapterNote}
use Rattle.device_engine.specs.Goes.{goes}
use Rattle.device_engine.specs.Rule.{adapter_mark, MayAdapt, after_adapt, adapter_says, adapter_sees}
use Rattle.device_engine.specs.Scan.{IsScan, CanGo, task_before}
use Rattle.device_engine.specs.View.{ScanView, rule_of}

-- a port through which the adapter can make its next operation
pub record CanScan {Bus : Type 0} (d : Lines) (port : Port Bus) : Type 0 where
  pub room : HasRoom port.room
  pub words : words_of d ≤ port.words

-- whether an address is one of what a mark is about
abbrev pub is_about : Lines → Mark → ℕ → Bool
is_about d (OnCompletions cq mark) address = touches d (Completions cq) address
is_about d (OnSends qp mark) address = touches d (Sends qp) address
is_about d (OnReceives qp mark) address = touches d (Receives qp) address
is_about d Ends address = address == ENDED_WORD

-- one operation, before the adapter goes on
pub record Operates (old new : ScanView) (e : BusEntry) (told : Outcome) : Type 0 where
  pub may : MayAdapt old.declared (rule_of old) e
  pub inside : is_about old.declared (adapter_mark old.declared (rule_of old)) e.addr ≡ true
  pub rule : goes old.declared told.comes (rule_of new) ≡ after_adapt old.declared (rule_of old) e
  pub note_is : IsAdapterNote (adapter_says old.declared (rule_of old) e) (adapter_sees (rule_of old) e) told.note
  pub scan : IsScan new (task_before told.comes new)
  pub can_go : CanGo new told.comes
  pub declared : new.declared ≡ old.declared

-- one operation, which keeps the adapter's rule, lies in the words of what it is about, and has the note that it says
pub record AdapterTurn (old new : ScanView) (e : BusEntry) (note : Option Note) : Type 0 where
  pub may : MayAdapt old.declared (rule_of old) e
  pub inside : is_about old.declared (adapter_mark old.declared (rule_of old)) e.addr ≡ true
  pub rule : rule_of new ≡ after_adapt old.declared (rule_of old) e
  pub note_is : IsAdapterNote (adapter_says old.declared (rule_of old) e) (adapter_sees (rule_of old) e) note
  pub declared : new.declared ≡ old.declared
