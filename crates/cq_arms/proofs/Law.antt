-- The law of arms.
use Rattle.std.proofs.Common.{ℕ, List, Option, Some, None}
use Rattle.bus_core.specs.declared.operation.BusEntry.{BusEntry}
use Rattle.bus_core.specs.Mark.{Marked}
use Rattle.bus_core.specs.Trace.{Memory, Tells, after_entry}
use Rattle.bus_core.proofs.Weaving as weaving
use Rattle.cq_arms.specs.declared.place.ArmPlace.{ArmPlace}
use Rattle.cq_arms.specs.Place.{IsPlace}
use Rattle.cq_arms.specs.Arms.{Arms, ArmEvent, MayHappen, MayAsk, after_event, fresh_arms, IsLegal}
use Rattle.cq_arms.specs.Mark.{ArmMark, Acknowledge, ArmParty, ByArmer, ByReader, ByAdapter, Beside, party_of}
use Rattle.cq_arms.specs.Device.{IsHarmless}
use Rattle.cq_arms.specs.Law.{ArmSides, beside_says, after_by, says_by, after_any, any_says, fresh_sides, IsRun, history}
use Rattle.bus_core.proofs.Asking.{MayAskFor, ends_by_asking}
use Rattle.cq_arms.proofs.Parties.{may_by, MayAny, keeps_all}
use Rattle.cq_arms.proofs.Tied.{Tied, Goes, AsksFor, start_tied}
use Rattle.cq_arms.proofs.HostStep.{armer_step, reader_step}
use Rattle.cq_arms.proofs.DeviceStep.{device_step, acked_step, beside_kept}

module _ (place : ArmPlace) where
  abbrev Holds : Memory → ArmSides → Arms → Type 0
  Holds m s a = Tied place m s.armer s.reader s.scanner a

  abbrev Advances : Memory → ArmSides → Arms → Option ArmEvent → Type 0
  Advances m s a said = weaving.Goes MayHappen after_event Holds m s a said

  advances : (m : Memory) (s : ArmSides) (a : Arms) (said : Option ArmEvent) → Goes place m s.armer s.reader s.scanner a said → Advances m s a said
  advances m s a None g = g
  advances m s a (Some event) g = g

  asked : (a : Arms) (said : Option ArmEvent) → MayAskFor MayHappen MayAsk after_event Holds a said → AsksFor a said
  asked a None ask = ask
  asked a (Some event) ask = ask

  beside_step : (m : Memory) (s : ArmSides) (a : Arms) (mark : ArmMark) (e : BusEntry) → Holds m s a → IsHarmless place e → AsksFor a (beside_says mark) → Goes place (after_entry m e) s.armer s.reader s.scanner a (beside_says mark)
  beside_step m s a (Acknowledge ci) e t harmless ask = acked_step place m s.armer s.reader s.scanner a ci e t harmless ask
  beside_step m s a _ e t harmless ask = beside_kept place m s.armer s.reader s.scanner a e harmless t

  step_by : (p : ArmParty) (m : Memory) (s : ArmSides) (a : Arms) (x : Marked ArmMark) → IsPlace place → Holds m s a → Tells m x.entry → may_by place p s x → AsksFor a (says_by p s x) →
      Goes place (after_entry m x.entry) (after_by p s x).armer (after_by p s x).reader (after_by p s x).scanner a (says_by p s x)
  step_by ByArmer m s a x ok t tells may ask = armer_step place m s.armer s.reader s.scanner a x.mark x.entry ok t tells may ask
  step_by ByReader m s a x ok t tells may ask = reader_step place m s.armer s.reader s.scanner a x.mark x.entry ok t may ask
  step_by ByAdapter m s a x ok t tells may ask = device_step place m s.armer s.reader s.scanner a x.mark x.entry ok t tells may ask
  step_by Beside m s a x ok t tells may ask = beside_step m s a x.mark x.entry t may ask

  step : (m : Memory) (s : ArmSides) (a : Arms) (x : Marked ArmMark) → IsPlace place → Holds m s a → Tells m x.entry → MayAny place s x → MayAskFor MayHappen MayAsk after_event Holds a (any_says s x) → Advances (after_entry m x.entry) (after_any s x) a (any_says s x)
  step m s a x ok t tells may ask = advances (after_entry m x.entry) (after_any s x) a (any_says s x) (step_by (party_of x.mark) m s a x ok t tells may (asked a (any_says s x) ask))

pub run_is_legal : (place : ArmPlace) (index : ℕ) (start : Memory) (trace : List (Marked ArmMark)) → IsRun place index start trace → IsLegal (fresh_arms index) (history index trace)
run_is_legal place index start trace r =
    (ends_by_asking MayHappen MayAsk after_event (Holds place) (λ (x : Marked ArmMark). x.entry) (MayAny place) after_any any_says (λ m s a x t tells may ask. step place m s a x r.place_ok t tells may ask)
    trace start (fresh_sides index) (fresh_arms index) (start_tied place index start r.start_ok) r.consistent (keeps_all place index start trace r) r.asks).0
