-- The arms of a queue as an object of three sides, and the traces that the law speaks of.
use Rattle.std.specs.Prelude.{ℕ, ◌≡◌, List, filter, Option, Some, None, false}
use Rattle.std.specs.List.{AllByRecursion}
use Rattle.bus_core.specs.Follow.{Follows}
use Rattle.bus_core.specs.Mark.{Marked, entries}
use Rattle.bus_core.specs.Trace.{Memory, IsConsistent}
use Rattle.bus_core.specs.Weave.{spelled}
use Rattle.cq_arms.specs.declared.place.ArmPlace.{ArmPlace}
use Rattle.cq_arms.specs.Place.{IsPlace}
use Rattle.cq_arms.specs.Words.{no_arm}
use Rattle.cq_arms.specs.Arms.{ArmEvent, Acked, fresh_arms, Asks}
use Rattle.cq_arms.specs.Mark.{ArmMark, Acknowledge, ArmParty, ByArmer, ByReader, ByAdapter, Beside, party_of, is_party}
use Rattle.cq_arms.specs.Armer.{Armer, Ready, MayArm, after_arm, arm_says}
use Rattle.cq_arms.specs.Reader.{Reader, MayRaise, after_raise, raise_says}
use Rattle.cq_arms.specs.Device.{Device, IsHarmless, served}
use Rattle.cq_arms.specs.Scanner.{Scanner, MayScan, after_scan}

-- the operations of one party, in order
abbrev pub of_party : ArmParty → List (Marked ArmMark) → List (Marked ArmMark)
of_party p trace = filter (λ x. is_party (party_of x.mark) p) trace

-- the three sides
pub record ArmSides : Type 0 where
  pub armer : Armer
  pub reader : Reader
  pub scanner : Scanner

-- what an acknowledgement says; whoever else is no side says nothing
abbrev pub beside_says : ArmMark → Option ArmEvent
beside_says (Acknowledge ci) = Some (Acked ci)
beside_says _ = None

abbrev pub after_by : ArmParty → ArmSides → Marked ArmMark → ArmSides
after_by ByArmer s x = record s { armer = after_arm s.armer x.mark x.entry }
after_by ByReader s x = record s { reader = after_raise s.reader x.mark }
after_by ByAdapter s x = record s { scanner = after_scan s.scanner x.mark x.entry }
after_by Beside s x = s

abbrev pub says_by : ArmParty → ArmSides → Marked ArmMark → Option ArmEvent
says_by ByArmer s x = arm_says s.armer x.mark
says_by ByReader s x = raise_says s.reader x.mark
says_by ByAdapter s x = served s.scanner.device x.mark x.entry
says_by Beside s x = beside_says x.mark

-- the sides after an operation of any party, and what it says
abbrev pub after_any : ArmSides → Marked ArmMark → ArmSides
after_any s x = after_by (party_of x.mark) s x

abbrev pub any_says : ArmSides → Marked ArmMark → Option ArmEvent
any_says s x = says_by (party_of x.mark) s x

-- the sides before their first operation; the queue's first completion has this index
abbrev pub fresh_armer : Armer
fresh_armer = record { last = None; stage = Ready }

abbrev pub fresh_reader : Reader
fresh_reader = record { taken = 0 }

abbrev pub fresh_device : ℕ → Device
fresh_device index = record { index = index; solicited = 0; register = no_arm; armed = None; answered = 3; due = false }

abbrev pub fresh_scanner : ℕ → Scanner
fresh_scanner index = record { device = fresh_device index; unlooked = 0 }

abbrev pub fresh_sides : ℕ → ArmSides
fresh_sides index = record { armer = fresh_armer; reader = fresh_reader; scanner = fresh_scanner index }

-- the words before the first arm: nothing is armed, and no event was taken
pub record IsStart (place : ArmPlace) (start : Memory) : Type 0 where
  pub register : start place.arm_reg ≡ no_arm
  pub sn : start place.sn ≡ 0

-- what the marked operations of a trace say, in order
abbrev pub history : ℕ → List (Marked ArmMark) → List ArmEvent
history index trace = spelled after_any any_says (fresh_sides index) trace

-- A consistent trace whose three sides keep their rules, each over its own operations, while nobody else writes the words of arms, and in which the queues beside ensure what is asked of them.
pub record IsRun (place : ArmPlace) (index : ℕ) (start : Memory) (trace : List (Marked ArmMark)) : Type 0 where
  pub place_ok : IsPlace place
  pub start_ok : IsStart place start
  pub consistent : IsConsistent start (entries trace)
  pub armer : Follows (λ (a : Armer) (x : Marked ArmMark). MayArm place a x.mark x.entry) (λ (a : Armer) (x : Marked ArmMark). after_arm a x.mark x.entry) fresh_armer (of_party ByArmer trace)
  pub reader : Follows (λ (r : Reader) (x : Marked ArmMark). MayRaise place r x.mark x.entry) (λ (r : Reader) (x : Marked ArmMark). after_raise r x.mark) fresh_reader (of_party ByReader trace)
  pub adapter : Follows (λ (s : Scanner) (x : Marked ArmMark). MayScan place s x.mark x.entry) (λ (s : Scanner) (x : Marked ArmMark). after_scan s x.mark x.entry) (fresh_scanner index) (of_party ByAdapter trace)
  pub others : AllByRecursion (λ (x : Marked ArmMark). IsHarmless place x.entry) (of_party Beside trace)
  pub asks : Asks (fresh_arms index) (history index trace)
