-- The own list of each slot's host keeps its rule, so the list of all hosts does.
use Rattle.std.proofs.Common.{◌≡◌, ◌≢◌, ℕ, refl, sym, subst, Bool, true, false, ◌&&◌, cond, eqb, List, Option, Some, None}
use Rattle.std.proofs.lemmas.Bool.Decides.{eqb_tells}
use Rattle.bus_core.specs.declared.operation.BusEntry.{BusEntry}
use Rattle.bus_core.specs.Follow.{Follows}
use Rattle.bus_core.specs.Mark.{Marked}
use Rattle.bus_core.specs.Trace.{Memory}
use Rattle.bus_core.specs.TwoSides.{Host, Bystander, is_party, IsRunOf, party, side}
use Rattle.bus_core.proofs.Following.{Follows_weaker}
use Rattle.bus_core.proofs.Lists.{filter-filter}
use Rattle.bus_core.proofs.Weaving.{woven}
use Rattle.cmd_slots.specs.Place.{touches}
use Rattle.cmd_slots.specs.Mark as marks
use Rattle.cmd_slots.specs.Mark.{SlotMark, role_of, host_of}
use Rattle.cmd_slots.specs.Host.{Asker, MayHost, after_host}
use Rattle.cmd_slots.specs.Law.{MayAny, after_any, slots_object, fresh_host, fresh_adapter, is_host, of_host, IsRun}
use Rattle.cmd_slots.proofs.Tied.{put_here, put_there}

-- whose operation it is; one of nobody's counts as slot 0's, which no host's list has
abbrev slot_in : Option ℕ → ℕ
slot_in None = 0
slot_in (Some slot) = slot

abbrev who : Marked SlotMark → ℕ
who x = slot_in (host_of x.mark)

-- a slot's host by itself
abbrev may_part : ℕ → Asker → Marked SlotMark → Type 0
may_part slot h x = MayHost slot h x.mark x.entry

abbrev next_part : ℕ → Asker → Marked SlotMark → Asker
next_part slot h x = after_host h x.mark x.entry

moves_at : (hosts : ℕ → Asker) (other : Option ℕ) (mark : SlotMark) (e : BusEntry) → host_of mark ≡ other → after_any hosts other mark e (slot_in other) ≡ after_host (hosts (slot_in other)) mark e
moves_at hosts None mark e is = nobody mark is where
  nobody : (mark : SlotMark) → host_of mark ≡ None → hosts 0 ≡ after_host (hosts 0) mark e
  nobody (marks.Ask slot c words) is = cc
  nobody (marks.Fill slot) is = cc
  nobody (marks.Ring slot) is = cc
  nobody (marks.Await slot) is = cc
  nobody marks.Sweep is = refl
  nobody (marks.Read slot) is = refl
  nobody (marks.Reply slot answer words) is = refl
  nobody (marks.Store slot) is = refl
  nobody marks.Foreign is = refl
moves_at hosts (Some slot) mark e is = put_here (λ (h : Asker). h ≡ after_host (hosts slot) mark e) hosts slot (after_host (hosts slot) mark e) slot refl refl

stays_at : (slot : ℕ) (hosts : ℕ → Asker) (other : Option ℕ) (mark : SlotMark) (e : BusEntry) → slot_in other ≢ slot → after_any hosts other mark e slot ≡ hosts slot
stays_at slot hosts None mark e differ = refl
stays_at slot hosts (Some other) mark e differ = put_there (λ (h : Asker). h ≡ hosts slot) hosts other (after_host (hosts other) mark e) slot differ refl

-- the operations of one slot's host are those of the hosts that are about it
sorted : (slot : ℕ) (inside : Bool) (mark : SlotMark) → (is_party (cond inside (role_of mark) Bystander) Host && eqb (slot_in (host_of mark)) slot) ≡ (inside && is_host slot (host_of mark))
sorted slot false mark = refl
sorted slot true (marks.Ask other c words) = refl
sorted slot true (marks.Fill other) = refl
sorted slot true (marks.Ring other) = refl
sorted slot true (marks.Await other) = refl
sorted slot true marks.Sweep = refl
sorted slot true (marks.Read other) = refl
sorted slot true (marks.Reply other answer words) = refl
sorted slot true (marks.Store other) = refl
sorted slot true marks.Foreign = refl

-- what a host's own rule allows
any_may : (hosts : ℕ → Asker) (mark : SlotMark) (e : BusEntry) → MayHost (slot_in (host_of mark)) (hosts (slot_in (host_of mark))) mark e → MayAny hosts (host_of mark) mark e
any_may hosts (marks.Ask slot c words) e may = may
any_may hosts (marks.Fill slot) e may = may
any_may hosts (marks.Ring slot) e may = may
any_may hosts (marks.Await slot) e may = may
any_may hosts marks.Sweep e may = may.1
any_may hosts (marks.Read slot) e may = may.1
any_may hosts (marks.Reply slot answer words) e may = may.1
any_may hosts (marks.Store slot) e may = may.1
any_may hosts marks.Foreign e may = may.1

abbrev all_hosts : List (Marked SlotMark) → List (Marked SlotMark)
all_hosts trace = side slots_object Host trace

pub hosts_keep : (hosts : ℕ → Asker) (trace : List (Marked SlotMark)) → ((slot : ℕ) → Follows (may_part slot) (next_part slot) (hosts slot) (of_host slot trace)) →
    Follows (λ (s : ℕ → Asker) (x : Marked SlotMark). MayAny s (host_of x.mark) x.mark x.entry) (λ (s : ℕ → Asker) (x : Marked SlotMark). after_any s (host_of x.mark) x.mark x.entry) hosts (all_hosts trace)
hosts_keep hosts trace own =
    let after : (ℕ → Asker) → Marked SlotMark → ℕ → Asker = λ s x. after_any s (host_of x.mark) x.mark x.entry in
    let part : ℕ → (ℕ → Asker) → Asker = λ slot s. s slot in
    let lists = λ (slot : ℕ). subst (Follows (may_part slot) (next_part slot) (hosts slot))
    (sym (filter-filter (λ x. eqb (who x) slot) (λ x. is_party (party slots_object x) Host) (λ x. touches x.entry.addr && is_host slot (host_of x.mark)) (λ x. sorted slot (touches x.entry.addr) x.mark) trace)) (own slot) in
    Follows_weaker (λ (s : ℕ → Asker) (x : Marked SlotMark). may_part (who x) (s (who x)) x) (λ (s : ℕ → Asker) (x : Marked SlotMark). MayAny s (host_of x.mark) x.mark x.entry) after (λ s x may. any_may s x.mark x.entry may) hosts (all_hosts trace)
    (woven eqb eqb_tells who (λ slot. Asker) part may_part next_part after (λ s x. moves_at s (host_of x.mark) x.mark x.entry refl) (λ slot s x other. stays_at slot s (host_of x.mark) x.mark x.entry other) (all_hosts trace) hosts lists)

pub run_of_hosts : (start : Memory) (trace : List (Marked SlotMark)) → IsRun start trace → IsRunOf slots_object fresh_adapter (λ (slot : ℕ). fresh_host) start trace
run_of_hosts start trace r = record {
  consistent = r.consistent;
  device = r.device;
  host = hosts_keep (λ (slot : ℕ). fresh_host) trace r.hosts;
  others = r.others;
}
