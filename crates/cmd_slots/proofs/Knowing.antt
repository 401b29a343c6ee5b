-- What a machine that knows less may do, its side may do, and then it still knows less.
use Rattle.std.proofs.Common.{◌≡◌, ℕ, refl, subst}
use Rattle.bus_core.specs.declared.operation.BusEntry.{BusEntry}
use Rattle.cmd_slots.specs.Mark as marks
use Rattle.cmd_slots.specs.Mark.{SlotMark}
use Rattle.cmd_slots.specs.Host.{HostStage, Resting, Filling, Awaiting, Taking, Asker, IsFree, MayFill, MayRing, MayAwait, MayHost, after_host, host_says, StageLess, KnowsLess}

-- one operation of a slot's host, as a machine with this much knowledge sees it and as its list tells it
pub record DoesMore (slot : ℕ) (h h' : Asker) (mark : SlotMark) (e : BusEntry) : Type 0 where
  pub may : MayHost slot h' mark e
  pub less : KnowsLess (after_host h mark e) (after_host h' mark e)
  pub says : host_says slot h' mark e ≡ host_says slot h mark e

pub StageLess_refl : (stage : HostStage) → StageLess stage stage
StageLess_refl Resting = tt
StageLess_refl (Filling c words count) = refl
StageLess_refl (Awaiting c) = refl
StageLess_refl (Taking c words) = refl

pub KnowsLess_refl : (h : Asker) → KnowsLess h h
KnowsLess_refl h = record { asked_same = refl; stage_less = StageLess_refl h.stage }

StageLess_of : (stage stage' : HostStage) → stage ≡ stage' → StageLess stage stage'
StageLess_of stage stage' same = subst (StageLess stage) same (StageLess_refl stage)

-- a machine that is at work knows its stage
stage_same : (stage stage' : HostStage) → StageLess stage stage' → (stage ≡ Resting → ⊥) → stage ≡ stage'
stage_same Resting stage' less some = absurd (some refl)
stage_same (Filling c words count) stage' less some = less
stage_same (Awaiting c) stage' less some = less
stage_same (Taking c words) stage' less some = less

free_too : (stage stage' : HostStage) → StageLess stage stage' → IsFree stage → IsFree stage'
free_too Resting stage' less free = less
free_too (Filling c words count) stage' less free = subst IsFree less free
free_too (Awaiting c) stage' less free = absurd free
free_too (Taking c words) stage' less free = absurd free

same_does : (slot : ℕ) (h h' : Asker) (mark : SlotMark) (e : BusEntry) → h ≡ h' → MayHost slot h mark e → DoesMore slot h h' mark e
same_does slot h h' mark e same may = subst (λ (k : Asker). DoesMore slot h k mark e) same (record { may = may; less = KnowsLess_refl (after_host h mark e); says = refl })

same_asker : (h h' : Asker) → KnowsLess h h' → h.stage ≡ h'.stage → h ≡ h'
same_asker h h' less same = λ i. record { asked = less.asked_same i; stage = same i }

pub does_more : (slot : ℕ) (h h' : Asker) (mark : SlotMark) (e : BusEntry) → KnowsLess h h' → MayHost slot h mark e → DoesMore slot h h' mark e
does_more slot h h' (marks.Ask other c words) e less may = record {
  may = (may.0, record { free = free_too h.stage h'.stage less.stage_less may.1.free; question = may.1.question; store = may.1.store });
  less = record { asked_same = less.asked_same; stage_less = refl };
  says = refl;
}
does_more slot h h' (marks.Fill other) e less may =
    let stage = stage_same h.stage h'.stage less.stage_less (λ rests. subst (λ (s : HostStage). MayFill slot s e) rests may.1) in
    same_does slot h h' (marks.Fill other) e (same_asker h h' less stage) may
does_more slot h h' (marks.Ring other) e less may =
    let stage = stage_same h.stage h'.stage less.stage_less (λ rests. subst (λ (s : HostStage). MayRing slot s e) rests may.1) in
    same_does slot h h' (marks.Ring other) e (same_asker h h' less stage) may
does_more slot h h' (marks.Await other) e less may =
    let stage = stage_same h.stage h'.stage less.stage_less (λ rests. subst (λ (s : HostStage). MayAwait slot s e) rests may.1) in
    same_does slot h h' (marks.Await other) e (same_asker h h' less stage) may
does_more slot h h' marks.Sweep e less may = absurd may.1
does_more slot h h' (marks.Read other) e less may = absurd may.1
does_more slot h h' (marks.Reply other answer words) e less may = absurd may.1
does_more slot h h' (marks.Store other) e less may = absurd may.1
does_more slot h h' marks.Foreign e less may = absurd may.1
