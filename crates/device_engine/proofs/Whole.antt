-- A visit is whole.
use Rattle.std.proofs.Common.{◌≡◌, ℕ, ◌+◌, ◌⊎◌, inl, inr, refl, ap, ◌∙◌, subst, arith, cond, Bool, false, List, [], ◌∷◌, fold}
use Rattle.bus_core.specs.declared.operation.BusEntry.{BusEntry}
use Rattle.verbs_types.specs.declared.declaration.Lines.{Lines}
use Rattle.cqe_format.specs.declared.completion.Cqe.{Cqe}
use Rattle.device_engine.specs.Rows.{is_ready}
use Rattle.device_engine.specs.Rule.{after_adapt}
use Rattle.device_engine.specs.State.{AdapterAt, AdapterRule, Looking, Recording, Reading, Publishing}
use Rattle.device_engine.specs.Visit.{IsVisit, IsWholeVisit, Takes, FindsNone, is_look, is_record, count_of}
use Rattle.device_engine.proofs.Steps.{GoesOn, IsOver, FindsNoEntry, looking_step, recording_step, reading_step, publishing_step}

abbrev last : Lines → AdapterRule → List BusEntry → AdapterRule
last d s es = fold (after_adapt d) s es

abbrev one_if : Bool → ℕ
one_if b = cond b 1 0

-- what is left of a visit once the record is loaded, in which so many requests are taken
record Rest (d : Lines) (s : AdapterRule) (es : List BusEntry) (more : ℕ) : Type 0 where
  looks : count_of is_look d s es ≡ 0
  records : count_of is_record d s es ≡ 0
  taken : (last d s es).taken s.visit ≡ s.taken s.visit + more

module _ (d : Lines) (s : AdapterRule) (e : BusEntry) (work : AdapterAt) (w : s.at_work ≡ work) (no_look : is_look work ≡ false) (no_record : is_record work ≡ false) where
  -- the last operation
  rest_over : (more : ℕ) → IsOver s (after_adapt d s e) more → Rest d s (e ∷ []) more
  rest_over more over = record {
    looks = ap (λ (b : Bool). one_if b + 0) (ap is_look w ∙ no_look);
    records = ap (λ (b : Bool). one_if b + 0) (ap is_record w ∙ no_record);
    taken = over.taken;
  }

  -- an operation before others
  rest_on : (next : BusEntry) (es : List BusEntry) (more later : ℕ) (after : AdapterAt) → GoesOn s (after_adapt d s e) after more → Rest d (after_adapt d s e) (next ∷ es) later → Rest d s (e ∷ next ∷ es) (more + later)
  rest_on next es more later after on rest = record {
    looks = omega (arith, ap one_if (ap is_look w ∙ no_look), rest.looks);
    records = omega (arith, ap one_if (ap is_record w ∙ no_record), rest.records);
    taken =
        let taken = subst (λ (n : ℕ). (last d (after_adapt d s e) (next ∷ es)).taken n ≡ (after_adapt d s e).taken n + later) on.visit rest.taken in
        omega (arith, taken, on.taken);
  }

rest_publishing : (d : Lines) (s : AdapterRule) (es : List BusEntry) (cq : ℕ) (completion : Cqe) → s.at_work ≡ Publishing cq completion → IsVisit d s es → Rest d s es 0
rest_publishing d s [] cq c w visit = absurd visit
rest_publishing d s (e ∷ []) cq c w visit =
    elim (publishing_step d s e cq c w) [
      | inl on ↦ absurd (omega (arith, on.visit, visit))
      | inr over ↦ rest_over d s e (Publishing cq c) w refl refl 0 over
    ]
rest_publishing d s (e ∷ next ∷ es) cq c w (same, visit) =
    elim (publishing_step d s e cq c w) [
      | inl on ↦ rest_on d s e (Publishing cq c) w refl refl next es 0 0 (Publishing cq c) on (rest_publishing d (after_adapt d s e) (next ∷ es) cq c on.work_is visit)
      | inr over ↦ absurd (omega (arith, over.visit, same))
    ]

rest_reading : (d : Lines) (s : AdapterRule) (es : List BusEntry) → s.at_work ≡ Reading → IsVisit d s es → Rest d s es 1
rest_reading d s [] w visit = absurd visit
rest_reading d s (e ∷ []) w visit =
    elim (reading_step d s e w) [
      | inl on ↦ absurd (omega (arith, on.visit, visit))
      | inr (inl publishes) ↦ absurd (omega (arith, publishes.goes_on.visit, visit))
      | inr (inr over) ↦ rest_over d s e Reading w refl refl 1 over
    ]
rest_reading d s (e ∷ next ∷ es) w (same, visit) =
    elim (reading_step d s e w) [
      | inl on ↦ rest_on d s e Reading w refl refl next es 0 1 Reading on (rest_reading d (after_adapt d s e) (next ∷ es) on.work_is visit)
      | inr (inl p) ↦ rest_on d s e Reading w refl refl next es 1 0 (Publishing p.cq p.completion) p.goes_on (rest_publishing d (after_adapt d s e) (next ∷ es) p.cq p.completion p.goes_on.work_is visit)
      | inr (inr over) ↦ absurd (omega (arith, over.visit, same))
    ]

-- what is left of a visit from the record on
record FromRecord (d : Lines) (s : AdapterRule) (es : List BusEntry) : Type 0 where
  looks : count_of is_look d s es ≡ 0
  records : count_of is_record d s es ≡ 1
  takes : Takes s (last d s es) ⊎ FindsNone d s (last d s es)

-- what is said of the visit after its first operation, which took nothing, is said of the whole
module _ (d : Lines) (s next after : AdapterRule) (work : AdapterAt) (on : GoesOn s next work 0) where
  takes_from : Takes next after → Takes s after
  takes_from t =
      let taken = subst (λ (n : ℕ). after.taken n ≡ next.taken n + 1) on.visit t.taken in
      record { taken = omega (arith, taken, on.taken) }

  none_from : FindsNone d next after → FindsNone d s after
  none_from f =
      let taken = subst (λ (n : ℕ). after.taken n ≡ next.taken n) on.visit f.taken in
      record { taken = omega (arith, taken, on.taken); none = subst (λ (n : ℕ). is_ready d n (after.readers n) ≡ false) on.visit f.none }

  some_from : Takes next after ⊎ FindsNone d next after → Takes s after ⊎ FindsNone d s after
  some_from (inl t) = inl (takes_from t)
  some_from (inr f) = inr (none_from f)

nothing_found : (d : Lines) (s after : AdapterRule) → FindsNoEntry d s after → FindsNone d s after
nothing_found d s after none = record { taken = omega (arith, none.over.taken); none = none.none }

read_from : (d : Lines) (s next : AdapterRule) (es : List BusEntry) → GoesOn s next Reading 0 → Rest d next es 1 → Takes s (last d next es)
read_from d s next es on rest =
    let taken = subst (λ (n : ℕ). (last d next es).taken n ≡ next.taken n + 1) on.visit rest.taken in
    record { taken = omega (arith, taken, on.taken) }

from_record : (d : Lines) (s : AdapterRule) (es : List BusEntry) → s.at_work ≡ Recording → IsVisit d s es → FromRecord d s es
from_record d s [] w visit = absurd visit
from_record d s (e ∷ []) w visit =
    elim (recording_step d s e w) [
      | inl on ↦ absurd (omega (arith, on.visit, visit))
      | inr none ↦ record {
        looks = ap (λ (x : AdapterAt). one_if (is_look x) + 0) w;
        records = ap (λ (x : AdapterAt). one_if (is_record x) + 0) w;
        takes = inr (nothing_found d s (after_adapt d s e) none);
      }
    ]
from_record d s (e ∷ next ∷ es) w (same, visit) =
    elim (recording_step d s e w) [
      | inl on ↦
          let rest = rest_reading d (after_adapt d s e) (next ∷ es) on.work_is visit in
          record {
            looks = omega (arith, ap (λ (x : AdapterAt). one_if (is_look x)) w, rest.looks);
            records = omega (arith, ap (λ (x : AdapterAt). one_if (is_record x)) w, rest.records);
            takes = inl (read_from d s (after_adapt d s e) (next ∷ es) on rest);
          }
      | inr none ↦ absurd (omega (arith, none.over.visit, same))
    ]

pub visit_is_whole : (d : Lines) (s : AdapterRule) (es : List BusEntry) → s.at_work ≡ Looking → IsVisit d s es → IsWholeVisit d s es
visit_is_whole d s [] w visit = absurd visit
visit_is_whole d s (e ∷ []) w visit =
    elim (looking_step d s e w) [
      | inl on ↦ absurd (omega (arith, on.visit, visit))
      | inr (inl on) ↦ absurd (omega (arith, on.visit, visit))
      | inr (inr none) ↦ record {
        looks = ap (λ (x : AdapterAt). one_if (is_look x) + 0) w;
        records = omega (arith, ap (λ (x : AdapterAt). one_if (is_record x)) w);
        takes = inr (nothing_found d s (after_adapt d s e) none);
      }
    ]
visit_is_whole d s (e ∷ next ∷ es) w (same, visit) =
    elim (looking_step d s e w) [
      | inl on ↦
          let rest = from_record d (after_adapt d s e) (next ∷ es) on.work_is visit in
          record {
            looks = omega (arith, ap (λ (x : AdapterAt). one_if (is_look x)) w, rest.looks);
            records = omega (arith, ap (λ (x : AdapterAt). one_if (is_record x)) w, rest.records);
            takes = some_from d s (after_adapt d s e) (last d (after_adapt d s e) (next ∷ es)) Recording on rest.takes;
          }
      | inr (inl on) ↦
          let rest = rest_reading d (after_adapt d s e) (next ∷ es) on.work_is visit in
          record {
            looks = omega (arith, ap (λ (x : AdapterAt). one_if (is_look x)) w, rest.looks);
            records = omega (arith, ap (λ (x : AdapterAt). one_if (is_record x)) w, rest.records);
            takes = inl (read_from d s (after_adapt d s e) (next ∷ es) on rest);
          }
      | inr (inr none) ↦ absurd (omega (arith, none.over.visit, same))
    ]
