-- A history is legal exactly where no entry of it is without a step.
use Rattle.std.proofs.Common.{◌≡◌, ℕ, ◌+◌, ◌<◌, ◌≤◌, refl, sym, ap, ◌∙◌, length, get_or, drop, List, [], ◌∷◌, Option, Some, None}
use Rattle.std.proofs.lemmas.List.{at_drop_more, at_drop_all}
use Rattle.verbs_types.specs.declared.entry.Entry.{Entry}
use Rattle.verbs_types.specs.declared.entry.RuleName.{RuleName}
use Rattle.verbs_types.specs.declared.entry.Illegal.{Illegal}
use Rattle.verbs_rules.specs.State.{Verbs}
use Rattle.verbs_rules.specs.Step.{first_fault, after_entry}
use Rattle.verbs_rules.specs.Legal.{IsLegal, illegal_or, first_illegal}

neither : (fault : Option RuleName) (n : ℕ) (later : Option Illegal) → illegal_or fault n later ≡ None → (fault ≡ None) × (later ≡ None)
neither None n later h = (refl, h)
neither (Some rule) n later h = absurd (cc)

pub legal_from_none : (v : Verbs) (n : ℕ) (history : List Entry) → first_illegal v n history ≡ None → IsLegal v history
legal_from_none v n [] h = tt
legal_from_none v n (e ∷ history) h =
    let parts = neither (first_fault v e) n (first_illegal (after_entry v e) (n + 1) history) h in
    (parts.0, legal_from_none (after_entry v e) (n + 1) history parts.1)

pub none_from_legal : (v : Verbs) (n : ℕ) (history : List Entry) → IsLegal v history → first_illegal v n history ≡ None
none_from_legal v n [] h = refl
none_from_legal v n (e ∷ history) h = rw h.0 (none_from_legal (after_entry v e) (n + 1) history h.1)

-- the entry at a place has no step
pub found : (v : Verbs) (n : ℕ) (history : List Entry) (e : Entry) (i : Illegal) → n < length history → e ≡ get_or history n e → first_fault v e ≡ Some i.rule → i.«at» ≡ n → first_illegal v n (drop n history) ≡ Some i
found v n history e i inside read fault place =
    let rest = first_illegal (after_entry v e) (n + 1) (drop (n + 1) history) in
    let here : illegal_or (first_fault v e) n rest ≡ Some i =
    ap (λ (o : Option RuleName). illegal_or o n rest) fault ∙ sym (ap (λ (m : ℕ). Some (record { «at» = m; rule = i.rule })) place) in
    at_drop_more (first_illegal v n) history n e inside ∙ (ap (λ (x : Entry). first_illegal v n (x ∷ drop (n + 1) history)) (sym read) ∙ here)

-- every entry had a step
pub none_found : (v : Verbs) (n : ℕ) (history : List Entry) → length history ≤ n → first_illegal v n (drop n history) ≡ None
none_found v n history past = at_drop_all (first_illegal v n) history n past
