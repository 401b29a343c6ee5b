-- From one operation to the law.
use Rattle.std.proofs.Common.{◌≡◌, ◌≢◌, ℕ, zero, suc, inl, inr, refl, sym, ap, subst, ◌∙◌, arith, ◌==◌, if◌then◌else◌, List, [], ◌∷◌, option_map, Option, Some, None}
use Rattle.std.proofs.lemmas.Bool.{eq-eqb}
use Rattle.std.proofs.lemmas.Bool.Decides.{eqb_tells}
use Rattle.bus_core.specs.Follow.{Follows}
use Rattle.bus_core.specs.Mark.{Marked, entries}
use Rattle.bus_core.specs.Trace.{Memory, IsConsistent, after_entry}
use Rattle.bus_core.specs.Weave.{spelled}
use Rattle.bus_core.proofs.Weaving as weaving
use Rattle.verbs_types.specs.declared.call.Call.{Call}
use Rattle.verbs_types.specs.declared.declaration.Lines.{Lines}
use Rattle.verbs_types.specs.declared.entry.Entry.{Entry}
use Rattle.actor_map.specs.Notes.{Told, AllServe, with_seen, entries_of}
use Rattle.verbs_rules.specs.Answered.{Due, MayAnswer, after_answer, own_entries}
use Rattle.verbs_rules.specs.Legal.{IsLegal}
use Rattle.verbs_rules.specs.Running.{Running, after_turn}
use Rattle.object_places.specs.Objects.{Mark}
use Rattle.actor_rules.specs.Actors.{Actors, after, says, sees_of, tells}
use Rattle.actor_rules.specs.Roles.{MayAny}
use Rattle.actor_rules.specs.Holding.{Holds, Goes, IsDue, MayTurn, AllGo}
use Rattle.verbs_rules.specs.Within.{Bounds}

abbrev after_told : Running → Told → Running
after_told r t = after_turn r t.entry

-- what each operation keeps, the trace keeps
module _ (d : Lines) (programs : List (List Call)) (total : Bounds) (step : AllGo d programs total) where
  same_goes : (m : Memory) (w : Actors) (r : Running) (seen : ℕ) (said : Option Entry) → Goes d programs total m w r seen said → weaving.Goes MayTurn after_told (Holds d programs total) m w r (option_map (with_seen seen) said)
  same_goes m w r seen None g = g
  same_goes m w r seen (Some e) g = g

  pub turns_follow : (trace : List (Marked Mark)) (m : Memory) (w : Actors) (r : Running) → Holds d programs total m w r → IsConsistent m (entries trace) → Follows (MayAny d) (after d) w trace
      → Follows MayTurn after_told r (spelled (after d) (tells d) w trace)
  turns_follow trace m w r holds consistent keeps =
      weaving.legal_by_steps MayTurn after_told (Holds d programs total) (λ x. x.entry) (MayAny d) (after d) (tells d)
      (λ n v s x held is may. same_goes (after_entry n x.entry) (after d v x) s (sees_of d v x.entry.actor x) (says d v x) (step n v s x held is may)) trace m w r holds consistent keeps

-- turns that follow the rule are a legal history
pub legal_turns : (r : Running) (told : List Told) → Follows MayTurn after_told r told → IsLegal r.verbs (entries_of told)
legal_turns r [] h = tt
legal_turns r (t ∷ told) h = (h.0.legal, legal_turns (after_told r t) told h.1)

-- in which what each maker saw serves
pub serving_turns : (r : Running) (told : List Told) → Follows MayTurn after_told r told → AllServe r.verbs told
serving_turns r [] h = tt
serving_turns r (t ∷ told) h = (h.0.serves, serving_turns (after_told r t) told h.1)

-- the entry is its thread's, which owed it
owed_now : (r : Running) (e : Entry) (t : ℕ) → e.actor ≡ suc t → IsDue r e.actor e → MayAnswer (r.owed (suc t)) e.what
owed_now r e t same due = due_by e.actor same due
  where
    due_by : (actor : ℕ) → actor ≡ suc t → IsDue r actor e → MayAnswer (r.owed (suc t)) e.what
    due_by zero never due = absurd (omega (arith, never))
    due_by (suc k) is due = subst (λ (n : ℕ). MayAnswer (r.owed n) e.what) is due

if_same : {X : Type 0} (j k : ℕ) (x y : X) → j ≡ k → (if j == k then x else y) ≡ x
if_same j k x y e = ap (λ b. if b then x else y) (eq-eqb j k e)

if_other : {X : Type 0} (j k : ℕ) (x y : X) → j ≢ k → (if j == k then x else y) ≡ y
if_other j k x y differ = elim (eqb_tells j k) [ inl t ↦ absurd (differ t.1) | inr t ↦ rw t.0 refl ]

-- a thread's entries are those that it owed, in order
pub answered_turns : (t : ℕ) (told : List Told) (r : Running) → Follows MayTurn after_told r told → Follows MayAnswer after_answer (r.owed (suc t)) (own_entries (suc t) (entries_of told))
answered_turns t [] r h = tt
answered_turns t (entry_told ∷ told) r h =
    let e = entry_told.entry in
    let history = entries_of told in
    let rest = answered_turns t told (after_turn r e) h.1 in
    elim (eqb_tells e.actor (suc t)) [
      | inl here ↦
          let now : (after_turn r e).owed (suc t) ≡ after_answer (r.owed (suc t)) e.what = if_same (suc t) e.actor _ _ (sym here.1) ∙ ap (λ k. after_answer (r.owed k) e.what) here.1 in
          subst (Follows MayAnswer after_answer (r.owed (suc t))) (sym (if_same e.actor (suc t) (e.what ∷ own_entries (suc t) history) (own_entries (suc t) history) here.1))
          (owed_now r e t here.1 h.0.due, subst (λ (ds : List Due). Follows MayAnswer after_answer ds (own_entries (suc t) history)) now rest)
      | inr there ↦
          let now : (after_turn r e).owed (suc t) ≡ r.owed (suc t) = if_other (suc t) e.actor _ _ (λ same. there.1 (sym same)) in
          subst (Follows MayAnswer after_answer (r.owed (suc t))) (sym (if_other e.actor (suc t) (e.what ∷ own_entries (suc t) history) (own_entries (suc t) history) there.1))
          (subst (λ (ds : List Due). Follows MayAnswer after_answer ds (own_entries (suc t) history)) now rest)
    ]
