-- The numbers of a queue pair's requests among completions, as a poll takes them and the adapter adds to them.
use Rattle.std.proofs.Common.{◌≡◌, ◌≢◌, ℕ, zero, suc, Bool, true, false, if◌then◌else◌, List, [], ◌∷◌, ◌++◌, length, map, take, drop, refl, sym, ◌∙◌, ap, append_assoc, append-nil}
use Rattle.std.specs.List.{AllByRecursion}
use Rattle.std.proofs.lemmas.Bool.{eq-eqb}
use Rattle.verbs_types.specs.declared.completion.Completion.{Completion}
use Rattle.verbs_types.specs.declared.completion.Queue.{Queue}
use Rattle.verbs_types.specs.declared.completion.Queue.TheVariants.{Send}
use Rattle.verbs_types.specs.declared.state.QueuePair.{QueuePair}
use Rattle.verbs_types.specs.declared.state.Unpolled.{Unpolled}
use Rattle.verbs_rules.specs.Family.{put}
use Rattle.verbs_rules.specs.Rows.{end, end_all}
use Rattle.verbs_rules.specs.Same.{same_queue}
use Rattle.verbs_rules.specs.State.{Settled}
use Rattle.verbs_laws.proofs.Sameness.{same_queue-true}
use Rattle.verbs_rules.specs.Sane.{numbers_in, IsHomed}
use Rattle.verbs_laws.proofs.Choices.{differs}

abbrev pub completion_in : Unpolled → Completion
completion_in u = u.completion

numbers_one : (qp : ℕ) (u : Unpolled) (us vs : List Unpolled) (b : Bool) → numbers_in qp (us ++ vs) ≡ numbers_in qp us ++ numbers_in qp vs
    → (if b then u.number ∷ numbers_in qp (us ++ vs) else numbers_in qp (us ++ vs)) ≡ (if b then u.number ∷ numbers_in qp us else numbers_in qp us) ++ numbers_in qp vs
numbers_one qp u us vs true e = ap (λ ns. u.number ∷ ns) e
numbers_one qp u us vs false e = e

pub numbers-append : (qp : ℕ) (us vs : List Unpolled) → numbers_in qp (us ++ vs) ≡ numbers_in qp us ++ numbers_in qp vs
numbers-append qp [] vs = refl
numbers-append qp (u ∷ us) vs = numbers_one qp u us vs (same_queue (Send qp) u.completion.queue) (numbers-append qp us vs)

-- a completion of another queue pair adds no number
pub numbers_other : (lives : ℕ → Bool) (pairs : ℕ → QueuePair) (cq qp : ℕ) (u : Unpolled) (us : List Unpolled) → IsHomed lives pairs cq u → qp ≢ u.completion.qp → numbers_in qp (u ∷ us) ≡ numbers_in qp us
numbers_other lives pairs cq qp u us home apart =
    let other : same_queue (Send qp) u.completion.queue ≡ false = ap (same_queue (Send qp)) home.queue ∙ differs qp u.completion.qp apart in
    ap (λ b. if b then u.number ∷ numbers_in qp us else numbers_in qp us) other

pub numbers_own : (qp : ℕ) (u : Unpolled) (us : List Unpolled) → u.completion.queue ≡ Send qp → numbers_in qp (u ∷ us) ≡ u.number ∷ numbers_in qp us
numbers_own qp u us is =
    let same : same_queue (Send qp) u.completion.queue ≡ true = ap (same_queue (Send qp)) is ∙ eq-eqb qp qp refl in
    ap (λ b. if b then u.number ∷ numbers_in qp us else numbers_in qp us) same

-- the completions of another completion queue's queue pairs add none
pub numbers_away : (lives : ℕ → Bool) (pairs : ℕ → QueuePair) (cq qp : ℕ) (us : List Unpolled) → AllByRecursion (IsHomed lives pairs cq) us → (pairs qp).send_cq ≢ cq → numbers_in qp us ≡ []
numbers_away lives pairs cq qp [] homed away = refl
numbers_away lives pairs cq qp (u ∷ us) homed away =
    numbers_other lives pairs cq qp u us homed.0 (λ same. away (ap (λ i. (pairs i).send_cq) same ∙ homed.0.home)) ∙ numbers_away lives pairs cq qp us homed.1 away

-- the ends that a poll adds to a queue
ended_one : (f : Queue → Settled) (u : Unpolled) (i : ℕ) (ns : List ℕ) (b : Bool) → (same_queue (Send i) u.completion.queue) ≡ b
    → record (if b then end (f u.completion.queue) u.number else f (Send i)) { ends = (if b then end (f u.completion.queue) u.number else f (Send i)).ends ++ ns } ≡ record (f (Send i)) { ends = (f (Send i)).ends ++ (if b then u.number ∷ ns else ns) }
ended_one f u i ns true e =
    let is : u.completion.queue ≡ Send i = sym (same_queue-true (Send i) u.completion.queue e) in
    ap (λ (q : Queue). record (end (f q) u.number) { ends = (end (f q) u.number).ends ++ ns }) is
    ∙ ap (λ (ends : List ℕ). record (f (Send i)) { ends = ends }) (append_assoc (f (Send i)).ends (u.number ∷ []) ns)
ended_one f u i ns false e = refl

pub ended_at : (f : Queue → Settled) (us vs : List Unpolled) (i : ℕ) → end_all f (map completion_in us) (us ++ vs) (Send i) ≡ record (f (Send i)) { ends = (f (Send i)).ends ++ numbers_in i us }
ended_at f [] vs i = ap (λ (ends : List ℕ). record (f (Send i)) { ends = ends }) (sym (append-nil (f (Send i)).ends))
ended_at f (u ∷ us) vs i =
    ended_at (put same_queue f u.completion.queue (end (f u.completion.queue) u.number)) us vs i
    ∙ ended_one f u i (numbers_in i us) (same_queue (Send i) u.completion.queue) refl

-- what is left behind those that were taken
pub left_behind : (most : ℕ) (us : List Unpolled) → drop (length (map completion_in (take most us))) us ≡ drop most us
left_behind zero us = refl
left_behind (suc most) [] = refl
left_behind (suc most) (u ∷ us) = left_behind most us

pub homed_take : (P : Unpolled → Type 0) (most : ℕ) (us : List Unpolled) → AllByRecursion P us → AllByRecursion P (take most us)
homed_take P zero us h = tt
homed_take P (suc most) [] h = tt
homed_take P (suc most) (u ∷ us) h = (h.0, homed_take P most us h.1)

pub homed_drop : (P : Unpolled → Type 0) (most : ℕ) (us : List Unpolled) → AllByRecursion P us → AllByRecursion P (drop most us)
homed_drop P zero us h = h
homed_drop P (suc most) [] h = tt
homed_drop P (suc most) (u ∷ us) h = homed_drop P most us h.1
