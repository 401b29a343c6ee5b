-- What each entry does to the completions that wait on a completion queue.
use Rattle.std.proofs.Common.{◌≡◌, ◌≢◌, ℕ, ◌==◌, ◌+◌, true, if◌then◌else◌, refl, sym, ap, ◌∙◌, List, [], ◌∷◌, ◌++◌, length, map, drop, append-nil, eq-eqb}
use Rattle.std.proofs.lemmas.Bool.{and_parts, cond-true, cond-false, false≢true}
use Rattle.std.proofs.lemmas.List.{map-append}
use Rattle.verbs_types.specs.declared.completion.Completion.{Completion}
use Rattle.verbs_types.specs.declared.entry.Entry.{Entry}
use Rattle.verbs_types.specs.declared.entry.What.TheVariants.{Poll}
use Rattle.verbs_types.specs.declared.state.Act.{Act}
use Rattle.verbs_types.specs.declared.state.Act.TheVariants.{Complete}
use Rattle.verbs_types.specs.declared.state.Unpolled.{Unpolled}
use Rattle.verbs_rules.specs.Rows.{poll, publish}
use Rattle.verbs_rules.specs.Rules.{objects_live}
use Rattle.verbs_rules.specs.Same.{is_front}
use Rattle.verbs_rules.specs.State.{Verbs}
use Rattle.verbs_rules.specs.Step.{MayStep}
use Rattle.verbs_laws.proofs.Choices.{put_one, differs}
use Rattle.verbs_laws.proofs.Failing.{passed}
use Rattle.verbs_laws.proofs.Facts.{MayPoll_by_step, MayPublish}
use Rattle.verbs_laws.proofs.Sameness.{same_completion-true, front_is_front}
use Rattle.history_laws.specs.Laws.{completion_of, waiting_on}

-- an entry that has a step names living objects
pub living : (v : Verbs) (e : Entry) → MayStep v e → objects_live v e.what ≡ true
living v e step = (passed _ _ _ (passed _ _ _ step).1).0

-- what is for one completion queue
pub here : {X : Type 0} (k cq : ℕ) (xs : List X) → k ≡ cq → (if k == cq then xs else []) ≡ xs
here k cq xs same = cond-true (k == cq) xs [] (eq-eqb k cq same)

pub elsewhere : {X : Type 0} (k cq : ℕ) (xs : List X) → k ≢ cq → (if k == cq then xs else []) ≡ []
elsewhere k cq xs apart = cond-false (k == cq) xs [] (differs k cq apart)

-- the front and what is behind it
pub front_splits : (xs : List Completion) (us : List Unpolled) → is_front xs us ≡ true → map completion_of us ≡ xs ++ map completion_of (drop (length xs) us)
front_splits [] us h = refl
front_splits (x ∷ xs) [] h = absurd (false≢true h)
front_splits (x ∷ xs) (u ∷ us) h =
    let parts = and_parts _ _ h in
    let first = same_completion-true x u.completion parts.0 in
    let rest = front_splits xs us parts.1 in
    λ i. sym first i ∷ rest i

pub polled_front : (v : Verbs) (actor cq most : ℕ) (xs : List Completion) → MayStep v (record { actor = actor; what = Poll cq most xs }) → is_front xs (v.unpolled cq) ≡ true
polled_front v actor cq most xs step =
    let may = MayPoll_by_step v actor cq most xs step in
    rw may.front (front_is_front (v.unpolled cq) most)

-- a poll takes the oldest
pub poll_takes : (v : Verbs) (actor cq most : ℕ) (xs : List Completion) → MayStep v (record { actor = actor; what = Poll cq most xs }) → (k : ℕ) → waiting_on v k ≡ (if k == cq then xs else []) ++ waiting_on (poll v cq xs) k
poll_takes v actor cq most xs step k =
    put_one
    (λ (i : ℕ) (us : List Unpolled). waiting_on v i ≡ (if i == cq then xs else []) ++ map completion_of us)
    v.unpolled
    cq
    (drop (length xs) (v.unpolled cq))
    (front_splits xs (v.unpolled cq) (polled_front v actor cq most xs step) ∙ ap (λ (ys : List Completion). ys ++ map completion_of (drop (length xs) (v.unpolled cq))) (sym (here cq cq xs refl)))
    (λ i apart. ap (λ (ys : List Completion). ys ++ waiting_on v i) (sym (elsewhere i cq xs apart)))
    k

-- a publication adds the newest
pub owed_adds : (v : Verbs) (cq : ℕ) (u : Unpolled) (others : List Act) (k : ℕ) → waiting_on (publish v cq (Complete cq u ∷ others)) k ≡ waiting_on v k ++ (if k == cq then u.completion ∷ [] else [])
owed_adds v cq u others k =
    let x = u.completion in
    put_one
    (λ (i : ℕ) (us : List Unpolled). map completion_of us ≡ waiting_on v i ++ (if i == cq then x ∷ [] else []))
    v.unpolled
    cq
    (v.unpolled cq ++ u ∷ [])
    (map-append completion_of (v.unpolled cq) (u ∷ []) ∙ ap (λ (ys : List Completion). waiting_on v cq ++ ys) (sym (here cq cq (x ∷ []) refl)))
    (λ i apart. sym (append-nil (waiting_on v i)) ∙ ap (λ (ys : List Completion). waiting_on v i ++ ys) (sym (elsewhere i cq (x ∷ []) apart)))
    k

pub publish_adds : (v : Verbs) (actor cq : ℕ) (x : Completion) → MayPublish v actor cq x → (k : ℕ) → waiting_on (publish v cq v.device.owed) k ≡ waiting_on v k ++ (if k == cq then x ∷ [] else [])
publish_adds v actor cq x may k =
    ap (λ (acts : List Act). waiting_on (publish v cq acts) k) may.owed
    ∙ (owed_adds v cq may.first may.others k ∙ ap (λ (y : Completion). waiting_on v k ++ (if k == cq then y ∷ [] else [])) (sym may.content))
