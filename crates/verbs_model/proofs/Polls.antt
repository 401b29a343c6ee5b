-- A poll: the ends that it adds to lists of queues are those that it adds to the family.
use Rattle.std.proofs.Common.{◌≡◌, ℕ, ◌*◌, ◌<◌, ◌≤◌, refl, sym, ap, ◌∙◌, Bool, true, false, List, [], ◌∷◌, length, map, set, get_or, take, drop, arith}
use Rattle.std.specs.List.{list_all}
use Rattle.std.proofs.lemmas.Bool.{and_parts}
use Rattle.std.proofs.lemmas.List.{length-map, length-take, length-set}
use Rattle.std.proofs.lemmas.List.Elements.{All-nil, All-cons}
use Rattle.verbs_types.specs.declared.completion.Completion.{Completion}
use Rattle.verbs_types.specs.declared.completion.Queue.{Queue}
use Rattle.verbs_types.specs.declared.completion.Queue.TheVariants.{Send, Recv, Shared}
use Rattle.verbs_types.specs.declared.declaration.TheConstants.{FIRST_QP}
use Rattle.verbs_types.specs.declared.state.Unpolled.{Unpolled}
use Rattle.verbs_model.specs.Ends.{ArePlaced, ended}
use Rattle.verbs_rules.specs.Family.{put}
use Rattle.verbs_types.specs.Lines.{is_among}
use Rattle.verbs_rules.specs.Rows.{poll}
use Rattle.verbs_rules.specs.Rules.{queue_lives, names_living}
use Rattle.verbs_rules.specs.Same.{same_queue, is_front}
use Rattle.verbs_rules.specs.OfOne.{WorkQueue, CompletionQueue}
use Rattle.verbs_model.specs.Queues.{AllQueues, parts_of, with_completions, with_end, no_queue}
use Rattle.verbs_model.specs.Tables.{Tables, place_of, queue_at, completions_at, completions_are_in, all_of, state_of}
use Rattle.verbs_laws.proofs.Families.{among}
use Rattle.verbs_model.proofs.TableQueues.{queue_at-set, queue_at_place, all_of-set_completions}
use Rattle.verbs_laws.proofs.Sameness.{is_front-true}
use Rattle.verbs_model.proofs.Parts.{with_ends, parts_of-polled}

-- how many completions a front has
pub front_length : (xs : List Completion) (us : List Unpolled) → is_front xs us ≡ true → length xs ≡ length (take (length xs) us)
front_length xs us h = ap length (is_front-true xs us h) ∙ length-map (take (length xs) us) (λ (u : Unpolled). u.completion)

pub front_within : (xs : List Completion) (us : List Unpolled) → is_front xs us ≡ true → length xs ≤ length us
front_within xs us h = let long = front_length xs us h ∙ length-take (length xs) us in omega arith

-- a queue of one of so many queue pairs
abbrev lives_in : ℕ → Queue → Bool
lives_in pairs (Send qp) = is_among FIRST_QP pairs qp
lives_in pairs (Recv qp) = is_among FIRST_QP pairs qp
lives_in pairs (Shared srq) = false

lives_in_lem : (t : Tables) (queue : Queue) → lives_in (length t.pairs) queue ≡ queue_lives (state_of t) queue
lives_in_lem t (Send qp) = refl
lives_in_lem t (Recv qp) = refl
lives_in_lem t (Shared srq) = refl

place_inside : (pairs : ℕ) (queue : Queue) → lives_in pairs queue ≡ true → place_of queue < 2 * pairs
place_inside pairs (Send qp) h = let inside = among FIRST_QP pairs qp h in omega arith
place_inside pairs (Recv qp) h = let inside = among FIRST_QP pairs qp h in omega arith
place_inside pairs (Shared srq) h = absurd (cc)

-- the queue of each completion lives
abbrev pub AreLiving : ℕ → List Unpolled → Type 0
AreLiving pairs [] = Unit {0}
AreLiving pairs (u ∷ us) = (lives_in pairs u.completion.queue ≡ true) × AreLiving pairs us

living_by_names : (t : Tables) (us : List Unpolled) → list_all (names_living (state_of t)) (map (λ (u : Unpolled). u.completion) us) ≡ true → AreLiving (length t.pairs) us
living_by_names t [] h = tt
living_by_names t (u ∷ us) h =
    let parts = and_parts _ _ h in
    (lives_in_lem t u.completion.queue ∙ (and_parts _ _ parts.0).0, living_by_names t us parts.1)

-- the front of completions that name living objects
pub living_front : (t : Tables) (xs : List Completion) (us : List Unpolled) → is_front xs us ≡ true → list_all (names_living (state_of t)) xs ≡ true → AreLiving (length t.pairs) (take (length xs) us)
living_front t xs us front named = living_by_names t (take (length xs) us) (rw (is_front-true xs us front) at named)

pub placed_by_living : (pairs : ℕ) (us : List Unpolled) → AreLiving pairs us → ArePlaced (2 * pairs) us
placed_by_living pairs [] h = All-nil (λ (u : Unpolled). place_of u.completion.queue < 2 * pairs)
placed_by_living pairs (u ∷ us) h = All-cons (λ (v : Unpolled). place_of v.completion.queue < 2 * pairs) u us (place_inside pairs u.completion.queue h.0) (placed_by_living pairs us h.1)

-- the family of the lists with ends is the family with ends
all_of-ended : (t : Tables) (us : List Unpolled) → length t.queues ≡ 2 * length t.pairs → AreLiving (length t.pairs) us
    → all_of (record t { queues = ended t.queues us }) ≡ record (all_of t) { queues = with_ends (queue_at t) (map (λ (u : Unpolled). u.completion) us) us }
all_of-ended t [] both living = refl
all_of-ended t (u ∷ us) both living =
    let q = u.completion.queue in
    let place = place_of q in
    let e = with_end (get_or t.queues place no_queue) u.number in
    let t' : Tables = record t { queues = set t.queues place e } in
    let lives = sym (lives_in_lem t q) ∙ living.0 in
    let inside : place < length t.queues = let in_pairs = place_inside (length t.pairs) q living.0 in omega arith in
    let rest = all_of-ended t' us (length-set t.queues place e ∙ both) living.1 in
    let ends : e ≡ with_end (queue_at t q) u.number = ap (λ (w : WorkQueue). with_end w u.number) (sym (queue_at_place t q lives)) in
    let family : queue_at t' ≡ put same_queue (queue_at t) q (with_end (queue_at t q) u.number) =
    (λ i other. queue_at-set t q e lives inside other i) ∙ ap (put same_queue (queue_at t) q) ends in
    rest ∙ ap (λ (f : Queue → WorkQueue). record (all_of t) { queues = with_ends f (map (λ (w : Unpolled). w.completion) us) us }) family

-- ends are added for the completions that were taken alone
with_ends_front : (queues : Queue → WorkQueue) (xs : List Completion) (us : List Unpolled) → with_ends queues xs (take (length xs) us) ≡ with_ends queues xs us
with_ends_front queues [] us = refl
with_ends_front queues (x ∷ xs) [] = refl
with_ends_front queues (x ∷ xs) (u ∷ us) = with_ends_front (put same_queue queues x.queue (with_end (queues x.queue) u.number)) xs us

pub state_of-polled : (t : Tables) (cq : ℕ) (xs : List Completion) (queues : List WorkQueue) (before later : CompletionQueue)
    → length t.queues ≡ 2 * length t.pairs → completions_are_in t cq ≡ true → before ≡ completions_at t cq
    → is_front xs before.unpolled ≡ true → list_all (names_living (state_of t)) xs ≡ true
    → queues ≡ ended t.queues (take (length xs) before.unpolled) → later ≡ record before { unpolled = drop (length xs) before.unpolled }
    → state_of (record t { queues = queues; completions = set t.completions cq later }) ≡ poll (state_of t) cq xs
state_of-polled t cq xs queues before later both lives read front named made polled =
    let us = before.unpolled in
    let n = length xs in
    let t' : Tables = record t { queues = queues } in
    let added : all_of t' ≡ record (all_of t) { queues = with_ends (queue_at t) (map (λ (u : Unpolled). u.completion) (take n us)) (take n us) } =
    ap (λ (q : List WorkQueue). all_of (record t { queues = q })) made ∙ all_of-ended t (take n us) both (living_front t xs us front named) in
    let same : with_ends (queue_at t) (map (λ (u : Unpolled). u.completion) (take n us)) (take n us) ≡ with_ends (queue_at t) xs us =
    ap (λ (ys : List Completion). with_ends (queue_at t) ys (take n us)) (sym (is_front-true xs us front)) ∙ with_ends_front (queue_at t) xs us in
    let all_added : all_of t' ≡ record (all_of t) { queues = with_ends (queue_at t) xs us } = added ∙ ap (λ (f : Queue → WorkQueue). record (all_of t) { queues = f }) same in
    let polled_all = all_of-set_completions t' cq later lives
    ∙ (ap (λ (v : AllQueues). with_completions v cq later) all_added
    ∙ (ap (with_completions (record (all_of t) { queues = with_ends (queue_at t) xs us }) cq) polled
    ∙ ap (λ (c : CompletionQueue). with_completions (record (all_of t) { queues = with_ends (queue_at t) xs c.unpolled }) cq (record c { unpolled = drop n c.unpolled })) read)) in
    ap parts_of polled_all ∙ parts_of-polled (all_of t) cq xs
