-- The turns of a plan, item by item and round by round.
use Rattle.std.proofs.Common.{◌≡◌, ℕ, zero, suc, ◌+◌, ◌*◌, ◌<◌, ◌≤◌, List, [], ◌∷◌, ◌++◌, length, take, replicate, refl, sym, ◌∙◌, ap, subst, arith, Option, None, Some, slice_get, slice_index_or, append-nil, length-append, append_assoc}
use Rattle.std.specs.Prelude.{IfSome}
use Rattle.std.specs.List.{flat_map, sum_by, All, range_with_len}
use Rattle.std.proofs.lemmas.List.{length-replicate, take_more, take_all}
use Rattle.std.proofs.lemmas.List.Concat.{flat_map-append}
use Rattle.std.proofs.lemmas.List.Sums.{sum_by_more_le, sum_by-cons}
use Rattle.std.proofs.Math.Nat.{suc-mul, mul-le-mul_right}
use Rattle.std.proofs.lemmas.Option.{get_or_from_slice_get, slice_get_within}
use Rattle.scenario_text.specs.declared.scenario.Plan.{Plan}
use Rattle.scenario_text.specs.declared.scenario.Plan.TheVariants.{Idle, Schedule, Rounds}
use Rattle.scenario_text.specs.declared.scenario.PlanItem.{PlanItem}
use Rattle.scenario_text.specs.declared.scenario.ScenarioParts.{ScenarioParts}
use Rattle.scenario_text.specs.Limits.{times_of, turn_count, round_of, rounds_of}
use Rattle.scenario_text.specs.Running.{CanRun, IsActorOf, items_of_plan}
use Rattle.world_core.specs.World.{WorldView, rounds_of_plan, turns_of_items}

item_actor : (threads : ℕ) (items : List PlanItem) (i : ℕ) (x : PlanItem) → All (IsActorOf threads) items → slice_get items i ≡ Some x → x.actor ≤ threads
item_actor threads [] i x h e = absurd (cc e)
item_actor threads (y ∷ ys) zero x h e = let same : y ≡ x = cc e in subst (λ (z : PlanItem). z.actor ≤ threads) same (h 0 y (omega arith))
item_actor threads (y ∷ ys) (suc i) x h e = item_actor threads ys i x (λ k z low. h (suc k) z (omega (arith, low))) e

-- an item of the plan names the adapter or a thread
pub planned_actor : (s : ScenarioParts) (i : ℕ) (x : PlanItem) → CanRun s → slice_get (items_of_plan s.plan) i ≡ Some x → x.actor ≤ length s.programs
planned_actor s i x can e = let low : x.actor ≤ length s.lines.threads = item_actor (length s.lines.threads) (items_of_plan s.plan) i x can.plan.0 e in omega (arith, low, can.paired)

pub planned_some : (s : ScenarioParts) (i : ℕ) (item : Option PlanItem) → CanRun s → item ≡ slice_get (items_of_plan s.plan) i → IfSome item (λ (x : PlanItem). x.actor ≤ length s.programs)
planned_some s i None can e = tt
planned_some s i (Some x) can e = planned_actor s i x can (sym e)

abbrev pub item_turns : PlanItem → List ℕ
item_turns i = replicate (times_of i) i.actor

pub length_turns : (items : List PlanItem) → length (flat_map item_turns items) ≡ sum_by times_of items
length_turns [] = refl
length_turns (i ∷ items) =
    let one : length (item_turns i) ≡ times_of i = simp length-replicate in
    let both : length (item_turns i ++ flat_map item_turns items) ≡ length (item_turns i) + length (flat_map item_turns items) = length-append (item_turns i) (flat_map item_turns items) in
    omega (arith, one, both, length_turns items, sum_by-cons times_of i items)

-- the items make no more turns than the plan
pub count_most : (threads : ℕ) (p : Plan) → sum_by times_of (items_of_plan p) ≤ turn_count threads p
count_most threads Idle = omega arith
count_most threads (Schedule items) = omega arith
count_most threads (Rounds n) = omega arith

-- the next item of a plan
pub turns_more : (p : Plan) (i : ℕ) (x : PlanItem) → slice_get (items_of_plan p) i ≡ Some x → flat_map item_turns (take i (items_of_plan p)) ++ item_turns x ≡ flat_map item_turns (take (i + 1) (items_of_plan p))
turns_more p i x e =
    let items : List PlanItem = items_of_plan p in
    let there : slice_index_or items i x ≡ x = get_or_from_slice_get items i x x e in
    let one : flat_map item_turns (x ∷ []) ≡ item_turns x = append-nil (item_turns x) in
    sym
    (ap (flat_map item_turns) (take_more items i x (slice_get_within items i x e) ∙ ap (λ (y : PlanItem). take i items ++ y ∷ []) there)
    ∙ flat_map-append item_turns (take i items) (x ∷ [])
    ∙ ap (λ ts. flat_map item_turns (take i items) ++ ts) one)

pub turns_fit : (threads : ℕ) (p : Plan) (i : ℕ) (x : PlanItem) → slice_get (items_of_plan p) i ≡ Some x → length (flat_map item_turns (take i (items_of_plan p))) + times_of x ≤ turn_count threads p
turns_fit threads p i x e =
    let items : List PlanItem = items_of_plan p in
    let there : slice_index_or items i x ≡ x = get_or_from_slice_get items i x x e in
    let times : times_of (slice_index_or items i x) ≡ times_of x = ap times_of there in
    omega (arith, length_turns (take i items), sum_by_more_le times_of items i x (slice_get_within items i x e), times, count_most threads p)

pub planned_more : (now made : WorldView) (s : ScenarioParts) (i : ℕ) (x : PlanItem) (count : ℕ) → now ≡ record { parts = s; turns = flat_map item_turns (take i (items_of_plan s.plan)) } → slice_get (items_of_plan now.parts.plan) i ≡ Some x → count ≡ times_of x
    → made ≡ record now { turns = now.turns ++ replicate count x.actor }
    → made ≡ record { parts = s; turns = flat_map item_turns (take (i + 1) (items_of_plan s.plan)) }
planned_more now made s i x count is item times more =
    let there : slice_get (items_of_plan s.plan) i ≡ Some x = ap (λ (v : WorldView). slice_get (items_of_plan v.parts.plan) i) (sym is) ∙ item in
    more
    ∙ ap (λ (v : WorldView). record v { turns = v.turns ++ replicate count x.actor }) is
    ∙ ap (λ (ts : List ℕ). record { parts = s; turns = flat_map item_turns (take i (items_of_plan s.plan)) ++ ts }) (ap (λ n. replicate n x.actor) times)
    ∙ ap (λ (ts : List ℕ). record { parts = s; turns = ts }) (turns_more s.plan i x there)

pub planned_all : (s : ScenarioParts) (i : ℕ) → length (items_of_plan s.plan) ≤ i → flat_map item_turns (take i (items_of_plan s.plan)) ≡ turns_of_items (items_of_plan s.plan)
planned_all s i far = ap (flat_map item_turns) (take_all i (items_of_plan s.plan) far)

pub item_there : (p : Plan) (i : ℕ) → i < length (items_of_plan p) → slice_get (items_of_plan p) i ≡ None → ⊥
item_there p i low none = absurd (past (items_of_plan p) i low none)
  where
    past : (xs : List PlanItem) (n : ℕ) → n < length xs → slice_get xs n ≡ None → ⊥
    past [] n low e = omega (arith, low)
    past (x ∷ xs) zero low e = cc e
    past (x ∷ xs) (suc n) low e = past xs n (omega (arith, low)) e

-- Rounds

-- a plan of rounds has so many turns
pub count_is_rounds : (threads n : ℕ) (p : Plan) → rounds_of_plan p ≡ Some n → n * (threads + 1) ≡ turn_count threads p
count_is_rounds threads n Idle e = absurd (cc e)
count_is_rounds threads n (Schedule items) e = absurd (cc e)
count_is_rounds threads n (Rounds m) e = let same : m ≡ n = cc e in ap (λ k. k * (threads + 1)) (sym same)

pub range_more : (first n : ℕ) → range_with_len first n ++ (first + n) ∷ [] ≡ range_with_len first (suc n)
range_more first zero = ap (λ k. k ∷ []) (let e : first + 0 ≡ first = omega arith in e)
range_more first (suc n) = ap (λ (ks : List ℕ). first ∷ ks) (ap (λ k. range_with_len (first + 1) n ++ k ∷ []) (let e : first + suc n ≡ first + 1 + n = omega arith in e) ∙ range_more (first + 1) n)

pub length_range : (first n : ℕ) → length (range_with_len first n) ≡ n
length_range first zero = refl
length_range first (suc n) = ap suc (length_range (first + 1) n)

pub length_round : (threads : ℕ) → length (round_of threads) ≡ threads + 1
length_round threads = length-append (range_with_len 1 threads) (0 ∷ []) ∙ ap (λ n. n + 1) (length_range 1 threads)

pub length_rounds : (threads n : ℕ) → length (rounds_of threads n) ≡ n * (threads + 1)
length_rounds threads zero = omega arith
length_rounds threads (suc n) =
    let both : length (rounds_of threads (suc n)) ≡ length (round_of threads) + length (rounds_of threads n) = length-append (round_of threads) (rounds_of threads n) in
    omega (arith, both, length_round threads, length_rounds threads n, suc-mul n (threads + 1))

pub rounds_more : (threads n : ℕ) → rounds_of threads n ++ round_of threads ≡ rounds_of threads (suc n)
rounds_more threads zero = sym (append-nil (round_of threads))
rounds_more threads (suc n) = append_assoc (round_of threads) (rounds_of threads n) (round_of threads) ∙ ap (λ (ts : List ℕ). round_of threads ++ ts) (rounds_more threads n)

-- one more round fits
pub round_fits : (threads i n : ℕ) → i < n → i * (threads + 1) + (threads + 1) ≤ n * (threads + 1)
round_fits threads i n low = let up : suc i * (threads + 1) ≤ n * (threads + 1) = mul-le-mul_right (threads + 1) low in omega (arith, up, suc-mul i (threads + 1))

-- The turns of a round

pub round_left : (now : WorldView) (s : ScenarioParts) (ts : List ℕ) (k : ℕ) → now ≡ record { parts = s; turns = ts ++ range_with_len 1 k } → k ≤ length s.lines.threads → length ts + length s.lines.threads + 1 ≤ turn_count (length s.lines.threads) s.plan
    → length now.turns < turn_count (length now.parts.lines.threads) now.parts.plan
round_left now s ts k is le room =
    let long : length (ts ++ range_with_len 1 k) ≡ length ts + length (range_with_len 1 k) = length-append ts (range_with_len 1 k) in
    subst (λ (v : WorldView). length v.turns < turn_count (length v.parts.lines.threads) v.parts.plan) (sym is) (omega (arith, long, length_range 1 k, le, room))

pub round_more : (now made : WorldView) (s : ScenarioParts) (ts : List ℕ) (k : ℕ) → now ≡ record { parts = s; turns = ts ++ range_with_len 1 k } → made ≡ record now { turns = now.turns ++ (k + 1) ∷ [] } → made ≡ record { parts = s; turns = ts ++ range_with_len 1 (k + 1) }
round_more now made s ts k is more =
    let next : k + 1 ≡ 1 + k = omega arith in
    let up : suc k ≡ k + 1 = omega arith in
    more
    ∙ ap (λ (v : WorldView). record v { turns = v.turns ++ (k + 1) ∷ [] }) is
    ∙ ap (λ (us : List ℕ). record { parts = s; turns = us })
    (append_assoc ts (range_with_len 1 k) ((k + 1) ∷ []) ∙ ap (λ (us : List ℕ). ts ++ us) (ap (λ j. range_with_len 1 k ++ j ∷ []) next ∙ range_more 1 k ∙ ap (range_with_len 1) up))

-- The rounds of a plan

pub rounds_left : (now : WorldView) (s : ScenarioParts) (i n : ℕ) → now ≡ record { parts = s; turns = rounds_of (length s.lines.threads) i } → i < n → rounds_of_plan s.plan ≡ Some n
    → length now.turns + length now.parts.lines.threads + 1 ≤ turn_count (length now.parts.lines.threads) now.parts.plan
rounds_left now s i n is low rounds =
    subst (λ (v : WorldView). length v.turns + length v.parts.lines.threads + 1 ≤ turn_count (length v.parts.lines.threads) v.parts.plan) (sym is)
    (omega (arith, length_rounds (length s.lines.threads) i, round_fits (length s.lines.threads) i n low, count_is_rounds (length s.lines.threads) n s.plan rounds))

pub rounds_next : (now made : WorldView) (s : ScenarioParts) (i : ℕ) → now ≡ record { parts = s; turns = rounds_of (length s.lines.threads) i } → made ≡ record now { turns = now.turns ++ round_of (length now.parts.lines.threads) } → made ≡ record { parts = s; turns = rounds_of (length s.lines.threads) (i + 1) }
rounds_next now made s i is more =
    let up : suc i ≡ i + 1 = omega arith in
    more
    ∙ ap (λ (v : WorldView). record v { turns = v.turns ++ round_of (length v.parts.lines.threads) }) is
    ∙ ap (λ (us : List ℕ). record { parts = s; turns = us }) (rounds_more (length s.lines.threads) i ∙ ap (rounds_of (length s.lines.threads)) up)
