-- The bus before the first turn, and the threads one by one.
use Rattle.std.proofs.Common.{◌≡◌, ◌∙◌, refl, sym, ap, subst, arith, ℕ, zero, suc, ◌+◌, ◌<◌, ◌≤◌, ◌++◌, List, [], ◌∷◌, length, drop, replicate, append-nil, Some, None, slice_get, slice_index_or}
use Rattle.std.proofs.lemmas.List.{length-replicate}
use Rattle.bus_core.specs.Plain.{Plain}
use Rattle.verbs_types.specs.declared.declaration.Lines.{Lines}
use Rattle.actor_map.specs.Sizes.{words_of}
use Rattle.actor_map.specs.Start.{starts}
use Rattle.world_core.specs.Start.{IsFirstBus}

all_dropped : (n : ℕ) (xs : List ℕ) → length xs ≤ n → drop n xs ≡ []
all_dropped zero [] le = refl
all_dropped zero (x ∷ xs) le = absurd (omega (arith, le))
all_dropped (suc n) [] le = refl
all_dropped (suc n) (x ∷ xs) le = all_dropped n xs (omega (arith, le))

pub first_bus_is : (d : Lines) (count room : ℕ) (bus new : Plain) → count ≡ words_of d → bus ≡ record { actor = 0; start = replicate count 0; trace = []; room = room } → length new.start ≡ length bus.start
    → new ≡ record { actor = bus.actor; start = starts d 1 ++ drop (words_of d) bus.start; trace = bus.trace; room = bus.room } → IsFirstBus d room new
first_bus_is d count room bus new counted bus_is long new_is =
    let zeros : length (replicate {A = ℕ} count 0) ≡ count = length-replicate {A = ℕ} count 0 in
    let wide : length bus.start ≡ count = ap (λ (b : Plain). length b.start) bus_is ∙ zeros in
    let rest : drop (words_of d) bus.start ≡ [] = all_dropped (words_of d) bus.start (omega (arith, wide, counted)) in
    let held : new.room ≡ room = ap (λ (b : Plain). b.room) new_is ∙ ap (λ (b : Plain). b.room) bus_is in
    record {
      start = ap (λ (b : Plain). b.start) new_is ∙ ap (λ (ws : List ℕ). starts d 1 ++ ws) rest ∙ append-nil (starts d 1);
      words = long ∙ wide ∙ counted;
      trace = ap (λ (b : Plain). b.trace) new_is ∙ ap (λ (b : Plain). b.trace) bus_is;
      room_is = omega (arith, held);
    }

-- what holds of each item and of one more holds of each
pub pushed : {X : Type 0} (P : ℕ → X → Type 0) (xs : List X) (x : X) → ((t : ℕ) (v : X) → slice_get xs t ≡ Some v → P t v) → P (length xs) x → (t : ℕ) (v : X) → slice_get (xs ++ x ∷ []) t ≡ Some v → P t v
pushed P [] x each last zero v there = let same : x ≡ v = cc there in subst (P 0) same last
pushed P [] x each last (suc t) v there = absurd (cc there)
pushed P (y ∷ xs) x each last zero v there = each 0 v there
pushed P (y ∷ xs) x each last (suc t) v there = pushed (λ (k : ℕ) (w : _). P (suc k) w) xs x (λ k w at_k. each (suc k) w at_k) (let e : length (y ∷ xs) ≡ suc (length xs) = omega arith in subst (λ k. P k x) e last) t v there

-- an item that is there does not depend on what else would be taken
pub any_default : {X : Type 0} (xs : List X) (k : ℕ) (a b : X) → k < length xs → slice_index_or xs k a ≡ slice_index_or xs k b
any_default [] k a b low = absurd (omega (arith, low))
any_default (x ∷ xs) zero a b low = refl
any_default (x ∷ xs) (suc k) a b low = any_default xs k a b (omega (arith, low))
