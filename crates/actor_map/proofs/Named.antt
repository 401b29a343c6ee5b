-- The words of an object that do not begin as 0.
use Rattle.std.proofs.Common.{◌≡◌, ℕ, zero, suc, ◌+◌, ◌-◌, ◌*◌, ◌%◌, ◌^◌, ◌<◌, List, [], ◌∷◌, ◌++◌, length, replicate, get_or, refl, sym, ap, ◌∙◌, arith}
use Rattle.std.proofs.lemmas.List.{get_or-append-add, get_or-replicate, get_or_append_left, length-replicate}
use Rattle.verbs_types.specs.declared.declaration.EqLine.{EqLine}
use Rattle.verbs_types.specs.declared.declaration.CqLine.{CqLine}
use Rattle.verbs_types.specs.declared.declaration.QpLine.{QpLine}
use Rattle.actor_map.specs.Sizes.{receive_words, send_words}
use Rattle.actor_map.specs.Start.{cq_start, entries, entry, eq_start, no_arm, qp_start}
use Rattle.actor_map.specs.Started.{AreNamed}
use Rattle.actor_map.proofs.Setting.{length_of_entries}

-- an entry in front of others is passed by eight
owner_at : (n owner i : ℕ) → i < n → get_or (entries n owner) (8 * i + 7) 0 ≡ owner
owner_at zero owner i below = absurd (omega (arith, below))
owner_at (suc n) owner zero below = refl
owner_at (suc n) owner (suc i) below =
    let place : 8 * suc i + 7 ≡ 8 + (8 * i + 7) = omega arith in
    ap (λ k. get_or (entry owner ++ entries n owner) k 0) place ∙ get_or-append-add (entry owner) (entries n owner) (8 * i + 7) 0 ∙ owner_at n owner i (omega (arith, below))

owner_before : (n owner i : ℕ) (rest : List ℕ) → i < n → get_or (entries n owner ++ rest) (8 * i + 7) 0 ≡ owner
owner_before n owner i rest below = get_or_append_left (entries n owner) rest 0 (8 * i + 7) (omega (arith, below, length_of_entries n owner)) ∙ owner_at n owner i below

-- a word behind so many others
behind : (xs ys : List ℕ) (n k : ℕ) → length xs ≡ n → get_or (xs ++ ys) (n + k) 0 ≡ get_or ys k 0
behind xs ys n k long = ap (λ m. get_or (xs ++ ys) (m + k) 0) (sym long) ∙ get_or-append-add xs ys k 0

one_of_two : (w : ℕ) (rest : List ℕ) (k : ℕ) → k < 2 → get_or (w ∷ w ∷ rest) k 0 ≡ w
one_of_two w rest zero below = refl
one_of_two w rest (suc zero) below = refl
one_of_two w rest (suc (suc k)) below = absurd (omega (arith, below))

-- what stands behind the areas of a completion queue, and behind both queues of a queue pair
abbrev cq_end : CqLine → List ℕ
cq_end l = (l.start % 2 ^ 24) ∷ (l.start % 2 ^ 24) ∷ no_arm ∷ 0 ∷ []

abbrev qp_end : QpLine → List ℕ
qp_end l = (l.start % 2 ^ 16) ∷ (l.start % 2 ^ 16) ∷ 0 ∷ []

areas_long : (l : CqLine) → length (entries (2 * 2 ^ l.ceiling) 240) ≡ 16 * 2 ^ l.ceiling
areas_long l = omega (arith, length_of_entries (2 * 2 ^ l.ceiling) 240)

queues_long : (l : QpLine) → length (replicate {A = ℕ} (send_words l + receive_words l) 0) ≡ send_words l + receive_words l
queues_long l = length-replicate {A = ℕ} (send_words l + receive_words l) 0

pub named_of : AreNamed
named_of = record {
  eq_owner = λ l i below. owner_before (2 ^ l.log) 1 i (0 ∷ 0 ∷ []) below;
  cq_owner = λ l i below. owner_before (2 * 2 ^ l.ceiling) 240 i (cq_end l) below;
  cq_records = λ l k below. behind (entries (2 * 2 ^ l.ceiling) 240) (cq_end l) (16 * 2 ^ l.ceiling) k (areas_long l) ∙ one_of_two (l.start % 2 ^ 24) (no_arm ∷ 0 ∷ []) k below;
  cq_arm = λ l. behind (entries (2 * 2 ^ l.ceiling) 240) (cq_end l) (16 * 2 ^ l.ceiling) 2 (areas_long l);
  qp_queues = λ l k below.
      get_or_append_left (replicate {A = ℕ} (send_words l + receive_words l) 0) (qp_end l) 0 k (omega (arith, below, queues_long l)) ∙ get_or-replicate (send_words l + receive_words l) k 0 0 below;
  qp_records = λ l k below.
      behind (replicate {A = ℕ} (send_words l + receive_words l) 0) (qp_end l) (send_words l + receive_words l) k (queues_long l) ∙ one_of_two (l.start % 2 ^ 16) (0 ∷ []) k below;
}
