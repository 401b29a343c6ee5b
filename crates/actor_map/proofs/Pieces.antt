-- Where the words of each object stand among those of all.
use Rattle.std.proofs.Common.{◌≡◌, ℕ, zero, suc, ◌+◌, ◌-◌, ◌<◌, List, [], ◌∷◌, ◌++◌, length, map, get_or, refl, sym, ap, ◌∙◌, append_assoc, arith}
use Rattle.std.specs.List.{flat_map}
use Rattle.std.proofs.lemmas.Grind.{flat_map-append}
use Rattle.std.proofs.lemmas.List.{get_or-append-add, get_or_append_left, length-append, length-map, map-append}
use Rattle.verbs_types.specs.declared.declaration.EqLine.{EqLine}
use Rattle.verbs_types.specs.declared.declaration.CqLine.{CqLine}
use Rattle.verbs_types.specs.declared.declaration.QpLine.{QpLine}
use Rattle.verbs_types.specs.declared.declaration.Lines.{Lines}
use Rattle.verbs_types.specs.declared.declaration.TheConstants.{FIRST_QP}
use Rattle.actor_map.specs.declared.sizes.TheConstants.{FIRST_OBJECT}
use Rattle.actor_map.specs.Sizes.{cq_words, eq_words, firsts, qp_words, sizes}
use Rattle.actor_map.specs.Start.{cq_start, eq_start, head_start, qp_start, start_words, starts}
use Rattle.actor_map.specs.Started.{HaveStarts}
use Rattle.actor_map.proofs.Starts.{length_of_cq, length_of_eq, length_of_head, length_of_qp}

abbrev joined : List (List ℕ) → List ℕ
joined ps = flat_map (λ (p : List ℕ). p) ps

piece_at : (n : ℕ) (before : List ℕ) (ps : List (List ℕ)) (i k : ℕ) → length before ≡ n → i < length ps → k < length (get_or ps i []) → get_or (before ++ joined ps) (get_or (firsts n (map length ps)) i 0 + k) 0 ≡ get_or (get_or ps i []) k 0
piece_at n before [] i k long below inside = absurd (omega (arith, below))
piece_at n before (p ∷ ps) zero k long below inside =
    ap (λ m. get_or (before ++ (p ++ joined ps)) (m + k) 0) (sym long) ∙ get_or-append-add before (p ++ joined ps) k 0 ∙ get_or_append_left p (joined ps) 0 k inside
piece_at n before (p ∷ ps) (suc i) k long below inside =
    ap (λ l. get_or l (get_or (firsts (n + length p) (map length ps)) i 0 + k) 0) (sym (append_assoc before p (joined ps)))
    ∙ piece_at (n + length p) (before ++ p) ps i k (length-append before p ∙ ap (λ m. m + length p) long) (omega (arith, below)) inside

joined_map : {X : Type 0} (f : X → List ℕ) (xs : List X) → joined (map f xs) ≡ flat_map f xs
joined_map f [] = refl
joined_map f (x ∷ xs) = ap (λ l. f x ++ l) (joined_map f xs)

lengths_are : {X : Type 0} (f : X → List ℕ) (g : X → ℕ) → ((x : X) → length (f x) ≡ g x) → (xs : List X) → map length (map f xs) ≡ map g xs
lengths_are f g same [] = refl
lengths_are f g same (x ∷ xs) = λ i. same x i ∷ lengths_are f g same xs i

get_map : {X : Type 0} (f : X → List ℕ) (xs : List X) (n : ℕ) (x : X) → n < length xs → get_or (map f xs) n [] ≡ f (get_or xs n x)
get_map f [] n x below = absurd (omega (arith, below))
get_map f (y ∷ ys) zero x below = refl
get_map f (y ∷ ys) (suc n) x below = get_map f ys n x (omega (arith, below))

abbrev pieces : Lines → List (List ℕ)
pieces d = map eq_start d.eqs ++ map cq_start d.cqs ++ map qp_start d.qps

module _ (d : Lines) where
  sizes_are : map length (pieces d) ≡ sizes d
  sizes_are =
      map-append length (map eq_start d.eqs ++ map cq_start d.cqs) (map qp_start d.qps) ∙ ap (λ l. l ++ map length (map qp_start d.qps)) (map-append length (map eq_start d.eqs) (map cq_start d.cqs))
      ∙ λ i. lengths_are eq_start eq_words length_of_eq d.eqs i ++ lengths_are cq_start cq_words length_of_cq d.cqs i ++ lengths_are qp_start qp_words length_of_qp d.qps i

  joined_are : joined (pieces d) ≡ flat_map eq_start d.eqs ++ flat_map cq_start d.cqs ++ flat_map qp_start d.qps
  joined_are =
      flat_map-append (λ (p : List ℕ). p) (map eq_start d.eqs ++ map cq_start d.cqs) (map qp_start d.qps)
      ∙ ap (λ l. l ++ joined (map qp_start d.qps)) (flat_map-append (λ (p : List ℕ). p) (map eq_start d.eqs) (map cq_start d.cqs))
      ∙ λ i. joined_map eq_start d.eqs i ++ joined_map cq_start d.cqs i ++ joined_map qp_start d.qps i

  starts_are : (w : ℕ) → starts d w ≡ head_start w ++ joined (pieces d)
  starts_are w =
      let first = flat_map eq_start d.eqs in
      let second = flat_map cq_start d.cqs in
      let third = flat_map qp_start d.qps in
      ap (λ l. l ++ third) (append_assoc (head_start w) first second) ∙ append_assoc (head_start w) (first ++ second) third ∙ ap (λ l. head_start w ++ l) (sym joined_are)

  object_at : (w i k : ℕ) → i < length (pieces d) → k < length (get_or (pieces d) i []) → start_words d w (get_or (firsts FIRST_OBJECT (sizes d)) i 0 + k) ≡ get_or (get_or (pieces d) i []) k 0
  object_at w i k below inside =
      ap (λ l. get_or l (get_or (firsts FIRST_OBJECT (sizes d)) i 0 + k) 0) (starts_are w)
      ∙ ap (λ s. get_or (head_start w ++ joined (pieces d)) (get_or (firsts FIRST_OBJECT s) i 0 + k) 0) (sym sizes_are)
      ∙ piece_at FIRST_OBJECT (head_start w) (pieces d) i k (length_of_head w) below inside

  -- the same where the piece is known
  known_at : (w i k : ℕ) (p : List ℕ) → i < length (pieces d) → get_or (pieces d) i [] ≡ p → k < length p → start_words d w (get_or (firsts FIRST_OBJECT (sizes d)) i 0 + k) ≡ get_or p k 0
  known_at w i k p below same inside = object_at w i k below (omega (arith, inside, ap length same)) ∙ ap (λ l. get_or l k 0) same

  length_of_pieces : length (pieces d) ≡ length d.eqs + length d.cqs + length d.qps
  length_of_pieces =
      omega (
        arith,
        length-append (map eq_start d.eqs ++ map cq_start d.cqs) (map qp_start d.qps),
        length-append (map eq_start d.eqs) (map cq_start d.cqs),
        length-map d.eqs eq_start,
        length-map d.cqs cq_start,
        length-map d.qps qp_start,
      )

  eq_piece : (n : ℕ) (l : EqLine) → n < length d.eqs → get_or (pieces d) n [] ≡ eq_start (get_or d.eqs n l)
  eq_piece n l below =
      ap (λ xs. get_or xs n []) (append_assoc (map eq_start d.eqs) (map cq_start d.cqs) (map qp_start d.qps))
      ∙ get_or_append_left (map eq_start d.eqs) (map cq_start d.cqs ++ map qp_start d.qps) [] n (omega (arith, below, length-map d.eqs eq_start))
      ∙ get_map eq_start d.eqs n l below

  cq_piece : (n : ℕ) (l : CqLine) → n < length d.cqs → get_or (pieces d) (length d.eqs + n) [] ≡ cq_start (get_or d.cqs n l)
  cq_piece n l below =
      ap (λ xs. get_or xs (length d.eqs + n) []) (append_assoc (map eq_start d.eqs) (map cq_start d.cqs) (map qp_start d.qps))
      ∙ ap (λ k. get_or (map eq_start d.eqs ++ (map cq_start d.cqs ++ map qp_start d.qps)) (k + n) []) (sym (length-map d.eqs eq_start))
      ∙ get_or-append-add (map eq_start d.eqs) (map cq_start d.cqs ++ map qp_start d.qps) n []
      ∙ get_or_append_left (map cq_start d.cqs) (map qp_start d.qps) [] n (omega (arith, below, length-map d.cqs cq_start))
      ∙ get_map cq_start d.cqs n l below

  qp_piece : (n : ℕ) (l : QpLine) → n < length d.qps → get_or (pieces d) (length d.eqs + length d.cqs + (FIRST_QP + n - FIRST_QP)) [] ≡ qp_start (get_or d.qps n l)
  qp_piece n l below =
      let place : length d.eqs + length d.cqs + (FIRST_QP + n - FIRST_QP) ≡ length (map eq_start d.eqs ++ map cq_start d.cqs) + n =
      omega (arith, length-append (map eq_start d.eqs) (map cq_start d.cqs), length-map d.eqs eq_start, length-map d.cqs cq_start)
      in
      ap (λ k. get_or (pieces d) k []) place ∙ get_or-append-add (map eq_start d.eqs ++ map cq_start d.cqs) (map qp_start d.qps) n [] ∙ get_map qp_start d.qps n l below

pub starts_of : HaveStarts
starts_of = λ d w. record {
  eqs = λ n k l below inside. known_at d w n k (eq_start (get_or d.eqs n l)) (omega (arith, length_of_pieces d, below)) (eq_piece d n l below) (omega (arith, inside, length_of_eq (get_or d.eqs n l)));
  cqs = λ n k l below inside. known_at d w (length d.eqs + n) k (cq_start (get_or d.cqs n l)) (omega (arith, length_of_pieces d, below)) (cq_piece d n l below) (omega (arith, inside, length_of_cq (get_or d.cqs n l)));
  qps = λ n k l below inside.
      known_at d w (length d.eqs + length d.cqs + (FIRST_QP + n - FIRST_QP)) k (qp_start (get_or d.qps n l)) (omega (arith, length_of_pieces d, below)) (qp_piece d n l below)
      (omega (arith, inside, length_of_qp (get_or d.qps n l)));
}
