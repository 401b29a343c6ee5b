-- The words of declared objects.
use Rattle.std.proofs.Common.{◌≡◌, ℕ, zero, suc, ◌+◌, ◌-◌, ◌<◌, List, [], ◌∷◌, ◌++◌, length, map, get_or, refl, sym, ap, ◌∙◌, append_assoc, arith}
use Rattle.std.specs.List.{sum}
use Rattle.std.proofs.lemmas.List.{length-append, length-map, get_or_append_left, get_or-append-add}
use Rattle.std.proofs.lemmas.List.Sums.{sum-map, sum_by-append}
use Rattle.verbs_types.specs.declared.declaration.EqLine.{EqLine}
use Rattle.verbs_types.specs.declared.declaration.CqLine.{CqLine}
use Rattle.verbs_types.specs.declared.declaration.QpLine.{QpLine}
use Rattle.verbs_types.specs.declared.declaration.Lines.{Lines}
use Rattle.verbs_types.specs.declared.declaration.TheConstants.{FIRST_QP}
use Rattle.actor_map.specs.declared.sizes.TheConstants.{FIRST_OBJECT}
use Rattle.actor_map.specs.Apart.{AreApart, AreInside, IsWhole}
use Rattle.actor_map.specs.Sizes.{cq_words, eq_words, firsts, qp_words, sizes, words_of}
use Rattle.actor_map.proofs.Firsts.{from_first, length_firsts, one_after_another, within_all}

pub apart_of : AreApart
apart_of = λ d i j before below. one_after_another FIRST_OBJECT (sizes d) i j before below

pub sum_of_sizes : (d : Lines) → FIRST_OBJECT + sum (sizes d) ≡ words_of d
sum_of_sizes d =
    omega (
      arith,
      sum_by-append (λ n. n) (map eq_words d.eqs ++ map cq_words d.cqs) (map qp_words d.qps),
      sum_by-append (λ n. n) (map eq_words d.eqs) (map cq_words d.cqs),
      sum-map eq_words d.eqs,
      sum-map cq_words d.cqs,
      sum-map qp_words d.qps,
    )

pub inside_of : AreInside
inside_of = λ d i below. (from_first FIRST_OBJECT (sizes d) i below, omega (arith, within_all FIRST_OBJECT (sizes d) i below, sum_of_sizes d))

get_map : {X : Type 0} (f : X → ℕ) (xs : List X) (n : ℕ) (x : X) → n < length xs → get_or (map f xs) n 0 ≡ f (get_or xs n x)
get_map f [] n x below = absurd (omega (arith, below))
get_map f (y ∷ ys) zero x below = refl
get_map f (y ∷ ys) (suc n) x below = get_map f ys n x (omega (arith, below))

length_of_sizes : (d : Lines) → length (firsts FIRST_OBJECT (sizes d)) ≡ length d.eqs + length d.cqs + length d.qps
length_of_sizes d =
    omega (
      arith,
      length_firsts FIRST_OBJECT (sizes d),
      length-append (map eq_words d.eqs ++ map cq_words d.cqs) (map qp_words d.qps),
      length-append (map eq_words d.eqs) (map cq_words d.cqs),
      length-map d.eqs eq_words,
      length-map d.cqs cq_words,
      length-map d.qps qp_words,
    )

size_of_eq : (d : Lines) (n : ℕ) (l : EqLine) → n < length d.eqs → get_or (sizes d) n 0 ≡ eq_words (get_or d.eqs n l)
size_of_eq d n l below =
    ap (λ xs. get_or xs n 0) (append_assoc (map eq_words d.eqs) (map cq_words d.cqs) (map qp_words d.qps))
    ∙ get_or_append_left (map eq_words d.eqs) (map cq_words d.cqs ++ map qp_words d.qps) 0 n (omega (arith, below, length-map d.eqs eq_words))
    ∙ get_map eq_words d.eqs n l below

size_of_cq : (d : Lines) (n : ℕ) (l : CqLine) → n < length d.cqs → get_or (sizes d) (length d.eqs + n) 0 ≡ cq_words (get_or d.cqs n l)
size_of_cq d n l below =
    ap (λ xs. get_or xs (length d.eqs + n) 0) (append_assoc (map eq_words d.eqs) (map cq_words d.cqs) (map qp_words d.qps))
    ∙ ap (λ k. get_or (map eq_words d.eqs ++ (map cq_words d.cqs ++ map qp_words d.qps)) (k + n) 0) (sym (length-map d.eqs eq_words))
    ∙ get_or-append-add (map eq_words d.eqs) (map cq_words d.cqs ++ map qp_words d.qps) n 0
    ∙ get_or_append_left (map cq_words d.cqs) (map qp_words d.qps) 0 n (omega (arith, below, length-map d.cqs cq_words))
    ∙ get_map cq_words d.cqs n l below

size_of_qp : (d : Lines) (n : ℕ) (l : QpLine) → n < length d.qps → get_or (sizes d) (length d.eqs + length d.cqs + n) 0 ≡ qp_words (get_or d.qps n l)
size_of_qp d n l below =
    let before : length (map eq_words d.eqs ++ map cq_words d.cqs) ≡ length d.eqs + length d.cqs =
    omega (arith, length-append (map eq_words d.eqs) (map cq_words d.cqs), length-map d.eqs eq_words, length-map d.cqs cq_words)
    in
    ap (λ k. get_or (sizes d) (k + n) 0) (sym before) ∙ get_or-append-add (map eq_words d.eqs ++ map cq_words d.cqs) (map qp_words d.qps) n 0 ∙ get_map qp_words d.qps n l below

pub whole_of : IsWhole
whole_of = λ d. record {
  eqs = λ n l below. ((below, omega (arith, length_of_sizes d)), size_of_eq d n l below);
  cqs = λ n l below. ((below, omega (arith, length_of_sizes d)), size_of_cq d n l below);
  qps = λ n l below.
      let same : length d.eqs + length d.cqs + (FIRST_QP + n - FIRST_QP) ≡ length d.eqs + length d.cqs + n = omega arith in
      ((omega arith, omega (arith, length_of_sizes d, below)), ap (λ k. get_or (sizes d) k 0) same ∙ size_of_qp d n l below);
}
