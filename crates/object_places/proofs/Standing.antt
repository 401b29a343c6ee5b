-- Where a declared object stands in the map.
use Rattle.std.proofs.Common.{◌≡◌, ℕ, ◌+◌, ◌-◌, ◌<◌, ◌≤◌, length, ap, subst, arith, List, [], ◌∷◌, suc, refl}
use Rattle.verbs_types.specs.declared.declaration.Lines.{Lines}
use Rattle.verbs_types.specs.declared.declaration.TheConstants.{FIRST_QP}
use Rattle.actor_map.specs.declared.kind.ObjectKind.TheVariants.{Cq, Qp}
use Rattle.actor_map.specs.declared.sizes.TheConstants.{FIRST_OBJECT}
use Rattle.actor_map.specs.Apart.{AreInside, IsWhole, begins, size}
use Rattle.actor_map.specs.Map.{IsMapped, map_of, place}
use Rattle.actor_map.specs.Sizes.{cq_words, qp_words, firsts, sizes, words_of}
use Rattle.object_places.specs.Places.{cq_line, no_cq, qp_line, no_qp}
use Rattle.object_places.proofs.Lines.{IsQpNumber}

-- an object of so many words has this place among all objects
pub record Stands (d : Lines) (i words : ℕ) : Type 0 where
  pub listed : i < length (sizes d)
  pub size_is : size d i ≡ words
  pub low : FIRST_OBJECT ≤ begins d i
  pub high : begins d i + words ≤ words_of d

length_firsts : (n : ℕ) (xs : List ℕ) → length (firsts n xs) ≡ length xs
length_firsts n [] = refl
length_firsts n (x ∷ xs) = ap suc (length_firsts (n + x) xs)

stands : AreInside → (d : Lines) (i words : ℕ) → i < length (firsts FIRST_OBJECT (sizes d)) → size d i ≡ words → Stands d i words
stands inside d i words below is =
    let listed : i < length (sizes d) = omega (arith, below, length_firsts FIRST_OBJECT (sizes d)) in
    let within = inside d i listed in
    record { listed = listed; size_is = is; low = within.0; high = omega (arith, within.1, is) }

module _ (whole : IsWhole) (inside : AreInside) (d : Lines) where
  pub cq_mapped : (cq : ℕ) → cq < length d.cqs → IsMapped (map_of d) Cq cq
  cq_mapped cq below = ((whole d).cqs cq no_cq below).0

  pub cq_stands : (cq : ℕ) → cq < length d.cqs → Stands d (place (map_of d) Cq cq) (cq_words (cq_line d cq))
  cq_stands cq below =
      let mapped = (whole d).cqs cq no_cq below in
      stands inside d (place (map_of d) Cq cq) (cq_words (cq_line d cq)) (omega (arith, below, mapped.0.1)) mapped.1

  number_is : (qp : ℕ) → FIRST_QP ≤ qp → FIRST_QP + (qp - FIRST_QP) ≡ qp
  number_is qp low = omega (arith, low)

  pub qp_mapped : (qp : ℕ) → IsQpNumber d qp → IsMapped (map_of d) Qp qp
  qp_mapped qp h = subst (λ n. IsMapped (map_of d) Qp n) (number_is qp h.low) ((whole d).qps (qp - FIRST_QP) no_qp h.below).0

  pub qp_stands : (qp : ℕ) → IsQpNumber d qp → Stands d (place (map_of d) Qp qp) (qp_words (qp_line d qp))
  qp_stands qp h =
      let words : size d (place (map_of d) Qp qp) ≡ qp_words (qp_line d qp) =
      subst (λ n. size d (place (map_of d) Qp n) ≡ qp_words (qp_line d qp)) (number_is qp h.low) ((whole d).qps (qp - FIRST_QP) no_qp h.below).1
      in
      stands inside d (place (map_of d) Qp qp) (qp_words (qp_line d qp)) (qp_mapped qp h).1 words
