-- Lines that are placed one after another.
use Rattle.std.proofs.Common.{◌≡◌, ℕ, suc, ◌+◌, ◌<◌, ◌≤◌, List, [], ◌∷◌, ◌++◌, length, map, take, get_or, sym, ap, ◌∙◌, subst, append_assoc, arith}
use Rattle.std.specs.List.{sum_by}
use Rattle.std.proofs.Math.Seq.{take-suc}
use Rattle.std.proofs.lemmas.List.{map-append}
use Rattle.std.proofs.lemmas.List.Sums.{sum-map, sum_by-append, sum_by_more_le}
use Rattle.actor_map.specs.declared.placed.Placed.{Placed}
use Rattle.actor_map.specs.declared.sizes.TheConstants.{FIRST_OBJECT}
use Rattle.actor_map.specs.Places.{Places}
use Rattle.actor_map.specs.Sizes.{firsts}
use Rattle.actor_map.proofs.Firsts.{firsts_append}

-- what was placed in two parts
pub places_both : (a b c : Placed) (xs ys : List ℕ) → Places a b xs → Places b c ys → Places a c (xs ++ ys)
places_both a b c xs ys p q = record {
  first_words =
      q.first_words ∙ ap (λ l. l ++ firsts b.next ys) p.first_words ∙ append_assoc a.first_words.items (firsts a.next xs) (firsts b.next ys)
      ∙ ap (λ n. a.first_words.items ++ (firsts a.next xs ++ firsts n ys)) p.next
      ∙ ap (λ l. a.first_words.items ++ l) (sym (firsts_append a.next xs ys));
  next = omega (arith, p.next, q.next, sum_by-append (λ n. n) xs ys);
}

module _ {X : Type 0} (f : X → ℕ) (xs : List X) (i : ℕ) (x : X) (below : i < length xs) where
  next_taken : map f (take (suc i) xs) ≡ map f (take i xs) ++ f (get_or xs i x) ∷ []
  next_taken = ap (map f) (take-suc xs i x below) ∙ map-append f (take i xs) (get_or xs i x ∷ [])

  pub places_next : (a b c : Placed) → Places a b (map f (take i xs)) → Places b c (f (get_or xs i x) ∷ []) → Places a c (map f (take (i + 1) xs))
  places_next a b c p q =
      let more : suc i ≡ i + 1 = omega arith in
      subst (λ n. Places a c (map f (take n xs))) more (subst (λ sizes. Places a c sizes) (sym next_taken) (places_both a b c (map f (take i xs)) (f (get_or xs i x) ∷ []) p q))

  pub room_left : (a b : Placed) (room : ℕ) → Places a b (map f (take i xs)) → a.next + sum_by f xs ≤ room → b.next + f (get_or xs i x) ≤ room
  room_left a b room p h = omega (arith, p.next, h, sum-map f (take i xs), sum_by_more_le f xs i x below)

-- from nothing, three lists of objects
pub placed_all : (a b c d : Placed) (xs ys zs : List ℕ) → a.first_words.items ≡ [] → a.next ≡ FIRST_OBJECT → Places a b xs → Places b c ys → Places c d zs → d.first_words.items ≡ firsts FIRST_OBJECT (xs ++ ys ++ zs)
placed_all a b c d xs ys zs nothing first p q r =
    let all_of : Places a d (xs ++ ys ++ zs) = places_both a c d (xs ++ ys) zs (places_both a b c xs ys p q) r in
    all_of.first_words ∙ ap (λ l. l ++ firsts a.next (xs ++ ys ++ zs)) nothing ∙ ap (λ n. firsts n (xs ++ ys ++ zs)) first
