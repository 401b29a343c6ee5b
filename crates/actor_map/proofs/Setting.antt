-- Words that are set one after another.
use Rattle.std.proofs.Common.{◌≡◌, ℕ, suc, ◌+◌, ◌-◌, ◌*◌, ◌<◌, ◌≤◌, List, replicate, [], ◌∷◌, ◌++◌, length, take, drop, get_or, refl, sym, ap, ◌∙◌, subst, append_assoc, arith}
use Rattle.std.specs.List.{flat_map}
use Rattle.std.proofs.Math.Seq.{take-suc}
use Rattle.std.proofs.lemmas.Grind.{flat_map-append}
use Rattle.std.proofs.lemmas.List.{append-nil, drop-drop, length-append, length-replicate, replicate_more, take-append-drop}
use Rattle.std.proofs.lemmas.List.Folds.{length-flat_map-take, sum_by-replicate}
use Rattle.std.proofs.lemmas.List.Concat.{length-flat_map}
use Rattle.bus_core.specs.Plain.{Plain}
use Rattle.actor_map.specs.Setting.{CanSet, Sets}
use Rattle.actor_map.specs.Start.{entries, entry}

pub sets_none : (a : Plain) (from : ℕ) → Sets a a from [] from
sets_none a from = record { behind_is = omega arith; set = sym (append-nil (take from a.start)); kept = refl; long = refl; rest = refl }

-- what was set in two parts
pub sets_both : (a b c : Plain) (from middle behind : ℕ) (xs ys : List ℕ) → Sets a b from xs middle → Sets b c middle ys behind → Sets a c from (xs ++ ys) behind
sets_both a b c from middle behind xs ys p q =
    let further : middle + (behind - middle) ≡ behind = omega (arith, q.behind_is) in
    let past : (l : List ℕ) → drop behind l ≡ drop (behind - middle) (drop middle l) = λ l. sym (drop-drop (behind - middle) middle l ∙ ap (λ n. drop n l) further) in
    record {
      behind_is = omega (arith, p.behind_is, q.behind_is, length-append xs ys);
      set = q.set ∙ ap (λ l. l ++ ys) p.set ∙ append_assoc (take from a.start) xs ys;
      kept = q.kept ∙ past b.start ∙ ap (drop (behind - middle)) p.kept ∙ sym (past a.start);
      long = q.long ∙ p.long;
      rest = q.rest ∙ ap (λ (m : Plain). record m { start = c.start }) p.rest;
    }

-- there is room for the second part
pub can_set_more : (a b : Plain) (from middle count more : ℕ) (xs : List ℕ) → Sets a b from xs middle → CanSet a from count → length xs + more ≤ count → CanSet b middle more
can_set_more a b from middle count more xs p h fits = record {
  empty = ap (λ (m : Plain). m.trace) p.rest ∙ h.empty;
  inside = omega (arith, p.behind_is, p.long, h.inside, fits);
  few = omega (arith, p.behind_is, h.few, fits);
}

pub can_set_less : (a : Plain) (from count less : ℕ) → CanSet a from count → less ≤ count → CanSet a from less
can_set_less a from count less h fits = record { empty = h.empty; inside = omega (arith, h.inside, fits); few = omega (arith, h.few, fits) }

module _ {X : Type 0} (f : X → List ℕ) (xs : List X) (i : ℕ) (x : X) (below : i < length xs) where
  next_taken : flat_map f (take (i + 1) xs) ≡ flat_map f (take i xs) ++ f (get_or xs i x)
  next_taken =
      let more : i + 1 ≡ suc i = omega arith in
      ap (λ n. flat_map f (take n xs)) more ∙ ap (flat_map f) (take-suc xs i x below) ∙ flat_map-append f (take i xs) (get_or xs i x ∷ [])
      ∙ ap (λ l. flat_map f (take i xs) ++ l) (append-nil (f (get_or xs i x)))

  pub sets_next : (a b c : Plain) (from middle behind : ℕ) → Sets a b from (flat_map f (take i xs)) middle → Sets b c middle (f (get_or xs i x)) behind → Sets a c from (flat_map f (take (i + 1) xs)) behind
  sets_next a b c from middle behind p q = subst (λ l. Sets a c from l behind) (sym next_taken) (sets_both a b c from middle behind (flat_map f (take i xs)) (f (get_or xs i x)) p q)

  pub can_set_next : (a b : Plain) (from middle : ℕ) → Sets a b from (flat_map f (take i xs)) middle → CanSet a from (length (flat_map f xs)) → CanSet b middle (length (f (get_or xs i x)))
  can_set_next a b from middle p h = can_set_more a b from middle (length (flat_map f xs)) (length (f (get_or xs i x))) (flat_map f (take i xs)) p h (length-flat_map-take f xs i x below)

-- from word 0 on
pub sets_all : (a b : Plain) (xs : List ℕ) (behind : ℕ) → Sets a b 0 xs behind → b ≡ record a { start = xs ++ drop behind a.start }
sets_all a b xs behind p = p.rest ∙ ap (λ (l : List ℕ). record a { start = l }) (sym (take-append-drop behind b.start) ∙ (λ i. p.set i ++ p.kept i))

entries_next : (n owner : ℕ) → entries (n + 1) owner ≡ entries n owner ++ entry owner
entries_next n owner =
    ap (flat_map entry) (sym (replicate_more n owner)) ∙ flat_map-append entry (replicate n owner) (owner ∷ []) ∙ ap (λ l. entries n owner ++ l) (append-nil (entry owner))

pub length_of_entries : (n owner : ℕ) → length (entries n owner) ≡ 8 * n
length_of_entries n owner = length-flat_map entry (replicate n owner) ∙ sum_by-replicate (λ o. length (entry o)) n owner ∙ omega arith

module _ (a b c : Plain) (from middle behind n : ℕ) where
  pub sets_entry : (owner : ℕ) → Sets a b from (entries n owner) middle → Sets b c middle (entry owner) behind → Sets a c from (entries (n + 1) owner) behind
  sets_entry owner p q = subst (λ l. Sets a c from l behind) (sym (entries_next n owner)) (sets_both a b c from middle behind (entries n owner) (entry owner) p q)

  pub sets_zero : Sets a b from (replicate n 0) middle → Sets b c middle (0 ∷ []) behind → Sets a c from (replicate (n + 1) 0) behind
  sets_zero p q = subst (λ l. Sets a c from l behind) (replicate_more n 0) (sets_both a b c from middle behind (replicate n 0) (0 ∷ []) p q)

pub can_set_entry : (a b : Plain) (from middle n count owner : ℕ) → Sets a b from (entries n owner) middle → CanSet a from (length (entries count owner)) → n < count → CanSet b middle 8
can_set_entry a b from middle n count owner p h below = can_set_more a b from middle (length (entries count owner)) 8 (entries n owner) p h (omega (arith, below, length_of_entries n owner, length_of_entries count owner))

pub can_set_zero : (a b : Plain) (from middle n count : ℕ) → Sets a b from (replicate n 0) middle → CanSet a from count → n < count → CanSet b middle 1
can_set_zero a b from middle n count p h below = can_set_more a b from middle count 1 (replicate n 0) p h (omega (arith, below, length-replicate {A = ℕ} n 0))
