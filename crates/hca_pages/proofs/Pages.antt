-- Lists of pages: what is among them, and that they are all different.
use Rattle.std.proofs.Common.{◌≡◌, ◌≢◌, ℕ, ◌+◌, ◌%◌, ◌<◌, sym, ◌∙◌, subst, arith, inl, inr, true, false, ◌||◌, not, eqb, List, [], ◌∷◌, ◌++◌, length, get_or, take, drop, None, append_assoc, length-drop}
use Rattle.std.specs.List.{All, AllPairs, Contains}
use Rattle.std.proofs.lemmas.Bool.{cases_Bool, and_parts, eqb-true, eq-eqb, not-true, both_ways}
use Rattle.std.proofs.lemmas.List.{get_or-take, get_or-drop, length-take, append-nil}
use Rattle.std.proofs.lemmas.List.Elements.{All-push, All-take}
use Rattle.std.proofs.lemmas.List.Folds.{Any-from_list_any, list_any_at, list_any-append}
use Rattle.std.proofs.lemmas.List.Quantifiers.{all_pairs_push}
use Rattle.hca_pages.specs.declared.page.TheConstants.{PAGE_SIZE}
use Rattle.hca_pages.specs.Page.{is_among, is_fit, first_unfit}

pub among_contains : (page : ℕ) (pages : List ℕ) → is_among page pages ≡ true → Contains pages page
among_contains page pages h =
    let any = Any-from_list_any (λ other. eqb other page) pages h in
    let same : any.1 ≡ page = eqb-true any.1 page any.4 in
    (any.0, any.2, subst (λ (x : ℕ). get_or pages any.0 x ≡ x) same any.3)

pub contains_among : (page : ℕ) (pages : List ℕ) → Contains pages page → is_among page pages ≡ true
contains_among page pages h = list_any_at (λ other. eqb other page) pages h.0 page h.1 (eq-eqb (get_or pages h.0 page) page h.2)

pub among-append : (page : ℕ) (xs ys : List ℕ) → is_among page (xs ++ ys) ≡ (is_among page xs || is_among page ys)
among-append page xs ys = list_any-append (λ other. eqb other page) xs ys

-- all different, and multiples of the page size
pub record AreGood (pages : List ℕ) : Type 0 where
  pub aligned : All (λ page. page % PAGE_SIZE ≡ 0) pages
  pub different : AllPairs (λ page other. page ≢ other) pages

AreGood-push : (pages : List ℕ) (page : ℕ) → AreGood pages → is_fit pages page ≡ true → AreGood (pages ++ page ∷ [])
AreGood-push pages page good fits =
    let parts = and_parts (eqb (page % PAGE_SIZE) 0) (not (is_among page pages)) fits in
    record {
      aligned = All-push (λ (p : ℕ). p % PAGE_SIZE ≡ 0) pages page good.aligned (eqb-true (page % PAGE_SIZE) 0 parts.0);
      different = all_pairs_push (λ (p q : ℕ). p ≢ q) pages page good.different
          (λ k d inside same. both_ways (is_among page pages) (not-true (is_among page pages) parts.1) (list_any_at (λ other. eqb other page) pages k d inside (eq-eqb (get_or pages k d) page same)));
    }

-- pages of which none is unfit can be given
pub AreGood-append : (held pages : List ℕ) → AreGood held → first_unfit held pages ≡ None → AreGood (held ++ pages)
AreGood-append held [] good none = subst AreGood (sym (append-nil held)) good
AreGood-append held (page ∷ pages) good none = elim (cases_Bool (is_fit held page)) [
  | inl fits ↦ subst AreGood (append_assoc held (page ∷ []) pages) (AreGood-append (held ++ page ∷ []) pages (AreGood-push held page good fits) (rw fits at none))
  | inr unfit ↦ absurd (let some = rw unfit at none in cc)
]

pub AreGood-take : (n : ℕ) (pages : List ℕ) → AreGood pages → AreGood (take n pages)
AreGood-take n pages good = record {
  aligned = All-take (λ (p : ℕ). p % PAGE_SIZE ≡ 0) n pages good.aligned;
  different = λ i j d low high same.
      let bound : j < length pages = omega (arith, length-take n pages) in
      let below : j < n = omega (arith, length-take n pages) in
      good.different i j d low bound (sym (get_or-take n pages i d (omega arith)) ∙ (same ∙ get_or-take n pages j d below));
}

-- a page is not both among the first n and among the rest
pub apart : (n page : ℕ) (pages : List ℕ) → AreGood pages → is_among page (take n pages) ≡ true → is_among page (drop n pages) ≡ false
apart n page pages good front = elim (cases_Bool (is_among page (drop n pages))) [
  | inl back ↦
      let f = among_contains page (take n pages) front in
      let b = among_contains page (drop n pages) back in
      let low : f.0 < n = omega (arith, f.1, length-take n pages) in
      let high : n + b.0 < length pages = omega (arith, b.1, length-drop n pages) in
      absurd (good.different f.0 (n + b.0) page (omega arith) high (sym (get_or-take n pages f.0 page low) ∙ (f.2 ∙ sym (sym (get_or-drop n pages b.0 page) ∙ b.2))))
  | inr none ↦ none
]
