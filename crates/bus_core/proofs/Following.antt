-- Lists whose items are allowed one after another.
use Rattle.std.proofs.Common.{◌≡◌, Bool, true, false, List, [], ◌∷◌, ◌++◌, refl, sym, subst, inl, inr}
use Rattle.std.specs.Prelude.{map}
use Rattle.std.specs.List.{fold, filter, AllByRecursion}
use Rattle.std.proofs.lemmas.Bool.{cases_Bool}
use Rattle.bus_core.specs.Follow.{Follows}
use Rattle.bus_core.proofs.Lists.{filter_takes, filter_skips}

pub fold-push : {S E : Type 0} (next : S → E → S) (s : S) (xs : List E) (e : E) → fold next s (xs ++ e ∷ []) ≡ next (fold next s xs) e
fold-push next s [] e = refl
fold-push next s (x ∷ xs) e = fold-push next (next s x) xs e

-- one more item
pub Follows-push : {S E : Type 0} (allowed : S → E → Type 0) (next : S → E → S) (s : S) (xs : List E) (e : E) → Follows allowed next s xs → allowed (fold next s xs) e → Follows allowed next s (xs ++ e ∷ [])
Follows-push allowed next s [] e h a = (a, tt)
Follows-push allowed next s (x ∷ xs) e h a = (h.0, Follows-push allowed next (next s x) xs e h.1 a)

-- lists that follow one another
pub Follows-append : {S E : Type 0} (allowed : S → E → Type 0) (next : S → E → S) (s : S) (xs ys : List E) → Follows allowed next s xs → Follows allowed next (fold next s xs) ys → Follows allowed next s (xs ++ ys)
Follows-append allowed next s [] ys h k = k
Follows-append allowed next s (x ∷ xs) ys h k = (h.0, Follows-append allowed next (next s x) xs ys h.1 k)

-- what allows more
pub Follows_weaker : {S E : Type 0} (allowed allowed' : S → E → Type 0) (next : S → E → S) → ((s : S) (e : E) → allowed s e → allowed' s e) → (s : S) (xs : List E) → Follows allowed next s xs → Follows allowed' next s xs
Follows_weaker allowed allowed' next more s [] h = tt
Follows_weaker allowed allowed' next more s (x ∷ xs) h = (more s x h.0, Follows_weaker allowed allowed' next more (next s x) xs h.1)

-- the images of items are allowed where the items are, as images
pub Follows-map : {S X E : Type 0} (allowed : S → E → Type 0) (next : S → E → S) (f : X → E) (s : S) (xs : List X) → Follows allowed next s (map f xs) → Follows (λ (t : S) (x : X). allowed t (f x)) (λ (t : S) (x : X). next t (f x)) s xs
Follows-map allowed next f s [] h = tt
Follows-map allowed next f s (x ∷ xs) h = (h.0, Follows-map allowed next f (next s (f x)) xs h.1)

pub map-Follows : {S X E : Type 0} (allowed : S → E → Type 0) (next : S → E → S) (f : X → E) (s : S) (xs : List X) → Follows (λ (t : S) (x : X). allowed t (f x)) (λ (t : S) (x : X). next t (f x)) s xs → Follows allowed next s (map f xs)
map-Follows allowed next f s [] h = tt
map-Follows allowed next f s (x ∷ xs) h = (h.0, map-Follows allowed next f (next s (f x)) xs h.1)

-- what a machine of parts keeps, a part keeps over its own items
pub Follows_part : {S T E : Type 0} (route : E → Bool) (may : S → E → Type 0) (next : S → E → S) (may' : T → E → Type 0) (next' : T → E → T) (part : S → T)
    → ((s : S) (e : E) → route e ≡ true → may s e → may' (part s) e)
    → ((s : S) (e : E) → route e ≡ true → part (next s e) ≡ next' (part s) e)
    → ((s : S) (e : E) → route e ≡ false → part (next s e) ≡ part s)
    → (s : S) (es : List E) → Follows may next s es → Follows may' next' (part s) (filter route es)
Follows_part route may next may' next' part keeps moves stays s [] h = tt
Follows_part route may next may' next' part keeps moves stays s (e ∷ es) h =
    let rest = Follows_part route may next may' next' part keeps moves stays (next s e) es h.1 in
    elim (cases_Bool (route e)) [
      | inl r ↦ subst (Follows may' next' (part s)) (sym (filter_takes route e es r)) (keeps s e r h.0, subst (λ t. Follows may' next' t (filter route es)) (moves s e r) rest)
      | inr r ↦ subst (Follows may' next' (part s)) (sym (filter_skips route e es r)) (subst (λ t. Follows may' next' t (filter route es)) (stays s e r) rest)
    ]

-- a rule without a state
pub Follows_All : {E : Type 0} (P : E → Type 0) (test : E → Bool) (es : List E) → AllByRecursion P es → Follows (λ (u : Unit {0}) (e : E). P e) (λ (u : Unit {0}) (e : E). u) tt (filter test es)
Follows_All P test [] h = tt
Follows_All {E = E} P test (e ∷ es) h =
    let rest = Follows_All P test es h.1 in
    let Q : List E → Type 0 = Follows (λ (u : Unit {0}) (x : E). P x) (λ (u : Unit {0}) (x : E). u) tt in
    elim (cases_Bool (test e)) [
      | inl t ↦ subst Q (sym (filter_takes test e es t)) (h.0, rest)
      | inr t ↦ subst Q (sym (filter_skips test e es t)) rest
    ]
