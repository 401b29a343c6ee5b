-- The lines of a text, from its pieces.
use Rattle.std.proofs.Common.{◌≡◌, ◌≢◌, ℕ, ◌==◌, Bool, true, false, cond, List, [], ◌∷◌, ◌++◌, refl, sym, ap, ◌∙◌, subst, append_assoc, append-nil, arith}
use Rattle.std.specs.List.{AllByRecursion, flat_map}
use Rattle.std.proofs.lemmas.Bool.Decides.{nat_tests}
use Rattle.mlx5_dump.specs.Lines.{AreAnswers, HasLines, HasNoEnd, with_end}
use Rattle.mlx5_dump.specs.Feeding.{AddsLine, Feeds, Keeps, begun, ended}

pub answers-append : (xs ys : List (List ℕ)) (s t : List ℕ) → AreAnswers xs s → AreAnswers ys t → AreAnswers (xs ++ ys) (s ++ t)
answers-append [] ys s t none are = subst (λ s. AreAnswers ys (s ++ t)) (sym none) are
answers-append (x ∷ xs) ys s t is are =
    (is.0, is.1 ++ t, is.2, answers-append xs ys is.1 t is.3 are, ap (λ l. l ++ t) is.4 ∙ append_assoc (with_end is.0) is.1 t)

-- two pieces, one after the other
ended_either : (t : Bool) (a b c d : List (List ℕ)) (x y q : List ℕ) → a ≡ c ++ ended x q → b ≡ d ++ ended y q → cond t a b ≡ cond t c d ++ ended (cond t x y) q
ended_either true a b c d x y q first second = first
ended_either false a b c d x y q first second = second

pub ended-append : (line p q : List ℕ) → ended line (p ++ q) ≡ ended line p ++ ended (begun line p) q
ended-append line [] q = refl
ended-append line (byte ∷ p) q =
    ended_either (byte == 10) _ _ _ _ (begun [] p) (begun (line ++ byte ∷ []) p) q (ap (λ l. line ∷ l) (ended-append [] p q)) (ended-append (line ++ byte ∷ []) p q)

begun_either : (t : Bool) (a b x y q : List ℕ) → a ≡ begun x q → b ≡ begun y q → cond t a b ≡ begun (cond t x y) q
begun_either true a b x y q first second = first
begun_either false a b x y q first second = second

pub begun-append : (line p q : List ℕ) → begun line (p ++ q) ≡ begun (begun line p) q
begun-append line [] q = refl
begun-append line (byte ∷ p) q = begun_either (byte == 10) _ _ (begun [] p) (begun (line ++ byte ∷ []) p) q (begun-append [] p q) (begun-append (line ++ byte ∷ []) p q)

-- the lines that end and the one that has begun are the text
spelled_either : (t : Bool) (byte : ℕ) (line text : List ℕ) (a b : List (List ℕ)) (x y : List ℕ) → (byte == 10) ≡ t
    → text ≡ flat_map with_end a ++ x → (line ++ byte ∷ []) ++ text ≡ flat_map with_end b ++ y
    → line ++ byte ∷ text ≡ flat_map with_end (cond t (line ∷ a) b) ++ cond t x y
spelled_either true byte line text a b x y test first second =
    let is_end : byte ≡ 10 = grind (arith, nat_tests, test) in
    ap (λ n. line ++ n ∷ text) is_end ∙ sym (append_assoc line (10 ∷ []) text) ∙ ap (λ l. with_end line ++ l) first ∙ sym (append_assoc (with_end line) (flat_map with_end a) x)
spelled_either false byte line text a b x y test first second = sym (append_assoc line (byte ∷ []) text) ∙ second

spelled : (line text : List ℕ) → line ++ text ≡ flat_map with_end (ended line text) ++ begun line text
spelled line [] = append-nil line
spelled line (byte ∷ text) = spelled_either (byte == 10) byte line text _ _ _ _ refl (spelled [] text) (spelled (line ++ byte ∷ []) text)

-- one more byte of a line
no_end_more : (line : List ℕ) (byte : ℕ) → HasNoEnd line → byte ≢ 10 → HasNoEnd (line ++ byte ∷ [])
no_end_more [] byte none is = (is, tt)
no_end_more (b ∷ line) byte none is = (none.0, no_end_more line byte none.1 is)

no_ends_either : (t : Bool) (byte : ℕ) (line : List ℕ) (a b : List (List ℕ)) → (byte == 10) ≡ t → HasNoEnd line
    → AllByRecursion HasNoEnd a → (HasNoEnd (line ++ byte ∷ []) → AllByRecursion HasNoEnd b) → AllByRecursion HasNoEnd (cond t (line ∷ a) b)
no_ends_either true byte line a b test none first second = (none, first)
no_ends_either false byte line a b test none first second = second (no_end_more line byte none (λ e. grind (arith, nat_tests, test, e)))

no_ends : (line text : List ℕ) → HasNoEnd line → AllByRecursion HasNoEnd (ended line text)
no_ends line [] none = tt
no_ends line (byte ∷ text) none = no_ends_either (byte == 10) byte line _ _ refl none (no_ends [] text tt) (λ more. no_ends (line ++ byte ∷ []) text more)

no_end_either : (t : Bool) (byte : ℕ) (line x y : List ℕ) → (byte == 10) ≡ t → HasNoEnd line
    → HasNoEnd x → (HasNoEnd (line ++ byte ∷ []) → HasNoEnd y) → HasNoEnd (cond t x y)
no_end_either true byte line x y test none first second = first
no_end_either false byte line x y test none first second = second (no_end_more line byte none (λ e. grind (arith, nat_tests, test, e)))

no_end : (line text : List ℕ) → HasNoEnd line → HasNoEnd (begun line text)
no_end line [] none = none
no_end line (byte ∷ text) none = no_end_either (byte == 10) byte line _ _ refl none (no_end [] text tt) (λ more. no_end (line ++ byte ∷ []) text more)

pub in_lines : (line text : List ℕ) → HasNoEnd line → HasLines (line ++ text) (ended line text) (begun line text)
in_lines line text none = record { spelled = spelled line text; each = no_ends line text none; rest = no_end line text none }

-- nothing was fed yet
pub feeds_nothing : (line kept old : List ℕ) → Keeps kept line → Feeds line [] kept old old
feeds_nothing line kept old keeps = record { answers = []; answered = refl; grown = sym (append-nil old); keeps = keeps }

-- one more byte, which ends a line
pub feeds_end : (line piece kept old mid new : List ℕ) → Feeds line piece kept old mid → ((l : List ℕ) → Keeps kept l → AddsLine l mid new) → Feeds line (piece ++ 10 ∷ []) [] old new
feeds_end line piece kept old mid new fed adds =
    let added = adds (begun line piece) fed.keeps in
    let last : AreAnswers (begun line piece ∷ []) (with_end added.answer) = (added.answer, [], added.answered, refl, sym (append-nil _)) in
    record {
      answers = fed.answers ++ with_end added.answer;
      answered = subst (λ lines. AreAnswers lines (fed.answers ++ with_end added.answer)) (sym (ended-append line piece (10 ∷ []))) (answers-append (ended line piece) (begun line piece ∷ []) fed.answers (with_end added.answer) fed.answered last);
      grown = added.grown ∙ ap (λ l. l ++ with_end added.answer) fed.grown ∙ append_assoc old fed.answers (with_end added.answer);
      keeps = subst (Keeps []) (sym (begun-append line piece (10 ∷ []))) refl;
    }

-- and one that does not
ended_one : (t : Bool) (line : List ℕ) (byte : ℕ) → (byte == 10) ≡ t → byte ≢ 10 → (ended line (byte ∷ []) ≡ []) × (begun line (byte ∷ []) ≡ line ++ byte ∷ [])
ended_one true line byte test is = absurd (is (grind (arith, nat_tests, test)))
ended_one false line byte test is = (rw test refl, rw test refl)

pub feeds_more : (line piece kept old new : List ℕ) (byte : ℕ) (now : List ℕ) → Feeds line piece kept old new → byte ≢ 10 → ((l : List ℕ) → Keeps kept l → Keeps now (l ++ byte ∷ []))
    → Feeds line (piece ++ byte ∷ []) now old new
feeds_more line piece kept old new byte now fed is more =
    let one = ended_one (byte == 10) (begun line piece) byte refl is in
    record {
      answers = fed.answers;
      answered = subst (λ lines. AreAnswers lines fed.answers) (sym (ended-append line piece (byte ∷ []) ∙ ap (λ l. ended line piece ++ l) one.0 ∙ append-nil (ended line piece))) fed.answered;
      grown = fed.grown;
      keeps = subst (Keeps now) (sym (begun-append line piece (byte ∷ []) ∙ one.1)) (more (begun line piece) fed.keeps);
    }
