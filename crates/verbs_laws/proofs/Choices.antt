-- A family of which one value was changed, by cases on which one is meant.
use Rattle.std.proofs.Common.{◌≡◌, ◌≢◌, ◌⊎◌, inl, inr, ℕ, ◌==◌, Bool, true, false, if◌then◌else◌, refl, sym, ◌∙◌, subst}
use Rattle.std.proofs.lemmas.Bool.{eq-eqb, eqb-true, false≢true}
use Rattle.verbs_types.specs.declared.completion.Queue.{Queue}
use Rattle.verbs_types.specs.declared.completion.Queue.TheVariants.{Send}
use Rattle.verbs_rules.specs.Family.{put, same_number}
use Rattle.verbs_rules.specs.Same.{same_queue}

either_by : (j t : ℕ) (b : Bool) → (j == t) ≡ b → (j ≡ t) ⊎ (j ≢ t)
either_by j t true e = inl (eqb-true j t e)
either_by j t false e = inr (λ same. absurd (false≢true (sym e ∙ eq-eqb j t same)))

pub either : (j t : ℕ) → (j ≡ t) ⊎ (j ≢ t)
either j t = either_by j t (j == t) refl

pub differs : (i j : ℕ) → i ≢ j → (i == j) ≡ false
differs i j apart = by (i == j) refl
  where
    by : (b : Bool) → (i == j) ≡ b → b ≡ false
    by true e = absurd (apart (eqb-true i j e))
    by false e = refl

-- what holds at the key that was changed, of any number of families, and at the others
pub number_by : (F : ℕ → Bool → Type 0) (key : ℕ) → F key true → ((i : ℕ) → i ≢ key → F i false) → (i : ℕ) → F i (i == key)
number_by F key here others i = by (i == key) refl
  where
    by : (b : Bool) → (i == key) ≡ b → F i b
    by true e = subst (λ (j : ℕ). F j true) (sym (eqb-true i key e)) here
    by false e = others i (λ same. absurd (false≢true (sym e ∙ eq-eqb i key same)))

-- what holds of the value put for one send queue, and of the others
pub put_send : {V : Type 0} (P : ℕ → V → Type 0) (f : Queue → V) (qp : ℕ) (x : V) → P qp x → ((i : ℕ) → i ≢ qp → P i (f (Send i))) → (i : ℕ) → P i (put same_queue f (Send qp) x (Send i))
put_send P f qp x here others i = number_by (λ j b. P j (if b then x else f (Send j))) qp here others i

pub put_one : {V : Type 0} (P : ℕ → V → Type 0) (f : ℕ → V) (key : ℕ) (x : V) → P key x → ((i : ℕ) → i ≢ key → P i (f i)) → (i : ℕ) → P i (put same_number f key x i)
put_one P f key x here others i = number_by (λ j b. P j (if b then x else f j)) key here others i
