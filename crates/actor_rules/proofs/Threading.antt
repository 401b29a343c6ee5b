-- One thread's state among all.
use Rattle.std.proofs.Common.{◌≡◌, ◌≢◌, ℕ, inl, inr, refl, sym, subst, ◌==◌, Bool, true, false}
use Rattle.std.proofs.lemmas.Bool.Decides.{eqb_tells}
use Rattle.actor_rules.specs.Family.{put_number}

module _ {V : Type 0} (values : ℕ → V) (key : ℕ) (value : V) where
  pub put_here : put_number values key value key ≡ value
  put_here = elim (eqb_tells key key) [ inl same ↦ rw same.0 refl | inr differ ↦ absurd (differ.1 refl) ]

  pub put_there : (other : ℕ) → other ≢ key → put_number values key value other ≡ values other
  put_there other differ = elim (eqb_tells other key) [ inl same ↦ absurd (differ same.1) | inr apart ↦ rw apart.0 refl ]

  -- what holds of the new value, and of every other one, holds of all
  pub put_all : (P : ℕ → V → Type 0) → P key value → ((other : ℕ) → other ≢ key → P other (values other)) → (x : ℕ) → P x (put_number values key value x)
  put_all P now others x = elim (eqb_tells x key) [
    | inl same ↦ subst (λ (n : ℕ). P n (put_number values key value n)) (sym same.1) (subst (P key) (sym put_here) now)
    | inr differ ↦ subst (P x) (sym (put_there x differ.1)) (others x differ.1)
  ]

  -- what the new value has as the old one had it, all have
  pub put_keeps : {U : Type 0} (read : V → U) → read value ≡ read (values key) → (x : ℕ) → read (put_number values key value x) ≡ read (values x)
  put_keeps read same x = put_all (λ n v. read v ≡ read (values n)) same (λ other differ. refl) x

-- What holds of the changed number and of the others, where any values a number are changed at one: by whether a number is that one.
pub number_by : (F : ℕ → Bool → Type 0) (key : ℕ) → F key true → ((other : ℕ) → other ≢ key → F other false) → (k : ℕ) → F k (k == key)
number_by F key here others k = elim (eqb_tells k key) [ inl t ↦ subst (F k) (sym t.0) (subst (λ (j : ℕ). F j true) (sym t.1) here) | inr t ↦ subst (F k) (sym t.0) (others k t.1) ]
