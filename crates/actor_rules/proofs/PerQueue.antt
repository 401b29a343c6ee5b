-- A value for each work queue, one of which was changed.
use Rattle.std.proofs.Common.{◌≡◌, ◌≢◌, ◌⊎◌, inl, inr, Bool, true, false, if◌then◌else◌, refl, sym, subst, ◌∙◌, ap}
use Rattle.std.proofs.lemmas.Bool.{false≢true}
use Rattle.verbs_types.specs.declared.completion.Queue.{Queue}
use Rattle.verbs_rules.specs.Family.{put}
use Rattle.verbs_rules.specs.Same.{same_queue}
use Rattle.verbs_laws.proofs.Sameness.{same_queue-true, same_queue_refl}

pub queue_tells : (j k : Queue) → ((same_queue j k ≡ true) × (j ≡ k)) ⊎ ((same_queue j k ≡ false) × (j ≢ k))
queue_tells j k = by (same_queue j k) refl
  where
    by : (b : Bool) → same_queue j k ≡ b → ((same_queue j k ≡ true) × (j ≡ k)) ⊎ ((same_queue j k ≡ false) × (j ≢ k))
    by true e = inl (e, same_queue-true j k e)
    by false e = inr (e, λ same. false≢true (sym e ∙ ap (λ (i : Queue). same_queue i k) same ∙ same_queue_refl k))

-- one queue is the same as another, or is not
pub either_queue : (j k : Queue) → (j ≡ k) ⊎ (j ≢ k)
either_queue j k = elim (queue_tells j k) [ inl t ↦ inl t.1 | inr t ↦ inr t.1 ]

module _ {V : Type 0} (values : Queue → V) (key : Queue) (value : V) where
  pub queue_here : put same_queue values key value key ≡ value
  queue_here = ap (λ b. if b then value else values key) (same_queue_refl key)

  pub queue_there : (other : Queue) → other ≢ key → put same_queue values key value other ≡ values other
  queue_there other apart = elim (queue_tells other key) [ inl t ↦ absurd (apart t.1) | inr t ↦ ap (λ b. if b then value else values other) t.0 ]

-- What holds of the changed queue and of the others, where any values a queue are changed at one: by whether a queue is that one.
pub queue_by : (F : Queue → Bool → Type 0) (key : Queue) → F key true → ((other : Queue) → other ≢ key → F other false) → (k : Queue) → F k (same_queue k key)
queue_by F key here others k = elim (queue_tells k key) [ inl t ↦ subst (F k) (sym t.0) (subst (λ (j : Queue). F j true) (sym t.1) here) | inr t ↦ subst (F k) (sym t.0) (others k t.1) ]

pub queue_cases : {V : Type 0} (P : Queue → V → Type 0) (values : Queue → V) (key : Queue) (value : V) → P key value → ((other : Queue) → other ≢ key → P other (values other)) → (other : Queue) → P other (put same_queue values key value other)
queue_cases P values key value = queue_by (λ k b. P k (if b then value else values k)) key

pub queue_cases₂ : {V U : Type 0} (P : Queue → V → U → Type 0) (f : Queue → V) (g : Queue → U) (key : Queue) (v : V) (u : U) → P key v u → ((other : Queue) → other ≢ key → P other (f other) (g other)) → (k : Queue) → P k (put same_queue f key v k) (put same_queue g key u k)
queue_cases₂ P f g key v u = queue_by (λ k b. P k (if b then v else f k) (if b then u else g k)) key
