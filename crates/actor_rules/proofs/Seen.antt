-- What others see of the threads, by object, each of its owner.
use Rattle.std.proofs.Common.{◌≡◌, ◌≢◌, ◌⊎◌, ℕ, inl, inr, sym, ap, ◌∙◌, Bool, true, false, if◌then◌else◌}
use mathlib.Core.Path.{fun_ext}
use Rattle.verbs_rules.specs.Family.{put}
use Rattle.actor_rules.specs.Thread.{Thread}
use Rattle.actor_rules.specs.Family.{put_number}
use Rattle.actor_rules.proofs.Threading.{put_here, put_keeps}

abbrev pub seen : {K U : Type 0} → (K → ℕ) → (K → Thread → U) → (ℕ → Thread) → K → U
seen owner see threads k = see k (threads (owner k))

module _ {K U : Type 0} (owner : K → ℕ) (see : K → Thread → U) (threads : ℕ → Thread) (x : ℕ) (thread : Thread) where
  -- a thread that goes on, and shows what it showed, changes nothing
  pub seen_kept : ((k : K) → see k thread ≡ see k (threads x)) → seen owner see (put_number threads x thread) ≡ seen owner see threads
  seen_kept same = fun_ext (λ k. put_keeps threads x thread (see k) (same k) (owner k))

  -- one that goes on with its own object changes what is seen of that one
  pub seen_put : (test : K → K → Bool) (key : K) (value : U) → ((k : K) → ((test k key ≡ true) × (k ≡ key)) ⊎ ((test k key ≡ false) × (k ≢ key))) → owner key ≡ x → see key thread ≡ value → ((k : K) → k ≢ key → see k thread ≡ see k (threads x))
      → seen owner see (put_number threads x thread) ≡ put test (seen owner see threads) key value
  seen_put test key value tell mine now others = fun_ext (λ k. elim (tell k) [
    | inl here ↦
        ap (λ (j : K). see j (put_number threads x thread (owner j))) here.1 ∙ ap (λ (n : ℕ). see key (put_number threads x thread n)) mine ∙ ap (see key) (put_here threads x thread) ∙ now
        ∙ sym (ap (λ b. if b then value else see k (threads (owner k))) here.0)
    | inr apart ↦ put_keeps threads x thread (see k) (others k apart.1) (owner k) ∙ sym (ap (λ b. if b then value else see k (threads (owner k))) apart.0)
  ])
