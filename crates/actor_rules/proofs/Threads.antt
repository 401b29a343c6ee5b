-- All threads, where one has gone on.
use Rattle.std.proofs.Common.{◌≡◌, ◌≢◌, ℕ, suc, arith, inl, inr, sym, subst, List}
use Rattle.std.proofs.lemmas.Bool.Decides.{eqb_tells}
use Rattle.verbs_types.specs.declared.call.Call.{Call}
use Rattle.verbs_types.specs.declared.declaration.Lines.{Lines}
use Rattle.verbs_rules.specs.Answered.{Due}
use Rattle.actor_rules.specs.Thread.{Thread}
use Rattle.actor_rules.specs.Dues.{dues_at}
use Rattle.actor_rules.specs.Family.{put_number}
use Rattle.actor_rules.proofs.Threading.{put_here, put_there}
use Rattle.actor_rules.specs.Threads.{ThreadStands}

-- a thread has gone on, and every other one stands as before
pub threads_now : (d : Lines) (programs : List (List Call)) (threads : ℕ → Thread) (t : ℕ) (thread : Thread) (dues dues' : List (List Due)) → ((k : ℕ) → k ≢ t → dues_at dues' (suc k) ≡ dues_at dues (suc k))
    → ThreadStands d programs (suc t) thread (dues_at dues' (suc t)) → ((k : ℕ) → ThreadStands d programs (suc k) (threads (suc k)) (dues_at dues (suc k))) → (k : ℕ) → ThreadStands d programs (suc k) (put_number threads (suc t) thread (suc k)) (dues_at dues' (suc k))
threads_now d programs threads t thread dues dues' others here before k = elim (eqb_tells k t) [
  | inl same ↦ subst (λ (n : ℕ). ThreadStands d programs (suc n) (put_number threads (suc t) thread (suc n)) (dues_at dues' (suc n))) (sym same.1) (subst (λ (s : Thread). ThreadStands d programs (suc t) s (dues_at dues' (suc t))) (sym (put_here threads (suc t) thread)) here)
  | inr differ ↦ coe 1 0 (i. ThreadStands d programs (suc k) (put_there threads (suc t) thread (suc k) (λ same. differ.1 (omega (arith, same))) i) (others k differ.1 i)) (before k)
]
