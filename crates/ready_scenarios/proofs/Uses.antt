-- The tests of which thread uses a side, as scenarios and as the rules of actors have them.
use Rattle.std.proofs.Common.{◌≡◌, ℕ, inl, inr, ◌==◌, refl, sym, ◌∙◌}
use Rattle.std.proofs.lemmas.Bool.{eq-eqb}
use mathlib.Core.Path.{fun_ext}
use Rattle.verbs_types.specs.declared.call.Call.{Call}
use Rattle.verbs_types.specs.declared.call.Call.TheVariants.{Post, Recv, Poll, Drain}
use Rattle.verbs_types.specs.declared.completion.Queue.TheVariants as queues
use Rattle.verbs_laws.proofs.Choices.{either, differs}
use Rattle.scenario_text.specs.Calls as scenario
use Rattle.actor_rules.specs.Owners as actors

pub same_test : (m n : ℕ) → (m == n) ≡ (n == m)
same_test m n =
    elim (either m n) [
      | inl same ↦ eq-eqb m n same ∙ sym (eq-eqb n m (sym same))
      | inr apart ↦ differs m n apart ∙ sym (differs n m (λ same. apart (sym same)))
    ]

pub posts_are : (qp : ℕ) → scenario.posts_on qp ≡ actors.posts_on (queues.Send qp)
posts_are qp = fun_ext by
  where
    by : (c : Call) → scenario.posts_on qp c ≡ actors.posts_on (queues.Send qp) c
    by (Post q requests) = same_test q qp
    by (Recv q receives) = refl
    by (Poll cq most) = refl
    by (Drain cq count) = refl

pub receives_are : (qp : ℕ) → scenario.receives_on qp ≡ actors.posts_on (queues.Recv qp)
receives_are qp = fun_ext by
  where
    by : (c : Call) → scenario.receives_on qp c ≡ actors.posts_on (queues.Recv qp) c
    by (Post q requests) = refl
    by (Recv q receives) = same_test q qp
    by (Poll cq most) = refl
    by (Drain cq count) = refl

pub polls_are : (cq : ℕ) → scenario.polls_on cq ≡ actors.polls_on cq
polls_are cq = fun_ext by
  where
    by : (c : Call) → scenario.polls_on cq c ≡ actors.polls_on cq c
    by (Post q requests) = refl
    by (Recv q receives) = refl
    by (Poll c most) = same_test c cq
    by (Drain c count) = same_test c cq
