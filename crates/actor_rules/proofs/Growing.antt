-- What stays of the requests of a queue while it grows.
use Rattle.std.proofs.Common.{◌≡◌, ℕ, ◌<◌, ◌≤◌, ◌-◌, refl, sym, ap, ◌∙◌, subst, arith, Bool, true, false, length}
use Rattle.verbs_types.specs.declared.completion.Queue.TheVariants.{Send}
use Rattle.verbs_types.specs.declared.state.Unpolled.{Unpolled}
use Rattle.verbs_rules.specs.Rows.{nop_completion}
use Rattle.cqe_format.specs.declared.completion.Cqe.{Cqe}
use Rattle.counted_ring.specs.declared.place.WqPlace.{WqPlace}
use Rattle.counted_ring.specs.Queue.{Queue, Request, WqEvent, Wrote, Full, Rang, Named, Found, Retired, Counted, Took, index_of, after_event, after_count}
use Rattle.counted_ring.proofs.Requests.{request_of, request_before, index_more}
use Rattle.device_engine.specs.Entry.{nop_cqe}
use Rattle.actor_rules.specs.Objects.{Lists}
use Rattle.actor_rules.specs.Completions.{IsCompletion}

-- the requests that were taken are as they were
pub record Grows (q now : Queue) : Type 0 where
  pub taken : q.taken ≤ now.taken
  pub index : (n : ℕ) → n < q.taken → index_of now n ≡ index_of q n
  pub request : (n : ℕ) → n < q.taken → request_of now n ≡ request_of q n

pub grows_refl : (q : Queue) → Grows q q
grows_refl q = record { taken = omega arith; index = λ n low. refl; request = λ n low. refl }

pub grows_same : (q now : Queue) → now ≡ q → Grows q now
grows_same q now same = subst (λ (x : Queue). Grows q x) (sym same) (record { taken = omega arith; index = λ n low. refl; request = λ n low. refl })

counted_grows : (q : Queue) (passes : Bool) → Grows q (after_count q passes)
counted_grows q true = record { taken = omega arith; index = λ n low. refl; request = λ n low. refl }
counted_grows q false = record { taken = omega arith; index = λ n low. refl; request = λ n low. refl }

pub grows_event : (place : WqPlace) (q : Queue) (event : WqEvent) → q.taken ≤ length q.requests → Grows q (after_event place q event)
grows_event place q (Wrote words id) few = record {
  taken = omega arith;
  index = λ n low. index_more place q words id n (omega (arith, low, few));
  request = λ n low. request_before place q words id n (omega (arith, low, few));
}
grows_event place q (Full head tail) few = record { taken = omega arith; index = λ n low. refl; request = λ n low. refl }
grows_event place q Rang few = record { taken = omega arith; index = λ n low. refl; request = λ n low. refl }
grows_event place q (Named counter id) few = record { taken = omega arith; index = λ n low. refl; request = λ n low. refl }
grows_event place q (Found counter id end) few = record { taken = omega arith; index = λ n low. refl; request = λ n low. refl }
grows_event place q (Retired end) few = record { taken = omega arith; index = λ n low. refl; request = λ n low. refl }
grows_event place q (Counted ready passes) few = counted_grows q passes
grows_event place q (Took words) few = record { taken = omega arith; index = λ n low. refl; request = λ n low. refl }

-- a completion stays that of its request
pub completion_kept : (l now : Lists) (c : Cqe) (u : Unpolled) → Grows (l.queues (Send u.completion.qp)) (now.queues (Send u.completion.qp)) → IsCompletion l c u → IsCompletion now c u
completion_kept l now c u g h =
    let low : u.number - 1 < (l.queues (Send u.completion.qp)).taken = omega (arith, h.some, h.taken) in record {
      some = h.some;
      taken = omega (arith, h.taken, g.taken);
      words = h.words ∙ ap (λ (i : ℕ). nop_cqe u.completion.qp i) (sym (g.index (u.number - 1) low));
      told = h.told ∙ ap (λ (r : Request). nop_completion u.completion.qp r.id 0) (sym (g.request (u.number - 1) low));
    }
