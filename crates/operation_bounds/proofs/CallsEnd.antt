-- A call that is no drain ends in time.
use Rattle.std.proofs.Common.{◌≡◌, ℕ, suc, ◌<◌, ◌≤◌, sym, ap, ◌∙◌, subst, arith, false, List, [], ◌∷◌, ◌++◌, length, unwrap_or}
use Rattle.std.specs.List.{AllByRecursion, fold}
use Rattle.std.proofs.lemmas.Bool.{false≢true}
use Rattle.std.proofs.lemmas.List.Sums.{fold-append}
use Rattle.bus_core.specs.Mark.{Marked}
use Rattle.verbs_types.specs.declared.call.Call.{Call}
use Rattle.verbs_types.specs.declared.call.Call.TheVariants.{Drain}
use Rattle.verbs_types.specs.declared.declaration.Lines.{Lines}
use Rattle.verbs_rules.specs.Shape.{Shape, Posts, Takes, Once, Until, shape_of}
use Rattle.object_places.specs.Objects.{Mark}
use Rattle.provider_post.specs.Call.{fresh_call}
use Rattle.actor_rules.specs.Calls.{MayThread, after_thread}
use Rattle.actor_rules.specs.Polling.{begun}
use Rattle.actor_rules.specs.Ready.{IsOwnCall, IsOwnIn}
use Rattle.actor_rules.specs.Thread.{Thread, fresh_thread}
use Rattle.operation_bounds.specs.Calls.{CallsEnd, is_drain, most_operations, is_until, parts_in}
use Rattle.operation_bounds.specs.Stretch.{thread_by}
use Rattle.provider_poll.proofs.LeftLoads.{poll_few}
use Rattle.operation_bounds.proofs.PollSteps.{begun_goes}
use Rattle.provider_post.proofs.Left.{post_few}
use Rattle.operation_bounds.proofs.PostSteps.{posting_now}
use Rattle.operation_bounds.proofs.Steps.{Keeps, step, stands_after, shrinks_all}
use Rattle.actor_rules.specs.Holding.{IsMapped}
use Rattle.operation_bounds.proofs.Stretches.{follows_first, follows_rest}
use Rattle.operation_bounds.proofs.Threads.{Stands, Went, Over, On, Again, Ends, IsAtCall, left_of, IsIn, left_in}

-- a call that begins or goes on is not far from its end
few_left : (d : Lines) (programs : List (List Call)) (x : ℕ) (t : Thread) (shape : Shape) → IsOwnIn d programs x shape → IsIn t shape → is_until shape ≡ false → left_in t shape < most_operations (parts_in shape)
few_left d programs x t (Posts queue items) own work plain =
    let few = post_few (length items) (t.posters queue).stage (unwrap_or t.posting (fresh_call (length items))) (posting_now (length items) t.posting work.posting) in omega (arith, few.1)
few_left d programs x t (Takes cq (Once most)) own work plain =
    let few = poll_few most (length t.given) (t.polls cq).host (t.polls cq).retirers (begun most (t.polls cq).state) (begun_goes most t.given (t.polls cq).state own.1 work.poll) in omega (arith, few.1)
few_left d programs x t (Takes cq (Until count)) own work plain = absurd (false≢true (sym plain))

module _ (d : Lines) (programs : List (List Call)) (x : ℕ) (map_ok : IsMapped d) (call : Call) (rest : List Call) (plain : is_drain call ≡ false) where
  never : (cq count : ℕ) (others : List Call) → call ∷ rest ≡ Drain cq count ∷ others → ⊥
  never cq count others same = let is : call ≡ Drain cq count = cc in false≢true (sym plain ∙ ap is_drain is)

  -- no more operations than are left
  at_most_left : (ops : List (Marked Mark)) (t : Thread) → Stands d programs x t → Keeps d x t ops → t.calls ≡ call ∷ rest → length (fold (after_thread d) t ops).calls ≡ length t.calls → length ops ≤ left_of t t.calls
  at_most_left [] t h keeps is same = omega arith
  at_most_left (op ∷ ops) t h keeps is same = by next.1 (λ kept. at_most_left ops (after_thread d t op) next.0 keeps.1 (kept ∙ is) (same ∙ ap length (sym kept)))
    where
      next : Stands d programs x (after_thread d t op) × Went t (after_thread d t op)
      next = step d programs x map_ok t op h keeps.0

      by : Went t (after_thread d t op) → ((after_thread d t op).calls ≡ t.calls → length ops ≤ left_of (after_thread d t op) (after_thread d t op).calls) → suc (length ops) ≤ left_of t t.calls
      by (Over less) others = let rest_of = shrinks_all d programs x map_ok ops (after_thread d t op) next.0 keeps.1 in absurd (omega (arith, less, rest_of, same))
      by (On kept less) others = let rest_of = others kept in omega (arith, less, rest_of)
      by (Again cq count more others_of are then_are idle waits) others = absurd (never cq count others_of (sym is ∙ are))
      by (Ends none kept) others = let long : length (call ∷ rest) ≡ 0 = ap length (sym is ∙ none) in absurd (omega (arith, long))

pub calls_end : (d : Lines) (programs : List (List Call)) (x : ℕ) (map_ok : IsMapped d) (ops : List (Marked Mark)) → Stands d programs x (fresh_thread d programs x) → Keeps d x (fresh_thread d programs x) ops → CallsEnd d programs x ops
calls_end d programs x map_ok ops h keeps before during call stretch within plain =
    let may : Thread → Marked Mark → Type 0 = λ s op. MayThread d s x op in
    let all = subst (Keeps d x (fresh_thread d programs x)) stretch.whole keeps in
    let first = follows_first may (after_thread d) (fresh_thread d programs x) before (during ++ stretch.after) all in
    let here = follows_first may (after_thread d) (thread_by d programs x before) during stretch.after (follows_rest may (after_thread d) (fresh_thread d programs x) before (during ++ stretch.after) all) in
    let stands = stands_after d programs x map_ok before (fresh_thread d programs x) h first in
    let same : length (fold (after_thread d) (thread_by d programs x before) during).calls ≡ length (thread_by d programs x before).calls = ap (λ (t : Thread). length t.calls) (sym (fold-append (after_thread d) (fresh_thread d programs x) before during)) ∙ within.goes_on in
    let bound = at_most_left d programs x map_ok call within.rest plain during (thread_by d programs x before) stands here within.begins same in
    let own = subst (AllByRecursion (IsOwnCall d programs x)) within.begins stands.own in
    let few = few_left d programs x (thread_by d programs x before) (shape_of call) own.0 (subst (IsAtCall (thread_by d programs x before)) within.begins stands.work) plain in
    let left = ap (left_of (thread_by d programs x before)) within.begins in
    omega (arith, bound, few, left)
