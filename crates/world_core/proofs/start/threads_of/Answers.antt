-- One more thread, of the next program.
use Rattle.std.proofs.Common.{◌≡◌, ◌∙◌, sym, ap, subst, arith, ℕ, suc, ◌+◌, List, [], ◌∷◌, ◌++◌, length, length-append, Some, slice_get, slice_index_or}
use Rattle.verbs_types.specs.declared.call.Call.{Call}
use Rattle.thread_actor.specs.Fresh.{IsFresh}
use Rattle.thread_actor.specs.View.{ThreadView}
use Rattle.world_core.proofs.FirstBus.{pushed, any_default}
use Rattle.world_core.proofs.start.threads_of.Goals as goal

pub loop-calls-preserved : goal.loop-calls-preserved
loop-calls-preserved c =
    let d = c.args.declared.now in
    let programs = c.args.programs.now in
    let threads = c.loop-calls.threads.items in
    let thread = c.in_ok-thread.thread in
    let more : c.push.new.self.items ≡ threads ++ thread ∷ [] = c.in-Ok.ensures.items in
    let number : c.len.result + 1 ≡ suc (length threads) = omega (arith, c.len.ensures) in
    let calls : c.as_slice.result.now ≡ slice_index_or programs (length threads) [] =
    c.as_slice.ensures ∙ c.calls-item.is ∙ any_default programs c.loop-calls.calls-index c.calls-item.result [] c.loop-calls-test.true ∙ ap (λ (k : ℕ). slice_index_or programs k []) (sym c.loop-calls.invariant.count) in
    let last : IsFresh d (suc (length threads)) (slice_index_or programs (length threads) []) thread =
    subst (λ (n : ℕ). IsFresh d n (slice_index_or programs (length threads) []) thread) number (subst (λ (cs : List Call). IsFresh d (c.len.result + 1) cs thread) calls c.in_ok-thread.ensures) in
    record {
      count = ap (λ (ts : List ThreadView). length ts) more ∙ length-append threads (thread ∷ []) ∙ ap (λ (n : ℕ). n + 1) c.loop-calls.invariant.count;
      each = λ (t : ℕ) (v : ThreadView) there. pushed (λ (k : ℕ) (w : ThreadView). IsFresh d (suc k) (slice_index_or programs k []) w) threads thread c.loop-calls.invariant.each last t v (ap (λ (ts : List ThreadView). slice_get ts t) (sym more) ∙ there);
    }
