-- Each call leaves at most 88 good pages, and 88 where the adapter runs.
use Rattle.std.proofs.Common.{◌≡◌, ℕ, ◌+◌, ◌-◌, ◌≤◌, arith, true, List, [], ◌∷◌, ◌++◌, length, take, length-append}
use Rattle.std.specs.Option.{is_none}
use Rattle.std.specs.List.{fold}
use Rattle.std.proofs.lemmas.Bool.{cond_both, leb-true}
use Rattle.std.proofs.lemmas.List.{length-take}
use Rattle.hca_pages.specs.declared.phase.Phase.{Phase}
use Rattle.hca_pages.specs.declared.phase.Phase.TheVariants.{Off, Enabled, Running}
use Rattle.hca_pages.specs.declared.fault.HcaFault.TheVariants.{BadSystemState}
use Rattle.hca_pages.specs.declared.page.TheConstants.{PAGE_LIMIT}
use Rattle.hca_pages.specs.Adapter.{Adapter, off, is_enabled}
use Rattle.hca_pages.specs.Faults.{order_fault, limit_fault}
use Rattle.hca_pages.specs.Calls.{Call, Enable, Query, Give, Init, Teardown, TakeBack, Disable, fault_of, served, after_call}
use Rattle.hca_pages.specs.Ledger.{IsSane}
use Rattle.hca_pages.proofs.Pages.{AreGood, AreGood-append, AreGood-take}
use Rattle.hca_pages.proofs.Refusals.{unless_none, or_then_none, option_map_none}

not_running : (phase : Phase) → is_enabled phase ≡ true → phase ≡ Running → ⊥
not_running Off h same = cc
not_running Enabled h same = cc
not_running Running h same = cc

good : (a : Adapter) → IsSane a → AreGood a.pages
good a sane = record { aligned = sane.aligned; different = sane.different }

-- other pages, of an adapter that does not run
with_pages : (a : Adapter) (pages : List ℕ) → is_enabled a.phase ≡ true → length pages ≤ PAGE_LIMIT → AreGood pages → IsSane (record a { pages = pages })
with_pages a pages enabled few are = record {
  few = few;
  aligned = are.aligned;
  different = are.different;
  full = λ runs. absurd (not_running a.phase enabled runs);
}

-- another phase, with the same pages
in_phase : (a : Adapter) (phase : Phase) → IsSane a → (phase ≡ Running → length a.pages ≡ PAGE_LIMIT) → IsSane (record a { phase = phase })
in_phase a phase sane full = record { few = sane.few; aligned = sane.aligned; different = sane.different; full = full }

order_ok : (a : Adapter) → is_none (order_fault a) ≡ true → is_enabled a.phase ≡ true
order_ok a h = unless_none (is_enabled a.phase) BadSystemState h

served_sane : (a : Adapter) (call : Call) → IsSane a → is_none (fault_of a call) ≡ true → IsSane (served a call)
served_sane a Enable sane none = in_phase a Enabled sane (λ runs. absurd (cc))
served_sane a Query sane none = sane
served_sane a (Give pages) sane none =
    let first = or_then_none (order_fault a) _ none in
    let then = or_then_none _ (limit_fault (length a.pages + length pages)) first.1 in
    with_pages a (a.pages ++ pages) (order_ok a first.0) (omega (arith, length-append a.pages pages, leb-true (length a.pages + length pages) PAGE_LIMIT (unless_none _ _ then.1))) (AreGood-append a.pages pages (good a sane) (option_map_none _ _ then.0))
served_sane a Init sane none =
    let first = or_then_none (order_fault a) _ none in
    in_phase a Running sane (λ runs. omega (arith, sane.few, leb-true PAGE_LIMIT (length a.pages) (unless_none _ _ first.1)))
served_sane a Teardown sane none = in_phase a Enabled sane (λ runs. absurd (cc))
served_sane a (TakeBack n) sane none =
    let first = or_then_none (order_fault a) _ none in
    let kept = length a.pages - n in
    with_pages a (take kept a.pages) (order_ok a first.0) (omega (arith, sane.few, length-take kept a.pages)) (AreGood-take kept a.pages (good a sane))
served_sane a Disable sane none = in_phase a Off sane (λ runs. absurd (cc))

pub sane_step : (a : Adapter) (call : Call) → IsSane a → IsSane (after_call a call)
sane_step a call sane = cond_both (is_none (fault_of a call)) (served a call) a IsSane (λ none. served_sane a call sane none) (λ refused. sane)

pub sane_off : IsSane off
sane_off = record { few = omega arith; aligned = λ k d inside. absurd (omega arith); different = λ i j d low high. absurd (omega arith); full = λ runs. absurd (cc) }

pub sane_after : (calls : List Call) (a : Adapter) → IsSane a → IsSane (fold after_call a calls)
sane_after [] a sane = sane
sane_after (call ∷ calls) a sane = sane_after calls (after_call a call) (sane_step a call sane)
