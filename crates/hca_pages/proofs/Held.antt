-- The pages that are held are those that were given and not taken back since.
use Rattle.std.proofs.Common.{◌≡◌, ℕ, ◌-◌, arith, refl, ap, sym, ◌∙◌, inl, inr, Bool, true, false, ◌&&◌, ◌||◌, not, List, [], ◌∷◌, length, take, drop}
use Rattle.std.specs.Option.{is_none}
use Rattle.std.specs.List.{All, Contains, fold}
use Rattle.std.proofs.lemmas.Bool.{cases_Bool, cond_both}
use Rattle.std.proofs.lemmas.List.{take-append-drop}
use Rattle.std.proofs.lemmas.List.Elements.{All-drop, All-weaker, All-contains_itself}
use Rattle.hca_pages.specs.Adapter.{Adapter, off}
use Rattle.hca_pages.specs.Page.{is_among}
use Rattle.hca_pages.specs.Faults.{give_fault, take_back_fault}
use Rattle.hca_pages.specs.Calls.{Call, Enable, Query, Give, Init, Teardown, TakeBack, Disable, fault_of, served, after_call, after_calls, pages_back}
use Rattle.hca_pages.specs.Ledger.{move_of, moves, out_after, is_out, IsSane, KeepsLedger}
use Rattle.hca_pages.proofs.Pages.{among-append, contains_among, apart}
use Rattle.hca_pages.proofs.Sane.{sane_step, sane_off, sane_after}

none_moved : (held : Bool) → held ≡ (false || (held && not false))
none_moved true = refl
none_moved false = refl

some_given : (held given : Bool) → (held || given) ≡ (given || (held && not false))
some_given true true = refl
some_given true false = refl
some_given false true = refl
some_given false false = refl

some_taken : (kept taken : Bool) → (kept ≡ true → taken ≡ false) → kept ≡ (false || ((kept || taken) && not taken))
some_taken true true apart = apart refl
some_taken true false apart = refl
some_taken false true apart = refl
some_taken false false apart = refl

module _ (page : ℕ) (a : Adapter) (sane : IsSane a) where
  abbrev held : Adapter → Bool
  held b = is_among page b.pages

  -- a call that moves no page
  stays : (b : Adapter) → b.pages ≡ a.pages → held b ≡ (false || (held a && not false))
  stays b same = ap (is_among page) same ∙ none_moved (held a)

  -- what was held before a call, the pages that it brought and those that it took tell what is held after it
  held_step : (call : Call) → held (after_call a call) ≡ out_after page (held a) (move_of a call)
  held_step Enable = stays (after_call a Enable) (cond_both (is_none (fault_of a Enable)) (served a Enable) a (λ b. b.pages ≡ a.pages) (λ h. refl) (λ h. refl))
  held_step Query = stays (after_call a Query) (cond_both (is_none (fault_of a Query)) (served a Query) a (λ b. b.pages ≡ a.pages) (λ h. refl) (λ h. refl))
  held_step (Give pages) = elim (cases_Bool (is_none (give_fault a pages))) [
    | inl given ↦ rw given (among-append page a.pages pages ∙ some_given (held a) (is_among page pages))
    | inr refused ↦ rw refused (none_moved (held a))
  ]
  held_step Init = stays (after_call a Init) (cond_both (is_none (fault_of a Init)) (served a Init) a (λ b. b.pages ≡ a.pages) (λ h. refl) (λ h. refl))
  held_step Teardown = stays (after_call a Teardown) (cond_both (is_none (fault_of a Teardown)) (served a Teardown) a (λ b. b.pages ≡ a.pages) (λ h. refl) (λ h. refl))
  held_step (TakeBack n) = elim (cases_Bool (is_none (take_back_fault a n))) [
    | inl taken ↦
        let kept = length a.pages - n in
        let all : held a ≡ (is_among page (take kept a.pages) || is_among page (drop kept a.pages)) = ap (is_among page) (sym (take-append-drop kept a.pages)) ∙ among-append page (take kept a.pages) (drop kept a.pages) in
        rw (taken, all) (some_taken (is_among page (take kept a.pages)) (is_among page (drop kept a.pages)) (apart kept page a.pages (record { aligned = sane.aligned; different = sane.different })))
    | inr refused ↦ rw refused (none_moved (held a))
  ]
  held_step Disable = stays (after_call a Disable) (cond_both (is_none (fault_of a Disable)) (served a Disable) a (λ b. b.pages ≡ a.pages) (λ h. refl) (λ h. refl))

pub held_after : (page : ℕ) (calls : List Call) (a : Adapter) → IsSane a → is_among page (fold after_call a calls).pages ≡ fold (out_after page) (is_among page a.pages) (moves a calls)
held_after page [] a sane = refl
held_after page (call ∷ calls) a sane =
    held_after page calls (after_call a call) (sane_step a call sane)
    ∙ ap (λ (out : Bool). fold (out_after page) out (moves (after_call a call) calls)) (held_step page a sane call)

-- each page that is given back is one that is held
back_is_held : (a : Adapter) (n : ℕ) → All (λ page. is_among page a.pages ≡ true) (pages_back a n)
back_is_held a n =
    let all : All (λ (page : ℕ). is_among page a.pages ≡ true) a.pages = All-weaker (Contains a.pages) (λ (page : ℕ). is_among page a.pages ≡ true) (λ page h. contains_among page a.pages h) a.pages (All-contains_itself a.pages) in
    cond_both (is_none (take_back_fault a n)) (drop (length a.pages - n) a.pages) [] (All (λ (page : ℕ). is_among page a.pages ≡ true)) (λ h. All-drop (λ (page : ℕ). is_among page a.pages ≡ true) (length a.pages - n) a.pages all) (λ h k d inside. absurd (omega arith))

pub keeps_ledger : (calls : List Call) → KeepsLedger calls
keeps_ledger calls =
    let held = λ (page : ℕ). held_after page calls off sane_off in
    record {
      sane = sane_after calls off sane_off;
      held = held;
      taken = λ n. All-weaker (λ (page : ℕ). is_among page (after_calls calls).pages ≡ true) (λ (page : ℕ). is_out page (moves off calls) ≡ true) (λ page h. sym (held page) ∙ h) (pages_back (after_calls calls) n) (back_is_held (after_calls calls) n);
    }
