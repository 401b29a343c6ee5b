-- The law of an object of two sides whose steps also use what is asked of both sides together.
use Rattle.std.proofs.Common.{◌≡◌, ℕ, refl, sym, ◌∙◌, true, List, [], ◌∷◌}
use Rattle.std.proofs.lemmas.Bool.{cond-true}
use Rattle.bus_core.specs.Follow.{Follows}
use Rattle.bus_core.specs.Trace.{Memory, Tells, after_entry}
use Rattle.bus_core.specs.TwoSides.{Party, Device, Host, Bystander, Object, Sides, party, IsRunOf, may_by, after_by, says_by, MayAny, after_any, any_says, history, IsLegal}
use Rattle.bus_core.proofs.Words.{harmless_kept}
use Rattle.bus_core.proofs.Weaving.{Goes, legal_by_steps}
use Rattle.bus_core.proofs.TwoSided.{Holds, Advances, keeps_all}
use Rattle.eq_pair.specs.Agree.{Agree}

-- two rules together
Follows_both : {S E : Type 0} (p r : S → E → Type 0) (next : S → E → S) (s : S) (es : List E) → Follows p next s es → Follows r next s es → Follows (λ (t : S) (e : E). p t e × r t e) next s es
Follows_both p r next s [] a b = tt
Follows_both p r next s (e ∷ es) a b = ((a.0, b.0), Follows_both p r next (next s e) es a.1 b.1)

module _ {X D H L E : Type 0} (o : Object X D H L E) (tied : Memory → D → H → L → Type 0) (agrees : Party → Sides D H → X → Type 0)
    (kept : (m m' : Memory) (d : D) (h : H) (l : L) → ((a : ℕ) → o.touches a ≡ true → m' a ≡ m a) → tied m d h l → tied m' d h l)
    (step_device : (m : Memory) (d : D) (h : H) (l : L) (x : X) → tied m d h l → Tells m (o.entry x) → o.may_device d x → agrees Device (record { device = d; host = h }) x → Advances o tied (after_entry m (o.entry x)) (o.after_device d x) h l (o.device_says d x))
    (step_host : (m : Memory) (d : D) (h : H) (l : L) (x : X) → tied m d h l → Tells m (o.entry x) → o.may_host h x → agrees Host (record { device = d; host = h }) x → Advances o tied (after_entry m (o.entry x)) d (o.after_host h x) l (o.host_says h x)) where
  step_by : (p : Party) (m : Memory) (s : Sides D H) (l : L) (x : X) → party o x ≡ p → Holds o tied m s l → Tells m (o.entry x) → may_by o p s x × agrees p s x → Goes o.may o.after (Holds o tied) (after_entry m (o.entry x)) (after_by o p s x) l (says_by o p s x)
  step_by Device m s l x is t tells may = step_device m s.device s.host l x t tells may.0 may.1
  step_by Host m s l x is t tells may = step_host m s.device s.host l x t tells may.0 may.1
  step_by Bystander m s l x is t tells may =
      let load = λ (inside : o.touches (o.entry x).addr ≡ true). may.0 inside (sym (cond-true (o.touches (o.entry x).addr) (o.role x) Bystander inside) ∙ is) in
      kept m (after_entry m (o.entry x)) s.device s.host l (harmless_kept o.touches m (o.entry x) load) t

  pub law_of_agreeing : (trace : List X) (m : Memory) (d : D) (h : H) (l : L) → tied m d h l → IsRunOf o d h m trace → Agree o agrees (record { device = d; host = h }) trace → IsLegal o l (history o d h trace)
  law_of_agreeing trace m d h l t r a =
      let s : Sides D H = record { device = d; host = h } in
      legal_by_steps o.may o.after (Holds o tied) o.entry (λ (u : Sides D H) (x : X). MayAny o u x × agrees (party o x) u x) (after_any o) (any_says o) (λ m u l x. step_by (party o x) m u l x refl) trace m s l t r.consistent
      (Follows_both (MayAny o) (λ (u : Sides D H) (x : X). agrees (party o x) u x) (after_any o) s trace (keeps_all o d h m trace r) a)
