-- The law of an object of two sides, from what one operation of each keeps.
use Rattle.std.proofs.Common.{◌≡◌, ◌≢◌, ℕ, inl, inr, refl, sym, ◌∙◌, true, List, [], ◌∷◌, Option}
use Rattle.std.specs.Prelude.{map}
use Rattle.std.specs.List.{filter, AllByRecursion}
use Rattle.std.proofs.lemmas.Bool.{cond-true}
use Rattle.bus_core.specs.Follow.{Follows}
use Rattle.bus_core.specs.Trace.{Memory, Tells, after_entry, IsConsistent}
use Rattle.bus_core.specs.Weave.{TellsApart}
use Rattle.bus_core.specs.TwoSides.{Party, Device, Host, Bystander, is_party, Object, Sides, party, IsHarmless, IsRunOf, may_by, after_by, says_by, MayAny, after_any, any_says, history, IsLegal}
use Rattle.bus_core.proofs.Words.{harmless_kept}
use Rattle.bus_core.proofs.Following.{Follows_All, Follows_weaker}
use Rattle.bus_core.proofs.Weaving.{woven, unwoven, Goes, legal_by_steps}

pub party_tells : TellsApart is_party
party_tells Device Device = inl (refl, refl)
party_tells Device Host = inr (refl, λ h. cc)
party_tells Device Bystander = inr (refl, λ h. cc)
party_tells Host Device = inr (refl, λ h. cc)
party_tells Host Host = inl (refl, refl)
party_tells Host Bystander = inr (refl, λ h. cc)
party_tells Bystander Device = inr (refl, λ h. cc)
party_tells Bystander Host = inr (refl, λ h. cc)
party_tells Bystander Bystander = inl (refl, refl)

module _ {X D H L E : Type 0} (o : Object X D H L E) where
  abbrev Part : Party → Type 0
  Part Device = D
  Part Host = H
  Part Bystander = Unit {0}

  abbrev part : (p : Party) → Sides D H → Part p
  part Device s = s.device
  part Host s = s.host
  part Bystander s = tt

  abbrev may_part : (p : Party) → Part p → X → Type 0
  may_part Device s x = o.may_device s x
  may_part Host s x = o.may_host s x
  may_part Bystander s x = IsHarmless o x

  abbrev next_part : (p : Party) → Part p → X → Part p
  next_part Device s x = o.after_device s x
  next_part Host s x = o.after_host s x
  next_part Bystander s x = s

  moves_by : (p : Party) (s : Sides D H) (x : X) → part p (after_by o p s x) ≡ next_part p (part p s) x
  moves_by Device s x = refl
  moves_by Host s x = refl
  moves_by Bystander s x = refl

  stays_by : (p k : Party) (s : Sides D H) (x : X) → p ≢ k → part k (after_by o p s x) ≡ part k s
  stays_by Device Device s x h = absurd (h refl)
  stays_by Device Host s x h = refl
  stays_by Device Bystander s x h = refl
  stays_by Host Device s x h = refl
  stays_by Host Host s x h = absurd (h refl)
  stays_by Host Bystander s x h = refl
  stays_by Bystander Device s x h = refl
  stays_by Bystander Host s x h = refl
  stays_by Bystander Bystander s x h = refl

  to_part : (p : Party) (s : Sides D H) (x : X) → may_by o p s x → may_part p (part p s) x
  to_part Device s x h = h
  to_part Host s x h = h
  to_part Bystander s x h = h

  from_part : (p : Party) (s : Sides D H) (x : X) → may_part p (part p s) x → may_by o p s x
  from_part Device s x h = h
  from_part Host s x h = h
  from_part Bystander s x h = h

  bystands : (p : Party) (s : Sides D H) (x : X) → p ≡ Bystander → may_by o p s x → IsHarmless o x
  bystands Device s x h may = absurd (cc)
  bystands Host s x h may = absurd (cc)
  bystands Bystander s x h may = may

  keeps_part : (d : D) (h : H) (start : Memory) (trace : List X) → IsRunOf o d h start trace → (p : Party) → Follows (may_part p) (next_part p) (part p (record { device = d; host = h })) (filter (λ x. is_party (party o x) p) trace)
  keeps_part d h start trace r Device = r.device
  keeps_part d h start trace r Host = r.host
  keeps_part d h start trace r Bystander = Follows_All (IsHarmless o) (λ x. is_party (party o x) Bystander) trace r.others

  -- both sides' own lists keep their rules, so each operation of the trace keeps that of whoever makes it
  pub keeps_all : (d : D) (h : H) (start : Memory) (trace : List X) → IsRunOf o d h start trace → Follows (MayAny o) (after_any o) (record { device = d; host = h }) trace
  keeps_all d h start trace r =
      Follows_weaker (λ s x. may_part (party o x) (part (party o x) s) x) (MayAny o) (after_any o) (λ s x. from_part (party o x) s x) (record { device = d; host = h }) trace
      (woven is_party party_tells (party o) Part part may_part next_part (after_any o) (λ s x. moves_by (party o x) s x) (λ k s x. stays_by (party o x) k s x) trace (record { device = d; host = h }) (keeps_part d h start trace r))

  harmless_All : (s : Sides D H) (trace : List X) → Follows (MayAny o) (after_any o) s trace → AllByRecursion (IsHarmless o) trace
  harmless_All s [] k = tt
  harmless_All s (x ∷ trace) k = (
    (λ inside role. bystands (party o x) s x (cond-true (o.touches (o.entry x).addr) (o.role x) Bystander inside ∙ role) k.0 inside role),
    harmless_All (after_any o s x) trace k.1,
  )

  -- and back: what a world that pushes one operation after another knows in the end
  pub run_of : (d : D) (h : H) (start : Memory) (trace : List X) → IsConsistent start (map o.entry trace) → Follows (MayAny o) (after_any o) (record { device = d; host = h }) trace → IsRunOf o d h start trace
  run_of d h start trace consistent keeps =
      let s : Sides D H = record { device = d; host = h } in
      let parts = Follows_weaker (MayAny o) (λ s x. may_part (party o x) (part (party o x) s) x) (after_any o) (λ s x. to_part (party o x) s x) s trace keeps in
      let apart = λ (k : Party). unwoven is_party party_tells (party o) Part part may_part next_part (after_any o) (λ s x. moves_by (party o x) s x) (λ k s x. stays_by (party o x) k s x) k trace s parts in
      record { consistent = consistent; device = apart Device; host = apart Host; others = harmless_All s trace keeps }

  module _ (tied : Memory → D → H → L → Type 0) where
    abbrev pub Holds : Memory → Sides D H → L → Type 0
    Holds m s l = tied m s.device s.host l

    -- what an operation makes of this, with what it says
    abbrev pub Advances : Memory → D → H → L → Option E → Type 0
    Advances m d h l said = Goes o.may o.after Holds m (record { device = d; host = h }) l said

    module _
        (kept : (m m' : Memory) (d : D) (h : H) (l : L) → ((a : ℕ) → o.touches a ≡ true → m' a ≡ m a) → tied m d h l → tied m' d h l)
        (step_device : (m : Memory) (d : D) (h : H) (l : L) (x : X) → tied m d h l → Tells m (o.entry x) → o.may_device d x → Advances (after_entry m (o.entry x)) (o.after_device d x) h l (o.device_says d x))
        (step_host : (m : Memory) (d : D) (h : H) (l : L) (x : X) → tied m d h l → Tells m (o.entry x) → o.may_host h x → Advances (after_entry m (o.entry x)) d (o.after_host h x) l (o.host_says h x)) where
      step_by : (p : Party) (m : Memory) (s : Sides D H) (l : L) (x : X) → party o x ≡ p → Holds m s l → Tells m (o.entry x) → may_by o p s x → Goes o.may o.after Holds (after_entry m (o.entry x)) (after_by o p s x) l (says_by o p s x)
      step_by Device m s l x is t tells may = step_device m s.device s.host l x t tells may
      step_by Host m s l x is t tells may = step_host m s.device s.host l x t tells may
      step_by Bystander m s l x is t tells may =
          let load = λ (inside : o.touches (o.entry x).addr ≡ true). may inside (sym (cond-true (o.touches (o.entry x).addr) (o.role x) Bystander inside) ∙ is) in
          kept m (after_entry m (o.entry x)) s.device s.host l (harmless_kept o.touches m (o.entry x) load) t

      -- what the marked operations of a run say is legal
      pub law_of : (trace : List X) (m : Memory) (d : D) (h : H) (l : L) → tied m d h l → IsRunOf o d h m trace → IsLegal o l (history o d h trace)
      law_of trace m d h l t r =
          legal_by_steps o.may o.after Holds o.entry (MayAny o) (after_any o) (any_says o) (λ m s l x. step_by (party o x) m s l x refl) trace m (record { device = d; host = h }) l t r.consistent (keeps_all d h m trace r)
