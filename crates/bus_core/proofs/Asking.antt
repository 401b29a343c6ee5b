-- The law of a trace whose operations speak only of what they may ask of, and what holds at its end.
use Rattle.std.proofs.Common.{◌≡◌, ℕ, refl, sym, ◌∙◌, true, List, [], ◌∷◌, Option, Some, None}
use Rattle.std.specs.Prelude.{map}
use Rattle.std.specs.List.{cons_option, fold}
use Rattle.std.proofs.lemmas.Bool.{cond-true}
use Rattle.bus_core.specs.declared.operation.BusEntry.{BusEntry}
use Rattle.bus_core.specs.Follow.{Follows}
use Rattle.bus_core.specs.Trace.{Memory, Tells, after_entry, memory_after, IsConsistent}
use Rattle.bus_core.specs.Weave.{spelled}
use Rattle.bus_core.specs.TwoSides.{Party, Device, Host, Bystander, Object, Sides, party, IsRunOf, may_by, after_by, says_by, MayAny, after_any, any_says, history, IsLegal}
use Rattle.bus_core.proofs.Words.{harmless_kept}
use Rattle.bus_core.proofs.Weaving.{Goes}
use Rattle.bus_core.proofs.TwoSided.{keeps_all}

module _ {W H A : Type 0} (legal asks : A → H → Type 0) (next : A → H → A) (Holds : Memory → W → A → Type 0) where
  abbrev pub MayAskFor : A → Option H → Type 0
  MayAskFor a None = Unit {0}
  MayAskFor a (Some h) = asks a h

  -- what is said is legal, and what holds goes on to hold
  abbrev Ends : Memory → W → A → List H → Type 0
  Ends m w a said = Follows legal next a said × Holds m w (fold next a said)

  first_ask : (a : A) (said : Option H) (rest : List H) → Follows asks next a (cons_option said rest) → MayAskFor a said
  first_ask a None rest h = tt
  first_ask a (Some event) rest h = h.0

  goes_on : (m n : Memory) (w v : W) (a : A) (said : Option H) (rest : List H) → Goes legal next Holds m w a said → Follows asks next a (cons_option said rest)
      → ((b : A) → Holds m w b → Follows asks next b rest → Ends n v b rest) → Ends n v a (cons_option said rest)
  goes_on m n w v a None rest g ask f = f a g ask
  goes_on m n w v a (Some event) rest g ask f = let ends = f (next a event) g.1 ask.1 in ((g.0, ends.0), ends.1)

  module _ {X : Type 0} (entry : X → BusEntry) (may : W → X → Type 0) (after : W → X → W) (says : W → X → Option H)
      (step : (m : Memory) (w : W) (a : A) (x : X) → Holds m w a → Tells m (entry x) → may w x → MayAskFor a (says w x) → Goes legal next Holds (after_entry m (entry x)) (after w x) a (says w x)) where
    pub ends_by_asking : (trace : List X) (m : Memory) (w : W) (a : A) → Holds m w a → IsConsistent m (map entry trace) → Follows may after w trace → Follows asks next a (spelled after says w trace)
        → Follows legal next a (spelled after says w trace) × Holds (memory_after m (map entry trace)) (fold after w trace) (fold next a (spelled after says w trace))
    ends_by_asking [] m w a h con k ask = (tt, h)
    ends_by_asking (x ∷ xs) m w a h con k ask =
        let n : Memory = after_entry m (entry x) in
        let rest : List H = spelled after says (after w x) xs in
        goes_on n (memory_after n (map entry xs)) (after w x) (fold after (after w x) xs) a (says w x) rest (step m w a x h con.0 k.0 (first_ask a (says w x) rest ask)) ask
        (λ b g more. ends_by_asking xs n (after w x) b g con.1 k.1 more)

module _ {X D H L E : Type 0} (o : Object X D H L E) (asks : L → E → Type 0) (tied : Memory → D → H → L → Type 0) where
  abbrev Standing : Memory → Sides D H → L → Type 0
  Standing m s l = tied m s.device s.host l

  -- what an operation makes of this, with what it says
  abbrev pub Advances : Memory → D → H → L → Option E → Type 0
  Advances m d h l said = Goes o.may o.after Standing m (record { device = d; host = h }) l said

  abbrev pub Asked : L → Option E → Type 0
  Asked l said = MayAskFor o.may asks o.after Standing l said

  module _
      (kept : (m m' : Memory) (d : D) (h : H) (l : L) → ((a : ℕ) → o.touches a ≡ true → m' a ≡ m a) → tied m d h l → tied m' d h l)
      (step_device : (m : Memory) (d : D) (h : H) (l : L) (x : X) → tied m d h l → Tells m (o.entry x) → o.may_device d x → Asked l (o.device_says d x) → Advances (after_entry m (o.entry x)) (o.after_device d x) h l (o.device_says d x))
      (step_host : (m : Memory) (d : D) (h : H) (l : L) (x : X) → tied m d h l → Tells m (o.entry x) → o.may_host h x → Asked l (o.host_says h x) → Advances (after_entry m (o.entry x)) d (o.after_host h x) l (o.host_says h x)) where
    step_by : (p : Party) (m : Memory) (s : Sides D H) (l : L) (x : X) → party o x ≡ p → Standing m s l → Tells m (o.entry x) → may_by o p s x → Asked l (says_by o p s x) → Goes o.may o.after Standing (after_entry m (o.entry x)) (after_by o p s x) l (says_by o p s x)
    step_by Device m s l x is t tells may ask = step_device m s.device s.host l x t tells may ask
    step_by Host m s l x is t tells may ask = step_host m s.device s.host l x t tells may ask
    step_by Bystander m s l x is t tells may ask =
        let load = λ (inside : o.touches (o.entry x).addr ≡ true). may inside (sym (cond-true (o.touches (o.entry x).addr) (o.role x) Bystander inside) ∙ is) in
        kept m (after_entry m (o.entry x)) s.device s.host l (harmless_kept o.touches m (o.entry x) load) t

    -- what the marked operations of a run say is legal, where it may be asked
    pub law_of_asking : (trace : List X) (m : Memory) (d : D) (h : H) (l : L) → tied m d h l → IsRunOf o d h m trace → Follows asks o.after l (history o d h trace) → IsLegal o l (history o d h trace)
    law_of_asking trace m d h l t r ask =
        (ends_by_asking o.may asks o.after Standing o.entry (MayAny o) (after_any o) (any_says o) (λ m s l x. step_by (party o x) m s l x refl) trace m (record { device = d; host = h }) l t r.consistent (keeps_all o d h m trace r) ask).0
