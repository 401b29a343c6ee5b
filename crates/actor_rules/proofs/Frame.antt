-- What an operation within one object leaves as it was.
use Rattle.std.proofs.Common.{◌≡◌, ◌≢◌, ◌⊎◌, ℕ, ◌==◌, if◌then◌else◌, inl, inr, refl, sym, ap, subst, ◌∙◌, true}
use Rattle.std.proofs.lemmas.Bool.Decides.{eqb_tells}
use Rattle.bus_core.specs.declared.operation.BusEntry.{BusEntry}
use Rattle.bus_core.specs.Trace.{Memory, after_entry}
use Rattle.bus_core.proofs.Words.{apart_kept}
use Rattle.verbs_types.specs.declared.declaration.Lines.{Lines}
use Rattle.cq_pair.proofs.Tied as completions
use Rattle.counted_ring.proofs.Tied as requests
use Rattle.object_places.specs.Objects.{Object, Completions, Sends, Receives, Lives, touches}
use Rattle.object_places.specs.Places.{send_of, receive_of, completions_of}
use Rattle.actor_rules.specs.View.{View}
use Rattle.actor_rules.specs.Objects.{Lists, Sides, sides, AllTiedIn, TiedAt, TiedIn}
use Rattle.actor_rules.specs.Holding.{IsMapped}

-- an object by the number of its kind and its own
abbrev code : Object → ℕ × ℕ
code (Completions cq) = (0, cq)
code (Sends qp) = (1, qp)
code (Receives qp) = (2, qp)

abbrev object_with : ℕ × ℕ → Object
object_with c = if c.0 == 0 then Completions c.1 else if c.0 == 1 then Sends c.1 else Receives c.1

code_back : (o : Object) → object_with (code o) ≡ o
code_back (Completions cq) = refl
code_back (Sends qp) = refl
code_back (Receives qp) = refl

-- one object is the same as another, or is not
pub same_object : (o p : Object) → (o ≡ p) ⊎ (o ≢ p)
same_object o p = elim (eqb_tells (code o).0 (code p).0) [
  | inl kind ↦ elim (eqb_tells (code o).1 (code p).1) [
    | inl number ↦ inl (sym (code_back o) ∙ (λ i. object_with (kind.1 i, number.1 i)) ∙ code_back p)
    | inr differ ↦ inr (λ same. differ.1 (ap (λ (x : Object). (code x).1) same))
  ]
  | inr differ ↦ inr (λ same. differ.1 (ap (λ (x : Object). (code x).0) same))
]

module _ (d : Lines) (map : IsMapped d) (m m' : Memory) where
  -- an object whose words are as before is tied as before
  pub kept : (p : Object) → Lives d p → ((a : ℕ) → touches d p a ≡ true → m' a ≡ m a) → (x : Sides p) → TiedAt d m p x → TiedAt d m' p x
  kept (Completions cq) lives words x t = completions.Tied_kept (completions_of d cq) m m' x.device x.host x.words words t
  kept (Sends qp) lives words x t = requests.Tied_kept (send_of d qp) m m' x.poster x.retirer x.reader x.words (map.placed d (Sends qp) map.declared lives).fine words t
  kept (Receives qp) lives words x t = requests.Tied_kept (receive_of d qp) m m' x.poster x.retirer x.reader x.words (map.placed d (Receives qp) map.declared lives).fine words t

  -- an operation outside all objects moves none of their words
  pub frame_elsewhere : (s : View) (l : Lists) → ((p : Object) → Lives d p → (a : ℕ) → touches d p a ≡ true → m' a ≡ m a) → AllTiedIn d m s l → AllTiedIn d m' s l
  frame_elsewhere s l words before p lives = kept p lives (words p lives) (sides d s l p) (before p lives)

-- an operation within one object moves the sides and the queue of that object alone
pub frame_in : (d : Lines) → IsMapped d → (m : Memory) (e : BusEntry) (s s' : View) (l l' : Lists) → AllTiedIn d m s l → (o : Object) → Lives d o → touches d o e.addr ≡ true
    → ((p : Object) → Lives d p → p ≢ o → sides d s' l' p ≡ sides d s l p) → TiedIn d (after_entry m e) s' l' o → AllTiedIn d (after_entry m e) s' l'
frame_in d map m e s s' l l' before o lives inside others now p lives' = elim (same_object p o) [
  | inl same ↦ subst (TiedIn d (after_entry m e) s' l') (sym same) now
  | inr differ ↦ subst (TiedAt d (after_entry m e) p) (sym (others p lives' differ))
      (kept d map m (after_entry m e) p lives' (apart_kept (touches d o) (touches d p) m e (λ a. map.apart d o p a map.declared lives lives' (λ same. differ (sym same))) inside) (sides d s l p) (before p lives'))
]
