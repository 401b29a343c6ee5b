-- The three sides' own lists keep their rules, so each operation of the trace keeps that of whoever makes it.
use Rattle.std.proofs.Common.{◌≡◌, ◌≢◌, ℕ, inl, inr, refl, List, [], ◌∷◌}
use Rattle.std.specs.List.{AllByRecursion}
use Rattle.bus_core.specs.Follow.{Follows}
use Rattle.bus_core.specs.Mark.{Marked}
use Rattle.bus_core.specs.Trace.{Memory}
use Rattle.bus_core.specs.Weave.{TellsApart}
use Rattle.bus_core.proofs.Weaving.{woven}
use Rattle.cq_arms.specs.declared.place.ArmPlace.{ArmPlace}
use Rattle.cq_arms.specs.Mark.{ArmMark, ArmParty, ByArmer, ByReader, ByAdapter, Beside, party_of, is_party}
use Rattle.cq_arms.specs.Armer.{Armer, MayArm, after_arm}
use Rattle.cq_arms.specs.Reader.{Reader, MayRaise, after_raise}
use Rattle.cq_arms.specs.Device.{IsHarmless}
use Rattle.cq_arms.specs.Scanner.{Scanner, MayScan, after_scan}
use Rattle.cq_arms.specs.Law.{ArmSides, after_by, after_any, fresh_sides, of_party, IsRun}

pub party_tells : TellsApart is_party
party_tells ByArmer ByArmer = inl (refl, refl)
party_tells ByReader ByReader = inl (refl, refl)
party_tells ByAdapter ByAdapter = inl (refl, refl)
party_tells Beside Beside = inl (refl, refl)
party_tells _ _ = inr (refl, λ h. cc)

abbrev Part : ArmParty → Type 0
Part ByArmer = Armer
Part ByReader = Reader
Part ByAdapter = Scanner
Part Beside = Unit {0}

abbrev part : (p : ArmParty) → ArmSides → Part p
part ByArmer s = s.armer
part ByReader s = s.reader
part ByAdapter s = s.scanner
part Beside s = tt

module _ (place : ArmPlace) where
  abbrev may_part : (p : ArmParty) → Part p → Marked ArmMark → Type 0
  may_part ByArmer a x = MayArm place a x.mark x.entry
  may_part ByReader r x = MayRaise place r x.mark x.entry
  may_part ByAdapter s x = MayScan place s x.mark x.entry
  may_part Beside u x = IsHarmless place x.entry

  abbrev next_part : (p : ArmParty) → Part p → Marked ArmMark → Part p
  next_part ByArmer a x = after_arm a x.mark x.entry
  next_part ByReader r x = after_raise r x.mark
  next_part ByAdapter s x = after_scan s x.mark x.entry
  next_part Beside u x = u

  moves : (p : ArmParty) (s : ArmSides) (x : Marked ArmMark) → part p (after_by p s x) ≡ next_part p (part p s) x
  moves ByArmer s x = refl
  moves ByReader s x = refl
  moves ByAdapter s x = refl
  moves Beside s x = refl

  stays : (p k : ArmParty) (s : ArmSides) (x : Marked ArmMark) → p ≢ k → part k (after_by p s x) ≡ part k s
  stays ByArmer ByArmer s x other = absurd (other refl)
  stays ByReader ByReader s x other = absurd (other refl)
  stays ByAdapter ByAdapter s x other = absurd (other refl)
  stays _ _ s x other = refl

  -- the rule of whoever makes the operation
  abbrev pub may_by : ArmParty → ArmSides → Marked ArmMark → Type 0
  may_by p s x = may_part p (part p s) x

  abbrev pub MayAny : ArmSides → Marked ArmMark → Type 0
  MayAny s x = may_by (party_of x.mark) s x

  each_keeps : (trace : List (Marked ArmMark)) → AllByRecursion (λ (x : Marked ArmMark). IsHarmless place x.entry) trace → Follows (may_part Beside) (next_part Beside) tt trace
  each_keeps [] h = tt
  each_keeps (x ∷ trace) h = (h.0, each_keeps trace h.1)

  own : (index : ℕ) (start : Memory) (trace : List (Marked ArmMark)) → IsRun place index start trace → (p : ArmParty) → Follows (may_part p) (next_part p) (part p (fresh_sides index)) (of_party p trace)
  own index start trace r ByArmer = r.armer
  own index start trace r ByReader = r.reader
  own index start trace r ByAdapter = r.adapter
  own index start trace r Beside = each_keeps (of_party Beside trace) r.others

  pub keeps_all : (index : ℕ) (start : Memory) (trace : List (Marked ArmMark)) → IsRun place index start trace → Follows MayAny after_any (fresh_sides index) trace
  keeps_all index start trace r =
      woven is_party party_tells (λ (x : Marked ArmMark). party_of x.mark) Part part may_part next_part after_any (λ s x. moves (party_of x.mark) s x) (λ k s x other. stays (party_of x.mark) k s x other) trace (fresh_sides index) (own index start trace r)
