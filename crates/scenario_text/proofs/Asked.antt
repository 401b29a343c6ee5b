-- What a line that breaks no rule says of its fields.
use Rattle.std.proofs.Common.{◌≡◌, ℕ, zero, suc, ◌+◌, ◌<◌, Bool, true, false, not, ◌&&◌, cond, List, [], ◌∷◌, length, get_or, drop, IsTrue, Option, None, Some, true≢false, refl, sym, subst, arith, get_or-drop}
use Rattle.std.specs.List.{list_all}
use Rattle.std.proofs.lemmas.Bool.{and_parts}
use Rattle.scenario_text.specs.Keywords.{slots_of, more_of}
use Rattle.scenario_text.specs.Built.{is_built_line}
use Rattle.scenario_text.specs.Rules.{is_new, is_known, is_own, all_keep, first_broken, may_stand, fits}
use Rattle.scenario_text.specs.Slots.{is_formed, has_number}
use Rattle.scenario_text.specs.Sofar.{Said}
use Rattle.scenario_text.specs.Text.{Field, Line, part_at}
use Rattle.scenario_text.specs.declared.fault.TextRule.{TextRule}
use Rattle.scenario_text.specs.declared.fault.TextRule.TheVariants as rules
use Rattle.scenario_text.specs.declared.keyword.Keyword.{Keyword}
use Rattle.scenario_text.specs.declared.slot.Slot.{Slot}

-- the line stands where it may, and its fields are what they have to be
pub record Passes (s : Said) (keyword : Keyword) (line : Line) : Type 0 where
  pub built : IsTrue (is_built_line s (Some keyword) line)
  pub stands : IsTrue (may_stand s keyword)
  pub formed : IsTrue (all_keep is_formed (slots_of keyword) (more_of keyword) (drop 1 line))
  pub numbered : IsTrue (all_keep has_number (slots_of keyword) (more_of keyword) (drop 1 line))
  pub new : IsTrue (all_keep (is_new s) (slots_of keyword) (more_of keyword) (drop 1 line))
  pub known : IsTrue (all_keep (is_known s) (slots_of keyword) (more_of keyword) (drop 1 line))
  pub own : IsTrue (all_keep (is_own s) (slots_of keyword) (more_of keyword) (drop 1 line))

-- a test that has to be passed
pub unless : (b : Bool) (why : TextRule) (rest : Option TextRule) → (cond (not b) (Some why) rest) ≡ None → IsTrue b × (rest ≡ None)
unless true why rest h = (refl, h)
unless false why rest h = absurd (cc)

-- of five rules in their order
tested : (standing formed numbered new known own : Bool)
    → (cond (not (standing && formed)) (Some rules.Form)
    (cond (not numbered) (Some rules.Number) (cond (not new) (Some rules.Double) (cond (not known) (Some rules.Name) (cond (not own) (Some rules.Side) None))))) ≡ None
    → IsTrue standing × IsTrue formed × IsTrue numbered × IsTrue new × IsTrue known × IsTrue own
tested false formed numbered new known own h = absurd (cc)
tested true false numbered new known own h = absurd (cc)
tested true true false new known own h = absurd (cc)
tested true true true false known own h = absurd (cc)
tested true true true true false own h = absurd (cc)
tested true true true true true false h = absurd (cc)
tested true true true true true true h = (refl, refl, refl, refl, refl, refl)

pub passes_rules : (s : Said) (keyword : Keyword) (line : Line) → IsTrue (is_built_line s (Some keyword) line) → first_broken s keyword line ≡ None → Passes s keyword line
passes_rules s keyword line built h =
    let kept : IsTrue (may_stand s keyword) × IsTrue (fits s rules.Form keyword line) × IsTrue (fits s rules.Number keyword line) × IsTrue (fits s rules.Double keyword line) × IsTrue (fits s rules.Name keyword line) × IsTrue (fits s rules.Side keyword line) =
    tested (may_stand s keyword) (fits s rules.Form keyword line) (fits s rules.Number keyword line) (fits s rules.Double keyword line) (fits s rules.Name keyword line) (fits s rules.Side keyword line) h
    in
    record { built = built; stands = kept.0; formed = kept.1; numbered = kept.2; new = kept.3; known = kept.4; own = kept.5 }

-- a field in its place
pub kept_at : (ok : Slot → Field → Bool) (slots : List Slot) (more : Option Slot) (fields : Line) (i : ℕ) (d : Slot) → IsTrue (all_keep ok slots more fields) → i < length slots
    → IsTrue (ok (get_or slots i d) (get_or fields i []))
kept_at ok [] more fields i d h below = absurd (omega (arith, below))
kept_at ok (slot ∷ slots) more [] i d h below = absurd (true≢false (sym h))
kept_at ok (slot ∷ slots) more (f ∷ fs) zero d h below = (and_parts (ok slot f) (all_keep ok slots more fs) h).0
kept_at ok (slot ∷ slots) more (f ∷ fs) (suc i) d h below = kept_at ok slots more fs i d (and_parts (ok slot f) (all_keep ok slots more fs) h).1 (omega (arith, below))

-- the same of a place of the line
pub part_kept : (ok : Slot → Field → Bool) (slots : List Slot) (more : Option Slot) (line : Line) (i : ℕ) (slot : Slot) → IsTrue (all_keep ok slots more (drop 1 line)) → i < length slots
    → get_or slots i slot ≡ slot → IsTrue (ok slot (part_at line (1 + i)))
part_kept ok slots more line i slot h below is =
    subst (λ x. IsTrue (ok x (part_at line (1 + i)))) is
    (subst (λ f. IsTrue (ok (get_or slots i slot) f)) (get_or-drop 1 line i []) (kept_at ok slots more (drop 1 line) i slot h below))

-- what may follow one place
pub more_kept : (ok : Slot → Field → Bool) (first more : Slot) (line : Line) → IsTrue (all_keep ok (first ∷ []) (Some more) (drop 1 line)) → IsTrue (list_all (ok more) (drop 2 line))
more_kept ok first more [] h = absurd (true≢false (sym h))
more_kept ok first more (word ∷ []) h = absurd (true≢false (sym h))
more_kept ok first more (word ∷ f ∷ fs) h = (and_parts (ok first f) (list_all (ok more) fs) h).1
