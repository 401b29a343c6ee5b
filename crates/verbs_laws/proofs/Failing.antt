-- What it says that no rule fails, and the tests of the rules as facts.
use Rattle.std.proofs.Common.{◌≡◌, ℕ, ◌≤◌, ◌⊎◌, inl, inr, refl, Bool, true, false, Option, None, eqb-true, eq-eqb, leb-true, le-leb}
use Rattle.std.specs.Prelude.{List, [], ◌∷◌}
use Rattle.std.proofs.lemmas.Bool.{and_parts, and_from, or_cases, or_left, or_right, false≢true}
use Rattle.verbs_types.specs.declared.entry.RuleName.{RuleName}
use Rattle.verbs_types.specs.declared.entry.TheConstants.{CONTROL}
use Rattle.verbs_types.specs.declared.state.Act.{Act}
use Rattle.verbs_types.specs.Lines.{is_between}
use Rattle.verbs_rules.specs.Rules.{failing, is_host}
use Rattle.verbs_rules.specs.Rows.{is_idle, is_first, rest_of}

pub passes : (holds : Bool) (rule : RuleName) (others : Option RuleName) → holds ≡ true → others ≡ None → failing holds rule others ≡ None
passes true rule others h o = o
passes false rule others h o = absurd (false≢true h)

pub passed : (holds : Bool) (rule : RuleName) (others : Option RuleName) → failing holds rule others ≡ None → (holds ≡ true) × (others ≡ None)
passed true rule others h = (refl, h)
passed false rule others h = absurd (cc)

-- a thread, or the one that opens and closes the adapter
abbrev pub IsHost : ℕ → Type 0
IsHost actor = ((1 ≤ actor) × (actor ≤ 16)) ⊎ (actor ≡ CONTROL)

pub is_between-true : (least most n : ℕ) → is_between least most n ≡ true → (least ≤ n) × (n ≤ most)
is_between-true least most n h = let parts = and_parts _ _ h in (leb-true least n parts.0, leb-true n most parts.1)

pub between_is_between : (least most n : ℕ) → least ≤ n → n ≤ most → is_between least most n ≡ true
between_is_between least most n l m = and_from _ _ (le-leb least n l) (le-leb n most m)

pub host_is_host : (actor : ℕ) → IsHost actor → is_host actor ≡ true
host_is_host actor (inl h) = or_left _ _ (between_is_between 1 16 actor h.0 h.1)
host_is_host actor (inr h) = or_right _ _ (eq-eqb actor CONTROL h)

pub is_host-true : (actor : ℕ) → is_host actor ≡ true → IsHost actor
is_host-true actor h = elim (or_cases _ _ h) [ inl b ↦ inl (is_between-true 1 16 actor b) | inr e ↦ inr (eqb-true actor CONTROL e) ]

pub is_idle-true : (acts : List Act) → is_idle acts ≡ true → acts ≡ []
is_idle-true [] h = refl
is_idle-true (act ∷ acts) h = absurd (false≢true h)

pub nothing_is_idle : (acts : List Act) → acts ≡ [] → is_idle acts ≡ true
nothing_is_idle acts h = rw h refl

pub is_first-true : (n : ℕ) (ns : List ℕ) → is_first n ns ≡ true → ns ≡ n ∷ rest_of ns
is_first-true n [] h = absurd (false≢true h)
is_first-true n (m ∷ ms) h = let same = eqb-true n m h in cc

pub first_is_first : (n : ℕ) (ns : List ℕ) → ns ≡ n ∷ rest_of ns → is_first n ns ≡ true
first_is_first n [] h = absurd (cc)
first_is_first n (m ∷ ms) h = eq-eqb n m (cc)
