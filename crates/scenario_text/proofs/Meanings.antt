-- Names that stand for what is there.
use Rattle.std.proofs.Common.{ℕ, Bool, true, false, cond, List, [], ◌∷◌, ◌++◌, IsTrue, Some, is_some, unwrap_or, option_and_then, bytes_eq, true≢false, sym, arith}
use Rattle.std.proofs.lemmas.List.Elements.{All-push, All-head, All-tail, All-weaker}
use Rattle.verbs_types.specs.declared.declaration.Lines.{Lines}
use Rattle.verbs_types.specs.declared.declaration.Object.TheVariants as objects
use Rattle.verbs_types.specs.declared.declaration.TheConstants.{FIRST_PD, FIRST_QP}
use Rattle.scenario_text.specs.Naming.{Entry, meaning_of, number_as, number_named}
use Rattle.scenario_text.specs.declared.names.Meaning.{Meaning}
use Rattle.scenario_text.specs.declared.names.Meaning.TheVariants.{Taken, Actor, Object}
use Rattle.scenario_text.specs.declared.slot.Kind.{Kind}
use Rattle.scenario_text.specs.declared.slot.Kind.TheVariants as kinds
use Rattle.scenario_text.proofs.Declaring.{IsMore}
use Rattle.scenario_text.proofs.Growing.{among_more}
use Rattle.scenario_text.proofs.Standing.{IsNumber, IsThere, AllThere}

-- a meaning of the kind has the number of one that is there
number_of : (d : Lines) (kind : Kind) (m : Meaning) → IsThere d m → IsTrue (is_some (number_as kind m)) → IsNumber d kind (unwrap_or (number_as kind m) 0)
number_of d kinds.Eq (Object (objects.Eq n)) there h = there
number_of d kinds.Pd (Object (objects.Pd n)) there h = there
number_of d kinds.Cq (Object (objects.Cq n)) there h = there
number_of d kinds.Qp (Object (objects.Qp n)) there h = there
number_of d kinds.Actor (Actor n) there h = there
number_of d _ _ there h = absurd (true≢false (sym h))

pub number_there : (d : Lines) (kind : Kind) (name : List ℕ) (names : List Entry) → AllThere d names → IsTrue (is_some (number_named names kind name))
    → IsNumber d kind (unwrap_or (number_named names kind name) 0)
number_there d kind name [] all h = absurd (true≢false (sym h))
number_there d kind name (e ∷ es) all h =
    by (bytes_eq name e.name) (number_of d kind e.meaning (All-head (λ (x : Entry). IsThere d x.meaning) e es all))
    (number_there d kind name es (All-tail (λ (x : Entry). IsThere d x.meaning) e es all)) h
  where
    by : (same : Bool) → (IsTrue (is_some (number_as kind e.meaning)) → IsNumber d kind (unwrap_or (number_as kind e.meaning) 0))
        → (IsTrue (is_some (number_named es kind name)) → IsNumber d kind (unwrap_or (number_named es kind name) 0)) → IsTrue (is_some (option_and_then (number_as kind) (cond same (Some e.meaning) (meaning_of es name))))
        → IsNumber d kind (unwrap_or (option_and_then (number_as kind) (cond same (Some e.meaning) (meaning_of es name))) 0)
    by true here later h = here h
    by false here later h = later h

-- what was there stays there
there_more : (d e : Lines) → IsMore d e → (m : Meaning) → IsThere d m → IsThere e m
there_more d e more Taken h = h
there_more d e more (Actor n) h = omega (arith, more.threads, h)
there_more d e more (Object (objects.Eq n)) h = among_more 0 _ _ n more.eqs h
there_more d e more (Object (objects.Pd n)) h = among_more FIRST_PD _ _ n more.pds h
there_more d e more (Object (objects.Cq n)) h = among_more 0 _ _ n more.cqs h
there_more d e more (Object (objects.Qp n)) h = among_more FIRST_QP _ _ n more.qps h

pub all_there_more : (d e : Lines) → IsMore d e → (names : List Entry) → AllThere d names → AllThere e names
all_there_more d e more names all = All-weaker (λ (x : Entry). IsThere d x.meaning) (λ (x : Entry). IsThere e x.meaning) (λ (x : Entry). there_more d e more x.meaning) names all

pub all_there_push : (d e : Lines) → IsMore d e → (names : List Entry) (entry : Entry) → IsThere e entry.meaning → AllThere d names → AllThere e (names ++ entry ∷ [])
all_there_push d e more names entry there all = All-push (λ (x : Entry). IsThere e x.meaning) names entry (all_there_more d e more names all) there
