-- What is printed by a number is the name that stood there, and stays so with more lines.
use Rattle.std.proofs.Common.{◌≡◌, ℕ, zero, suc, ◌+◌, ◌-◌, Bool, true, false, cond, List, [], ◌∷◌, ◌++◌, length, All, IsTrue, is_some, Some, slice_get, unwrap_or, option_and_then, bytes_eq, true≢false, refl, sym, ap, ◌∙◌, subst, arith}
use Rattle.std.specs.Bool.{⊤}
use Rattle.std.specs.Option.{option_map_or}
use Rattle.std.proofs.lemmas.List.Elements.{All-head, All-tail}
use Rattle.std.proofs.lemmas.Option.{none-some}
use Rattle.std.proofs.lemmas.Slice.Eq.{bytes_eq-Decides}
use Rattle.verbs_types.specs.declared.declaration.Connect.{Connect}
use Rattle.verbs_types.specs.declared.declaration.CqLine.{CqLine}
use Rattle.verbs_types.specs.declared.declaration.EqLine.{EqLine}
use Rattle.verbs_types.specs.declared.declaration.Lines.{Lines}
use Rattle.verbs_types.specs.declared.declaration.PdLine.{PdLine}
use Rattle.verbs_types.specs.declared.declaration.QpLine.{QpLine}
use Rattle.verbs_types.specs.declared.declaration.Object.TheVariants as objects
use Rattle.scenario_text.specs.Heads.{text_at, eq_name, pd_name, cq_name, qp_name}
use Rattle.scenario_text.specs.Naming.{Entry, meaning_of, number_as, number_named}
use Rattle.scenario_text.specs.Spelling.{actor_name}
use Rattle.scenario_text.specs.declared.names.Meaning.{Meaning}
use Rattle.scenario_text.specs.declared.names.Meaning.TheVariants.{Taken, Actor, Object}
use Rattle.scenario_text.specs.declared.slot.Kind.{Kind}
use Rattle.scenario_text.specs.declared.slot.Kind.TheVariants as kinds
use Rattle.scenario_text.proofs.Declaring.{with_eq, with_pd, with_cq, with_qp, with_connect, with_thread}
use Rattle.scenario_text.proofs.Growing.{push_last}

-- what is there is there later too
abbrev pub Stays : {X : Type 0} → List X → List X → Type 0
Stays {X} xs ys = (n : ℕ) (x : X) → slice_get xs n ≡ Some x → slice_get ys n ≡ Some x

pub stays_same : {X : Type 0} (xs : List X) → Stays xs xs
stays_same xs n x h = h

pub stays_push : {X : Type 0} (xs ys : List X) (y : X) → Stays (xs ++ y ∷ []) ys → Stays xs ys
stays_push {X} xs ys y more n x h = more n x (there xs n h)
  where
    there : (xs : List X) (n : ℕ) → slice_get xs n ≡ Some x → slice_get (xs ++ y ∷ []) n ≡ Some x
    there [] n h = absurd (none-some x h)
    there (z ∷ xs) zero h = h
    there (z ∷ xs) (suc n) h = there xs n h

-- the text of the last item
pub last_text : {X : Type 0} (text : X → List ℕ) (xs ys : List X) (y : X) → Stays (xs ++ y ∷ []) ys → text_at text ys (length xs) ≡ text y
last_text text xs ys y more = ap (λ o. option_map_or text o []) (more (length xs) y (push_last xs y (length xs) refl))

-- the same where the first item has this number
pub last_from : {X : Type 0} (text : X → List ℕ) (first : ℕ) (xs ys : List X) (y : X) → Stays (xs ++ y ∷ []) ys → text_at text ys (first + length xs - first) ≡ text y
last_from text first xs ys y more = let place : first + length xs - first ≡ length xs = omega arith in ap (text_at text ys) place ∙ last_text text xs ys y more

-- lines with more after them
pub record Extends (d e : Lines) : Type 0 where
  pub eqs : Stays d.eqs e.eqs
  pub pds : Stays d.pds e.pds
  pub cqs : Stays d.cqs e.cqs
  pub qps : Stays d.qps e.qps
  pub threads : Stays d.threads e.threads

pub extends_same : (d : Lines) → Extends d d
extends_same d = record { eqs = stays_same d.eqs; pds = stays_same d.pds; cqs = stays_same d.cqs; qps = stays_same d.qps; threads = stays_same d.threads }

-- what comes after one more line comes after those before it
module _ (d e : Lines) where
  pub extends_eq : (l : EqLine) → Extends (with_eq d l) e → Extends d e
  extends_eq l h = record { eqs = stays_push d.eqs e.eqs l h.eqs; pds = h.pds; cqs = h.cqs; qps = h.qps; threads = h.threads }

  pub extends_pd : (l : PdLine) → Extends (with_pd d l) e → Extends d e
  extends_pd l h = record { eqs = h.eqs; pds = stays_push d.pds e.pds l h.pds; cqs = h.cqs; qps = h.qps; threads = h.threads }

  pub extends_cq : (l : CqLine) → Extends (with_cq d l) e → Extends d e
  extends_cq l h = record { eqs = h.eqs; pds = h.pds; cqs = stays_push d.cqs e.cqs l h.cqs; qps = h.qps; threads = h.threads }

  pub extends_qp : (l : QpLine) → Extends (with_qp d l) e → Extends d e
  extends_qp l h = record { eqs = h.eqs; pds = h.pds; cqs = h.cqs; qps = stays_push d.qps e.qps l h.qps; threads = h.threads }

  pub extends_connect : (l : Connect) → Extends (with_connect d l) e → Extends d e
  extends_connect l h = record { eqs = h.eqs; pds = h.pds; cqs = h.cqs; qps = h.qps; threads = h.threads }

  pub extends_thread : (name : List ℕ) → Extends (with_thread d name) e → Extends d e
  extends_thread name h = record { eqs = h.eqs; pds = h.pds; cqs = h.cqs; qps = h.qps; threads = stays_push d.threads e.threads name h.threads }

-- the number of this kind is that of the name
abbrev pub HasName : Lines → Kind → ℕ → List ℕ → Type 0
HasName e kinds.Eq n name = eq_name e n ≡ name
HasName e kinds.Pd n name = pd_name e n ≡ name
HasName e kinds.Cq n name = cq_name e n ≡ name
HasName e kinds.Qp n name = qp_name e n ≡ name
HasName e kinds.Actor n name = actor_name e n ≡ name

-- what is meant has the name
abbrev pub IsCalled : Lines → Meaning → List ℕ → Type 0
IsCalled e Taken name = ⊤
IsCalled e (Actor n) name = HasName e kinds.Actor n name
IsCalled e (Object (objects.Eq n)) name = HasName e kinds.Eq n name
IsCalled e (Object (objects.Pd n)) name = HasName e kinds.Pd n name
IsCalled e (Object (objects.Cq n)) name = HasName e kinds.Cq n name
IsCalled e (Object (objects.Qp n)) name = HasName e kinds.Qp n name

abbrev pub AllCalled : Lines → List Entry → Type 0
AllCalled e names = All (λ (x : Entry). IsCalled e x.meaning x.name) names

number_called : (e : Lines) (kind : Kind) (m : Meaning) (name : List ℕ) → IsCalled e m name → IsTrue (is_some (number_as kind m)) → HasName e kind (unwrap_or (number_as kind m) 0) name
number_called e kinds.Eq (Object (objects.Eq n)) name called h = called
number_called e kinds.Pd (Object (objects.Pd n)) name called h = called
number_called e kinds.Cq (Object (objects.Cq n)) name called h = called
number_called e kinds.Qp (Object (objects.Qp n)) name called h = called
number_called e kinds.Actor (Actor n) name called h = called
number_called e _ _ name called h = absurd (true≢false (sym h))

-- the number that a name stands for has that name
pub name_printed : (e : Lines) (kind : Kind) (name : List ℕ) (names : List Entry) → AllCalled e names → IsTrue (is_some (number_named names kind name))
    → HasName e kind (unwrap_or (number_named names kind name) 0) name
name_printed e kind name [] all h = absurd (true≢false (sym h))
name_printed e kind name (x ∷ xs) all h =
    by (bytes_eq name x.name) (bytes_eq-Decides name x.name).0 (All-head (λ (y : Entry). IsCalled e y.meaning y.name) x xs all)
    (name_printed e kind name xs (All-tail (λ (y : Entry). IsCalled e y.meaning y.name) x xs all)) h
  where
    by : (same : Bool) → (same ≡ true → name ≡ x.name) → IsCalled e x.meaning x.name
        → (IsTrue (is_some (number_named xs kind name)) → HasName e kind (unwrap_or (number_named xs kind name) 0) name)
        → IsTrue (is_some (option_and_then (number_as kind) (cond same (Some x.meaning) (meaning_of xs name))))
        → HasName e kind (unwrap_or (option_and_then (number_as kind) (cond same (Some x.meaning) (meaning_of xs name))) 0) name
    by true is called later h = number_called e kind x.meaning name (subst (λ n. IsCalled e x.meaning n) (sym (is refl)) called) h
    by false is called later h = later h
