-- Objects have no word in common, and their words are words of objects.
use Rattle.std.proofs.Common.{◌≡◌, ◌≢◌, ℕ, ◌+◌, ◌<◌, ◌≤◌, inl, inr, ap, sym, subst, arith, true, false, IsTrue}
use Rattle.std.proofs.lemmas.Bool.{cases_Bool, cases_order}
use Rattle.verbs_types.specs.Lines.{is_declared}
use Rattle.verbs_types.specs.declared.declaration.Lines.{Lines}
use Rattle.actor_map.specs.declared.kind.ObjectKind.TheVariants.{Cq, Qp}
use Rattle.actor_map.specs.declared.sizes.TheConstants.{FIRST_OBJECT}
use Rattle.actor_map.specs.Apart as map
use Rattle.actor_map.specs.Apart.{AreInside, IsWhole, begins, size}
use Rattle.actor_map.specs.Map.{map_of, place}
use Rattle.actor_map.specs.Sizes.{cq_words, qp_words, words_of}
use Rattle.object_places.specs.declared.ended.TheConstants.{ENDED_WORD}
use Rattle.object_places.specs.Apart.{AreApart, ArePlaced, IsObjectPlace, IsPlacedObject}
use Rattle.object_places.specs.Objects.{Object, Completions, Sends, Receives, Lives, touches}
use Rattle.object_places.specs.Places.{cq_line, qp_line}
use Rattle.object_places.specs.Words.{AreOfObjects, AreOwn, AreUsed, IsWordOf}
use Rattle.object_places.proofs.Bounds.{words_few}
use Rattle.object_places.proofs.Fine.{completions_fine, receives_fine, sends_fine}
use Rattle.object_places.proofs.Lines.{IsCq, IsQp, is_cq, is_qp}
use Rattle.object_places.proofs.Ranges.{before, behind, Lies, in_completions, in_receives, in_sends, sends_lie}
use Rattle.object_places.proofs.Standing.{Stands, cq_stands, qp_stands}

-- the place of an object among those of the map: the two queues of a queue pair have one
abbrev pub home : Lines → Object → ℕ
home d (Completions cq) = place (map_of d) Cq cq
home d (Sends qp) = place (map_of d) Qp qp
home d (Receives qp) = place (map_of d) Qp qp

abbrev pub words : Lines → Object → ℕ
words d (Completions cq) = cq_words (cq_line d cq)
words d (Sends qp) = qp_words (qp_line d qp)
words d (Receives qp) = qp_words (qp_line d qp)

module _ (d : Lines) (declared : IsTrue (is_declared d)) where
  -- a queue uses words that the map has for it
  used : (o : Object) (a : ℕ) → Lives d o → touches d o a ≡ true → IsWordOf d o a
  used (Completions cq) a lives h =
      let l = in_completions cq (begins d (home d (Completions cq))) (cq_line d cq) a (is_cq d cq declared lives).log h in
      (l.low, omega (arith, l.high))
  used (Sends qp) a lives h = h
  used (Receives qp) a lives h = h

  lies : (o : Object) (a : ℕ) → Lives d o → IsWordOf d o a → Lies (begins d (home d o)) (begins d (home d o) + words d o) a
  lies (Completions cq) a lives h = record { low = h.0; high = omega (arith, h.1) }
  lies (Sends qp) a lives h = sends_lie (begins d (home d (Sends qp))) (qp_line d qp) a (in_sends (begins d (home d (Sends qp))) (qp_line d qp) a h)
  lies (Receives qp) a lives h =
      let r = in_receives (begins d (home d (Receives qp))) (qp_line d qp) a h in
      record { low = omega (arith, r.low); high = omega (arith, r.high) }

  -- what has one home and is not one object is the two queues of one queue pair
  one_pair : (qp other a : ℕ) → qp ≡ other → touches d (Sends qp) a ≡ true → touches d (Receives other) a ≡ true → ⊥
  one_pair qp other a same s r =
      let mine : touches d (Receives qp) a ≡ true = subst (λ n. touches d (Receives n) a ≡ true) (sym same) r in
      let receives = in_receives (begins d (home d (Receives qp))) (qp_line d qp) a mine in
      elim (in_sends (begins d (home d (Sends qp))) (qp_line d qp) a s) [
        | before low high ↦ omega (arith, high, receives.low)
        | behind low high ↦ omega (arith, low, receives.high)
      ]

  same_cq : (cq other : ℕ) → home d (Completions cq) ≡ home d (Completions other) → cq ≡ other
  same_cq cq other same = omega (arith, same)

  same_qp : (qp other : ℕ) → IsQp d qp → IsQp d other → place (map_of d) Qp qp ≡ place (map_of d) Qp other → qp ≡ other
  same_qp qp other h k same = omega (arith, same, h.number.low, k.number.low)

  other_kind : (cq qp : ℕ) → IsCq d cq → place (map_of d) Cq cq ≡ place (map_of d) Qp qp → ⊥
  other_kind cq qp h same = omega (arith, same, h.below)

  one_home : (o p : Object) (a : ℕ) → Lives d o → Lives d p → o ≢ p → home d o ≡ home d p → IsWordOf d o a → IsWordOf d p a → ⊥
  one_home (Completions cq) (Completions other) a lives lives_too differ same h k = differ (ap Completions (same_cq cq other same))
  one_home (Completions cq) (Sends qp) a lives lives_too differ same h k = other_kind cq qp (is_cq d cq declared lives) same
  one_home (Completions cq) (Receives qp) a lives lives_too differ same h k = other_kind cq qp (is_cq d cq declared lives) same
  one_home (Sends qp) (Completions cq) a lives lives_too differ same h k = other_kind cq qp (is_cq d cq declared lives_too) (sym same)
  one_home (Receives qp) (Completions cq) a lives lives_too differ same h k = other_kind cq qp (is_cq d cq declared lives_too) (sym same)
  one_home (Sends qp) (Sends other) a lives lives_too differ same h k = differ (ap Sends (same_qp qp other (is_qp d qp declared lives) (is_qp d other declared lives_too) same))
  one_home (Receives qp) (Receives other) a lives lives_too differ same h k = differ (ap Receives (same_qp qp other (is_qp d qp declared lives) (is_qp d other declared lives_too) same))
  one_home (Sends qp) (Receives other) a lives lives_too differ same h k = one_pair qp other a (same_qp qp other (is_qp d qp declared lives) (is_qp d other declared lives_too) same) h k
  one_home (Receives qp) (Sends other) a lives lives_too differ same h k = one_pair other qp a (same_qp other qp (is_qp d other declared lives_too) (is_qp d qp declared lives) (sym same)) k h

  module _ (whole : IsWhole) (inside : AreInside) where
    pub object_stands : (o : Object) → Lives d o → Stands d (home d o) (words d o)
    object_stands (Completions cq) lives = cq_stands whole inside d cq (is_cq d cq declared lives).below
    object_stands (Sends qp) lives = qp_stands whole inside d qp (is_qp d qp declared lives).number
    object_stands (Receives qp) lives = qp_stands whole inside d qp (is_qp d qp declared lives).number

    pub object_inside : (o : Object) (a : ℕ) → Lives d o → IsWordOf d o a → (FIRST_OBJECT ≤ a) × (a < words_of d)
    object_inside o a lives h =
        let s = object_stands o lives in
        let l = lies o a lives h in
        (omega (arith, s.low, l.low), omega (arith, s.high, l.high))

    object_fine : (o : Object) → Lives d o → IsObjectPlace d o
    object_fine (Completions cq) lives =
        let is = is_cq d cq declared lives in
        completions_fine cq (begins d (home d (Completions cq))) (cq_line d cq) is.ceiling is.log (omega (arith, (object_stands (Completions cq) lives).high, words_few d declared))
    object_fine (Sends qp) lives = sends_fine (begins d (home d (Sends qp))) (qp_line d qp) (is_qp d qp declared lives).small
    object_fine (Receives qp) lives = receives_fine (begins d (home d (Receives qp))) (qp_line d qp) (is_qp d qp declared lives).small

    not_ended : (o : Object) → Lives d o → touches d o ENDED_WORD ≡ false
    not_ended o lives = elim (cases_Bool (touches d o ENDED_WORD)) [
      | inl h ↦ absurd (omega (arith, (object_inside o ENDED_WORD lives (used o ENDED_WORD lives h)).0))
      | inr h ↦ h
    ]

    pub object_placed : (o : Object) → Lives d o → IsPlacedObject d o
    object_placed o lives = record { fine = object_fine o lives; inside = λ a h. object_inside o a lives (used o a lives h); ended = not_ended o lives }

    two_homes : map.AreApart → (o p : Object) (a : ℕ) → Lives d o → Lives d p → home d o < home d p → IsWordOf d o a → IsWordOf d p a → ⊥
    two_homes apart o p a lives lives_too low h k =
        let first = object_stands o lives in
        let second = object_stands p lives_too in
        let l = lies o a lives h in
        let m = lies p a lives_too k in
        omega (arith, apart d (home d o) (home d p) low second.listed, first.size_is, l.high, m.low)

    pub none_in_both : map.AreApart → (o p : Object) (a : ℕ) → Lives d o → Lives d p → o ≢ p → IsWordOf d o a → IsWordOf d p a → ⊥
    none_in_both apart o p a lives lives_too differ h k = elim (cases_order (home d o) (home d p)) [
      | inl same ↦ one_home o p a lives lives_too differ same h k
      | inr other ↦ elim other [
        | inl low ↦ two_homes apart o p a lives lives_too low h k
        | inr high ↦ two_homes apart p o a lives_too lives high k h
      ]
    ]

    pub objects_apart : map.AreApart → (o p : Object) (a : ℕ) → Lives d o → Lives d p → o ≢ p → touches d o a ≡ true → touches d p a ≡ false
    objects_apart apart o p a lives lives_too differ h = elim (cases_Bool (touches d p a)) [
      | inl k ↦ absurd (none_in_both apart o p a lives lives_too differ (used o a lives h) (used p a lives_too k))
      | inr k ↦ k
    ]

pub placed_of : IsWhole → AreInside → ArePlaced
placed_of whole inside = λ d o declared lives. object_placed d declared whole inside o lives

pub apart_of : IsWhole → AreInside → map.AreApart → AreApart
apart_of whole inside apart = λ d o p a declared lives lives_too differ h. objects_apart d declared whole inside apart o p a lives lives_too differ h

pub used_of : AreUsed
used_of = λ d o a declared lives h. used d declared o a lives h

pub own_of : IsWhole → AreInside → map.AreApart → AreOwn
own_of whole inside apart = λ d o p a declared lives lives_too differ h k. none_in_both d declared whole inside apart o p a lives lives_too differ h k

pub of_objects_of : IsWhole → AreInside → AreOfObjects
of_objects_of whole inside = λ d o a declared lives h. object_inside d declared whole inside o a lives h
