-- A line outside threads that breaks no rule keeps what holds.
use Rattle.std.proofs.Common.{◌≡◌, ℕ, ◌≤◌, Bool, false, ◌&&◌, ◌||◌, nat_lt, [], ◌∷◌, length, drop, IsTrue, is_some, None, Some, true≢false, refl, sym, ap, ◌∙◌, subst, arith}
use Rattle.std.specs.List.{list_all}
use Rattle.std.proofs.lemmas.Bool.{leb-true}
use Rattle.scenario_text.specs.After.{add_line}
use Rattle.scenario_text.specs.Bounds.{bounds_of, passed_after}
use Rattle.scenario_text.specs.Keywords.{section_of, place_of, is_of_thread, is_from, slots_of}
use Rattle.scenario_text.specs.Naming.{number_named}
use Rattle.scenario_text.specs.Rules.{may_stand_in, may_begin, is_item, is_receive, is_known, all_keep}
use Rattle.scenario_text.specs.Uses.{named}
use Rattle.scenario_text.specs.Sofar.{Said}
use Rattle.scenario_text.specs.Text.{Field, Line, part_at}
use Rattle.scenario_text.specs.declared.keyword.Keyword.{Keyword}
use Rattle.scenario_text.specs.declared.keyword.Keyword.TheVariants as keywords
use Rattle.scenario_text.specs.declared.keyword.Section.{Section}
use Rattle.scenario_text.specs.declared.keyword.Section.TheVariants as sections
use Rattle.scenario_text.specs.declared.slot.Kind.{Kind}
use Rattle.scenario_text.specs.declared.slot.Kind.TheVariants as kinds
use Rattle.scenario_text.specs.declared.slot.Slot.{Slot}
use Rattle.scenario_text.specs.declared.slot.Slot.TheVariants.{Name, Pair, Turns}
use Rattle.scenario_text.specs.declared.sofar.Place.{Place}
use Rattle.scenario_text.specs.declared.sofar.Place.TheVariants.{Outside, InThread, InPost, InRecv}
use Rattle.scenario_text.proofs.Asked.{Passes, part_kept}
use Rattle.scenario_text.proofs.DeclaringLines.{eq_stands, pd_stands, cq_stands, qp_stands, connect_stands}
use Rattle.scenario_text.proofs.Meanings.{number_there}
use Rattle.scenario_text.proofs.ObjectLines.{moved}
use Rattle.scenario_text.proofs.PlanLines.{schedule_stands, rounds_stands}
use Rattle.scenario_text.proofs.Standing.{IsNumber, Kept, Stands, shown}
use Rattle.scenario_text.proofs.ThreadLines.{thread_stands}
use Rattle.scenario_text.proofs.Within.{AllWithin, passed_none}

-- lines outside threads stand outside threads, and not after the lines of a later section
outside_line : (s : Said) (keyword : Keyword) (section : Section) (p : Place) → section_of keyword ≡ Some section → is_of_thread keyword ≡ false → is_item keyword ≡ false
    → is_receive keyword ≡ false → IsTrue (may_stand_in s p keyword) → (p ≡ Outside) × IsTrue (is_from s.section section)
outside_line s keyword section Outside of no_thread no_item no_receive h = (refl, subst (λ o. IsTrue (may_begin s.section o)) of h)
outside_line s keyword section InThread of no_thread no_item no_receive h = absurd (true≢false (sym h ∙ no_thread))
outside_line s keyword section (InRecv qp) of no_thread no_item no_receive h =
    let none : is_receive keyword || (is_of_thread keyword && nat_lt 0 (length s.receives)) ≡ false =
    ap (λ t. t || (is_of_thread keyword && nat_lt 0 (length s.receives))) no_receive ∙ ap (λ t. false || (t && nat_lt 0 (length s.receives))) no_thread
    in
    absurd (true≢false (sym h ∙ none))
outside_line s keyword section (InPost qp) of no_thread no_item no_receive h =
    let none : is_item keyword || (is_of_thread keyword && nat_lt 0 (length s.requests)) ≡ false =
    ap (λ t. t || (is_of_thread keyword && nat_lt 0 (length s.requests))) no_item ∙ ap (λ t. false || (t && nat_lt 0 (length s.requests))) no_thread
    in
    absurd (true≢false (sym h ∙ none))

-- where the line stands, and what held before it
pub record Begins (s : Said) (section : Section) : Type 0 where
  pub outside : s.place ≡ Outside
  pub from : place_of s.section ≤ place_of section

pub begins : (s : Said) (keyword : Keyword) (section : Section) (line : Line) → section_of keyword ≡ Some section → is_of_thread keyword ≡ false → is_item keyword ≡ false → is_receive keyword ≡ false → Passes s keyword line
    → Begins s section
begins s keyword section line of no_thread no_item no_receive ok =
    let all = outside_line s keyword section s.place of no_thread no_item no_receive ok.stands in
    record { outside = all.0; from = leb-true (place_of s.section) (place_of section) all.1 }

-- the limits of the line, and what stood before
pub limits_of : (s : Said) (keyword : Keyword) (line : Line) → passed_after s.passed (bounds_of s keyword line) ≡ None → Kept s → Stands s × AllWithin (bounds_of s keyword line)
limits_of s keyword line none kept = let all = passed_none s.passed (bounds_of s keyword line) none in (kept all.0, all.1)

module _ (line : Line) (s : Said) where
  -- the number of what a name in its place stands for
  pub number_in : (place : ℕ) (kind : Kind) → Stands s → IsTrue (is_some (number_named s.names kind (part_at line place))) → IsNumber s.lines kind (named s kind (part_at line place))
  number_in place kind h known = number_there s.lines kind (part_at line place) s.names h.named known

  pub eq_kept : Passes s keywords.Eq line → Kept s → Kept (add_line keywords.Eq line s)
  eq_kept ok kept none =
      let (h, within) = limits_of s keywords.Eq line none kept in
      let b : Begins s sections.Objects = begins s keywords.Eq sections.Objects line refl refl refl refl ok in
      let early : shown s ≡ [] = h.early (omega (arith, b.from)) in
      eq_stands line _ b.outside early (moved s s.count sections.Objects (passed_after s.passed (bounds_of s keywords.Eq line)) (λ soon. early) h) within.1 within.2.0 within.2.1

  pub pd_kept : Passes s keywords.Pd line → Kept s → Kept (add_line keywords.Pd line s)
  pd_kept ok kept none =
      let (h, within) = limits_of s keywords.Pd line none kept in
      let b : Begins s sections.Objects = begins s keywords.Pd sections.Objects line refl refl refl refl ok in
      let early : shown s ≡ [] = h.early (omega (arith, b.from)) in
      pd_stands line _ b.outside early (moved s s.count sections.Objects (passed_after s.passed (bounds_of s keywords.Pd line)) (λ soon. early) h) within.1

  pub cq_kept : Passes s keywords.Cq line → Kept s → Kept (add_line keywords.Cq line s)
  cq_kept ok kept none =
      let (h, within) = limits_of s keywords.Cq line none kept in
      let b : Begins s sections.Objects = begins s keywords.Cq sections.Objects line refl refl refl refl ok in
      let early : shown s ≡ [] = h.early (omega (arith, b.from)) in
      cq_stands line _ b.outside early (moved s s.count sections.Objects (passed_after s.passed (bounds_of s keywords.Cq line)) (λ soon. early) h) (record {
        few = within.1;
        some = within.2.0;
        log = within.2.1;
        low = within.2.2.0;
        ceiling = within.2.2.1;
        eq = number_in 4 kinds.Eq h (part_kept (is_known s) (slots_of keywords.Cq) None line 3 (Name kinds.Eq) ok.known (omega arith) refl);
        start = within.2.2.2.1;
      })

  pub qp_kept : Passes s keywords.Qp line → Kept s → Kept (add_line keywords.Qp line s)
  qp_kept ok kept none =
      let (h, within) = limits_of s keywords.Qp line none kept in
      let b : Begins s sections.Objects = begins s keywords.Qp sections.Objects line refl refl refl refl ok in
      let early : shown s ≡ [] = h.early (omega (arith, b.from)) in
      qp_stands line _ b.outside early (moved s s.count sections.Objects (passed_after s.passed (bounds_of s keywords.Qp line)) (λ soon. early) h) (record {
        few = within.1;
        pd = number_in 2 kinds.Pd h (part_kept (is_known s) (slots_of keywords.Qp) None line 1 (Name kinds.Pd) ok.known (omega arith) refl);
        send_cq = number_in 3 kinds.Cq h (part_kept (is_known s) (slots_of keywords.Qp) None line 2 (Name kinds.Cq) ok.known (omega arith) refl);
        recv_cq = number_in 4 kinds.Cq h (part_kept (is_known s) (slots_of keywords.Qp) None line 3 (Name kinds.Cq) ok.known (omega arith) refl);
        send_log = within.2.1;
        recv_log = within.2.2.1;
        some = within.2.2.2.0;
        segments = within.2.2.2.1;
        start = within.2.2.2.2.1;
      })

  pub connect_kept : Passes s keywords.Connect line → Kept s → Kept (add_line keywords.Connect line s)
  connect_kept ok kept none =
      let (h, within) = limits_of s keywords.Connect line none kept in
      let b : Begins s sections.Connects = begins s keywords.Connect sections.Connects line refl refl refl refl ok in
      let early : shown s ≡ [] = h.early b.from in
      connect_stands line _ b.outside early (moved s s.count sections.Connects (passed_after s.passed (bounds_of s keywords.Connect line)) (λ soon. early) h)
      (number_in 1 kinds.Qp h (part_kept (is_known s) (slots_of keywords.Connect) None line 0 Pair ok.known (omega arith) refl))
      (number_in 2 kinds.Qp h (part_kept (is_known s) (slots_of keywords.Connect) None line 1 Pair ok.known (omega arith) refl))

  pub thread_kept : Passes s keywords.Thread line → Kept s → Kept (add_line keywords.Thread line s)
  thread_kept ok kept none =
      let (h, within) = limits_of s keywords.Thread line none kept in
      let b : Begins s sections.Threads = begins s keywords.Thread sections.Threads line refl refl refl refl ok in
      thread_stands line _ b.outside (moved s s.count sections.Threads (passed_after s.passed (bounds_of s keywords.Thread line)) (λ soon. absurd (omega (arith, soon))) h) within.1 (omega arith)

  pub schedule_kept : Passes s keywords.Schedule line → Kept s → Kept (add_line keywords.Schedule line s)
  schedule_kept ok kept none =
      let (h, within) = limits_of s keywords.Schedule line none kept in
      schedule_stands line _ (all_turns (is_known s) (drop 1 line) ok.known)
      (moved s s.count sections.Over (passed_after s.passed (bounds_of s keywords.Schedule line)) (λ soon. absurd (omega (arith, soon))) h)
    where
      all_turns : (known : Slot → Field → Bool) (fields : Line) → IsTrue (all_keep known (Turns ∷ []) (Some Turns) fields) → IsTrue (list_all (known Turns) fields)
      all_turns known [] all = refl
      all_turns known (f ∷ fs) all = all

  pub rounds_kept : Passes s keywords.Rounds line → Kept s → Kept (add_line keywords.Rounds line s)
  rounds_kept ok kept none =
      let (h, within) = limits_of s keywords.Rounds line none kept in
      rounds_stands line _ (moved s s.count sections.Over (passed_after s.passed (bounds_of s keywords.Rounds line)) (λ soon. absurd (omega (arith, soon))) h)
