-- The other lines leave the head as it is.
use Rattle.std.proofs.Common.{◌≡◌, ℕ, suc, ◌+◌, ◌≤◌, List, length, Option, None, Some, ap, ◌∙◌, arith}
use Rattle.std.proofs.lemmas.List.Elements.{All-push}
use Rattle.verbs_types.specs.declared.declaration.Lines.{Lines}
use Rattle.scenario_text.specs.After.{add_line}
use Rattle.scenario_text.specs.AfterCalls.{close_place, take_room_of}
use Rattle.scenario_text.specs.Bounds.{bounds_of, passed_after}
use Rattle.scenario_text.specs.Keywords.{place_of}
use Rattle.scenario_text.specs.Naming.{Entry}
use Rattle.scenario_text.specs.Sofar.{Said}
use Rattle.scenario_text.specs.Spelling.{actor_name}
use Rattle.scenario_text.specs.Text.{Line, name_in}
use Rattle.scenario_text.specs.Uses.{list_cq}
use Rattle.scenario_text.specs.declared.keyword.Keyword.{Keyword}
use Rattle.scenario_text.specs.declared.keyword.Keyword.TheVariants.{Thread, End, Post, Item, Recv, Receive, Poll, Drain, Schedule, Rounds}
use Rattle.scenario_text.specs.declared.keyword.Section.{Section}
use Rattle.scenario_text.specs.declared.names.Meaning.TheVariants.{Actor}
use Rattle.scenario_text.specs.declared.sofar.Place.{Place}
use Rattle.scenario_text.specs.declared.sofar.Place.TheVariants.{Outside, InThread, InPost, InRecv}
use Rattle.scenario_text.proofs.Declaring.{with_thread}
use Rattle.scenario_text.proofs.HeadLines.{Repeats, Repeated}
use Rattle.scenario_text.proofs.Repeating.{Extends, IsCalled, last_text, extends_thread}
use Rattle.scenario_text.proofs.Within.{passed_none}

later_repeats : (d : Lines) (names : List Entry) (section after : Section) (done : List ℕ) → 1 ≤ place_of after → Repeats d names section done → Repeats d names after done
later_repeats d names section after done late h = record { called = h.called; printed = h.printed; early = λ soon. absurd (omega (arith, soon, late)) }

-- with the limits of the line too none is passed
limits_repeat : (s : Said) (keyword : Keyword) (line : Line) (done : List ℕ) → Repeated s done → passed_after s.passed (bounds_of s keyword line) ≡ None → Repeats s.lines s.names s.section done
limits_repeat s keyword line done kept none = kept (passed_none s.passed (bounds_of s keyword line) none).0

closed_repeats : (place : Place) (s : Said) (done : List ℕ) → Repeated s done → Repeated (close_place place s) done
closed_repeats Outside s done h = h
closed_repeats InThread s done h = h
closed_repeats (InPost qp) s done h = h
closed_repeats (InRecv qp) s done h = h

roomed_repeats : (cq : Option ℕ) (s : Said) (done : List ℕ) → Repeated s done → Repeated (take_room_of cq s) done
roomed_repeats None s done h = h
roomed_repeats (Some cq) s done h = h

module _ (line : Line) (s : Said) (done : List ℕ) (kept : Repeated s done) where
  pub thread_repeats : Repeated (add_line Thread line s) done
  thread_repeats none = record {
    called = λ e more. All-push (λ (x : Entry). IsCalled e x.meaning x.name) s.names entry (h.called e (before e more)) (named e more);
    printed = λ e more. h.printed e (before e more);
    early = λ soon. absurd (omega (arith, soon));
  }
    where
      h : Repeats s.lines s.names s.section done
      h = limits_repeat s Thread line done kept none

      entry : Entry
      entry = record { name = name_in line; meaning = Actor (length s.lines.threads + 1) }

      before : (e : Lines) → Extends (with_thread s.lines (name_in line)) e → Extends s.lines e
      before e = extends_thread s.lines e (name_in line)

      named : (e : Lines) → Extends (with_thread s.lines (name_in line)) e → actor_name e (length s.lines.threads + 1) ≡ name_in line
      named e more =
          let one : length s.lines.threads + 1 ≡ suc (length s.lines.threads) = omega arith in
          ap (actor_name e) one ∙ last_text (λ (name : List ℕ). name) s.lines.threads e.threads (name_in line) more.threads

  pub end_repeats : Repeated (add_line End line s) done
  end_repeats none = limits_repeat (close_place s.place s) End line done (closed_repeats s.place s done kept) none

  pub post_repeats : Repeated (add_line Post line s) done
  post_repeats none = limits_repeat (close_place s.place s) Post line done (closed_repeats s.place s done kept) none

  pub recv_repeats : Repeated (add_line Recv line s) done
  recv_repeats none = limits_repeat (close_place s.place s) Recv line done (closed_repeats s.place s done kept) none

  pub poll_repeats : Repeated (add_line Poll line s) done
  poll_repeats none = limits_repeat (close_place s.place s) Poll line done (closed_repeats s.place s done kept) none

  pub drain_repeats : Repeated (add_line Drain line s) done
  drain_repeats none = limits_repeat (close_place s.place s) Drain line done (closed_repeats s.place s done kept) none

  pub item_repeats : Repeated (add_line Item line s) done
  item_repeats = roomed_repeats (list_cq s) (record s { passed = passed_after s.passed (bounds_of s Item line) }) done (limits_repeat s Item line done kept)

  pub receive_repeats : Repeated (add_line Receive line s) done
  receive_repeats = roomed_repeats (list_cq s) (record s { passed = passed_after s.passed (bounds_of s Receive line) }) done (limits_repeat s Receive line done kept)

  pub schedule_repeats : Repeated (add_line Schedule line s) done
  schedule_repeats none = later_repeats s.lines s.names s.section _ done (omega arith) (limits_repeat s Schedule line done kept none)

  pub rounds_repeats : Repeated (add_line Rounds line s) done
  rounds_repeats none = later_repeats s.lines s.names s.section _ done (omega arith) (limits_repeat s Rounds line done kept none)
