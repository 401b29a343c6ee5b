-- No list is longer than the text.
use Rattle.std.proofs.Common.{◌≡◌, ℕ, ◌+◌, ◌<◌, ◌≤◌, Bool, true, false, cond, List, [], ◌∷◌, ◌++◌, length, length-append, Option, Some, None, refl, ap, arith}
use Rattle.verbs_types.specs.declared.declaration.Lines.{Lines}
use Rattle.scenario_text.specs.After.{after_line, add_line, add_known, count_line, note_limits}
use Rattle.scenario_text.specs.AfterCalls.{close_place, take_room_of}
use Rattle.scenario_text.specs.Keywords.{keyword_in}
use Rattle.scenario_text.specs.Sofar.{Said, IsSmall}
use Rattle.scenario_text.specs.Uses.{list_cq}
use Rattle.scenario_text.specs.Text.{Line, split, part_at, is_skipped}
use Rattle.scenario_text.specs.declared.keyword.Keyword.{Keyword}
use Rattle.scenario_text.specs.declared.keyword.Keyword.TheVariants.{Eq, Pd, Cq, Qp, Connect, Thread, End, Post, Item, Recv, Receive, Poll, Drain, Schedule, Rounds}
use Rattle.scenario_text.specs.declared.sofar.Place.{Place}
use Rattle.scenario_text.specs.declared.sofar.Place.TheVariants.{Outside, InThread, InPost, InRecv}

-- one line less was counted than there is room for
record Fits (s now : Said) : Type 0 where
  count : now.count ≡ s.count
  eqs : length now.lines.eqs ≤ length s.lines.eqs + 1
  pds : length now.lines.pds ≤ length s.lines.pds + 1
  cqs : length now.lines.cqs ≤ length s.lines.cqs + 1
  qps : length now.lines.qps ≤ length s.lines.qps + 1
  threads : length now.lines.threads ≤ length s.lines.threads + 1

same : (s now : Said) → now.count ≡ s.count → now.lines ≡ s.lines → Fits s now
same s now c l = record {
  count = c;
  eqs = omega (arith, ap (λ (d : Lines). length d.eqs) l);
  pds = omega (arith, ap (λ (d : Lines). length d.pds) l);
  cqs = omega (arith, ap (λ (d : Lines). length d.cqs) l);
  qps = omega (arith, ap (λ (d : Lines). length d.qps) l);
  threads = omega (arith, ap (λ (d : Lines). length d.threads) l);
}

closed_count : (p : Place) (s : Said) → (close_place p s).count ≡ s.count
closed_count Outside s = refl
closed_count InThread s = refl
closed_count (InPost qp) s = refl
closed_count (InRecv qp) s = refl

closed_lines : (p : Place) (s : Said) → (close_place p s).lines ≡ s.lines
closed_lines Outside s = refl
closed_lines InThread s = refl
closed_lines (InPost qp) s = refl
closed_lines (InRecv qp) s = refl

filled_count : (o : Option ℕ) (s : Said) → (take_room_of o s).count ≡ s.count
filled_count None s = refl
filled_count (Some cq) s = refl

filled_lines : (o : Option ℕ) (s : Said) → (take_room_of o s).lines ≡ s.lines
filled_lines None s = refl
filled_lines (Some cq) s = refl

one_more : {A : Type 0} (xs : List A) (x : A) → length (xs ++ x ∷ []) ≤ length xs + 1
one_more xs x = omega (arith, length-append xs (x ∷ []))

line_fits : (keyword : Keyword) (line : Line) (s : Said) → Fits s (add_line keyword line s)
line_fits Eq line s = record { count = refl; eqs = one_more s.lines.eqs _; pds = omega arith; cqs = omega arith; qps = omega arith; threads = omega arith }
line_fits Pd line s = record { count = refl; eqs = omega arith; pds = one_more s.lines.pds _; cqs = omega arith; qps = omega arith; threads = omega arith }
line_fits Cq line s = record { count = refl; eqs = omega arith; pds = omega arith; cqs = one_more s.lines.cqs _; qps = omega arith; threads = omega arith }
line_fits Qp line s = record { count = refl; eqs = omega arith; pds = omega arith; cqs = omega arith; qps = one_more s.lines.qps _; threads = omega arith }
line_fits Connect line s = record { count = refl; eqs = omega arith; pds = omega arith; cqs = omega arith; qps = omega arith; threads = omega arith }
line_fits Thread line s = record { count = refl; eqs = omega arith; pds = omega arith; cqs = omega arith; qps = omega arith; threads = one_more s.lines.threads _ }
line_fits End line s = same s (add_line End line s) (closed_count s.place s) (closed_lines s.place s)
line_fits Post line s = same s (add_line Post line s) (closed_count s.place s) (closed_lines s.place s)
line_fits Item line s = same s (add_line Item line s) (filled_count (list_cq s) (note_limits Item line s)) (filled_lines (list_cq s) (note_limits Item line s))
line_fits Recv line s = same s (add_line Recv line s) (closed_count s.place s) (closed_lines s.place s)
line_fits Receive line s = same s (add_line Receive line s) (filled_count (list_cq s) (note_limits Receive line s)) (filled_lines (list_cq s) (note_limits Receive line s))
line_fits Poll line s = same s (add_line Poll line s) (closed_count s.place s) (closed_lines s.place s)
line_fits Drain line s = same s (add_line Drain line s) (closed_count s.place s) (closed_lines s.place s)
line_fits Schedule line s = same s (add_line Schedule line s) refl refl
line_fits Rounds line s = same s (add_line Rounds line s) refl refl

known_fits : (keyword : Option Keyword) (line : Line) (s : Said) → Fits s (add_known keyword line s)
known_fits None line s = same s s refl refl
known_fits (Some keyword) line s = line_fits keyword line s

after_fits : (skipped : Bool) (keyword : Option Keyword) (line : Line) (s : Said) → Fits s (cond skipped s (add_known keyword line s))
after_fits true keyword line s = same s s refl refl
after_fits false keyword line s = known_fits keyword line s

pub small_after : (s : Said) (bytes : List ℕ) → s.count < 4194304 → IsSmall s → IsSmall (after_line s bytes)
small_after s bytes left h =
    let f : Fits (count_line s) (after_line s bytes) = after_fits (is_skipped bytes) (keyword_in s.place (part_at (split 32 bytes) 0)) (split 32 bytes) (count_line s) in
    record {
      count = omega (arith, f.count);
      eqs = omega (arith, f.count, f.eqs, h.eqs);
      pds = omega (arith, f.count, f.pds, h.pds);
      cqs = omega (arith, f.count, f.cqs, h.cqs);
      qps = omega (arith, f.count, f.qps, h.qps);
      threads = omega (arith, f.count, f.threads, h.threads);
    }

pub count_after : (s : Said) (bytes : List ℕ) → (after_line s bytes).count ≡ s.count + 1
count_after s bytes = (after_fits (is_skipped bytes) (keyword_in s.place (part_at (split 32 bytes) 0)) (split 32 bytes) (count_line s)).count
