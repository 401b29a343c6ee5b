-- A line that breaks no rule keeps what holds.
use Rattle.std.proofs.Common.{◌≡◌, ℕ, ◌+◌, Bool, true, false, cond, List, IsTrue, Option, None, Some}
use Rattle.std.specs.List.{list_all}
use Rattle.scenario_text.specs.After.{count_line, add_line, add_known, after_line}
use Rattle.scenario_text.specs.Keywords.{keyword_in}
use Rattle.scenario_text.specs.Built.{is_built, is_built_line}
use Rattle.scenario_text.specs.Rules.{broken_by, fault_of}
use Rattle.scenario_text.specs.Sofar.{Said}
use Rattle.scenario_text.specs.Text.{Line, split, part_at, is_text_byte, is_skipped}
use Rattle.scenario_text.specs.declared.fault.TextRule.{TextRule}
use Rattle.scenario_text.specs.declared.fault.TextRule.TheVariants as rules
use Rattle.scenario_text.specs.declared.keyword.Keyword.{Keyword}
use Rattle.scenario_text.specs.declared.keyword.Keyword.TheVariants.{Eq, Pd, Cq, Qp, Connect, Thread, End, Post, Item, Recv, Receive, Poll, Drain, Schedule, Rounds}
use Rattle.scenario_text.proofs.Asked.{Passes, passes_rules, unless}
use Rattle.scenario_text.proofs.InsideLines.{end_kept, post_kept, item_kept, recv_kept, receive_kept, poll_kept, drain_kept}
use Rattle.scenario_text.proofs.ObjectLines.{moved}
use Rattle.scenario_text.proofs.OutsideLines.{eq_kept, pd_kept, cq_kept, qp_kept, connect_kept, thread_kept, schedule_kept, rounds_kept}
use Rattle.scenario_text.proofs.Standing.{Kept, Stands}

line_kept : (keyword : Keyword) (line : Line) (s : Said) → Passes s keyword line → Kept s → Kept (add_line keyword line s)
line_kept Eq line s ok kept = eq_kept line s ok kept
line_kept Pd line s ok kept = pd_kept line s ok kept
line_kept Cq line s ok kept = cq_kept line s ok kept
line_kept Qp line s ok kept = qp_kept line s ok kept
line_kept Connect line s ok kept = connect_kept line s ok kept
line_kept Thread line s ok kept = thread_kept line s ok kept
line_kept End line s ok kept = end_kept line s kept ok
line_kept Post line s ok kept = post_kept line s kept ok
line_kept Item line s ok kept = item_kept line s kept ok
line_kept Recv line s ok kept = recv_kept line s kept ok
line_kept Receive line s ok kept = receive_kept line s kept ok
line_kept Poll line s ok kept = poll_kept line s kept ok
line_kept Drain line s ok kept = drain_kept line s kept ok
line_kept Schedule line s ok kept = schedule_kept line s ok kept
line_kept Rounds line s ok kept = rounds_kept line s ok kept

known_kept : (keyword : Option Keyword) (line : Line) (s : Said) → IsTrue (is_built_line s keyword line) → broken_by s keyword line ≡ None → Kept s → Kept (add_known keyword line s)
known_kept None line s built unbroken kept = absurd (cc)
known_kept (Some keyword) line s built unbroken kept = line_kept keyword line s (passes_rules s keyword line built unbroken) kept

pub count_kept : (s : Said) → Kept s → Kept (count_line s)
count_kept s kept none = let h : Stands s = kept none in moved s (s.count + 1) s.section s.passed h.early h

-- lines without words say nothing
skipped_or : (skipped : Bool) (rest : Option TextRule) (without now : Said) → cond skipped None rest ≡ None → Kept without → (rest ≡ None → Kept now) → Kept (cond skipped without now)
skipped_or true rest without now h kept more = kept
skipped_or false rest without now h kept more = more h

pub after_kept : (s : Said) (bytes : List ℕ) → fault_of s bytes ≡ None → Kept s → Kept (after_line s bytes)
after_kept s bytes h kept =
    let text = unless (list_all is_text_byte bytes) rules.Byte _ h in
    skipped_or (is_skipped bytes) _ (count_line s) _ text.1 (count_kept s kept)
    (λ rest.
    let built = unless (is_built (count_line s) (split 32 bytes)) rules.NotBuilt (broken_by (count_line s) (keyword_in s.place (part_at (split 32 bytes) 0)) (split 32 bytes)) rest in
    known_kept (keyword_in s.place (part_at (split 32 bytes) 0)) (split 32 bytes) (count_line s) built.0 built.1 (count_kept s kept))
