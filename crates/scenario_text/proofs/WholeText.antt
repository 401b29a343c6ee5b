-- What is printed of a scenario is its text without comments.
use Rattle.std.proofs.Common.{◌≡◌, ℕ, ◌+◌, ◌⊎◌, inl, inr, Bool, true, false, not, cond, List, [], ◌∷◌, ◌++◌, append-nil, append_assoc, length, nat_lt, None, Ok, Err, refl, sym, ap, ap₂, ◌∙◌, subst}
use Rattle.std.specs.List.{filter, flat_map}
use Rattle.std.proofs.lemmas.List.Concat.{flat_map-cons}
use Rattle.std.proofs.lemmas.List.Elements.{All-from_recursion}
use Rattle.scenario_text.specs.After.{add_line, after_line, count_line}
use Rattle.scenario_text.specs.Bounds.{passed_in_lines, passed_in_run}
use Rattle.scenario_text.specs.Heads.{head_text}
use Rattle.scenario_text.specs.Naming.{Entry, taken_names}
use Rattle.scenario_text.specs.Printing.{ended, says_something, without_comments}
use Rattle.scenario_text.specs.Requests.{line}
use Rattle.scenario_text.specs.Rules.{fault_of}
use Rattle.scenario_text.specs.Sofar.{Said}
use Rattle.scenario_text.specs.Spelling.{plan_lines, scenario_text, threads_lines}
use Rattle.scenario_text.specs.Text.{split, part_at}
use Rattle.scenario_text.specs.Whole.{Says, broken, end_in, nothing_said, parts_said, reading_from, within_limits}
use Rattle.scenario_text.specs.declared.fault.LimitName.TheVariants.{Text}
use Rattle.scenario_text.specs.declared.fault.ScenarioFault.TheVariants.{Limit}
use Rattle.scenario_text.specs.declared.fault.TextRule.TheVariants.{Missing}
use Rattle.scenario_text.specs.declared.keyword.Keyword.{Keyword}
use Rattle.scenario_text.specs.declared.keyword.Keyword.TheVariants.{Eq, Pd, Cq, Qp, Connect, Thread, End, Post, Item, Recv, Receive, Poll, Drain, Schedule, Rounds}
use Rattle.scenario_text.specs.declared.scenario.ScenarioParts.{ScenarioParts}
use Rattle.scenario_text.specs.declared.sofar.Place.{Place}
use Rattle.scenario_text.specs.declared.sofar.Place.TheVariants.{Outside, InThread, InPost, InRecv}
use Rattle.scenario_text.proofs.AllLines.{limits_end, nothing_kept, unbroken}
use Rattle.scenario_text.proofs.Asked.{Passes}
use Rattle.scenario_text.proofs.ByLine.{after_kept, count_kept}
use Rattle.scenario_text.proofs.Comments.{comments_silent}
use Rattle.scenario_text.proofs.EachLine.{IsKnown, IsSkipped, line_cases}
use Rattle.scenario_text.proofs.Ends.{unpassed}
use Rattle.scenario_text.proofs.Repeating.{IsCalled, extends_same}
use Rattle.scenario_text.proofs.Standing.{Kept}
use Rattle.scenario_text.proofs.Words.{word_of}
use Rattle.scenario_text.proofs.Writing.{TellsAt, WritesAll, Written, eq_writes, pd_writes, cq_writes, qp_writes, connect_writes, thread_writes, schedule_writes, rounds_writes}
use Rattle.scenario_text.proofs.WritingCalls.{end_writes, post_writes, item_writes, recv_writes, receive_writes, poll_writes, drain_writes}

line_writes : (keyword : Keyword) (bytes : List ℕ) (s : Said) (done : List ℕ) → Passes s keyword (split 32 bytes) → part_at (split 32 bytes) 0 ≡ word_of keyword → Kept s → Written s done
    → Written (add_line keyword (split 32 bytes) s) (done ++ ended bytes)
line_writes Eq bytes s done ok word stands kept = eq_writes bytes s done kept ok word
line_writes Pd bytes s done ok word stands kept = pd_writes bytes s done kept ok word
line_writes Cq bytes s done ok word stands kept = cq_writes bytes s done kept ok word
line_writes Qp bytes s done ok word stands kept = qp_writes bytes s done kept ok word
line_writes Connect bytes s done ok word stands kept = connect_writes bytes s done kept ok word
line_writes Thread bytes s done ok word stands kept = thread_writes bytes s done kept ok word
line_writes End bytes s done ok word stands kept = end_writes bytes s done kept ok word
line_writes Post bytes s done ok word stands kept = post_writes bytes s done kept ok word
line_writes Item bytes s done ok word stands kept = item_writes bytes s done kept ok word
line_writes Recv bytes s done ok word stands kept = recv_writes bytes s done kept ok word
line_writes Receive bytes s done ok word stands kept = receive_writes bytes s done kept ok word
line_writes Poll bytes s done ok word stands kept = poll_writes bytes s done kept ok word
line_writes Drain bytes s done ok word stands kept = drain_writes bytes s done kept ok word
line_writes Schedule bytes s done ok word stands kept = schedule_writes bytes s done kept stands ok word
line_writes Rounds bytes s done ok word stands kept = rounds_writes bytes s done kept ok word

count_writes : (s : Said) (done : List ℕ) → Written s done → Written (count_line s) done
count_writes s done kept none =
    let w = kept none in
    record {
      head = w.head;
      rest = w.rest;
      whole = w.whole;
      writes = record { repeats = w.writes.repeats; told = w.writes.told; inside = w.writes.inside; early = w.writes.early; unplanned = w.writes.unplanned };
    }

end_writes_all : (place : Place) (s : Said) (p : ScenarioParts) (done : List ℕ) → s.place ≡ place → end_in place s ≡ Ok p → Written s done → scenario_text p ≡ done
end_writes_all Outside s p done is h kept =
    let lines = limits_end (passed_in_lines s) (within_limits (passed_in_run (parts_said s)) (Ok (parts_said s))) p h in
    let run = limits_end (passed_in_run (parts_said s)) (Ok (parts_said s)) p lines.1 in
    let same : parts_said s ≡ p = cc in
    let w : WritesAll s done = kept (unpassed s lines.0) in
    let told : TellsAt s Outside w.rest = subst (λ q. TellsAt s q w.rest) is w.writes.told in
    ap scenario_text (sym same)
    ∙ append_assoc (head_text s.lines) (flat_map line (threads_lines s.lines s.lines.threads s.programs)) (flat_map line (plan_lines s.lines s.plan))
    ∙ ap₂ (λ xs ys. xs ++ ys) (w.writes.repeats.printed s.lines (extends_same s.lines)) (told.0.printed s.lines (extends_same s.lines)) ∙ w.whole
end_writes_all InThread s p done is h kept = absurd (cc)
end_writes_all (InPost qp) s p done is h kept = absurd (cc)
end_writes_all (InRecv qp) s p done is h kept = absurd (cc)

-- the lines of these that say something
abbrev sayings : List (List ℕ) → List ℕ
sayings parts = flat_map ended (filter says_something parts)

lines_write : (parts : List (List ℕ)) (s : Said) (p : ScenarioParts) (done : List ℕ) → reading_from s parts ≡ Ok p → Kept s → Written s done → scenario_text p ≡ done ++ sayings parts
lines_write [] s p done h stands kept = end_writes_all s.place s p done refl h kept ∙ sym (append-nil done)
lines_write ([] ∷ []) s p done h stands kept = end_writes_all s.place s p done refl h kept ∙ sym (append-nil done)
lines_write ((b ∷ bs) ∷ []) s p done h stands kept =
    let all : (fault_of s (b ∷ bs) ≡ None) × (broken (s.count + 1) Missing ≡ Ok p) = unbroken (fault_of s (b ∷ bs)) (s.count + 1) (broken (s.count + 1) Missing) p h in
    let never : broken (s.count + 1) Missing ≡ Ok p = all.1 in
    absurd (cc)
lines_write (bytes ∷ next ∷ more) s p done h stands kept =
    by (λ (now : List ℕ) (w : Written (after_line s bytes) now). lines_write (next ∷ more) (after_line s bytes) p now all.1 (after_kept s bytes all.0 stands) w) (line_cases s bytes all.0)
  where
    all : (fault_of s bytes ≡ None) × (reading_from (after_line s bytes) (next ∷ more) ≡ Ok p)
    all = unbroken (fault_of s bytes) (s.count + 1) (reading_from (after_line s bytes) (next ∷ more)) p h

    rest : List (List ℕ)
    rest = filter says_something (next ∷ more)

    by : ((now : List ℕ) → Written (after_line s bytes) now → scenario_text p ≡ now ++ sayings (next ∷ more)) → IsSkipped s bytes ⊎ IsKnown s bytes → scenario_text p ≡ done ++ sayings (bytes ∷ next ∷ more)
    by later (inl c) =
        later done (subst (λ t. Written t done) (sym c.after) (count_writes s done kept))
        ∙ ap (λ skipped. done ++ flat_map ended (cond (not skipped) (bytes ∷ rest) rest)) (sym c.skipped)
    by later (inr k) =
        later (done ++ ended bytes) (subst (λ t. Written t (done ++ ended bytes)) (sym k.after) (line_writes k.keyword bytes (count_line s) done k.passes k.word (count_kept s stands) (count_writes s done kept)))
        ∙ append_assoc done (ended bytes) (sayings (next ∷ more)) ∙ ap (λ text. done ++ text) (sym (flat_map-cons ended bytes rest))
        ∙ ap (λ skipped. done ++ flat_map ended (cond (not skipped) (bytes ∷ rest) rest)) (sym k.words)

-- before the first line
nothing_written : Written nothing_said []
nothing_written none = record {
  head = [];
  rest = [];
  whole = refl;
  writes = record {
    repeats = record {
      called = λ e more. All-from_recursion (λ (x : Entry). IsCalled e x.meaning x.name) taken_names (refl, (tt, (tt, tt)));
      printed = λ e more. refl;
      early = λ soon. refl;
    };
    told = (record { paired = refl; printed = λ e more. refl }, refl, refl, refl);
    inside = tt;
    early = λ soon. refl;
    unplanned = λ soon. refl;
  };
}

pub text_printed : (text : List ℕ) (p : ScenarioParts) → Says text p → scenario_text p ≡ without_comments text
text_printed text p h = by (nat_lt 4194304 (length text)) h
  where
    by : (long : Bool) → cond long (Err (Limit Text 4194305)) (reading_from nothing_said (split 10 text)) ≡ Ok p → scenario_text p ≡ without_comments text
    by true e = absurd (cc)
    by false e = lines_write (split 10 text) nothing_said p [] e nothing_kept nothing_written

pub printed_read : (text : List ℕ) (p : ScenarioParts) → Says text p → Says (scenario_text p) p
printed_read text p says = subst (λ bytes. Says bytes p) (sym (text_printed text p says)) (comments_silent text p says)
