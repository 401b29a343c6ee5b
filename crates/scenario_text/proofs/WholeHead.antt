-- The printed head is the declaration and connect lines of the text.
use Rattle.std.proofs.Common.{◌≡◌, ℕ, ◌+◌, ◌⊎◌, inl, inr, Bool, true, false, cond, List, [], ◌∷◌, ◌++◌, append-nil, append_assoc, length, nat_lt, bytes_eq, None, Ok, Err, refl, sym, ap, ◌∙◌, subst}
use Rattle.std.proofs.lemmas.Bool.{eqb-true}
use Rattle.std.specs.List.{filter, flat_map, list_any, onto_first}
use Rattle.std.proofs.lemmas.List.Elements.{All-from_recursion}
use Rattle.std.proofs.lemmas.List.Concat.{flat_map-cons}
use Rattle.scenario_text.specs.After.{after_line, add_line, count_line}
use Rattle.scenario_text.specs.Bounds.{passed_in_lines, passed_in_run}
use Rattle.scenario_text.specs.Heads.{head_text}
use Rattle.scenario_text.specs.Naming.{Entry, taken_names}
use Rattle.scenario_text.specs.Printing.{head_words, is_head_line, ended, head_of}
use Rattle.scenario_text.specs.Rules.{fault_of}
use Rattle.scenario_text.specs.Sofar.{Said}
use Rattle.scenario_text.specs.Text.{Field, split, part_at, is_skipped}
use Rattle.scenario_text.specs.Whole.{Says, broken, end_in, nothing_said, parts_said, reading_from, within_limits}
use Rattle.scenario_text.specs.declared.fault.LimitName.TheVariants.{Text}
use Rattle.scenario_text.specs.declared.fault.ScenarioFault.TheVariants.{Limit}
use Rattle.scenario_text.specs.declared.fault.TextRule.TheVariants.{Missing}
use Rattle.scenario_text.specs.declared.keyword.Keyword.{Keyword}
use Rattle.scenario_text.specs.declared.keyword.Keyword.TheVariants.{Eq, Pd, Cq, Qp, Connect, Thread, End, Post, Item, Recv, Receive, Poll, Drain, Schedule, Rounds}
use Rattle.scenario_text.specs.declared.scenario.ScenarioParts.{ScenarioParts}
use Rattle.scenario_text.specs.declared.sofar.Place.{Place}
use Rattle.scenario_text.specs.declared.sofar.Place.TheVariants.{Outside, InThread, InPost, InRecv}
use Rattle.scenario_text.proofs.AllLines.{limits_end, unbroken}
use Rattle.scenario_text.proofs.Asked.{Passes}
use Rattle.scenario_text.proofs.EachLine.{IsKnown, IsSkipped, line_cases}
use Rattle.scenario_text.proofs.Ends.{unpassed}
use Rattle.scenario_text.proofs.HeadLines.{Repeated, eq_repeats, pd_repeats, cq_repeats, qp_repeats, connect_repeats}
use Rattle.scenario_text.proofs.OtherLines.{thread_repeats, end_repeats, post_repeats, item_repeats, recv_repeats, receive_repeats, poll_repeats, drain_repeats, schedule_repeats, rounds_repeats}
use Rattle.scenario_text.proofs.Reading.{HasFirst, first_part}
use Rattle.scenario_text.proofs.Repeating.{IsCalled, extends_same}
use Rattle.scenario_text.proofs.Words.{word_of}

-- a line of the head, or nothing
abbrev taken : Bool → List ℕ → List ℕ
taken head bytes = cond head (ended bytes) []

abbrev begins_head : Field → Bool
begins_head word = list_any (bytes_eq word) head_words

module _ (bytes : List ℕ) (s : Said) (done : List ℕ) (kept : Repeated s done) where
  other : (keyword : Keyword) (now : Said) → part_at (split 32 bytes) 0 ≡ word_of keyword → list_any (bytes_eq (word_of keyword)) head_words ≡ false → Repeated now done
      → Repeated now (done ++ taken (is_head_line bytes) bytes)
  other keyword now word none h =
      subst (Repeated now) (sym (ap (λ head. done ++ taken head bytes) (ap (λ w. list_any (bytes_eq w) head_words) word ∙ none) ∙ append-nil done)) h

  head : (keyword : Keyword) (now : Said) → part_at (split 32 bytes) 0 ≡ word_of keyword → list_any (bytes_eq (word_of keyword)) head_words ≡ true → Repeated now (done ++ ended bytes)
      → Repeated now (done ++ taken (is_head_line bytes) bytes)
  head keyword now word one h = subst (Repeated now) (sym (ap (λ b. done ++ taken b bytes) (ap (λ w. list_any (bytes_eq w) head_words) word ∙ one))) h

  line_repeats : (keyword : Keyword) → Passes s keyword (split 32 bytes) → part_at (split 32 bytes) 0 ≡ word_of keyword → Repeated (add_line keyword (split 32 bytes) s) (done ++ taken (is_head_line bytes) bytes)
  line_repeats Eq ok word = head Eq (add_line Eq (split 32 bytes) s) word refl (eq_repeats bytes s done ok word kept)
  line_repeats Pd ok word = head Pd (add_line Pd (split 32 bytes) s) word refl (pd_repeats bytes s done ok word kept)
  line_repeats Cq ok word = head Cq (add_line Cq (split 32 bytes) s) word refl (cq_repeats bytes s done ok word kept)
  line_repeats Qp ok word = head Qp (add_line Qp (split 32 bytes) s) word refl (qp_repeats bytes s done ok word kept)
  line_repeats Connect ok word = head Connect (add_line Connect (split 32 bytes) s) word refl (connect_repeats bytes s done ok word kept)
  line_repeats Thread ok word = other Thread (add_line Thread (split 32 bytes) s) word refl (thread_repeats (split 32 bytes) s done kept)
  line_repeats End ok word = other End (add_line End (split 32 bytes) s) word refl (end_repeats (split 32 bytes) s done kept)
  line_repeats Post ok word = other Post (add_line Post (split 32 bytes) s) word refl (post_repeats (split 32 bytes) s done kept)
  line_repeats Item ok word = other Item (add_line Item (split 32 bytes) s) word refl (item_repeats (split 32 bytes) s done kept)
  line_repeats Recv ok word = other Recv (add_line Recv (split 32 bytes) s) word refl (recv_repeats (split 32 bytes) s done kept)
  line_repeats Receive ok word = other Receive (add_line Receive (split 32 bytes) s) word refl (receive_repeats (split 32 bytes) s done kept)
  line_repeats Poll ok word = other Poll (add_line Poll (split 32 bytes) s) word refl (poll_repeats (split 32 bytes) s done kept)
  line_repeats Drain ok word = other Drain (add_line Drain (split 32 bytes) s) word refl (drain_repeats (split 32 bytes) s done kept)
  line_repeats Schedule ok word = other Schedule (add_line Schedule (split 32 bytes) s) word refl (schedule_repeats (split 32 bytes) s done kept)
  line_repeats Rounds ok word = other Rounds (add_line Rounds (split 32 bytes) s) word refl (rounds_repeats (split 32 bytes) s done kept)

-- a line that says nothing is none of the head
pub skipped_head : (bytes : List ℕ) → is_skipped bytes ≡ true → is_head_line bytes ≡ false
skipped_head [] h = refl
skipped_head (b ∷ bs) h = ap (λ c. is_head_line (c ∷ bs)) (eqb-true b 35 h) ∙ by (split 32 bs) (first_part 32 bs)
  where
    none : (first : List ℕ) (more : List (List ℕ)) → [] ≡ first ∷ more → ⊥
    none first more e = cc

    by : (parts : List (List ℕ)) → HasFirst parts → begins_head (part_at (onto_first 35 parts) 0) ≡ false
    by [] h = absurd (none h.first h.more h.is)
    by (part ∷ parts) h = refl

after_repeats : (s : Said) (bytes done : List ℕ) → fault_of s bytes ≡ None → Repeated s done → Repeated (after_line s bytes) (done ++ taken (is_head_line bytes) bytes)
after_repeats s bytes done h kept = by (line_cases s bytes h)
  where
    by : IsSkipped s bytes ⊎ IsKnown s bytes → Repeated (after_line s bytes) (done ++ taken (is_head_line bytes) bytes)
    by (inl c) =
        subst (λ now. Repeated now (done ++ taken (is_head_line bytes) bytes)) (sym c.after)
        (subst (Repeated (count_line s)) (sym (ap (λ head. done ++ taken head bytes) (skipped_head bytes c.skipped) ∙ append-nil done)) kept)
    by (inr k) = subst (λ now. Repeated now (done ++ taken (is_head_line bytes) bytes)) (sym k.after) (line_repeats bytes (count_line s) done kept k.keyword k.passes k.word)

-- the head lines of these
abbrev heads_of : List (List ℕ) → List ℕ
heads_of parts = flat_map ended (filter is_head_line parts)

heads_next : (bytes : List ℕ) (parts : List (List ℕ)) → heads_of (bytes ∷ parts) ≡ taken (is_head_line bytes) bytes ++ heads_of parts
heads_next bytes parts = by (is_head_line bytes)
  where
    by : (head : Bool) → flat_map ended (cond head (bytes ∷ filter is_head_line parts) (filter is_head_line parts)) ≡ taken head bytes ++ heads_of parts
    by true = flat_map-cons ended bytes (filter is_head_line parts)
    by false = refl

end_heads : (place : Place) (s : Said) (p : ScenarioParts) (done : List ℕ) → end_in place s ≡ Ok p → Repeated s done → head_text p.lines ≡ done
end_heads Outside s p done h kept =
    let lines = limits_end (passed_in_lines s) (within_limits (passed_in_run (parts_said s)) (Ok (parts_said s))) p h in
    let run = limits_end (passed_in_run (parts_said s)) (Ok (parts_said s)) p lines.1 in
    let same : parts_said s ≡ p = cc in
    ap (λ (q : ScenarioParts). head_text q.lines) (sym same) ∙ (kept (unpassed s lines.0)).printed s.lines (extends_same s.lines)
end_heads InThread s p done h kept = absurd (cc)
end_heads (InPost qp) s p done h kept = absurd (cc)
end_heads (InRecv qp) s p done h kept = absurd (cc)

lines_heads : (parts : List (List ℕ)) (s : Said) (p : ScenarioParts) (done : List ℕ) → reading_from s parts ≡ Ok p → Repeated s done → head_text p.lines ≡ done ++ heads_of parts
lines_heads [] s p done h kept = end_heads s.place s p done h kept ∙ sym (append-nil done)
lines_heads ([] ∷ []) s p done h kept = end_heads s.place s p done h kept ∙ sym (append-nil done)
lines_heads ((b ∷ bs) ∷ []) s p done h kept =
    let all : (fault_of s (b ∷ bs) ≡ None) × (broken (s.count + 1) Missing ≡ Ok p) = unbroken (fault_of s (b ∷ bs)) (s.count + 1) (broken (s.count + 1) Missing) p h in
    let never : broken (s.count + 1) Missing ≡ Ok p = all.1 in
    absurd (cc)
lines_heads (bytes ∷ next ∷ more) s p done h kept =
    let all : (fault_of s bytes ≡ None) × (reading_from (after_line s bytes) (next ∷ more) ≡ Ok p) = unbroken (fault_of s bytes) (s.count + 1) (reading_from (after_line s bytes) (next ∷ more)) p h in
    lines_heads (next ∷ more) (after_line s bytes) p (done ++ taken (is_head_line bytes) bytes) all.1 (after_repeats s bytes done all.0 kept)
    ∙ append_assoc done (taken (is_head_line bytes) bytes) (heads_of (next ∷ more)) ∙ ap (λ rest. done ++ rest) (sym (heads_next bytes (next ∷ more)))

-- before the first line
nothing_repeats : Repeated nothing_said []
nothing_repeats none = record {
  called = λ e more. All-from_recursion (λ (x : Entry). IsCalled e x.meaning x.name) taken_names (refl, (tt, (tt, tt)));
  printed = λ e more. refl;
  early = λ soon. refl;
}

pub head_printed : (text : List ℕ) (p : ScenarioParts) → Says text p → head_text p.lines ≡ head_of text
head_printed text p h = by (nat_lt 4194304 (length text)) h
  where
    by : (long : Bool) → cond long (Err (Limit Text 4194305)) (reading_from nothing_said (split 10 text)) ≡ Ok p → head_text p.lines ≡ head_of text
    by true e = absurd (cc)
    by false e = lines_heads (split 10 text) nothing_said p [] e nothing_repeats
