-- The declaration and connect lines alone say what they declare and connect.
use Rattle.std.proofs.Common.{◌≡◌, ℕ, ◌+◌, ◌≤◌, ◌⊎◌, inl, inr, Bool, true, false, true≢false, cond, List, [], ◌∷◌, ◌++◌, length, nat_lt, bytes_eq, IsTrue, None, Some, Ok, Err, refl, sym, ap, ap₂, ◌∙◌, subst, arith}
use Rattle.std.specs.List.{filter, list_any}
use Rattle.std.proofs.lemmas.Bool.{and_from, le-leb}
use Rattle.verbs_types.specs.declared.declaration.EqLine.{EqLine}
use Rattle.verbs_types.specs.declared.declaration.Lines.{Lines}
use Rattle.actor_map.specs.Weight.{weight, capped}
use Rattle.scenario_text.specs.After.{add_line, after_line, count_line}
use Rattle.scenario_text.specs.Bounds.{bound, event_bounds, events_on, size_of, passed_after, passed_by, passed_in_lines, passed_in_run, run_bounds, turns_bound}
use Rattle.scenario_text.specs.Heads.{head_text}
use Rattle.scenario_text.specs.Keywords.{place_of, section_of}
use Rattle.scenario_text.specs.Printing.{head_alone, head_words, is_head_line}
use Rattle.scenario_text.specs.Rules.{fault_of, may_begin, may_stand_in}
use Rattle.scenario_text.specs.Sofar.{Said}
use Rattle.scenario_text.specs.Text.{split}
use Rattle.scenario_text.specs.Whole.{Says, broken, end_in, end_of, nothing_said, parts_said, reading_from, within_limits}
use Rattle.scenario_text.specs.declared.bounds.Bound.{Bound}
use Rattle.scenario_text.specs.declared.fault.LimitName.TheVariants as limits
use Rattle.scenario_text.specs.declared.fault.ScenarioFault.TheVariants.{Limit}
use Rattle.scenario_text.specs.declared.fault.TextRule.TheVariants.{Missing}
use Rattle.scenario_text.specs.declared.keyword.Keyword.{Keyword}
use Rattle.scenario_text.specs.declared.keyword.Keyword.TheVariants.{Eq, Pd, Cq, Qp, Connect, Thread, End, Post, Item, Recv, Receive, Poll, Drain, Schedule, Rounds}
use Rattle.scenario_text.specs.declared.scenario.Plan.TheVariants.{Idle}
use Rattle.scenario_text.specs.declared.scenario.ScenarioParts.{ScenarioParts}
use Rattle.scenario_text.specs.declared.sofar.Place.{Place}
use Rattle.scenario_text.specs.declared.sofar.Place.TheVariants.{Outside}
use Rattle.scenario_text.proofs.AllLines.{unbroken}
use Rattle.scenario_text.proofs.Asked.{Passes}
use Rattle.scenario_text.proofs.Comments.{goes_with, pushed_first}
use Rattle.scenario_text.proofs.Counting.{with_count}
use Rattle.scenario_text.proofs.Cutting.{kept_say}
use Rattle.scenario_text.proofs.EachLine.{IsKnown, IsSkipped, line_cases}
use Rattle.scenario_text.proofs.LateLines.{EndsWith, Ends, IsOther, SameHead, counted, end_ends, ends_before, lines_end, other_same}
use Rattle.scenario_text.proofs.WholeHead.{head_printed, skipped_head}
use Rattle.scenario_text.proofs.Within.{AllWithin}
use Rattle.scenario_text.proofs.Words.{word_of}

-- only lines of the head were read
record IsEarly (s : Said) : Type 0 where
  outside : s.place ≡ Outside
  programs : s.programs ≡ []
  threads : s.lines.threads ≡ []
  plan : s.plan ≡ Idle

-- the converse of the limits
within_none : (bounds : List Bound) → AllWithin bounds → passed_after None bounds ≡ None
within_none [] h = refl
within_none (b ∷ bounds) h =
    ap (λ kept. passed_after (cond kept None (Some (record { name = b.name; value = b.value }))) bounds) (and_from _ _ (le-leb b.least b.value h.0) (le-leb b.value b.most h.1))
    ∙ within_none bounds h.2

-- which threads there are makes no difference to the events
events_same : (d : Lines) (threads : List (List ℕ)) (n : ℕ) (eqs : List EqLine) → event_bounds (record d { threads = threads }) n eqs ≡ event_bounds d n eqs
events_same d threads n [] = refl
events_same d threads n (l ∷ eqs) = ap (λ rest. bound limits.Events (events_on d n) 0 (size_of l.log) ∷ rest) (events_same d threads (n + 1) eqs)

module _ (s : Said) (count : ℕ) (p : ScenarioParts) (early : IsEarly s) (h : EndsWith s p) where
  same_lines : s.lines ≡ record p.lines { threads = [] }
  same_lines = sym h.lines ∙ ap (λ (threads : List (List ℕ)). record p.lines { threads = threads }) early.threads

  same_parts : parts_said s ≡ head_alone p
  same_parts = λ i. record { lines = same_lines i; programs = early.programs i; plan = early.plan i }

  within_lines : passed_in_lines (with_count s count) ≡ None
  within_lines =
      let events : passed_after s.passed (event_bounds s.lines 0 s.lines.eqs) ≡ None =
      ap₂ (λ o (d : Lines). passed_after o (event_bounds d 0 d.eqs)) h.unpassed same_lines ∙ ap (passed_after None) (events_same p.lines [] 0 p.lines.eqs) ∙ h.events
      in
      ap₂ (λ o plan. passed_by o (turns_bound s.lines plan)) events early.plan

  within_run : passed_in_run (parts_said s) ≡ None
  within_run =
      let all = h.run in
      let weighs : capped (weight p.lines p.programs) ≤ 4194304 = all.2.1 in
      let less : capped (weight (record p.lines { threads = [] }) []) ≤ 4194304 = omega (arith, weighs) in
      ap passed_in_run same_parts ∙ within_none (run_bounds (head_alone p)) (all.0, all.1, (omega arith, less, tt))

  early_end : end_of (with_count s count) ≡ Ok (head_alone p)
  early_end =
      ap (λ place. end_in place (with_count s count)) early.outside
      ∙ ap (λ o. within_limits o (within_limits (passed_in_run (parts_said s)) (Ok (parts_said s)))) within_lines
      ∙ ap (λ o. within_limits o (Ok (parts_said s))) within_run
      ∙ ap (λ q. Ok q) same_parts

-- a line of the head
abbrev IsHead : Keyword → Type 0
IsHead keyword = list_any (bytes_eq (word_of keyword)) head_words ≡ true

head_early : (keyword : Keyword) (line : List (List ℕ)) (s : Said) → IsHead keyword → IsEarly s → IsEarly (add_line keyword line s)
head_early Eq line s h e = record { outside = e.outside; programs = e.programs; threads = e.threads; plan = e.plan }
head_early Pd line s h e = record { outside = e.outside; programs = e.programs; threads = e.threads; plan = e.plan }
head_early Cq line s h e = record { outside = e.outside; programs = e.programs; threads = e.threads; plan = e.plan }
head_early Qp line s h e = record { outside = e.outside; programs = e.programs; threads = e.threads; plan = e.plan }
head_early Connect line s h e = record { outside = e.outside; programs = e.programs; threads = e.threads; plan = e.plan }
head_early Thread line s h e = absurd (true≢false (sym h))
head_early End line s h e = absurd (true≢false (sym h))
head_early Post line s h e = absurd (true≢false (sym h))
head_early Item line s h e = absurd (true≢false (sym h))
head_early Recv line s h e = absurd (true≢false (sym h))
head_early Receive line s h e = absurd (true≢false (sym h))
head_early Poll line s h e = absurd (true≢false (sym h))
head_early Drain line s h e = absurd (true≢false (sym h))
head_early Schedule line s h e = absurd (true≢false (sym h))
head_early Rounds line s h e = absurd (true≢false (sym h))

-- outside threads the other lines begin a thread or are the plan
nowhere : (s : Said) (keyword : Keyword) (place : Place) → place ≡ Outside → section_of keyword ≡ None → IsTrue (may_stand_in s place keyword) → ⊥
nowhere s keyword place outside none stands =
    true≢false (sym stands ∙ ap (λ p. may_stand_in s p keyword) outside ∙ ap (may_begin s.section) none)

late_after : (keyword : Keyword) (line : List (List ℕ)) (s : Said) → IsOther keyword → IsEarly s → Passes s keyword line → 2 ≤ place_of (add_line keyword line s).section
late_after Eq line s h e ok = absurd (true≢false h)
late_after Pd line s h e ok = absurd (true≢false h)
late_after Cq line s h e ok = absurd (true≢false h)
late_after Qp line s h e ok = absurd (true≢false h)
late_after Connect line s h e ok = absurd (true≢false h)
late_after Thread line s h e ok = omega arith
late_after End line s h e ok = absurd (nowhere s End s.place e.outside refl ok.stands)
late_after Post line s h e ok = absurd (nowhere s Post s.place e.outside refl ok.stands)
late_after Item line s h e ok = absurd (nowhere s Item s.place e.outside refl ok.stands)
late_after Recv line s h e ok = absurd (nowhere s Recv s.place e.outside refl ok.stands)
late_after Receive line s h e ok = absurd (nowhere s Receive s.place e.outside refl ok.stands)
late_after Poll line s h e ok = absurd (nowhere s Poll s.place e.outside refl ok.stands)
late_after Drain line s h e ok = absurd (nowhere s Drain s.place e.outside refl ok.stands)
late_after Schedule line s h e ok = omega arith
late_after Rounds line s h e ok = omega arith

-- the lines of the head among these, read after the ones before
abbrev Reads : List (List ℕ) → Said → ScenarioParts → Type 0
Reads parts s p = (count : ℕ) → reading_from (with_count s count) (filter is_head_line parts ++ [] ∷ []) ≡ Ok (head_alone p)

heads_read : (parts : List (List ℕ)) (s : Said) (p : ScenarioParts) → reading_from s parts ≡ Ok p → IsEarly s → Reads parts s p
heads_read [] s p h early count = early_end s count p early (end_ends s.place s p h)
heads_read ([] ∷ []) s p h early count = early_end s count p early (end_ends s.place s p h)
heads_read ((b ∷ bs) ∷ []) s p h early count =
    let all : (fault_of s (b ∷ bs) ≡ None) × (broken (s.count + 1) Missing ≡ Ok p) = unbroken (fault_of s (b ∷ bs)) (s.count + 1) (broken (s.count + 1) Missing) p h in
    let never : broken (s.count + 1) Missing ≡ Ok p = all.1 in
    absurd (cc)
heads_read (bytes ∷ next ∷ more) s p h early count = by (λ (e : IsEarly (after_line s bytes)). heads_read (next ∷ more) (after_line s bytes) p all.1 e) (line_cases s bytes all.0)
  where
    all : (fault_of s bytes ≡ None) × (reading_from (after_line s bytes) (next ∷ more) ≡ Ok p)
    all = unbroken (fault_of s bytes) (s.count + 1) (reading_from (after_line s bytes) (next ∷ more)) p h

    rest : List (List ℕ)
    rest = filter is_head_line (next ∷ more)

    head_is : (k : IsKnown s bytes) (head : Bool) → list_any (bytes_eq (word_of k.keyword)) head_words ≡ head → is_head_line bytes ≡ head
    head_is k head is = ap (λ w. list_any (bytes_eq w) head_words) k.word ∙ is

    known : (IsEarly (after_line s bytes) → Reads (next ∷ more) (after_line s bytes) p) → (k : IsKnown s bytes) (head : Bool) → list_any (bytes_eq (word_of k.keyword)) head_words ≡ head
        → reading_from (with_count s count) (cond head (bytes ∷ rest) rest ++ [] ∷ []) ≡ Ok (head_alone p)
    known later k true is =
        let soon : IsEarly (after_line s bytes) = subst IsEarly (sym k.after) (head_early k.keyword (split 32 bytes) (count_line s) is (record { outside = early.outside; programs = early.programs; threads = early.threads; plan = early.plan })) in
        goes_with s count bytes (rest ++ [] ∷ []) (pushed_first rest) all.0 ∙ later soon (count + 1)
    known later k false is =
        let e : IsEarly (count_line s) = record { outside = early.outside; programs = early.programs; threads = early.threads; plan = early.plan } in
        let same : SameHead s (after_line s bytes) = subst (SameHead s) (sym k.after) (counted s (add_line k.keyword (split 32 bytes) (count_line s)) (other_same (split 32 bytes) (count_line s) k.keyword is)) in
        let late : 2 ≤ place_of (after_line s bytes).section = subst (λ (t : Said). 2 ≤ place_of t.section) (sym k.after) (late_after k.keyword (split 32 bytes) (count_line s) is e k.passes) in
        let end : Ends (after_line s bytes) (next ∷ more) p = lines_end (next ∷ more) (after_line s bytes) p all.1 late in
        ap (λ parts. reading_from (with_count s count) (parts ++ [] ∷ [])) end.none ∙ early_end s count p early (ends_before s (after_line s bytes) p same end.ends)

    by : (IsEarly (after_line s bytes) → Reads (next ∷ more) (after_line s bytes) p) → IsSkipped s bytes ⊎ IsKnown s bytes
        → reading_from (with_count s count) (filter is_head_line (bytes ∷ next ∷ more) ++ [] ∷ []) ≡ Ok (head_alone p)
    by later (inl c) =
        let soon : IsEarly (after_line s bytes) = subst IsEarly (sym c.after) (record { outside = early.outside; programs = early.programs; threads = early.threads; plan = early.plan }) in
        ap (λ head. reading_from (with_count s count) (cond head (bytes ∷ rest) rest ++ [] ∷ [])) (skipped_head bytes c.skipped)
        ∙ ap (λ (t : Said). reading_from (with_count t count) (rest ++ [] ∷ [])) (sym c.after) ∙ later soon count
    by later (inr k) =
        ap (λ head. reading_from (with_count s count) (cond head (bytes ∷ rest) rest ++ [] ∷ [])) (head_is k (list_any (bytes_eq (word_of k.keyword)) head_words) refl)
        ∙ known later k (list_any (bytes_eq (word_of k.keyword)) head_words) refl

pub head_read : (text : List ℕ) (p : ScenarioParts) → Says text p → Says (head_text p.lines) (head_alone p)
head_read text p says =
    subst (λ bytes. Says bytes (head_alone p)) (sym (head_printed text p says))
    (kept_say is_head_line refl text p (head_alone p) says (heads_read (split 10 text) nothing_said p (read (nat_lt 4194304 (length text)) says) nothing 0))
  where
    read : (long : Bool) → cond long (Err (Limit limits.Text 4194305)) (reading_from nothing_said (split 10 text)) ≡ Ok p → reading_from nothing_said (split 10 text) ≡ Ok p
    read true h = absurd (cc)
    read false h = h

    nothing : IsEarly nothing_said
    nothing = record { outside = refl; programs = refl; threads = refl; plan = refl }
