-- All that was read so far is printed as it stands.
use Rattle.std.proofs.Common.{◌≡◌, ℕ, ◌<◌, ◌≤◌, ◌==◌, List, [], ◌∷◌, ◌++◌, append-nil, append_assoc, length, IsTrue, None, refl, sym, ap, ◌∙◌, subst, arith}
use Rattle.std.specs.Bool.{⊤}
use Rattle.std.specs.List.{flat_map}
use Rattle.std.proofs.lemmas.List.Splits.{length-slice_split}
use Rattle.verbs_types.specs.declared.call.Call.{Call}
use Rattle.verbs_types.specs.declared.call.Call.TheVariants as calls
use Rattle.verbs_types.specs.declared.declaration.Lines.{Lines}
use Rattle.verbs_types.specs.declared.request.Receive.{Receive}
use Rattle.verbs_types.specs.declared.request.Request.{Request}
use Rattle.scenario_text.specs.After.{add_line}
use Rattle.scenario_text.specs.Bounds.{bounds_of, passed_after}
use Rattle.scenario_text.specs.Keywords.{place_of}
use Rattle.scenario_text.specs.Printing.{ended}
use Rattle.scenario_text.specs.Requests.{line}
use Rattle.scenario_text.specs.Rules.{is_known}
use Rattle.scenario_text.specs.Slots.{actor_part}
use Rattle.scenario_text.specs.Sofar.{Said}
use Rattle.scenario_text.specs.Spelling.{plan_lines, threads_lines}
use Rattle.scenario_text.specs.Text.{Field, Line, split, part_at, name_in}
use Rattle.scenario_text.specs.Uses.{named}
use Rattle.scenario_text.specs.declared.keyword.Keyword.{Keyword}
use Rattle.scenario_text.specs.declared.keyword.Keyword.TheVariants as keywords
use Rattle.scenario_text.specs.declared.keyword.Section.{Section}
use Rattle.scenario_text.specs.declared.keyword.Section.TheVariants as sections
use Rattle.scenario_text.specs.declared.scenario.Plan.{Plan}
use Rattle.scenario_text.specs.declared.scenario.Plan.TheVariants as plans
use Rattle.scenario_text.specs.declared.slot.Kind.TheVariants as kinds
use Rattle.scenario_text.specs.declared.slot.Slot.TheVariants.{Turns}
use Rattle.scenario_text.specs.declared.sofar.Place.{Place}
use Rattle.scenario_text.specs.declared.sofar.Place.TheVariants.{Outside, InThread, InPost, InRecv}
use Rattle.scenario_text.proofs.Asked.{Passes}
use Rattle.scenario_text.proofs.CallLinesPrinted.{thread_fields, rounds_fields, schedule_fields}
use Rattle.scenario_text.proofs.HeadLines.{Repeats, eq_repeats, pd_repeats, cq_repeats, qp_repeats, connect_repeats}
use Rattle.scenario_text.proofs.Meanings.{number_there}
use Rattle.scenario_text.proofs.OtherLines.{thread_repeats, schedule_repeats, rounds_repeats}
use Rattle.scenario_text.proofs.OutsideLines.{Begins, begins}
use Rattle.scenario_text.proofs.Repeating.{Extends, extends_eq, extends_pd, extends_cq, extends_qp, extends_connect}
use Rattle.scenario_text.proofs.Standing.{Kept, Stands}
use Rattle.scenario_text.proofs.ThreadText.{Closed, Open, begin_thread, plan_closed}
use Rattle.scenario_text.proofs.Within.{passed_none}
use Rattle.scenario_text.proofs.Words.{word_of}

-- the threads so far, and the list in which the next line stands, are printed so
abbrev pub Told : Place → Lines → List (List Call) → List Call → List Request → List Receive → Plan → List ℕ → Type 0
Told Outside d programs program requests receives plan rest = Closed d programs plan rest × (program ≡ []) × (requests ≡ []) × (receives ≡ [])
Told InThread d programs program requests receives plan rest = Open d programs program rest × (requests ≡ []) × (receives ≡ []) × (plan ≡ plans.Idle)
Told (InPost qp) d programs program requests receives plan rest = Open d programs (program ++ calls.Post qp requests ∷ []) rest × (receives ≡ []) × (plan ≡ plans.Idle)
Told (InRecv qp) d programs program requests receives plan rest = Open d programs (program ++ calls.Recv qp receives ∷ []) rest × (requests ≡ []) × (plan ≡ plans.Idle)

abbrev pub TellsAt : Said → Place → List ℕ → Type 0
TellsAt s place rest = Told place s.lines s.programs s.calls s.requests s.receives s.plan rest

-- what stands in a thread stands after the head
abbrev pub IsInside : Place → Section → Type 0
IsInside Outside section = ⊤
IsInside InThread section = 2 ≤ place_of section
IsInside (InPost qp) section = 2 ≤ place_of section
IsInside (InRecv qp) section = 2 ≤ place_of section

-- the head, and what follows it
pub record Writes (s : Said) (head rest : List ℕ) : Type 0 where
  pub repeats : Repeats s.lines s.names s.section head
  pub told : TellsAt s s.place rest
  pub inside : IsInside s.place s.section
  pub early : place_of s.section ≤ 1 → rest ≡ []
  pub unplanned : place_of s.section ≤ 3 → s.plan ≡ plans.Idle

-- the two together are the lines that were read
pub record WritesAll (s : Said) (done : List ℕ) : Type 0 where
  pub head : List ℕ
  pub rest : List ℕ
  pub whole : head ++ rest ≡ done
  pub writes : Writes s head rest

abbrev pub Written : Said → List ℕ → Type 0
Written s done = s.passed ≡ None → WritesAll s done

-- a line of the head, before which nothing but the head stands
in_head : (s now : Said) (head rest done bytes : List ℕ) → head ++ rest ≡ done → rest ≡ [] → Repeats now.lines now.names now.section (head ++ ended bytes) → TellsAt now now.place rest → IsInside now.place now.section
    → (place_of now.section ≤ 3 → now.plan ≡ plans.Idle) → WritesAll now (done ++ ended bytes)
in_head s now head rest done bytes whole none repeats told inside unplanned = record {
  head = head ++ ended bytes;
  rest = rest;
  whole = ap (λ text. head ++ ended bytes ++ text) none ∙ append-nil (head ++ ended bytes) ∙ ap (λ text. text ++ ended bytes) (sym (append-nil head) ∙ ap (λ text. head ++ text) (sym none) ∙ whole);
  writes = record { repeats = repeats; told = told; inside = inside; early = λ soon. none; unplanned = unplanned };
}

-- a line after the head
pub after_head : (now : Said) (head rest done bytes : List ℕ) → head ++ rest ≡ done → Repeats now.lines now.names now.section head → TellsAt now now.place (rest ++ ended bytes) → IsInside now.place now.section → 2 ≤ place_of now.section
    → (place_of now.section ≤ 3 → now.plan ≡ plans.Idle) → WritesAll now (done ++ ended bytes)
after_head now head rest done bytes whole repeats told inside late unplanned = record {
  head = head;
  rest = rest ++ ended bytes;
  whole = sym (append_assoc head rest (ended bytes)) ∙ ap (λ text. text ++ ended bytes) whole;
  writes = record { repeats = repeats; told = told; inside = inside; early = λ soon. absurd (omega (arith, soon, late)); unplanned = unplanned };
}

-- more declared objects change nothing of what follows the head
closed_more : (d next : Lines) (programs : List (List Call)) (plan : Plan) (rest : List ℕ) → next.threads ≡ d.threads → ((e : Lines) → Extends next e → Extends d e) → Closed d programs plan rest
    → Closed next programs plan rest
closed_more d next programs plan rest same before h = record {
  paired = ap (λ (names : List (List ℕ)). length names) same ∙ h.paired;
  printed = λ e more. ap (λ (names : List (List ℕ)). flat_map line (threads_lines e names programs) ++ flat_map line (plan_lines e plan)) same ∙ h.printed e (before e more);
}

told_more : (p : Place) (d next : Lines) (programs : List (List Call)) (program : List Call) (requests : List Request) (receives : List Receive) (plan : Plan) (rest : List ℕ) → p ≡ Outside → next.threads ≡ d.threads
    → ((e : Lines) → Extends next e → Extends d e) → Told p d programs program requests receives plan rest → Told p next programs program requests receives plan rest
told_more Outside d next programs program requests receives plan rest outside same before h = (closed_more d next programs plan rest same before h.0, h.1, h.2, h.3)
told_more InThread d next programs program requests receives plan rest outside same before h = absurd (cc)
told_more (InPost qp) d next programs program requests receives plan rest outside same before h = absurd (cc)
told_more (InRecv qp) d next programs program requests receives plan rest outside same before h = absurd (cc)

outside_inside : (p : Place) (section : Section) → p ≡ Outside → IsInside p section
outside_inside p section outside = subst (λ q. IsInside q section) (sym outside) tt

module _ (bytes : List ℕ) (s : Said) (done : List ℕ) (kept : Written s done) where
  abbrev fields : Line
  fields = split 32 bytes

  some : 0 < length fields
  some = omega (arith, length-slice_split (λ b. b == 32) bytes)

  -- what was written, where the line passes no limit
  before : (keyword : Keyword) → passed_after s.passed (bounds_of s keyword fields) ≡ None → WritesAll s done
  before keyword none = kept (passed_none s.passed (bounds_of s keyword fields) none).0

  -- a line of an object or of a connection
  head_writes : (section : Section) (next : Lines) (now : Said) (w : WritesAll s done) → Begins s section → place_of section ≤ 1 → now ≡ record now { place = s.place; programs = s.programs; calls = s.calls; requests = s.requests; receives = s.receives; plan = s.plan; lines = next }
      → next.threads ≡ s.lines.threads → ((e : Lines) → Extends next e → Extends s.lines e) → Repeats now.lines now.names now.section (w.head ++ ended bytes) → WritesAll now (done ++ ended bytes)
  head_writes section next now w b low is same more repeats =
      in_head s now w.head w.rest done bytes w.whole (w.writes.early (omega (arith, low, b.from))) repeats
      (subst (λ (t : Said). TellsAt t t.place w.rest) (sym is) (told_more s.place s.lines next s.programs s.calls s.requests s.receives s.plan w.rest b.outside same more w.writes.told))
      (outside_inside now.place now.section (ap (λ (t : Said). t.place) is ∙ b.outside)) (λ soon. ap (λ (t : Said). t.plan) is ∙ w.writes.unplanned (omega (arith, low, b.from)))

  pub eq_writes : Passes s keywords.Eq fields → part_at fields 0 ≡ word_of keywords.Eq → Written (add_line keywords.Eq fields s) (done ++ ended bytes)
  eq_writes ok word none =
      let w = before keywords.Eq none in
      let now = add_line keywords.Eq fields s in
      head_writes sections.Objects now.lines now w (begins s keywords.Eq sections.Objects fields refl refl refl refl ok) (omega arith) refl refl (λ e. extends_eq s.lines e _)
      (eq_repeats bytes s w.head ok word (λ n. w.writes.repeats) none)

  pub pd_writes : Passes s keywords.Pd fields → part_at fields 0 ≡ word_of keywords.Pd → Written (add_line keywords.Pd fields s) (done ++ ended bytes)
  pd_writes ok word none =
      let w = before keywords.Pd none in
      let now = add_line keywords.Pd fields s in
      head_writes sections.Objects now.lines now w (begins s keywords.Pd sections.Objects fields refl refl refl refl ok) (omega arith) refl refl (λ e. extends_pd s.lines e _)
      (pd_repeats bytes s w.head ok word (λ n. w.writes.repeats) none)

  pub cq_writes : Passes s keywords.Cq fields → part_at fields 0 ≡ word_of keywords.Cq → Written (add_line keywords.Cq fields s) (done ++ ended bytes)
  cq_writes ok word none =
      let w = before keywords.Cq none in
      let now = add_line keywords.Cq fields s in
      head_writes sections.Objects now.lines now w (begins s keywords.Cq sections.Objects fields refl refl refl refl ok) (omega arith) refl refl (λ e. extends_cq s.lines e _)
      (cq_repeats bytes s w.head ok word (λ n. w.writes.repeats) none)

  pub qp_writes : Passes s keywords.Qp fields → part_at fields 0 ≡ word_of keywords.Qp → Written (add_line keywords.Qp fields s) (done ++ ended bytes)
  qp_writes ok word none =
      let w = before keywords.Qp none in
      let now = add_line keywords.Qp fields s in
      head_writes sections.Objects now.lines now w (begins s keywords.Qp sections.Objects fields refl refl refl refl ok) (omega arith) refl refl (λ e. extends_qp s.lines e _)
      (qp_repeats bytes s w.head ok word (λ n. w.writes.repeats) none)

  pub connect_writes : Passes s keywords.Connect fields → part_at fields 0 ≡ word_of keywords.Connect → Written (add_line keywords.Connect fields s) (done ++ ended bytes)
  connect_writes ok word none =
      let w = before keywords.Connect none in
      let now = add_line keywords.Connect fields s in
      head_writes sections.Connects now.lines now w (begins s keywords.Connect sections.Connects fields refl refl refl refl ok) (omega arith) refl refl (λ e. extends_connect s.lines e _)
      (connect_repeats bytes s w.head ok word (λ n. w.writes.repeats) none)

  pub thread_writes : Passes s keywords.Thread fields → part_at fields 0 ≡ word_of keywords.Thread → Written (add_line keywords.Thread fields s) (done ++ ended bytes)
  thread_writes ok word none =
      let w = before keywords.Thread none in
      let now = add_line keywords.Thread fields s in
      let b : Begins s sections.Threads = begins s keywords.Thread sections.Threads fields refl refl refl refl ok in
      let was : TellsAt s Outside w.rest = subst (λ p. TellsAt s p w.rest) b.outside w.writes.told in
      let idle : s.plan ≡ plans.Idle = w.writes.unplanned (omega (arith, b.from)) in
      let begun = begin_thread s.lines s.programs s.plan (name_in fields) bytes w.rest idle (thread_fields s fields some ok word) was.0 in
      after_head now w.head w.rest done bytes w.whole (thread_repeats fields s w.head (λ n. w.writes.repeats) none)
      (subst (λ (program : List Call). Open now.lines s.programs program (w.rest ++ ended bytes)) (sym was.1) begun, was.2, was.3, idle) (omega arith) (omega arith) (λ soon. idle)

  pub schedule_writes : Kept s → Passes s keywords.Schedule fields → part_at fields 0 ≡ word_of keywords.Schedule → Written (add_line keywords.Schedule fields s) (done ++ ended bytes)
  schedule_writes stands ok word none =
      let w = before keywords.Schedule none in
      let now = add_line keywords.Schedule fields s in
      let b : Begins s sections.Plan = begins s keywords.Schedule sections.Plan fields refl refl refl refl ok in
      let was : TellsAt s Outside w.rest = subst (λ p. TellsAt s p w.rest) b.outside w.writes.told in
      let idle : s.plan ≡ plans.Idle = w.writes.unplanned (omega (arith, b.from)) in
      let closed = plan_closed s.lines s.programs s.plan now.plan bytes w.rest idle
      (λ e more. ap (λ (f : Line). f ∷ []) (schedule_fields e s (w.writes.repeats.called e more) fields ok.formed ok.numbered ok.known word low)) was.0
      in
      after_head now w.head w.rest done bytes w.whole (schedule_repeats fields s w.head (λ n. w.writes.repeats) none)
      (subst (λ p. TellsAt now p (w.rest ++ ended bytes)) (sym b.outside) (closed, was.1, was.2, was.3)) (outside_inside s.place sections.Over b.outside) (omega arith) (λ soon. absurd (omega (arith, soon)))
    where
      low : (field : Field) → IsTrue (is_known s Turns field) → named s kinds.Actor (actor_part field) ≤ 255
      low field known =
          let h : Stands s = stands (passed_none s.passed (bounds_of s keywords.Schedule fields) none).0 in
          omega (arith, number_there s.lines kinds.Actor (actor_part field) s.names h.named known, h.declared.threads)

  pub rounds_writes : Passes s keywords.Rounds fields → part_at fields 0 ≡ word_of keywords.Rounds → Written (add_line keywords.Rounds fields s) (done ++ ended bytes)
  rounds_writes ok word none =
      let w = before keywords.Rounds none in
      let now = add_line keywords.Rounds fields s in
      let b : Begins s sections.Plan = begins s keywords.Rounds sections.Plan fields refl refl refl refl ok in
      let was : TellsAt s Outside w.rest = subst (λ p. TellsAt s p w.rest) b.outside w.writes.told in
      let idle : s.plan ≡ plans.Idle = w.writes.unplanned (omega (arith, b.from)) in
      let closed = plan_closed s.lines s.programs s.plan now.plan bytes w.rest idle (λ e more. ap (λ (f : Line). f ∷ []) (rounds_fields s fields some ok word)) was.0 in
      after_head now w.head w.rest done bytes w.whole (rounds_repeats fields s w.head (λ n. w.writes.repeats) none)
      (subst (λ p. TellsAt now p (w.rest ++ ended bytes)) (sym b.outside) (closed, was.1, was.2, was.3)) (outside_inside s.place sections.Over b.outside) (omega arith) (λ soon. absurd (omega (arith, soon)))
