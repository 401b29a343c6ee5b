-- Each declaration and connect line is printed as it stands.
use Rattle.std.proofs.Common.{◌≡◌, ℕ, ◌+◌, ◌<◌, ◌≤◌, ◌==◌, List, [], ◌∷◌, ◌++◌, codes, decimal, length, min, IsTrue, None, refl, sym, ap, ap₂, ◌∙◌, append-nil, append_assoc, arith}
use Rattle.std.specs.List.{flat_map}
use Rattle.std.proofs.lemmas.Bool.{and_parts}
use Rattle.std.proofs.lemmas.Grind.{flat_map-append}
use Rattle.std.proofs.lemmas.List.Concat.{flat_map-cons}
use Rattle.std.proofs.lemmas.List.Elements.{All-push}
use Rattle.std.proofs.lemmas.List.Splits.{length-slice_split}
use Rattle.verbs_types.specs.declared.declaration.Connect.{Connect}
use Rattle.verbs_types.specs.declared.declaration.CqLine.{CqLine}
use Rattle.verbs_types.specs.declared.declaration.EqLine.{EqLine}
use Rattle.verbs_types.specs.declared.declaration.Lines.{Lines}
use Rattle.verbs_types.specs.declared.declaration.Object.{Object}
use Rattle.verbs_types.specs.declared.declaration.Object.TheVariants as objects
use Rattle.verbs_types.specs.declared.declaration.PdLine.{PdLine}
use Rattle.verbs_types.specs.declared.declaration.QpLine.{QpLine}
use Rattle.verbs_types.specs.declared.declaration.TheConstants.{FIRST_PD, FIRST_QP}
use Rattle.scenario_text.specs.After.{add_line}
use Rattle.scenario_text.specs.Bounds.{bounds_of, recv_log_at}
use Rattle.scenario_text.specs.Heads.{eq_fields, eq_text, pd_fields, pd_text, cq_fields, cq_text, qp_fields, qp_text, connect_fields, connect_text, object_text}
use Rattle.scenario_text.specs.Keywords.{place_of, slots_of}
use Rattle.scenario_text.specs.Naming.{Entry}
use Rattle.scenario_text.specs.Printing.{ended}
use Rattle.scenario_text.specs.Requests.{line}
use Rattle.scenario_text.specs.Rules.{is_known}
use Rattle.scenario_text.specs.Slots.{is_formed, has_number}
use Rattle.scenario_text.specs.Sofar.{Said}
use Rattle.scenario_text.specs.Text.{Line, split, part_at, number_at, small, small_at, name_in, is_number}
use Rattle.scenario_text.specs.Uses.{named, qp_named, cq_named}
use Rattle.scenario_text.specs.declared.keyword.Keyword.TheVariants as keywords
use Rattle.scenario_text.specs.declared.keyword.Section.{Section}
use Rattle.scenario_text.specs.declared.keyword.Section.TheVariants as sections
use Rattle.scenario_text.specs.declared.names.Meaning.TheVariants.{Object as OfObject}
use Rattle.scenario_text.specs.declared.slot.Kind.TheVariants as kinds
use Rattle.scenario_text.specs.declared.slot.Slot.TheVariants.{Name, Number, Pair, RecvLog}
use Rattle.scenario_text.proofs.Asked.{Passes, part_kept}
use Rattle.scenario_text.proofs.Declaring.{with_eq, with_pd, with_cq, with_qp, with_connect}
use Rattle.scenario_text.proofs.OutsideLines.{begins}
use Rattle.scenario_text.proofs.Printed.{number_printed, recv_log_printed, line_printed, whole_line}
use Rattle.scenario_text.proofs.Repeating.{AllCalled, Extends, IsCalled, last_from, last_text, name_printed, extends_eq, extends_pd, extends_cq, extends_qp, extends_connect}
use Rattle.scenario_text.proofs.Within.{passed_none}
use Rattle.scenario_text.proofs.Words.{word_of}

-- the lines of objects and connections are printed so, whatever lines come after them
pub record Repeats (d : Lines) (names : List Entry) (section : Section) (done : List ℕ) : Type 0 where
  pub called : (e : Lines) → Extends d e → AllCalled e names
  pub printed : (e : Lines) → Extends d e → flat_map (object_text e) d.order ++ flat_map (connect_text e) d.connects ≡ done
  pub early : place_of section ≤ 0 → d.connects ≡ []

-- once a limit is passed, nothing is printed
abbrev pub Repeated : Said → List ℕ → Type 0
Repeated s done = s.passed ≡ None → Repeats s.lines s.names s.section done

-- one more object, before all connections
record IsNext (d next : Lines) (entry : Entry) (o : Object) (text : List ℕ) : Type 0 where
  order : next.order ≡ d.order ++ o ∷ []
  connects : next.connects ≡ d.connects
  none : d.connects ≡ []
  before : (e : Lines) → Extends next e → Extends d e
  called : (e : Lines) → Extends next e → IsCalled e entry.meaning entry.name
  printed : (e : Lines) → Extends next e → object_text e o ≡ text

next_repeats : (d next : Lines) (names : List Entry) (entry : Entry) (section after : Section) (o : Object) (done text : List ℕ) → IsNext d next entry o text
    → Repeats d names section done → Repeats next (names ++ entry ∷ []) after (done ++ text)
next_repeats d next names entry section after o done text n h = record {
  called = λ e more. All-push (λ (x : Entry). IsCalled e x.meaning x.name) names entry (h.called e (n.before e more)) (n.called e more);
  printed = λ e more.
      ap₂ (λ os cs. flat_map (object_text e) os ++ flat_map (connect_text e) cs) n.order (n.connects ∙ n.none)
      ∙ append-nil (flat_map (object_text e) (d.order ++ o ∷ []))
      ∙ flat_map-append (object_text e) d.order (o ∷ [])
      ∙ ap₂ (λ xs ys. xs ++ ys) (before e more) (flat_map-cons (object_text e) o [] ∙ append-nil (object_text e o) ∙ n.printed e more);
  early = λ soon. n.connects ∙ n.none;
}
  where
    before : (e : Lines) → Extends next e → flat_map (object_text e) d.order ≡ done
    before e more =
        sym (append-nil (flat_map (object_text e) d.order)) ∙ ap (λ cs. flat_map (object_text e) d.order ++ flat_map (connect_text e) cs) (sym n.none)
        ∙ h.printed e (n.before e more)

pub small_is : (n : ℕ) → n ≤ 4294967295 → small n ≡ n
small_is n le = omega (arith, le)

pub small_printed : (fields : Line) (place : ℕ) → number_at fields place ≤ 4294967295 → IsTrue (is_number (part_at fields place)) → decimal (small_at fields place) ≡ part_at fields place
small_printed fields place le number = ap decimal (small_is (number_at fields place) le) ∙ number_printed (part_at fields place) number

module _ (bytes : List ℕ) (s : Said) (done : List ℕ) where
  abbrev fields : Line
  fields = split 32 bytes

  some : 0 < length fields
  some = omega (arith, length-slice_split (λ b. b == 32) bytes)

  pub eq_repeats : Passes s keywords.Eq fields → part_at fields 0 ≡ word_of keywords.Eq → Repeated s done → Repeated (add_line keywords.Eq fields s) (done ++ ended bytes)
  eq_repeats ok word kept none =
      let limits = passed_none s.passed (bounds_of s keywords.Eq fields) none in
      let h : Repeats s.lines s.names s.section done = kept limits.0 in
      next_repeats s.lines (with_eq s.lines l) s.names entry s.section sections.Objects (objects.Eq (length s.lines.eqs)) done (ended bytes) (record {
        order = refl;
        connects = refl;
        none = h.early (begins s keywords.Eq sections.Objects fields refl refl refl refl ok).from;
        before = before;
        called = λ e more. last_text (λ (x : EqLine). x.name) s.lines.eqs e.eqs l more.eqs;
        printed = λ e more. last_text eq_text s.lines.eqs e.eqs l more.eqs ∙ ap line (are limits.1.2.1) ∙ line_printed bytes;
      }) h
    where
      l : EqLine
      l = record { name = name_in fields; log = small_at fields 2 }

      entry : Entry
      entry = record { name = name_in fields; meaning = OfObject (objects.Eq (length s.lines.eqs)) }

      before : (e : Lines) → Extends (with_eq s.lines l) e → Extends s.lines e
      before e = extends_eq s.lines e l

      are : number_at fields 2 ≤ 10 → eq_fields l ≡ fields
      are low =
          let log : decimal (small_at fields 2) ≡ part_at fields 2 = small_printed fields 2 (omega (arith, low)) (part_kept has_number (slots_of keywords.Eq) None fields 1 Number ok.numbered (omega arith) refl) in
          (λ i. sym word i ∷ part_at fields 1 ∷ log i ∷ []) ∙ whole_line is_formed (slots_of keywords.Eq) fields some ok.formed

  pub pd_repeats : Passes s keywords.Pd fields → part_at fields 0 ≡ word_of keywords.Pd → Repeated s done → Repeated (add_line keywords.Pd fields s) (done ++ ended bytes)
  pd_repeats ok word kept none =
      let h : Repeats s.lines s.names s.section done = kept (passed_none s.passed (bounds_of s keywords.Pd fields) none).0 in
      next_repeats s.lines (with_pd s.lines l) s.names entry s.section sections.Objects (objects.Pd (FIRST_PD + length s.lines.pds)) done (ended bytes) (record {
        order = refl;
        connects = refl;
        none = h.early (begins s keywords.Pd sections.Objects fields refl refl refl refl ok).from;
        before = before;
        called = λ e more. last_from (λ (x : PdLine). x.name) FIRST_PD s.lines.pds e.pds l more.pds;
        printed = λ e more. last_from pd_text FIRST_PD s.lines.pds e.pds l more.pds ∙ ap line are ∙ line_printed bytes;
      }) h
    where
      l : PdLine
      l = record { name = name_in fields }

      entry : Entry
      entry = record { name = name_in fields; meaning = OfObject (objects.Pd (FIRST_PD + length s.lines.pds)) }

      before : (e : Lines) → Extends (with_pd s.lines l) e → Extends s.lines e
      before e = extends_pd s.lines e l

      are : pd_fields l ≡ fields
      are = (λ i. sym word i ∷ part_at fields 1 ∷ []) ∙ whole_line is_formed (slots_of keywords.Pd) fields some ok.formed

  pub cq_repeats : Passes s keywords.Cq fields → part_at fields 0 ≡ word_of keywords.Cq → Repeated s done → Repeated (add_line keywords.Cq fields s) (done ++ ended bytes)
  cq_repeats ok word kept none =
      let limits = passed_none s.passed (bounds_of s keywords.Cq fields) none in
      let h : Repeats s.lines s.names s.section done = kept limits.0 in
      next_repeats s.lines (with_cq s.lines l) s.names entry s.section sections.Objects (objects.Cq (length s.lines.cqs)) done (ended bytes) (record {
        order = refl;
        connects = refl;
        none = h.early (begins s keywords.Cq sections.Objects fields refl refl refl refl ok).from;
        before = before;
        called = λ e more. last_text (λ (x : CqLine). x.name) s.lines.cqs e.cqs l more.cqs;
        printed = λ e more. last_text (cq_text e) s.lines.cqs e.cqs l more.cqs ∙ ap line (are e (h.called e (before e more)) limits.1.2.1 limits.1.2.2.1) ∙ line_printed bytes;
      }) h
    where
      l : CqLine
      l = record { name = name_in fields; log = small_at fields 2; ceiling = small_at fields 3; eq = named s kinds.Eq (part_at fields 4); start = number_at fields 5 }

      entry : Entry
      entry = record { name = name_in fields; meaning = OfObject (objects.Cq (length s.lines.cqs)) }

      before : (e : Lines) → Extends (with_cq s.lines l) e → Extends s.lines e
      before e = extends_cq s.lines e l

      are : (e : Lines) → AllCalled e s.names → number_at fields 2 ≤ min (number_at fields 3) 12 → number_at fields 3 ≤ 12 → cq_fields e l ≡ fields
      are e called low high =
          let log = small_printed fields 2 (omega (arith, low)) (part_kept has_number (slots_of keywords.Cq) None fields 1 Number ok.numbered (omega arith) refl) in
          let ceiling = small_printed fields 3 (omega (arith, high)) (part_kept has_number (slots_of keywords.Cq) None fields 2 Number ok.numbered (omega arith) refl) in
          let eq = name_printed e kinds.Eq (part_at fields 4) s.names called (part_kept (is_known s) (slots_of keywords.Cq) None fields 3 (Name kinds.Eq) ok.known (omega arith) refl) in
          let start = number_printed (part_at fields 5) (part_kept has_number (slots_of keywords.Cq) None fields 4 Number ok.numbered (omega arith) refl) in
          (λ i. sym word i ∷ part_at fields 1 ∷ log i ∷ ceiling i ∷ eq i ∷ start i ∷ []) ∙ whole_line is_formed (slots_of keywords.Cq) fields some ok.formed

  pub qp_repeats : Passes s keywords.Qp fields → part_at fields 0 ≡ word_of keywords.Qp → Repeated s done → Repeated (add_line keywords.Qp fields s) (done ++ ended bytes)
  qp_repeats ok word kept none =
      let limits = passed_none s.passed (bounds_of s keywords.Qp fields) none in
      let h : Repeats s.lines s.names s.section done = kept limits.0 in
      next_repeats s.lines (with_qp s.lines l) s.names entry s.section sections.Objects (objects.Qp (FIRST_QP + length s.lines.qps)) done (ended bytes) (record {
        order = refl;
        connects = refl;
        none = h.early (begins s keywords.Qp sections.Objects fields refl refl refl refl ok).from;
        before = before;
        called = λ e more. last_from (λ (x : QpLine). x.name) FIRST_QP s.lines.qps e.qps l more.qps;
        printed = λ e more. last_from (qp_text e) FIRST_QP s.lines.qps e.qps l more.qps ∙ ap line (are e (h.called e (before e more)) limits.1.2.1 limits.1.2.2.1 limits.1.2.2.2.1) ∙ line_printed bytes;
      }) h
    where
      l : QpLine
      l = record {
        name = name_in fields;
        pd = named s kinds.Pd (part_at fields 2);
        send_cq = cq_named s (part_at fields 3);
        recv_cq = cq_named s (part_at fields 4);
        send_log = small_at fields 5;
        recv_log = small (recv_log_at fields);
        segments = small_at fields 7;
        start = number_at fields 8;
      }

      entry : Entry
      entry = record { name = name_in fields; meaning = OfObject (objects.Qp (FIRST_QP + length s.lines.qps)) }

      before : (e : Lines) → Extends (with_qp s.lines l) e → Extends s.lines e
      before e = extends_qp s.lines e l

      are : (e : Lines) → AllCalled e s.names → number_at fields 5 ≤ 8 → recv_log_at fields ≤ 8 → number_at fields 7 ≤ 8 → qp_fields e l ≡ fields
      are e called send recv most =
          let pd = name_printed e kinds.Pd (part_at fields 2) s.names called (part_kept (is_known s) (slots_of keywords.Qp) None fields 1 (Name kinds.Pd) ok.known (omega arith) refl) in
          let send_cq = name_printed e kinds.Cq (part_at fields 3) s.names called (part_kept (is_known s) (slots_of keywords.Qp) None fields 2 (Name kinds.Cq) ok.known (omega arith) refl) in
          let recv_cq = name_printed e kinds.Cq (part_at fields 4) s.names called (part_kept (is_known s) (slots_of keywords.Qp) None fields 3 (Name kinds.Cq) ok.known (omega arith) refl) in
          let send_log = small_printed fields 5 (omega (arith, send)) (part_kept has_number (slots_of keywords.Qp) None fields 4 Number ok.numbered (omega arith) refl) in
          let formed = and_parts _ _ (part_kept is_formed (slots_of keywords.Qp) None fields 5 RecvLog ok.formed (omega arith) refl) in
          let log : codes "rq:" ++ decimal (small (recv_log_at fields)) ≡ part_at fields 6 =
          ap (λ n. codes "rq:" ++ decimal n) (small_is (recv_log_at fields) (omega (arith, recv)))
          ∙ recv_log_printed (part_at fields 6) formed.0 (part_kept has_number (slots_of keywords.Qp) None fields 5 RecvLog ok.numbered (omega arith) refl)
          in
          let segments = small_printed fields 7 (omega (arith, most)) (part_kept has_number (slots_of keywords.Qp) None fields 6 Number ok.numbered (omega arith) refl) in
          let start = number_printed (part_at fields 8) (part_kept has_number (slots_of keywords.Qp) None fields 7 Number ok.numbered (omega arith) refl) in
          (λ i. sym word i ∷ part_at fields 1 ∷ pd i ∷ send_cq i ∷ recv_cq i ∷ send_log i ∷ log i ∷ segments i ∷ start i ∷ [])
          ∙ whole_line is_formed (slots_of keywords.Qp) fields some ok.formed

  pub connect_repeats : Passes s keywords.Connect fields → part_at fields 0 ≡ word_of keywords.Connect → Repeated s done → Repeated (add_line keywords.Connect fields s) (done ++ ended bytes)
  connect_repeats ok word kept none = record {
    called = λ e more. h.called e (before e more);
    printed = λ e more.
        ap (λ xs. flat_map (object_text e) s.lines.order ++ xs) (flat_map-append (connect_text e) s.lines.connects (l ∷ []))
        ∙ sym (append_assoc (flat_map (object_text e) s.lines.order) (flat_map (connect_text e) s.lines.connects) (flat_map (connect_text e) (l ∷ [])))
        ∙ ap₂ (λ xs ys. xs ++ ys) (h.printed e (before e more))
        (flat_map-cons (connect_text e) l [] ∙ append-nil (connect_text e l) ∙ ap line (are e (h.called e (before e more))) ∙ line_printed bytes);
    early = λ soon. absurd (omega (arith, soon));
  }
    where
      l : Connect
      l = record { a = qp_named s (part_at fields 1); b = qp_named s (part_at fields 2) }

      h : Repeats s.lines s.names s.section done
      h = kept (passed_none s.passed (bounds_of s keywords.Connect fields) none).0

      before : (e : Lines) → Extends (with_connect s.lines l) e → Extends s.lines e
      before e = extends_connect s.lines e l

      are : (e : Lines) → AllCalled e s.names → connect_fields e l ≡ fields
      are e called =
          let a = name_printed e kinds.Qp (part_at fields 1) s.names called (part_kept (is_known s) (slots_of keywords.Connect) None fields 0 Pair ok.known (omega arith) refl) in
          let b = name_printed e kinds.Qp (part_at fields 2) s.names called (part_kept (is_known s) (slots_of keywords.Connect) None fields 1 Pair ok.known (omega arith) refl) in
          (λ i. sym word i ∷ a i ∷ b i ∷ []) ∙ whole_line is_formed (slots_of keywords.Connect) fields some ok.formed
