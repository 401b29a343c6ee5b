-- Each line that declares an object or connects queue pairs keeps what holds.
use Rattle.std.proofs.Common.{◌≡◌, ℕ, ◌+◌, ◌-◌, ◌^◌, ◌≤◌, min, false, List, [], ◌∷◌, ◌++◌, length, IsTrue, None, refl, ap, ◌∙◌, arith}
use Rattle.std.proofs.lemmas.Bool.{and_from, le-leb}
use Rattle.std.proofs.lemmas.List.{length_push}
use Rattle.verbs_types.specs.Lines.{is_between, is_cq_line, is_qp_line}
use Rattle.verbs_types.specs.declared.declaration.Connect.{Connect}
use Rattle.verbs_types.specs.declared.declaration.CqLine.{CqLine}
use Rattle.verbs_types.specs.declared.declaration.EqLine.{EqLine}
use Rattle.verbs_types.specs.declared.declaration.Object.TheVariants as objects
use Rattle.verbs_types.specs.declared.declaration.PdLine.{PdLine}
use Rattle.verbs_types.specs.declared.declaration.QpLine.{QpLine}
use Rattle.verbs_types.specs.declared.declaration.TheConstants.{FIRST_PD, FIRST_QP}
use Rattle.scenario_text.specs.Text.{name_in, small, small_at}
use Rattle.scenario_text.specs.AfterObjects.{change, connected, add_eq, add_pd, add_cq, add_qp, add_connect}
use Rattle.scenario_text.specs.Bounds.{size_of, recv_log_at}
use Rattle.scenario_text.specs.Naming.{Entry}
use Rattle.scenario_text.specs.Uses.{named, qp_named, cq_named}
use Rattle.scenario_text.specs.Sofar.{Said}
use Rattle.scenario_text.specs.Text.{Line, part_at, number_at}
use Rattle.scenario_text.specs.declared.names.Meaning.{Meaning}
use Rattle.scenario_text.specs.declared.names.Meaning.TheVariants.{Object}
use Rattle.scenario_text.specs.declared.slot.Kind.TheVariants as kinds
use Rattle.scenario_text.specs.declared.sofar.PairUse.{PairUse}
use Rattle.scenario_text.specs.declared.sofar.Place.TheVariants.{Outside}
use Rattle.scenario_text.specs.declared.sofar.QueueUse.{QueueUse}
use Rattle.scenario_text.proofs.Declaring.{with_eq, with_pd, with_cq, with_qp, with_connect, more_eq, more_pd, more_cq, more_qp, more_connect}
use Rattle.scenario_text.proofs.Filling.{filled_cq, filled_qps}
use Rattle.scenario_text.proofs.Growing.{among_push, length_change}
use Rattle.scenario_text.proofs.Meanings.{all_there_more, all_there_push}
use Rattle.scenario_text.proofs.ObjectLines.{IsObjectLine, object_stands, filled_early}
use Rattle.scenario_text.proofs.Objects.{declared_eq, declared_pd, declared_cq, declared_qp, declared_connect}
use Rattle.scenario_text.proofs.Standing.{AreFilled, IsNumber, Stands, shown}

-- a name is given to what comes next
abbrev given : Line → Meaning → Entry
given line meaning = record { name = name_in line; meaning = meaning }

between : (least most n : ℕ) → least ≤ n → n ≤ most → IsTrue (is_between least most n)
between least most n low high = and_from _ _ (le-leb least n low) (le-leb n most high)

module _ (line : Line) (s : Said) (outside : s.place ≡ Outside) (none : shown s ≡ []) (h : Stands s) where
  filled : AreFilled s.lines s.queues []
  filled = filled_early s none h

  pub eq_stands : length s.lines.eqs + 1 ≤ 8 → 1 ≤ number_at line 2 → number_at line 2 ≤ 10 → Stands (add_eq line s)
  eq_stands few low high = object_stands s (with_eq s.lines l) (s.names ++ given line (Object (objects.Eq (length s.lines.eqs))) ∷ []) s.pairs s.queues o h
    where
      l : EqLine
      l = record { name = name_in line; log = small_at line 2 }

      o : IsObjectLine s (with_eq s.lines l) (s.names ++ given line (Object (objects.Eq (length s.lines.eqs))) ∷ []) s.pairs s.queues
      o = record {
        outside = outside;
        none = none;
        threads = refl;
        declared = declared_eq s.lines h.declared l few (between 1 10 (small_at line 2) (omega (arith, low)) (omega (arith, high)));
        named = all_there_push s.lines (with_eq s.lines l) (more_eq s.lines l) s.names _ (among_push 0 (length s.lines.eqs) s.lines.eqs l (omega arith)) h.named;
        pairs_counted = h.pairs;
        queues_counted = h.queues;
        filled = filled;
      }

  pub pd_stands : length s.lines.pds + 1 ≤ 64 → Stands (add_pd line s)
  pd_stands few = object_stands s (with_pd s.lines l) (s.names ++ given line (Object (objects.Pd (FIRST_PD + length s.lines.pds))) ∷ []) s.pairs s.queues o h
    where
      l : PdLine
      l = record { name = name_in line }

      o : IsObjectLine s (with_pd s.lines l) (s.names ++ given line (Object (objects.Pd (FIRST_PD + length s.lines.pds))) ∷ []) s.pairs s.queues
      o = record {
        outside = outside;
        none = none;
        threads = refl;
        declared = declared_pd s.lines h.declared l few;
        named = all_there_push s.lines (with_pd s.lines l) (more_pd s.lines l) s.names _ (among_push FIRST_PD (FIRST_PD + length s.lines.pds) s.lines.pds l refl) h.named;
        pairs_counted = h.pairs;
        queues_counted = h.queues;
        filled = filled;
      }

-- the fields of a `cq` line
pub record IsCqText (s : Said) (line : Line) : Type 0 where
  pub few : length s.lines.cqs + 1 ≤ 32
  pub some : 1 ≤ number_at line 2
  pub log : number_at line 2 ≤ min (number_at line 3) 12
  pub low : 1 ≤ number_at line 3
  pub ceiling : number_at line 3 ≤ 12
  pub eq : IsNumber s.lines kinds.Eq (named s kinds.Eq (part_at line 4))
  pub start : number_at line 5 ≤ 2 ^ 32

-- the fields of a `qp` line
pub record IsQpText (s : Said) (line : Line) : Type 0 where
  pub few : length s.lines.qps + 1 ≤ 64
  pub pd : IsNumber s.lines kinds.Pd (named s kinds.Pd (part_at line 2))
  pub send_cq : IsNumber s.lines kinds.Cq (cq_named s (part_at line 3))
  pub recv_cq : IsNumber s.lines kinds.Cq (cq_named s (part_at line 4))
  pub send_log : number_at line 5 ≤ 8
  pub recv_log : recv_log_at line ≤ 8
  pub some : 1 ≤ number_at line 7
  pub segments : number_at line 7 ≤ 8
  pub start : number_at line 8 ≤ 2 ^ 32

module _ (line : Line) (s : Said) (outside : s.place ≡ Outside) (none : shown s ≡ []) (h : Stands s) where
  pub cq_stands : IsCqText s line → Stands (add_cq line s)
  cq_stands t = object_stands s (with_cq s.lines l) (s.names ++ given line (Object (objects.Cq (length s.lines.cqs))) ∷ []) s.pairs (s.queues ++ used ∷ []) o h
    where
      l : CqLine
      l = record { name = name_in line; log = small_at line 2; ceiling = small_at line 3; eq = named s kinds.Eq (part_at line 4); start = number_at line 5 }

      used : QueueUse
      used = record { poller = None; room = size_of (number_at line 2) }

      right : IsTrue (is_cq_line s.lines l)
      right =
          let ceiling = between 1 12 (small_at line 3) (omega (arith, t.low)) (omega (arith, t.ceiling)) in
          let log = between 1 (small_at line 3) (small_at line 2) (omega (arith, t.some)) (omega (arith, t.log, t.ceiling)) in
          and_from _ _ (and_from _ _ (and_from _ _ ceiling log) t.eq) (le-leb (number_at line 5) (2 ^ 32) t.start)

      size : min (number_at line 2) 63 ≡ small_at line 2
      size = omega (arith, t.log)

      o : IsObjectLine s (with_cq s.lines l) (s.names ++ given line (Object (objects.Cq (length s.lines.cqs))) ∷ []) s.pairs (s.queues ++ used ∷ [])
      o = record {
        outside = outside;
        none = none;
        threads = refl;
        declared = declared_cq s.lines h.declared l t.few right;
        named = all_there_push s.lines (with_cq s.lines l) (more_cq s.lines l) s.names _ (among_push 0 (length s.lines.cqs) s.lines.cqs l (omega arith)) h.named;
        pairs_counted = h.pairs;
        queues_counted = omega (arith, h.queues, length_push s.lines.cqs l, length_push s.queues used);
        filled = filled_cq s.lines s.queues l used h.queues (ap (λ n. 2 ^ n) size) (filled_early s none h);
      }

  pub qp_stands : IsQpText s line → Stands (add_qp line s)
  qp_stands t = object_stands s (with_qp s.lines l) (s.names ++ given line (Object (objects.Qp (FIRST_QP + length s.lines.qps))) ∷ []) (s.pairs ++ used ∷ []) s.queues o h
    where
      l : QpLine
      l = record {
        name = name_in line;
        pd = named s kinds.Pd (part_at line 2);
        send_cq = cq_named s (part_at line 3);
        recv_cq = cq_named s (part_at line 4);
        send_log = small_at line 5;
        recv_log = small (recv_log_at line);
        segments = small_at line 7;
        start = number_at line 8;
      }

      used : PairUse
      used = record { connected = false; poster = None; receiver = None }

      right : IsTrue (is_qp_line s.lines l)
      right =
          let names = and_from _ _ (and_from _ _ t.pd t.send_cq) t.recv_cq in
          let send = le-leb (small_at line 5) 8 (omega (arith, t.send_log)) in
          let recv = le-leb (small (recv_log_at line)) 8 (omega (arith, t.recv_log)) in
          let segments = between 1 8 (small_at line 7) (omega (arith, t.some)) (omega (arith, t.segments)) in
          and_from _ _ (and_from _ _ (and_from _ _ (and_from _ _ names send) recv) segments) (le-leb (number_at line 8) (2 ^ 32) t.start)

      o : IsObjectLine s (with_qp s.lines l) (s.names ++ given line (Object (objects.Qp (FIRST_QP + length s.lines.qps))) ∷ []) (s.pairs ++ used ∷ []) s.queues
      o = record {
        outside = outside;
        none = none;
        threads = refl;
        declared = declared_qp s.lines h.declared l t.few right;
        named = all_there_push s.lines (with_qp s.lines l) (more_qp s.lines l) s.names _ (among_push FIRST_QP (FIRST_QP + length s.lines.qps) s.lines.qps l refl) h.named;
        pairs_counted = omega (arith, h.pairs, length_push s.lines.qps l, length_push s.pairs used);
        queues_counted = h.queues;
        filled = filled_qps s.lines s.queues (s.lines.qps ++ l ∷ []) (filled_early s none h);
      }

  pub connect_stands : IsNumber s.lines kinds.Qp (qp_named s (part_at line 1)) → IsNumber s.lines kinds.Qp (qp_named s (part_at line 2)) → Stands (add_connect line s)
  connect_stands a b = object_stands s (with_connect s.lines l) s.names pairs s.queues o h
    where
      l : Connect
      l = record { a = qp_named s (part_at line 1); b = qp_named s (part_at line 2) }

      pairs : List PairUse
      pairs = change connected (change connected s.pairs (l.a - FIRST_QP)) (l.b - FIRST_QP)

      unused : PairUse
      unused = record { connected = false; poster = None; receiver = None }

      o : IsObjectLine s (with_connect s.lines l) s.names pairs s.queues
      o = record {
        outside = outside;
        none = none;
        threads = refl;
        declared = declared_connect s.lines h.declared l (and_from _ _ a b);
        named = all_there_more s.lines (with_connect s.lines l) (more_connect s.lines l) s.names h.named;
        pairs_counted = length_change connected unused (change connected s.pairs (l.a - FIRST_QP)) (l.b - FIRST_QP) ∙ length_change connected unused s.pairs (l.a - FIRST_QP) ∙ h.pairs;
        queues_counted = h.queues;
        filled = filled_early s none h;
      }
