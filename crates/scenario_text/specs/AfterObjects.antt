-- What a line of an object or of a connection adds.
use Rattle.std.specs.Prelude.{ℕ, zero, suc, ◌+◌, ◌-◌, List, [], ◌∷◌, ◌++◌, length, None, true, false}
use Rattle.verbs_types.specs.declared.declaration.Object.{Object as TheObject}
use Rattle.verbs_types.specs.declared.declaration.Object.TheVariants as objects
use Rattle.verbs_types.specs.declared.declaration.TheConstants.{FIRST_PD, FIRST_QP}
use Rattle.scenario_text.specs.Text.{Line, part_at, number_at, small, small_at, name_in}
use Rattle.scenario_text.specs.Sofar.{Said}
use Rattle.scenario_text.specs.Uses.{named, qp_named, cq_named}
use Rattle.scenario_text.specs.Bounds.{recv_log_at, size_of}
use Rattle.scenario_text.specs.declared.names.Meaning.{Meaning}
use Rattle.scenario_text.specs.declared.names.Meaning.TheVariants.{Object}
use Rattle.scenario_text.specs.declared.slot.Kind.TheVariants as kinds
use Rattle.scenario_text.specs.declared.sofar.PairUse.{PairUse}

-- the name in the line stands for this from here on
abbrev pub give : Line → Meaning → Said → Said
give line meaning s = record s { names = s.names ++ record { name = name_in line; meaning = meaning } ∷ [] }

-- and it is the next object
abbrev pub declare : Line → TheObject → Said → Said
declare line object s =
    let named = give line (Object object) s in
    record named { lines = record named.lines { order = named.lines.order ++ object ∷ [] } }

abbrev pub add_eq : Line → Said → Said
add_eq line s =
    let d = declare line (objects.Eq (length s.lines.eqs)) s in
    record d { lines = record d.lines { eqs = s.lines.eqs ++ record { name = name_in line; log = small_at line 2 } ∷ [] } }

abbrev pub add_pd : Line → Said → Said
add_pd line s =
    let d = declare line (objects.Pd (FIRST_PD + length s.lines.pds)) s in
    record d { lines = record d.lines { pds = s.lines.pds ++ record { name = name_in line } ∷ [] } }

abbrev pub add_cq : Line → Said → Said
add_cq line s =
    let d = declare line (objects.Cq (length s.lines.cqs)) s in
    record d {
      lines = record d.lines {
        cqs = s.lines.cqs ++ record {
          name = name_in line;
          log = small_at line 2;
          ceiling = small_at line 3;
          eq = named s kinds.Eq (part_at line 4);
          start = number_at line 5;
        } ∷ [];
      };
      queues = s.queues ++ record { poller = None; room = size_of (number_at line 2) } ∷ [];
    }

abbrev pub add_qp : Line → Said → Said
add_qp line s =
    let d = declare line (objects.Qp (FIRST_QP + length s.lines.qps)) s in
    record d {
      lines = record d.lines {
        qps = s.lines.qps ++ record {
          name = name_in line;
          pd = named s kinds.Pd (part_at line 2);
          send_cq = cq_named s (part_at line 3);
          recv_cq = cq_named s (part_at line 4);
          send_log = small_at line 5;
          recv_log = small (recv_log_at line);
          segments = small_at line 7;
          start = number_at line 8;
        } ∷ [];
      };
      pairs = s.pairs ++ record { connected = false; poster = None; receiver = None } ∷ [];
    }

-- an item that is there has been changed
abbrev pub change : {X : Type 0} → (X → X) → List X → ℕ → List X
change by [] n = []
change by (x ∷ xs) zero = by x ∷ xs
change by (x ∷ xs) (suc n) = x ∷ change by xs n

abbrev pub connected : PairUse → PairUse
connected used = record used { connected = true }

abbrev pub connect : ℕ → Said → Said
connect qp s = record s { pairs = change connected s.pairs (qp - FIRST_QP) }

abbrev pub add_connect : Line → Said → Said
add_connect line s =
    let a = qp_named s (part_at line 1) in
    let b = qp_named s (part_at line 2) in
    let c = connect b (connect a s) in
    record c { lines = record c.lines { connects = s.lines.connects ++ record { a = a; b = b } ∷ [] } }
