-- The texts of declaration and connect lines.
use Rattle.std.specs.Prelude.{ℕ, ◌-◌, List, [], ◌∷◌, ◌++◌, codes, decimal, slice_get}
use Rattle.std.specs.Option.{option_map_or}
use Rattle.std.specs.List.{flat_map}
use Rattle.verbs_types.specs.declared.declaration.EqLine.{EqLine}
use Rattle.verbs_types.specs.declared.declaration.PdLine.{PdLine}
use Rattle.verbs_types.specs.declared.declaration.CqLine.{CqLine}
use Rattle.verbs_types.specs.declared.declaration.QpLine.{QpLine}
use Rattle.verbs_types.specs.declared.declaration.Connect.{Connect}
use Rattle.verbs_types.specs.declared.declaration.Object.{Object}
use Rattle.verbs_types.specs.declared.declaration.Object.TheVariants.{Eq, Pd, Cq, Qp}
use Rattle.verbs_types.specs.declared.declaration.Lines.{Lines}
use Rattle.verbs_types.specs.declared.declaration.TheConstants.{FIRST_PD, FIRST_QP}
use Rattle.scenario_text.specs.Requests.{line}

-- the text of the item at this place, or nothing past the end
abbrev pub text_at : {X : Type 0} → (X → List ℕ) → List X → ℕ → List ℕ
text_at text xs n = option_map_or text (slice_get xs n) []

-- the name of each object by its number
abbrev pub eq_name : Lines → ℕ → List ℕ
eq_name d n = text_at (λ (l : EqLine). l.name) d.eqs n

abbrev pub pd_name : Lines → ℕ → List ℕ
pd_name d n = text_at (λ (l : PdLine). l.name) d.pds (n - FIRST_PD)

abbrev pub cq_name : Lines → ℕ → List ℕ
cq_name d n = text_at (λ (l : CqLine). l.name) d.cqs n

abbrev pub qp_name : Lines → ℕ → List ℕ
qp_name d n = text_at (λ (l : QpLine). l.name) d.qps (n - FIRST_QP)

abbrev pub eq_fields : EqLine → List (List ℕ)
eq_fields l = codes "eq" ∷ l.name ∷ decimal l.log ∷ []

abbrev pub pd_fields : PdLine → List (List ℕ)
pd_fields l = codes "pd" ∷ l.name ∷ []

abbrev pub cq_fields : Lines → CqLine → List (List ℕ)
cq_fields d l = codes "cq" ∷ l.name ∷ decimal l.log ∷ decimal l.ceiling ∷ eq_name d l.eq ∷ decimal l.start ∷ []

abbrev pub qp_fields : Lines → QpLine → List (List ℕ)
qp_fields d l =
    codes "qp" ∷ l.name ∷ pd_name d l.pd ∷ cq_name d l.send_cq ∷ cq_name d l.recv_cq ∷ decimal l.send_log ∷ (codes "rq:" ++ decimal l.recv_log)
    ∷ decimal l.segments
    ∷ decimal l.start
    ∷ []

abbrev pub connect_fields : Lines → Connect → List (List ℕ)
connect_fields d c = codes "connect" ∷ qp_name d c.a ∷ qp_name d c.b ∷ []

abbrev pub eq_text : EqLine → List ℕ
eq_text l = line (eq_fields l)

abbrev pub pd_text : PdLine → List ℕ
pd_text l = line (pd_fields l)

abbrev pub cq_text : Lines → CqLine → List ℕ
cq_text d l = line (cq_fields d l)

abbrev pub qp_text : Lines → QpLine → List ℕ
qp_text d l = line (qp_fields d l)

abbrev pub connect_text : Lines → Connect → List ℕ
connect_text d c = line (connect_fields d c)

abbrev pub object_text : Lines → Object → List ℕ
object_text d (Eq n) = text_at eq_text d.eqs n
object_text d (Pd n) = text_at pd_text d.pds (n - FIRST_PD)
object_text d (Cq n) = text_at (cq_text d) d.cqs n
object_text d (Qp n) = text_at (qp_text d) d.qps (n - FIRST_QP)

-- the declarations in their order, then the connect lines
abbrev pub head_text : Lines → List ℕ
head_text d = flat_map (object_text d) d.order ++ flat_map (connect_text d) d.connects
