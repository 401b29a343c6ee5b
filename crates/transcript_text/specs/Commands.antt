-- The texts of commands and their answers, field by field.
use Rattle.std.specs.Prelude.{ℕ, Bool, ◌||◌, List, [], ◌∷◌, ◌++◌, codes, decimal, Option, None, Some}
use Rattle.verbs_types.specs.declared.command.PageUse.{PageUse}
use Rattle.verbs_types.specs.declared.command.PageUse.TheVariants.{Boot, Init as InitPages}
use Rattle.verbs_types.specs.declared.command.Rights.{Rights}
use Rattle.verbs_types.specs.declared.command.Region.{Region}
use Rattle.verbs_types.specs.declared.command.HistoryCommand.{HistoryCommand}
use Rattle.verbs_types.specs.declared.command.HistoryCommand.TheVariants.{Enable, Disable, QueryPages, GivePages, ReturnPages, Init, Teardown, Make, AllocUar, MakeKey, DestroyKey, RstToInit, InitToRtr, RtrToRts, ToErr, Modify, Destroy, DeallocUar}
use Rattle.verbs_types.specs.declared.command.Answer.{Answer}
use Rattle.verbs_types.specs.declared.command.Answer.TheVariants.{Status, Delivery}
use Rattle.verbs_types.specs.declared.declaration.Object.{Object}
use Rattle.verbs_types.specs.declared.declaration.Object.TheVariants.{Eq, Pd, Cq, Qp}
use Rattle.verbs_types.specs.declared.declaration.Lines.{Lines}
use Rattle.scenario_text.specs.Heads.{eq_name, pd_name, cq_name, qp_name}
use Rattle.scenario_text.specs.Requests.{hex, letter, or_dash}

abbrev pub object_name : Lines → Object → List ℕ
object_name d (Eq n) = eq_name d n
object_name d (Pd n) = pd_name d n
object_name d (Cq n) = cq_name d n
object_name d (Qp n) = qp_name d n

abbrev pub pages_name : PageUse → List ℕ
pages_name Boot = codes "boot"
pages_name InitPages = codes "init"

-- `l` and `w` this side reads and writes, `r` and `x` the other side reads and writes, `a` atomics
abbrev pub rights_text : Rights → List ℕ
rights_text r = or_dash (letter r.local_read 108 ++ letter r.local_write 119 ++ letter r.remote_read 114 ++ letter r.remote_write 120 ++ letter r.atomic 97)

-- there is a right
abbrev pub permits : Rights → Bool
permits r = r.local_read || r.local_write || r.remote_read || r.remote_write || r.atomic

-- the fields of the line that names the region, after its first
abbrev pub region_fields : Lines → Region → List (List ℕ)
region_fields d r = r.name ∷ pd_name d r.pd ∷ decimal r.start ∷ decimal r.len ∷ rights_text r.rights ∷ hex 2 r.variant ∷ []

-- a key that was made, or a dash for none
abbrev pub made_key_text : Option ℕ → List ℕ
made_key_text None = codes "-"
made_key_text (Some key) = hex 8 key

abbrev pub command_fields : Lines → HistoryCommand → List (List ℕ)
command_fields d Enable = codes "enable" ∷ []
command_fields d Disable = codes "disable" ∷ []
command_fields d (QueryPages pages) = codes "pages" ∷ pages_name pages ∷ []
command_fields d (GivePages count) = codes "give" ∷ decimal count ∷ []
command_fields d (ReturnPages count) = codes "return" ∷ decimal count ∷ []
command_fields d Init = codes "init" ∷ []
command_fields d Teardown = codes "teardown" ∷ []
command_fields d (Make object) = codes "make" ∷ object_name d object ∷ []
command_fields d (AllocUar page) = codes "uar" ∷ decimal page ∷ []
command_fields d (MakeKey region key) = codes "key" ∷ region_fields d region ++ made_key_text key ∷ []
command_fields d (DestroyKey key) = codes "dropkey" ∷ hex 8 key ∷ []
command_fields d (RstToInit qp) = codes "rst2init" ∷ qp_name d qp ∷ []
command_fields d (InitToRtr qp peer) = codes "init2rtr" ∷ qp_name d qp ∷ qp_name d peer ∷ []
command_fields d (RtrToRts qp) = codes "rtr2rts" ∷ qp_name d qp ∷ []
command_fields d (ToErr qp) = codes "err" ∷ qp_name d qp ∷ []
command_fields d (Modify cq log) = codes "modify" ∷ cq_name d cq ∷ decimal log ∷ []
command_fields d (Destroy object) = codes "drop" ∷ object_name d object ∷ []
command_fields d (DeallocUar page) = codes "dropuar" ∷ decimal page ∷ []

abbrev pub answer_fields : Answer → List (List ℕ)
answer_fields (Status status) = decimal status ∷ []
answer_fields (Delivery status) = codes "delivery" ∷ decimal status ∷ []
