-- Commands as the bytes of their input.
use Rattle.std.specs.Prelude.{◌≡◌, ℕ, zero, suc, ◌+◌, ◌*◌, ◌≤◌, nat_le, nat_lt, Bool, true, ◌&&◌, ◌||◌, ◌==◌, cond, IsTrue, List, [], ◌∷◌, length, drop, slice_index, Option, Some, None, is_some}
use Rattle.prm_fields.specs.Bits.{field_value}
use Rattle.prm_fields.specs.Layout.{is_reserved_clear}
use Rattle.prm_fields.specs.Refusal.{Rule, rule}
use Rattle.prm_fields.specs.declared.layout.LayoutName.TheVariants.{CqContext as CqLayout, EqBlock as EqLayout, MkeyContext as MkeyLayout, QpBlock as QpLayout, SrqBlock as SrqLayout}
use Rattle.cmd_bodies.specs.declared.kind.Kind.{Kind}
use Rattle.cmd_bodies.specs.declared.kind.Kind.TheVariants.{EnableHca as EnableHcaRow, DisableHca as DisableHcaRow, InitHca as InitHcaRow, TeardownHca as TeardownHcaRow, QueryBootPages, QueryInitPages, GivePages as GivePagesRow, ReturnPages as ReturnPagesRow, AllocPd as AllocPdRow, DeallocPd as DeallocPdRow, AllocUar as AllocUarRow, DeallocUar as DeallocUarRow, CreateMkey as CreateMkeyRow, DestroyMkey as DestroyMkeyRow, CreateEq as CreateEqRow, DestroyEq as DestroyEqRow, CreateCq as CreateCqRow, DestroyCq as DestroyCqRow, ModifyCq as ModifyCqRow, CreateSrq as CreateSrqRow, DestroySrq as DestroySrqRow, CreateQp as CreateQpRow, DestroyQp as DestroyQpRow, RstToInit as RstToInitRow, InitToRtr as InitToRtrRow, RtrToRts as RtrToRtsRow, ToErr as ToErrRow}
use Rattle.cmd_bodies.specs.declared.command.PageUse.TheVariants.{Boot, Init}
use Rattle.cmd_bodies.specs.declared.command.PageList.{PageList}
use Rattle.cmd_bodies.specs.declared.command.Command.{Command}
use Rattle.cmd_bodies.specs.declared.command.Command.TheVariants.{EnableHca, DisableHca, InitHca, TeardownHca, QueryPages, GivePages, ReturnPages, AllocPd, DeallocPd, AllocUar, DeallocUar, CreateMkey, DestroyMkey, CreateEq, DestroyEq, CreateCq, DestroyCq, ModifyCq, CreateSrq, DestroySrq, CreateQp, DestroyQp, RstToInit, InitToRtr, RtrToRts, ToErr}
use Rattle.cmd_bodies.specs.declared.decoder.BodyFault.{BodyFault}
use Rattle.cmd_bodies.specs.declared.decoder.BodyFault.TheVariants.{BadOpcode, InputLength, OutputLength, Reserved}
use Rattle.cmd_bodies.specs.Kind.{command_row, kind_of_code}
use Rattle.cmd_bodies.specs.Contexts.{FitsCq, FitsMkey, mkey_at, cq_at, eq_at, srq_at, qp_at}

-- the row of a command
abbrev pub kind_of : Command → Kind
kind_of EnableHca = EnableHcaRow
kind_of DisableHca = DisableHcaRow
kind_of InitHca = InitHcaRow
kind_of TeardownHca = TeardownHcaRow
kind_of (QueryPages Boot) = QueryBootPages
kind_of (QueryPages Init) = QueryInitPages
kind_of (GivePages list) = GivePagesRow
kind_of (ReturnPages count) = ReturnPagesRow
kind_of AllocPd = AllocPdRow
kind_of (DeallocPd pd) = DeallocPdRow
kind_of AllocUar = AllocUarRow
kind_of (DeallocUar page) = DeallocUarRow
kind_of (CreateMkey context) = CreateMkeyRow
kind_of (DestroyMkey key) = DestroyMkeyRow
kind_of (CreateEq context) = CreateEqRow
kind_of (DestroyEq eq) = DestroyEqRow
kind_of (CreateCq context) = CreateCqRow
kind_of (DestroyCq cq) = DestroyCqRow
kind_of (ModifyCq cq area context) = ModifyCqRow
kind_of (CreateSrq context) = CreateSrqRow
kind_of (DestroySrq srq) = DestroySrqRow
kind_of (CreateQp context) = CreateQpRow
kind_of (DestroyQp qp) = DestroyQpRow
kind_of (RstToInit qp) = RstToInitRow
kind_of (InitToRtr qp peer) = InitToRtrRow
kind_of (RtrToRts qp) = RtrToRtsRow
kind_of (ToErr qp) = ToErrRow

-- the number at byte 8 of its input
abbrev pub number_of : Command → ℕ
number_of (DeallocPd pd) = pd
number_of (DeallocUar page) = page
number_of (DestroyMkey key) = key
number_of (DestroyEq eq) = eq
number_of (DestroyCq cq) = cq
number_of (ModifyCq cq area context) = cq
number_of (DestroySrq srq) = srq
number_of (DestroyQp qp) = qp
number_of (RstToInit qp) = qp
number_of (InitToRtr qp peer) = qp
number_of (RtrToRts qp) = qp
number_of (ToErr qp) = qp
number_of _ = 0

-- the number at byte 12 of its input
abbrev pub second_of : Command → ℕ
second_of (GivePages list) = list.count
second_of (ReturnPages count) = count
second_of (ModifyCq cq area context) = area
second_of (InitToRtr qp peer) = peer
second_of _ = 0

-- how many bytes of input and output a row has, where the number at byte 12 is known
abbrev pub input_length : Kind → ℕ → ℕ
input_length GivePagesRow count = 16 + 8 * count
input_length kind _ = (command_row kind).in_len

abbrev pub output_length : Kind → ℕ → ℕ
output_length ReturnPagesRow count = 16 + 8 * count
output_length kind _ = (command_row kind).out_len

abbrev pub input_length_of : Command → ℕ
input_length_of c = input_length (kind_of c) (second_of c)

abbrev pub output_length_of : Command → ℕ
output_length_of c = output_length (kind_of c) (second_of c)

-- 88 numbers from number k on: the words of a byte string below n, and then 0
unfoldable pub words_from : List ℕ → ℕ → ℕ → ℕ → List ℕ
words_from bytes n k zero = []
words_from bytes n k (suc more) = cond (nat_lt k n) (field_value bytes (64 * k) 64) 0 ∷ words_from bytes n (k + 1) more

abbrev pub page_list_at : ℕ → List ℕ → PageList
page_list_at count bytes = record { count = count; pages = words_from bytes count 0 88 }

-- the command of a row with these two numbers and these parameters
abbrev pub command_with : Kind → ℕ → ℕ → List ℕ → Command
command_with EnableHcaRow number second parameters = EnableHca
command_with DisableHcaRow number second parameters = DisableHca
command_with InitHcaRow number second parameters = InitHca
command_with TeardownHcaRow number second parameters = TeardownHca
command_with QueryBootPages number second parameters = QueryPages Boot
command_with QueryInitPages number second parameters = QueryPages Init
command_with GivePagesRow number second parameters = GivePages (page_list_at second parameters)
command_with ReturnPagesRow number second parameters = ReturnPages second
command_with AllocPdRow number second parameters = AllocPd
command_with DeallocPdRow number second parameters = DeallocPd number
command_with AllocUarRow number second parameters = AllocUar
command_with DeallocUarRow number second parameters = DeallocUar number
command_with CreateMkeyRow number second parameters = CreateMkey (mkey_at parameters)
command_with DestroyMkeyRow number second parameters = DestroyMkey number
command_with CreateEqRow number second parameters = CreateEq (eq_at parameters)
command_with DestroyEqRow number second parameters = DestroyEq number
command_with CreateCqRow number second parameters = CreateCq (cq_at parameters)
command_with DestroyCqRow number second parameters = DestroyCq number
command_with ModifyCqRow number second parameters = ModifyCq number second (cq_at parameters)
command_with CreateSrqRow number second parameters = CreateSrq (srq_at parameters)
command_with DestroySrqRow number second parameters = DestroySrq number
command_with CreateQpRow number second parameters = CreateQp (qp_at parameters)
command_with DestroyQpRow number second parameters = DestroyQp number
command_with RstToInitRow number second parameters = RstToInit number
command_with InitToRtrRow number second parameters = InitToRtr number second
command_with RtrToRtsRow number second parameters = RtrToRts number
command_with ToErrRow number second parameters = ToErr number

-- whether what a row does not use is 0, and a list of pages has at most 88
abbrev pub are_parameters_clear : Kind → ℕ → List ℕ → Bool
are_parameters_clear GivePagesRow second parameters = nat_le second 88
are_parameters_clear ReturnPagesRow second parameters = nat_le second 88
are_parameters_clear CreateMkeyRow second parameters = is_reserved_clear MkeyLayout parameters
are_parameters_clear CreateEqRow second parameters = is_reserved_clear EqLayout parameters
are_parameters_clear CreateCqRow second parameters = is_reserved_clear CqLayout parameters
are_parameters_clear ModifyCqRow second parameters = is_reserved_clear CqLayout parameters
are_parameters_clear CreateSrqRow second parameters = is_reserved_clear SrqLayout parameters
are_parameters_clear CreateQpRow second parameters = is_reserved_clear QpLayout parameters
are_parameters_clear _ second parameters = true

abbrev pub is_head_clear : Kind → ℕ → ℕ → ℕ → Bool
is_head_clear kind between number second =
    (between == 0) && ((command_row kind).has_number || (number == 0)) && ((command_row kind).has_second || (second == 0))

-- what stands at the places of an input
abbrev pub code_at : List ℕ → ℕ
code_at input = field_value input 0 16 * 65536 + field_value input 48 16

abbrev pub between_at : List ℕ → ℕ
between_at input = field_value input 16 32

abbrev pub number_at : List ℕ → ℕ
number_at input = field_value input 64 32

abbrev pub second_at : List ℕ → ℕ
second_at input = field_value input 96 32

abbrev pub parameters_at : List ℕ → List ℕ
parameters_at input = drop 16 input

abbrev pub command_at : Kind → List ℕ → Command
command_at kind input = command_with kind (number_at input) (second_at input) (parameters_at input)

abbrev pub is_body_clear : Kind → List ℕ → Bool
is_body_clear kind input =
    is_head_clear kind (between_at input) (number_at input) (second_at input) && are_parameters_clear kind (second_at input) (parameters_at input)

-- the bytes are the input of the command: its row's opcode, modifier and length, what it carries at the
-- places of the row, and 0 elsewhere
pub record IsInput (c : Command) (input : List ℕ) : Type 0 where
  pub long : length input ≡ input_length (kind_of c) (second_at input)
  pub code : code_at input ≡ (command_row (kind_of c)).code
  pub clear : IsTrue (is_body_clear (kind_of c) input)
  pub reads : command_at (kind_of c) input ≡ c

-- what an input must keep, in the order in which it is judged
abbrev pub row_rules : Option Kind → List ℕ → ℕ → List (Rule BodyFault)
row_rules None input out_len = []
row_rules (Some kind) input out_len =
    rule (length input == input_length kind (second_at input)) InputLength
    ∷ rule (out_len == output_length kind (second_at input)) OutputLength
    ∷ rule (is_body_clear kind input) Reserved
    ∷ []

abbrev pub body_rules : List ℕ → ℕ → List (Rule BodyFault)
body_rules input out_len =
    rule (is_some (kind_of_code (code_at input))) BadOpcode ∷ row_rules (kind_of_code (code_at input)) input out_len

-- each number fits its bits, a list of pages has at most 88, and those past its count are 0
pub record FitsPages (list : PageList) : Type 0 where
  pub count : list.count ≤ 88
  pub rest : (k : ℕ) → list.count ≤ k → slice_index list.pages k ≡ 0

abbrev pub FitsFields : Command → Type 0
FitsFields (GivePages list) = FitsPages list
FitsFields (ReturnPages count) = count ≤ 88
FitsFields (CreateMkey context) = FitsMkey context
FitsFields (CreateCq context) = FitsCq context
FitsFields (ModifyCq cq area context) = FitsCq context
FitsFields _ = Unit {0}
