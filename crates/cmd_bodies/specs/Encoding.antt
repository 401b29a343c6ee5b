-- What stands where in the bytes that a command's input was written into.
use Rattle.std.specs.Prelude.{◌≡◌, ℕ, ◌+◌, ◌*◌, ◌/◌, ◌%◌, ◌<◌, IsTrue, List, length, slice_index, slice_range}
use Rattle.prm_fields.specs.Bits.{field_value}
use Rattle.prm_fields.specs.Layout.{is_reserved_clear}
use Rattle.prm_fields.specs.declared.layout.LayoutName.TheVariants.{CqContext as CqLayout, EqBlock as EqLayout, MkeyContext as MkeyLayout, QpBlock as QpLayout, SrqBlock as SrqLayout}
use Rattle.cmd_bodies.specs.declared.contexts.MkeyContext.{MkeyContext}
use Rattle.cmd_bodies.specs.declared.contexts.CqContext.{CqContext}
use Rattle.cmd_bodies.specs.declared.contexts.EqBlock.{EqBlock}
use Rattle.cmd_bodies.specs.declared.contexts.SrqBlock.{SrqBlock}
use Rattle.cmd_bodies.specs.declared.contexts.QpBlock.{QpBlock}
use Rattle.cmd_bodies.specs.declared.command.Command.{Command}
use Rattle.cmd_bodies.specs.declared.command.Command.TheVariants.{CreateMkey, CreateEq, CreateCq, ModifyCq, CreateSrq, CreateQp, GivePages}
use Rattle.cmd_bodies.specs.Contexts.{mkey_at, cq_at, eq_at, srq_at, qp_at}

-- opcode, modifier and two numbers
pub record HasHead (code number second : ℕ) (bytes : List ℕ) : Type 0 where
  pub opcode : field_value bytes 0 16 ≡ code / 65536
  pub between : field_value bytes 16 32 ≡ 0
  pub modifier : field_value bytes 48 16 ≡ code % 65536
  pub number_there : field_value bytes 64 32 ≡ number
  pub second_there : field_value bytes 96 32 ≡ second

-- a block of parameters behind them
abbrev pub long_block : List ℕ → List ℕ
long_block bytes = slice_range bytes 16 80

abbrev pub short_block : List ℕ → List ℕ
short_block bytes = slice_range bytes 16 48

pub record HasMkey (m : MkeyContext) (block : List ℕ) : Type 0 where
  pub reads : mkey_at block ≡ m
  pub clear : IsTrue (is_reserved_clear MkeyLayout block)

pub record HasCq (c : CqContext) (block : List ℕ) : Type 0 where
  pub reads : cq_at block ≡ c
  pub clear : IsTrue (is_reserved_clear CqLayout block)

pub record HasEq (e : EqBlock) (block : List ℕ) : Type 0 where
  pub reads : eq_at block ≡ e
  pub clear : IsTrue (is_reserved_clear EqLayout block)

pub record HasSrq (s : SrqBlock) (block : List ℕ) : Type 0 where
  pub reads : srq_at block ≡ s
  pub clear : IsTrue (is_reserved_clear SrqLayout block)

pub record HasQp (q : QpBlock) (block : List ℕ) : Type 0 where
  pub reads : qp_at block ≡ q
  pub clear : IsTrue (is_reserved_clear QpLayout block)

-- or the addresses of pages
pub record HasPages (count : ℕ) (pages bytes : List ℕ) : Type 0 where
  pub long : length pages ≡ 88
  pub words : (k : ℕ) → k < count → field_value bytes (128 + 64 * k) 64 ≡ slice_index pages k

abbrev pub HasParameters : Command → List ℕ → Type 0
HasParameters (CreateMkey context) bytes = HasMkey context (long_block bytes)
HasParameters (CreateCq context) bytes = HasCq context (long_block bytes)
HasParameters (ModifyCq cq area context) bytes = HasCq context (long_block bytes)
HasParameters (CreateEq block) bytes = HasEq block (short_block bytes)
HasParameters (CreateSrq block) bytes = HasSrq block (short_block bytes)
HasParameters (CreateQp block) bytes = HasQp block (long_block bytes)
HasParameters (GivePages list) bytes = HasPages list.count list.pages bytes
HasParameters _ bytes = Unit {0}
