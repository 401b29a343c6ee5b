-- What contexts and parameter blocks hold, field by field.
use Rattle.std.specs.Prelude.{ℕ, ◌<◌, ◌==◌, ◌^◌, List}
use Rattle.prm_fields.specs.Bits.{field_value}
use Rattle.cmd_bodies.specs.declared.contexts.MkeyContext.{MkeyContext}
use Rattle.cmd_bodies.specs.declared.contexts.CqContext.{CqContext}
use Rattle.cmd_bodies.specs.declared.contexts.EqBlock.{EqBlock}
use Rattle.cmd_bodies.specs.declared.contexts.SrqBlock.{SrqBlock}
use Rattle.cmd_bodies.specs.declared.contexts.QpBlock.{QpBlock}

abbrev pub mkey_at : List ℕ → MkeyContext
mkey_at bytes = record {
  a = field_value bytes 17 1 == 1;
  rw = field_value bytes 18 1 == 1;
  rr = field_value bytes 19 1 == 1;
  lw = field_value bytes 20 1 == 1;
  lr = field_value bytes 21 1 == 1;
  mkey_7_0 = field_value bytes 56 8;
  pd = field_value bytes 104 24;
  start_addr = field_value bytes 128 64;
  len = field_value bytes 192 64;
}

abbrev pub cq_at : List ℕ → CqContext
cq_at bytes = record {
  cqe_sz = field_value bytes 8 3;
  log_cq_size = field_value bytes 99 5;
  uar_page = field_value bytes 104 24;
  c_eqn = field_value bytes 184 8;
  dbr_addr = field_value bytes 448 64;
}

abbrev pub eq_at : List ℕ → EqBlock
eq_at bytes = record {
  log = field_value bytes 0 32;
  uar = field_value bytes 32 32;
  addr = field_value bytes 64 64;
}

abbrev pub srq_at : List ℕ → SrqBlock
srq_at bytes = record {
  log = field_value bytes 0 32;
  segments = field_value bytes 32 32;
  pd = field_value bytes 64 32;
  addr = field_value bytes 128 64;
}

abbrev pub qp_at : List ℕ → QpBlock
qp_at bytes = record {
  pd = field_value bytes 0 32;
  send_cq = field_value bytes 32 32;
  recv_cq = field_value bytes 64 32;
  send_log = field_value bytes 96 32;
  recv_log = field_value bytes 128 32;
  segments = field_value bytes 160 32;
  srq = field_value bytes 192 32;
  uar = field_value bytes 224 32;
  addr = field_value bytes 256 64;
}

-- the numbers fit their bits
abbrev pub FitsMkey : MkeyContext → Type 0
FitsMkey m = m.pd < 2 ^ 24

pub record FitsCq (c : CqContext) : Type 0 where
  pub size : c.cqe_sz < 8
  pub log : c.log_cq_size < 32
  pub page : c.uar_page < 2 ^ 24
