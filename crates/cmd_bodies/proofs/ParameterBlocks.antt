-- The bytes of contexts and parameter blocks as rows of puts.
use Rattle.std.proofs.Common.{◌≡◌, ℕ, Bool, true, false, List, [], ◌∷◌, slice_index, IsTrue, refl, ◌∙◌}
use Rattle.std.specs.Bool.{◌==◌}
use mir.Val.{bool_byte}
use Rattle.prm_fields.specs.Bits.{field_value}
use Rattle.prm_fields.specs.Layout.{is_reserved_clear}
use Rattle.prm_fields.specs.declared.layout.LayoutName.TheVariants.{CqContext as CqLayout, EqBlock as EqLayout, MkeyContext as MkeyLayout, QpBlock as QpLayout, SrqBlock as SrqLayout}
use Rattle.prm_fields.proofs.Chains.{Put, put_of, Chain, all_hold, untouched, is_apart, field_value-zeros}
use Rattle.cmd_bodies.specs.declared.contexts.MkeyContext.{MkeyContext}
use Rattle.cmd_bodies.specs.declared.contexts.CqContext.{CqContext}
use Rattle.cmd_bodies.specs.declared.contexts.EqBlock.{EqBlock}
use Rattle.cmd_bodies.specs.declared.contexts.SrqBlock.{SrqBlock}
use Rattle.cmd_bodies.specs.declared.contexts.QpBlock.{QpBlock}
use Rattle.cmd_bodies.specs.Contexts.{mkey_at, cq_at, eq_at, srq_at, qp_at}

-- a flag is read as it was written
flag : (b : Bool) → (bool_byte b == 1) ≡ b
flag true = refl
flag false = refl

-- what no put touched is 0
left : (ps : List Put) (zeros bytes : List ℕ) → Chain ps zeros bytes → ((k : ℕ) → slice_index zeros k ≡ 0) → (bit width : ℕ) → is_apart bit width ps ≡ true → field_value bytes bit width ≡ 0
left ps zeros bytes chain clear bit width apart = untouched ps zeros bytes chain bit width apart ∙ field_value-zeros zeros clear bit width

abbrev pub mkey_puts : MkeyContext → List Put
mkey_puts m = put_of 17 1 (bool_byte m.a) ∷ put_of 18 1 (bool_byte m.rw) ∷ put_of 19 1 (bool_byte m.rr) ∷ put_of 20 1 (bool_byte m.lw) ∷ put_of 21 1 (bool_byte m.lr) ∷ put_of 56 8 m.mkey_7_0 ∷ put_of 104 24 m.pd ∷ put_of 128 64 m.start_addr ∷ put_of 192 64 m.len ∷ []

module _ (m : MkeyContext) (zeros bytes : List ℕ) (chain : Chain (mkey_puts m) zeros bytes) (clear : (k : ℕ) → slice_index zeros k ≡ 0) where
  pub mkey_reads : mkey_at bytes ≡ m
  mkey_reads =
      let held = all_hold (mkey_puts m) zeros bytes chain refl in
      rw (held.0, held.1.0, held.1.1.0, held.1.1.1.0, held.1.1.1.1.0, held.1.1.1.1.1.0, held.1.1.1.1.1.1.0, held.1.1.1.1.1.1.1.0, held.1.1.1.1.1.1.1.1.0)
      (rw (flag m.a, flag m.rw, flag m.rr, flag m.lw, flag m.lr) refl)

  pub mkey_clear : IsTrue (is_reserved_clear MkeyLayout bytes)
  mkey_clear =
      let none = left (mkey_puts m) zeros bytes chain clear in
      rw (none 0 17 refl, none 22 34 refl, none 64 40 refl, none 256 256 refl) refl

abbrev pub cq_puts : CqContext → List Put
cq_puts c = put_of 8 3 c.cqe_sz ∷ put_of 99 5 c.log_cq_size ∷ put_of 104 24 c.uar_page ∷ put_of 184 8 c.c_eqn ∷ put_of 448 64 c.dbr_addr ∷ []

module _ (c : CqContext) (zeros bytes : List ℕ) (chain : Chain (cq_puts c) zeros bytes) (clear : (k : ℕ) → slice_index zeros k ≡ 0) where
  pub cq_reads : cq_at bytes ≡ c
  cq_reads =
      let held = all_hold (cq_puts c) zeros bytes chain refl in
      rw (held.0, held.1.0, held.1.1.0, held.1.1.1.0, held.1.1.1.1.0)
      refl

  pub cq_clear : IsTrue (is_reserved_clear CqLayout bytes)
  cq_clear =
      let none = left (cq_puts c) zeros bytes chain clear in
      rw (none 0 8 refl, none 11 88 refl, none 128 56 refl, none 192 256 refl) refl

abbrev pub eq_puts : EqBlock → List Put
eq_puts e = put_of 0 32 e.log ∷ put_of 32 32 e.uar ∷ put_of 64 64 e.addr ∷ []

module _ (e : EqBlock) (zeros bytes : List ℕ) (chain : Chain (eq_puts e) zeros bytes) (clear : (k : ℕ) → slice_index zeros k ≡ 0) where
  pub eq_reads : eq_at bytes ≡ e
  eq_reads =
      let held = all_hold (eq_puts e) zeros bytes chain refl in
      rw (held.0, held.1.0, held.1.1.0)
      refl

  pub eq_clear : IsTrue (is_reserved_clear EqLayout bytes)
  eq_clear =
      let none = left (eq_puts e) zeros bytes chain clear in
      rw (none 128 128 refl) refl

abbrev pub srq_puts : SrqBlock → List Put
srq_puts s = put_of 0 32 s.log ∷ put_of 32 32 s.segments ∷ put_of 64 32 s.pd ∷ put_of 128 64 s.addr ∷ []

module _ (s : SrqBlock) (zeros bytes : List ℕ) (chain : Chain (srq_puts s) zeros bytes) (clear : (k : ℕ) → slice_index zeros k ≡ 0) where
  pub srq_reads : srq_at bytes ≡ s
  srq_reads =
      let held = all_hold (srq_puts s) zeros bytes chain refl in
      rw (held.0, held.1.0, held.1.1.0, held.1.1.1.0)
      refl

  pub srq_clear : IsTrue (is_reserved_clear SrqLayout bytes)
  srq_clear =
      let none = left (srq_puts s) zeros bytes chain clear in
      rw (none 96 32 refl, none 192 64 refl) refl

abbrev pub qp_puts : QpBlock → List Put
qp_puts q = put_of 0 32 q.pd ∷ put_of 32 32 q.send_cq ∷ put_of 64 32 q.recv_cq ∷ put_of 96 32 q.send_log ∷ put_of 128 32 q.recv_log ∷ put_of 160 32 q.segments ∷ put_of 192 32 q.srq ∷ put_of 224 32 q.uar ∷ put_of 256 64 q.addr ∷ []

module _ (q : QpBlock) (zeros bytes : List ℕ) (chain : Chain (qp_puts q) zeros bytes) (clear : (k : ℕ) → slice_index zeros k ≡ 0) where
  pub qp_reads : qp_at bytes ≡ q
  qp_reads =
      let held = all_hold (qp_puts q) zeros bytes chain refl in
      rw (held.0, held.1.0, held.1.1.0, held.1.1.1.0, held.1.1.1.1.0, held.1.1.1.1.1.0, held.1.1.1.1.1.1.0, held.1.1.1.1.1.1.1.0, held.1.1.1.1.1.1.1.1.0)
      refl

  pub qp_clear : IsTrue (is_reserved_clear QpLayout bytes)
  qp_clear =
      let none = left (qp_puts q) zeros bytes chain clear in
      rw (none 320 192 refl) refl
