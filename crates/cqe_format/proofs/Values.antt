-- No bytes spell two values.
use Rattle.std.proofs.Common.{◌≡◌, ℕ, Bool, true, false, cond, List, refl, sym, ap, ◌∙◌, ⊎_elim}
use Rattle.std.proofs.lemmas.Bool.{cases_Bool, or_cases, eqb-true}
use Rattle.prm_fields.specs.Bits.{field_value}
use Rattle.prm_fields.specs.Spelling.{Spells}
use Rattle.prm_fields.specs.declared.layout.LayoutName.TheVariants.{Cqe as CqeLayout, CqeErr}
use Rattle.verbs_types.specs.declared.completion.EventRecord.{EventRecord}
use Rattle.verbs_types.specs.declared.completion.EventRecord.TheVariants.{Completion, CqError}
use Rattle.cqe_format.specs.declared.completion.Cqe.{Cqe}
use Rattle.cqe_format.specs.Opcode.{is_error, has_imm, has_len}
use Rattle.cqe_format.specs.Completion.{IsCompletion, IsCqe, layout_of, cqe_field}
use Rattle.cqe_format.specs.Event.{IsEqe}

same_bit : (a b : Bool) → cond {A = ℕ} a 1 0 ≡ cond {A = ℕ} b 1 0 → a ≡ b
same_bit true true same = refl
same_bit true false same = absurd (cc)
same_bit false true same = absurd (cc)
same_bit false false same = refl

same_cqe : (a b : Cqe) → a.opcode ≡ b.opcode → a.sop ≡ b.sop → a.qpn ≡ b.qpn → a.srqn ≡ b.srqn → a.imm ≡ b.imm → a.len ≡ b.len → a.counter ≡ b.counter
    → a.syndrome ≡ b.syndrome → a.solicited ≡ b.solicited → a.format ≡ b.format → a ≡ b
same_cqe a b opcode sop qpn srqn imm len counter syndrome solicited format i = record {
  opcode = opcode i;
  sop = sop i;
  qpn = qpn i;
  srqn = srqn i;
  imm = imm i;
  len = len i;
  counter = counter i;
  syndrome = syndrome i;
  solicited = solicited i;
  format = format i;
}

error_lacks : (opcode : ℕ) → is_error opcode ≡ true → (has_imm opcode ≡ false) × (has_len opcode ≡ false)
error_lacks opcode error =
    ⊎_elim
    (λ first. let is = eqb-true opcode 13 first in rw is (refl, refl))
    (λ second. let is = eqb-true opcode 14 second in rw is (refl, refl))
    (or_cases _ _ error)

opcode_row : (c : Cqe) (owner : ℕ) (bytes : List ℕ) → Spells (layout_of c.opcode) (cqe_field c owner) bytes → field_value bytes 504 4 ≡ c.opcode
opcode_row c owner bytes fields =
    ⊎_elim
    (λ error. let rows = rw error at fields in rows.1.1.1.1.1.1.1.1.1.0)
    (λ success. let rows = rw success at fields in rows.1.1.1.1.1.1.1.1.1.1.1.1.0)
    (cases_Bool (is_error c.opcode))

module _ (a b : Cqe) (bytes : List ℕ) (value_a : IsCompletion a) (value_b : IsCompletion b) where
  same_success : is_error a.opcode ≡ false → is_error b.opcode ≡ false → (owner : ℕ) → Spells CqeLayout (cqe_field a owner) bytes → Spells CqeLayout (cqe_field b owner) bytes → a ≡ b
  same_success success_a success_b owner x y =
      same_cqe a b
      (sym x.1.1.1.1.1.1.1.1.1.1.1.1.0 ∙ y.1.1.1.1.1.1.1.1.1.1.1.1.0)
      (sym x.1.1.1.1.1.1.1.1.0 ∙ y.1.1.1.1.1.1.1.1.0)
      (sym x.1.1.1.1.1.1.1.1.1.0 ∙ y.1.1.1.1.1.1.1.1.1.0)
      (sym x.1.1.1.0 ∙ y.1.1.1.0)
      (sym x.1.1.1.1.0 ∙ y.1.1.1.1.0)
      (sym x.1.1.1.1.1.1.0 ∙ y.1.1.1.1.1.1.0)
      (sym x.1.1.1.1.1.1.1.1.1.1.0 ∙ y.1.1.1.1.1.1.1.1.1.1.0)
      (value_a.syndrome success_a ∙ sym (value_b.syndrome success_b))
      (same_bit a.solicited b.solicited (sym x.1.1.1.1.1.1.1.1.1.1.1.1.1.1.0 ∙ y.1.1.1.1.1.1.1.1.1.1.1.1.1.1.0))
      (value_a.format ∙ sym value_b.format)

  same_error : is_error a.opcode ≡ true → is_error b.opcode ≡ true → (owner : ℕ) → Spells CqeErr (cqe_field a owner) bytes → Spells CqeErr (cqe_field b owner) bytes → a ≡ b
  same_error error_a error_b owner x y =
      let lacks_a = error_lacks a.opcode error_a in
      let lacks_b = error_lacks b.opcode error_b in
      same_cqe a b
      (sym x.1.1.1.1.1.1.1.1.1.0 ∙ y.1.1.1.1.1.1.1.1.1.0)
      (sym x.1.1.1.1.1.0 ∙ y.1.1.1.1.1.0)
      (sym x.1.1.1.1.1.1.0 ∙ y.1.1.1.1.1.1.0)
      (sym x.1.0 ∙ y.1.0)
      (value_a.imm lacks_a.0 ∙ sym (value_b.imm lacks_b.0))
      (value_a.len lacks_a.1 ∙ sym (value_b.len lacks_b.1))
      (sym x.1.1.1.1.1.1.1.0 ∙ y.1.1.1.1.1.1.1.0)
      (sym x.1.1.1.1.0 ∙ y.1.1.1.1.0)
      (same_bit a.solicited b.solicited (sym x.1.1.1.1.1.1.1.1.1.1.1.0 ∙ y.1.1.1.1.1.1.1.1.1.1.1.0))
      (value_a.format ∙ sym value_b.format)

pub one_completion : (a b : Cqe) (bytes : List ℕ) → IsCqe a bytes → IsCqe b bytes → a ≡ b
one_completion a b bytes is_a is_b =
    let owner = field_value bytes 511 1 in
    let same : a.opcode ≡ b.opcode = sym (opcode_row a owner bytes is_a.fields) ∙ opcode_row b owner bytes is_b.fields in
    ⊎_elim
    (λ error_a.
    let error_b : is_error b.opcode ≡ true = ap is_error (sym same) ∙ error_a in
    let rows_a = rw error_a at is_a.fields in
    let rows_b = rw error_b at is_b.fields in
    same_error a b bytes is_a.value is_b.value error_a error_b owner rows_a rows_b)
    (λ success_a.
    let success_b : is_error b.opcode ≡ false = ap is_error (sym same) ∙ success_a in
    let rows_a = rw success_a at is_a.fields in
    let rows_b = rw success_b at is_b.fields in
    same_success a b bytes is_a.value is_b.value success_a success_b owner rows_a rows_b)
    (cases_Bool (is_error a.opcode))

pub one_event : (a b : EventRecord) (bytes : List ℕ) → IsEqe a bytes → IsEqe b bytes → a ≡ b
one_event (Completion x) (Completion y) bytes is_a is_b = ap Completion (sym is_a.fields.1.1.1.1.1.0 ∙ is_b.fields.1.1.1.1.1.0)
one_event (Completion x) (CqError y) bytes is_a is_b = let mixed = sym is_a.fields.1.0 ∙ is_b.fields.1.0 in absurd (cc)
one_event (CqError x) (Completion y) bytes is_a is_b = let mixed = sym is_a.fields.1.0 ∙ is_b.fields.1.0 in absurd (cc)
one_event (CqError x) (CqError y) bytes is_a is_b = ap CqError (sym is_a.fields.1.1.1.1.1.0 ∙ is_b.fields.1.1.1.1.1.0)
