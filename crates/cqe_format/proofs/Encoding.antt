-- An entry's bytes as a row of puts.
use Rattle.std.proofs.Common.{◌≡◌, ℕ, List, [], ◌∷◌, Bool, true, false, cond, slice_index, refl, sym, ◌∙◌, ⊎_elim}
use Rattle.std.proofs.lemmas.Bool.{or_cases, eqb-true}
use mir.Val.{bool_byte}
use Rattle.prm_fields.specs.Bits.{field_value}
use Rattle.prm_fields.specs.Spelling.{Spells}
use Rattle.prm_fields.specs.declared.layout.LayoutName.TheVariants.{Cqe as CqeLayout, CqeErr, EqeCq, EqeError}
use Rattle.prm_fields.proofs.Chains.{Put, put_of, Chain, all_hold, untouched, is_apart, field_value-zeros}
use Rattle.verbs_types.specs.declared.completion.EventRecord.TheVariants.{Completion, CqError}
use Rattle.cqe_format.specs.Event.{eqe_field}
use Rattle.cqe_format.specs.declared.completion.Cqe.{Cqe}
use Rattle.cqe_format.specs.Opcode.{is_request, is_error}
use Rattle.cqe_format.specs.Completion.{IsCompletion, cqe_field}

pub error_no_request : (opcode : ℕ) → is_error opcode ≡ true → is_request opcode ≡ false
error_no_request opcode error =
    ⊎_elim
    (λ first. let is = eqb-true opcode 13 first in rw is refl)
    (λ second. let is = eqb-true opcode 14 second in rw is refl)
    (or_cases _ _ error)

pub bool_byte-cond : (b : Bool) → bool_byte b ≡ cond b 1 0
bool_byte-cond true = refl
bool_byte-cond false = refl

-- what a row of puts leaves of zeros
left : (puts : List Put) (zeros bytes : List ℕ) → Chain puts zeros bytes → ((k : ℕ) → slice_index zeros k ≡ 0) → (bit width : ℕ) → is_apart bit width puts ≡ true → field_value bytes bit width ≡ 0
left puts zeros bytes chain clear bit width apart =
    untouched puts zeros bytes chain bit width apart ∙ field_value-zeros zeros clear bit width

abbrev pub success_puts : Cqe → List Put
success_puts c =
    put_of 256 32 c.srqn
    ∷ put_of 288 32 c.imm
    ∷ put_of 352 32 c.len
    ∷ put_of 448 8 c.sop
    ∷ put_of 456 24 c.qpn
    ∷ put_of 480 16 c.counter
    ∷ put_of 504 4 c.opcode
    ∷ put_of 510 1 (cond c.solicited 1 0)
    ∷ []

pub success_spelled : (c : Cqe) (zeros bytes : List ℕ) → IsCompletion c → Chain (success_puts c) zeros bytes → ((k : ℕ) → slice_index zeros k ≡ 0) → Spells CqeLayout (cqe_field c 0) bytes
success_spelled c zeros bytes is chain clear =
    let held = all_hold (success_puts c) zeros bytes chain refl in
    let none = left (success_puts c) zeros bytes chain clear in (
      none 0 192 refl,
      (
        none 192 32 refl,
        (
          none 224 32 refl,
          (
            held.0,
            (
              held.1.0,
              (
                none 320 32 refl,
                (
                  held.1.1.0,
                  (
                    none 384 64 refl,
                    (
                      held.1.1.1.0,
                      (
                        held.1.1.1.1.0,
                        (
                          held.1.1.1.1.1.0,
                          (none 496 8 refl, (held.1.1.1.1.1.1.0, (none 508 2 refl ∙ sym is.format, (held.1.1.1.1.1.1.1.0, (none 511 1 refl, tt))))),
                        ),
                      ),
                    ),
                  ),
                ),
              ),
            ),
          ),
        ),
      ),
    )

abbrev pub error_puts : Cqe → List Put
error_puts c =
    put_of 256 32 c.srqn
    ∷ put_of 440 8 c.syndrome
    ∷ put_of 456 24 c.qpn
    ∷ put_of 480 16 c.counter
    ∷ put_of 504 4 c.opcode
    ∷ put_of 510 1 (cond c.solicited 1 0)
    ∷ []

pub error_spelled : (c : Cqe) (zeros bytes : List ℕ) → IsCompletion c → is_error c.opcode ≡ true → Chain (error_puts c) zeros bytes → ((k : ℕ) → slice_index zeros k ≡ 0) → Spells CqeErr (cqe_field c 0) bytes
error_spelled c zeros bytes is error chain clear =
    let held = all_hold (error_puts c) zeros bytes chain refl in
    let none = left (error_puts c) zeros bytes chain clear in
    let no_sop : c.sop ≡ 0 = is.sop (error_no_request c.opcode error) in (
      none 0 256 refl,
      (
        held.0,
        (
          none 288 144 refl,
          (
            none 432 8 refl,
            (
              held.1.0,
              (
                none 448 8 refl ∙ sym no_sop,
                (
                  held.1.1.0,
                  (
                    held.1.1.1.0,
                    (none 496 8 refl, (held.1.1.1.1.0, (none 508 2 refl ∙ sym is.format, (held.1.1.1.1.1.0, (none 511 1 refl, tt))))),
                  ),
                ),
              ),
            ),
          ),
        ),
      ),
    )

pub completion_spelled : (cq : ℕ) (zeros bytes : List ℕ) → Chain (put_of 8 8 0 ∷ put_of 448 32 cq ∷ []) zeros bytes → ((k : ℕ) → slice_index zeros k ≡ 0) → Spells EqeCq (eqe_field (Completion cq) 0) bytes
completion_spelled cq zeros bytes chain clear =
    let puts = put_of 8 8 0 ∷ put_of 448 32 cq ∷ [] in
    let held = all_hold puts zeros bytes chain refl in
    let none = left puts zeros bytes chain clear in
    (none 0 8 refl, (held.0, (none 16 8 refl, (none 24 8 refl, (none 32 416 refl, (held.1.0, (none 480 16 refl, (none 496 8 refl, (none 504 7 refl, (none 511 1 refl, tt))))))))))

pub error_event_spelled : (cq : ℕ) (zeros bytes : List ℕ) → Chain (put_of 8 8 4 ∷ put_of 256 32 cq ∷ []) zeros bytes → ((k : ℕ) → slice_index zeros k ≡ 0) → Spells EqeError (eqe_field (CqError cq) 0) bytes
error_event_spelled cq zeros bytes chain clear =
    let puts = put_of 8 8 4 ∷ put_of 256 32 cq ∷ [] in
    let held = all_hold puts zeros bytes chain refl in
    let none = left puts zeros bytes chain clear in
    (none 0 8 refl, (held.0, (none 16 8 refl, (none 24 8 refl, (none 32 224 refl, (held.1.0, (none 288 208 refl, (none 496 8 refl, (none 504 7 refl, (none 511 1 refl, tt))))))))))
