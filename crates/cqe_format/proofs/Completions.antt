-- How far a byte string begins like a completion.
use Rattle.std.proofs.Common.{◌≡◌, ◌≢◌, ℕ, ◌+◌, ◌/◌, ◌%◌, ◌<◌, ◌≤◌, ◌==◌, true, false, is_some, List, length, slice_index, refl, sym, ap, ◌∙◌, ⊎_elim, subst, arith}
use Rattle.std.proofs.lemmas.Bool.{cases_Bool, cases_lt, eqb-true, and_parts, or_cases, or_right}
use Rattle.prm_fields.specs.Bits.{field_value}
use Rattle.prm_fields.proofs.Values.{field_value_in_byte, field_value-lt}
use Rattle.prm_fields.proofs.Parts.{byte_value}
use Rattle.cqe_format.specs.declared.completion.Cqe.{Cqe}
use Rattle.cqe_format.specs.Bytes.{BeginAlike, IsFirstWrong}
use Rattle.cqe_format.specs.Search.{IsClear, IsFirstSet, fits_syndrome, fits_sop}
use Rattle.cqe_format.specs.Opcode.{is_request, is_error, is_send_opcode}
use Rattle.cqe_format.specs.Syndrome.{syndrome_of}
use Rattle.cqe_format.specs.Completion.{IsCompletion, IsSomeCqe, cqe_field}
use Rattle.prm_fields.specs.Spelling.{Spells}
use Rattle.prm_fields.specs.declared.layout.LayoutName.TheVariants.{Cqe as CqeLayout, CqeErr}
use Rattle.cqe_format.proofs.Encoding.{error_no_request}
use Rattle.cqe_format.proofs.Words.{AreBytes}
use Rattle.cqe_format.proofs.Rows.{row_clear, clear_row, going_on, going_on-long, going_on-small, going_on-alike, going_on-last, going_on-clear, within, joined, one_clear, alike_byte, alike_field, alike_whole}

-- the fields of a last byte
module _ (bytes : List ℕ) (last : ℕ) (is : slice_index bytes 63 ≡ last) where
  opcode_in : field_value bytes 504 4 ≡ last / 16 % 16
  opcode_in = field_value_in_byte bytes 63 0 4 (omega arith) ∙ rw is refl

  format_in : field_value bytes 508 2 ≡ last / 4 % 4
  format_in = field_value_in_byte bytes 63 4 2 (omega arith) ∙ rw is refl

  solicited_in : field_value bytes 510 1 ≡ last / 2 % 2
  solicited_in = field_value_in_byte bytes 63 6 1 (omega arith) ∙ rw is refl

-- completions that 64 bytes spell: a receive of a write, an error of a receive, a request
module _ (e : List ℕ) (long : length e ≡ 64) (small : AreBytes e) (head : IsClear e 0 32) (middle : IsClear e 40 44) (signature : slice_index e 62 ≡ 0) where
  receive_spelled : IsClear e 48 57 → slice_index e 63 ≡ 0x10 → IsSomeCqe e
  receive_spelled stamp last = (
    record {
      opcode = 1;
      sop = 0;
      qpn = field_value e 456 24;
      srqn = field_value e 256 32;
      imm = field_value e 288 32;
      len = field_value e 352 32;
      counter = field_value e 480 16;
      syndrome = 0;
      solicited = false;
      format = 0;
    },
    record {
      value = record {
        opcode = refl;
        format = refl;
        sop = λ _. refl;
        sop_known = refl;
        qpn = λ none. absurd (cc);
        qpn_bits = field_value-lt e 456 24;
        counter = λ none. absurd (cc);
        srqn = λ none. absurd (cc);
        imm = λ none. absurd (cc);
        len = λ none. absurd (cc);
        syndrome = λ _. refl;
        syndrome_known = refl;
        solicited = λ none. absurd (cc);
      };
      bytes_of = record { long = long; small = small };
      fields = (
        row_clear e 0 24 (within e 0 32 0 24 head (omega arith) (omega arith)),
        (
          row_clear e 24 4 (within e 0 32 24 28 head (omega arith) (omega arith)),
          (
            row_clear e 28 4 (within e 0 32 28 32 head (omega arith) (omega arith)),
            (
              refl,
              (
                refl,
                (
                  row_clear e 40 4 middle,
                  (
                    refl,
                    (
                      row_clear e 48 8 (within e 48 57 48 56 stamp (omega arith) (omega arith)),
                      (
                        row_clear e 56 1 (within e 48 57 56 57 stamp (omega arith) (omega arith)),
                        (
                          refl,
                          (
                            refl,
                            (row_clear e 62 1 (one_clear e 62 signature), (opcode_in e 0x10 last, (format_in e 0x10 last, (solicited_in e 0x10 last, (refl, tt))))),
                          ),
                        ),
                      ),
                    ),
                  ),
                ),
              ),
            ),
          ),
        ),
      );
    },
  )

  error_spelled : field_value e 288 32 ≡ 0 → field_value e 352 32 ≡ 0 → IsClear e 48 55 → is_some (syndrome_of (field_value e 440 8)) ≡ true → slice_index e 56 ≡ 0 → slice_index e 63 ≡ 0xe2 → IsSomeCqe e
  error_spelled imm len stamp known sop last =
      let rest : IsClear e 36 55 =
      joined e 36 40 55 (clear_row e small 36 4 imm) (joined e 40 44 55 middle (joined e 44 48 55 (clear_row e small 44 4 len) stamp)) in (
        record {
          opcode = 14;
          sop = 0;
          qpn = field_value e 456 24;
          srqn = field_value e 256 32;
          imm = 0;
          len = 0;
          counter = field_value e 480 16;
          syndrome = field_value e 440 8;
          solicited = true;
          format = 0;
        },
        record {
          value = record {
            opcode = refl;
            format = refl;
            sop = λ _. refl;
            sop_known = refl;
            qpn = λ none. absurd (cc);
            qpn_bits = field_value-lt e 456 24;
            counter = λ none. absurd (cc);
            srqn = λ none. absurd (cc);
            imm = λ _. refl;
            len = λ _. refl;
            syndrome = λ none. absurd (cc);
            syndrome_known = known;
            solicited = λ _. refl;
          };
          bytes_of = record { long = long; small = small };
          fields = (
            row_clear e 0 32 head,
            (
              refl,
              (
                row_clear e 36 18 (within e 36 55 36 54 rest (omega arith) (omega arith)),
                (
                  row_clear e 54 1 (within e 36 55 54 55 rest (omega arith) (omega arith)),
                  (
                    refl,
                    (
                      row_clear e 56 1 (one_clear e 56 sop),
                      (
                        refl,
                        (
                          refl,
                          (row_clear e 62 1 (one_clear e 62 signature), (opcode_in e 0xe2 last, (format_in e 0xe2 last, (solicited_in e 0xe2 last, (refl, tt))))),
                        ),
                      ),
                    ),
                  ),
                ),
              ),
            ),
          );
        },
      )

  request_spelled : field_value e 256 32 ≡ 0 → field_value e 288 32 ≡ 0 → IsClear e 48 56 → is_send_opcode (field_value e 448 8) ≡ true → slice_index e 63 ≡ 0 → IsSomeCqe e
  request_spelled srqn imm stamp known last = (
    record {
      opcode = 0;
      sop = field_value e 448 8;
      qpn = field_value e 456 24;
      srqn = 0;
      imm = 0;
      len = field_value e 352 32;
      counter = field_value e 480 16;
      syndrome = 0;
      solicited = false;
      format = 0;
    },
    record {
      value = record {
        opcode = refl;
        format = refl;
        sop = λ none. absurd (cc);
        sop_known = known;
        qpn = λ none. absurd (cc);
        qpn_bits = field_value-lt e 456 24;
        counter = λ none. absurd (cc);
        srqn = λ _. refl;
        imm = λ _. refl;
        len = λ none. absurd (cc);
        syndrome = λ _. refl;
        syndrome_known = refl;
        solicited = λ _. refl;
      };
      bytes_of = record { long = long; small = small };
      fields = (
        row_clear e 0 24 (within e 0 32 0 24 head (omega arith) (omega arith)),
        (
          row_clear e 24 4 (within e 0 32 24 28 head (omega arith) (omega arith)),
          (
            row_clear e 28 4 (within e 0 32 28 32 head (omega arith) (omega arith)),
            (
              srqn,
              (
                imm,
                (
                  row_clear e 40 4 middle,
                  (
                    refl,
                    (
                      row_clear e 48 8 stamp,
                      (
                        refl,
                        (
                          refl,
                          (
                            refl,
                            (row_clear e 62 1 (one_clear e 62 signature), (opcode_in e 0 last, (format_in e 0 last, (solicited_in e 0 last, (refl, tt))))),
                          ),
                        ),
                      ),
                    ),
                  ),
                ),
              ),
            ),
          ),
        ),
      );
    },
  )

-- what each completion's bytes have
pub record HasShape (bytes : List ℕ) : Type 0 where
  pub long : length bytes ≡ 64
  pub head : IsClear bytes 0 32
  pub middle : IsClear bytes 40 44
  pub stamp : IsClear bytes 48 55
  pub syndrome : fits_syndrome bytes ≡ true
  pub sop : fits_sop bytes ≡ true
  pub signature : slice_index bytes 62 ≡ 0

module _ (c : Cqe) (bytes : List ℕ) (value : IsCompletion c) (long : length bytes ≡ 64) (small : AreBytes bytes) where
  success_shape : is_error c.opcode ≡ false → Spells CqeLayout (cqe_field c (field_value bytes 511 1)) bytes → HasShape bytes
  success_shape success rows =
      let clear = clear_row bytes small in
      let stamp : IsClear bytes 48 56 = clear 48 8 rows.1.1.1.1.1.1.1.0 in
      let no_syndrome : field_value bytes 440 8 ≡ 0 = row_clear bytes 55 1 (within bytes 48 56 55 56 stamp (omega arith) (omega arith)) in
      record {
        long = long;
        head = joined bytes 0 24 32 (clear 0 24 rows.0) (joined bytes 24 28 32 (clear 24 4 rows.1.0) (clear 28 4 rows.1.1.0));
        middle = clear 40 4 rows.1.1.1.1.1.0;
        stamp = within bytes 48 56 48 55 stamp (omega arith) (omega arith);
        syndrome = rw no_syndrome refl;
        sop =
            ⊎_elim
            (λ request.
            let is : c.opcode ≡ 0 = eqb-true c.opcode 0 request in
            let srqn : field_value bytes 256 32 ≡ 0 = rows.1.1.1.0 ∙ value.srqn (rw is refl) in
            let imm : field_value bytes 288 32 ≡ 0 = rows.1.1.1.1.0 ∙ value.imm (rw is refl) in
            let known : is_send_opcode (field_value bytes 448 8) ≡ true = ap is_send_opcode rows.1.1.1.1.1.1.1.1.0 ∙ value.sop_known in
            rw (srqn, imm, no_syndrome, known) (or_right (field_value bytes 448 8 == 0) true refl))
            (λ other. let none = rows.1.1.1.1.1.1.1.1.0 ∙ value.sop other in rw none refl)
            (cases_Bool (is_request c.opcode));
        signature = clear 62 1 rows.1.1.1.1.1.1.1.1.1.1.1.0 62 (omega arith) (omega arith);
      }

  failure_shape : is_error c.opcode ≡ true → Spells CqeErr (cqe_field c (field_value bytes 511 1)) bytes → HasShape bytes
  failure_shape error rows =
      let clear = clear_row bytes small in
      let rest : IsClear bytes 36 55 = joined bytes 36 54 55 (clear 36 18 rows.1.1.0) (clear 54 1 rows.1.1.1.0) in
      let imm : field_value bytes 288 32 ≡ 0 = row_clear bytes 36 4 (within bytes 36 55 36 40 rest (omega arith) (omega arith)) in
      let len : field_value bytes 352 32 ≡ 0 = row_clear bytes 44 4 (within bytes 36 55 44 48 rest (omega arith) (omega arith)) in
      let known : is_some (syndrome_of (field_value bytes 440 8)) ≡ true =
      ap (λ n. is_some (syndrome_of n)) rows.1.1.1.1.0 ∙ value.syndrome_known ∙ error in
      let no_sop : field_value bytes 448 8 ≡ 0 = rows.1.1.1.1.1.0 ∙ value.sop (error_no_request c.opcode error) in
      record {
        long = long;
        head = clear 0 32 rows.0;
        middle = within bytes 36 55 40 44 rest (omega arith) (omega arith);
        stamp = within bytes 36 55 48 55 rest (omega arith) (omega arith);
        syndrome = rw (imm, len, known) (or_right (field_value bytes 440 8 == 0) true refl);
        sop = rw no_sop refl;
        signature = clear 62 1 rows.1.1.1.1.1.1.1.1.0 62 (omega arith) (omega arith);
      }

shape : (bytes : List ℕ) → IsSomeCqe bytes → HasShape bytes
shape bytes (c, is) =
    ⊎_elim
    (λ error.
    let long = rw error at is.bytes_of.long in
    let rows = rw error at is.fields in
    failure_shape c bytes is.value long is.bytes_of.small error rows)
    (λ success.
    let long = rw success at is.bytes_of.long in
    let rows = rw success at is.fields in
    success_shape c bytes is.value long is.bytes_of.small success rows)
    (cases_Bool (is_error c.opcode))

-- some completion has the first k bytes
abbrev pub Begins : ℕ → List ℕ → Type 0
Begins k bytes = (entry : List ℕ) × IsSomeCqe entry × BeginAlike k entry bytes

module _ (bytes : List ℕ) (long : length bytes ≡ 64) (small : AreBytes bytes) (k : ℕ) (inside : k ≤ 63)
    (head : (i : ℕ) → i < k → i < 32 → slice_index bytes i ≡ 0)
    (middle : (i : ℕ) → i < k → 40 ≤ i → i < 44 → slice_index bytes i ≡ 0)
    (stamp : (i : ℕ) → i < k → 48 ≤ i → i < 55 → slice_index bytes i ≡ 0)
    (signature : 62 < k → slice_index bytes 62 ≡ 0) where
  -- the first k bytes, then zeros up to a last byte
  begins_by : (last : ℕ) → last < 256
      → ((e : List ℕ) → length e ≡ 64 → AreBytes e → IsClear e 0 32 → IsClear e 40 44 → slice_index e 62 ≡ 0 → BeginAlike k e bytes → slice_index e 63 ≡ last
      → ((a b : ℕ) → b ≤ 63 → ((i : ℕ) → a ≤ i → i < b → i < k → slice_index bytes i ≡ 0) → IsClear e a b) → IsSomeCqe e)
      → Begins k bytes
  begins_by last byte spelled =
      let clear = going_on-clear bytes long k inside last in
      let alike = going_on-alike bytes long k inside last in (
        going_on bytes k last,
        spelled (going_on bytes k last) (going_on-long bytes long k inside last) (going_on-small bytes long k inside last small byte)
            (clear 0 32 (omega arith) (λ i _ below front. head i front below))
            (clear 40 44 (omega arith) (λ i from below front. middle i front from below))
            (clear 62 63 (omega arith) (λ i from below front. let here : i ≡ 62 = omega arith in rw here (signature (omega arith))) 62 (omega arith) (omega arith))
            alike (going_on-last bytes long k inside last) clear,
        alike,
      )

  receive_begins : ((i : ℕ) → i < k → 55 ≤ i → i < 57 → slice_index bytes i ≡ 0) → Begins k bytes
  receive_begins none =
      begins_by 0x10 (omega arith)
      (λ e e_long e_small e_head e_middle e_signature alike last clear.
      receive_spelled e e_long e_small e_head e_middle e_signature
      (clear 48 57 (omega arith) (λ i from below front. ⊎_elim (λ before. stamp i front from before) (λ behind. none i front behind below) (cases_lt i 55))) last)

  error_begins : 55 < k → field_value bytes 288 32 ≡ 0 → field_value bytes 352 32 ≡ 0 → is_some (syndrome_of (field_value bytes 440 8)) ≡ true → (56 < k → slice_index bytes 56 ≡ 0) → Begins k bytes
  error_begins behind imm len known sop =
      begins_by 0xe2 (omega arith)
      (λ e e_long e_small e_head e_middle e_signature alike last clear.
      let field = alike_field e bytes k alike in
      error_spelled e e_long e_small e_head e_middle e_signature
      (field 288 32 (omega arith) ∙ imm) (field 352 32 (omega arith) ∙ len)
      (clear 48 55 (omega arith) (λ i from below front. stamp i front from below))
      (ap (λ n. is_some (syndrome_of n)) (field 440 8 (omega arith)) ∙ known)
      (clear 56 57 (omega arith) (λ i from below front. let here : i ≡ 56 = omega arith in rw here (sop (omega arith))) 56 (omega arith) (omega arith))
      last)

  request_begins : 56 < k → field_value bytes 256 32 ≡ 0 → field_value bytes 288 32 ≡ 0 → slice_index bytes 55 ≡ 0 → is_send_opcode (field_value bytes 448 8) ≡ true → Begins k bytes
  request_begins behind srqn imm syndrome known =
      begins_by 0 (omega arith)
      (λ e e_long e_small e_head e_middle e_signature alike last clear.
      let field = alike_field e bytes k alike in
      request_spelled e e_long e_small e_head e_middle e_signature
      (field 256 32 (omega arith) ∙ srqn) (field 288 32 (omega arith) ∙ imm)
      (clear 48 56 (omega arith) (λ i from below front. ⊎_elim (λ before. stamp i front from before) (λ at_end. let here : i ≡ 55 = omega arith in rw here syndrome) (cases_lt i 55)))
      (ap is_send_opcode (field 448 8 (omega arith)) ∙ known)
      last)

  -- without a syndrome it goes on as a receive, or as a request where it has a send opcode
  plain_begins : 55 < k → slice_index bytes 55 ≡ 0 → (56 < k → fits_sop bytes ≡ true) → Begins k bytes
  plain_begins behind syndrome sop =
      let receive : (56 < k → slice_index bytes 56 ≡ 0) → Begins k bytes =
      λ none.
      receive_begins
      (λ i front from below.
      ⊎_elim
      (λ here. let place : i ≡ 55 = omega arith in rw place syndrome)
      (λ next. let place : i ≡ 56 = omega arith in rw place (none (omega arith)))
      (cases_lt i 56)) in
      ⊎_elim
      (λ later.
      ⊎_elim
      (λ zero. receive (λ _. sym (byte_value bytes 56 (small 56)) ∙ eqb-true (field_value bytes 448 8) 0 zero))
      (λ rest.
      let known = and_parts _ _ rest in
      let no_syndrome = and_parts _ _ known.0 in
      let both = and_parts _ _ no_syndrome.0 in
      request_begins later (eqb-true (field_value bytes 256 32) 0 both.0) (eqb-true (field_value bytes 288 32) 0 both.1) syndrome known.1)
      (or_cases _ _ (sop later)))
      (λ early. receive (λ later. absurd (omega arith)))
      (cases_lt 56 k)

  pub begins : (55 < k → fits_syndrome bytes ≡ true) → (56 < k → fits_sop bytes ≡ true) → Begins k bytes
  begins syndrome sop =
      ⊎_elim
      (λ behind.
      ⊎_elim
      (λ zero. plain_begins behind (sym (byte_value bytes 55 (small 55)) ∙ eqb-true (field_value bytes 440 8) 0 zero) sop)
      (λ rest.
      let known = and_parts _ _ rest in
      let both = and_parts _ _ known.0 in
      let no_sop : 56 < k → slice_index bytes 56 ≡ 0 =
      λ later.
      ⊎_elim
      (λ zero. sym (byte_value bytes 56 (small 56)) ∙ eqb-true (field_value bytes 448 8) 0 zero)
      (λ request.
      let plain = (and_parts _ _ (and_parts _ _ request).0).1 in
      let none : field_value bytes 440 8 ≡ 0 = eqb-true (field_value bytes 440 8) 0 plain in
      let unknown : is_some (syndrome_of 0) ≡ true = ap (λ n. is_some (syndrome_of n)) (sym none) ∙ known.1 in
      absurd (cc))
      (or_cases _ _ (sop later)) in
      error_begins behind (eqb-true (field_value bytes 288 32) 0 both.0) (eqb-true (field_value bytes 352 32) 0 both.1) known.1 no_sop)
      (or_cases _ _ (syndrome behind)))
      (λ early. receive_begins (λ i front from below. absurd (omega arith)))
      (cases_lt 55 k)

fits_syndrome-alike : (a b : List ℕ) → BeginAlike 56 a b → fits_syndrome a ≡ fits_syndrome b
fits_syndrome-alike a b alike =
    let field = alike_field a b 56 alike in
    rw (field 440 8 (omega arith), field 288 32 (omega arith), field 352 32 (omega arith)) refl

fits_sop-alike : (a b : List ℕ) → BeginAlike 57 a b → fits_sop a ≡ fits_sop b
fits_sop-alike a b alike =
    let field = alike_field a b 57 alike in
    rw (field 448 8 (omega arith), field 256 32 (omega arith), field 288 32 (omega arith), field 440 8 (omega arith)) refl

module _ (bytes : List ℕ) (long : length bytes ≡ 64) (small : AreBytes bytes) where
  wrong_by : (k : ℕ) → Begins k bytes → ((e : List ℕ) → HasShape e → ¬ BeginAlike (k + 1) e bytes) → IsFirstWrong IsSomeCqe bytes k
  wrong_by k begun none = record { begun = begun; wrong = λ e some alike. none e (shape e some) alike }

  -- a byte that is not 0 where each completion has 0
  wrong_set : (k : ℕ) → Begins k bytes → slice_index bytes k ≢ 0 → ((e : List ℕ) → HasShape e → slice_index e k ≡ 0) → IsFirstWrong IsSomeCqe bytes k
  wrong_set k begun set none = wrong_by k begun (λ e has alike. set (sym (alike_byte e bytes (k + 1) alike k (omega arith)) ∙ none e has))

  pub wrong_head : (k : ℕ) → IsFirstSet bytes 0 32 k → IsFirstWrong IsSomeCqe bytes k
  wrong_head k first =
      let low = first.inside in
      wrong_set k
      (begins bytes long small k (omega arith)
      (λ i front below. first.before i (omega arith) front) (λ i front from below. absurd (omega arith)) (λ i front from below. absurd (omega arith)) (λ front. absurd (omega arith))
      (λ front. absurd (omega arith)) (λ front. absurd (omega arith)))
      first.set (λ e has. has.head k (omega arith) first.inside)

  module _ (head : IsClear bytes 0 32) where
    pub wrong_middle : (k : ℕ) → IsFirstSet bytes 40 44 k → IsFirstWrong IsSomeCqe bytes k
    wrong_middle k first =
        let low = first.inside in
        wrong_set k
        (begins bytes long small k (omega arith)
        (λ i front below. head i (omega arith) below) (λ i front from below. first.before i from front) (λ i front from below. absurd (omega arith)) (λ front. absurd (omega arith))
        (λ front. absurd (omega arith)) (λ front. absurd (omega arith)))
        first.set (λ e has. has.middle k first.from first.inside)

    module _ (middle : IsClear bytes 40 44) where
      pub wrong_stamp : (k : ℕ) → IsFirstSet bytes 48 55 k → IsFirstWrong IsSomeCqe bytes k
      wrong_stamp k first =
          let low = first.inside in
          wrong_set k
          (begins bytes long small k (omega arith)
          (λ i front below. head i (omega arith) below) (λ i front from below. middle i from below) (λ i front from below. first.before i from front) (λ front. absurd (omega arith))
          (λ front. absurd (omega arith)) (λ front. absurd (omega arith)))
          first.set (λ e has. has.stamp k first.from first.inside)

      module _ (stamp : IsClear bytes 48 55) where
        begun : (k : ℕ) → k ≤ 63 → (62 < k → slice_index bytes 62 ≡ 0) → (55 < k → fits_syndrome bytes ≡ true) → (56 < k → fits_sop bytes ≡ true) → Begins k bytes
        begun k inside = begins bytes long small k inside (λ i front below. head i (omega arith) below) (λ i front from below. middle i from below) (λ i front from below. stamp i from below)

        pub wrong_syndrome : fits_syndrome bytes ≡ false → IsFirstWrong IsSomeCqe bytes 55
        wrong_syndrome unfit =
            wrong_by 55 (begun 55 (omega arith) (λ front. absurd (omega arith)) (λ front. absurd (omega arith)) (λ front. absurd (omega arith)))
            (λ e has alike. let fit = sym has.syndrome ∙ fits_syndrome-alike e bytes alike ∙ unfit in absurd (cc))

        module _ (syndrome : fits_syndrome bytes ≡ true) where
          pub wrong_sop : fits_sop bytes ≡ false → IsFirstWrong IsSomeCqe bytes 56
          wrong_sop unfit =
              wrong_by 56 (begun 56 (omega arith) (λ front. absurd (omega arith)) (λ _. syndrome) (λ front. absurd (omega arith)))
              (λ e has alike. let fit = sym has.sop ∙ fits_sop-alike e bytes alike ∙ unfit in absurd (cc))

          module _ (sop : fits_sop bytes ≡ true) where
            pub wrong_signature : slice_index bytes 62 ≢ 0 → IsFirstWrong IsSomeCqe bytes 62
            wrong_signature set = wrong_set 62 (begun 62 (omega arith) (λ front. absurd (omega arith)) (λ _. syndrome) (λ _. sop)) set (λ e has. has.signature)

            pub wrong_last : ¬ IsSomeCqe bytes → slice_index bytes 62 ≡ 0 → IsFirstWrong IsSomeCqe bytes 63
            wrong_last none signature = record {
              begun = begun 63 (omega arith) (λ _. signature) (λ _. syndrome) (λ _. sop);
              wrong = λ e some alike. none (subst IsSomeCqe (alike_whole e bytes (shape e some).long long alike) some);
            }
