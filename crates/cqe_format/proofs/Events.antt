-- How far a byte string begins like an event.
use Rattle.std.proofs.Common.{◌≡◌, ◌≢◌, ℕ, ◌+◌, ◌<◌, ◌≤◌, min, List, length, slice_index, refl, sym, ◌∙◌, ⊎_elim, arith, subst}
use Rattle.std.proofs.lemmas.Bool.{cases_lt}
use Rattle.prm_fields.specs.Bits.{field_value}
use Rattle.prm_fields.proofs.Values.{field_value_in_byte}
use Rattle.prm_fields.proofs.Parts.{byte_value}
use Rattle.verbs_types.specs.declared.completion.EventRecord.{EventRecord}
use Rattle.verbs_types.specs.declared.completion.EventRecord.TheVariants.{Completion, CqError}
use Rattle.cqe_format.specs.Bytes.{BeginAlike, IsFirstWrong}
use Rattle.cqe_format.specs.Search.{IsClear, IsSetAround}
use Rattle.cqe_format.specs.Event.{IsEqe, IsSomeEqe, event_type}
use Rattle.cqe_format.proofs.Words.{AreBytes}
use Rattle.cqe_format.proofs.Rows.{row_clear, clear_row, going_on, going_on-long, going_on-small, going_on-alike, going_on-front, going_on-zero, going_on-last, going_on-clear, within, joined, one_clear, alike_byte, alike_whole}

-- 64 bytes that are 0 in an event's first byte and around the number of its queue, with this type
pub record HasShape (type cqn : ℕ) (bytes : List ℕ) : Type 0 where
  pub long : length bytes ≡ 64
  pub small : AreBytes bytes
  pub first : slice_index bytes 0 ≡ 0
  pub type_byte : slice_index bytes 1 ≡ type
  pub before : IsClear bytes 2 cqn
  pub behind : IsClear bytes (cqn + 4) 63

last_row : (bytes : List ℕ) → slice_index bytes 63 ≡ 0 → field_value bytes 504 7 ≡ 0
last_row bytes none = field_value_in_byte bytes 63 0 7 (omega arith) ∙ rw none refl

plain_completion : (bytes : List ℕ) → HasShape 0 56 bytes → slice_index bytes 63 ≡ 0 → IsSomeEqe bytes
plain_completion bytes is last = (
  Completion (field_value bytes 448 32),
  record {
    bytes_of = record { long = is.long; small = is.small };
    fields = (
      row_clear bytes 0 1 (one_clear bytes 0 is.first),
      (
        byte_value bytes 1 (is.small 1) ∙ is.type_byte,
        (
          row_clear bytes 2 1 (within bytes 2 56 2 3 is.before (omega arith) (omega arith)),
          (
            row_clear bytes 3 1 (within bytes 2 56 3 4 is.before (omega arith) (omega arith)),
            (
              row_clear bytes 4 52 (within bytes 2 56 4 56 is.before (omega arith) (omega arith)),
              (
                refl,
                (
                  row_clear bytes 60 2 (within bytes 60 63 60 62 is.behind (omega arith) (omega arith)),
                  (
                    row_clear bytes 62 1 (within bytes 60 63 62 63 is.behind (omega arith) (omega arith)),
                    (last_row bytes last, (refl, tt)),
                  ),
                ),
              ),
            ),
          ),
        ),
      ),
    );
  },
)

plain_error : (bytes : List ℕ) → HasShape 4 32 bytes → slice_index bytes 63 ≡ 0 → IsSomeEqe bytes
plain_error bytes is last = (
  CqError (field_value bytes 256 32),
  record {
    bytes_of = record { long = is.long; small = is.small };
    fields = (
      row_clear bytes 0 1 (one_clear bytes 0 is.first),
      (
        byte_value bytes 1 (is.small 1) ∙ is.type_byte,
        (
          row_clear bytes 2 1 (within bytes 2 32 2 3 is.before (omega arith) (omega arith)),
          (
            row_clear bytes 3 1 (within bytes 2 32 3 4 is.before (omega arith) (omega arith)),
            (
              row_clear bytes 4 28 (within bytes 2 32 4 32 is.before (omega arith) (omega arith)),
              (
                refl,
                (
                  row_clear bytes 36 26 (within bytes 36 63 36 62 is.behind (omega arith) (omega arith)),
                  (
                    row_clear bytes 62 1 (within bytes 36 63 62 63 is.behind (omega arith) (omega arith)),
                    (last_row bytes last, (refl, tt)),
                  ),
                ),
              ),
            ),
          ),
        ),
      ),
    );
  },
)

-- where the number of an event's queue stands
abbrev pub cqn_of : EventRecord → ℕ
cqn_of (Completion cq) = 56
cqn_of (CqError cq) = 32

shape : (e : EventRecord) (bytes : List ℕ) → IsEqe e bytes → HasShape (event_type e) (cqn_of e) bytes
shape (Completion cq) bytes is =
    let clear = clear_row bytes is.bytes_of.small in
    let rows = is.fields in
    record {
      long = is.bytes_of.long;
      small = is.bytes_of.small;
      first = clear 0 1 rows.0 0 (omega arith) (omega arith);
      type_byte = sym (byte_value bytes 1 (is.bytes_of.small 1)) ∙ rows.1.0;
      before = joined bytes 2 3 56 (clear 2 1 rows.1.1.0) (joined bytes 3 4 56 (clear 3 1 rows.1.1.1.0) (clear 4 52 rows.1.1.1.1.0));
      behind = joined bytes 60 62 63 (clear 60 2 rows.1.1.1.1.1.1.0) (clear 62 1 rows.1.1.1.1.1.1.1.0);
    }
shape (CqError cq) bytes is =
    let clear = clear_row bytes is.bytes_of.small in
    let rows = is.fields in
    record {
      long = is.bytes_of.long;
      small = is.bytes_of.small;
      first = clear 0 1 rows.0 0 (omega arith) (omega arith);
      type_byte = sym (byte_value bytes 1 (is.bytes_of.small 1)) ∙ rows.1.0;
      before = joined bytes 2 3 32 (clear 2 1 rows.1.1.0) (joined bytes 3 4 32 (clear 3 1 rows.1.1.1.0) (clear 4 28 rows.1.1.1.1.0));
      behind = joined bytes 36 62 63 (clear 36 26 rows.1.1.1.1.1.1.0) (clear 62 1 rows.1.1.1.1.1.1.1.0);
    }

completion_shape : (bytes : List ℕ) → IsSomeEqe bytes → slice_index bytes 1 ≡ 0 → HasShape 0 56 bytes
completion_shape bytes (Completion cq, is) type = shape (Completion cq) bytes is
completion_shape bytes (CqError cq, is) type = let found = shape (CqError cq) bytes is in absurd (omega arith)

error_shape : (bytes : List ℕ) → IsSomeEqe bytes → slice_index bytes 1 ≡ 4 → HasShape 4 32 bytes
error_shape bytes (Completion cq, is) type = let found = shape (Completion cq) bytes is in absurd (omega arith)
error_shape bytes (CqError cq, is) type = shape (CqError cq) bytes is

module _ (bytes : List ℕ) (long : length bytes ≡ 64) (small : AreBytes bytes) where
  -- the first bytes of an event, then zeros
  begins : (type cqn k : ℕ) → 2 ≤ cqn → cqn + 4 ≤ 63 → k ≤ 63 → slice_index (going_on bytes k 0) 0 ≡ 0 → slice_index (going_on bytes k 0) 1 ≡ type
      → IsClear bytes 2 (min k cqn) → IsClear bytes (cqn + 4) k → HasShape type cqn (going_on bytes k 0)
  begins type cqn k from behind inside first second before after =
      record {
        long = going_on-long bytes long k inside 0;
        small = going_on-small bytes long k inside 0 small (omega arith);
        first = first;
        type_byte = second;
        before = going_on-clear bytes long k inside 0 2 cqn (omega arith) (λ i low high front. before i low (omega arith));
        behind = going_on-clear bytes long k inside 0 (cqn + 4) 63 (omega arith) (λ i low high front. after i low front);
      }

  -- some event has the first k bytes, for k at most 1
  begins_early : (k : ℕ) → k ≤ 1 → (0 < k → slice_index bytes 0 ≡ 0) → (entry : List ℕ) × IsSomeEqe entry × BeginAlike k entry bytes
  begins_early k early none =
      let inside : k ≤ 63 = omega arith in
      let first : slice_index (going_on bytes k 0) 0 ≡ 0 =
      ⊎_elim (λ front. going_on-front bytes long k inside 0 0 front ∙ none front) (λ rest. going_on-zero bytes long k inside 0 0 rest (omega arith)) (cases_lt 0 k) in
      let second : slice_index (going_on bytes k 0) 1 ≡ 0 = going_on-zero bytes long k inside 0 1 early (omega arith) in
      let plain = begins 0 56 k (omega arith) (omega arith) inside first second (λ i low high. absurd (omega arith)) (λ i low high. absurd (omega arith)) in
      (going_on bytes k 0, plain_completion (going_on bytes k 0) plain (going_on-last bytes long k inside 0), going_on-alike bytes long k inside 0)

  pub wrong_first : slice_index bytes 0 ≢ 0 → IsFirstWrong IsSomeEqe bytes 0
  wrong_first set = record {
    begun = begins_early 0 (omega arith) (λ none. absurd (omega arith));
    wrong = λ entry (e, is) alike.
        let found = shape e entry is in
        let same = alike_byte entry bytes 1 alike 0 (omega arith) in
        set (sym same ∙ found.first);
  }

  pub wrong_type : slice_index bytes 0 ≡ 0 → slice_index bytes 1 ≢ 0 → slice_index bytes 1 ≢ 4 → IsFirstWrong IsSomeEqe bytes 1
  wrong_type first not_zero not_four = record {
    begun = begins_early 1 (omega arith) (λ _. first);
    wrong = λ entry (e, is) alike.
        let same = alike_byte entry bytes 2 alike 1 (omega arith) in
        type_known e (sym same ∙ (shape e entry is).type_byte);
  }
    where
      type_known : (e : EventRecord) → slice_index bytes 1 ≡ event_type e → ⊥
      type_known (Completion cq) type = not_zero type
      type_known (CqError cq) type = not_four type

  around : (type cqn byte : ℕ) → 2 ≤ cqn → cqn + 4 ≤ 63
      → ((entry : List ℕ) → HasShape type cqn entry → slice_index entry 63 ≡ 0 → IsSomeEqe entry)
      → ((entry : List ℕ) → IsSomeEqe entry → slice_index entry 1 ≡ type → HasShape type cqn entry)
      → ¬ IsSomeEqe bytes → slice_index bytes 0 ≡ 0 → slice_index bytes 1 ≡ type → IsSetAround bytes cqn byte → IsFirstWrong IsSomeEqe bytes byte
  around type cqn byte from inside may must no_event first second set =
      let entry = going_on bytes byte 0 in
      let front : (i : ℕ) → i < byte → slice_index (going_on bytes byte 0) i ≡ slice_index bytes i = going_on-front bytes long byte set.inside 0 in
      let plain = begins type cqn byte from inside set.inside (front 0 (omega arith) ∙ first) (front 1 (omega arith) ∙ second) set.before set.behind in
      let clear : (other : List ℕ) → HasShape type cqn other → byte < 63 → slice_index other byte ≡ 0 =
      λ other found low. ⊎_elim (λ before. found.before byte set.from before) (λ behind. found.behind byte behind low) set.outside in
      record {
        begun = (entry, may entry plain (going_on-last bytes long byte set.inside 0), going_on-alike bytes long byte set.inside 0);
        wrong = λ other some alike.
            let found = must other some (alike_byte other bytes (byte + 1) alike 1 (omega arith) ∙ second) in
            ⊎_elim
            (λ low. set.set low (sym (alike_byte other bytes (byte + 1) alike byte (omega arith)) ∙ clear other found low))
            (λ at_end.
            let whole : byte + 1 ≡ 64 = omega arith in
            no_event (subst IsSomeEqe (alike_whole other bytes found.long long (subst (λ n. BeginAlike n other bytes) whole alike)) some))
            (cases_lt byte 63);
      }

  pub wrong_completion : (byte : ℕ) → ¬ IsSomeEqe bytes → slice_index bytes 0 ≡ 0 → slice_index bytes 1 ≡ 0 → IsSetAround bytes 56 byte → IsFirstWrong IsSomeEqe bytes byte
  wrong_completion byte = around 0 56 byte (omega arith) (omega arith) plain_completion completion_shape

  pub wrong_error : (byte : ℕ) → ¬ IsSomeEqe bytes → slice_index bytes 0 ≡ 0 → slice_index bytes 1 ≡ 4 → IsSetAround bytes 32 byte → IsFirstWrong IsSomeEqe bytes byte
  wrong_error byte = around 4 32 byte (omega arith) (omega arith) plain_error error_shape
