-- A word with its owner bit added: no other field of the bytes changes.
use Rattle.std.proofs.Common.{◌≡◌, ℕ, ◌+◌, ◌-◌, ◌*◌, ◌/◌, ◌%◌, ◌^◌, ◌<◌, ◌≤◌, ◌==◌, ◌&&◌, nat_le, Bool, true, false, cond, List, [], ◌∷◌, length, take, slice_index, refl, sym, ap, ◌∙◌, ⊎_elim, arith, length-append}
use Rattle.std.specs.List.{AllByRecursion, list_all}
use Rattle.std.proofs.lemmas.Bool.{cases_Bool, cases_lt, and_parts, eqb-true, leb-true}
use Rattle.std.proofs.lemmas.List.{length-take-le, get_or-take}
use Rattle.std.proofs.Math.ListN.{get_or-append}
use Rattle.std.proofs.Math.Seq.{get_or-append_right}
use Rattle.prm_fields.specs.Bits.{field_value}
use Rattle.prm_fields.specs.Layout.{layout_length, row_of}
use Rattle.prm_fields.specs.Layout.{rows as layout_rows}
use Rattle.prm_fields.specs.declared.layout.FieldName.{FieldName}
use Rattle.prm_fields.specs.declared.layout.FieldName.TheVariants.{Reserved, Owner}
use Rattle.prm_fields.specs.declared.layout.FieldRow.{FieldRow}
use Rattle.prm_fields.specs.Spelling.{IsBytesOf, value_in}
use Rattle.prm_fields.specs.declared.layout.LayoutName.{LayoutName}
use Rattle.prm_fields.specs.declared.layout.LayoutName.TheVariants.{Cqe as CqeLayout, CqeErr, EqeCq, EqeError}
use Rattle.prm_fields.proofs.Values.{field_value-same}
use Rattle.prm_fields.proofs.Spelling.{bits_from_value}
use Rattle.verbs_types.specs.declared.completion.EventRecord.{EventRecord}
use Rattle.verbs_types.specs.declared.completion.EventRecord.TheVariants.{Completion, CqError}
use Rattle.cqe_format.specs.declared.completion.Cqe.{Cqe}
use Rattle.cqe_format.specs.Bytes.{entry_bytes, with_owner}
use Rattle.cqe_format.specs.Opcode.{is_error}
use Rattle.cqe_format.specs.Completion.{IsCqe, cqe_field}
use Rattle.cqe_format.specs.Event.{IsEqe, eqe_field}
use Rattle.cqe_format.proofs.Words.{entry_bytes-small, length-entry_bytes, word_value, part_value}

module _ (words : List ℕ) (owner : ℕ) (eight : length words ≡ 8) (clear : slice_index words 7 % 2 ≡ 0) (bit : owner < 2) where
  front : length (take 7 words) ≡ 7
  front = length-take-le 7 words (omega (arith, eight))

  length-with_owner : length (with_owner words owner) ≡ 8
  length-with_owner = length-append (take 7 words) ((slice_index words 7 + owner) ∷ []) ∙ omega (arith, front)

  early_word : (k : ℕ) → k < 7 → slice_index (with_owner words owner) k ≡ slice_index words k
  early_word k low = get_or-append (take 7 words) ((slice_index words 7 + owner) ∷ []) 0 k (omega (arith, front)) ∙ get_or-take 7 words k 0 low

  last_word : slice_index (with_owner words owner) 7 ≡ slice_index words 7 + owner
  last_word =
      get_or-append_right (take 7 words) ((slice_index words 7 + owner) ∷ []) 7 0 (omega (arith, front))
      ∙ ap (λ n. slice_index ((slice_index words 7 + owner) ∷ []) (7 - n)) front

  early_same : (k : ℕ) → k < 7 → field_value (entry_bytes (with_owner words owner)) (64 * k) 64 ≡ field_value (entry_bytes words) (64 * k) 64
  early_same k low =
      word_value (with_owner words owner) k (omega (arith, length-with_owner))
      ∙ ap (λ n. n % 2 ^ 64) (early_word k low)
      ∙ sym (word_value words k (omega (arith, eight)))

  last_same : field_value (entry_bytes (with_owner words owner)) 448 63 ≡ field_value (entry_bytes words) 448 63
  last_same =
      let upper : (bytes : List ℕ) → field_value bytes 448 63 ≡ field_value bytes 448 64 / 2 % 2 ^ 63 = λ bytes. part_value bytes 448 0 63 1 in
      let halves : (slice_index words 7 + owner) % 2 ^ 64 / 2 ≡ slice_index words 7 % 2 ^ 64 / 2 = omega arith in
      upper (entry_bytes (with_owner words owner))
      ∙ ap (λ n. n / 2 % 2 ^ 63) (word_value (with_owner words owner) 7 (omega (arith, length-with_owner)) ∙ ap (λ n. n % 2 ^ 64) last_word)
      ∙ ap (λ n. n % 2 ^ 63) halves
      ∙ sym (upper (entry_bytes words) ∙ ap (λ n. n / 2 % 2 ^ 63) (word_value words 7 (omega (arith, eight))))

  pub apart : (first width : ℕ) → first + width ≤ 511 → field_value (entry_bytes (with_owner words owner)) first width ≡ field_value (entry_bytes words) first width
  apart first width inside =
      field_value-same (entry_bytes (with_owner words owner)) (entry_bytes words) first width
      (λ k low high.
      ⊎_elim
      (λ early.
      bits_from_value (entry_bytes (with_owner words owner)) (entry_bytes words) (64 * (k / 64)) 64 (early_same (k / 64) (omega arith)) k (omega arith) (omega arith))
      (λ last. bits_from_value (entry_bytes (with_owner words owner)) (entry_bytes words) 448 63 last_same k last (omega arith))
      (cases_lt k 448))

  pub long : length (entry_bytes (with_owner words owner)) ≡ 64
  long = length-entry_bytes (with_owner words owner) ∙ omega (arith, length-with_owner)

abbrev is_owner : FieldName → Bool
is_owner Owner = true
is_owner _ = false

-- whether a row is that of the owner bit, or stands before it
abbrev stays : FieldRow → Bool
stays r = cond (is_owner r.name) ((r.bit == 511) && (r.width == 1)) (nat_le (r.bit + r.width) 511)

-- rows whose values depend on the owner bit in its own row alone
module _ (values : ℕ → FieldName → ℕ) (same : (a b : ℕ) (name : FieldName) → is_owner name ≡ false → values a name ≡ values b name) (own : (a : ℕ) → values a Owner ≡ a)
    (old new : List ℕ) (keep : (first width : ℕ) → first + width ≤ 511 → field_value new first width ≡ field_value old first width) where
  row_kept : (name : FieldName) (bit width : ℕ) → stays (row_of name bit width) ≡ true
      → field_value old bit width ≡ value_in (values (field_value old 511 1)) (row_of name bit width)
      → field_value new bit width ≡ value_in (values (field_value new 511 1)) (row_of name bit width)
  row_kept Owner bit width stay held =
      let parts = and_parts (bit == 511) (width == 1) stay in
      rw (eqb-true bit 511 parts.0, eqb-true width 1 parts.1) (sym (own (field_value new 511 1)))
  row_kept Reserved bit width stay held = keep bit width (leb-true (bit + width) 511 stay) ∙ held
  row_kept name bit width stay held = keep bit width (leb-true (bit + width) 511 stay) ∙ held ∙ same (field_value old 511 1) (field_value new 511 1) name refl

  rows_kept : (rs : List FieldRow) → list_all stays rs ≡ true
      → AllByRecursion (λ r. field_value old r.bit r.width ≡ value_in (values (field_value old 511 1)) r) rs
      → AllByRecursion (λ r. field_value new r.bit r.width ≡ value_in (values (field_value new 511 1)) r) rs
  rows_kept [] stay held = tt
  rows_kept (r ∷ rs) stay held =
      let parts = and_parts (stays r) (list_all stays rs) stay in
      (row_kept r.name r.bit r.width parts.0 held.0, rows_kept rs parts.1 held.1)

cqe_same : (c : Cqe) (a b : ℕ) (name : FieldName) → is_owner name ≡ false → cqe_field c a name ≡ cqe_field c b name
cqe_same c a b Owner other = absurd (cc)
cqe_same c a b _ other = refl

eqe_same : (e : EventRecord) (a b : ℕ) (name : FieldName) → is_owner name ≡ false → eqe_field e a name ≡ eqe_field e b name
eqe_same e a b Owner other = absurd (cc)
eqe_same e a b _ other = refl

module _ (words : List ℕ) (owner : ℕ) (eight : length words ≡ 8) (clear : slice_index words 7 % 2 ≡ 0) (bit : owner < 2) where
  keep : (first width : ℕ) → first + width ≤ 511 → field_value (entry_bytes (with_owner words owner)) first width ≡ field_value (entry_bytes words) first width
  keep = apart words owner eight clear bit

  of_layout : (layout : LayoutName) → layout_length layout ≡ 64 → IsBytesOf layout (entry_bytes (with_owner words owner))
  of_layout layout length_64 = record {
    long = long words owner eight clear bit ∙ sym length_64;
    small = entry_bytes-small (with_owner words owner);
  }

  completion_of : (c : Cqe) → IsCqe c (entry_bytes words) → IsCqe c (entry_bytes (with_owner words owner))
  completion_of c is =
      ⊎_elim
      (λ error.
      let rows = rw error at is.fields in
      record {
        value = is.value;
        bytes_of = rw error (of_layout CqeErr refl);
        fields = rw error (rows_kept (cqe_field c) (cqe_same c) (λ _. refl) (entry_bytes words) (entry_bytes (with_owner words owner)) keep (layout_rows CqeErr) refl rows);
      })
      (λ success.
      let rows = rw success at is.fields in
      record {
        value = is.value;
        bytes_of = rw success (of_layout CqeLayout refl);
        fields = rw success (rows_kept (cqe_field c) (cqe_same c) (λ _. refl) (entry_bytes words) (entry_bytes (with_owner words owner)) keep (layout_rows CqeLayout) refl rows);
      })
      (cases_Bool (is_error c.opcode))

  event_of : (e : EventRecord) → IsEqe e (entry_bytes words) → IsEqe e (entry_bytes (with_owner words owner))
  event_of (Completion cq) is = record {
    bytes_of = of_layout EqeCq refl;
    fields = rows_kept (eqe_field (Completion cq)) (eqe_same (Completion cq)) (λ _. refl) (entry_bytes words) (entry_bytes (with_owner words owner)) keep (layout_rows EqeCq) refl is.fields;
  }
  event_of (CqError cq) is = record {
    bytes_of = of_layout EqeError refl;
    fields = rows_kept (eqe_field (CqError cq)) (eqe_same (CqError cq)) (λ _. refl) (entry_bytes words) (entry_bytes (with_owner words owner)) keep (layout_rows EqeError) refl is.fields;
  }

pub completion_apart : (c : Cqe) (words : List ℕ) (owner : ℕ) → length words ≡ 8 → slice_index words 7 % 2 ≡ 0 → owner < 2 → IsCqe c (entry_bytes words) → IsCqe c (entry_bytes (with_owner words owner))
completion_apart c words owner eight clear bit = completion_of words owner eight clear bit c

pub event_apart : (e : EventRecord) (words : List ℕ) (owner : ℕ) → length words ≡ 8 → slice_index words 7 % 2 ≡ 0 → owner < 2 → IsEqe e (entry_bytes words) → IsEqe e (entry_bytes (with_owner words owner))
event_apart e words owner eight clear bit = event_of words owner eight clear bit e
