-- Inline segments.
use Rattle.std.proofs.Common.{◌≡◌, ℕ, ◌+◌, ◌-◌, ◌*◌, ◌<◌, ◌≤◌, ◌==◌, nat_le, Bool, true, cond, Some, None, List, [], ◌∷◌, ◌++◌, length, take, drop, replicate, refl, sym, ap, ◌∙◌, arith, length-append, length-drop, append-nil, inl}
use Rattle.std.specs.List.{list_all}
use Rattle.std.proofs.lemmas.Bool.{and_parts, eqb-true, leb-true}
use Rattle.std.proofs.lemmas.List.{take_at, drop_at, drop-take, drop-drop, take-append-drop, take-replicate, take-take, length-take-le, drop-replicate}
use borrow.Rule.Slice.PartMut.{put_mid}
use Rattle.prm_fields.specs.Bits.{field_value}
use Rattle.prm_fields.specs.Spelling.{Spells}
use Rattle.prm_fields.specs.declared.layout.LayoutName.TheVariants.{Inline as InlineLayout}
use Rattle.prm_fields.proofs.Parts.{field_value-take}
use Rattle.work_entries.specs.Filled.{filled}
use Rattle.work_entries.specs.Unit.{unit, units, KeepsOtherWords}
use Rattle.work_entries.specs.Body.{HasInline, begins_inline, inline_count, inline_values, inline_units}
use Rattle.work_entries.specs.Found.{IsInlineOf}
use Rattle.work_entries.specs.declared.fault.EntryRule.TheVariants.{Reserved}
use Rattle.prm_fields.specs.Refusal.{first_refusal}
use Rattle.work_entries.specs.Rules.{has_inline_size, inline_rules}
use Rattle.work_entries.proofs.Words.{length-unit, length-units, units_front, units_more, units_same, unit_kept}
use Rattle.std.proofs.lemmas.Slice.{take-put_mid}
use Rattle.std.proofs.Math.Seq.{take-append-add, take-add}

-- bytes that are all 0
pub all_zero : (bytes : List ℕ) → list_all (λ b. b == 0) bytes ≡ true → bytes ≡ replicate (length bytes) 0
all_zero [] zeros = refl
all_zero (b ∷ bytes) zeros =
    let parts = and_parts (b == 0) (list_all (λ b. b == 0) bytes) zeros in
    ap (λ n. n ∷ bytes) (eqb-true b 0 parts.0) ∙ ap (λ r. 0 ∷ r) (all_zero bytes parts.1)

-- 64 bytes that begin with a head spell it
pub head_of : (head rest : List ℕ) (count : ℕ) → length head ≡ 4 → Spells InlineLayout (inline_values count) head → Spells InlineLayout (inline_values count) (head ++ rest)
head_of head rest count long spelled =
    let same : (first width : ℕ) → first + width ≤ 32 → field_value (head ++ rest) first width ≡ field_value head first width =
    λ first width inside. sym (field_value-take (head ++ rest) 4 first width inside) ∙ ap (λ b. field_value b first width) (take_at head rest 4 long) in
    (same 0 1 (omega arith) ∙ spelled.0, (same 1 31 (omega arith) ∙ spelled.1.0, tt))

-- a head and bytes, copied over zeros
pub segment_copied : (head bytes copied : List ℕ) (size count : ℕ) → length head ≡ 4 → copied ≡ bytes → count ≡ length bytes → put_mid 4 count (head ++ replicate size 0) copied ≡ head ++ filled size 0 bytes
segment_copied head bytes copied size count long is counted =
    let zeros = replicate size 0 in
    ap (λ f. f ++ (copied ++ drop count (drop 4 (head ++ zeros)))) (take_at head zeros 4 long)
    ∙ ap (λ r. head ++ (copied ++ drop count r)) (drop_at head zeros 4 long)
    ∙ ap (λ r. head ++ (copied ++ r)) (drop-replicate {X = ℕ} count size 0)
    ∙ ap (λ b. head ++ (b ++ replicate (size - count) 0)) is
    ∙ ap (λ n. head ++ (bytes ++ replicate (size - n) 0)) counted

-- units that hold a segment
module _ (bytes segment words : List ℕ) (k count : ℕ) (short : length bytes ≤ 60) (size : count ≡ inline_units (length bytes)) (stored : units words k count ≡ take (16 * count) segment) where
  first_unit : unit words k ≡ take 16 segment
  first_unit =
      sym (append-nil (unit words k))
      ∙ sym (units_front words k 1 count (omega arith))
      ∙ ap (take 16) stored
      ∙ take-take 16 (16 * count) segment (omega arith)

  behind : drop 4 segment ≡ filled 60 0 bytes → drop 4 (units words k count) ≡ filled (16 * count - 4) 0 bytes
  behind rest =
      let room : length bytes ≤ 16 * count - 4 = omega arith in
      let whole : 16 * count ≡ 4 + (16 * count - 4) = omega arith in
      let split : 16 * count - 4 ≡ length bytes + (16 * count - 4 - length bytes) = omega arith in
      let fewer : 16 * count - 4 - length bytes ≤ 60 - length bytes = omega arith in
      ap (drop 4) stored
      ∙ ap (λ n. drop 4 (take n segment)) whole
      ∙ drop-take 4 (16 * count - 4) segment
      ∙ ap (take (16 * count - 4)) rest
      ∙ ap (λ n. take n (filled 60 0 bytes)) split
      ∙ take-append-add bytes (replicate (60 - length bytes) 0) (16 * count - 4 - length bytes)
      ∙ ap (λ r. bytes ++ r) (take-replicate {X = ℕ} (16 * count - 4 - length bytes) (60 - length bytes) 0 fewer)

  pub written : Spells InlineLayout (inline_values (length bytes)) segment → drop 4 segment ≡ filled 60 0 bytes → HasInline bytes words k
  written head rest =
      let same : (first width : ℕ) → first + width ≤ 128 → field_value (unit words k) first width ≡ field_value segment first width =
      λ first width inside. ap (λ b. field_value b first width) first_unit ∙ field_value-take segment 16 first width inside in
      record {
        head = (same 0 1 (omega arith) ∙ head.0, (same 1 31 (omega arith) ∙ head.1.0, tt));
        rest = rw (← size) (behind rest);
      }

-- an inline segment of n bytes in `count` units from unit k on: of the four units that are read, the bytes, and what they leave
module _ (words segment found rest : List ℕ) (k count n : ℕ) (counted : n ≡ inline_count (unit words k)) (sized : has_inline_size n count ≡ true)
    (four : segment ≡ units words k 4)
    (found_is : found ≡ take n (take (16 * count - 4) (drop 4 segment)))
    (rest_is : rest ≡ drop n (take (16 * count - 4) (drop 4 segment))) where
  short : n ≤ 60
  short = leb-true n 60 ((and_parts (nat_le n 60) (inline_units n == count) sized).0)

  size : inline_units n ≡ count
  size = eqb-true (inline_units n) count ((and_parts (nat_le n 60) (inline_units n == count) sized).1)

  -- what is behind the head
  part : List ℕ
  part = drop 4 (units words k count)

  part_is : take (16 * count - 4) (drop 4 segment) ≡ part
  unfolding part
  part_is =
      let whole : 4 + (16 * count - 4) ≡ 16 * count = omega (arith, size) in
      ap (λ s. take (16 * count - 4) (drop 4 s)) four
      ∙ sym (drop-take 4 (16 * count - 4) (units words k 4))
      ∙ ap (λ m. drop 4 (take m (units words k 4))) whole
      ∙ ap (drop 4) (units_front words k count 4 (omega (arith, size, short)))

  length-part : length part ≡ 16 * count - 4
  unfolding part
  length-part = length-drop 4 (units words k count) ∙ omega (arith, length-units words k count)

  left_is : list_all (λ b. b == 0) (drop (4 + n) (units words k count)) ≡ list_all (λ b. b == 0) rest
  unfolding part
  left_is = ap (list_all (λ b. b == 0)) (sym (drop-drop n 4 (units words k count)) ∙ ap (drop n) (sym part_is) ∙ sym rest_is)

  -- the second rule is judged where the first holds
  pub judged : (clear : Bool) → clear ≡ list_all (λ b. b == 0) rest
      → first_refusal (inline_rules words k count) ≡ cond clear None (Some (record { unit = k + count - 1; why = Reserved }))
  judged clear is = rw (← counted, sized, left_is, ← is) refl

  pub read : begins_inline (unit words k) ≡ true → list_all (λ b. b == 0) rest ≡ true → IsInlineOf found words k count
  unfolding part
  read begins zeros =
      let front : found ≡ take n part = found_is ∙ ap (take n) part_is in
      let back : rest ≡ drop n part = rest_is ∙ ap (drop n) part_is in
      let long : length found ≡ n = ap length front ∙ length-take-le n part (omega (arith, length-part, size)) in
      let units_are : inline_units (length found) ≡ count = ap inline_units long ∙ size in
      let filler : length rest ≡ 16 * count - 4 - length found = ap length back ∙ omega (arith, length-part, long, length-drop n part) in
      let whole : part ≡ filled (16 * count - 4) 0 found =
      sym (take-append-drop n part)
      ∙ ap (λ f. f ++ drop n part) (sym front)
      ∙ ap (λ r. found ++ r) (sym back ∙ all_zero rest zeros)
      ∙ ap (λ m. found ++ replicate m 0) filler in
      record {
        most = omega (arith, long, short);
        size = units_are;
        spelled = record {
          head = (eqb-true (field_value (unit words k) 0 1) 1 begins, (sym counted ∙ sym long, tt));
          rest = rw units_are whole;
        };
      }

-- one more unit, copied behind the others
module _ (words segment part : List ℕ) (first i : ℕ) (long : length segment ≡ 64) (inside : i < 4) (is : part ≡ unit words (first + i)) where
  part_long : length part ≡ 16
  part_long = ap length is ∙ length-unit words (first + i)

  pub copied_more : take (16 * i) segment ≡ units words first i → take (16 * (i + 1)) (put_mid (16 * i) (16 * i + 16 - 16 * i) segment part) ≡ units words first (i + 1)
  copied_more earlier =
      let end : 16 * (i + 1) ≡ 16 * i + length part = omega (arith, part_long) in
      take-put_mid (16 * i) (16 * i + 16 - 16 * i) segment part (16 * (i + 1)) end (omega arith)
      ∙ ap (λ u. u ++ part) earlier
      ∙ ap (λ u. units words first i ++ u) is
      ∙ sym (units_more words first i (first + i) refl)

  pub copied_long : length (put_mid (16 * i) (16 * i + 16 - 16 * i) segment part) ≡ 64
  copied_long =
      let behind = drop (16 * i + 16 - 16 * i) (drop (16 * i) segment) in
      length-append (take (16 * i) segment) (part ++ behind)
      ∙ omega (arith, long, part_long, length-append part behind, length-drop (16 * i + 16 - 16 * i) (drop (16 * i) segment), length-drop (16 * i) segment, length-take-le (16 * i) segment (omega arith))

-- one more unit, written behind the others
pub put_more : (old new segment part : List ℕ) (first i : ℕ) → KeepsOtherWords old new (2 * (first + i)) 2 → unit new (first + i) ≡ part
    → part ≡ take (16 * i + 16 - 16 * i) (drop (16 * i) segment) → units old first i ≡ take (16 * i) segment
    → units new first (i + 1) ≡ take (16 * (i + 1)) segment
put_more old new segment part first i kept stored is earlier =
    let same = units_same old new first i (λ j low high. unit_kept old new (2 * (first + i)) 2 j kept (inl (omega arith))) in
    let width : 16 * i + 16 - 16 * i ≡ 16 = omega arith in
    let end : 16 * i + 16 ≡ 16 * (i + 1) = omega arith in
    units_more new first i (first + i) refl
    ∙ ap (λ u. u ++ unit new (first + i)) (same ∙ earlier)
    ∙ ap (λ u. take (16 * i) segment ++ u) (stored ∙ is)
    ∙ ap (λ n. take (16 * i) segment ++ take n (drop (16 * i) segment)) width
    ∙ sym (take-add (16 * i) 16 segment)
    ∙ ap (λ n. take n segment) end
