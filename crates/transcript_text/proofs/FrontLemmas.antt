-- Pieces that are written in front of what stands at the end of a list.
use Rattle.std.proofs.Common.{◌≡◌, ℕ, ◌+◌, ◌-◌, ◌/◌, ◌%◌, ◌≤◌, List, [], ◌∷◌, ◌++◌, length, take, drop, set, sym, ap, ◌∙◌, arith, length-set, append_assoc}
use Rattle.std.proofs.lemmas.List.{set_comm, drop-set, drop-drop, drop-append-le, length-take-le}
use lib.Seq.{drop-append-add}
use borrow.Rule.Slice.PartMut.{put_mid}
use Rattle.scenario_text.specs.Requests.{line, hex, hex_digit}
use Rattle.transcript_text.specs.Fields.{spaced}
use Rattle.transcript_text.proofs.LineLemmas.{joined_fields}
use Rattle.transcript_text.proofs.PairLemmas.{hex_two, hex_none}

-- two items before the place from which the list is read
pub pair_put : (xs old : List ℕ) (start x y : ℕ) → 2 ≤ start → start ≤ length xs → drop start xs ≡ old → drop (start - 2) (set (set xs (start - 2) x) (start - 2 + 1) y) ≡ x ∷ y ∷ old
pair_put xs old start x y least most read =
    let at : ℕ = start - 2 in
    let past : at + 1 + 1 ≡ start = omega arith in
    ap (drop at) (set_comm xs at (at + 1) x y (λ e. omega arith))
    ∙ drop-set (set xs (at + 1) y) at x (omega (arith, length-set xs (at + 1) y))
    ∙ ap (λ ys. x ∷ ys) (drop-set xs (at + 1) y (omega arith) ∙ ap (λ ys. y ∷ ys) (ap (λ n. drop n xs) past ∙ read))

-- the last items of a piece before that place
pub last_put : (xs ys old : List ℕ) (start before room count n : ℕ) → before + n ≡ start → room ≡ n → length ys ≡ n → count ≤ n → start ≤ length xs → drop start xs ≡ old → drop (start - count) (put_mid before room xs ys) ≡ drop (n - count) ys ++ old
last_put xs ys old start before room count n ends fits long few most read =
    let front : length (take before xs) ≡ before = length-take-le before xs (omega arith) in
    let place : start - count ≡ length (take before xs) + (n - count) = omega arith in
    let end : before + room ≡ start = omega arith in
    ap (λ k. drop k (put_mid before room xs ys)) place
    ∙ drop-append-add (take before xs) (ys ++ drop room (drop before xs)) (n - count)
    ∙ drop-append-le (n - count) ys (drop room (drop before xs)) (omega arith)
    ∙ ap (λ zs. drop (n - count) ys ++ zs) (drop-drop room before xs ∙ ap (λ k. drop k xs) end ∙ read)

-- two more digits, before those that are written
pub digits_put : (now new all : List ℕ) (left k k' : ℕ) → k ≡ k' + 2 → new ≡ hex_digit (left % 256 / 16) ∷ hex_digit (left % 256 % 16) ∷ now → hex k left ++ now ≡ all → hex k' (left / 256) ++ new ≡ all
digits_put now new all left k k' more put h = ap (λ t. hex k' (left / 256) ++ t) put ∙ sym (hex_two k k' left now more) ∙ h

-- no digit is left
pub digits_done : (now all : List ℕ) (left k : ℕ) → k ≡ 0 → hex k left ++ now ≡ all → now ≡ all
digits_done now all left k none h = sym (hex_none k left now none) ∙ h

-- a name before the further fields and the end of a line
pub line_put : (name : List ℕ) (fields : List (List ℕ)) → name ++ (spaced fields ++ 10 ∷ []) ≡ line (name ∷ fields)
line_put name fields = sym (append_assoc name (spaced fields) (10 ∷ [])) ∙ ap (λ t. t ++ 10 ∷ []) (sym (joined_fields name fields))
