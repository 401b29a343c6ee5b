-- A text that is written piece by piece.
use Rattle.std.proofs.Common.{ℕ, ◌≡◌, ◌+◌, ◌-◌, List, ◌++◌, length, take, drop, sym, ap, ◌∙◌, arith, length-drop}
use Rattle.std.proofs.lemmas.List.{take_all}
use Rattle.std.proofs.Math.Seq.{take-add}

-- the front that was written, and then the first n of the rest
pub take-rest : (written n : ℕ) (text : List ℕ) → take written text ++ take n (take (length text - written) (drop written text)) ≡ take (written + n) text
take-rest written n text =
    let whole = take_all (length text - written) (drop written text) (omega (arith, length-drop written text)) in
    ap (λ rest. take written text ++ take n rest) whole ∙ sym (take-add written n text)
