-- A list in an array of fixed size, and one more item.
use Rattle.std.proofs.Common.{◌≡◌, ℕ, suc, ◌+◌, ◌-◌, ◌<◌, ◌≤◌, List, [], ◌∷◌, ◌++◌, length, take, drop, replicate, slice_set, sym, ap, ◌∙◌, arith, add-one, append_assoc, length-append}
use Rattle.std.proofs.lemmas.List.{take_more_set, set_split, drop-drop, drop_at, drop-replicate, length-take-le, take_at, length-drop, length-replicate}
use Rattle.work_entries.specs.Filled.{filled}

module _ {T : Type 0} (size count : ℕ) (rest y : T) (items : List T)
    (long : length items ≡ size) (room : count < size) (full : items ≡ filled size rest (take count items)) where
  front : length (take count items) ≡ count
  front = length-take-le count items (omega arith)

  -- what stands behind the place that is written
  behind : drop (suc count) items ≡ replicate (size - suc count) rest
  behind =
      let filler = replicate (size - length (take count items)) rest in
      let split : drop (count + 1) items ≡ drop 1 (drop count items) = sym (drop-drop 1 count items) in
      let after : drop count items ≡ filler = ap (drop count) full ∙ drop_at (take count items) filler count front in
      let fewer : size - length (take count items) - 1 ≡ size - suc count = omega (arith, front) in
      ap (λ n. drop n items) (sym (add-one count)) ∙ split ∙ ap (drop 1) after
      ∙ drop-replicate 1 (size - length (take count items)) rest ∙ ap (λ n. replicate n rest) fewer

  pub filled_more : slice_set items count y ≡ filled size rest (take (count + 1) (slice_set items count y))
  filled_more =
      let now = take count items ++ y ∷ [] in
      let left : size - suc count ≡ size - length now = omega (arith, length-append (take count items) (y ∷ []), front) in
      set_split items count y (omega arith)
      ∙ ap (λ r. take count items ++ y ∷ r) behind
      ∙ sym (append_assoc (take count items) (y ∷ []) (replicate (size - suc count) rest))
      ∙ ap (λ n. now ++ replicate n rest) left
      ∙ ap (filled size rest) (sym (take_more_set items count y (omega arith)))

-- an array of one value, over whose first items others are copied
module _ {T : Type 0} (size : ℕ) (rest : T) (part : List T) (count : ℕ) (long : length part ≡ count) (short : count ≤ size) where
  copied : List T
  copied = part ++ drop count (replicate size rest)

  whole : copied ≡ filled size rest part
  unfolding copied
  whole = ap (λ r. part ++ r) (drop-replicate count size rest ∙ ap (λ n. replicate (size - n) rest) (sym long))

  pub filled_copy : part ++ drop count (replicate size rest) ≡ filled size rest (take count (part ++ drop count (replicate size rest)))
  unfolding copied
  filled_copy = whole ∙ ap (filled size rest) (sym (take_at part (drop count (replicate size rest)) count long))

  pub length_copy : length (part ++ drop count (replicate size rest)) ≡ size
  length_copy = length-append part (drop count (replicate size rest)) ∙ omega (arith, length-drop count (replicate size rest), length-replicate size rest)
