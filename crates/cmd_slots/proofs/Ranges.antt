-- Parts of a list of words, and what is left of them when others are written.
use Rattle.std.proofs.Common.{◌≡◌, ℕ, ◌+◌, ◌-◌, ◌*◌, ◌<◌, ◌≤◌, inl, inr, ap, sym, ◌∙◌, subst, arith, List, ◌++◌, length, take, drop}
use Rattle.std.proofs.lemmas.List.{take-take, drop-take, take_at, drop_at, length-take-le}
use Rattle.std.proofs.lemmas.Slice.{take-put_mid_below}
use Rattle.std.proofs.lemmas.Bool.{cases_lt}
use borrow.Rule.Slice.PartMut.{put_mid, post_of}
use Rattle.cmd_slots.specs.Bytes.{bytes_of}

-- a part of what two lists have in common
pub range_kept : (xs ys : List ℕ) (front from count : ℕ) → take front xs ≡ take front ys → from + count ≤ front → take count (drop from xs) ≡ take count (drop from ys)
range_kept xs ys front from count same inside = at_front xs ∙ ap (λ zs. take count (drop from zs)) same ∙ sym (at_front ys) where
  at_front : (zs : List ℕ) → take count (drop from zs) ≡ take count (drop from (take front zs))
  at_front zs =
      let split : from + (front - from) ≡ front = omega arith in
      let dropped : drop from (take front zs) ≡ take (front - from) (drop from zs) = ap (λ n. drop from (take n zs)) (sym split) ∙ drop-take from (front - from) zs in
      sym (ap (take count) dropped ∙ take-take count (front - from) (drop from zs) (omega arith))

pub take_kept : (xs ys : List ℕ) (front count : ℕ) → take front xs ≡ take front ys → count ≤ front → take count xs ≡ take count ys
take_kept xs ys front count same inside = sym (take-take count front xs inside) ∙ ap (take count) same ∙ take-take count front ys inside

-- the part that was written
pub range_put : (xs ys : List ℕ) (from k count : ℕ) → from ≤ length xs → length ys ≡ count → take count (drop from (put_mid from k xs ys)) ≡ ys
range_put xs ys from k count inside long =
    ap (take count) (drop_at (take from xs) (ys ++ post_of from k xs) from (length-take-le from xs inside)) ∙ take_at ys (post_of from k xs) count long

-- blocks of 72 words behind a head, written one after another
pub record Written (head : ℕ) (words old : List ℕ) (P : ℕ → List ℕ → Type 0) (count : ℕ) : Type 0 where
  pub before : take head words ≡ take head old
  pub each : (b : ℕ) → b < count → P b (bytes_of (take 72 (drop (head + 72 * b) words)))

pub Written_more : (head : ℕ) (words old block : List ℕ) (P : ℕ → List ℕ → Type 0) (count k : ℕ) → head + 72 * count ≤ length words → length block ≡ 72 → P count (bytes_of block) → Written head words old P count → Written head (put_mid (head + 72 * count) k words block) old P (count + 1)
Written_more head words old block P count k inside long is w =
    let from = head + 72 * count in
    let new = put_mid from k words block in
    let front : take from new ≡ take from words = take-put_mid_below from k words block from (omega arith) inside in
    record {
      before = take_kept new words from head front (omega arith) ∙ w.before;
      each = λ b low. elim (cases_lt b count) [
        | inl earlier ↦ subst (λ (ws : List ℕ). P b (bytes_of ws)) (sym (range_kept new words from (head + 72 * b) 72 front (omega arith))) (w.each b earlier)
        | inr last ↦
            let same : count ≡ b = omega arith in
            subst (λ (n : ℕ). P n (bytes_of (take 72 (drop (head + 72 * n) new)))) same (subst (λ (ws : List ℕ). P count (bytes_of ws)) (sym (range_put words block from k 72 inside long)) is)
      ];
    }
