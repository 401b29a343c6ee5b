-- The front of a line that is kept says as much as the line.
use Rattle.std.proofs.Common.{◌≡◌, ℕ, Result, Ok, Err, OnOk, is_ok, cond, append_assoc, ◌<◌, ◌≤◌, List, [], ◌∷◌, ◌++◌, length, take, inl, inr, ⊎_elim, sym, subst, ap, ◌∙◌, length-append, arith}
use Rattle.std.proofs.lemmas.List.{length-take, take-append-le, take_all}
use Rattle.mlx5_dump.specs.declared.kind.Kind.{Kind}
use Rattle.mlx5_dump.specs.declared.dump.TheConstants.{LINE_ROOM}
use Rattle.mlx5_dump.specs.Line.{AddsAnswer, IsAnswer, IsDump, IsGood}
use Rattle.mlx5_dump.specs.Feeding.{AddsLine, Keeps}
use Rattle.mlx5_dump.proofs.Dumps.{short_line}

-- one more byte, where there is room for it
pub keeps_more : (n : ℕ) (kept line : List ℕ) (byte : ℕ) → length kept < n → kept ≡ take n line → kept ++ byte ∷ [] ≡ take n (line ++ byte ∷ [])
keeps_more n kept line byte room keeps =
    let long = ap length keeps in
    let short : length line < n = omega (arith, long, length-take n line, room) in
    ap (λ l. l ++ byte ∷ []) (keeps ∙ take_all n line (omega (arith, short))) ∙ sym (take_all n (line ++ byte ∷ []) (omega (arith, length-append line (byte ∷ []), short)))

-- and where there is none
pub keeps_full : (n : ℕ) (kept line : List ℕ) (byte : ℕ) → n ≤ length kept → kept ≡ take n line → kept ≡ take n (line ++ byte ∷ [])
keeps_full n kept line byte full keeps =
    let long = ap length keeps in
    keeps ∙ sym (take-append-le n line (byte ∷ []) (omega (arith, long, length-take n line, full)))

-- a dump is kept whole
dump_whole : (line : List ℕ) (kind : Kind) (bytes : List ℕ) → IsDump kind bytes line → take LINE_ROOM line ≡ line
dump_whole line kind bytes is = take_all LINE_ROOM line (omega (arith, short_line kind bytes line is))

-- and what is kept of no dump is none
front_whole : (line : List ℕ) (kind : Kind) (bytes : List ℕ) → IsDump kind bytes (take LINE_ROOM line) → take LINE_ROOM line ≡ line
front_whole line kind bytes is = take_all LINE_ROOM line (omega (arith, short_line kind bytes (take LINE_ROOM line) is, length-take LINE_ROOM line))

-- the answer to what is kept of a line is that to the line
pub answer_of_line : (kept line answer : List ℕ) → Keeps kept line → IsAnswer kept answer → IsAnswer line answer
answer_of_line kept line answer keeps is =
    ⊎_elim (λ dump. inl (subst (λ l. IsGood l answer) (front_whole line dump.kind dump.bytes (subst (IsDump dump.kind dump.bytes) keeps dump.dump)) (subst (λ l. IsGood l answer) keeps dump)))
    (λ none. inr (record {
      no_dump = λ kind bytes is. none.no_dump kind bytes (subst (IsDump kind bytes) (sym (keeps ∙ dump_whole line kind bytes is)) is);
      answered = none.answered;
    }))
    is

-- what holds of a text that has grown
pub on_ok_grown : {T E : Type 0} (P : List ℕ → Type 0) (result : Result T E) (new old grown : List ℕ) → new ≡ cond (is_ok result) grown old → P grown → OnOk result (P new)
on_ok_grown P (Ok x) new old grown is holds = subst P (sym is) holds
on_ok_grown P (Err e) new old grown is holds = tt

-- a line's answer with its line end, from the answer to what is kept of it
pub adds_line : (kept line old mid : List ℕ) → Keeps kept line → AddsAnswer kept old mid → AddsLine line old (mid ++ 10 ∷ [])
adds_line kept line old mid keeps adds = record {
  answer = adds.answer;
  answered = answer_of_line kept line adds.answer keeps adds.answered;
  grown = ap (λ l. l ++ 10 ∷ []) adds.grown ∙ append_assoc old adds.answer (10 ∷ []);
}

-- what holds anyway
pub on_ok_given : {T E : Type 0} (P : Type 0) (result : Result T E) → P → OnOk result P
on_ok_given P (Ok x) holds = holds
on_ok_given P (Err e) holds = tt
