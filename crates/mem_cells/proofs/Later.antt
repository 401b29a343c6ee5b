-- What later events leave of a cell: the same, or one that no write so far had left.
use Rattle.std.proofs.Common.{◌≡◌, ℕ, ◌+◌, ◌<◌, ◌≤◌, inl, inr, refl, ap, sym, ◌∙◌, subst, arith, List, [], ◌∷◌, ◌++◌, ◌⊎◌, append_assoc}
use Rattle.std.specs.List.{AllByRecursion, Contains, fold}
use Rattle.std.proofs.lemmas.Bool.Decides.{eqb_tells}
use Rattle.std.proofs.lemmas.List.Elements.{Contains-append_right}
use Rattle.bus_core.proofs.Lists.{AllByRecursion-push}
use Rattle.mem_cells.specs.Cell.{Cell}
use Rattle.mem_cells.specs.Arena.{Arena, empty_arena, CellEvent, Saw, Wrote, MayHappen, after_event, IsLegal}
use Rattle.mem_cells.specs.Keeps.{LeavesAlone, NamesOneWrite}
use Rattle.mem_cells.proofs.Histories.{Follows_parts, kept_along}
use Rattle.mem_cells.proofs.Kept.{Kept, kept_step, grows, up_to}

-- an arena after these events from an earlier one on, at a cell: nobody wrote it, or its writer had not made that write before
pub record Later (cell : ℕ) (base : Arena) (between : List CellEvent) (now : Arena) : Type 0 where
  pub more : (writer : ℕ) → base.writes writer ≤ now.writes writer
  pub cases : ((now.cells cell ≡ base.cells cell) × AllByRecursion (LeavesAlone cell) between) ⊎ (base.writes (now.cells cell).writer < (now.cells cell).count)

pub later_start : (cell : ℕ) (base : Arena) → Later cell base [] base
later_start cell base = record { more = λ writer. omega arith; cases = inl (refl, tt) }

pub later_step : (size cell : ℕ) (base : Arena) (between : List CellEvent) (now : Arena) (e : CellEvent) → Later cell base between now → MayHappen size now e → Later cell base (between ++ e ∷ []) (after_event now e)
later_step size cell base between now (Saw other found) t may = record {
  more = t.more;
  cases = elim t.cases [
    | inl s ↦ inl (s.0, AllByRecursion-push (LeavesAlone cell) between (Saw other found) s.1 tt)
    | inr h ↦ inr h
  ];
}
later_step size cell base between now (Wrote other left found) t may = record {
  more = λ writer. omega (arith, t.more writer, grows size now (Wrote other left found) may writer);
  cases = elim (eqb_tells other cell) [
    | inl same ↦ rw same.0 (inr (omega (arith, may.2, t.more left.writer)))
    | inr differs ↦ rw differs.0 (elim t.cases [
      | inl s ↦ inl (s.0, AllByRecursion-push (LeavesAlone cell) between (Wrote other left found) s.1 differs.1)
      | inr h ↦ inr h
    ])
  ];
}

-- two events of a legal history
record Both (size : ℕ) (before between : List CellEvent) (first second : CellEvent) (cell : ℕ) : Type 0 where
  base : Arena
  now : Arena
  kept : Kept before base
  may : MayHappen size base first
  since : Kept (before ++ first ∷ between) now
  later : Later cell (after_event base first) between now
  may_then : MayHappen size now second

both : (size : ℕ) (before between after : List CellEvent) (first second : CellEvent) (cell : ℕ) → IsLegal size empty_arena (before ++ first ∷ (between ++ second ∷ after)) → Both size before between first second cell
both size before between after first second cell legal =
    let u = up_to size before (between ++ second ∷ after) first legal in
    let base : Arena = after_event u.arena first in
    let kept : Kept (before ++ first ∷ []) base = kept_step size before u.arena first u.kept u.may in
    let parts = Follows_parts (MayHappen size) after_event base between (second ∷ after) u.rest in
    let now : Arena = fold after_event base between in
    record {
      base = u.arena;
      now = now;
      kept = u.kept;
      may = u.may;
      since = subst (λ (es : List CellEvent). Kept es now) (append_assoc before (first ∷ []) between) (kept_along (MayHappen size) after_event Kept (kept_step size) (before ++ first ∷ []) base between kept parts.0);
      later = kept_along (MayHappen size) after_event (Later cell base) (later_step size cell base) [] base between (later_start cell base) parts.0;
      may_then = parts.1.0;
    }

once : (size : ℕ) (before between after : List CellEvent) (cell cell' : ℕ) (left found left' found' : Cell) →
    IsLegal size empty_arena (before ++ Wrote cell left found ∷ (between ++ Wrote cell' left' found' ∷ after)) → left'.writer ≡ left.writer → left.count < left'.count
once size before between after cell cell' left found left' found' legal same =
    let first : CellEvent = Wrote cell left found in
    let b = both size before between after first (Wrote cell' left' found') cell legal in
    let made : Contains (before ++ first ∷ between) first = Contains-append_right before (first ∷ between) first (0, omega arith, refl) in
    omega (arith, b.since.each cell left found made, b.may_then.2, ap b.now.writes same)

unchanged : (size : ℕ) (before between after : List CellEvent) (cell : ℕ) (first second : Cell) →
    IsLegal size empty_arena (before ++ Saw cell first ∷ (between ++ Saw cell second ∷ after)) → second.writer ≡ first.writer → second.count ≡ first.count → (second ≡ first) × AllByRecursion (LeavesAlone cell) between
unchanged size before between after cell first second legal writers counts =
    let b = both size before between after (Saw cell first) (Saw cell second) cell legal in
    elim b.later.cases [
      | inl s ↦ (b.may_then.1 ∙ (s.0 ∙ sym b.may.1), s.1)
      | inr h ↦
          let low : first.count ≤ b.base.writes first.writer = subst (λ (c : Cell). c.count ≤ b.base.writes c.writer) (sym b.may.1) (b.kept.low cell) in
          let high : b.base.writes second.writer < second.count = subst (λ (c : Cell). b.base.writes c.writer < c.count) (sym b.may_then.1) h in
          absurd (omega (arith, low, high, counts, ap b.base.writes writers))
    ]

pub names_one_write : (size : ℕ) → NamesOneWrite size
names_one_write size = record {
  counted = λ before after cell left found legal.
      let u = up_to size before after (Wrote cell left found) legal in
      u.may.2 ∙ ap (λ n. n + 1) (u.kept.counts left.writer);
  once = once size;
  written = λ before after cell found legal positive.
      let u = up_to size before after (Saw cell found) legal in
      subst (λ (c : Cell). 0 < c.count → (old : Cell) × Contains before (Wrote cell c old)) (sym u.may.1) (u.kept.found cell) positive;
  unchanged = unchanged size;
}
