-- What a legal history of an arena says of bytes, writers and counts.
use Rattle.std.proofs.Common.{◌≡◌, ℕ, ◌<◌, ◌≤◌, inl, inr, refl, ap, sym, ◌∙◌, subst, arith, cond, eqb, List, [], ◌∷◌, ◌++◌, length, length-append}
use Rattle.std.specs.List.{Contains, filter, fold}
use Rattle.std.proofs.lemmas.Bool.Decides.{eqb_tells}
use Rattle.std.proofs.lemmas.List.Elements.{Contains-append_left, Contains-push, Contains-push_cases}
use Rattle.bus_core.proofs.Following.{fold-push}
use Rattle.bus_core.proofs.Lists.{filter_takes_last, filter_skips_last}
use Rattle.mem_cells.specs.Cell.{Cell, unwritten}
use Rattle.mem_cells.specs.Arena.{Arena, empty_arena, CellEvent, Saw, Wrote, MayHappen, after_event, IsLegal}
use Rattle.mem_cells.specs.Keeps.{cell_after, last_left, is_write_by, writes_by, KeepsBytes}
use Rattle.mem_cells.proofs.Histories.{Follows_parts, kept_along}

-- a step takes no write back
pub grows : (size : ℕ) (arena : Arena) (e : CellEvent) → MayHappen size arena e → (writer : ℕ) → arena.writes writer ≤ (after_event arena e).writes writer
grows size arena (Saw cell found) may writer = omega arith
grows size arena (Wrote cell left found) may writer = elim (eqb_tells left.writer writer) [
  | inl t ↦ rw t.0 (omega (arith, may.2, ap arena.writes t.1))
  | inr t ↦ rw t.0 (omega arith)
]

-- an arena after these events
pub record Kept (past : List CellEvent) (arena : Arena) : Type 0 where
  pub last : (cell : ℕ) → arena.cells cell ≡ last_left cell past
  pub counts : (writer : ℕ) → arena.writes writer ≡ writes_by writer past
  -- a cell was written by its writer's write of its count, which that writer has made
  pub low : (cell : ℕ) → (arena.cells cell).count ≤ arena.writes (arena.cells cell).writer
  pub found : (cell : ℕ) → 0 < (arena.cells cell).count → (old : Cell) × Contains past (Wrote cell (arena.cells cell) old)
  pub each : (cell : ℕ) (left found : Cell) → Contains past (Wrote cell left found) → left.count ≤ arena.writes left.writer

seen : (past : List CellEvent) (arena : Arena) (cell : ℕ) (found : Cell) → Kept past arena → Kept (past ++ Saw cell found ∷ []) arena
seen past arena cell found k =
    let e : CellEvent = Saw cell found in
    record {
      last = λ c. k.last c ∙ sym (fold-push (cell_after c) unwritten past e);
      counts = λ w. k.counts w ∙ ap (λ (es : List CellEvent). length es) (sym (filter_skips_last (is_write_by w) past e refl));
      low = k.low;
      found = λ c h. let f = k.found c h in (f.0, Contains-append_left past (e ∷ []) (Wrote c (arena.cells c) f.0) f.1);
      each = λ c left old h. elim (Contains-push_cases past e (Wrote c left old) h) [ inl before ↦ k.each c left old before | inr same ↦ absurd (cc) ];
    }

module _ (size : ℕ) (past : List CellEvent) (arena : Arena) (cell : ℕ) (left old : Cell) (may : MayHappen size arena (Wrote cell left old)) (k : Kept past arena) where
  abbrev e : CellEvent
  e = Wrote cell left old

  abbrev now : Arena
  now = after_event arena e

  counts_after : (writer : ℕ) → now.writes writer ≡ writes_by writer (past ++ e ∷ [])
  counts_after writer = elim (eqb_tells left.writer writer) [
    | inl t ↦ rw t.0 (omega (arith, may.2, ap arena.writes t.1, k.counts writer, ap (λ (es : List CellEvent). length es) (filter_takes_last (is_write_by writer) past e t.0), length-append (filter (is_write_by writer) past) (e ∷ [])))
    | inr t ↦ rw t.0 (k.counts writer ∙ ap (λ (es : List CellEvent). length es) (sym (filter_skips_last (is_write_by writer) past e t.0)))
  ]

  low_after : (c : ℕ) → (now.cells c).count ≤ now.writes (now.cells c).writer
  low_after c = elim (eqb_tells cell c) [
    | inl t ↦ rw t.0 (elim (eqb_tells left.writer left.writer) [ inl s ↦ rw s.0 (omega arith) | inr s ↦ absurd (s.1 refl) ])
    | inr t ↦ rw t.0 (omega (arith, k.low c, grows size arena e may (arena.cells c).writer))
  ]

  found_after : (c : ℕ) → 0 < (now.cells c).count → (was : Cell) × Contains (past ++ e ∷ []) (Wrote c (now.cells c) was)
  found_after c = elim (eqb_tells cell c) [
    | inl t ↦ rw t.0 (λ h. (old, subst (λ (i : ℕ). Contains (past ++ e ∷ []) (Wrote i left old)) t.1 (Contains-push past e)))
    | inr t ↦ rw t.0 (λ h. let f = k.found c h in (f.0, Contains-append_left past (e ∷ []) (Wrote c (arena.cells c) f.0) f.1))
  ]

  written : Kept (past ++ e ∷ []) now
  written = record {
    last = λ c. ap (λ (v : Cell). cond (eqb cell c) left v) (k.last c) ∙ sym (fold-push (cell_after c) unwritten past e);
    counts = counts_after;
    low = low_after;
    found = found_after;
    each = λ c l f h. elim (Contains-push_cases past e (Wrote c l f) h) [
      | inl before ↦ omega (arith, k.each c l f before, grows size arena e may l.writer)
      | inr same ↦
          let is : left ≡ l = cc in
          subst (λ (x : Cell). x.count ≤ now.writes x.writer) is (elim (eqb_tells left.writer left.writer) [ inl s ↦ rw s.0 (omega arith) | inr s ↦ absurd (s.1 refl) ])
    ];
  }

pub kept_step : (size : ℕ) (past : List CellEvent) (arena : Arena) (e : CellEvent) → Kept past arena → MayHappen size arena e → Kept (past ++ e ∷ []) (after_event arena e)
kept_step size past arena (Saw cell found) k may = seen past arena cell found k
kept_step size past arena (Wrote cell left found) k may = written size past arena cell left found may k

start_kept : Kept [] empty_arena
start_kept = record {
  last = λ c. refl;
  counts = λ w. refl;
  low = λ c. omega arith;
  found = λ c h. absurd (omega arith);
  each = λ c left old h. absurd (omega (arith, h.1));
}

-- a legal history up to an event
pub record UpTo (size : ℕ) (past : List CellEvent) (e : CellEvent) (after : List CellEvent) : Type 0 where
  pub arena : Arena
  pub kept : Kept past arena
  pub may : MayHappen size arena e
  pub rest : IsLegal size (after_event arena e) after

pub up_to : (size : ℕ) (before after : List CellEvent) (e : CellEvent) → IsLegal size empty_arena (before ++ e ∷ after) → UpTo size before e after
up_to size before after e legal =
    let parts = Follows_parts (MayHappen size) after_event empty_arena before (e ∷ after) legal in
    record {
      arena = fold after_event empty_arena before;
      kept = kept_along (MayHappen size) after_event Kept (kept_step size) [] empty_arena before start_kept parts.0;
      may = parts.1.0;
      rest = parts.1.1;
    }

pub keeps_bytes : (size : ℕ) → KeepsBytes size
keeps_bytes size = record {
  seen = λ before after cell found legal. let u = up_to size before after (Saw cell found) legal in u.may.1 ∙ u.kept.last cell;
  replaced = λ before after cell left found legal. let u = up_to size before after (Wrote cell left found) legal in u.may.1 ∙ u.kept.last cell;
}
