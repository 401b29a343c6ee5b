-- One operation of a user keeps what ties words, users and arena, and what it says is a step of the arena.
use Rattle.std.proofs.Common.{◌≡◌, ◌≢◌, ℕ, ◌+◌, ap, sym, ◌∙◌, arith, inl, inr, Option}
use Rattle.std.proofs.lemmas.Bool.{cases_eq}
use Rattle.bus_core.specs.declared.operation.BusEntry.{BusEntry}
use Rattle.bus_core.specs.Operation.{loaded, stored}
use Rattle.bus_core.specs.Trace.{Memory, after_entry, Tells}
use Rattle.bus_core.proofs.Weaving as weaving
use Rattle.bus_core.proofs.Words.{elsewhere, load_keeps, load_tells, swap_leaves, swap_tells}
use Rattle.mem_cells.specs.Cell.{Cell, cell_of}
use Rattle.mem_cells.specs.Place.{ArenaPlace, cell_at}
use Rattle.mem_cells.specs.Arena.{Arena, CellEvent, Wrote, MayHappen, after_event, put}
use Rattle.mem_cells.specs.Mark.{CellMark, Read, Write, Foreign}
use Rattle.mem_cells.specs.User.{User, MayRead, MayWrite, MayUse, after_use, use_says}
use Rattle.mem_cells.proofs.Words.{put_here, put_there}
use Rattle.mem_cells.proofs.Tied.{Tied, Tied_kept}

-- what an operation makes of this, with what it says
abbrev pub Goes : ArenaPlace → Memory → (ℕ → User) → Arena → Option CellEvent → Type 0
Goes place = weaving.Goes (MayHappen place.cells) after_event (Tied place)

-- the users after an operation of this actor's
abbrev pub users_after : ℕ → CellMark → (ℕ → User) → ℕ → User
users_after actor mark users = put actor (after_use (users actor) mark) users

-- a user that is as it was
same_users : (place : ArenaPlace) (m : Memory) (users : ℕ → User) (arena : Arena) (actor : ℕ) → Tied place m users arena → Tied place m (put actor (users actor) users) arena
same_users place m users arena actor t = record {
  each_cell = t.each_cell;
  each_user = λ other. elim (cases_eq actor other) [
    | inl same ↦ put_here actor other (users actor) users same ∙ (ap users same ∙ t.each_user other)
    | inr differs ↦ put_there actor other (users actor) users differs ∙ t.each_user other
  ];
}

read_step : (place : ArenaPlace) (m : Memory) (users : ℕ → User) (arena : Arena) (actor cell : ℕ) (e : BusEntry) → Tied place m users arena → Tells m e → MayRead place cell e → Goes place (after_entry m e) (users_after actor (Read cell) users) arena (use_says (Read cell) e)
read_step place m users arena actor cell e t tells may =
    let same : (a : ℕ) → after_entry m e a ≡ m a = λ a. load_keeps m e a may.load.op in
    let found : cell_of (loaded e) ≡ arena.cells cell = ap cell_of (load_tells m e (cell_at place cell) tells may.load.op may.load.at_address) ∙ t.each_cell cell may.inside in
    ((may.inside, found), same_users place (after_entry m e) users arena actor (Tied_kept place m (after_entry m e) users arena (λ a inside. same a) t))

module _ (place : ArenaPlace) (m : Memory) (users : ℕ → User) (arena : Arena) (actor cell : ℕ) (e : BusEntry)
    (t : Tied place m users arena) (tells : Tells m e) (may : MayWrite place (users actor) cell e) where
  abbrev left : Cell
  left = cell_of (stored e)

  abbrev found : Cell
  found = cell_of (loaded e)

  writer_is : left.writer ≡ actor
  writer_is = may.writer ∙ ap (λ u. u.writer) (t.each_user actor)

  writes_are : left.count ≡ arena.writes actor + 1
  writes_are = may.count ∙ ap (λ u. u.writes + 1) (t.each_user actor)

  write_step : Goes place (after_entry m e) (users_after actor (Write cell) users) arena (use_says (Write cell) e)
  write_step =
      let here : after_entry m e (cell_at place cell) ≡ stored e = swap_leaves m e (cell_at place cell) (stored e) may.swap.op may.swap.at_address in
      let was : found ≡ arena.cells cell = ap cell_of (swap_tells m e (cell_at place cell) (stored e) tells may.swap.op may.swap.at_address) ∙ t.each_cell cell may.inside in
      let next : left.count ≡ arena.writes left.writer + 1 = writes_are ∙ ap (λ w. arena.writes w + 1) (sym writer_is) in (
        (may.inside, was, next),
        record {
          each_cell = λ other inside. elim (cases_eq cell other) [
            | inl same ↦ ap (λ c. cell_of (after_entry m e (cell_at place c))) (sym same) ∙ (ap cell_of here ∙ sym (put_here cell other left arena.cells same))
            | inr differs ↦
                let apart : e.addr ≢ cell_at place other = λ h. differs (let h' : cell_at place cell ≡ cell_at place other = sym may.swap.at_address ∙ h in omega arith) in
                ap cell_of (elsewhere m e (cell_at place other) apart) ∙ (t.each_cell other inside ∙ sym (put_there cell other left arena.cells differs))
          ];
          each_user = λ other. elim (cases_eq actor other) [
            | inl same ↦
                let count : (after_event arena (Wrote cell left found)).writes other ≡ left.count = put_here left.writer other left.count arena.writes (writer_is ∙ same) in
                put_here actor other (after_use (users actor) (Write cell)) users same
                ∙ (λ i. record { writer = (ap (λ u. u.writer) (t.each_user actor) ∙ same) i; writes = (ap (λ u. u.writes + 1) (t.each_user actor) ∙ (sym writes_are ∙ sym count)) i })
            | inr differs ↦
                put_there actor other (after_use (users actor) (Write cell)) users differs
                ∙ (t.each_user other ∙ ap (λ (n : ℕ). record { writer = other; writes = n }) (sym (put_there left.writer other left.count arena.writes (λ h. differs (sym writer_is ∙ h)))))
          ];
        },
      )

pub user_step : (place : ArenaPlace) (m : Memory) (users : ℕ → User) (arena : Arena) (actor : ℕ) (mark : CellMark) (e : BusEntry) → Tied place m users arena → Tells m e → MayUse place (users actor) mark e → Goes place (after_entry m e) (users_after actor mark users) arena (use_says mark e)
user_step place m users arena actor (Read cell) e t tells may = read_step place m users arena actor cell e t tells may
user_step place m users arena actor (Write cell) e t tells may = write_step place m users arena actor cell e t tells may
user_step place m users arena actor Foreign e t tells may = absurd may
