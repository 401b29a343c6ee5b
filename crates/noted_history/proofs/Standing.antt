-- The history that is told so far, and what is left of it.
use Rattle.std.proofs.Common.{◌≡◌, ℕ, suc, inl, inr, Bool, if◌then◌else◌, List, [], ◌∷◌, ◌++◌, map, replicate, Option, Some, None, refl, sym, ap, subst, ◌∙◌, arith, slice_index_or, eq-eqb}
use Rattle.std.specs.List.{cons_option, flat_map}
use Rattle.std.proofs.lemmas.Bool.{cases_lt}
use Rattle.std.proofs.lemmas.Bool.Decides.{eqb_tells}
use Rattle.std.proofs.lemmas.List.{append-nil, append_assoc, get_or-replicate, get_or_past, length-replicate}
use Rattle.bus_core.specs.Follow.{Follows}
use Rattle.bus_core.specs.declared.turn.Note.{Note}
use Rattle.verbs_types.specs.declared.call.Call.{Call}
use Rattle.verbs_types.specs.declared.entry.Entry.{Entry}
use Rattle.verbs_types.specs.declared.entry.What.{What}
use Rattle.verbs_rules.specs.Answered.{Due, MayAnswer, after_answer, due_by, own_entries}
use Rattle.verbs_rules.specs.Legal.{IsLegal}
use Rattle.verbs_rules.specs.State.{Verbs}
use Rattle.verbs_rules.specs.Step.{after_entry}
use Rattle.verbs_model.specs.Tables.{state_of}
use Rattle.noted_history.specs.declared.log.Noted.{Noted}
use Rattle.noted_history.specs.declared.posting.Posting.{Posting}
use Rattle.noted_history.specs.declared.teller.Teller.{Teller}
use Rattle.noted_history.specs.Behind.{IsBehind}
use Rattle.noted_history.specs.Telling.{behind_of, MayOwe, Owes, Tells, MovesOn, Takes}
use Rattle.noted_history.specs.OfNotes.{noted_of, HasNotes}
use Rattle.actor_map.specs.Notes.{Told, AllServe, entries_of}
use Rattle.noted_history.proofs.Posts.{behind_first}

-- A thread may make these entries.
pub record MayMake (programs : List (List Call)) (postings : List Posting) (thread : ℕ) (entries : List What) : Type 0 where
  pub dues : List Due
  pub may_owe : MayOwe programs postings thread dues
  pub answers : Follows MayAnswer after_answer dues entries

-- These entries are left, of which these are the notes.
pub record IsLeft (t : Teller) (programs : List (List Call)) (notes : List Noted) (rest : List Told) : Type 0 where
  pub legal : IsLegal (state_of t.state) (entries_of rest)
  pub made : (thread : ℕ) → MayMake programs t.postings.items thread (own_entries (suc thread) (entries_of rest))
  pub serves : AllServe (state_of t.state) rest
  pub notes_are : notes ≡ map noted_of rest

-- The entries so far are the front of the history.
pub record Stands (t : Teller) (programs : List (List Call)) (notes : List Noted) (history : List Entry) (h : List Told) : Type 0 where
  pub rest : List Told
  pub split : entries_of h ≡ history ++ entries_of rest
  pub left : IsLeft t programs notes rest

-- At first no call is behind.

none_behind : (threads thread : ℕ) → behind_of (replicate threads (record { behind = 0 })) thread ≡ 0
none_behind threads thread = elim (cases_lt thread threads) [
  | inl inside ↦ ap (λ (p : Posting). p.behind) (get_or-replicate threads thread (record { behind = 0 }) (record { behind = 0 }) inside)
  | inr past ↦ ap (λ (p : Posting). p.behind) (get_or_past (replicate threads (record { behind = 0 })) thread (record { behind = 0 }) (omega (arith, past, length-replicate {A = Posting} threads (record { behind = 0 }))))
]

pub stands_first : (t : Teller) (programs : List (List Call)) (notes : List Noted) (v : Verbs) (threads : ℕ) (h : List Told) → HasNotes v programs notes h → state_of t.state ≡ v → t.postings.items ≡ replicate threads (record { behind = 0 }) → Stands t programs notes [] h
stands_first t programs notes v threads h told state_is postings_are = record {
  rest = h;
  split = refl;
  left = record {
    legal = subst (λ (w : Verbs). IsLegal w (entries_of h)) (sym state_is) told.legal;
    serves = subst (λ (w : Verbs). AllServe w h) (sym state_is) told.serves;
    made = λ thread. record {
      dues = flat_map due_by (slice_index_or programs thread []);
      may_owe = subst (λ n. IsBehind (slice_index_or programs thread []) n (flat_map due_by (slice_index_or programs thread []))) (sym (ap (λ (ps : List Posting). behind_of ps thread) postings_are ∙ none_behind threads thread)) (behind_first (slice_index_or programs thread []));
      answers = told.answered thread;
    };
    notes_are = told.notes_are;
  };
}

-- The next entry is what the next note tells.

pub record IsNextOf (t : Teller) (programs : List (List Call)) (n : Noted) (notes : List Noted) (rest : List Told) : Type 0 where
  pub told : Told
  pub later : List Told
  pub rest_is : rest ≡ told ∷ later
  pub tells : Tells t programs n told
  pub legal : IsLegal (after_entry (state_of t.state) told.entry) (entries_of later)
  pub made : (thread : ℕ) → MayMake programs t.postings.items thread (own_entries (suc thread) (told.entry ∷ entries_of later))
  pub serves : AllServe (after_entry (state_of t.state) told.entry) later
  pub notes_are : notes ≡ map noted_of later

owes_next : (programs : List (List Call)) (postings : List Posting) (thread : ℕ) (e : Entry) (later : List Entry) → MayMake programs postings thread (own_entries (suc thread) (e ∷ later)) → e.actor ≡ suc thread → Owes programs postings thread e.what
owes_next programs postings thread e later may by =
    let answers = subst (λ (b : Bool). Follows MayAnswer after_answer may.dues (if b then e.what ∷ own_entries (suc thread) later else own_entries (suc thread) later)) (eq-eqb e.actor (suc thread) by) may.answers in
    record { dues = may.dues; may_owe = may.may_owe; answers = answers.0 }

next_by_notes : (t : Teller) (programs : List (List Call)) (n : Noted) (notes : List Noted) (rest : List Told) → IsLegal (state_of t.state) (entries_of rest) → ((thread : ℕ) → MayMake programs t.postings.items thread (own_entries (suc thread) (entries_of rest))) → AllServe (state_of t.state) rest → n ∷ notes ≡ map noted_of rest → IsNextOf t programs n notes rest
next_by_notes t programs n notes [] legal made serves are = absurd cc
next_by_notes t programs n notes (told ∷ later) legal made serves are =
    let first : n ≡ noted_of told = cc in
    let others : notes ≡ map noted_of later = cc in
    record {
      told = told;
      later = later;
      rest_is = refl;
      tells = record { may = legal.0; serves = serves.0; noted = first; owed = λ thread by. owes_next programs t.postings.items thread told.entry (entries_of later) (made thread) by };
      legal = legal.1;
      made = made;
      serves = serves.1;
      notes_are = others;
    }

pub next_of : (t : Teller) (programs : List (List Call)) (n : Noted) (notes : List Noted) (history : List Entry) (h : List Told) → (s : Stands t programs (n ∷ notes) history h) → IsNextOf t programs n notes s.rest
next_of t programs n notes history h s = next_by_notes t programs n notes s.rest s.left.legal s.left.made s.left.serves s.left.notes_are

-- The entry was taken.

makes_later : (programs : List (List Call)) (old new : List Posting) (thread : ℕ) (e : Entry) (later : List Entry) → MovesOn programs old new e → MayMake programs old thread (own_entries (suc thread) (e ∷ later)) → MayMake programs new thread (own_entries (suc thread) later)
makes_later programs old new thread e later moves may =
    elim (eqb_tells e.actor (suc thread)) [
      | inl own ↦
          (let answers = subst (λ (b : Bool). Follows MayAnswer after_answer may.dues (if b then e.what ∷ own_entries (suc thread) later else own_entries (suc thread) later)) own.0 may.answers in
          record { dues = after_answer may.dues e.what; may_owe = moves.own thread may.dues own.1 may.may_owe answers.0; answers = answers.1 })
      | inr other ↦
          (let answers = subst (λ (b : Bool). Follows MayAnswer after_answer may.dues (if b then e.what ∷ own_entries (suc thread) later else own_entries (suc thread) later)) other.0 may.answers in
          record { dues = may.dues; may_owe = subst (λ n. IsBehind (slice_index_or programs thread []) n may.dues) (sym (moves.others thread other.1)) may.may_owe; answers = answers })
    ]

pub stands_next : (t t' : Teller) (programs : List (List Call)) (n : Noted) (notes : List Noted) (history : List Entry) (h rest : List Told) (next : IsNextOf t programs n notes rest) (entry : Entry) → entries_of h ≡ history ++ entries_of rest → Takes t t' programs next.told.entry entry → Stands t' programs notes (history ++ entry ∷ []) h
stands_next t t' programs n notes history h rest next entry split takes = record {
  rest = next.later;
  split = split ∙ (ap (λ (ts : List Told). history ++ entries_of ts) next.rest_is ∙ (sym (append_assoc history (next.told.entry ∷ []) (entries_of next.later)) ∙ ap (λ (e : Entry). (history ++ e ∷ []) ++ entries_of next.later) (sym takes.told_is)));
  left = record {
    legal = subst (λ (w : Verbs). IsLegal w (entries_of next.later)) (sym takes.state_is) next.legal;
    made = λ thread. makes_later programs t.postings.items t'.postings.items thread next.told.entry (entries_of next.later) takes.moves (next.made thread);
    serves = subst (λ (w : Verbs). AllServe w next.later) (sym takes.state_is) next.serves;
    notes_are = next.notes_are;
  };
}

-- No turn is left.

none_left : (rest : List Told) → [] ≡ map noted_of rest → rest ≡ []
none_left [] are = refl
none_left (told ∷ rest) are = absurd cc

pub all_told : (t : Teller) (programs : List (List Call)) (history : List Entry) (h : List Told) → Stands t programs [] history h → history ≡ entries_of h
all_told t programs history h s = sym (s.split ∙ (ap (λ (ts : List Told). history ++ entries_of ts) (none_left s.rest s.left.notes_are) ∙ append-nil history))
