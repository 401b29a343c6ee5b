-- What a thread still posts, by what it owes and by how many of its calls are behind.
use Rattle.std.proofs.Common.{◌≡◌, ℕ, zero, suc, ◌+◌, ◌<◌, Bool, if◌then◌else◌, List, [], ◌∷◌, ◌++◌, length, map, take, replicate, refl, sym, ap, subst, ◌∙◌, arith, min, eq-eqb}
use Rattle.std.specs.List.{flat_map}
use Rattle.std.proofs.lemmas.Bool.{ne_eqb}
use Rattle.std.proofs.lemmas.List.{take_all}
use Rattle.verbs_types.specs.declared.call.Call.{Call}
use Rattle.verbs_types.specs.declared.completion.Completion.{Completion}
use Rattle.verbs_types.specs.declared.completion.Queue.{Queue}
use Rattle.verbs_types.specs.declared.entry.What.TheVariants.{Post, PostFull, Poll}
use Rattle.verbs_types.specs.declared.request.Item.{Item}
use Rattle.verbs_rules.specs.Answered.{Due, Posting, Accepting, Polling, Draining, Retiring, Acking, MayAnswer, after_answer, due_by, settling, due_in}
use Rattle.verbs_rules.specs.Shape.{Shape, shape_of}
use Rattle.verbs_rules.specs.Shape as shapes
use Rattle.noted_history.specs.Posting.{list_of, lists_from, IsNext, list_in}
use Rattle.noted_history.specs.Behind.{owed_lists, IsCut, IsBehind}

pub cut_same : (ls : List (List Item)) → IsCut ls ls
cut_same [] = tt
cut_same (items ∷ rest) = (length items, sym (take_all (length items) items (omega arith)), refl)

cut_eq : (ls ms : List (List Item)) → ls ≡ ms → IsCut ls ms
cut_eq ls ms e = subst (IsCut ls) e (cut_same ls)

-- what is owed at first
drains_post_none : (n cq : ℕ) (ds : List Due) → owed_lists (replicate n (Draining cq) ++ ds) ≡ owed_lists ds
drains_post_none zero cq ds = refl
drains_post_none (suc n) cq ds = drains_post_none n cq ds

first_in : (shape : Shape) (ds : List Due) (ls : List (List Item)) → owed_lists ds ≡ ls → owed_lists (due_in shape ++ ds) ≡ list_in shape ++ ls
first_in (shapes.Posts queue items) ds ls rest = ap (λ (all : List (List Item)). items ∷ all) rest
first_in (shapes.Takes cq (shapes.Once most)) ds ls rest = rest
first_in (shapes.Takes cq (shapes.Until count)) ds ls rest = drains_post_none count cq ds ∙ rest

first_lists : (cs : List Call) → owed_lists (flat_map due_by cs) ≡ flat_map list_of cs
first_lists [] = refl
first_lists (c ∷ cs) = first_in (shape_of c) (flat_map due_by cs) (flat_map list_of cs) (first_lists cs)

pub behind_first : (cs : List Call) → IsBehind cs 0 (flat_map due_by cs)
behind_first cs = cut_eq (owed_lists (flat_map due_by cs)) (flat_map list_of cs) (first_lists cs)

-- A poll leaves the lists as they are.

retires_none : (xs : List Completion) (cq : ℕ) (ds : List Due) → owed_lists ((map (λ (y : Completion). Retiring y.queue) xs ++ Acking cq ∷ []) ++ ds) ≡ owed_lists ds
retires_none [] cq ds = refl
retires_none (x ∷ xs) cq ds = retires_none xs cq ds

settles_none : (cq : ℕ) (xs : List Completion) (ds : List Due) → owed_lists (settling cq xs ++ ds) ≡ owed_lists ds
settles_none cq [] ds = refl
settles_none cq (x ∷ xs) ds = retires_none (x ∷ xs) cq ds

pub poll_leaves : (ds : List Due) (cq most : ℕ) (xs : List Completion) → MayAnswer ds (Poll cq most xs) → owed_lists (after_answer ds (Poll cq most xs)) ≡ owed_lists ds
poll_leaves [] cq most xs may = absurd may
poll_leaves (Posting q items ∷ ds) cq most xs may = absurd may
poll_leaves (Accepting q items ∷ ds) cq most xs may = absurd may
poll_leaves (Polling c m ∷ ds) cq most xs may = settles_none c xs ds
poll_leaves (Draining c ∷ ds) cq most xs may = settles_none c xs ds
poll_leaves (Retiring q ∷ ds) cq most xs may = absurd may
poll_leaves (Acking c ∷ ds) cq most xs may = absurd may

-- A post

take_again : (k : ℕ) (xs : List Item) → take (length (take k xs)) xs ≡ take k xs
take_again zero xs = refl
take_again (suc k) [] = refl
take_again (suc k) (x ∷ xs) = ap (λ (ys : List Item). x ∷ ys) (take_again k xs)

-- the first list is owed, and the others after it
pub record OwesFirst (ds : List Due) (queue : Queue) (posted : List Item) : Type 0 where
  pub later : List (List Item)
  pub lists : owed_lists ds ≡ posted ∷ later
  pub left : owed_lists (after_answer ds (Post queue posted)) ≡ later

owes_first : (ds : List Due) (queue : Queue) (posted : List Item) → MayAnswer ds (Post queue posted) → OwesFirst ds queue posted
owes_first [] queue posted may = absurd may
owes_first (Posting q items ∷ ds) queue posted may = record { later = owed_lists ds; lists = ap (λ (xs : List Item). xs ∷ owed_lists ds) (sym may.1); left = refl }
owes_first (Accepting q items ∷ ds) queue posted may = record { later = owed_lists ds; lists = ap (λ (xs : List Item). xs ∷ owed_lists ds) (sym may.1); left = refl }
owes_first (Polling c m ∷ ds) queue posted may = absurd may
owes_first (Draining c ∷ ds) queue posted may = absurd may
owes_first (Retiring q ∷ ds) queue posted may = absurd may
owes_first (Acking c ∷ ds) queue posted may = absurd may

-- what is posted is a beginning of the next call's list, which is over
pub record Posts (calls : List Call) (place : ℕ) (items posted : List Item) (after_ds : List Due) : Type 0 where
  pub posted_is : take (length posted) items ≡ posted
  pub behind : IsBehind calls (place + 1) after_ds

pub post_stands : (calls : List Call) (behind place : ℕ) (items : List Item) (ds : List Due) (queue : Queue) (posted : List Item) → MayAnswer ds (Post queue posted) → IsBehind calls behind ds → IsNext calls behind place items
    → Posts calls place items posted (after_answer ds (Post queue posted))
post_stands calls behind place items ds queue posted may stands next =
    let first = owes_first ds queue posted may in
    let cut : IsCut (posted ∷ first.later) (items ∷ lists_from calls (place + 1)) = subst (λ (ls : List (List Item)). IsCut ls (items ∷ lists_from calls (place + 1))) first.lists (subst (IsCut (owed_lists ds)) next.first stands) in
    record {
      posted_is = ap (λ (xs : List Item). take (length xs) items) cut.1 ∙ take_again cut.0 items ∙ sym cut.1;
      behind = cut_eq (owed_lists (after_answer ds (Post queue posted))) (lists_from calls (place + 1)) (first.left ∙ cut.2);
    }

-- where a list is posted, one is left
pub some_left : (calls : List Call) (behind : ℕ) (ds : List Due) (queue : Queue) (posted : List Item) → MayAnswer ds (Post queue posted) → IsBehind calls behind ds → lists_from calls behind ≡ [] → ⊥
some_left calls behind ds queue posted may stands none =
    let first = owes_first ds queue posted may in
    let cut : IsCut (posted ∷ first.later) [] = subst (λ (ls : List (List Item)). IsCut ls []) first.lists (subst (IsCut (owed_lists ds)) none stands) in
    cut

-- A full queue

-- the first list is owed, and after it what was accepted of it
pub record OwesFull (ds : List Due) (queue : Queue) (pending head tail : ℕ) : Type 0 where
  pub items : List Item
  pub later : List (List Item)
  pub lists : owed_lists ds ≡ items ∷ later
  pub some : 0 < pending → owed_lists (after_answer ds (PostFull queue pending head tail)) ≡ take pending items ∷ later
  pub none : pending ≡ 0 → owed_lists (after_answer ds (PostFull queue pending head tail)) ≡ later

owes_full : (ds : List Due) (queue : Queue) (pending head tail : ℕ) → MayAnswer ds (PostFull queue pending head tail) → OwesFull ds queue pending head tail
owes_full [] queue pending head tail may = absurd may
owes_full (Posting q items ∷ ds) queue pending head tail may =
    let left : Bool → List (List Item) = λ b. owed_lists ((if b then [] else Accepting q (take pending items) ∷ []) ++ ds) in
    record {
      items = items;
      later = owed_lists ds;
      lists = refl;
      some = λ low. ap left (ne_eqb pending 0 (λ e. absurd (omega arith)));
      none = λ e. ap left (eq-eqb pending 0 e);
    }
owes_full (Accepting q items ∷ ds) queue pending head tail may = absurd may
owes_full (Polling c m ∷ ds) queue pending head tail may = absurd may
owes_full (Draining c ∷ ds) queue pending head tail may = absurd may
owes_full (Retiring q ∷ ds) queue pending head tail may = absurd may
owes_full (Acking c ∷ ds) queue pending head tail may = absurd may

take_both : (m k : ℕ) (xs : List Item) → take m (take k xs) ≡ take (min m k) xs
take_both zero k xs = let least : 0 ≡ min 0 k = omega arith in ap (λ n. take n xs) least
take_both (suc m) zero xs = let least : 0 ≡ min (suc m) 0 = omega arith in ap (λ n. take n xs) least
take_both (suc m) (suc k) [] = sym (take_all (min (suc m) (suc k)) [] (omega arith))
take_both (suc m) (suc k) (x ∷ xs) =
    let least : suc (min m k) ≡ min (suc m) (suc k) = omega arith in
    ap (λ (ys : List Item). x ∷ ys) (take_both m k xs) ∙ ap (λ n. take n (x ∷ xs)) least

cuts_more : (pending : ℕ) (items : List Item) (later ls : List (List Item)) → IsCut (items ∷ later) ls → IsCut (take pending items ∷ later) ls
cuts_more pending items later [] cut = absurd cut
cuts_more pending items later (xs ∷ ls) cut = (min pending cut.0, ap (take pending) cut.1 ∙ take_both pending cut.0 xs, cut.2)

-- where some were accepted, they are a beginning of the same call's list
pub accepted_stands : (calls : List Call) (behind : ℕ) (ds : List Due) (queue : Queue) (pending head tail : ℕ) → MayAnswer ds (PostFull queue pending head tail) → IsBehind calls behind ds → 0 < pending
    → IsBehind calls behind (after_answer ds (PostFull queue pending head tail))
accepted_stands calls behind ds queue pending head tail may stands some =
    let full = owes_full ds queue pending head tail may in
    subst (λ (ls : List (List Item)). IsCut ls (lists_from calls behind)) (sym (full.some some))
    (cuts_more pending full.items full.later (lists_from calls behind) (subst (λ (ls : List (List Item)). IsCut ls (lists_from calls behind)) full.lists stands))

-- where none was, the call is over
pub refused_stands : (calls : List Call) (behind place : ℕ) (items : List Item) (ds : List Due) (queue : Queue) (pending head tail : ℕ) → MayAnswer ds (PostFull queue pending head tail) → IsBehind calls behind ds → IsNext calls behind place items → pending ≡ 0
    → IsBehind calls (place + 1) (after_answer ds (PostFull queue pending head tail))
refused_stands calls behind place items ds queue pending head tail may stands next none =
    let full = owes_full ds queue pending head tail may in
    let cut : IsCut (full.items ∷ full.later) (items ∷ lists_from calls (place + 1)) = subst (λ (ls : List (List Item)). IsCut ls (items ∷ lists_from calls (place + 1))) full.lists (subst (IsCut (owed_lists ds)) next.first stands) in
    cut_eq (owed_lists (after_answer ds (PostFull queue pending head tail))) (lists_from calls (place + 1)) (full.none none ∙ cut.2)

-- where a queue was full, a list is left
pub full_left : (calls : List Call) (behind : ℕ) (ds : List Due) (queue : Queue) (pending head tail : ℕ) → MayAnswer ds (PostFull queue pending head tail) → IsBehind calls behind ds → lists_from calls behind ≡ [] → ⊥
full_left calls behind ds queue pending head tail may stands none =
    let full = owes_full ds queue pending head tail may in
    let cut : IsCut (full.items ∷ full.later) [] = subst (λ (ls : List (List Item)). IsCut ls []) full.lists (subst (IsCut (owed_lists ds)) none stands) in
    cut
