-- The thread that owes a list, and what is behind after its next list.
use Rattle.std.proofs.Common.{◌≡◌, ◌≢◌, ℕ, suc, ◌<◌, ◌==◌, inl, inr, Bool, List, [], length, take, set, get_or, sym, ap, subst, ◌∙◌, arith, slice_index_or, MatchBool}
use Rattle.std.specs.List.{flat_map}
use Rattle.std.proofs.lemmas.Bool.{cases_lt}
use Rattle.std.proofs.lemmas.Bool.Decides.{eqb_tells}
use Rattle.std.proofs.lemmas.List.{get_or_past, get_or_read, drop_all}
use Rattle.verbs_types.specs.declared.call.Call.{Call}
use Rattle.verbs_types.specs.declared.completion.Queue.{Queue}
use Rattle.verbs_types.specs.declared.entry.Entry.{Entry}
use Rattle.verbs_types.specs.declared.entry.What.{What}
use Rattle.verbs_types.specs.declared.entry.What.TheVariants.{Post, PostFull}
use Rattle.verbs_types.specs.declared.request.Item.{Item}
use Rattle.verbs_rules.specs.Answered.{Due, MayAnswer, after_answer}
use Rattle.noted_history.specs.declared.posting.Posting.{Posting}
use Rattle.noted_history.specs.Behind.{IsBehind}
use Rattle.noted_history.specs.Posting.{list_of, lists_from, TakesNext}
use Rattle.noted_history.specs.Telling.{behind_of, MayOwe, Owes, MovesOn}
use Rattle.noted_history.proofs.Moves.{moves_thread}
use Rattle.noted_history.proofs.Posts.{Posts, post_stands, some_left, full_left, accepted_stands, refused_stands}

-- A thread that there is, of which a list is left to be posted.
pub record HasList (programs : List (List Call)) (postings : List Posting) (thread : ℕ) : Type 0 where
  pub inside : thread < length programs
  pub left : lists_from (slice_index_or programs thread []) (behind_of postings thread) ≢ []

no_lists : (behind : ℕ) → lists_from [] behind ≡ []
no_lists behind = ap (flat_map list_of) (drop_all behind [] (omega arith))

has_list : (programs : List (List Call)) (postings : List Posting) (thread : ℕ) → lists_from (slice_index_or programs thread []) (behind_of postings thread) ≢ [] → HasList programs postings thread
has_list programs postings thread left = record {
  inside = elim (cases_lt thread (length programs)) [
    | inl inside ↦ inside
    | inr past ↦ absurd (left (ap (λ (calls : List Call). lists_from calls (behind_of postings thread)) (get_or_past programs thread [] past) ∙ no_lists (behind_of postings thread)))
  ];
  left = left;
}

pub list_by_post : (programs : List (List Call)) (postings : List Posting) (thread : ℕ) (what : What) (queue : Queue) (posted : List Item) → what ≡ Post queue posted → Owes programs postings thread what → HasList programs postings thread
list_by_post programs postings thread what queue posted is owes =
    has_list programs postings thread (some_left (slice_index_or programs thread []) (behind_of postings thread) owes.dues queue posted (subst (MayAnswer owes.dues) is owes.answers) owes.may_owe)

pub list_by_full : (programs : List (List Call)) (postings : List Posting) (thread : ℕ) (what : What) (queue : Queue) (pending head tail : ℕ) → what ≡ PostFull queue pending head tail → Owes programs postings thread what → HasList programs postings thread
list_by_full programs postings thread what queue pending head tail is owes =
    has_list programs postings thread (full_left (slice_index_or programs thread []) (behind_of postings thread) owes.dues queue pending head tail (subst (MayAnswer owes.dues) is owes.answers) owes.may_owe)

-- The calls and the count that were read are this thread's.
pub record AreRead (programs : List (List Call)) (postings : List Posting) (thread : ℕ) (calls : List Call) (p : Posting) : Type 0 where
  pub calls_is : calls ≡ slice_index_or programs thread []
  pub behind_is : p.behind ≡ behind_of postings thread

pub are_read : (programs : List (List Call)) (postings : List Posting) (thread : ℕ) (calls found : List Call) (p : Posting) → HasList programs postings thread → length postings ≡ length programs
    → calls ≡ found → found ≡ get_or programs thread found → p ≡ get_or postings thread p → AreRead programs postings thread calls p
are_read programs postings thread calls found p has threads same found_is p_is = record {
  calls_is = same ∙ get_or_read programs thread found has.inside found_is [];
  behind_is = ap (λ (q : Posting). q.behind) (get_or_read postings thread p (omega (arith, has.inside, threads)) p_is (record { behind = 0 }));
}

module _ (programs : List (List Call)) (postings : List Posting) (thread : ℕ) (calls : List Call) (p : Posting) (read : AreRead programs postings thread calls p) where
  pub left_here : HasList programs postings thread → lists_from calls p.behind ≢ []
  left_here has none = has.left (sym (ap (λ (cs : List Call). lists_from cs p.behind) read.calls_is ∙ ap (lists_from (slice_index_or programs thread [])) read.behind_is) ∙ none)

  pub stands_here : (dues : List Due) → MayOwe programs postings thread dues → IsBehind calls p.behind dues
  stands_here dues stands = subst (λ (cs : List Call). IsBehind cs p.behind dues) (sym read.calls_is) (subst (λ n. IsBehind (slice_index_or programs thread []) n dues) (sym read.behind_is) stands)

  pub moves_here : (q : Posting) (e : Entry) → e.actor ≡ suc thread → thread < length postings
      → ((dues : List Due) → IsBehind calls p.behind dues → MayAnswer dues e.what → IsBehind calls q.behind (after_answer dues e.what)) → MovesOn programs postings (set postings thread q) e
  moves_here q e by inside own = moves_thread programs postings thread q e by inside
      (λ dues stands answers. subst (λ (cs : List Call). IsBehind cs q.behind (after_answer dues e.what)) read.calls_is (own dues (stands_here dues stands) answers))

-- The next list was posted.

module _ (calls : List Call) (old new : ℕ) (items posted : List Item) (queue : Queue) (what : What) (is : what ≡ Post queue posted) (takes : TakesNext calls old new items) where
  posts : (dues : List Due) → IsBehind calls old dues → MayAnswer dues what → Posts calls takes.place items posted (after_answer dues (Post queue posted))
  posts dues stands answers = post_stands calls old takes.place items dues queue posted (subst (MayAnswer dues) is answers) stands takes.next

  pub items_posted : (dues : List Due) → IsBehind calls old dues → MayAnswer dues what → take (length posted) items ≡ posted
  items_posted dues stands answers = (posts dues stands answers).posted_is

  pub behind_posted : (dues : List Due) → IsBehind calls old dues → MayAnswer dues what → IsBehind calls new (after_answer dues what)
  behind_posted dues stands answers =
      subst (λ (w : What). IsBehind calls new (after_answer dues w)) (sym is)
      (subst (λ n. IsBehind calls n (after_answer dues (Post queue posted))) (sym takes.new_is) (posts dues stands answers).behind)

-- The queue was full.

pub behind_full : (calls : List Call) (old new : ℕ) (queue : Queue) (pending head tail : ℕ) (what : What) → what ≡ PostFull queue pending head tail → MatchBool (pending == 0) ((items : List Item) × TakesNext calls old new items) (new ≡ old)
    → (dues : List Due) → IsBehind calls old dues → MayAnswer dues what → IsBehind calls new (after_answer dues what)
behind_full calls old new queue pending head tail what is goes dues stands answers =
    let may = subst (MayAnswer dues) is answers in
    let full : IsBehind calls new (after_answer dues (PostFull queue pending head tail)) = elim (eqb_tells pending 0) [
      | inl none ↦
          (let over = subst (λ (b : Bool). MatchBool b ((items : List Item) × TakesNext calls old new items) (new ≡ old)) none.0 goes in
          subst (λ n. IsBehind calls n (after_answer dues (PostFull queue pending head tail))) (sym over.1.new_is) (refused_stands calls old over.1.place over.0 dues queue pending head tail may stands over.1.next none.1))
      | inr some ↦
          (let same = subst (λ (b : Bool). MatchBool b ((items : List Item) × TakesNext calls old new items) (new ≡ old)) some.0 goes in
          let accepted : 0 < pending = omega (arith, some.1) in
          subst (λ n. IsBehind calls n (after_answer dues (PostFull queue pending head tail))) (sym same) (accepted_stands calls old dues queue pending head tail may stands accepted))
    ] in
    subst (λ (w : What). IsBehind calls new (after_answer dues w)) (sym is) full
