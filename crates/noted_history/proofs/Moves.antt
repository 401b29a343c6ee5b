-- What an entry leaves of the calls that are behind.
use Rattle.std.proofs.Common.{◌≡◌, ◌≢◌, ℕ, suc, ◌<◌, List, [], ◌∷◌, length, set, refl, sym, ap, subst, ◌∙◌, arith, slice_index_or}
use Rattle.std.proofs.lemmas.List.{length-set, get_or-set_same, get_or-set_other}
use Rattle.verbs_types.specs.declared.call.Call.{Call}
use Rattle.verbs_types.specs.declared.completion.Completion.{Completion}
use Rattle.verbs_types.specs.declared.entry.Entry.{Entry}
use Rattle.verbs_types.specs.declared.entry.What.{What}
use Rattle.verbs_types.specs.declared.entry.What.TheVariants.{Poll, Publish}
use Rattle.verbs_types.specs.declared.request.Item.{Item}
use Rattle.verbs_rules.specs.Answered.{Due, Posting as PostingDue, Accepting, Polling, Draining, Retiring, Acking, MayAnswer, after_answer}
use Rattle.noted_history.specs.declared.posting.Posting.{Posting}
use Rattle.noted_history.specs.Behind.{owed_lists, IsCut, IsBehind}
use Rattle.noted_history.specs.Posting.{lists_from}
use Rattle.noted_history.specs.Telling.{behind_of, MayOwe, MovesOn}
use Rattle.noted_history.proofs.Posts.{poll_leaves}

-- No thread owes an entry of the adapter.

publish_leaves : (ds : List Due) (cq : ℕ) (completion : Completion) → MayAnswer ds (Publish cq completion) → owed_lists (after_answer ds (Publish cq completion)) ≡ owed_lists ds
publish_leaves [] cq completion may = absurd may
publish_leaves (PostingDue q items ∷ ds) cq completion may = absurd may
publish_leaves (Accepting q items ∷ ds) cq completion may = absurd may
publish_leaves (Polling c m ∷ ds) cq completion may = absurd may
publish_leaves (Draining c ∷ ds) cq completion may = absurd may
publish_leaves (Retiring q ∷ ds) cq completion may = absurd may
publish_leaves (Acking c ∷ ds) cq completion may = absurd may

-- the entry leaves the lists that are owed as they are
abbrev pub IsQuiet : What → Type 0
IsQuiet what = (ds : List Due) → MayAnswer ds what → owed_lists (after_answer ds what) ≡ owed_lists ds

pub quiet_poll : (what : What) (cq most : ℕ) (completions : List Completion) → what ≡ Poll cq most completions → IsQuiet what
quiet_poll what cq most completions is = subst IsQuiet (sym is) (λ ds. poll_leaves ds cq most completions)

pub quiet_publish : (what : What) (cq : ℕ) (completion : Completion) → what ≡ Publish cq completion → IsQuiet what
quiet_publish what cq completion is = subst IsQuiet (sym is) (λ ds. publish_leaves ds cq completion)

pub moves_quiet : (programs : List (List Call)) (postings : List Posting) (e : Entry) → IsQuiet e.what → MovesOn programs postings postings e
moves_quiet programs postings e quiet = record {
  threads = refl;
  own = λ thread dues is may_owe answers. subst (λ (ls : List (List Item)). IsCut ls (lists_from (slice_index_or programs thread []) (behind_of postings thread))) (sym (quiet dues answers)) may_owe;
  others = λ thread other. refl;
}

-- The calls that are behind of one thread change.

behind_set : (postings : List Posting) (thread : ℕ) (p : Posting) → thread < length postings → behind_of (set postings thread p) thread ≡ p.behind
behind_set postings thread p inside = ap (λ (q : Posting). q.behind) (get_or-set_same postings thread p (record { behind = 0 }) inside)

pub moves_thread : (programs : List (List Call)) (old : List Posting) (thread : ℕ) (p : Posting) (e : Entry) → e.actor ≡ suc thread → thread < length old
    → ((dues : List Due) → MayOwe programs old thread dues → MayAnswer dues e.what → IsBehind (slice_index_or programs thread []) p.behind (after_answer dues e.what))
    → MovesOn programs old (set old thread p) e
moves_thread programs old thread p e by inside own = record {
  threads = length-set old thread p;
  own = λ t dues is may_owe answers.
      let same : t ≡ thread = omega (arith, is, by) in
      let here : IsBehind (slice_index_or programs thread []) p.behind (after_answer dues e.what) = own dues (subst (λ k. MayOwe programs old k dues) same may_owe) answers in
      subst (λ k. MayOwe programs (set old thread p) k (after_answer dues e.what)) (sym same)
      (subst (λ n. IsBehind (slice_index_or programs thread []) n (after_answer dues e.what)) (sym (behind_set old thread p inside)) here);
  others = λ t other.
      let apart : t ≢ thread = λ same. other (by ∙ ap suc (sym same)) in
      ap (λ (q : Posting). q.behind) (get_or-set_other old thread t p (record { behind = 0 }) apart);
}
