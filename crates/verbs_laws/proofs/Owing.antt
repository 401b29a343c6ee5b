-- What the threads owe stays proper as one of them goes on.
use Rattle.std.proofs.Common.{◌≡◌, ◌≢◌, ℕ, ◌<◌, ◌≤◌, ◌⊎◌, inl, inr, Bool, true, false, ◌||◌, List, [], ◌∷◌, length, sym, ◌∙◌, ap, subst, arith, slice_set}
use Rattle.std.specs.List.{list_any, AllByRecursion}
use Rattle.std.proofs.lemmas.Bool.{false≢true}
use Rattle.std.proofs.lemmas.List.{get_or-set_same, get_or-set_other}
use Rattle.std.proofs.Math.ListN.{length-set}
use Rattle.verbs_types.specs.declared.completion.Queue.TheVariants.{Send, Recv, Shared}
use Rattle.verbs_types.specs.declared.request.Item.{Item}
use Rattle.verbs_laws.proofs.Sameness.{same_queue_refl}
use Rattle.verbs_rules.specs.Answered.{Due, Posting, Accepting, Polling, Draining, Retiring, Acking}
use Rattle.verbs_rules.specs.Proper.{Owing, OnePosts, AreProper, IsProper, IsNext, Owes, dues_of_thread, posts_on}
use Rattle.verbs_laws.proofs.Choices.{either}

-- of a thread that owes other entries
module _ (pairs cqs : ℕ → Bool) (free free' : ℕ → ℕ) where
  room_by : (qp : ℕ) (items : List Item) (ds : List Due) → length items ≤ free qp → (free qp ≤ free' qp) ⊎ (list_any (posts_on qp) (Accepting (Send qp) items ∷ ds) ≡ false) → length items ≤ free' qp
  room_by qp items ds room (inl le) = omega (arith, room, le)
  room_by qp items ds room (inr none) =
      let posts : list_any (posts_on qp) (Accepting (Send qp) items ∷ ds) ≡ true = ap (λ b. b || list_any (posts_on qp) ds) (same_queue_refl (Send qp)) in
      absurd (false≢true (sym none ∙ posts))

  pub proper_other : (ds : List Due) → ((qp : ℕ) → (free qp ≤ free' qp) ⊎ (list_any (posts_on qp) ds ≡ false)) → AreProper pairs cqs free ds → AreProper pairs cqs free' ds
  proper_other [] more h = tt
  proper_other (Accepting (Send qp) items ∷ ds) more h = (record { living = h.0.living; some = h.0.some; nops = h.0.nops; room = room_by qp items ds h.0.room (more qp) }, h.1)
  proper_other (Accepting (Recv qp) items ∷ ds) more h = h
  proper_other (Accepting (Shared srq) items ∷ ds) more h = absurd h.0
  proper_other (Posting queue items ∷ ds) more h = h
  proper_other (Polling cq most ∷ ds) more h = h
  proper_other (Draining cq ∷ ds) more h = h
  proper_other (Retiring queue ∷ ds) more h = h
  proper_other (Acking cq ∷ ds) more h = h

-- what follows what is owed next
pub proper_rest : (pairs cqs : ℕ → Bool) (free : ℕ → ℕ) (ds : List Due) → AllByRecursion (IsProper pairs cqs) ds → AreProper pairs cqs free ds
proper_rest pairs cqs free [] h = tt
proper_rest pairs cqs free (Accepting queue items ∷ ds) h = absurd h.0
proper_rest pairs cqs free (Posting queue items ∷ ds) h = h
proper_rest pairs cqs free (Polling cq most ∷ ds) h = h
proper_rest pairs cqs free (Draining cq ∷ ds) h = h
proper_rest pairs cqs free (Retiring queue ∷ ds) h = h
proper_rest pairs cqs free (Acking cq ∷ ds) h = h

pub proper_at : (pairs cqs : ℕ → Bool) (free : ℕ → ℕ) (dues : List (List Due)) (t : ℕ) (due : Due) (rest : List Due) → Owing pairs cqs free dues → Owes dues t due rest → IsNext pairs cqs free due × AllByRecursion (IsProper pairs cqs) rest
proper_at pairs cqs free dues t due rest o owes = subst (AreProper pairs cqs free) owes.is (o.proper t)

-- one thread's list of dues is replaced
pub record Replaces (pairs cqs : ℕ → Bool) (free free' : ℕ → ℕ) (due : Due) (rest ds' : List Due) : Type 0 where
  pub proper : AreProper pairs cqs free' ds'
  pub posts : (qp : ℕ) → list_any (posts_on qp) (due ∷ rest) ≡ false → list_any (posts_on qp) ds' ≡ false
  pub others : (qp : ℕ) → (free qp ≤ free' qp) ⊎ (list_any (posts_on qp) (due ∷ rest) ≡ true)

at_set : (dues : List (List Due)) (t j : ℕ) (ds : List Due) → t < length dues → ((j ≡ t) × (dues_of_thread (slice_set dues t ds) j ≡ ds)) ⊎ ((j ≢ t) × (dues_of_thread (slice_set dues t ds) j ≡ dues_of_thread dues j))
at_set dues t j ds low =
    elim (either j t) [
      | inl same ↦ inl (same, rw same (get_or-set_same dues t ds [] low))
      | inr other ↦ inr (other, get_or-set_other dues t j ds [] other)
    ]

poster_after : (dues : List (List Due)) (t : ℕ) (due : Due) (rest ds' : List Due) → Owes dues t due rest → ((qp : ℕ) → list_any (posts_on qp) (due ∷ rest) ≡ false → list_any (posts_on qp) ds' ≡ false) → OnePosts dues → OnePosts (slice_set dues t ds')
poster_after dues t due rest ds' owes posts one qp u v apart =
    elim (one qp u v apart) [ inl none ↦ inl (none_at u none) | inr none ↦ inr (none_at v none) ]
  where
    none_at : (j : ℕ) → list_any (posts_on qp) (dues_of_thread dues j) ≡ false → list_any (posts_on qp) (dues_of_thread (slice_set dues t ds') j) ≡ false
    none_at j none =
        elim (at_set dues t j ds' owes.low) [
          | inl h ↦ ap (list_any (posts_on qp)) h.1 ∙ posts qp (ap (list_any (posts_on qp)) (sym owes.is ∙ ap (dues_of_thread dues) (sym h.0)) ∙ none)
          | inr h ↦ ap (list_any (posts_on qp)) h.1 ∙ none
        ]

others_fit : (free free' : ℕ → ℕ) (dues : List (List Due)) (t u : ℕ) (due : Due) (rest : List Due) → Owes dues t due rest → u ≢ t → OnePosts dues → ((qp : ℕ) → (free qp ≤ free' qp) ⊎ (list_any (posts_on qp) (due ∷ rest) ≡ true))
    → (qp : ℕ) → (free qp ≤ free' qp) ⊎ (list_any (posts_on qp) (dues_of_thread dues u) ≡ false)
others_fit free free' dues t u due rest owes other one more qp =
    elim (more qp) [
      | inl le ↦ inl le
      | inr posts ↦ elim (one qp u t other) [
        | inl none ↦ inr none
        | inr none ↦ absurd (false≢true (sym none ∙ ap (list_any (posts_on qp)) owes.is ∙ posts))
      ]
    ]

pub owing_after : (pairs cqs : ℕ → Bool) (free free' : ℕ → ℕ) (dues : List (List Due)) (t : ℕ) (due : Due) (rest ds' : List Due) → Owing pairs cqs free dues → Owes dues t due rest → Replaces pairs cqs free free' due rest ds' → Owing pairs cqs free' (slice_set dues t ds')
owing_after pairs cqs free free' dues t due rest ds' o owes r = record {
  few = let long : length (slice_set dues t ds') ≡ length dues = length-set dues t ds' in omega (arith, long, o.few);
  poster = poster_after dues t due rest ds' owes r.posts o.poster;
  proper = λ u. elim (at_set dues t u ds' owes.low) [
    | inl h ↦ subst (AreProper pairs cqs free') (sym h.1) r.proper
    | inr h ↦ subst (AreProper pairs cqs free') (sym h.1) (proper_other pairs cqs free free' (dues_of_thread dues u) (others_fit free free' dues t u due rest owes h.0 o.poster r.others) (o.proper u))
  ];
}

-- where only the room has changed
pub owing_free : (pairs cqs : ℕ → Bool) (free free' : ℕ → ℕ) (dues : List (List Due)) → ((qp : ℕ) → free qp ≤ free' qp) → Owing pairs cqs free dues → Owing pairs cqs free' dues
owing_free pairs cqs free free' dues le o = record { few = o.few; poster = o.poster; proper = λ u. proper_other pairs cqs free free' (dues_of_thread dues u) (λ qp. inl (le qp)) (o.proper u) }
