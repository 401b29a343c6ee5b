-- A post of receives that a thread owes next, and that their queue is full, are legal, and all stays in bounds.
use Rattle.std.proofs.Common.{◌≡◌, ℕ, suc, ◌+◌, ◌-◌, ◌<◌, ◌≤◌, ◌==◌, inl, Bool, true, false, if◌then◌else◌, List, [], ◌∷◌, ◌++◌, length, take, refl, sym, arith, slice_set}
use Rattle.std.specs.List.{list_any, list_all, sum_by, AllByRecursion}
use Rattle.verbs_types.specs.declared.request.Item.{Item}
use Rattle.verbs_types.specs.declared.completion.Queue.TheVariants.{Recv}
use Rattle.verbs_types.specs.declared.entry.What.TheVariants.{Post, PostFull}
use Rattle.verbs_rules.specs.Rows.{item_fits}
use Rattle.verbs_rules.specs.State.{Verbs}
use Rattle.verbs_rules.specs.OfOne.{WorkQueue, queue_in}
use Rattle.verbs_rules.specs.Answered.{Due, Posting, Accepting}
use Rattle.verbs_rules.specs.Proper.{Owes, IsProper, AreProper, items_on, posts_on, retires_on}
use Rattle.verbs_rules.specs.Within.{Bounds, InBounds, Within, Goes, free_on}
use Rattle.verbs_rules.specs.Step.{after}
use Rattle.verbs_laws.proofs.Facts.{MayStep_post, MayStep_full}
use Rattle.verbs_laws.proofs.Owing.{proper_rest, proper_at}
use Rattle.verbs_laws.proofs.Steady.{host_of, rest_posts, owes_less}
use Rattle.verbs_laws.proofs.Kept.{goes}
use Rattle.verbs_laws.proofs.GoesPost.{accepts, some_taken}

-- the receive queue has room for the items, and each is a receive that fits it
pub record Receives (u : WorkQueue) (qp : ℕ) (items : List Item) : Type 0 where
  pub room : length u.posted + length items - u.retired ≤ u.room
  pub fit : list_all (item_fits (Recv qp) u.segments) items ≡ true

-- these items on this receive queue are owed next
record ReceivesNext (pairs : ℕ → Bool) (items : List Item) (qp : ℕ) (due : Due) : Type 0 where
  retires_are : (i : ℕ) → retires_on i due ≡ 0
  living : pairs qp ≡ true
  some : 0 < length items

full_items : (i qp pending : ℕ) (items : List Item) → (b : Bool) → sum_by (items_on i) (if b then [] else Accepting (Recv qp) (take pending items) ∷ []) ≤ 0
full_items i qp pending items true = omega arith
full_items i qp pending items false = omega arith

full_retires : (i qp pending : ℕ) (items : List Item) → (b : Bool) → sum_by (retires_on i) (if b then [] else Accepting (Recv qp) (take pending items) ∷ []) ≡ 0
full_retires i qp pending items true = refl
full_retires i qp pending items false = refl

full_proper : (pairs cqs : ℕ → Bool) (free : ℕ → ℕ) (qp pending : ℕ) (items : List Item) (rest : List Due) → pairs qp ≡ true → 0 < length items → AllByRecursion (IsProper pairs cqs) rest
    → (b : Bool) → (pending == 0) ≡ b → AreProper pairs cqs free ((if b then [] else Accepting (Recv qp) (take pending items) ∷ []) ++ rest)
full_proper pairs cqs free qp pending items rest lives some h true e = proper_rest pairs cqs free rest h
full_proper pairs cqs free qp pending items rest lives some h false e = ((lives, some_taken pending items some e), h)

full_posts : (i qp pending : ℕ) (items : List Item) (rest : List Due) → (b : Bool) → list_any (posts_on i) rest ≡ false → list_any (posts_on i) ((if b then [] else Accepting (Recv qp) (take pending items) ∷ []) ++ rest) ≡ false
full_posts i qp pending items rest true none = none
full_posts i qp pending items rest false none = none

module _ (n : ℕ) (bounds : Bounds) (v : Verbs) (dues : List (List Due)) (t qp : ℕ) (items : List Item) (rest : List Due) (s : InBounds n bounds v dues) where
  -- nothing is kept of a receive queue
  posted_receive : (ds : List (List Due)) → Within n bounds v ds → Within n bounds (after v (Post (Recv qp) items)) ds
  posted_receive ds w = record { queues = w.queues; completions = w.completions; owing = w.owing }

  receive_goes : (due : Due) → Owes dues t due rest → ReceivesNext v.device.pair_lives items qp due → Receives (queue_in v (Recv qp)) qp items → Goes n bounds v (suc t) (Post (Recv qp) items) (slice_set dues t rest)
  receive_goes due o h r =
      let p = proper_at v.device.pair_lives v.device.completions_live (free_on v) dues t due rest s.within.owing o in
      goes n v (suc t) (Post (Recv qp) items) bounds (slice_set dues t rest) s.sane
      (MayStep_post {v = v} {queue = Recv qp} (record { host = host_of n bounds v dues t due rest s o; lives = h.living; room = r.room; some = h.some; fit = r.fit }))
      (posted_receive (slice_set dues t rest) (owes_less n bounds v dues t due rest [] s.within o (λ i. omega arith) (λ i. sym (h.retires_are i)) (record {
        proper = proper_rest v.device.pair_lives v.device.completions_live (free_on v) rest p.1;
        posts = λ i none. rest_posts (posts_on i due) (list_any (posts_on i) rest) none;
        others = λ i. inl (omega arith);
      })))

  -- the post of a whole list
  pub receiving_goes : Owes dues t (Posting (Recv qp) items) rest → Receives (queue_in v (Recv qp)) qp items → Goes n bounds v (suc t) (Post (Recv qp) items) (slice_set dues t rest)
  receiving_goes o r =
      let p = (proper_at v.device.pair_lives v.device.completions_live (free_on v) dues t (Posting (Recv qp) items) rest s.within.owing o).0 in
      receive_goes (Posting (Recv qp) items) o (record { retires_are = λ i. refl; living = p.0; some = p.1 }) r

  -- the post of what was accepted before the queue was full
  pub receiving_accepted_goes : Owes dues t (Accepting (Recv qp) items) rest → Receives (queue_in v (Recv qp)) qp items → Goes n bounds v (suc t) (Post (Recv qp) items) (slice_set dues t rest)
  receiving_accepted_goes o r =
      let p = (proper_at v.device.pair_lives v.device.completions_live (free_on v) dues t (Accepting (Recv qp) items) rest s.within.owing o).0 in
      receive_goes (Accepting (Recv qp) items) o (record { retires_are = λ i. refl; living = p.0; some = p.1 }) r

  -- as many were accepted as fill the queue
  pub receiving_full_goes : (pending head tail : ℕ) → Owes dues t (Posting (Recv qp) items) rest → head ≡ length (v.posted (Recv qp)) + pending → tail ≡ (v.settled (Recv qp)).retired → head - tail ≡ v.limits.room (Recv qp)
      → Goes n bounds v (suc t) (PostFull (Recv qp) pending head tail) (slice_set dues t (accepts (Recv qp) pending items ++ rest))
  receiving_full_goes pending head tail o head_is tail_is full =
      let due : Due = Posting (Recv qp) items in
      let p = proper_at v.device.pair_lives v.device.completions_live (free_on v) dues t due rest s.within.owing o in
      goes n v (suc t) (PostFull (Recv qp) pending head tail) bounds (slice_set dues t (accepts (Recv qp) pending items ++ rest)) s.sane
      (MayStep_full {v = v} {queue = Recv qp} (record { host = host_of n bounds v dues t due rest s o; lives = p.0.0; posted = head_is; retired = tail_is; full = full }))
      (owes_less n bounds v dues t due rest (accepts (Recv qp) pending items) s.within o (λ i. full_items i qp pending items (pending == 0)) (λ i. full_retires i qp pending items (pending == 0)) (record {
        proper = full_proper v.device.pair_lives v.device.completions_live (free_on v) qp pending items rest p.0.0 p.0.1 p.1 (pending == 0) refl;
        posts = λ i none. full_posts i qp pending items rest (pending == 0) none;
        others = λ i. inl (omega arith);
      }))
