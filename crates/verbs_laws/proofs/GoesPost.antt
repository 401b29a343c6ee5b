-- A post of requests that a thread owes next, and that the queue is full, are legal, and all stays in bounds.
use Rattle.std.proofs.Common.{◌≡◌, ◌≢◌, ℕ, zero, suc, ◌+◌, ◌-◌, ◌<◌, ◌≤◌, ◌==◌, ◌⊎◌, inl, inr, Bool, true, false, if◌then◌else◌, ◌||◌, List, [], ◌∷◌, ◌++◌, length, length-append, take, refl, sym, ◌∙◌, ap, subst, arith, slice_set, min}
use Rattle.std.specs.List.{list_any, list_all, sum_by, AllByRecursion}
use Rattle.std.proofs.lemmas.Bool.{le-leb, eqb-false}
use Rattle.std.proofs.lemmas.List.{length-take}
use Rattle.verbs_types.specs.declared.request.Item.{Item}
use Rattle.verbs_types.specs.declared.request.Item.TheVariants.{Request as TheRequest, Receive as TheReceive}
use Rattle.verbs_types.specs.declared.completion.Queue.{Queue}
use Rattle.verbs_types.specs.declared.completion.Queue.TheVariants.{Send}
use Rattle.verbs_types.specs.declared.entry.What.TheVariants.{Post, PostFull}
use Rattle.verbs_rules.specs.Rows.{item_fits, body_fits}
use Rattle.verbs_rules.specs.State.{Verbs}
use Rattle.verbs_rules.specs.OfOne.{WorkQueue, queue_in, free_of}
use Rattle.verbs_rules.specs.Step.{after}
use Rattle.verbs_rules.specs.Answered.{Due, Posting, Accepting}
use Rattle.verbs_rules.specs.Proper.{Owes, IsNop, IsProper, AreProper, items_on, posts_on, retires_on, over_dues}
use Rattle.verbs_rules.specs.Sane.{waiting}
use Rattle.verbs_rules.specs.Within.{Bounds, InBounds, Goes, QueueWithin, free_on}
use Rattle.verbs_laws.proofs.Facts.{MayStep_post, MayStep_full}
use Rattle.verbs_laws.proofs.Sameness.{same_queue_refl}
use Rattle.verbs_laws.proofs.Choices.{number_by, put_send}
use Rattle.verbs_laws.proofs.Counting.{over_after}
use Rattle.verbs_laws.proofs.Queued.{fits_by_room, room_by_free, free_by_full, full_by_free}
use Rattle.verbs_laws.proofs.Kept.{goes}
use Rattle.verbs_laws.proofs.Owing.{owing_after, proper_rest, proper_at}
use Rattle.verbs_laws.proofs.Steady.{host_of, rest_posts, no_more, owes_less}

nop_fits : (qp segments : ℕ) (i : Item) → IsNop i → item_fits (Send qp) segments i ≡ true
nop_fits qp segments (TheRequest r) nop = ap (body_fits segments) nop.1 ∙ le-leb 0 segments (omega arith)
nop_fits qp segments (TheReceive r) nop = absurd nop

items_fit : (qp segments : ℕ) (items : List Item) → AllByRecursion IsNop items → list_all (item_fits (Send qp) segments) items ≡ true
items_fit qp segments [] nops = refl
items_fit qp segments (i ∷ items) nops = rw (nop_fits qp segments i nops.0) (items_fit qp segments items nops.1)

-- these items on this queue pair are owed next
record PostsNext (pairs : ℕ → Bool) (qp : ℕ) (items : List Item) (due : Due) : Type 0 where
  items_are : (i : ℕ) → items_on i due ≡ (if i == qp then length items else 0)
  retires_are : (i : ℕ) → retires_on i due ≡ 0
  posts_are : posts_on qp due ≡ true
  living : pairs qp ≡ true
  some : 0 < length items
  nops : AllByRecursion IsNop items

own : (qp m : ℕ) → (if qp == qp then m else 0) ≡ m
own qp m = ap (λ b. if b then m else 0) (same_queue_refl (Send qp))

first_posts : (qp : ℕ) (due : Due) (rest : List Due) → posts_on qp due ≡ true → list_any (posts_on qp) (due ∷ rest) ≡ true
first_posts qp due rest e = ap (λ b. b || list_any (posts_on qp) rest) e

all-append : {X : Type 0} (P : X → Type 0) (xs ys : List X) → AllByRecursion P xs → AllByRecursion P ys → AllByRecursion P (xs ++ ys)
all-append P [] ys h k = k
all-append P (x ∷ xs) ys h k = (h.0, all-append P xs ys h.1 k)

-- the items were posted, and are no more to be
posted_within : (posted items : List Item) (ends : List ℕ) (i i' r r' total : ℕ) → length items + i' ≤ i → r' ≡ r → AllByRecursion IsNop items → QueueWithin posted ends i r total → QueueWithin (posted ++ items) ends i' r' total
posted_within posted items ends i i' r r' total le e nops q =
    let long : length (posted ++ items) ≡ length posted + length items = length-append posted items in
    record { nops = all-append IsNop posted items q.nops nops; posts = omega (arith, long, q.posts, le); retires = e ∙ q.retires }

module _ (n : ℕ) (bounds : Bounds) (v : Verbs) (dues : List (List Due)) (t qp : ℕ) (items : List Item) (rest : List Due) (s : InBounds n bounds v dues) where
  abbrev u : WorkQueue
  u = queue_in v (Send qp)

  -- the queue has room for the items
  abbrev pub HasRoom : Type 0
  HasRoom = length (v.posted (Send qp)) + length items - (v.settled (Send qp)).retired ≤ v.limits.room (Send qp)

  posted_free : (due : Due) → PostsNext v.device.pair_lives qp items due → (i : ℕ) → (free_on v i ≤ free_on (after v (Post (Send qp) items)) i) ⊎ (list_any (posts_on i) (due ∷ rest) ≡ true)
  posted_free due h =
      number_by (λ i b. (free_on v i ≤ free_of (record (queue_in v (Send i)) { posted = if b then v.posted (Send qp) ++ items else v.posted (Send i) })) ⊎ (list_any (posts_on i) (due ∷ rest) ≡ true)) qp
      (inr (first_posts qp due rest h.posts_are)) (λ i apart. inl (omega arith))

  post_goes : (due : Due) → Owes dues t due rest → PostsNext v.device.pair_lives qp items due → HasRoom → Goes n bounds v (suc t) (Post (Send qp) items) (slice_set dues t rest)
  post_goes due o h room =
      let proper = proper_at v.device.pair_lives v.device.completions_live (free_on v) dues t due rest s.within.owing o in
      let sums : (i : ℕ) → over_dues (items_on i) (slice_set dues t rest) + items_on i due ≡ over_dues (items_on i) dues + 0 = λ i. over_after (items_on i) dues t due rest [] o in
      let retires : (i : ℕ) → over_dues (retires_on i) (slice_set dues t rest) + retires_on i due ≡ over_dues (retires_on i) dues + 0 = λ i. over_after (retires_on i) dues t due rest [] o in
      goes n v (suc t) (Post (Send qp) items) bounds (slice_set dues t rest) s.sane
      (MayStep_post {v = v} {queue = Send qp} (record { host = host_of n bounds v dues t due rest s o; lives = h.living; room = room; some = h.some; fit = items_fit qp u.segments items h.nops }))
      (record {
        queues = put_send (λ i posted. QueueWithin posted (v.settled (Send i)).ends (over_dues (items_on i) (slice_set dues t rest)) (over_dues (retires_on i) (slice_set dues t rest)) (bounds.posts i)) v.posted qp (v.posted (Send qp) ++ items)
            (posted_within (v.posted (Send qp)) items (v.settled (Send qp)).ends _ _ _ _ (bounds.posts qp) (omega (arith, sums qp, h.items_are qp, own qp (length items))) (omega (arith, retires qp, h.retires_are qp)) h.nops (s.within.queues qp))
            (λ i apart. no_more (v.posted (Send i)) (v.settled (Send i)).ends _ _ _ _ (bounds.posts i) (omega (arith, sums i)) (omega (arith, retires i, h.retires_are i)) (s.within.queues i));
        completions = s.within.completions;
        owing = owing_after v.device.pair_lives v.device.completions_live (free_on v) (free_on (after v (Post (Send qp) items))) dues t due rest rest s.within.owing o (record {
          proper = proper_rest v.device.pair_lives v.device.completions_live _ rest proper.1;
          posts = λ i none. rest_posts (posts_on i due) (list_any (posts_on i) rest) none;
          others = posted_free due h;
        });
      })

  -- the post of a whole list, which fits by what was seen as retired
  pub posting_shown : Owes dues t (Posting (Send qp) items) rest → HasRoom → Goes n bounds v (suc t) (Post (Send qp) items) (slice_set dues t rest)
  posting_shown o room =
      let p = (proper_at v.device.pair_lives v.device.completions_live (free_on v) dues t (Posting (Send qp) items) rest s.within.owing o).0 in
      post_goes (Posting (Send qp) items) o (record { items_are = λ i. refl; retires_are = λ i. refl; posts_are = same_queue_refl (Send qp); living = p.0; some = p.1; nops = p.2 }) room

  -- the same where it is no more than is free
  pub posting_goes : Owes dues t (Posting (Send qp) items) rest → length items ≤ free_on v qp → Goes n bounds v (suc t) (Post (Send qp) items) (slice_set dues t rest)
  posting_goes o fits = posting_shown o (room_by_free u (waiting v qp) (length items) (s.sane.queues qp) fits)

  -- the post of what was accepted before the queue was full
  pub accepting_shown : Owes dues t (Accepting (Send qp) items) rest → HasRoom → Goes n bounds v (suc t) (Post (Send qp) items) (slice_set dues t rest)
  accepting_shown o room =
      let p = (proper_at v.device.pair_lives v.device.completions_live (free_on v) dues t (Accepting (Send qp) items) rest s.within.owing o).0 in
      post_goes (Accepting (Send qp) items) o (record { items_are = λ i. refl; retires_are = λ i. refl; posts_are = same_queue_refl (Send qp); living = p.living; some = p.some; nops = p.nops }) room

  -- for which there is room
  pub accepting_goes : Owes dues t (Accepting (Send qp) items) rest → Goes n bounds v (suc t) (Post (Send qp) items) (slice_set dues t rest)
  accepting_goes o =
      let p = (proper_at v.device.pair_lives v.device.completions_live (free_on v) dues t (Accepting (Send qp) items) rest s.within.owing o).0 in
      accepting_shown o (room_by_free u (waiting v qp) (length items) (s.sane.queues qp) p.room)

-- That the queue is full

-- what stays to be accepted
abbrev pub accepts : Queue → ℕ → List Item → List Due
accepts queue pending items = if pending == 0 then [] else Accepting queue (take pending items) ∷ []

-- of a list that is not empty
pub some_taken : (pending : ℕ) (items : List Item) → 0 < length items → (pending == 0) ≡ false → 0 < length (take pending items)
some_taken pending items some e = let long : length (take pending items) ≡ min pending (length items) = length-take pending items in omega (arith, long, some, eqb-false pending 0 e)

nops_take : (n : ℕ) (items : List Item) → AllByRecursion IsNop items → AllByRecursion IsNop (take n items)
nops_take zero items h = tt
nops_take (suc n) [] h = tt
nops_take (suc n) (i ∷ items) h = (h.0, nops_take n items h.1)

full_items : (i qp pending : ℕ) (items : List Item) → (b : Bool) → sum_by (items_on i) (if b then [] else Accepting (Send qp) (take pending items) ∷ []) ≤ (if i == qp then length items else 0)
full_items i qp pending items true = omega arith
full_items i qp pending items false = by (i == qp)
  where
    by : (same : Bool) → 0 + (if same then length (take pending items) else 0) ≤ (if same then length items else 0)
    by true = let long : length (take pending items) ≡ min pending (length items) = length-take pending items in omega (arith, long)
    by false = omega arith

full_retires : (i qp pending : ℕ) (items : List Item) → (b : Bool) → sum_by (retires_on i) (if b then [] else Accepting (Send qp) (take pending items) ∷ []) ≡ 0
full_retires i qp pending items true = refl
full_retires i qp pending items false = refl

full_proper : (pairs cqs : ℕ → Bool) (free : ℕ → ℕ) (qp : ℕ) (items : List Item) (rest : List Due) → pairs qp ≡ true → AllByRecursion IsNop items → 0 < length items → AllByRecursion (IsProper pairs cqs) rest
    → (b : Bool) → (free qp == 0) ≡ b → AreProper pairs cqs free ((if b then [] else Accepting (Send qp) (take (free qp) items) ∷ []) ++ rest)
full_proper pairs cqs free qp items rest lives nops some h true e = proper_rest pairs cqs free rest h
full_proper pairs cqs free qp items rest lives nops some h false e =
    let long : length (take (free qp) items) ≡ min (free qp) (length items) = length-take (free qp) items in
    (record { living = lives; some = some_taken (free qp) items some e; nops = nops_take (free qp) items nops; room = omega (arith, long) }, h)

full_posts : (i qp pending : ℕ) (items : List Item) (rest : List Due) → (b : Bool) → list_any (posts_on i) (Posting (Send qp) items ∷ rest) ≡ false → list_any (posts_on i) ((if b then [] else Accepting (Send qp) (take pending items) ∷ []) ++ rest) ≡ false
full_posts i qp pending items rest true none = rest_posts (i == qp) (list_any (posts_on i) rest) none
full_posts i qp pending items rest false none = none

module _ (n : ℕ) (bounds : Bounds) (v : Verbs) (dues : List (List Due)) (t qp : ℕ) (items : List Item) (rest : List Due) (s : InBounds n bounds v dues) (o : Owes dues t (Posting (Send qp) items) rest) where
  -- as many were accepted as are free
  pub full_goes : Goes n bounds v (suc t) (PostFull (Send qp) (free_on v qp) (length (v.posted (Send qp)) + free_on v qp) (v.settled (Send qp)).retired) (slice_set dues t (accepts (Send qp) (free_on v qp) items ++ rest))
  full_goes =
      let due : Due = Posting (Send qp) items in
      let p = proper_at v.device.pair_lives v.device.completions_live (free_on v) dues t due rest s.within.owing o in
      goes n v (suc t) (PostFull (Send qp) (free_on v qp) (length (v.posted (Send qp)) + free_on v qp) (v.settled (Send qp)).retired) bounds (slice_set dues t (accepts (Send qp) (free_on v qp) items ++ rest)) s.sane
      (MayStep_full {v = v} {queue = Send qp} (record { host = host_of n bounds v dues t due rest s o; lives = p.0.0; posted = refl; retired = refl; full = full_by_free (queue_in v (Send qp)) (waiting v qp) (s.sane.queues qp) }))
      (owes_less n bounds v dues t due rest (accepts (Send qp) (free_on v qp) items) s.within o (λ i. full_items i qp (free_on v qp) items (free_on v qp == 0)) (λ i. full_retires i qp (free_on v qp) items (free_on v qp == 0)) (record {
        proper = full_proper v.device.pair_lives v.device.completions_live (free_on v) qp items rest p.0.0 p.0.2 p.0.1 p.1 (free_on v qp == 0) refl;
        posts = λ i none. full_posts i qp (free_on v qp) items rest (free_on v qp == 0) none;
        others = λ i. inl (omega arith);
      }))

  -- as many were accepted as fill the queue
  pub full_shown : (pending head tail : ℕ) → head ≡ length (v.posted (Send qp)) + pending → tail ≡ (v.settled (Send qp)).retired → head - tail ≡ v.limits.room (Send qp)
      → Goes n bounds v (suc t) (PostFull (Send qp) pending head tail) (slice_set dues t (accepts (Send qp) pending items ++ rest))
  full_shown pending head tail head_is tail_is full =
      let free : pending ≡ free_on v qp = free_by_full (queue_in v (Send qp)) (waiting v qp) pending (s.sane.queues qp) (omega (arith, head_is, tail_is, full)) in
      let there : head ≡ length (v.posted (Send qp)) + free_on v qp = omega (arith, head_is, free) in
      rw (free, there, tail_is) full_goes
