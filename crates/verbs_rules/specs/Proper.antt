-- What threads can come to owe: entries on objects that live, and within the limits.
use Rattle.std.specs.Prelude.{ℕ, ◌≡◌, ◌≢◌, ◌<◌, ◌≤◌, ◌⊎◌, Bool, true, false, if◌then◌else◌, List, [], ◌∷◌, length, slice_index_or}
use Rattle.std.specs.List.{list_any, sum_by, AllByRecursion}
use Rattle.verbs_types.specs.declared.request.Item.{Item}
use Rattle.verbs_types.specs.declared.request.Item.TheVariants.{Request as TheRequest, Receive as TheReceive}
use Rattle.verbs_types.specs.declared.request.Body.TheVariants.{Sges}
use Rattle.verbs_types.specs.declared.request.Op.TheVariants.{Nop}
use Rattle.verbs_types.specs.declared.completion.Queue.{Queue}
use Rattle.verbs_types.specs.declared.completion.Queue.TheVariants.{Send, Recv, Shared}
use Rattle.verbs_rules.specs.Same.{same_queue}
use Rattle.verbs_rules.specs.Answered.{Due, Posting, Accepting, Polling, Draining, Retiring, Acking}

-- a request without operation
abbrev pub IsNop : Item → Type 0
IsNop (TheRequest r) = (r.op ≡ Nop) × (r.body ≡ Sges [])
IsNop (TheReceive r) = ⊥

-- the requests of a queue pair that are still to be posted on its send queue
abbrev pub items_on : ℕ → Due → ℕ
items_on qp (Posting queue items) = if same_queue (Send qp) queue then length items else 0
items_on qp (Accepting queue items) = if same_queue (Send qp) queue then length items else 0
items_on qp _ = 0

abbrev pub posts_on : ℕ → Due → Bool
posts_on qp (Posting queue items) = same_queue (Send qp) queue
posts_on qp (Accepting queue items) = same_queue (Send qp) queue
posts_on qp _ = false

abbrev pub retires_on : ℕ → Due → ℕ
retires_on qp (Retiring queue) = if same_queue (Send qp) queue then 1 else 0
retires_on qp _ = 0

-- the sum over what all threads owe
abbrev pub over_dues : (Due → ℕ) → List (List Due) → ℕ
over_dues count dues = sum_by (λ (ds : List Due). sum_by count ds) dues

abbrev pub dues_of_thread : List (List Due) → ℕ → List Due
dues_of_thread dues t = slice_index_or dues t []

-- the send queue of a queue pair that lives
pub record IsSend (lives : ℕ → Bool) (queue : Queue) : Type 0 where
  pub qp : ℕ
  pub is : queue ≡ Send qp
  pub living : lives qp ≡ true

-- a list for a queue of a queue pair that lives: requests without operation on a send queue, and anything on a receive queue
abbrev pub IsPostable : (ℕ → Bool) → Queue → List Item → Type 0
IsPostable pairs (Send qp) items = (pairs qp ≡ true) × (0 < length items) × AllByRecursion IsNop items
IsPostable pairs (Recv qp) items = (pairs qp ≡ true) × (0 < length items)
IsPostable pairs (Shared srq) items = ⊥

-- what a thread can come to owe
abbrev pub IsProper : (ℕ → Bool) → (ℕ → Bool) → Due → Type 0
IsProper pairs cqs (Posting queue items) = IsPostable pairs queue items
IsProper pairs cqs (Accepting queue items) = ⊥
IsProper pairs cqs (Polling cq most) = (cqs cq ≡ true) × (1 ≤ most) × (most ≤ 16)
IsProper pairs cqs (Draining cq) = cqs cq ≡ true
IsProper pairs cqs (Retiring queue) = IsSend pairs queue
IsProper pairs cqs (Acking cq) = cqs cq ≡ true

-- what a full send queue had accepted, for which it has room
pub record FitsNow (pairs : ℕ → Bool) (free : ℕ → ℕ) (qp : ℕ) (items : List Item) : Type 0 where
  pub living : pairs qp ≡ true
  pub some : 0 < length items
  pub nops : AllByRecursion IsNop items
  pub room : length items ≤ free qp

abbrev pub IsAccepted : (ℕ → Bool) → (ℕ → ℕ) → Queue → List Item → Type 0
IsAccepted pairs free (Send qp) items = FitsNow pairs free qp items
IsAccepted pairs free (Recv qp) items = IsPostable pairs (Recv qp) items
IsAccepted pairs free (Shared srq) items = ⊥

-- the same for what it owes next
abbrev pub IsNext : (ℕ → Bool) → (ℕ → Bool) → (ℕ → ℕ) → Due → Type 0
IsNext pairs cqs free (Accepting queue items) = IsAccepted pairs free queue items
IsNext pairs cqs free d = IsProper pairs cqs d

abbrev pub AreProper : (ℕ → Bool) → (ℕ → Bool) → (ℕ → ℕ) → List Due → Type 0
AreProper pairs cqs free [] = Unit {0}
AreProper pairs cqs free (d ∷ ds) = IsNext pairs cqs free d × AllByRecursion (IsProper pairs cqs) ds

-- at most one thread posts on the send queue of each queue pair
abbrev pub OnePosts : List (List Due) → Type 0
OnePosts dues = (qp t u : ℕ) → t ≢ u → (list_any (posts_on qp) (dues_of_thread dues t) ≡ false) ⊎ (list_any (posts_on qp) (dues_of_thread dues u) ≡ false)

-- what the threads owe, where each send queue has room for `free` more requests
pub record Owing (pairs cqs : ℕ → Bool) (free : ℕ → ℕ) (dues : List (List Due)) : Type 0 where
  pub few : length dues ≤ 16
  pub poster : OnePosts dues
  pub proper : (t : ℕ) → AreProper pairs cqs free (dues_of_thread dues t)

-- a thread owes this next, and then the rest
pub record Owes (dues : List (List Due)) (t : ℕ) (due : Due) (rest : List Due) : Type 0 where
  pub low : t < length dues
  pub is : dues_of_thread dues t ≡ due ∷ rest
