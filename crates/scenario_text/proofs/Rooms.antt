-- What was posted, and the room that is left.
use Rattle.std.proofs.Common.{◌≡◌, ℕ, zero, suc, ◌+◌, ◌≤◌, ◌==◌, Bool, true, false, cond, List, [], ◌∷◌, ◌++◌, sum_by, Some, slice_get, refl, sym, ap, ap₂, ◌∙◌, arith}
use Rattle.std.proofs.lemmas.Bool.{eq-eqb, ne_eqb}
use Rattle.std.proofs.lemmas.List.Sums.{sum_by_push}
use Rattle.std.proofs.lemmas.Option.{same_Some, none-some}
use Rattle.verbs_types.specs.declared.call.Call.{Call}
use Rattle.verbs_types.specs.declared.declaration.QpLine.{QpLine}
use Rattle.scenario_text.specs.Limits.{posted_on, received_on, counted_into, completing_into}

one_here : (into : Bool) (n b m r z : ℕ) → n ≡ b + 1 → m ≡ r → z ≡ cond into 1 0 → cond into n 0 + m ≡ cond into b 0 + r + z
one_here true n b m r z here rest last = omega (arith, here, rest, last)
one_here false n b m r z here rest last = omega (arith, rest, last)

one_later : (into : Bool) (n b m r z : ℕ) → n ≡ b + 0 → m ≡ r + z → cond into n 0 + m ≡ cond into b 0 + r + z
one_later true n b m r z here rest = omega (arith, here, rest)
one_later false n b m r z here rest = omega (arith, rest)

none_here : (into : Bool) (n m : ℕ) → n ≡ 0 → m ≡ 0 → cond into n 0 + m ≡ 0
none_here true n m here rest = omega (arith, here, rest)
none_here false n m here rest = omega (arith, rest)

-- of one of the two queues of queue pairs
module _ (queue : QpLine → ℕ) where
  -- nothing completes where nothing is posted
  pub counted_none : (count : ℕ → ℕ) → ((k : ℕ) → count k ≡ 0) → (c q : ℕ) (ls : List QpLine) → counted_into queue count c q ls ≡ 0
  counted_none count none c q [] = refl
  counted_none count none c q (l ∷ ls) = none_here (queue l == c) _ _ (none q) (counted_none count none c (q + 1) ls)

  -- as much completes where as much is posted
  pub counted_same : (before now : ℕ → ℕ) (c q : ℕ) (ls : List QpLine) → ((k : ℕ) → q ≤ k → now k ≡ before k) → counted_into queue now c q ls ≡ counted_into queue before c q ls
  counted_same before now c q [] same = refl
  counted_same before now c q (l ∷ ls) same =
      ap₂ (λ n m. cond (queue l == c) n 0 + m) (same q (omega arith)) (counted_same before now c (q + 1) ls (λ k le. same k (omega (arith, le))))

  -- one more on one queue pair completes into its queue
  pub counted_more : (before now : ℕ → ℕ) (c q j : ℕ) (ls : List QpLine) (l : QpLine) → slice_get ls j ≡ Some l → ((k : ℕ) → now k ≡ before k + cond (q + j == k) 1 0)
      → counted_into queue now c q ls ≡ counted_into queue before c q ls + cond (queue l == c) 1 0
  counted_more before now c q j [] l at_j more = absurd (none-some _ at_j)
  counted_more before now c q zero (x ∷ ls) l at_j more =
      let here : now q ≡ before q + 1 = more q ∙ ap (λ t. before q + cond t 1 0) (eq-eqb (q + 0) q (omega arith)) in
      let rest : counted_into queue now c (q + 1) ls ≡ counted_into queue before c (q + 1) ls = counted_same before now c (q + 1) ls later in
      let last : cond (queue l == c) 1 0 ≡ cond (queue x == c) 1 0 = ap (λ (y : QpLine). cond (queue y == c) 1 0) (sym (same_Some x l at_j)) in
      one_here (queue x == c) _ _ _ _ _ here rest last
    where
      later : (k : ℕ) → q + 1 ≤ k → now k ≡ before k
      later k le =
          let not_here : (q + 0 == k) ≡ false = ne_eqb (q + 0) k (λ e. omega (arith, le, e)) in
          let stays : now k ≡ before k + 0 = more k ∙ ap (λ t. before k + cond t 1 0) not_here in
          omega (arith, stays)
  counted_more before now c q (suc j) (x ∷ ls) l at_j more =
      let not_here : (q + suc j == q) ≡ false = ne_eqb (q + suc j) q (λ e. omega (arith, e)) in
      let here : now q ≡ before q + 0 = more q ∙ ap (λ t. before q + cond t 1 0) not_here in
      let place : q + suc j ≡ q + 1 + j = omega arith in
      let rest : counted_into queue now c (q + 1) ls ≡ counted_into queue before c (q + 1) ls + cond (queue l == c) 1 0 =
      counted_more before now c (q + 1) j ls l at_j (λ k. more k ∙ ap (λ n. before k + cond (n == k) 1 0) place)
      in
      one_later (queue x == c) _ _ _ _ _ here rest

-- each queue pair has as many posted requests and receives
pub record SameCounts (before now : List (List Call)) : Type 0 where
  pub posted : (k : ℕ) → posted_on k now ≡ posted_on k before
  pub received : (k : ℕ) → received_on k now ≡ received_on k before

pub completing_none : (c q : ℕ) (ls : List QpLine) → completing_into c q ls [] ≡ 0
completing_none c q ls =
    omega (arith, counted_none (λ (l : QpLine). l.send_cq) (λ k. posted_on k []) (λ k. refl) c q ls, counted_none (λ (l : QpLine). l.recv_cq) (λ k. received_on k []) (λ k. refl) c q ls)

pub completing_same : (c q : ℕ) (ls : List QpLine) (before now : List (List Call)) → SameCounts before now → completing_into c q ls now ≡ completing_into c q ls before
completing_same c q ls before now same =
    ap₂ (λ n m. n + m) (counted_same (λ (l : QpLine). l.send_cq) (λ k. posted_on k before) (λ k. posted_on k now) c q ls (λ k le. same.posted k))
    (counted_same (λ (l : QpLine). l.recv_cq) (λ k. received_on k before) (λ k. received_on k now) c q ls (λ k le. same.received k))

-- one more request or receive, which completes into the queue with this number
pub record OneMore (ls : List QpLine) (q : ℕ) (before now : List (List Call)) (queue : ℕ) : Type 0 where
  pub more : (c : ℕ) → completing_into c q ls now ≡ completing_into c q ls before + cond (queue == c) 1 0

pub one_request : (q j : ℕ) (ls : List QpLine) (l : QpLine) (before now : List (List Call)) → slice_get ls j ≡ Some l → ((k : ℕ) → posted_on k now ≡ posted_on k before + cond (q + j == k) 1 0)
    → ((k : ℕ) → received_on k now ≡ received_on k before) → OneMore ls q before now l.send_cq
one_request q j ls l before now at_j more same = record { more = all }
  where
    all : (c : ℕ) → completing_into c q ls now ≡ completing_into c q ls before + cond (l.send_cq == c) 1 0
    all c =
        omega (
          arith,
          counted_more (λ (x : QpLine). x.send_cq) (λ k. posted_on k before) (λ k. posted_on k now) c q j ls l at_j more,
          counted_same (λ (x : QpLine). x.recv_cq) (λ k. received_on k before) (λ k. received_on k now) c q ls (λ k le. same k),
        )

pub one_receive : (q j : ℕ) (ls : List QpLine) (l : QpLine) (before now : List (List Call)) → slice_get ls j ≡ Some l → ((k : ℕ) → received_on k now ≡ received_on k before + cond (q + j == k) 1 0)
    → ((k : ℕ) → posted_on k now ≡ posted_on k before) → OneMore ls q before now l.recv_cq
one_receive q j ls l before now at_j more same = record { more = all }
  where
    all : (c : ℕ) → completing_into c q ls now ≡ completing_into c q ls before + cond (l.recv_cq == c) 1 0
    all c =
        omega (
          arith,
          counted_more (λ (x : QpLine). x.recv_cq) (λ k. received_on k before) (λ k. received_on k now) c q j ls l at_j more,
          counted_same (λ (x : QpLine). x.send_cq) (λ k. posted_on k before) (λ k. posted_on k now) c q ls (λ k le. same k),
        )

-- the last thread's last call
module _ (by : Call → ℕ) (front : List (List Call)) (program : List Call) where
  pub counted_push : (call : Call) → sum_by (λ (cs : List Call). sum_by by cs) (front ++ (program ++ call ∷ []) ∷ []) ≡ sum_by (λ (cs : List Call). sum_by by cs) (front ++ program ∷ []) + by call
  counted_push call =
      let all : sum_by (λ (cs : List Call). sum_by by cs) (front ++ (program ++ call ∷ []) ∷ []) ≡ sum_by (λ (cs : List Call). sum_by by cs) front + sum_by by (program ++ call ∷ []) = sum_by_push (λ (cs : List Call). sum_by by cs) front (program ++ call ∷ []) in
      let was : sum_by (λ (cs : List Call). sum_by by cs) (front ++ program ∷ []) ≡ sum_by (λ (cs : List Call). sum_by by cs) front + sum_by by program = sum_by_push (λ (cs : List Call). sum_by by cs) front program in
      let last : sum_by by (program ++ call ∷ []) ≡ sum_by by program + by call = sum_by_push by program call in
      omega (arith, all, was, last)
