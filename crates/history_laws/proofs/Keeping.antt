-- Each step of a legal history keeps the account of each work queue.
use Rattle.std.proofs.Common.{◌≡◌, ℕ, ◌-◌, ◌==◌, Bool, false, if◌then◌else◌, refl, sym, ap, ◌∙◌, subst, inl, inr, List, [], ◌∷◌, ◌++◌, map, append_assoc, fold, arith}
use Rattle.std.specs.List.{AllByRecursion}
use Rattle.std.specs.Prelude.{Some, slice_get}
use Rattle.std.proofs.lemmas.Bool.{and_parts, cases_Bool}
use Rattle.std.proofs.lemmas.List.Elements.{filter-append}
use Rattle.verbs_types.specs.declared.completion.Completion.{Completion}
use Rattle.verbs_types.specs.declared.completion.Queue.{Queue}
use Rattle.verbs_types.specs.declared.completion.Queue.TheVariants.{Send, Recv, Shared}
use Rattle.verbs_types.specs.declared.declaration.Lines.{Lines}
use Rattle.verbs_types.specs.declared.declaration.QpLine.{QpLine}
use Rattle.verbs_types.specs.declared.declaration.TheConstants.{FIRST_QP}
use Rattle.verbs_types.specs.declared.entry.Entry.{Entry}
use Rattle.verbs_types.specs.declared.entry.What.{What}
use Rattle.verbs_types.specs.declared.entry.What.TheVariants.{Post, PostFull, Poll, Retire, Free, Ack, Arm, TakeEvent, Submit, Reply, ReadByte, WriteByte, Clean, Fetch, TakeReceive, GetByte, PutByte, Publish, SeeArm, Event, Overrun, Lost, Execute}
use Rattle.verbs_types.specs.declared.request.Item.{Item}
use Rattle.verbs_types.specs.declared.request.Item.TheVariants.{Request as TheRequest}
use Rattle.verbs_types.specs.declared.state.Act.TheVariants.{Complete}
use Rattle.verbs_rules.specs.Family.{put}
use Rattle.verbs_rules.specs.Legal.{IsLegal}
use Rattle.verbs_rules.specs.Rows.{acts_of, fetch, poll, publish}
use Rattle.verbs_rules.specs.Same.{same_queue}
use Rattle.verbs_rules.specs.Start.{start}
use Rattle.verbs_rules.specs.State.{Verbs}
use Rattle.verbs_rules.specs.Step.{MayStep, after, after_entry}
use Rattle.verbs_laws.proofs.Facts.{MayFetch, MayFetch_by_step, MayPublish, MayPublish_by_step}
use Rattle.verbs_laws.proofs.Families.{put_at, put_beside}
use Rattle.verbs_laws.proofs.Sameness.{same_queue-true, same_queue_refl}
use Rattle.history_laws.specs.Laws.{AllComeBack, IdsComeBack, NoneIsForgotten, owed_completion, owed_of, waiting_on}
use Rattle.history_laws.specs.Said.{of_queue, polls, posts_on, publishes, posted_on, published_of, polled_of}
use Rattle.history_laws.proofs.Accounts.{Account, quiet, posts_more, writes, polls_some, takes_next, in_order, all_answered, at_rest}
use Rattle.history_laws.proofs.Balance.{none_waits}
use Rattle.history_laws.proofs.Homes.{Homed, IsAt, home, homed_after, own_alone, polled_home, published_home}
use Rattle.history_laws.proofs.Queues.{post_grows, can_do-true, acts_answer, acts_of_others}
use Rattle.history_laws.proofs.Waiting.{poll_takes, owed_adds}

-- the completions of a work queue's requests that wait on its completion queue
abbrev pub waiting_of : Verbs → Queue → List Completion
waiting_of v q = of_queue q (waiting_on v (home v.device.pairs q))

abbrev pub AccountOf : Verbs → Queue → List Item → List Completion → List Completion → Type 0
AccountOf v q posted published polled = Account (v.posted q) (v.device.taken q) (owed_of v q) (waiting_of v q) posted published polled

-- equal parts have equal accounts
moved : {requests requests' : List Item} {taken taken' : ℕ} {owed owed' waiting waiting' : List Completion} {posted : List Item} {published polled : List Completion} → requests' ≡ requests → taken' ≡ taken → owed' ≡ owed → waiting' ≡ waiting
    → Account requests taken owed waiting posted published polled → Account requests' taken' owed' waiting' posted published polled
moved {requests} {requests'} {taken} {taken'} {owed} {owed'} {waiting} {waiting'} {posted} {published} {polled} rs ts os ws a =
    subst (λ r. Account r taken' owed' waiting' posted published polled) (sym rs)
    (subst (λ t. Account requests t owed' waiting' posted published polled) (sym ts)
    (subst (λ o. Account requests taken o waiting' posted published polled) (sym os)
    (subst (λ w. Account requests taken owed w posted published polled) (sym ws) a)))

module _ (v : Verbs) (q : Queue) (posted : List Item) (published polled : List Completion) where
  abbrev Before : Type 0
  Before = AccountOf v q posted published polled

  nothing_said : Before → AccountOf v q (posted ++ []) (published ++ []) (polled ++ [])
  nothing_said a = quiet (v.posted q) (v.device.taken q) (owed_of v q) (waiting_of v q) posted published polled a

  after_post : (queue : Queue) (items : List Item) → Before → AccountOf (after v (Post queue items)) q (posted ++ posts_on q (Post queue items)) (published ++ []) (polled ++ [])
  after_post queue items a =
      moved (post_grows v.posted queue items q) refl refl refl (posts_more (v.posted q) (v.device.taken q) (owed_of v q) (waiting_of v q) posted published polled (posts_on q (Post queue items)) a)

  after_retire : (queue : Queue) (count : ℕ) → Before → AccountOf (after v (Retire queue count)) q (posted ++ []) (published ++ []) (polled ++ [])
  after_retire queue count a = nothing_said a

  after_ack : (cq index : ℕ) → Before → AccountOf (after v (Ack cq index)) q (posted ++ []) (published ++ []) (polled ++ [])
  after_ack cq index a = nothing_said a

  after_poll : (actor cq most : ℕ) (xs : List Completion) → MayStep v (record { actor = actor; what = Poll cq most xs }) → Homed v → Before → AccountOf (poll v cq xs) q (posted ++ []) (published ++ []) (polled ++ of_queue q xs)
  after_poll actor cq most xs step h a =
      let k = home v.device.pairs q in
      let next : Verbs = poll v cq xs in
      let mine : List Completion = if k == cq then xs else [] in
      let own : of_queue q mine ≡ of_queue q xs = own_alone v.device.pairs q cq xs (polled_home v actor cq most xs step h) in
      let split : waiting_of v q ≡ of_queue q xs ++ waiting_of next q =
      ap (of_queue q) (poll_takes v actor cq most xs step k)
      ∙ (filter-append (λ (x : Completion). same_queue q x.queue) mine (waiting_on next k) ∙ ap (λ ys. ys ++ waiting_of next q) own) in
      (polls_some (v.posted q) (v.device.taken q) (owed_of v q) (waiting_of next q) posted published polled (of_queue q xs) (moved refl refl refl (sym split) a))

  after_publish : (actor cq : ℕ) (x : Completion) → MayPublish v actor cq x → Homed v → Before → AccountOf (publish v cq v.device.owed) q (posted ++ []) (published ++ of_queue q (x ∷ [])) (polled ++ [])
  after_publish actor cq x may h a =
      let k = home v.device.pairs q in
      let y : Completion = may.first.completion in
      let test : Completion → Bool = λ (z : Completion). same_queue q z.queue in
      let others : List Completion = of_queue q (map owed_completion may.others) in
      let mine : List Completion = if k == cq then y ∷ [] else [] in
      let own : of_queue q mine ≡ of_queue q (y ∷ []) = own_alone v.device.pairs q cq (y ∷ []) ((published_home v actor cq x may h).0, tt) in
      let owes : owed_of v q ≡ of_queue q (y ∷ []) ++ others = ap (λ acts. of_queue q (map owed_completion acts)) may.owed ∙ filter-append test (y ∷ []) (map owed_completion may.others) in
      let waits : waiting_of (publish v cq (Complete cq may.first ∷ may.others)) q ≡ waiting_of v q ++ of_queue q (y ∷ []) =
      ap (of_queue q) (owed_adds v cq may.first may.others k) ∙ (filter-append test (waiting_on v k) mine ∙ ap (λ ys. waiting_of v q ++ ys) own) in
      let wrote : AccountOf (publish v cq (Complete cq may.first ∷ may.others)) q (posted ++ []) (published ++ of_queue q (y ∷ [])) (polled ++ []) =
      moved refl refl refl waits (writes (v.posted q) (v.device.taken q) others (waiting_of v q) posted published polled (of_queue q (y ∷ [])) (moved refl refl (sym owes) refl a)) in
      subst (λ acts. AccountOf (publish v cq acts) q (posted ++ []) (published ++ of_queue q (x ∷ [])) (polled ++ [])) (sym may.owed)
      (subst (λ z. AccountOf (publish v cq (Complete cq may.first ∷ may.others)) q (posted ++ []) (published ++ of_queue q (z ∷ [])) (polled ++ [])) (sym may.content) wrote)

  fetch_other : (actor qp number : ℕ) → MayFetch v actor (Send qp) number → same_queue q (Send qp) ≡ false → Before → AccountOf (fetch v (Send qp) number) q posted published polled
  fetch_other actor qp number may other a =
      let beside : put same_queue v.device.taken (Send qp) number q ≡ v.device.taken q = put_beside same_queue v.device.taken (Send qp) number q other in
      let idle : owed_of v q ≡ [] = ap (λ acts. of_queue q (map owed_completion acts)) may.idle in
      let none = acts_of_others (v.device.pairs qp) qp number (slice_get (v.posted (Send qp)) (number - 1)) q other in
      moved refl beside (none ∙ sym idle) refl a

module _ (v : Verbs) (posted : List Item) (published polled : List Completion) where
  fetch_own : (actor qp number : ℕ) → MayFetch v actor (Send qp) number → AccountOf v (Send qp) posted published polled → AccountOf (fetch v (Send qp) number) (Send qp) posted published polled
  fetch_own actor qp number may a =
      let requests = v.posted (Send qp) in
      let changed : put same_queue v.device.taken (Send qp) number (Send qp) ≡ number = put_at same_queue v.device.taken (Send qp) number (Send qp) (same_queue_refl (Send qp)) in
      let doable = can_do-true (slice_get requests (number - 1)) (and_parts _ _ may.content).1 in
      let idle : owed_of v (Send qp) ≡ [] = ap (λ acts. of_queue (Send qp) (map owed_completion acts)) may.idle in
      let xs : List Completion = of_queue (Send qp) (map owed_completion (acts_of (v.device.pairs qp) qp number (Some (TheRequest doable.0)))) in
      moved refl changed
      (ap (λ o. of_queue (Send qp) (map owed_completion (acts_of (v.device.pairs qp) qp number o))) doable.1) refl
      (takes_next requests (v.device.taken (Send qp)) (owed_of v (Send qp)) (waiting_of v (Send qp)) posted published polled number (TheRequest doable.0) xs idle may.next doable.1 (acts_answer (v.device.pairs qp) qp number doable.0) a)

  fetched : (q : Queue) (actor qp number : ℕ) → MayFetch v actor (Send qp) number → AccountOf v q posted published polled → AccountOf (fetch v (Send qp) number) q posted published polled
  fetched q actor qp number may a =
      elim (cases_Bool (same_queue q (Send qp))) [
        | inl same ↦
            let is = same_queue-true q (Send qp) same in
            subst (λ k. AccountOf (fetch v (Send qp) number) k posted published polled) (sym is) (fetch_own actor qp number may (subst (λ k. AccountOf v k posted published polled) is a))
        | inr other ↦ fetch_other v q posted published polled actor qp number may other a
      ]

module _ (q : Queue) where
  account_after : (v : Verbs) (actor : ℕ) (w : What) (posted : List Item) (published polled : List Completion) → MayStep v (record { actor = actor; what = w }) → Homed v
      → AccountOf v q posted published polled → AccountOf (after v w) q (posted ++ posts_on q w) (published ++ of_queue q (publishes w)) (polled ++ of_queue q (polls w))
  account_after v actor (Post queue items) ps bs ls step h a = after_post v q ps bs ls queue items a
  account_after v actor (PostFull queue pending head tail) ps bs ls step h a = nothing_said v q ps bs ls a
  account_after v actor (Poll cq most xs) ps bs ls step h a = after_poll v q ps bs ls actor cq most xs step h a
  account_after v actor (Retire queue count) ps bs ls step h a = after_retire v q ps bs ls queue count a
  account_after v actor (Ack cq index) ps bs ls step h a = after_ack v q ps bs ls cq index a
  account_after v actor (Fetch (Send qp) number) ps bs ls step h a =
      nothing_said (fetch v (Send qp) number) q ps bs ls (fetched v ps bs ls q actor qp number (MayFetch_by_step v actor (Send qp) number step) a)
  account_after v actor (Fetch (Recv qp) number) ps bs ls step h a = nothing_said v q ps bs ls a
  account_after v actor (Fetch (Shared srq) number) ps bs ls step h a = nothing_said v q ps bs ls a
  account_after v actor (Publish cq x) ps bs ls step h a = after_publish v q ps bs ls actor cq x (MayPublish_by_step v actor cq x step) h a
  account_after v actor (Free srq) ps bs ls step h a = nothing_said v q ps bs ls a
  account_after v actor (Arm cq kind index number) ps bs ls step h a = nothing_said v q ps bs ls a
  account_after v actor (TakeEvent eq event) ps bs ls step h a = nothing_said v q ps bs ls a
  account_after v actor (Submit command) ps bs ls step h a = nothing_said v q ps bs ls a
  account_after v actor (Reply command answer) ps bs ls step h a = nothing_said v q ps bs ls a
  account_after v actor (ReadByte addr byte) ps bs ls step h a = nothing_said v q ps bs ls a
  account_after v actor (WriteByte addr byte) ps bs ls step h a = nothing_said v q ps bs ls a
  account_after v actor (Clean cq qp index) ps bs ls step h a = nothing_said v q ps bs ls a
  account_after v actor (TakeReceive queue) ps bs ls step h a = nothing_said v q ps bs ls a
  account_after v actor (GetByte addr byte) ps bs ls step h a = nothing_said v q ps bs ls a
  account_after v actor (PutByte addr byte) ps bs ls step h a = nothing_said v q ps bs ls a
  account_after v actor (SeeArm cq kind index number) ps bs ls step h a = nothing_said v q ps bs ls a
  account_after v actor (Event eq event) ps bs ls step h a = nothing_said v q ps bs ls a
  account_after v actor (Overrun cq index acked) ps bs ls step h a = nothing_said v q ps bs ls a
  account_after v actor (Lost cq) ps bs ls step h a = nothing_said v q ps bs ls a
  account_after v actor (Execute of command answer) ps bs ls step h a = nothing_said v q ps bs ls a

  account_along : (posted : List Item) (published polled : List Completion) (v : Verbs) (history : List Entry) → IsLegal v history → Homed v → AccountOf v q posted published polled
      → AccountOf (fold after_entry v history) q (posted ++ posted_on q history) (published ++ published_of q history) (polled ++ polled_of q history)
  account_along ps bs ls v [] legal h a = nothing_said v q ps bs ls a
  account_along ps bs ls v (e ∷ history) legal h a =
      let w = e.what in
      let now = account_after v e.actor w ps bs ls legal.0 h a in
      let later = account_along (ps ++ posts_on q w) (bs ++ of_queue q (publishes w)) (ls ++ of_queue q (polls w)) (after v w) history legal.1 (homed_after v e.actor w legal.0 h) now in
      let last : Verbs = fold after_entry (after v w) history in
      subst (λ xs. AccountOf last q xs (bs ++ published_of q (e ∷ history)) (ls ++ polled_of q (e ∷ history))) (append_assoc ps (posts_on q w) (posted_on q history))
      (subst (λ ys. AccountOf last q ((ps ++ posts_on q w) ++ posted_on q history) ys (ls ++ polled_of q (e ∷ history))) (append_assoc bs (of_queue q (publishes w)) (published_of q history))
      (subst (λ zs. AccountOf last q ((ps ++ posts_on q w) ++ posted_on q history) ((bs ++ of_queue q (publishes w)) ++ published_of q history) zs) (append_assoc ls (of_queue q (polls w)) (polled_of q history)) later))

-- where a run begins

homed_first : (d : Lines) → Homed (start d)
homed_first d = record { waiting = λ cq. subst (AllByRecursion (IsAt (start d).device.pairs cq)) (sym (none_waits d cq)) tt; hand = tt }

account_first : (d : Lines) (q : Queue) → AccountOf (start d) q [] [] []
account_first d q =
    let none : waiting_of (start d) q ≡ [] = ap (of_queue q) (none_waits d (home (start d).device.pairs q)) in
    moved
    refl
    refl
    refl
    none
    (record { posts = refl; reached = omega arith; answered = tt; balanced = refl })

module _ (d : Lines) (history : List Entry) (q : Queue) (legal : IsLegal (start d) history) where
  account_last : AccountOf (fold after_entry (start d) history) q (posted_on q history) (published_of q history) (polled_of q history)
  account_last = account_along q [] [] [] (start d) history legal (homed_first d) (account_first d q)

pub ids_come_back : IdsComeBack
ids_come_back d history q legal =
    let v : Verbs = fold after_entry (start d) history in
    in_order (v.posted q) (v.device.taken q) (owed_of v q) (waiting_of v q) (posted_on q history) (published_of q history) (polled_of q history) (account_last d history q legal)

pub none_is_forgotten : NoneIsForgotten
none_is_forgotten d history q legal =
    let v : Verbs = fold after_entry (start d) history in
    all_answered (v.posted q) (v.device.taken q) (owed_of v q) (waiting_of v q) (posted_on q history) (published_of q history) (polled_of q history) (account_last d history q legal)

pub all_come_back : AllComeBack
all_come_back d history q legal rest =
    let v : Verbs = fold after_entry (start d) history in
    let owed : owed_of v q ≡ [] = ap (λ acts. of_queue q (map owed_completion acts)) rest.nothing_owed in
    let waiting : waiting_of v q ≡ [] = ap (of_queue q) (rest.nothing_waits (home v.device.pairs q)) in
    at_rest (v.posted q) (v.device.taken q) (owed_of v q) (waiting_of v q) (posted_on q history) (published_of q history) (polled_of q history) owed waiting rest.taken (account_last d history q legal)
