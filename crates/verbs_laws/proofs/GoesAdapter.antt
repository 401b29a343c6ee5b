-- What the adapter makes is legal, and all stays in bounds.
use Rattle.std.proofs.Common.{◌≡◌, ◌≢◌, ℕ, zero, suc, ◌+◌, ◌-◌, ◌<◌, ◌≤◌, ◌==◌, Bool, true, false, if◌then◌else◌, List, [], ◌∷◌, ◌++◌, length, map, refl, sym, ◌∙◌, ap, subst, arith, length-append, append_assoc, append-nil, Option, Some, slice_get}
use Rattle.std.specs.List.{AllByRecursion}
use Rattle.std.proofs.lemmas.Bool.{eq-eqb}
use Rattle.verbs_types.specs.declared.request.Request.{Request}
use Rattle.verbs_types.specs.declared.request.Item.{Item}
use Rattle.verbs_types.specs.declared.request.Item.TheVariants.{Request as TheRequest, Receive as TheReceive}
use Rattle.verbs_types.specs.declared.request.Op.TheVariants.{Nop}
use Rattle.verbs_types.specs.declared.completion.Completion.{Completion}
use Rattle.verbs_types.specs.declared.completion.Queue.TheVariants.{Send}
use Rattle.verbs_types.specs.declared.declaration.TheConstants.{FIRST_QP}
use Rattle.verbs_types.specs.declared.entry.What.TheVariants.{Fetch, Publish}
use Rattle.verbs_types.specs.declared.state.Act.{Act}
use Rattle.verbs_types.specs.declared.state.Act.TheVariants.{Complete}
use Rattle.verbs_types.specs.declared.state.QpState.{QpState}
use Rattle.verbs_types.specs.declared.state.QpState.TheVariants.{Rts}
use Rattle.verbs_types.specs.declared.state.QueuePair.{QueuePair}
use Rattle.verbs_types.specs.declared.state.Unpolled.{Unpolled}
use Rattle.verbs_rules.specs.Rows.{nop_completion, completion_owed, acts_of, publish}
use Rattle.verbs_rules.specs.Rules.{names_living}
use Rattle.verbs_rules.specs.State.{Verbs}
use Rattle.verbs_rules.specs.Step.{after}
use Rattle.verbs_rules.specs.Answered.{Due}
use Rattle.verbs_laws.proofs.Facts.{MayStep_fetch, MayStep_publish, runs_nop}
use Rattle.verbs_rules.specs.Proper.{IsNop}
use Rattle.verbs_rules.specs.Sane.{IsHomed}
use Rattle.verbs_rules.specs.Within.{Bounds, InBounds, Within, Goes, CompletionsWithin, taken_of, into, owed_into}
use Rattle.verbs_laws.proofs.Choices.{number_by, put_send, differs}
use Rattle.verbs_laws.proofs.Counting.{into_mono, into_more, one_if}
use Rattle.verbs_laws.proofs.KeptAdapter.{OwesFor, acts_owe, home, fetched}
use Rattle.verbs_laws.proofs.Kept.{goes}
use Rattle.verbs_laws.proofs.GoesSettle.{named_one}

-- Publish

abbrev one_when : Bool → ℕ
one_when b = if b then 1 else 0

module _ (n : ℕ) (bounds : Bounds) (v : Verbs) (dues : List (List Due)) (cq : ℕ) (u : Unpolled) (others : List Act) (s : InBounds n bounds v dues) (owed : v.device.owed ≡ Complete cq u ∷ others) where
  owed_more : (k : ℕ) → owed_into k v.device.owed ≡ one_when (cq == k) + owed_into k others
  owed_more k = ap (owed_into k) owed

  one_more : one_when (cq == cq) ≡ 1
  one_more = ap one_when (eq-eqb cq cq refl)

  home_is : IsHomed v.device.pair_lives v.device.pairs cq u
  home_is = home n v cq u others s.sane owed

  home_lives : v.device.completions_live cq ≡ true
  home_lives = ap v.device.completions_live (sym home_is.home) ∙ (s.sane.lives u.completion.qp home_is.living).home

  completions_after : (k : ℕ) → CompletionsWithin (v.device.completions_live k) (v.limits.size k) (if k == cq then v.device.produced cq + 1 else v.device.produced k) (v.acked k) (owed_into k others) (into v.device.pairs (taken_of v) k FIRST_QP n) (into v.device.pairs bounds.posts k FIRST_QP n) (bounds.first k)
  completions_after =
      number_by (λ k b. CompletionsWithin (v.device.completions_live k) (v.limits.size k) (if b then v.device.produced cq + 1 else v.device.produced k) (v.acked k) (owed_into k others) (into v.device.pairs (taken_of v) k FIRST_QP n) (into v.device.pairs bounds.posts k FIRST_QP n) (bounds.first k)) cq
      (let c = s.within.completions cq in record { begun = c.begun; produced = omega (arith, c.produced, owed_more cq, one_more); fits = c.fits })
      (λ k apart.
      let c = s.within.completions k in
      let none : one_when (cq == k) ≡ 0 = ap one_when (differs cq k (λ e. apart (sym e))) in
      record { begun = c.begun; produced = omega (arith, c.produced, owed_more k, none); fits = c.fits })

  total_taken : (i : ℕ) → taken_of v i ≤ bounds.posts i
  total_taken i = omega (arith, (s.sane.queues i).taken, (s.within.queues i).posts)

  -- what was published and what is owed fits, since all that can be taken fits
  pub publish_room : v.device.produced cq < bounds.first cq + v.limits.size cq
  publish_room =
      let c = s.within.completions cq in
      omega (arith, c.produced, owed_more cq, one_more, into_mono v.device.pairs (taken_of v) bounds.posts cq FIRST_QP n total_taken, c.fits home_lives)

  within_after : (acts : List Act) → acts ≡ Complete cq u ∷ others → Within n bounds (publish v cq acts) dues
  within_after acts is = subst (λ (acts : List Act). Within n bounds (publish v cq acts) dues) (sym is) (record { queues = s.within.queues; completions = completions_after; owing = s.within.owing })

  -- while fewer are unacknowledged than fit
  pub publish_shown : (x : Completion) → x ≡ u.completion → v.device.produced cq - v.acked cq < v.limits.size cq → Goes n bounds v 0 (Publish cq x) dues
  publish_shown x is room =
      goes n v 0 (Publish cq x) bounds dues s.sane
      (MayStep_publish {v = v} {cq = cq} (record {
        adapter = refl;
        lives = home_lives;
        named = ap (names_living v) is ∙ named_one v cq u home_is;
        first = u;
        others = others;
        owed = owed;
        room = room;
        content = is;
      }))
      (within_after v.device.owed owed)

  -- always
  pub publish_goes : (x : Completion) → x ≡ u.completion → Goes n bounds v 0 (Publish cq x) dues
  publish_goes x is = publish_shown x is (omega (arith, publish_room, (s.within.completions cq).begun, (s.sane.completions cq).acked))

-- Fetch

-- where the queue pair may send, a NOP owes its completion if it is wanted
abbrev pub owed_by : QueuePair → ℕ → ℕ → Request → List Act
owed_by pair qp number r = if r.wanted then Complete pair.send_cq (record { completion = nop_completion qp r.id 0; number = number }) ∷ [] else []

owes_if : (pair : QueuePair) (qp number : ℕ) (r : Request) (b : Bool) (state : QpState) → state ≡ Rts → completion_owed (record pair { state = state }) qp number (record r { wanted = b }) ≡ owed_by pair qp number (record r { wanted = b })
owes_if pair qp number r true state sends = ap (λ (x : QpState). completion_owed (record pair { state = x }) qp number (record r { wanted = true })) sends
owes_if pair qp number r false state sends = ap (λ (x : QpState). completion_owed (record pair { state = x }) qp number (record r { wanted = false })) sends

pub owes_is : (pair : QueuePair) (qp number : ℕ) (r : Request) → pair.state ≡ Rts → completion_owed pair qp number r ≡ owed_by pair qp number r
owes_is pair qp number r sends = owes_if pair qp number r r.wanted pair.state sends

nop_at : (items : List Item) (k : ℕ) (r : Request) → AllByRecursion IsNop items → slice_get items k ≡ Some (TheRequest r) → r.op ≡ Nop
nop_at [] k r h e = absurd (cc e)
nop_at (i ∷ items) zero r h e = let same : i ≡ TheRequest r = cc e in (subst IsNop same h.0).0
nop_at (i ∷ items) (suc k) r h e = nop_at items k r h.1 e

module _ (n : ℕ) (bounds : Bounds) (v : Verbs) (dues : List (List Due)) (qp : ℕ) (r : Request) (s : InBounds n bounds v dues) (lives : v.device.pair_lives qp ≡ true) (sends : (v.device.pairs qp).state ≡ Rts) (idle : v.device.owed ≡ []) (there : slice_get (v.posted (Send qp)) (taken_of v qp) ≡ Some (TheRequest r)) (more : taken_of v qp < length (v.posted (Send qp))) where
  abbrev pub number : ℕ
  number = taken_of v qp + 1

  item_there : slice_get (v.posted (Send qp)) (number - 1) ≡ Some (TheRequest r)
  item_there = ap (slice_get (v.posted (Send qp))) (let e : taken_of v qp + 1 - 1 ≡ taken_of v qp = omega arith in e) ∙ there

  pub is_fetched : after v (Fetch (Send qp) number) ≡ fetched n v qp s.sane lives idle more (owed_by (v.device.pairs qp) qp number r)
  is_fetched =
      ap (λ (o : Option Item). fetched n v qp s.sane lives idle more (acts_of (v.device.pairs qp) qp number o)) item_there
      ∙ ap (fetched n v qp s.sane lives idle more) (owes_is (v.device.pairs qp) qp number r sends)

  abbrev now : Verbs
  now = after v (Fetch (Send qp) number)

  taken_up : (i : ℕ) → taken_of v i ≤ taken_of now i
  taken_up = put_send (λ i taken. taken_of v i ≤ taken) v.device.taken qp number (omega arith) (λ i apart. omega arith)

  taken_one : taken_of v qp + 1 ≤ taken_of now qp
  taken_one = put_send (λ i taken. i ≡ qp → taken_of v qp + 1 ≤ taken) v.device.taken qp number (λ e. omega arith) (λ i apart e. absurd (apart e)) qp refl

  one_taken : (k : ℕ) → into v.device.pairs (taken_of v) k FIRST_QP n + one_if v.device.pairs k qp ≤ into v.device.pairs (taken_of now) k FIRST_QP n
  one_taken k =
      let p = s.sane.lives qp lives in
      let back : FIRST_QP + (qp - FIRST_QP) ≡ qp = omega (arith, p.least) in
      let grows : taken_of v (FIRST_QP + (qp - FIRST_QP)) + 1 ≤ taken_of now (FIRST_QP + (qp - FIRST_QP)) = subst (λ i. taken_of v i + 1 ≤ taken_of now i) (sym back) taken_one in
      subst (λ i. into v.device.pairs (taken_of v) k FIRST_QP n + one_if v.device.pairs k i ≤ into v.device.pairs (taken_of now) k FIRST_QP n) back (into_more v.device.pairs (taken_of v) (taken_of now) k FIRST_QP n (qp - FIRST_QP) taken_up p.most grows)

  idle_owes : (k : ℕ) → owed_into k v.device.owed ≡ 0
  idle_owes k = ap (owed_into k) idle

  owed_few : (acts : List Act) → OwesFor (v.device.pairs qp) qp number acts → (k : ℕ) → owed_into k acts ≤ one_if v.device.pairs k qp
  owed_few [] owes k = omega arith
  owed_few (Complete cq u ∷ acts) owes k =
      let one : one_when (cq == k) ≡ one_if v.device.pairs k qp = ap (λ c. one_when (c == k)) owes.0 in
      let none : owed_into k acts ≡ 0 = ap (owed_into k) owes.4 in
      omega (arith, one, none)

  fetched_within : Within n bounds now dues
  fetched_within = record {
    queues = s.within.queues;
    completions = λ k. let c = s.within.completions k in record { begun = c.begun; produced = omega (arith, c.produced, idle_owes k, owed_few now.device.owed (acts_owe (v.device.pairs qp) qp number _) k, one_taken k); fits = c.fits };
    owing = s.within.owing;
  }

  pub fetch_goes : Goes n bounds v 0 (Fetch (Send qp) number) dues
  fetch_goes =
      goes n v 0 (Fetch (Send qp) number) bounds dues s.sane
      (MayStep_fetch {v = v} {queue = Send qp} (record {
        adapter = refl;
        lives = lives;
        idle = idle;
        next = refl;
        posted = omega (arith, more);
        content = runs_nop v qp number r sends item_there (nop_at (v.posted (Send qp)) (taken_of v qp) r (s.within.queues qp).nops there);
      }))
      fetched_within

request_at : (items : List Item) (k : ℕ) → AllByRecursion IsNop items → k < length items → (r : Request) × (slice_get items k ≡ Some (TheRequest r))
request_at [] k h low = absurd (omega (arith, low))
request_at (TheRequest r ∷ items) zero h low = (r, refl)
request_at (TheReceive r ∷ items) zero h low = absurd h.0
request_at (i ∷ items) (suc k) h low = request_at items k h.1 (omega (arith, low))

-- told by the request's number, which was seen as posted
pub fetch_shown : (n : ℕ) (bounds : Bounds) (v : Verbs) (dues : List (List Due)) (qp number : ℕ) → InBounds n bounds v dues → v.device.pair_lives qp ≡ true → (v.device.pairs qp).state ≡ Rts → v.device.owed ≡ [] → number ≡ taken_of v qp + 1 → number ≤ length (v.posted (Send qp))
    → Goes n bounds v 0 (Fetch (Send qp) number) dues
fetch_shown n bounds v dues qp number s lives sends idle next posted =
    let low : taken_of v qp < length (v.posted (Send qp)) = omega (arith, next, posted) in
    let r = request_at (v.posted (Send qp)) (taken_of v qp) (s.within.queues qp).nops low in
    subst (λ k. Goes n bounds v 0 (Fetch (Send qp) k) dues) (sym next) (fetch_goes n bounds v dues qp r.0 s lives sends idle r.1 low)
