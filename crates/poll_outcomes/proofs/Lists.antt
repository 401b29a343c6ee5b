-- The lists of a poll: the send queues by place, the numbers of completions, and the ends that are to be stored.
use Rattle.std.proofs.Common.{◌≡◌, ℕ, zero, suc, inl, inr, refl, sym, ap, ◌∙◌, subst, arith, ◌==◌, ◌+◌, ◌<◌, ◌≤◌, ◌^◌, nat_lt, not, Bool, true, false, cond, if◌then◌else◌, List, [], ◌∷◌, ◌++◌, length, map, take, drop, slice_get, slice_index_or, position, unwrap_or, is_some, Option, None, Some}
use Rattle.std.specs.List.{AllByRecursion, prefix_len}
use Rattle.std.proofs.lemmas.Bool.{eq-eqb, lt-ltb, le-leb, and_from, false≢true}
use Rattle.std.proofs.lemmas.List.{take_more}
use Rattle.std.proofs.lemmas.Option.{slice_get_within, get_or_from_slice_get}
use Rattle.verbs_types.specs.declared.completion.Completion.{Completion}
use Rattle.verbs_types.specs.declared.completion.Queue.{Queue}
use Rattle.verbs_types.specs.declared.completion.Queue.TheVariants.{Send}
use Rattle.verbs_types.specs.declared.declaration.Lines.{Lines}
use Rattle.verbs_types.specs.declared.state.Unpolled.{Unpolled}
use Rattle.verbs_rules.specs.Answered.{Due, Retiring, Acking}
use Rattle.verbs_rules.specs.Same.{same_queue}
use Rattle.counted_ring.specs.Retirer.{Retirer}
use Rattle.object_places.specs.Places.{send_of}
use Rattle.provider_poll.specs.declared.state.End.{End}
use Rattle.provider_poll.specs.Rule.{queues_at}
use Rattle.provider_poll.specs.SendQueue.{SendView, is_idle}
use Rattle.provider_poll.specs.Stores.{may_store, may_store_in, is_ready, from_ready, storing, storing_first}
use Rattle.provider_poll.specs.PollStep.{place_of_number}
use Rattle.provider_poll.specs.Fresh.{senders}
use Rattle.actor_rules.specs.Polling.{place_in}
use Rattle.actor_rules.specs.Dues.{retiring}
use Rattle.verbs_rules.specs.Sane.{Climbs, numbers_in}
use Rattle.verbs_laws.proofs.Choices.{either, differs}
use Rattle.actor_rules.specs.Matching.{Match}
use Rattle.actor_rules.specs.Objects.{retirer_in}
use Rattle.actor_rules.specs.Completions.{IsEnd, ends_on, HasPlace}
use Rattle.verbs_laws.proofs.GoesSettle.{ends_owed}
use Rattle.verbs_laws.proofs.Waiting.{completion_in}
use Rattle.actor_rules.proofs.PollPlaces.{same_pair, places_of}
use Rattle.poll_outcomes.specs.Now.{IsPlaced}

-- The send queues by place

abbrev pub view : Lines → ℕ → Retirer → SendView
view d qp r = record { number = qp; place = send_of d qp; side = r }

module _ (d : Lines) where
  -- the view of the queue pair at a place
  pub view_there : (numbers : List ℕ) (rs : List Retirer) (k qp : ℕ) → length rs ≡ length numbers → slice_get numbers k ≡ Some qp → slice_get (queues_at (places_of d numbers) rs) k ≡ Some (view d qp (retirer_in rs k))
  view_there [] rs zero qp long there = absurd (false≢true (ap is_some there))
  view_there [] rs (suc k) qp long there = absurd (false≢true (ap is_some there))
  view_there (n ∷ numbers) [] k qp long there = absurd (omega (arith, long))
  view_there (n ∷ numbers) (r ∷ rs) zero qp long there = ap (λ (i : ℕ). Some (view d i r)) (ap (λ o. unwrap_or o n) there)
  view_there (n ∷ numbers) (r ∷ rs) (suc k) qp long there = view_there numbers rs k qp (omega (arith, long)) there

  length_views : (numbers : List ℕ) (rs : List Retirer) → length rs ≡ length numbers → length (queues_at (places_of d numbers) rs) ≡ length numbers
  length_views [] rs long = refl
  length_views (n ∷ numbers) [] long = absurd (omega (arith, long))
  length_views (n ∷ numbers) (r ∷ rs) long = ap suc (length_views numbers rs (omega (arith, long)))

  before_views : (qp : ℕ) (numbers : List ℕ) (rs : List Retirer) → length rs ≡ length numbers → prefix_len (λ (q : SendView). not (q.number == qp)) (queues_at (places_of d numbers) rs) ≡ prefix_len (λ n. not (n == qp)) numbers
  before_views qp [] rs long = refl
  before_views qp (n ∷ numbers) [] long = absurd (omega (arith, long))
  before_views qp (n ∷ numbers) (r ∷ rs) long = ap (λ k. cond (not (n == qp)) (1 + k) 0) (before_views qp numbers rs (omega (arith, long)))

  -- a queue pair has the place of its number
  pub place_of_view : (qp : ℕ) (numbers : List ℕ) (rs : List Retirer) → length rs ≡ length numbers → place_of_number (queues_at (places_of d numbers) rs) qp ≡ position (λ n. n == qp) numbers
  place_of_view qp numbers rs long =
      ap (λ k. cond (nat_lt k (length (queues_at (places_of d numbers) rs))) (Some k) None) (before_views qp numbers rs long)
      ∙ ap (λ k. cond (nat_lt (prefix_len (λ n. not (n == qp)) numbers) k) (Some (prefix_len (λ n. not (n == qp)) numbers)) None) (length_views numbers rs long)

-- Lists

pub all_at : {X : Type 0} (P : X → Type 0) (xs : List X) (k : ℕ) (x : X) → AllByRecursion P xs → slice_get xs k ≡ Some x → P x
all_at P [] zero x all there = absurd (false≢true (ap is_some there))
all_at P [] (suc k) x all there = absurd (false≢true (ap is_some there))
all_at P (y ∷ ys) zero x all there = subst P (ap (λ o. unwrap_or o y) there) all.0
all_at P (y ∷ ys) (suc k) x all there = all_at P ys k x all.1 there

pub all_by : {X : Type 0} (P Q : X → Type 0) → ((x : X) → P x → Q x) → (xs : List X) → AllByRecursion P xs → AllByRecursion Q xs
all_by P Q f [] all = tt
all_by P Q f (x ∷ xs) all = (f x all.0, all_by P Q f xs all.1)

pub slice_get-drop : {X : Type 0} (n : ℕ) (xs : List X) (k : ℕ) → slice_get (drop n xs) k ≡ slice_get xs (n + k)
slice_get-drop zero xs k = let same : k ≡ 0 + k = omega arith in ap (λ i. slice_get xs i) same
slice_get-drop (suc n) [] zero = refl
slice_get-drop (suc n) [] (suc k) = refl
slice_get-drop (suc n) (x ∷ xs) k = let same : suc (n + k) ≡ suc n + k = omega arith in slice_get-drop n xs k ∙ ap (λ i. slice_get (x ∷ xs) i) same

pub take_next : {X : Type 0} (xs : List X) (n : ℕ) (x : X) → slice_get xs n ≡ Some x → take (n + 1) xs ≡ take n xs ++ x ∷ []
take_next xs n x there = take_more xs n x (slice_get_within xs n x there) ∙ ap (λ y. take n xs ++ y ∷ []) (get_or_from_slice_get xs n x x there)

pub slice_get-take : {X : Type 0} (n : ℕ) (xs : List X) (k : ℕ) (x : X) → slice_get (take n xs) k ≡ Some x → (k < n) × (slice_get xs k ≡ Some x)
slice_get-take zero xs k x there = absurd (let inside = slice_get_within [] k x there in omega arith)
slice_get-take (suc n) [] k x there = absurd (let inside = slice_get_within [] k x there in omega arith)
slice_get-take (suc n) (y ∷ ys) zero x there = (omega arith, there)
slice_get-take (suc n) (y ∷ ys) (suc k) x there = let rest = slice_get-take n ys k x there in (omega (arith, rest.0), rest.1)

-- items that belong together, and where they stand
pub match_by : {X Y : Type 0} (fits also : X → Y → Type 0) (xs : List X) (ys : List Y) → ((k : ℕ) (x : X) (y : Y) → slice_get ys k ≡ Some y → fits x y → also x y) → Match fits xs ys → Match also xs ys
match_by fits also [] [] f h = tt
match_by fits also [] (y ∷ ys) f h = absurd h
match_by fits also (x ∷ xs) [] f h = absurd h
match_by fits also (x ∷ xs) (y ∷ ys) f h = (f 0 x y refl h.0, match_by fits also xs ys (λ k a b there. f (suc k) a b there) h.1)

-- The numbers of completions climb

module _ (qp most : ℕ) (more : List ℕ) where
  above_one : (b : Bool) (least n : ℕ) (ns : List ℕ) → Climbs least ((if b then n ∷ ns else ns) ++ more) most → (x : ℕ) (there : (from : ℕ) → Climbs from (ns ++ more) most → from < x) → least < x
  above_one true least n ns climbs x there = let low : n < x = there n climbs.1 in omega (arith, climbs.0, low)
  above_one false least n ns climbs x there = there least climbs

  pub number_above : (least : ℕ) (us : List Unpolled) (k : ℕ) (u : Unpolled) → slice_get us k ≡ Some u → u.completion.queue ≡ Send qp → Climbs least (numbers_in qp us ++ more) most → least < u.number
  number_above least [] zero u there own climbs = absurd (false≢true (ap is_some there))
  number_above least [] (suc k) u there own climbs = absurd (false≢true (ap is_some there))
  number_above least (a ∷ us) zero u there own climbs =
      let same : a ≡ u = ap (λ o. unwrap_or o a) there in
      let mine : same_queue (Send qp) a.completion.queue ≡ true = ap (λ (x : Unpolled). same_queue (Send qp) x.completion.queue) same ∙ ap (same_queue (Send qp)) own ∙ eq-eqb qp qp refl in
      let first : Climbs least (a.number ∷ numbers_in qp us ++ more) most = subst (λ (b : Bool). Climbs least ((if b then a.number ∷ numbers_in qp us else numbers_in qp us) ++ more) most) mine climbs in
      subst (λ (x : Unpolled). least < x.number) same first.0
  number_above least (a ∷ us) (suc k) u there own climbs = above_one (same_queue (Send qp) a.completion.queue) least a.number (numbers_in qp us) climbs u.number (λ from c. number_above from us k u there own c)

  -- of two completions of one queue pair the later one has the higher number
  pub number_after : (least : ℕ) (us : List Unpolled) (i k : ℕ) (a u : Unpolled) → slice_get us i ≡ Some a → slice_get us k ≡ Some u → i < k → a.completion.queue ≡ Send qp → u.completion.queue ≡ Send qp → Climbs least (numbers_in qp us ++ more) most → a.number < u.number
  number_after least [] i k a u at_i at_k low mine own climbs = absurd (let inside = slice_get_within [] i a at_i in omega arith)
  number_after least (x ∷ us) i zero a u at_i at_k low mine own climbs = absurd (omega (arith, low))
  number_after least (x ∷ us) zero (suc k) a u at_i at_k low mine own climbs =
      let same : x ≡ a = ap (λ o. unwrap_or o x) at_i in
      let here : same_queue (Send qp) x.completion.queue ≡ true = ap (λ (y : Unpolled). same_queue (Send qp) y.completion.queue) same ∙ ap (same_queue (Send qp)) mine ∙ eq-eqb qp qp refl in
      let first : Climbs least (x.number ∷ numbers_in qp us ++ more) most = subst (λ (b : Bool). Climbs least ((if b then x.number ∷ numbers_in qp us else numbers_in qp us) ++ more) most) here climbs in
      subst (λ (y : Unpolled). y.number < u.number) same (number_above x.number us k u at_k own first.1)
  number_after least (x ∷ us) (suc i) (suc k) a u at_i at_k low mine own climbs =
      skips (same_queue (Send qp) x.completion.queue) climbs (λ from c. number_after from us i k a u at_i at_k (omega (arith, low)) mine own c)
    where
      skips : (b : Bool) → Climbs least ((if b then x.number ∷ numbers_in qp us else numbers_in qp us) ++ more) most → ((from : ℕ) → Climbs from (numbers_in qp us ++ more) most → a.number < u.number) → a.number < u.number
      skips true c f = f x.number c.1
      skips false c f = f least c

-- The ends that a poll has found

module _ (d : Lines) (cq : ℕ) (rs : List Retirer) where
  same_place : (qp other : ℕ) → HasPlace d cq qp → HasPlace d cq other → (place_in d cq other == place_in d cq qp) ≡ (qp == other)
  same_place qp other h g = elim (either qp other) [
    | inl same ↦ eq-eqb _ _ (ap (place_in d cq) (sym same)) ∙ sym (eq-eqb qp other same)
    | inr apart ↦ differs _ _ (λ same. apart (sym (same_pair d cq other qp g h same))) ∙ sym (differs qp other apart)
  ]

  -- by queue they are the numbers of the completions
  pub ends_are : (qp : ℕ) (es : List End) (us : List Unpolled) → HasPlace d cq qp → AllByRecursion (IsPlaced d cq) us → Match (IsEnd d cq rs) es us → ends_on (place_in d cq qp) es ≡ numbers_in qp us
  ends_are qp [] [] h placed match = refl
  ends_are qp [] (u ∷ us) h placed match = absurd match
  ends_are qp (e ∷ es) [] h placed match = absurd match
  ends_are qp (e ∷ es) (u ∷ us) h placed match =
      let rest = ends_are qp es us h placed.1 match.1 in
      let test : (e.queue == place_in d cq qp) ≡ same_queue (Send qp) u.completion.queue = ap (λ (i : ℕ). i == place_in d cq qp) match.0.queue ∙ same_place qp u.completion.qp h placed.0.place ∙ sym (ap (same_queue (Send qp)) placed.0.queue) in
      ap (λ (b : Bool). if b then e.end ∷ ends_on (place_in d cq qp) es else ends_on (place_in d cq qp) es) test
      ∙ ap (λ (n : ℕ). if same_queue (Send qp) u.completion.queue then n ∷ ends_on (place_in d cq qp) es else ends_on (place_in d cq qp) es) match.0.end
      ∙ ap (λ (ns : List ℕ). if same_queue (Send qp) u.completion.queue then u.number ∷ ns else ns) rest

  -- what is to be stored for an end is owed for its completion
  retiring_is : (e : End) (u : Unpolled) → IsPlaced d cq u → IsEnd d cq rs e u → retiring d cq e ≡ Retiring u.completion.queue
  retiring_is e u p is =
      ap (λ (i : ℕ). Retiring (Send (slice_index_or (senders d cq) i 0))) is.queue
      ∙ ap (λ (n : ℕ). Retiring (Send n)) (get_or_from_slice_get (senders d cq) (place_in d cq u.completion.qp) u.completion.qp 0 p.place.there)
      ∙ ap (λ (q : Queue). Retiring q) (sym p.queue)

  retiring_all : (es : List End) (us : List Unpolled) → AllByRecursion (IsPlaced d cq) us → Match (IsEnd d cq rs) es us → map (retiring d cq) es ≡ map (λ (y : Completion). Retiring y.queue) (map completion_in us)
  retiring_all [] [] placed match = refl
  retiring_all [] (u ∷ us) placed match = absurd match
  retiring_all (e ∷ es) [] placed match = absurd match
  retiring_all (e ∷ es) (u ∷ us) placed match = ap (λ (x : Due). x ∷ map (retiring d cq) es) (retiring_is e u placed.0 match.0) ∙ ap (λ (xs : List Due). Retiring u.completion.queue ∷ xs) (retiring_all es us placed.1 match.1)

  pub stores_owed : (es : List End) (us : List Unpolled) → 0 < length es → AllByRecursion (IsPlaced d cq) us → Match (IsEnd d cq rs) es us → map (retiring d cq) es ++ Acking cq ∷ [] ≡ ends_owed cq us
  stores_owed [] us some placed match = absurd (omega (arith, some))
  stores_owed (e ∷ es) [] some placed match = absurd match
  stores_owed (e ∷ es) (u ∷ us) some placed match = ap (λ (xs : List Due). xs ++ Acking cq ∷ []) (retiring_all (e ∷ es) (u ∷ us) placed match)

-- an end that may be stored
pub record MayBeStored (r : Retirer) (end : ℕ) : Type 0 where
  pub idle : r.asked ≡ None
  pub later : r.tail < end
  pub found : end ≤ r.found
  pub low : end < 2 ^ 62

pub may_be_stored : (d : Lines) (cq qp : ℕ) (rs : List Retirer) (e : End) → length rs ≡ length (senders d cq) → HasPlace d cq qp → e.queue ≡ place_in d cq qp → MayBeStored (retirer_in rs (place_in d cq qp)) e.end → may_store (queues_at (places_of d (senders d cq)) rs) e ≡ true
may_be_stored d cq qp rs e long h is may =
    ap (λ (i : ℕ). may_store_in (slice_get (queues_at (places_of d (senders d cq)) rs) i) e.end) is
    ∙ ap (λ (o : Option SendView). may_store_in o e.end) (view_there d (senders d cq) rs (place_in d cq qp) qp long h.there)
    ∙ and_from _ _ (and_from _ _ (and_from _ _ (ap is_idle may.idle) (lt-ltb _ _ may.later)) (le-leb _ _ may.found)) (lt-ltb _ _ may.low)

-- where the first may be stored, none is left out
pub stores_all : (queues : List SendView) (taken : ℕ) (empty : Option ℕ) (es : List End) → is_ready queues es ≡ true → storing queues taken empty es ≡ storing_first taken empty es
stores_all queues taken empty [] ready = refl
stores_all queues taken empty (e ∷ es) ready = ap (λ (b : Bool). storing_first taken empty (if b then e ∷ es else from_ready queues es)) ready
