-- The store of a tail by a poll.
use Rattle.std.proofs.Common.{◌≡◌, ◌≢◌, ℕ, inl, inr, refl, sym, ap, ◌∙◌, subst, arith, ◌≤◌, ◌+◌, ◌++◌, Bool, true, if◌then◌else◌, List, [], ◌∷◌, map, slice_index_or, Option, None, Some}
use Rattle.std.specs.List.{AllByRecursion}
use Rattle.std.proofs.lemmas.Bool.{eq-eqb}
use Rattle.std.proofs.lemmas.Option.{get_or_from_slice_get}
use Rattle.bus_core.specs.declared.operation.BusEntry.{BusEntry}
use Rattle.bus_core.specs.declared.turn.Step.TheVariants.{More}
use Rattle.bus_core.specs.Trace.{Memory, after_entry, Tells}
use Rattle.verbs_types.specs.declared.completion.Completion.{Completion}
use Rattle.verbs_types.specs.declared.completion.Queue.TheVariants.{Send}
use Rattle.verbs_types.specs.declared.declaration.Lines.{Lines}
use Rattle.verbs_types.specs.declared.entry.What.TheVariants.{Retire as RetireEntry}
use Rattle.verbs_rules.specs.Answered.{Due, Retiring, Acking}
use Rattle.verbs_rules.specs.Rows as rows
use Rattle.verbs_rules.specs.State.{Verbs, Settled}
use Rattle.verbs_rules.specs.Step.{after}
use Rattle.owner_ring.specs.Consumer.{Consumer}
use Rattle.counted_ring.specs.Mark.{WqMark, Retire}
use Rattle.counted_ring.specs.Queue as counted
use Rattle.counted_ring.specs.Retirer.{Retirer, after_retire}
use Rattle.counted_ring.specs.RetirerView.{MayServe}
use Rattle.object_places.specs.Objects.{Lives, Sends, OnSends}
use Rattle.object_places.specs.Places.{send_of}
use Rattle.provider_poll.specs.declared.state.End.{End}
use Rattle.provider_poll.specs.declared.state.PollState.{PollState}
use Rattle.provider_poll.specs.declared.state.PollState.TheVariants as states
use Rattle.provider_poll.specs.declared.poll_step.PollStep.{PollStep}
use Rattle.provider_poll.specs.Rule.{PollRule, OnQueue, MayRetire}
use Rattle.provider_poll.specs.RuleStep.{poll_side_step, after_poll_side}
use Rattle.provider_poll.specs.SendQueue.{SendView}
use Rattle.provider_poll.specs.Stores.{may_store, storing}
use Rattle.device_engine.specs.State.{send_cq}
use Rattle.provider_poll.specs.Fresh.{poll_place, senders}
use Rattle.actor_rules.specs.Polling.{place_in, store_says}
use Rattle.actor_rules.specs.Dues.{is_storing, store_dues, retiring}
use Rattle.verbs_rules.specs.Sane.{Climbs, numbers_in}
use Rattle.verbs_laws.proofs.Choices.{either, differs}
use Rattle.actor_rules.specs.View.{View}
use Rattle.actor_rules.specs.Objects.{Lists, retirer_in}
use Rattle.actor_rules.specs.Completions.{CompletionsStand, PollStands, IsPending, AskedFor, held, pending, ends_on, HasPlace}
use Rattle.actor_rules.specs.Threads.{IsPollFor}
use Rattle.actor_rules.proofs.PollPlaces.{place_of_position, same_pair, living_by_place, place_by_living}
use Rattle.poll_outcomes.proofs.Lists.{all_by, may_be_stored}
use Rattle.poll_outcomes.specs.Now.{PollNow, in_hand}
use Rattle.poll_outcomes.specs.Outcome.{Outcome, Stores}
use Rattle.poll_outcomes.proofs.Moves.{VerbsKept, queue_moves}
use Rattle.actor_rules.proofs.PerQueue.{queue_here, queue_there}
use Rattle.poll_outcomes.proofs.Ready.{views, stores_these, idle_retiring, finds_now}
use Rattle.poll_outcomes.proofs.Served.{served_is, retirers_then, turn_then, turns_by, serve_there, serve_goes, side_here, side_there, side_cases, sides_long}

module _ (d : Lines) (m : Memory) (around : View) (cq most : ℕ) (l : Lists) (v : Verbs) (c : Consumer) (seen : ℕ) (rs : List Retirer) (taken : ℕ) (empty : Option ℕ) (x : End) (xs : List End) (given : List Completion)
    (now : PollNow d m around cq most l v (record { host = c; seen = seen; retirers = rs; state = states.Retiring taken empty (record { items = x ∷ xs }) }) given) (e : BusEntry)
    (qp : ℕ) (place : HasPlace d cq qp) (is_here : place_in d cq qp ≡ x.queue) (tells : Tells m e) where
  abbrev side : PollRule
  side = record { host = c; seen = seen; retirers = rs; state = states.Retiring taken empty (record { items = x ∷ xs }) }

  abbrev mine : Retirer
  mine = retirer_in rs (place_in d cq qp)

  abbrev stored : Retirer
  stored = after_retire mine x.end

  abbrev rs' : List Retirer
  rs' = retirers_then d m around cq most l v side given now e qp place (Retire x.end)

  abbrev v' : Verbs
  v' = after v (RetireEntry (Send qp) x.end)

  abbrev settled_now : Settled
  settled_now = record { retired = x.end; ends = rows.rest_of (v.settled (Send qp)).ends }

  -- The ends of each queue

  -- this queue's first end is the one that is stored
  first_is : (v.settled (Send qp)).ends ≡ x.end ∷ ends_on (place_in d cq qp) xs
  first_is =
      let lives = living_by_place d cq qp place in
      now.stands.ends qp lives.0 lives.1 ∙ ap (λ (b : Bool). if b then x.end ∷ ends_on (place_in d cq qp) xs else ends_on (place_in d cq qp) xs) (eq-eqb x.queue (place_in d cq qp) (sym is_here))

  -- and it is none of another's
  others_are : (i : ℕ) → HasPlace d cq i → place_in d cq i ≢ place_in d cq qp → (v.settled (Send i)).ends ≡ ends_on (place_in d cq i) xs
  others_are i h apart =
      let lives = living_by_place d cq i h in
      now.stands.ends i lives.0 lives.1 ∙ ap (λ (b : Bool). if b then x.end ∷ ends_on (place_in d cq i) xs else ends_on (place_in d cq i) xs) (differs x.queue (place_in d cq i) (λ same. apart (sym (is_here ∙ same))))

  ends_then : (i : ℕ) → Lives d (Sends i) → send_cq d i ≡ cq → (v'.settled (Send i)).ends ≡ ends_on (place_in d cq i) xs
  ends_then i lives home = elim (either i qp) [
    | inl same ↦
        subst (λ (j : ℕ). (v'.settled (Send j)).ends ≡ ends_on (place_in d cq j) xs) (sym same)
        (ap (λ (k : Settled). k.ends) (queue_here v.settled (Send qp) settled_now) ∙ ap rows.rest_of first_is)
    | inr apart ↦
        let h : HasPlace d cq i = place_by_living d cq i lives home in
        ap (λ (k : Settled). k.ends) (queue_there v.settled (Send qp) settled_now (Send i) (λ same. apart cc)) ∙ others_are i h (λ one. apart (same_pair d cq i qp h place one))
  ]

  retired_keeps : VerbsKept d cq v v'
  retired_keeps = record {
    same = record { limits = refl; posted = refl; device = refl };
    others = λ k apart. refl;
    ends = λ i lives away. ap (λ (k : Settled). k.ends) (queue_there v.settled (Send qp) settled_now (Send i) (λ same. let one : i ≡ qp = cc in away (ap (send_cq d) one ∙ (living_by_place d cq qp place).1)));
  }

  -- The ends that are left

  found_kept : (i : ℕ) → (retirer_in rs i).found ≤ (retirer_in rs' i).found
  found_kept = side_cases d m around cq most l v side given now e qp place stored (λ i r. (retirer_in rs i).found ≤ r.found) (omega arith) (λ i apart. omega arith)

  pending_kept : (y : End) → IsPending d cq rs y → IsPending d cq rs' y
  pending_kept y h = record { qp = h.qp; place = h.place; queue = h.queue; found = omega (arith, h.found, found_kept y.queue) }

  none_asked : (i : ℕ) → (retirer_in rs' i).asked ≡ None
  none_asked = side_cases d m around cq most l v side given now e qp place stored (λ i r. r.asked ≡ None) refl (λ i apart. idle_retiring taken empty (record { items = x ∷ xs }) i (retirer_in rs i).asked (now.stands.asked i))

  -- the next one may be stored
  next_ready : (y : End) (ys : List End) → xs ≡ y ∷ ys → IsPending d cq rs y → may_store (views d cq rs') y ≡ true
  next_ready y ys xs_are h =
      let its : HasPlace d cq h.qp = place_of_position d cq h.qp h.place in
      let finds = finds_now d m around cq most l v side given now h.qp its in
      let found : y.end ≤ (retirer_in rs (place_in d cq h.qp)).found = subst (λ (i : ℕ). y.end ≤ (retirer_in rs i).found) h.queue h.found in
      let mine_is : ends_on (place_in d cq h.qp) xs ≡ y.end ∷ ends_on (place_in d cq h.qp) ys = ap (ends_on (place_in d cq h.qp)) xs_are ∙ ap (λ (b : Bool). if b then y.end ∷ ends_on (place_in d cq h.qp) ys else ends_on (place_in d cq h.qp) ys) (eq-eqb y.queue (place_in d cq h.qp) h.queue) in
      let more : List ℕ = numbers_in h.qp (v.unpolled cq) ++ in_hand v h.qp in
      may_be_stored d cq h.qp rs' y (sides_long d m around cq most l v side given now e qp place stored) its h.queue (record {
        idle = none_asked (place_in d cq h.qp);
        later = elim (either (place_in d cq h.qp) (place_in d cq qp)) [
          | inl same ↦
              let one : h.qp ≡ qp = same_pair d cq h.qp qp its place same in
              let both : (v.settled (Send h.qp)).ends ≡ x.end ∷ y.end ∷ ends_on (place_in d cq h.qp) ys = ap (λ (i : ℕ). (v.settled (Send i)).ends) one ∙ first_is ∙ ap (λ (ns : List ℕ). x.end ∷ ns) (ap (λ (i : ℕ). ends_on i xs) (sym same) ∙ mine_is) in
              let climbs : Climbs (l.queues (Send h.qp)).retired (x.end ∷ y.end ∷ ends_on (place_in d cq h.qp) ys ++ more) (l.queues (Send h.qp)).taken = subst (λ (ns : List ℕ). Climbs (l.queues (Send h.qp)).retired (ns ++ more) (l.queues (Send h.qp)).taken) both (now.under_way h.qp its) in
              let tail : (retirer_in rs' (place_in d cq h.qp)).tail ≡ x.end = ap (λ (i : ℕ). (retirer_in rs' i).tail) same ∙ ap (λ (r : Retirer). r.tail) (side_here d m around cq most l v side given now e qp place stored) in
              omega (arith, tail, climbs.1.0)
          | inr apart ↦
              let one : (v.settled (Send h.qp)).ends ≡ y.end ∷ ends_on (place_in d cq h.qp) ys = others_are h.qp its apart ∙ mine_is in
              let climbs : Climbs (l.queues (Send h.qp)).retired (y.end ∷ ends_on (place_in d cq h.qp) ys ++ more) (l.queues (Send h.qp)).taken = subst (λ (ns : List ℕ). Climbs (l.queues (Send h.qp)).retired (ns ++ more) (l.queues (Send h.qp)).taken) one (now.under_way h.qp its) in
              let tail : (retirer_in rs' (place_in d cq h.qp)).tail ≡ (retirer_in rs (place_in d cq h.qp)).tail = ap (λ (r : Retirer). r.tail) (side_there d m around cq most l v side given now e qp place stored (place_in d cq h.qp) apart) in
              omega (arith, tail, finds.tail, climbs.0)
        ];
        found = omega (arith, found, found_kept (place_in d cq h.qp));
        low = omega (arith, found, finds.found, finds.low);
      })

  -- The poll after it

  module _ (may : MayServe (send_of d qp) mine (Retire x.end) e) (state : PollState) (is_stores : is_storing state ≡ true) (holds : held state ≡ 0) (left_is : pending state ≡ xs) (owed : store_dues d cq state ≡ map (retiring d cq) xs ++ Acking cq ∷ [])
      (asks : (i : ℕ) → AskedFor state i None) (polls : (us : _) → PollStands d cq l (record { host = c; seen = seen; retirers = rs'; state = state }) given us state) (for_it : IsPollFor most given state) where
    abbrev settled : PollRule
    settled = record { host = c; seen = seen; retirers = rs'; state = state }

    stands_then : CompletionsStand d l settled given v' cq
    stands_then =
        let s = now.stands in record {
          counts = s.counts;
          from = s.from;
          from_is = ap (λ (n : ℕ). s.from + n) holds ∙ s.from_is;
          low = s.low;
          unpolled = s.unpolled;
          reads = s.reads;
          shows = record { least = s.shows.least; enough = λ some. absurd (omega (arith, some, holds)); reading = s.shows.reading };
          poll = polls (v.unpolled cq);
          retirers = sides_long d m around cq most l v side given now e qp place stored;
          asked = λ i. subst (AskedFor state i) (sym (none_asked i)) (asks i);
          ends = λ i lives home. ends_then i lives home ∙ ap (λ (ys : List End). ends_on (place_in d cq i) ys) (sym left_is);
        }

    retiring_is : retiring d cq x ≡ Retiring (Send qp)
    retiring_is = ap (λ (i : ℕ). Retiring (Send (slice_index_or (senders d cq) i 0))) (sym is_here) ∙ ap (λ (n : ℕ). Retiring (Send n)) (get_or_from_slice_get (senders d cq) (place_in d cq qp) qp 0 place.there)

    stores : Outcome d (after_entry m e) around cq most l v side given settled More (Some (RetireEntry (Send qp) x.end))
    stores =
        let goes = serve_goes d m around cq most l v side given now e qp place (Retire x.end) may tells tt in
        Stores (record {
          qp = qp;
          number = x.end;
          others = ends_on (place_in d cq qp) xs;
          first = first_is;
          more = refl;
          says = refl;
          polls = for_it;
          before = refl;
          stores = is_stores;
          owed = ap (λ (due : Due). due ∷ (map (retiring d cq) xs ++ Acking cq ∷ [])) retiring_is ∙ ap (λ (ds : List Due). Retiring (Send qp) ∷ ds) (sym owed);
          moved = queue_moves d m around cq most l v side given now e settled given v' qp place stored (counted.after_event (send_of d qp) (l.queues (Send qp)) (counted.Retired x.end)) (record {
            inside = serve_there d m around cq most l v side given now e qp place (Retire x.end) may;
            tied = goes.1;
            host = refl;
            retirers = refl;
            requests_same = record { requests = refl; next = refl; rung = refl; taken = refl };
            verbs = retired_keeps;
            retired = ap (λ (k : Settled). k.retired) (queue_here v.settled (Send qp) settled_now);
            retired_others = λ other apart. ap (λ (k : Settled). k.retired) (queue_there v.settled (Send qp) settled_now other apart);
            stands = stands_then;
          });
        })

  module _ (may : MayServe (send_of d qp) mine (Retire x.end) e) where
    abbrev Comes : PollState → Type 0
    Comes state = Outcome d (after_entry m e) around cq most l v side given (record { host = c; seen = seen; retirers = rs'; state = state }) More (Some (RetireEntry (Send qp) x.end))

    by_left : (ys : List End) → xs ≡ ys → Comes (storing (views d cq rs') taken empty xs)
    by_left [] is =
        subst Comes (sym (ap (λ (ys : List End). storing (views d cq rs') taken empty ys) is))
        (stores may (states.Acking taken empty) refl refl (sym is) (sym (ap (λ (ys : List End). map (retiring d cq) ys ++ Acking cq ∷ []) is)) (λ i. tt) (λ us. now.stands.poll.1) tt)
    by_left (y ∷ ys) is =
        let all = subst (AllByRecursion (IsPending d cq rs)) is now.stands.poll.2.1 in
        subst Comes (sym (ap (λ (zs : List End). storing (views d cq rs') taken empty zs) is ∙ stores_these (views d cq rs') taken empty y ys (next_ready y ys is all.0)))
        (stores may (states.Retiring taken empty (record { items = y ∷ ys })) refl refl (sym is) (sym (ap (λ (zs : List End). map (retiring d cq) zs ++ Acking cq ∷ []) is)) (λ i. tt)
        (λ us. (omega arith, now.stands.poll.1, all_by (IsPending d cq rs) (IsPending d cq rs') pending_kept (y ∷ ys) all)) tt)

  pub stores_tail : (mark : WqMark) → MayRetire (poll_place d cq) side x (place_in d cq qp) mark e
      → Outcome d (after_entry m e) around cq most l v side given (after_poll_side (poll_place d cq) side (OnQueue (place_in d cq qp) mark) e) (poll_side_step (poll_place d cq) side (OnQueue (place_in d cq qp) mark) e).answer (store_says (OnSends qp mark))
  stores_tail mark may =
      let view_is = served_is d m around cq most l v side given now e qp place x.queue mark may.serves is_here in
      let serves : MayServe (send_of d qp) mine mark e = subst (λ (q : SendView). MayServe q.place q.side mark e) view_is may.serves.serves in
      turns_by d m around cq most l v side given now e qp place mark (λ (p : PollRule) (turn : PollStep). Outcome d (after_entry m e) around cq most l v side given p turn.answer (store_says (OnSends qp mark)))
      (subst (λ (k : WqMark). Outcome d (after_entry m e) around cq most l v side given (record { host = c; seen = seen; retirers = retirers_then d m around cq most l v side given now e qp place k; state = (turn_then d m around cq most l v side given now e qp place k).state }) (turn_then d m around cq most l v side given now e qp place k).answer (store_says (OnSends qp k)))
      (sym may.mark_is) (by_left (subst (λ (k : WqMark). MayServe (send_of d qp) mine k e) may.mark_is serves) xs refl))
