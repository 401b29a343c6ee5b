-- What the entry of a poll makes of the state, and of the poll that told it.
use Rattle.std.proofs.Common.{◌≡◌, ◌≢◌, ℕ, zero, suc, refl, sym, ap, ◌∙◌, subst, arith, ◌+◌, ◌-◌, ◌<◌, ◌≤◌, Bool, false, if◌then◌else◌, List, [], ◌∷◌, ◌++◌, length, map, take, drop, Option, None}
use Rattle.std.specs.List.{AllByRecursion}
use Rattle.std.proofs.lemmas.List.{take-append-drop, drop-drop, length-map}
use Rattle.verbs_types.specs.declared.completion.Completion.{Completion}
use Rattle.verbs_types.specs.declared.completion.Queue.{Queue}
use Rattle.verbs_types.specs.declared.completion.Queue.TheVariants.{Send}
use Rattle.verbs_types.specs.declared.declaration.Lines.{Lines}
use Rattle.verbs_types.specs.declared.entry.What.TheVariants.{Poll}
use Rattle.verbs_types.specs.declared.state.Unpolled.{Unpolled}
use Rattle.verbs_rules.specs.Rows.{end, end_all}
use Rattle.verbs_rules.specs.Family.{put}
use Rattle.verbs_rules.specs.Same.{same_queue}
use Rattle.verbs_rules.specs.State.{Verbs, Settled}
use Rattle.verbs_rules.specs.OfOne.{completions_in}
use Rattle.verbs_rules.specs.Step.{after}
use Rattle.owner_ring.specs.Consumer.{Consumer, next_index}
use Rattle.cqe_format.specs.declared.completion.Cqe.{Cqe}
use Rattle.cq_pair.specs.Queue.{produced, since}
use Rattle.counted_ring.specs.Retirer.{Asked, Retirer}
use Rattle.provider_poll.specs.declared.state.End.{End}
use Rattle.provider_poll.specs.declared.state.PollState.TheVariants as states
use Rattle.provider_poll.specs.Rule.{PollRule}
use Rattle.device_engine.specs.State.{send_cq}
use Rattle.provider_poll.specs.Fresh.{senders}
use Rattle.actor_rules.specs.Polling.{place_in}
use Rattle.verbs_rules.specs.Sane.{numbers_in}
use Rattle.verbs_laws.proofs.Choices.{differs}
use Rattle.actor_rules.specs.Matching.{Match}
use Rattle.actor_rules.proofs.Matching.{match_drop, match_length}
use Rattle.actor_rules.specs.Objects.{Lists, retirer_in}
use Rattle.actor_rules.specs.Completions.{CompletionsIn, ends_in, CompletionsStand, IsCompletion, IsEnd, IsPending, AskedFor, ReadsNext, Shows, ends_on, pending}
use Rattle.verbs_laws.proofs.Waiting.{completion_in, ended_at}
use Rattle.actor_rules.proofs.PollPlaces.{living_by_place, place_by_living}
use Rattle.actor_rules.proofs.Threading.{put_here, put_there}
use Rattle.poll_outcomes.specs.Now.{IsPlaced}
use Rattle.poll_outcomes.proofs.Lists.{ends_are}
use Rattle.poll_outcomes.proofs.Moves.{VerbsKept}
use Rattle.actor_rules.proofs.PerQueue.{queue_cases}

-- The state

-- an entry of a poll adds ends, and leaves all else of the work queues
end_all_keeps : {B : Type 0} (f : Settled → B) → ((u : Settled) (n : ℕ) → f (end u n) ≡ f u) → (queues : Queue → Settled) (xs : List Completion) (us : List Unpolled) (queue : Queue) → f (end_all queues xs us queue) ≡ f (queues queue)
end_all_keeps f keeps queues [] us queue = refl
end_all_keeps f keeps queues (x ∷ xs) [] queue = refl
end_all_keeps f keeps queues (x ∷ xs) (u ∷ us) queue =
    end_all_keeps f keeps (put same_queue queues x.queue (end (queues x.queue) u.number)) xs us queue
    ∙ queue_cases (λ other w. f w ≡ f (queues other)) queues x.queue (end (queues x.queue) u.number) (keeps (queues x.queue) u.number) (λ other apart. refl) queue

numbers_away : (d : Lines) (cq qp : ℕ) (us : List Unpolled) → AllByRecursion (IsPlaced d cq) us → send_cq d qp ≢ cq → numbers_in qp us ≡ []
numbers_away d cq qp [] placed away = refl
numbers_away d cq qp (u ∷ us) placed away =
    let other : qp ≢ u.completion.qp = λ same. away (ap (send_cq d) same ∙ (living_by_place d cq u.completion.qp placed.0.place).1) in
    let test : same_queue (Send qp) u.completion.queue ≡ false = ap (same_queue (Send qp)) placed.0.queue ∙ differs qp u.completion.qp other in
    ap (λ (b : Bool). if b then u.number ∷ numbers_in qp us else numbers_in qp us) test ∙ numbers_away d cq qp us placed.1 away

placed_take : (P : Unpolled → Type 0) (n : ℕ) (us : List Unpolled) → AllByRecursion P us → AllByRecursion P (take n us)
placed_take P zero us h = tt
placed_take P (suc n) [] h = tt
placed_take P (suc n) (u ∷ us) h = (h.0, placed_take P n us h.1)

module _ (d : Lines) (cq most : ℕ) (v : Verbs) (placed : AllByRecursion (IsPlaced d cq) (v.unpolled cq)) where
  abbrev us : List Unpolled
  us = v.unpolled cq

  abbrev xs : List Completion
  xs = map completion_in (take most us)

  -- the state after the entry
  abbrev pub told : Verbs
  told = after v (Poll cq most xs)

  pub taken_placed : AllByRecursion (IsPlaced d cq) (take most us)
  taken_placed = placed_take (IsPlaced d cq) most us placed

  told_settled : (i : ℕ) → told.settled (Send i) ≡ record (v.settled (Send i)) { ends = (v.settled (Send i)).ends ++ numbers_in i (take most us) }
  told_settled i = ap (λ (ys : List Unpolled). end_all v.settled xs ys (Send i)) (sym (take-append-drop most us)) ∙ ended_at v.settled (take most us) (drop most us) i

  pub told_ends : (i : ℕ) → (told.settled (Send i)).ends ≡ (v.settled (Send i)).ends ++ numbers_in i (take most us)
  told_ends i = ap (λ (u : Settled). u.ends) (told_settled i)

  pub told_retired : (queue : Queue) → (told.settled queue).retired ≡ (v.settled queue).retired
  told_retired queue = end_all_keeps (λ u. u.retired) (λ u n. refl) v.settled xs us queue

  no_more : (ns ms : List ℕ) → ms ≡ [] → ns ++ ms ≡ ns
  no_more ns ms none = ap (λ (ks : List ℕ). ns ++ ks) none ∙ right ns
    where
      right : (ks : List ℕ) → ks ++ [] ≡ ks
      right [] = refl
      right (k ∷ ks) = ap (λ (js : List ℕ). k ∷ js) (right ks)

  pub told_keeps : VerbsKept d cq v told
  told_keeps = record {
    same = record { limits = refl; posted = refl; device = refl };
    others = λ k apart i. record (completions_in v k) { unpolled = put_there v.unpolled cq (drop (length xs) us) k apart i };
    ends = λ qp lives away. told_ends qp ∙ no_more (v.settled (Send qp)).ends (numbers_in qp (take most us)) (numbers_away d cq qp (take most us) taken_placed away);
  }

  told_completions : completions_in told cq ≡ record (completions_in v cq) { unpolled = drop (length xs) us }
  told_completions = λ i. record (completions_in v cq) { unpolled = put_here v.unpolled cq (drop (length xs) us) i }

  -- The poll that has told it, and stores these ends

  pending_all : (rs : List Retirer) (es : List End) (ys : List Unpolled) → AllByRecursion (IsPlaced d cq) ys → Match (IsEnd d cq rs) es ys → AllByRecursion (IsPending d cq rs) es
  pending_all rs [] [] p match = tt
  pending_all rs [] (y ∷ ys) p match = absurd match
  pending_all rs (e ∷ es) [] p match = absurd match
  pending_all rs (e ∷ es) (y ∷ ys) p match =
      let is = match.0 in
      (record { qp = y.completion.qp; place = p.0.place.is; queue = is.queue; found = subst (λ (n : ℕ). n ≤ (retirer_in rs e.queue).found) (sym is.end) is.found }, pending_all rs es ys p.1 match.1)

  asks_nothing : (taken : ℕ) (empty : Option ℕ) (es : List End) (place : ℕ) (asked : Option Asked) → asked ≡ None → AskedFor (states.Retiring taken empty (record { items = es })) place asked
  asks_nothing taken empty es place asked none = subst (AskedFor (states.Retiring taken empty (record { items = es })) place) (sym none) tt

  module _ (l : Lists) (p : PollRule) (given : List Completion) (s : CompletionsStand d l p given v cq) (host : Consumer) (seen taken : ℕ) (empty : Option ℕ) (rs : List Retirer) (es : List End) (given' : List Completion) where
    pub record HasTold : Type 0 where
      pub fresh : pending p.state ≡ []
      pub some : 0 < length es
      pub taken_some : 0 < taken
      pub match : Match (IsEnd d cq rs) es (take most us)
      pub next : s.from + length es ≡ next_index host
      pub reads : ReadsNext host
      pub shows : Shows host seen 0 (produced (l.completions cq))
      pub long : length rs ≡ length (senders d cq)
      pub none : (place : ℕ) → (retirer_in rs place).asked ≡ None

    abbrev pub storing_now : PollRule
    storing_now = record { host = host; seen = seen; retirers = rs; state = states.Retiring taken empty (record { items = es }) }

    pub told_stands : HasTold → CompletionsStand d l storing_now given' told cq
    told_stands h =
        let count : length xs ≡ length es = length-map (take most us) completion_in ∙ sym (match_length (IsEnd d cq rs) es (take most us) h.match) in
        let there : Match (IsCompletion l) (drop (length xs) (since (l.completions cq) s.from)) (drop (length xs) us) = match_drop (IsCompletion l) (length xs) _ us s.unpolled in
        let further : drop (length xs) (since (l.completions cq) s.from) ≡ since (l.completions cq) (s.from + length es) =
        drop-drop (length xs) (s.from - (l.completions cq).acked) (l.completions cq).completions ∙ ap (λ (n : ℕ). drop n (l.completions cq).completions) (omega (arith, s.low, count)) in
        coe 1 0 (i. CompletionsIn d cq l.queues (l.completions cq) storing_now given' (told_completions i) (ends_in told)) (record {
          counts = s.counts;
          from = s.from + length es;
          from_is = let same : s.from + length es + 0 ≡ s.from + length es = omega arith in same ∙ h.next;
          low = omega (arith, s.low);
          unpolled = subst (λ (cs : List Cqe). Match (IsCompletion l) cs (drop (length xs) us)) further there;
          reads = h.reads;
          shows = h.shows;
          poll = (h.some, h.taken_some, pending_all rs es (take most us) taken_placed h.match);
          retirers = h.long;
          asked = λ place. asks_nothing taken empty es place (retirer_in rs place).asked (h.none place);
          ends = λ qp lives home.
              told_ends qp
              ∙ ap (λ (ns : List ℕ). ns ++ numbers_in qp (take most us)) (s.ends qp lives home ∙ ap (λ (xs : List End). ends_on (place_in d cq qp) xs) h.fresh)
              ∙ sym (ends_are d cq rs qp es (take most us) (place_by_living d cq qp lives home) taken_placed h.match);
        })
