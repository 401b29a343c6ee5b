-- The last load of a lookup by a poll, which finds the end.
use Rattle.std.proofs.Common.{◌≡◌, ℕ, inl, inr, refl, sym, ap, ◌∙◌, subst, arith, ◌<◌, ◌≤◌, ◌+◌, ◌++◌, Bool, true, false, if◌then◌else◌, nat_lt, List, [], ◌∷◌, length, map, take, slice_get, Option, None, Some}
use Rattle.std.proofs.lemmas.Bool.{ltb-true, ltb-false}
use Rattle.std.proofs.lemmas.List.{length_push, map_push}
use Rattle.bus_core.specs.declared.operation.BusEntry.{BusEntry}
use Rattle.bus_core.specs.declared.turn.Step.{Step}
use Rattle.bus_core.specs.declared.turn.Step.TheVariants.{Gave}
use Rattle.bus_core.specs.Trace.{Memory, after_entry}
use Rattle.verbs_types.specs.declared.completion.Completion.{Completion}
use Rattle.verbs_types.specs.declared.completion.Queue.TheVariants.{Send}
use Rattle.verbs_types.specs.declared.declaration.Lines.{Lines}
use Rattle.verbs_types.specs.declared.entry.What.{What}
use Rattle.verbs_types.specs.declared.entry.What.TheVariants.{Poll}
use Rattle.verbs_types.specs.declared.state.Unpolled.{Unpolled}
use Rattle.verbs_rules.specs.Rows.{nop_completion}
use Rattle.verbs_rules.specs.State.{Verbs}
use Rattle.owner_ring.specs.Consumer.{Consumer, next_index}
use Rattle.cqe_format.specs.declared.completion.Cqe.{Cqe}
use Rattle.counted_ring.specs.Retirer.{Retirer}
use Rattle.counted_ring.proofs.Tied as requests
use Rattle.device_engine.specs.Entry.{nop_cqe}
use Rattle.object_places.specs.Objects.{Sends, touches}
use Rattle.object_places.specs.Places.{send_of, completions_of}
use Rattle.provider_poll.specs.declared.answer.PollAnswer.{PollAnswer}
use Rattle.provider_poll.specs.declared.state.End.{End}
use Rattle.provider_poll.specs.declared.state.PollState.{PollState}
use Rattle.provider_poll.specs.declared.state.PollState.TheVariants as states
use Rattle.provider_poll.specs.declared.poll_step.PollStep.{PollStep}
use Rattle.provider_poll.specs.Completion.{completion_of}
use Rattle.provider_poll.specs.Note.{poll_note}
use Rattle.provider_poll.specs.Rule.{PollRule}
use Rattle.provider_poll.specs.Stores.{storing}
use Rattle.provider_poll.specs.PollStep.{with_end}
use Rattle.actor_rules.specs.Polling.{place_in, given_with, load_says}
use Rattle.verbs_laws.proofs.Choices.{either}
use Rattle.actor_rules.specs.View.{View}
use Rattle.actor_rules.specs.Matching.{Match}
use Rattle.actor_rules.proofs.Matching.{match_push, match_at, match_length}
use Rattle.actor_rules.specs.Objects.{Lists, retirer_in}
use Rattle.actor_rules.specs.Completions.{IsEnd, AskedFor, HasPlace}
use Rattle.verbs_laws.proofs.Waiting.{completion_in}
use Rattle.actor_rules.proofs.PollPlaces.{same_pair, living_by_place}
use Rattle.poll_outcomes.proofs.Same.{requests_refl}
use Rattle.poll_outcomes.specs.Now.{IsPlaced, PollNow, in_hand}
use Rattle.poll_outcomes.proofs.Lists.{all_at, take_next, slice_get-take, match_by, number_after, stores_owed}
use Rattle.poll_outcomes.specs.Outcome.{Outcome, GoesOn, Takes}
use Rattle.poll_outcomes.proofs.Moves.{queue_moves}
use Rattle.load_law.proofs.Tells.{told, told_keeps, told_retired, taken_placed, told_stands}
use Rattle.load_law.proofs.Loads.{nothing_kept}
use Rattle.cq_pair.specs.Queue.{produced}
use Rattle.load_law.proofs.Shows.{below_produced, full_serves}
use Rattle.poll_outcomes.proofs.Ready.{views, Finds, first_ready, stores_these, idle_beside, climbs_now, later_now}
use Rattle.poll_outcomes.proofs.Served.{retirers_with_side, side_here, side_there, side_cases, sides_long, finds_with_side}

-- the completion that is given is that of the state
pub given_is : (qp index id : ℕ) → completion_of (nop_cqe qp index) id ≡ nop_completion qp id 0
given_is qp index id = refl

module _ (d : Lines) (m : Memory) (around : View) (cq most : ℕ) (l : Lists) (v : Verbs) (c : Consumer) (seen : ℕ) (rs : List Retirer) (es : List End) (cqe : Cqe) (queue : ℕ) (given : List Completion)
    (now : PollNow d m around cq most l v (record { host = c; seen = seen; retirers = rs; state = states.LookingUp most (record { items = es }) cqe queue }) given) (e : BusEntry)
    (qp : ℕ) (place : HasPlace d cq qp) (is_here : place_in d cq qp ≡ queue) (u : Unpolled) (at_u : slice_get (v.unpolled cq) (length es) ≡ Some u) (same : u.completion.qp ≡ qp) where
  abbrev side : PollRule
  side = record { host = c; seen = seen; retirers = rs; state = states.LookingUp most (record { items = es }) cqe queue }

  abbrev mine : Retirer
  mine = retirer_in rs (place_in d cq qp)

  abbrev us : List Unpolled
  us = (v.unpolled cq)

  -- the retirer that has found this end
  module _ (end : ℕ) (end_is : end ≡ u.number) where
    abbrev knows : Retirer
    knows = record { tail = mine.tail; found = end; asked = None }

    abbrev rs' : List Retirer
    rs' = retirers_with_side d m around cq most l v side given now e qp place knows

    placed : IsPlaced d cq u
    placed = all_at (IsPlaced d cq) us (length es) u now.placed at_u

    -- the ends before it, of its queue too
    earlier : (k : ℕ) (x : End) (a : Unpolled) → slice_get (take (length es) us) k ≡ Some a → IsEnd d cq rs x a → IsEnd d cq rs' x a
    earlier k x a at_k is =
        let before = slice_get-take (length es) us k a at_k in
        let its : IsPlaced d cq a = all_at (IsPlaced d cq) us k a now.placed before.1 in
        record {
          queue = is.queue;
          end = is.end;
          found = elim (either x.queue (place_in d cq qp)) [
            | inl one ↦
                let pair : a.completion.qp ≡ qp = same_pair d cq a.completion.qp qp its.place place (sym is.queue ∙ one) in
                let low : a.number < u.number = number_after qp (l.queues (Send qp)).taken (in_hand v qp) (l.queues (Send qp)).retired us k (length es) a u before.1 at_u before.0 (its.queue ∙ ap (λ (i : ℕ). Send i) pair) (placed.queue ∙ ap (λ (i : ℕ). Send i) same)
                (climbs_now d m around cq most l v side given now refl qp place) in
                let found : (retirer_in rs' x.queue).found ≡ end = ap (λ (i : ℕ). (retirer_in rs' i).found) one ∙ ap (λ (r : Retirer). r.found) (side_here d m around cq most l v side given now e qp place knows) in
                omega (arith, found, low, end_is)
            | inr apart ↦
                let found : (retirer_in rs' x.queue).found ≡ (retirer_in rs x.queue).found = ap (λ (r : Retirer). r.found) (side_there d m around cq most l v side given now e qp place knows x.queue apart) in
                omega (arith, found, is.found)
          ];
        }

    abbrev x_last : End
    x_last = record { queue = queue; end = u.number }

    abbrev es' : List End
    es' = es ++ x_last ∷ []

    abbrev given' : List Completion
    given' = given ++ u.completion ∷ []

    longer : length es' ≡ length es + 1
    longer = length_push es x_last

    taken_next : take (length es') us ≡ take (length es) us ++ u ∷ []
    taken_next = ap (λ (n : ℕ). take n us) longer ∙ take_next us (length es) u at_u

    last_end : IsEnd d cq rs' x_last u
    last_end =
        let found : (retirer_in rs' queue).found ≡ end = ap (λ (i : ℕ). (retirer_in rs' i).found) (sym is_here) ∙ ap (λ (r : Retirer). r.found) (side_here d m around cq most l v side given now e qp place knows) in
        record { queue = sym is_here ∙ ap (place_in d cq) (sym same); end = refl; found = omega (arith, found, end_is) }

    match_now : Match (IsEnd d cq rs') es' (take (length es') us)
    match_now = subst (Match (IsEnd d cq rs') es') (sym taken_next) (match_push (IsEnd d cq rs') es (take (length es) us) x_last u (match_by (IsEnd d cq rs) (IsEnd d cq rs') es (take (length es) us) earlier now.stands.poll.0.ends) last_end)

    given_all : given' ≡ map completion_in (take (length es') us)
    given_all = ap (λ (ys : List Completion). ys ++ u.completion ∷ []) now.stands.poll.0.given ∙ sym (map_push completion_in (take (length es) us) u) ∙ ap (map completion_in) (sym taken_next)

    none_asked : (i : ℕ) → (retirer_in rs' i).asked ≡ None
    none_asked = side_cases d m around cq most l v side given now e qp place knows (λ i r. r.asked ≡ None) refl (λ i apart. idle_beside most (record { items = es }) cqe queue i (retirer_in rs i).asked (λ one. apart (one ∙ sym is_here)) (now.stands.asked i))

    abbrev Comes : PollRule → Step Completion PollAnswer → Option What → Type 0
    Comes p answer said = Outcome d (after_entry m e) around cq most l v side given p answer said

    abbrev side_at : PollState → PollRule
    side_at state = record { host = c; seen = seen; retirers = rs'; state = state }

    module _ (inside : touches d (Sends qp) e.addr ≡ true) (tied : requests.Tied (send_of d qp) (after_entry m e) (around.posters (Send qp)) knows (around.readers qp) (l.queues (Send qp))) where
      within : next_index c ≤ produced (l.completions cq)
      within = (below_produced (completions_of d cq) m (around.devices cq) c (l.completions cq) now.host).0

      -- it looks at the next one
      looks_on : length es + 1 < most → Comes (side_at (states.Polling most (record { items = es' }))) (Gave u.completion) None
      looks_on more =
          let s = now.stands in
          GoesOn (record {
            goes_on = tt;
            silent = refl;
            polls = refl;
            before = refl;
            loads = refl;
            moved = queue_moves d m around cq most l v side given now e (side_at (states.Polling most (record { items = es' }))) given' v qp place knows (l.queues (Send qp)) (record {
              inside = inside;
              tied = tied;
              host = refl;
              retirers = refl;
              requests_same = requests_refl (l.queues (Send qp));
              verbs = nothing_kept d cq v;
              retired = now.retired (Send qp) (living_by_place d cq qp place).0;
              retired_others = λ other apart. refl;
              stands = record {
                counts = s.counts;
                from = s.from;
                from_is = let count : s.from + length es' ≡ s.from + (length es + 1) = ap (λ (n : ℕ). s.from + n) longer in count ∙ s.from_is;
                low = s.low;
                unpolled = s.unpolled;
                reads = s.reads;
                shows = record { least = s.shows.least; enough = λ holds. s.shows.enough (omega arith); reading = s.shows.reading };
                poll = (record { ends = match_now; given = given_all }, omega (arith, longer, more), s.poll.2);
                retirers = sides_long d m around cq most l v side given now e qp place knows;
                asked = λ i. subst (AskedFor (states.Polling most (record { items = es' })) i) (sym (none_asked i)) tt;
                ends = s.ends;
              };
            });
          })

      -- it was the last that was asked for
      tells_all : (x : End) (xs : List End) → es' ≡ x ∷ xs → most ≡ length es + 1 → Comes (side_at (storing (views d cq rs') (length es + 1) None es')) (Gave u.completion) (load_says cq most given' (storing (views d cq rs') (length es + 1) None es'))
      tells_all x xs es_are full =
          let s = now.stands in
          let whole : take most us ≡ take (length es') us = ap (λ (n : ℕ). take n us) (full ∙ sym longer) in
          let match : Match (IsEnd d cq rs') es' (take most us) = subst (Match (IsEnd d cq rs') es') (sym whole) match_now in
          let first = match_at (IsEnd d cq rs') 0 es' (take most us) x match (ap (λ (ys : List End). slice_get ys 0) es_are) in
          let at_first = slice_get-take most us 0 first.0 first.1 in
          let its : IsPlaced d cq first.0 = all_at (IsPlaced d cq) us 0 first.0 now.placed at_first.1 in
          let finds : Finds l qp knows = record { tail = tied.retirer.tail; found = tied.retirer.found; low = now.low qp place } in
          let ready = first_ready d cq l rs' x first.0 (sides_long d m around cq most l v side given now e qp place knows) its first.2 (none_asked (place_in d cq first.0.completion.qp))
          (finds_with_side d m around cq most l v side given now e qp place knows finds first.0.completion.qp its.place)
          (later_now d m around cq most l v side given now refl 0 first.0 at_first.1 its) in
          let stores : storing (views d cq rs') (length es + 1) None es' ≡ states.Retiring (length es + 1) None (record { items = es' }) =
          ap (λ (ys : List End). storing (views d cq rs') (length es + 1) None ys) es_are ∙ stores_these (views d cq rs') (length es + 1) None x xs ready ∙ ap (λ (ys : List End). states.Retiring (length es + 1) None (record { items = ys })) (sym es_are) in
          subst (λ (state : PollState). Comes (side_at state) (Gave u.completion) (load_says cq most given' state)) (sym stores)
          (Takes (record {
            goes_on = tt;
            says = ap (λ (ys : List Completion). Some (Poll cq most ys)) (given_all ∙ ap (map completion_in) (sym whole));
            some = let count = match_length (IsEnd d cq rs') es' (take most us) match in omega (arith, longer, count);
            serves =
                let count = match_length (IsEnd d cq rs') es' (take most us) match in
                full_serves d cq most l v side given s within seen (omega (arith, s.shows.least, s.counts.produced)) (omega (arith, count, longer, full)) (omega (arith, s.shows.enough (omega arith), s.from_is, full));
            polls = tt;
            before = refl;
            stores = refl;
            owed = stores_owed d cq rs' es' (take most us) (omega (arith, longer)) (taken_placed d cq most v now.placed) match;
            moved = queue_moves d m around cq most l v side given now e (side_at (states.Retiring (length es + 1) None (record { items = es' }))) given' (told d cq most v now.placed) qp place knows (l.queues (Send qp)) (record {
              inside = inside;
              tied = tied;
              host = refl;
              retirers = refl;
              requests_same = requests_refl (l.queues (Send qp));
              verbs = told_keeps d cq most v now.placed;
              retired = told_retired d cq most v now.placed (Send qp) ∙ now.retired (Send qp) (living_by_place d cq qp place).0;
              retired_others = λ other apart. told_retired d cq most v now.placed other;
              stands = told_stands d cq most v now.placed l side given s c seen (length es + 1) None rs' es' given' (record {
                fresh = refl;
                some = omega (arith, longer);
                taken_some = omega arith;
                match = match;
                next = let count : s.from + length es' ≡ s.from + (length es + 1) = ap (λ (n : ℕ). s.from + n) longer in count ∙ s.from_is;
                reads = s.reads;
                shows = record { least = s.shows.least; enough = λ holds. absurd (omega (arith, holds)); reading = s.shows.reading };
                long = sides_long d m around cq most l v side given now e qp place knows;
                none = none_asked;
              });
            });
          }))

      abbrev turn_found : PollStep
      turn_found = with_end cq (views d cq rs') most (record { items = es }) seen x_last u.completion

      pub on_found : Comes (side_at turn_found.state) turn_found.answer (load_says cq most (given_with given turn_found.answer) turn_found.state)
      on_found = by (nat_lt (length es + 1) most) refl
        where
          turn_by : Bool → PollStep
          turn_by b = if b then record { state = states.Polling most (record { items = es' }); answer = Gave u.completion; noted = None }
              else record { state = storing (views d cq rs') (length es + 1) None es'; answer = Gave u.completion; noted = Some (poll_note cq most (length es + 1) seen) }

          some_by : (ys : List End) → es' ≡ ys → most ≡ length es + 1 → Comes (side_at (storing (views d cq rs') (length es + 1) None es')) (Gave u.completion) (load_says cq most given' (storing (views d cq rs') (length es + 1) None es'))
          some_by [] is full = absurd (omega (arith, longer, ap length is))
          some_by (x ∷ xs) is full = tells_all x xs is full

          by : (b : Bool) → nat_lt (length es + 1) most ≡ b → Comes (side_at (turn_by b).state) (turn_by b).answer (load_says cq most (given_with given (turn_by b).answer) (turn_by b).state)
          by true more = looks_on (ltb-true (length es + 1) most more)
          by false full = some_by es' refl (omega (arith, ltb-false (length es + 1) most full, now.stands.poll.1))
