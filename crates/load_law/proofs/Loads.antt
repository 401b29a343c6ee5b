-- A load of the completion queue's words, by a poll.
use Rattle.std.proofs.Common.{◌≡◌, ℕ, suc, refl, sym, ap, ◌∙◌, subst, arith, ◌==◌, ◌+◌, ◌-◌, ◌<◌, ◌≤◌, Bool, true, false, if◌then◌else◌, List, [], ◌∷◌, length, map, take, slice_get, Option, None, Some}
use Rattle.std.proofs.lemmas.Bool.{eqb-true, eq-eqb, false≢true}
use Rattle.std.proofs.lemmas.List.{length-drop, nil_from_length}
use Rattle.bus_core.specs.declared.operation.BusEntry.{BusEntry}
use Rattle.bus_core.specs.declared.turn.Step.{Step}
use Rattle.bus_core.specs.declared.turn.Step.TheVariants.{More, Done}
use Rattle.bus_core.specs.Operation.{loaded}
use Rattle.bus_core.specs.Trace.{Memory, after_entry, Tells}
use Rattle.verbs_types.specs.declared.completion.Completion.{Completion}
use Rattle.verbs_types.specs.declared.declaration.Lines.{Lines}
use Rattle.verbs_types.specs.declared.entry.What.{What}
use Rattle.verbs_types.specs.declared.entry.What.TheVariants.{Poll}
use Rattle.verbs_types.specs.declared.state.Unpolled.{Unpolled}
use Rattle.verbs_rules.specs.State.{Verbs}
use Rattle.verbs_rules.specs.OfOne.{completions_in}
use Rattle.owner_ring.specs.Consumer.{Consumer, next_index}
use Rattle.cqe_format.specs.declared.completion.Cqe.{Cqe}
use Rattle.cq_pair.specs.declared.place.CqPlace.{CqPlace}
use Rattle.cq_pair.specs.Mark.{QueueMark}
use Rattle.actor_map.specs.Notes.{Serves}
use Rattle.cq_pair.specs.Queue.{PlainQueue, QueueEvent, produced, Published, Overrun, Lost, Took, Empty, Acked, since}
use Rattle.cq_pair.specs.Queue as plain
use Rattle.cq_pair.specs.Host.{after_poll, polled}
use Rattle.cq_pair.proofs.Tied as completions
use Rattle.cq_pair.proofs.HostStep as host
use Rattle.cq_pair.proofs.Says.{poll_inside}
use Rattle.counted_ring.specs.Retirer.{Asked, Retirer}
use Rattle.object_places.specs.Objects.{Completions, touches}
use Rattle.object_places.specs.Places.{completions_of}
use Rattle.provider_poll.specs.declared.answer.PollAnswer.{PollAnswer}
use Rattle.provider_poll.specs.declared.answer.PollAnswer.TheVariants.{Polled}
use Rattle.provider_poll.specs.declared.state.End.{End}
use Rattle.provider_poll.specs.declared.state.PollState.{PollState}
use Rattle.provider_poll.specs.declared.state.PollState.TheVariants as states
use Rattle.provider_poll.specs.declared.poll_step.PollStep.{PollStep}
use Rattle.provider_poll.specs.Rule.{PollRule, OnHost, MayLook}
use Rattle.provider_poll.specs.RuleStep.{host_step, seen_by, poll_side_step, after_poll_side}
use Rattle.provider_poll.specs.Note.{poll_note}
use Rattle.provider_poll.specs.Stores.{storing}
use Rattle.provider_poll.specs.PollStep.{after_look, with_completion, with_none, place_of}
use Rattle.provider_poll.specs.Fresh.{poll_place}
use Rattle.actor_rules.specs.Polling.{place_in, given_with, load_says}
use Rattle.actor_rules.specs.View.{View}
use Rattle.actor_rules.specs.Matching.{Match}
use Rattle.actor_rules.proofs.Matching.{match_at, match_length}
use Rattle.actor_rules.specs.Objects.{Lists, retirer_in}
use Rattle.actor_rules.specs.Completions.{CompletionsIn, ends_in, IsCompletion, IsEnd, AskedFor, ReadsNext, Shows}
use Rattle.verbs_laws.proofs.Waiting.{completion_in}
use Rattle.poll_outcomes.specs.Moves.{Moves}
use Rattle.poll_outcomes.proofs.Same.{verbs_refl}
use Rattle.poll_outcomes.specs.Now.{IsPlaced, PollNow}
use Rattle.poll_outcomes.proofs.Lists.{all_at, slice_get-drop, slice_get-take, stores_owed}
use Rattle.poll_outcomes.specs.Outcome.{Outcome, GoesOn, Takes, Nothing}
use Rattle.poll_outcomes.proofs.Moves.{VerbsKept, host_moves}
use Rattle.load_law.proofs.Tells.{told, told_keeps, told_retired, taken_placed, told_stands}
use Rattle.load_law.proofs.Looks.{IsLook, look_says, look_reads}
use Rattle.load_law.proofs.Shows.{Sees, ShowsAs, look_sees, below_produced, exact_serves}
use Rattle.poll_outcomes.proofs.Ready.{views, first_ready, stores_these, place_found, idle_polling, finds_now, later_now, take_whole, take_within}

pub nothing_kept : (d : Lines) (cq : ℕ) (v : Verbs) → VerbsKept d cq v v
nothing_kept d cq v = record { same = verbs_refl v; others = λ k apart. refl; ends = λ qp lives away. refl }

module _ (d : Lines) (m : Memory) (around : View) (cq most : ℕ) (l : Lists) (v : Verbs) (c : Consumer) (seen : ℕ) (rs : List Retirer) (es : List End) (given : List Completion)
    (now : PollNow d m around cq most l v (record { host = c; seen = seen; retirers = rs; state = states.Polling most (record { items = es }) }) given) (e : BusEntry) where
  abbrev side : PollRule
  side = record { host = c; seen = seen; retirers = rs; state = states.Polling most (record { items = es }) }

  abbrev us : List Unpolled
  us = (v.unpolled cq)

  abbrev q : PlainQueue
  q = l.completions cq

  abbrev from : ℕ
  from = now.stands.from

  abbrev Comes : PollRule → Step Completion PollAnswer → Option What → Type 0
  Comes p answer said = Outcome d (after_entry m e) around cq most l v side given p answer said

  module _ (c' : Consumer) (seen' : ℕ) (look : Option QueueEvent) (sees : Sees c' seen seen' look) (inside : touches d (Completions cq) e.addr ≡ true) (reads : ReadsNext c') where
    abbrev side_at : PollState → PollRule
    side_at state = record { host = c'; seen = seen'; retirers = rs; state = state }

    abbrev tied_with : PlainQueue → Type 0
    tied_with x = completions.Tied (completions_of d cq) (after_entry m e) (around.devices cq) c' x

    -- what it has seen then
    shows_with : (x : PlainQueue) (holds : ℕ) → tied_with x → produced x ≡ produced q → (0 < holds → next_index c' ≤ seen') → Shows c' seen' holds (produced x)
    shows_with x holds tied same enough =
        let below = below_produced (completions_of d cq) (after_entry m e) (around.devices cq) c' x tied in
        record { least = sees.least (produced x) (omega (arith, now.stands.shows.least, same)) below.0 below.1; enough = enough; reading = sees.reading }

    -- nothing but the host has moved
    moves : (state : PollState) (x : PlainQueue) (given' : List Completion) → tied_with x → CompletionsIn d cq l.queues x (side_at state) given' (completions_in v cq) (ends_in v) → Moves d around cq (after_entry m e) l v (side_at state) given' v
    moves state x given' tied stands = host_moves d m around cq most l v side given now e (side_at state) given' v x (record {
      inside = inside;
      tied = tied;
      retirers = refl;
      verbs = nothing_kept d cq v;
      retired = λ queue. refl;
      stands = stands;
    })

    -- it goes on reading
    reads_more : ShowsAs c' seen' None → tied_with q → Comes (side_at (states.Polling most (record { items = es }))) More None
    reads_more shown tied =
        let s = now.stands in
        GoesOn (record {
          goes_on = tt;
          silent = refl;
          polls = refl;
          before = refl;
          loads = refl;
          moved = moves (states.Polling most (record { items = es })) q given tied (record {
            counts = s.counts;
            from = s.from;
            from_is = s.from_is ∙ sym now.host.fits.polled ∙ tied.fits.polled;
            low = s.low;
            unpolled = s.unpolled;
            reads = reads;
            shows = shows_with q (length es) tied refl (λ holds. shown);
            poll = s.poll;
            retirers = s.retirers;
            asked = s.asked;
            ends = s.ends;
          });
        })

    -- it took one, and looks its request up
    module _ (i : ℕ) (completion : Cqe) (next : i ≡ next_index c) (took : plain.MayTake q i completion) (tied : tied_with (plain.after_event q (Took i completion))) (shown : i < seen') where
      there : slice_get (since q from) (length es) ≡ Some completion
      there =
          let same : from - q.acked + length es ≡ i - q.acked = omega (arith, now.stands.low, now.stands.from_is, next) in
          slice_get-drop (from - q.acked) q.completions (length es) ∙ ap (λ (k : ℕ). slice_get q.completions k) same ∙ took.found

      abbrev q_now : PlainQueue
      q_now = plain.after_event q (Took i completion)

      asks_none : (queue place : ℕ) (asked : Option Asked) → asked ≡ None → AskedFor (states.LookingUp most (record { items = es }) completion queue) place asked
      asks_none queue place asked none = subst (AskedFor (states.LookingUp most (record { items = es }) completion queue) place) (sym none) tt

      looks_up : (u : Unpolled) → slice_get us (length es) ≡ Some u → IsCompletion l completion u → Comes (side_at (states.LookingUp most (record { items = es }) completion (place_in d cq u.completion.qp))) More None
      looks_up u at_u is =
          let s = now.stands in
          let state : PollState = states.LookingUp most (record { items = es }) completion (place_in d cq u.completion.qp) in
          GoesOn (record {
            goes_on = tt;
            silent = refl;
            polls = refl;
            before = refl;
            loads = refl;
            moved = moves state q_now given tied (record {
              counts = s.counts;
              from = s.from;
              from_is = let more : s.from + (length es + 1) ≡ i + 1 = omega (arith, s.from_is, next) in more ∙ tied.fits.polled;
              low = s.low;
              unpolled = s.unpolled;
              reads = reads;
              shows = shows_with q_now (length es + 1) tied refl (λ holds. let next_is : i + 1 ≡ next_index c' = tied.fits.polled in omega (arith, shown, next_is));
              poll = (s.poll.0, s.poll.1, s.poll.2, record { unpolled = u; next_is = at_u; spells = is; queue_is = refl });
              retirers = s.retirers;
              asked = λ place. asks_none (place_in d cq u.completion.qp) place (retirer_in rs place).asked (idle_polling most (record { items = es }) place (retirer_in rs place).asked (s.asked place));
              ends = s.ends;
            });
          })

      abbrev turn_with : Option ℕ → PollStep
      turn_with o = with_completion cq (views d cq rs) most (record { items = es }) seen' completion o

      on_took : Comes (side_at (turn_with (place_of (views d cq rs) completion)).state) (turn_with (place_of (views d cq rs) completion)).answer (load_says cq most (given_with given (turn_with (place_of (views d cq rs) completion)).answer) (turn_with (place_of (views d cq rs) completion)).state)
      on_took =
          let u = match_at (IsCompletion l) (length es) (since q from) us completion now.stands.unpolled there in
          let placed : IsPlaced d cq u.0 = all_at (IsPlaced d cq) us (length es) u.0 now.placed u.1 in
          subst (λ (o : Option ℕ). Comes (side_at (turn_with o).state) (turn_with o).answer (load_says cq most (given_with given (turn_with o).answer) (turn_with o).state)) (sym (place_found d cq l rs completion u.0 now.stands.retirers placed u.2)) (looks_up u.0 u.1 u.2)

    -- it found no more
    module _ (i : ℕ) (none : plain.MayFindNone q i) (tied : tied_with q) (shown : seen' ≡ i) (word : ℕ) where
      within : next_index c ≤ produced q
      within = (below_produced (completions_of d cq) m (around.devices cq) c q now.host).0

      -- all that was published was seen
      exact : seen' ≡ v.device.produced cq
      exact =
          let left = ap length none.none in
          omega (arith, shown, none.index_is, left, length-drop (q.polled - q.acked) q.completions, now.stands.counts.produced, now.stands.low, now.stands.from_is, now.host.fits.polled, within)

      serves : Serves v (Poll cq most (map completion_in (take most us))) seen'
      serves = exact_serves d cq most l v side given now.stands within seen' exact (take_within most us)

      all_taken : length us ≡ length es
      all_taken =
          let few = match_length (IsEnd d cq rs) es (take (length es) us) now.stands.poll.0.ends in
          let words = match_length (IsCompletion l) (since q from) us now.stands.unpolled in
          let left = ap length none.none in
          omega (arith, few, take_within (length es) us, words, length-drop (from - q.acked) q.completions, length-drop (q.polled - q.acked) q.completions, left, now.host.fits.polled, now.stands.from_is, now.stands.low)

      -- the poll is over
      finds_none : length es ≡ 0 → Comes (side_at states.Idle) (Done (Polled 0 (Some word))) (Some (Poll cq most given))
      finds_none empty =
          let s = now.stands in
          let no_ends : es ≡ [] = nil_from_length es empty in
          let no_given : given ≡ [] = s.poll.0.given ∙ ap (λ (xs : List End). map completion_in (take (length xs) us)) no_ends in
          Nothing (record {
            word = Some word;
            over = refl;
            says = ap (λ (xs : List Completion). Some (Poll cq most xs)) no_given;
            none = nil_from_length us (all_taken ∙ empty);
            serves = subst (λ (xs : List Unpolled). Serves v (Poll cq most (map completion_in xs)) seen') (nil_from_length (take most us) (omega (arith, take_within most us, all_taken, empty))) serves;
            before = refl;
            idle = refl;
            moved = moves states.Idle q [] tied (record {
              counts = s.counts;
              from = s.from;
              from_is = let same : s.from + 0 ≡ s.from + length es = omega (arith, empty) in same ∙ s.from_is ∙ sym now.host.fits.polled ∙ tied.fits.polled;
              low = s.low;
              unpolled = s.unpolled;
              reads = reads;
              shows = shows_with q 0 tied refl (λ holds. absurd (omega (arith, holds)));
              poll = tt;
              retirers = s.retirers;
              asked = λ place. subst (AskedFor states.Idle place) (sym (idle_polling most (record { items = es }) place (retirer_in rs place).asked (s.asked place))) tt;
              ends = s.ends;
            });
          })

      -- the poll has some ends to store
      tells_all : (x : End) (xs : List End) → es ≡ x ∷ xs → Comes (side_at (storing (views d cq rs) (length es) (Some word) es)) More (load_says cq most given (storing (views d cq rs) (length es) (Some word) es))
      tells_all x xs es_are =
          let s = now.stands in
          let count : length es ≡ suc (length xs) = ap length es_are in
          let whole : take most us ≡ take (length es) us = take_whole most us (omega (arith, all_taken, s.poll.1)) ∙ sym (take_whole (length es) us (omega (arith, all_taken))) in
          let match : Match (IsEnd d cq rs) es (take most us) = subst (Match (IsEnd d cq rs) es) (sym whole) s.poll.0.ends in
          let first = match_at (IsEnd d cq rs) 0 es (take most us) x match (ap (λ (ys : List End). slice_get ys 0) es_are) in
          let at_first = slice_get-take most us 0 first.0 first.1 in
          let placed : IsPlaced d cq first.0 = all_at (IsPlaced d cq) us 0 first.0 now.placed at_first.1 in
          let none_asked = λ (place : ℕ). idle_polling most (record { items = es }) place (retirer_in rs place).asked (s.asked place) in
          let ready = first_ready d cq l rs x first.0 s.retirers placed first.2 (none_asked (place_in d cq first.0.completion.qp)) (finds_now d m around cq most l v side given now first.0.completion.qp placed.place)
          (later_now d m around cq most l v side given now refl 0 first.0 at_first.1 placed) in
          let stores : storing (views d cq rs) (length es) (Some word) es ≡ states.Retiring (length es) (Some word) (record { items = es }) =
          ap (λ (ys : List End). storing (views d cq rs) (length es) (Some word) ys) es_are ∙ stores_these (views d cq rs) (length es) (Some word) x xs ready ∙ ap (λ (ys : List End). states.Retiring (length es) (Some word) (record { items = ys })) (sym es_are) in
          let some : 0 < length es = omega (arith, count) in
          subst (λ (state : PollState). Comes (side_at state) More (load_says cq most given state)) (sym stores)
          (Takes (record {
            goes_on = tt;
            says = ap (λ (ys : List Completion). Some (Poll cq most ys)) (s.poll.0.given ∙ ap (map completion_in) (sym whole));
            some = let same = match_length (IsEnd d cq rs) es (take most us) match in omega (arith, some, same);
            serves = serves;
            polls = tt;
            before = refl;
            stores = refl;
            owed = stores_owed d cq rs es (take most us) some (taken_placed d cq most v now.placed) match;
            moved = host_moves d m around cq most l v side given now e (side_at (states.Retiring (length es) (Some word) (record { items = es }))) given (told d cq most v now.placed) q (record {
              inside = inside;
              tied = tied;
              retirers = refl;
              verbs = told_keeps d cq most v now.placed;
              retired = told_retired d cq most v now.placed;
              stands = told_stands d cq most v now.placed l side given s c' seen' (length es) (Some word) rs es given (record {
                fresh = refl;
                some = some;
                taken_some = some;
                match = match;
                next = s.from_is ∙ sym now.host.fits.polled ∙ tied.fits.polled;
                reads = reads;
                shows = shows_with q 0 tied refl (λ holds. absurd (omega (arith, holds)));
                long = s.retirers;
                none = none_asked;
              });
            });
          }))

      abbrev turn_none : PollStep
      turn_none = with_none cq (views d cq rs) most (record { items = es }) seen' word

      on_none : Comes (side_at turn_none.state) turn_none.answer (load_says cq most (given_with given turn_none.answer) turn_none.state)
      on_none = by (length es == 0) refl
        where
          turn_by : Bool → PollStep
          turn_by b = if b then record { state = states.Idle; answer = Done (Polled 0 (Some word)); noted = Some (poll_note cq most 0 seen') }
              else record { state = storing (views d cq rs) (length es) (Some word) es; answer = More; noted = Some (poll_note cq most (length es) seen') }

          some_by : (ys : List End) → es ≡ ys → (length es == 0) ≡ false → Comes (side_at (storing (views d cq rs) (length es) (Some word) es)) More (load_says cq most given (storing (views d cq rs) (length es) (Some word) es))
          some_by [] is some = absurd (false≢true (sym some ∙ eq-eqb (length es) 0 (ap length is)))
          some_by (x ∷ xs) is some = tells_all x xs is

          by : (b : Bool) → (length es == 0) ≡ b → Comes (side_at (turn_by b).state) (turn_by b).answer (load_says cq most (given_with given (turn_by b).answer) (turn_by b).state)
          by true empty = finds_none (eqb-true (length es) 0 empty)
          by false some = some_by es refl some

    -- by what it says
    abbrev turn_after : Option QueueEvent → PollStep
    turn_after said = after_look cq (views d cq rs) most (record { items = es }) seen' (host_step e said)

    pub by_said : (said : Option QueueEvent) → IsLook c said → ShowsAs c' seen' said → completions.Goes (completions_of d cq) (after_entry m e) (around.devices cq) c' q said
        → Comes (side_at (turn_after said).state) (turn_after said).answer (load_says cq most (given_with given (turn_after said).answer) (turn_after said).state)
    by_said None says shown g = reads_more shown g
    by_said (Some (Took i completion)) says shown g = on_took i completion says g.0 g.1 shown
    by_said (Some (Empty i)) says shown g = on_none i g.0 g.1 shown (loaded e)
    by_said (Some (Published i completion)) says shown g = absurd says
    by_said (Some (Overrun i ci)) says shown g = absurd says
    by_said (Some Lost) says shown g = absurd says
    by_said (Some (Acked ci)) says shown g = absurd says

  -- a load of the completion queue's words
  pub loads : (mark : QueueMark) → Tells m e → MayLook (poll_place d cq) side mark e
      → Comes (after_poll_side (poll_place d cq) side (OnHost mark) e) (poll_side_step (poll_place d cq) side (OnHost mark) e).answer (load_says cq most (given_with given (poll_side_step (poll_place d cq) side (OnHost mark) e).answer) (poll_side_step (poll_place d cq) side (OnHost mark) e).state)
  loads mark tells may =
      let place : CqPlace = completions_of d cq in
      let sees = look_sees place e seen c mark may.next now.stands.reads now.stands.shows.reading in
      by_said (after_poll place c mark e) (seen_by (poll_place d cq) side mark e) (polled place c mark e) sees (poll_inside place m (around.devices cq) c q mark e now.host may.polls) (look_reads place e c mark may.next now.stands.reads)
      (polled place c mark e) (look_says place e c mark may.next now.stands.reads) sees.shows (host.host_step place m (around.devices cq) c q mark e now.fine now.host tells may.polls)
