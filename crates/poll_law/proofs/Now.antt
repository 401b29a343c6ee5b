-- A poll of a thread stands so before each operation.
use Rattle.std.proofs.Common.{◌≡◌, ℕ, zero, suc, refl, sym, ap, ◌∙◌, subst, arith, ◌==◌, ◌+◌, ◌-◌, ◌<◌, ◌≤◌, ◌^◌, Bool, true, if◌then◌else◌, List, [], ◌++◌, length, map, Option, None, Some}
use Rattle.std.proofs.lemmas.Bool.{eq-eqb}
use Rattle.bus_core.specs.Trace.{Memory}
use Rattle.verbs_types.specs.declared.call.Call.{Call}
use Rattle.verbs_types.specs.declared.completion.Completion.{Completion}
use Rattle.verbs_types.specs.declared.completion.Queue.TheVariants.{Send}
use Rattle.verbs_types.specs.declared.declaration.Lines.{Lines}
use Rattle.verbs_types.specs.declared.declaration.TheConstants.{FIRST_QP}
use Rattle.verbs_types.specs.declared.state.QueuePair.{QueuePair}
use Rattle.verbs_types.specs.declared.state.Unpolled.{Unpolled}
use Rattle.verbs_rules.specs.State.{Verbs}
use Rattle.verbs_rules.specs.Running.{Running}
use Rattle.verbs_rules.specs.Answered.{Due}
use Rattle.owner_ring.specs.Place.{IsPlace}
use Rattle.cq_pair.specs.Place.{ring_of}
use Rattle.cq_pair.proofs.Tied as completions
use Rattle.counted_ring.specs.Retirer.{Asked, Retirer}
use Rattle.counted_ring.proofs.Tied as requests
use Rattle.object_places.specs.Objects.{Completions, Sends}
use Rattle.object_places.specs.Places.{send_of, completions_of}
use Rattle.provider_poll.specs.declared.state.PollState.{PollState}
use Rattle.provider_poll.specs.declared.state.PollState.TheVariants as states
use Rattle.provider_poll.specs.Rule.{PollRule}
use Rattle.actor_rules.specs.View.{view, poll_given}
use Rattle.poll_law.proofs.Dues.{shown_for, Job, owed_at, polls_at}
use Rattle.actor_rules.specs.Polling.{place_in, begun, poll_now}
use Rattle.actor_rules.specs.Actors.{Actors}
use Rattle.verbs_rules.specs.Sane.{Climbs, IsHomed, numbers_in}
use Rattle.verbs_rules.specs.Within.{Bounds, into}
use Rattle.actor_rules.specs.Objects.{Lists, poll_side, poster_side, retirer_in, retirer_side}
use Rattle.actor_rules.specs.Queues.{QueueStands}
use Rattle.actor_rules.specs.Completions.{CompletionsStand, AskedFor, pending, held, ends_on, HasPlace}
use Rattle.actor_rules.specs.Threads.{IsPollFor}
use Rattle.actor_rules.specs.Holding.{Holds, Stands, IsMapped}
use Rattle.actor_rules.proofs.PollPlaces.{living_by_place, place_by_living}
use Rattle.poll_outcomes.specs.Now.{IsPlaced, PollNow, in_hand}
use Rattle.poll_outcomes.proofs.Lists.{all_by}

-- the sum over queue pairs that complete into a queue has each one's part
one_part : (pairs : ℕ → QueuePair) (f : ℕ → ℕ) (cq qp n k : ℕ) → k < n → (pairs (qp + k)).send_cq ≡ cq → f (qp + k) ≤ into pairs f cq qp n
one_part pairs f cq qp zero k low home = absurd (omega (arith, low))
one_part pairs f cq qp (suc n) zero low home =
    let here : qp + 0 ≡ qp = omega arith in
    let test : ((pairs qp).send_cq == cq) ≡ true = eq-eqb _ _ (ap (λ i. (pairs i).send_cq) (sym here) ∙ home) in
    let mine : (if (pairs qp).send_cq == cq then f qp else 0) ≡ f qp = ap (λ (b : Bool). if b then f qp else 0) test in
    let same : f (qp + 0) ≡ f qp = ap f here in
    omega (arith, mine, same)
one_part pairs f cq qp (suc n) (suc k) low home =
    let there : qp + suc k ≡ qp + 1 + k = omega arith in
    let rest : f (qp + 1 + k) ≤ into pairs f cq (qp + 1) n = one_part pairs f cq (qp + 1) n k (omega (arith, low)) (ap (λ i. (pairs i).send_cq) (sym there) ∙ home) in
    let same : f (qp + suc k) ≡ f (qp + 1 + k) = ap f there in
    omega (arith, rest, same)

-- a poll before its first operation is one that holds nothing
module _ (d : Lines) (cq : ℕ) (l : Lists) (given : List Completion) (v : Verbs) (most : ℕ) where
  abbrev begins : PollRule → PollRule
  begins p = record { host = p.host; seen = p.seen; retirers = p.retirers; state = begun most p.state }

  none_asked : (asked : Option Asked) (place : ℕ) → AskedFor states.Idle place asked → AskedFor (states.Polling most (record { items = [] })) place asked
  none_asked None place h = tt
  none_asked (Some a) place h = absurd h

  pub begun_stands : (p : PollRule) (state : PollState) → p.state ≡ state → IsPollFor most given state → 0 < most → most ≤ 16 → CompletionsStand d l p given v cq → CompletionsStand d l (record { host = p.host; seen = p.seen; retirers = p.retirers; state = begun most state }) given v cq
  begun_stands p states.Idle is nothing some few h = record {
    counts = h.counts;
    from = h.from;
    from_is = ap (λ (s : PollState). h.from + held s) (sym is) ∙ h.from_is;
    low = h.low;
    unpolled = h.unpolled;
    reads = h.reads;
    shows = record { least = h.shows.least; enough = λ holds. absurd (omega (arith, holds)); reading = h.shows.reading };
    poll = (record { ends = tt; given = nothing }, some, few);
    retirers = h.retirers;
    asked = λ place. none_asked (retirer_in p.retirers place).asked place (subst (λ (s : PollState). AskedFor s place (retirer_in p.retirers place).asked) is (h.asked place));
    ends = λ qp living home. h.ends qp living home ∙ ap (λ (s : PollState). ends_on (place_in d cq qp) (pending s)) is;
  }
  begun_stands p (states.Polling asked ends) is polls some few h = subst (λ (s : PollState). CompletionsStand d l (record { host = p.host; seen = p.seen; retirers = p.retirers; state = s }) given v cq) is h
  begun_stands p (states.LookingUp asked ends c queue) is polls some few h = subst (λ (s : PollState). CompletionsStand d l (record { host = p.host; seen = p.seen; retirers = p.retirers; state = s }) given v cq) is h
  begun_stands p (states.Retiring taken empty left) is polls some few h = subst (λ (s : PollState). CompletionsStand d l (record { host = p.host; seen = p.seen; retirers = p.retirers; state = s }) given v cq) is h
  begun_stands p (states.Acking taken empty) is polls some few h = subst (λ (s : PollState). CompletionsStand d l (record { host = p.host; seen = p.seen; retirers = p.retirers; state = s }) given v cq) is h

begun_for : (most : ℕ) (given : List Completion) (state : PollState) → IsPollFor most given state → IsPollFor most given (begun most state)
begun_for most given states.Idle h = refl
begun_for most given (states.Polling asked ends) h = h
begun_for most given (states.LookingUp asked ends c queue) h = h
begun_for most given (states.Retiring taken empty left) h = h
begun_for most given (states.Acking taken empty) h = h

pub begun_owes : (d : Lines) (cq most : ℕ) (due : Due) (more : List Due) (state : PollState) → owed_at d cq due more (begun most state) ≡ owed_at d cq due more state
begun_owes d cq most due more states.Idle = refl
begun_owes d cq most due more (states.Polling asked ends) = refl
begun_owes d cq most due more (states.LookingUp asked ends c queue) = refl
begun_owes d cq most due more (states.Retiring taken empty left) = refl
begun_owes d cq most due more (states.Acking taken empty) = refl

module _ (d : Lines) (programs : List (List Call)) (total : Bounds) (m : Memory) (w : Actors) (r : Running) (t cq most : ℕ) (map : IsMapped d) (h : Holds d programs total m w r)
    (calls : List Call) (calls_are : (w.threads (suc t)).calls ≡ calls) (job : Job d programs (suc t) cq most calls) where
  abbrev s : Stands d programs total m w r.verbs h.dues
  s = h.stands

  side_is : poll_side programs w cq ≡ (w.threads (suc t)).polls cq
  side_is = ap (λ (x : ℕ). (w.threads x).polls cq) job.own.owner

  stands_now : CompletionsStand d s.lists ((w.threads (suc t)).polls cq) (w.threads (suc t)).given r.verbs cq
  stands_now =
      let polls = polls_at d programs total m m w r t cq most h calls calls_are job in
      subst (λ (xs : List Completion). CompletionsStand d s.lists ((w.threads (suc t)).polls cq) xs r.verbs cq) (shown_for most (w.threads (suc t)).given ((w.threads (suc t)).polls cq).state polls.poll)
      (subst (λ (x : ℕ). CompletionsStand d s.lists ((w.threads x).polls cq) (poll_given cq (w.threads x)) r.verbs cq) job.own.owner (s.bare.state.completions cq job.own.lives))

  home_is : (qp : ℕ) → HasPlace d cq qp → (r.verbs.device.pairs qp).send_cq ≡ cq
  home_is qp place = ap (λ (x : QueuePair). x.send_cq) (s.bare.sound.declared.pairs qp) ∙ (living_by_place d cq qp place).1

  queue_now : (qp : ℕ) → HasPlace d cq qp → QueueStands d programs w r.verbs (s.lists.queues (Send qp)) (Send qp)
  queue_now qp place = s.bare.state.queues (Send qp) (living_by_place d cq qp place).0

  few : (qp : ℕ) → HasPlace d cq qp → (s.lists.queues (Send qp)).taken < 2 ^ 62
  few qp place =
      let q = s.bare.sound.bounded.sane.queues qp in
      let lives : r.verbs.device.pair_lives qp ≡ true = s.bare.sound.declared.pair_lives qp ∙ (living_by_place d cq qp place).0 in
      let pair = s.bare.sound.bounded.sane.lives qp lives in
      let back : FIRST_QP + (qp - FIRST_QP) ≡ qp = omega (arith, pair.least) in
      let part : total.posts (FIRST_QP + (qp - FIRST_QP)) ≤ into r.verbs.device.pairs total.posts cq FIRST_QP (length d.qps) = one_part r.verbs.device.pairs total.posts cq FIRST_QP (length d.qps) (qp - FIRST_QP) pair.most (ap (λ i. (r.verbs.device.pairs i).send_cq) back ∙ home_is qp place) in
      let same : total.posts (FIRST_QP + (qp - FIRST_QP)) ≡ total.posts qp = ap total.posts back in
      let fits = (s.bare.sound.bounded.within.completions cq).fits (s.bare.sound.declared.completions_live cq ∙ job.own.lives) in
      let fine : IsPlace (ring_of (completions_of d cq)) = (map.placed d (Completions cq) map.declared job.own.lives).fine in
      omega (arith, (queue_now qp place).taken, q.taken, (s.bare.sound.bounded.within.queues qp).posts, part, same, fits, stands_now.counts.size, fine.fits)

  placed_one : (u : Unpolled) → IsHomed r.verbs.device.pair_lives r.verbs.device.pairs cq u → IsPlaced d cq u
  placed_one u homed = record {
    queue = homed.queue;
    place = place_by_living d cq u.completion.qp (sym (s.bare.sound.declared.pair_lives u.completion.qp) ∙ homed.living) (sym (ap (λ (x : QueuePair). x.send_cq) (s.bare.sound.declared.pairs u.completion.qp)) ∙ homed.home);
  }

  waits : (qp : ℕ) → HasPlace d cq qp → Climbs (s.lists.queues (Send qp)).retired ((r.verbs.settled (Send qp)).ends ++ (numbers_in qp (r.verbs.unpolled cq) ++ in_hand r.verbs qp)) (s.lists.queues (Send qp)).taken
  waits qp place =
      let q = queue_now qp place in
      let ns : List ℕ = (r.verbs.settled (Send qp)).ends ++ (numbers_in qp (r.verbs.unpolled cq) ++ in_hand r.verbs qp) in
      subst (λ (k : ℕ). Climbs k ns (s.lists.queues (Send qp)).taken) q.retired
      (subst (λ (k : ℕ). Climbs (r.verbs.settled (Send qp)).retired ns k) q.taken
      (subst (λ (k : ℕ). Climbs (r.verbs.settled (Send qp)).retired ((r.verbs.settled (Send qp)).ends ++ (numbers_in qp (r.verbs.unpolled k) ++ in_hand r.verbs qp)) (r.verbs.device.taken (Send qp))) (home_is qp place) (s.bare.sound.bounded.sane.queues qp).under_way))

  sends_now : (qp : ℕ) → HasPlace d cq qp → requests.Tied (send_of d qp) m (poster_side programs w (Send qp)) (retirer_in ((w.threads (suc t)).polls cq).retirers (place_in d cq qp)) (w.adapter.readers qp) (s.lists.queues (Send qp))
  sends_now qp place =
      let lives = living_by_place d cq qp place in
      let same : retirer_side d programs w qp ≡ retirer_in ((w.threads (suc t)).polls cq).retirers (place_in d cq qp) = ap (λ (k : ℕ). retirer_in (poll_side programs w k).retirers (place_in d k qp)) lives.1 ∙ ap (λ (p : PollRule). retirer_in p.retirers (place_in d cq qp)) side_is in
      subst (λ (x : Retirer). requests.Tied (send_of d qp) m (poster_side programs w (Send qp)) x (w.adapter.readers qp) (s.lists.queues (Send qp))) same (s.bare.objects (Sends qp) lives.0)

  pub poll_stands : PollNow d m (view programs w) cq most s.lists r.verbs (poll_now (w.threads (suc t)) cq most) (w.threads (suc t)).given
  poll_stands =
      let polls = polls_at d programs total m m w r t cq most h calls calls_are job in record {
        mapped = map;
        objects = s.bare.objects;
        retired = λ queue lives. (s.bare.state.queues queue lives).retired;
        lives = job.own.lives;
        fine = (map.placed d (Completions cq) map.declared job.own.lives).fine;
        host_same = ap (λ (p : PollRule). p.host) (sym side_is);
        retirers_same = ap (λ (p : PollRule). p.retirers) (sym side_is);
        stands = begun_stands d cq s.lists (w.threads (suc t)).given r.verbs most ((w.threads (suc t)).polls cq) ((w.threads (suc t)).polls cq).state refl polls.poll job.own.some job.own.few stands_now;
        polls = begun_for most (w.threads (suc t)).given ((w.threads (suc t)).polls cq).state polls.poll;
        host = subst (λ (p : PollRule). completions.Tied (completions_of d cq) m (w.adapter.queues cq) p.host (s.lists.completions cq)) side_is (s.bare.objects (Completions cq) job.own.lives);
        sends = sends_now;
        low = few;
        placed = all_by (IsHomed r.verbs.device.pair_lives r.verbs.device.pairs cq) (IsPlaced d cq) placed_one (r.verbs.unpolled cq) (s.bare.sound.bounded.sane.completions cq).homed;
        under_way = waits;
      }
