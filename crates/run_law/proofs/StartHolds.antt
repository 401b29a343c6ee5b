-- What holds before the first operation.
use Rattle.std.proofs.Common.{◌≡◌, ℕ, zero, suc, ◌<◌, ◌-◌, arith, refl, sym, ap, subst, ◌∙◌, List, [], ◌∷◌, length, map, IsTrue, Option, None, Some, get_or, slice_get, slice_index_or, drop, ◌^◌}
use Rattle.std.specs.List.{AllByRecursion, flat_map}
use Rattle.std.specs.Option.{option_map_or}
use Rattle.std.proofs.lemmas.Bool.{and_parts, ltb-true, cond_both}
use Rattle.std.proofs.lemmas.Option.{slice_get-get_or}
use Rattle.std.proofs.lemmas.List.{length-map}
use Rattle.verbs_types.specs.declared.call.Call.{Call}
use Rattle.verbs_types.specs.declared.completion.Queue.{Queue}
use Rattle.verbs_types.specs.declared.completion.Queue.TheVariants as queues
use Rattle.verbs_types.specs.declared.declaration.Lines.{Lines}
use Rattle.verbs_types.specs.declared.declaration.QpLine.{QpLine}
use Rattle.verbs_types.specs.declared.declaration.CqLine.{CqLine}
use Rattle.verbs_types.specs.declared.declaration.TheConstants.{FIRST_QP}
use Rattle.verbs_rules.specs.Answered.{due_by}
use Rattle.verbs_types.specs.Lines.{is_among, is_declared}
use Rattle.verbs_rules.specs.Start.{start, for_line, room_of, size_of, first_index}
use Rattle.verbs_rules.specs.Start as first
use Rattle.actor_map.specs.Start.{start_words}
use Rattle.cq_pair.specs.Queue as completions
use Rattle.cq_pair.proofs.Law as completions_law
use Rattle.counted_ring.specs.Law.{fresh_finder, fresh_poster, fresh_device}
use Rattle.counted_ring.specs.Queue as counted
use Rattle.counted_ring.specs.Retirer.{Retirer}
use Rattle.counted_ring.proofs.Law as requests_law
use Rattle.counted_ring.proofs.Tied.{Tied}
use Rattle.object_places.specs.Apart.{AreAtStart}
use Rattle.object_places.specs.Objects.{Object, Completions, Sends, Receives, Lives}
use Rattle.object_places.specs.Places.{send_of, receive_of, completions_of, qp_line, cq_line, no_qp, no_cq}
use Rattle.provider_poll.specs.Fresh.{fresh_rule, senders}
use Rattle.actor_rules.specs.Thread.{fresh_thread, program_of, queue_place, queue_start, QueueLives, segments_of}
use Rattle.actor_rules.specs.Actors.{Actors, fresh_actors}
use Rattle.actor_rules.specs.Polling.{place_in}
use Rattle.device_engine.specs.State.{AdapterAt, Looking, Ending, send_cq, first_work, fresh_adapter}
use Rattle.actor_rules.specs.Dues.{dues_at}
use Rattle.verbs_rules.specs.Within.{Bounds}
use Rattle.provider_poll.specs.declared.state.PollState.TheVariants.{Idle}
use Rattle.actor_rules.specs.Owners.{poster_of}
use Rattle.actor_rules.specs.Matching.{Match}
use Rattle.actor_rules.specs.Objects.{Lists, IsTied, retirer_in}
use Rattle.actor_rules.specs.Queues.{QueueStands, IsItem, written}
use Rattle.actor_rules.specs.Completions.{CompletionsStand, IsCompletion, AskedFor}
use Rattle.actor_rules.specs.Adapter.{AdapterStandsAt}
use Rattle.actor_rules.specs.Ready.{AreReady, IsOwnCall, first_dues}
use Rattle.actor_rules.specs.Threads.{ThreadStands}
use Rattle.actor_rules.specs.Holding.{Holds, IsMapped}
use Rattle.actor_rules.proofs.Resting.{rest_owes, rest_silent, rest_stands}

-- what the map of objects and the programs give a run to begin with
pub record CanAct (d : Lines) (programs : List (List Call)) (bounds : Bounds) : Type 0 where
  pub map : IsMapped d
  pub starts : AreAtStart
  pub ready : AreReady d programs bounds

-- the value for a line that there is
for_line_at : {X V : Type 0} (first : ℕ) (lines : List X) (value : X → V) (none : V) (other : X) (number : ℕ) → IsTrue (is_among first (length lines) number) → for_line first lines value none number ≡ value (get_or lines (number - first) other)
for_line_at first lines value none other number among =
    let low : number - first < length lines = ltb-true (number - first) (length lines) (and_parts _ _ among).1 in
    rw among (rw (slice_get-get_or lines (number - first) other low) refl)

-- where the value of every line has something, so has the value where there is none
for_line_all : {X V : Type 0} (P : V → Type 0) (first : ℕ) (lines : List X) (value : X → V) (none : V) (number : ℕ) → ((x : X) → P (value x)) → P none → P (for_line first lines value none number)
for_line_all {X = X} P first lines value none number each nothing = cond_both (is_among first (length lines) number) (option_map_or value (slice_get lines (number - first)) none) none P (λ among. there (slice_get lines (number - first))) (λ beyond. nothing)
  where
    there : (found : Option X) → P (option_map_or value found none)
    there None = nothing
    there (Some x) = each x

fresh_retirers : (qps : List ℕ) (place : ℕ) → retirer_in (map (λ (qp : ℕ). fresh_finder.retirer) qps) place ≡ fresh_finder.retirer
fresh_retirers [] zero = refl
fresh_retirers [] (suc place) = refl
fresh_retirers (qp ∷ qps) zero = refl
fresh_retirers (qp ∷ qps) (suc place) = fresh_retirers qps place

module _ (d : Lines) (programs : List (List Call)) where
  abbrev w : Actors
  w = fresh_actors d programs

  abbrev lists : Lists
  lists = record { completions = λ cq. completions.empty_queue (cq_line d cq).start; queues = λ queue. counted.empty_queue (queue_start d queue) }

  objects_start : AreAtStart → IsTrue (is_declared d) → (o : Object) → Lives d o → IsTied d programs (start_words d 1) w lists o
  objects_start starts declared (Completions cq) lives = completions_law.start_tied (completions_of d cq) (cq_line d cq).start (start_words d 1) (starts d 1 (Completions cq) declared lives)
  objects_start starts declared (Sends qp) lives =
      let place = send_of d qp in
      let begun = requests_law.start_tied place (qp_line d qp).start (start_words d 1) (starts d 1 (Sends qp) declared lives) in
      subst (λ (r : Retirer). Tied place (start_words d 1) (fresh_poster (qp_line d qp).start) r (fresh_device (qp_line d qp).start) (counted.empty_queue (qp_line d qp).start)) (sym (fresh_retirers (senders d (send_cq d qp)) (place_in d (send_cq d qp) qp))) begun
  objects_start starts declared (Receives qp) lives = requests_law.start_tied (receive_of d qp) (qp_line d qp).start (start_words d 1) (starts d 1 (Receives qp) declared lives)

  size_start : (cq : ℕ) → Lives d (Completions cq) → size_of d cq ≡ 2 ^ (cq_line d cq).log
  size_start cq lives =
      let same : cq - 0 ≡ cq = omega arith in
      for_line_at 0 d.cqs (λ (l : CqLine). 2 ^ l.log) 0 no_cq cq lives ∙ ap (λ (k : ℕ). 2 ^ (get_or d.cqs k no_cq).log) same

  index_start : (cq : ℕ) → Lives d (Completions cq) → first_index d cq ≡ (cq_line d cq).start
  index_start cq lives =
      let same : cq - 0 ≡ cq = omega arith in
      for_line_at 0 d.cqs (λ (l : CqLine). l.start) 0 no_cq cq lives ∙ ap (λ (k : ℕ). (get_or d.cqs k no_cq).start) same

  nothing_written : (queue : Queue) → written programs w queue ≡ []
  nothing_written queue = rest_silent d (w.threads (poster_of programs queue)) refl queue (w.threads (poster_of programs queue)).calls

  -- a queue as its line declares it stands for an empty one
  queue_stands : (queue : Queue) → room_of d queue ≡ (queue_place d queue).max_post → first.segments_of d queue ≡ segments_of d queue → QueueStands d programs w (start d) (counted.empty_queue (queue_start d queue)) queue
  queue_stands queue room segments = record {
    posted = subst (Match (IsItem d queue) []) (sym (nothing_written queue)) tt;
    rung = refl;
    taken = refl;
    retired = refl;
    room = room;
    segments = segments;
    told = refl;
  }

  queues_start : (queue : Queue) → QueueLives d queue → QueueStands d programs w (start d) (lists.queues queue) queue
  queues_start (queues.Send qp) lives = queue_stands (queues.Send qp) (for_line_at FIRST_QP d.qps (λ (l : QpLine). 2 ^ l.send_log) 0 no_qp qp lives) (for_line_at FIRST_QP d.qps (λ (l : QpLine). l.segments) 0 no_qp qp lives)
  queues_start (queues.Recv qp) lives = queue_stands (queues.Recv qp) (for_line_at FIRST_QP d.qps (λ (l : QpLine). 2 ^ l.recv_log) 0 no_qp qp lives) (for_line_at FIRST_QP d.qps (λ (l : QpLine). l.segments) 0 no_qp qp lives)
  queues_start (queues.Shared srq) lives = absurd lives

  completions_stand : (cq : ℕ) → Lives d (Completions cq) → CompletionsStand d lists (fresh_rule d cq) [] (start d) cq
  completions_stand cq lives =
      let is = index_start cq lives in record {
        counts = record { acked = is; produced = is ∙ omega arith; size = size_start cq lives; runs = refl };
        from = (cq_line d cq).start;
        from_is = omega arith;
        low = omega arith;
        unpolled = none_since ((cq_line d cq).start - (cq_line d cq).start);
        reads = tt;
        shows = record { least = omega arith; enough = λ holds. absurd (omega (arith, holds)); reading = tt };
        poll = tt;
        retirers = length-map (senders d cq) (λ (qp : ℕ). fresh_finder.retirer);
        asked = λ place. subst (λ (r : Retirer). AskedFor Idle place r.asked) (sym (fresh_retirers (senders d cq) place)) tt;
        ends = λ qp there into. refl;
      }
    where
      none_since : (n : ℕ) → Match (IsCompletion lists) (drop n []) []
      none_since zero = tt
      none_since (suc n) = tt

  first_stands : (work : AdapterAt) → first_work d FIRST_QP ≡ work → AdapterStandsAt d lists (start d) (fresh_adapter d) work
  first_stands work is = subst (AdapterStandsAt d lists (start d) (fresh_adapter d)) is
      (cond_both (is_among FIRST_QP (length d.qps) FIRST_QP) Looking Ending (AdapterStandsAt d lists (start d) (fresh_adapter d)) (λ among. record { lives = among; idle = refl }) (λ none. refl))

  none_taken : (qp : ℕ) → Lives d (Sends qp) → 0 ≡ (start d).device.taken (queues.Send qp)
  none_taken qp lives = refl

  pub first_owed : (ps : List (List Call)) (t : ℕ) → slice_index_or (first_dues ps) t [] ≡ flat_map due_by (slice_index_or ps t [])
  first_owed [] zero = refl
  first_owed [] (suc t) = refl
  first_owed (p ∷ ps) zero = refl
  first_owed (p ∷ ps) (suc t) = first_owed ps t

  thread_start : (t : ℕ) → AllByRecursion (IsOwnCall d programs (suc t)) (program_of programs (suc t)) → ThreadStands d programs (suc t) (fresh_thread d programs (suc t)) (dues_at (first_dues programs) (suc t))
  thread_start t calls = record {
    dues = first_owed programs t ∙ sym (rest_owes d (fresh_thread d programs (suc t)) refl (program_of programs (suc t)) (λ cq all. refl));
    calls = calls;
    work = rest_stands (fresh_thread d programs (suc t)) (record { posting = refl; given = refl; posters = λ queue all. refl; polls = λ cq all. refl }) (program_of programs (suc t));
  }

  -- what holds before the first operation
  pub start_holds : (bounds : Bounds) → CanAct d programs bounds → Holds d programs bounds (start_words d 1) w (record { verbs = start d; owed = dues_at (first_dues programs) })
  start_holds bounds can = record {
    dues = first_dues programs;
    owed = refl;
    stands = record {
      lists = lists;
      bare = record {
        objects = objects_start can.starts can.map.declared;
        state = record { queues = queues_start; completions = completions_stand; taken = none_taken };
        threads = λ t. thread_start t (can.ready.calls t);
        sound = record { declared = record { pairs = λ qp. refl; pair_lives = λ qp. refl; completions_live = λ cq. refl }; long = length-map programs (flat_map due_by); bounded = can.ready.bounded };
      };
      work = first_stands (first_work d FIRST_QP) refl;
    };
  }
