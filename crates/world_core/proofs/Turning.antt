-- What holds of a run, after one more turn.
use Rattle.std.proofs.Common.{◌≡◌, ◌≢◌, ◌∙◌, refl, sym, ap, subst, arith, inl, inr, ℕ, suc, ◌+◌, ◌-◌, ◌≤◌, ◌++◌, List, [], ◌∷◌, length, length-append, Option, None, Some, option_map, slice_get, length-set}
use Rattle.std.proofs.lemmas.Bool.Decides.{eqb_tells}
use Rattle.std.proofs.lemmas.List.{map-append}
use Rattle.bus_core.specs.declared.operation.BusEntry.{BusEntry}
use Rattle.bus_core.specs.declared.turn.Note.{Note}
use Rattle.bus_core.specs.Mark.{Marked}
use Rattle.bus_core.specs.Plain.{Plain}
use Rattle.bus_core.proofs.Following.{fold-push}
use Rattle.verbs_types.specs.declared.completion.Queue.{Queue}
use Rattle.verbs_types.specs.declared.completion.Queue.TheVariants.{Send}
use Rattle.verbs_types.specs.declared.declaration.Lines.{Lines}
use Rattle.verbs_types.specs.declared.entry.What.{What}
use Rattle.verbs_types.specs.declared.request.Item.{Item}
use Rattle.actor_map.specs.Notes.{Told, with_seen}
use Rattle.object_places.specs.Objects.{Mark}
use Rattle.owner_ring.specs.Consumer.{Consumer, Waiting, Reading}
use Rattle.device_engine.specs.Counts.{CountsBelow, CountsGrow}
use Rattle.device_engine.specs.Event.{AdapterEvent, Fetched, Published, IsAdapterNote}
use Rattle.device_engine.specs.Rule.{adapter_mark, MayAdapt, after_adapt, adapter_says, adapter_sees}
use Rattle.device_engine.specs.State.{AdapterRule}
use Rattle.device_engine.specs.View.{ScanView, rule_of}
use Rattle.provider_poll.specs.Completion.{completion_of}
use Rattle.actor_rules.specs.Actors.{Actors, after, after_by, what_of, by, id_in, adapter_entry, sees_of, tells}
use Rattle.actor_rules.specs.Roles.{May, MayAny, part}
use Rattle.actor_rules.specs.Calls.{MayThread, after_thread, thread_says, thread_sees}
use Rattle.actor_rules.specs.Thread.{Thread}
use Rattle.actor_rules.proofs.Threading.{put_here, put_there}
use Rattle.scenario_text.specs.declared.scenario.ScenarioParts.{ScenarioParts}
use Rattle.thread_actor.specs.Small.{IsHostBelow, IsBelow}
use Rattle.thread_actor.specs.Turn.{marked, IsNoteOf}
use Rattle.thread_actor.specs.View.{ThreadView, thread_of}
use Rattle.thread_actor.proofs.Places.{set_here, set_there}
use Rattle.world_core.specs.Holding.{actors_after, low_after, IsAdapter, IsThreadOf, MadeTurns, HasBus, Holds}
use Rattle.world_core.specs.Outcome.{Makes}
use Rattle.world_core.specs.Log.{with_turn}
use Rattle.world_core.specs.Run.{RunView, AdapterMoves, ThreadMoves, ThreadRests, with_operation}
use Rattle.world_core.proofs.Moving.{Fits, made_passes, made_moves}

-- Counts

weaken_host : (m n : ℕ) (c : Consumer) → m ≤ n → IsHostBelow m c → IsHostBelow n c
weaken_host m n (Waiting acked next) le low = omega (arith, le, low)
weaken_host m n (Reading acked next index last words) le low = (omega (arith, le, low.0), omega (arith, le, low.1))

pub weaken_thread : (m n : ℕ) (t : Thread) → m ≤ n → IsBelow m t → IsBelow n t
weaken_thread m n t le low = record {
  posters = λ (queue : Queue). record { count = omega (arith, le, (low.posters queue).count); index = omega (arith, le, (low.posters queue).index) };
  polls = λ (cq : ℕ). weaken_host m n (t.polls cq).host le (low.polls cq);
}

pub weaken_adapter : (m n : ℕ) (s : AdapterRule) → m ≤ n → CountsBelow m s → CountsBelow n s
weaken_adapter m n s le low = record {
  requests = λ (qp : ℕ). omega (arith, le, low.requests qp);
  taken = λ (qp : ℕ). omega (arith, le, low.taken qp);
  completions = λ (cq : ℕ). omega (arith, le, low.completions cq);
}

one_more : (turns : List ℕ) (actor : ℕ) → length (with_turn turns actor) ≡ length turns + 1
one_more turns actor = length-append turns (actor ∷ [])

low_next : (turns : List ℕ) (actor : ℕ) → low_after (length turns) + 64 ≡ low_after (length (with_turn turns actor))
low_next turns actor = omega (arith, one_more turns actor)

low_rises : (turns : List ℕ) (actor : ℕ) → low_after (length turns) ≤ low_after (length (with_turn turns actor))
low_rises turns actor = omega (arith, one_more turns actor)

-- What is as before

thread_stays : (d : Lines) (w w' : Actors) (turns turns' actor : ℕ) (v : ThreadView) → low_after turns ≤ low_after turns' → w'.threads actor ≡ w.threads actor → IsThreadOf d w turns actor v → IsThreadOf d w' turns' actor v
thread_stays d w w' turns turns' actor v le same stands = record {
  lines = stands.lines;
  number = stands.number;
  rule = stands.rule ∙ sym same;
  low = weaken_thread (low_after turns) (low_after turns') (thread_of v) le stands.low;
}

adapter_stays : (d : Lines) (w w' : Actors) (turns turns' : ℕ) (v : ScanView) → low_after turns ≤ low_after turns' → w'.adapter ≡ w.adapter → IsAdapter d w turns v → IsAdapter d w' turns' v
adapter_stays d w w' turns turns' v le same stands = record {
  declared = stands.declared;
  rule = stands.rule ∙ sym same;
  low = weaken_adapter (low_after turns) (low_after turns') (rule_of v) le stands.low;
}

-- all actors after one more operation of this one
actors_more : (s : ScenarioParts) (trace : List (Marked Mark)) (x : Marked Mark) (actor : ℕ) → x.entry.actor ≡ actor → actors_after s.lines s.programs (trace ++ x ∷ []) ≡ after_by s.lines (actors_after s.lines s.programs trace) actor x
actors_more s trace x actor same = fold-push (after s.lines) _ trace x ∙ ap (λ (k : ℕ). after_by s.lines (actors_after s.lines s.programs trace) k x) same

-- what an operation tells, made by this actor
abbrev told_by : Lines → Actors → ℕ → Marked Mark → Option Told
told_by d w actor x = option_map (with_seen (sees_of d w actor x)) (option_map (by actor) (what_of d w actor x))

-- The bus

module _ (s : ScenarioParts) (old new : RunView) (trace : List (Marked Mark)) (actor : ℕ) (x : Marked Mark) where
  bus_moves : HasBus s old trace → new.bus ≡ with_operation old.bus actor x.entry → new.turns ≡ with_turn old.turns actor → new.capacity ≡ old.capacity → HasBus s new (trace ++ x ∷ [])
  bus_moves h bus turns capacity =
      let room : new.bus.room ≡ old.bus.room - 1 = ap (λ (b : Plain). b.room) bus in
      let long : length new.turns ≡ length old.turns + 1 = ap (λ (ts : List ℕ). length ts) turns ∙ one_more old.turns actor in
      record {
        start = ap (λ (b : Plain). b.start) bus ∙ h.start;
        words = ap (λ (b : Plain). length b.start) bus ∙ h.words;
        operations = map-append (λ (y : Marked Mark). y.entry) trace (x ∷ []) ∙ ap (λ (es : List BusEntry). es ++ x.entry ∷ []) h.operations ∙ sym (ap (λ (b : Plain). b.trace) bus);
        room = omega (arith, room, long, h.room);
        turns = omega (arith, capacity, h.turns);
      }

-- The adapter

adapter_fits : (posted : Queue → List Item) (seen : ℕ) (said : Option AdapterEvent) (note : Option Note) → IsAdapterNote said seen note → Fits 0 (option_map (with_seen seen) (option_map (by 0) (option_map (adapter_entry posted) said))) note
adapter_fits posted seen None n is = is
adapter_fits posted seen (Some (Fetched qp number)) n is = (refl, is)
adapter_fits posted seen (Some (Published cq completion number index)) n is = (refl, is (completion_of completion (id_in (posted (Send completion.qpn)) number)))

module _ (s : ScenarioParts) (old new : RunView) (h : Holds s old) (m : AdapterMoves old new) (grow : CountsGrow) where
  abbrev w : Actors
  w = actors_after s.lines s.programs h.trace

  abbrev x : Marked Mark
  x = marked m.entry (adapter_mark s.lines w.adapter)

  rule_is : (P : Lines → AdapterRule → Type 0) → P old.adapter.declared (rule_of old.adapter) → P s.lines w.adapter
  rule_is P p = subst (P s.lines) h.stand.adapter.rule (subst (λ (d : Lines). P d (rule_of old.adapter)) h.stand.adapter.declared p)

  may : MayAny s.lines w x
  may = subst (λ (k : ℕ). May s.lines k (part k w) x) (sym m.by) (record { mark_is = refl; goes_on = rule_is (λ (d : Lines) (r : AdapterRule). MayAdapt d r m.entry) m.turn.may })

  fits : Fits 0 (tells s.lines w x) m.note
  fits = subst (λ (k : ℕ). Fits 0 (told_by s.lines w k x) m.note) (sym m.by)
      (adapter_fits w.posted (adapter_sees w.adapter m.entry) (adapter_says s.lines w.adapter m.entry) m.note
      (rule_is (λ (d : Lines) (r : AdapterRule). IsAdapterNote (adapter_says d r m.entry) (adapter_sees r m.entry) m.note) m.turn.note_is))

  now : actors_after s.lines s.programs (h.trace ++ x ∷ []) ≡ after_by s.lines w 0 x
  now = actors_more s h.trace x 0 m.by

  rises : low_after (length old.turns) ≤ low_after (length new.turns)
  rises = subst (λ (ts : List ℕ). low_after (length old.turns) ≤ low_after (length ts)) (sym m.turns) (low_rises old.turns 0)

  low : CountsBelow (low_after (length new.turns)) (after_adapt s.lines w.adapter m.entry)
  low =
      let up : low_after (length old.turns) + 4 ≤ low_after (length new.turns) = omega (arith, ap (λ (ts : List ℕ). length ts) m.turns, one_more old.turns 0) in
      weaken_adapter (low_after (length old.turns) + 4) (low_after (length new.turns)) (after_adapt s.lines w.adapter m.entry) up
      (grow.next s.lines w.adapter m.entry (low_after (length old.turns)) (subst (CountsBelow (low_after (length old.turns))) h.stand.adapter.rule h.stand.adapter.low))

  moved : IsAdapter s.lines (after_by s.lines w 0 x) (length new.turns) new.adapter
  moved =
      let goes : rule_of new.adapter ≡ after_adapt s.lines w.adapter m.entry = rule_is (λ (d : Lines) (r : AdapterRule). rule_of new.adapter ≡ after_adapt d r m.entry) m.turn.rule in record {
        declared = m.turn.declared ∙ h.stand.adapter.declared;
        rule = goes;
        low = subst (CountsBelow (low_after (length new.turns))) (sym goes) low;
      }

  others : (t : ℕ) (thread : ThreadView) → slice_get new.threads t ≡ Some thread → IsThreadOf s.lines (after_by s.lines w 0 x) (length new.turns) (suc t) thread
  others t thread there = thread_stays s.lines w (after_by s.lines w 0 x) (length old.turns) (length new.turns) (suc t) thread rises refl
      (h.stand.threads t thread (ap (λ (ts : List ThreadView). slice_get ts t) (sym m.threads) ∙ there))

  pub adapter_holds : Holds s new
  adapter_holds = record {
    trace = h.trace ++ x ∷ [];
    made = coe 1 0 (i. MadeTurns s (m.turns i) (m.marks i) (m.notes i) (h.trace ++ x ∷ [])) (made_moves s old.turns old.marks old.notes h.trace h.made 0 x m.note may (record { going = refl; by = m.by }) fits);
    stand = record {
      adapter = subst (λ (v : Actors). IsAdapter s.lines v (length new.turns) new.adapter) (sym now) moved;
      thread_count = ap (λ (ts : List ThreadView). length ts) m.threads ∙ h.stand.thread_count;
      threads = λ (t : ℕ) (thread : ThreadView) there. subst (λ (v : Actors). IsThreadOf s.lines v (length new.turns) (suc t) thread) (sym now) (others t thread there);
    };
    bus = bus_moves s old new h.trace 0 x h.bus m.bus m.turns m.capacity;
  }

-- A thread that goes on

note_fits : (actor : ℕ) (said : Option What) (seen : ℕ) (note : Option Note) → IsNoteOf said seen note → Fits actor (option_map (with_seen seen) (option_map (by actor) said)) note
note_fits actor None seen n is = is
note_fits actor (Some what) seen n is = (refl, is)

module _ (s : ScenarioParts) (old new : RunView) (t : ℕ) (h : Holds s old) (m : ThreadMoves old new t) where
  abbrev before_all : Actors
  before_all = actors_after s.lines s.programs h.trace

  abbrev y : Marked Mark
  y = marked m.entry m.turn.mark

  stood : IsThreadOf s.lines before_all (length old.turns) (suc t) m.before
  stood = h.stand.threads t m.before m.found

  thread_is : (P : Lines → Thread → Type 0) → P m.before.lines (thread_of m.before) → P s.lines (before_all.threads (suc t))
  thread_is P p = subst (P s.lines) stood.rule (subst (λ (d : Lines). P d (thread_of m.before)) stood.lines p)

  may_thread : MayAny s.lines before_all y
  may_thread = subst (λ (k : ℕ). May s.lines k (part k before_all) y) (sym m.by)
      (subst (λ (k : ℕ). MayThread s.lines (before_all.threads (suc t)) k y) stood.number
      (thread_is (λ (d : Lines) (r : Thread). MayThread d r m.before.number y) m.turn.may))

  makes : Makes before_all (suc t) y
  makes = record { going = ap (λ (r : Thread). r.ended) (sym stood.rule) ∙ m.going; by = m.by }

  fits_thread : Fits (suc t) (tells s.lines before_all y) m.note
  fits_thread = subst (λ (k : ℕ). Fits (suc t) (told_by s.lines before_all k y) m.note) (sym m.by)
      (note_fits (suc t) (thread_says s.lines (before_all.threads (suc t)) y) (thread_sees s.lines (before_all.threads (suc t)) y) m.note
      (thread_is (λ (d : Lines) (r : Thread). IsNoteOf (thread_says d r y) (thread_sees d r y) m.note) m.turn.noted))

  now_all : actors_after s.lines s.programs (h.trace ++ y ∷ []) ≡ after_by s.lines before_all (suc t) y
  now_all = actors_more s h.trace y (suc t) m.by

  up : low_after (length old.turns) + 64 ≡ low_after (length new.turns)
  up = low_next old.turns (suc t) ∙ ap (λ (ts : List ℕ). low_after (length ts)) (sym m.turns)

  higher : low_after (length old.turns) ≤ low_after (length new.turns)
  higher = omega (arith, up)

  here : IsThreadOf s.lines (after_by s.lines before_all (suc t) y) (length new.turns) (suc t) m.after
  here = record {
    lines = m.turn.same.lines ∙ stood.lines;
    number = m.turn.same.number ∙ stood.number;
    rule = thread_is (λ (d : Lines) (r : Thread). thread_of m.after ≡ after_thread d r y) m.turn.goes ∙ sym (put_here before_all.threads (suc t) (after_thread s.lines (before_all.threads (suc t)) y));
    low = subst (λ n. IsBelow n (thread_of m.after)) up (m.turn.rises (low_after (length old.turns)) stood.low);
  }

  there : (k : ℕ) (thread : ThreadView) → k ≢ t → slice_get new.threads k ≡ Some thread → IsThreadOf s.lines (after_by s.lines before_all (suc t) y) (length new.turns) (suc k) thread
  there k thread differ at_k = thread_stays s.lines before_all (after_by s.lines before_all (suc t) y) (length old.turns) (length new.turns) (suc k) thread higher
      (put_there before_all.threads (suc t) (after_thread s.lines (before_all.threads (suc t)) y) (suc k) (λ same. differ (omega (arith, same))))
      (h.stand.threads k thread (sym (set_there old.threads t k m.after differ) ∙ ap (λ (ts : List ThreadView). slice_get ts k) (sym m.threads) ∙ at_k))

  each : (k : ℕ) (thread : ThreadView) → slice_get new.threads k ≡ Some thread → IsThreadOf s.lines (after_by s.lines before_all (suc t) y) (length new.turns) (suc k) thread
  each k thread at_k = elim (eqb_tells k t) [
    | inl same ↦
        let found : slice_get new.threads t ≡ Some m.after = ap (λ (ts : List ThreadView). slice_get ts t) m.threads ∙ set_here old.threads t m.before m.after m.found in
        let both : Some m.after ≡ Some thread = sym found ∙ subst (λ (j : ℕ). slice_get new.threads j ≡ Some thread) same.1 at_k in
        let is : m.after ≡ thread = cc both in
        subst (λ (j : ℕ). IsThreadOf s.lines (after_by s.lines before_all (suc t) y) (length new.turns) (suc j) thread) (sym same.1)
        (subst (IsThreadOf s.lines (after_by s.lines before_all (suc t) y) (length new.turns) (suc t)) is here)
    | inr other ↦ there k thread other.1 at_k
  ]

  pub thread_holds : Holds s new
  thread_holds = record {
    trace = h.trace ++ y ∷ [];
    made = coe 1 0 (i. MadeTurns s (m.turns i) (m.marks i) (m.notes i) (h.trace ++ y ∷ [])) (made_moves s old.turns old.marks old.notes h.trace h.made (suc t) y m.note may_thread makes fits_thread);
    stand = record {
      adapter = subst (λ (v : Actors). IsAdapter s.lines v (length new.turns) new.adapter) (sym now_all)
          (subst (IsAdapter s.lines (after_by s.lines before_all (suc t) y) (length new.turns)) (sym m.adapter)
          (adapter_stays s.lines before_all (after_by s.lines before_all (suc t) y) (length old.turns) (length new.turns) old.adapter higher refl h.stand.adapter));
      thread_count = ap (λ (ts : List ThreadView). length ts) m.threads ∙ length-set old.threads t m.after ∙ h.stand.thread_count;
      threads = λ (k : ℕ) (thread : ThreadView) at_k. subst (λ (v : Actors). IsThreadOf s.lines v (length new.turns) (suc k) thread) (sym now_all) (each k thread at_k);
    };
    bus = bus_moves s old new h.trace (suc t) y h.bus m.bus m.turns m.capacity;
  }

-- A thread that has ended

module _ (s : ScenarioParts) (old new : RunView) (t : ℕ) (h : Holds s old) (m : ThreadRests old new t) where
  rests_here : Holds s (record { bus = old.bus; adapter = old.adapter; threads = old.threads; turns = with_turn old.turns (suc t); marks = old.marks; notes = old.notes; capacity = old.capacity })
  rests_here =
      let w' = actors_after s.lines s.programs h.trace in
      let more : low_after (length old.turns) ≤ low_after (length (with_turn old.turns (suc t))) = low_rises old.turns (suc t) in
      record {
        trace = h.trace;
        made = made_passes s old.turns old.marks old.notes h.trace h.made (suc t) (ap (λ (r : Thread). r.ended) (sym (h.stand.threads t m.thread m.found).rule) ∙ m.ended);
        stand = record {
          adapter = adapter_stays s.lines w' w' (length old.turns) (length (with_turn old.turns (suc t))) old.adapter more refl h.stand.adapter;
          thread_count = h.stand.thread_count;
          threads = λ (k : ℕ) (thread : ThreadView) at_k. thread_stays s.lines w' w' (length old.turns) (length (with_turn old.turns (suc t))) (suc k) thread more refl (h.stand.threads k thread at_k);
        };
        bus = record {
          start = h.bus.start;
          words = h.bus.words;
          operations = h.bus.operations;
          room = omega (arith, one_more old.turns (suc t), h.bus.room);
          turns = h.bus.turns;
        };
      }

  pub rest_holds : Holds s new
  rest_holds = subst (Holds s) (sym m.new_is) rests_here
