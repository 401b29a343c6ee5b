-- An operation of a call to post keeps what holds, and what it says is a legal step that its thread owes.
use Rattle.std.proofs.Common.{◌≡◌, ◌≢◌, ℕ, zero, suc, ◌<◌, ◌≤◌, ◌+◌, ◌==◌, ◌||◌, not, inl, inr, refl, sym, ap, subst, ◌∙◌, arith, true, false, Bool, if◌then◌else◌, List, [], ◌∷◌, ◌++◌, length, take, min, Option, None, Some, is_some, unwrap_or, option_map, slice_get, slice_set, slice_index_or}
use Rattle.std.specs.List.{flat_map, list_all}
use Rattle.std.proofs.lemmas.Bool.{and_parts, cases_Bool, false≢true, eqb-true, eqb-false}
use Rattle.std.proofs.lemmas.List.{append_assoc, length-append, length-set, length-take, get_or-set_same, get_or-set_other}
use Rattle.std.proofs.Math.Seq.{take-length}
use Rattle.bus_core.specs.Mark.{Marked}
use Rattle.bus_core.specs.Trace.{Memory, Tells, after_entry}
use Rattle.verbs_types.specs.declared.call.Call.{Call}
use Rattle.verbs_types.specs.declared.completion.Queue.{Queue}
use Rattle.verbs_types.specs.declared.declaration.Lines.{Lines}
use Rattle.verbs_types.specs.declared.entry.What.{What}
use Rattle.verbs_types.specs.declared.entry.What.TheVariants.{Post, PostFull}
use Rattle.verbs_types.specs.declared.request.Item.{Item}
use Rattle.actor_map.specs.Notes.{IsServed, with_seen}
use Rattle.verbs_rules.specs.Answered.{Due, Posting, Accepting, Answers, MayAnswer, left_by, after_answer, due_by}
use Rattle.verbs_rules.specs.Family.{put}
use Rattle.verbs_rules.specs.Rows as rows
use Rattle.verbs_rules.specs.State.{Verbs}
use Rattle.verbs_rules.specs.OfOne.{queue_in}
use Rattle.verbs_rules.specs.Step.{MayStep, after}
use Rattle.verbs_rules.specs.Running.{Running, after_turn}
use Rattle.counted_ring.specs.declared.place.WqPlace.{WqPlace}
use Rattle.counted_ring.specs.Place.{is_send}
use Rattle.counted_ring.specs.Poster.{Poster, Ready, Ringing}
use Rattle.counted_ring.specs.Queue as counted
use Rattle.counted_ring.proofs.PosterStep.{poster_step}
use Rattle.counted_ring.proofs.Says.{bring_inside}
use Rattle.counted_ring.proofs.Tied as requests
use Rattle.object_places.specs.Objects.{Mark, touches}
use Rattle.provider_post.specs.declared.call.Call as post
use Rattle.provider_post.specs.Call.{is_written, mark_of, call_after, told_of}
use Rattle.provider_post.specs.Item.{WritesItem, IsNextItem, IsWrittenItem}
use Rattle.provider_post.specs.Rule.{PostRule, post_side_says, post_side_poster, post_side_call, entry_told, next_call}
use Rattle.actor_rules.specs.Owners.{poster_of}
use Rattle.actor_rules.specs.Thread.{Thread, queue_place, queue_object, QueueLives, segments_of}
use Rattle.actor_rules.specs.Family.{put_number}
use Rattle.actor_rules.specs.Posting.{MayPost, after_post, calls_after_post, post_now, post_says, post_sees}
use Rattle.actor_rules.specs.Actors.{Actors, by, posted_with}
use Rattle.actor_rules.specs.Dues.{dues_at, post_dues}
use Rattle.verbs_rules.specs.Proper as proper
use Rattle.verbs_rules.specs.Within as verbs
use Rattle.actor_rules.proofs.Dues.{dues_at-set}
use Rattle.actor_rules.proofs.Growing.{Grows, grows_refl, grows_event}
use Rattle.actor_rules.specs.Matching.{Match}
use Rattle.actor_rules.proofs.Matching.{match_push, match_length}
use Rattle.actor_rules.specs.Queues.{QueueIs, IsItem, written, written_by}
use Rattle.actor_rules.proofs.Resting.{rest_owes, rest_silent, rest_stands}
use Rattle.actor_rules.specs.Threads.{IsPosting, ThreadStands, PostsAt, RestsAt}
use Rattle.actor_rules.specs.Holding.{Stands, Holds, Goes, IsMapped, MayTurn}
use Rattle.actor_rules.specs.View.{accepted, written_in}
use Rattle.actor_rules.proofs.PerQueue.{either_queue, queue_here, queue_there}
use Rattle.post_law.proofs.Now.{retirer_at, reader_at, QueueTied, queue_tied, place_fine, touches_queue, posts_on, Posts, stands_now, stands_still}
use Rattle.post_law.proofs.Calls.{now_of, dues_begun, accepted_begun, posting_now, IsOpen, is_open, IsPostCall}
use Rattle.post_law.proofs.Legal.{CanPost, whole_goes, part_goes, full_goes}
use Rattle.post_law.proofs.Ends.{ends, ends_open, ends_refused, ends_rung, ends_registered}
use Rattle.post_law.proofs.Outcome.{Outcome, GoesOn, Writes, Refuses, Rings, Registers, comes_to}
use Rattle.verbs_rules.specs.Within.{Bounds}

-- a list that has an item
abbrev is_some_list : List Due → Type 0
is_some_list [] = ⊥
is_some_list (d ∷ ds) = Unit {0}

only_first : (a b : Bool) → (a || b) ≡ true → b ≡ false → a ≡ true
only_first true b h none = refl
only_first false b h none = absurd (false≢true (sym none ∙ h))

min_is : (a b : ℕ) → a ≤ b → min a b ≡ a
min_is a b h = omega (arith, h)

append_nil : {X : Type 0} (xs : List X) → xs ++ [] ≡ xs
append_nil [] = refl
append_nil (x ∷ xs) = ap (λ (ys : List _). x ∷ ys) (append_nil xs)

all_take : {X : Type 0} (test : X → Bool) (n : ℕ) (xs : List X) → list_all test xs ≡ true → list_all test (take n xs) ≡ true
all_take test zero xs h = refl
all_take test (suc n) [] h = refl
all_take test (suc n) (x ∷ xs) h = let parts = and_parts (test x) (list_all test xs) h in rw (parts.0, all_take test n xs parts.1) refl

-- one item more of a list
take_one : {X : Type 0} (xs : List X) (n : ℕ) (x : X) → slice_get xs n ≡ Some x → take (n + 1) xs ≡ take n xs ++ x ∷ []
take_one [] zero x there = absurd (false≢true (ap is_some there))
take_one [] (suc n) x there = absurd (false≢true (ap is_some there))
take_one (y ∷ ys) zero x there = ap (λ o. unwrap_or o y ∷ []) there
take_one (y ∷ ys) (suc n) x there = let e : suc n + 1 ≡ suc (n + 1) = omega arith in ap (λ (k : ℕ). take k (y ∷ ys)) e ∙ ap (λ (zs : List _). y ∷ zs) (take_one ys n x there)

module _ (d : Lines) (programs : List (List Call)) (total : Bounds) (map : IsMapped d) (m : Memory) (w : Actors) (r : Running) (x : Marked Mark) (holds : Holds d programs total m w r)
    (t : ℕ) (queue : Queue) (items : List Item) (rest : List Call)
    (call : IsPostCall d programs (suc t) (w.threads (suc t)) queue items rest)
    (tells : Tells m x.entry) (may : MayPost d (w.threads (suc t)) queue items x) where
  abbrev v : Verbs
  v = r.verbs

  abbrev stands : Stands d programs total m w v holds.dues
  stands = holds.stands

  abbrev s : Thread
  s = w.threads (suc t)

  abbrev place : WqPlace
  place = queue_place d queue

  -- how far the call is, and the rule of its next operation
  abbrev c : post.Call
  c = now_of (length items) s.posting

  abbrev rule : PostRule
  rule = post_now s queue (length items)

  abbrev q : counted.Queue
  q = stands.lists.queues queue

  abbrev said : Option counted.WqEvent
  said = post_side_says place rule x.entry

  abbrev poster' : Poster
  poster' = post_side_poster place rule x.entry

  lives : QueueLives d queue
  lives = call.own.lives

  owner : poster_of programs queue ≡ suc t
  owner = call.own.owner

  some : 0 < length items
  some = call.own.some

  posting : IsPosting (length items) (s.posters queue) c
  posting = posting_now (length items) (s.posters queue) s.posting some call.stands.post

  tied : QueueTied d programs m w queue (s.posters queue) q
  tied = subst (λ (n : ℕ). QueueTied d programs m w queue ((w.threads n).posters queue) q) owner (queue_tied d programs queue m w stands.lists lives stands.bare.objects)

  outcome : Outcome place c poster'.stage said
  outcome = comes_to place c (s.posters queue) x.entry may.goes_on.brings posting.stage

  goes : requests.Goes place (after_entry m x.entry) poster' (retirer_at d programs w queue) (reader_at d w queue) q said
  goes = poster_step place m (s.posters queue) (retirer_at d programs w queue) (reader_at d w queue) q (mark_of c) x.entry (place_fine d programs map queue lives) tied tells may.goes_on.brings

  inside : touches d (queue_object queue) x.entry.addr ≡ true
  inside = touches_queue d programs queue x.entry.addr lives (bring_inside place (place_fine d programs map queue lives) x.entry m (s.posters queue) (retirer_at d programs w queue) (reader_at d w queue) q (mark_of c) tied may.goes_on.brings)

  goes_with : (event : Option counted.WqEvent) → said ≡ event → requests.Goes place (after_entry m x.entry) poster' (retirer_at d programs w queue) (reader_at d w queue) q event
  goes_with event is = subst (requests.Goes place (after_entry m x.entry) poster' (retirer_at d programs w queue) (reader_at d w queue) q) is goes

  -- the thread after the operation, where the call has come so far
  abbrev thread_with : Option post.Call → List Call → Thread
  thread_with posting' calls = posts_on s queue poster' posting' calls

  -- an operation of a call that goes on, or is over, says nothing of other queues
  silent_on : (posting' : Option post.Call) (other : Queue) → other ≢ queue → written_in other posting' s.calls ≡ []
  silent_on posting' other differ = call.silent (thread_with posting' s.calls) refl other differ

  silent_off : (other : Queue) → other ≢ queue → written_in other None rest ≡ []
  silent_off other differ = rest_silent d (thread_with None rest) refl other rest

  -- a call that goes on stands so
  goes_on_as : (call' : post.Call) → IsPosting (length items) poster' call' → PostsAt (thread_with (Some call') s.calls) queue (length items)
  goes_on_as call' h = record {
    post = subst (λ (p : Poster). IsPosting (length items) p call') (sym (queue_here s.posters queue poster')) h;
    given = call.stands.given;
    posters = λ other differ. ap (λ (p : Poster). p.stage) (queue_there s.posters queue poster' other differ) ∙ call.stands.posters other differ;
    polls = call.stands.polls;
  }

  -- and one that is over leaves every side at rest
  rests : poster'.stage ≡ Ready → RestsAt (thread_with None rest)
  rests ready = record {
    posting = refl;
    given = call.stands.given;
    posters = λ other all. elim (either_queue other queue) [
      | inl same ↦ subst (λ (k : Queue). ((thread_with None rest).posters k).stage ≡ Ready) (sym same) (ap (λ (p : Poster). p.stage) (queue_here s.posters queue poster') ∙ ready)
      | inr differ ↦ ap (λ (p : Poster). p.stage) (queue_there s.posters queue poster' other differ) ∙ call.stands.posters other differ
    ];
    polls = call.stands.polls;
  }

  goes_on_stands : (call' : post.Call) (owes : List Due) → IsPosting (length items) poster' call' → owes ≡ post_dues queue items (Some call') ++ flat_map due_by rest → ThreadStands d programs (suc t) (thread_with (Some call') s.calls) owes
  goes_on_stands call' owes h dues = record {
    dues = dues ∙ sym (call.dues (thread_with (Some call') s.calls) refl);
    calls = call.all_own;
    work = call.goes_on (thread_with (Some call') s.calls) refl (goes_on_as call' h);
  }

  ends_stands : (owes : List Due) → poster'.stage ≡ Ready → owes ≡ flat_map due_by rest → ThreadStands d programs (suc t) (thread_with None rest) owes
  ends_stands owes ready dues = record {
    dues = dues ∙ sym (rest_owes d (thread_with None rest) refl rest (rests ready).polls);
    calls = call.rest_own;
    work = rest_stands (thread_with None rest) (rests ready) rest;
  }

  -- what the thread owes before it, and what it has written
  owes_now : dues_at holds.dues (suc t) ≡ post_dues queue items (Some c) ++ flat_map due_by rest
  owes_now = (stands.bare.threads t).dues ∙ call.dues s refl ∙ ap (λ (ds : List Due). ds ++ flat_map due_by rest) (dues_begun queue items s.posting)

  written_old : written programs w queue ≡ accepted (Some c) items
  written_old = ap (λ (n : ℕ). written_by queue (w.threads n) (w.threads n).calls) owner ∙ call.writes s refl ∙ accepted_begun items s.posting

  abbrev actors : Thread → (Queue → List Item) → Actors
  actors thread posted = record { adapter = w.adapter; threads = put_number w.threads (suc t) thread; posted = posted }

  -- what the operation made, where the call has come so far
  abbrev Made : Option post.Call → List Call → counted.Queue → List Item → List Item → List (List Due) → Type 0
  Made posting' calls q' list told dues = Posts d programs total map m w v holds.dues stands t queue lives owner x.entry poster' posting' calls q' list told dues

  -- the queue with these requests, where so much is written
  queue_with : (posting' : Option post.Call) (calls : List Call) (q' : counted.Queue) (items' : List Item) → written_in queue posting' calls ≡ items' → Match (IsItem d queue) q'.requests ((v.posted queue) ++ items') → q'.rung ≡ q.rung → q'.taken ≡ q.taken → q'.retired ≡ q.retired
      → QueueIs d (written_in queue posting' calls) (w.posted queue) (queue_in v queue) q' queue
  queue_with posting' calls q' items' is matched rung taken retired =
      let old = stands.bare.state.queues queue lives in record {
        posted = subst (λ (list : List Item). Match (IsItem d queue) q'.requests ((v.posted queue) ++ list)) (sym is) matched;
        rung = rung ∙ old.rung;
        taken = old.taken ∙ sym taken;
        retired = old.retired ∙ sym retired;
        room = old.room;
        segments = old.segments;
        told = old.told;
      }

  matched_old : Match (IsItem d queue) q.requests ((v.posted queue) ++ accepted (Some c) items)
  matched_old = subst (λ (list : List Item). Match (IsItem d queue) q.requests ((v.posted queue) ++ list)) written_old (stands.bare.state.queues queue lives).posted

  abbrev next : post.Call
  next = next_call place rule x.entry

  next_is : (event : Option counted.WqEvent) → said ≡ event → next ≡ call_after c (told_of event)
  next_is event is = ap (λ (ev : Option counted.WqEvent). call_after c (told_of ev)) is

  call_goes_on : ends place c next ≡ false → post_side_call place rule x.entry ≡ Some next
  call_goes_on is = ap (λ (b : Bool). if b then None else Some next) is

  call_is_over : ends place c next ≡ true → post_side_call place rule x.entry ≡ None
  call_is_over is = ap (λ (b : Bool). if b then None else Some next) is

  -- the tail that was loaded last
  abbrev pub sees : ℕ
  sees = post_sees d s queue (length items) x.entry

  -- all actors after the operation
  abbrev pub actors_after : Actors
  actors_after = record { adapter = w.adapter; threads = put_number w.threads (suc t) (after_post d s queue items x.entry rest); posted = posted_with w.posted (post_says d s queue items x.entry) }

  abbrev pub Result : Type 0
  Result = Goes d programs total (after_entry m x.entry) actors_after r sees (option_map (by (suc t)) (post_says d s queue items x.entry))

  conclude : (posting' : Option post.Call) (what : Option What) → post_side_call place rule x.entry ≡ posting' → post_says d s queue items x.entry ≡ what
      → Goes d programs total (after_entry m x.entry) (actors (thread_with posting' (calls_after_post posting' s.calls rest)) (posted_with w.posted what)) r sees (option_map (by (suc t)) what) → Result
  conclude posting' what call_is says_is g =
      subst (λ (o : Option post.Call). Goes d programs total (after_entry m x.entry) (actors (thread_with o (calls_after_post o s.calls rest)) (posted_with w.posted (post_says d s queue items x.entry))) r sees (option_map (by (suc t)) (post_says d s queue items x.entry))) (sym call_is)
      (subst (λ (o : Option What). Goes d programs total (after_entry m x.entry) (actors (thread_with posting' (calls_after_post posting' s.calls rest)) (posted_with w.posted o)) r sees (option_map (by (suc t)) o)) (sym says_is) g)

  says_of : (event : Option counted.WqEvent) → said ≡ event → post_says d s queue items x.entry ≡ entry_told queue items c (told_of event)
  says_of event is = ap (λ (ev : Option counted.WqEvent). entry_told queue items c (told_of ev)) is

  -- an operation that says nothing leaves the abstract state and what the threads owe
  silent : (posting' : Option post.Call) (calls : List Call) (q' : counted.Queue) → Made posting' calls q' (v.posted queue) (w.posted queue) holds.dues → Holds d programs total (after_entry m x.entry) (actors (thread_with posting' calls) w.posted) r
  silent posting' calls q' made = record {
    dues = holds.dues;
    owed = holds.owed;
    stands = stands_still d programs total map m w v holds.dues stands t queue lives owner x.entry poster' posting' calls q' holds.dues made stands.bare.sound;
  }

  made_with : (posting' : Option post.Call) (calls : List Call) (q' : counted.Queue) (list told : List Item) (dues' : List (List Due)) → ((other : Queue) → other ≢ queue → written_in other posting' calls ≡ []) → ((k : ℕ) → k ≢ t → dues_at dues' (suc k) ≡ dues_at holds.dues (suc k))
      → Grows q q' → QueueTied d programs (after_entry m x.entry) w queue poster' q' → QueueIs d (written_in queue posting' calls) told (record (queue_in v queue) { posted = list }) q' queue → ThreadStands d programs (suc t) (thread_with posting' calls) (dues_at dues' (suc t)) → Made posting' calls q' list told dues'
  made_with posting' calls q' list told dues' silent_now others grows tied' is own = record { inside = inside; tied = tied'; stands_for = is; grows = grows; silent = λ other differ. call.silent s refl other differ; silent_now = silent_now; own = own; others = others }

  dues_kept : (k : ℕ) → k ≢ t → dues_at holds.dues (suc k) ≡ dues_at holds.dues (suc k)
  dues_kept k differ = refl

  -- GoesOn: the call is where it was
  stays : said ≡ None → is_written c ≡ false → Result
  stays is more =
      let o = is_open (length items) (s.posters queue) c posting more in
      let same : next ≡ c = next_is None is in
      let going : post_side_call place rule x.entry ≡ Some c = call_goes_on (ap (λ (k : post.Call). ends place c k) same ∙ ends_open place c c o.recorded o.recorded o.refused) ∙ ap (λ (k : post.Call). Some k) same in
      let as_before : IsPosting (length items) poster' c = record {
        count = posting.count;
        some = posting.some;
        rings_some = posting.rings_some;
        stage = record { writes = λ h. o.recorded; record_next = λ all waits. absurd (false≢true (sym more ∙ all)); register_next = λ recorded. absurd (false≢true (sym o.recorded ∙ recorded)) };
      } in
      conclude (Some c) None going (says_of None is)
      (silent (Some c) s.calls q (made_with (Some c) s.calls q (v.posted queue) (w.posted queue) holds.dues (silent_on (Some c)) dues_kept (grows_refl q) (goes_with None is)
      (queue_with (Some c) s.calls q (accepted (Some c) items) (call.writes (thread_with (Some c) s.calls) refl) matched_old refl refl refl) (goes_on_stands c (dues_at holds.dues (suc t)) as_before owes_now)))

  -- Registers: the call is over
  registers : said ≡ None → c.recorded ≡ true → poster'.stage ≡ Ready → Result
  registers is recorded ready =
      let over : post_side_call place rule x.entry ≡ None = call_is_over (ends_registered place c next recorded) in
      let nothing : accepted (Some c) items ≡ [] = ap (λ (b : Bool). if b then [] else take c.accepted items) recorded in
      let owed_nothing : post_dues queue items (Some c) ≡ [] = ap (λ (b : Bool). if b then [] else (if is_some c.refused then Accepting queue (take c.accepted items) ∷ [] else Posting queue items ∷ [])) recorded in
      conclude None None over (says_of None is)
      (silent None rest q (made_with None rest q (v.posted queue) (w.posted queue) holds.dues silent_off dues_kept (grows_refl q) (goes_with None is)
      (queue_with None rest q [] (rest_silent d (thread_with None rest) refl queue rest) (subst (λ (list : List Item). Match (IsItem d queue) q.requests ((v.posted queue) ++ list)) nothing matched_old) refl refl refl)
      (ends_stands (dues_at holds.dues (suc t)) ready (owes_now ∙ ap (λ (ds : List Due). ds ++ flat_map due_by rest) owed_nothing))))

  -- Writes: one item more is accepted
  writes : (words : List ℕ) (id : ℕ) → said ≡ Some (counted.Wrote words id) → is_written c ≡ false → poster'.stage ≡ Ready → Result
  writes words id is more ready =
      let o = is_open (length items) (s.posters queue) c posting more in
      let event : Option counted.WqEvent = Some (counted.Wrote words id) in
      let same = next_is event is in
      let call' : post.Call = call_after c (told_of event) in
      let going : post_side_call place rule x.entry ≡ Some call' = call_goes_on (ap (λ (k : post.Call). ends place c k) same ∙ ends_open place c call' o.recorded o.recorded o.refused) ∙ ap (λ (k : post.Call). Some k) same in
      let g = goes_with event is in
      let q' : counted.Queue = counted.after_event place q (counted.Wrote words id) in
      let one : IsNextItem place queue (s.posters queue).index (slice_get items c.accepted) words id = subst (WritesItem place queue (s.posters queue).index (slice_get items c.accepted)) is may.goes_on.writes in
      let index : (s.posters queue).index ≡ q.next = tied.poster.index in
      let written' : IsItem d queue (record { index = q.next; words = words; id = id }) one.item = subst (λ (i : ℕ). IsWrittenItem place queue i one.item words id) index one.written in
      let before : accepted (Some c) items ≡ take c.accepted items = ap (λ (b : Bool). if b then [] else take c.accepted items) o.recorded in
      let after' : accepted (Some call') items ≡ take (c.accepted + 1) items = ap (λ (b : Bool). if b then [] else take (c.accepted + 1) items) o.recorded in
      let longer : (v.posted queue) ++ take (c.accepted + 1) items ≡ ((v.posted queue) ++ take c.accepted items) ++ one.item ∷ [] =
      ap (λ (list : List Item). (v.posted queue) ++ list) (take_one items c.accepted one.item one.next_is) ∙ sym (append_assoc (v.posted queue) (take c.accepted items) (one.item ∷ [])) in
      let pushed : Match (IsItem d queue) q'.requests (((v.posted queue) ++ take c.accepted items) ++ one.item ∷ []) =
      match_push (IsItem d queue) q.requests ((v.posted queue) ++ take c.accepted items) (record { index = q.next; words = words; id = id }) one.item (subst (λ (list : List Item). Match (IsItem d queue) q.requests ((v.posted queue) ++ list)) before matched_old) written' in
      let one_more : IsPosting (length items) poster' call' = record {
        count = posting.count;
        some = omega (arith, o.more);
        rings_some = λ all. omega arith;
        stage = record { writes = λ h. o.recorded; record_next = λ all waits. ready; register_next = λ recorded. absurd (false≢true (sym o.recorded ∙ recorded)) };
      } in
      let dues' : post_dues queue items (Some c) ≡ post_dues queue items (Some call') = rw (o.recorded, o.refused) refl in
      conclude (Some call') None going (says_of event is)
      (silent (Some call') s.calls q' (made_with (Some call') s.calls q' (v.posted queue) (w.posted queue) holds.dues (silent_on (Some call')) dues_kept (grows_event place q (counted.Wrote words id) (omega (arith, tied.shape.order.taken, tied.shape.order.rung))) g.1
      (queue_with (Some call') s.calls q' (take (c.accepted + 1) items) (call.writes (thread_with (Some call') s.calls) refl ∙ after') (subst (Match (IsItem d queue) q'.requests) (sym longer) pushed) refl refl refl)
      (goes_on_stands call' (dues_at holds.dues (suc t)) one_more (owes_now ∙ ap (λ (ds : List Due). ds ++ flat_map due_by rest) dues'))))

  -- What is said of the abstract state

  owes_at : (t' : ℕ) (all : List (List Due)) (head : Due) (more : List Due) → slice_index_or all t' [] ≡ head ∷ more → t' < length all
  owes_at zero [] head more is = absurd (subst is_some_list (sym is) tt)
  owes_at (suc k) [] head more is = absurd (subst is_some_list (sym is) tt)
  owes_at zero (ds ∷ all) head more is = omega arith
  owes_at (suc k) (ds ∷ all) head more is = let low = owes_at k all head more is in omega (arith, low)

  abbrev dues_after : List Due → List (List Due)
  dues_after ds = slice_set holds.dues t ds

  module _ (what : What) (head : Due) (more : List Due) (owes : dues_at holds.dues (suc t) ≡ head ∷ more) where
    low : t < length holds.dues
    low = owes_at t holds.dues head more owes

    owed_after : (after_turn r (by (suc t) what)).owed ≡ dues_at (dues_after (left_by head what ++ more))
    owed_after =
        ap (λ (owed : ℕ → List Due). put (λ (i j : ℕ). i == j) owed (suc t) (after_answer (owed (suc t)) what)) holds.owed
        ∙ ap (λ (ds : List Due). put (λ (i j : ℕ). i == j) (dues_at holds.dues) (suc t) (after_answer ds what)) owes
        ∙ sym (dues_at-set holds.dues t (left_by head what ++ more) low)

    dues_here : dues_at (dues_after (left_by head what ++ more)) (suc t) ≡ left_by head what ++ more
    dues_here = get_or-set_same holds.dues t (left_by head what ++ more) [] low

    dues_there : (k : ℕ) → k ≢ t → dues_at (dues_after (left_by head what ++ more)) (suc k) ≡ dues_at holds.dues (suc k)
    dues_there k differ = get_or-set_other holds.dues t k (left_by head what ++ more) [] differ

    may_turn : MayStep v (by (suc t) what) → Answers head what → IsServed v (with_seen sees (by (suc t) what)) → MayTurn r (with_seen sees (by (suc t) what))
    may_turn legal answers serves = record {
      legal = legal;
      due = subst (λ (owed : ℕ → List Due). MayAnswer (owed (suc t)) what) (sym holds.owed) (subst (λ (ds : List Due). MayAnswer ds what) (sym owes) answers);
      serves = serves;
    }

  -- what the abstract state makes of an entry, where its thread owes this after it
  abbrev Makes : What → List Due → Type 0
  Makes what ds = verbs.Goes (length d.qps) total v (suc t) what (dues_after ds)

  open_dues : IsOpen c → dues_at holds.dues (suc t) ≡ Posting queue items ∷ flat_map due_by rest
  open_dues o = owes_now ∙ ap (λ (ds : List Due). ds ++ flat_map due_by rest) (open_owes o)
    where
      open_owes : IsOpen c → post_dues queue items (Some c) ≡ Posting queue items ∷ []
      open_owes o = rw (o.recorded, o.refused) refl

  -- what is said of the queue's own list stays as it was
  abbrev refused_left : List Due
  refused_left = if c.accepted == 0 then [] else Accepting queue (take c.accepted items) ∷ []

  -- Refuses: the queue is full
  module _ (head tail : ℕ) (is : said ≡ Some (counted.Full head tail)) (more : is_written c ≡ false) (ready : poster'.stage ≡ Ready)
      (makes : Makes (PostFull queue c.accepted head tail) (refused_left ++ flat_map due_by rest)) (serves : IsServed v (with_seen sees (by (suc t) (PostFull queue c.accepted head tail)))) where
    o : IsOpen c
    o = is_open (length items) (s.posters queue) c posting more

    abbrev what : What
    what = PostFull queue c.accepted head tail

    abbrev call' : post.Call
    call' = call_after c (told_of (Some (counted.Full head tail)))

    ends_is : ends place c next ≡ (c.accepted == 0)
    ends_is = ap (λ (k : post.Call). ends place c k) (next_is (Some (counted.Full head tail)) is) ∙ ends_refused place c call' o.recorded o.recorded refl

    goes_full : (posting' : Option post.Call) (calls : List Call) → Made posting' calls q (v.posted queue) (w.posted queue) (dues_after (refused_left ++ flat_map due_by rest)) → Goes d programs total (after_entry m x.entry) (actors (thread_with posting' calls) w.posted) r sees (Some (by (suc t) what))
    goes_full posting' calls made = (
      may_turn what (Posting queue items) (flat_map due_by rest) (open_dues o) makes.legal (refl, omega (arith, o.more, posting.count)) serves,
      record {
        dues = dues_after (refused_left ++ flat_map due_by rest);
        owed = owed_after what (Posting queue items) (flat_map due_by rest) (open_dues o);
        stands = stands_still d programs total map m w v holds.dues stands t queue lives owner x.entry poster' posting' calls q (dues_after (refused_left ++ flat_map due_by rest)) made
            (record { declared = stands.bare.sound.declared; long = length-set holds.dues t (refused_left ++ flat_map due_by rest) ∙ stands.bare.sound.long; bounded = makes.bounded });
      },
    )

    abbrev made_full : (posting' : Option post.Call) (calls : List Call) → ((other : Queue) → other ≢ queue → written_in other posting' calls ≡ []) → QueueIs d (written_in queue posting' calls) (w.posted queue) (queue_in v queue) q queue
        → ThreadStands d programs (suc t) (thread_with posting' calls) (dues_at (dues_after (refused_left ++ flat_map due_by rest)) (suc t)) → Made posting' calls q (v.posted queue) (w.posted queue) (dues_after (refused_left ++ flat_map due_by rest))
    made_full posting' calls silent_now = made_with posting' calls q (v.posted queue) (w.posted queue) (dues_after (refused_left ++ flat_map due_by rest)) silent_now (dues_there what (Posting queue items) (flat_map due_by rest) (open_dues o)) (grows_refl q) (goes_with (Some (counted.Full head tail)) is).1

    here : dues_at (dues_after (refused_left ++ flat_map due_by rest)) (suc t) ≡ refused_left ++ flat_map due_by rest
    here = dues_here what (Posting queue items) (flat_map due_by rest) (open_dues o)

    refused_all : (c.accepted == 0) ≡ true → Result
    refused_all none =
        let nothing : accepted (Some c) items ≡ [] = ap (λ (b : Bool). if b then [] else take c.accepted items) o.recorded ∙ ap (λ (k : ℕ). take k items) (eqb-true c.accepted 0 none) in
        conclude None (Some what) (call_is_over (ends_is ∙ none)) (says_of (Some (counted.Full head tail)) is)
        (goes_full None rest (made_full None rest silent_off
        (queue_with None rest q [] (rest_silent d (thread_with None rest) refl queue rest) (subst (λ (list : List Item). Match (IsItem d queue) q.requests ((v.posted queue) ++ list)) nothing matched_old) refl refl refl)
        (ends_stands _ ready (here ∙ ap (λ (b : Bool). (if b then [] else Accepting queue (take c.accepted items) ∷ []) ++ flat_map due_by rest) none))))

    refused_rest : (c.accepted == 0) ≡ false → Result
    refused_rest some' =
        let going : post_side_call place rule x.entry ≡ Some call' = call_goes_on (ends_is ∙ some') ∙ ap (λ (k : post.Call). Some k) (next_is (Some (counted.Full head tail)) is) in
        let stopped : IsPosting (length items) poster' call' = record {
          count = posting.count;
          some = posting.some;
          rings_some = λ all. omega (arith, eqb-false c.accepted 0 some');
          stage = record { writes = λ h. o.recorded; record_next = λ all waits. ready; register_next = λ recorded. absurd (false≢true (sym o.recorded ∙ recorded)) };
        } in
        let before : accepted (Some c) items ≡ accepted (Some call') items = refl in
        let owes' : refused_left ≡ post_dues queue items (Some call') = rw (some', o.recorded) refl in
        conclude (Some call') (Some what) going (says_of (Some (counted.Full head tail)) is)
        (goes_full (Some call') s.calls (made_full (Some call') s.calls (silent_on (Some call'))
        (queue_with (Some call') s.calls q (accepted (Some c) items) (call.writes (thread_with (Some call') s.calls) refl ∙ sym before) matched_old refl refl refl)
        (goes_on_stands call' _ stopped (here ∙ ap (λ (ds : List Due). ds ++ flat_map due_by rest) owes'))))

    refuses : Result
    refuses = elim (cases_Bool (c.accepted == 0)) [ inl none ↦ refused_all none | inr some' ↦ refused_rest some' ]

  -- Rings: what was accepted is posted
  abbrev rung_items : List Item
  rung_items = take c.accepted items

  module _ (is : said ≡ Some counted.Rang) (all : is_written c ≡ true) (waits : c.recorded ≡ false) (stage : poster'.stage ≡ (if is_send place then Ringing else Ready))
      (head : Due) (owes : dues_at holds.dues (suc t) ≡ head ∷ flat_map due_by rest) (answers : Answers head (Post queue rung_items)) (makes : Makes (Post queue rung_items) (left_by head (Post queue rung_items) ++ flat_map due_by rest))
      (left : left_by head (Post queue rung_items) ≡ []) (serves : IsServed v (with_seen sees (by (suc t) (Post queue rung_items)))) where
    abbrev posts : What
    posts = Post queue rung_items

    abbrev v' : Verbs
    v' = after v posts

    abbrev told : Queue → List Item
    told = posted_with w.posted (Some posts)

    abbrev rung_dues : List (List Due)
    rung_dues = dues_after (left_by head posts ++ flat_map due_by rest)

    abbrev rang : counted.Queue
    rang = counted.after_event place q counted.Rang

    abbrev recorded' : post.Call
    recorded' = call_after c (told_of (Some counted.Rang))

    rung_some : 0 < c.accepted
    rung_some = posting.rings_some all

    rung_ends : ends place c next ≡ not (is_send place)
    rung_ends = ap (λ (k : post.Call). ends place c k) (next_is (Some counted.Rang) is) ∙ ends_rung place c recorded' waits refl rung_some

    matched_rung : Match (IsItem d queue) q.requests ((v.posted queue) ++ rung_items)
    matched_rung = subst (λ (list : List Item). Match (IsItem d queue) q.requests ((v.posted queue) ++ list)) (ap (λ (b : Bool). if b then [] else rung_items) waits) matched_old

    queue_rung : (posting' : Option post.Call) (calls : List Call) → written_in queue posting' calls ≡ [] → QueueIs d (written_in queue posting' calls) (w.posted queue ++ rung_items) (record (queue_in v queue) { posted = v.posted queue ++ rung_items }) rang queue
    queue_rung posting' calls nothing =
        let old = stands.bare.state.queues queue lives in record {
          posted = subst (λ (list : List Item). Match (IsItem d queue) q.requests list) (sym (ap (λ (list : List Item). ((v.posted queue) ++ rung_items) ++ list) nothing ∙ append_nil ((v.posted queue) ++ rung_items))) matched_rung;
          rung = match_length (IsItem d queue) q.requests ((v.posted queue) ++ rung_items) matched_rung;
          taken = old.taken;
          retired = old.retired;
          room = old.room;
          segments = old.segments;
          told = ap (λ (list : List Item). list ++ rung_items) old.told;
        }

    goes_rung : (posting' : Option post.Call) (calls : List Call) → ((other : Queue) → other ≢ queue → written_in other posting' calls ≡ []) → written_in queue posting' calls ≡ [] → ThreadStands d programs (suc t) (thread_with posting' calls) (dues_at rung_dues (suc t))
        → Goes d programs total (after_entry m x.entry) (actors (thread_with posting' calls) told) r sees (Some (by (suc t) posts))
    goes_rung posting' calls silent_now nothing own =
        let was = stands.bare.sound.declared in (
          may_turn posts head (flat_map due_by rest) owes makes.legal answers serves,
          record {
            dues = rung_dues;
            owed = owed_after posts head (flat_map due_by rest) owes;
            stands = stands_now d programs total map m w v holds.dues stands t queue lives owner x.entry poster' posting' calls rang (v.posted queue ++ rung_items) (w.posted queue ++ rung_items) rung_dues
                (made_with posting' calls rang (v.posted queue ++ rung_items) (w.posted queue ++ rung_items) rung_dues silent_now (dues_there posts head (flat_map due_by rest) owes)
                (grows_event place q counted.Rang (omega (arith, tied.shape.order.taken, tied.shape.order.rung))) (goes_with (Some counted.Rang) is).1 (queue_rung posting' calls nothing) own)
                (record { declared = record { pairs = was.pairs; pair_lives = was.pair_lives; completions_live = was.completions_live }; long = length-set holds.dues t (left_by head posts ++ flat_map due_by rest) ∙ stands.bare.sound.long; bounded = makes.bounded });
          },
        )

    here_rung : dues_at rung_dues (suc t) ≡ flat_map due_by rest
    here_rung = dues_here posts head (flat_map due_by rest) owes ∙ ap (λ (ds : List Due). ds ++ flat_map due_by rest) left

    rung_send : is_send place ≡ true → Result
    rung_send send =
        let going : post_side_call place rule x.entry ≡ Some recorded' = call_goes_on (rung_ends ∙ ap not send) ∙ ap (λ (k : post.Call). Some k) (next_is (Some counted.Rang) is) in
        let ringing : poster'.stage ≡ Ringing = stage ∙ ap (λ (b : Bool). if b then Ringing else Ready) send in
        let rings : IsPosting (length items) poster' recorded' = record {
          count = posting.count;
          some = posting.some;
          rings_some = λ h. rung_some;
          stage = record { writes = λ open_. absurd (false≢true (sym open_ ∙ all)); record_next = λ h never. absurd (false≢true (sym never)); register_next = λ h. ringing };
        } in
        conclude (Some recorded') (Some posts) going (says_of (Some counted.Rang) is)
        (goes_rung (Some recorded') s.calls (silent_on (Some recorded')) (call.writes (thread_with (Some recorded') s.calls) refl)
        (goes_on_stands recorded' _ rings here_rung))

    rung_receive : is_send place ≡ false → Result
    rung_receive receive =
        let ready : poster'.stage ≡ Ready = stage ∙ ap (λ (b : Bool). if b then Ringing else Ready) receive in
        conclude None (Some posts) (call_is_over (rung_ends ∙ ap not receive)) (says_of (Some counted.Rang) is)
        (goes_rung None rest silent_off (rest_silent d (thread_with None rest) refl queue rest) (ends_stands _ ready here_rung))

    rings : Result
    rings = elim (cases_Bool (is_send place)) [ inl send ↦ rung_send send | inr receive ↦ rung_receive receive ]

  -- what the abstract state makes of the entries of a post
  pub record PostSteps : Type 0 where
    pub full : (head tail : ℕ) → IsOpen c → counted.MayRefuse place q head tail → Makes (PostFull queue c.accepted head tail) (refused_left ++ flat_map due_by rest)
    pub whole : c.recorded ≡ false → rung_items ≡ items → dues_at holds.dues (suc t) ≡ Posting queue items ∷ flat_map due_by rest → Makes (Post queue rung_items) (flat_map due_by rest)
    pub part : c.recorded ≡ false → dues_at holds.dues (suc t) ≡ Accepting queue rung_items ∷ flat_map due_by rest → Makes (Post queue rung_items) (flat_map due_by rest)

  written_whole : is_written c ≡ true → is_some c.refused ≡ false → rung_items ≡ items
  written_whole all not_refused =
      let same : c.accepted ≡ c.count = eqb-true c.accepted c.count (only_first (c.accepted == c.count) (is_some c.refused) all not_refused) in
      ap (λ (k : ℕ). take k items) (same ∙ posting.count) ∙ take-length items

  rung_owes : c.recorded ≡ false → (b : Bool) → is_some c.refused ≡ b → dues_at holds.dues (suc t) ≡ (if b then Accepting queue rung_items else Posting queue items) ∷ flat_map due_by rest
  rung_owes waits true is = let one : post_dues queue items (Some c) ≡ Accepting queue rung_items ∷ [] = rw (waits, is) refl in owes_now ∙ ap (λ (ds : List Due). ds ++ flat_map due_by rest) one
  rung_owes waits false is = let one : post_dues queue items (Some c) ≡ Posting queue items ∷ [] = rw (waits, is) refl in owes_now ∙ ap (λ (ds : List Due). ds ++ flat_map due_by rest) one

  -- What the words show is what the abstract state asks for

  long_now : c.recorded ≡ false → length q.requests ≡ length (v.posted queue) + c.accepted
  long_now waits =
      let matched = match_length (IsItem d queue) q.requests ((v.posted queue) ++ accepted (Some c) items) matched_old in
      let kept : length (accepted (Some c) items) ≡ c.accepted = ap (λ (b : Bool). length (if b then [] else take c.accepted items)) waits ∙ length-take c.accepted items ∙ min_is c.accepted (length items) (omega (arith, posting.some, posting.count)) in
      omega (arith, matched, kept, length-append (v.posted queue) (accepted (Some c) items))

  owes_first : (head : Due) (more : List Due) → dues_at holds.dues (suc t) ≡ head ∷ more → proper.Owes holds.dues t head more
  owes_first head more is = record { low = owes_at t holds.dues head more is; is = is }

  can_post : c.recorded ≡ false → CanPost d (length d.qps) total v holds.dues t rung_items (flat_map due_by rest) stands.bare.sound.bounded queue
  can_post waits =
      let old = stands.bare.state.queues queue lives in
      let some_long : length rung_items ≡ c.accepted = length-take c.accepted items ∙ min_is c.accepted (length items) (omega (arith, posting.some, posting.count)) in
      record {
        room = omega (arith, long_now waits, some_long, tied.shape.order.bound, old.retired, old.room);
        fits = subst (λ (k : ℕ). list_all (rows.item_fits queue k) rung_items ≡ true) (sym old.segments) (all_take (rows.item_fits queue (segments_of d queue)) c.accepted items call.own.fits);
      }

  steps : PostSteps
  steps = record {
    full = λ head tail o refuse.
        let old = stands.bare.state.queues queue lives in
        full_goes d (length d.qps) total v holds.dues t items (flat_map due_by rest) stands.bare.sound.bounded queue c.accepted head tail lives (owes_first (Posting queue items) (flat_map due_by rest) (open_dues o)) (record {
          head_is = refuse.head_is ∙ long_now o.recorded;
          tail_is = refuse.tail_is ∙ sym old.retired;
          full = omega (arith, refuse.head_is, refuse.tail_is, refuse.full, old.room);
        });
    whole = λ waits whole owes.
        whole_goes d (length d.qps) total v holds.dues t rung_items (flat_map due_by rest) stands.bare.sound.bounded queue lives (owes_first (Posting queue rung_items) (flat_map due_by rest) (owes ∙ ap (λ (list : List Item). Posting queue list ∷ flat_map due_by rest) (sym whole))) (can_post waits);
    part = λ waits owes. part_goes d (length d.qps) total v holds.dues t rung_items (flat_map due_by rest) stands.bare.sound.bounded queue lives (owes_first (Accepting queue rung_items) (flat_map due_by rest) owes) (can_post waits);
  }

  -- What was seen serves

  -- a tail that was loaded at a full queue is the state's
  full_serves : (head tail : ℕ) → said ≡ Some (counted.Full head tail) → IsServed v (with_seen sees (by (suc t) (PostFull queue c.accepted head tail)))
  full_serves head tail is =
      let g = goes_with (Some (counted.Full head tail)) is in
      let old = stands.bare.state.queues queue lives in
      omega (arith, g.1.poster.least, g.1.poster.room, g.1.poster.count, g.0.head_is, g.0.tail_is, g.0.full, old.retired)

  -- a tail that was loaded before leaves room for all that was posted since
  rung_serves : said ≡ Some counted.Rang → c.recorded ≡ false → IsServed v (with_seen sees (by (suc t) (Post queue rung_items)))
  rung_serves is waits =
      let g = goes_with (Some counted.Rang) is in
      let old = stands.bare.state.queues queue lives in
      let some_long : length rung_items ≡ c.accepted = length-take c.accepted items ∙ min_is c.accepted (length items) (omega (arith, posting.some, posting.count)) in
      record {
        least = omega (arith, g.1.poster.least, old.retired);
        enough = omega (arith, g.1.poster.room, g.1.poster.count, long_now waits, some_long, old.room);
      }

  -- an operation of a call to post keeps what holds
  pub post_goes : Result
  post_goes = by outcome
    where
      by_refused : said ≡ Some counted.Rang → is_written c ≡ true → c.recorded ≡ false → poster'.stage ≡ (if is_send place then Ringing else Ready) → (b : Bool) → is_some c.refused ≡ b → Result
      by_refused is all waits stage true refused = rings is all waits stage (Accepting queue rung_items) (rung_owes waits true refused) (refl, refl) (steps.part waits (rung_owes waits true refused)) refl (rung_serves is waits)
      by_refused is all waits stage false not_refused =
          rings is all waits stage (Posting queue items) (rung_owes waits false not_refused) (refl, written_whole all not_refused) (steps.whole waits (written_whole all not_refused) (rung_owes waits false not_refused)) refl (rung_serves is waits)

      by : Outcome place c poster'.stage said → Result
      by (GoesOn is more) = stays is more
      by (Writes words id is more ready) = writes words id is more ready
      by (Refuses head tail is more ready) = refuses head tail is more ready (steps.full head tail (is_open (length items) (s.posters queue) c posting more) (goes_with (Some (counted.Full head tail)) is).0) (full_serves head tail is)
      by (Rings is all waits stage) = by_refused is all waits stage (is_some c.refused) refl
      by (Registers is all recorded ready) = registers is recorded ready
