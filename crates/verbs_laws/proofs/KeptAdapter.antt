-- A fetch and a publication keep what verbs queues keep.
use Rattle.std.proofs.Common.{◌≡◌, ◌≢◌, ℕ, ◌+◌, ◌-◌, ◌<◌, ◌==◌, ◌||◌, Bool, true, false, not, if◌then◌else◌, List, [], ◌∷◌, ◌++◌, length, map, refl, sym, ◌∙◌, ap, subst, arith, length-append, append_assoc, append-nil, Option, None, Some}
use Rattle.std.specs.Prelude.{slice_get}
use Rattle.std.specs.List.{AllByRecursion}
use Rattle.verbs_types.specs.declared.request.Item.{Item}
use Rattle.verbs_types.specs.declared.request.Item.TheVariants.{Request as TheRequest, Receive as TheReceive}
use Rattle.verbs_types.specs.declared.completion.Completion.{Completion}
use Rattle.verbs_types.specs.declared.completion.Queue.{Queue}
use Rattle.verbs_types.specs.declared.completion.Queue.TheVariants.{Send, Recv, Shared}
use Rattle.verbs_types.specs.declared.state.Act.{Act}
use Rattle.verbs_types.specs.declared.state.Act.TheVariants.{Complete}
use Rattle.verbs_types.specs.declared.state.QueuePair.{QueuePair}
use Rattle.verbs_types.specs.declared.state.Unpolled.{Unpolled}
use Rattle.verbs_rules.specs.Rows.{acts_of, status_of, fetch, publish}
use Rattle.verbs_rules.specs.State.{Verbs}
use Rattle.verbs_rules.specs.OfOne.{queue_in}
use Rattle.verbs_rules.specs.Sane.{Sane, QueueSane, CompletionsSane, IsHomed, IsHomedAct, numbers_in, waiting, completed_by}
use Rattle.verbs_laws.proofs.Choices.{number_by}
use Rattle.verbs_laws.proofs.Facts.{MayFetch, MayPublish}
use Rattle.verbs_laws.proofs.Queued.{stays, takes, takes_wanted}
use Rattle.verbs_laws.proofs.Waiting.{numbers-append, numbers_other, numbers_own}

-- Publish

module _ (n : ℕ) (v : Verbs) (cq : ℕ) (u : Unpolled) (others : List Act) (s : Sane n v) (owed : v.device.owed ≡ Complete cq u ∷ others) where
  abbrev now : Verbs
  now = publish v cq (Complete cq u ∷ others)

  pub homed_owed : AllByRecursion (IsHomedAct v.device.pair_lives v.device.pairs) (Complete cq u ∷ others)
  homed_owed = subst (AllByRecursion (IsHomedAct v.device.pair_lives v.device.pairs)) owed s.hand

  pub home : IsHomed v.device.pair_lives v.device.pairs cq u
  home = homed_owed.0

  -- it was the first of those that the hand holds, and is the last of those that are published
  moves_at : (i k : ℕ) → k ≡ (v.device.pairs i).send_cq → numbers_in i (now.unpolled k) ++ numbers_in i (map completed_by others) ≡ numbers_in i (v.unpolled k) ++ numbers_in i (u ∷ map completed_by others)
  moves_at i =
      number_by (λ k b. k ≡ (v.device.pairs i).send_cq → numbers_in i (if b then v.unpolled cq ++ u ∷ [] else v.unpolled k) ++ numbers_in i (map completed_by others) ≡ numbers_in i (v.unpolled k) ++ numbers_in i (u ∷ map completed_by others)) cq
      (λ e.
      ap (λ (ns : List ℕ). ns ++ numbers_in i (map completed_by others)) (numbers-append i (v.unpolled cq) (u ∷ []))
      ∙ append_assoc (numbers_in i (v.unpolled cq)) (numbers_in i (u ∷ [])) (numbers_in i (map completed_by others))
      ∙ ap (λ (ns : List ℕ). numbers_in i (v.unpolled cq) ++ ns) (sym (numbers-append i (u ∷ []) (map completed_by others))))
      (λ k apart e. ap (λ (ns : List ℕ). numbers_in i (v.unpolled k) ++ ns) (sym (numbers_other v.device.pair_lives v.device.pairs cq i u (map completed_by others) home (λ same. apart (e ∙ ap (λ j. (v.device.pairs j).send_cq) same ∙ home.home)))))

  waits_same : (i : ℕ) → waiting now i ≡ waiting v i
  waits_same i = moves_at i (v.device.pairs i).send_cq refl ∙ ap (λ (acts : List Act). numbers_in i (v.unpolled (v.device.pairs i).send_cq) ++ numbers_in i (map completed_by acts)) (sym owed)

  homed_push : (us : List Unpolled) → AllByRecursion (IsHomed v.device.pair_lives v.device.pairs cq) us → AllByRecursion (IsHomed v.device.pair_lives v.device.pairs cq) (us ++ u ∷ [])
  homed_push [] h = (home, tt)
  homed_push (x ∷ us) h = (h.0, homed_push us h.1)

  one_published : Sane n now
  one_published = record {
    lives = s.lives;
    queues = λ i. stays (queue_in v (Send i)) (waiting v i) (waiting now i) (waits_same i) (s.queues i);
    completions = number_by (λ k b. CompletionsSane v.device.pair_lives v.device.pairs k (if b then v.device.produced cq + 1 else v.device.produced k) (v.acked k) (if b then v.unpolled cq ++ u ∷ [] else v.unpolled k)) cq
        (let long : length (v.unpolled cq ++ u ∷ []) ≡ length (v.unpolled cq) + 1 = length-append (v.unpolled cq) (u ∷ []) in
        record { homed = homed_push (v.unpolled cq) (s.completions cq).homed; acked = omega (arith, (s.completions cq).acked, long) })
        (λ k apart. s.completions k);
    hand = homed_owed.1;
  }

  pub publish_kept : Sane n (publish v cq v.device.owed)
  publish_kept = subst (λ (acts : List Act). Sane n (publish v cq acts)) (sym owed) one_published

-- Fetch

-- nothing is owed for a queue pair's request, or its completion on the queue pair's completion queue
abbrev pub OwesFor : QueuePair → ℕ → ℕ → List Act → Type 0
OwesFor pair qp number [] = Unit {0}
OwesFor pair qp number (Complete cq u ∷ acts) = (cq ≡ pair.send_cq) × (u.completion.queue ≡ Send qp) × (u.completion.qp ≡ qp) × (u.number ≡ number) × (acts ≡ [])

pub acts_owe : (pair : QueuePair) (qp number : ℕ) (o : Option Item) → OwesFor pair qp number (acts_of pair qp number o)
acts_owe pair qp number None = tt
acts_owe pair qp number (Some (TheReceive r)) = tt
acts_owe pair qp number (Some (TheRequest r)) = by (r.wanted || not (status_of pair.state == 0)) _ (refl, refl, refl, refl, refl)
  where
    by : (b : Bool) (act : Act) → OwesFor pair qp number (act ∷ []) → OwesFor pair qp number (if b then act ∷ [] else [])
    by true act h = h
    by false act h = tt

module _ (n : ℕ) (v : Verbs) (qp : ℕ) (s : Sane n v) (lives : v.device.pair_lives qp ≡ true) (idle : v.device.owed ≡ []) (more : v.device.taken (Send qp) < length (v.posted (Send qp))) where
  -- the state after the fetch, where these acts are owed
  abbrev pub fetched : List Act → Verbs
  fetched acts = record (fetch v (Send qp) (v.device.taken (Send qp) + 1)) { device = record (fetch v (Send qp) (v.device.taken (Send qp) + 1)).device { owed = acts } }

  pub idle_waits : (i : ℕ) → waiting v i ≡ numbers_in i (v.unpolled (v.device.pairs i).send_cq) ++ []
  idle_waits i = ap (λ (acts : List Act). numbers_in i (v.unpolled (v.device.pairs i).send_cq) ++ numbers_in i (map completed_by acts)) idle

  sane_by : (acts : List Act) → AllByRecursion (IsHomedAct v.device.pair_lives v.device.pairs) acts → QueueSane (record (queue_in v (Send qp)) { taken = v.device.taken (Send qp) + 1 }) (waiting (fetched acts) qp) → ((i : ℕ) → i ≢ qp → waiting (fetched acts) i ≡ waiting v i) → Sane n (fetched acts)
  sane_by acts hand own others = record {
    lives = s.lives;
    queues = number_by (λ i b. QueueSane (record (queue_in v (Send i)) { taken = if b then v.device.taken (Send qp) + 1 else v.device.taken (Send i) }) (waiting (fetched acts) i)) qp own
        (λ i apart. stays (queue_in v (Send i)) (waiting v i) (waiting (fetched acts) i) (others i apart) (s.queues i));
    completions = s.completions;
    hand = hand;
  }

  pub owes_kept : (acts : List Act) → OwesFor (v.device.pairs qp) qp (v.device.taken (Send qp) + 1) acts → Sane n (fetched acts)
  owes_kept [] owes = sane_by [] tt (takes (queue_in v (Send qp)) (waiting v qp) (waiting (fetched []) qp) (sym (idle_waits qp)) more (s.queues qp)) (λ i apart. sym (idle_waits i))
  owes_kept (Complete cq u ∷ acts) owes =
      let homed : IsHomed v.device.pair_lives v.device.pairs cq u = record { living = ap v.device.pair_lives owes.2 ∙ lives; queue = owes.1 ∙ ap (λ (i : ℕ). Send i) (sym owes.2); home = ap (λ i. (v.device.pairs i).send_cq) owes.2 ∙ sym owes.0 } in
      let none : map completed_by acts ≡ [] = ap (map completed_by) owes.4 in
      let there : List Unpolled = v.unpolled (v.device.pairs qp).send_cq in
      let own : numbers_in qp (u ∷ map completed_by acts) ≡ (v.device.taken (Send qp) + 1) ∷ [] = numbers_own qp u (map completed_by acts) owes.1 ∙ (λ k. owes.3 k ∷ numbers_in qp (none k)) in
      let waits : waiting (fetched (Complete cq u ∷ acts)) qp ≡ waiting v qp ++ (v.device.taken (Send qp) + 1) ∷ [] =
      ap (λ (ns : List ℕ). numbers_in qp there ++ ns) own
      ∙ ap (λ (ns : List ℕ). ns ++ (v.device.taken (Send qp) + 1) ∷ []) (sym (append-nil (numbers_in qp there)) ∙ sym (idle_waits qp)) in
      sane_by (Complete cq u ∷ acts) (homed, subst (AllByRecursion (IsHomedAct v.device.pair_lives v.device.pairs)) (sym owes.4) tt)
      (takes_wanted (queue_in v (Send qp)) (waiting v qp) (waiting (fetched (Complete cq u ∷ acts)) qp) waits more (s.queues qp))
      (λ i apart.
      ap (λ (ns : List ℕ). numbers_in i (v.unpolled (v.device.pairs i).send_cq) ++ ns) (numbers_other v.device.pair_lives v.device.pairs cq i u (map completed_by acts) homed (λ same. apart (same ∙ owes.2)) ∙ ap (numbers_in i) none)
      ∙ sym (idle_waits i))

pub fetch_kept : (n : ℕ) (v : Verbs) (actor : ℕ) (queue : Queue) (number : ℕ) → Sane n v → MayFetch v actor queue number → Sane n (fetch v queue number)
fetch_kept n v actor (Send qp) number s may =
    subst (λ (k : ℕ). Sane n (fetch v (Send qp) k)) (sym may.next)
    (owes_kept n v qp s may.lives may.idle (omega (arith, may.next, may.posted)) (acts_of (v.device.pairs qp) qp (v.device.taken (Send qp) + 1) (slice_get (v.posted (Send qp)) (v.device.taken (Send qp) + 1 - 1))) (acts_owe (v.device.pairs qp) qp (v.device.taken (Send qp) + 1) _))
fetch_kept n v actor (Recv qp) number s may = s
fetch_kept n v actor (Shared srq) number s may = s
