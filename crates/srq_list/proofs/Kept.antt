-- What a legal history of a list says of its receives.
use Rattle.std.proofs.Common.{◌≡◌, ℕ, ◌+◌, ◌<◌, inl, inr, refl, ap, sym, ◌∙◌, subst, arith, false, List, [], ◌∷◌, ◌++◌, length, get_or, take, length-append, append_assoc}
use Rattle.std.specs.Prelude.{filter}
use Rattle.std.specs.List.{Contains}
use Rattle.std.proofs.Math.Seq.{take-append-add}
use Rattle.std.proofs.lemmas.Bool.{cases_lt}
use Rattle.std.proofs.lemmas.List.{append-nil, get_or-take, length-take-le}
use Rattle.std.proofs.lemmas.List.Elements.{Contains-push_cases}
use Rattle.std.proofs.lemmas.List.FromFn.{length-range_with_len}
use Rattle.std.proofs.lemmas.Option.{get_or_from_slice_get}
use Rattle.bus_core.proofs.Following.{fold-push}
use Rattle.bus_core.proofs.Lists.{filter_takes_last, filter_skips_last}
use Rattle.srq_list.specs.declared.place.SrqPlace.{SrqPlace}
use Rattle.srq_list.specs.Place.{size}
use Rattle.srq_list.specs.Queue.{Receive, SharedQueue, SrqEvent, Began, Full, Wrote, Rang, Found, Freed, Showed, NoneThere, Took, empty_queue, slot_at, IsKept, IsPending, MayTake, MayHappen, after_event, IsLegal, cut}
use Rattle.srq_list.specs.Kept.{Posts, after_posts, posts, is_take, takes, is_free, frees}
use Rattle.srq_list.proofs.Shape.{Shape, nothing, receive_of, pending_low, shape_step, empty_shape, receive_before, count_longer, slot_before, slot_last, kept_before}

-- the take of receive n, and that its slot was not freed since where the chain shows that
pub record TakenAt (past : List SrqEvent) (q : SharedQueue) (n : ℕ) : Type 0 where
  pub earlier : List SrqEvent
  pub later : List SrqEvent
  pub words : List ℕ
  pub past_is : past ≡ earlier ++ Took (slot_at q n) words ∷ later
  pub count : takes earlier ≡ n
  pub words_are : words ≡ (receive_of q n).words
  pub freed : Contains later (Freed (slot_at q n)) → IsKept q n → ⊥

-- a list after these events
pub record Kept (place : SrqPlace) (past : List SrqEvent) (q : SharedQueue) : Type 0 where
  pub shape : Shape place q
  pub receives : q.receives ≡ (posts past).rung ++ (posts past).written
  pub rung : q.rung ≡ length (posts past).rung
  pub taken : q.taken ≡ takes past
  pub freed : length q.chain ≡ size place + frees past
  pub each : (n : ℕ) → n < q.taken → TakenAt past q n

module _ (place : SrqPlace) (past : List SrqEvent) (q : SharedQueue) (k : Kept place past q) (e : SrqEvent) where
  posts_are : posts (past ++ e ∷ []) ≡ after_posts (posts past) e
  posts_are = fold-push after_posts (record { rung = []; written = [] }) past e

  no_take : is_take e ≡ false → q.taken ≡ takes (past ++ e ∷ [])
  no_take none = k.taken ∙ ap (λ (es : List SrqEvent). length es) (sym (filter_skips_last is_take past e none))

  no_free : is_free e ≡ false → length q.chain ≡ size place + frees (past ++ e ∷ [])
  no_free none = k.freed ∙ ap (λ (es : List SrqEvent). size place + length es) (sym (filter_skips_last is_free past e none))

  -- the receives that were taken, in a list that goes on
  module _ (q' : SharedQueue) (slot : (n : ℕ) → n < q.taken → slot_at q' n ≡ slot_at q n) (receive : (n : ℕ) → n < q.taken → receive_of q' n ≡ receive_of q n)
      (keeps : (n : ℕ) → n < q.taken → IsKept q' n → IsKept q n) (frees_none : (n : ℕ) → n < q.taken → e ≡ Freed (slot_at q' n) → IsKept q' n → ⊥) where
    each_on : (n : ℕ) → n < q.taken → TakenAt (past ++ e ∷ []) q' n
    each_on n low =
        let t = k.each n low in
        record {
          earlier = t.earlier;
          later = t.later ++ e ∷ [];
          words = t.words;
          past_is = ap (λ es. es ++ e ∷ []) t.past_is ∙ (append_assoc t.earlier (Took (slot_at q n) t.words ∷ t.later) (e ∷ []) ∙ ap (λ x. t.earlier ++ Took x t.words ∷ (t.later ++ e ∷ [])) (sym (slot n low)));
          count = t.count;
          words_are = t.words_are ∙ ap (λ (r : Receive). r.words) (sym (receive n low));
          freed = λ h kept. elim (Contains-push_cases t.later e (Freed (slot_at q' n)) h) [
            | inl before ↦ t.freed (subst (λ x. Contains t.later (Freed x)) (slot n low) before) (keeps n low kept)
            | inr now ↦ frees_none n low now kept
          ];
        }

module _ (place : SrqPlace) (past : List SrqEvent) (q : SharedQueue) (k : Kept place past q) where
  taken_low : (n : ℕ) → n < q.taken → n < length q.chain
  taken_low n low = omega (arith, low, k.shape.taken, k.shape.rung, k.shape.room)

  -- an event that leaves the list alone
  same_list : (e : SrqEvent) → after_posts (posts past) e ≡ posts past → is_take e ≡ false → is_free e ≡ false → ((slot : ℕ) → e ≡ Freed slot → ⊥) → Kept place (past ++ e ∷ []) q
  same_list e same takes_none frees_none other =
      let p : posts (past ++ e ∷ []) ≡ posts past = posts_are place past q k e ∙ same in
      record {
        shape = k.shape;
        receives = k.receives ∙ ap (λ (x : Posts). x.rung ++ x.written) (sym p);
        rung = k.rung ∙ ap (λ (x : Posts). length x.rung) (sym p);
        taken = no_take place past q k e takes_none;
        freed = no_free place past q k e frees_none;
        each = each_on place past q k e q (λ n low. refl) (λ n low. refl) (λ n low h. h) (λ n low is kept. other (slot_at q n) is);
      }

  cut_receives : (pending : ℕ) → take (q.rung + pending) q.receives ≡ (posts past).rung ++ take pending (posts past).written
  cut_receives pending = ap (λ rs. take (q.rung + pending) rs) k.receives ∙ (ap (λ n. take (n + pending) ((posts past).rung ++ (posts past).written)) k.rung ∙ take-append-add (posts past).rung (posts past).written pending)

  receive_cut : (pending n : ℕ) → n < q.taken → get_or (take (q.rung + pending) q.receives) n nothing ≡ receive_of q n
  receive_cut pending n low = get_or-take (q.rung + pending) q.receives n nothing (omega (arith, low, k.shape.taken))

  -- some receives that were not rung are dropped
  cut_list : (e : SrqEvent) (pending : ℕ) → after_posts (posts past) e ≡ record { rung = (posts past).rung; written = take pending (posts past).written } → is_take e ≡ false → is_free e ≡ false → ((slot : ℕ) → e ≡ Freed slot → ⊥)
      → Shape place (cut q pending) → Kept place (past ++ e ∷ []) (cut q pending)
  cut_list e pending same takes_none frees_none other shape =
      let p : posts (past ++ e ∷ []) ≡ record { rung = (posts past).rung; written = take pending (posts past).written } = posts_are place past q k e ∙ same in
      record {
        shape = shape;
        receives = cut_receives pending ∙ ap (λ (x : Posts). x.rung ++ x.written) (sym p);
        rung = k.rung ∙ ap (λ (x : Posts). length x.rung) (sym p);
        taken = no_take place past q k e takes_none;
        freed = no_free place past q k e frees_none;
        each = each_on place past q k e (cut q pending) (λ n low. refl) (λ n low. receive_cut pending n low) (λ n low h. h) (λ n low is kept. other (slot_at q n) is);
      }

  wrote_list : (r : Receive) → MayHappen place q (Wrote r) → Kept place (past ++ Wrote r ∷ []) (after_event q (Wrote r))
  wrote_list r may =
      let e : SrqEvent = Wrote r in
      let p = posts_are place past q k e in
      record {
        shape = shape_step place q k.shape e may;
        receives = ap (λ rs. rs ++ r ∷ []) k.receives ∙ (append_assoc (posts past).rung (posts past).written (r ∷ []) ∙ ap (λ (x : Posts). x.rung ++ x.written) (sym p));
        rung = k.rung ∙ ap (λ (x : Posts). length x.rung) (sym p);
        taken = no_take place past q k e refl;
        freed = no_free place past q k e refl;
        each = each_on place past q k e (after_event q e) (λ n low. refl) (λ n low. receive_before place q k.shape r n (omega (arith, low, k.shape.taken, k.shape.rung))) (λ n low h. h) (λ n low is kept. absurd (cc));
      }

  rang_list : (pending : ℕ) → IsPending q pending → Kept place (past ++ Rang pending ∷ []) (after_event q (Rang pending))
  rang_list pending may =
      let e : SrqEvent = Rang pending in
      let p = posts_are place past q k e in
      let count : length (take (q.rung + pending) q.receives) ≡ q.rung + pending = length-take-le (q.rung + pending) q.receives (pending_low place q k.shape pending may) in
      record {
        shape = shape_step place q k.shape e may;
        receives = cut_receives pending ∙ (sym (append-nil ((posts past).rung ++ take pending (posts past).written)) ∙ ap (λ (x : Posts). x.rung ++ x.written) (sym p));
        rung = sym count ∙ (ap (λ (rs : List Receive). length rs) (cut_receives pending) ∙ ap (λ (x : Posts). length x.rung) (sym p));
        taken = no_take place past q k e refl;
        freed = no_free place past q k e refl;
        each = each_on place past q k e (after_event q e) (λ n low. refl) (λ n low. receive_cut pending n low) (λ n low h. h) (λ n low is kept. absurd (cc));
      }

  freed_list : (slot : ℕ) → MayHappen place q (Freed slot) → Kept place (past ++ Freed slot ∷ []) (after_event q (Freed slot))
  freed_list slot may =
      let e : SrqEvent = Freed slot in
      let p = posts_are place past q k e in
      let count = count_longer place q k.shape slot in
      record {
        shape = shape_step place q k.shape e may;
        receives = k.receives ∙ ap (λ (x : Posts). x.rung ++ x.written) (sym p);
        rung = k.rung ∙ ap (λ (x : Posts). length x.rung) (sym p);
        taken = no_take place past q k e refl;
        freed = omega (arith, count, k.freed, ap (λ (es : List SrqEvent). length es) (filter_takes_last is_free past e refl), length-append (filter is_free past) (e ∷ []));
        each = each_on place past q k e (after_event q e) (λ n low. slot_before place q k.shape slot n (taken_low n low)) (λ n low. refl) (λ n low h. kept_before place q k.shape slot n (taken_low n low) h)
            (λ n low is kept. let same : slot ≡ slot_at (after_event q e) n = cc in kept (length q.chain) (taken_low n low) (omega (arith, count)) (slot_last place q k.shape slot (length q.chain) refl ∙ same));
      }

  took_list : (slot : ℕ) (words : List ℕ) → MayTake q slot words → Kept place (past ++ Took slot words ∷ []) (after_event q (Took slot words))
  took_list slot words may =
      let e : SrqEvent = Took slot words in
      let p = posts_are place past q k e in
      let q' : SharedQueue = after_event q e in
      let next : receive_of q q.taken ≡ may.receive = get_or_from_slice_get q.receives q.taken may.receive nothing may.found in
      let inside : q.taken < length q.receives = omega (arith, may.rung, k.shape.rung) in
      let slot_is : slot ≡ slot_at q q.taken = may.slot_is ∙ (ap (λ (r : Receive). r.slot) (sym next) ∙ k.shape.placed q.taken inside) in
      record {
        shape = shape_step place q k.shape e may;
        receives = k.receives ∙ ap (λ (x : Posts). x.rung ++ x.written) (sym p);
        rung = k.rung ∙ ap (λ (x : Posts). length x.rung) (sym p);
        taken = omega (arith, k.taken, ap (λ (es : List SrqEvent). length es) (filter_takes_last is_take past e refl), length-append (filter is_take past) (e ∷ []));
        freed = no_free place past q k e refl;
        each = λ n low. elim (cases_lt n q.taken) [
          | inl before ↦ each_on place past q k e q' (λ i below. refl) (λ i below. refl) (λ i below h. h) (λ i below is kept. absurd (cc)) n before
          | inr past_all ↦
              let last : n ≡ q.taken = omega (arith, past_all, low) in
              record {
                earlier = past;
                later = [];
                words = words;
                past_is = ap (λ x. past ++ Took x words ∷ []) (slot_is ∙ ap (slot_at q) (sym last));
                count = sym (last ∙ k.taken);
                words_are = may.words_are ∙ (ap (λ (r : Receive). r.words) (sym next) ∙ ap (λ (i : ℕ). (receive_of q i).words) (sym last));
                freed = λ h kept. omega (arith, h.1);
              }
        ];
      }

  kept_step : (e : SrqEvent) → MayHappen place q e → Kept place (past ++ e ∷ []) (after_event q e)
  kept_step (Began pending) may = cut_list (Began pending) pending refl refl refl (λ slot is. cc) (shape_step place q k.shape (Began pending) may)
  kept_step (Full pending slot) may = cut_list (Full pending slot) pending refl refl refl (λ x is. cc) (shape_step place q k.shape (Full pending slot) may)
  kept_step (Wrote r) may = wrote_list r may
  kept_step (Rang pending) may = rang_list pending may
  kept_step (Found slot id) may = same_list (Found slot id) refl refl refl (λ x is. cc)
  kept_step (Freed slot) may = freed_list slot may
  kept_step (Showed count) may = same_list (Showed count) refl refl refl (λ x is. cc)
  kept_step (NoneThere taken) may = same_list (NoneThere taken) refl refl refl (λ x is. cc)
  kept_step (Took slot words) may = took_list slot words may

-- a legal history up to an event, and the rest of it
pub record UpTo (place : SrqPlace) (past : List SrqEvent) (e : SrqEvent) (after : List SrqEvent) : Type 0 where
  pub queue : SharedQueue
  pub kept : Kept place past queue
  pub may : MayHappen place queue e
  pub rest : IsLegal place (after_event queue e) after

up_to : (place : SrqPlace) (past before after : List SrqEvent) (q : SharedQueue) (e : SrqEvent) → Kept place past q → IsLegal place q (before ++ e ∷ after) → UpTo place (past ++ before) e after
up_to place past [] after q e k legal = record { queue = q; kept = subst (λ (es : List SrqEvent). Kept place es q) (sym (append-nil past)) k; may = legal.0; rest = legal.1 }
up_to place past (x ∷ before) after q e k legal =
    subst (λ (es : List SrqEvent). UpTo place es e after) (append_assoc past (x ∷ []) before) (up_to place (past ++ x ∷ []) before after (after_event q x) e (kept_step place past q k x legal.0) legal.1)

pub from_start : (place : SrqPlace) (before after : List SrqEvent) (e : SrqEvent) → IsLegal place (empty_queue place) (before ++ e ∷ after) → UpTo place before e after
from_start place before after e legal = up_to place [] before after (empty_queue place) e (record {
  shape = empty_shape place;
  receives = refl;
  rung = refl;
  taken = refl;
  freed = omega (arith, length-range_with_len 0 (size place));
  each = λ n low. absurd (omega (arith, low));
}) legal
