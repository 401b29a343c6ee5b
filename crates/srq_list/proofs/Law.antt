-- The law of a shared receive queue.
use Rattle.std.proofs.Common.{◌≡◌, ℕ, ◌+◌, ◌-◌, ◌<◌, refl, ap, sym, ◌∙◌, arith, true, List, length, Option, Some, None}
use Rattle.std.specs.List.{range_with_len}
use Rattle.std.proofs.lemmas.Bool.{cond-true}
use Rattle.std.proofs.lemmas.List.FromFn.{length-range_with_len, get_or-range_with_len}
use Rattle.bus_core.specs.declared.operation.BusOp.TheVariants.{Load}
use Rattle.bus_core.specs.Mark.{Marked, entries}
use Rattle.bus_core.specs.Trace.{Memory, after_entry, memory_after, Tells}
use Rattle.bus_core.proofs.Words.{harmless_kept}
use Rattle.bus_core.proofs.Weaving.{Goes}
use Rattle.srq_list.specs.declared.place.SrqPlace.{SrqPlace}
use Rattle.srq_list.specs.Place.{IsPlace, size, touches, next_at, next_of, link_word}
use Rattle.srq_list.specs.Mark.{SrqMark, User, Posting, Freeing, Taking, Watching, user_of}
use Rattle.srq_list.specs.Queue.{SharedQueue, SrqEvent, empty_queue, slot_at, IsLegal, MayHappen, after_event, MayAsk}
use Rattle.srq_list.specs.Law.{Users, maker, after_by, says_by, after_any, any_says, fresh_users, history, users_after, queue_after, IsStart, IsRun}
use Rattle.srq_list.proofs.Slots.{some_slots, slot_is, next_is}
use Rattle.srq_list.proofs.Shape.{empty_shape}
use Rattle.srq_list.proofs.Tied.{Tied, Tied_kept, Asks}
use Rattle.srq_list.proofs.Tied as tied
use Rattle.srq_list.proofs.PosterStep.{poster_step}
use Rattle.srq_list.proofs.FreerStep.{freer_step}
use Rattle.srq_list.proofs.DeviceStep.{device_step}
use Rattle.srq_list.proofs.Users.{may_by, keeps_all}
use Rattle.bus_core.proofs.Asking.{MayAskFor, ends_by_asking}

-- at the start the list is empty, and all slots are free
pub start_tied : (place : SrqPlace) (start : ℕ) (m : Memory) → IsPlace place → IsStart place start m → Tied place start m (fresh_users place).poster (fresh_users place).freer (fresh_users place).taker (empty_queue place)
start_tied place start m ok s =
    let count : length (range_with_len 0 (size place)) ≡ size place = length-range_with_len 0 (size place) in
    let at_n = λ (n : ℕ) (low : n < size place). let e : slot_at (empty_queue place) n ≡ n = get_or-range_with_len 0 (size place) n 0 low ∙ omega arith in e in
    let first : 0 ≡ slot_at (empty_queue place) 0 = sym (at_n 0 (some_slots place)) in
    let last : size place - 1 ≡ slot_at (empty_queue place) (length (range_with_len 0 (size place)) - 1) = sym (ap (λ n. slot_at (empty_queue place) (n - 1)) count ∙ at_n (size place - 1) (omega (arith, some_slots place))) in
    record {
      shape = empty_shape place;
      tail = s.tail ∙ last;
      recorded = s.recorded;
      linked = λ n low inside.
          let more : n + 1 < size place = omega (arith, inside, count) in
          ap (λ x. next_of place (m (next_at place x))) (at_n n (omega (arith, more)))
          ∙ (ap (next_of place) (s.linked n (omega (arith, more))) ∙ (ap (λ x. next_of place (link_word x)) (slot_is place (n + 1) more) ∙ (next_is place (n + 1) ok more ∙ sym (at_n (n + 1) more))));
      stored = λ n inside keeps. absurd (omega (arith, inside));
      poster = record { rung = refl; first = first; count = refl; head = first; stage = tt };
      freer = record { tail = last; link = tt };
      taker = record { taken = refl; slot = first; progress = tt };
    }

module _ (place : SrqPlace) (start : ℕ) (ok : IsPlace place) where
  -- what ties words, users and list
  abbrev pub Holds : Memory → Users → SharedQueue → Type 0
  Holds m u q = Tied place start m u.poster u.freer u.taker q

  advances : (m : Memory) (u : Users) (q : SharedQueue) (said : Option SrqEvent) → tied.Goes place start m u.poster u.freer u.taker q said → Goes (MayHappen place) after_event Holds m u q said
  advances m u q None g = g
  advances m u q (Some event) g = g

  asks : (q : SharedQueue) (said : Option SrqEvent) → MayAskFor (MayHappen place) MayAsk after_event Holds q said → Asks q said
  asks q None ask = ask
  asks q (Some event) ask = ask

  step_by : (k : User) (m : Memory) (u : Users) (q : SharedQueue) (x : Marked SrqMark) → maker place x ≡ k → Holds m u q → Tells m x.entry → may_by place start k u x → Asks q (says_by place start k u x)
      → Goes (MayHappen place) after_event Holds (after_entry m x.entry) (after_by place start k u x) q (says_by place start k u x)
  step_by Posting m u q x is t tells may ask = advances _ (after_by place start Posting u x) q _ (poster_step place start m u.poster u.freer u.taker q x.mark x.entry ok t tells may)
  step_by Freeing m u q x is t tells may ask = advances _ (after_by place start Freeing u x) q _ (freer_step place start m u.poster u.freer u.taker q x.mark x.entry ok t tells may ask)
  step_by Taking m u q x is t tells may ask = advances _ (after_by place start Taking u x) q _ (device_step place start m u.poster u.freer u.taker q x.mark x.entry ok t tells may)
  step_by Watching m u q x is t tells may ask =
      let load = λ (inside : touches place x.entry.addr ≡ true). let e : x.entry.op ≡ Load = may inside (sym (cond-true (touches place x.entry.addr) (user_of x.mark) Watching inside) ∙ is) in e in
      Tied_kept place start m (after_entry m x.entry) u.poster u.freer u.taker q ok (harmless_kept (touches place) m x.entry load) t

  -- what a run says is legal, and words, users and list are tied at its end
  pub run_ends : (m : Memory) (trace : List (Marked SrqMark)) → IsRun place start m trace
      → IsLegal place (empty_queue place) (history place start trace) × Holds (memory_after m (entries trace)) (users_after place start trace) (queue_after place start trace)
  run_ends m trace r =
      ends_by_asking (MayHappen place) MayAsk after_event Holds (λ x. x.entry) (λ u x. may_by place start (maker place x) u x) (after_any place start) (any_says place start)
      (λ n u q x t tells may ask. step_by (maker place x) n u q x refl t tells may (asks q _ ask)) trace m (fresh_users place) (empty_queue place) (start_tied place start m ok r.start_ok) r.consistent (keeps_all place start m trace r) r.asks

pub run_is_legal : (place : SrqPlace) (start : ℕ) (m : Memory) (trace : List (Marked SrqMark)) → IsRun place start m trace → IsLegal place (empty_queue place) (history place start trace)
run_is_legal place start m trace r = (run_ends place start r.place_ok m trace r).0
