-- What each kind of operation leaves of a visit.
use Rattle.std.proofs.Common.{◌≡◌, ℕ, ◌+◌, ◌==◌, ◌⊎◌, inl, inr, refl, sym, ap, ◌∙◌, subst, arith, cond, Bool, true, false, eq-eqb, List, [], ◌∷◌, ◌++◌, Option, Some, None}
use Rattle.bus_core.specs.declared.operation.BusEntry.{BusEntry}
use Rattle.bus_core.specs.Operation.{loaded}
use Rattle.verbs_types.specs.declared.declaration.Lines.{Lines}
use Rattle.verbs_laws.proofs.Families.{put_at}
use Rattle.cqe_format.specs.declared.completion.Cqe.{Cqe}
use Rattle.cq_pair.specs.Device.{QueueDevice, after_deliver}
use Rattle.cq_pair.specs.Queue.{QueueEvent}
use Rattle.counted_ring.specs.Device.{WqReader, after_look, after_read, is_whole}
use Rattle.counted_ring.specs.Queue.{Took}
use Rattle.object_places.specs.Places.{completions_of, send_of}
use Rattle.device_engine.specs.Entry.{wants, nop_cqe}
use Rattle.device_engine.specs.Rows.{is_ready, read_or_next, recorded, fetched, published, publish_event, publish_mark}
use Rattle.device_engine.specs.Rule.{after_adapt, after_at}
use Rattle.device_engine.specs.State.{AdapterAt, AdapterRule, Looking, Recording, Reading, Publishing, reader, working, next_visit, with_reader, with_taken, with_queue, put_number, send_cq}

-- the visit goes on at this work, and so many more requests were taken
pub record GoesOn (s after : AdapterRule) (work : AdapterAt) (more : ℕ) : Type 0 where
  pub visit : after.visit ≡ s.visit
  pub work_is : after.at_work ≡ work
  pub taken : after.taken s.visit ≡ s.taken s.visit + more

-- it is over
pub record IsOver (s after : AdapterRule) (more : ℕ) : Type 0 where
  pub visit : after.visit ≡ s.visit + 1
  pub taken : after.taken s.visit ≡ s.taken s.visit + more

-- it is over, and no entry is ready
pub record FindsNoEntry (d : Lines) (s after : AdapterRule) : Type 0 where
  pub over : IsOver s after 0
  pub none : is_ready d s.visit (after.readers s.visit) ≡ false

put_here : {V : Type 0} (f : ℕ → V) (n : ℕ) (value : V) → put_number f n value n ≡ value
put_here f n value = put_at (λ (a b : ℕ). a == b) f n value n (eq-eqb n n refl)

-- it goes on at some publication
pub record Publishes (s after : AdapterRule) : Type 0 where
  pub cq : ℕ
  pub completion : Cqe
  pub goes_on : GoesOn s after (Publishing cq completion) 1

module _ (d : Lines) (s : AdapterRule) (e : BusEntry) where
  abbrev next : AdapterRule
  next = after_adapt d s e

  -- the register
  abbrev Looked : AdapterRule → Type 0
  Looked after = GoesOn s after Recording 0 ⊎ (GoesOn s after Reading 0 ⊎ FindsNoEntry d s after)

  -- an entry that is ready is read, and else the visit is over
  shown : (q : WqReader) (ready : Bool) → is_ready d s.visit q ≡ ready
      → GoesOn s (cond ready (working Reading (with_reader q s)) (next_visit d (with_reader q s))) Reading 0 ⊎ FindsNoEntry d s (cond ready (working Reading (with_reader q s)) (next_visit d (with_reader q s)))
  shown q true is = inl (record { visit = refl; work_is = refl; taken = omega arith })
  shown q false is = inr (record {
    over = record { visit = refl; taken = omega arith };
    none = ap (is_ready d s.visit) (put_here s.readers s.visit q) ∙ is;
  })

  looked : (same : Bool) → Looked (cond same (read_or_next d (reader s) (with_reader (after_look (reader s) e) s)) (working Recording (with_reader (after_look (reader s) e) s)))
  looked true = inr (shown (after_look (reader s) e) (is_ready d s.visit (after_look (reader s) e)) refl)
  looked false = inl (record { visit = refl; work_is = refl; taken = omega arith })

  pub looking_step : s.at_work ≡ Looking → Looked next
  looking_step w = subst Looked (sym (ap (λ (x : AdapterAt). after_at d s x e) w)) (looked (loaded e == (reader s).register))

  -- the record
  abbrev Recorded : AdapterRule → Type 0
  Recorded after = GoesOn s after Reading 0 ⊎ FindsNoEntry d s after

  pub recording_step : s.at_work ≡ Recording → Recorded next
  recording_step w = subst Recorded (sym (ap (λ (x : AdapterAt). after_at d s x e) w)) (shown (recorded s e) (is_ready d s.visit (recorded s e)) refl)

  -- a word of an entry
  abbrev Read : AdapterRule → Type 0
  Read after = GoesOn s after Reading 0 ⊎ (Publishes s after ⊎ IsOver s after 1)

  abbrev sided : AdapterRule
  sided = with_reader (after_read (send_of d s.visit) (reader s) e) s

  one_more : sided.visit ≡ s.visit → put_number s.taken s.visit (s.taken s.visit + 1) s.visit ≡ s.taken s.visit + 1
  one_more h = put_here s.taken s.visit (s.taken s.visit + 1)

  asked : (words : List ℕ) (wanted : Bool) → Read (cond wanted (working (Publishing (send_cq d s.visit) (nop_cqe s.visit (reader s).next)) (with_taken sided)) (next_visit d (with_taken sided)))
  asked words true = inr (inl (record { cq = send_cq d s.visit; completion = nop_cqe s.visit (reader s).next; goes_on = record { visit = refl; work_is = refl; taken = one_more refl } }))
  asked words false = inr (inr (record { visit = refl; taken = one_more refl }))

  read_by : s.at_work ≡ Reading → (words : List ℕ) (whole : Bool) → Read (fetched d (reader s).next (cond whole (Some (Took words)) None) sided)
  read_by w words true = asked words (wants words)
  read_by w words false = inl (record { visit = refl; work_is = w; taken = omega arith })

  pub reading_step : s.at_work ≡ Reading → Read next
  reading_step w =
      let words = (reader s).words ++ loaded e ∷ [] in
      subst Read (sym (ap (λ (x : AdapterAt). after_at d s x e) w)) (read_by w words (is_whole (send_of d s.visit) (reader s).ready words))

  -- a publication
  module _ (cq : ℕ) (completion : Cqe) (w : s.at_work ≡ Publishing cq completion) where
    abbrev Published : AdapterRule → Type 0
    Published after = GoesOn s after (Publishing cq completion) 0 ⊎ IsOver s after 0

    published_by : (q : QueueDevice) (event : Option QueueEvent) → Published (published d event (with_queue cq q s))
    published_by q None = inl (record { visit = refl; work_is = w; taken = omega arith })
    published_by q (Some event) = inr (record { visit = refl; taken = omega arith })

    pub publishing_step : Published next
    publishing_step =
        subst Published (sym (ap (λ (x : AdapterAt). after_at d s x e) w))
        (published_by (after_deliver (completions_of d cq) (s.queues cq) (publish_mark s cq completion) e) (publish_event d s cq completion e))
