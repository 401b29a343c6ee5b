-- One operation of a slot's host keeps what ties words, hosts, device and slots, and what it says is a step of the slots.
use Rattle.std.proofs.Common.{◌≡◌, ◌≢◌, ℕ, zero, suc, ◌+◌, ◌*◌, ◌/◌, ◌%◌, ◌^◌, ◌<◌, ◌≤◌, inl, inr, refl, ap, sym, ◌∙◌, subst, arith, Bool, true, false, eqb, List, [], ◌∷◌, ◌++◌, length, take, get_or, Option, Some, None, length-append}
use Rattle.std.specs.Int.{bit_at}
use Rattle.std.proofs.lemmas.Bool.{cases_lt, eq-eqb, ne_eqb}
use Rattle.std.proofs.lemmas.Bool.Decides.{eqb_tells}
use Rattle.std.proofs.lemmas.List.{take_more}
use Rattle.std.proofs.Math.Seq.{take-length}
use Rattle.bus_core.specs.declared.operation.BusEntry.{BusEntry}
use Rattle.bus_core.specs.declared.operation.BusOp.TheVariants.{Load}
use Rattle.bus_core.specs.Operation.{IsStore, IsSetBits, loaded}
use Rattle.bus_core.specs.Trace.{Memory, after_entry, Tells}
use Rattle.bus_core.proofs.Words.{elsewhere, load_keeps, load_tells, store_leaves}
use Rattle.cmd_bodies.specs.declared.command.Command.{Command}
use Rattle.cmd_bodies.specs.declared.reply.Reply.{Reply}
use Rattle.cmd_bodies.specs.Reply.{listed_of, reply_at}
use Rattle.cmd_slots.specs.declared.answer.Answer.TheVariants.{Delivered, Refused}
use Rattle.cmd_slots.specs.Place.{IsSlot, bits_word, entry_word}
use Rattle.cmd_slots.specs.Family.{put}
use Rattle.cmd_slots.specs.Bytes.{bytes_of}
use Rattle.cmd_slots.specs.Refusal.{delivery_in}
use Rattle.cmd_slots.specs.Question.{IsQuestion, question_word}
use Rattle.cmd_slots.specs.Answer.{answer_word, output_word, output_words, is_output}
use Rattle.cmd_slots.specs.Slot.{Slot, Free, Asked, Answered, SlotEvent, Submitted, slot_of, MayHappen_to, made_of}
use Rattle.cmd_slots.specs.Mark as marks
use Rattle.cmd_slots.specs.Mark.{SlotMark, host_of}
use Rattle.cmd_slots.specs.Host.{HostStage, Resting, Filling, Awaiting, Taking, Asker, IsFree, MayHost, MayHost_at, after_host, host_says, stored_next, shown, shown_says, taken, taken_says}
use Rattle.cmd_slots.specs.Device.{Server, Adapter}
use Rattle.cmd_slots.proofs.Orders.{Stored, Stored_none, Stored_kept, Stored_more, Stored_all, next_low}
use Rattle.cmd_slots.specs.Turn.{IsShape}
use Rattle.cmd_slots.proofs.Places.{IsOwn, own_not_bits, question_own, question_apart, question_entry, answer_last, output_head, output_listed}
use Rattle.cmd_slots.proofs.Outputs.{length-output_words, output_words-listed, output_goes_on, output_ends, output_reads}
use Rattle.cmd_slots.proofs.Tied.{question_shape, answer_short, Fills, Rung, ServerFits, TakeFits, Given, FreeTied, AnsweredTied, SlotTied, SlotTied_kept, Tied, Same, put_here, put_there, Goes}
use Rattle.cmd_slots.proofs.Frames.{load_same, bits_kept, own_same, rest_kept, bit_set, set_same}

-- what an operation of its host makes of one slot, with what it says
abbrev pub SlotGoes : Memory → ℕ → Bool → Asker → Server → Slot → Option SlotEvent → Type 0
SlotGoes m slot found h s state None = SlotTied m slot found h s state
SlotGoes m slot found h s state (Some event) = (slot_of event ≡ slot) × MayHappen_to state event × SlotTied m slot found h s (made_of state event)

module _ (m : Memory) (slot : ℕ) (ok : IsSlot slot) (e : BusEntry) (found : Bool) (s : Server) where
  abbrev after : Memory
  after = after_entry m e

  -- while a host does not wait, its slot is free
  free_goes : (asked : ℕ) (stage new : HostStage) (state : Slot) → IsFree stage → ((done : ℕ) → FreeTied m slot found (record { asked = asked; stage = stage }) s done → FreeTied after slot found (record { asked = asked; stage = new }) s done) →
      SlotTied m slot found (record { asked = asked; stage = stage }) s state → SlotTied after slot found (record { asked = asked; stage = new }) s state
  free_goes asked stage new (Free done) free goes t = goes done t
  free_goes asked stage new (Asked done c) free goes t = absurd (subst IsFree t.host free)
  free_goes asked stage new (Answered done c answer) free goes t = absurd (no_answer stage free t.given.host) where
    no_answer : (stage : HostStage) → IsFree stage → TakeFits c answer t.given.words stage → ⊥
    no_answer Resting free fits = fits
    no_answer (Filling d words count) free fits = fits
    no_answer (Awaiting d) free fits = free
    no_answer (Taking d words) free fits = free

  -- the store of a word of a question
  module _ (c : Command) (words : List ℕ) (count : ℕ) (question : IsQuestion slot c words) (inside : count < length words)
      (store : IsStore (question_word slot words (stored_next 8 (length words) count)) (get_or words (stored_next 8 (length words) count) 0) e) where
    shape : IsShape words
    shape = question_shape slot c words question

    next : ℕ
    next = stored_next 8 (length words) count

    fill_own : IsOwn slot (question_word slot words (stored_next 8 (length words) count))
    fill_own = question_own slot words shape (stored_next 8 (length words) count) (next_low 8 (length words) count (omega (arith, shape.long)) inside)

    fill_more : Stored (question_word slot words) m 8 words count → Fills after slot c words (count + 1)
    fill_more held = record {
      question = question;
      few = omega (arith, inside);
      held = Stored_more (question_word slot words) m after 8 words count (omega (arith, shape.long)) (question_apart slot words shape ok) inside
          (store_leaves m e _ _ store.op store.at_address)
          (λ x other. elsewhere m e x (λ same. other (sym store.at_address ∙ same))) held;
    }

    fill_tied : (asked : ℕ) (stage : HostStage) (done : ℕ) → Stored (question_word slot words) m 8 words count → FreeTied m slot found (record { asked = asked; stage = stage }) s done → FreeTied after slot found (record { asked = asked; stage = Filling c words (count + 1) }) s done
    fill_tied asked stage done held t = record {
      asked_is = t.asked_is;
      answered_is = t.answered_is;
      silent = t.silent;
      clear = ap (λ w. bit_at w slot) (bits_kept m e slot _ store.at_address fill_own) ∙ t.clear;
      host = fill_more held;
      server = t.server;
    }

    fill_others : (b : ℕ) → IsSlot b → slot ≢ b → Same m after b
    fill_others b ok_b differ = own_same m e slot b _ ok ok_b differ store.at_address fill_own

  -- the bit is or-ed in when all words of a question are stored
  ring_goes : (asked : ℕ) (c : Command) (words : List ℕ) (count : ℕ) (state : Slot) → count ≡ length words → IsSetBits bits_word (2 ^ slot) e
      → SlotTied m slot found (record { asked = asked; stage = Filling c words count }) s state
      → SlotGoes after slot found (record { asked = asked + 1; stage = Awaiting c }) s state (Some (Submitted slot c))
  ring_goes asked c words count (Free done) all set t =
      let shape = question_shape slot c words t.host.question in
      let full : Stored (question_word slot words) m 8 words (length words) = subst (Stored (question_word slot words) m 8 words) all t.host.held in
      let kept : (p : ℕ) → p < length words → after (question_word slot words p) ≡ m (question_word slot words p) = λ p inside. rest_kept m e slot set (question_word slot words p) (own_not_bits slot (question_word slot words p) (question_own slot words shape p inside)) in
      let last : after (entry_word slot 7) ≡ get_or words 7 0 =
      ap after (sym (question_entry slot words 7 (omega arith))) ∙ (kept 7 (omega (arith, shape.long)) ∙ Stored_all (question_word slot words) m after 8 words 7 (omega (arith, shape.long)) (omega (arith, shape.long)) full) in
      let one : Rung false (bit_at (after bits_word) slot) = bit_set m e slot set t.clear in (
        refl,
        tt,
        record {
          asked_is = omega (arith, t.asked_is);
          answered_is = t.answered_is;
          rung = subst (λ (b : Bool). Rung b (bit_at (after bits_word) slot)) (sym t.silent) one;
          owned = ap (λ w. w % 2) last ∙ t.host.question.hardware;
          host = refl;
          server = subst (ServerFits after slot c) (sym t.server) (record { words = words; question = t.host.question; held = Stored_kept (question_word slot words) m after 8 words (length words) kept full; part = refl; more = omega (arith, shape.long) });
        },
      )
  ring_goes asked c words count (Asked done d) all set t = absurd (no_ring t.host) where
    no_ring : Filling c words count ≡ Awaiting d → ⊥
    no_ring same = cc
  ring_goes asked c words count (Answered done d answer) all set t = absurd t.given.host

-- the load of a word of the slot, whose words and bit stay
module _ (m : Memory) (slot : ℕ) (found : Bool) (s : Server) (word : ℕ) where
  -- the last word of the entry tells whether there is an answer
  await_goes : (asked : ℕ) (c : Command) (state : Slot) → word ≡ m (entry_word slot 7) → SlotTied m slot found (record { asked = asked; stage = Awaiting c }) s state → SlotGoes m slot found (record { asked = asked; stage = shown c word }) s state (shown_says slot c word)
  await_goes asked c (Free done) is t = absurd t.host
  await_goes asked c (Asked done d) is t =
      let odd : eqb (word % 2) 1 ≡ true = eq-eqb (word % 2) 1 (ap (λ w. w % 2) is ∙ t.owned) in
      rw odd t
  await_goes asked c (Answered done d (Delivered r)) is t =
      let g = t.given in
      let short = answer_short g.entry d (Delivered r) g.words g.fits g.spells in
      let last : word ≡ get_or g.words 2 0 = is ∙ (ap m (sym (answer_last slot)) ∙ Stored_all (answer_word slot) m m 3 g.words 2 short.0 (omega (arith, short.0)) g.held) in
      let even : eqb (word % 2) 1 ≡ false = ne_eqb (word % 2) 1 (λ same. omega (arith, same, ap (λ w. w % 2) last, g.spells.software)) in
      let delivered : eqb (delivery_in word) 0 ≡ true = eq-eqb (delivery_in word) 0 (ap delivery_in last ∙ g.spells.status) in
      rw (even, delivered) (record {
        asked_is = t.asked_is;
        answered_is = t.answered_is;
        silent = t.silent;
        clear = t.clear;
        server = t.server;
        given = record { entry = g.entry; words = g.words; fits = g.fits; spells = g.spells; held = g.held; host = (g.host, (refl, omega (arith, length-output_words g.words (listed_of r)))) };
      })
  await_goes asked c (Answered done d (Refused fault)) is t = absurd t.given.fits

  -- a word of the output
  module _ (asked done : ℕ) (c d : Command) (r : Reply) (ws : List ℕ)
      (is : word ≡ m (output_word slot (length ws)))
      (t : AnsweredTied m slot found (record { asked = asked; stage = Taking c ws }) s done d (Delivered r)) where
    abbrev g : Given m slot d (Delivered r) (Taking c ws)
    g = t.given

    abbrev output : List ℕ
    output = output_words t.given.words (listed_of r)

    abbrev more : List ℕ
    more = ws ++ word ∷ []

    short : (3 ≤ length t.given.words) × (length t.given.words ≤ 147)
    short = answer_short t.given.entry d (Delivered r) t.given.words t.given.fits t.given.spells

    at_word : (p : ℕ) → p < length t.given.words → m (answer_word slot p) ≡ get_or t.given.words p 0
    at_word p inside = Stored_all (answer_word slot) m m 3 t.given.words p (short.0) inside t.given.held

    -- where it stands
    output_at : (k : ℕ) → k < length output → m (output_word slot k) ≡ get_or output k 0
    output_at zero inside = ap m (output_head slot 0 (omega arith)) ∙ at_word 0 (omega (arith, short.0))
    output_at (suc zero) inside = ap m (output_head slot 1 (omega arith)) ∙ at_word 1 (omega (arith, short.0))
    output_at (suc (suc j)) inside =
        let low : j < listed_of r = omega (arith, inside, length-output_words t.given.words (listed_of r)) in
        let e : suc (suc j) ≡ 2 + j = omega arith in
        ap (λ n. m (output_word slot n)) e ∙ (ap m (output_listed slot j) ∙ (at_word (3 + (72 * (j / 64) + j % 64)) (omega (arith, low, t.given.spells.long)) ∙ (sym (output_words-listed t.given.words (listed_of r) j low) ∙ ap (λ n. get_or output n 0) (sym e))))

    part : more ≡ take (length ws + 1) output
    part =
        let w : word ≡ get_or output (length ws) 0 = is ∙ output_at (length ws) t.given.host.1.1 in
        ap (λ xs. xs ++ word ∷ []) t.given.host.1.0 ∙ (ap (λ x. take (length ws) output ++ x ∷ []) w ∙ sym (take_more output (length ws) 0 t.given.host.1.1))

    longer : length more ≡ length ws + 1
    longer = length-append ws (word ∷ [])

    take_goes : SlotGoes m slot found (record { asked = asked; stage = taken c more }) s (Answered done d (Delivered r)) (taken_says slot c more)
    take_goes = elim (cases_lt (length ws + 1) (length output)) [
      | inl before ↦
          let on : is_output c more ≡ false = ap (λ x. is_output x more) t.given.host.0 ∙ (ap (is_output d) part ∙ output_goes_on d r t.given.words t.given.fits t.given.spells.carries (length ws + 1) (omega arith) before) in
          rw on (record {
            asked_is = t.asked_is;
            answered_is = t.answered_is;
            silent = t.silent;
            clear = t.clear;
            server = t.server;
            given = record { entry = t.given.entry; words = t.given.words; fits = t.given.fits; spells = t.given.spells; held = t.given.held; host = (t.given.host.0, (part ∙ ap (λ n. take n output) (sym longer), omega (arith, longer, before))) };
          })
      | inr last ↦
          let count : length ws + 1 ≡ length output = omega (arith, last, t.given.host.1.1) in
          let all : more ≡ output = part ∙ (ap (λ n. take n output) count ∙ take-length output) in
          let whole : is_output c more ≡ true = ap (λ x. is_output x more) t.given.host.0 ∙ output_ends d r t.given.words t.given.fits t.given.spells.carries more all in
          let reads : reply_at c (bytes_of more) ≡ r = ap (λ x. reply_at x (bytes_of more)) t.given.host.0 ∙ (ap (λ xs. reply_at d (bytes_of xs)) all ∙ output_reads d r t.given.words t.given.fits t.given.spells.carries) in
          rw whole (refl, (t.given.host.0, ap Delivered reads), record { asked_is = t.asked_is; answered_is = t.answered_is; silent = t.silent; clear = t.clear; host = tt; server = t.server })
    ]

  taking_goes : (asked : ℕ) (c : Command) (ws : List ℕ) (state : Slot) → word ≡ m (output_word slot (length ws)) → SlotTied m slot found (record { asked = asked; stage = Taking c ws }) s state → SlotGoes m slot found (record { asked = asked; stage = taken c (ws ++ word ∷ []) }) s state (taken_says slot c (ws ++ word ∷ []))
  taking_goes asked c ws (Free done) is t = absurd t.host
  taking_goes asked c ws (Asked done d) is t = absurd (no_take t.host) where
    no_take : Taking c ws ≡ Awaiting d → ⊥
    no_take same = cc
  taking_goes asked c ws (Answered done d (Delivered r)) is t = take_goes asked done c d r ws is t
  taking_goes asked c ws (Answered done d (Refused fault)) is t = absurd t.given.fits

-- the slot of a host, and the others, after an operation of this host
module _ (m : Memory) (slot : ℕ) (ok : IsSlot slot) (e : BusEntry) (found : Bool) (s : Server) (tells : Tells m e) where
  pub record HostGoes (h : Asker) (state : Slot) (mark : SlotMark) : Type 0 where
    pub goes : SlotGoes (after_entry m e) slot found (after_host h mark e) s state (host_says slot h mark e)
    pub others : (b : ℕ) → IsSlot b → slot ≢ b → Same m (after_entry m e) b

  loads : (h : Asker) (state : Slot) → e.op ≡ Load → SlotTied m slot found h s state → SlotTied (after_entry m e) slot found h s state
  loads h state is t = SlotTied_kept m (after_entry m e) slot found h s state (load_same m e slot is) t

  pub host_goes : (asked : ℕ) (stage : HostStage) (state : Slot) (mark : SlotMark) → MayHost_at slot stage mark e → SlotTied m slot found (record { asked = asked; stage = stage }) s state → HostGoes (record { asked = asked; stage = stage }) state mark
  host_goes asked stage state (marks.Ask _ c words) may t =
      let long = (question_shape slot c words may.question).long in
      record {
        goes = free_goes m slot ok e found s asked stage (Filling c words 1) state may.free
            (λ done. fill_tied m slot ok e found s c words 0 may.question (omega (arith, long)) may.store asked stage done (Stored_none (question_word slot words) m m 8 words)) t;
        others = fill_others m slot ok e found s c words 0 may.question (omega (arith, long)) may.store;
      }
  host_goes asked Resting state (marks.Fill _) may t = absurd may
  host_goes asked (Filling c words count) (Free done) (marks.Fill _) may t = record {
    goes = fill_tied m slot ok e found s c words count t.host.question may.0 may.1 asked (Filling c words count) done t.host.held t;
    others = fill_others m slot ok e found s c words count t.host.question may.0 may.1;
  }
  host_goes asked (Filling c words count) (Asked done d) (marks.Fill _) may t = absurd (no_fill t.host) where
    no_fill : Filling c words count ≡ Awaiting d → ⊥
    no_fill same = cc
  host_goes asked (Filling c words count) (Answered done d answer) (marks.Fill _) may t = absurd t.given.host
  host_goes asked (Awaiting c) state (marks.Fill _) may t = absurd may
  host_goes asked (Taking c words) state (marks.Fill _) may t = absurd may
  host_goes asked Resting state (marks.Ring _) may t = absurd may
  host_goes asked (Filling c words count) state (marks.Ring _) may t = record {
    goes = ring_goes m slot ok e found s asked c words count state may.0 may.1 t;
    others = λ b ok_b differ. set_same m e slot may.1 b differ;
  }
  host_goes asked (Awaiting c) state (marks.Ring _) may t = absurd may
  host_goes asked (Taking c words) state (marks.Ring _) may t = absurd may
  host_goes asked Resting state (marks.Await _) may t = absurd may
  host_goes asked (Filling c words count) state (marks.Await _) may t = absurd may
  host_goes asked (Awaiting c) state (marks.Await _) may t =
      let is : loaded e ≡ after_entry m e (entry_word slot 7) = load_tells m e (entry_word slot 7) tells may.op may.at_address ∙ sym (load_keeps m e (entry_word slot 7) may.op) in
      record {
        goes = await_goes (after_entry m e) slot found s (loaded e) asked c state is (loads (record { asked = asked; stage = Awaiting c }) state may.op t);
        others = λ b ok_b differ. load_same m e b may.op;
      }
  host_goes asked (Taking c words) state (marks.Await _) may t =
      let address = output_word slot (length words) in
      let is : loaded e ≡ after_entry m e address = load_tells m e address tells may.op may.at_address ∙ sym (load_keeps m e address may.op) in
      record {
        goes = taking_goes (after_entry m e) slot found s (loaded e) asked c words state is (loads (record { asked = asked; stage = Taking c words }) state may.op t);
        others = λ b ok_b differ. load_same m e b may.op;
      }
  host_goes asked stage state marks.Sweep may t = absurd may
  host_goes asked stage state (marks.Read _) may t = absurd may
  host_goes asked stage state (marks.Reply _ answer words) may t = absurd may
  host_goes asked stage state (marks.Store _) may t = absurd may
  host_goes asked stage state marks.Foreign may t = absurd may

-- what one slot does, all do
module _ (m m' : Memory) (d : Adapter) (hosts : ℕ → Asker) (slots : ℕ → Slot) (slot : ℕ) (h : Asker)
    (t : Tied m d hosts slots) (others : (b : ℕ) → IsSlot b → slot ≢ b → Same m m' b) where
  stays : SlotTied m' slot (d.found slot) h (d.servers slot) (slots slot) → Tied m' d (put hosts slot h) slots
  stays new = record {
    each = λ b ok_b. elim (eqb_tells slot b) [
      | inl same ↦ put_here (λ (g : Asker). SlotTied m' b (d.found b) g (d.servers b) (slots b)) hosts slot h b same.1 (subst (λ (n : ℕ). SlotTied m' n (d.found n) h (d.servers n) (slots n)) same.1 new)
      | inr other ↦ put_there (λ (g : Asker). SlotTied m' b (d.found b) g (d.servers b) (slots b)) hosts slot h b other.1 (SlotTied_kept m m' b (d.found b) (hosts b) (d.servers b) (slots b) (others b ok_b other.1) (t.each b ok_b))
    ];
  }

  moves : (state : Slot) → SlotTied m' slot (d.found slot) h (d.servers slot) state → Tied m' d (put hosts slot h) (put slots slot state)
  moves state new = record {
    each = λ b ok_b. elim (eqb_tells slot b) [
      | inl same ↦ put_here (λ (g : Asker). SlotTied m' b (d.found b) g (d.servers b) (put slots slot state b)) hosts slot h b same.1
          (put_here (λ (l : Slot). SlotTied m' b (d.found b) h (d.servers b) l) slots slot state b same.1 (subst (λ (n : ℕ). SlotTied m' n (d.found n) h (d.servers n) state) same.1 new))
      | inr other ↦ put_there (λ (g : Asker). SlotTied m' b (d.found b) g (d.servers b) (put slots slot state b)) hosts slot h b other.1
          (put_there (λ (l : Slot). SlotTied m' b (d.found b) (hosts b) (d.servers b) l) slots slot state b other.1 (SlotTied_kept m m' b (d.found b) (hosts b) (d.servers b) (slots b) (others b ok_b other.1) (t.each b ok_b)))
    ];
  }

  pub all_go : (said : Option SlotEvent) → SlotGoes m' slot (d.found slot) h (d.servers slot) (slots slot) said → Goes m' d (put hosts slot h) slots said
  all_go None g = stays g
  all_go (Some event) g =
      let P : ℕ → Type 0 = λ n. MayHappen_to (slots n) event × Tied m' d (put hosts slot h) (put slots n (made_of (slots n) event)) in
      subst P (sym g.0) (g.1, moves (made_of (slots slot) event) g.2)

pub host_step : (m : Memory) (d : Adapter) (hosts : ℕ → Asker) (slots : ℕ → Slot) (slot : ℕ) (mark : SlotMark) (e : BusEntry) → Tied m d hosts slots → Tells m e → MayHost slot (hosts slot) mark e →
    Goes (after_entry m e) d (put hosts slot (after_host (hosts slot) mark e)) slots (host_says slot (hosts slot) mark e)
host_step m d hosts slots slot mark e t tells may =
    let g = host_goes m slot may.0 e (d.found slot) (d.servers slot) tells (hosts slot).asked (hosts slot).stage (slots slot) mark may.1 (t.each slot may.0) in
    all_go m (after_entry m e) d hosts slots slot (after_host (hosts slot) mark e) t g.others (host_says slot (hosts slot) mark e) g.goes
