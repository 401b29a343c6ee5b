-- One operation of the device keeps what ties words, hosts, device and slots, and what it says is a step of the slots. Its swap moves all slots at once.
use Rattle.std.proofs.Common.{◌≡◌, ◌≢◌, ℕ, ◌+◌, ◌%◌, ◌/◌, ◌*◌, ◌^◌, ◌<◌, ◌≤◌, inl, inr, refl, ap, sym, ◌∙◌, subst, arith, Bool, true, false, eqb, ◌||◌, List, [], ◌∷◌, ◌++◌, length, take, get_or, Option, Some, None, Result, Ok, length-append}
use Rattle.std.specs.Int.{bit_at}
use Rattle.std.proofs.lemmas.Bool.{cases_lt, cases_eq, eq-eqb, ne_eqb}
use Rattle.std.proofs.lemmas.Bool.Decides.{eqb_tells}
use Rattle.std.proofs.lemmas.List.{take_more}
use Rattle.std.proofs.lemmas.Nat.Bits.{bit_at-zero, bit_at_cat_low}
use Rattle.std.proofs.Math.Seq.{take-length}
use Rattle.bus_core.specs.declared.operation.BusEntry.{BusEntry}
use Rattle.bus_core.specs.Operation.{IsStore, IsSwap, loaded}
use Rattle.bus_core.specs.Trace.{Memory, after_entry, Tells}
use Rattle.bus_core.proofs.Words.{elsewhere, load_keeps, load_tells, store_leaves, swap_leaves, swap_tells}
use Rattle.cmd_bodies.specs.declared.command.Command.{Command}
use Rattle.cmd_slots.specs.declared.answer.Answer.{Answer}
use Rattle.cmd_slots.specs.Place.{IsSlot, bits_word, entry_word}
use Rattle.cmd_slots.specs.Family.{put}
use Rattle.cmd_slots.specs.Question.{question_word, verdict}
use Rattle.cmd_slots.specs.Answer.{Answers, IsAnswer, answer_word}
use Rattle.cmd_slots.specs.Slot.{Slot, Free, Asked, Answered, SlotEvent, slot_of, MayHappen_to, made_of}
use Rattle.cmd_slots.specs.Mark as marks
use Rattle.cmd_slots.specs.Mark.{SlotMark}
use Rattle.cmd_slots.specs.Host.{Asker, stored_next}
use Rattle.cmd_slots.specs.Device.{ServeStage, Reading, Judged, Storing, Server, Adapter, MayServe, MayServe_at, MayDeliver, judged_as, is_last, after_server, server_says, has_bit, slot_bits, serving, answered_if, gives, after_serve, after_deliver, delivered}
use Rattle.cmd_slots.proofs.Orders.{Stored, Stored_none, Stored_more, Stored_all, next_low, before_last}
use Rattle.cmd_slots.specs.Turn.{IsShape}
use Rattle.cmd_slots.proofs.Places.{IsOwn, own_not_bits, entry_own, answer_own, answer_apart, answer_last}
use Rattle.cmd_slots.proofs.Questions.{question_whole, beginning_open, beginning_word}
use Rattle.cmd_slots.proofs.Tied.{question_shape, answer_short, ServerFits, TakeFits, Rung, AskedTied, AnsweredTied, SlotTied, SlotTied_kept, HostFits_kept, ServerFits_kept, Given_kept, Tied, Same, put_here, put_there, Goes}
use Rattle.cmd_slots.proofs.Frames.{load_same, bits_kept, own_same}

-- what an operation of the device makes of one slot, with what it says: a slot that it answers it has not found any more
abbrev pub ServerGoes : Memory → ℕ → Bool → Asker → Server → Slot → Option SlotEvent → Type 0
ServerGoes m slot found h s state None = SlotTied m slot found h s state
ServerGoes m slot found h s state (Some event) = (slot_of event ≡ slot) × MayHappen_to state event × SlotTied m slot false h s (made_of state event)

-- a bit that was found is one of a slot that was asked
module _ (m m' : Memory) (slot : ℕ) (found : Bool) (here : found ≡ true) (h : Asker) (s new : Server) (said : Option SlotEvent) where
  asked_only : (state : Slot) → ((done : ℕ) (c : Command) → AskedTied m slot found h s done c → ServerGoes m' slot found h new (Asked done c) said) → SlotTied m slot found h s state → ServerGoes m' slot found h new state said
  asked_only (Free done) goes t = let wrong : true ≡ false = sym here ∙ t.silent in absurd (cc)
  asked_only (Asked done c) goes t = goes done c t
  asked_only (Answered done c answer) goes t = let wrong : true ≡ false = sym here ∙ t.silent in absurd (cc)

-- the next word of a question
module _ (m : Memory) (slot : ℕ) (ok : IsSlot slot) (found : Bool) (h : Asker) (answered word done : ℕ) (c : Command) (ws : List ℕ)
    (is : word ≡ m (question_word slot ws (length ws)))
    (t : AskedTied m slot found h (record { answered = answered; stage = Reading ws }) done c) where
  abbrev asked : List ℕ
  asked = t.server.words

  abbrev more : List ℕ
  more = ws ++ word ∷ []

  shape : IsShape t.server.words
  shape = question_shape slot c t.server.words t.server.question

  part : more ≡ take (length ws + 1) asked
  part =
      let address : question_word slot ws (length ws) ≡ question_word slot asked (length ws) = ap (λ xs. question_word slot xs (length ws)) t.server.part ∙ beginning_word slot asked (length ws) in
      let w : word ≡ get_or asked (length ws) 0 = is ∙ (ap m address ∙ Stored_all (question_word slot asked) m m 8 asked (length ws) (omega (arith, shape.long)) t.server.more t.server.held) in
      ap (λ xs. xs ++ word ∷ []) t.server.part ∙ (ap (λ x. take (length ws) asked ++ x ∷ []) w ∙ sym (take_more asked (length ws) 0 t.server.more))

  longer : length more ≡ length ws + 1
  longer = length-append ws (word ∷ [])

  with_stage : (stage : ServeStage) → ServerFits m slot c stage → AskedTied m slot found h (record { answered = answered; stage = stage }) done c
  with_stage stage fits = record { asked_is = t.asked_is; answered_is = t.answered_is; rung = t.rung; owned = t.owned; host = t.host; server = fits }

  read_goes : AskedTied m slot found h (record { answered = answered; stage = judged_as more (verdict slot more) }) done c
  read_goes =
      let whole = question_whole slot c asked t.server.question in
      elim (cases_lt (length ws + 1) (length asked)) [
        | inl before ↦
            let on : verdict slot more ≡ None = ap (verdict slot) part ∙ beginning_open slot c asked (length ws + 1) whole before in
            rw on (with_stage (Reading more) (record { words = asked; question = t.server.question; held = t.server.held; part = part ∙ ap (λ n. take n asked) (sym longer); more = omega (arith, longer, before) }))
        | inr last ↦
            let count : length ws + 1 ≡ length asked = omega (arith, last, t.server.more) in
            let all : more ≡ asked = part ∙ (ap (λ n. take n asked) count ∙ take-length asked) in
            let ends : verdict slot more ≡ Some (Ok c) = ap (verdict slot) all ∙ t.server.question.spells in
            rw ends (with_stage (Judged (take 8 more) (Ok c)) refl)
      ]

-- the store of a word of an answer
module _ (m : Memory) (slot : ℕ) (ok : IsSlot slot) (e : BusEntry) (found : Bool) (here : found ≡ true) (h : Asker) (answered done : ℕ) (c : Command)
    (entry : List ℕ) (question : Result Command Answer) (answer : Answer) (words : List ℕ) (count : ℕ)
    (read : question ≡ Ok c) (fits : Answers (Ok c) answer) (spells : IsAnswer entry answer words) (inside : count < length words)
    (held : Stored (answer_word slot) m 3 words count)
    (store : IsStore (answer_word slot (stored_next 3 (length words) count)) (get_or words (stored_next 3 (length words) count) 0) e) where
  abbrev after : Memory
  after = after_entry m e

  short : (3 ≤ length words) × (length words ≤ 147)
  short = answer_short entry c answer words fits spells

  store_own : IsOwn slot (answer_word slot (stored_next 3 (length words) count))
  store_own = answer_own slot (stored_next 3 (length words) count) (omega (arith, short.1, next_low 3 (length words) count (short.0) inside))

  store_others : (b : ℕ) → IsSlot b → slot ≢ b → Same m after b
  store_others b ok_b differ = own_same m e slot b _ ok ok_b differ store.at_address store_own

  store_more : Stored (answer_word slot) after 3 words (count + 1)
  store_more = Stored_more (answer_word slot) m after 3 words count (short.0) (λ p q in_p in_q differ. answer_apart slot p q ok differ) inside
      (store_leaves m e _ _ store.op store.at_address)
      (λ x other. elsewhere m e x (λ same. other (sym store.at_address ∙ same))) held

  bit_same : bit_at (after bits_word) slot ≡ bit_at (m bits_word) slot
  bit_same = ap (λ w. bit_at w slot) (bits_kept m e slot _ store.at_address store_own)

  -- before its last word the entry stays the hardware's
  store_on : (old : Server) → count + 1 < length words → AskedTied m slot found h old done c → old.answered ≡ answered → AskedTied after slot found h (record { answered = answered; stage = Storing entry question answer words (count + 1) }) done c
  store_on old before t same =
      let not_last : answer_word slot (stored_next 3 (length words) count) ≢ entry_word slot 7 = λ s. answer_apart slot (stored_next 3 (length words) count) 2 ok (before_last 3 (length words) count (omega arith) (short.0) before) (s ∙ sym (answer_last slot)) in
      record {
        asked_is = t.asked_is;
        answered_is = sym same ∙ t.answered_is;
        rung = subst (Rung found) (sym bit_same) t.rung;
        owned = ap (λ w. w % 2) (elsewhere m e (entry_word slot 7) (λ s. not_last (sym store.at_address ∙ s))) ∙ t.owned;
        host = t.host;
        server = record { read = read; fits = fits; spells = spells; more = before; held = store_more };
      }

  -- the last word gives the answer
  store_last : (old : Server) → count + 1 ≡ length words → AskedTied m slot found h old done c → old.answered ≡ answered → AnsweredTied after slot false h (record { answered = answered + 1; stage = Reading [] }) done c answer
  store_last old last t same =
      let silent : bit_at (m bits_word) slot ≡ 0 = rw here at t.rung in
      let all : Stored (answer_word slot) after 3 words (length words) = subst (Stored (answer_word slot) after 3 words) last store_more in
      record {
        asked_is = t.asked_is;
        answered_is = omega (arith, same, t.answered_is);
        silent = refl;
        clear = bit_same ∙ silent;
        server = refl;
        given = record { entry = entry; words = words; fits = fits; spells = spells; held = all; host = subst (TakeFits c answer words) (sym t.host) refl };
      }

-- the slot that the device serves, and the others, after an operation there
module _ (m : Memory) (slot : ℕ) (ok : IsSlot slot) (e : BusEntry) (found : Bool) (here : found ≡ true) (h : Asker) (tells : Tells m e) where
  pub record ServeGoes (s : Server) (state : Slot) (mark : SlotMark) : Type 0 where
    pub goes : ServerGoes (after_entry m e) slot found h (after_server slot s mark e) state (server_says slot s mark e)
    pub others : (b : ℕ) → IsSlot b → slot ≢ b → Same m (after_entry m e) b

  -- a store that is not the last, and the last one
  stores : (other answered : ℕ) (state : Slot) (entry : List ℕ) (question : Result Command Answer) (answer : Answer) (words : List ℕ) (count : ℕ) → count < length words
      → IsStore (answer_word slot (stored_next 3 (length words) count)) (get_or words (stored_next 3 (length words) count) 0) e
      → SlotTied m slot found h (record { answered = answered; stage = Storing entry question answer words count }) state
      → ServeGoes (record { answered = answered; stage = Storing entry question answer words count }) state (marks.Store other)
  stores other answered (Free done) entry question answer words count inside store t = let wrong : true ≡ false = sym here ∙ t.silent in absurd (cc)
  stores other answered (Answered done c given) entry question answer words count inside store t = let wrong : true ≡ false = sym here ∙ t.silent in absurd (cc)
  stores other answered (Asked done c) entry question answer words count inside store t =
      let g = t.server in
      record {
        goes = elim (cases_eq (count + 1) (length words)) [
          | inl last ↦
              let test : is_last words count ≡ true = eq-eqb (count + 1) (length words) last in
              rw test (
                refl,
                (g.read, subst (λ (q : Result Command Answer). Answers q answer) (sym g.read) g.fits),
                store_last m slot ok e found here h answered done c entry question answer words count g.read g.fits g.spells inside g.held store (record { answered = answered; stage = Storing entry question answer words count }) last t refl,
              )
          | inr more ↦
              let test : is_last words count ≡ false = ne_eqb (count + 1) (length words) more in
              rw test (store_on m slot ok e found here h answered done c entry question answer words count g.read g.fits g.spells inside g.held store (record { answered = answered; stage = Storing entry question answer words count }) (omega (arith, inside, more)) t refl)
        ];
        others = store_others m slot ok e found here h answered done c entry question answer words count g.read g.fits g.spells inside g.held store;
      }

  replies : (other answered : ℕ) (state : Slot) (entry : List ℕ) (question : Result Command Answer) (answer : Answer) (words : List ℕ) → Answers question answer → IsAnswer entry answer words
      → IsStore (answer_word slot (stored_next 3 (length words) 0)) (get_or words (stored_next 3 (length words) 0) 0) e
      → SlotTied m slot found h (record { answered = answered; stage = Judged entry question }) state
      → ServeGoes (record { answered = answered; stage = Judged entry question }) state (marks.Reply other answer words)
  replies other answered (Free done) entry question answer words fits spells store t = let wrong : true ≡ false = sym here ∙ t.silent in absurd (cc)
  replies other answered (Answered done c given) entry question answer words fits spells store t = let wrong : true ≡ false = sym here ∙ t.silent in absurd (cc)
  replies other answered (Asked done c) entry question answer words fits spells store t =
      let right : Answers (Ok c) answer = subst (λ (q : Result Command Answer). Answers q answer) t.server fits in
      let short = answer_short entry c answer words right spells in
      record {
        goes = store_on m slot ok e found here h answered done c entry question answer words 0 t.server right spells (omega (arith, short.0)) (Stored_none (answer_word slot) m m 3 words) store (record { answered = answered; stage = Judged entry question }) (omega (arith, short.0)) t refl;
        others = store_others m slot ok e found here h answered done c entry question answer words 0 t.server right spells (omega (arith, short.0)) (Stored_none (answer_word slot) m m 3 words) store;
      }

  pub serve_goes : (answered : ℕ) (stage : ServeStage) (state : Slot) (mark : SlotMark) → MayServe_at slot stage mark e → SlotTied m slot found h (record { answered = answered; stage = stage }) state → ServeGoes (record { answered = answered; stage = stage }) state mark
  serve_goes answered (Reading ws) state (marks.Read _) may t =
      let address = question_word slot ws (length ws) in
      let same : Same m (after_entry m e) slot = load_same m e slot may.op in
      let is : loaded e ≡ after_entry m e address = load_tells m e address tells may.op may.at_address ∙ sym (load_keeps m e address may.op) in
      let s : Server = record { answered = answered; stage = Reading ws } in
      record {
        goes = asked_only (after_entry m e) (after_entry m e) slot found here h s (after_server slot s (marks.Read slot) e) None state
            (λ done c u. read_goes (after_entry m e) slot ok found h answered (loaded e) done c ws is u)
            (SlotTied_kept m (after_entry m e) slot found h s state same t);
        others = λ b ok_b differ. load_same m e b may.op;
      }
  serve_goes answered (Judged entry question) state (marks.Read _) may t = absurd may
  serve_goes answered (Storing entry question answer words count) state (marks.Read _) may t = absurd may
  serve_goes answered (Reading ws) state (marks.Reply _ answer words) may t = absurd may
  serve_goes answered (Judged entry question) state (marks.Reply other answer words) may t = replies other answered state entry question answer words may.fits may.spells may.store t
  serve_goes answered (Storing entry question given given_words count) state (marks.Reply _ answer words) may t = absurd may
  serve_goes answered (Reading ws) state (marks.Store _) may t = absurd may
  serve_goes answered (Judged entry question) state (marks.Store _) may t = absurd may
  serve_goes answered (Storing entry question answer words count) state (marks.Store other) may t = stores other answered state entry question answer words count may.0 may.1 t
  serve_goes answered stage state (marks.Ask _ c words) may t = absurd may
  serve_goes answered stage state (marks.Fill _) may t = absurd may
  serve_goes answered stage state (marks.Ring _) may t = absurd may
  serve_goes answered stage state (marks.Await _) may t = absurd may
  serve_goes answered stage state marks.Sweep may t = absurd may
  serve_goes answered stage state marks.Foreign may t = absurd may

-- what one slot does, all do
module _ (m m' : Memory) (d : Adapter) (hosts : ℕ → Asker) (slots : ℕ → Slot) (slot : ℕ) (s : Server)
    (t : Tied m d hosts slots) (others : (b : ℕ) → IsSlot b → slot ≢ b → Same m m' b) where
  stays : SlotTied m' slot (d.found slot) (hosts slot) s (slots slot) → Tied m' (serving d slot s) hosts slots
  stays new = record {
    each = λ b ok_b. elim (eqb_tells slot b) [
      | inl same ↦ put_here (λ (g : Server). SlotTied m' b (d.found b) (hosts b) g (slots b)) d.servers slot s b same.1 (subst (λ (n : ℕ). SlotTied m' n (d.found n) (hosts n) s (slots n)) same.1 new)
      | inr other ↦ put_there (λ (g : Server). SlotTied m' b (d.found b) (hosts b) g (slots b)) d.servers slot s b other.1 (SlotTied_kept m m' b (d.found b) (hosts b) (d.servers b) (slots b) (others b ok_b other.1) (t.each b ok_b))
    ];
  }

  moves : (state : Slot) → SlotTied m' slot false (hosts slot) s state → Tied m' (answered_if true (serving d slot s) slot) hosts (put slots slot state)
  moves state new = record {
    each = λ b ok_b. elim (eqb_tells slot b) [
      | inl same ↦ put_here (λ (g : Server). SlotTied m' b (put d.found slot false b) (hosts b) g (put slots slot state b)) d.servers slot s b same.1
          (put_here (λ (l : Slot). SlotTied m' b (put d.found slot false b) (hosts b) s l) slots slot state b same.1
          (put_here (λ (f : Bool). SlotTied m' b f (hosts b) s state) d.found slot false b same.1 (subst (λ (n : ℕ). SlotTied m' n false (hosts n) s state) same.1 new)))
      | inr other ↦ put_there (λ (g : Server). SlotTied m' b (put d.found slot false b) (hosts b) g (put slots slot state b)) d.servers slot s b other.1
          (put_there (λ (l : Slot). SlotTied m' b (put d.found slot false b) (hosts b) (d.servers b) l) slots slot state b other.1
          (put_there (λ (f : Bool). SlotTied m' b f (hosts b) (d.servers b) (slots b)) d.found slot false b other.1 (SlotTied_kept m m' b (d.found b) (hosts b) (d.servers b) (slots b) (others b ok_b other.1) (t.each b ok_b))))
    ];
  }

  all_go : (said : Option SlotEvent) → ServerGoes m' slot (d.found slot) (hosts slot) s (slots slot) said → Goes m' (answered_if (gives said) (serving d slot s) slot) hosts slots said
  all_go None g = stays g
  all_go (Some event) g =
      let P : ℕ → Type 0 = λ n. MayHappen_to (slots n) event × Tied m' (answered_if true (serving d slot s) slot) hosts (put slots n (made_of (slots n) event)) in
      subst P (sym g.0) (g.1, moves (made_of (slots slot) event) g.2)

serve_step : (m : Memory) (d : Adapter) (hosts : ℕ → Asker) (slots : ℕ → Slot) (slot : ℕ) (mark : SlotMark) (e : BusEntry) → Tied m d hosts slots → Tells m e → MayServe d slot mark e →
    Goes (after_entry m e) (after_serve d slot mark e) hosts slots (server_says slot (d.servers slot) mark e)
serve_step m d hosts slots slot mark e t tells may =
    let g = serve_goes m slot may.slot_ok e (d.found slot) may.here (hosts slot) tells (d.servers slot).answered (d.servers slot).stage (slots slot) mark may.serves (t.each slot may.slot_ok) in
    all_go m (after_entry m e) d hosts slots slot (after_server slot (d.servers slot) mark e) t g.others (server_says slot (d.servers slot) mark e) g.goes

-- the swap clears all bits, and the device has found those that were set
module _ (m : Memory) (e : BusEntry) (swap : IsSwap bits_word 0 e) (tells : Tells m e) where
  word_is : loaded e ≡ m bits_word
  word_is = swap_tells m e bits_word 0 tells swap.op swap.at_address

  gone : (slot : ℕ) → bit_at (after_entry m e bits_word) slot ≡ 0
  gone slot = ap (λ w. bit_at w slot) (swap_leaves m e bits_word 0 swap.op swap.at_address) ∙ bit_at-zero slot

  rest : (slot x : ℕ) → IsOwn slot x → after_entry m e x ≡ m x
  rest slot x own = elsewhere m e x (λ same. own_not_bits slot x own (sym swap.at_address ∙ same))

  bit_found : (slot : ℕ) → IsSlot slot → bit_at (slot_bits (loaded e)) slot ≡ bit_at (m bits_word) slot
  bit_found slot ok =
      let word = m bits_word in
      let parts : word / 2 ^ 32 * 2 ^ 32 + word % 2 ^ 32 ≡ word = omega arith in
      ap (λ w. bit_at (slot_bits w) slot) word_is ∙ sym (bit_at_cat_low (word / 2 ^ 32) 32 (word % 2 ^ 32) slot ok) ∙ ap (λ w. bit_at w slot) parts

  not_found : (found : Bool) (slot : ℕ) → IsSlot slot → found ≡ false → bit_at (m bits_word) slot ≡ 0 → (found || has_bit (slot_bits (loaded e)) slot) ≡ false
  not_found found slot ok none clear = let zero : has_bit (slot_bits (loaded e)) slot ≡ false = ap (λ b. eqb b 1) (bit_found slot ok ∙ clear) in rw (none, zero) refl

  now_found : (found : Bool) (slot : ℕ) → IsSlot slot → Rung found (bit_at (m bits_word) slot) → (found || has_bit (slot_bits (loaded e)) slot) ≡ true
  now_found true slot ok rung = refl
  now_found false slot ok rung = ap (λ b. eqb b 1) (bit_found slot ok ∙ rung)

  sweep_slot : (slot : ℕ) → IsSlot slot → (found : Bool) (h : Asker) (s : Server) (state : Slot) → SlotTied m slot found h s state → SlotTied (after_entry m e) slot (found || has_bit (slot_bits (loaded e)) slot) h s state
  sweep_slot slot ok found h s (Free done) t = record {
    asked_is = t.asked_is;
    answered_is = t.answered_is;
    silent = not_found found slot ok t.silent t.clear;
    clear = gone slot;
    host = HostFits_kept m (after_entry m e) slot (rest slot) h.stage t.host;
    server = t.server;
  }
  sweep_slot slot ok found h s (Asked done c) t = record {
    asked_is = t.asked_is;
    answered_is = t.answered_is;
    rung = subst (λ (b : Bool). Rung b (bit_at (after_entry m e bits_word) slot)) (sym (now_found found slot ok t.rung)) (gone slot);
    owned = ap (λ w. w % 2) (rest slot (entry_word slot 7) (entry_own slot 7 (omega arith))) ∙ t.owned;
    host = t.host;
    server = ServerFits_kept m (after_entry m e) slot (rest slot) c s.stage t.server;
  }
  sweep_slot slot ok found h s (Answered done c answer) t = record {
    asked_is = t.asked_is;
    answered_is = t.answered_is;
    silent = not_found found slot ok t.silent t.clear;
    clear = gone slot;
    server = t.server;
    given = Given_kept m (after_entry m e) slot (rest slot) c answer h.stage t.given;
  }

pub device_step : (m : Memory) (d : Adapter) (hosts : ℕ → Asker) (slots : ℕ → Slot) (mark : SlotMark) (e : BusEntry) → Tied m d hosts slots → Tells m e → MayDeliver d mark e →
    Goes (after_entry m e) (after_deliver d mark e) hosts slots (delivered d mark e)
device_step m d hosts slots marks.Sweep e t tells may = record { each = λ slot ok. sweep_slot m e may tells slot ok (d.found slot) (hosts slot) (d.servers slot) (slots slot) (t.each slot ok) }
device_step m d hosts slots (marks.Read slot) e t tells may = serve_step m d hosts slots slot (marks.Read slot) e t tells may
device_step m d hosts slots (marks.Reply slot answer words) e t tells may = serve_step m d hosts slots slot (marks.Reply slot answer words) e t tells may
device_step m d hosts slots (marks.Store slot) e t tells may = serve_step m d hosts slots slot (marks.Store slot) e t tells may
device_step m d hosts slots (marks.Ask slot c words) e t tells may = absurd may
device_step m d hosts slots (marks.Fill slot) e t tells may = absurd may
device_step m d hosts slots (marks.Ring slot) e t tells may = absurd may
device_step m d hosts slots (marks.Await slot) e t tells may = absurd may
device_step m d hosts slots marks.Foreign e t tells may = absurd may
