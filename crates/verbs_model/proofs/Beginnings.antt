-- The lists that declaration lines make give the state in which a run begins.
use Rattle.std.proofs.Common.{◌≡◌, ℕ, zero, suc, ◌+◌, ◌-◌, ◌*◌, refl, sym, ap, ◌∙◌, Bool, true, false, if◌then◌else◌, List, [], ◌∷◌, length, map, get_or, inl, inr, arith, flat_map, slice_get, Option, Some, None}
use Rattle.std.specs.List.{enumerate_from}
use Rattle.std.specs.Option.{option_map_or}
use Rattle.std.proofs.lemmas.Bool.{cases_Bool, cond-true, cond-false}
use Rattle.std.proofs.lemmas.List.{length-map}
use Rattle.std.proofs.lemmas.List.FromFn.{length-enumerate_from}
use Rattle.verbs_types.specs.declared.completion.Queue.{Queue}
use Rattle.verbs_types.specs.declared.completion.Queue.TheVariants.{Send, Recv, Shared}
use Rattle.verbs_types.specs.declared.declaration.Lines.{Lines}
use Rattle.verbs_types.specs.declared.declaration.QpLine.{QpLine}
use Rattle.verbs_types.specs.declared.declaration.CqLine.{CqLine}
use Rattle.verbs_types.specs.declared.declaration.TheConstants.{FIRST_QP}
use Rattle.verbs_types.specs.declared.state.QueuePair.{QueuePair}
use Rattle.verbs_model.specs.Beginning.{both_queues, pair_from}
use Rattle.verbs_types.specs.Lines.{is_among}
use Rattle.verbs_rules.specs.OfOne.{WorkQueue, CompletionQueue}
use Rattle.verbs_rules.specs.Start.{start, start_pair, first_state, no_pair, for_line, room_of, segments_of, size_of, first_index}
use Rattle.verbs_model.specs.Queues.{parts_of, settled_of, fresh_queue, fresh_completions, no_queue, no_completions}
use Rattle.verbs_model.specs.Tables.{Tables, queue_at, pair_at, completions_at, pair_is_in, completions_are_in, all_of, state_of}
use Rattle.verbs_laws.proofs.Families.{among}
use Rattle.verbs_model.proofs.Parts.{of_choice}

pub length-both_queues : (ls : List QpLine) → length (flat_map both_queues ls) ≡ 2 * length ls
length-both_queues [] = refl
length-both_queues (l ∷ ls) = let rest = length-both_queues ls in omega arith

abbrev send_of : QpLine → WorkQueue
send_of l = fresh_queue l.send_log l.segments

abbrev recv_of : QpLine → WorkQueue
recv_of l = fresh_queue l.recv_log l.segments

send_at : (ls : List QpLine) (k : ℕ) → get_or (flat_map both_queues ls) (2 * k) no_queue ≡ option_map_or send_of (slice_get ls k) no_queue
send_at [] k = refl
send_at (l ∷ ls) zero = refl
send_at (l ∷ ls) (suc k) =
    let double : 2 * suc k ≡ suc (suc (2 * k)) = omega arith in
    rw double (send_at ls k)

recv_at : (ls : List QpLine) (k : ℕ) → get_or (flat_map both_queues ls) (2 * k + 1) no_queue ≡ option_map_or recv_of (slice_get ls k) no_queue
recv_at [] k = refl
recv_at (l ∷ ls) zero = refl
recv_at (l ∷ ls) (suc k) =
    let double : 2 * suc k + 1 ≡ suc (suc (2 * k + 1)) = omega arith in
    rw double (recv_at ls k)

abbrev pair_of : Lines → ℕ → QpLine → QueuePair
pair_of d qp l = record { state = first_state d qp; send_cq = l.send_cq; recv_cq = l.recv_cq }

pair_at_place : (d : Lines) (ls : List QpLine) (n k : ℕ) → get_or (map (pair_from d) (enumerate_from n ls)) k no_pair ≡ option_map_or (pair_of d (FIRST_QP + (n + k))) (slice_get ls k) no_pair
pair_at_place d [] n k = refl
pair_at_place d (l ∷ ls) n zero = ap (λ (m : ℕ). pair_of d (FIRST_QP + m) l) (omega arith)
pair_at_place d (l ∷ ls) n (suc k) =
    let more : n + suc k ≡ (n + 1) + k = omega arith in
    rw more (pair_at_place d ls (n + 1) k)

completions_at_line : (ls : List CqLine) (k : ℕ) → get_or (map fresh_completions ls) k no_completions ≡ option_map_or fresh_completions (slice_get ls k) no_completions
completions_at_line [] k = refl
completions_at_line (l ∷ ls) zero = refl
completions_at_line (l ∷ ls) (suc k) = completions_at_line ls k

-- the lists of the lines
abbrev pub first_tables : Lines → Tables
first_tables d = record { queues = flat_map both_queues d.qps; pairs = map (pair_from d) (enumerate_from 0 d.qps); completions = map fresh_completions d.cqs; owed = None }

pub length-pairs : (d : Lines) → length (first_tables d).pairs ≡ length d.qps
length-pairs d = length-map (enumerate_from 0 d.qps) (pair_from d) ∙ length-enumerate_from 0 d.qps

pair_lives : (d : Lines) (qp : ℕ) → pair_is_in (first_tables d) qp ≡ is_among FIRST_QP (length d.qps) qp
pair_lives d qp = ap (λ (n : ℕ). is_among FIRST_QP n qp) (length-pairs d)

completions_live : (d : Lines) (cq : ℕ) → completions_are_in (first_tables d) cq ≡ is_among 0 (length d.cqs) cq
completions_live d cq = ap (λ (n : ℕ). is_among 0 n cq) (length-map d.cqs fresh_completions)

-- a choice by equal tests between equal values
chosen : {X : Type 0} (a b : Bool) (x y none : X) → a ≡ b → (b ≡ true → x ≡ y) → (if a then x else none) ≡ (if b then y else none)
chosen a b x y none same values =
    elim (cases_Bool b) [
      | inl yes_b ↦ cond-true a x none (same ∙ yes_b) ∙ (values yes_b ∙ sym (cond-true b y none yes_b))
      | inr no_b ↦ cond-false a x none (same ∙ no_b) ∙ sym (cond-false b y none no_b)
    ]

-- the queues that lines declare
abbrev first_queue : Lines → Queue → WorkQueue
first_queue d (Send qp) = for_line FIRST_QP d.qps send_of no_queue qp
first_queue d (Recv qp) = for_line FIRST_QP d.qps recv_of no_queue qp
first_queue d (Shared srq) = no_queue

abbrev first_completions : Lines → ℕ → CompletionQueue
first_completions d = for_line 0 d.cqs fresh_completions no_completions

queue_at_first : (d : Lines) (queue : Queue) → queue_at (first_tables d) queue ≡ first_queue d queue
queue_at_first d (Send qp) = chosen _ _ _ _ no_queue (pair_lives d qp) (λ h. send_at d.qps (qp - FIRST_QP))
queue_at_first d (Recv qp) = chosen _ _ _ _ no_queue (pair_lives d qp) (λ h. recv_at d.qps (qp - FIRST_QP))
queue_at_first d (Shared srq) = refl

pair_at_first : (d : Lines) (qp : ℕ) → pair_at (first_tables d) qp ≡ start_pair d qp
pair_at_first d qp =
    chosen _ _ _ _ no_pair (pair_lives d qp)
    (λ h.
    let above = among FIRST_QP (length d.qps) qp h in
    let number : FIRST_QP + (0 + (qp - FIRST_QP)) ≡ qp = omega arith in
    pair_at_place d d.qps 0 (qp - FIRST_QP) ∙ ap (λ (q : ℕ). option_map_or (pair_of d q) (slice_get d.qps (qp - FIRST_QP)) no_pair) number)

completions_at_first : (d : Lines) (cq : ℕ) → completions_at (first_tables d) cq ≡ first_completions d cq
completions_at_first d cq =
    chosen _ _ _ _ no_completions (completions_live d cq)
    (λ h. completions_at_line d.cqs cq ∙ ap (λ (k : ℕ). option_map_or fresh_completions (slice_get d.cqs k) no_completions) (omega arith))

-- the lists give the queues that lines declare
all_of-first : (d : Lines)
    → all_of (first_tables d) ≡ record { queues = first_queue d; completions = first_completions d; pairs = start_pair d; pair_lives = is_among FIRST_QP (length d.qps); completions_live = is_among 0 (length d.cqs); owed = [] }
all_of-first d = λ i. record {
  queues = λ queue. queue_at_first d queue i;
  completions = λ cq. completions_at_first d cq i;
  pairs = λ qp. pair_at_first d qp i;
  pair_lives = λ qp. pair_lives d qp i;
  completions_live = λ cq. completions_live d cq i;
  owed = [];
}

of_option : {X V W : Type 0} (g : V → W) (value : X → V) (none : V) (o : Option X) → g (option_map_or value o none) ≡ option_map_or (λ (x : X). g (value x)) o (g none)
of_option g value none None = refl
of_option g value none (Some x) = refl

-- a part of the queue of a line
of_line : {X V W : Type 0} (g : V → W) (first : ℕ) (lines : List X) (value : X → V) (none : V) (number : ℕ)
    → g (for_line first lines value none number) ≡ for_line first lines (λ (x : X). g (value x)) (g none) number
of_line g first lines value none number =
    let b = is_among first (length lines) number in
    let o = slice_get lines (number - first) in
    of_choice g b (option_map_or value o none) none ∙ ap (λ w. if b then w else g none) (of_option g value none o)

same_option : {X W : Type 0} (w : W) (o : Option X) → option_map_or (λ (x : X). w) o w ≡ w
same_option w None = refl
same_option w (Some x) = refl

same_choice : {W : Type 0} (b : Bool) (w : W) → (if b then w else w) ≡ w
same_choice true w = refl
same_choice false w = refl

-- a part that is the same in each queue at first
same_line : {X V W : Type 0} (g : V → W) (first : ℕ) (lines : List X) (value : X → V) (none : V) (number : ℕ) → ((x : X) → g (value x) ≡ g none) → g (for_line first lines value none number) ≡ g none
same_line {X} g first lines value none number same =
    let b = is_among first (length lines) number in
    let o = slice_get lines (number - first) in
    of_line g first lines value none number
    ∙ (ap (λ (f : X → _). if b then option_map_or f o (g none) else g none) (λ i x. same x i)
    ∙ (ap (λ w. if b then w else g none) (same_option (g none) o) ∙ same_choice b (g none)))

same_first : {W : Type 0} (g : WorkQueue → W) → ((log segments : ℕ) → g (fresh_queue log segments) ≡ g no_queue) → (d : Lines) (queue : Queue) → g (first_queue d queue) ≡ g no_queue
same_first g same d (Send qp) = same_line g FIRST_QP d.qps send_of no_queue qp (λ l. same l.send_log l.segments)
same_first g same d (Recv qp) = same_line g FIRST_QP d.qps recv_of no_queue qp (λ l. same l.recv_log l.segments)
same_first g same d (Shared srq) = refl

room_first : (d : Lines) (queue : Queue) → (first_queue d queue).room ≡ room_of d queue
room_first d (Send qp) = of_line (λ (u : WorkQueue). u.room) FIRST_QP d.qps send_of no_queue qp
room_first d (Recv qp) = of_line (λ (u : WorkQueue). u.room) FIRST_QP d.qps recv_of no_queue qp
room_first d (Shared srq) = refl

segments_first : (d : Lines) (queue : Queue) → (first_queue d queue).segments ≡ segments_of d queue
segments_first d (Send qp) = of_line (λ (u : WorkQueue). u.segments) FIRST_QP d.qps send_of no_queue qp
segments_first d (Recv qp) = of_line (λ (u : WorkQueue). u.segments) FIRST_QP d.qps recv_of no_queue qp
segments_first d (Shared srq) = refl

parts_first : (d : Lines)
    → parts_of (record { queues = first_queue d; completions = first_completions d; pairs = start_pair d; pair_lives = is_among FIRST_QP (length d.qps); completions_live = is_among 0 (length d.cqs); owed = [] }) ≡ start d
parts_first d =
    let size : (cq : ℕ) → (first_completions d cq).size ≡ size_of d cq = λ cq. of_line (λ (c : CompletionQueue). c.size) 0 d.cqs fresh_completions no_completions cq in
    let produced : (cq : ℕ) → (first_completions d cq).produced ≡ first_index d cq = λ cq. of_line (λ (c : CompletionQueue). c.produced) 0 d.cqs fresh_completions no_completions cq in
    let acked : (cq : ℕ) → (first_completions d cq).acked ≡ first_index d cq = λ cq. of_line (λ (c : CompletionQueue). c.acked) 0 d.cqs fresh_completions no_completions cq in
    let unpolled : (cq : ℕ) → (first_completions d cq).unpolled ≡ [] = λ cq. same_line (λ (c : CompletionQueue). c.unpolled) 0 d.cqs fresh_completions no_completions cq (λ l. refl) in
    let posted = same_first (λ (u : WorkQueue). u.posted) (λ log segments. refl) d in
    let settled = same_first settled_of (λ log segments. refl) d in
    let taken = same_first (λ (u : WorkQueue). u.taken) (λ log segments. refl) d in
    let v = start d in
    λ i. record v {
      limits = record { room = λ queue. room_first d queue i; segments = λ queue. segments_first d queue i; size = λ cq. size cq i };
      posted = λ queue. posted queue i;
      settled = λ queue. settled queue i;
      acked = λ cq. acked cq i;
      unpolled = λ cq. unpolled cq i;
      device = record v.device { taken = λ queue. taken queue i; produced = λ cq. produced cq i };
    }

pub state_of-first : (d : Lines) → state_of (first_tables d) ≡ start d
state_of-first d = ap parts_of (all_of-first d) ∙ parts_first d
