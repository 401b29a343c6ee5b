-- With the words that a run begins with each object is at its start.
use Rattle.std.proofs.Common.{◌≡◌, ℕ, ◌+◌, ◌-◌, ◌*◌, ◌%◌, ◌^◌, ◌<◌, ◌≤◌, ap, ◌∙◌, subst, refl, arith, false, IsTrue}
use Rattle.std.specs.Prelude.{slice_index}
use Rattle.std.proofs.Math.Nat.{mod-lt}
use Rattle.std.proofs.Math.Pow.{pow_mono}
use Rattle.std.proofs.lemmas.Nat.{pow_pos}
use Rattle.verbs_types.specs.Lines.{is_declared}
use Rattle.verbs_types.specs.declared.declaration.Lines.{Lines}
use Rattle.verbs_types.specs.declared.declaration.TheConstants.{FIRST_QP}
use Rattle.actor_map.specs.declared.kind.ObjectKind.TheVariants.{Cq, Qp}
use Rattle.actor_map.specs.Map.{first_word, map_of}
use Rattle.actor_map.specs.Sizes.{stride, cq_words, qp_words, receive_words, send_words}
use Rattle.actor_map.specs.Start.{cq_start, qp_start, start_words}
use Rattle.actor_map.specs.Started.{AreNamed, HaveStarts}
use Rattle.owner_ring.specs.Place as ring
use Rattle.owner_ring.specs.Law as ring_law
use Rattle.cq_pair.specs.Place.{ring_of}
use Rattle.counted_ring.specs.Law.{IsStart}
use Rattle.object_places.specs.Apart.{AreAtStart, IsObjectStart}
use Rattle.object_places.specs.Objects.{Object, Completions, Sends, Receives, Lives}
use Rattle.object_places.specs.Places.{cq_line, no_cq, qp_line, no_qp, completions_of, send_of, receive_of}
use Rattle.object_places.proofs.Lines.{IsCq, IsQp, is_cq, is_qp}

module _ (starts : HaveStarts) (named : AreNamed) (d : Lines) (w : ℕ) where
  module _ (cq : ℕ) (h : IsCq d cq) where
    -- word k of the completion queue
    cq_word : (k : ℕ) → k < cq_words (cq_line d cq) → start_words d w (first_word (map_of d) Cq cq + k) ≡ slice_index (cq_start (cq_line d cq)) k
    cq_word k below = (starts d w).cqs cq k no_cq h.below below

    entry_unwritten : (i : ℕ) → i < 2 ^ (cq_line d cq).log → start_words d w (first_word (map_of d) Cq cq + (8 * i + 7)) ≡ 240
    entry_unwritten i below =
        let entries : 2 ^ (cq_line d cq).log ≤ 2 ^ (cq_line d cq).ceiling = pow_mono h.log in
        cq_word (8 * i + 7) (omega (arith, below, entries)) ∙ named.cq_owner (cq_line d cq) i (omega (arith, below, entries))

    -- an entry of the opcode 15 is not software's
    unowned : (n : ℕ) → ring.is_owned (ring_of (completions_of d cq)) n (start_words d w (ring.slot (ring_of (completions_of d cq)) n 7)) ≡ false
    unowned n =
        let slot : ring.slot (ring_of (completions_of d cq)) n 7 ≡ first_word (map_of d) Cq cq + (8 * (n % 2 ^ (cq_line d cq).log) + 7) = omega arith in
        ap (λ a. ring.is_owned (ring_of (completions_of d cq)) n (start_words d w a)) slot
        ∙ ap (λ x. ring.is_owned (ring_of (completions_of d cq)) n x) (entry_unwritten (n % 2 ^ (cq_line d cq).log) (mod-lt n (pow_pos (cq_line d cq).log)))

    record_start : start_words d w (first_word (map_of d) Cq cq + 16 * 2 ^ (cq_line d cq).ceiling) ≡ (cq_line d cq).start % 2 ^ 24
    record_start =
        let first : first_word (map_of d) Cq cq + 16 * 2 ^ (cq_line d cq).ceiling ≡ first_word (map_of d) Cq cq + (16 * 2 ^ (cq_line d cq).ceiling + 0) = omega arith in
        ap (start_words d w) first ∙ cq_word (16 * 2 ^ (cq_line d cq).ceiling + 0) (omega arith) ∙ named.cq_records (cq_line d cq) 0 (omega arith)

    pub completions_start : ring_law.IsStart (ring_of (completions_of d cq)) (cq_line d cq).start (start_words d w)
    completions_start = record { acked = omega (arith, record_start); unowned = λ n low high. unowned n }

  module _ (qp : ℕ) (h : IsQp d qp) where
    -- word k of the queue pair
    qp_word : (k : ℕ) → k < qp_words (qp_line d qp) → start_words d w (first_word (map_of d) Qp qp + k) ≡ slice_index (qp_start (qp_line d qp)) k
    qp_word k below =
        let number : FIRST_QP + (qp - FIRST_QP) ≡ qp = omega (arith, h.number.low) in
        subst (λ n. start_words d w (first_word (map_of d) Qp n + k) ≡ slice_index (qp_start (qp_line d qp)) k) number ((starts d w).qps (qp - FIRST_QP) k no_qp h.number.below below)

    queue_word : (a k : ℕ) → k < send_words (qp_line d qp) + receive_words (qp_line d qp) → a ≡ first_word (map_of d) Qp qp + k → start_words d w a ≡ 0
    queue_word a k below is = ap (start_words d w) is ∙ qp_word k (omega (arith, below)) ∙ named.qp_queues (qp_line d qp) k below

    record_word : (a k : ℕ) → k < 2 → a ≡ first_word (map_of d) Qp qp + (send_words (qp_line d qp) + receive_words (qp_line d qp) + k) → start_words d w a ≡ (qp_line d qp).start % 2 ^ 16
    record_word a k below is =
        ap (start_words d w) is ∙ qp_word (send_words (qp_line d qp) + receive_words (qp_line d qp) + k) (omega (arith, below)) ∙ named.qp_records (qp_line d qp) k below

    pub sends_start : IsStart (send_of d qp) (qp_line d qp).start (start_words d w)
    sends_start = record {
      low = omega (arith, h.start);
      tail = queue_word (send_of d qp).tail (40 * 2 ^ (qp_line d qp).send_log) (omega arith) refl;
      recorded = record_word (send_of d qp).dbr 1 (omega arith) (omega arith);
    }

    pub receives_start : IsStart (receive_of d qp) (qp_line d qp).start (start_words d w)
    receives_start = record {
      low = omega (arith, h.start);
      tail = queue_word (receive_of d qp).tail (send_words (qp_line d qp) + (stride (qp_line d qp).segments + 1) * 2 ^ (qp_line d qp).recv_log) (omega arith) (omega arith);
      recorded = record_word (receive_of d qp).dbr 0 (omega arith) (omega arith);
    }

  pub object_start : (o : Object) → IsTrue (is_declared d) → Lives d o → IsObjectStart d w o
  object_start (Completions cq) declared lives = completions_start cq (is_cq d cq declared lives)
  object_start (Sends qp) declared lives = sends_start qp (is_qp d qp declared lives)
  object_start (Receives qp) declared lives = receives_start qp (is_qp d qp declared lives)

pub start_of : HaveStarts → AreNamed → AreAtStart
start_of starts named = λ d w o declared lives. object_start starts named d w o declared lives
