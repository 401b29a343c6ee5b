-- Where the start words of each object stand.
use Rattle.std.specs.Prelude.{ℕ, ◌≡◌, ◌+◌, ◌*◌, ◌%◌, ◌^◌, ◌<◌, length, get_or, slice_index}
use Rattle.verbs_types.specs.declared.declaration.EqLine.{EqLine}
use Rattle.verbs_types.specs.declared.declaration.CqLine.{CqLine}
use Rattle.verbs_types.specs.declared.declaration.QpLine.{QpLine}
use Rattle.verbs_types.specs.declared.declaration.Lines.{Lines}
use Rattle.verbs_types.specs.declared.declaration.TheConstants.{FIRST_QP}
use Rattle.actor_map.specs.declared.kind.ObjectKind.TheVariants.{Eq, Cq, Qp}
use Rattle.actor_map.specs.Map.{first_word, map_of}
use Rattle.actor_map.specs.Sizes.{eq_words, cq_words, qp_words, receive_words, send_words}
use Rattle.actor_map.specs.Start.{eq_start, cq_start, qp_start, no_arm, start_words}

-- each object's words, from its first word on, begin as those of its line
pub record HasStarts (d : Lines) (start_word : ℕ) : Type 0 where
  pub eqs : (n k : ℕ) (l : EqLine) → n < length d.eqs → k < eq_words (get_or d.eqs n l) → start_words d start_word (first_word (map_of d) Eq n + k) ≡ slice_index (eq_start (get_or d.eqs n l)) k
  pub cqs : (n k : ℕ) (l : CqLine) → n < length d.cqs → k < cq_words (get_or d.cqs n l) → start_words d start_word (first_word (map_of d) Cq n + k) ≡ slice_index (cq_start (get_or d.cqs n l)) k
  pub qps : (n k : ℕ) (l : QpLine) → n < length d.qps → k < qp_words (get_or d.qps n l) → start_words d start_word (first_word (map_of d) Qp (FIRST_QP + n) + k) ≡ slice_index (qp_start (get_or d.qps n l)) k

abbrev pub HaveStarts : Type 0
HaveStarts = (d : Lines) (start_word : ℕ) → HasStarts d start_word

-- the words of a line that do not begin as 0, by their place in the object
pub record AreNamed : Type 0 where
  pub eq_owner : (l : EqLine) (i : ℕ) → i < 2 ^ l.log → slice_index (eq_start l) (8 * i + 7) ≡ 1
  pub cq_owner : (l : CqLine) (i : ℕ) → i < 2 * 2 ^ l.ceiling → slice_index (cq_start l) (8 * i + 7) ≡ 0xf0
  -- the consumer index, and the word that arms
  pub cq_records : (l : CqLine) (k : ℕ) → k < 2 → slice_index (cq_start l) (16 * 2 ^ l.ceiling + k) ≡ l.start % 2 ^ 24
  pub cq_arm : (l : CqLine) → slice_index (cq_start l) (16 * 2 ^ l.ceiling + 2) ≡ no_arm
  -- rings, ids, head words and tails
  pub qp_queues : (l : QpLine) (k : ℕ) → k < send_words l + receive_words l → slice_index (qp_start l) k ≡ 0
  -- the receive count and the send block index
  pub qp_records : (l : QpLine) (k : ℕ) → k < 2 → slice_index (qp_start l) (send_words l + receive_words l + k) ≡ l.start % 2 ^ 16
