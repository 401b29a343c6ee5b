-- Where the queues of declared objects lie.
use Rattle.std.specs.Prelude.{ℕ, ◌≡◌, ◌+◌, ◌-◌, ◌*◌, ◌^◌, ◌<◌, ◌≤◌, [], ◌∷◌, get_or, Some, None}
use Rattle.verbs_types.specs.declared.declaration.Lines.{Lines}
use Rattle.verbs_types.specs.declared.declaration.CqLine.{CqLine}
use Rattle.verbs_types.specs.declared.declaration.QpLine.{QpLine}
use Rattle.verbs_types.specs.declared.declaration.TheConstants.{FIRST_QP}
use Rattle.actor_map.specs.declared.kind.ObjectKind.TheVariants.{Cq, Qp}
use Rattle.actor_map.specs.Map.{map_of, first_word}
use Rattle.actor_map.specs.Sizes.{stride, send_words, receive_words}
use Rattle.owner_ring.specs.Place.{size}
use Rattle.cq_pair.specs.declared.place.CqPlace.{CqPlace}
use Rattle.cq_pair.specs.Place.{ring_of}
use Rattle.counted_ring.specs.declared.place.WqPlace.{WqPlace}

-- the line of a queue pair's number, and of a completion queue's; where there is none, any line
abbrev pub no_qp : QpLine
no_qp = record { name = []; pd = 0; send_cq = 0; recv_cq = 0; send_log = 0; recv_log = 0; segments = 0; start = 0 }

abbrev pub qp_line : Lines → ℕ → QpLine
qp_line d qp = get_or d.qps (qp - FIRST_QP) no_qp

abbrev pub no_cq : CqLine
no_cq = record { name = []; log = 0; ceiling = 0; eq = 0; start = 0 }

abbrev pub cq_line : Lines → ℕ → CqLine
cq_line d cq = get_or d.cqs cq no_cq

-- The send queue of a queue pair whose words begin here: a ring of four blocks of 8 words for each request that may be posted, ids, head words and the tail. Behind the receive queue stand the record of two words, of which the second is the send queue's, and the register.
abbrev pub place_from : ℕ → QpLine → WqPlace
place_from first line = record {
  ring = first;
  blocks = 4 * 2 ^ line.send_log;
  stride = 8;
  ids = first + 32 * 2 ^ line.send_log;
  heads = first + 36 * 2 ^ line.send_log;
  tail = first + 40 * 2 ^ line.send_log;
  dbr = first + send_words line + receive_words line + 1;
  reg = Some (first + send_words line + receive_words line + 2);
  max_post = 2 ^ line.send_log;
}

-- Its receive queue: behind the send queue's words a block for each receive that may be posted, ids and the tail. There are no head words and no register, and the first word of the record is its own.
abbrev pub receives_from : ℕ → QpLine → WqPlace
receives_from first line = record {
  ring = first + send_words line;
  blocks = 2 ^ line.recv_log;
  stride = stride line.segments;
  ids = first + send_words line + stride line.segments * 2 ^ line.recv_log;
  heads = 0;
  tail = first + send_words line + (stride line.segments + 1) * 2 ^ line.recv_log;
  dbr = first + send_words line + receive_words line;
  reg = None;
  max_post = 2 ^ line.recv_log;
}

-- The completion queue of this number whose words begin here: two areas of 2^ceiling entries of 8 words, the record of two words, the arm register and the arm sequence number.
abbrev pub completions_from : ℕ → ℕ → CqLine → CqPlace
completions_from cq first line = record {
  number = cq;
  areas = first ∷ (first + 8 * 2 ^ line.ceiling) ∷ [];
  ceiling = line.ceiling;
  log = line.log;
  dbr = first + 16 * 2 ^ line.ceiling;
  arm_reg = first + 16 * 2 ^ line.ceiling + 2;
  sn = first + 16 * 2 ^ line.ceiling + 3;
}

-- the queues of the objects of these numbers
abbrev pub send_of : Lines → ℕ → WqPlace
send_of d qp = place_from (first_word (map_of d) Qp qp) (qp_line d qp)

abbrev pub receive_of : Lines → ℕ → WqPlace
receive_of d qp = receives_from (first_word (map_of d) Qp qp) (qp_line d qp)

abbrev pub completions_of : Lines → ℕ → CqPlace
completions_of d cq = completions_from cq (first_word (map_of d) Cq cq) (cq_line d cq)

-- the highest words of a send or receive queue are among the first `words`
pub record IsWithin (words : ℕ) (place : WqPlace) : Type 0 where
  pub record_word : place.dbr < words
  pub register : (r : ℕ) → place.reg ≡ Some r → r < words

-- the words of a completion queue are among the first `words`: the entries of its ring, the record and the words of arms
pub record AreWithin (words : ℕ) (place : CqPlace) : Type 0 where
  pub ring : (ring_of place).base + 8 * size (ring_of place) ≤ words
  pub record_word : place.dbr < words
  pub arms : place.sn < words
