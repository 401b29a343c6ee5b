-- How many words objects have, and where they stand.
use Rattle.std.specs.Prelude.{ℕ, ◌+◌, ◌*◌, ◌^◌, nat_le, if◌then◌else◌, List, [], ◌∷◌, ◌++◌, map}
use Rattle.std.specs.List.{sum_by}
use Rattle.verbs_types.specs.declared.declaration.EqLine.{EqLine}
use Rattle.verbs_types.specs.declared.declaration.CqLine.{CqLine}
use Rattle.verbs_types.specs.declared.declaration.QpLine.{QpLine}
use Rattle.verbs_types.specs.declared.declaration.Lines.{Lines}
use Rattle.actor_map.specs.declared.sizes.TheConstants.{FIRST_OBJECT}

-- 2^log entries of 8 words, and two registers
abbrev pub eq_words : EqLine → ℕ
eq_words l = 8 * 2 ^ l.log + 2

-- two areas of 2^ceiling entries of 8 words, a doorbell record of two words, the arm register, the arm sequence number
abbrev pub cq_words : CqLine → ℕ
cq_words l = 16 * 2 ^ l.ceiling + 4

-- two words a scatter/gather entry, rounded up to a power of two
abbrev pub stride : ℕ → ℕ
stride segments = if nat_le segments 1 then 2 else (if nat_le segments 2 then 4 else (if nat_le segments 4 then 8 else 16))

-- four blocks a send request, each of 8 words with an id and a head word, and the send tail
abbrev pub send_words : QpLine → ℕ
send_words l = 40 * 2 ^ l.send_log + 1

-- the entries of receives, each with an id, and the receive tail
abbrev pub receive_words : QpLine → ℕ
receive_words l = (stride l.segments + 1) * 2 ^ l.recv_log + 1

-- both queues, a doorbell record of two words, and the send register
abbrev pub qp_words : QpLine → ℕ
qp_words l = send_words l + receive_words l + 3

-- kind by kind, and in declared order within a kind
abbrev pub sizes : Lines → List ℕ
sizes d = map eq_words d.eqs ++ map cq_words d.cqs ++ map qp_words d.qps

-- up to the end of the last object
abbrev pub words_of : Lines → ℕ
words_of d = FIRST_OBJECT + sum_by eq_words d.eqs + sum_by cq_words d.cqs + sum_by qp_words d.qps

-- the first words of objects of these sizes, which stand one after another from this word on
abbrev pub firsts : ℕ → List ℕ → List ℕ
firsts n [] = []
firsts n (size ∷ more) = n ∷ firsts (n + size) more
