-- The words with which a run begins, object by object.
use Rattle.std.specs.Prelude.{ℕ, zero, suc, ◌+◌, ◌-◌, ◌*◌, ◌%◌, ◌^◌, List, [], ◌∷◌, ◌++◌, replicate, slice_index}
use Rattle.std.specs.List.{flat_map}
use Rattle.verbs_types.specs.declared.declaration.EqLine.{EqLine}
use Rattle.verbs_types.specs.declared.declaration.CqLine.{CqLine}
use Rattle.verbs_types.specs.declared.declaration.QpLine.{QpLine}
use Rattle.verbs_types.specs.declared.declaration.Lines.{Lines}
use Rattle.actor_map.specs.declared.sizes.TheConstants.{FIRST_OBJECT}
use Rattle.actor_map.specs.Sizes.{send_words, receive_words}

-- an entry of 8 words, the last of which says who owns it
abbrev pub entry : ℕ → List ℕ
entry owner = 0 ∷ 0 ∷ 0 ∷ 0 ∷ 0 ∷ 0 ∷ 0 ∷ owner ∷ []

-- `count` of them
abbrev pub entries : ℕ → ℕ → List ℕ
entries count owner = flat_map entry (replicate count owner)

-- entries of the owner bit 1, which the first round of events does not have, and two registers
abbrev pub eq_start : EqLine → List ℕ
eq_start l = entries (2 ^ l.log) 1 ++ 0 ∷ 0 ∷ []

-- what an arm register holds where nothing was armed
abbrev pub no_arm : ℕ
no_arm = 2 ^ 64 - 1

-- Entries of both areas, with the opcode 15 of an entry that holds no completion. Both words of the doorbell record show the first index, the arm register shows no arm, and no event was taken.
abbrev pub cq_start : CqLine → List ℕ
cq_start l = entries (2 * 2 ^ l.ceiling) 0xf0 ++ (l.start % 2 ^ 24) ∷ (l.start % 2 ^ 24) ∷ no_arm ∷ 0 ∷ []

-- Nothing is posted and nothing retired. The doorbell record shows the first receive count and the first send block index, and the send register shows no entry.
abbrev pub qp_start : QpLine → List ℕ
qp_start l = replicate (send_words l + receive_words l) 0 ++ (l.start % 2 ^ 16) ∷ (l.start % 2 ^ 16) ∷ 0 ∷ []

-- The words before the objects: the start word, the words of actors that ended, and the initialisation segment. Of this word 3 says that the command queue has 2^5 entries of 2^6 bytes, and word 5 that the adapter initialises.
abbrev pub head_start : ℕ → List ℕ
head_start start_word = start_word ∷ 0 ∷ 0 ∷ 0x56 ∷ 0 ∷ (2 ^ 31) ∷ replicate (FIRST_OBJECT - 6) 0

-- the words of the whole map
abbrev pub starts : Lines → ℕ → List ℕ
starts d start_word = head_start start_word ++ flat_map eq_start d.eqs ++ flat_map cq_start d.cqs ++ flat_map qp_start d.qps

-- the same as a memory: a word behind the map is 0
abbrev pub start_words : Lines → ℕ → ℕ → ℕ
start_words d start_word address = slice_index (starts d start_word) address
