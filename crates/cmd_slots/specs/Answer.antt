-- The words in which a command is answered.
use Rattle.std.specs.Prelude.{ℕ, zero, suc, ◌≡◌, ◌+◌, ◌-◌, ◌*◌, ◌/◌, ◌%◌, ◌<◌, ◌==◌, ◌&&◌, ◌++◌, nat_le, nat_lt, min, Bool, true, false, if◌then◌else◌, List, [], ◌∷◌, length, take, drop, slice_index, None, Result, Ok, Err}
use Rattle.prm_fields.specs.Bits.{field_value}
use Rattle.prm_fields.specs.Refusal.{first_refusal}
use Rattle.cmd_format.specs.Signature.{exclusive_or}
use Rattle.cmd_format.specs.Block.{block_rules, blocks_of}
use Rattle.cmd_bodies.specs.declared.command.Command.{Command}
use Rattle.cmd_bodies.specs.declared.command.Command.TheVariants.{ReturnPages}
use Rattle.cmd_bodies.specs.Reply.{IsReplyTo, HasReply, listed_of}
use Rattle.cmd_slots.specs.declared.answer.Answer.{Answer}
use Rattle.cmd_slots.specs.declared.answer.Answer.TheVariants.{Delivered, Refused}
use Rattle.cmd_slots.specs.Place.{entry_word, block_word}
use Rattle.cmd_slots.specs.Bytes.{bytes_of}
use Rattle.cmd_slots.specs.Refusal.{delivery_in, delivery_for}
use Rattle.cmd_slots.specs.Question.{token}

-- the answer is one to what was read: a reply to the command, or the answer that refuses it
abbrev pub Answers : Result Command Answer → Answer → Type 0
Answers (Ok c) (Delivered reply) = IsReplyTo c reply
Answers (Ok c) (Refused fault) = ⊥
Answers (Err refusal) answer = answer ≡ refusal

-- how many output blocks an answer fills: those of its page list
abbrev pub answer_blocks : Answer → ℕ
answer_blocks (Delivered reply) = blocks_of (8 * listed_of reply)
answer_blocks (Refused fault) = 0

-- The words of an answer are words 4, 5 and 7 of the entry, and then those of the output blocks. This is the address of word p.
unfoldable pub answer_word : ℕ → ℕ → ℕ
answer_word slot p =
    if nat_lt p 2 then entry_word slot (4 + p)
    else if p == 2 then entry_word slot 7
    else block_word slot (2 + (p - 3) / 72) ((p - 3) % 72)

-- word k of the page list
abbrev pub listed_word : List ℕ → ℕ → ℕ
listed_word words k = slice_index words (3 + (72 * (k / 64) + k % 64))

unfoldable pub listed_words : List ℕ → ℕ → ℕ → List ℕ
listed_words words k zero = []
listed_words words k (suc more) = listed_word words k ∷ listed_words words (k + 1) more

-- the output in an answer's words: 16 bytes of the entry, and then the page list
abbrev pub output_words : List ℕ → ℕ → List ℕ
output_words words listed = slice_index words 0 ∷ slice_index words 1 ∷ listed_words words 0 listed

-- the entry after the answer
abbrev pub answered_entry : List ℕ → List ℕ → List ℕ
answered_entry entry words = take 4 entry ++ (slice_index words 0 ∷ slice_index words 1 ∷ slice_index entry 6 ∷ slice_index words 2 ∷ [])

abbrev pub Carries : Answer → List ℕ → Type 0
Carries (Delivered reply) words = HasReply reply (bytes_of (output_words words (listed_of reply)))
Carries (Refused fault) words = Unit {0}

-- The words answer the question of this entry so: the last word of the entry gives it back with the delivery status, entry and blocks have new signatures, and the output is the reply.
pub record IsAnswer (entry : List ℕ) (answer : Answer) (words : List ℕ) : Type 0 where
  pub long : length words ≡ 3 + 72 * answer_blocks answer
  pub software : slice_index words 2 % 2 ≡ 0
  pub status : delivery_in (slice_index words 2) ≡ delivery_for answer
  pub signed : exclusive_or (bytes_of (answered_entry entry words)) ≡ 255
  pub blocks : (b : ℕ) → b < answer_blocks answer → first_refusal (block_rules (token entry) b (bytes_of (take 72 (drop (3 + 72 * b) words)))) ≡ None
  pub carries : Carries answer words

-- A host reads words 4 and 5 of the entry, and then the page list. This is the address of word k that it reads.
unfoldable pub output_word : ℕ → ℕ → ℕ
output_word slot k =
    if nat_lt k 2 then entry_word slot (4 + k)
    else block_word slot (2 + (k - 2) / 64) ((k - 2) % 64)

abbrev pub lists_pages : Command → Bool
lists_pages (ReturnPages count) = true
lists_pages _ = false

-- how many addresses there are to read behind these words, at most 88
abbrev pub listed_behind : Command → List ℕ → ℕ
listed_behind c words =
    if lists_pages c && (field_value (bytes_of words) 0 8 == 0) then min (field_value (bytes_of words) 64 32) 88 else 0

-- whether all words of the output are there
abbrev pub is_output : Command → List ℕ → Bool
is_output c words = nat_le (2 + listed_behind c words) (length words)
