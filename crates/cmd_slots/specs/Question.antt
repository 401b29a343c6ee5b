-- The words in which a command is asked, and what the adapter makes of them.
use Rattle.std.specs.Prelude.{ℕ, zero, suc, ◌≡◌, ◌+◌, ◌-◌, ◌*◌, ◌/◌, ◌%◌, ◌==◌, ◌&&◌, ◌++◌, nat_le, nat_lt, Bool, true, false, if◌then◌else◌, List, [], ◌∷◌, length, take, drop, slice_index, slice_range, Option, Some, None, Result, Ok, Err}
use Rattle.prm_fields.specs.Bits.{field_value}
use Rattle.prm_fields.specs.Refusal.{Rule, rule, first_refusal}
use Rattle.cmd_format.specs.declared.delivery.Delivery.{Delivery}
use Rattle.cmd_format.specs.declared.delivery.Delivery.TheVariants.{InputPointer, OutputPointer}
use Rattle.cmd_format.specs.Entry.{entry_rules}
use Rattle.cmd_format.specs.Block.{block_rules, blocks_of, tail_of}
use Rattle.cmd_bodies.specs.declared.decoder.BodyFault.{BodyFault}
use Rattle.cmd_bodies.specs.declared.decoder.BodyFault.TheVariants.{BadOpcode}
use Rattle.cmd_bodies.specs.declared.command.Command.{Command}
use Rattle.cmd_bodies.specs.Fault.{body_status}
use Rattle.cmd_bodies.specs.Kind.{kind_of_code}
use Rattle.cmd_bodies.specs.Command.{body_rules, code_at, command_at}
use Rattle.cmd_slots.specs.declared.answer.Answer.{Answer}
use Rattle.cmd_slots.specs.declared.answer.Answer.TheVariants.{Delivered, Refused}
use Rattle.cmd_slots.specs.Place.{entry_word, block_word, block_address}
use Rattle.cmd_slots.specs.Bytes.{bytes_of}
use Rattle.cmd_slots.specs.Refusal.{refusal_with}

-- the entry, which comes first, and what its fields say
abbrev pub entry_of : List ℕ → List ℕ
entry_of words = bytes_of (take 8 words)

abbrev pub in_len : List ℕ → ℕ
in_len words = field_value (entry_of words) 32 32

abbrev pub out_len : List ℕ → ℕ
out_len words = field_value (entry_of words) 448 32

abbrev pub token : List ℕ → ℕ
token words = field_value (entry_of words) 480 8

-- how many blocks input and output take behind their first 16 bytes
abbrev pub inputs : List ℕ → ℕ
inputs words = blocks_of (in_len words - 16)

abbrev pub outputs : List ℕ → ℕ
outputs words = blocks_of (out_len words - 16)

abbrev pub blocks : List ℕ → ℕ
blocks words = inputs words + outputs words

-- the bytes of block b; the blocks of input come first
abbrev pub block_of : List ℕ → ℕ → List ℕ
block_of words b = bytes_of (take 72 (drop (8 + 72 * b) words))

-- which block of its input or output it is, and which block of its slot
abbrev pub number_in : ℕ → ℕ → ℕ
number_in inputs b = if nat_lt b inputs then b else b - inputs

abbrev pub block_in_slot : ℕ → ℕ → ℕ
block_in_slot inputs b = if nat_lt b inputs then b else 2 + (b - inputs)

-- the address of word p of a question
unfoldable pub question_word : ℕ → List ℕ → ℕ → ℕ
question_word slot words p =
    if nat_lt p 8 then entry_word slot p
    else block_word slot (block_in_slot (inputs words) ((p - 8) / 72)) ((p - 8) % 72)

-- the pointer that leads to block b: the entry's, or that of the block before it
abbrev pub pointer_to : List ℕ → ℕ → ℕ
pointer_to words b =
    if b == inputs words then field_value (entry_of words) 384 64
    else if b == 0 then field_value (entry_of words) 64 64
    else field_value (tail_of (block_of words (b - 1))) 384 64

abbrev pub wrong_pointer : ℕ → ℕ → Delivery
wrong_pointer inputs b = if nat_lt b inputs then InputPointer else OutputPointer

abbrev pub pointer_rule : ℕ → List ℕ → ℕ → Rule Delivery
pointer_rule slot words b = rule (pointer_to words b == block_address slot (block_in_slot (inputs words) b)) (wrong_pointer (inputs words) b)

-- What entry and blocks must keep, in the order in which it is judged: the entry, and then of each block the pointer and the block.
unfoldable pub rules_before : ℕ → List ℕ → ℕ → List (Rule Delivery)
rules_before slot words zero = entry_rules (entry_of words)
rules_before slot words (suc b) = rules_before slot words b ++ (pointer_rule slot words b ∷ block_rules (token words) (number_in (inputs words) b) (block_of words b))

-- so much is judged when b blocks are there: of a further one its pointer
abbrev pub judged : ℕ → List ℕ → ℕ → List (Rule Delivery)
judged slot words b = rules_before slot words b ++ (if nat_lt b (blocks words) then pointer_rule slot words b ∷ [] else [])

-- the input: 16 bytes of the entry, and then those of the blocks
abbrev pub input_of : List ℕ → List ℕ
input_of words = take (in_len words) (slice_range (entry_of words) 16 32 ++ take 512 (block_of words 0) ++ take 512 (block_of words 1))

-- a command of the row that was found, unless something is refused
abbrev pub body_with : {Row : Type 0} → (Row → Command) → Option BodyFault → Option Row → Result Command Answer
body_with command_in (Some fault) row = Err (Delivered (refusal_with (body_status fault)))
body_with command_in None None = Err (Delivered (refusal_with (body_status BadOpcode)))
body_with command_in None (Some row) = Ok (command_in row)

-- the command that an input carries, or the answer that refuses it
unfoldable pub body_of : List ℕ → ℕ → Result Command Answer
body_of input out_len = body_with (λ row. command_at row input) (first_refusal (body_rules input out_len)) (kind_of_code (code_at input))

abbrev pub decided : Option Delivery → Bool → Result Command Answer → Option (Result Command Answer)
decided (Some fault) whole body = Some (Err (Refused fault))
decided None true body = Some body
decided None false body = None

-- a reader judges after the entry and after each block
abbrev pub is_judged : ℕ → Bool
is_judged count = nat_le 8 count && ((count - 8) % 72 == 0)

abbrev pub blocks_in : ℕ → ℕ
blocks_in count = (count - 8) / 72

abbrev pub verdict_with : ℕ → List ℕ → ℕ → Option (Result Command Answer)
verdict_with slot words b = decided (first_refusal (judged slot words b)) (nat_le (blocks words) b) (body_of (input_of words) (out_len words))

-- What the adapter makes of the first words of a question: the command, the answer that refuses it, or nothing while it must read on.
unfoldable pub verdict : ℕ → List ℕ → Option (Result Command Answer)
verdict slot words = if is_judged (length words) then verdict_with slot words (blocks_in (length words)) else None

-- The words ask this command: they are an entry and its blocks, the adapter reads the command in them, and the last word of the entry gives it to the hardware.
pub record IsQuestion (slot : ℕ) (c : Command) (words : List ℕ) : Type 0 where
  pub whole : length words ≡ 8 + 72 * blocks words
  pub spells : verdict slot words ≡ Some (Ok c)
  pub hardware : slice_index words 7 % 2 ≡ 1
