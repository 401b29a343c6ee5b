-- What a turn of either side asks of its port, and of the words that it looks at.
use Rattle.std.specs.Prelude.{ℕ, ◌≡◌, ◌+◌, ◌*◌, ◌<◌, ◌≤◌, List, length}
use Rattle.bus_core.specs.Port.{Port, HasRoom}
use Rattle.cmd_slots.specs.Question.{inputs, outputs, blocks}

-- a port through which a side of a slot can make its next operation
pub record CanServe {Bus : Type 0} (port : Port Bus) : Type 0 where
  pub room : HasRoom port.room
  pub slots : 17408 ≤ port.words

-- a question of these first words has a word of this number, in its entry or in one of at most four blocks
pub record HasWord (words : List ℕ) (p : ℕ) : Type 0 where
  pub entry : 8 ≤ p → 8 ≤ length words
  pub few_inputs : 8 ≤ p → inputs words ≤ 2
  pub few_outputs : 8 ≤ p → outputs words ≤ 2
  pub inside : 8 ≤ p → p < 8 + 72 * blocks words

-- a question of at most two blocks of input and two of output
pub record IsShape (words : List ℕ) : Type 0 where
  pub long : length words ≡ 8 + 72 * blocks words
  pub few_inputs : inputs words ≤ 2
  pub few_outputs : outputs words ≤ 2
