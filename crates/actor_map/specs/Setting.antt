-- Words that are set one after another in a bus that has made no operation.
use Rattle.std.specs.Prelude.{ℕ, ◌≡◌, ◌+◌, ◌≤◌, ◌^◌, ◌++◌, List, [], length, take, drop}
use Rattle.bus_core.specs.Plain.{Plain}

-- these words stand from this word on, and all others are as they were
pub record Sets (old new : Plain) (from : ℕ) (words : List ℕ) (behind : ℕ) : Type 0 where
  pub behind_is : behind ≡ from + length words
  pub set : take behind new.start ≡ take from old.start ++ words
  pub kept : drop behind new.start ≡ drop behind old.start
  pub long : length new.start ≡ length old.start
  pub rest : new ≡ record old { start = new.start }

-- a bus in which `count` words from this one on can be set
pub record CanSet (bus : Plain) (from : ℕ) (count : ℕ) : Type 0 where
  pub empty : bus.trace ≡ []
  pub inside : from + count ≤ length bus.start
  pub few : from + count ≤ 2 ^ 24
