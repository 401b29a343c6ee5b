-- Objects that are placed one after another.
use Rattle.std.specs.Prelude.{ℕ, ◌≡◌, ◌+◌, List, ◌++◌}
use Rattle.std.specs.List.{sum}
use Rattle.actor_map.specs.declared.placed.Placed.{Placed}
use Rattle.actor_map.specs.Sizes.{firsts}

-- objects of these sizes were placed behind those before
pub record Places (old new : Placed) (sizes : List ℕ) : Type 0 where
  pub first_words : new.first_words.items ≡ old.first_words.items ++ firsts old.next sizes
  pub next : new.next ≡ old.next + sum sizes
