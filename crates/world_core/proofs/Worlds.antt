-- The world after one more turn.
use Rattle.std.proofs.Common.{◌≡◌, ap, inl, inr, ℕ, zero, suc, ◌++◌, [], ◌∷◌}
use Rattle.device_engine.specs.Counts.{CountsGrow}
use Rattle.scenario_text.specs.declared.scenario.ScenarioParts.{ScenarioParts}
use Rattle.world_core.specs.Holding.{Holds}
use Rattle.world_core.specs.Run.{RunView, Turns}
use Rattle.world_core.proofs.Turning.{adapter_holds, thread_holds, rest_holds}

pub turn_holds : (s : ScenarioParts) (old new : RunView) (actor : ℕ) → CountsGrow → Holds s old → Turns old new actor → Holds s new
turn_holds s old new zero grow h turns = adapter_holds s old new h turns grow
turn_holds s old new (suc t) grow h turns = elim turns [
  | inl moves ↦ thread_holds s old new t h moves
  | inr rests ↦ rest_holds s old new t h rests
]

pub one_turn : (old new : RunView) (actor : ℕ) → Turns old new actor → new.turns ≡ old.turns ++ actor ∷ []
one_turn old new zero turns = turns.turns
one_turn old new (suc t) turns = elim turns [
  | inl moves ↦ moves.turns
  | inr rests ↦ ap (λ (v : RunView). v.turns) rests.new_is
]
