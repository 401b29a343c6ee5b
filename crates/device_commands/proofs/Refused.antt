-- A refused command changes nothing.
use Rattle.std.proofs.Common.{◌≡◌, ◌≢◌, refl, Option, Some, None}
use Rattle.device_commands.specs.declared.refusal.Refusal.{Refusal}
use Rattle.device_commands.specs.Rules.{refusal_of, status_in}
use Rattle.device_commands.specs.Tables.{Tables}
use Rattle.device_commands.specs.Effect.{effect, unless_refused}
use Rattle.device_commands.specs.Laws.{RefusalsChangeNothing}

stays : (refusal : Option Refusal) (old new : Tables) → status_in refusal ≢ 0 → unless_refused refusal old new ≡ old
stays None old new refused = absurd (refused refl)
stays (Some refusal) old new refused = refl

pub refusals_change_nothing : RefusalsChangeNothing
refusals_change_nothing t c refused = stays (refusal_of t c) t (effect t c) refused
