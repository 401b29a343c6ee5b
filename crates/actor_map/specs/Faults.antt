-- Why there is no map.
use Rattle.std.specs.Prelude.{◌≡◌, ◌^◌, ◌<◌}
use Rattle.verbs_types.specs.declared.declaration.Lines.{Lines}
use Rattle.actor_map.specs.declared.map.MapFault.{MapFault}
use Rattle.actor_map.specs.declared.map.MapFault.TheVariants.{TooManyWords, NoMemory}
use Rattle.actor_map.specs.Sizes.{words_of}

abbrev pub Refuses : Lines → MapFault → Type 0
Refuses d (TooManyWords words) = (words ≡ words_of d) × (2 ^ 20 < words)
Refuses d NoMemory = Unit {0}
