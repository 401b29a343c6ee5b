use Rattle.std.proofs.Common.{ℕ, ◌-◌, [], ◌∷◌, replicate}
use Rattle.actor_map.specs.declared.sizes.TheConstants.{FIRST_OBJECT}
use Rattle.actor_map.proofs.Setting.{sets_both}
use Rattle.actor_map.proofs.start.set_head.Goals as goal

pub returns : goal.returns
returns c =
    sets_both c.args.bus.now c.set_words-next.new.bus c.set_zeros.new.bus 0 c.set_words-next.result c.set_zeros.result (c.args.start_word ∷ 0 ∷ 0 ∷ 86 ∷ 0 ∷ 2147483648 ∷ [])
    (replicate {A = ℕ} (FIRST_OBJECT - 6) 0) c.set_words-next.ensures c.set_zeros.ensures
