use Rattle.std.proofs.Common.{ℕ, ◌^◌, List, [], ◌∷◌, subst}
use Rattle.actor_map.specs.Setting.{Sets}
use Rattle.actor_map.specs.Start.{entries}
use Rattle.actor_map.proofs.Setting.{sets_both}
use Rattle.actor_map.proofs.start.set_eq.Goals as goal

pub returns : goal.returns
returns c =
    let owners : Sets c.args.bus.now c.set_entries-next.new.bus c.args.next (entries (2 ^ c.args.line.now.log) 1) c.set_entries-next.result =
    subst (λ n. Sets c.args.bus.now c.set_entries-next.new.bus c.args.next (entries n 1) c.set_entries-next.result) c.places.ensures c.set_entries-next.ensures
    in
    sets_both c.args.bus.now c.set_entries-next.new.bus c.set_words.new.bus c.args.next c.set_entries-next.result c.set_words.result (entries (2 ^ c.args.line.now.log) 1) (0 ∷ 0 ∷ []) owners c.set_words.ensures
