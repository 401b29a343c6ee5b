use Rattle.std.proofs.Common.{ℕ, ◌*◌, ◌%◌, ◌^◌, List, [], ◌∷◌, subst}
use Rattle.actor_map.specs.Setting.{Sets}
use Rattle.actor_map.specs.Start.{entries, no_arm}
use Rattle.actor_map.proofs.Setting.{sets_both}
use Rattle.actor_map.proofs.start.set_cq.Goals as goal

pub returns : goal.returns
returns c =
    let l = c.args.line.now in
    let owners : Sets c.args.bus.now c.set_entries-next.new.bus c.args.next (entries (2 * 2 ^ l.ceiling) 240) c.set_entries-next.result =
    subst (λ n. Sets c.args.bus.now c.set_entries-next.new.bus c.args.next (entries (2 * n) 240) c.set_entries-next.result) c.places.ensures c.set_entries-next.ensures
    in
    sets_both c.args.bus.now c.set_entries-next.new.bus c.set_words.new.bus c.args.next c.set_entries-next.result c.set_words.result (entries (2 * 2 ^ l.ceiling) 240)
    ((l.start % 2 ^ 24) ∷ (l.start % 2 ^ 24) ∷ no_arm ∷ 0 ∷ []) owners c.set_words.ensures
