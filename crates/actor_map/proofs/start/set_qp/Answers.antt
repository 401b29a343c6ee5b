use Rattle.std.proofs.Common.{ℕ, ◌+◌, ◌%◌, ◌^◌, List, [], ◌∷◌, replicate, subst}
use Rattle.actor_map.specs.Setting.{Sets}
use Rattle.actor_map.specs.Sizes.{receive_words, send_words}
use Rattle.actor_map.proofs.Setting.{sets_both}
use Rattle.actor_map.proofs.start.set_qp.Goals as goal

pub returns : goal.returns
returns c =
    let l = c.args.line.now in
    let zeros : Sets c.args.bus.now c.set_zeros-next.new.bus c.args.next (replicate {A = ℕ} (send_words l + receive_words l) 0) c.set_zeros-next.result =
    subst (λ n. Sets c.args.bus.now c.set_zeros-next.new.bus c.args.next (replicate {A = ℕ} n 0) c.set_zeros-next.result) (λ i. c.send_words.ensures i + c.receive_words.ensures i) c.set_zeros-next.ensures
    in
    sets_both c.args.bus.now c.set_zeros-next.new.bus c.set_words.new.bus c.args.next c.set_zeros-next.result c.set_words.result (replicate {A = ℕ} (send_words l + receive_words l) 0)
    ((l.start % 2 ^ 16) ∷ (l.start % 2 ^ 16) ∷ 0 ∷ []) zeros c.set_words.ensures
