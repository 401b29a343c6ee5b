use Rattle.std.proofs.Common.{◌≡◌, ◌-◌, ◌*◌, ◌%◌, ◌<◌, ◌^◌, ℕ, bit_and, ap, subst}
use Rattle.cmd_slots.specs.BitsView.{BitsView, Cleared}
use Rattle.cmd_slots.proofs.Found.{cleared}
use Rattle.cmd_slots.proofs.bits.SlotBits.clear.Goals as goal

pub returns-clause-found : goal.returns-clause-found
returns-clause-found c =
    let bits : ℕ = c.self.inside.bits in
    let small : bits < 2 ^ 32 = search in
    let same : bits ≡ c.args.self.now.bits = ap (λ (v : BitsView). v.bits) c.self.view_is in
    let new : ℕ = bit_and bits (4294967295 - 1 * 2 ^ c.args.slot % 4294967296) in
    subst (λ (old : ℕ). Cleared c.args.slot old new) same (cleared bits c.args.slot small c.requires)
