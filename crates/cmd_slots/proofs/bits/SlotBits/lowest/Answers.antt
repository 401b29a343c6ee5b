use Rattle.std.proofs.Common.{◌≡◌, ◌<◌, ◌^◌, ℕ, ap, subst, Some}
use Rattle.std.specs.Int.{w32, trailing_zeros}
use Rattle.cmd_slots.specs.BitsView.{BitsView, IsLowest}
use Rattle.cmd_slots.proofs.Found.{lowest_bit}
use Rattle.cmd_slots.proofs.bits.SlotBits.lowest.Goals as goal

pub returns-else-self-eq0 : goal.returns-else-self-eq0
returns-else-self-eq0 c =
    let bits : ℕ = c.self.inside.bits in
    let small : bits < 2 ^ 32 = search in
    let same : bits ≡ c.args.self.now.bits = ap (λ (v : BitsView). v.bits) c.self.view_is in
    subst (λ (now : ℕ). IsLowest now (Some (trailing_zeros w32 bits))) same (lowest_bit bits c.if-self-eq0.false small)
