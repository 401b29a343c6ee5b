-- How far a call has come.
use Rattle.std.proofs.Common.{◌≡◌, ◌≢◌, ℕ, ◌%◌, ◌^◌, ◌<◌, ◌≤◌, arith, false, eqb, List, length}
use Rattle.std.specs.Prelude.{bit_and, is_some}
use Rattle.std.proofs.lemmas.Bool.{or_parts, eqb-false}
use Rattle.std.proofs.lemmas.Nat.{and_mask}
use Rattle.verbs_types.specs.declared.request.Request.{Request}
use Rattle.provider_post.specs.declared.call.Call.{Call}
use Rattle.provider_post.specs.Call.{is_written}

-- a request is left of a call that is not written
pub one_left : (c : Call) → is_written c ≡ false → c.accepted ≤ c.count → c.accepted < c.count
one_left c left some =
    let apart : c.accepted ≢ c.count = eqb-false c.accepted c.count (or_parts (eqb c.accepted c.count) (is_some c.refused) left).0 in
    omega (arith, some, apart)

pub below : (c : Call) (list : List Request) → is_written c ≡ false → c.accepted ≤ c.count → length list ≡ c.count → c.accepted < length list
below c list left some count = omega (arith, one_left c left some, count)

pub low_bits : (index : ℕ) → bit_and index 65535 ≡ index % 2 ^ 16
low_bits index = and_mask index 16
