-- From one call to the next.
use Rattle.std.proofs.Common.{◌≡◌, ◌≢◌, ℕ, zero, suc, ◌+◌, ◌<◌, List, [], ◌∷◌, ◌++◌, length, refl, ap, ◌∙◌, arith, Some, slice_get}
use Rattle.std.specs.List.{flat_map}
use Rattle.verbs_types.specs.declared.call.Call.{Call}
use Rattle.verbs_types.specs.declared.request.Item.{Item}
use Rattle.noted_history.specs.Posting.{list_of, lists_from}

from_here : (calls : List Call) (place : ℕ) (c : Call) → slice_get calls place ≡ Some c → lists_from calls place ≡ list_of c ++ lists_from calls (place + 1)
from_here [] place c e = absurd (cc e)
from_here (x ∷ calls) zero c e = let same : x ≡ c = cc e in ap (λ (y : Call). list_of y ++ flat_map list_of calls) same
from_here (x ∷ calls) (suc place) c e =
    let next : suc (place + 1) ≡ suc place + 1 = omega arith in
    from_here calls place c e ∙ ap (λ n. list_of c ++ lists_from (x ∷ calls) n) next

-- a call that posts has the next list
pub arrives : (calls : List Call) (place : ℕ) (c : Call) (items : List Item) → slice_get calls place ≡ Some c → list_of c ≡ items ∷ [] → lists_from calls place ≡ items ∷ lists_from calls (place + 1)
arrives calls place c items there is = from_here calls place c there ∙ ap (λ (ls : List (List Item)). ls ++ lists_from calls (place + 1)) is

-- where a list is left, a call is
pub call_left : (calls : List Call) (place : ℕ) → lists_from calls place ≢ [] → place < length calls
call_left [] zero some = absurd (some refl)
call_left [] (suc place) some = absurd (some refl)
call_left (x ∷ calls) zero some = omega arith
call_left (x ∷ calls) (suc place) some = omega (arith, call_left calls place some)
