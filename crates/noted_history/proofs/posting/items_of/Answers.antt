-- The first items of a call's list are those of its first requests.
use Rattle.std.proofs.Common.{◌≡◌, ℕ, List, [], ◌∷◌, length, map, take, min, sym, ap, ◌∙◌}
use Rattle.std.proofs.lemmas.List.{take-map, take_min}
use Rattle.std.proofs.lemmas.Result.{IfOk-weaker}
use Rattle.verbs_types.specs.declared.call.Call.{Call}
use Rattle.verbs_types.specs.declared.request.Item.{Item}
use Rattle.verbs_types.specs.declared.request.Item.TheVariants.{Request as TheRequest, Receive as TheReceive}
use Rattle.noted_history.specs.Posting.{list_of}
use Rattle.noted_history.proofs.posting.items_of.Goals as goal

first_items : {X : Type 0} (f : X → Item) (xs all : List X) (count most long : ℕ) (call : Call) (items : List Item)
    → most ≡ min count long → long ≡ length xs → all ≡ xs → list_of call ≡ map f xs ∷ [] → list_of call ≡ items ∷ [] → map f (take most all) ≡ take count items
first_items f xs all count most long call items most_is long_is all_is list list_is =
    let whole : map f xs ≡ items = cc in
    let few : take most all ≡ take count xs = ap (take most) all_is ∙ (ap (λ n. take n xs) (most_is ∙ ap (min count) long_is) ∙ take_min count xs) in
    ap (map f) few ∙ (sym (take-map f count xs) ∙ ap (take count) whole)

pub returns-in-Post : goal.returns-in-Post
returns-in-Post c = λ items list_is.
    IfOk-weaker c.requests_of.result _ _
    (λ v is. is ∙ first_items TheRequest c.in-Post.requests c.as_slice.result.now c.args.count c.min-most.result c.len.result c.args.call.now items c.min-most.ensures c.len.ensures c.as_slice.ensures (ap list_of c.in-Post.is) list_is)
    c.requests_of.ensures

pub returns-in-Recv : goal.returns-in-Recv
returns-in-Recv c = λ items list_is.
    IfOk-weaker c.receives_of.result _ _
    (λ v is. is ∙ first_items TheReceive c.in-Recv.receives c.as_slice-in-Recv.result.now c.args.count c.min-most-in-Recv.result c.len-in-Recv.result c.args.call.now items c.min-most-in-Recv.ensures c.len-in-Recv.ensures c.as_slice-in-Recv.ensures (ap list_of c.in-Recv.is) list_is)
    c.receives_of.ensures
