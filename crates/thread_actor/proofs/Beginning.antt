-- Calls that begin, and calls that go on.
use Rattle.std.proofs.Common.{◌≡◌, ℕ, zero, suc, ◌<◌, ◌≤◌, arith, refl, sym, ap, ◌∙◌, subst, List, [], ◌∷◌, length, slice_get, Option, None, Some, is_some, unwrap_or}
use Rattle.std.specs.List.{AllByRecursion}
use Rattle.verbs_types.specs.declared.request.Item.{Item}
use Rattle.counted_ring.specs.PosterView.{PosterTask}
use Rattle.provider_post.specs.declared.call.Call as post
use Rattle.provider_post.specs.Call.{fresh_call}
use Rattle.provider_post.specs.Item.{CanTake}
use Rattle.provider_post.specs.Side.{PostView, IsListOf, IsListIn, IsNext}
use Rattle.thread_actor.specs.Posts.{MayGoOn, begun}
use Rattle.thread_actor.proofs.Resting.{each_at}

listed_at : (side : PostView) (items : List Item) (call : Option post.Call) → side.call ≡ call → MayGoOn side items → IsListIn side.poster side.queue items (Some (unwrap_or call (fresh_call (length items))))
listed_at side items None is may = let begins = may.begins is in record {
  count = refl;
  taken = λ k item found. each_at (CanTake side.poster.place) items k item found begins.taken;
  next = subst (λ (task : Option PosterTask). IsNext side.poster.place side.queue side.poster.side.index (slice_get items 0) task) (sym begins.task) tt;
}
listed_at side items (Some c) is may = subst (λ (call : Option post.Call). IsListIn side.poster side.queue items call) is may.list

-- the list of a call that has begun
pub begun_list : (side : PostView) (items : List Item) → MayGoOn side items → IsListOf (begun side (length items)) items
begun_list side items may = listed_at side items side.call refl may
