use Rattle.std.proofs.Common.{◌≡◌, ◌%◌, ◌^◌, ◌∙◌, sym, map, ap, subst, Some}
use Rattle.std.specs.Prelude.{slice_get}
use Rattle.verbs_types.specs.declared.completion.Queue.{Queue}
use Rattle.verbs_types.specs.declared.request.Item.TheVariants.{Request as TheRequest}
use Rattle.counted_ring.specs.Place.{entry_words}
use Rattle.counted_ring.specs.PosterView.{Posting}
use Rattle.provider_post.specs.Side.{IsNext}
use Rattle.provider_post.specs.Queued.{next_of}
use Rattle.provider_post.proofs.Calls.{low_bits}
use Rattle.provider_post.proofs.Entries.{spans_of, next_send}
use Rattle.provider_post.proofs.Items.{begun_none, begun_with, can_take, item_read}
use Rattle.provider_post.proofs.post.begin_next.Goals as goal

pub returns-in_default : goal.returns-in_default
returns-in_default c = begun_none c.args.side.now _ (sym c.next_item.ensures.next ∙ c.in_default.is) c.requires.list

pub encode_send-entry-requires-clause-carried : goal.encode_send-entry-requires-clause-carried
encode_send-entry-requires-clause-carried c =
    let side = c.args.side.now in
    let r = c.index-list-place.result in
    let next : next_of side ≡ Some c.in-Some.place = sym c.next_item.ensures.next ∙ c.in-Some.is in
    can_take side (map TheRequest c.args.list.now) c.in-Some.place next c.requires.list (TheRequest r) (item_read TheRequest side c.args.list.now c.in-Some.place r c.requires.busy c.requires.list c.in-Some.ensures.below c.index-list-place.is)

pub begin_item-requires-clause-blocks : goal.begin_item-requires-clause-blocks
begin_item-requires-clause-blocks c = spans_of c.args.side.now.poster.place _ c.encode_send-entry.result c.requires.side.register c.encode_send-entry.ensures

pub returns : goal.returns
returns c =
    let side = c.args.side.now in
    let r = c.index-list-place.result in
    let entry = c.encode_send-entry.result in
    let next : next_of side ≡ Some c.in-Some.place = sym c.next_item.ensures.next ∙ c.in-Some.is in
    let found : slice_get (map TheRequest c.args.list.now) c.in-Some.place ≡ Some (TheRequest r) = item_read TheRequest side c.args.list.now c.in-Some.place r c.requires.busy c.requires.list c.in-Some.ensures.below c.index-list-place.is in
    let is_next = next_send side.poster.place c.args.number side.poster.side.index _ _ r entry found (low_bits c.index.result ∙ ap (λ n. n % 2 ^ 16) c.index.ensures) c.encode_send-entry.ensures in
    begun_with side (map TheRequest c.args.list.now) c.in-Some.place next c.requires.list c.begin_item.new.self (entry_words side.poster.place entry) r.id c.begin_item.ensures
    (subst (λ (q : Queue). IsNext side.poster.place q side.poster.side.index (slice_get (map TheRequest c.args.list.now) c.in-Some.place) (Some (Posting (entry_words side.poster.place entry) r.id))) (sym c.requires.side.queue) is_next)
