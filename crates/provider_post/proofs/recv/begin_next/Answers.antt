use Rattle.std.proofs.Common.{◌≡◌, ℕ, ◌≤◌, length, ◌∙◌, sym, map, subst, Some}
use Rattle.std.specs.Prelude.{slice_get}
use Rattle.verbs_types.specs.declared.completion.Queue.{Queue}
use Rattle.verbs_types.specs.declared.request.Item.TheVariants.{Receive as TheReceive}
use Rattle.work_entries.specs.Receive.{room_of}
use Rattle.counted_ring.specs.Place.{entry_words}
use Rattle.counted_ring.specs.PosterView.{Posting}
use Rattle.provider_post.specs.Side.{IsNext}
use Rattle.provider_post.specs.Queued.{next_of}
use Rattle.provider_post.proofs.Entries.{next_receive}
use Rattle.provider_post.proofs.Items.{begun_none, begun_with, can_take, item_read}
use Rattle.provider_post.proofs.recv.begin_next.Goals as goal

pub returns-in_default : goal.returns-in_default
returns-in_default c = begun_none c.args.side.now _ (sym c.next_item.ensures.next ∙ c.in_default.is) c.requires.list

pub entry_of-requires-clause-room : goal.entry_of-requires-clause-room
entry_of-requires-clause-room c =
    let side = c.args.side.now in
    let r = c.index-list-place.result in
    let next : next_of side ≡ Some c.in-Some.place = sym c.next_item.ensures.next ∙ c.in-Some.is in
    let can = can_take side (map TheReceive c.args.list.now) c.in-Some.place next c.requires.list (TheReceive r) (item_read TheReceive side c.args.list.now c.in-Some.place r c.requires.busy c.requires.list c.in-Some.ensures.below c.index-list-place.is) in
    subst (λ (n : ℕ). length r.sges ≤ room_of n) c.requires.side.stride_is can.room

pub entry_of-requires-clause-real : goal.entry_of-requires-clause-real
entry_of-requires-clause-real c =
    let side = c.args.side.now in
    let r = c.index-list-place.result in
    let next : next_of side ≡ Some c.in-Some.place = sym c.next_item.ensures.next ∙ c.in-Some.is in
    let can = can_take side (map TheReceive c.args.list.now) c.in-Some.place next c.requires.list (TheReceive r) (item_read TheReceive side c.args.list.now c.in-Some.place r c.requires.busy c.requires.list c.in-Some.ensures.below c.index-list-place.is) in
    can.real

pub returns : goal.returns
returns c =
    let side = c.args.side.now in
    let r = c.index-list-place.result in
    let entry = c.entry_of.result in
    let next : next_of side ≡ Some c.in-Some.place = sym c.next_item.ensures.next ∙ c.in-Some.is in
    let found : slice_get (map TheReceive c.args.list.now) c.in-Some.place ≡ Some (TheReceive r) = item_read TheReceive side c.args.list.now c.in-Some.place r c.requires.busy c.requires.list c.in-Some.ensures.below c.index-list-place.is in
    let is_next = next_receive side.poster.place c.requires.side.number side.poster.side.index c.args.stride _ r entry found c.requires.side.stride_is c.entry_of.ensures in
    begun_with side (map TheReceive c.args.list.now) c.in-Some.place next c.requires.list c.begin_item.new.self (entry_words side.poster.place entry) r.id c.begin_item.ensures
    (subst (λ (q : Queue). IsNext side.poster.place q side.poster.side.index (slice_get (map TheReceive c.args.list.now) c.in-Some.place) (Some (Posting (entry_words side.poster.place entry) r.id))) (sym c.requires.side.queue) is_next)
