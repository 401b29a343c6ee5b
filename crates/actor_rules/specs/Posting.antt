-- A thread's operations in a call that posts.
use Rattle.std.specs.Prelude.{ℕ, ◌≡◌, List, length, Option, None, Some, unwrap_or}
use Rattle.bus_core.specs.declared.operation.BusEntry.{BusEntry}
use Rattle.bus_core.specs.Mark.{Marked}
use Rattle.verbs_types.specs.declared.call.Call.{Call}
use Rattle.verbs_types.specs.declared.completion.Queue.{Queue}
use Rattle.verbs_types.specs.declared.completion.Queue.TheVariants.{Send, Recv, Shared}
use Rattle.verbs_types.specs.declared.declaration.Lines.{Lines}
use Rattle.verbs_types.specs.declared.entry.What.{What}
use Rattle.verbs_types.specs.declared.request.Item.{Item}
use Rattle.verbs_rules.specs.Family.{put}
use Rattle.verbs_rules.specs.Same.{same_queue}
use Rattle.counted_ring.specs.Mark.{WqMark}
use Rattle.object_places.specs.Objects.{Mark, OnSends, OnReceives}
use Rattle.provider_post.specs.declared.call.Call as post
use Rattle.provider_post.specs.Call.{mark_of, fresh_call}
use Rattle.provider_post.specs.Rule.{PostRule, MayPostSide, post_side_call, post_side_poster, post_side_entry, post_side_sees}
use Rattle.actor_rules.specs.Thread.{Thread, queue_place}

-- an operation on this queue's words
abbrev pub on_queue : Queue → WqMark → Mark
on_queue (Send qp) mark = OnSends qp mark
on_queue (Recv qp) mark = OnReceives qp mark
on_queue (Shared srq) mark = OnReceives srq mark

-- how far the call to post `count` items has come, which may be about to begin
abbrev pub post_now : Thread → Queue → ℕ → PostRule
post_now t queue count = record { poster = t.posters queue; call = unwrap_or t.posting (fresh_call count) }

pub record MayPost (d : Lines) (t : Thread) (queue : Queue) (items : List Item) (x : Marked Mark) : Type 0 where
  pub mark_is : x.mark ≡ on_queue queue (mark_of (post_now t queue (length items)).call)
  pub goes_on : MayPostSide (queue_place d queue) queue items (post_now t queue (length items)) x.entry

-- the calls that are left, where a call has come so far or is over
abbrev pub calls_after_post : Option post.Call → List Call → List Call → List Call
calls_after_post None calls rest = rest
calls_after_post (Some call) calls rest = calls

abbrev pub after_post : Lines → Thread → Queue → List Item → BusEntry → List Call → Thread
after_post d t queue items e rest = record t { calls = calls_after_post (post_side_call (queue_place d queue) (post_now t queue (length items)) e) t.calls rest; posting = post_side_call (queue_place d queue) (post_now t queue (length items)) e; posters = put same_queue t.posters queue (post_side_poster (queue_place d queue) (post_now t queue (length items)) e) }

abbrev pub post_says : Lines → Thread → Queue → List Item → BusEntry → Option What
post_says d t queue items e = post_side_entry (queue_place d queue) queue items (post_now t queue (length items)) e

-- the tail that the queue's poster has loaded last
abbrev pub post_sees : Lines → Thread → Queue → ℕ → BusEntry → ℕ
post_sees d t queue count e = post_side_sees (queue_place d queue) (post_now t queue count) e
