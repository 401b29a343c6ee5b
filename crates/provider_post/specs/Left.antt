-- How many turns a call to post takes at most from here on.
use Rattle.std.specs.Prelude.{ℕ, ◌+◌, ◌-◌, ◌*◌, Bool, true, false, Option, Some, None}
use Rattle.counted_ring.specs.Poster.{Stage, Ready, Storing, Naming, Counting, Ringing}
use Rattle.counted_ring.specs.PosterView.{stage_turns}
use Rattle.provider_post.specs.declared.call.Call.{Call}
use Rattle.provider_post.specs.Call.{is_written}

-- where all is written: the record and then the register are to be stored
abbrev pub ring_left : (recorded : Bool) → Stage → ℕ
ring_left true stage = 1
ring_left false Ringing = 3
ring_left false _ = 2

-- an item takes 36 at most, and the ring two
abbrev pub left_by : (written recorded : Bool) → Stage → (items : ℕ) → ℕ
left_by true recorded stage items = ring_left recorded stage
left_by false recorded stage items = stage_turns stage + 36 * (items - 1) + 2

abbrev pub post_left : Stage → Call → ℕ
post_left stage c = left_by (is_written c) c.recorded stage (c.count - c.accepted)

abbrev pub left_of : Stage → Option Call → ℕ
left_of stage None = 0
left_of stage (Some c) = post_left stage c
