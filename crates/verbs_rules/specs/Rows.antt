-- What each entry needs, beside its actor and living objects, and what it makes. One row an entry.
use Rattle.std.specs.Prelude.{ℕ, ◌+◌, ◌-◌, ◌==◌, ◌&&◌, ◌||◌, Bool, true, false, not, nat_le, nat_lt, min, if◌then◌else◌, List, [], ◌∷◌, ◌++◌, length, drop, Option, None, Some, slice_get}
use Rattle.std.specs.List.{list_all}
use Rattle.verbs_types.specs.declared.request.Body.{Body}
use Rattle.verbs_types.specs.declared.request.Body.TheVariants.{Sges, Inline}
use Rattle.verbs_types.specs.declared.request.Op.{Op}
use Rattle.verbs_types.specs.declared.request.Op.TheVariants.{Nop as NopOp}
use Rattle.verbs_types.specs.declared.request.Request.{Request}
use Rattle.verbs_types.specs.declared.request.Item.{Item}
use Rattle.verbs_types.specs.declared.request.Item.TheVariants.{Request as TheRequest, Receive as TheReceive}
use Rattle.verbs_types.specs.declared.completion.Queue.{Queue}
use Rattle.verbs_types.specs.declared.completion.Queue.TheVariants.{Send, Recv, Shared}
use Rattle.verbs_types.specs.declared.completion.Kind.TheVariants.{Nop, Failed}
use Rattle.verbs_types.specs.declared.completion.Completion.{Completion}
use Rattle.verbs_types.specs.declared.entry.RuleName.TheVariants.{Hand, Count, Content}
use Rattle.verbs_types.specs.declared.state.QpState.{QpState}
use Rattle.verbs_types.specs.declared.state.QpState.TheVariants.{Rts, Err}
use Rattle.verbs_types.specs.declared.state.Unpolled.{Unpolled}
use Rattle.verbs_types.specs.declared.state.QueuePair.{QueuePair}
use Rattle.verbs_types.specs.declared.state.Act.{Act}
use Rattle.verbs_types.specs.declared.state.Act.TheVariants.{Complete}
use Rattle.verbs_rules.specs.Family.{put, same_number}
use Rattle.verbs_types.specs.Lines.{is_between}
use Rattle.verbs_rules.specs.Rules.{Test}
use Rattle.verbs_rules.specs.Same.{same_queue, same_completion, is_front}
use Rattle.verbs_rules.specs.State.{Settled, Verbs}
use Rattle.verbs_rules.specs.OfOne.{WorkQueue, CompletionQueue}

abbrev pub rest_of : {X : Type 0} → List X → List X
rest_of [] = []
rest_of (x ∷ xs) = xs

-- Post: the queue has room for the whole list, and each item fits it

abbrev pub body_fits : ℕ → Body → Bool
body_fits segments (Sges sges) = nat_le (length sges) segments
body_fits segments (Inline bytes) = nat_le (length bytes) 60

-- a send queue holds requests, and any other receives
abbrev pub item_fits : Queue → ℕ → Item → Bool
item_fits (Send qp) segments (TheRequest r) = body_fits segments r.body
item_fits (Recv qp) segments (TheReceive r) = nat_le (length r.sges) segments
item_fits (Shared srq) segments (TheReceive r) = nat_le (length r.sges) segments
item_fits _ segments _ = false

abbrev pub post_needs : Queue → WorkQueue → List Item → List Test
post_needs queue u items =
    record { rule = Count; holds = nat_le (length u.posted + length items - u.retired) u.room }
    ∷ record { rule = Content; holds = nat_lt 0 (length items) && list_all (item_fits queue u.segments) items }
    ∷ []

abbrev pub post : Verbs → Queue → List Item → Verbs
post v queue items = record v { posted = put same_queue v.posted queue (v.posted queue ++ items) }

-- PostFull: as many requests are outstanding as the queue has room for, those of this call included

abbrev pub full_needs : WorkQueue → ℕ → ℕ → ℕ → List Test
full_needs u pending head tail = record { rule = Count; holds = (head == length u.posted + pending) && (tail == u.retired) && (head - tail == u.room) } ∷ []

-- Poll: as many as there are, and no more than were asked for, from the front

abbrev pub poll_needs : CompletionQueue → ℕ → List Completion → List Test
poll_needs c most completions =
    record { rule = Count; holds = is_between 1 16 most && (length completions == min most (length c.unpolled)) }
    ∷ record { rule = Content; holds = is_front completions c.unpolled }
    ∷ []

-- each polled completion adds the number of its request to what its queue is to retire
abbrev pub end : Settled → ℕ → Settled
end s number = record s { ends = s.ends ++ number ∷ [] }

abbrev pub end_all : (Queue → Settled) → List Completion → List Unpolled → Queue → Settled
end_all settled [] us = settled
end_all settled (x ∷ xs) [] = settled
end_all settled (x ∷ xs) (u ∷ us) = end_all (put same_queue settled x.queue (end (settled x.queue) u.number)) xs us

abbrev pub poll : Verbs → ℕ → List Completion → Verbs
poll v cq completions = record v {
  settled = end_all v.settled completions (v.unpolled cq);
  unpolled = put same_number v.unpolled cq (drop (length completions) (v.unpolled cq));
}

-- Retire: the oldest end

abbrev pub is_first : ℕ → List ℕ → Bool
is_first n [] = false
is_first n (m ∷ ms) = n == m

abbrev pub retire_needs : WorkQueue → ℕ → List Test
retire_needs u count = record { rule = Count; holds = is_first count u.ends } ∷ []

abbrev pub retire : Verbs → Queue → ℕ → Verbs
retire v queue count = record v { settled = put same_queue v.settled queue (record { retired = count; ends = rest_of (v.settled queue).ends }) }

-- Ack: the index of the oldest completion that no poll took

abbrev pub ack_needs : CompletionQueue → ℕ → List Test
ack_needs c index = record { rule = Count; holds = index == c.produced - length c.unpolled } ∷ []

abbrev pub ack : Verbs → ℕ → ℕ → Verbs
ack v cq index = record v { acked = put same_number v.acked cq index }

-- Fetch: the next request, with empty hands, of a queue pair that works

abbrev pub is_idle : List Act → Bool
is_idle [] = true
is_idle (act ∷ acts) = false

abbrev pub works : QpState → Bool
works Rts = true
works Err = true
works _ = false

abbrev pub is_nop : Op → Bool
is_nop NopOp = true
is_nop _ = false

-- a request that the adapter can do: until memory and keys are built, a NOP
abbrev pub can_do : Option Item → Bool
can_do (Some (TheRequest r)) = is_nop r.op
can_do _ = false

abbrev pub runs : Verbs → Queue → ℕ → Bool
runs v (Send qp) number = works (v.device.pairs qp).state && can_do (slice_get (v.posted (Send qp)) (number - 1))
runs v (Recv qp) number = false
runs v (Shared srq) number = false

abbrev pub fetch_needs : Verbs → Queue → ℕ → List Test
fetch_needs v queue number =
    record { rule = Hand; holds = is_idle v.device.owed }
    ∷ record { rule = Count; holds = (number == v.device.taken queue + 1) && nat_le number (length (v.posted queue)) }
    ∷ record { rule = Content; holds = runs v queue number }
    ∷ []

-- 0 is success, 5 is `IBV_WC_WR_FLUSH_ERR`
abbrev pub status_of : QpState → ℕ
status_of Err = 5
status_of _ = 0

-- the completion of a NOP, which is wanted or has failed
abbrev pub nop_completion : ℕ → ℕ → ℕ → Completion
nop_completion qp id status = record {
  queue = Send qp;
  qp = qp;
  id = id;
  status = status;
  kind = if status == 0 then Nop else Failed;
  len = 0;
  imm = None;
  solicited = not (status == 0);
}

-- a request that succeeds without a wish for a completion owes none
abbrev pub completion_owed : QueuePair → ℕ → ℕ → Request → List Act
completion_owed pair qp number r =
    if r.wanted || not (status_of pair.state == 0) then
    Complete pair.send_cq (record { completion = nop_completion qp r.id (status_of pair.state); number = number }) ∷ []
    else []

abbrev pub acts_of : QueuePair → ℕ → ℕ → Option Item → List Act
acts_of pair qp number (Some (TheRequest r)) = completion_owed pair qp number r
acts_of pair qp number _ = []

abbrev pub fetch : Verbs → Queue → ℕ → Verbs
fetch v (Send qp) number = record v {
  device = record v.device {
    taken = put same_queue v.device.taken (Send qp) number;
    owed = acts_of (v.device.pairs qp) qp number (slice_get (v.posted (Send qp)) (number - 1));
  };
}
fetch v (Recv qp) number = v
fetch v (Shared srq) number = v

-- Publish: the completion that the adapter owes next, while the queue has room

abbrev pub owes_for : ℕ → List Act → Bool
owes_for cq [] = false
owes_for cq (Complete owner u ∷ acts) = cq == owner

abbrev pub owes : Completion → List Act → Bool
owes x [] = false
owes x (Complete owner u ∷ acts) = same_completion x u.completion

abbrev pub publish_needs : Verbs → ℕ → Completion → List Test
publish_needs v cq completion =
    record { rule = Hand; holds = owes_for cq v.device.owed }
    ∷ record { rule = Count; holds = nat_lt (v.device.produced cq - v.acked cq) (v.limits.size cq) }
    ∷ record { rule = Content; holds = owes completion v.device.owed }
    ∷ []

abbrev pub publish : Verbs → ℕ → List Act → Verbs
publish v cq [] = v
publish v cq (Complete owner u ∷ acts) = record v {
  unpolled = put same_number v.unpolled cq (v.unpolled cq ++ u ∷ []);
  device = record v.device { produced = put same_number v.device.produced cq (v.device.produced cq + 1); owed = acts };
}
