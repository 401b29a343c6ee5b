-- What a line of a thread adds.
use Rattle.std.specs.Prelude.{ℕ, ◌+◌, ◌-◌, [], ◌∷◌, ◌++◌, map, length, Option, None, Some}
use Rattle.verbs_types.specs.declared.call.Call.TheVariants as calls
use Rattle.verbs_types.specs.declared.declaration.TheConstants.{FIRST_QP}
use Rattle.verbs_types.specs.declared.request.Body.TheVariants.{Sges}
use Rattle.verbs_types.specs.declared.request.Op.TheVariants.{Nop}
use Rattle.verbs_types.specs.declared.request.Receive.{Receive}
use Rattle.verbs_types.specs.declared.request.Request.{Request}
use Rattle.scenario_text.specs.AfterObjects.{give, change}
use Rattle.scenario_text.specs.Segments.{segment_fields, segment_in}
use Rattle.scenario_text.specs.Slots.{has_flag}
use Rattle.scenario_text.specs.Sofar.{Said}
use Rattle.scenario_text.specs.Text.{Line, part_at, number_at, small_at, name_in}
use Rattle.scenario_text.specs.Uses.{qp_named, cq_named, list_cq}
use Rattle.scenario_text.specs.declared.names.Meaning.TheVariants.{Actor}
use Rattle.scenario_text.specs.declared.sofar.PairUse.{PairUse}
use Rattle.scenario_text.specs.declared.sofar.Place.{Place}
use Rattle.scenario_text.specs.declared.sofar.Place.TheVariants.{Outside, InThread, InPost, InRecv}
use Rattle.scenario_text.specs.declared.sofar.QueueUse.{QueueUse}

-- threads count from 1
abbrev pub add_thread : Line → Said → Said
add_thread line s =
    let g = give line (Actor (length s.lines.threads + 1)) s in
    record g { lines = record g.lines { threads = s.lines.threads ++ name_in line ∷ [] }; place = InThread }

abbrev pub add_end : Said → Said
add_end s = record s { programs = s.programs ++ s.calls ∷ []; calls = []; place = Outside }

-- a side that this thread uses
abbrev pub posted_by_thread : ℕ → PairUse → PairUse
posted_by_thread thread used = record used { poster = Some thread }

abbrev pub received_by_thread : ℕ → PairUse → PairUse
received_by_thread thread used = record used { receiver = Some thread }

abbrev pub polled_by_thread : ℕ → QueueUse → QueueUse
polled_by_thread thread used = record used { poller = Some thread }

abbrev pub post_by_this : ℕ → Said → Said
post_by_this qp s = record s { pairs = change (posted_by_thread (length s.lines.threads)) s.pairs (qp - FIRST_QP) }

abbrev pub receive_by_this : ℕ → Said → Said
receive_by_this qp s = record s { pairs = change (received_by_thread (length s.lines.threads)) s.pairs (qp - FIRST_QP) }

abbrev pub poll_by_this : ℕ → Said → Said
poll_by_this cq s = record s { queues = change (polled_by_thread (length s.lines.threads)) s.queues cq }

abbrev pub add_post : Line → Said → Said
add_post line s =
    let qp = qp_named s (part_at line 1) in
    record (post_by_this qp s) { place = InPost qp }

abbrev pub add_recv : Line → Said → Said
add_recv line s =
    let qp = qp_named s (part_at line 1) in
    record (receive_by_this qp s) { place = InRecv qp }

abbrev pub request_in : Line → Request
request_in line = record {
  id = number_at line 1;
  op = Nop;
  wanted = has_flag (part_at line 3) 99;
  solicited = has_flag (part_at line 3) 115;
  fence = has_flag (part_at line 3) 102;
  body = Sges [];
}

abbrev pub receive_in : Line → Receive
receive_in line = record { id = number_at line 1; sges = map segment_in (segment_fields line) }

-- one more completes into the queue
abbrev pub fuller : QueueUse → QueueUse
fuller used = record used { room = used.room - 1 }

abbrev pub take_one : ℕ → Said → Said
take_one cq s = record s { queues = change fuller s.queues cq }

abbrev pub take_room_of : Option ℕ → Said → Said
take_room_of None s = s
take_room_of (Some cq) s = take_one cq s

abbrev pub take_room : Said → Said
take_room s = take_room_of (list_cq s) s

abbrev pub add_request : Line → Said → Said
add_request line s = let t = take_room s in record t { requests = t.requests ++ request_in line ∷ [] }

abbrev pub add_receive : Line → Said → Said
add_receive line s = let t = take_room s in record t { receives = t.receives ++ receive_in line ∷ [] }

abbrev pub add_poll : Line → Said → Said
add_poll line s =
    let cq = cq_named s (part_at line 1) in
    let p = poll_by_this cq s in
    record p { calls = p.calls ++ calls.Poll cq (small_at line 2) ∷ [] }

abbrev pub add_drain : Line → Said → Said
add_drain line s =
    let cq = cq_named s (part_at line 1) in
    let p = poll_by_this cq s in
    record p { calls = p.calls ++ calls.Drain cq (small_at line 2) ∷ [] }

-- the list of requests or receives is one more call
abbrev pub close_post : ℕ → Said → Said
close_post qp s = record s { calls = s.calls ++ calls.Post qp s.requests ∷ []; requests = []; place = InThread }

abbrev pub close_recv : ℕ → Said → Said
close_recv qp s = record s { calls = s.calls ++ calls.Recv qp s.receives ∷ []; receives = []; place = InThread }

abbrev pub close_place : Place → Said → Said
close_place (InPost qp) s = close_post qp s
close_place (InRecv qp) s = close_recv qp s
close_place _ s = s
