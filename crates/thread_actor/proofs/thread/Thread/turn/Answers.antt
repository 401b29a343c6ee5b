use Rattle.std.proofs.Common.{◌≡◌, ℕ, ◌-◌, ◌∙◌, sym, subst, List, map, slice_get, Option, Some}
use Rattle.std.specs.Vec.{with_items}
use Rattle.std.proofs.lemmas.List.{with_items_is}
use Rattle.bus_core.specs.declared.turn.Note.{Note}
use Rattle.verbs_types.specs.declared.call.Call.TheVariants.{Post, Recv, Poll, Drain}
use Rattle.verbs_types.specs.declared.declaration.TheConstants.{FIRST_QP}
use Rattle.verbs_types.specs.declared.request.Item.{Item}
use Rattle.verbs_types.specs.declared.request.Item.TheVariants.{Request as TheRequest, Receive as TheReceive}
use Rattle.verbs_types.specs.declared.request.Receive.{Receive}
use Rattle.verbs_types.specs.declared.request.Request.{Request}
use Rattle.provider_post.specs.Side.{PostView}
use Rattle.provider_poll.specs.Poll.{PollView}
use Rattle.thread_actor.specs.Inside.{view_of}
use Rattle.thread_actor.specs.Posts.{Posts, CanServeAt}
use Rattle.thread_actor.specs.Posts as posts
use Rattle.thread_actor.specs.Polls.{Polls, CanPollAt, note_in_drain}
use Rattle.thread_actor.specs.Polls as polls
use Rattle.thread_actor.proofs.Ending.{end_goes}
use Rattle.thread_actor.proofs.Places.{with_sends, with_receives, with_polls}
use Rattle.thread_actor.proofs.PostTurns.{Goes}
use Rattle.thread_actor.proofs.ReadyPolls.{poll_ready, drain_ready, poll_served}
use Rattle.thread_actor.proofs.ReadyPosts.{send_there, receive_there, send_ready, receive_ready, send_served, receive_served}
use Rattle.thread_actor.proofs.Resting.{moved}
use Rattle.thread_actor.proofs.Turning.{call_found, none_found, send_turn, receive_turn, poll_turn, drain_turn}
use Rattle.thread_actor.proofs.thread.Thread.turn.Goals as goal

pub post-posted-requires-clause-ready : goal.post-posted-requires-clause-ready
post-posted-requires-clause-ready g c =
    let v = view_of c.args.self.now in
    let qp = c.in-Some-Post.qp in
    let requests = c.in-Some-Post.requests in
    let found = call_found c.as_slice.result.now v.program v.finished (Post qp requests) c.in-Some-Post.field-0 c.as_slice.ensures c.in-Some-Post.ensures.lookup c.in-Some-Post.field-0-is in
    subst (λ (sides : List (Option PostView)). posts.Ready sides c.place_of.result (map TheRequest c.as_slice-in-Some-Post.result.now)) (sym c.as_mut_slice-sides.ensures.value)
    (subst (λ (place : ℕ). posts.Ready v.sides.sends place (map TheRequest c.as_slice-in-Some-Post.result.now)) (sym c.place_of.ensures)
    (subst (λ (list : List Request). posts.Ready v.sides.sends (qp - FIRST_QP) (map TheRequest list)) (sym c.as_slice-in-Some-Post.ensures)
    (send_ready v c.requires.stands qp requests c.requires.small found)))

pub post-posted-requires-clause-port : goal.post-posted-requires-clause-port
post-posted-requires-clause-port g c =
    let v = view_of c.args.self.now in
    let port = g.P.BusPort.port c.args.port.now in
    let qp = c.in-Some-Post.qp in
    let requests = c.in-Some-Post.requests in
    let found = call_found c.as_slice.result.now v.program v.finished (Post qp requests) c.in-Some-Post.field-0 c.as_slice.ensures c.in-Some-Post.ensures.lookup c.in-Some-Post.field-0-is in
    subst (λ (sides : List (Option PostView)). CanServeAt sides c.place_of.result port) (sym c.as_mut_slice-sides.ensures.value)
    (subst (λ (place : ℕ). CanServeAt v.sides.sends place port) (sym c.place_of.ensures)
    (send_served v c.requires.stands port c.requires.inside c.requires.room qp (send_there v c.requires.stands qp requests found).least))

pub receive-posted-requires-clause-ready : goal.receive-posted-requires-clause-ready
receive-posted-requires-clause-ready g c =
    let v = view_of c.args.self.now in
    let qp = c.in-Some-Recv.qp in
    let receives = c.in-Some-Recv.receives in
    let found = call_found c.as_slice.result.now v.program v.finished (Recv qp receives) c.in-Some-Recv.field-0 c.as_slice.ensures c.in-Some-Recv.ensures.lookup c.in-Some-Recv.field-0-is in
    subst (λ (sides : List (Option PostView)). posts.Ready sides c.place_of-in-Some-Recv.result (map TheReceive c.as_slice-in-Some-Recv.result.now)) (sym c.as_mut_slice-sides-in-Some-Recv.ensures.value)
    (subst (λ (place : ℕ). posts.Ready v.sides.receives place (map TheReceive c.as_slice-in-Some-Recv.result.now)) (sym c.place_of-in-Some-Recv.ensures)
    (subst (λ (list : List Receive). posts.Ready v.sides.receives (qp - FIRST_QP) (map TheReceive list)) (sym c.as_slice-in-Some-Recv.ensures)
    (receive_ready v c.requires.stands qp receives c.requires.small found)))

pub receive-posted-requires-clause-port : goal.receive-posted-requires-clause-port
receive-posted-requires-clause-port g c =
    let v = view_of c.args.self.now in
    let port = g.P.BusPort.port c.args.port.now in
    let qp = c.in-Some-Recv.qp in
    let receives = c.in-Some-Recv.receives in
    let found = call_found c.as_slice.result.now v.program v.finished (Recv qp receives) c.in-Some-Recv.field-0 c.as_slice.ensures c.in-Some-Recv.ensures.lookup c.in-Some-Recv.field-0-is in
    subst (λ (sides : List (Option PostView)). CanServeAt sides c.place_of-in-Some-Recv.result port) (sym c.as_mut_slice-sides-in-Some-Recv.ensures.value)
    (subst (λ (place : ℕ). CanServeAt v.sides.receives place port) (sym c.place_of-in-Some-Recv.ensures)
    (receive_served v c.requires.stands port c.requires.inside c.requires.room qp (receive_there v c.requires.stands qp receives found).least))

pub poll-polled-requires-clause-ready : goal.poll-polled-requires-clause-ready
poll-polled-requires-clause-ready g c =
    let v = view_of c.args.self.now in
    let cq = c.in-Some-Poll.cq in
    let max = c.in-Some-Poll.max in
    let found = call_found c.as_slice.result.now v.program v.finished (Poll cq max) c.in-Some-Poll.field-0 c.as_slice.ensures c.in-Some-Poll.ensures.lookup c.in-Some-Poll.field-0-is in
    subst (λ (sides : List (Option PollView)). polls.Ready sides cq max v.given) (sym c.as_mut_slice-sides-in-Some-Poll.ensures.value) (poll_ready v c.requires.stands c.requires.small cq max found)

pub poll-polled-requires-clause-port : goal.poll-polled-requires-clause-port
poll-polled-requires-clause-port g c =
    let v = view_of c.args.self.now in
    let port = g.P.BusPort.port c.args.port.now in
    subst (λ (sides : List (Option PollView)). CanPollAt sides c.in-Some-Poll.cq port) (sym c.as_mut_slice-sides-in-Some-Poll.ensures.value)
    (poll_served v c.requires.stands port c.requires.inside c.requires.room c.in-Some-Poll.cq)

pub poll-polled-requires-in-Some-Drain-clause-ready : goal.poll-polled-requires-in-Some-Drain-clause-ready
poll-polled-requires-in-Some-Drain-clause-ready g c =
    let v = view_of c.args.self.now in
    let cq = c.in-Some-Drain.cq in
    let count = c.in-Some-Drain.count in
    let found = call_found c.as_slice.result.now v.program v.finished (Drain cq count) c.in-Some-Drain.field-0 c.as_slice.ensures c.in-Some-Drain.ensures.lookup c.in-Some-Drain.field-0-is in
    subst (λ (sides : List (Option PollView)). polls.Ready sides cq 1 v.given) (sym c.as_mut_slice-sides-in-Some-Drain.ensures.value) (drain_ready v c.requires.stands c.requires.small cq count found)

pub poll-polled-requires-in-Some-Drain-clause-port : goal.poll-polled-requires-in-Some-Drain-clause-port
poll-polled-requires-in-Some-Drain-clause-port g c =
    let v = view_of c.args.self.now in
    let port = g.P.BusPort.port c.args.port.now in
    subst (λ (sides : List (Option PollView)). CanPollAt sides c.in-Some-Drain.cq port) (sym c.as_mut_slice-sides-in-Some-Drain.ensures.value)
    (poll_served v c.requires.stands port c.requires.inside c.requires.room c.in-Some-Drain.cq)

pub returns-in-None : goal.returns-in-None
returns-in-None g c =
    let v = view_of c.args.self.now in
    let past = none_found c.as_slice.result.now v.program v.finished c.as_slice.ensures c.in-None.ensures.lookup in
    let goes = end_goes v c.end.ensures.0 c.requires.stands c.requires.going past c.end.ensures.2 in
    record { operation = (c.end.ensures.0, c.end.ensures.1, goes.turn, goes.stands); finished = goes.finished }

pub returns-in-Some-Post : goal.returns-in-Some-Post
returns-in-Some-Post g c =
    let v = view_of c.args.self.now in
    let qp = c.in-Some-Post.qp in
    let requests = c.in-Some-Post.requests in
    let found = call_found c.as_slice.result.now v.program v.finished (Post qp requests) c.in-Some-Post.field-0 c.as_slice.ensures c.in-Some-Post.ensures.lookup c.in-Some-Post.field-0-is in
    let e = c.post-posted.ensures.0 in
    let new = c.post-posted.new.sides in
    let posted = c.post-posted.result in
    let p = c.after_post-self.result in
    let written : (with_items c.args.self.now.sides.sends new).items ≡ new = with_items_is c.args.self.now.sides.sends new (c.post-posted.auto.sides ∙ c.as_mut_slice-sides.ensures.len) in
    let went = subst (λ (list : List Request). Posts v.sides.sends new (qp - FIRST_QP) (map TheRequest list) e posted) c.as_slice-in-Some-Post.ensures
    (subst (λ (place : ℕ). Posts v.sides.sends new place (map TheRequest c.as_slice-in-Some-Post.result.now) e posted) c.place_of.ensures
    (subst (λ (sides : List (Option PostView)). Posts sides new c.place_of.result (map TheRequest c.as_slice-in-Some-Post.result.now) e posted) c.as_mut_slice-sides.ensures.value c.post-posted.ensures.2)) in
    let goes = subst (λ (sides : List (Option PostView)). Goes v (moved v p.finished p.taken v.given (with_sends v.sides sides)) e posted.noted) (sym written)
    (send_turn v c.requires.stands c.places.ensures e p qp requests new posted found went c.after_post-self.ensures) in
    record { operation = (e, c.post-posted.ensures.1, goes.turn, goes.stands); finished = goes.finished }

pub returns-in-Some-Recv : goal.returns-in-Some-Recv
returns-in-Some-Recv g c =
    let v = view_of c.args.self.now in
    let qp = c.in-Some-Recv.qp in
    let receives = c.in-Some-Recv.receives in
    let found = call_found c.as_slice.result.now v.program v.finished (Recv qp receives) c.in-Some-Recv.field-0 c.as_slice.ensures c.in-Some-Recv.ensures.lookup c.in-Some-Recv.field-0-is in
    let e = c.receive-posted.ensures.0 in
    let new = c.receive-posted.new.sides in
    let posted = c.receive-posted.result in
    let p = c.after_post-self-in-Some-Recv.result in
    let written : (with_items c.args.self.now.sides.receives new).items ≡ new = with_items_is c.args.self.now.sides.receives new (c.receive-posted.auto.sides ∙ c.as_mut_slice-sides-in-Some-Recv.ensures.len) in
    let went = subst (λ (list : List Receive). Posts v.sides.receives new (qp - FIRST_QP) (map TheReceive list) e posted) c.as_slice-in-Some-Recv.ensures
    (subst (λ (place : ℕ). Posts v.sides.receives new place (map TheReceive c.as_slice-in-Some-Recv.result.now) e posted) c.place_of-in-Some-Recv.ensures
    (subst (λ (sides : List (Option PostView)). Posts sides new c.place_of-in-Some-Recv.result (map TheReceive c.as_slice-in-Some-Recv.result.now) e posted) c.as_mut_slice-sides-in-Some-Recv.ensures.value c.receive-posted.ensures.2)) in
    let goes = subst (λ (sides : List (Option PostView)). Goes v (moved v p.finished p.taken v.given (with_receives v.sides sides)) e posted.noted) (sym written)
    (receive_turn v c.requires.stands c.places.ensures e p qp receives new posted found went c.after_post-self-in-Some-Recv.ensures) in
    record { operation = (e, c.receive-posted.ensures.1, goes.turn, goes.stands); finished = goes.finished }

pub returns-in-Some-Poll : goal.returns-in-Some-Poll
returns-in-Some-Poll g c =
    let v = view_of c.args.self.now in
    let cq = c.in-Some-Poll.cq in
    let max = c.in-Some-Poll.max in
    let found = call_found c.as_slice.result.now v.program v.finished (Poll cq max) c.in-Some-Poll.field-0 c.as_slice.ensures c.in-Some-Poll.ensures.lookup c.in-Some-Poll.field-0-is in
    let e = c.poll-polled.ensures.0 in
    let new = c.poll-polled.new.sides in
    let given = c.poll-polled.new.given in
    let polled = c.poll-polled.result in
    let p = c.after_poll-self.result in
    let written : (with_items c.args.self.now.sides.polls new).items ≡ new = with_items_is c.args.self.now.sides.polls new (c.poll-polled.auto.sides ∙ c.as_mut_slice-sides-in-Some-Poll.ensures.len) in
    let went = subst (λ (sides : List (Option PollView)). Polls sides new cq max v.given given e polled) c.as_mut_slice-sides-in-Some-Poll.ensures.value c.poll-polled.ensures.2 in
    let goes = subst (λ (sides : List (Option PollView)). Goes v (moved v p.finished p.taken given (with_polls v.sides sides)) e polled.noted) (sym written)
    (poll_turn v c.requires.stands c.places.ensures e p given polled new cq max found went c.after_poll-self.ensures) in
    record { operation = (e, c.poll-polled.ensures.1, goes.turn, goes.stands); finished = goes.finished }

pub returns-in-Some-Drain : goal.returns-in-Some-Drain
returns-in-Some-Drain g c =
    let v = view_of c.args.self.now in
    let cq = c.in-Some-Drain.cq in
    let count = c.in-Some-Drain.count in
    let found = call_found c.as_slice.result.now v.program v.finished (Drain cq count) c.in-Some-Drain.field-0 c.as_slice.ensures c.in-Some-Drain.ensures.lookup c.in-Some-Drain.field-0-is in
    let e = c.poll-polled-in-Some-Drain.ensures.0 in
    let new = c.poll-polled-in-Some-Drain.new.sides in
    let given = c.poll-polled-in-Some-Drain.new.given in
    let polled = c.poll-polled-in-Some-Drain.result in
    let p = c.after_drain-self.result in
    let written : (with_items c.args.self.now.sides.polls new).items ≡ new = with_items_is c.args.self.now.sides.polls new (c.poll-polled-in-Some-Drain.auto.sides ∙ c.as_mut_slice-sides-in-Some-Drain.ensures.len) in
    let went = subst (λ (sides : List (Option PollView)). Polls sides new cq 1 v.given given e polled) c.as_mut_slice-sides-in-Some-Drain.ensures.value c.poll-polled-in-Some-Drain.ensures.2 in
    let drained = subst (λ (sides : List (Option PollView)). Goes v (moved v p.finished p.taken given (with_polls v.sides sides)) e (note_in_drain polled)) (sym written)
    (drain_turn v c.requires.stands c.places.ensures e p given polled new cq count found went c.after_drain-self.ensures) in
    let goes = subst (λ (note : Option Note). Goes v (moved v p.finished p.taken given (with_polls v.sides (with_items c.args.self.now.sides.polls new).items)) e note) (sym c.note_in_drain.ensures) drained in
    record { operation = (e, c.poll-polled-in-Some-Drain.ensures.1, goes.turn, goes.stands); finished = goes.finished }
