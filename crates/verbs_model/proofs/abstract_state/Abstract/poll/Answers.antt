use Rattle.std.proofs.Common.{◌≡◌, ℕ, ◌*◌, length, take, map, sym, ◌∙◌, ap, ap₂, subst, true, List}
use Rattle.std.specs.List.{list_all}
use Rattle.std.specs.Vec.{with_items}
use Rattle.std.proofs.lemmas.List.{with_items_is, length-map}
use Rattle.verbs_types.specs.declared.state.Unpolled.{Unpolled}
use Rattle.verbs_model.specs.Ends.{ArePlaced, HaveRoom, queue_of, ended}
use Rattle.verbs_model.specs.Held.{Held}
use Rattle.verbs_model.specs.InsideAbstract.{tables}
use Rattle.verbs_rules.specs.Rules.{names_living}
use Rattle.verbs_rules.specs.Same.{is_front}
use Rattle.verbs_rules.specs.OfOne.{WorkQueue, CompletionQueue}
use Rattle.verbs_model.specs.Tables.{Tables, completions_at, completions_are_in, state_of}
use Rattle.verbs_model.proofs.OneCompletions.{read_completions}
use Rattle.verbs_model.proofs.Polls.{front_length, front_within, living_front, placed_by_living, state_of-polled}
use Rattle.verbs_model.proofs.abstract_state.Abstract.poll.Goals as goal
use Rattle.verbs_model.proofs.abstract_state.Abstract.poll.Goals.{After-unpolled, After-deref_mut-2}

-- the completion queue is the one of the state
completions_here : (c : After-unpolled) → c.index_mut-polled.result.now ≡ completions_at (tables c.self.inside) c.args.cq
completions_here c =
    let lives = subst (λ (t : Tables). completions_are_in t c.args.cq ≡ true) (sym c.self.view_is) c.requires.lives in
    read_completions (tables c.self.inside) c.args.cq c.index_mut-polled.result.now lives c.index_mut-polled.ensures.value

front_here : (c : After-unpolled) → is_front c.args.completions.now c.index_mut-polled.result.now.unpolled ≡ true
front_here c =
    let same = completions_here c ∙ ap (λ (t : Tables). completions_at t c.args.cq) c.self.view_is in
    subst (λ (q : CompletionQueue). is_front c.args.completions.now q.unpolled ≡ true) (sym same) c.requires.front

pub slice_bounds-taken-end : goal.slice_bounds-taken-end
slice_bounds-taken-end c = rw c.unpolled.ensures (front_length c.args.completions.now c.index_mut-polled.result.now.unpolled (front_here c))

named_here : (c : After-unpolled) → list_all (names_living (state_of (tables c.self.inside))) c.args.completions.now ≡ true
named_here c = subst (λ (t : Tables). list_all (names_living (state_of t)) c.args.completions.now ≡ true) (sym c.self.view_is) c.requires.named

pub reserve_each-requires : goal.reserve_each-requires
reserve_each-requires c =
    let here = (goal.at.reserve_each-requires c).After-unpolled in
    let xs = c.args.completions.now in
    let us = c.index_mut-polled.result.now.unpolled in
    let pairs = length c.self.inside.pairs.items in
    let placed = placed_by_living pairs (take (length xs) us) (living_front (tables c.self.inside) xs us (front_here here) (named_here here)) in
    let count : 2 * pairs ≡ length c.deref_mut.result.now = sym (ap length c.deref_mut.ensures.value ∙ c.self.invariant) in
    rw c.unpolled.ensures (subst (λ (m : ℕ). ArePlaced m (take (length xs) us)) count placed)

-- the queues after the reservation
reserved : (c : After-deref_mut-2) → c.deref_mut-2.result.now ≡ c.reserve_each.new.queues
reserved c = c.deref_mut-2.ensures.value ∙ with_items_is c.self.inside.queues c.reserve_each.new.queues (c.reserve_each.auto.queues ∙ c.deref_mut.ensures.len)

pub end_each-requires-clause-room : goal.end_each-requires-clause-room
end_each-requires-clause-room c =
    let taken = take (length c.args.completions.now) c.unpolled.result.now in
    subst (λ (hs : List Held). HaveRoom hs (length taken) taken) (sym (reserved (goal.at.end_each-requires-clause-room c).After-deref_mut-2)) c.in_ok-reserve_each.ensures.room

pub poll-requires : goal.poll-requires
poll-requires c = front_within c.args.completions.now c.index_mut-polled.result.now.unpolled (front_here (goal.at.poll-requires c).After-unpolled)

pub returns-clause-made : goal.returns-clause-made
returns-clause-made c =
    let here = (goal.at.returns-clause-made c).After-unpolled in
    let a = c.self.inside in
    let t = tables a in
    let cq = c.args.cq in
    let xs = c.args.completions.now in
    let before = c.index_mut-polled.result.now in
    let after_room = reserved (goal.at.returns-clause-made c).After-deref_mut-2 in
    let same : map queue_of c.deref_mut-2.result.now ≡ t.queues = ap (map queue_of) after_room ∙ (c.in_ok-reserve_each.ensures.unchanged ∙ ap (map queue_of) c.deref_mut.ensures.value) in
    let written = with_items_is (with_items a.queues c.reserve_each.new.queues) c.end_each.new.queues (c.end_each.auto.queues ∙ c.deref_mut-2.ensures.len) in
    let made = ap (map queue_of) written ∙ (c.end_each.ensures ∙ ap₂ (λ (q : List WorkQueue) (us : List Unpolled). ended q (take (length xs) us)) same c.unpolled.ensures) in
    let lives = subst (λ (u : Tables). completions_are_in u cq ≡ true) (sym c.self.view_is) c.requires.lives in
    rw (← c.self.view_is) (state_of-polled t cq xs _ before c.poll.new.self (length-map a.queues.items queue_of ∙ c.self.invariant) lives (completions_here here) (front_here here) (named_here here) made c.poll.ensures)
