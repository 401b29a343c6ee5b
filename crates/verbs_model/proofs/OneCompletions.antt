-- One changed completion queue among the tables: what is stored in it, and what is written to it.
use Rattle.std.proofs.Common.{◌≡◌, ℕ, sym, ap, ◌∙◌, true, [], ◌∷◌, set, get_or, None}
use Rattle.std.proofs.lemmas.List.{get_or_read}
use Rattle.verbs_types.specs.declared.state.Act.TheVariants.{Complete}
use Rattle.verbs_types.specs.declared.state.Unpolled.{Unpolled}
use Rattle.verbs_rules.specs.OfOne.{CompletionQueue}
use Rattle.verbs_rules.specs.Rows.{ack, publish}
use Rattle.verbs_model.specs.Queues.{AllQueues, parts_of, with_completions, published_more, no_completions}
use Rattle.verbs_model.specs.Tables.{Tables, completions_at, completions_are_in, all_of, state_of}
use Rattle.verbs_model.proofs.Parts.{parts_of-acked, parts_of-published}
use Rattle.verbs_model.proofs.TableQueues.{all_of-set_completions, completions_at_place, completions_inside}

-- a completion queue that was read at its place
pub read_completions : (t : Tables) (cq : ℕ) (before : CompletionQueue) → completions_are_in t cq ≡ true → before ≡ get_or t.completions cq before → before ≡ completions_at t cq
read_completions t cq before lives read = get_or_read t.completions cq before (completions_inside t cq lives) read no_completions ∙ sym (completions_at_place t cq lives)

-- the consumer index is stored
pub state_of-acked : (t : Tables) (cq index : ℕ) (before later : CompletionQueue) → completions_are_in t cq ≡ true → before ≡ get_or t.completions cq before → later ≡ record before { acked = index }
    → state_of (record t { completions = set t.completions cq later }) ≡ ack (state_of t) cq index
state_of-acked t cq index before later lives read made =
    let stored = made ∙ ap (λ (c : CompletionQueue). record c { acked = index }) (read_completions t cq before lives read) in
    ap parts_of (all_of-set_completions t cq later lives ∙ ap (with_completions (all_of t) cq) stored) ∙ parts_of-acked (all_of t) cq index

-- the completion that is owed is written
pub state_of-published : (t : Tables) (cq owner : ℕ) (u : Unpolled) (before later : CompletionQueue) → completions_are_in t cq ≡ true → before ≡ get_or t.completions cq before → later ≡ published_more before u
    → state_of (record t { completions = set t.completions cq later; owed = None }) ≡ publish (state_of t) cq (Complete owner u ∷ [])
state_of-published t cq owner u before later lives read made =
    let written = made ∙ ap (λ (c : CompletionQueue). published_more c u) (read_completions t cq before lives read) in
    let all = all_of-set_completions t cq later lives ∙ ap (with_completions (all_of t) cq) written in
    ap (λ (a : AllQueues). parts_of (record a { owed = [] })) all ∙ parts_of-published (all_of t) cq owner u []
