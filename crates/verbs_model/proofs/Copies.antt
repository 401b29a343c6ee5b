-- A copy of the abstract state is the same state.
use Rattle.std.proofs.Common.{◌≡◌, refl, sym, ap, ap₂, ◌∙◌, List, [], ◌∷◌, ◌+◌, map, length, drop, rules}
use Rattle.std.specs.List.{AllZip}
use Rattle.std.proofs.lemmas.List.Elements.{same_from_all_zip}
use Rattle.verbs_model.specs.Ends.{queue_of}
use Rattle.verbs_model.specs.Held.{Held}
use Rattle.verbs_model.specs.Inside.{held}
use Rattle.verbs_model.specs.InsideAbstract.{tables}
use Rattle.verbs_model.specs.InsideCompletions.{seen}
use Rattle.verbs_rules.specs.OfOne.{WorkQueue, CompletionQueue}
use Rattle.verbs_model.specs.Tables.{Tables}
use Rattle.verbs_model.specs.contracts.abstract_state.AbstractClone.TheImpl as abstracts
use Rattle.verbs_model.specs.contracts.work_queue.WorkQueueClone.TheImpl as queues
use Rattle.verbs_model.specs.contracts.completion_queue.CompletionQueueClone.TheImpl as completions

queue_copy : (q r : Held) → queues.ghosts.is_clone q r → r.queue ≡ q.queue
queue_copy q r h =
    let fields = h.4 in
    let posted : h.1.posted.items ≡ h.0.posted.items = search (rules, same_from_all_zip) in
    let ends : h.1.ends.items ≡ h.0.ends.items = search (rules, same_from_all_zip) in
    let same : queue_of (held h.1) ≡ queue_of (held h.0) = cc in
    sym (ap queue_of h.3) ∙ (same ∙ ap queue_of h.2)

completions_copy : (q r : CompletionQueue) → completions.ghosts.is_clone q r → r ≡ q
completions_copy q r h =
    let published : h.1.published.items ≡ h.0.published.items = search (rules, same_from_all_zip) in
    let size = h.4.0 in
    let start = h.4.1.0 in
    let polled = h.4.1.1.1.0 in
    let acked = h.4.1.1.1.1 in
    let same : seen h.1 ≡ seen h.0 = λ i. record { size = size i; produced = start i + length (published i); acked = start i + acked i; unpolled = drop (polled i) (published i) } in
    sym h.3 ∙ (same ∙ h.2)

queues_copy : (hs is : List Held) → AllZip queues.ghosts.is_clone hs is → map queue_of is ≡ map queue_of hs
queues_copy [] [] h = refl
queues_copy [] (i ∷ is) h = elim h [ ]
queues_copy (h ∷ hs) [] z = elim z [ ]
queues_copy (h ∷ hs) (i ∷ is) z = ap₂ (λ (q : WorkQueue) (qs : List WorkQueue). q ∷ qs) (queue_copy h i z.0) (queues_copy hs is z.1)

pub copy_lem : (t u : Tables) → abstracts.ghosts.is_clone t u → u ≡ t
copy_lem t u h =
    let pairs : h.1.pairs.items ≡ h.0.pairs.items = search (rules, same_from_all_zip) in
    let owed : h.1.owed ≡ h.0.owed = search rules in
    let completions : h.1.completions.items ≡ h.0.completions.items = same_from_all_zip _ h.0.completions.items h.1.completions.items h.4.1.1.0.0 completions_copy in
    let queues = queues_copy h.0.queues.items h.1.queues.items h.4.0.0 in
    let same : tables h.1 ≡ tables h.0 = λ i. record { queues = queues i; pairs = pairs i; completions = completions i; owed = owed i } in
    sym h.3 ∙ (same ∙ h.2)
