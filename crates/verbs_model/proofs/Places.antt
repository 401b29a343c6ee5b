-- One changed queue among the fields of the abstract state.
use Rattle.std.proofs.Common.{◌≡◌, ℕ, ◌<◌, sym, ap, ◌∙◌, subst, true, List, length, map, set, get_or, ◌-◌, Option, slice_get, option_to_list}
use Rattle.std.specs.Vec.{with_item}
use Rattle.std.proofs.lemmas.List.{map-set, get_or-map, length-map, set-get_or}
use Rattle.verbs_model.specs.declared.abstract_state.Abstract.TheInside.{Inside}
use Rattle.verbs_types.specs.declared.completion.Queue.{Queue}
use Rattle.verbs_types.specs.declared.completion.Queue.TheVariants.{Send}
use Rattle.verbs_types.specs.declared.state.Act.{Act}
use Rattle.verbs_types.specs.declared.state.QueuePair.{QueuePair}
use Rattle.verbs_model.specs.Held.{Held}
use Rattle.verbs_model.specs.InsideAbstract.{tables}
use Rattle.verbs_rules.specs.Rules.{queue_lives}
use Rattle.verbs_rules.specs.OfOne.{WorkQueue}
use Rattle.verbs_rules.specs.Rows.{acts_of, fetch}
use Rattle.verbs_model.specs.Queues.{no_queue, with_queue, taken_to, parts_of}
use Rattle.verbs_model.specs.Tables.{place_of, queue_at, pair_at, pair_is_in, all_of, state_of}
use Rattle.verbs_model.proofs.TableQueues.{all_of-set_queue, queue_at_place}
use Rattle.verbs_model.proofs.Parts.{parts_of-taken}

abbrev with_held : Inside → ℕ → Held → Inside
with_held a place h = record a { queues = with_item a.queues place h }

abbrev queue_of : Held → WorkQueue
queue_of h = h.queue

module _ (a : Inside) (queue : Queue) (place : ℕ) (before later : Held) (is_place : place ≡ place_of queue) (read : before ≡ get_or a.queues.items place before) where
  -- a queue that is as before
  pub kept_queue : later.queue ≡ before.queue → tables (with_held a place later) ≡ tables a
  kept_queue same =
      let items = a.queues.items in
      let qs = map queue_of items in
      let listed : map queue_of (set items place later) ≡ qs =
      map-set queue_of items place later
      ∙ (ap (set qs place) same
      ∙ (sym (map-set queue_of items place before)
      ∙ (ap (λ (h : Held). map queue_of (set items place h)) read ∙ ap (map queue_of) (set-get_or items place before)))) in
      ap (λ (q : List WorkQueue). record (tables a) { queues = q }) listed

  pub changed_queue : (f : WorkQueue → WorkQueue) → later.queue ≡ f before.queue → queue_lives (state_of (tables a)) queue ≡ true → place < length (tables a).queues
      → all_of (tables (with_held a place later)) ≡ with_queue (all_of (tables a)) queue (f (queue_at (tables a) queue))
  changed_queue f made lives inside =
      let qs = map queue_of a.queues.items in
      let listed : map queue_of (set a.queues.items place later) ≡ set qs (place_of queue) later.queue = map-set queue_of a.queues.items place later ∙ ap (λ (p : ℕ). set qs p later.queue) is_place in
      let inside_items : place < length a.queues.items = subst (λ (n : ℕ). place < n) (length-map a.queues.items queue_of) inside in
      let was : queue_at (tables a) queue ≡ before.queue =
      queue_at_place (tables a) queue lives
      ∙ (ap (λ (p : ℕ). get_or qs p no_queue) (sym is_place)
      ∙ (get_or-map queue_of a.queues.items place before no_queue inside_items ∙ ap queue_of (sym read))) in
      ap (λ (q : List WorkQueue). all_of (record (tables a) { queues = q })) listed
      ∙ (all_of-set_queue (tables a) queue later.queue lives (subst (λ (p : ℕ). p < length qs) is_place inside)
      ∙ ap (with_queue (all_of (tables a)) queue) (made ∙ ap f (sym was)))

-- a request of a send queue is taken, and owed for
pub fetched : (a : Inside) (qp place number : ℕ) (before later : Held) (pair : QueuePair) (owed : Option Act)
    → place ≡ place_of (Send qp) → before ≡ get_or a.queues.items place before → later.queue ≡ taken_to before.queue number
    → pair ≡ pair_at (tables a) qp → option_to_list owed ≡ acts_of pair qp number (slice_get (queue_at (tables a) (Send qp)).posted (number - 1))
    → pair_is_in (tables a) qp ≡ true → place < length (tables a).queues
    → state_of (tables (record a { queues = with_item a.queues place later; owed = owed })) ≡ fetch (state_of (tables a)) (Send qp) number
fetched a qp place number before later pair owed is_place read taken pairs owes lives inside =
    let all = all_of (tables a) in
    let queues = changed_queue a (Send qp) place before later is_place read (λ (u : WorkQueue). taken_to u number) taken lives inside in
    let owes_now = owes ∙ ap (λ (p : QueuePair). acts_of p qp number (slice_get (all.queues (Send qp)).posted (number - 1))) pairs in
    (λ i. parts_of (record (queues i) { owed = owes_now i }))
    ∙ parts_of-taken all (Send qp) number (acts_of (all.pairs qp) qp number (slice_get (all.queues (Send qp)).posted (number - 1)))
