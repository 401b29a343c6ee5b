-- Completions that were written to a completion queue were polled or wait there.
use Rattle.std.proofs.Common.{◌≡◌, ℕ, true, false, refl, sym, ap, ◌∙◌, List, [], ◌∷◌, ◌++◌, append-nil, append_assoc, fold}
use Rattle.std.specs.Option.{option_map_or}
use Rattle.std.specs.Prelude.{Option, None, Some, if◌then◌else◌, Bool, slice_get, ◌-◌, length, map}
use Rattle.verbs_types.specs.declared.completion.Completion.{Completion}
use Rattle.verbs_types.specs.declared.declaration.Lines.{Lines}
use Rattle.verbs_types.specs.declared.entry.Entry.{Entry}
use Rattle.verbs_types.specs.declared.entry.What.{What}
use Rattle.verbs_types.specs.declared.entry.What.TheVariants.{Post, PostFull, Poll, Retire, Free, Ack, Arm, TakeEvent, Submit, Reply, ReadByte, WriteByte, Clean, Fetch, TakeReceive, GetByte, PutByte, Publish, SeeArm, Event, Overrun, Lost, Execute}
use Rattle.verbs_types.specs.declared.completion.Queue.TheVariants.{Send, Recv, Shared}
use Rattle.verbs_rules.specs.Legal.{IsLegal}
use Rattle.verbs_types.specs.Lines.{is_among}
use Rattle.verbs_rules.specs.Start.{start}
use Rattle.verbs_rules.specs.State.{Verbs}
use Rattle.verbs_rules.specs.Step.{MayStep, after, after_entry}
use Rattle.verbs_laws.proofs.Facts.{MayPublish_by_step}
use Rattle.history_laws.specs.Laws.{completion_of, waiting_on, NoneIsLost}
use Rattle.history_laws.specs.Said.{publishes_on, polls_from, published_on, polled_from}
use Rattle.history_laws.proofs.Waiting.{poll_takes, publish_adds}

-- what is published is polled or waits
abbrev Balances : Verbs → ℕ → List Completion → List Completion → Type 0
Balances v cq published polled = published ≡ polled ++ waiting_on v cq

module _ (cq : ℕ) (published polled : List Completion) where
  abbrev Stays : Verbs → Verbs → Type 0
  Stays v next = Balances v cq published polled → Balances next cq (published ++ []) (polled ++ [])

  same_wait : (v next : Verbs) → waiting_on next cq ≡ waiting_on v cq → Stays v next
  same_wait v next same b = append-nil published ∙ (b ∙ (ap (λ (ws : List Completion). polled ++ ws) (sym same) ∙ ap (λ (ps : List Completion). ps ++ waiting_on next cq) (sym (append-nil polled))))

  took : (v next : Verbs) (xs : List Completion) → waiting_on v cq ≡ xs ++ waiting_on next cq → Balances v cq published polled → Balances next cq (published ++ []) (polled ++ xs)
  took v next xs takes b = append-nil published ∙ (b ∙ (ap (λ (ws : List Completion). polled ++ ws) takes ∙ sym (append_assoc polled xs (waiting_on next cq))))

  added : (v next : Verbs) (xs : List Completion) → waiting_on next cq ≡ waiting_on v cq ++ xs → Balances v cq published polled → Balances next cq (published ++ xs) (polled ++ [])
  added v next xs adds b =
      ap (λ (ps : List Completion). ps ++ xs) b
      ∙ (append_assoc polled (waiting_on v cq) xs
      ∙ (ap (λ (ws : List Completion). polled ++ ws) (sym adds) ∙ ap (λ (ps : List Completion). ps ++ waiting_on next cq) (sym (append-nil polled))))

  balance_after : (v : Verbs) (actor : ℕ) (w : What) → MayStep v (record { actor = actor; what = w }) → Balances v cq published polled → Balances (after v w) cq (published ++ publishes_on cq w) (polled ++ polls_from cq w)
  balance_after v actor (Post queue items) step b = same_wait v (after v (Post queue items)) refl b
  balance_after v actor (PostFull queue pending head tail) step b = same_wait v v refl b
  balance_after v actor (Poll other most completions) step b = took v (after v (Poll other most completions)) (polls_from cq (Poll other most completions)) (poll_takes v actor other most completions step cq) b
  balance_after v actor (Retire queue count) step b = same_wait v (after v (Retire queue count)) refl b
  balance_after v actor (Ack other index) step b = same_wait v (after v (Ack other index)) refl b
  balance_after v actor (Fetch (Send qp) number) step b = same_wait v (after v (Fetch (Send qp) number)) refl b
  balance_after v actor (Fetch (Recv qp) number) step b = same_wait v v refl b
  balance_after v actor (Fetch (Shared srq) number) step b = same_wait v v refl b
  balance_after v actor (Publish other completion) step b = added v (after v (Publish other completion)) (publishes_on cq (Publish other completion)) (publish_adds v actor other completion (MayPublish_by_step v actor other completion step) cq) b
  balance_after v actor (Free srq) step b = same_wait v v refl b
  balance_after v actor (Arm other kind index number) step b = same_wait v v refl b
  balance_after v actor (TakeEvent eq event) step b = same_wait v v refl b
  balance_after v actor (Submit command) step b = same_wait v v refl b
  balance_after v actor (Reply command answer) step b = same_wait v v refl b
  balance_after v actor (ReadByte addr byte) step b = same_wait v v refl b
  balance_after v actor (WriteByte addr byte) step b = same_wait v v refl b
  balance_after v actor (Clean other qp index) step b = same_wait v v refl b
  balance_after v actor (TakeReceive queue) step b = same_wait v v refl b
  balance_after v actor (GetByte addr byte) step b = same_wait v v refl b
  balance_after v actor (PutByte addr byte) step b = same_wait v v refl b
  balance_after v actor (SeeArm other kind index number) step b = same_wait v v refl b
  balance_after v actor (Event eq event) step b = same_wait v v refl b
  balance_after v actor (Overrun other index acked) step b = same_wait v v refl b
  balance_after v actor (Lost other) step b = same_wait v v refl b
  balance_after v actor (Execute of command answer) step b = same_wait v v refl b

balance_along : (cq : ℕ) (published polled : List Completion) (v : Verbs) (history : List Entry) → IsLegal v history → Balances v cq published polled
    → Balances (fold after_entry v history) cq (published ++ published_on cq history) (polled ++ polled_from cq history)
balance_along cq published polled v [] legal b = same_wait cq published polled v v refl b
balance_along cq published polled v (e ∷ history) legal b =
    let now = balance_after cq published polled v e.actor e.what legal.0 b in
    let later = balance_along cq (published ++ publishes_on cq e.what) (polled ++ polls_from cq e.what) (after v e.what) history legal.1 now in
    sym (append_assoc published (publishes_on cq e.what) (published_on cq history))
    ∙ (later ∙ ap (λ (ps : List Completion). ps ++ waiting_on (fold after_entry (after v e.what) history) cq) (append_assoc polled (polls_from cq e.what) (polled_from cq history)))

pub none_waits : (d : Lines) (cq : ℕ) → waiting_on (start d) cq ≡ []
none_waits d cq = refl

pub none_is_lost : NoneIsLost
none_is_lost d history cq legal = balance_along cq [] [] (start d) history legal (sym (none_waits d cq))
