-- Each operation that the rule of a poll allows comes to one of its outcomes.
use Rattle.std.proofs.Common.{ℕ, sym, subst, List, [], ◌∷◌, Option, refl}
use Rattle.bus_core.specs.declared.operation.BusEntry.{BusEntry}
use Rattle.bus_core.specs.Trace.{Memory}
use Rattle.verbs_types.specs.declared.completion.Completion.{Completion}
use Rattle.verbs_types.specs.declared.declaration.Lines.{Lines}
use Rattle.verbs_rules.specs.State.{Verbs}
use Rattle.owner_ring.specs.Consumer.{Consumer}
use Rattle.counted_ring.specs.Mark.{WqMark}
use Rattle.counted_ring.specs.Retirer.{Retirer}
use Rattle.object_places.specs.Objects.{Mark, OnCompletions, OnSends, OnReceives, Ends}
use Rattle.provider_poll.specs.declared.state.End.{End}
use Rattle.provider_poll.specs.declared.state.PollState.{PollState}
use Rattle.provider_poll.specs.declared.state.PollState.TheVariants as states
use Rattle.actor_rules.specs.View.{View}
use Rattle.actor_rules.specs.Objects.{Lists}
use Rattle.actor_rules.proofs.PollPlaces.{place_of_position}
use Rattle.poll_outcomes.specs.Turn.{poll_at, MayTurn, ComesTo}
use Rattle.poll_law.proofs.Stores.{stores_tail}
use Rattle.poll_law.proofs.Acks.{acknowledges}
use Rattle.load_law.specs.Law.{LoadsCome}

module _ (loads : LoadsCome) (d : Lines) (m : Memory) (around : View) (cq most : ℕ) (l : Lists) (v : Verbs) (c : Consumer) (seen : ℕ) (rs : List Retirer) (given : List Completion) (e : BusEntry) where
  abbrev May : PollState → Mark → Type 0
  May state mark = MayTurn d m around cq most l v (poll_at c seen rs state) given mark e

  abbrev Comes : PollState → Mark → Type 0
  Comes state mark = ComesTo d m around cq most l v (poll_at c seen rs state) given mark e

  retires : (taken : ℕ) (empty : Option ℕ) (es : List End) (qp : ℕ) (mark : WqMark) → May (states.Retiring taken empty (record { items = es })) (OnSends qp mark) → Comes (states.Retiring taken empty (record { items = es })) (OnSends qp mark)
  retires taken empty [] qp mark may = absurd may.allowed
  retires taken empty (x ∷ xs) qp mark may = stores_tail d m around cq most l v c seen rs taken empty x xs given may.stands e qp (place_of_position d cq qp may.on) may.allowed.queue_is may.tells mark may.allowed

  pub comes : (state : PollState) (mark : Mark) → May state mark → Comes state mark
  comes state (OnReceives qp mark) may = absurd may.on
  comes state Ends may = absurd may.on
  comes states.Idle (OnCompletions k mark) may = absurd may.allowed
  comes states.Idle (OnSends qp mark) may = absurd may.allowed
  comes (states.Polling asked ends) mark may = loads d m around cq most l v c seen rs (states.Polling asked ends) given mark e refl may
  comes (states.LookingUp asked ends cqe queue) mark may = loads d m around cq most l v c seen rs (states.LookingUp asked ends cqe queue) given mark e refl may
  comes (states.Retiring taken empty left) (OnCompletions k mark) may = absurd may.allowed
  comes (states.Retiring taken empty left) (OnSends qp mark) may = retires taken empty left.items qp mark may
  comes (states.Acking taken empty) (OnCompletions k mark) may =
      subst (λ (n : ℕ). Comes (states.Acking taken empty) (OnCompletions n mark)) (sym may.on) (acknowledges d m around cq most l v c seen rs taken empty given may.stands e may.tells mark may.allowed)
  comes (states.Acking taken empty) (OnSends qp mark) may = absurd may.allowed
