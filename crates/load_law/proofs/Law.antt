-- Each load that the rule of a poll allows comes to one of its outcomes.
use Rattle.std.proofs.Common.{ℕ, sym, subst, List, ◌≡◌, true}
use Rattle.bus_core.specs.declared.operation.BusEntry.{BusEntry}
use Rattle.bus_core.specs.Trace.{Memory}
use Rattle.verbs_types.specs.declared.completion.Completion.{Completion}
use Rattle.verbs_types.specs.declared.declaration.Lines.{Lines}
use Rattle.verbs_rules.specs.State.{Verbs}
use Rattle.owner_ring.specs.Consumer.{Consumer}
use Rattle.counted_ring.specs.Retirer.{Retirer}
use Rattle.object_places.specs.Objects.{Mark, OnCompletions, OnSends, OnReceives, Ends}
use Rattle.provider_poll.specs.declared.state.PollState.{PollState}
use Rattle.provider_poll.specs.declared.state.PollState.TheVariants as states
use Rattle.provider_poll.specs.Rule.{PollRule}
use Rattle.actor_rules.specs.Polling.{is_loading}
use Rattle.actor_rules.specs.View.{View}
use Rattle.actor_rules.specs.Objects.{Lists}
use Rattle.actor_rules.proofs.PollPlaces.{place_of_position}
use Rattle.poll_outcomes.specs.Turn.{poll_at, MayTurn, ComesTo}
use Rattle.load_law.proofs.Loads.{loads}
use Rattle.load_law.proofs.Lookups.{looks_up}
use Rattle.std.proofs.lemmas.Bool.{false≢true}
use Rattle.load_law.specs.Law.{LoadsCome}

module _ (d : Lines) (m : Memory) (around : View) (cq most : ℕ) (l : Lists) (v : Verbs) (c : Consumer) (seen : ℕ) (rs : List Retirer) (given : List Completion) (e : BusEntry) where
  abbrev side : PollState → PollRule
  side state = poll_at c seen rs state

  abbrev May : PollState → Mark → Type 0
  May state mark = MayTurn d m around cq most l v (side state) given mark e

  abbrev Comes : PollState → Mark → Type 0
  Comes state mark = ComesTo d m around cq most l v (side state) given mark e

  comes : (state : PollState) (mark : Mark) → is_loading state ≡ true → May state mark → Comes state mark
  comes state (OnReceives qp mark) loading may = absurd may.on
  comes state Ends loading may = absurd may.on
  comes states.Idle (OnCompletions k mark) loading may = absurd may.allowed
  comes states.Idle (OnSends qp mark) loading may = absurd may.allowed
  comes (states.Polling asked ends) (OnCompletions k mark) loading may =
      subst (λ (n : ℕ). May (states.Polling n ends) (OnCompletions k mark) → Comes (states.Polling n ends) (OnCompletions k mark)) (sym may.stands.polls)
      (λ may'. loads d m around cq most l v c seen rs ends.items given may'.stands e mark may'.tells may'.allowed) may
  comes (states.Polling asked ends) (OnSends qp mark) loading may = absurd may.allowed
  comes (states.LookingUp asked ends cqe queue) (OnCompletions k mark) loading may = absurd may.allowed
  comes (states.LookingUp asked ends cqe queue) (OnSends qp mark) loading may =
      subst (λ (n : ℕ). May (states.LookingUp n ends cqe queue) (OnSends qp mark) → Comes (states.LookingUp n ends cqe queue) (OnSends qp mark)) (sym may.stands.polls)
      (λ may'. looks_up d m around cq most l v c seen rs ends.items cqe queue given may'.stands e qp (place_of_position d cq qp may'.on) may'.allowed.queue_is may'.tells mark may'.allowed) may
  comes (states.Retiring taken empty left) (OnCompletions k mark) loading may = absurd (false≢true loading)
  comes (states.Retiring taken empty left) (OnSends qp mark) loading may = absurd (false≢true loading)
  comes (states.Acking taken empty) (OnCompletions k mark) loading may = absurd (false≢true loading)
  comes (states.Acking taken empty) (OnSends qp mark) loading may = absurd (false≢true loading)

pub loads_come : LoadsCome
loads_come d m around cq most l v c seen rs state given mark e loading may = comes d m around cq most l v c seen rs given e state mark loading may
