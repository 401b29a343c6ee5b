-- An operation of a poll, which may be about to begin.
use Rattle.std.specs.Prelude.{ℕ, ◌≡◌, ◌<◌, ◌≤◌, ◌^◌, ◌==◌, if◌then◌else◌, List, length, slice_get, slice_set, Option, None, Some}
use Rattle.bus_core.specs.declared.operation.BusEntry.{BusEntry}
use Rattle.bus_core.specs.declared.turn.Note.{Note}
use Rattle.bus_core.specs.declared.turn.Step.{Step}
use Rattle.bus_core.specs.declared.turn.Step.TheVariants.{More, Gave, Done}
use Rattle.bus_core.specs.Port.{Port}
use Rattle.verbs_types.specs.declared.completion.Completion.{Completion}
use Rattle.owner_ring.specs.Consumer.{next_index}
use Rattle.provider_poll.specs.declared.answer.PollAnswer.{PollAnswer}
use Rattle.provider_poll.specs.declared.answer.PollAnswer.TheVariants.{Polled as TookSoMany}
use Rattle.provider_poll.specs.declared.state.PollState.{PollState}
use Rattle.provider_poll.specs.declared.state.PollState.TheVariants.{Idle}
use Rattle.provider_poll.specs.declared.state.PollState.TheVariants as states
use Rattle.provider_poll.specs.FollowsRule.{PollTurn}
use Rattle.provider_poll.specs.Poll.{PollView, CanPoll}
use Rattle.provider_poll.specs.Poll as polls
use Rattle.actor_rules.specs.Polling.{given_after}
use Rattle.thread_actor.specs.declared.polls.Polled.{Polled}

abbrev pub begun_at : PollView → ℕ → PollState → PollView
begun_at side most Idle = polls.begun side most
begun_at side most state = side

-- the side with its poll, which begins where none is under way
abbrev pub begun : PollView → ℕ → PollView
begun side most = begun_at side most side.state

-- how many completions a poll took that is over
abbrev pub taken_by : Step Completion PollAnswer → Option ℕ
taken_by (Done (TookSoMany taken empty)) = Some taken
taken_by _ = None

-- there is room for a completion that is given
abbrev pub HasRoomFor : List Completion → Step Completion PollAnswer → Type 0
HasRoomFor given (Gave completion) = length given < 16
HasRoomFor given _ = Unit {0}

-- a poll of at most `most` completions can begin
pub record CanBegin (side : PollView) (most : ℕ) : Type 0 where
  pub some : 0 < most
  pub few : most ≤ 16
  pub index : next_index side.host.side < 2 ^ 61

-- there is room for one more completion while the poll takes them
abbrev pub HasRoomAt : List Completion → PollState → Type 0
HasRoomAt given (states.Polling asked ends) = length given < 16
HasRoomAt given (states.LookingUp asked ends c queue) = length given < 16
HasRoomAt given _ = Unit {0}

-- a side of which a poll of at most `most` completions is under way, or may begin
pub record MayGoOn (side : PollView) (most : ℕ) (given : List Completion) : Type 0 where
  pub begin : CanBegin side most
  pub room : HasRoomAt given (begun side most).state

pub record GoesOn (old new : PollView) (most : ℕ) (before after : List Completion) (e : BusEntry) (polled : Polled) : Type 0 where
  pub answer : Step Completion PollAnswer
  pub turn : PollTurn (begun old most) new e answer
  pub given : after ≡ given_after before answer
  pub taken : polled.taken ≡ taken_by answer
  pub noted : polled.noted ≡ new.noted

-- the side of a place can go on
pub record Ready (sides : List (Option PollView)) (place most : ℕ) (given : List Completion) : Type 0 where
  pub side : PollView
  pub found : slice_get sides place ≡ Some (Some side)
  pub may : MayGoOn side most given

abbrev pub CanPollAt : {Bus : Type 0} → List (Option PollView) → ℕ → Port Bus → Type 0
CanPollAt sides place port = (side : PollView) → slice_get sides place ≡ Some (Some side) → CanPoll side port

-- it went on, and all others are as before
pub record Polls (old new : List (Option PollView)) (place most : ℕ) (given after_given : List Completion) (e : BusEntry) (polled : Polled) : Type 0 where
  pub before : PollView
  pub after : PollView
  pub found : slice_get old place ≡ Some (Some before)
  pub sides : new ≡ slice_set old place (Some after)
  pub goes : GoesOn before after most given after_given e polled

-- a drain tells nothing of a poll that took none
abbrev pub note_at : Option ℕ → Option Note → Option Note
note_at None noted = noted
note_at (Some taken) noted = if taken == 0 then None else noted

abbrev pub note_in_drain : Polled → Option Note
note_in_drain polled = note_at polled.taken polled.noted
