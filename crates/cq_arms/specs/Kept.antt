-- What a legal history of arms says of arms and events.
use Rattle.std.specs.Prelude.{ℕ, ◌≡◌, ◌+◌, ◌<◌, ◌≤◌, ◌++◌, List, [], ◌∷◌, length, filter, fold, slice_get, Bool, true, false, Option, Some, None}
use Rattle.std.specs.List.{Contains, cons_option}
use Rattle.verbs_types.specs.declared.completion.ArmKind.{ArmKind}
use Rattle.cq_arms.specs.declared.arm_word.Arm.{Arm}
use Rattle.cq_arms.specs.Words.{is_passed}
use Rattle.cq_arms.specs.Arms.{Arms, fresh_arms, ArmEvent, Armed, Saw, Published, Resized, Wrote, Raised, after_event, IsLegal}

-- the object after these events
abbrev pub arms_after : ℕ → List ArmEvent → Arms
arms_after index events = fold after_event (fresh_arms index) events

-- the arm that was stored last
abbrev pub last_after : Option Arm → ArmEvent → Option Arm
last_after last (Armed arm) = Some arm
last_after last _ = last

-- The arms that were seen, the newest first: where one is seen, it is the one that was stored last.
pub record Noticed : Type 0 where
  pub last : Option Arm
  pub seen : List Arm

abbrev pub seen_after : Option Arm → List Arm → ArmEvent → List Arm
seen_after last seen (Saw kind index sn due) = cons_option last seen
seen_after last seen _ = seen

abbrev pub noticed_after : Noticed → ArmEvent → Noticed
noticed_after n e = record { last = last_after n.last e; seen = seen_after n.last n.seen e }

abbrev pub noticed : List ArmEvent → Noticed
noticed events = fold noticed_after (record { last = None; seen = [] }) events

abbrev pub last_arm : List ArmEvent → Option Arm
last_arm events = (noticed events).last

abbrev pub seen_arms : List ArmEvent → List Arm
seen_arms events = (noticed events).seen

abbrev pub last_seen : List ArmEvent → Option Arm
last_seen events = slice_get (seen_arms events) 0

-- the arm's index is passed after these events
abbrev pub IsPassed : ℕ → List ArmEvent → Arm → Type 0
IsPassed index events arm = is_passed arm.kind arm.index (arms_after index events).produced (arms_after index events).solicited ≡ true

-- an event at which the adapter judges
abbrev pub is_judged : ArmEvent → Bool
is_judged (Saw kind index sn due) = true
is_judged (Published solicited due) = true
is_judged _ = false

-- an event with which one of the queue becomes due
abbrev pub makes_due : ArmEvent → Bool
makes_due (Saw kind index sn due) = due
makes_due (Published solicited due) = due
makes_due _ = false

-- how many became due, were written, and were taken
abbrev pub answers : List ArmEvent → ℕ
answers events = length (filter makes_due events)

abbrev pub is_write : ArmEvent → Bool
is_write Wrote = true
is_write _ = false

abbrev pub writes : List ArmEvent → ℕ
writes events = length (filter is_write events)

abbrev pub is_raise : ArmEvent → Bool
is_raise (Raised number) = true
is_raise _ = false

abbrev pub raises : List ArmEvent → ℕ
raises events = length (filter is_raise events)

abbrev pub is_resize : ArmEvent → Bool
is_resize Resized = true
is_resize _ = false

abbrev pub resizes : List ArmEvent → ℕ
resizes events = length (filter is_resize events)

-- the event that becomes due is that of an arm that was seen and is passed, and whose number is how many became due before
pub record IsFor (index : ℕ) (before : List ArmEvent) (e : ArmEvent) : Type 0 where
  pub arm : Arm
  pub seen : last_seen (before ++ e ∷ []) ≡ Some arm
  pub passed : IsPassed index (before ++ e ∷ []) arm
  pub number : arm.number ≡ answers before

-- In every legal history, from this index on:
pub record KeepsEvents (index : ℕ) : Type 0 where
  -- An arm that was seen and is passed has its event: where the adapter judges, the event of the arm that it saw last is due by then, if that arm is passed.
  pub has_event : (before after : List ArmEvent) (e : ArmEvent) (arm : Arm) → IsLegal (fresh_arms index) (before ++ e ∷ after) → is_judged e ≡ true → last_seen (before ++ e ∷ []) ≡ Some arm → IsPassed index (before ++ e ∷ []) arm → arm.number < answers (before ++ e ∷ [])
  -- Where no index went to a resize that holds at any moment, and of every arm that was seen.
  pub each_has_event : (events : List ArmEvent) (arm : Arm) → IsLegal (fresh_arms index) events → resizes events ≡ 0 → Contains (seen_arms events) arm → IsPassed index events arm → arm.number < answers events
  -- No other event is made: the first that becomes due is that of number 0, the second that of number 1, and so on, each for an arm that was seen and is passed.
  pub for_arm : (before after : List ArmEvent) (e : ArmEvent) → IsLegal (fresh_arms index) (before ++ e ∷ after) → makes_due e ≡ true → IsFor index before e
  -- a repeated arm makes no second event
  pub once : (before after : List ArmEvent) (kind : ArmKind) (arm_index sn : ℕ) (due : Bool) (arm : Arm) → IsLegal (fresh_arms index) (before ++ Saw kind arm_index sn due ∷ after) → last_arm before ≡ Some arm → arm.number < answers before → due ≡ false
  -- an event that is due is written before another becomes due, and events are taken after they were written
  pub written : (events : List ArmEvent) → IsLegal (fresh_arms index) events → (writes events ≤ answers events) × (answers events ≤ writes events + 1)
  pub taken : (events : List ArmEvent) → IsLegal (fresh_arms index) events → raises events ≤ writes events
