-- The three users of a shared receive queue, and the traces that the law speaks of.
use Rattle.std.specs.Prelude.{ℕ, ◌≡◌, ◌+◌, ◌<◌, List, filter, fold, true, Option, None, if◌then◌else◌}
use Rattle.std.specs.List.{AllByRecursion}
use Rattle.bus_core.specs.declared.operation.BusOp.TheVariants.{Load}
use Rattle.bus_core.specs.Follow.{Follows}
use Rattle.bus_core.specs.Mark.{Marked, entries}
use Rattle.bus_core.specs.Trace.{Memory, IsConsistent}
use Rattle.bus_core.specs.Weave.{spelled}
use Rattle.srq_list.specs.declared.place.SrqPlace.{SrqPlace}
use Rattle.srq_list.specs.Place.{IsPlace, size, slot_of, max_post, next_at, link_word, record_of, touches}
use Rattle.srq_list.specs.Mark.{SrqMark, User, Posting, Freeing, Taking, Watching, is_user, user_of}
use Rattle.srq_list.specs.Queue.{SharedQueue, SrqEvent, after_event, empty_queue, AsksOfHeld}
use Rattle.srq_list.specs.Poster.{Poster, MayPost, after_post, post_says}
use Rattle.srq_list.specs.PosterView as poster
use Rattle.srq_list.specs.Freer.{Freer, MayServe, after_serve, serve_says}
use Rattle.srq_list.specs.FreerView as freer
use Rattle.srq_list.specs.Device.{Taker, MayTakeBy, after_take, take_says}
use Rattle.srq_list.specs.DeviceView as device

-- whose an operation is: on the queue's words the user's of its mark, elsewhere nobody's
abbrev pub maker : SrqPlace → Marked SrqMark → User
maker place x = if touches place x.entry.addr then user_of x.mark else Watching

-- the operations of one user, in order
abbrev pub of_user : SrqPlace → User → List (Marked SrqMark) → List (Marked SrqMark)
of_user place user trace = filter (λ x. is_user (maker place x) user) trace

-- whoever is no user writes none of the queue's words
abbrev pub IsHarmless : SrqPlace → Marked SrqMark → Type 0
IsHarmless place x = touches place x.entry.addr ≡ true → user_of x.mark ≡ Watching → x.entry.op ≡ Load

pub record Users : Type 0 where
  pub poster : Poster
  pub freer : Freer
  pub taker : Taker

-- the users before their first operation
abbrev pub fresh_users : SrqPlace → Users
fresh_users place = record { poster = poster.fresh_side; freer = freer.fresh_side place; taker = device.fresh_side }

-- the users after an operation, and what it says
abbrev pub after_by : SrqPlace → ℕ → User → Users → Marked SrqMark → Users
after_by place start Posting u x = record u { poster = after_post place u.poster x.mark x.entry }
after_by place start Freeing u x = record u { freer = after_serve u.freer x.mark }
after_by place start Taking u x = record u { taker = after_take place start u.taker x.mark x.entry }
after_by place start Watching u x = u

abbrev pub says_by : SrqPlace → ℕ → User → Users → Marked SrqMark → Option SrqEvent
says_by place start Posting u x = post_says u.poster x.mark x.entry
says_by place start Freeing u x = serve_says x.mark x.entry
says_by place start Taking u x = take_says place start u.taker x.mark x.entry
says_by place start Watching u x = None

abbrev pub after_any : SrqPlace → ℕ → Users → Marked SrqMark → Users
after_any place start u x = after_by place start (maker place x) u x

abbrev pub any_says : SrqPlace → ℕ → Users → Marked SrqMark → Option SrqEvent
any_says place start u x = says_by place start (maker place x) u x

-- what the marked operations of a trace say, in order, and what they make of the users and of the list
abbrev pub history : SrqPlace → ℕ → List (Marked SrqMark) → List SrqEvent
history place start trace = spelled (after_any place start) (any_says place start) (fresh_users place) trace

abbrev pub users_after : SrqPlace → ℕ → List (Marked SrqMark) → Users
users_after place start trace = fold (after_any place start) (fresh_users place) trace

abbrev pub queue_after : SrqPlace → ℕ → List (Marked SrqMark) → SharedQueue
queue_after place start trace = fold after_event (empty_queue place) (history place start trace)

-- The queue's words before its first receive: the last slot is the last free one, nothing is rung beyond the first count, and each slot names the next one.
pub record IsStart (place : SrqPlace) (start : ℕ) (m : Memory) : Type 0 where
  pub tail : m place.tail ≡ max_post place
  pub recorded : m place.dbr ≡ record_of start 0
  pub linked : (slot : ℕ) → slot < size place → m (next_at place slot) ≡ link_word (slot_of place (slot + 1))

-- A consistent trace of a queue whose three users keep their rules, each over its own operations, while nobody else writes the queue's words, and whose freer speaks of slots whose receive was taken and which were not freed since.
pub record IsRun (place : SrqPlace) (start : ℕ) (m : Memory) (trace : List (Marked SrqMark)) : Type 0 where
  pub place_ok : IsPlace place
  pub start_ok : IsStart place start m
  pub consistent : IsConsistent m (entries trace)
  pub poster : Follows (λ (p : Poster) (x : Marked SrqMark). MayPost place start p x.mark x.entry) (λ (p : Poster) (x : Marked SrqMark). after_post place p x.mark x.entry) (fresh_users place).poster (of_user place Posting trace)
  pub freer : Follows (λ (f : Freer) (x : Marked SrqMark). MayServe place f x.mark x.entry) (λ (f : Freer) (x : Marked SrqMark). after_serve f x.mark) (fresh_users place).freer (of_user place Freeing trace)
  pub device : Follows (λ (d : Taker) (x : Marked SrqMark). MayTakeBy place d x.mark x.entry) (λ (d : Taker) (x : Marked SrqMark). after_take place start d x.mark x.entry) (fresh_users place).taker (of_user place Taking trace)
  pub others : AllByRecursion (IsHarmless place) trace
  pub asks : AsksOfHeld (empty_queue place) (history place start trace)
