-- What an operation on a shared receive queue's words is about.
use Rattle.std.specs.Prelude.{ℕ, Bool, true, false}

pub data SrqMark : Type 0 where
  -- the poster begins a post at this slot, behind `pending` receives that it wrote and did not ring for
  Begin : (pending slot : ℕ) → SrqMark
  -- it goes on with the post that it began
  Fill : SrqMark
  -- it rings for `pending` receives that it wrote; the slot behind theirs is this one
  Ring : (pending slot : ℕ) → SrqMark
  -- the freer looks up the id of this slot
  Lookup : (slot : ℕ) → SrqMark
  -- it links this slot behind the last free one
  Link : (slot : ℕ) → SrqMark
  -- it stores this slot as the last free one
  Free : (slot : ℕ) → SrqMark
  -- the device takes its next receive
  Take : SrqMark
  -- nobody's of them
  Foreign : SrqMark

-- whose an operation is
pub data User : Type 0 where
  Posting : User
  Freeing : User
  Taking : User
  Watching : User

abbrev pub is_user : User → User → Bool
is_user Posting Posting = true
is_user Freeing Freeing = true
is_user Taking Taking = true
is_user Watching Watching = true
is_user _ _ = false

abbrev pub user_of : SrqMark → User
user_of (Begin pending slot) = Posting
user_of Fill = Posting
user_of (Ring pending slot) = Posting
user_of (Lookup slot) = Freeing
user_of (Link slot) = Freeing
user_of (Free slot) = Freeing
user_of Take = Taking
user_of Foreign = Watching
