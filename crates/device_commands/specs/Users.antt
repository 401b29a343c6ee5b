-- How many live objects use one.
use Rattle.std.specs.Prelude.{ℕ, ◌≡◌, ◌+◌, ◌<◌, ◌≤◌, ◌==◌, Bool, List, length, Option, IfSome, slice_index, cond}
use Rattle.std.specs.List.{All, sum_by}
use Rattle.std.specs.Option.{option_map_or}
use Rattle.verbs_types.specs.declared.declaration.TheConstants.{FIRST_PD}
use Rattle.device_commands.specs.declared.shapes.CqShape.{CqShape}
use Rattle.device_commands.specs.declared.objects.Pair.{Pair}

abbrev pub one_if : Bool → ℕ
one_if test = cond test 1 0

-- how often an object uses the one of this number
abbrev pub eq_uses : ℕ → Option CqShape → ℕ
eq_uses eq cq = option_map_or (λ c. one_if (c.eq == eq)) cq 0

abbrev pub cq_uses : ℕ → Option Pair → ℕ
cq_uses cq qp = option_map_or (λ q. one_if (q.shape.send_cq == cq) + one_if (q.shape.recv_cq == cq)) qp 0

abbrev pub pd_uses : ℕ → Option Pair → ℕ
pd_uses place qp = option_map_or (λ q. one_if (q.shape.pd == FIRST_PD + place)) qp 0

-- the numbers of users are the sums of these uses
abbrev pub IsTally : {X : Type 0} → List ℕ → (ℕ → X → ℕ) → List X → Type 0
IsTally users uses items = (n : ℕ) → n < length users → slice_index users n ≡ sum_by (uses n) items

-- a live completion queue uses an event queue that is counted
abbrev pub CqUsesCounted : ℕ → Option CqShape → Type 0
CqUsesCounted eqs cq = IfSome cq (λ c. c.eq < eqs)

-- a queue pair uses a protection domain and completion queues that are counted
pub record PairUses (pds cqs : ℕ) (q : Pair) : Type 0 where
  pub first : FIRST_PD ≤ q.shape.pd
  pub pd : q.shape.pd < FIRST_PD + pds
  pub send : q.shape.send_cq < cqs
  pub recv : q.shape.recv_cq < cqs

abbrev pub QpUsesCounted : ℕ → ℕ → Option Pair → Type 0
QpUsesCounted pds cqs qp = IfSome qp (PairUses pds cqs)

-- the users of event queues are the live completion queues
pub record EqsCounted (users : List ℕ) (cqs : List (Option CqShape)) : Type 0 where
  pub tally : IsTally users eq_uses cqs
  pub inside : All (CqUsesCounted (length users)) cqs

-- the users of protection domains and completion queues are the live queue pairs
pub record PairsCounted (pd_users cq_users : List ℕ) (qps : List (Option Pair)) : Type 0 where
  pub pds : IsTally pd_users pd_uses qps
  pub cqs : IsTally cq_users cq_uses qps
  pub inside : All (QpUsesCounted (length pd_users) (length cq_users)) qps

-- the object at this place has one user more, and all others as many as before
abbrev pub IsOneMore : List ℕ → List ℕ → ℕ → Type 0
IsOneMore less more place = (n : ℕ) → n < length less → slice_index more n ≡ slice_index less n + one_if (place == n)
