-- The calls that are built, and what the threads have to keep together.
use Rattle.std.specs.Prelude.{ℕ, ◌≡◌, ◌≢◌, ◌^◌, ◌-◌, ◌<◌, ◌≤◌, ◌==◌, ◌⊎◌, Bool, false, IsTrue, List, [], length, All, AllPairs, EachIndex, IfSome, slice_get}
use Rattle.std.specs.List.{list_any, sum_by}
use Rattle.std.specs.Option.{option_map_or}
use Rattle.verbs_types.specs.Lines.{is_among}
use Rattle.verbs_types.specs.declared.call.Call.{Call}
use Rattle.verbs_types.specs.declared.call.Call.TheVariants.{Post, Recv, Poll, Drain}
use Rattle.verbs_types.specs.declared.request.Body.TheVariants.{Sges}
use Rattle.verbs_types.specs.declared.request.Op.TheVariants.{Nop}
use Rattle.verbs_types.specs.declared.request.Receive.{Receive}
use Rattle.verbs_types.specs.declared.request.Request.{Request}
use Rattle.verbs_types.specs.declared.request.Sge.{Sge}
use Rattle.verbs_types.specs.declared.declaration.CqLine.{CqLine}
use Rattle.verbs_types.specs.declared.declaration.QpLine.{QpLine}
use Rattle.verbs_types.specs.declared.declaration.Lines.{Lines}
use Rattle.verbs_types.specs.declared.declaration.TheConstants.{FIRST_QP}
use Rattle.scenario_text.specs.Limits.{completing_into}

-- a request without data, which the entry of its operation carries
abbrev pub IsPlainNop : Request → Type 0
IsPlainNop r = (r.op ≡ Nop) × (r.body ≡ Sges []) × (r.id < 2 ^ 64)

-- the scatter/gather entry that ends a list of entries in words
abbrev pub list_end : Sge
list_end = record { key = 0x100; addr = 0; len = 0 }

-- an entry of a receive: it fits its words and is not the one that ends a list
pub record IsSegment (s : Sge) : Type 0 where
  pub key : s.key < 2 ^ 32
  pub addr : s.addr < 2 ^ 64
  pub len : s.len ≤ 65536
  pub real : s ≢ list_end

abbrev pub bytes_of : List Sge → ℕ
bytes_of sges = sum_by (λ (s : Sge). s.len) sges

-- a receive of at most `most` entries, which an entry of its queue carries
pub record CanReceive (most : ℕ) (r : Receive) : Type 0 where
  pub id : r.id < 2 ^ 64
  pub few : length r.sges ≤ most
  pub segments : All IsSegment r.sges
  pub bytes : bytes_of r.sges ≤ 65536

-- how many entries a receive on this queue pair may have
abbrev pub segments_of : Lines → ℕ → ℕ
segments_of d qp = option_map_or (λ (l : QpLine). l.segments) (slice_get d.qps (qp - FIRST_QP)) 0

abbrev pub IsWithin : ℕ → ℕ → ℕ → Type 0
IsWithin least most n = (least ≤ n) × (n ≤ most)

abbrev pub IsPair : Lines → ℕ → Type 0
IsPair d qp = IsTrue (is_among FIRST_QP (length d.qps) qp)

abbrev pub IsCall : Lines → Call → Type 0
IsCall d (Post qp requests) = IsPair d qp × IsWithin 1 16 (length requests) × All IsPlainNop requests
IsCall d (Recv qp receives) = IsPair d qp × IsWithin 1 16 (length receives) × All (CanReceive (segments_of d qp)) receives
IsCall d (Poll cq most) = IsTrue (is_among 0 (length d.cqs) cq) × IsWithin 1 16 most
IsCall d (Drain cq count) = IsTrue (is_among 0 (length d.cqs) cq) × IsWithin 1 65536 count

abbrev pub IsProgram : Lines → List Call → Type 0
IsProgram d calls = (length calls ≤ 65536) × All (IsCall d) calls

-- the calls that use a side of a queue
abbrev pub posts_on : ℕ → Call → Bool
posts_on q (Post qp requests) = qp == q
posts_on q _ = false

abbrev pub receives_on : ℕ → Call → Bool
receives_on q (Recv qp receives) = qp == q
receives_on q _ = false

abbrev pub polls_on : ℕ → Call → Bool
polls_on c (Poll cq most) = cq == c
polls_on c (Drain cq count) = cq == c
polls_on c _ = false

-- of two threads at most one has such a call
abbrev pub IsOfOneThread : (Call → Bool) → List (List Call) → Type 0
IsOfOneThread uses programs = AllPairs (λ (one other : List Call). (list_any uses one ≡ false) ⊎ (list_any uses other ≡ false)) programs

-- the requests and receives that complete into each queue are no more than its size
abbrev pub HasRoom : Lines → List (List Call) → Type 0
HasRoom d programs = EachIndex d.cqs (λ c. IfSome (slice_get d.cqs c) (λ (l : CqLine). completing_into c FIRST_QP d.qps programs ≤ 2 ^ l.log))
