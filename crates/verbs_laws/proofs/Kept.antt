-- Each legal entry keeps what verbs queues keep.
use Rattle.std.proofs.Common.{◌≡◌, ℕ, refl, sym, ◌∙◌, ap}
use Rattle.std.proofs.lemmas.Bool.{false≢true}
use Rattle.verbs_types.specs.declared.entry.What.{What}
use Rattle.verbs_types.specs.declared.entry.What.TheVariants.{Post, PostFull, Poll, Retire, Free, Ack, Arm, TakeEvent, Submit, Reply, ReadByte, WriteByte, Clean, Fetch, TakeReceive, GetByte, PutByte, Publish, SeeArm, Event, Overrun, Lost, Execute}
use Rattle.verbs_rules.specs.State.{Verbs}
use Rattle.verbs_rules.specs.Step.{MayStep, after}
use Rattle.verbs_rules.specs.Sane.{Sane}
use Rattle.verbs_rules.specs.Within.{Bounds, Within, Goes}
use Rattle.verbs_rules.specs.Answered.{Due}
use Rattle.std.specs.Prelude.{List}
use Rattle.verbs_laws.proofs.Facts.{MayPost_by_step, MayPoll_by_step, MayRetire_by_step, MayAck_by_step, MayFetch_by_step, MayPublish_by_step}
use Rattle.verbs_laws.proofs.KeptHost.{post_kept, poll_kept, retire_kept, ack_kept}
use Rattle.verbs_laws.proofs.KeptAdapter.{fetch_kept, publish_kept}

pub sane_kept : (n : ℕ) (v : Verbs) (actor : ℕ) (what : What) → MayStep v (record { actor = actor; what = what }) → Sane n v → Sane n (after v what)
sane_kept n v actor (Post queue items) step s = post_kept n v actor s queue items (MayPost_by_step v actor queue items step)
sane_kept n v actor (PostFull queue pending head tail) step s = s
sane_kept n v actor (Poll cq most completions) step s = poll_kept n v cq most s actor completions (MayPoll_by_step v actor cq most completions step)
sane_kept n v actor (Retire queue count) step s = retire_kept n v actor s queue count (MayRetire_by_step v actor queue count step)
sane_kept n v actor (Ack cq index) step s = ack_kept n v actor s cq index (MayAck_by_step v actor cq index step)
sane_kept n v actor (Fetch queue number) step s = fetch_kept n v actor queue number s (MayFetch_by_step v actor queue number step)
sane_kept n v actor (Publish cq completion) step s = let may = MayPublish_by_step v actor cq completion step in publish_kept n v cq may.first may.others s may.owed
sane_kept n v actor (Free srq) step s = s
sane_kept n v actor (Arm cq kind index number) step s = s
sane_kept n v actor (TakeEvent eq event) step s = s
sane_kept n v actor (Submit command) step s = s
sane_kept n v actor (Reply command answer) step s = s
sane_kept n v actor (ReadByte addr byte) step s = s
sane_kept n v actor (WriteByte addr byte) step s = s
sane_kept n v actor (Clean cq qp index) step s = s
sane_kept n v actor (TakeReceive queue) step s = s
sane_kept n v actor (GetByte addr byte) step s = s
sane_kept n v actor (PutByte addr byte) step s = s
sane_kept n v actor (SeeArm cq kind index number) step s = s
sane_kept n v actor (Event eq event) step s = s
sane_kept n v actor (Overrun cq index acked) step s = s
sane_kept n v actor (Lost cq) step s = s
sane_kept n v actor (Execute of command answer) step s = s

-- a legal entry goes on where its counts stay within bounds
pub goes : (n : ℕ) (v : Verbs) (actor : ℕ) (what : What) (bounds : Bounds) (dues : List (List Due)) → Sane n v → MayStep v (record { actor = actor; what = what }) → Within n bounds (after v what) dues → Goes n bounds v actor what dues
goes n v actor what bounds dues s step w = record { legal = step; bounded = record { sane = sane_kept n v actor what step s; within = w } }
