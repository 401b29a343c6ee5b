-- The entries of a legal history name declared objects.
use Rattle.std.proofs.Common.{◌≡◌, ℕ, List, [], ◌∷◌, length, All, IsTrue, subst, arith}
use Rattle.std.specs.List.{list_all}
use Rattle.std.proofs.lemmas.Bool.{and_parts, false≢true}
use Rattle.std.proofs.lemmas.List.Elements.{All-cons}
use Rattle.verbs_types.specs.declared.completion.Completion.{Completion}
use Rattle.verbs_types.specs.declared.completion.Queue.{Queue}
use Rattle.verbs_types.specs.declared.completion.Queue.TheVariants.{Send, Recv, Shared}
use Rattle.verbs_types.specs.declared.declaration.Lines.{Lines}
use Rattle.verbs_types.specs.declared.declaration.TheConstants.{FIRST_QP}
use Rattle.verbs_types.specs.declared.entry.Entry.{Entry}
use Rattle.verbs_types.specs.declared.entry.What.{What}
use Rattle.verbs_types.specs.declared.entry.What.TheVariants.{Post, PostFull, Poll, Retire, Free, Ack, Arm, TakeEvent, Submit, Reply, ReadByte, WriteByte, Clean, Fetch, TakeReceive, GetByte, PutByte, Publish, SeeArm, Event, Overrun, Lost, Execute}
use Rattle.verbs_rules.specs.Legal.{IsLegal}
use Rattle.verbs_types.specs.Lines.{is_among}
use Rattle.verbs_rules.specs.Rows.{publish}
use Rattle.verbs_types.specs.declared.state.Act.{Act}
use Rattle.verbs_types.specs.declared.state.Act.TheVariants.{Complete}
use Rattle.verbs_rules.specs.Rules.{names_living, objects_live, queue_lives}
use Rattle.verbs_rules.specs.State.{Verbs}
use Rattle.verbs_rules.specs.Step.{MayStep, after}
use Rattle.verbs_laws.proofs.Failing.{passed}
use Rattle.transcript_text.specs.Numbers.{IsCompletion, IsQueue, NamesDeclared}

-- what lives is what is declared
pub record Lives (d : Lines) (v : Verbs) : Type 0 where
  pub pairs : v.device.pair_lives ≡ is_among FIRST_QP (length d.qps)
  pub completions : v.device.completions_live ≡ is_among 0 (length d.cqs)

lives_published : (d : Lines) (v : Verbs) (cq : ℕ) (acts : List Act) → Lives d v → Lives d (publish v cq acts)
lives_published d v cq [] l = l
lives_published d v cq (Complete owner u ∷ acts) l = record { pairs = l.pairs; completions = l.completions }

lives_after : (d : Lines) (v : Verbs) (w : What) → Lives d v → Lives d (after v w)
lives_after d v (Post queue items) l = record { pairs = l.pairs; completions = l.completions }
lives_after d v (PostFull queue pending head tail) l = l
lives_after d v (Poll cq most completions) l = record { pairs = l.pairs; completions = l.completions }
lives_after d v (Retire queue count) l = record { pairs = l.pairs; completions = l.completions }
lives_after d v (Ack cq index) l = record { pairs = l.pairs; completions = l.completions }
lives_after d v (Fetch (Send qp) number) l = record { pairs = l.pairs; completions = l.completions }
lives_after d v (Fetch (Recv qp) number) l = l
lives_after d v (Fetch (Shared srq) number) l = l
lives_after d v (Publish cq completion) l = lives_published d v cq v.device.owed l
lives_after d v (Free srq) l = l
lives_after d v (Arm cq kind index number) l = l
lives_after d v (TakeEvent eq event) l = l
lives_after d v (Submit command) l = l
lives_after d v (Reply command answer) l = l
lives_after d v (ReadByte addr byte) l = l
lives_after d v (WriteByte addr byte) l = l
lives_after d v (Clean cq qp index) l = l
lives_after d v (TakeReceive queue) l = l
lives_after d v (GetByte addr byte) l = l
lives_after d v (PutByte addr byte) l = l
lives_after d v (SeeArm cq kind index number) l = l
lives_after d v (Event eq event) l = l
lives_after d v (Overrun cq index acked) l = l
lives_after d v (Lost cq) l = l
lives_after d v (Execute of command answer) l = l

module _ (d : Lines) (v : Verbs) (l : Lives d v) where
  pair_declared : (qp : ℕ) → IsTrue (v.device.pair_lives qp) → IsTrue (is_among FIRST_QP (length d.qps) qp)
  pair_declared qp h = subst (λ lives. IsTrue (lives qp)) l.pairs h

  cq_declared : (cq : ℕ) → IsTrue (v.device.completions_live cq) → IsTrue (is_among 0 (length d.cqs) cq)
  cq_declared cq h = subst (λ lives. IsTrue (lives cq)) l.completions h

  queue_declared : (q : Queue) → IsTrue (queue_lives v q) → IsQueue d q
  queue_declared (Send qp) h = pair_declared qp h
  queue_declared (Recv qp) h = pair_declared qp h
  queue_declared (Shared srq) h = absurd (cc)

  completion_declared : (x : Completion) → IsTrue (names_living v x) → IsCompletion d x
  completion_declared x h = let parts = and_parts (queue_lives v x.queue) (v.device.pair_lives x.qp) h in (queue_declared x.queue parts.0, pair_declared x.qp parts.1)

  completions_declared : (xs : List Completion) → IsTrue (list_all (names_living v) xs) → All (IsCompletion d) xs
  completions_declared [] h = λ k e below. absurd (omega (arith, below))
  completions_declared (x ∷ xs) h =
      let parts = and_parts (names_living v x) (list_all (names_living v) xs) h in
      All-cons (IsCompletion d) x xs (completion_declared x parts.0) (completions_declared xs parts.1)

  objects_declared : (w : What) → IsTrue (objects_live v w) → NamesDeclared d w
  objects_declared (Post queue items) h = queue_declared queue h
  objects_declared (PostFull queue pending head tail) h = queue_declared queue h
  objects_declared (Poll cq most completions) h =
      let parts = and_parts (v.device.completions_live cq) (list_all (names_living v) completions) h in
      (cq_declared cq parts.0, completions_declared completions parts.1)
  objects_declared (Retire queue count) h = queue_declared queue h
  objects_declared (Ack cq index) h = cq_declared cq h
  objects_declared (Fetch queue number) h = queue_declared queue h
  objects_declared (Publish cq completion) h =
      let parts = and_parts (v.device.completions_live cq) (names_living v completion) h in
      (cq_declared cq parts.0, completion_declared completion parts.1)
  objects_declared (Free srq) h = absurd (false≢true h)
  objects_declared (Arm cq kind index number) h = absurd (false≢true h)
  objects_declared (TakeEvent eq event) h = absurd (false≢true h)
  objects_declared (Submit command) h = absurd (false≢true h)
  objects_declared (Reply command answer) h = absurd (false≢true h)
  objects_declared (ReadByte addr byte) h = absurd (false≢true h)
  objects_declared (WriteByte addr byte) h = absurd (false≢true h)
  objects_declared (Clean cq qp index) h = absurd (false≢true h)
  objects_declared (TakeReceive queue) h = absurd (false≢true h)
  objects_declared (GetByte addr byte) h = absurd (false≢true h)
  objects_declared (PutByte addr byte) h = absurd (false≢true h)
  objects_declared (SeeArm cq kind index number) h = absurd (false≢true h)
  objects_declared (Event eq event) h = absurd (false≢true h)
  objects_declared (Overrun cq index acked) h = absurd (false≢true h)
  objects_declared (Lost cq) h = absurd (false≢true h)
  objects_declared (Execute of command answer) h = absurd (false≢true h)

-- an entry that has a step names living objects
living : (v : Verbs) (e : Entry) → MayStep v e → IsTrue (objects_live v e.what)
living v e h = (passed _ _ _ (passed _ _ _ h).1).0

pub names_of_legal : (d : Lines) (v : Verbs) (h : List Entry) → Lives d v → IsLegal v h → All (λ (e : Entry). NamesDeclared d e.what) h
names_of_legal d v [] l legal = λ k e below. absurd (omega (arith, below))
names_of_legal d v (e ∷ h) l legal =
    All-cons (λ (e : Entry). NamesDeclared d e.what) e h (objects_declared d v l e.what (living v e legal.0)) (names_of_legal d (after v e.what) h (lives_after d v e.what l) legal.1)
