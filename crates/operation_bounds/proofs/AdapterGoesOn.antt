-- Between the entries of one request the adapter does not make many operations.
use Rattle.std.proofs.Common.{◌≡◌, ◌⊎◌, inl, inr, ℕ, suc, ◌+◌, ◌<◌, ◌≤◌, refl, sym, ap, ◌∙◌, subst, arith, List, [], ◌∷◌, length, is_some, Option, None, Some}
use Rattle.std.specs.List.{fold}
use Rattle.std.proofs.lemmas.Bool.{false≢true}
use Rattle.std.proofs.lemmas.List.Sums.{fold-append}
use Rattle.bus_core.specs.Mark.{Marked}
use Rattle.verbs_types.specs.declared.declaration.Lines.{Lines}
use Rattle.cqe_format.specs.declared.completion.Cqe.{Cqe}
use Rattle.object_places.specs.Objects.{Mark}
use Rattle.device_engine.specs.Event.{AdapterEvent, Fetched, Published}
use Rattle.device_engine.specs.Rule.{adapter_says}
use Rattle.device_engine.specs.State.{AdapterRule, Publishing, put_number, fresh_adapter}
use Rattle.actor_rules.specs.Roles.{next}
use Rattle.actor_rules.proofs.Threading.{put_here, put_all}
use Rattle.operation_bounds.specs.Adapter.{AdapterGoesOn, adapter_by, adapter_operations}
use Rattle.operation_bounds.proofs.AdapterMoves.{AdapterStands, Begins, Moved, Idle, Fetch, Goes, Over, IsIdle, IsOfPair, publish_left, publish_few, adapter_step, adapter_first}

-- it publishes the completion of this request
pub record IsServing (qp number : ℕ) (s : AdapterRule) (cq : ℕ) : Type 0 where
  pub completion : Cqe
  pub work : s.at_work ≡ Publishing cq completion
  pub taken : s.taken qp ≡ number

-- it is past this request: where it publishes another one's completion of the pair, that one was taken later
pub record IsPast (qp number : ℕ) (s : AdapterRule) : Type 0 where
  pub taken : number ≤ s.taken qp
  pub later : (cq : ℕ) (completion : Cqe) → s.at_work ≡ Publishing cq completion → s.visit ≡ qp → number < s.taken qp

module _ (d : Lines) (qp number : ℕ) where
  idle_past : (s : AdapterRule) → IsIdle s.at_work → number ≤ s.taken qp → IsPast qp number s
  idle_past s idle taken = record { taken = taken; later = λ cq completion is here. absurd (subst IsIdle is idle) }

  not_idle : (s : AdapterRule) (cq : ℕ) (completion : Cqe) → s.at_work ≡ Publishing cq completion → IsIdle s.at_work → ⊥
  not_idle s cq completion is idle = subst IsIdle is idle

  -- the requests that were taken, with one more of a pair
  more_taken : (taken : ℕ → ℕ) (visit : ℕ) → number ≤ taken qp → number ≤ put_number taken visit (taken visit + 1) qp
  more_taken taken visit low = put_all taken visit (taken visit + 1) (λ n k. n ≡ qp → number ≤ k) (λ here. let same = ap taken here in omega (arith, low, same)) (λ other apart here. let same = ap taken here in omega (arith, low, same)) qp refl

  one_more : (taken : ℕ → ℕ) (visit : ℕ) → visit ≡ qp → put_number taken visit (taken visit + 1) qp ≡ taken qp + 1
  one_more taken visit here = ap (put_number taken visit (taken visit + 1)) (sym here) ∙ put_here taken visit (taken visit + 1) ∙ ap (λ n. taken n + 1) here

  -- what is past stays so

  past_step : (s : AdapterRule) (op : Marked Mark) → IsPast qp number s → Moved s (next d 0 s op) (adapter_says d s op.entry) → IsPast qp number (next d 0 s op)
  past_step s op p (Idle m) = idle_past (next d 0 s op) m.now (let same = ap (λ (f : ℕ → ℕ). f qp) m.taken in let low = p.taken in omega (arith, same, low))
  past_step s op p (Fetch m) = record {
    taken = taken;
    later = λ cq completion is here. by cq completion is here m.next;
  }
    where
      taken_is : (next d 0 s op).taken qp ≡ put_number s.taken s.visit (s.taken s.visit + 1) qp
      taken_is = ap (λ (f : ℕ → ℕ). f qp) m.taken

      taken : number ≤ (next d 0 s op).taken qp
      taken = let same = taken_is in let low = more_taken s.taken s.visit p.taken in omega (arith, same, low)

      by : (cq : ℕ) (completion : Cqe) → (next d 0 s op).at_work ≡ Publishing cq completion → (next d 0 s op).visit ≡ qp → IsIdle (next d 0 s op).at_work ⊎ Begins s (next d 0 s op) → number < (next d 0 s op).taken qp
      by cq completion is here (inl idle) = absurd (not_idle (next d 0 s op) cq completion is idle)
      by cq completion is here (inr begins) =
          let same = taken_is in
          let one = one_more s.taken s.visit (sym begins.visit ∙ here) in
          let low = p.taken in omega (arith, same, one, low)
  past_step s op p (Goes m) = record {
    taken = let same = ap (λ (f : ℕ → ℕ). f qp) m.taken in let low = p.taken in omega (arith, same, low);
    later = λ cq completion is here. let same = ap (λ (f : ℕ → ℕ). f qp) m.taken in let low = p.later m.cq m.completion m.was (sym m.visit ∙ here) in omega (arith, same, low);
  }
  past_step s op p (Over m) = idle_past (next d 0 s op) m.now (let same = ap (λ (f : ℕ → ℕ). f qp) m.taken in let low = p.taken in omega (arith, same, low))

  past_all : (ops : List (Marked Mark)) (s : AdapterRule) → AdapterStands s → IsPast qp number s → AdapterStands (fold (next d 0) s ops) × IsPast qp number (fold (next d 0) s ops)
  past_all [] s h p = (h, p)
  past_all (op ∷ ops) s h p = let step = adapter_step d s op.entry h in past_all ops (next d 0 s op) step.0 (past_step s op p step.1)

  -- and is not published

  not_said : (said : Option AdapterEvent) (event : AdapterEvent) → said ≡ None → said ≡ Some event → ⊥
  not_said said event silent tells = false≢true (ap is_some (sym silent ∙ tells))

  past_silent : (s : AdapterRule) (op : Marked Mark) (cq index : ℕ) (completion : Cqe) → AdapterStands s → IsPast qp number s → completion.qpn ≡ qp → adapter_says d s op.entry ≡ Some (Published cq completion number index) → ⊥
  past_silent s op cq index completion h p pair tells = by (adapter_step d s op.entry h).1
    where
      by : Moved s (next d 0 s op) (adapter_says d s op.entry) → ⊥
      by (Idle m) = not_said (adapter_says d s op.entry) (Published cq completion number index) m.silent tells
      by (Fetch m) = let both : Some (Fetched s.visit (s.taken s.visit + 1)) ≡ Some (Published cq completion number index) = sym m.tells ∙ tells in cc
      by (Goes m) = not_said (adapter_says d s op.entry) (Published cq completion number index) m.silent tells
      by (Over m) =
          let told = m.tells number index cq completion tells in
          let of_pair : m.completion.qpn ≡ s.visit = subst (IsOfPair s.visit) m.was h.pair in
          let here : s.visit ≡ qp = sym of_pair ∙ ap (λ (c : Cqe). c.qpn) (sym told.0) ∙ pair in
          let low = p.later m.cq m.completion m.was here in
          let same = ap s.taken here in omega (arith, told.1, low, same)

  -- a publication that goes on

  at_most_left : (ops : List (Marked Mark)) (s : AdapterRule) (cq : ℕ) (last : Marked Mark) (c index : ℕ) (completion : Cqe) → AdapterStands s → IsServing qp number s cq → completion.qpn ≡ qp
      → adapter_says d (fold (next d 0) s ops) last.entry ≡ Some (Published c completion number index) → length ops < publish_left (s.queues cq)
  at_most_left [] s cq last c index completion h p pair tells = let few = publish_few (s.queues cq).overrun (s.queues cq).producer (h.queues cq) in omega (arith, few.0)
  at_most_left (op ∷ ops) s cq last c index completion h p pair tells = by step.1 (λ goes. at_most_left ops (next d 0 s op) cq last c index completion step.0 goes pair tells)
    where
      step : AdapterStands (next d 0 s op) × Moved s (next d 0 s op) (adapter_says d s op.entry)
      step = adapter_step d s op.entry h

      by : Moved s (next d 0 s op) (adapter_says d s op.entry) → (IsServing qp number (next d 0 s op) cq → length ops < publish_left ((next d 0 s op).queues cq)) → suc (length ops) < publish_left (s.queues cq)
      by (Idle m) others = absurd (not_idle s cq p.completion p.work m.was)
      by (Fetch m) others = absurd (not_idle s cq p.completion p.work m.was)
      by (Goes m) others =
          let here : m.cq ≡ cq = (let both : Publishing m.cq m.completion ≡ Publishing cq p.completion = sym m.was ∙ p.work in cc) in
          let falls = subst (λ (n : ℕ). publish_left ((next d 0 s op).queues n) < publish_left (s.queues n)) here m.falls in
          let rest = others (record { completion = m.completion; work = subst (λ (n : ℕ). (next d 0 s op).at_work ≡ Publishing n m.completion) here m.now; taken = ap (λ (f : ℕ → ℕ). f qp) m.taken ∙ p.taken }) in
          omega (arith, falls, rest)
      by (Over m) others =
          let past = idle_past (next d 0 s op) m.now (let same = ap (λ (f : ℕ → ℕ). f qp) m.taken in let now = p.taken in omega (arith, same, now)) in
          let then_past = past_all ops (next d 0 s op) step.0 past in
          absurd (past_silent (fold (next d 0) (next d 0 s op) ops) last c index completion then_past.0 then_past.1 pair tells)

  -- the operation that takes the request begins it, or there is no completion

  begins : (s : AdapterRule) (op : Marked Mark) → AdapterStands s → adapter_says d s op.entry ≡ Some (Fetched qp number) → ((cq : ℕ) × IsServing qp number (next d 0 s op) cq) ⊎ IsPast qp number (next d 0 s op)
  begins s op h tells = by (adapter_step d s op.entry h).1
    where
      by : Moved s (next d 0 s op) (adapter_says d s op.entry) → ((cq : ℕ) × IsServing qp number (next d 0 s op) cq) ⊎ IsPast qp number (next d 0 s op)
      by (Idle m) = absurd (not_said (adapter_says d s op.entry) (Fetched qp number) m.silent tells)
      by (Fetch m) = by_next m.next
        where
          both : Fetched s.visit (s.taken s.visit + 1) ≡ Fetched qp number
          both = (let same : Some (Fetched s.visit (s.taken s.visit + 1)) ≡ Some (Fetched qp number) = sym m.tells ∙ tells in cc)

          here : s.visit ≡ qp
          here = (let same = both in cc)

          count : s.taken s.visit + 1 ≡ number
          count = (let same = both in cc)

          taken : (next d 0 s op).taken qp ≡ number
          taken = ap (λ (f : ℕ → ℕ). f qp) m.taken ∙ one_more s.taken s.visit here ∙ ap (λ n. s.taken n + 1) (sym here) ∙ count

          by_next : IsIdle (next d 0 s op).at_work ⊎ Begins s (next d 0 s op) → ((cq : ℕ) × IsServing qp number (next d 0 s op) cq) ⊎ IsPast qp number (next d 0 s op)
          by_next (inl idle) = inr (idle_past (next d 0 s op) idle (let now = taken in omega (arith, now)))
          by_next (inr begun) = inl (begun.cq, record { completion = begun.completion; work = begun.work; taken = taken })
      by (Goes m) = absurd (not_said (adapter_says d s op.entry) (Fetched qp number) m.silent tells)
      by (Over m) = absurd (m.fetches_none qp number tells)

stands_all : (d : Lines) (ops : List (Marked Mark)) (s : AdapterRule) → AdapterStands s → AdapterStands (fold (next d 0) s ops)
stands_all d [] s h = h
stands_all d (op ∷ ops) s h = stands_all d ops (next d 0 s op) (adapter_step d s op.entry h).0

pub adapter_goes_on : (d : Lines) (ops : List (Marked Mark)) → AdapterGoesOn d ops
adapter_goes_on d ops before during takes publishes qp number stretch served = by (begins d qp number (adapter_by d before) takes stands served.taken)
  where
    stands : AdapterStands (adapter_by d before)
    stands = stands_all d before (fresh_adapter d) (adapter_first d)

    stands_then : AdapterStands (next d 0 (adapter_by d before) takes)
    stands_then = (adapter_step d (adapter_by d before) takes.entry stands).0

    tells : adapter_says d (fold (next d 0) (next d 0 (adapter_by d before) takes) during) publishes.entry ≡ Some (Published served.cq served.completion number served.index)
    tells = ap (λ (s : AdapterRule). adapter_says d s publishes.entry) (sym (fold-append (next d 0) (fresh_adapter d) before (takes ∷ during))) ∙ served.published

    by : ((cq : ℕ) × IsServing qp number (next d 0 (adapter_by d before) takes) cq) ⊎ IsPast qp number (next d 0 (adapter_by d before) takes) → length during ≤ adapter_operations
    by (inl serving) =
        let bound = at_most_left d qp number during (next d 0 (adapter_by d before) takes) serving.0 publishes served.cq served.index served.completion stands_then serving.1 served.pair tells in
        let side = (next d 0 (adapter_by d before) takes).queues serving.0 in
        let few = publish_few side.overrun side.producer (stands_then.queues serving.0) in
        omega (arith, bound, few.1)
    by (inr past) =
        let then_past = past_all d qp number during (next d 0 (adapter_by d before) takes) stands_then past in
        absurd (past_silent d qp number (fold (next d 0) (next d 0 (adapter_by d before) takes) during) publishes served.cq served.index served.completion then_past.0 then_past.1 served.pair tells)
