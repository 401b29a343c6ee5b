-- The state in which a run begins keeps all bounds.
use Rattle.std.proofs.Common.{◌≡◌, ℕ, zero, suc, ◌+◌, ◌-◌, ◌^◌, ◌<◌, ◌≤◌, nat_lt, Bool, true, false, if◌then◌else◌, List, [], ◌∷◌, ◌++◌, length, refl, sym, ◌∙◌, ap, subst, arith, slice_get, get_or, Option, None, Some}
use Rattle.std.specs.Option.{option_map_or}
use Rattle.std.proofs.lemmas.Bool.{and_from, le-leb, lt-ltb, ltb-false, cond-true, cond_both, false≢true}
use Rattle.std.proofs.lemmas.List.{length-map, get_or_past}
use Rattle.std.proofs.lemmas.Option.{slice_get_within}
use Rattle.verbs_types.specs.declared.call.Call.{Call}
use Rattle.verbs_types.specs.declared.completion.Queue.TheVariants.{Send}
use Rattle.verbs_types.specs.declared.declaration.CqLine.{CqLine}
use Rattle.verbs_types.specs.declared.declaration.QpLine.{QpLine}
use Rattle.verbs_types.specs.declared.declaration.Lines.{Lines}
use Rattle.verbs_types.specs.declared.declaration.TheConstants.{FIRST_QP}
use Rattle.verbs_types.specs.declared.state.QueuePair.{QueuePair}
use Rattle.verbs_types.specs.Lines.{is_among, is_cq_line, is_qp_line}
use Rattle.verbs_rules.specs.Sane.{Sane, IsPair}
use Rattle.verbs_rules.specs.Within.{Bounds, InBounds, Within, into, free_on}
use Rattle.verbs_rules.specs.Start.{start, first_index}
use Rattle.verbs_rules.specs.State.{Verbs}
use Rattle.verbs_laws.proofs.Families.{among}
use Rattle.scenario_text.specs.Limits.{posted_on, counted_into}
use Rattle.scenario_text.specs.Running.{CanRun}
use Rattle.scenario_text.specs.declared.scenario.ScenarioParts.{ScenarioParts}
use Rattle.object_places.specs.Places.{cq_line, no_cq}
use Rattle.actor_rules.specs.Ready.{first_dues}
use Rattle.ready_scenarios.specs.Ready.{bounds_of}
use Rattle.ready_scenarios.proofs.Declared.{Declares, declares_by, LineAt, line_at, send_cq_live, pair_is, into_is, room_for}
use Rattle.ready_scenarios.proofs.Dues.{first_items, first_retires, first_poster, first_proper}

-- A completion queue begins with its line's index

index_at : (ls : List CqLine) (k : ℕ) → option_map_or (λ (l : CqLine). l.start) (slice_get ls k) 0 ≡ (get_or ls k no_cq).start
index_at [] zero = refl
index_at [] (suc k) = refl
index_at (l ∷ ls) zero = refl
index_at (l ∷ ls) (suc k) = index_at ls k

-- there is no line of a number that is not among the lines
beyond : (count number : ℕ) → is_among 0 count number ≡ false → count ≤ number
beyond count number none = by (nat_lt (number - 0) count) refl
  where
    by : (b : Bool) → nat_lt (number - 0) count ≡ b → count ≤ number
    by true e = absurd (false≢true (sym none ∙ and_from _ _ (le-leb 0 number (omega arith)) e))
    by false e = let far : count ≤ number - 0 = ltb-false (number - 0) count e in omega (arith, far)

first_is : (d : Lines) (cq : ℕ) → first_index d cq ≡ (cq_line d cq).start
first_is d cq =
    cond_both (is_among 0 (length d.cqs) cq) (option_map_or (λ (l : CqLine). l.start) (slice_get d.cqs (cq - 0)) 0) 0 (λ (k : ℕ). k ≡ (cq_line d cq).start)
    (λ living. let same : cq - 0 ≡ cq = omega arith in ap (λ k. option_map_or (λ (l : CqLine). l.start) (slice_get d.cqs k) 0) same ∙ index_at d.cqs cq)
    (λ none. sym (ap (λ (l : CqLine). l.start) (get_or_past d.cqs cq no_cq (beyond (length d.cqs) cq none))))

-- The whole

module _ (s : ScenarioParts) (can : CanRun s) where
  abbrev d : Lines
  d = s.lines

  abbrev programs : List (List Call)
  programs = s.programs

  abbrev bounds : Bounds
  bounds = bounds_of d programs

  abbrev v : Verbs
  v = start d

  parts : Declares d
  parts = declares_by d can.declared

  line_of : (qp : ℕ) → v.device.pair_lives qp ≡ true → LineAt (is_qp_line d) d.qps (qp - FIRST_QP)
  line_of qp lives = line_at (is_qp_line d) d.qps (qp - FIRST_QP) parts.qps (among FIRST_QP (length d.qps) qp lives).1

  send_cq_is : (qp : ℕ) (lives : v.device.pair_lives qp ≡ true) (l : QpLine) → slice_get d.qps (qp - FIRST_QP) ≡ Some l → (v.device.pairs qp).send_cq ≡ l.send_cq
  send_cq_is qp lives l there = ap (λ (p : QueuePair). p.send_cq) (pair_is d qp l lives there)

  lives_from : (k : ℕ) → k < length d.qps → v.device.pair_lives (FIRST_QP + k) ≡ true
  lives_from k low = and_from _ _ (le-leb FIRST_QP (FIRST_QP + k) (omega arith)) (lt-ltb (FIRST_QP + k - FIRST_QP) (length d.qps) (omega (arith, low)))

  first_pair : (qp : ℕ) → v.device.pair_lives qp ≡ true → IsPair (length d.qps) v.device.pairs v.device.completions_live qp
  first_pair qp lives =
      let p = among FIRST_QP (length d.qps) qp lives in
      let l = line_of qp lives in
      record { least = p.0; most = p.1; home = ap v.device.completions_live (send_cq_is qp lives l.line l.there) ∙ send_cq_live d l.line l.passed }

  -- the requests that complete into a queue, by lines
  first_into : (cq : ℕ) → into v.device.pairs bounds.posts cq FIRST_QP (length d.qps) ≡ counted_into (λ (l : QpLine). l.send_cq) (λ k. posted_on k programs) cq FIRST_QP d.qps
  first_into cq =
      into_is v.device.pairs bounds.posts cq FIRST_QP d.qps
      (λ k l there.
      let back : FIRST_QP + k - FIRST_QP ≡ k = omega arith in
      let here : slice_get d.qps (FIRST_QP + k - FIRST_QP) ≡ Some l = ap (slice_get d.qps) back ∙ there in
      send_cq_is (FIRST_QP + k) (lives_from k (slice_get_within d.qps k l there)) l here)

  -- they are no more than the queue has entries
  first_fits : (cq : ℕ) → v.device.completions_live cq ≡ true → into v.device.pairs bounds.posts cq FIRST_QP (length d.qps) ≤ v.limits.size cq
  first_fits cq live =
      let low : cq - 0 < length d.cqs = (among 0 (length d.cqs) cq live).1 in
      let same : cq - 0 ≡ cq = omega arith in
      let l = line_at (is_cq_line d) d.cqs cq parts.cqs (omega (arith, low)) in
      let here : slice_get d.cqs (cq - 0) ≡ Some l.line = ap (slice_get d.cqs) same ∙ l.there in
      let size : v.limits.size cq ≡ 2 ^ l.line.log = cond-true _ _ _ live ∙ ap (λ (o : Option CqLine). option_map_or (λ (x : CqLine). 2 ^ x.log) o 0) here in
      omega (arith, size, first_into cq, room_for d programs cq l.line can.room (omega (arith, low)) l.there)

  first_sane : Sane (length d.qps) v
  first_sane = record {
    lives = first_pair;
    queues = λ qp. record { taken = omega arith; outstanding = omega arith; under_way = omega arith };
    completions = λ cq. record { homed = tt; acked = omega arith };
    hand = tt;
  }

  first_within : Within (length d.qps) bounds v (first_dues programs)
  first_within = record {
    queues = λ qp. record { nops = tt; posts = omega (arith, first_items qp programs); retires = first_retires qp programs };
    completions = λ cq. record { begun = omega (arith, first_is d cq); produced = omega (arith, first_is d cq); fits = first_fits cq };
    owing = record {
      few = let long : length (first_dues programs) ≡ length programs = simp length-map in omega (arith, long, can.paired, can.threads);
      poster = first_poster programs can.poster;
      proper = first_proper d (free_on v) programs can.programs;
    };
  }

  pub first_bounded : InBounds (length d.qps) bounds v (first_dues programs)
  first_bounded = record { sane = first_sane; within = first_within }
