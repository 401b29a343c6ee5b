-- All that stands beside what the adapter is at, and how a visit goes on.
use Rattle.std.proofs.Common.{◌≡◌, ℕ, ◌+◌, ◌<◌, ◌==◌, Bool, true, false, if◌then◌else◌, nat_lt, List, [], length, refl, sym, subst}
use Rattle.std.proofs.lemmas.Bool.{eqb-true, and_parts, ltb-true}
use Rattle.bus_core.specs.Trace.{Memory}
use Rattle.verbs_types.specs.declared.call.Call.{Call}
use Rattle.verbs_types.specs.declared.declaration.Lines.{Lines}
use Rattle.verbs_types.specs.declared.declaration.TheConstants.{FIRST_QP}
use Rattle.verbs_types.specs.declared.entry.What.{What}
use Rattle.verbs_rules.specs.Answered.{Due, after_answer}
use Rattle.verbs_rules.specs.Family.{put}
use Rattle.verbs_types.specs.Lines.{is_among}
use Rattle.verbs_rules.specs.State.{Verbs}
use Rattle.counted_ring.specs.Device.{WqReader}
use Rattle.object_places.specs.Objects.{Sends, Lives}
use Rattle.device_engine.specs.State.{AdapterRule, AdapterAt, Looking, Reading, Ending, first_work, next_visit, first_visit, working, may_send}
use Rattle.device_engine.specs.Rows.{is_ready, read_or_next}
use Rattle.actor_rules.specs.Actors.{Actors}
use Rattle.actor_rules.specs.Dues.{dues_at}
use Rattle.verbs_rules.specs.Within.{Bounds}
use Rattle.actor_rules.specs.Adapter.{AdapterStandsAt}
use Rattle.actor_rules.proofs.Families.{put_same}
use Rattle.actor_rules.specs.Holding.{Stands, Bare}
use Rattle.actor_rules.specs.Objects.{Lists}

-- all actors, with another adapter
abbrev pub with_adapter : Actors → AdapterRule → Actors
with_adapter w s = record { adapter = s; threads = w.threads; posted = w.posted }

-- the adapter at other work, of another pair
abbrev pub at_visit : ℕ → AdapterAt → AdapterRule → AdapterRule
at_visit qp work s = record { visit = qp; at_work = work; taken = s.taken; readers = s.readers; queues = s.queues }

-- nothing is due to the adapter, so its entry leaves what is owed
pub owed_after : (owed : ℕ → List Due) (dues : List (List Due)) (what : What) → owed ≡ dues_at dues → put (λ (m n : ℕ). m == n) owed 0 (after_answer (owed 0) what) ≡ dues_at dues
owed_after owed dues what is = subst (λ (f : ℕ → List Due). put (λ (m n : ℕ). m == n) f 0 (after_answer (f 0) what) ≡ dues_at dues) (sym is) (put_same (λ (m n : ℕ). m == n) (dues_at dues) 0 [] (λ j same. eqb-true j 0 same) refl)

module _ (d : Lines) (programs : List (List Call)) (total : Bounds) (m : Memory) (w : Actors) where
  module _ (l : Lists) (v : Verbs) (dues : List (List Due)) (s : AdapterRule) (b : Bare d programs total m (with_adapter w s) l v dues) where
    pub finish : (qp : ℕ) (work : AdapterAt) → AdapterStandsAt d l v (at_visit qp work s) work → Stands d programs total m (with_adapter w (at_visit qp work s)) v dues
    finish qp work stands = record { lists = l; bare = b; work = stands }

    visit_by : (qp : ℕ) (among : Bool) → is_among FIRST_QP (length d.qps) qp ≡ among → v.device.owed ≡ [] → AdapterStandsAt d l v (at_visit qp (if among then Looking else Ending) s) (if among then Looking else Ending)
    visit_by qp true lives idle = record { lives = lives; idle = idle }
    visit_by qp false lives idle = idle

    -- the visit is over
    pub to_next : v.device.owed ≡ [] → Stands d programs total m (with_adapter w (next_visit d s)) v dues
    to_next idle = finish (s.visit + 1) (first_work d (s.visit + 1)) (visit_by (s.visit + 1) (is_among FIRST_QP (length d.qps) (s.visit + 1)) refl idle)

    pub to_first : v.device.owed ≡ [] → Stands d programs total m (with_adapter w (first_visit d s)) v dues
    to_first idle = finish FIRST_QP (first_work d FIRST_QP) (visit_by FIRST_QP (is_among FIRST_QP (length d.qps) FIRST_QP) refl idle)

    -- it goes on with an entry that is ready
    pub to_read_or_next : (r : WqReader) → Lives d (Sends s.visit) → v.device.owed ≡ [] → r.ready ≡ (s.readers s.visit).ready → Stands d programs total m (with_adapter w (read_or_next d r s)) v dues
    to_read_or_next r lives idle same = by (is_ready d s.visit r) refl
      where
        by : (ready : Bool) → is_ready d s.visit r ≡ ready → Stands d programs total m (with_adapter w (if ready then working Reading s else next_visit d s)) v dues
        by true e =
            let parts = and_parts (may_send d s.visit) (nat_lt 0 r.ready) e in
            finish s.visit Reading (record { visits = record { lives = lives; idle = idle }; sends = parts.0; ready = subst (λ (n : ℕ). 0 < n) same (ltb-true 0 r.ready parts.1) })
        by false e = to_next idle
