-- What ties the adapter to the abstract state.
use Rattle.std.specs.Prelude.{◌≡◌, ℕ, ◌<◌, true, [], ◌∷◌}
use Rattle.verbs_types.specs.declared.declaration.Lines.{Lines}
use Rattle.verbs_types.specs.declared.state.Act.TheVariants.{Complete}
use Rattle.verbs_types.specs.declared.state.Unpolled.{Unpolled}
use Rattle.verbs_rules.specs.State.{Verbs}
use Rattle.cqe_format.specs.declared.completion.Cqe.{Cqe}
use Rattle.object_places.specs.Objects.{Lives, Sends}
use Rattle.device_engine.specs.State.{AdapterRule, AdapterAt, Looking, Recording, Reading, Publishing, Ending, send_cq, may_send}
use Rattle.actor_rules.specs.Objects.{Lists}
use Rattle.actor_rules.specs.Completions.{IsCompletion}

-- it publishes what it owes
pub record Owes (d : Lines) (l : Lists) (v : Verbs) (s : AdapterRule) (cq : ℕ) (c : Cqe) : Type 0 where
  pub lives : Lives d (Sends s.visit)
  pub queue : cq ≡ send_cq d s.visit
  pub unpolled : Unpolled
  pub owed : v.device.owed ≡ Complete cq unpolled ∷ []
  pub spells : IsCompletion l c unpolled
  pub pair : unpolled.completion.qp ≡ s.visit
  pub number : unpolled.number ≡ s.taken s.visit

pub record Visits (d : Lines) (v : Verbs) (qp : ℕ) : Type 0 where
  pub lives : Lives d (Sends qp)
  pub idle : v.device.owed ≡ []

-- a pair that may send has an entry that the record showed
pub record Reads (d : Lines) (v : Verbs) (s : AdapterRule) : Type 0 where
  pub visits : Visits d v s.visit
  pub sends : may_send d s.visit ≡ true
  pub ready : 0 < (s.readers s.visit).ready

abbrev pub AdapterStandsAt : Lines → Lists → Verbs → AdapterRule → AdapterAt → Type 0
AdapterStandsAt d l v s Looking = Visits d v s.visit
AdapterStandsAt d l v s Recording = Visits d v s.visit
AdapterStandsAt d l v s Reading = Reads d v s
AdapterStandsAt d l v s (Publishing cq c) = Owes d l v s cq c
AdapterStandsAt d l v s Ending = v.device.owed ≡ []
