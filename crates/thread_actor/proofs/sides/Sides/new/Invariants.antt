use Rattle.std.proofs.Common.{◌≡◌, ℕ, ◌<◌, List, slice_get, Some}
use Rattle.verbs_types.specs.declared.call.Call.{Call}
use Rattle.verbs_types.specs.declared.declaration.Lines.{Lines}
use Rattle.thread_actor.specs.Inside.{sides_of}
use Rattle.thread_actor.specs.NewSides.{AreNew}
use Rattle.thread_actor.specs.Sides.{SidesView}
use Rattle.thread_actor.specs.Stands.{HasSide}
use Rattle.thread_actor.proofs.sides.Sides.new.Given as goal

-- new sides, among them those of the first so many calls
pub record AreAdded (d : Lines) (s : SidesView) (calls : List Call) (count : ℕ) : Type 0 where
  pub are_new : AreNew d s
  pub has : (k : ℕ) (call : Call) → k < count → slice_get calls k ≡ Some call → HasSide s call

abbrev pub invariant-loop-call : goal.invariant-loop-call
invariant-loop-call l = AreAdded l.d (sides_of l.sides) l.calls l.call-index
