use Rattle.std.proofs.Common.{◌≡◌, ℕ, Bool, sym, ap, ◌∙◌, subst, Option, Some, None}
use Rattle.bus_core.specs.declared.turn.Note.{Note}
use Rattle.bus_core.specs.declared.turn.Step.{Step}
use Rattle.provider_post.specs.declared.answer.PostAnswer.{PostAnswer}
use Rattle.provider_post.specs.declared.call.Call.{Call}
use Rattle.provider_post.specs.Call.{left_after}
use Rattle.provider_post.specs.Note.{note_of}
use Rattle.provider_post.specs.Side.{PostView}
use Rattle.provider_post.specs.Queued.{QueueTurn, next_in, next_of}
use Rattle.provider_post.specs.Inside.{IsSide}
use Rattle.provider_post.proofs.Turns.{turned}
use Rattle.provider_post.proofs.queue_side.QueueSide.turn.Goals as goal

pub invariant_of-self : goal.invariant_of-self
invariant_of-self g c =
    let a = c.self.inside in
    let call = c.in-Some.call in
    let side = subst (λ (o : Option Call). IsSide a.poster a.queue o) c.in-Some.is c.self.invariant in
    let begun : next_in a.poster.task (Some call) ≡ None = subst (λ (o : Option Call). next_in a.poster.task o ≡ None) c.in-Some.is (subst (λ (v : PostView). next_of v ≡ None) (sym c.self.view_is) c.requires.begun) in
    let t = turned a.poster c.begin_ring.new.poster c.turn.new.self a.queue a.noted call c.turn.ensures.made.0 c.turn.result c.told-told.result c.after-next.result c.left-self-inside.result c.note_of-self-inside.result
    side begun c.begin_ring.ensures c.turn.ensures.made.2
    (record {
      told_is = c.told-told.ensures;
      next_is = c.after-next.ensures;
      left_is = c.left-self-inside.ensures ∙ ap (λ (b : Bool). left_after b call c.after-next.result) c.has_register.ensures;
      noted_is = c.note_of-self-inside.ensures ∙ ap (λ (n : ℕ). note_of a.queue call c.told-told.result n) (ap (λ (n : Note). n.a) c.seen.ensures);
    })
    in
    t.side

pub returns-clause-made : goal.returns-clause-made
returns-clause-made g c =
    let a = c.self.inside in
    let call = c.in-Some.call in
    let side = subst (λ (o : Option Call). IsSide a.poster a.queue o) c.in-Some.is c.self.invariant in
    let begun : next_in a.poster.task (Some call) ≡ None = subst (λ (o : Option Call). next_in a.poster.task o ≡ None) c.in-Some.is (subst (λ (v : PostView). next_of v ≡ None) (sym c.self.view_is) c.requires.begun) in
    let t = turned a.poster c.begin_ring.new.poster c.turn.new.self a.queue a.noted call c.turn.ensures.made.0 c.turn.result c.told-told.result c.after-next.result c.left-self-inside.result c.note_of-self-inside.result
    side begun c.begin_ring.ensures c.turn.ensures.made.2
    (record {
      told_is = c.told-told.ensures;
      next_is = c.after-next.ensures;
      left_is = c.left-self-inside.ensures ∙ ap (λ (b : Bool). left_after b call c.after-next.result) c.has_register.ensures;
      noted_is = c.note_of-self-inside.ensures ∙ ap (λ (n : ℕ). note_of a.queue call c.told-told.result n) (ap (λ (n : Note). n.a) c.seen.ensures);
    })
    in
    let new : PostView = record { poster = c.turn.new.self; queue = a.queue; call = c.left-self-inside.result; noted = c.note_of-self-inside.result } in
    let old_is : record { poster = a.poster; queue = a.queue; call = Some call; noted = a.noted } ≡ c.args.self.now = ap (λ (o : Option Call). record { poster = a.poster; queue = a.queue; call = o; noted = a.noted }) (sym c.in-Some.is) ∙ c.self.view_is in (
      c.turn.ensures.made.0,
      c.turn.ensures.made.1,
      subst (λ (v : PostView). QueueTurn v new c.turn.ensures.made.0 c.answer_with.result) old_is
          (subst (λ (s : Step (Unit {0}) PostAnswer). QueueTurn (record { poster = a.poster; queue = a.queue; call = Some call; noted = a.noted }) new c.turn.ensures.made.0 s) (sym c.answer_with.ensures) t.turn),
    )
