-- What the object of the next number is where a command asks for it as it is declared.
use Rattle.std.proofs.Common.{◌≡◌, ◌+◌, ◌<◌, refl, Bool, true, eqb, length, Option, Some, None, slice_get}
use Rattle.std.proofs.lemmas.Bool.{and_parts, eqb-true}
use Rattle.std.proofs.lemmas.Option.{slice_get_within, cond_some}
use Rattle.cmd_bodies.specs.declared.contexts.EqBlock.{EqBlock}
use Rattle.cmd_bodies.specs.declared.contexts.CqContext.{CqContext}
use Rattle.cmd_bodies.specs.declared.contexts.QpBlock.{QpBlock}
use Rattle.device_commands.specs.declared.shapes.EqShape.{EqShape}
use Rattle.device_commands.specs.declared.shapes.CqShape.{CqShape}
use Rattle.device_commands.specs.declared.shapes.QpShape.{QpShape}
use Rattle.device_commands.specs.Objects.{Objects}
use Rattle.verbs_types.specs.declared.declaration.Object.TheVariants.{Cq, Qp}
use Rattle.device_commands.specs.Next.{is_page_of, only_if, is_cq_of, is_qp_of, next_eq, next_cq, next_qp}

only_if_some : {X : Type 0} (test : X → Bool) (o : Option X) (x : X) → only_if test o ≡ Some x → (o ≡ Some x) × (test x ≡ true)
only_if_some test None x h = absurd (cc)
only_if_some test (Some y) x h =
    let parts = cond_some (test y) y x h in
    let same : y ≡ x = parts.1 in
    let holds : test y ≡ true = parts.0 in
    (rw same refl, rw same at holds)

pub next_eq_is : (o : Objects) (asked : EqBlock) (shape : EqShape) → next_eq o asked ≡ Some shape → length o.eqs < length o.declared.eqs
next_eq_is o asked shape h = slice_get_within o.declared.eqs (length o.eqs) shape (only_if_some _ (slice_get o.declared.eqs (length o.eqs)) shape h).0

pub next_cq_is : (o : Objects) (asked : CqContext) (shape : CqShape) → next_cq o asked ≡ Some shape → (length o.cqs < length o.declared.cqs) × (asked.c_eqn ≡ shape.eq)
next_cq_is o asked shape h =
    let found = only_if_some _ (slice_get o.declared.cqs (length o.cqs)) shape h in
    let like = and_parts (is_cq_of asked shape) (is_page_of o asked.uar_page (Cq (length o.cqs))) found.1 in
    let last = and_parts _ (eqb asked.c_eqn shape.eq) like.0 in
    (slice_get_within o.declared.cqs (length o.cqs) shape found.0, eqb-true asked.c_eqn shape.eq last.1)

pub next_qp_is : (o : Objects) (asked : QpBlock) (shape : QpShape) → next_qp o asked ≡ Some shape
    → (length o.qps < length o.declared.qps) × (asked.pd ≡ shape.pd) × (asked.send_cq ≡ shape.send_cq) × (asked.recv_cq ≡ shape.recv_cq)
next_qp_is o asked shape h =
    let found = only_if_some _ (slice_get o.declared.qps (length o.qps)) shape h in
    let like = and_parts (is_qp_of asked shape) (is_page_of o asked.uar (Qp (64 + length o.qps))) found.1 in
    let one = and_parts _ (eqb asked.segments shape.segments) like.0 in
    let two = and_parts _ (eqb asked.recv_log shape.recv_log) one.0 in
    let three = and_parts _ (eqb asked.send_log shape.send_log) two.0 in
    let four = and_parts _ (eqb asked.recv_cq shape.recv_cq) three.0 in
    let five = and_parts _ (eqb asked.send_cq shape.send_cq) four.0 in
    (slice_get_within o.declared.qps (length o.qps) shape found.0, eqb-true asked.pd shape.pd five.0, eqb-true asked.send_cq shape.send_cq five.1, eqb-true asked.recv_cq shape.recv_cq four.1)
