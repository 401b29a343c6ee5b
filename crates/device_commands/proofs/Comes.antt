-- What a new object names is counted, and there is room for it.
use Rattle.std.proofs.Common.{◌≡◌, ◌-◌, ◌<◌, ◌≤◌, sym, subst, arith, IsTrue, Some, length, eqb}
use Rattle.std.proofs.lemmas.Bool.{and_parts}
use Rattle.cmd_bodies.specs.declared.contexts.CqContext.{CqContext}
use Rattle.cmd_bodies.specs.declared.contexts.QpBlock.{QpBlock}
use Rattle.device_commands.specs.declared.shapes.CqShape.{CqShape}
use Rattle.device_commands.specs.declared.shapes.QpShape.{QpShape}
use Rattle.device_commands.specs.Objects.{Objects, eq_lives, cq_lives, uar_lives, all_live}
use Rattle.device_commands.specs.Next.{next_cq, next_qp}
use Rattle.device_commands.proofs.Next.{next_cq_is, next_qp_is}
use Rattle.device_commands.proofs.Lives.{set_inside, live_inside, pd_inside}

pub record CqFits (o : Objects) (shape : CqShape) : Type 0 where
  pub made : shape.eq < length o.eqs
  pub room : length o.cqs < length o.declared.cqs

cq_fits_now : (o : Objects) (asked : CqContext) (shape : CqShape) → IsTrue (eq_lives o asked.c_eqn) → Some shape ≡ next_cq o asked → CqFits o shape
cq_fits_now o asked shape lives is =
    let next = next_cq_is o asked shape (sym is) in
    record { made = omega (arith, next.1, set_inside o.eqs asked.c_eqn lives); room = next.0 }

pub cq_fits : (o now : Objects) (asked : CqContext) (shape : CqShape) → o ≡ now → IsTrue (eq_lives now asked.c_eqn) → Some shape ≡ next_cq now asked → CqFits o shape
cq_fits o now asked shape view lives is = subst (λ (x : Objects). CqFits x shape) (sym view) (cq_fits_now now asked shape lives is)

pub record PairFits (o : Objects) (shape : QpShape) : Type 0 where
  pub first : 1 ≤ shape.pd
  pub pd : shape.pd - 1 < length o.pds
  pub send : shape.send_cq < length o.cqs
  pub recv : shape.recv_cq < length o.cqs
  pub room : length o.qps < length o.declared.qps

pair_fits_now : (o : Objects) (asked : QpBlock) (shape : QpShape) → IsTrue (all_live o asked) → Some shape ≡ next_qp o asked → PairFits o shape
pair_fits_now o asked shape live is =
    let next = next_qp_is o asked shape (sym is) in
    let one = and_parts _ (uar_lives o asked.uar) live in
    let two = and_parts _ (eqb asked.srq 0) one.0 in
    let three = and_parts _ (cq_lives o asked.recv_cq) two.0 in
    let four = and_parts _ (cq_lives o asked.send_cq) three.0 in
    let pd = pd_inside o.pds asked.pd four.0 in
    record {
      first = omega (arith, pd.0, next.1);
      pd = omega (arith, pd.1, next.1);
      send = omega (arith, live_inside o.cqs asked.send_cq four.1, next.2);
      recv = omega (arith, live_inside o.cqs asked.recv_cq three.1, next.3);
      room = next.0;
    }

pub pair_fits : (o now : Objects) (asked : QpBlock) (shape : QpShape) → o ≡ now → IsTrue (all_live now asked) → Some shape ≡ next_qp now asked → PairFits o shape
pair_fits o now asked shape view live is = subst (λ (x : Objects). PairFits x shape) (sym view) (pair_fits_now now asked shape live is)
