-- The table of moves: the states of a queue pair (InfiniBand specification) and the commands that lead from one to another (Programmer's Reference Manual).
use Rattle.std.specs.Prelude.{Option, None, Some}
use Rattle.verbs_types.specs.declared.state.QpState.{QpState}
use Rattle.verbs_types.specs.declared.state.QpState.TheVariants.{Reset, Init, Rtr, Rts, Err}
use Rattle.qp_state.specs.declared.moves.QpMove.{QpMove}
use Rattle.qp_state.specs.declared.moves.QpMove.TheVariants.{ToInit, ToRtr, ToRts, ToErr}

-- The state that a command leads to; none where it does not start from this state. In order: RST2INIT_QP, INIT2RTR_QP, RTR2RTS_QP, and 2ERR_QP, which starts from every state.
abbrev pub next_state : QpState → QpMove → Option QpState
next_state Reset ToInit = Some Init
next_state Init (ToRtr peer) = Some Rtr
next_state Rtr ToRts = Some Rts
next_state state ToErr = Some Err
next_state state asked = None
