-- The state in which a run begins: all declared objects live, and connected queue pairs may send.
use Rattle.std.specs.Prelude.{ℕ, ◌-◌, ◌^◌, ◌==◌, ◌||◌, Bool, if◌then◌else◌, List, [], length, slice_get}
use Rattle.std.specs.List.{list_any}
use Rattle.std.specs.Option.{option_map_or}
use Rattle.verbs_types.specs.declared.completion.Queue.{Queue}
use Rattle.verbs_types.specs.declared.completion.Queue.TheVariants.{Send, Recv, Shared}
use Rattle.verbs_types.specs.declared.declaration.CqLine.{CqLine}
use Rattle.verbs_types.specs.declared.declaration.QpLine.{QpLine}
use Rattle.verbs_types.specs.declared.declaration.Connect.{Connect}
use Rattle.verbs_types.specs.declared.declaration.Lines.{Lines}
use Rattle.verbs_types.specs.declared.declaration.TheConstants.{FIRST_QP}
use Rattle.verbs_types.specs.declared.state.QpState.{QpState}
use Rattle.verbs_types.specs.declared.state.QpState.TheVariants.{Reset, Rts}
use Rattle.verbs_types.specs.declared.state.QueuePair.{QueuePair}
use Rattle.verbs_types.specs.Lines.{is_among}
use Rattle.verbs_rules.specs.State.{Verbs}

abbrev pub is_connected : Lines → ℕ → Bool
is_connected d qp = list_any (λ (c : Connect). (c.a == qp) || (c.b == qp)) d.connects

abbrev pub first_state : Lines → ℕ → QpState
first_state d qp = if is_connected d qp then Rts else Reset

abbrev pub no_pair : QueuePair
no_pair = record { state = Reset; send_cq = 0; recv_cq = 0 }

-- the value for the line of this number, where there is one
abbrev pub for_line : {X V : Type 0} → ℕ → List X → (X → V) → V → ℕ → V
for_line first lines value none number = if is_among first (length lines) number then option_map_or value (slice_get lines (number - first)) none else none

abbrev pub start_pair : Lines → ℕ → QueuePair
start_pair d qp = for_line FIRST_QP d.qps (λ (l : QpLine). record { state = first_state d qp; send_cq = l.send_cq; recv_cq = l.recv_cq }) no_pair qp

-- the limits of what is declared, and 0 where nothing is

abbrev pub room_of : Lines → Queue → ℕ
room_of d (Send qp) = for_line FIRST_QP d.qps (λ (l : QpLine). 2 ^ l.send_log) 0 qp
room_of d (Recv qp) = for_line FIRST_QP d.qps (λ (l : QpLine). 2 ^ l.recv_log) 0 qp
room_of d (Shared srq) = 0

abbrev pub segments_of : Lines → Queue → ℕ
segments_of d (Send qp) = for_line FIRST_QP d.qps (λ (l : QpLine). l.segments) 0 qp
segments_of d (Recv qp) = for_line FIRST_QP d.qps (λ (l : QpLine). l.segments) 0 qp
segments_of d (Shared srq) = 0

abbrev pub size_of : Lines → ℕ → ℕ
size_of d cq = for_line 0 d.cqs (λ (l : CqLine). 2 ^ l.log) 0 cq

-- the index of a completion queue's first completion
abbrev pub first_index : Lines → ℕ → ℕ
first_index d cq = for_line 0 d.cqs (λ (l : CqLine). l.start) 0 cq

abbrev pub start : Lines → Verbs
start d = record {
  limits = record { room = room_of d; segments = segments_of d; size = size_of d };
  posted = λ queue. [];
  settled = λ queue. record { retired = 0; ends = [] };
  acked = first_index d;
  unpolled = λ cq. [];
  device = record {
    taken = λ queue. 0;
    produced = first_index d;
    pairs = start_pair d;
    pair_lives = is_among FIRST_QP (length d.qps);
    completions_live = is_among 0 (length d.cqs);
    owed = [];
  };
}
