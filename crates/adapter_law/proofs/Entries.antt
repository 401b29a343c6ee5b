-- What the words that the adapter reads and publishes are to the abstract state.
use Rattle.std.proofs.Common.{◌≡◌, ℕ, zero, suc, [], ◌∷◌, subst, ◌-◌, ◌%◌, ◌^◌, ◌<◌, ◌++◌, Bool, true, false, List, length, slice_get, unwrap_or, option_map, Option, Some, None, refl, sym, ◌∙◌, ap, arith, if◌then◌else◌}
use Rattle.std.specs.List.{AllByRecursion}
use Rattle.std.specs.Option.{option_map_or}
use Rattle.std.proofs.lemmas.Bool.{false≢true}
use Rattle.std.proofs.lemmas.List.{get_or_append_left}
use Rattle.std.proofs.lemmas.Option.{slice_get-get_or, get_or_from_slice_get}
use Rattle.verbs_types.specs.declared.call.Call.{Call}
use Rattle.verbs_types.specs.declared.completion.Queue.TheVariants.{Send}
use Rattle.verbs_types.specs.declared.declaration.Lines.{Lines}
use Rattle.verbs_types.specs.declared.declaration.QpLine.{QpLine}
use Rattle.verbs_types.specs.declared.declaration.TheConstants.{FIRST_QP}
use Rattle.verbs_types.specs.declared.request.Item.{Item}
use Rattle.verbs_types.specs.declared.request.Item.TheVariants.{Request as TheRequest, Receive as TheReceive}
use Rattle.verbs_types.specs.declared.request.Op.TheVariants.{Nop}
use Rattle.verbs_types.specs.declared.request.Request.{Request}
use Rattle.verbs_types.specs.declared.state.QpState.TheVariants.{Reset, Rts}
use Rattle.verbs_types.specs.Lines.{is_among}
use Rattle.verbs_rules.specs.Proper.{IsNop}
use Rattle.verbs_rules.specs.Rows.{nop_completion, works}
use Rattle.verbs_rules.specs.Start.{start_pair, no_pair, is_connected}
use Rattle.verbs_rules.specs.State.{Verbs}
use Rattle.counted_ring.specs.Queue as counted
use Rattle.object_places.specs.Places.{send_of}
use Rattle.provider_poll.specs.Completion.{completion_of}
use Rattle.provider_post.specs.Item.{IsWritten}
use Rattle.device_engine.specs.Entry.{nop_cqe, wants}
use Rattle.device_engine.specs.State.{may_send}
use Rattle.device_engine.proofs.Entries.{wants_is}
use Rattle.actor_rules.specs.Actors.{Actors, id_in, id_of}
use Rattle.actor_rules.proofs.Matching.{match_at}
use Rattle.actor_rules.specs.Queues.{QueueStands, IsItem, written}

-- the completion of a NOP's words, as a thread is given it
pub completion_is : (qp index id : ℕ) → completion_of (nop_cqe qp index) id ≡ nop_completion qp id 0
completion_is qp index id = refl

-- a request of the words is the one that was posted in its place
pub record IsPosted (d : Lines) (qp : ℕ) (items : List Item) (n : ℕ) (request : counted.Request) : Type 0 where
  pub of : Request
  pub there : slice_get items n ≡ Some (TheRequest of)
  pub spells : IsWritten (send_of d qp) qp request.index of request.words request.id

front_item : (items more : List Item) (n : ℕ) (item : Item) → n < length items → slice_get (items ++ more) n ≡ Some item → slice_get items n ≡ Some item
front_item items more n item low there =
    slice_get-get_or items n item low
    ∙ ap (λ (x : Item). Some x) (sym (get_or_append_left items more item n low) ∙ get_or_from_slice_get (items ++ more) n item item there)

posted_by : (d : Lines) (qp : ℕ) (items : List Item) (n : ℕ) (request : counted.Request) (item : Item) → slice_get items n ≡ Some item → IsItem d (Send qp) request item → IsPosted d qp items n request
posted_by d qp items n request (TheRequest r) there is = record { of = r; there = there; spells = is }
posted_by d qp items n request (TheReceive r) there is = absurd is

-- one that the record shows was posted
pub posted_at : (d : Lines) (programs : List (List Call)) (w : Actors) (v : Verbs) (q : counted.Queue) (qp n : ℕ) (request : counted.Request) → QueueStands d programs w v q (Send qp) → n < q.rung → slice_get q.requests n ≡ Some request → IsPosted d qp (v.posted (Send qp)) n request
posted_at d programs w v q qp n request h rung found =
    let at = match_at (IsItem d (Send qp)) n q.requests ((v.posted (Send qp)) ++ written programs w (Send qp)) request h.posted found in
    let low : n < length (v.posted (Send qp)) = omega (arith, rung, h.rung) in
    posted_by d qp (v.posted (Send qp)) n request at.0 (front_item (v.posted (Send qp)) (written programs w (Send qp)) n at.0 low at.1) at.2

-- its words want a completion where it does
pub wants_posted : (d : Lines) (qp : ℕ) (items : List Item) (n : ℕ) (request : counted.Request) (h : IsPosted d qp items n request) → h.of.op ≡ Nop → wants request.words ≡ h.of.wanted
wants_posted d qp items n request h nop = ap wants h.spells.words_are ∙ wants_is (send_of d qp) h.of (request.index % 2 ^ 16) qp h.spells.entry refl nop h.spells.spells

-- the id that was stored for it is the one that stands in its place
pub id_posted : (d : Lines) (qp : ℕ) (items : List Item) (number : ℕ) (request : counted.Request) → IsPosted d qp items (number - 1) request → id_in items number ≡ request.id
id_posted d qp items number request h = ap (λ (o : Option Item). unwrap_or (option_map id_of o) 0) h.there ∙ sym h.spells.id_is

-- a queue pair that may send is connected
line_works : (d : Lines) (qp : ℕ) (line : Option QpLine) (connected among : Bool)
    → works (if among then option_map_or (λ (l : QpLine). record { state = if connected then Rts else Reset; send_cq = l.send_cq; recv_cq = l.recv_cq }) line no_pair else no_pair).state ≡ true
    → (if among then option_map_or (λ (l : QpLine). record { state = if connected then Rts else Reset; send_cq = l.send_cq; recv_cq = l.recv_cq }) line no_pair else no_pair).state ≡ Rts
line_works d qp (Some line) true true may = refl
line_works d qp (Some line) false true may = absurd (false≢true may)
line_works d qp None connected true may = absurd (false≢true may)
line_works d qp line connected false may = absurd (false≢true may)

pub sends_rts : (d : Lines) (qp : ℕ) → may_send d qp ≡ true → (start_pair d qp).state ≡ Rts
sends_rts d qp may = line_works d qp (slice_get d.qps (qp - FIRST_QP)) (is_connected d qp) (is_among FIRST_QP (length d.qps) qp) may

-- a request of a list of requests without operation is one
pub nop_at : (items : List Item) (k : ℕ) (r : Request) → AllByRecursion IsNop items → slice_get items k ≡ Some (TheRequest r) → r.op ≡ Nop
nop_at [] k r h e = absurd (cc e)
nop_at (i ∷ items) zero r h e = let same : i ≡ TheRequest r = cc e in (subst IsNop same h.0).0
nop_at (i ∷ items) (suc k) r h e = nop_at items k r h.1 e
