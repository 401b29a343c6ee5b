-- The calls of a thread are printed as they stand.
use Rattle.std.proofs.Common.{◌≡◌, ℕ, ◌<◌, ◌≤◌, ◌==◌, true≢false, codes, List, [], ◌∷◌, ◌++◌, map, length, IsTrue, Option, None, Some, refl, sym, ap, ◌∙◌, subst, arith}
use Rattle.std.proofs.lemmas.List.Splits.{length-slice_split}
use Rattle.verbs_types.specs.declared.call.Call.{Call}
use Rattle.verbs_types.specs.declared.call.Call.TheVariants as calls
use Rattle.verbs_types.specs.declared.declaration.Lines.{Lines}
use Rattle.verbs_types.specs.declared.request.Receive.{Receive}
use Rattle.verbs_types.specs.declared.request.Request.{Request}
use Rattle.scenario_text.specs.After.{add_line, note_limits}
use Rattle.scenario_text.specs.AfterCalls.{close_place, take_room_of, request_in, receive_in, add_end, add_post, add_recv, add_poll, add_drain}
use Rattle.scenario_text.specs.Bounds.{bounds_of, passed_after}
use Rattle.scenario_text.specs.Heads.{qp_name}
use Rattle.scenario_text.specs.Keywords.{place_of, section_of}
use Rattle.scenario_text.specs.Printing.{ended}
use Rattle.scenario_text.specs.Requests.{request_fields, receive_fields}
use Rattle.scenario_text.specs.Rules.{may_begin, may_stand_in}
use Rattle.scenario_text.specs.Sofar.{Said}
use Rattle.scenario_text.specs.Spelling.{call_lines}
use Rattle.scenario_text.specs.Text.{Line, split, part_at, small_at}
use Rattle.scenario_text.specs.Uses.{list_cq, qp_named, cq_named, segments_here}
use Rattle.scenario_text.specs.declared.keyword.Keyword.{Keyword}
use Rattle.scenario_text.specs.declared.keyword.Keyword.TheVariants as keywords
use Rattle.scenario_text.specs.declared.scenario.Plan.TheVariants as plans
use Rattle.scenario_text.specs.declared.sofar.Passed.{Passed}
use Rattle.scenario_text.specs.declared.sofar.Place.{Place}
use Rattle.scenario_text.specs.declared.sofar.Place.TheVariants.{Outside, InThread, InPost, InRecv}
use Rattle.scenario_text.proofs.Asked.{Passes}
use Rattle.scenario_text.proofs.CallLinesPrinted.{end_fields, item_fields, post_fields, recv_fields, poll_fields, drain_fields, receive_fields_are}
use Rattle.scenario_text.proofs.Repeating.{Extends}
use Rattle.scenario_text.proofs.ThreadText.{Open, end_thread, more_calls, call_push, post_longer, recv_longer}
use Rattle.scenario_text.proofs.Within.{passed_none}
use Rattle.scenario_text.proofs.Words.{word_of}
use Rattle.scenario_text.proofs.Writing.{Told, TellsAt, IsInside, WritesAll, Written, after_head}

-- no list is open any more
abbrev in_thread : Said → List Call → List Request → List Receive → Said
in_thread s program requests receives = record s { calls = program; requests = requests; receives = receives; place = InThread }

-- a thread whose lists are closed
record Ready (s : Said) (program : List Call) (requests : List Request) (receives : List Receive) (rest : List ℕ) : Type 0 where
  opened : Open s.lines s.programs program rest
  requests_none : requests ≡ []
  receives_none : receives ≡ []
  idle : s.plan ≡ plans.Idle
  late : 2 ≤ place_of s.section

-- wherever a call or the end of a thread stands, it ends the list before it
call_at : (s : Said) (rest : List ℕ) (keyword : Keyword) → section_of keyword ≡ None → (P : Said → Type 0)
    → ((program : List Call) (requests : List Request) (receives : List Receive) → Ready s program requests receives rest → P (in_thread s program requests receives)) → (p : Place) → s.place ≡ p
    → IsTrue (may_stand_in s p keyword) → TellsAt s p rest → IsInside p s.section → P (close_place p s)
call_at s rest keyword none P each Outside is stands told inside = absurd (true≢false (sym stands ∙ ap (may_begin s.section) none))
call_at s rest keyword none P each InThread is stands told inside =
    subst (λ p. P (record s { place = p })) (sym is) (each s.calls s.requests s.receives (record { opened = told.0; requests_none = told.1; receives_none = told.2; idle = told.3; late = inside }))
call_at s rest keyword none P each (InPost qp) is stands told inside =
    each (s.calls ++ calls.Post qp s.requests ∷ []) [] s.receives (record { opened = told.0; requests_none = refl; receives_none = told.1; idle = told.2; late = inside })
call_at s rest keyword none P each (InRecv qp) is stands told inside =
    each (s.calls ++ calls.Recv qp s.receives ∷ []) s.requests [] (record { opened = told.0; requests_none = told.1; receives_none = refl; idle = told.2; late = inside })

module _ (bytes : List ℕ) (s : Said) (done : List ℕ) (kept : Written s done) where
  abbrev fields : Line
  fields = split 32 bytes

  some : 0 < length fields
  some = omega (arith, length-slice_split (λ b. b == 32) bytes)

  closed_unpassed : (place : Place) → (close_place place s).passed ≡ s.passed
  closed_unpassed Outside = refl
  closed_unpassed InThread = refl
  closed_unpassed (InPost qp) = refl
  closed_unpassed (InRecv qp) = refl

  -- what was written, where the line passes no limit after the list before it
  before : (keyword : Keyword) → passed_after (close_place s.place s).passed (bounds_of (close_place s.place s) keyword fields) ≡ None → WritesAll s done
  before keyword none = kept (sym (closed_unpassed s.place) ∙ (passed_none (close_place s.place s).passed (bounds_of (close_place s.place s) keyword fields) none).0)

  -- one call more in the thread
  one_call : (program : List Call) (call : Call) (rest : List ℕ) → ((e : Lines) → Extends s.lines e → call_lines e call ≡ fields ∷ []) → Open s.lines s.programs program rest
      → Open s.lines s.programs (program ++ call ∷ []) (rest ++ ended bytes)
  one_call program call rest one opened = more_calls s.lines s.programs program (program ++ call ∷ []) bytes rest (λ e more. call_push e program call fields (one e more)) opened

  pub end_writes : Passes s keywords.End fields → part_at fields 0 ≡ word_of keywords.End → Written (add_line keywords.End fields s) (done ++ ended bytes)
  end_writes ok word none =
      let w = before keywords.End none in
      call_at s w.rest keywords.End refl (λ t. WritesAll (add_end (note_limits keywords.End fields t)) (done ++ ended bytes))
      (λ program requests receives r. after_head (add_end (note_limits keywords.End fields (in_thread s program requests receives))) w.head w.rest done bytes w.whole w.writes.repeats
      (end_thread s.lines s.programs s.plan program bytes w.rest r.idle (end_fields s fields some ok word) r.opened, refl, r.requests_none, r.receives_none) tt r.late (λ soon. r.idle))
      s.place refl ok.stands w.writes.told w.writes.inside

  pub post_writes : Passes s keywords.Post fields → part_at fields 0 ≡ word_of keywords.Post → Written (add_line keywords.Post fields s) (done ++ ended bytes)
  post_writes ok word none =
      let w = before keywords.Post none in
      let qp = qp_named s (part_at fields 1) in
      call_at s w.rest keywords.Post refl (λ t. WritesAll (add_post fields (note_limits keywords.Post fields t)) (done ++ ended bytes))
      (λ program requests receives r. after_head (add_post fields (note_limits keywords.Post fields (in_thread s program requests receives))) w.head w.rest done bytes w.whole w.writes.repeats (
        one_call program (calls.Post qp requests) w.rest
            (λ e more. ap (λ (rs : List Request). (codes "post" ∷ qp_name e qp ∷ []) ∷ map request_fields rs) r.requests_none ∙ ap (λ (f : Line). f ∷ []) (post_fields s fields some e (w.writes.repeats.called e more) ok word))
            r.opened,
        r.receives_none,
        r.idle,
      ) r.late r.late (λ soon. r.idle)) s.place refl ok.stands w.writes.told w.writes.inside

  pub recv_writes : Passes s keywords.Recv fields → part_at fields 0 ≡ word_of keywords.Recv → Written (add_line keywords.Recv fields s) (done ++ ended bytes)
  recv_writes ok word none =
      let w = before keywords.Recv none in
      let qp = qp_named s (part_at fields 1) in
      call_at s w.rest keywords.Recv refl (λ t. WritesAll (add_recv fields (note_limits keywords.Recv fields t)) (done ++ ended bytes))
      (λ program requests receives r. after_head (add_recv fields (note_limits keywords.Recv fields (in_thread s program requests receives))) w.head w.rest done bytes w.whole w.writes.repeats (
        one_call program (calls.Recv qp receives) w.rest
            (λ e more. ap (λ (rs : List Receive). (codes "recv" ∷ qp_name e qp ∷ []) ∷ map receive_fields rs) r.receives_none ∙ ap (λ (f : Line). f ∷ []) (recv_fields s fields some e (w.writes.repeats.called e more) ok word))
            r.opened,
        r.requests_none,
        r.idle,
      ) r.late r.late (λ soon. r.idle)) s.place refl ok.stands w.writes.told w.writes.inside

  pub poll_writes : Passes s keywords.Poll fields → part_at fields 0 ≡ word_of keywords.Poll → Written (add_line keywords.Poll fields s) (done ++ ended bytes)
  poll_writes ok word none =
      let w = before keywords.Poll none in
      let within = (passed_none (close_place s.place s).passed (bounds_of (close_place s.place s) keywords.Poll fields) none).1 in
      let call = calls.Poll (cq_named s (part_at fields 1)) (small_at fields 2) in
      call_at s w.rest keywords.Poll refl (λ t. WritesAll (add_poll fields (note_limits keywords.Poll fields t)) (done ++ ended bytes))
      (λ program requests receives r. after_head (add_poll fields (note_limits keywords.Poll fields (in_thread s program requests receives))) w.head w.rest done bytes w.whole w.writes.repeats
      (one_call program call w.rest (λ e more. ap (λ (f : Line). f ∷ []) (poll_fields s fields some e (w.writes.repeats.called e more) ok word within.2.1)) r.opened, r.requests_none, r.receives_none, r.idle)
      r.late r.late (λ soon. r.idle)) s.place refl ok.stands w.writes.told w.writes.inside

  pub drain_writes : Passes s keywords.Drain fields → part_at fields 0 ≡ word_of keywords.Drain → Written (add_line keywords.Drain fields s) (done ++ ended bytes)
  drain_writes ok word none =
      let w = before keywords.Drain none in
      let within = (passed_none (close_place s.place s).passed (bounds_of (close_place s.place s) keywords.Drain fields) none).1 in
      let call = calls.Drain (cq_named s (part_at fields 1)) (small_at fields 2) in
      call_at s w.rest keywords.Drain refl (λ t. WritesAll (add_drain fields (note_limits keywords.Drain fields t)) (done ++ ended bytes))
      (λ program requests receives r. after_head (add_drain fields (note_limits keywords.Drain fields (in_thread s program requests receives))) w.head w.rest done bytes w.whole w.writes.repeats
      (one_call program call w.rest (λ e more. ap (λ (f : Line). f ∷ []) (drain_fields s fields some e (w.writes.repeats.called e more) ok word within.2.1)) r.opened, r.requests_none, r.receives_none, r.idle)
      r.late r.late (λ soon. r.idle)) s.place refl ok.stands w.writes.told w.writes.inside

  -- one request more
  abbrev with_request : Option ℕ → Said → Said
  with_request cq n = let t = take_room_of cq n in record t { requests = t.requests ++ request_in fields ∷ [] }

  abbrev with_receive : Option ℕ → Said → Said
  with_receive cq n = let t = take_room_of cq n in record t { receives = t.receives ++ receive_in fields ∷ [] }

  -- the room that an item takes is no part of the text
  request_roomed : (passed : Option Passed) (cq : Option ℕ) (w : WritesAll s done)
      → Told s.place s.lines s.programs s.calls (s.requests ++ request_in fields ∷ []) s.receives s.plan (w.rest ++ ended bytes) → 2 ≤ place_of s.section → s.plan ≡ plans.Idle
      → WritesAll (with_request cq (record s { passed = passed })) (done ++ ended bytes)
  request_roomed passed None w told late idle = after_head (with_request None (record s { passed = passed })) w.head w.rest done bytes w.whole w.writes.repeats told w.writes.inside late (λ soon. idle)
  request_roomed passed (Some cq) w told late idle = after_head (with_request (Some cq) (record s { passed = passed })) w.head w.rest done bytes w.whole w.writes.repeats told w.writes.inside late (λ soon. idle)

  receive_roomed : (passed : Option Passed) (cq : Option ℕ) (w : WritesAll s done)
      → Told s.place s.lines s.programs s.calls s.requests (s.receives ++ receive_in fields ∷ []) s.plan (w.rest ++ ended bytes) → 2 ≤ place_of s.section → s.plan ≡ plans.Idle
      → WritesAll (with_receive cq (record s { passed = passed })) (done ++ ended bytes)
  receive_roomed passed None w told late idle = after_head (with_receive None (record s { passed = passed })) w.head w.rest done bytes w.whole w.writes.repeats told w.writes.inside late (λ soon. idle)
  receive_roomed passed (Some cq) w told late idle = after_head (with_receive (Some cq) (record s { passed = passed })) w.head w.rest done bytes w.whole w.writes.repeats told w.writes.inside late (λ soon. idle)

  request_at : (passed : Option Passed) (cq : Option ℕ) (w : WritesAll s done) (p : Place) → s.place ≡ p → IsTrue (may_stand_in s p keywords.Item) → request_fields (request_in fields) ≡ fields → TellsAt s p w.rest
      → IsInside p s.section → WritesAll (with_request cq (record s { passed = passed })) (done ++ ended bytes)
  request_at passed cq w Outside is stands same told inside = absurd (true≢false (sym stands))
  request_at passed cq w InThread is stands same told inside = absurd (true≢false (sym stands))
  request_at passed cq w (InRecv qp) is stands same told inside = absurd (true≢false (sym stands))
  request_at passed cq w (InPost qp) is stands same told inside =
      let longer = more_calls s.lines s.programs (s.calls ++ calls.Post qp s.requests ∷ []) (s.calls ++ calls.Post qp (s.requests ++ request_in fields ∷ []) ∷ []) bytes w.rest
      (λ e more. post_longer e s.calls qp s.requests (request_in fields) fields same) told.0
      in
      request_roomed passed cq w
      (subst (λ q. Told q s.lines s.programs s.calls (s.requests ++ request_in fields ∷ []) s.receives s.plan (w.rest ++ ended bytes)) (sym is) (longer, told.1, told.2)) inside told.2

  receive_at : (passed : Option Passed) (cq : Option ℕ) (w : WritesAll s done) (p : Place) → s.place ≡ p → IsTrue (may_stand_in s p keywords.Receive) → receive_fields (receive_in fields) ≡ fields → TellsAt s p w.rest
      → IsInside p s.section → WritesAll (with_receive cq (record s { passed = passed })) (done ++ ended bytes)
  receive_at passed cq w Outside is stands same told inside = absurd (true≢false (sym stands))
  receive_at passed cq w InThread is stands same told inside = absurd (true≢false (sym stands))
  receive_at passed cq w (InPost qp) is stands same told inside = absurd (true≢false (sym stands))
  receive_at passed cq w (InRecv qp) is stands same told inside =
      let longer = more_calls s.lines s.programs (s.calls ++ calls.Recv qp s.receives ∷ []) (s.calls ++ calls.Recv qp (s.receives ++ receive_in fields ∷ []) ∷ []) bytes w.rest
      (λ e more. recv_longer e s.calls qp s.receives (receive_in fields) fields same) told.0
      in
      receive_roomed passed cq w
      (subst (λ q. Told q s.lines s.programs s.calls s.requests (s.receives ++ receive_in fields ∷ []) s.plan (w.rest ++ ended bytes)) (sym is) (longer, told.1, told.2)) inside told.2

  room_unpassed : (cq : Option ℕ) (n : Said) → (take_room_of cq n).passed ≡ n.passed
  room_unpassed None n = refl
  room_unpassed (Some cq) n = refl

  pub item_writes : Passes s keywords.Item fields → part_at fields 0 ≡ word_of keywords.Item → Written (add_line keywords.Item fields s) (done ++ ended bytes)
  item_writes ok word none =
      let passed = passed_after s.passed (bounds_of s keywords.Item fields) in
      let unpassed : passed ≡ None = sym (room_unpassed (list_cq s) (record s { passed = passed })) ∙ none in
      let w = kept (passed_none s.passed (bounds_of s keywords.Item fields) unpassed).0 in
      request_at passed (list_cq s) w s.place refl ok.stands (item_fields s fields some ok word) w.writes.told w.writes.inside

  pub receive_writes : Passes s keywords.Receive fields → part_at fields 0 ≡ word_of keywords.Receive → Written (add_line keywords.Receive fields s) (done ++ ended bytes)
  receive_writes ok word none =
      let passed = passed_after s.passed (bounds_of s keywords.Receive fields) in
      let unpassed : passed ≡ None = sym (room_unpassed (list_cq s) (record s { passed = passed })) ∙ none in
      let limits = passed_none s.passed (bounds_of s keywords.Receive fields) unpassed in
      let w = kept limits.0 in
      receive_at passed (list_cq s) w s.place refl ok.stands (receive_fields_are (segments_here s) fields ok.formed ok.numbered word limits.1.2) w.writes.told w.writes.inside
