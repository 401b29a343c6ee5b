-- A line of a thread that breaks no rule keeps what holds.
use Rattle.std.proofs.Common.{◌≡◌, ℕ, Bool, false, ◌&&◌, ◌||◌, nat_lt, List, [], ◌∷◌, ◌++◌, length, IsTrue, Option, None, Some, true≢false, refl, sym, ap, ◌∙◌, subst, arith}
use Rattle.std.proofs.lemmas.Bool.{and_parts}
use Rattle.verbs_types.specs.declared.call.Call.{Call}
use Rattle.verbs_types.specs.declared.call.Call.TheVariants as calls
use Rattle.verbs_types.specs.declared.request.Receive.{Receive}
use Rattle.verbs_types.specs.declared.request.Request.{Request}
use Rattle.scenario_text.specs.After.{note_limits, add_line}
use Rattle.scenario_text.specs.AfterCalls.{receive_in as line_receive, close_place, take_room_of, add_end, add_post, add_recv, add_request, add_receive, add_poll, add_drain}
use Rattle.scenario_text.specs.Bounds.{bounds_of, passed_after, segment_bounds}
use Rattle.scenario_text.specs.Built.{is_built_in}
use Rattle.scenario_text.specs.Calls.{CanReceive, segments_of}
use Rattle.scenario_text.specs.Keywords.{section_of, is_of_thread, slots_of}
use Rattle.scenario_text.specs.Rules.{is_item, is_receive, is_known, is_own, may_begin, may_stand_in}
use Rattle.scenario_text.specs.Segments as segments
use Rattle.scenario_text.specs.Slots.{is_formed, has_number}
use Rattle.scenario_text.specs.Sofar.{Said}
use Rattle.scenario_text.specs.Text.{Line, part_at}
use Rattle.scenario_text.specs.Uses.{list_cq, segments_in, segments_here}
use Rattle.scenario_text.specs.declared.keyword.Keyword.{Keyword}
use Rattle.scenario_text.specs.declared.keyword.Keyword.TheVariants as keywords
use Rattle.scenario_text.specs.declared.keyword.Section.{Section}
use Rattle.scenario_text.specs.declared.slot.Kind.TheVariants as kinds
use Rattle.scenario_text.specs.declared.slot.Slot.TheVariants.{Number, Poster, Receiver, Poller, Segment}
use Rattle.scenario_text.specs.declared.sofar.Place.{Place}
use Rattle.scenario_text.specs.declared.sofar.Place.TheVariants.{Outside, InThread, InPost, InRecv}
use Rattle.scenario_text.proofs.Asked.{Passes, more_kept, part_kept}
use Rattle.scenario_text.proofs.CallLines.{post_stands, recv_stands, poll_stands, drain_stands}
use Rattle.scenario_text.proofs.Closing.{post_closed, recv_closed}
use Rattle.scenario_text.proofs.ItemLines.{request_stands, receive_stands}
use Rattle.scenario_text.proofs.ObjectLines.{moved}
use Rattle.scenario_text.proofs.OutsideLines.{limits_of, number_in}
use Rattle.scenario_text.proofs.Receiving.{number_below, can_receive}
use Rattle.scenario_text.proofs.Standing.{Kept, Stands}
use Rattle.scenario_text.proofs.ThreadLines.{end_stands}
use Rattle.scenario_text.proofs.Within.{AllWithin}

-- the limits of a line do not touch what holds
noted : (s : Said) (keyword : Keyword) (line : Line) → Stands s → Stands (note_limits keyword line s)
noted s keyword line h = moved s s.count s.section (passed_after s.passed (bounds_of s keyword line)) h.early h

-- nor does the room that an item takes
room_unpassed : (o : Option ℕ) (s : Said) → (take_room_of o s).passed ≡ s.passed
room_unpassed None s = refl
room_unpassed (Some cq) s = refl

-- in a thread, where no list is open
module _ (line : Line) (s : Said) (inside : s.place ≡ InThread) (kept : Kept s) where
  end_noted : Kept (add_end (note_limits keywords.End line s))
  end_noted none = let (h, within) = limits_of s keywords.End line none kept in end_stands (note_limits keywords.End line s) inside (noted s keywords.End line h)

  post_noted : IsTrue (is_known s Poster (part_at line 1)) → IsTrue (is_own s Poster (part_at line 1)) → Kept (add_post line (note_limits keywords.Post line s))
  post_noted known own none =
      let (h, within) = limits_of s keywords.Post line none kept in
      post_stands (note_limits keywords.Post line s) inside (noted s keywords.Post line h) line within.1 (number_in line s 1 kinds.Qp h known) own

  recv_noted : IsTrue (is_known s Receiver (part_at line 1)) → IsTrue (is_own s Receiver (part_at line 1)) → Kept (add_recv line (note_limits keywords.Recv line s))
  recv_noted known own none =
      let (h, within) = limits_of s keywords.Recv line none kept in
      recv_stands (note_limits keywords.Recv line s) inside (noted s keywords.Recv line h) line within.1 (number_in line s 1 kinds.Qp h known) own

  poll_noted : IsTrue (is_known s Poller (part_at line 1)) → IsTrue (is_own s Poller (part_at line 1)) → Kept (add_poll line (note_limits keywords.Poll line s))
  poll_noted known own none =
      let (h, within) = limits_of s keywords.Poll line none kept in
      poll_stands (note_limits keywords.Poll line s) inside (noted s keywords.Poll line h) line within.1 within.2.0 within.2.1 (number_in line s 1 kinds.Cq h known) own

  drain_noted : IsTrue (is_known s Poller (part_at line 1)) → IsTrue (is_own s Poller (part_at line 1)) → Kept (add_drain line (note_limits keywords.Drain line s))
  drain_noted known own none =
      let (h, within) = limits_of s keywords.Drain line none kept in
      drain_stands (note_limits keywords.Drain line s) inside (noted s keywords.Drain line h) line within.1 within.2.0 within.2.1 (number_in line s 1 kinds.Cq h known) own

-- no list is open any more
abbrev in_thread : Said → List Call → List Request → List Receive → Said
in_thread s program requests receives = record s { calls = program; requests = requests; receives = receives; place = InThread }

-- a call, or the end of a thread
record IsCallWord (keyword : Keyword) : Type 0 where
  inside : section_of keyword ≡ None
  no_item : is_item keyword ≡ false
  no_receive : is_receive keyword ≡ false

some_items : (plus thread some : Bool) → plus ≡ false → IsTrue (plus || (thread && some)) → IsTrue some
some_items plus thread some none h = (and_parts thread some (subst (λ t. IsTrue (t || (thread && some))) none h)).1

-- wherever it stands, it ends the list before it
call_in : (s : Said) → Kept s → (keyword : Keyword) → IsCallWord keyword → (add : Said → Said)
    → ((program : List Call) (requests : List Request) (receives : List Receive) → Kept (in_thread s program requests receives) → Kept (add (in_thread s program requests receives)))
    → (p : Place) → s.place ≡ p → IsTrue (may_stand_in s p keyword) → Kept (add (close_place p s))
call_in s kept keyword word add each Outside is stands = absurd (true≢false (sym stands ∙ ap (λ (o : Option Section). may_begin s.section o) word.inside))
call_in s kept keyword word add each InThread is stands =
    subst (λ p. Kept (add (record s { place = p }))) (sym is) (each s.calls s.requests s.receives (subst (λ p. Kept (record s { place = p })) is kept))
call_in s kept keyword word add each (InPost qp) is stands =
    each (s.calls ++ calls.Post qp s.requests ∷ []) [] s.receives
    (post_closed qp s is (some_items (is_item keyword) (is_of_thread keyword) (nat_lt 0 (length s.requests)) word.no_item stands) kept)
call_in s kept keyword word add each (InRecv qp) is stands =
    each (s.calls ++ calls.Recv qp s.receives ∷ []) s.requests []
    (recv_closed qp s is (some_items (is_receive keyword) (is_of_thread keyword) (nat_lt 0 (length s.receives)) word.no_receive stands) kept)

module _ (line : Line) (s : Said) (kept : Kept s) where
  item_at : (p : Place) → s.place ≡ p → IsTrue (may_stand_in s p keywords.Item) → IsTrue (is_built_in s p (part_at line 2)) → Kept (add_request line (note_limits keywords.Item line s))
  item_at Outside is stands built none = absurd (true≢false (sym stands))
  item_at InThread is stands built none = absurd (true≢false (sym stands))
  item_at (InRecv qp) is stands built none = absurd (true≢false (sym stands))
  item_at (InPost qp) is stands built none =
      let unpassed : passed_after s.passed (bounds_of s keywords.Item line) ≡ None = sym (room_unpassed (list_cq s) (note_limits keywords.Item line s)) ∙ none in
      let (h, within) = limits_of s keywords.Item line unpassed kept in
      request_stands (note_limits keywords.Item line s) qp is (noted s keywords.Item line h) line within.1 (number_below (part_at line 1)) (and_parts _ _ built).1

  receive_at : (p : Place) → s.place ≡ p → IsTrue (may_stand_in s p keywords.Receive) → Passes s keywords.Receive line → Kept (add_receive line (note_limits keywords.Receive line s))
  receive_at Outside is stands ok none = absurd (true≢false (sym stands))
  receive_at InThread is stands ok none = absurd (true≢false (sym stands))
  receive_at (InPost qp) is stands ok none = absurd (true≢false (sym stands))
  receive_at (InRecv qp) is stands ok none =
      let unpassed : passed_after s.passed (bounds_of s keywords.Receive line) ≡ None = sym (room_unpassed (list_cq s) (note_limits keywords.Receive line s)) ∙ none in
      let (h, within) = limits_of s keywords.Receive line unpassed kept in
      let most : segments_here s ≡ segments_of s.lines qp = ap (segments_in s) is in
      let right : CanReceive (segments_of s.lines qp) (line_receive line) =
      can_receive line (segments_of s.lines qp) (more_kept is_formed Number Segment line ok.formed) (more_kept has_number Number Segment line ok.numbered)
      (subst (λ n. AllWithin (segment_bounds n 1 0 (segments.segment_fields line))) most within.2) (number_below (part_at line 1))
      in
      receive_stands (note_limits keywords.Receive line s) qp is (noted s keywords.Receive line h) line within.1 right (and_parts _ _ ok.built).0

  pub end_kept : Passes s keywords.End line → Kept (add_line keywords.End line s)
  end_kept ok =
      call_in s kept keywords.End (record { inside = refl; no_item = refl; no_receive = refl }) (λ now. add_end (note_limits keywords.End line now))
      (λ program requests receives now. end_noted line (in_thread s program requests receives) refl now) s.place refl ok.stands

  pub post_kept : Passes s keywords.Post line → Kept (add_line keywords.Post line s)
  post_kept ok =
      call_in s kept keywords.Post (record { inside = refl; no_item = refl; no_receive = refl }) (λ now. add_post line (note_limits keywords.Post line now))
      (λ program requests receives now. post_noted line (in_thread s program requests receives) refl now
      (part_kept (is_known s) (slots_of keywords.Post) None line 0 Poster ok.known (omega arith) refl)
      (part_kept (is_own s) (slots_of keywords.Post) None line 0 Poster ok.own (omega arith) refl)) s.place refl ok.stands

  pub recv_kept : Passes s keywords.Recv line → Kept (add_line keywords.Recv line s)
  recv_kept ok =
      call_in s kept keywords.Recv (record { inside = refl; no_item = refl; no_receive = refl }) (λ now. add_recv line (note_limits keywords.Recv line now))
      (λ program requests receives now. recv_noted line (in_thread s program requests receives) refl now
      (part_kept (is_known s) (slots_of keywords.Recv) None line 0 Receiver ok.known (omega arith) refl)
      (part_kept (is_own s) (slots_of keywords.Recv) None line 0 Receiver ok.own (omega arith) refl)) s.place refl ok.stands

  pub poll_kept : Passes s keywords.Poll line → Kept (add_line keywords.Poll line s)
  poll_kept ok =
      call_in s kept keywords.Poll (record { inside = refl; no_item = refl; no_receive = refl }) (λ now. add_poll line (note_limits keywords.Poll line now))
      (λ program requests receives now. poll_noted line (in_thread s program requests receives) refl now
      (part_kept (is_known s) (slots_of keywords.Poll) None line 0 Poller ok.known (omega arith) refl)
      (part_kept (is_own s) (slots_of keywords.Poll) None line 0 Poller ok.own (omega arith) refl)) s.place refl ok.stands

  pub drain_kept : Passes s keywords.Drain line → Kept (add_line keywords.Drain line s)
  drain_kept ok =
      call_in s kept keywords.Drain (record { inside = refl; no_item = refl; no_receive = refl }) (λ now. add_drain line (note_limits keywords.Drain line now))
      (λ program requests receives now. drain_noted line (in_thread s program requests receives) refl now
      (part_kept (is_known s) (slots_of keywords.Drain) None line 0 Poller ok.known (omega arith) refl)
      (part_kept (is_own s) (slots_of keywords.Drain) None line 0 Poller ok.own (omega arith) refl)) s.place refl ok.stands

  pub item_kept : Passes s keywords.Item line → Kept (add_line keywords.Item line s)
  item_kept ok = item_at s.place refl ok.stands ok.built

  pub receive_kept : Passes s keywords.Receive line → Kept (add_line keywords.Receive line s)
  receive_kept ok = receive_at s.place refl ok.stands ok
