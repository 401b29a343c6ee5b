-- How many lines were read makes no difference to what they say.
use Rattle.std.proofs.Common.{◌≡◌, ℕ, ◌+◌, Bool, not, cond, ◌&&◌, nat_lt, List, true, false, [], ◌∷◌, ◌++◌, length, drop, Option, None, Some, Ok, refl, sym, ap, ◌∙◌}
use Rattle.std.specs.List.{list_all}
use Rattle.std.specs.Option.{option_map_or}
use Rattle.scenario_text.specs.After.{add_line, add_known, after_line, note_limits}
use Rattle.scenario_text.specs.AfterCalls.{close_place, take_room_of, request_in, receive_in, add_end, add_post, add_recv, add_poll, add_drain}
use Rattle.scenario_text.specs.Bounds.{bound, passed_after, segment_bounds}
use Rattle.scenario_text.specs.Built.{is_built_in, is_built_line, has_later_segments}
use Rattle.scenario_text.specs.Keywords.{keyword_in, slots_of, more_of, is_later_operation}
use Rattle.scenario_text.specs.Rules.{all_keep, broken_by, fault_of, first_broken, fits, is_known, is_new, is_own, is_this, is_unconnected, keeps, may_stand_in}
use Rattle.scenario_text.specs.Segments.{segment_fields}
use Rattle.scenario_text.specs.Sofar.{Said}
use Rattle.scenario_text.specs.Text.{Field, Line, split, part_at, is_skipped, is_text_byte}
use Rattle.scenario_text.specs.Uses.{has_room, list_cq, list_cq_in, queue_use, segments_in}
use Rattle.scenario_text.specs.Whole.{end_in}
use Rattle.scenario_text.specs.declared.fault.LimitName.TheVariants as limits
use Rattle.scenario_text.specs.declared.fault.TextRule.{TextRule}
use Rattle.scenario_text.specs.declared.fault.TextRule.TheVariants as rules
use Rattle.scenario_text.specs.declared.keyword.Keyword.{Keyword}
use Rattle.scenario_text.specs.declared.keyword.Keyword.TheVariants.{Eq, Pd, Cq, Qp, Connect, Thread, End, Post, Item, Recv, Receive, Poll, Drain, Schedule, Rounds}
use Rattle.scenario_text.specs.declared.scenario.ScenarioParts.{ScenarioParts}
use Rattle.scenario_text.specs.declared.slot.Slot.{Slot}
use Rattle.scenario_text.specs.declared.slot.Slot.TheVariants as slots
use Rattle.scenario_text.specs.declared.sofar.Place.{Place}
use Rattle.scenario_text.specs.declared.sofar.Place.TheVariants.{Outside, InThread, InPost, InRecv}

abbrev pub with_count : Said → ℕ → Said
with_count s count = record s { count = count }

module _ (s : Said) (count : ℕ) where
  list_same : (place : Place) → list_cq_in (with_count s count) place ≡ list_cq_in s place
  list_same Outside = refl
  list_same InThread = refl
  list_same (InPost qp) = refl
  list_same (InRecv qp) = refl

  room_same : has_room (with_count s count) ≡ has_room s
  room_same = ap (λ o. option_map_or (λ cq. nat_lt 0 (queue_use s cq).room) o true) (list_same s.place)

  item_same : (place : Place) (operation : Field) → is_built_in (with_count s count) place operation ≡ is_built_in s place operation
  item_same Outside operation = refl
  item_same InThread operation = refl
  item_same (InPost qp) operation = ap (λ room. not (is_later_operation operation) && room) room_same
  item_same (InRecv qp) operation = refl

  built_same : (keyword : Option Keyword) (line : Line) → is_built_line (with_count s count) keyword line ≡ is_built_line s keyword line
  built_same None line = refl
  built_same (Some Item) line = item_same s.place (part_at line 2)
  built_same (Some Receive) line = ap (λ room. room && not (has_later_segments line)) room_same
  built_same (Some Eq) line = refl
  built_same (Some Pd) line = refl
  built_same (Some Cq) line = refl
  built_same (Some Qp) line = refl
  built_same (Some Connect) line = refl
  built_same (Some Thread) line = refl
  built_same (Some End) line = refl
  built_same (Some Post) line = refl
  built_same (Some Recv) line = refl
  built_same (Some Poll) line = refl
  built_same (Some Drain) line = refl
  built_same (Some Schedule) line = refl
  built_same (Some Rounds) line = refl

  stand_same : (place : Place) (keyword : Keyword) → may_stand_in (with_count s count) place keyword ≡ may_stand_in s place keyword
  stand_same Outside keyword = refl
  stand_same InThread keyword = refl
  stand_same (InPost qp) keyword = refl
  stand_same (InRecv qp) keyword = refl

  this_same : (thread : Option ℕ) → is_this (with_count s count) thread ≡ is_this s thread
  this_same None = refl
  this_same (Some thread) = refl

  unconnected_same : (qp : Option ℕ) → is_unconnected (with_count s count) qp ≡ is_unconnected s qp
  unconnected_same None = refl
  unconnected_same (Some qp) = refl

  new_same : (slot : Slot) (field : Field) → is_new (with_count s count) slot field ≡ is_new s slot field
  new_same slots.NewName field = refl
  new_same (slots.Name kind) field = refl
  new_same slots.Pair field = unconnected_same _
  new_same slots.Poster field = refl
  new_same slots.Receiver field = refl
  new_same slots.Poller field = refl
  new_same slots.Number field = refl
  new_same slots.RecvLog field = refl
  new_same slots.Operation field = refl
  new_same slots.Flags field = refl
  new_same slots.Segment field = refl
  new_same slots.Turns field = refl

  known_same : (slot : Slot) (field : Field) → is_known (with_count s count) slot field ≡ is_known s slot field
  known_same slots.NewName field = refl
  known_same (slots.Name kind) field = refl
  known_same slots.Pair field = refl
  known_same slots.Poster field = refl
  known_same slots.Receiver field = refl
  known_same slots.Poller field = refl
  known_same slots.Number field = refl
  known_same slots.RecvLog field = refl
  known_same slots.Operation field = refl
  known_same slots.Flags field = refl
  known_same slots.Segment field = refl
  known_same slots.Turns field = refl

  own_same : (slot : Slot) (field : Field) → is_own (with_count s count) slot field ≡ is_own s slot field
  own_same slots.NewName field = refl
  own_same (slots.Name kind) field = refl
  own_same slots.Pair field = refl
  own_same slots.Poster field = this_same _
  own_same slots.Receiver field = this_same _
  own_same slots.Poller field = this_same _
  own_same slots.Number field = refl
  own_same slots.RecvLog field = refl
  own_same slots.Operation field = refl
  own_same slots.Flags field = refl
  own_same slots.Segment field = refl
  own_same slots.Turns field = refl

  keeps_same : (rule : TextRule) (slot : Slot) (field : Field) → keeps (with_count s count) rule slot field ≡ keeps s rule slot field
  keeps_same rules.Byte slot field = refl
  keeps_same rules.Form slot field = refl
  keeps_same rules.Number slot field = refl
  keeps_same rules.Double slot field = new_same slot field
  keeps_same rules.Name slot field = known_same slot field
  keeps_same rules.Side slot field = own_same slot field
  keeps_same rules.Missing slot field = refl
  keeps_same rules.NotBuilt slot field = refl

  fits_same : (rule : TextRule) (keyword : Keyword) (line : Line) → fits (with_count s count) rule keyword line ≡ fits s rule keyword line
  fits_same rule keyword line = λ i. all_keep (λ slot field. keeps_same rule slot field i) (slots_of keyword) (more_of keyword) (drop 1 line)

  first_same : (keyword : Keyword) (line : Line) → first_broken (with_count s count) keyword line ≡ first_broken s keyword line
  first_same keyword line =
      let standing = stand_same s.place keyword in
      let formed = fits_same rules.Form keyword line in
      let numbered = fits_same rules.Number keyword line in
      let new = fits_same rules.Double keyword line in
      let known = fits_same rules.Name keyword line in
      let own = fits_same rules.Side keyword line in
      λ i. cond (not (standing i && formed i)) (Some rules.Form)
      (cond (not (numbered i)) (Some rules.Number) (cond (not (new i)) (Some rules.Double) (cond (not (known i)) (Some rules.Name) (cond (not (own i)) (Some rules.Side) None))))

  broken_same : (keyword : Option Keyword) (line : Line) → broken_by (with_count s count) keyword line ≡ broken_by s keyword line
  broken_same None line = refl
  broken_same (Some keyword) line = first_same keyword line

  pub fault_same : (bytes : List ℕ) → fault_of (with_count s count) bytes ≡ fault_of s bytes
  fault_same bytes =
      let found = keyword_in s.place (part_at (split 32 bytes) 0) in
      let built = built_same found (split 32 bytes) in
      let broken = broken_same found (split 32 bytes) in
      λ i. cond (not (list_all is_text_byte bytes)) (Some rules.Byte) (cond (is_skipped bytes) None (cond (not (built i)) (Some rules.NotBuilt) (broken i)))

  closed_same : (place : Place) → close_place place (with_count s count) ≡ with_count (close_place place s) count
  closed_same Outside = refl
  closed_same InThread = refl
  closed_same (InPost qp) = refl
  closed_same (InRecv qp) = refl

  here_same : (place : Place) → segments_in (with_count s count) place ≡ segments_in s place
  here_same Outside = refl
  here_same InThread = refl
  here_same (InPost qp) = refl
  here_same (InRecv qp) = refl

-- a line of a list of requests or receives, where its completion has room here
abbrev with_request : Option ℕ → Line → Said → Said
with_request cq line s = let t = take_room_of cq s in record t { requests = t.requests ++ request_in line ∷ [] }

abbrev with_receive : Option ℕ → Line → Said → Said
with_receive cq line s = let t = take_room_of cq s in record t { receives = t.receives ++ receive_in line ∷ [] }

request_same : (cq : Option ℕ) (line : Line) (s : Said) (count : ℕ) → with_request cq line (with_count s count) ≡ with_count (with_request cq line s) count
request_same None line s count = refl
request_same (Some cq) line s count = refl

receive_same : (cq : Option ℕ) (line : Line) (s : Said) (count : ℕ) → with_receive cq line (with_count s count) ≡ with_count (with_receive cq line s) count
receive_same None line s count = refl
receive_same (Some cq) line s count = refl

add_same : (keyword : Keyword) (line : Line) (s : Said) (count : ℕ) → add_line keyword line (with_count s count) ≡ with_count (add_line keyword line s) count
add_same Eq line s count = refl
add_same Pd line s count = refl
add_same Cq line s count = refl
add_same Qp line s count = refl
add_same Connect line s count = refl
add_same Thread line s count = refl
add_same End line s count = ap (λ t. add_end (note_limits End line t)) (closed_same s count s.place)
add_same Post line s count = ap (λ t. add_post line (note_limits Post line t)) (closed_same s count s.place)
add_same Recv line s count = ap (λ t. add_recv line (note_limits Recv line t)) (closed_same s count s.place)
add_same Poll line s count = ap (λ t. add_poll line (note_limits Poll line t)) (closed_same s count s.place)
add_same Drain line s count = ap (λ t. add_drain line (note_limits Drain line t)) (closed_same s count s.place)
add_same Item line s count =
    let noted = note_limits Item line s in
    ap (λ cq. with_request cq line (with_count noted count)) (list_same s count s.place) ∙ request_same (list_cq s) line noted count
add_same Receive line s count =
    let noted = note_limits Receive line s in
    (λ i. with_receive (list_same s count s.place i) line (record s { count = count; passed = passed_after s.passed (bound limits.List (length s.receives + 1) 0 16 ∷ segment_bounds (here_same s count s.place i) 1 0 (segment_fields line)) }))
    ∙ receive_same (list_cq s) line noted count
add_same Schedule line s count = refl
add_same Rounds line s count = refl

added_same : (keyword : Option Keyword) (line : Line) (s : Said) (count : ℕ) → add_known keyword line (with_count s count) ≡ with_count (add_known keyword line s) count
added_same None line s count = refl
added_same (Some keyword) line s count = add_same keyword line s count

pub after_same : (s : Said) (count : ℕ) (bytes : List ℕ) → after_line (with_count s count) bytes ≡ with_count (after_line s bytes) (count + 1)
after_same s count bytes = by (is_skipped bytes)
  where
    found : Option Keyword
    found = keyword_in s.place (part_at (split 32 bytes) 0)

    by : (skipped : Bool) → cond skipped (with_count s (count + 1)) (add_known found (split 32 bytes) (with_count s (count + 1)))
        ≡ with_count (cond skipped (with_count s (s.count + 1)) (add_known found (split 32 bytes) (with_count s (s.count + 1)))) (count + 1)
    by true = refl
    by false = added_same found (split 32 bytes) s (count + 1) ∙ ap (λ (t : Said). with_count t (count + 1)) (sym (added_same found (split 32 bytes) s (s.count + 1)))

pub end_same : (place : Place) (s : Said) (count : ℕ) (p : ScenarioParts) → end_in place s ≡ Ok p → end_in place (with_count s count) ≡ Ok p
end_same Outside s count p h = h
end_same InThread s count p h = absurd (cc)
end_same (InPost qp) s count p h = absurd (cc)
end_same (InRecv qp) s count p h = absurd (cc)
