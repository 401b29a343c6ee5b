-- The fields of each line of a thread and of the plan are those that are printed.
use Rattle.std.proofs.Common.{◌≡◌, ℕ, ◌<◌, ◌≤◌, ◌&&◌, true≢false, [], ◌∷◌, map, codes, decimal, length, drop, IsTrue, None, Some, refl, sym, ◌∙◌, arith}
use Rattle.std.specs.List.{list_all}
use Rattle.std.proofs.lemmas.Bool.{and_parts, and_from}
use Rattle.std.proofs.lemmas.Slice.Eq.{bytes_eq-Decides}
use Rattle.verbs_types.specs.declared.declaration.Lines.{Lines}
use Rattle.scenario_text.specs.After.{plan_item}
use Rattle.scenario_text.specs.AfterCalls.{request_in, receive_in}
use Rattle.scenario_text.specs.Bounds.{segment_bounds}
use Rattle.scenario_text.specs.Heads.{cq_name, qp_name}
use Rattle.scenario_text.specs.Keywords.{slots_of}
use Rattle.scenario_text.specs.Requests.{request_fields, receive_fields}
use Rattle.scenario_text.specs.Rules.{all_keep, is_known}
use Rattle.scenario_text.specs.Segments.{segment_fields}
use Rattle.scenario_text.specs.Slots.{is_formed, has_number, actor_part}
use Rattle.scenario_text.specs.Sofar.{Said}
use Rattle.scenario_text.specs.Spelling.{item_text, thread_line, end_line}
use Rattle.scenario_text.specs.Text.{Field, Line, part_at, number_at, small_at, name_in}
use Rattle.scenario_text.specs.Uses.{named, cq_named, qp_named}
use Rattle.scenario_text.specs.declared.keyword.Keyword.TheVariants as keywords
use Rattle.scenario_text.specs.declared.slot.Kind.TheVariants as kinds
use Rattle.scenario_text.specs.declared.slot.Slot.TheVariants.{Number, Operation, Flags, Segment, Turns, Poster, Receiver, Poller}
use Rattle.scenario_text.proofs.Asked.{Passes, part_kept}
use Rattle.scenario_text.proofs.CallFields.{flags_printed, segments_printed, all_printed, item_printed}
use Rattle.scenario_text.proofs.HeadLines.{small_printed}
use Rattle.scenario_text.proofs.Printed.{number_printed, whole_line}
use Rattle.scenario_text.proofs.Repeating.{AllCalled, name_printed}
use Rattle.scenario_text.proofs.Within.{AllWithin}
use Rattle.scenario_text.proofs.Words.{word_of}

module _ (s : Said) (line : Line) (some : 0 < length line) where
  pub thread_fields : Passes s keywords.Thread line → part_at line 0 ≡ word_of keywords.Thread → thread_line (name_in line) ≡ line
  thread_fields ok word = (λ i. sym word i ∷ part_at line 1 ∷ []) ∙ whole_line is_formed (slots_of keywords.Thread) line some ok.formed

  pub end_fields : Passes s keywords.End line → part_at line 0 ≡ word_of keywords.End → end_line ≡ line
  end_fields ok word = (λ i. sym word i ∷ []) ∙ whole_line is_formed (slots_of keywords.End) line some ok.formed

  pub item_fields : Passes s keywords.Item line → part_at line 0 ≡ word_of keywords.Item → request_fields (request_in line) ≡ line
  item_fields ok word =
      let id = number_printed (part_at line 1) (part_kept has_number (slots_of keywords.Item) None line 0 Number ok.numbered (omega arith) refl) in
      let nop : part_at line 2 ≡ codes "nop" = (bytes_eq-Decides (part_at line 2) (codes "nop")).0 (part_kept is_formed (slots_of keywords.Item) None line 1 Operation ok.formed (omega arith) refl) in
      let flags = flags_printed (part_at line 3) (part_kept is_formed (slots_of keywords.Item) None line 2 Flags ok.formed (omega arith) refl) in
      (λ i. sym word i ∷ id i ∷ sym nop i ∷ flags i ∷ []) ∙ whole_line is_formed (slots_of keywords.Item) line some ok.formed

  pub rounds_fields : Passes s keywords.Rounds line → part_at line 0 ≡ word_of keywords.Rounds → codes "rounds" ∷ decimal (number_at line 1) ∷ [] ≡ line
  rounds_fields ok word =
      let times = number_printed (part_at line 1) (part_kept has_number (slots_of keywords.Rounds) None line 0 Number ok.numbered (omega arith) refl) in
      (λ i. sym word i ∷ times i ∷ []) ∙ whole_line is_formed (slots_of keywords.Rounds) line some ok.formed

  module _ (e : Lines) (called : AllCalled e s.names) where
    pub post_fields : Passes s keywords.Post line → part_at line 0 ≡ word_of keywords.Post → codes "post" ∷ qp_name e (qp_named s (part_at line 1)) ∷ [] ≡ line
    post_fields ok word =
        let qp = name_printed e kinds.Qp (part_at line 1) s.names called (part_kept (is_known s) (slots_of keywords.Post) None line 0 Poster ok.known (omega arith) refl) in
        (λ i. sym word i ∷ qp i ∷ []) ∙ whole_line is_formed (slots_of keywords.Post) line some ok.formed

    pub recv_fields : Passes s keywords.Recv line → part_at line 0 ≡ word_of keywords.Recv → codes "recv" ∷ qp_name e (qp_named s (part_at line 1)) ∷ [] ≡ line
    recv_fields ok word =
        let qp = name_printed e kinds.Qp (part_at line 1) s.names called (part_kept (is_known s) (slots_of keywords.Recv) None line 0 Receiver ok.known (omega arith) refl) in
        (λ i. sym word i ∷ qp i ∷ []) ∙ whole_line is_formed (slots_of keywords.Recv) line some ok.formed

    pub poll_fields : Passes s keywords.Poll line → part_at line 0 ≡ word_of keywords.Poll → number_at line 2 ≤ 16 → codes "poll" ∷ cq_name e (cq_named s (part_at line 1)) ∷ decimal (small_at line 2) ∷ [] ≡ line
    poll_fields ok word low =
        let cq = name_printed e kinds.Cq (part_at line 1) s.names called (part_kept (is_known s) (slots_of keywords.Poll) None line 0 Poller ok.known (omega arith) refl) in
        let most = small_printed line 2 (omega (arith, low)) (part_kept has_number (slots_of keywords.Poll) None line 1 Number ok.numbered (omega arith) refl) in
        (λ i. sym word i ∷ cq i ∷ most i ∷ []) ∙ whole_line is_formed (slots_of keywords.Poll) line some ok.formed

    pub drain_fields : Passes s keywords.Drain line → part_at line 0 ≡ word_of keywords.Drain → number_at line 2 ≤ 65536 → codes "drain" ∷ cq_name e (cq_named s (part_at line 1)) ∷ decimal (small_at line 2) ∷ [] ≡ line
    drain_fields ok word low =
        let cq = name_printed e kinds.Cq (part_at line 1) s.names called (part_kept (is_known s) (slots_of keywords.Drain) None line 0 Poller ok.known (omega arith) refl) in
        let most = small_printed line 2 (omega (arith, low)) (part_kept has_number (slots_of keywords.Drain) None line 1 Number ok.numbered (omega arith) refl) in
        (λ i. sym word i ∷ cq i ∷ most i ∷ []) ∙ whole_line is_formed (slots_of keywords.Drain) line some ok.formed

-- a receive, and its entries
pub receive_fields_are : (most : ℕ) (line : Line) → IsTrue (all_keep is_formed (Number ∷ []) (Some Segment) (drop 1 line)) → IsTrue (all_keep has_number (Number ∷ []) (Some Segment) (drop 1 line))
    → part_at line 0 ≡ codes "+" → AllWithin (segment_bounds most 1 0 (segment_fields line)) → receive_fields (receive_in line) ≡ line
receive_fields_are most [] formed numbered word within = absurd (true≢false (sym formed))
receive_fields_are most (plus ∷ []) formed numbered word within = absurd (true≢false (sym formed))
receive_fields_are most (plus ∷ id ∷ rest) formed numbered word within =
    let number = and_parts (has_number Number id) (list_all (has_number Segment) rest) numbered in
    let form = and_parts (is_formed Number id) (list_all (is_formed Segment) rest) formed in
    let id_is = number_printed id number.0 in
    let rest_is = segments_printed most 1 0 rest form.1 number.1 within in
    λ i. sym word i ∷ id_is i ∷ rest_is i

-- a schedule, and its items
pub schedule_fields : (e : Lines) (s : Said) → AllCalled e s.names → (line : Line) → IsTrue (all_keep is_formed (Turns ∷ []) (Some Turns) (drop 1 line)) → IsTrue (all_keep has_number (Turns ∷ []) (Some Turns) (drop 1 line))
    → IsTrue (all_keep (is_known s) (Turns ∷ []) (Some Turns) (drop 1 line)) → part_at line 0 ≡ codes "schedule" → ((field : Field) → IsTrue (is_known s Turns field) → named s kinds.Actor (actor_part field) ≤ 255)
    → codes "schedule" ∷ map (item_text e) (map (plan_item s) (drop 1 line)) ≡ line
schedule_fields e s called [] formed numbered known word low = absurd (true≢false (sym formed))
schedule_fields e s called (schedule ∷ []) formed numbered known word low = absurd (true≢false (sym formed))
schedule_fields e s called (schedule ∷ f ∷ fs) formed numbered known word low =
    let items = all_printed (plan_item s) (item_text e) (λ x. is_formed Turns x && has_number Turns x && is_known s Turns x) one (f ∷ fs) (together (f ∷ fs) formed numbered known) in
    λ i. sym word i ∷ items i
  where
    one : (x : Field) → IsTrue (is_formed Turns x && has_number Turns x && is_known s Turns x) → item_text e (plan_item s x) ≡ x
    one x h =
        let last = and_parts (is_formed Turns x && has_number Turns x) (is_known s Turns x) h in
        let both = and_parts (is_formed Turns x) (has_number Turns x) last.0 in
        item_printed e s called x last.1 (low x last.1) both.0 both.1

    together : (xs : Line) → IsTrue (list_all (is_formed Turns) xs) → IsTrue (list_all (has_number Turns) xs) → IsTrue (list_all (is_known s Turns) xs)
        → IsTrue (list_all (λ x. is_formed Turns x && has_number Turns x && is_known s Turns x) xs)
    together [] a b c = refl
    together (x ∷ xs) a b c =
        let form = and_parts (is_formed Turns x) (list_all (is_formed Turns) xs) a in
        let number = and_parts (has_number Turns x) (list_all (has_number Turns) xs) b in
        let name = and_parts (is_known s Turns x) (list_all (is_known s Turns) xs) c in
        and_from _ _ (and_from _ _ (and_from _ _ form.0 number.0) name.0) (together xs form.1 number.1 name.1)
