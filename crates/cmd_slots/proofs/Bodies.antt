-- The body of a question: its input, and the command in it.
use Rattle.std.proofs.Common.{◌≡◌, ℕ, ◌≤◌, refl, ap, sym, ◌∙◌, arith, List, [], ◌++◌, length, take, drop, Some, None, Result, Ok, Err, length-append}
use Rattle.std.proofs.lemmas.List.{take-append-le, take_at, append-nil}
use Rattle.std.proofs.Math.ListN.{drop_of_length-le, length-drop}
use Rattle.prm_fields.specs.Refusal.{first_refusal}
use Rattle.cmd_bodies.specs.declared.command.Command.{Command}
use Rattle.cmd_bodies.specs.declared.decoder.BodyFault.{BodyFault}
use Rattle.cmd_bodies.specs.Fault.{body_status}
use Rattle.cmd_bodies.specs.Kind.{kind_of_code}
use Rattle.cmd_bodies.specs.Command.{IsInput, body_rules, code_at, command_at, output_length_of}
use Rattle.cmd_bodies.proofs.Table.{never_without_row, rules_from_input, only_one}
use Rattle.cmd_slots.specs.declared.answer.Answer.TheVariants.{Delivered}
use Rattle.cmd_slots.specs.Refusal.{refusal_with}
use Rattle.cmd_slots.specs.Question.{body_of, body_with}

-- input that ends in the first block, and in the second
module _ (count : ℕ) (head first second zeros one two : List ℕ) (head_long : length head ≡ 16) (first_long : length first ≡ 512) (zeros_long : length zeros ≡ 1040)
    (head_is : take 16 zeros ≡ head) (one_is : one ≡ take 16 zeros ++ first ++ drop 528 zeros) where
  one_read : one ≡ head ++ first ++ drop 528 zeros
  one_read = one_is ∙ ap (λ h. h ++ first ++ drop 528 zeros) head_is

  front_long : length (head ++ first) ≡ 528
  front_long = length-append head first ∙ omega (arith, head_long, first_long)

  pub input_one : count ≤ 528 → take count one ≡ take count (head ++ first ++ second)
  input_one few =
      let within : count ≤ length (head ++ first) = omega (arith, front_long, few) in
      ap (take count) one_read ∙ take-append-le count (head ++ first) (drop 528 zeros) within ∙ sym (take-append-le count (head ++ first) second within)

  pub input_two : two ≡ take 528 one ++ second ++ drop 1040 one → take count two ≡ take count (head ++ first ++ second)
  input_two two_is =
      let front : take 528 one ≡ head ++ first = ap (take 528) one_read ∙ take_at (head ++ first) (drop 528 zeros) 528 front_long in
      let long : length one ≡ 1040 = ap length one_read ∙ length-append (head ++ first) (drop 528 zeros) ∙ omega (arith, front_long, length-drop 528 zeros, zeros_long) in
      let within : length one ≤ 1040 = omega (arith, long) in
      let none : drop 1040 one ≡ [] = drop_of_length-le one within in
      ap (take count) (two_is ∙ (ap (λ f. f ++ second ++ drop 1040 one) front ∙ (ap (λ r. head ++ first ++ second ++ r) none ∙ append-nil (head ++ first ++ second))))

same_command : (c d : Command) → ◌≡◌ {A = Result Command BodyFault} (Ok c) (Ok d) → c ≡ d
same_command c d same = cc

-- a body that keeps its rules is the command that the input spells
pub body_read : (input : List ℕ) (out_len : ℕ) (c : Command) → IsInput c input → out_len ≡ output_length_of c → first_refusal (body_rules input out_len) ≡ None → body_of input out_len ≡ Ok c
unfolding body_of
body_read input out_len c is wanted kept =
    ap (λ r. body_with (λ row. command_at row input) r (kind_of_code (code_at input))) kept
    ∙ (elim (kind_of_code (code_at input)) as (λ k. kind_of_code (code_at input) ≡ k → body_with (λ row. command_at row input) None k ≡ Ok c) [
      | None ↦ λ unknown. absurd (never_without_row input unknown c is)
      | Some kind ↦ λ known. ap Ok (same_command (command_at kind input) c (only_one input out_len kind known (Ok (command_at kind input)) refl (rules_from_input input out_len kind known c is wanted) c is wanted))
    ]) refl

-- and one that breaks a rule is refused
pub body_refused : (input : List ℕ) (out_len : ℕ) (fault : BodyFault) → first_refusal (body_rules input out_len) ≡ Some fault → body_of input out_len ≡ Err (Delivered (refusal_with (body_status fault)))
unfolding body_of
body_refused input out_len fault broken = ap (λ r. body_with (λ row. command_at row input) r (kind_of_code (code_at input))) broken
