-- The table of commands, and what an input of a known row is.
use Rattle.std.proofs.Common.{◌≡◌, ℕ, ◌≤◌, arith, Bool, true, false, cond, ◌==◌, List, [], ◌∷◌, Option, Some, None, length, refl, sym, ap, ◌∙◌, subst, ◌⊎◌, inl, inr, ⊎_elim, Result, Ok, Err, IfOk}
use Rattle.std.specs.List.{find}
use Rattle.std.proofs.lemmas.Bool.{eqb-true, eq-eqb, and_from, and_parts, and_right}
use Rattle.prm_fields.specs.Refusal.{first_refusal, RefusesBy}
use Rattle.cmd_bodies.specs.declared.kind.Kind.{Kind}
use Rattle.cmd_bodies.specs.declared.kind.Kind.TheVariants.{EnableHca, DisableHca, InitHca, TeardownHca, QueryBootPages, QueryInitPages, GivePages, ReturnPages, AllocPd, DeallocPd, AllocUar, DeallocUar, CreateMkey, DestroyMkey, CreateEq, DestroyEq, CreateCq, DestroyCq, ModifyCq, CreateSrq, DestroySrq, CreateQp, DestroyQp, RstToInit, InitToRtr, RtrToRts, ToErr}
use Rattle.cmd_bodies.specs.declared.command.Command.{Command}
use Rattle.cmd_bodies.specs.declared.decoder.BodyFault.{BodyFault}
use Rattle.cmd_bodies.specs.Kind.{command_row, kind_of_code, kinds}
use Rattle.cmd_bodies.proofs.Fits.{fits_with}
use Rattle.cmd_bodies.specs.Command.{FitsFields, IsInput, are_parameters_clear, is_head_clear, code_at, command_at, command_with, input_length, is_body_clear, kind_of, row_rules, between_at, number_at, parameters_at, output_length, output_length_of, second_at}

-- each row is found by its opcode and modifier
kind_of_code-code : (kind : Kind) → kind_of_code (command_row kind).code ≡ Some kind
unfolding kind_of_code
kind_of_code-code EnableHca = refl
kind_of_code-code DisableHca = refl
kind_of_code-code InitHca = refl
kind_of_code-code TeardownHca = refl
kind_of_code-code QueryBootPages = refl
kind_of_code-code QueryInitPages = refl
kind_of_code-code GivePages = refl
kind_of_code-code ReturnPages = refl
kind_of_code-code AllocPd = refl
kind_of_code-code DeallocPd = refl
kind_of_code-code AllocUar = refl
kind_of_code-code DeallocUar = refl
kind_of_code-code CreateMkey = refl
kind_of_code-code DestroyMkey = refl
kind_of_code-code CreateEq = refl
kind_of_code-code DestroyEq = refl
kind_of_code-code CreateCq = refl
kind_of_code-code DestroyCq = refl
kind_of_code-code ModifyCq = refl
kind_of_code-code CreateSrq = refl
kind_of_code-code DestroySrq = refl
kind_of_code-code CreateQp = refl
kind_of_code-code DestroyQp = refl
kind_of_code-code RstToInit = refl
kind_of_code-code InitToRtr = refl
kind_of_code-code RtrToRts = refl
kind_of_code-code ToErr = refl

-- no row has fewer than 16 bytes of input
pub shortest_row : (kind : Kind) (second : ℕ) → 16 ≤ input_length kind second
shortest_row EnableHca second = omega arith
shortest_row DisableHca second = omega arith
shortest_row InitHca second = omega arith
shortest_row TeardownHca second = omega arith
shortest_row QueryBootPages second = omega arith
shortest_row QueryInitPages second = omega arith
shortest_row GivePages second = omega arith
shortest_row ReturnPages second = omega arith
shortest_row AllocPd second = omega arith
shortest_row DeallocPd second = omega arith
shortest_row AllocUar second = omega arith
shortest_row DeallocUar second = omega arith
shortest_row CreateMkey second = omega arith
shortest_row DestroyMkey second = omega arith
shortest_row CreateEq second = omega arith
shortest_row DestroyEq second = omega arith
shortest_row CreateCq second = omega arith
shortest_row DestroyCq second = omega arith
shortest_row ModifyCq second = omega arith
shortest_row CreateSrq second = omega arith
shortest_row DestroySrq second = omega arith
shortest_row CreateQp second = omega arith
shortest_row DestroyQp second = omega arith
shortest_row RstToInit second = omega arith
shortest_row InitToRtr second = omega arith
shortest_row RtrToRts second = omega arith
shortest_row ToErr second = omega arith

kind_of-command_with : (kind : Kind) (number second : ℕ) (parameters : List ℕ) → kind_of (command_with kind number second parameters) ≡ kind
kind_of-command_with EnableHca number second parameters = refl
kind_of-command_with DisableHca number second parameters = refl
kind_of-command_with InitHca number second parameters = refl
kind_of-command_with TeardownHca number second parameters = refl
kind_of-command_with QueryBootPages number second parameters = refl
kind_of-command_with QueryInitPages number second parameters = refl
kind_of-command_with GivePages number second parameters = refl
kind_of-command_with ReturnPages number second parameters = refl
kind_of-command_with AllocPd number second parameters = refl
kind_of-command_with DeallocPd number second parameters = refl
kind_of-command_with AllocUar number second parameters = refl
kind_of-command_with DeallocUar number second parameters = refl
kind_of-command_with CreateMkey number second parameters = refl
kind_of-command_with DestroyMkey number second parameters = refl
kind_of-command_with CreateEq number second parameters = refl
kind_of-command_with DestroyEq number second parameters = refl
kind_of-command_with CreateCq number second parameters = refl
kind_of-command_with DestroyCq number second parameters = refl
kind_of-command_with ModifyCq number second parameters = refl
kind_of-command_with CreateSrq number second parameters = refl
kind_of-command_with DestroySrq number second parameters = refl
kind_of-command_with CreateQp number second parameters = refl
kind_of-command_with DestroyQp number second parameters = refl
kind_of-command_with RstToInit number second parameters = refl
kind_of-command_with InitToRtr number second parameters = refl
kind_of-command_with RtrToRts number second parameters = refl
kind_of-command_with ToErr number second parameters = refl

output_length-command_with : (kind : Kind) (number second : ℕ) (parameters : List ℕ) → output_length_of (command_with kind number second parameters) ≡ output_length kind second
output_length-command_with EnableHca number second parameters = refl
output_length-command_with DisableHca number second parameters = refl
output_length-command_with InitHca number second parameters = refl
output_length-command_with TeardownHca number second parameters = refl
output_length-command_with QueryBootPages number second parameters = refl
output_length-command_with QueryInitPages number second parameters = refl
output_length-command_with GivePages number second parameters = refl
output_length-command_with ReturnPages number second parameters = refl
output_length-command_with AllocPd number second parameters = refl
output_length-command_with DeallocPd number second parameters = refl
output_length-command_with AllocUar number second parameters = refl
output_length-command_with DeallocUar number second parameters = refl
output_length-command_with CreateMkey number second parameters = refl
output_length-command_with DestroyMkey number second parameters = refl
output_length-command_with CreateEq number second parameters = refl
output_length-command_with DestroyEq number second parameters = refl
output_length-command_with CreateCq number second parameters = refl
output_length-command_with DestroyCq number second parameters = refl
output_length-command_with ModifyCq number second parameters = refl
output_length-command_with CreateSrq number second parameters = refl
output_length-command_with DestroySrq number second parameters = refl
output_length-command_with CreateQp number second parameters = refl
output_length-command_with DestroyQp number second parameters = refl
output_length-command_with RstToInit number second parameters = refl
output_length-command_with InitToRtr number second parameters = refl
output_length-command_with RtrToRts number second parameters = refl
output_length-command_with ToErr number second parameters = refl

-- a rule that holds, before others
kept_rule : {Fault : Type 0} (holds : Bool) (rest : Option Fault) (fault : Fault) → cond holds rest (Some fault) ≡ None → (holds ≡ true) × (rest ≡ None)
kept_rule true rest fault kept = (refl, kept)
kept_rule false rest fault kept = cc

found_first : {X : Type 0} (passes : Bool) (y x : X) (rest : Option X) → cond passes (Some y) rest ≡ Some x → ((passes ≡ true) × (y ≡ x)) ⊎ (rest ≡ Some x)
found_first true y x rest found = inl (refl, cc)
found_first false y x rest found = inr found

chosen_first : {X : Type 0} (clear : Bool) (x y : X) → Some x ≡ cond clear (Some y) None → (clear ≡ true) × (x ≡ y)
chosen_first true x y chosen = (refl, cc)
chosen_first false x y chosen = cc

none_first : {X : Type 0} (clear : Bool) (y : X) → None ≡ cond clear (Some y) None → clear ≡ false
none_first true y chosen = cc
none_first false y chosen = refl

-- what is found passes the test
find_passes : {X : Type 0} (test : X → Bool) (xs : List X) (x : X) → find test xs ≡ Some x → test x ≡ true
find_passes test [] x found = cc
find_passes {X} test (y ∷ ys) x found =
    ⊎_elim
    (λ here. subst (λ (z : X). test z ≡ true) here.1 here.0)
    (λ later. find_passes test ys x later)
    (found_first (test y) y x (find test ys) found)

code_from_kind : (code : ℕ) (kind : Kind) → kind_of_code code ≡ Some kind → (command_row kind).code ≡ code
unfolding kind_of_code
code_from_kind code kind known = eqb-true _ _ (find_passes (λ k. (command_row k).code == code) kinds kind known)

-- an input without a row is no command's
pub never_without_row : (input : List ℕ) → kind_of_code (code_at input) ≡ None → (c : Command) → IsInput c input → ⊥
never_without_row input unknown c is =
    let known : kind_of_code (code_at input) ≡ Some (kind_of c) = ap kind_of_code is.code ∙ kind_of_code-code (kind_of c) in
    let both : None ≡ Some (kind_of c) = sym unknown ∙ known in
    cc

-- an input whose opcode and modifier have a row
module _ (input : List ℕ) (out_len : ℕ) (kind : Kind) (known : kind_of_code (code_at input) ≡ Some kind) where
  same_kind : (c : Command) → IsInput c input → kind_of c ≡ kind
  same_kind c is =
      let again : Some (kind_of c) ≡ Some kind = sym (kind_of_code-code (kind_of c)) ∙ sym (ap kind_of_code is.code) ∙ known in
      cc

  reads_once : (c : Command) → IsInput c input → command_at kind input ≡ c
  reads_once c is = ap (λ k. command_at k input) (sym (same_kind c is)) ∙ is.reads

  pub input_from_rules : first_refusal (row_rules (Some kind) input out_len) ≡ None → IsInput (command_at kind input) input × (out_len ≡ output_length_of (command_at kind input))
  input_from_rules kept =
      let long = kept_rule (length input == input_length kind (second_at input)) _ _ kept in
      let wanted = kept_rule (out_len == output_length kind (second_at input)) _ _ long.1 in
      let clear = kept_rule (is_body_clear kind input) _ _ wanted.1 in
      let same = kind_of-command_with kind (number_at input) (second_at input) (parameters_at input) in (
        record {
          long = rw same (eqb-true _ _ long.0);
          code = rw same (sym (code_from_kind (code_at input) kind known));
          clear = rw same clear.0;
          reads = rw same refl;
        },
        eqb-true _ _ wanted.0 ∙ sym (output_length-command_with kind (number_at input) (second_at input) (parameters_at input)),
      )

  pub rules_from_input : (c : Command) → IsInput c input → out_len ≡ output_length_of c → first_refusal (row_rules (Some kind) input out_len) ≡ None
  rules_from_input c is wanted =
      let same = same_kind c is in
      let long : (length input == input_length kind (second_at input)) ≡ true = eq-eqb _ _ (is.long ∙ ap (λ k. input_length k (second_at input)) same) in
      let output : (out_len == output_length kind (second_at input)) ≡ true =
      eq-eqb _ _ (wanted ∙ ap output_length_of (sym (reads_once c is)) ∙ output_length-command_with kind (number_at input) (second_at input) (parameters_at input)) in
      let clear : is_body_clear kind input ≡ true = ap (λ k. is_body_clear k input) (sym same) ∙ is.clear in
      rw (long, output, clear) refl

  pub only_one : (result : Result Command BodyFault) → IfOk result (λ c. c ≡ command_at kind input) → RefusesBy result (row_rules (Some kind) input out_len)
      → (c : Command) → IsInput c input → out_len ≡ output_length_of c → result ≡ Ok c
  only_one (Ok v) value refused c is wanted = ap Ok (value ∙ reads_once c is)
  only_one (Err fault) value refused c is wanted =
      let kept = rules_from_input c is wanted in
      cc

  pub found_one : (result : Result Command BodyFault) → IfOk result (λ c. c ≡ command_at kind input) → RefusesBy result (row_rules (Some kind) input out_len) → IfOk result (λ c. IsInput c input)
  found_one (Ok v) value refused = subst (λ (c : Command). IsInput c input) (sym value) (input_from_rules refused).0
  found_one (Err fault) value refused = tt

  pub fits_one : (result : Result Command BodyFault) → IfOk result (λ c. c ≡ command_at kind input) → RefusesBy result (row_rules (Some kind) input out_len) → IfOk result FitsFields
  fits_one (Ok v) value refused =
      let is = (input_from_rules refused).0 in
      let clear = ap (λ k. is_body_clear k input) (sym (same_kind (command_at kind input) is)) ∙ is.clear in
      let parameters = (and_parts _ _ clear).1 in
      subst FitsFields (sym value) (fits_with kind (number_at input) (second_at input) (parameters_at input) parameters)
  fits_one (Err fault) value refused = tt

  pub output_one : (result : Result Command BodyFault) → IfOk result (λ c. c ≡ command_at kind input) → RefusesBy result (row_rules (Some kind) input out_len) → IfOk result (λ c. out_len ≡ output_length_of c)
  output_one (Ok v) value refused = subst (λ (c : Command). out_len ≡ output_length_of c) (sym value) (input_from_rules refused).1
  output_one (Err fault) value refused = tt

-- what reading the head and the parameters has told, at the places of the input
module _ (kind : Kind) (input parameters : List ℕ) (between number second : ℕ)
    (is_between : between ≡ between_at input) (is_number : number ≡ number_at input) (is_second : second ≡ second_at input)
    (is_parameters : parameters ≡ parameters_at input) (head_clear : is_head_clear kind between number second ≡ true) where
  head_read : is_head_clear kind (between_at input) (number_at input) (second_at input) ≡ true
  head_read = rw (← is_between, ← is_number, ← is_second) head_clear

  pub command_read : (c : Command) → Some c ≡ cond (are_parameters_clear kind second parameters) (Some (command_with kind number second parameters)) None
      → (is_body_clear kind input ≡ true) × (c ≡ command_at kind input)
  command_read c chosen =
      let told = rw (is_number, is_second, is_parameters) at chosen in
      let parts = chosen_first (are_parameters_clear kind (second_at input) (parameters_at input)) c (command_at kind input) told in
      (and_from _ _ head_read parts.0, parts.1)

  pub none_read : None ≡ cond (are_parameters_clear kind second parameters) (Some (command_with kind number second parameters)) None → is_body_clear kind input ≡ false
  none_read chosen =
      let told = rw (is_number, is_second, is_parameters) at chosen in
      and_right _ _ (none_first (are_parameters_clear kind (second_at input) (parameters_at input)) (command_at kind input) told)
