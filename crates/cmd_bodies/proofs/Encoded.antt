-- The bytes that a command's input was written into are that input.
use Rattle.std.proofs.Common.{◌≡◌, ℕ, ◌+◌, ◌*◌, ◌/◌, ◌%◌, ◌≤◌, true, cond, List, length, take, drop, slice_index, refl, sym, ap, ◌∙◌, inl, ⊎_elim, arith}
use Rattle.std.proofs.lemmas.Bool.{and_from, cases_lt, le-leb, lt-ltb, le-ltb}
use Rattle.std.proofs.lemmas.List.{length-take-le}
use Rattle.std.proofs.lemmas.Slice.{between_is}
use Rattle.prm_fields.specs.Bits.{field_value, KeepsOtherBits}
use Rattle.prm_fields.proofs.Parts.{field_value-drop, field_value-take, kept_field}
use Rattle.cmd_bodies.specs.declared.command.PageUse.TheVariants.{Boot, Init}
use Rattle.cmd_bodies.specs.declared.command.PageList.{PageList}
use Rattle.cmd_bodies.specs.declared.command.Command.{Command}
use Rattle.cmd_bodies.specs.declared.command.Command.TheVariants.{EnableHca, DisableHca, InitHca, TeardownHca, QueryPages, GivePages, ReturnPages, AllocPd, DeallocPd, AllocUar, DeallocUar, CreateMkey, DestroyMkey, CreateEq, DestroyEq, CreateCq, DestroyCq, ModifyCq, CreateSrq, DestroySrq, CreateQp, DestroyQp, RstToInit, InitToRtr, RtrToRts, ToErr}
use Rattle.cmd_bodies.specs.Kind.{command_row}
use Rattle.cmd_bodies.specs.Command.{FitsFields, FitsPages, IsInput, are_parameters_clear, command_with, input_length, input_length_of, is_head_clear, kind_of, number_of, page_list_at, second_of}
use Rattle.cmd_bodies.specs.Encoding.{HasHead, HasPages, HasParameters}
use Rattle.cmd_bodies.proofs.Table.{shortest_row}
use Rattle.cmd_bodies.proofs.Words.{word_at, words_all}

head_clear_of : (c : Command) → is_head_clear (kind_of c) 0 (number_of c) (second_of c) ≡ true
head_clear_of EnableHca = refl
head_clear_of DisableHca = refl
head_clear_of InitHca = refl
head_clear_of TeardownHca = refl
head_clear_of (QueryPages Boot) = refl
head_clear_of (QueryPages Init) = refl
head_clear_of (GivePages list) = refl
head_clear_of (ReturnPages count) = refl
head_clear_of AllocPd = refl
head_clear_of (DeallocPd pd) = refl
head_clear_of AllocUar = refl
head_clear_of (DeallocUar page) = refl
head_clear_of (CreateMkey context) = refl
head_clear_of (DestroyMkey key) = refl
head_clear_of (CreateEq context) = refl
head_clear_of (DestroyEq eq) = refl
head_clear_of (CreateCq context) = refl
head_clear_of (DestroyCq cq) = refl
head_clear_of (ModifyCq cq area context) = refl
head_clear_of (CreateSrq context) = refl
head_clear_of (DestroySrq srq) = refl
head_clear_of (CreateQp context) = refl
head_clear_of (DestroyQp qp) = refl
head_clear_of (RstToInit qp) = refl
head_clear_of (InitToRtr qp peer) = refl
head_clear_of (RtrToRts qp) = refl
head_clear_of (ToErr qp) = refl

longest : (c : Command) → FitsFields c → input_length_of c ≤ 1040
longest EnableHca fits = omega arith
longest DisableHca fits = omega arith
longest InitHca fits = omega arith
longest TeardownHca fits = omega arith
longest (QueryPages Boot) fits = omega arith
longest (QueryPages Init) fits = omega arith
longest (GivePages list) fits = let few = fits.count in omega (arith, few)
longest (ReturnPages count) fits = omega arith
longest AllocPd fits = omega arith
longest (DeallocPd pd) fits = omega arith
longest AllocUar fits = omega arith
longest (DeallocUar page) fits = omega arith
longest (CreateMkey context) fits = omega arith
longest (DestroyMkey key) fits = omega arith
longest (CreateEq context) fits = omega arith
longest (DestroyEq eq) fits = omega arith
longest (CreateCq context) fits = omega arith
longest (DestroyCq cq) fits = omega arith
longest (ModifyCq cq area context) fits = omega arith
longest (CreateSrq context) fits = omega arith
longest (DestroySrq srq) fits = omega arith
longest (CreateQp context) fits = omega arith
longest (DestroyQp qp) fits = omega arith
longest (RstToInit qp) fits = omega arith
longest (InitToRtr qp peer) fits = omega arith
longest (RtrToRts qp) fits = omega arith
longest (ToErr qp) fits = omega arith

-- the words of a list of pages behind the first 16 bytes
page_read : (list : PageList) (bytes : List ℕ) → FitsPages list → HasPages list.count list.pages bytes → (j : ℕ) → slice_index list.pages j ≡ word_at (drop 16 (take (16 + 8 * list.count) bytes)) list.count j
page_read list bytes fits has j =
    let n = 16 + 8 * list.count in
    ⊎_elim
    (λ low.
    let there : field_value (drop 16 (take n bytes)) (64 * j) 64 ≡ slice_index list.pages j =
    field_value-drop (take n bytes) 16 (64 * j) 64 ∙ field_value-take bytes n (128 + 64 * j) 64 (omega arith) ∙ has.words j low in
    sym (ap (λ b. cond b (field_value (drop 16 (take n bytes)) (64 * j) 64) 0) (lt-ltb j list.count low) ∙ there))
    (λ past. fits.rest j past ∙ sym (ap (λ b. cond b (field_value (drop 16 (take n bytes)) (64 * j) 64) 0) (le-ltb j list.count past)))
    (cases_lt j list.count)

pages_read : (list : PageList) (bytes : List ℕ) → FitsPages list → HasPages list.count list.pages bytes → page_list_at list.count (drop 16 (take (16 + 8 * list.count) bytes)) ≡ list
pages_read list bytes fits has =
    rw (← words_all (drop 16 (take (16 + 8 * list.count) bytes)) list.pages list.count has.long (page_read list bytes fits has)) refl

parameters_clear_of : (c : Command) (bytes : List ℕ) → FitsFields c → HasParameters c bytes → are_parameters_clear (kind_of c) (second_of c) (drop 16 (take (input_length_of c) bytes)) ≡ true
parameters_clear_of EnableHca bytes fits has = refl
parameters_clear_of DisableHca bytes fits has = refl
parameters_clear_of InitHca bytes fits has = refl
parameters_clear_of TeardownHca bytes fits has = refl
parameters_clear_of (QueryPages Boot) bytes fits has = refl
parameters_clear_of (QueryPages Init) bytes fits has = refl
parameters_clear_of (GivePages list) bytes fits has = le-leb list.count 88 fits.count
parameters_clear_of (ReturnPages count) bytes fits has = le-leb count 88 fits
parameters_clear_of AllocPd bytes fits has = refl
parameters_clear_of (DeallocPd pd) bytes fits has = refl
parameters_clear_of AllocUar bytes fits has = refl
parameters_clear_of (DeallocUar page) bytes fits has = refl
parameters_clear_of (CreateMkey context) bytes fits has = rw (← between_is bytes 16 80) has.clear
parameters_clear_of (DestroyMkey key) bytes fits has = refl
parameters_clear_of (CreateEq context) bytes fits has = rw (← between_is bytes 16 48) has.clear
parameters_clear_of (DestroyEq eq) bytes fits has = refl
parameters_clear_of (CreateCq context) bytes fits has = rw (← between_is bytes 16 80) has.clear
parameters_clear_of (DestroyCq cq) bytes fits has = refl
parameters_clear_of (ModifyCq cq area context) bytes fits has = rw (← between_is bytes 16 80) has.clear
parameters_clear_of (CreateSrq context) bytes fits has = rw (← between_is bytes 16 48) has.clear
parameters_clear_of (DestroySrq srq) bytes fits has = refl
parameters_clear_of (CreateQp context) bytes fits has = rw (← between_is bytes 16 80) has.clear
parameters_clear_of (DestroyQp qp) bytes fits has = refl
parameters_clear_of (RstToInit qp) bytes fits has = refl
parameters_clear_of (InitToRtr qp peer) bytes fits has = refl
parameters_clear_of (RtrToRts qp) bytes fits has = refl
parameters_clear_of (ToErr qp) bytes fits has = refl

reads_of : (c : Command) (bytes : List ℕ) → FitsFields c → HasParameters c bytes → command_with (kind_of c) (number_of c) (second_of c) (drop 16 (take (input_length_of c) bytes)) ≡ c
reads_of EnableHca bytes fits has = refl
reads_of DisableHca bytes fits has = refl
reads_of InitHca bytes fits has = refl
reads_of TeardownHca bytes fits has = refl
reads_of (QueryPages Boot) bytes fits has = refl
reads_of (QueryPages Init) bytes fits has = refl
reads_of (GivePages list) bytes fits has = ap GivePages (pages_read list bytes fits has)
reads_of (ReturnPages count) bytes fits has = refl
reads_of AllocPd bytes fits has = refl
reads_of (DeallocPd pd) bytes fits has = refl
reads_of AllocUar bytes fits has = refl
reads_of (DeallocUar page) bytes fits has = refl
reads_of (CreateMkey context) bytes fits has = ap CreateMkey (rw (← between_is bytes 16 80) has.reads)
reads_of (DestroyMkey key) bytes fits has = refl
reads_of (CreateEq context) bytes fits has = ap CreateEq (rw (← between_is bytes 16 48) has.reads)
reads_of (DestroyEq eq) bytes fits has = refl
reads_of (CreateCq context) bytes fits has = ap CreateCq (rw (← between_is bytes 16 80) has.reads)
reads_of (DestroyCq cq) bytes fits has = refl
reads_of (ModifyCq cq area context) bytes fits has = ap (ModifyCq cq area) (rw (← between_is bytes 16 80) has.reads)
reads_of (CreateSrq context) bytes fits has = ap CreateSrq (rw (← between_is bytes 16 48) has.reads)
reads_of (DestroySrq srq) bytes fits has = refl
reads_of (CreateQp context) bytes fits has = ap CreateQp (rw (← between_is bytes 16 80) has.reads)
reads_of (DestroyQp qp) bytes fits has = refl
reads_of (RstToInit qp) bytes fits has = refl
reads_of (InitToRtr qp peer) bytes fits has = refl
reads_of (RtrToRts qp) bytes fits has = refl
reads_of (ToErr qp) bytes fits has = refl

pub head_kept : (code number second width : ℕ) (old new : List ℕ) → HasHead code number second old → KeepsOtherBits old new 128 width → HasHead code number second new
head_kept code number second width old new head kept = record {
  opcode = kept_field old new 0 16 128 width kept (inl (omega arith)) ∙ head.opcode;
  between = kept_field old new 16 32 128 width kept (inl (omega arith)) ∙ head.between;
  modifier = kept_field old new 48 16 128 width kept (inl (omega arith)) ∙ head.modifier;
  number_there = kept_field old new 64 32 128 width kept (inl (omega arith)) ∙ head.number_there;
  second_there = kept_field old new 96 32 128 width kept (inl (omega arith)) ∙ head.second_there;
}

head_taken : (code number second n : ℕ) (bytes : List ℕ) → 16 ≤ n → HasHead code number second bytes → HasHead code number second (take n bytes)
head_taken code number second n bytes long head = record {
  opcode = field_value-take bytes n 0 16 (omega arith) ∙ head.opcode;
  between = field_value-take bytes n 16 32 (omega arith) ∙ head.between;
  modifier = field_value-take bytes n 48 16 (omega arith) ∙ head.modifier;
  number_there = field_value-take bytes n 64 32 (omega arith) ∙ head.number_there;
  second_there = field_value-take bytes n 96 32 (omega arith) ∙ head.second_there;
}

pub encoded : (c : Command) (bytes : List ℕ) → length bytes ≡ 1040 → FitsFields c
    → HasHead (command_row (kind_of c)).code (number_of c) (second_of c) bytes → HasParameters c bytes
    → IsInput c (take (input_length_of c) bytes)
encoded c bytes whole fits head has =
    let n = input_length_of c in
    let input = take n bytes in
    let there = head_taken (command_row (kind_of c)).code (number_of c) (second_of c) n bytes (shortest_row (kind_of c) (second_of c)) head in
    let room : n ≤ length bytes = omega (arith, longest c fits, whole) in
    let same_code : (command_row (kind_of c)).code / 65536 * 65536 + (command_row (kind_of c)).code % 65536 ≡ (command_row (kind_of c)).code = omega arith in
    record {
      long = length-take-le n bytes room ∙ ap (input_length (kind_of c)) (sym there.second_there);
      code = rw (there.opcode, there.modifier) same_code;
      clear = rw (there.between, there.number_there, there.second_there) (and_from _ _ (head_clear_of c) (parameters_clear_of c bytes fits has));
      reads = rw (there.number_there, there.second_there) (reads_of c bytes fits has);
    }
