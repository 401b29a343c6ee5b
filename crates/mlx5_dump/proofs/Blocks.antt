-- The answer to a block, from what its decoder said.
use Rattle.std.proofs.Common.{◌≡◌, ℕ, List, Option, sym, ap, ◌∙◌}
use Rattle.prm_fields.specs.Bits.{field_value}
use Rattle.prm_fields.specs.Refusal.{first_refusal}
use Rattle.prm_fields.specs.declared.layout.LayoutName.TheVariants.{BlockTail}
use Rattle.cmd_format.specs.Block.{block_rules, tail_of}
use Rattle.cmd_format.specs.declared.delivery.Delivery.{Delivery}
use Rattle.mlx5_dump.specs.Answer.{block_answer, delivery_words, fields_text, told}

pub told_block : (bytes whole tail : List ℕ) (token number : ℕ) (said : Option Delivery) → tail ≡ tail_of bytes → whole ≡ bytes
    → token ≡ field_value tail 488 8 → number ≡ field_value tail 448 32 → first_refusal (block_rules token number whole) ≡ said
    → told delivery_words (fields_text BlockTail tail) said ≡ block_answer bytes
told_block bytes whole tail token number said is_tail is_whole is_token is_number says =
    let own_token = is_token ∙ ap (λ t. field_value t 488 8) is_tail in
    let own_number = is_number ∙ ap (λ t. field_value t 448 32) is_tail in
    let read : first_refusal (block_rules token number whole) ≡ first_refusal (block_rules (field_value (tail_of bytes) 488 8) (field_value (tail_of bytes) 448 32) bytes) =
    ap (λ t. first_refusal (block_rules t number whole)) own_token
    ∙ ap (λ n. first_refusal (block_rules (field_value (tail_of bytes) 488 8) n whole)) own_number
    ∙ ap (λ w. first_refusal (block_rules (field_value (tail_of bytes) 488 8) (field_value (tail_of bytes) 448 32) w)) is_whole in
    ap (λ t. told delivery_words (fields_text BlockTail t) said) is_tail ∙ ap (told delivery_words (fields_text BlockTail (tail_of bytes))) (sym says ∙ read)
