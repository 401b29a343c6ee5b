use Rattle.std.proofs.Common.{◌≡◌, ◌≤◌, ◌∙◌, ◌+◌, ◌*◌, ◌-◌, ap, sym, subst, length, take, drop, replicate, arith, List, ℕ}
use Rattle.std.proofs.lemmas.List.{take-take, drop-take, length-take-le, length-replicate}
use Rattle.std.proofs.Math.ListN.{length-drop}
use Rattle.cmd_format.specs.declared.entry.CmdEntry.{CmdEntry}
use Rattle.cmd_format.specs.Entry.{IsEntry}
use Rattle.cmd_format.specs.Block.{blocks_of}
use Rattle.cmd_bodies.specs.Command.{IsInput, input_length_of, output_length_of}
use Rattle.cmd_slots.specs.Bytes.{bytes_of}
use Rattle.cmd_slots.specs.Blocks.{HasBlockWords}
use Rattle.cmd_slots.specs.Asking.{asked_token, addresses_from, asked_entry}
use Rattle.cmd_slots.specs.Question.{IsQuestion}
use Rattle.cmd_slots.proofs.Ranges.{take_kept}
use Rattle.cmd_slots.proofs.AskedWords.{is_question, lengths_of, HasBlockWords_kept}
use Rattle.cmd_slots.proofs.asking.ask.Goals as goal

pub returns-clause-asked : goal.returns-clause-asked
returns-clause-asked c =
    let slot : ℕ = c.args.slot in
    let bytes : List ℕ = c.encode-in_len.new.to in
    let in_long : ℕ = c.encode-in_len.result in
    let out_long : ℕ = c.output_length-out_len.result in
    let input : List ℕ = take in_long bytes in
    let rest : List ℕ = take (in_long - 16) (drop 16 bytes) in
    let zeros : List ℕ = take c.saturating_sub.result (replicate 704 0) in
    let first : List ℕ = c.put_entry.new.words in
    let second : List ℕ = c.put_blocks-inputs.new.words in
    let words : List ℕ = c.put_blocks-outputs.new.words in
    let lengths = lengths_of c.args.c.now c.requires.fits in
    let in_is : in_long ≡ input_length_of c.args.c.now = c.encode-in_len.ensures.length in
    let out_is : out_long ≡ output_length_of c.args.c.now = c.output_length-out_len.ensures in
    let least : 16 ≤ in_long = omega (arith, in_is, lengths.in_least) in
    let inside : in_long ≤ length bytes = omega (arith, in_is, lengths.in_most, c.encode-in_len.array_long) in
    let rest_long : length rest ≡ in_long - 16 = length-take-le (in_long - 16) (drop 16 bytes) (omega (arith, length-drop 16 bytes, inside)) in
    let zeros_long : length zeros ≡ out_long - 16 = length-take-le c.saturating_sub.result (replicate 704 0) (omega (arith, length-replicate {A = ℕ} 704 0, c.saturating_sub.ensures, out_is, lengths.out_most)) ∙ c.saturating_sub.ensures in
    let in_count : c.put_blocks-inputs.result ≡ blocks_of (length rest) = c.put_blocks-inputs.ensures.count in
    let out_count : c.put_blocks-outputs.result ≡ blocks_of (length zeros) = c.put_blocks-outputs.ensures.count in
    let behind : ℕ = 8 + 72 * blocks_of (length rest) in
    let kept : take behind words ≡ take behind second = subst (λ (n : ℕ). take (8 + 72 * n) words ≡ take (8 + 72 * n) second) in_count c.put_blocks-outputs.ensures.before in
    let entry_words : take 8 words ≡ take 8 first = take_kept words second behind 8 kept (omega arith) ∙ c.put_blocks-inputs.ensures.before in
    let is_entry : IsEntry (asked_entry slot (take 16 input) in_long out_long) (bytes_of (take 8 words)) =
    subst (λ (ws : List ℕ). IsEntry (asked_entry slot (take 16 input) in_long out_long) (bytes_of ws)) (sym entry_words)
    (subst (λ (h : List ℕ). IsEntry (asked_entry slot h in_long out_long) (bytes_of (take 8 first))) (sym (take-take 16 in_long bytes least))
    (subst (λ (e : CmdEntry). IsEntry e (bytes_of (take 8 first))) c.asked_entry.ensures c.put_entry.ensures)) in
    let in_written : HasBlockWords rest asked_token (addresses_from slot 0) 8 second = subst (λ (a : List ℕ). HasBlockWords rest asked_token a 8 second) c.addresses_from.ensures c.put_blocks-inputs.ensures.written in
    let in_there : HasBlockWords rest asked_token (addresses_from slot 0) 8 words = HasBlockWords_kept rest (addresses_from slot 0) asked_token 8 behind second words kept (omega arith) in_written in
    let out_written : HasBlockWords zeros asked_token (addresses_from slot 2) (8 + 72 * c.put_blocks-inputs.result) words = subst (λ (a : List ℕ). HasBlockWords zeros asked_token a (8 + 72 * c.put_blocks-inputs.result) words) c.addresses_from-2.ensures c.put_blocks-outputs.ensures.written in
    let out_there : HasBlockWords zeros asked_token (addresses_from slot 2) behind words = subst (λ (n : ℕ). HasBlockWords zeros asked_token (addresses_from slot 2) (8 + 72 * n) words) in_count out_written in
    let is_input : IsInput c.args.c.now input = c.encode-in_len.ensures.spelled in
    let split : 16 + (in_long - 16) ≡ in_long = omega arith in
    let rest_is : rest ≡ drop 16 input = sym (ap (λ n. drop 16 (take n bytes)) (sym split) ∙ drop-take 16 (in_long - 16) bytes) in
    let input_long : length input ≡ in_long = length-take-le in_long bytes inside in
    let long : length words ≡ 296 = omega (arith, c.put_blocks-outputs.auto.words, c.put_blocks-inputs.auto.words, c.put_entry.auto.words, c.told-words) in
    let room : 8 + 72 * (blocks_of (length rest) + blocks_of (length zeros)) ≤ length words = omega (arith, long, rest_long, zeros_long, in_is, out_is, lengths.in_most, lengths.out_most) in
    let question = is_question slot c.args.c.now words input rest zeros in_long out_long is_entry in_there out_there is_input input_long rest_is in_is out_is zeros_long lengths room in
    let in_same : blocks_of (length rest) ≡ c.put_blocks-inputs.result = sym in_count in
    let out_same : blocks_of (length zeros) ≡ c.put_blocks-outputs.result = sym out_count in
    subst (λ (n : ℕ). IsQuestion slot c.args.c.now (take (8 + 72 * (c.put_blocks-inputs.result + n)) words)) out_same
    (subst (λ (n : ℕ). IsQuestion slot c.args.c.now (take (8 + 72 * (n + blocks_of (length zeros))) words)) in_same question)
