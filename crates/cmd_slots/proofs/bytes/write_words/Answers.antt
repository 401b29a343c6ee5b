use Rattle.std.proofs.Common.{◌≡◌, ◌+◌, ◌-◌, ◌*◌, ◌∙◌, ap, sym, arith, length, take, ◌++◌, get_or}
use Rattle.std.specs.Int.{w64, to_be_bytes}
use Rattle.std.proofs.lemmas.Slice.{take-put_mid}
use Rattle.cmd_slots.specs.Bytes.{bytes_of}
use Rattle.cmd_slots.proofs.Spelling.{bytes_of-nil, bytes_of-more}
use Rattle.cmd_slots.proofs.bytes.write_words.Goals as goal

pub loop-k-init : goal.loop-k-init
loop-k-init c = sym bytes_of-nil

pub loop-k-preserved : goal.loop-k-preserved
loop-k-preserved c =
    let k = c.loop-k.k in
    let words = c.args.words.now in
    let copied : c.copy_from_slice.new.self ≡ to_be_bytes w64 (get_or words k 0) = c.copy_from_slice.ensures.after ∙ c.to_be_bytes.ensures in
    take-put_mid (8 * k) (8 * k + 8 - 8 * k) c.loop-k.bytes c.copy_from_slice.new.self (8 * (k + 1)) (omega (arith, ap length copied)) (omega (arith, c.loop-k-test.true, c.requires.long, c.loop-k.auto.bytes))
    ∙ ap (λ front. front ++ c.copy_from_slice.new.self) c.loop-k.invariant
    ∙ ap (λ bytes. bytes_of (take k words) ++ bytes) copied
    ∙ sym (bytes_of-more words k c.loop-k-test.true)
