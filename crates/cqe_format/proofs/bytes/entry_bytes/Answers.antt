use Rattle.std.proofs.Common.{◌∙◌, arith}
use Rattle.cqe_format.proofs.Words.{copied_next, copied_none, copied_all}
use Rattle.cqe_format.proofs.bytes.entry_bytes.Goals as goal

pub returns : goal.returns
returns c =
    let words = c.args.words.now in
    let eight = c.told-words in
    let one = copied_next words _ c.copy_word.new.bytes 0 eight (omega arith) (copied_none words) c.copy_word.ensures in
    let two = copied_next words _ c.copy_word-2.new.bytes 1 eight (omega arith) one c.copy_word-2.ensures in
    let three = copied_next words _ c.copy_word-3.new.bytes 2 eight (omega arith) two c.copy_word-3.ensures in
    let four = copied_next words _ c.copy_word-4.new.bytes 3 eight (omega arith) three c.copy_word-4.ensures in
    let five = copied_next words _ c.copy_word-5.new.bytes 4 eight (omega arith) four c.copy_word-5.ensures in
    let six = copied_next words _ c.copy_word-6.new.bytes 5 eight (omega arith) five c.copy_word-6.ensures in
    let seven = copied_next words _ c.copy_word-7.new.bytes 6 eight (omega arith) six c.copy_word-7.ensures in
    copied_next words _ c.copy_word-8.new.bytes 7 eight (omega arith) seven c.copy_word-8.ensures ∙ copied_all words eight
