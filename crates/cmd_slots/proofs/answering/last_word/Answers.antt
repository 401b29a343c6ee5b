use Rattle.std.proofs.Common.{◌≡◌, length}
use Rattle.cmd_slots.proofs.AnswerWords.{entry_software, entry_told, entry_signed}
use Rattle.cmd_slots.proofs.answering.last_word.Goals as goal

pub returns-clause-software : goal.returns-clause-software
returns-clause-software c =
    let long : length c.read_words.new.words ≡ 8 = c.read_words.auto.words in
    entry_software c.args.entry.now c.read_words.new.words c.write_words.new.bytes c.put.new.bytes c.sign_entry.new.bytes c.args.high c.args.low c.args.status
    c.requires.long c.requires.status c.write_words.ensures c.put.ensures.stored c.put.ensures.others c.sign_entry.ensures.signed c.sign_entry.ensures.others long c.read_words.ensures

pub returns-clause-told : goal.returns-clause-told
returns-clause-told c =
    let long : length c.read_words.new.words ≡ 8 = c.read_words.auto.words in
    entry_told c.args.entry.now c.read_words.new.words c.write_words.new.bytes c.put.new.bytes c.sign_entry.new.bytes c.args.high c.args.low c.args.status
    c.requires.long c.requires.status c.write_words.ensures c.put.ensures.stored c.put.ensures.others c.sign_entry.ensures.signed c.sign_entry.ensures.others long c.read_words.ensures

pub returns-clause-signed : goal.returns-clause-signed
returns-clause-signed c =
    let long : length c.read_words.new.words ≡ 8 = c.read_words.auto.words in
    entry_signed c.args.entry.now c.read_words.new.words c.write_words.new.bytes c.put.new.bytes c.sign_entry.new.bytes c.args.high c.args.low c.args.status
    c.requires.long c.requires.status c.write_words.ensures c.put.ensures.stored c.put.ensures.others c.sign_entry.ensures.signed c.sign_entry.ensures.others long c.read_words.ensures
