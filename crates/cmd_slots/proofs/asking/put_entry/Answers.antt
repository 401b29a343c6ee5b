use Rattle.std.proofs.Common.{◌≡◌, ◌∙◌, ap, sym, subst, length}
use Rattle.std.proofs.lemmas.List.{take_at, length-take-le}
use Rattle.cmd_format.specs.Entry.{IsEntry}
use Rattle.cmd_slots.specs.Bytes.{bytes_of}
use Rattle.cmd_slots.proofs.asking.put_entry.Goals as goal

pub returns : goal.returns
returns c =
    let long : length c.read_words.new.words ≡ 8 = c.read_words.auto.words ∙ length-take-le 8 c.args.words.now c.requires in
    let written = ap bytes_of (take_at c.read_words.new.words _ 8 long) ∙ c.read_words.ensures in
    subst (IsEntry c.args.entry.now) (sym written) c.encode_entry.ensures
