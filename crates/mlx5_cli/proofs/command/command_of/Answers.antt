use Rattle.std.proofs.Common.{rules, tests}
use Rattle.mlx5_cli.proofs.WordLists.{one_word, two_words}
use Rattle.mlx5_cli.proofs.command.command_of.Goals as goal

pub returns-in-len1-clause-found : goal.returns-in-len1-clause-found
returns-in-len1-clause-found c =
    one_word c.args.words.now c.word-item.result _ c.in-len1.len_at_least c.in-len1.len_below c.word-item.is (search (rules, tests))

pub returns-in_ok-layout_named-in-len2-clause-found : goal.returns-in_ok-layout_named-in-len2-clause-found
returns-in_ok-layout_named-in-len2-clause-found c =
    two_words c.args.words.now c.word-item-then-words-lt3.result c.name-item.result _ _ c.in-len2.len_at_least c.in-len2.len_below c.word-item-then-words-lt3.is c.name-item.is
    (search (rules, tests)) (search (rules, c.in_ok-layout_named-in-len2.ensures.found, c.as_str-in-len2.ensures.value))
