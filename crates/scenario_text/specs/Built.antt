-- Which lines have a form that is built.
use Rattle.std.specs.Prelude.{Option, None, Some, codes, Bool, true, not, ◌&&◌, nat_eq}
use Rattle.std.specs.List.{list_any, starts_with}
use Rattle.scenario_text.specs.Text.{Field, Line, part_at}
use Rattle.scenario_text.specs.Keywords.{keyword_in, is_later_word, is_later_operation}
use Rattle.scenario_text.specs.Segments.{segment_fields, is_later}
use Rattle.scenario_text.specs.Sofar.{Said}
use Rattle.scenario_text.specs.Uses.{has_room}
use Rattle.scenario_text.specs.declared.keyword.Keyword.{Keyword}
use Rattle.scenario_text.specs.declared.keyword.Keyword.TheVariants.{Qp, Item, Receive}
use Rattle.scenario_text.specs.declared.sofar.Place.{Place}
use Rattle.scenario_text.specs.declared.sofar.Place.TheVariants.{InPost}

-- a request without operation, where its completion has room
abbrev pub is_built_in : Said → Place → Field → Bool
is_built_in s (InPost qp) operation = not (is_later_operation operation) && has_room s
is_built_in s _ operation = true

abbrev pub is_built_item : Said → Field → Bool
is_built_item s operation = is_built_in s s.place operation

abbrev pub has_later_segments : Line → Bool
has_later_segments line = list_any is_later (segment_fields line)

-- receive queues of a queue pair's own; receives whose segments have their keys as digits, where the completion has room
abbrev pub is_built_line : Said → Option Keyword → Line → Bool
is_built_line s (Some Qp) line = not (starts_with nat_eq (part_at line 6) (codes "srq:"))
is_built_line s (Some Item) line = is_built_item s (part_at line 2)
is_built_line s (Some Receive) line = has_room s && not (has_later_segments line)
is_built_line s (Some _) line = true
is_built_line s None line = not (is_later_word (part_at line 0))

abbrev pub is_built : Said → Line → Bool
is_built s line = is_built_line s (keyword_in s.place (part_at line 0)) line
