-- How many operations a call takes that is no drain.
use Rattle.std.specs.Prelude.{ℕ, ◌≡◌, ◌+◌, ◌*◌, ◌<◌, Bool, true, false, List, length}
use Rattle.bus_core.specs.Mark.{Marked}
use Rattle.verbs_types.specs.declared.call.Call.{Call}
use Rattle.verbs_types.specs.declared.declaration.Lines.{Lines}
use Rattle.verbs_rules.specs.Shape.{Shape, Posts, Takes, Until, shape_of, count_of}
use Rattle.object_places.specs.Objects.{Mark}
use Rattle.operation_bounds.specs.Stretch.{IsStretch, IsWithin}

-- the items of a call's list, or the most completions that it takes
abbrev pub parts_in : Shape → ℕ
parts_in (Posts queue items) = length items
parts_in (Takes cq taking) = count_of taking

abbrev pub parts_of : Call → ℕ
parts_of call = parts_in (shape_of call)

abbrev pub is_until : Shape → Bool
is_until (Takes cq (Until count)) = true
is_until _ = false

abbrev pub is_drain : Call → Bool
is_drain call = is_until (shape_of call)

-- how many operations a call of `parts` parts may take
abbrev pub most_operations : ℕ → ℕ
most_operations parts = 64 * parts + 64

-- The operation of this number ends a call at the latest: fewer stand within it, from the end of the call before it on.
abbrev pub CallsEnd : Lines → List (List Call) → ℕ → List (Marked Mark) → Type 0
CallsEnd d programs x ops = (before during : List (Marked Mark)) (call : Call) → IsStretch ops before during → IsWithin d programs x before during call → is_drain call ≡ false → length during < most_operations (parts_of call)
