-- Which objects came and went by commands, and which live then.
use Rattle.std.specs.Prelude.{ℕ, ◌≡◌, ◌==◌, ◌&&◌, ◌||◌, not, Bool, false, List, [], ◌∷◌, Option, Some, None}
use Rattle.std.specs.List.{fold}
use Rattle.verbs_types.specs.declared.declaration.Lines.{Lines}
use Rattle.cmd_bodies.specs.declared.command.Command.{Command}
use Rattle.cmd_bodies.specs.declared.command.Command.TheVariants.{AllocPd, DeallocPd, AllocUar, DeallocUar, CreateEq, DestroyEq, CreateCq, DestroyCq, CreateQp, DestroyQp}
use Rattle.device_commands.specs.Objects.{Objects, pd_lives, uar_lives, eq_lives, cq_lives, qp_lives}
use Rattle.device_commands.specs.Tables.{Tables, reset}
use Rattle.device_commands.specs.Rules.{refusal_of}
use Rattle.device_commands.specs.Effect.{after, number_made, unless_refused}

-- an object of a kind, by its number
pub data Thing : Type 0 where
  PdOf : (number : ℕ) → Thing
  UarOf : (number : ℕ) → Thing
  EqOf : (number : ℕ) → Thing
  CqOf : (number : ℕ) → Thing
  QpOf : (number : ℕ) → Thing

abbrev pub lives : Objects → Thing → Bool
lives o (PdOf n) = pd_lives o n
lives o (UarOf n) = uar_lives o n
lives o (EqOf n) = eq_lives o n
lives o (CqOf n) = cq_lives o n
lives o (QpOf n) = qp_lives o n

abbrev pub is_it : Thing → Option Thing → Bool
is_it (PdOf n) (Some (PdOf m)) = n == m
is_it (UarOf n) (Some (UarOf m)) = n == m
is_it (EqOf n) (Some (EqOf m)) = n == m
is_it (CqOf n) (Some (CqOf m)) = n == m
is_it (QpOf n) (Some (QpOf m)) = n == m
is_it _ _ = false

-- the object that a command makes, and the one that it destroys, where it is not refused
abbrev pub made_by : Objects → Command → Option Thing
made_by o AllocPd = Some (PdOf (number_made o AllocPd))
made_by o AllocUar = Some (UarOf (number_made o AllocUar))
made_by o (CreateEq block) = Some (EqOf (number_made o (CreateEq block)))
made_by o (CreateCq context) = Some (CqOf (number_made o (CreateCq context)))
made_by o (CreateQp block) = Some (QpOf (number_made o (CreateQp block)))
made_by o _ = None

abbrev pub destroyed_by : Command → Option Thing
destroyed_by (DeallocPd pd) = Some (PdOf pd)
destroyed_by (DeallocUar page) = Some (UarOf page)
destroyed_by (DestroyEq eq) = Some (EqOf eq)
destroyed_by (DestroyCq cq) = Some (CqOf cq)
destroyed_by (DestroyQp qp) = Some (QpOf qp)
destroyed_by _ = None

pub record Change : Type 0 where
  pub made : Option Thing
  pub destroyed : Option Thing

abbrev pub change_of : Tables → Command → Change
change_of t c = unless_refused (refusal_of t c) (record { made = None; destroyed = None }) (record { made = made_by t.objects c; destroyed = destroyed_by c })

-- the changes of commands, one after another
abbrev pub changes : Tables → List Command → List Change
changes t [] = []
changes t (c ∷ cs) = change_of t c ∷ changes (after t c) cs

-- whether an object was made, and not destroyed since
abbrev pub out_after : Thing → Bool → Change → Bool
out_after thing out change = is_it thing change.made || (out && not (is_it thing change.destroyed))

abbrev pub is_out : Thing → List Change → Bool
is_out thing changed = fold (out_after thing) false changed

-- the tables of an adapter that was reset, after these commands
abbrev pub after_all : Lines → List Command → Tables
after_all d commands = fold after (reset d) commands

-- What lives after any commands is what was made and not destroyed since.
abbrev pub KeepsLife : Type 0
KeepsLife = (d : Lines) (commands : List Command) (thing : Thing) → lives (after_all d commands).objects thing ≡ is_out thing (changes (reset d) commands)
