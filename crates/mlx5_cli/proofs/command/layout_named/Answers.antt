use Rattle.std.proofs.Common.{◌≡◌, ◌≢◌, rules, tests}
use Rattle.std.proofs.lemmas.Iterator.{YieldsList-from_slice, first_from_find}
use Rattle.prm_fields.specs.Names.{layout_text}
use Rattle.mlx5_cli.specs.declared.command.TheConstants.{LAYOUTS}
use Rattle.mlx5_cli.proofs.LayoutNames.{none_of_all}
use Rattle.mlx5_cli.proofs.command.layout_named.Goals as goal

pub returns-clause-none : goal.returns-clause-none
returns-clause-none c =
    none_of_all (λ y. c.args.name.now ≢ layout_text y) _ c.find.result c.copied.result
    (first_from_find _ _ c.find.result (λ y. c.args.name.now ≡ layout_text y) (λ y. c.args.name.now ≢ layout_text y) c.find.ensures.ran (YieldsList-from_slice LAYOUTS cc) (λ x q k. search (rules, tests)) (λ x q k. search (rules, tests)))
    (λ none. search rules)
