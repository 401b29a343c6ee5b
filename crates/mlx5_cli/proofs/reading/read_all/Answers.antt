use Rattle.std.proofs.Common.{rules, subst, append-nil, take, ap, ◌∙◌, ◌++◌}
use Rattle.std.specs.Io.KnownBytes.{Consumes}
use Rattle.std.proofs.KnownBytes.{Consumes-trans}
use Rattle.mlx5_cli.proofs.reading.read_all.Goals as goal

pub returns-then-count-eq0-clause-whole : goal.returns-then-count-eq0-clause-whole
returns-then-count-eq0-clause-whole g c =
    let so_far = c.loop-piece.invariant in
    let read = c.in_ok-count.ensures in
    let none = ap (λ n. c.loop-piece.text.items ++ take n c.read.new.buf) c.if-count-eq0.true ∙ append-nil _ in
    record {
      gives = subst (Consumes _ _) none (Consumes-trans _ _ _ _ _ so_far.gives read.gives);
      ends = read.ends c.if-count-eq0.true (search rules);
      within = search rules;
    }
