use Rattle.std.proofs.Common.{[], subst, arith}
use Rattle.std.proofs.lemmas.Map.Lookups.{exact_bytes}
use Rattle.viz_piece_stitch.specs.Steps.Walk.{ComeBefore}
use Rattle.std.proofs.Common.{ap, is_lt}
use Rattle.viz_piece_stitch.proofs.WalkLemmas.{before-at, searchable}
use Rattle.viz_piece_stitch.proofs.walk.first_of.Goals as goal

pub returns-in-Ok-clause-before : goal.returns-in-Ok-clause-before
returns-in-Ok-clause-before g c =
    subst (λ n. ComeBefore c.args.names.now c.in-Ok.index n) (exact_bytes _ _ (c.in-Ok.ensures.ok [])) (before-at c.args.names.now c.in-Ok.index c.requires.ascending c.in-Ok.ensures.bound)

pub returns-in-Err-clause-before : goal.returns-in-Err-clause-before
returns-in-Err-clause-before g c = λ k l.
    ap is_lt ((c.in-Err.ensures.position (searchable c.args.names.now c.args.name.now c.requires.ascending)).0 k [] (omega (arith, l, c.in-Err.ensures.bound)) l)
