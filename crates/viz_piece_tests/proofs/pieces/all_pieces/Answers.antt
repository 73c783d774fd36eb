use Rattle.viz_dataset.specs.declared.dataset.Dataset.TheVariants.{Mesh}
use Rattle.viz_piece_tests.proofs.PieceLemmas.{all-pieces}
use Rattle.viz_piece_tests.proofs.pieces.all_pieces.Goals as goal

pub returns-clause-pieces : goal.returns-clause-pieces
returns-clause-pieces c =
    all-pieces c.args.mesh c.args.n c.args.ghosts c.in_ok-parts.parts.items c.requires.some
    (c.in_ok-parts.ensures c.args.mesh c.in_ok-whole.ensures.ok)

pub returns-clause-all : goal.returns-clause-all
returns-clause-all c = (Mesh c.args.mesh, all-pieces c.args.mesh c.args.n c.args.ghosts c.in_ok-parts.parts.items c.requires.some (c.in_ok-parts.ensures c.args.mesh c.in_ok-whole.ensures.ok))
