use Rattle.viz_mixed.proofs.CubeLemmas.{bounds-row, bounds-within}
use Rattle.viz_mixed.proofs.cubes.push_row.Goals as goal

pub push_from-requires : goal.push_from-requires
push_from-requires c = record {
  within = bounds-within c.args.whole.now c.bounds.result c.index_of-first.result _ c.args.j c.args.k c.bounds.ensures.valid c.requires.y c.requires.z c.bounds.ensures.value
      c.index_of-first.ensures.value c.requires.full;
}

pub returns : goal.returns
returns c =
    bounds-row c.args.whole.now c.args.flags.now c.args.out.now c.push_from.new.out c.bounds.result c.index_of-first.result c.args.j c.args.k c.requires.y.at_least c.requires.z.at_least
    c.bounds.ensures.value c.index_of-first.ensures.value c.in_ok-push_from.ensures
