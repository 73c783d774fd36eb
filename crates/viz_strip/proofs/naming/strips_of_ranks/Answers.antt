use Rattle.viz_strip.specs.Names.{names_of}
use Rattle.viz_strip.proofs.KeptLemmas.{keep}
use Rattle.viz_strip.proofs.NameLemmas.{rank-triangles, strips-named}
use Rattle.viz_strip.proofs.naming.strips_of_ranks.Goals as goal

pub ranked_strips-requires-clause-triangles : goal.ranked_strips-requires-clause-triangles
ranked_strips-requires-clause-triangles c = rank-triangles c.args.names.now c.args._triangles.now c.args.ranks.now c.requires.triangles c.requires.ranks

pub returns-clause-chosen : goal.returns-clause-chosen
returns-clause-chosen c =
    strips-named c.args.names.now c.args._triangles.now c.args.ranks.now c.in_ok-rows.rows (names_of c.in_ok-strips.strips.items) c.requires.ascending c.requires.triangles c.requires.ranks c.in_ok-rows.ensures.value c.in_ok-strips.ensures

pub returns-clause-kept : goal.returns-clause-kept
returns-clause-kept c =
    keep c.args._triangles.now (names_of c.in_ok-strips.strips.items) c.requires.triangles
    (strips-named c.args.names.now c.args._triangles.now c.args.ranks.now c.in_ok-rows.rows (names_of c.in_ok-strips.strips.items) c.requires.ascending c.requires.triangles c.requires.ranks c.in_ok-rows.ensures.value c.in_ok-strips.ensures)
