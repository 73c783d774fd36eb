use Rattle.std.specs.List.{flat_map}
use Rattle.std.proofs.lemmas.List.{length-map}
use Rattle.viz_meaning.specs.Section.{section_cells}
use Rattle.viz_meaning.proofs.NameSets.{sorted-each_once, in-each_once, of-each_once, names-from_members}
use Rattle.viz_meaning.proofs.laws.section_names_are_a_set.Goals as goal

pub returns-clause-ascend : goal.returns-clause-ascend
returns-clause-ascend c f s = sorted-each_once (flat_map (λ cell. cell) (section_cells f s))

pub returns-clause-used : goal.returns-clause-used
returns-clause-used c f s n =
    (of-each_once (flat_map (λ cell. cell) (section_cells f s)) n, in-each_once (flat_map (λ cell. cell) (section_cells f s)) n)

pub returns-clause-points : goal.returns-clause-points
returns-clause-points c f s = simp length-map

pub returns-clause-determined : goal.returns-clause-determined
returns-clause-determined c names cells ascending same =
    names-from_members names cells ascending (λ n. (same n).0) (λ n. (same n).1)
