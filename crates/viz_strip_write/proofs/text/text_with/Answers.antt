use Rattle.std.proofs.Common.{◌<◌, ◌^◌, length, arith}
use Rattle.viz_sheet.specs.Arrays.{points_in, ranks_in}
use Rattle.viz_mesh_write.specs.MeshText.{size_of}
use Rattle.viz_strip_write.proofs.FitLemmas.{fit-strips}
use Rattle.viz_strip_write.proofs.text.text_with.Goals as goal

pub returns-in_err-put_text-clause-wide_counts : goal.returns-in_err-put_text-clause-wide_counts
returns-in_err-put_text-clause-wide_counts c =
    let few : size_of c.args.rows.now < 2 ^ 31 = omega (arith, c.in-Some.ensures.some, c.in-Some.ensures.few) in
    λ wide. fit-strips (length (points_in c.args.places.now)) (ranks_in c.args.ranks.now) c.args.rows.now c.requires.fits c.requires.strips few

pub returns-clause-counts : goal.returns-clause-counts
returns-clause-counts c =
    let few : size_of c.args.rows.now < 2 ^ 31 = omega (arith, c.in-Some.ensures.some, c.in-Some.ensures.few) in
    fit-strips (length (points_in c.args.places.now)) (ranks_in c.args.ranks.now) c.args.rows.now c.requires.fits c.requires.strips few
