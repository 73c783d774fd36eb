use Rattle.std.proofs.Common.{◌<◌, ℕ, List, [], length, refl, subst, arith}
use Rattle.std.proofs.lemmas.Grind.{common_steps}
use Rattle.std.proofs.lemmas.List.{take_all}
use Rattle.std.proofs.lemmas.List.Elements.{All-more}
use Rattle.viz_grid_section.specs.ImageSection.{IsNarrowAt}
use Rattle.viz_contour.specs.Steps.Named.{edge_named, AreNarrowNames}
use Rattle.viz_contour.proofs.points.wide_points.Goals as goal

pub loop-name-preserved : goal.loop-name-preserved
loop-name-preserved c =
    let names = c.args.names.now in
    let i = c.loop-name.name-index in
    let within : i < length names = omega arith in
    let here = c.in_ok-point_of_name.ensures in
    record {
      low = here.low;
      made = grind (arith, common_steps, here.value);
      narrow = record { each = All-more (λ n. IsNarrowAt c.args.level.now c.args.image.now (edge_named n)) names i [] within c.loop-name.invariant.narrow.each (here.succeeds.0 refl) };
    }

pub returns-clause-ok : goal.returns-clause-ok
returns-clause-ok c =
    let P : List (List ℕ) → Type 0 = λ ns. AreNarrowNames c.args.level.now c.args.image.now ns in
    subst P (take_all c.loop-name.name-index c.args.names.now (omega arith)) c.loop-name.invariant.narrow
