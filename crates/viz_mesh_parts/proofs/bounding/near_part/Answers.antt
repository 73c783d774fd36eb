use Rattle.std.proofs.Common.{◌∙◌, ap}
use Rattle.viz_sheet.specs.Kept.{kept}
use Rattle.viz_mesh_parts.proofs.MadeLemmas.{near-count, near-made}
use Rattle.viz_mesh_parts.proofs.bounding.near_part.Goals as goal

pub new-requires : goal.new-requires
new-requires c = record {
  matched =
      near-count c.args.ghosts c.args.sheet c.into_sheet.result c.in_ok-cut.cut c.args.levels.now c.in_ok-left.left.items c.in_ok-near.near.items c.requires.matched c.in_ok-near.ensures
      (c.in_ok-left.ensures ∙ ap (λ ms. kept ms c.args.levels.now) c.deref.ensures.value) c.in_ok-cut.ensures.ok c.into_sheet.ensures.value;
}

pub returns : goal.returns
returns c =
    near-made c.args.ghosts c.args.sheet c.into_sheet.result c.in_ok-cut.cut c.new.result c.args.levels.now c.in_ok-left.left.items c.in_ok-near.near.items c.in_ok-near.ensures
    (c.in_ok-left.ensures ∙ ap (λ ms. kept ms c.args.levels.now) c.deref.ensures.value) c.in_ok-cut.ensures.ok c.into_sheet.ensures.value c.new.ensures.sheet c.new.ensures.levels
