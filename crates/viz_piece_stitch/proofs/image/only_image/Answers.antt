use Rattle.std.proofs.Common.{◌≡◌, [], ◌∷◌, ◌++◌, IfOk, List, get_or, ap, sym, subst, ◌∙◌}
use Rattle.viz_dataset.specs.Images.{ImageData}
use Rattle.viz_parts.specs.Stitching.{AreSlabsOf}
use Rattle.viz_parts.specs.declared.request.Part.{Part}
use Rattle.viz_parts.specs.declared.request.Part.TheVariants.{Image, Mesh}
use Rattle.viz_piece_stitch.specs.Steps.Slabs.{IsPicture}
use Rattle.viz_piece_stitch.proofs.ImageLemmas.{all-images, only-image, some-parts}
use Rattle.viz_piece_stitch.proofs.ListLemmas.{only_last}
use Rattle.viz_piece_stitch.proofs.image.only_image.Goals as goal

pub unreachable-requires-in-Ok-Mesh : goal.unreachable-requires-in-Ok-Mesh
unreachable-requires-in-Ok-Mesh c =
    let part = Mesh c.in-Ok-Mesh.field-0-0 in
    let slabs = c.requires.slabs in
    let only = only_last c.args.parts.items c.pop.new.self.items c.in-Some.part c.requires.one c.in-Some.ensures.items in
    let at : get_or c.args.parts.items 0 part ≡ part = ap (λ (ps : List Part). get_or ps 0 part) only ∙ sym c.in-Ok-Mesh.ensures.ok ∙ c.in-Ok-Mesh.field-0-is in
    subst IsPicture at (all-images slabs.image c.args.parts.items slabs.are 0 part (some-parts slabs.image c.args.parts.items slabs.are))

pub returns-in-Ok-Image : goal.returns-in-Ok-Image
returns-in-Ok-Image c = λ whole are.
    let part = Image c.in-Ok-Image.image in
    let only = only_last c.args.parts.items c.pop.new.self.items c.in-Some.part c.requires.one c.in-Some.ensures.items in
    let at : get_or c.args.parts.items 0 part ≡ part = ap (λ (ps : List Part). get_or ps 0 part) only ∙ sym c.in-Ok-Image.ensures.ok ∙ c.in-Ok-Image.field-0-is in
    c.in-Ok-Image.image-is ∙ only-image whole c.args.parts.items c.in-Ok-Image.image c.requires.one at are

pub returns-in_ok-push-in-Err : goal.returns-in_ok-push-in-Err
returns-in_ok-push-in-Err c =
    let back : c.push.new.self.items ≡ c.args.parts.items =
    c.in_ok-push-in-Err.ensures.items ∙ ap (λ (p : Part). c.pop.new.self.items ++ p ∷ []) c.in-Err.ensures.err ∙ sym c.in-Some.ensures.items in
    subst (λ (ps : List Part). IfOk c.joined_image.result (λ image. (whole : ImageData) → AreSlabsOf whole ps → image ≡ whole)) back c.joined_image.ensures
