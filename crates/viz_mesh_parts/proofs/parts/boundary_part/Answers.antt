use Rattle.std.proofs.Common.{◌∙◌, ap, map}
use Rattle.viz_parts.specs.declared.request.Part.TheVariants.{Mesh}
use Rattle.viz_piece_filters.specs.Filters.{boundary_part}
use Rattle.viz_mesh_parts.proofs.AnswerLemmas.{boundary-answer}
use Rattle.viz_mesh_parts.proofs.parts.boundary_part.Goals as goal

pub returns : goal.returns
returns c = record {
  answers =
      boundary-answer c.args.ghosts c.args.input.now (Mesh c.in_ok-made.made) tt
      (c.in_ok-made.ensures ∙ ap (map (boundary_part c.args.ghosts)) c.parts_of.ensures.value);
}
