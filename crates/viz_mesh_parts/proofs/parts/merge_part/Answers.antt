use Rattle.std.proofs.Common.{List, subst}
use Rattle.viz_mesh_meaning.specs.Merge.{merged}
use Rattle.viz_parts.specs.Parts.{PartSheetData}
use Rattle.viz_parts.specs.declared.request.Part.TheVariants.{Mesh}
use Rattle.viz_piece_divisions.specs.Narrow.{sheets_of_parts}
use Rattle.viz_mesh_parts.specs.Steps.{IsWholePart}
use Rattle.viz_mesh_parts.proofs.AnswerLemmas.{merged-answer}
use Rattle.viz_mesh_parts.proofs.parts.merge_part.Goals as goal

pub returns : goal.returns
returns c = record {
  answers =
      merged-answer c.args.input.now (Mesh c.in_ok-made.made) tt
      (subst (λ (parts : List PartSheetData). IsWholePart (merged (sheets_of_parts parts)) c.in_ok-made.made.items) c.parts_of.ensures.value c.in_ok-made.ensures);
}
