use Rattle.std.proofs.Common.{◌∙◌, ap, ap₂, map}
use Rattle.std.proofs.lemmas.Int.{to_z-of_z}
use Rattle.std.specs.Int.{w64}
use Rattle.viz_parts.specs.declared.request.Part.TheVariants.{Mesh}
use Rattle.viz_piece_filters.specs.Filters.{selected_part}
use Rattle.viz_mesh_parts.proofs.AnswerLemmas.{selected-answer}
use Rattle.viz_mesh_parts.proofs.parts.select_part.Goals as goal

pub returns : goal.returns
returns c =
    let all = c.args.all in
    let lo = to_z-of_z w64 c.args.lo c.ranges.lo in
    let hi = to_z-of_z w64 c.args.hi c.ranges.hi in
    record {
      answers =
          selected-answer all c.args.lo c.args.hi c.args.input.now (Mesh c.in_ok-made.made) tt
          (c.in_ok-made.ensures ∙ ap₂ (λ a b. map (selected_part all a b) c.parts_of.result.now) lo hi ∙ ap (map (selected_part all c.args.lo c.args.hi)) c.parts_of.ensures.value);
    }
