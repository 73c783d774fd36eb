use Rattle.viz_parts.specs.declared.request.Part.TheVariants.{Mesh}
use Rattle.viz_mesh_parts.proofs.AnswerLemmas.{appended-answer}
use Rattle.viz_mesh_parts.proofs.parts.append_parts.Goals as goal

pub returns : goal.returns
returns c = record { answers = appended-answer c.args.inputs.now (Mesh c.in_ok-made.made) tt c.in_ok-made.ensures }
