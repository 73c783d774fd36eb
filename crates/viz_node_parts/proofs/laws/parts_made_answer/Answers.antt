use Rattle.viz_node_parts.proofs.AnsweredLemmas.{parts_made}
use Rattle.viz_node_parts.proofs.laws.parts_made_answer.Goals as goal

pub returns : goal.returns
returns c = record {
  made =
      parts_made (record {
        blocks = c.blocks_answer.ensures.filtered;
        arith = c.blocks_answer.ensures.arith;
        tets = c.image_filters_answer.ensures.tets;
        image_sections = c.image_filters_answer.ensures.section;
        sections = c.mesh_filters_answer.ensures.section;
        selection = c.mesh_filters_answer.ensures.selection;
        boundary = c.mesh_filters_answer.ensures.boundary;
        appended = c.mesh_filters_answer.ensures.appended;
        merged = c.mesh_filters_answer.ensures.merged;
        definite = c.files_are_definite.ensures.file;
        one = c.datasets_are_divided.ensures.one;
      });
}
