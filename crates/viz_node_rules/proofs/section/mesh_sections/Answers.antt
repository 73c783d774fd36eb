use Rattle.viz_node_rules.proofs.SectionLemmas.{made_fit}
use Rattle.viz_node_rules.proofs.section.mesh_sections.Goals as goal

pub returns-clause-fits : goal.returns-clause-fits
returns-clause-fits c = made_fit c.sections.result _ c.args.sheets.now c.sections.ensures.value c.sections_fit.ensures
