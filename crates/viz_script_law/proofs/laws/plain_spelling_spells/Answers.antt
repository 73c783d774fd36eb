use Rattle.viz_script_law.proofs.PlainLemmas.{plain-spells, edit-plain}
use Rattle.viz_script_law.proofs.ScriptRead.{plain-script}
use Rattle.viz_script_law.proofs.laws.plain_spelling_spells.Goals as goal

pub returns-clause-line : goal.returns-clause-line
returns-clause-line c = plain-spells

pub returns-clause-script : goal.returns-clause-script
returns-clause-script c = plain-script

pub returns-clause-edits : goal.returns-clause-edits
returns-clause-edits c = edit-plain
