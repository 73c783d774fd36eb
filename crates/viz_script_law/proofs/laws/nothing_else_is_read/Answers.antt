use Rattle.viz_script_law.proofs.OnlyLines.{only, refused}
use Rattle.viz_script_law.proofs.laws.nothing_else_is_read.Goals as goal

pub returns-clause-only : goal.returns-clause-only
returns-clause-only c = only

pub returns-clause-refused : goal.returns-clause-refused
returns-clause-refused c = refused
