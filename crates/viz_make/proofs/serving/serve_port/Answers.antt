use Rattle.std.proofs.Common.{rules, Some}
use Rattle.viz_base.specs.declared.call.WriteAnswer.TheVariants as write
use Rattle.viz_make.proofs.serving.serve_port.Goals as goal

pub returns-in-Ok-write : goal.returns-in-Ok-write
returns-in-Ok-write g c = (Some write.Written, (search rules, search rules), search rules)

pub returns-in-Err-Failed : goal.returns-in-Err-Failed
returns-in-Err-Failed g c = (Some write.Failed, tt, search rules)
