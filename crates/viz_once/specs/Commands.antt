-- What contracts see of a command that the code holds (docs/FORMATS.md, "Words of a command").
use Rattle.viz_once.specs.declared.command.Once.{Once}
use Rattle.viz_once.specs.Command.{Command}

-- the names by their bytes
abbrev pub command_view : Once → Command
command_view o = record { input = o.input.now; output = o.output.now; filter = o.filter }
