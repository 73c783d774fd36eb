use Rattle.viz_source.proofs.StepLemmas.{finds_newline}
use Rattle.viz_source.proofs.line_reader.newline_in.Goals as goal

pub returns : goal.returns
returns c = finds_newline c.args.bytes.now c.memchr.result c.memchr.ensures
