use Rattle.viz_legacy_read.proofs.ReadLaws.{file_found, file_fault}
use Rattle.viz_legacy_read.proofs.reading.read.Goals as goal

pub returns-clause-found : goal.returns-clause-found
returns-clause-found c = file_found c.args.bytes.now c.args.pick.now c.args.unit c.new-lexer.result c.file.new.lexer c.file.result c.new-lexer.ensures.value c.file.ensures.read

pub returns-clause-fault : goal.returns-clause-fault
returns-clause-fault c = file_fault c.args.bytes.now c.args.pick.now c.args.unit c.new-lexer.result c.file.new.lexer c.file.result c.new-lexer.ensures.value c.file.ensures.read
