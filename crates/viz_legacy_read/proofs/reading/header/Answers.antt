use Rattle.std.proofs.Common.{sym, subst}
use Rattle.std.proofs.lemmas.Result.{err_from_is_err_and}
use Rattle.viz_legacy_read.specs.Reading.{IsInfo}
use Rattle.viz_legacy_read.proofs.ReadLaws.{header_is, header_stops}
use Rattle.viz_legacy_read.proofs.reading.header.Goals as goal

pub returns-in_err-header-clause-fault : goal.returns-in_err-header-clause-fault
returns-in_err-header-clause-fault c =
    let p = err_from_is_err_and c.from_residual.result c.from_residual.ensures.1 in
    rw (p.1, p.2) (header_stops c.args.bytes.now c.new-lexer.result c.in_err-header.field-0.0 c.new-lexer.ensures.value c.in_err-header.ensures.read)

pub returns-clause-found : goal.returns-clause-found
returns-clause-found c =
    subst (IsInfo c.args.bytes.now) (sym c.info.ensures) (header_is c.args.bytes.now c.new-lexer.result c.file_header.new.lexer c.in_ok-header.header c.new-lexer.ensures.value c.in_ok-header.ensures.read)
