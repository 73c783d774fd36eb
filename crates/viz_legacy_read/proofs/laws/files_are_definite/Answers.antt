use Rattle.viz_lex.proofs.DecidedLemmas.{IsDefinite-decided}
use Rattle.viz_legacy_read.specs.Header.{header}
use Rattle.viz_legacy_read.specs.File.{file}
use Rattle.viz_legacy_read.specs.Steps.{header_at, file_at}
use Rattle.viz_legacy_read.proofs.HeaderLaws.{decides-header}
use Rattle.viz_legacy_read.proofs.FileLaws.{decides-file}
use Rattle.viz_legacy_read.proofs.laws.files_are_definite.Goals as goal

pub returns-clause-file : goal.returns-clause-file
returns-clause-file c = λ pick unit. IsDefinite-decided (file pick unit) (file_at pick unit) (decides-file pick unit)

pub returns-clause-header : goal.returns-clause-header
returns-clause-header c = IsDefinite-decided header header_at decides-header
