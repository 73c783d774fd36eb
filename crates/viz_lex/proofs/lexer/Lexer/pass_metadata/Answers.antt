use Rattle.std.proofs.Common.{◌≡◌, ◌+◌, Ok, arith}
use Rattle.std.proofs.lemmas.Grind.{common_steps}
use Rattle.viz_lex.specs.Reading.{Reading}
use Rattle.viz_lex.specs.Passing.{metadata_at}
use Rattle.viz_lex.proofs.MetadataLemmas.{metadata_at-Ok}
use Rattle.viz_lex.proofs.lexer.Lexer.pass_metadata.Goals as goal

pub returns-clause-lines : goal.returns-clause-lines
unfolding metadata_at
returns-clause-lines c =
    let next : Reading = record { bytes = c.self.inside.bytes.now; place = c.self.inside.place + c.metadata_len.result } in
    let read : metadata_at c.args.self.now ≡ Ok (tt, next) = grind (arith, common_steps) in
    metadata_at-Ok c.args.self.now next read
