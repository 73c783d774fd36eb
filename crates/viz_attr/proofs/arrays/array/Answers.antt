use Rattle.std.proofs.Common.{◌≡◌, ◌∙◌, ap, sym, Result, Ok}
use Rattle.viz_lex.specs.declared.fault.FileFault.{FileFault}
use Rattle.viz_lex.specs.Reading.{Reading}
use Rattle.viz_attr.specs.Steps.{Known}
use Rattle.viz_attr.specs.Reads.{known_of, head_of, given_of}
use Rattle.viz_attr.proofs.KnownLemmas.{array-done, with_part-other}
use Rattle.viz_attr.proofs.arrays.array.Goals as goal

abbrev known_at : Reading → Known → Result (Known × Reading) FileFault
known_at r k = Ok (k, r)

pub returns-else-wanted : goal.returns-else-wanted
returns-else-wanted c =
    let g = given_of c.args.files.now in
    let k = known_of c.args.progress.now in
    let head = head_of c.args.head.now in
    let read = rw c.is_wanted-wanted.ensures at c.in_ok-column.ensures in
    let other = sym c.is_wanted-wanted.ensures ∙ c.if-wanted.false in
    array-done g k head c.args.stored c.args.head.now.tuples c.args.components c.args.lexer.now c.values.new.lexer c.any_metadata.new.self c.in_ok-column.column read c.in_ok-any_metadata.ensures.value
    ∙ ap (known_at c.any_metadata.new.self) (with_part-other g k head c.in_ok-column.column other)
