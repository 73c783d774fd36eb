use Rattle.std.proofs.Common.{map, sym, subst}
use Rattle.viz_column.specs.Numbers.{Numbers}
use Rattle.viz_dataset.specs.Rows.{AreRestricted}
use Rattle.viz_dataset.proofs.RowLemmas.{rows-restricted}
use Rattle.viz_dataset.proofs.restricted.column_of.Goals as goal

pub returns : goal.returns
returns g c =
    let whole = c.args.whole.now in
    let part = c.args.part.now in
    let value = g.T.Number.value in
    let old : Numbers = record { kind = g.T.Number.kind; items = map value c.args.numbers.now } in
    subst (AreRestricted whole part old) (sym c.of.ensures.value) (rows-restricted whole part g.T.Number.kind (map value c.args.numbers.now) (map value c.in_ok-rows.rows.items) c.requires.within c.in_ok-rows.ensures)
