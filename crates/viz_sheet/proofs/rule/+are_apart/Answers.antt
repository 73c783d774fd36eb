use Rattle.std.proofs.Common.{true≢false, sym, ap, ◌∙◌, not}
use Rattle.viz_sheet.proofs.RuleLemmas.{not_apart}
use Rattle.viz_sheet.proofs.rule.+are_apart.Goals as goal

pub returns-else-not-contains : goal.returns-else-not-contains
returns-else-not-contains t c =
    let found = c.if-not-contains.ensures.cases in (
      λ h. absurd (true≢false (sym h ∙ ap not c.if-not-contains.false)),
      λ a. not_apart c.args.cell.now found.0 c.in-len1-up.len_at_least found.1 found.2 a,
    )
