use Rattle.std.proofs.Common.{rules}
use Rattle.viz_mesh_write.proofs.TallyLemmas.{exact, fit_from, small_from}
use Rattle.viz_mesh_write.proofs.tally.counted.Goals as goal

pub returns-then-not-fits-clause-some : goal.returns-then-not-fits-clause-some
returns-then-not-fits-clause-some c =
    (λ none. search rules, λ fits. search (rules, c.fits.ensures.1 (small_from c.args.sheets.now c.capped_tally-tally.result c.known.ensures c.capped_tally-tally.ensures fits)))

pub returns-clause-some : goal.returns-clause-some
returns-clause-some c =
    let is = c.fits.ensures.0 (search rules) in
    (λ _. fit_from c.args.sheets.now c.capped_tally-tally.result c.known.ensures c.capped_tally-tally.ensures is.0 is.1, λ _. search rules)

pub returns-clause-value : goal.returns-clause-value
returns-clause-value c =
    let is = c.fits.ensures.0 (search rules) in
    record {
      known = c.known.ensures;
      counts = exact c.args.sheets.now c.capped_tally-tally.result c.capped_tally-tally.ensures is.0;
      small = is.0;
      sections = is.1;
      fits = fit_from c.args.sheets.now c.capped_tally-tally.result c.known.ensures c.capped_tally-tally.ensures is.0 is.1;
    }
