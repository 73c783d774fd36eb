use Rattle.viz_migrate.proofs.RunLemmas.{done, script, tells_refusals, fault, cause, others, no_usage, no_refused}
use Rattle.viz_migrate.proofs.CompleteLemmas.{complete}
use Rattle.viz_migrate.proofs.run.run_migrate.Goals as goal

pub returns-clause-script : goal.returns-clause-script
returns-clause-script g c = script g.P.Port g.O.Out _ _ _ _ _ _ _ _ _ c.serve-came.ensures c.tell.ensures.value

pub returns-clause-refuses : goal.returns-clause-refuses
returns-clause-refuses g c = tells_refusals g.P.Port g.O.Out _ _ _ _ _ _ _ _ _ c.serve-came.ensures c.tell.ensures.value

pub returns-clause-complete : goal.returns-clause-complete
returns-clause-complete g c = complete g.P.Port g.O.Out _ _ _ _ _ _ _ _ _ c.serve-came.ensures c.tell.ensures.value

pub returns-clause-done : goal.returns-clause-done
returns-clause-done g c = done g.P.Port g.O.Out _ _ _ _ _ _ _ _ _ c.serve-came.ensures c.tell.ensures.value c.what_is_read_is_written_again.ensures.again

pub returns-clause-fault : goal.returns-clause-fault
returns-clause-fault g c = fault g.P.Port g.O.Out _ _ _ _ _ _ _ _ _ c.serve-came.ensures c.tell.ensures.value

pub returns-clause-cause : goal.returns-clause-cause
returns-clause-cause g c = cause g.P.Port g.O.Out _ _ _ _ _ _ _ _ _ c.serve-came.ensures c.tell.ensures.value

pub returns-clause-usage : goal.returns-clause-usage
returns-clause-usage g c = no_usage g.P.Port g.O.Out _ _ _ _ _ _ _ _ _ c.serve-came.ensures c.tell.ensures.value

pub returns-clause-refused : goal.returns-clause-refused
returns-clause-refused g c = no_refused g.P.Port g.O.Out _ _ _ _ _ _ _ _ _ c.serve-came.ensures c.tell.ensures.value

pub returns-clause-others : goal.returns-clause-others
returns-clause-others g c = others g.P.Port _ _ _ _ _ _ c.serve-came.ensures
