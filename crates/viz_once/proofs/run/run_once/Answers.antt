use Rattle.viz_once.proofs.RunLemmas.{others-Run, usage-Run, script-Run, done-Run, refused-Run, fault-Run, cause-Run, refuses-Run}
use Rattle.viz_once.proofs.CompleteLemmas.{complete-Run}
use Rattle.viz_once.proofs.ReasonLemmas.{filters_are_one}
use Rattle.viz_once.proofs.run.run_once.Goals as goal

pub returns-clause-usage : goal.returns-clause-usage
returns-clause-usage g c = usage-Run g.P.Port _ g.O.Out _ _ _ _ _ _ c.serve_ports-outcome.ensures c.tell.ensures.value

pub returns-clause-script : goal.returns-clause-script
returns-clause-script g c = script-Run g.P.Port _ g.O.Out _ _ _ _ _ _ c.serve_ports-outcome.ensures c.tell.ensures.value

pub returns-clause-done : goal.returns-clause-done
returns-clause-done g c = done-Run g.P.Port _ g.O.Out _ _ _ _ _ _ c.serve_ports-outcome.ensures c.tell.ensures.value

pub returns-clause-refused : goal.returns-clause-refused
returns-clause-refused g c = refused-Run g.P.Port _ g.O.Out _ _ _ _ _ _ c.serve_ports-outcome.ensures c.tell.ensures.value

pub returns-clause-refuses : goal.returns-clause-refuses
returns-clause-refuses g c = refuses-Run (filters_are_one c.files_are_one.ensures.law c.reshapes_are_one.ensures.one) g.P.Port g.O.Out _ _ _ _ _ _ _ c.serve_ports-outcome.ensures c.tell.ensures.value

pub returns-clause-complete : goal.returns-clause-complete
returns-clause-complete g c = complete-Run (filters_are_one c.files_are_one.ensures.law c.reshapes_are_one.ensures.one) g.P.Port g.O.Out _ _ _ _ _ _ _ c.serve_ports-outcome.ensures c.tell.ensures.value

pub returns-clause-fault : goal.returns-clause-fault
returns-clause-fault g c = fault-Run g.P.Port _ g.O.Out _ _ _ _ _ _ c.serve_ports-outcome.ensures c.tell.ensures.value

pub returns-clause-cause : goal.returns-clause-cause
returns-clause-cause g c = cause-Run g.P.Port _ g.O.Out _ _ _ _ _ _ c.serve_ports-outcome.ensures c.tell.ensures.value

pub returns-clause-others : goal.returns-clause-others
returns-clause-others g c = others-Run g.P.Port _ _ _ _ c.serve_ports-outcome.ensures
