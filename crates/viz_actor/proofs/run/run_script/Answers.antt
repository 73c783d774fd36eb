use Rattle.viz_actor.proofs.ScriptRunLemmas.{done, refused, script_refused, tells_refusals, fault, cause, cut_off, idle_stay, no_usage, script_exactly}
use Rattle.viz_actor.proofs.CompleteLemmas.{complete}
use Rattle.viz_actor.proofs.run.run_script.Goals as goal

pub returns-clause-script : goal.returns-clause-script
returns-clause-script g c = script_refused g.P.Port g.O.Out _ _ _ _ _ _ _ _ _ _ c.serve-ran.ensures c.tell.ensures.value

pub returns-clause-refuses : goal.returns-clause-refuses
returns-clause-refuses g c = tells_refusals g.P.Port g.O.Out _ _ _ _ _ _ _ _ _ _ c.serve-ran.ensures c.tell.ensures.value

pub returns-clause-exactly : goal.returns-clause-exactly
returns-clause-exactly g c = script_exactly g.P.Port g.O.Out _ _ _ _ _ _ _ _ _ _ c.serve-ran.ensures c.tell.ensures.value

pub returns-clause-complete : goal.returns-clause-complete
returns-clause-complete g c = complete g.P.Port g.O.Out c.all_came_are_told.ensures.came _ _ _ _ _ _ _ _ _ _ c.serve-ran.ensures c.tell.ensures.value

pub returns-clause-done : goal.returns-clause-done
returns-clause-done g c = done g.P.Port g.O.Out _ _ _ _ _ _ _ _ _ _ c.serve-ran.ensures c.tell.ensures.value

pub returns-clause-refused : goal.returns-clause-refused
returns-clause-refused g c = refused g.P.Port g.O.Out _ _ _ _ _ _ _ _ _ _ c.serve-ran.ensures c.tell.ensures.value

pub returns-clause-fault : goal.returns-clause-fault
returns-clause-fault g c = fault g.P.Port g.O.Out _ _ _ _ _ _ _ _ _ _ c.serve-ran.ensures c.tell.ensures.value

pub returns-clause-cause : goal.returns-clause-cause
returns-clause-cause g c = cause g.P.Port g.O.Out _ _ _ _ _ _ _ _ _ _ c.serve-ran.ensures c.tell.ensures.value

pub returns-clause-memory : goal.returns-clause-memory
returns-clause-memory g c = λ is. cut_off g.P.Port g.O.Out _ _ _ _ _ _ _ _ _ _ c.serve-ran.ensures c.tell.ensures.value

pub returns-clause-usage : goal.returns-clause-usage
returns-clause-usage g c = no_usage g.P.Port g.O.Out _ _ _ _ _ _ _ _ _ _ c.serve-ran.ensures c.tell.ensures.value

pub returns-clause-idle : goal.returns-clause-idle
returns-clause-idle g c = idle_stay g.P.Port g.O.Out _ _ _ _ _ _ _ _ _ _ c.serve-ran.ensures c.tell.ensures.value
