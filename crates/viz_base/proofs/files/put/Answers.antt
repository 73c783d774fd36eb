use Rattle.viz_base.proofs.EntriesLemmas.{Puts-set, Puts-push}
use Rattle.viz_base.proofs.files.put.Goals as goal

pub returns-in-Some-clause-ok : goal.returns-in-Some-clause-ok
returns-in-Some-clause-ok c =
    Puts-set _ _ _ _ (rw (c.bytes.ensures.value, c.deref.ensures.value) at c.in-Some.ensures)

pub returns-in_ok-push-in-None-clause-ok : goal.returns-in_ok-push-in-None-clause-ok
returns-in_ok-push-in-None-clause-ok c =
    rw c.in_ok-push-in-None.ensures.items (Puts-push _ _ _ (rw (c.bytes.ensures.value, c.deref.ensures.value) at c.in-None.ensures))
