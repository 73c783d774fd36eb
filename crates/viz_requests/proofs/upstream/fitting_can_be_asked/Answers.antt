use Rattle.viz_requests.proofs.UpstreamLemmas.{can_ask}
use Rattle.viz_requests.proofs.upstream.fitting_can_be_asked.Goals as goal

pub returns : goal.returns
returns c = record { law = can_ask }
