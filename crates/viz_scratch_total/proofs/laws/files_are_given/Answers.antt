use Rattle.viz_scratch_total.proofs.TextLemmas.{files_given, histories_have_files}
use Rattle.viz_scratch_total.proofs.laws.files_are_given.Goals as goal

pub returns : goal.returns
returns c =
    let files = files_given c.scratch_is_given.ensures.nodes in
    record {
      nodes = files;
      histories = histories_have_files files c.histories_load_bytes.ensures.histories;
    }
