use Rattle.viz_words.proofs.NameLemmas.{file_name-IsUtf8}
use Rattle.viz_words.proofs.files.name_text.Goals as goal

pub unreachable-requires : goal.unreachable-requires
unreachable-requires c = c.in-Err.ensures.cases.0 (file_name-IsUtf8 c.args.word.now c.requires.names)
