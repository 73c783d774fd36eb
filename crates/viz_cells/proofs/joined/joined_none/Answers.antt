use Rattle.std.proofs.Common.{◌≡◌, ◌∙◌, [], length}
use Rattle.std.proofs.lemmas.List.Elements.{All-from_get_or}
use Rattle.viz_cells.proofs.NumberLemmas.{no_keys}
use Rattle.viz_cells.proofs.joined.joined_none.Goals as goal

pub returns : goal.returns
returns c =
    c.new.ensures.items
    ∙ no_keys c.args.names.now c.args.keys.now (All-from_get_or (λ n. length n ≡ 8) c.args.names.now [] c.told-names) c.requires.most c.requires.keys
