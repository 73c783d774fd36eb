use Rattle.std.proofs.Common.{inl, inr}
use Rattle.viz_account.proofs.parts.all_or_none.Goals as goal

pub returns-in-Ok-clause-keys : goal.returns-in-Ok-clause-keys
returns-in-Ok-clause-keys c = inr c.in-Ok.ensures.keys

pub returns-in-Ok-clause-made : goal.returns-in-Ok-clause-made
returns-in-Ok-clause-made c =
    c.in-Ok.ensures.made c.args.net.now c.requires.made c.requires.only

pub returns-in-Err-clause-keys : goal.returns-in-Err-clause-keys
returns-in-Err-clause-keys c = inl c.nothing.ensures.empty
