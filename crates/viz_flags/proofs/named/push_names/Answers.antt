use Rattle.viz_flags.proofs.NameLemmas.{names_pushed}
use Rattle.viz_flags.proofs.named.push_names.Goals as goal

pub returns : goal.returns
returns c =
    names_pushed c.args.mask c.args.leaf c.args.row c.args.plane _ _ _ _ _ _ _ _ _ _ _ _ _ _ _ _ _
    c.is_set.ensures c.is_set-2.ensures c.is_set-3.ensures c.is_set-4.ensures c.is_set-5.ensures c.is_set-6.ensures c.is_set-7.ensures c.is_set-8.ensures
    c.in_ok-push_name.ensures c.in_ok-push_name-2.ensures c.in_ok-push_name-3.ensures c.in_ok-push_name-4.ensures
    c.in_ok-push_name-5.ensures c.in_ok-push_name-6.ensures c.in_ok-push_name-7.ensures c.in_ok-push_name-8.ensures
