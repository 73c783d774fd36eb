use Rattle.std.proofs.Common.{refl, true, false}
use Rattle.viz_network.specs.Steps.Marks.{is_kept}
use Rattle.viz_network.proofs.PartLemmas.{parts_long}
use Rattle.viz_network.proofs.part.part.Goals as goal

pub copy_from_slice-requires : goal.copy_from_slice-requires
copy_from_slice-requires c =
    parts_long (is_kept true c.args.nodes.now.entries c.args.marks.now) (is_kept false c.args.nodes.now.entries c.args.marks.now) (λ x. refl)
    c.args.order.now _ _ _ c.keep-early.ensures.value refl c.keep-all.ensures.value
