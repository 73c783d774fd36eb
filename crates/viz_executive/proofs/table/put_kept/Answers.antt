use Rattle.std.proofs.Common.{refl, subst, sym}
use Rattle.viz_kept.specs.True.{HasStamp}
use Rattle.viz_network.specs.Cone.{cone_of}
use Rattle.viz_executive.specs.Steps.Tables.{IsExactItem}
use Rattle.viz_executive.proofs.table.put_kept.Goals as goal

pub returns : goal.returns
returns c =
    let net = c.args.ground.now.sites.net in
    let item = c.args.item.now in
    let stamp = subst (λ n. HasStamp n item.key) c.requires.stamps (c.if-not-is_present.ensures refl) in
    let exact = c.served_parts_are_cut.ensures.exact (cone_of net item.key.node.0) item.key.request item.part (c.requires.item.part stamp) in
    c.in_ok-put.ensures net c.requires.table (subst (IsExactItem net) (sym c.in_ok-copied.ensures) (record { exact = exact }))
