use Rattle.std.proofs.Common.{◌<◌, ap, arith, get_or, length, sym, ◌∙◌}
use Rattle.viz_boundary.proofs.SlotLemmas.{put-free}
use Rattle.viz_boundary.proofs.slots.Slots.put.Goals as goal

pub returns-then-is_free : goal.returns-then-is_free
returns-then-is_free c =
    let s = c.args.self.now in
    let at = c.next_slot-at.result in
    let within : at < length s.keys.items = omega (arith, c.is_free.ensures.within c.if-is_free.true, ap length c.deref.ensures.value) in
    put-free s.keys.items s.rest.items at c.args.key within
    (ap (λ ks. get_or ks at 0) (sym c.deref.ensures.value) ∙ c.is_free.ensures.free c.if-is_free.true)
    (c.is_free.ensures.key c.if-is_free.true)
