use Rattle.std.proofs.Common.{◌≡◌, true, false, nat_eq, not, length, drop, sym, subst, ap, ◌∙◌, arith}
use Rattle.viz_network.specs.Cone.{either, has_node, cone_of}
use Rattle.viz_network.specs.Steps.Order.{parted, comes_first}
use Rattle.viz_network.specs.Steps.Marks.{IsTold, is_marked}
use Rattle.viz_network.proofs.ConnectLemmas.{no_cycle}
use Rattle.viz_network.proofs.PartedLemmas.{marked_late, order_parted, parted_first, parted_long, written}
use Rattle.viz_network.proofs.way.make_way.Goals as goal

pub returns-then-stands_before-clause-free : goal.returns-then-stands_before-clause-free
returns-then-stands_before-clause-free c =
    let net = c.args.nodes.now.entries in
    let first : comes_first c.args.source.0 c.args.target.0 c.args.order.now.items ≡ true =
    ap (comes_first c.args.source.0 c.args.target.0) (sym c.deref.ensures.value) ∙ sym c.stands_before.ensures ∙ c.if-stands_before.true in
    sym (ap not (no_cycle net c.args.target.0 c.args.source.0 c.args.order.now.items c.requires.order first))

pub returns-then-mark_of-clause-free : goal.returns-then-mark_of-clause-free
returns-then-mark_of-clause-free c =
    let net = c.args.nodes.now.entries in
    let marks = c.marks_below-marks.result in
    let known = subst (λ l. IsTold either false (λ n. nat_eq c.args.target.0 n.id.0) net l (length l) marks) c.deref-2.ensures.value c.marks_below-marks.ensures in
    let late : has_node c.args.target.0 (cone_of net c.args.source.0) ≡ true =
    sym (marked_late net c.args.order.now.items c.requires.order c.args.target marks known c.args.source c.requires.source) ∙ sym c.mark_of.ensures ∙ c.if-mark_of.true in
    sym (ap not late)

pub returns-clause-free : goal.returns-clause-free
returns-clause-free c =
    let net = c.args.nodes.now.entries in
    let marks = c.marks_below-marks.result in
    let known = subst (λ l. IsTold either false (λ n. nat_eq c.args.target.0 n.id.0) net l (length l) marks) c.deref-2.ensures.value c.marks_below-marks.ensures in
    let early : has_node c.args.target.0 (cone_of net c.args.source.0) ≡ false =
    sym (marked_late net c.args.order.now.items c.requires.order c.args.target marks known c.args.source c.requires.source) ∙ sym c.mark_of.ensures ∙ c.if-mark_of.false in
    sym (ap not early)

pub returns-clause-order : goal.returns-clause-order
returns-clause-order c =
    let net = c.args.nodes.now.entries in
    let marks = c.marks_below-marks.result in
    let known = subst (λ l. IsTold either false (λ n. nat_eq c.args.target.0 n.id.0) net l (length l) marks) c.deref-2.ensures.value c.marks_below-marks.ensures in
    let parts : c.part.new.order ≡ parted (is_marked net marks) c.args.order.now.items = c.part.ensures ∙ ap (parted (is_marked net marks)) c.deref_mut.ensures.value in
    let long : length c.part.new.order ≡ c.args.order.now.len =
    omega (arith, ap length parts, parted_long (is_marked net marks) c.args.order.now.items, c.deref.ensures.len, ap length c.deref.ensures.value) in
    rw (written c.args.order.now.len c.part.new.order (drop (length c.part.new.order) c.args.order.now.items) long, parts)
    (order_parted net c.args.order.now.items c.requires.order c.args.target marks known)

pub returns-clause-first : goal.returns-clause-first
returns-clause-first c =
    let net = c.args.nodes.now.entries in
    let marks = c.marks_below-marks.result in
    let known = subst (λ l. IsTold either false (λ n. nat_eq c.args.target.0 n.id.0) net l (length l) marks) c.deref-2.ensures.value c.marks_below-marks.ensures in
    let parts : c.part.new.order ≡ parted (is_marked net marks) c.args.order.now.items = c.part.ensures ∙ ap (parted (is_marked net marks)) c.deref_mut.ensures.value in
    let long : length c.part.new.order ≡ c.args.order.now.len =
    omega (arith, ap length parts, parted_long (is_marked net marks) c.args.order.now.items, c.deref.ensures.len, ap length c.deref.ensures.value) in
    rw (written c.args.order.now.len c.part.new.order (drop (length c.part.new.order) c.args.order.now.items) long, parts)
    (λ t. parted_first net c.args.order.now.items c.requires.order c.args.target marks known c.args.source c.requires.source c.requires.target (sym c.mark_of.ensures ∙ c.if-mark_of.false))
