use Rattle.std.proofs.Common.{◌<◌, ◌++◌, ◌∷◌, [], ◌∙◌, ℕ, List, length, get_or, set, true, ap, arith}
use Rattle.std.proofs.Math.ListN.{length-set}
use Rattle.viz_strip.specs.Steps.Marks.{left}
use Rattle.viz_strip.proofs.GrowthLemmas.{kept-set, made-one, ready-kept}
use Rattle.viz_strip.proofs.MarkLemmas.{left-head}
use Rattle.viz_strip.proofs.choice.choose.Goals as goal

pub strip_from-requires-clause-ready : goal.strip_from-requires-clause-ready
strip_from-requires-clause-ready c =
    let marks = c.args.marks.now in
    let i = c.args.index in
    let below : i < length marks = omega (arith, c.requires.within, c.requires.ready.mark_size) in
    ready-kept c.args.triangles.now marks (set marks i true) c.args.links.now.firsts.items c.args.links.now.nexts.items (length-set marks i true) (kept-set marks i below) c.requires.ready

pub returns-clause-made : goal.returns-clause-made
returns-clause-made c =
    let ts = c.args.triangles.now in
    let marks = c.args.marks.now in
    let i = c.args.index in
    let rows = c.args.rows.now in
    made-one (left marks ts) (left c.strip_from.new.marks ts) (get_or ts i []) (left (set marks i true) ts) rows c.push.new.self c.strip_from.new.row.items
    (left-head ts marks i c.requires.ready.mark_size c.requires.within c.if-marks-index.false c.requires.taken.each) c.in_ok-strip_from.ensures.value
    (c.in_ok-push.ensures.value ∙ ap (λ (r : List ℕ). rows ++ r ∷ []) c.deref.ensures.value)
