use Rattle.std.proofs.Common.{◌≡◌, ◌<◌, ◌≤◌, ◌*◌, ◌-◌, ◌/◌, ◌%◌, length, subst, List, ℕ, arith}
use Rattle.std.proofs.lemmas.Grind.{common_steps}
use Rattle.std.proofs.lemmas.Nat.{div-add-mod'}
use Rattle.viz_column.specs.Kinds.{size_of}
use Rattle.viz_lex.specs.Reading.{rest_of}
use Rattle.viz_offset_cells.specs.Blocks.{AreStepsIn}
use Rattle.viz_offset_cells.proofs.BlockLoops.{steps-next}
use Rattle.viz_offset_cells.proofs.steps.next_step.Goals as goal

pub returns : goal.returns
returns c =
    let cells = c.args.most - 1 in
    let step = c.args.indices / cells in
    let wide : size_of c.args.kind ≡ 8 = search (arith, common_steps) in
    let some : 0 < c.args.most = search (arith, common_steps) in
    let none : c.args.indices % cells ≡ 0 = search (arith, common_steps) in
    let sum : step * cells ≡ c.args.indices = let whole = div-add-mod' c.args.indices cells in omega (arith, whole, none) in
    let room : 8 * c.args.most ≤ length c.rest-left.result.now = search (arith, common_steps) in
    let are : AreStepsIn 0 step c.args.most c.rest-left.result.now = search (arith, common_steps) in
    let left : c.rest-left.result.now ≡ rest_of c.args.lexer.now = c.rest-left.ensures in
    steps-next c.args.kind c.args.most c.args.indices step c.args.lexer.now wide some sum c.requires.within (subst (λ (l : List ℕ). 8 * c.args.most ≤ length l) left room) (subst (λ (l : List ℕ). AreStepsIn 0 step c.args.most l) left are)
