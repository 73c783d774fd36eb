use Rattle.std.proofs.Common.{◌≡◌, ◌<◌, List, [], ◌∷◌, ◌++◌, ℕ, length, get_or, ap, ap₂, sym, subst, ◌∙◌, rules, arith}
use Rattle.std.proofs.lemmas.List.{get_or_read, map_more}
use Rattle.std.proofs.lemmas.List.Elements.{All-get_or}
use Rattle.viz_sheet.specs.Ranked.{rank_of}
use Rattle.viz_piece_stitch.specs.Steps.Walk.{ComeBefore}
use Rattle.viz_piece_stitch.proofs.WalkLemmas.{precede}
use Rattle.viz_piece_stitch.proofs.walk.ranks_by_walk.Goals as goal

pub first_from-at-requires : goal.first_from-at-requires
first_from-at-requires g c =
    let names = c.args.names.now in
    let i = c.loop-name.name-index in
    let l : i < length c.args.piece.now = c.loop-name-test.true in
    let read = get_or_read c.args.piece.now i c.name-item.result l c.name-item.is [] in
    (search rules, (c.requires.ascending, (c.loop-name.invariant.within, subst (ComeBefore names c.loop-name.at) (sym read) (c.loop-name.invariant.before i (omega arith) l))))

pub overflow_cast-at : goal.overflow_cast-at
overflow_cast-at g c =
    let names = c.args.names.now in
    let piece = c.args.piece.now in
    let i = c.loop-name.name-index in
    let l : i < length piece = c.loop-name-test.true in
    let read = get_or_read piece i c.name-item.result l c.name-item.is [] in
    let held = All-get_or (λ (n : List ℕ). rank_of names n < length names) piece i [] l c.requires.held in
    let rank : c.first_from-at.result ≡ rank_of names (get_or piece i []) = c.first_from-at.ensures.value ∙ ap (rank_of names) read in
    omega (arith, rank, held, c.requires.few)

pub loop-name-preserved : goal.loop-name-preserved
loop-name-preserved g c =
    let names = c.args.names.now in
    let piece = c.args.piece.now in
    let i = c.loop-name.name-index in
    let l : i < length piece = c.loop-name-test.true in
    let read = get_or_read piece i c.name-item.result l c.name-item.is [] in
    record {
      list = c.in_ok-push.ensures.items
          ∙ ap₂ (λ (a : List ℕ) (b : ℕ). a ++ b ∷ []) c.loop-name.invariant.list (c.first_from-at.ensures.value ∙ ap (rank_of names) read)
          ∙ sym (map_more (rank_of names) piece i [] l);
      within = c.first_from-at.ensures.within;
      before = λ j from below.
          precede names c.first_from-at.result piece i c.requires.rising l (subst (ComeBefore names c.first_from-at.result) read c.first_from-at.ensures.before) j (omega (arith, from)) below;
    }
