use Rattle.std.proofs.Common.{◌≡◌, false, IsTrue, List, length, map, ap, sym, subst, ◌∙◌, rules}
use Rattle.viz_parts.specs.Parts.{PartSheetData}
use Rattle.viz_parts.specs.Pieces.{Covers}
use Rattle.viz_parts.specs.declared.request.Part.TheVariants.{Mesh}
use Rattle.viz_piece_filters.specs.Filters.{trimmed_part}
use Rattle.viz_piece_restrict.specs.Restricting.{IsRestriction, IsOneOfMany, IsSamePiece, IsSomeAnswer}
use Rattle.viz_piece_restrict.specs.Steps.Cuts.{ArePieces}
use Rattle.viz_piece_restrict.proofs.CutLemmas.{pieces-cut, some-pieces, some-trimmed, trimmed-cut}
use Rattle.viz_piece_restrict.proofs.restriction.restricted_mesh.Goals as goal

pub returns-then-is_same_piece-clause-ok : goal.returns-then-is_same_piece-clause-ok
returns-then-is_same_piece-clause-ok c =
    let kept = c.args.kept.now in
    let whole = Mesh c.args.parts.now in
    let cut = Mesh c.in_ok-cuts-in-Piece.cuts in
    let same : IsSamePiece kept c.args.wanted.now = c.is_same_piece.ensures.0 c.if-is_same_piece.true in
    subst (λ wanted. IsRestriction kept wanted whole cut) (sym c.in-Piece.is)
    (trimmed-cut kept c.in-Piece.p c.in-Piece.n c.in-Piece.ghosts whole cut (subst (IsSamePiece kept) c.in-Piece.is same) tt
    (c.in_ok-cuts-in-Piece.ensures ∙ ap (map (trimmed_part c.in-Piece.ghosts)) c.deref.ensures.value))

pub returns-clause-ok : goal.returns-clause-ok
returns-clause-ok c =
    let kept = c.args.kept.now in
    let whole = Mesh c.args.parts.now in
    let cut = Mesh c.in_ok-cuts-in-Piece-2.cuts in
    let other : IsSamePiece kept c.args.wanted.now → ⊥ =
    λ same. let yes : IsTrue c.is_same_piece.result = c.is_same_piece.ensures.1 same in let no : c.is_same_piece.result ≡ false = c.if-is_same_piece.false in search rules in
    subst (λ wanted. IsRestriction kept wanted whole cut) (sym c.in-Piece.is)
    (pieces-cut kept c.in-Piece.p c.in-Piece.n c.in-Piece.ghosts whole cut (subst (Covers kept) c.in-Piece.is c.requires.covers) (subst IsOneOfMany c.in-Piece.is c.requires.counted)
    (λ same. other (subst (IsSamePiece kept) (sym c.in-Piece.is) same)) tt
    (subst (λ (ps : List PartSheetData). ArePieces c.in-Piece.p c.in-Piece.n c.in-Piece.ghosts (length ps) ps c.in_ok-cuts-in-Piece-2.cuts.items) c.deref-in-Piece.ensures.value c.in_ok-cuts-in-Piece-2.ensures))

pub returns-then-is_same_piece-clause-answers : goal.returns-then-is_same_piece-clause-answers
returns-then-is_same_piece-clause-answers c =
    some-trimmed c.args.kept.now c.args.wanted.now (Mesh c.args.parts.now) (Mesh c.in_ok-cuts-in-Piece.cuts) c.requires.answers (c.is_same_piece.ensures.0 c.if-is_same_piece.true)
    (returns-then-is_same_piece-clause-ok c)

pub returns-clause-answers : goal.returns-clause-answers
returns-clause-answers c =
    subst (λ wanted. IsSomeAnswer wanted (Mesh c.in_ok-cuts-in-Piece-2.cuts)) (sym c.in-Piece.is)
    (some-pieces c.in-Piece.p c.in-Piece.n c.in-Piece.ghosts c.args.parts.now.items (Mesh c.in_ok-cuts-in-Piece-2.cuts) (subst IsOneOfMany c.in-Piece.is c.requires.counted) tt
    (subst (λ (ps : List PartSheetData). ArePieces c.in-Piece.p c.in-Piece.n c.in-Piece.ghosts (length ps) ps c.in_ok-cuts-in-Piece-2.cuts.items) c.deref-in-Piece.ensures.value c.in_ok-cuts-in-Piece-2.ensures))
