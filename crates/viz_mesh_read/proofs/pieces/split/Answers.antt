use Rattle.std.proofs.Common.{◌≡◌, ◌++◌, ◌∙◌, ap, List, ℕ, Result, Ok, Err}
use Rattle.std.specs.Prelude.{IfOk}
use Rattle.viz_mesh_read.specs.declared.pieces.PolyPieces.{PolyPieces}
use Rattle.viz_mesh_read.specs.Poly.{ByKind}
use Rattle.viz_mesh_read.specs.Pieces.{pieces_in, pieces_of}
use Rattle.viz_mesh_read.proofs.PieceLemmas.{pieces_in-list}
use Rattle.viz_mesh_read.proofs.pieces.split.Goals as goal

pub returns : goal.returns
returns c = record { numbers = c.all_pieces.ensures; pieces = λ all e. pieces_of_call all c.all_pieces.result c.all_pieces.ensures (ap pieces_in e ∙ pieces_in-list all) } where
  pieces_of_call : {E : Type 0} (all : ByKind (List (List ℕ))) (result : Result PolyPieces E) {in_numbers : List (List ℕ)} → IfOk result (λ p. p.vertices.items ++ (p.lines.items ++ p.triangles.items) ≡ in_numbers) → in_numbers ≡ pieces_of all
      → IfOk result (λ p. p.vertices.items ++ (p.lines.items ++ p.triangles.items) ≡ pieces_of all)
  pieces_of_call all (Ok p) h e = h ∙ e
  pieces_of_call all (Err x) h e = tt
