use Rattle.std.proofs.Common.{◌++◌, ◌∷◌, [], ◌∙◌, ℕ, List, ap, arith}
use Rattle.viz_strip.proofs.RowLemmas.{rows-push}
use Rattle.viz_strip.proofs.rows.Rows.push.Goals as goal

pub returns : goal.returns
returns c =
    let old = c.self.inside in
    let row = c.args.row.now in
    record {
      value =
          rows-push old.names.items c.extend_from_slice.new.self.items row old.spans.items c.push.new.self.items c.len-start.result c.len-end.result c.self.invariant
          c.in_ok-extend_from_slice.ensures.items c.in_ok-push.ensures.items (omega (arith, c.len-start.ensures, old.names.ok.0)) (omega (arith, c.len-end.ensures, c.extend_from_slice.new.self.ok.0))
          ∙ ap (λ (rows : List (List ℕ)). rows ++ row ∷ []) c.self.view_is;
    }
