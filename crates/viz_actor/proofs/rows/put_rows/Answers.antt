use Rattle.std.proofs.Common.{◌≡◌, ◌+◌, ◌++◌, ◌∷◌, [], take, length, length-append, append_assoc, vec_len, sym, ap, ◌∙◌, arith}
use Rattle.std.proofs.lemmas.List.{take_more, length-take}
use Rattle.viz_report.specs.Report.{rows_from}
use Rattle.viz_actor.proofs.RowLemmas.{rows-snoc}
use Rattle.viz_actor.proofs.rows.put_rows.Goals as goal

pub push_reserved-requires : goal.push_reserved-requires
push_reserved-requires c =
    let len : vec_len c.loop-i.rows ≡ length c.loop-i.rows.items = search arith in
    omega (arith, len, c.loop-i.invariant.len, c.loop-i.invariant.capacity, c.requires.room, c.loop-i-test.true)

pub loop-i-preserved : goal.loop-i-preserved
loop-i-preserved c =
    let i = c.loop-i.i in
    let lines = c.args.lines.now in
    let line = c.index-lines-i.result in
    let first = c.args.told + 1 in
    let inv = c.loop-i.invariant in
    let front : take (i + 1) lines ≡ take i lines ++ line ∷ [] = take_more lines i line c.loop-i-test.true ∙ ap (λ l. take i lines ++ l ∷ []) (sym c.index-lines-i.is) in
    let count : first + length (take i lines) ≡ c.args.told + i + 1 = omega (arith, length-take i lines, c.loop-i-test.true) in
    let rows = ap (rows_from c.args.actor first) front ∙ rows-snoc c.args.actor first (take i lines) line in
    record {
      rows = c.push_reserved.ensures.items ∙ ap (λ l. l ++ record { actor = c.args.actor; count = c.args.told + i + 1; line = line } ∷ []) inv.rows
          ∙ append_assoc c.args.rows.now.items (rows_from c.args.actor first (take i lines)) (record { actor = c.args.actor; count = c.args.told + i + 1; line = line } ∷ [])
          ∙ ap (λ l. c.args.rows.now.items ++ l) (ap (λ n. rows_from c.args.actor first (take i lines) ++ record { actor = c.args.actor; count = n; line = line } ∷ []) (sym count) ∙ sym rows);
      len = ap length c.push_reserved.ensures.items ∙ length-append c.loop-i.rows.items (record { actor = c.args.actor; count = c.args.told + i + 1; line = line } ∷ []) ∙ omega (arith, inv.len);
      capacity = c.push_reserved.ensures.capacity ∙ inv.capacity;
    }
