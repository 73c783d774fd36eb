-- The report of one actor.
use Rattle.std.proofs.Common.{◌≡◌, ℕ, ◌+◌, List, [], ◌∷◌, ◌++◌, length, append-nil, flat_map, refl, sym, ap, ◌∙◌, arith}
use Rattle.std.specs.List.{All}
use Rattle.std.proofs.lemmas.List.Elements.{All-nil, All-cons, All-head, All-tail}
use Rattle.viz_report.specs.declared.line.Line.{Line}
use Rattle.viz_report.specs.declared.line.Row.{Row}
use Rattle.viz_report.specs.Report.{HasNoLines, rows_from, phase_rows, next_counts, first_phase, later_phases, phases_rows, report_rows}

-- the rows of lines and of those behind them
rows_append : (actor count : ℕ) (ls ms : List Line) → rows_from actor count (ls ++ ms) ≡ rows_from actor count ls ++ rows_from actor (count + length ls) ms
rows_append actor count [] ms = ap (λ n. rows_from actor n ms) (let same : count ≡ count + 0 = omega arith in same)
rows_append actor count (l ∷ ls) ms =
    let first : Row = record { actor = actor; count = count; line = l } in
    ap (λ t. first ∷ t) (rows_append actor (count + 1) ls ms)
    ∙ ap (λ n. first ∷ (rows_from actor (count + 1) ls ++ rows_from actor n ms)) (let same : (count + 1) + length ls ≡ count + length (l ∷ ls) = omega arith in same)

-- actors without lines have none in the first phase
first_none : (others : List (List (List Line))) → All HasNoLines others → All (λ (ls : List Line). ls ≡ []) (first_phase others)
first_none [] h = All-nil _
first_none ([] ∷ os) h = All-cons (λ (ls : List Line). ls ≡ []) [] (first_phase os) refl (first_none os (All-tail HasNoLines [] os h))
first_none (([] ∷ phases) ∷ os) h = All-cons (λ (ls : List Line). ls ≡ []) [] (first_phase os) refl (first_none os (All-tail HasNoLines ([] ∷ phases) os h))
first_none (((l ∷ ls) ∷ phases) ∷ os) h =
    let none : length ((l ∷ ls) ++ flat_map (λ ms. ms) phases) ≡ 0 = ap length (All-head HasNoLines ((l ∷ ls) ∷ phases) os h) in
    absurd (omega (arith, none))

-- nor in the others
later_none : (others : List (List (List Line))) → All HasNoLines others → All HasNoLines (later_phases others)
later_none [] h = All-nil _
later_none ([] ∷ os) h = All-cons HasNoLines [] (later_phases os) refl (later_none os (All-tail HasNoLines [] os h))
later_none (([] ∷ phases) ∷ os) h =
    All-cons HasNoLines phases (later_phases os) (All-head HasNoLines ([] ∷ phases) os h) (later_none os (All-tail HasNoLines ([] ∷ phases) os h))
later_none (((l ∷ ls) ∷ phases) ∷ os) h =
    let none : length ((l ∷ ls) ++ flat_map (λ ms. ms) phases) ≡ 0 = ap length (All-head HasNoLines ((l ∷ ls) ∷ phases) os h) in
    absurd (omega (arith, none))

no_rows : (actor : ℕ) (counts : List ℕ) (lines : List (List Line)) → All (λ (ls : List Line). ls ≡ []) lines → phase_rows actor counts lines ≡ []
no_rows actor [] lines h = refl
no_rows actor (c ∷ cs) [] h = refl
no_rows actor (c ∷ cs) (ls ∷ lines) h =
    ap (λ t. rows_from actor c t ++ phase_rows (actor + 1) cs lines) (All-head (λ (ms : List Line). ms ≡ []) ls lines h)
    ∙ no_rows (actor + 1) cs lines (All-tail (λ (ms : List Line). ms ≡ []) ls lines h)

one_from : (count : ℕ) (counts : List ℕ) (phases : List (List Line)) (others : List (List (List Line))) → All HasNoLines others
    → phases_rows (length phases) (count ∷ counts) (phases ∷ others) ≡ rows_from 1 count (flat_map (λ ls. ls) phases)
one_from count counts [] others h = refl
one_from count counts (ls ∷ phases) others h =
    let rest : List Row = phases_rows (length phases) ((count + length ls) ∷ next_counts counts (first_phase others)) (phases ∷ later_phases others) in
    ap (λ t. (rows_from 1 count ls ++ t) ++ rest) (no_rows 2 counts (first_phase others) (first_none others h))
    ∙ ap (λ t. t ++ rest) (append-nil (rows_from 1 count ls))
    ∙ ap (λ t. rows_from 1 count ls ++ t) (one_from (count + length ls) (next_counts counts (first_phase others)) phases (later_phases others) (later_none others h))
    ∙ sym (rows_append 1 count ls (flat_map (λ ms. ms) phases))

pub one_actor : (phases : List (List Line)) (others : List (List (List Line))) → All HasNoLines others
    → report_rows (length phases) (phases ∷ others) ≡ rows_from 1 1 (flat_map (λ ls. ls) phases)
one_actor phases others h = one_from 1 _ phases others h
