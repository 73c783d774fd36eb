-- The names of the cells in a cell: those of its cut edges.
use Rattle.std.proofs.Common.{◌≡◌, ◌≢◌, ℕ, ◌<◌, Bool, List, [], length, get_or, ⊎_elim, refl, sym, ap, ap₂, subst, ◌∙◌, arith}
use Rattle.std.specs.List.{All, Contains, flat_map}
use Rattle.std.proofs.lemmas.Bool.{cases_order}
use Rattle.std.proofs.lemmas.List.{get_or_default}
use Rattle.std.proofs.lemmas.List.Elements.{Contains-get_or}
use Rattle.viz_fraction.specs.CaseRows.{End}
use Rattle.viz_sheet.specs.Sheet.{IsNamedCell}
use Rattle.viz_meaning.specs.Names.{edge_name}
use Rattle.viz_meaning.specs.Section.{cells_in, end_name}
use Rattle.viz_meaning.proofs.EndLemmas.{IsNamedEnd, by-ends, end-used}
use Rattle.viz_meaning.proofs.NameSets.{edge-turned}
use Rattle.viz_cells.specs.CellNames.{NamesCutEdge}

-- an end's name is that of a cut edge
cut-edge : (inside : List ℕ → Bool) (cell : List (List ℕ)) (e : End) → IsNamedEnd inside cell e
    → NamesCutEdge inside cell (end_name cell e)
cut-edge inside cell e h = record {
  m = get_or cell e.low [];
  n = get_or cell e.high [];
  has_m = Contains-get_or cell e.low [] (omega (arith, h.order, h.within));
  has_n = Contains-get_or cell e.high [] h.within;
  apart = h.apart;
  is = refl;
}

pub cut-edges : (inside : List ℕ → Bool) (cell : List (List ℕ)) → IsNamedCell cell
    → All (All (NamesCutEdge inside cell)) (cells_in inside cell)
cut-edges inside cell h = by-ends (NamesCutEdge inside cell) inside cell h (cut-edge inside cell)

-- where two names of a cell stand, one of them inside, their edge has its name
between : (inside : List ℕ → Bool) (cell : List (List ℕ)) (i j : ℕ) → IsNamedCell cell → i < j → j < length cell
    → inside (get_or cell i []) ≢ inside (get_or cell j [])
    → Contains (flat_map (λ piece. piece) (cells_in inside cell)) (edge_name (get_or cell i []) (get_or cell j []))
between inside cell i j h order within apart =
    end-used inside cell (record { low = i; high = j }) h (record { order = order; within = within; apart = apart })

-- in one order or the other
either-way : (inside : List ℕ → Bool) (cell : List (List ℕ)) (i j : ℕ) → IsNamedCell cell → i < length cell → j < length cell
    → inside (get_or cell i []) ≢ inside (get_or cell j [])
    → Contains (flat_map (λ piece. piece) (cells_in inside cell)) (edge_name (get_or cell i []) (get_or cell j []))
either-way inside cell i j h il jl apart =
    ⊎_elim
    (λ (same : i ≡ j). absurd (apart (ap (λ k. inside (get_or cell k [])) same)))
    (λ rest. ⊎_elim
    (λ (up : i < j). between inside cell i j h up jl apart)
    (λ (down : j < i).
    subst (Contains (flat_map (λ piece. piece) (cells_in inside cell)))
    (edge-turned (get_or cell j []) (get_or cell i []))
    (between inside cell j i h down il (λ e. apart (sym e))))
    rest)
    (cases_order i j)

-- a name among others stands somewhere, whatever stands behind the last one
stands : (cell : List (List ℕ)) (m : List ℕ) (k : Contains cell m) → get_or cell k.0 [] ≡ m
stands cell m k = get_or_default cell k.0 [] m k.1 ∙ k.2

pub cut-named : (inside : List ℕ → Bool) (cell : List (List ℕ)) (name : List ℕ) → IsNamedCell cell → NamesCutEdge inside cell name
    → Contains (flat_map (λ piece. piece) (cells_in inside cell)) name
cut-named inside cell name h e =
    let a = stands cell e.m e.has_m in
    let b = stands cell e.n e.has_n in
    subst (Contains (flat_map (λ piece. piece) (cells_in inside cell)))
    (ap₂ edge_name a b ∙ sym e.is)
    (either-way inside cell e.has_m.0 e.has_n.0 h e.has_m.1 e.has_n.1 (λ same. e.apart (ap inside (sym a) ∙ same ∙ ap inside b)))
