-- The rows of a report whose lines are of one actor alone count the accepted edits.
use Rattle.std.proofs.Common.{◌≡◌, ◌≢◌, ℕ, zero, suc, ◌+◌, ◌-◌, List, [], ◌∷◌, ◌++◌, append-nil, append_assoc, length, map, flat_map, slice_get, Some, refl, sym, ap, ap₂, subst, ◌∙◌, inl, inr, arith}
use Rattle.std.specs.Prelude.{◌⊎◌}
use Rattle.std.specs.List.{All}
use Rattle.std.proofs.lemmas.List.{length-map, map-append}
use Rattle.std.proofs.lemmas.List.Elements.{All-weaker}
use Rattle.viz_base.specs.declared.port.Port as port
use Rattle.viz_entries.specs.declared.entry.Entry.{Entry}
use Rattle.viz_script.specs.Orders.{Asked as Command}
use Rattle.viz_script.specs.Script.{Stepped}
use Rattle.viz_report.specs.declared.line.Line.{Line}
use Rattle.viz_report.specs.declared.line.Row.{Row}
use Rattle.viz_report.specs.Report.{rows_from, phase_rows, next_counts, first_phase, later_phases, phases_rows, report_rows}
use Rattle.viz_account.specs.Account.{edited, AreActors, IsAccountOf}
use Rattle.viz_account.specs.Laws.{CountEdits, AsksAlone, LinesCountEdits}
use Rattle.viz_account.proofs.ScriptLemmas.{no_lines}
use Rattle.viz_actor.specs.Groups.{numbers, by_phase, by_actor}
use Rattle.viz_actor.proofs.ReportRowLemmas.{all_lines}
use Rattle.viz_actor.proofs.IdleLemmas.{none_by, at_number}

-- ---- lists

nil_left : {X : Type 0} (xs ys : List X) → xs ++ ys ≡ [] → xs ≡ []
nil_left [] ys e = refl
nil_left (x ∷ xs) ys e = let bad : ⊥ = cc in absurd bad

nil_right : {X : Type 0} (xs ys : List X) → xs ++ ys ≡ [] → ys ≡ []
nil_right [] ys e = e
nil_right (x ∷ xs) ys e = let bad : ⊥ = cc in absurd bad

-- parts of which the later ones are none, and parts of which the first are
none_behind : {X : Type 0} (a b f l c : List X) → f ≡ [] → l ≡ [] → c ≡ [] → (a ++ f) ++ (b ++ l) ≡ (a ++ b) ++ c
none_behind a b f l c no_f no_l no_c =
    ap₂ (λ x y. (a ++ x) ++ (b ++ y)) no_f no_l
    ∙ ap₂ (λ x y. x ++ y) (append-nil a) (append-nil b)
    ∙ sym (append-nil (a ++ b)) ∙ ap (λ z. (a ++ b) ++ z) (sym no_c)

none_before : {X : Type 0} (a b f l c : List X) → a ≡ [] → b ≡ [] → f ++ l ≡ c → (a ++ f) ++ (b ++ l) ≡ (a ++ b) ++ c
none_before a b f l c no_a no_b is =
    ap₂ (λ x y. (x ++ f) ++ (y ++ l)) no_a no_b ∙ is ∙ sym (ap₂ (λ x y. (x ++ y) ++ c) no_a no_b)

-- ---- lines of one actor alone

abbrev pub flat : List (List Line) → List Line
flat lines = flat_map (λ ls. ls) lines

-- no two actors have lines
abbrev Solo : List (List (List Line)) → Type 0
Solo [] = Unit {0}
Solo (phases ∷ told) = ((all_lines told ≡ []) ⊎ (flat phases ≡ [])) × Solo told

solo_none : (told : List (List (List Line))) → all_lines told ≡ [] → Solo told
solo_none [] none = tt
solo_none (phases ∷ told) none =
    (inr (nil_left (flat phases) (all_lines told) none), solo_none told (nil_right (flat phases) (all_lines told) none))

first_none : (told : List (List (List Line))) → all_lines told ≡ [] → flat (first_phase told) ≡ []
first_none [] none = refl
first_none ([] ∷ told) none = first_none told none
first_none ((ls ∷ phases) ∷ told) none =
    let mine = nil_left (flat (ls ∷ phases)) (all_lines told) none in
    ap₂ (λ x y. x ++ y) (nil_left ls (flat phases) mine) (first_none told (nil_right (flat (ls ∷ phases)) (all_lines told) none))

later_none : (told : List (List (List Line))) → all_lines told ≡ [] → all_lines (later_phases told) ≡ []
later_none [] none = refl
later_none ([] ∷ told) none = later_none told none
later_none ((ls ∷ phases) ∷ told) none =
    let mine = nil_left (flat (ls ∷ phases)) (all_lines told) none in
    ap₂ (λ x y. x ++ y) (nil_right ls (flat phases) mine) (later_none told (nil_right (flat (ls ∷ phases)) (all_lines told) none))

later_solo : (told : List (List (List Line))) → Solo told → Solo (later_phases told)
later_solo [] s = tt
later_solo ([] ∷ told) s = (inr refl, later_solo told s.1)
later_solo ((ls ∷ phases) ∷ told) s = (by s.0, later_solo told s.1)
  where
    by : (all_lines told ≡ []) ⊎ (flat (ls ∷ phases) ≡ []) → (all_lines (later_phases told) ≡ []) ⊎ (flat phases ≡ [])
    by (inl none) = inl (later_none told none)
    by (inr mine) = inr (nil_right ls (flat phases) mine)

phases_in_turn : (told : List (List (List Line))) → Solo told → flat (first_phase told) ++ all_lines (later_phases told) ≡ all_lines told
phases_in_turn [] s = refl
phases_in_turn ([] ∷ told) s = phases_in_turn told s.1
phases_in_turn ((ls ∷ phases) ∷ told) s = by s.0 (phases_in_turn told s.1)
  where
    by : (all_lines told ≡ []) ⊎ (flat (ls ∷ phases) ≡ [])
        → flat (first_phase told) ++ all_lines (later_phases told) ≡ all_lines told
        → (ls ++ flat (first_phase told)) ++ (flat phases ++ all_lines (later_phases told)) ≡ (ls ++ flat phases) ++ all_lines told
    by (inl none) rest =
        none_behind ls (flat phases) (flat (first_phase told)) (all_lines (later_phases told)) (all_lines told)
        (first_none told none) (later_none told none) none
    by (inr mine) rest =
        none_before ls (flat phases) (flat (first_phase told)) (all_lines (later_phases told)) (all_lines told)
        (nil_left ls (flat phases) mine) (nil_right ls (flat phases) mine) rest

-- ---- their rows

abbrev lines_in : List Row → List Line
lines_in rows = map (λ r. r.line) rows

from_lines : (actor count : ℕ) (ls : List Line) → lines_in (rows_from actor count ls) ≡ ls
from_lines actor count [] = refl
from_lines actor count (l ∷ ls) = ap (λ t. l ∷ t) (from_lines actor (count + 1) ls)

phase_lines : (actor : ℕ) (counts : List ℕ) (lines : List (List Line)) → length counts ≡ length lines
    → lines_in (phase_rows actor counts lines) ≡ flat lines
phase_lines actor [] [] e = refl
phase_lines actor [] (ls ∷ lines) e = let bad : ⊥ = omega (arith, e) in absurd bad
phase_lines actor (count ∷ counts) [] e = let bad : ⊥ = omega (arith, e) in absurd bad
phase_lines actor (count ∷ counts) (ls ∷ lines) e =
    map-append (λ (r : Row). r.line) (rows_from actor count ls) (phase_rows (actor + 1) counts lines)
    ∙ ap₂ (λ x y. x ++ y) (from_lines actor count ls) (phase_lines (actor + 1) counts lines (omega (arith, e)))

next_length : (counts : List ℕ) (lines : List (List Line)) → length counts ≡ length lines → length (next_counts counts lines) ≡ length lines
next_length [] [] e = refl
next_length [] (ls ∷ lines) e = let bad : ⊥ = omega (arith, e) in absurd bad
next_length (count ∷ counts) [] e = let bad : ⊥ = omega (arith, e) in absurd bad
next_length (count ∷ counts) (ls ∷ lines) e = ap (λ n. suc n) (next_length counts lines (omega (arith, e)))

first_length : (told : List (List (List Line))) → length (first_phase told) ≡ length told
first_length [] = refl
first_length ([] ∷ told) = ap (λ n. suc n) (first_length told)
first_length ((ls ∷ phases) ∷ told) = ap (λ n. suc n) (first_length told)

later_length : (told : List (List (List Line))) → length (later_phases told) ≡ length told
later_length [] = refl
later_length ([] ∷ told) = ap (λ n. suc n) (later_length told)
later_length ((ls ∷ phases) ∷ told) = ap (λ n. suc n) (later_length told)

-- the lines of the rows of so many phases begin all lines
rows_begin : (phases : ℕ) (counts : List ℕ) (told : List (List (List Line))) → length counts ≡ length told → Solo told
    → (rest : List Line) × (lines_in (phases_rows phases counts told) ++ rest ≡ all_lines told)
rows_begin zero counts told e s = (all_lines told, refl)
rows_begin (suc phases) counts told e s =
    let first = first_phase told in
    let later = later_phases told in
    let next = next_counts counts first in
    let same : length counts ≡ length first = e ∙ sym (first_length told) in
    let r = rows_begin phases next later (next_length counts first same ∙ first_length told ∙ sym (later_length told)) (later_solo told s) in (
      r.0,
      ap (λ t. t ++ r.0) (map-append (λ (x : Row). x.line) (phase_rows 1 counts first) (phases_rows phases next later))
          ∙ append_assoc (lines_in (phase_rows 1 counts first)) (lines_in (phases_rows phases next later)) r.0
          ∙ ap₂ (λ x y. x ++ y) (phase_lines 1 counts first same) r.1
          ∙ phases_in_turn told s,
    )

front_counts : (n : ℕ) (xs ys : List Line) → CountEdits n (xs ++ ys) → CountEdits n xs
front_counts n [] ys h = tt
front_counts n (x ∷ xs) ys h = (h.0, front_counts (n + length (edited x)) xs ys h.1)

-- ---- the account

module _ {P : Type 0} (m : port.Ghosts P) (limit : ℕ) (h : List Entry) (ends : List ℕ) where
  none_told : (passes : List (List ℕ)) (script : List (List (List Command))) (told : List (List (List Line))) (before after : List P)
      → AreActors m limit h passes script told ends before after
      → ((j : ℕ) (phases : List (List Command)) → slice_get script j ≡ Some phases → flat_map (λ os. os) phases ≡ [])
      → all_lines told ≡ []
  none_told [] [] [] before after a idle = refl
  none_told [] [] (l ∷ told) before after a idle = absurd a
  none_told [] (s ∷ script) told before after a idle = absurd a
  none_told (p ∷ passes) [] told before after a idle = absurd a
  none_told (p ∷ passes) (s ∷ script) [] before after a idle = absurd a
  none_told (p ∷ passes) (s ∷ script) (l ∷ told) [] after a idle = absurd a
  none_told (p ∷ passes) (s ∷ script) (l ∷ told) (b ∷ before) [] a idle = absurd a
  none_told (p ∷ passes) (s ∷ script) (l ∷ told) (b ∷ before) (c ∷ after) a idle =
      ap₂ (λ x y. x ++ y) (no_lines limit h p s l ends a.0.gained.0 a.0.gained.2 (idle 0 s refl))
      (none_told passes script told before after a.1 (λ j phases at. idle (suc j) phases at))

  -- where the lines of an actor who alone has commands count, all lines do
  abbrev CountsAll : ℕ → List (List (List Line)) → Type 0
  CountsAll i told = ((mine : List (List Line)) → slice_get told i ≡ Some mine → CountEdits 0 (flat mine)) → CountEdits 0 (all_lines told)

  solo_told : (i : ℕ) (passes : List (List ℕ)) (script : List (List (List Command))) (told : List (List (List Line))) (before after : List P)
      → AreActors m limit h passes script told ends before after → AsksAlone i script → Solo told × CountsAll i told
  solo_told i [] [] [] before after a idle = (tt, λ counts. tt)
  solo_told i [] [] (l ∷ told) before after a idle = absurd a
  solo_told i [] (s ∷ script) told before after a idle = absurd a
  solo_told i (p ∷ passes) [] told before after a idle = absurd a
  solo_told i (p ∷ passes) (s ∷ script) [] before after a idle = absurd a
  solo_told i (p ∷ passes) (s ∷ script) (l ∷ told) [] after a idle = absurd a
  solo_told i (p ∷ passes) (s ∷ script) (l ∷ told) (b ∷ before) [] a idle = absurd a
  solo_told zero (p ∷ passes) (s ∷ script) (l ∷ told) (b ∷ before) (c ∷ after) a idle =
      let none = none_told passes script told before after a.1 (λ j phases at. idle (suc j) phases at (λ e. let bad : ⊥ = cc in bad)) in (
        (inl none, solo_none told none),
        λ counts. subst (CountEdits 0) (sym (ap (λ t. flat l ++ t) none ∙ append-nil (flat l))) (counts l refl),
      )
  solo_told (suc i) (p ∷ passes) (s ∷ script) (l ∷ told) (b ∷ before) (c ∷ after) a idle =
      let mine = no_lines limit h p s l ends a.0.gained.0 a.0.gained.2 (idle 0 s refl (λ e. let bad : ⊥ = cc in bad)) in
      let r = solo_told i passes script told before after a.1
      (λ j phases at apart. idle (suc j) phases at (λ e. apart (let down : j ≡ i = omega (arith, e) in down))) in
      ((inr mine, r.0), λ counts. subst (CountEdits 0) (sym (ap (λ t. t ++ all_lines told) mine)) (r.1 counts))

-- an actor whose steps are all asks alone
asks_alone : (actors phases actor : ℕ) (steps : List Stepped) → All (λ (s : Stepped). s.actor ≡ actor) steps
    → AsksAlone (actor - 1) (by_actor actors phases steps)
asks_alone actors phases actor steps one = λ j mine at apart.
    ap (λ ps. flat_map (λ (os : List Command). os) ps) (at_number (by_phase phases steps) actors 1 j mine at)
    ∙ none_by steps (j + 1)
    (All-weaker (λ (s : Stepped). s.actor ≡ actor) (λ (s : Stepped). s.actor ≢ j + 1)
    (λ s is same. apart (let e : j ≡ actor - 1 = omega (arith, is, same) in e)) steps one)
    (numbers phases 1)

pub rows_count : {P : Type 0} (m : port.Ghosts P) (limit actors phases : ℕ) (steps : List Stepped) (rows : List Row) (h : List Entry)
    (told : List (List (List Line))) (before after : List P) → LinesCountEdits m
    → IsAccountOf m limit (by_actor actors phases steps) h told before after → rows ≡ report_rows phases told
    → (actor : ℕ) → All (λ (s : Stepped). s.actor ≡ actor) steps → CountEdits 0 (map (λ (r : Row). r.line) rows)
rows_count m limit actors phases steps rows h told before after counts a rows_are actor one =
    let script = by_actor actors phases steps in
    let alone = asks_alone actors phases actor steps one in
    let t = solo_told m limit h a.ends (actor - 1) a.passes script told before after a.actors alone in
    let ones = map (λ (phases : List (List Line)). 1) told in
    let f = rows_begin phases ones told (length-map told (λ (phases : List (List Line)). 1)) t.0 in
    let all = t.1 (λ mine at. counts limit script h told before after a (actor - 1) alone mine at) in
    subst (λ (x : List Row). CountEdits 0 (map (λ (r : Row). r.line) x)) (sym rows_are)
    (front_counts 0 (lines_in (phases_rows phases ones told)) f.0 (subst (CountEdits 0) (sym f.1) all))
