-- What holds of all lines holds of the rows of a report.
use Rattle.std.proofs.Common.{◌≡◌, ℕ, zero, suc, ◌+◌, Bool, true, false, ◌||◌, List, [], ◌∷◌, ◌++◌, refl, sym, ◌∙◌, true≢false}
use Rattle.std.specs.Prelude.{flat_map}
use Rattle.std.specs.List.{All, list_any}
use Rattle.std.proofs.lemmas.List.Elements.{All-nil, All-cons, All-head, All-tail, All-append}
use Rattle.std.proofs.lemmas.List.Folds.{list_any_none}
use Rattle.viz_report.specs.declared.line.Line.{Line}
use Rattle.viz_report.specs.declared.line.Row.{Row}
use Rattle.viz_report.specs.Report.{rows_from, phase_rows, next_counts, first_phase, later_phases, phases_rows}

-- ---- parts of lists

module _ {X : Type 0} (Q : X → Type 0) where
  pub front_all : (xs ys : List X) → All Q (xs ++ ys) → All Q xs
  front_all [] ys h = All-nil Q
  front_all (x ∷ xs) ys h = All-cons Q x xs (All-head Q x (xs ++ ys) h) (front_all xs ys (All-tail Q x (xs ++ ys) h))

  pub behind_all : (xs ys : List X) → All Q (xs ++ ys) → All Q ys
  behind_all [] ys h = h
  behind_all (x ∷ xs) ys h = behind_all xs ys (All-tail Q x (xs ++ ys) h)

  -- of the parts of a flat list
  pub parts_all : {Y : Type 0} (f : Y → List X) (ys : List Y) → All Q (flat_map f ys) → All (λ (y : Y). All Q (f y)) ys
  parts_all {Y} f [] h = All-nil (λ (y : Y). All Q (f y))
  parts_all {Y} f (y ∷ ys) h = All-cons (λ (z : Y). All Q (f z)) y ys (front_all (f y) (flat_map f ys) h) (parts_all f ys (behind_all (f y) (flat_map f ys) h))

-- ---- rows

-- Q: what holds of an actor's line
module _ (Q : ℕ → Line → Type 0) where
  -- it holds of the lines of a phase, by actors from this one on
  abbrev pub AllAt : ℕ → List (List Line) → Type 0
  AllAt actor [] = Unit {0}
  AllAt actor (ls ∷ lines) = All (Q actor) ls × AllAt (actor + 1) lines

  -- it holds of the lines of all phases
  abbrev pub AllBy : ℕ → List (List (List Line)) → Type 0
  AllBy actor [] = Unit {0}
  AllBy actor (phases ∷ told) = All (All (Q actor)) phases × AllBy (actor + 1) told

  abbrev pub OfRow : Row → Type 0
  OfRow r = Q r.actor r.line

  from_all : (actor count : ℕ) (ls : List Line) → All (Q actor) ls → All OfRow (rows_from actor count ls)
  from_all actor count [] h = All-nil OfRow
  from_all actor count (l ∷ ls) h =
      All-cons OfRow (record { actor = actor; count = count; line = l }) (rows_from actor (count + 1) ls) (All-head (Q actor) l ls h) (from_all actor (count + 1) ls (All-tail (Q actor) l ls h))

  phase_all : (actor : ℕ) (counts : List ℕ) (lines : List (List Line)) → AllAt actor lines → All OfRow (phase_rows actor counts lines)
  phase_all actor [] [] h = All-nil OfRow
  phase_all actor [] (ls ∷ lines) h = All-nil OfRow
  phase_all actor (count ∷ counts) [] h = All-nil OfRow
  phase_all actor (count ∷ counts) (ls ∷ lines) h =
      All-append OfRow (rows_from actor count ls) (phase_rows (actor + 1) counts lines) (from_all actor count ls h.0) (phase_all (actor + 1) counts lines h.1)

  first_all : (actor : ℕ) (told : List (List (List Line))) → AllBy actor told → AllAt actor (first_phase told)
  first_all actor [] h = tt
  first_all actor ([] ∷ told) h = (All-nil (Q actor), first_all (actor + 1) told h.1)
  first_all actor ((ls ∷ phases) ∷ told) h = (All-head (All (Q actor)) ls phases h.0, first_all (actor + 1) told h.1)

  later_all : (actor : ℕ) (told : List (List (List Line))) → AllBy actor told → AllBy actor (later_phases told)
  later_all actor [] h = tt
  later_all actor ([] ∷ told) h = (All-nil (All (Q actor)), later_all (actor + 1) told h.1)
  later_all actor ((ls ∷ phases) ∷ told) h = (All-tail (All (Q actor)) ls phases h.0, later_all (actor + 1) told h.1)

  pub rows_all : (phases : ℕ) (counts : List ℕ) (told : List (List (List Line))) → AllBy 1 told → All OfRow (phases_rows phases counts told)
  rows_all zero counts told h = All-nil OfRow
  rows_all (suc phases) counts told h =
      All-append OfRow (phase_rows 1 counts (first_phase told)) (phases_rows phases (next_counts counts (first_phase told)) (later_phases told))
      (phase_all 1 counts (first_phase told) (first_all 1 told h)) (rows_all phases (next_counts counts (first_phase told)) (later_phases told) (later_all 1 told h))

abbrev pub all_lines : List (List (List Line)) → List Line
all_lines told = flat_map (λ actor. flat_map (λ ls. ls) actor) told

-- what holds of all lines, whosever
by_all : (Q : Line → Type 0) (actor : ℕ) (told : List (List (List Line))) → All Q (all_lines told) → AllBy (λ (n : ℕ). Q) actor told
by_all Q actor [] h = tt
by_all Q actor (phases ∷ told) h = (
  parts_all Q (λ (ls : List Line). ls) phases (front_all Q (flat_map (λ (ls : List Line). ls) phases) (all_lines told) h),
  by_all Q (actor + 1) told (behind_all Q (flat_map (λ (ls : List Line). ls) phases) (all_lines told) h),
)

pub rows_hold : (Q : Line → Type 0) (phases : ℕ) (counts : List ℕ) (told : List (List (List Line))) → All Q (all_lines told) → All (λ (r : Row). Q r.line) (phases_rows phases counts told)
rows_hold Q phases counts told h = rows_all (λ (n : ℕ). Q) phases counts told (by_all Q 1 told h)

-- ---- tests

pub none_of : {X : Type 0} (p : X → Bool) (xs : List X) → list_any p xs ≡ false → All (λ (x : X). p x ≡ false) xs
none_of {X} p [] e = All-nil (λ (x : X). p x ≡ false)
none_of {X} p (x ∷ xs) e = by (p x) refl (none_of p xs) e
  where
    by : (b : Bool) → p x ≡ b → (list_any p xs ≡ false → All (λ (y : X). p y ≡ false) xs) → (b || list_any p xs) ≡ false → All (λ (y : X). p y ≡ false) (x ∷ xs)
    by true is more bad = absurd (true≢false bad)
    by false is more rest = All-cons (λ (y : X). p y ≡ false) x xs is (more rest)

-- where a row passes, a line passes
pub rows_pass : (p : Line → Bool) (phases : ℕ) (counts : List ℕ) (told : List (List (List Line))) → list_any (λ (r : Row). p r.line) (phases_rows phases counts told) ≡ true → list_any p (all_lines told) ≡ true
rows_pass p phases counts told some = by (list_any p (all_lines told)) refl
  where
    by : (b : Bool) → list_any p (all_lines told) ≡ b → b ≡ true
    by true e = refl
    by false e =
        let rows = phases_rows phases counts told in
        absurd (true≢false (sym some ∙ list_any_none (λ (r : Row). p r.line) rows (rows_hold (λ (l : Line). p l ≡ false) phases counts told (none_of p (all_lines told) e))))
