-- The actor of each entry is that of the row that tells it.
use Rattle.std.proofs.Common.{◌≡◌, ℕ, zero, suc, ◌+◌, ◌<◌, Bool, true, false, List, [], ◌∷◌, length, map, refl, ap, subst, ◌∙◌, slice_get, Some, arith}
use Rattle.std.specs.Prelude.{if◌then◌else◌, flat_map}
use Rattle.std.specs.List.{All}
use Rattle.std.proofs.lemmas.List.{length-map}
use Rattle.std.proofs.lemmas.List.Elements.{All-nil, All-cons, All-weaker}
use Rattle.viz_turn.specs.Tales.{has, once}
use Rattle.viz_entries.specs.declared.entry.Entry.{Entry}
use Rattle.viz_report.specs.declared.line.Line.{Line}
use Rattle.viz_report.specs.declared.line.Row.{Row}
use Rattle.viz_report.specs.Report.{phases_rows}
use Rattle.viz_account.specs.Account.{edited, places_from, places}
use Rattle.viz_actor.specs.Journals.{actor_with}
use Rattle.viz_actor.specs.Numbering.{actors_of, TellsActor}
use Rattle.viz_actor.proofs.NumberLemmas.{all_of, once_behind, once_apart, first_has, behind_has}
use Rattle.viz_actor.proofs.ReportRowLemmas.{AllBy, OfRow, parts_all, rows_all}

-- each actor's entries are those that its lines tell
abbrev pub Own : List Entry → List (List ℕ) → List (List (List Line)) → Type 0
Own h [] [] = Unit {0}
Own h (ps ∷ passes) (l ∷ told) = (places ps h ≡ flat_map (λ ls. flat_map edited ls) l) × Own h passes told
Own h passes told = ⊥

-- actor_by: the actor of a pass
module _ (actor_by : ℕ → ℕ) where
  -- a position that is told is of this actor's entry
  abbrev pub IsBy : List Entry → ℕ → ℕ → Type 0
  IsBy h n at = (k : ℕ) → at ≡ k + 1 → k < length h → slice_get (map (λ e. actor_by e.pass) h) k ≡ Some n

  -- the same of positions counted from another number
  abbrev IsFrom : ℕ → List Entry → ℕ → ℕ → Type 0
  IsFrom m h n at = (k : ℕ) → at ≡ k + m → k < length h → slice_get (map (λ e. actor_by e.pass) h) k ≡ Some n

  from_more : (m : ℕ) (e : Entry) (h : List Entry) (n at : ℕ) → m < at → IsFrom (m + 1) h n at → IsFrom m (e ∷ h) n at
  from_more m e h n at lt is zero eq short = absurd (omega (arith, lt, eq))
  from_more m e h n at lt is (suc k) eq short = is k (omega (arith, eq)) (omega (arith, short))

  from_here : (m : ℕ) (e : Entry) (h : List Entry) (n : ℕ) → actor_by e.pass ≡ n → IsFrom m (e ∷ h) n m
  from_here m e h n is zero eq short = ap Some is
  from_here m e h n is (suc k) eq short = absurd (omega (arith, eq))

  above_from : (ps : List ℕ) (m : ℕ) (h : List Entry) → All (λ (at : ℕ). m < at) (places_from ps (m + 1) h)
  above_from ps m [] = All-nil (λ (at : ℕ). m < at)
  above_from ps m (e ∷ h) = by (has e.pass ps) (All-weaker (λ (at : ℕ). m + 1 < at) (λ (at : ℕ). m < at) (λ at lt. omega (arith, lt)) (places_from ps ((m + 1) + 1) h) (above_from ps (m + 1) h))
    where
      by : (b : Bool) → All (λ (at : ℕ). m < at) (places_from ps ((m + 1) + 1) h)
          → All (λ (at : ℕ). m < at) (if b then (m + 1) ∷ places_from ps ((m + 1) + 1) h else places_from ps ((m + 1) + 1) h)
      by true more = All-cons (λ (at : ℕ). m < at) (m + 1) (places_from ps ((m + 1) + 1) h) (omega arith) more
      by false more = more

  both_all : {X : Type 0} (A B C : X → Type 0) → ((x : X) → A x → B x → C x) → (xs : List X) → All A xs → All B xs → All C xs
  both_all A B C f xs a b = λ k d lt. f _ (a k d lt) (b k d lt)

  places_by : (ps : List ℕ) (n : ℕ) → ((p : ℕ) → has p ps ≡ true → actor_by p ≡ n) → (m : ℕ) (h : List Entry) → All (IsFrom m h n) (places_from ps m h)
  places_by ps n own m [] = All-nil (IsFrom m [] n)
  places_by ps n own m (e ∷ h) =
      by (has e.pass ps) refl
      (both_all (λ (at : ℕ). m < at) (IsFrom (m + 1) h n) (IsFrom m (e ∷ h) n) (from_more m e h n) (places_from ps (m + 1) h) (above_from ps m h) (places_by ps n own (m + 1) h))
    where
      by : (b : Bool) → has e.pass ps ≡ b → All (IsFrom m (e ∷ h) n) (places_from ps (m + 1) h)
          → All (IsFrom m (e ∷ h) n) (if b then m ∷ places_from ps (m + 1) h else places_from ps (m + 1) h)
      by true is more = All-cons (IsFrom m (e ∷ h) n) m (places_from ps (m + 1) h) (from_here m e h n (own e.pass is)) more
      by false is more = more

  -- what a line of an actor tells
  abbrev pub TellsBy : List Entry → ℕ → Line → Type 0
  TellsBy h n l = All (IsBy h n) (edited l)

  lines_by : (h : List Entry) (n : ℕ) (ps : List ℕ) (l : List (List Line)) → ((p : ℕ) → has p ps ≡ true → actor_by p ≡ n) → places ps h ≡ flat_map (λ ls. flat_map edited ls) l
      → All (All (TellsBy h n)) l
  lines_by h n ps l own is =
      All-weaker (λ (ls : List Line). All (IsBy h n) (flat_map edited ls)) (All (TellsBy h n)) (λ ls all. parts_all (IsBy h n) edited ls all) l
      (parts_all (IsBy h n) (λ (ls : List Line). flat_map edited ls) l (subst (All (IsBy h n)) is (places_by ps n own 1 h)))

  told_by : (h : List Entry) (n : ℕ) (passes : List (List ℕ)) (told : List (List (List Line))) → once (all_of passes) ≡ true
      → ((p : ℕ) → has p (all_of passes) ≡ true → actor_by p ≡ actor_with n passes p) → Own h passes told → AllBy (TellsBy h) n told
  told_by h n [] [] apart is own = tt
  told_by h n [] (l ∷ told) apart is own = absurd own
  told_by h n (ps ∷ passes) [] apart is own = absurd own
  told_by h n (ps ∷ passes) (l ∷ told) apart is own = (
    lines_by h n ps l (λ p here. is p (first_has p ps passes here) ∙ ap (λ (b : Bool). if b then n else actor_with (n + 1) passes p) here) own.0,
    told_by h (n + 1) passes told (once_behind ps (all_of passes) apart)
        (λ p there. is p (behind_has p ps passes there) ∙ ap (λ (b : Bool). if b then n else actor_with (n + 1) passes p) (not_first p there (has p ps) refl)) own.1,
  )
    where
      not_first : (p : ℕ) → has p (all_of passes) ≡ true → (b : Bool) → has p ps ≡ b → has p ps ≡ false
      not_first p there true here = absurd (once_apart p ps (all_of passes) apart here there)
      not_first p there false e = e

pub rows_tell : (h : List Entry) (passes : List (List ℕ)) (told : List (List (List Line))) (phases : ℕ) (counts : List ℕ) → once (all_of passes) ≡ true → Own h passes told
    → All (TellsActor (actors_of passes h)) (phases_rows phases counts told)
rows_tell h passes told phases counts apart own =
    All-weaker (OfRow (TellsBy (actor_with 1 passes) h)) (TellsActor (actors_of passes h)) (λ r tells. as_authors r tells) (phases_rows phases counts told)
    (rows_all (TellsBy (actor_with 1 passes) h) phases counts told (told_by (actor_with 1 passes) h 1 passes told apart (λ p there. refl) own))
  where
    as_authors : (r : Row) → TellsBy (actor_with 1 passes) h r.actor r.line → TellsActor (actors_of passes h) r
    as_authors r tells = λ i d lt k eq short. tells i d lt k eq (subst (λ (n : ℕ). k < n) (length-map h (λ (e : Entry). actor_with 1 passes e.pass)) short)
