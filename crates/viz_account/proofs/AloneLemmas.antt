-- The lines of an actor who alone has commands count the edits of all.
use Rattle.std.proofs.Common.{◌≡◌, ℕ, zero, suc, ◌+◌, ◌≤◌, Bool, true, false, true≢false, cond, ◌||◌, List, [], ◌∷◌, ◌++◌, length, flat_map, slice_get, Some, refl, sym, ap, subst, ◌∙◌, arith}
use Rattle.viz_base.specs.declared.port.Port as port
use Rattle.viz_turn.specs.Tales.{has, entries_of}
use Rattle.viz_entries.specs.declared.entry.Entry.{Entry}
use Rattle.viz_entries.specs.History.{by_of}
use Rattle.viz_script.specs.Orders.{Asked}
use Rattle.viz_report.specs.declared.line.Line.{Line}
use Rattle.viz_account.specs.Account.{edited, places_from, places, IsActor, AreActors}
use Rattle.viz_account.specs.Laws.{CountEdits, AsksAlone, LinesCountEdits}
use Rattle.viz_account.proofs.OnceLemmas.{few, has_both}
use Rattle.viz_account.proofs.ScriptLemmas.{edited_flat, no_lines}
use Rattle.viz_account.proofs.NumberLemmas.{own_counts}

-- ---- entries by none of some passes

-- entries that are all by one of two lists of passes, and none by the first, are all by the second
narrowed : (all qs ps : List ℕ) (n : ℕ) (h : List Entry) → ((x : ℕ) → has x all ≡ (has x qs || has x ps))
    → places_from qs n h ≡ [] → entries_of by_of all h ≡ h → entries_of by_of ps h ≡ h
narrowed all qs ps n [] is none whole = refl
narrowed all qs ps n (e ∷ h) is none whole =
    by (has e.pass qs) (has e.pass ps) (has e.pass all) (is e.pass) none whole (few all h) (narrowed all qs ps (n + 1) h is)
  where
    by : (q p a : Bool) → a ≡ (q || p) → cond q (n ∷ places_from qs (n + 1) h) (places_from qs (n + 1) h) ≡ []
        → cond a (e ∷ entries_of by_of all h) (entries_of by_of all h) ≡ e ∷ h → length (entries_of by_of all h) ≤ length h
        → (places_from qs (n + 1) h ≡ [] → entries_of by_of all h ≡ h → entries_of by_of ps h ≡ h)
        → cond p (e ∷ entries_of by_of ps h) (entries_of by_of ps h) ≡ e ∷ h
    by true p a i gone w short rest = let bad : ⊥ = cc in absurd bad
    by false true true i gone w short rest = ap (λ t. e ∷ t) (rest gone (let tail : entries_of by_of all h ≡ h = cc in tail))
    by false true false i gone w short rest = absurd (true≢false (sym i))
    by false false true i gone w short rest = absurd (true≢false i)
    by false false false i gone w short rest = let bad : ⊥ = omega (arith, short, ap length w) in absurd bad

none_of_both : (ps qs : List ℕ) (n : ℕ) (h : List Entry) → places_from ps n h ≡ [] → places_from qs n h ≡ []
    → places_from (ps ++ qs) n h ≡ []
none_of_both ps qs n [] a b = refl
none_of_both ps qs n (e ∷ h) a b =
    ap (λ t. cond t (n ∷ places_from (ps ++ qs) (n + 1) h) (places_from (ps ++ qs) (n + 1) h)) (has_both e.pass ps qs)
    ∙ by (has e.pass ps) (has e.pass qs) a b (none_of_both ps qs (n + 1) h)
  where
    by : (p q : Bool) → cond p (n ∷ places_from ps (n + 1) h) (places_from ps (n + 1) h) ≡ []
        → cond q (n ∷ places_from qs (n + 1) h) (places_from qs (n + 1) h) ≡ []
        → (places_from ps (n + 1) h ≡ [] → places_from qs (n + 1) h ≡ [] → places_from (ps ++ qs) (n + 1) h ≡ [])
        → cond (p || q) (n ∷ places_from (ps ++ qs) (n + 1) h) (places_from (ps ++ qs) (n + 1) h) ≡ []
    by true q c d r = let bad : ⊥ = cc in absurd bad
    by false true c d r = let bad : ⊥ = cc in absurd bad
    by false false c d r = r c d

none_without : (n : ℕ) (h : List Entry) → places_from [] n h ≡ []
none_without n [] = refl
none_without n (e ∷ h) = none_without (n + 1) h

flip : (p q : Bool) → (p || q) ≡ (q || p)
flip true true = refl
flip true false = refl
flip false true = refl
flip false false = refl

-- ---- actors without commands

module _ {P : Type 0} (m : port.Ghosts P) (limit : ℕ) (h : List Entry) (ends : List ℕ) where
  abbrev Actors : List (List ℕ) → List (List (List Asked)) → List (List (List Line)) → List P → List P → Type 0
  Actors passes script lines before after = AreActors m limit h passes script lines ends before after

  -- an actor without commands has no entries
  no_places : (ps : List ℕ) (phases : List (List Asked)) (lines : List (List Line)) (before after : P)
      → IsActor m limit h ps phases lines ends before after → flat_map (λ os. os) phases ≡ [] → places ps h ≡ []
  no_places ps phases lines before after t none =
      t.own ∙ sym (edited_flat lines)
      ∙ ap (λ ls. flat_map edited ls) (no_lines limit h ps phases lines ends t.gained.0 t.gained.2 none)

  none_at_all : (passes : List (List ℕ)) (script : List (List (List Asked))) (lines : List (List (List Line))) (before after : List P)
      → Actors passes script lines before after
      → ((j : ℕ) (phases : List (List Asked)) → slice_get script j ≡ Some phases → flat_map (λ os. os) phases ≡ [])
      → places (flat_map (λ ps. ps) passes) h ≡ []
  none_at_all [] script lines before after t idle = none_without 1 h
  none_at_all (p ∷ passes) [] [] before after t idle = absurd t
  none_at_all (p ∷ passes) [] (l ∷ lines) before after t idle = absurd t
  none_at_all (p ∷ passes) (s ∷ script) [] before after t idle = absurd t
  none_at_all (p ∷ passes) (s ∷ script) (l ∷ lines) [] after t idle = absurd t
  none_at_all (p ∷ passes) (s ∷ script) (l ∷ lines) (b ∷ before) [] t idle = absurd t
  none_at_all (p ∷ passes) (s ∷ script) (l ∷ lines) (b ∷ before) (a ∷ after) t idle =
      none_of_both p (flat_map (λ ps. ps) passes) 1 h (no_places p s l b a t.0 (idle 0 s refl))
      (none_at_all passes script lines before after t.1 (λ j phases at. idle (suc j) phases at))

  alone : (i : ℕ) (passes : List (List ℕ)) (script : List (List (List Asked))) (lines : List (List (List Line))) (before after : List P)
      → Actors passes script lines before after → AsksAlone i script → (mine : List (List Line)) → slice_get lines i ≡ Some mine
      → entries_of by_of (flat_map (λ ps. ps) passes) h ≡ h → CountEdits 0 (flat_map (λ ls. ls) mine)
  alone i [] [] [] before after t idle mine at whole = let bad : ⊥ = cc in absurd bad
  alone i [] [] (l ∷ lines) before after t idle mine at whole = absurd t
  alone i [] (s ∷ script) lines before after t idle mine at whole = absurd t
  alone i (p ∷ passes) [] lines before after t idle mine at whole = absurd t
  alone i (p ∷ passes) (s ∷ script) [] before after t idle mine at whole = absurd t
  alone i (p ∷ passes) (s ∷ script) (l ∷ lines) [] after t idle mine at whole = absurd t
  alone i (p ∷ passes) (s ∷ script) (l ∷ lines) (b ∷ before) [] t idle mine at whole = absurd t
  alone zero (p ∷ passes) (s ∷ script) (l ∷ lines) (b ∷ before) (a ∷ after) t idle mine at whole =
      let others = flat_map (λ (ps : List ℕ). ps) passes in
      let same : l ≡ mine = cc in
      subst (λ (ls : List (List Line)). CountEdits 0 (flat_map (λ (x : List Line). x) ls)) same
      (own_counts m limit h p s l ends b a t.0
      (narrowed (p ++ others) others p 1 h (λ x. has_both x p others ∙ flip (has x p) (has x others))
      (none_at_all passes script lines before after t.1 (λ j phases here. idle (suc j) phases here (λ e. let bad : ⊥ = cc in bad))) whole))
  alone (suc i) (p ∷ passes) (s ∷ script) (l ∷ lines) (b ∷ before) (a ∷ after) t idle mine at whole =
      let others = flat_map (λ (ps : List ℕ). ps) passes in
      alone i passes script lines before after t.1
      (λ j phases here apart. idle (suc j) phases here (λ e. apart (let down : j ≡ i = omega (arith, e) in down))) mine at
      (narrowed (p ++ others) p others 1 h (λ x. has_both x p others)
      (no_places p s l b a t.0 (idle 0 s refl (λ e. let bad : ⊥ = cc in bad))) whole)

pub lines_count : {P : Type 0} (m : port.Ghosts P) → LinesCountEdits m
lines_count m limit script h lines before after account i idle mine at =
    alone m limit h account.ends i account.passes script lines before after account.actors idle mine at account.whole
