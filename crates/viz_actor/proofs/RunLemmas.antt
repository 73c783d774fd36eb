-- Phases one after the other, told on the whole history.
use Rattle.std.proofs.Common.{◌≡◌, ℕ, zero, suc, ◌+◌, ◌≤◌, ⊎_elim, true, true≢false, List, [], ◌∷◌, ◌++◌, map, length, length-append, refl, sym, ap, ap₂, subst, ◌∙◌, arith}
use Rattle.viz_base.specs.declared.port.Port as port
use Rattle.viz_turn.specs.Tales.{has, clear, GoesOn}
use Rattle.viz_hub.specs.Passes.{PassKnown, numbers, IsWhole, GoesFurther}
use Rattle.viz_turn.proofs.ListLemmas.{has_head, has_tail, has_cons, has_left, has_right}
use Rattle.viz_turn.proofs.TaleLemmas.{clear_sub, further_still, all_of_it}
use Rattle.viz_entries.specs.declared.entry.Entry.{Entry}
use Rattle.viz_entries.specs.History.{by_of}
use Rattle.viz_script.specs.declared.order.Step.{Step}
use Rattle.viz_script.specs.Orders.{Asked}
use Rattle.viz_report.specs.declared.line.Line.{Line}
use Rattle.viz_report.specs.declared.line.Row.{Row}
use Rattle.viz_report.specs.Report.{next_counts}
use Rattle.viz_actor.specs.Serving.{commands_of}
use Rattle.viz_actor.specs.declared.places.Place.{Place}
use Rattle.viz_actor.specs.Places.{ActorsServed, counts_of}
use Rattle.viz_actor.specs.Runs.{RunsChunk, Runs, ports_of}
use Rattle.viz_actor.proofs.ConsLemmas.{cons_all, flat, silence}
use Rattle.viz_actor.proofs.LaterLemmas.{AreLater, later_none, later_idle, later_phase}

-- the commands by actor and phase, of so many actors from this one on
abbrev pub scripts_from : ℕ → ℕ → List (List Step) → List (List (List Asked))
scripts_from zero actor chunks = []
scripts_from (suc count) actor chunks = map (commands_of actor) chunks ∷ scripts_from count (actor + 1) chunks

-- lists without an item, xs many xs there are places
abbrev pub empties : {A B : Type 0} → List A → List (List B)
empties [] = []
empties (a ∷ xs) = [] ∷ empties xs

pub empties_flat : {A : Type 0} (xs : List A) → flat (empties xs) ≡ []
empties_flat [] = refl
empties_flat (a ∷ xs) = empties_flat xs

module _ {P : Type 0} (m : port.Ghosts P) (limit : ℕ) where
  -- ---- the pass

  chunk_later : (chunk : List Step) (root : PassKnown) (old : List (Place P)) (rows : List Row) (new : List (Place P)) (now : List Row) (mid : PassKnown) → RunsChunk m limit chunk root old rows new now mid
      → ((x : ℕ) → has x (numbers root) ≡ true → has x (numbers mid) ≡ true) × GoesFurther root mid.seen
  chunk_later [] root old rows new now mid r =
      (λ x h. subst (λ p. has x (numbers p) ≡ true) (sym r.0) h, subst (λ p. GoesFurther root p.seen) (sym r.0) (all_of_it by_of (numbers root) root.seen))
  chunk_later (s ∷ steps) root old rows new now mid r =
      let nums : numbers mid ≡ numbers root ++ r.passes = ap₂ (λ (x : ℕ) (l : List ℕ). x ∷ l) r.number r.ended in
      (λ x h. subst (λ (ns : List ℕ). has x ns ≡ true) (sym nums) (has_left x (numbers root) r.passes h), r.later)

  -- the numbers of a pass stay its own, and its list goes on
  pub runs_later : (chunks : List (List Step)) (root : PassKnown) (old : List (Place P)) (rows : List Row) (new : List (Place P)) (now : List Row) (end : PassKnown) → Runs m limit chunks root old rows new now end
      → ((x : ℕ) → has x (numbers root) ≡ true → has x (numbers end) ≡ true) × GoesFurther root end.seen
  runs_later [] root old rows new now end r =
      (λ x h. subst (λ p. has x (numbers p) ≡ true) (sym r.0) h, subst (λ p. GoesFurther root p.seen) (sym r.0) (all_of_it by_of (numbers root) root.seen))
  runs_later (chunk ∷ chunks) root old rows new now end r =
      let a = chunk_later chunk root old rows r.1 r.2 r.0 r.3 in
      let b = runs_later chunks r.0 r.1 r.2 new now end r.4 in
      (λ x h. b.0 x (a.0 x h), further_still by_of (numbers r.0) (numbers root) root.seen r.0.seen end.seen a.0 a.1 b.1)

  chunk_turn : (chunk : List Step) (root : PassKnown) (old : List (Place P)) (rows : List Row) (new : List (Place P)) (now : List Row) (mid : PassKnown) → RunsChunk m limit chunk root old rows new now mid
      → (mid.turn ≡ root.turn) × (IsWhole root → IsWhole mid)
  chunk_turn [] root old rows new now mid r = (ap (λ p. p.turn) r.0, λ w. subst IsWhole (sym r.0) w)
  chunk_turn (s ∷ steps) root old rows new now mid r = (r.turn, r.whole)

  pub runs_turn : (chunks : List (List Step)) (root : PassKnown) (old : List (Place P)) (rows : List Row) (new : List (Place P)) (now : List Row) (end : PassKnown) → Runs m limit chunks root old rows new now end
      → (end.turn ≡ root.turn) × (IsWhole root → IsWhole end)
  runs_turn [] root old rows new now end r = (ap (λ p. p.turn) r.0, λ w. subst IsWhole (sym r.0) w)
  runs_turn (chunk ∷ chunks) root old rows new now end r =
      let a = chunk_turn chunk root old rows r.1 r.2 r.0 r.3 in
      let b = runs_turn chunks r.0 r.1 r.2 new now end r.4 in
      (b.0 ∙ a.0, λ w. b.1 (a.1 w))

  -- ---- lists of actors

  pub later_length : (h : List Entry) (low : ℕ) (passes : List (List ℕ)) (scripts : List (List (List Asked))) (told : List (List (List Line))) (ends : List ℕ) (before after : List P)
      → AreLater m limit h low passes scripts told ends before after → (length passes ≡ length before) × (length told ≡ length before)
  later_length h low [] [] [] ends [] [] t = (refl, refl)
  later_length h low (ps ∷ passes) (os ∷ scripts) (ls ∷ told) ends (b ∷ before) (a ∷ after) t =
      let r = later_length h low passes scripts told ends before after t.1 in (ap suc r.0, ap suc r.1)
  later_length h low [] [] [] ends [] (a ∷ after) t = absurd t
  later_length h low [] [] [] ends (b ∷ before) after t = absurd t
  later_length h low [] [] (ls ∷ told) ends before after t = absurd t
  later_length h low [] (os ∷ scripts) told ends before after t = absurd t
  later_length h low (ps ∷ passes) [] told ends before after t = absurd t
  later_length h low (ps ∷ passes) (os ∷ scripts) [] ends before after t = absurd t
  later_length h low (ps ∷ passes) (os ∷ scripts) (ls ∷ told) ends [] after t = absurd t
  later_length h low (ps ∷ passes) (os ∷ scripts) (ls ∷ told) ends (b ∷ before) [] t = absurd t

  pub none_later : (h : List Entry) (low actor : ℕ) (ss : List (Place P)) → AreLater m limit h low (empties ss) (scripts_from (length ss) actor []) (empties ss) [] (ports_of ss) (ports_of ss)
  none_later h low actor [] = tt
  none_later h low actor (s ∷ ss) = (later_none m limit h low s.port, none_later h low (actor + 1) ss)

  -- a phase without steps in front
  pub idle_later : (h : List Entry) (low actor : ℕ) (chunks : List (List Step)) (passes : List (List ℕ)) (told : List (List (List Line))) (ends : List ℕ) (ss : List (Place P)) (after : List P) → low ≤ length h
      → AreLater m limit h low passes (scripts_from (length ss) actor chunks) told ends (ports_of ss) after
      → AreLater m limit h low passes (scripts_from (length ss) actor ([] ∷ chunks)) (cons_all (silence ss) told) (low ∷ ends) (ports_of ss) after
  idle_later h low actor chunks [] [] ends [] [] within t = tt
  idle_later h low actor chunks (ps ∷ passes) (ls ∷ told) ends (s ∷ ss) (a ∷ after) within t =
      (later_idle m limit h low ps (map (commands_of actor) chunks) ls ends s.port a within t.0, idle_later h low (actor + 1) chunks passes told ends ss after within t.1)
  idle_later h low actor chunks [] [] ends [] (a ∷ after) within t = absurd t
  idle_later h low actor chunks [] (ls ∷ told) ends [] after within t = absurd t
  idle_later h low actor chunks (ps ∷ passes) told ends [] after within t = absurd t
  idle_later h low actor chunks [] told ends (s ∷ ss) after within t = absurd t
  idle_later h low actor chunks (ps ∷ passes) [] ends (s ∷ ss) after within t = absurd t
  idle_later h low actor chunks (ps ∷ passes) (ls ∷ told) ends (s ∷ ss) [] within t = absurd t

  -- a phase in front
  pub phase_later : (chunk : List Step) (chunks : List (List Step)) (before joined h : List Entry) (actor : ℕ) (ks : List ℕ) (lines : List (List Line)) (ss ts : List (Place P))
      (passes : List (List ℕ)) (told : List (List (List Line))) (ends : List ℕ) (after : List P)
      → ActorsServed m limit chunk before joined actor ks lines ss ts → ((x : ℕ) → has x ks ≡ true → GoesOn by_of (x ∷ []) joined h) → clear by_of (flat passes) joined ≡ true
      → AreLater m limit h (length joined) passes (scripts_from (length ts) actor chunks) told ends (ports_of ts) after
      → AreLater m limit h (length before) (cons_all ks passes) (scripts_from (length ss) actor (chunk ∷ chunks)) (cons_all lines told) (length joined ∷ ends) (ports_of ss) after
  phase_later chunk chunks before joined h actor [] [] [] [] [] [] ends [] a on others t = tt
  phase_later chunk chunks before joined h actor (k ∷ ks) (ls ∷ lines) (s ∷ ss) (t ∷ ts) (ps ∷ passes) (ms ∷ told) ends (q ∷ after) a on others r = (
    later_phase m limit chunk before joined h k actor ls s t ps (map (commands_of actor) chunks) ms ends q a.0 (on k (has_head k ks))
        (clear_sub by_of (flat (ps ∷ passes)) ps joined (λ x i. has_left x ps (flat passes) i) others) r.0,
    phase_later chunk chunks before joined h (actor + 1) ks lines ss ts passes told ends after a.1 (λ x i. on x (has_tail x k ks i))
        (clear_sub by_of (flat (ps ∷ passes)) (flat passes) joined (λ x i. has_right x ps (flat passes) i) others) r.1,
  )
  phase_later chunk chunks before joined h actor [] [] [] [] [] [] ends (q ∷ after) a on others r = absurd r
  phase_later chunk chunks before joined h actor [] [] [] [] [] (ms ∷ told) ends after a on others r = absurd r
  phase_later chunk chunks before joined h actor [] [] [] [] (ps ∷ passes) told ends after a on others r = absurd r
  phase_later chunk chunks before joined h actor [] [] [] (t ∷ ts) passes told ends after a on others r = absurd a
  phase_later chunk chunks before joined h actor [] [] (s ∷ ss) ts passes told ends after a on others r = absurd a
  phase_later chunk chunks before joined h actor [] (ls ∷ lines) ss ts passes told ends after a on others r = absurd a
  phase_later chunk chunks before joined h actor (k ∷ ks) [] ss ts passes told ends after a on others r = absurd a
  phase_later chunk chunks before joined h actor (k ∷ ks) (ls ∷ lines) [] ts passes told ends after a on others r = absurd a
  phase_later chunk chunks before joined h actor (k ∷ ks) (ls ∷ lines) (s ∷ ss) [] passes told ends after a on others r = absurd a
  phase_later chunk chunks before joined h actor (k ∷ ks) (ls ∷ lines) (s ∷ ss) (t ∷ ts) [] told ends after a on others r = absurd r
  phase_later chunk chunks before joined h actor (k ∷ ks) (ls ∷ lines) (s ∷ ss) (t ∷ ts) (ps ∷ passes) [] ends after a on others r = absurd r
  phase_later chunk chunks before joined h actor (k ∷ ks) (ls ∷ lines) (s ∷ ss) (t ∷ ts) (ps ∷ passes) (ms ∷ told) ends [] a on others r = absurd r

  pub actors_length : (chunk : List Step) (before joined : List Entry) (actor : ℕ) (ks : List ℕ) (lines : List (List Line)) (ss ts : List (Place P)) → ActorsServed m limit chunk before joined actor ks lines ss ts
      → (length ks ≡ length ss) × (length lines ≡ length ss) × (length ts ≡ length ss)
  actors_length chunk before joined actor [] [] [] [] a = (refl, refl, refl)
  actors_length chunk before joined actor (k ∷ ks) (ls ∷ lines) (s ∷ ss) (t ∷ ts) a =
      let r = actors_length chunk before joined (actor + 1) ks lines ss ts a.1 in (ap suc r.0, ap suc r.1, ap suc r.2)
  actors_length chunk before joined actor [] [] [] (t ∷ ts) a = absurd a
  actors_length chunk before joined actor [] [] (s ∷ ss) ts a = absurd a
  actors_length chunk before joined actor [] (ls ∷ lines) ss ts a = absurd a
  actors_length chunk before joined actor (k ∷ ks) [] ss ts a = absurd a
  actors_length chunk before joined actor (k ∷ ks) (ls ∷ lines) [] ts a = absurd a
  actors_length chunk before joined actor (k ∷ ks) (ls ∷ lines) (s ∷ ss) [] a = absurd a

  -- the numbers of the next lines behind a phase
  pub actors_counts : (chunk : List Step) (before joined : List Entry) (actor : ℕ) (ks : List ℕ) (lines : List (List Line)) (ss ts : List (Place P)) → ActorsServed m limit chunk before joined actor ks lines ss ts
      → next_counts (counts_of ss) lines ≡ counts_of ts
  actors_counts chunk before joined actor [] [] [] [] a = refl
  actors_counts chunk before joined actor (k ∷ ks) (ls ∷ lines) (s ∷ ss) (t ∷ ts) a =
      ap₂ (λ (x : ℕ) (xs : List ℕ). x ∷ xs)
      (let e : (length s.lines.items + 1) + length ls ≡ length t.lines.items + 1 = omega (arith, ap length a.0.added, length-append s.lines.items ls) in e)
      (actors_counts chunk before joined (actor + 1) ks lines ss ts a.1)
  actors_counts chunk before joined actor [] [] [] (t ∷ ts) a = absurd a
  actors_counts chunk before joined actor [] [] (s ∷ ss) ts a = absurd a
  actors_counts chunk before joined actor [] (ls ∷ lines) ss ts a = absurd a
  actors_counts chunk before joined actor (k ∷ ks) [] ss ts a = absurd a
  actors_counts chunk before joined actor (k ∷ ks) (ls ∷ lines) [] ts a = absurd a
  actors_counts chunk before joined actor (k ∷ ks) (ls ∷ lines) (s ∷ ss) [] a = absurd a

  -- the passes of a phase had no entry before it
  pub actors_fresh : (chunk : List Step) (before joined : List Entry) (actor : ℕ) (ks : List ℕ) (lines : List (List Line)) (ss ts : List (Place P)) → ActorsServed m limit chunk before joined actor ks lines ss ts
      → (x : ℕ) → has x ks ≡ true → clear by_of (x ∷ []) before ≡ true
  actors_fresh chunk before joined actor [] [] [] [] a x i = absurd (true≢false (sym i))
  actors_fresh chunk before joined actor (k ∷ ks) (ls ∷ lines) (s ∷ ss) (t ∷ ts) a x i =
      ⊎_elim (λ (e : x ≡ k). subst (λ (y : ℕ). clear by_of (y ∷ []) before ≡ true) (sym e) a.0.fresh) (λ o. actors_fresh chunk before joined (actor + 1) ks lines ss ts a.1 x o) (has_cons x k ks i)
  actors_fresh chunk before joined actor [] [] [] (t ∷ ts) a x i = absurd a
  actors_fresh chunk before joined actor [] [] (s ∷ ss) ts a x i = absurd a
  actors_fresh chunk before joined actor [] (ls ∷ lines) ss ts a x i = absurd a
  actors_fresh chunk before joined actor (k ∷ ks) [] ss ts a x i = absurd a
  actors_fresh chunk before joined actor (k ∷ ks) (ls ∷ lines) [] ts a x i = absurd a
  actors_fresh chunk before joined actor (k ∷ ks) (ls ∷ lines) (s ∷ ss) [] a x i = absurd a
