-- What a run of phases comes to, told on the whole history.
use Rattle.std.proofs.Common.{◌≡◌, ℕ, suc, ◌+◌, ◌⊎◌, inl, inr, ⊎_elim, true, false, true≢false, List, [], ◌∷◌, ◌++◌, length, append_assoc, append-nil, refl, sym, ap, ap₂, subst, ◌∙◌}
use Rattle.std.proofs.lemmas.Bool.{false_from_ne_true}
use Rattle.std.proofs.lemmas.List.{length-map}
use Rattle.viz_base.specs.declared.port.Port as port
use Rattle.viz_turn.specs.Tales.{has, once, clear, GoesOn}
use Rattle.viz_hub.specs.Passes.{PassKnown, numbers, GoesFurther}
use Rattle.viz_turn.proofs.ListLemmas.{has_head, has_tail, has_cons, has_left, has_right, has_either}
use Rattle.viz_turn.proofs.TaleLemmas.{clear_left, clear_sub, clear_both, further_still}
use Rattle.viz_entries.specs.declared.entry.Entry.{Entry}
use Rattle.viz_entries.specs.History.{by_of}
use Rattle.viz_script.specs.declared.order.Step.{Step}
use Rattle.viz_report.specs.declared.line.Line.{Line}
use Rattle.viz_report.specs.declared.line.Row.{Row}
use Rattle.viz_report.specs.Report.{phase_rows, next_counts, phases_rows}
use Rattle.viz_actor.proofs.ServeLemmas.{longer}
use Rattle.viz_actor.specs.declared.places.Place.{Place}
use Rattle.viz_actor.specs.Places.{counts_of, IsPhase}
use Rattle.viz_actor.specs.Runs.{RunsChunk, Runs, ports_of}
use Rattle.viz_actor.proofs.ConsLemmas.{cons_all, flat, has_cons_all, has_front, has_behind, once_cons_all, first_cons, later_cons, silence, silence_rows, silence_counts, silence_length}
use Rattle.viz_actor.proofs.LaterLemmas.{AreLater}
use Rattle.viz_actor.proofs.RunLemmas.{scripts_from, empties, empties_flat, runs_later, later_length, none_later, idle_later, phase_later, actors_length, actors_counts, actors_fresh}

-- what phases came to: each actor's passes, lines by phase, and the ends of phases
pub record IsTale {P : Type 0} (m : port.Ghosts P) (limit : ℕ) (chunks : List (List Step)) (h : List Entry) (root : PassKnown) (old : List (Place P)) (rows : List Row)
    (new : List (Place P)) (now : List Row) (end : PassKnown) : Type 0 where
  pub passes : List (List ℕ)
  pub told : List (List (List Line))
  pub ends : List ℕ
  pub later : AreLater m limit h (length root.seen) passes (scripts_from (length old) 1 chunks) told ends (ports_of old) (ports_of new)
  pub apart : once (flat passes) ≡ true
  pub fresh : (x : ℕ) → has x (flat passes) ≡ true → has x (numbers root) ≡ false
  pub none : clear by_of (flat passes) root.seen ≡ true
  pub whole : (x : ℕ) → has x (numbers end) ≡ true → (has x (numbers root) ≡ true) ⊎ (has x (flat passes) ≡ true)
  pub rows_are : now ≡ rows ++ phases_rows (length chunks) (counts_of old) told

-- a number of several isn't there, where none of them is
clear_each : (ns : List ℕ) (h : List Entry) → ((x : ℕ) → has x ns ≡ true → clear by_of (x ∷ []) h ≡ true) → clear by_of ns h ≡ true
clear_each [] h each = none h
  where
    none : (l : List Entry) → clear by_of [] l ≡ true
    none [] = refl
    none (e ∷ l) = none l
clear_each (n ∷ ns) h each = clear_both by_of (n ∷ []) ns h (each n (has_head n ns)) (clear_each ns h (λ x i. each x (has_tail x n ns i)))

-- the rows of a phase, and those of the phases behind it
rows_behind : (n : ℕ) (counts next : List ℕ) (lines : List (List Line)) (told : List (List (List Line))) → length told ≡ length lines → next_counts counts lines ≡ next
    → phases_rows (suc n) counts (cons_all lines told) ≡ phase_rows 1 counts lines ++ phases_rows n next told
rows_behind n counts next lines told len is =
    ap₂ (λ (ls : List (List Line)) (ts : List (List (List Line))). phase_rows 1 counts ls ++ phases_rows n (next_counts counts ls) ts) (first_cons lines told len) (later_cons lines told len)
    ∙ ap (λ (ns : List ℕ). phase_rows 1 counts lines ++ phases_rows n ns told) is

module _ {P : Type 0} (m : port.Ghosts P) (limit : ℕ) where
  -- a phase without steps in front of such phases
  idle_tale : (chunks : List (List Step)) (h : List Entry) (root end : PassKnown) (old new : List (Place P)) (rows now : List Row) → GoesFurther root h
      → IsTale m limit chunks h root old rows new now end → IsTale m limit ([] ∷ chunks) h root old rows new now end
  idle_tale chunks h root end old new rows now on t =
      let lens = later_length m limit h (length root.seen) t.passes (scripts_from (length old) 1 chunks) t.told t.ends (ports_of old) (ports_of new) t.later in
      let len : length t.told ≡ length (silence old) = lens.1 ∙ length-map old (λ s. s.port) ∙ sym (silence_length old) in
      let same : phases_rows (suc (length chunks)) (counts_of old) (cons_all (silence old) t.told) ≡ phases_rows (length chunks) (counts_of old) t.told =
      rows_behind (length chunks) (counts_of old) (counts_of old) (silence old) t.told len (silence_counts (λ s. length s.lines.items + 1) old)
      ∙ ap (λ (l : List Row). l ++ phases_rows (length chunks) (counts_of old) t.told) (silence_rows 1 (counts_of old) old) in
      record {
        passes = t.passes;
        told = cons_all (silence old) t.told;
        ends = length root.seen ∷ t.ends;
        later = idle_later m limit h (length root.seen) 1 chunks t.passes t.told t.ends old (ports_of new) (longer (numbers root) root.seen h on) t.later;
        apart = t.apart;
        fresh = t.fresh;
        none = t.none;
        whole = t.whole;
        rows_are = t.rows_are ∙ ap (λ (l : List Row). rows ++ l) (sym same);
      }

  -- a phase in front of such phases
  phase_tale : (chunk : List Step) (chunks : List (List Step)) (h : List Entry) (root mid end : PassKnown) (old places new : List (Place P)) (rows mid_rows now : List Row)
      → IsPhase m limit chunk root old rows places mid_rows mid → GoesFurther mid h
      → IsTale m limit chunks h mid places mid_rows new now end → IsTale m limit (chunk ∷ chunks) h root old rows new now end
  phase_tale chunk chunks h root mid end old places new rows mid_rows now p on t =
      let nums : numbers mid ≡ numbers root ++ p.passes = ap₂ (λ (x : ℕ) (l : List ℕ). x ∷ l) p.number p.ended in
      let in_mid : (x : ℕ) → has x p.passes ≡ true → has x (numbers mid) ≡ true = λ x i. subst (λ (ns : List ℕ). has x ns ≡ true) (sym nums) (has_right x (numbers root) p.passes i) in
      let alone : (x : ℕ) → has x p.passes ≡ true → GoesOn by_of (x ∷ []) mid.seen h =
      λ x i. (
        on.0,
        on.1,
        clear_sub by_of (numbers mid) (x ∷ []) on.0
            (λ y j. ⊎_elim (λ (e : y ≡ x). subst (λ (z : ℕ). has z (numbers mid) ≡ true) (sym e) (in_mid x i)) (λ (o : has y [] ≡ true). absurd (true≢false (sym o))) (has_cons y x [] j)) on.2,
      ) in
      let sizes = actors_length m limit chunk root.seen mid.seen 1 p.passes p.lines old places p.actors in
      let lens = later_length m limit h (length mid.seen) t.passes (scripts_from (length places) 1 chunks) t.told t.ends (ports_of places) (ports_of new) t.later in
      let many : length (ports_of places) ≡ length old = length-map places (λ s. s.port) ∙ sizes.2 in
      let passes_len : length t.passes ≡ length p.passes = lens.0 ∙ many ∙ sym sizes.0 in
      let told_len : length t.told ≡ length p.lines = lens.1 ∙ many ∙ sym sizes.1 in
      let old_out : (x : ℕ) → has x p.passes ≡ true → has x (flat t.passes) ≡ true → ⊥ = λ x i j. true≢false (sym (in_mid x i) ∙ t.fresh x j) in
      let never : (x : ℕ) → has x (flat t.passes) ≡ true → has x (numbers root) ≡ false =
      λ x j. false_from_ne_true (has x (numbers root)) (λ i. true≢false (sym (subst (λ (ns : List ℕ). has x ns ≡ true) (sym nums) (has_left x (numbers root) p.passes i)) ∙ t.fresh x j)) in
      let before : clear by_of (flat t.passes) root.seen ≡ true = clear_left by_of (flat t.passes) root.seen p.later.0 (subst (λ (l : List Entry). clear by_of (flat t.passes) l ≡ true) p.later.1 t.none) in
      record {
        passes = cons_all p.passes t.passes;
        told = cons_all p.lines t.told;
        ends = length mid.seen ∷ t.ends;
        later = phase_later m limit chunk chunks root.seen mid.seen h 1 p.passes p.lines old places t.passes t.told t.ends (ports_of new) p.actors alone t.none t.later;
        apart = once_cons_all p.passes t.passes p.distinct t.apart old_out;
        fresh = λ x i. ⊎_elim (p.fresh x) (never x) (has_cons_all x p.passes t.passes i);
        none = clear_each (flat (cons_all p.passes t.passes)) root.seen
            (λ x i. ⊎_elim (λ j. actors_fresh m limit chunk root.seen mid.seen 1 p.passes p.lines old places p.actors x j)
            (λ j. clear_sub by_of (flat t.passes) (x ∷ []) root.seen
            (λ y k. ⊎_elim (λ (e : y ≡ x). subst (λ (z : ℕ). has z (flat t.passes) ≡ true) (sym e) j) (λ (o : has y [] ≡ true). absurd (true≢false (sym o))) (has_cons y x [] k)) before)
            (has_cons_all x p.passes t.passes i));
        whole = λ x i. ⊎_elim
            (λ (j : has x (numbers mid) ≡ true). ⊎_elim (λ k. inl k) (λ k. inr (has_front x p.passes t.passes passes_len k))
            (has_either x (numbers root) p.passes (subst (λ (ns : List ℕ). has x ns ≡ true) nums j)))
            (λ j. inr (has_behind x p.passes t.passes passes_len j)) (t.whole x i);
        rows_are = t.rows_are ∙ ap (λ (l : List Row). l ++ phases_rows (length chunks) (counts_of places) t.told) p.rows_are
            ∙ append_assoc rows (phase_rows 1 (counts_of old) p.lines) (phases_rows (length chunks) (counts_of places) t.told)
            ∙ ap (λ (l : List Row). rows ++ l)
            (sym (rows_behind (length chunks) (counts_of old) (counts_of places) p.lines t.told told_len (actors_counts m limit chunk root.seen mid.seen 1 p.passes p.lines old places p.actors)));
      }

  chunk_tale : (chunk : List Step) (chunks : List (List Step)) (h : List Entry) (root mid end : PassKnown) (old places new : List (Place P)) (rows mid_rows now : List Row)
      → RunsChunk m limit chunk root old rows places mid_rows mid → GoesFurther mid h
      → IsTale m limit chunks h mid places mid_rows new now end → IsTale m limit (chunk ∷ chunks) h root old rows new now end
  chunk_tale [] chunks h root mid end old places new rows mid_rows now r on t =
      idle_tale chunks h root end old new rows now (subst (λ p. GoesFurther p h) r.0 on)
      (subst (λ p. IsTale m limit chunks h p old rows new now end) r.0
      (subst (λ l. IsTale m limit chunks h mid l rows new now end) r.1 (subst (λ l. IsTale m limit chunks h mid places l new now end) r.2 t)))
  chunk_tale (s ∷ steps) chunks h root mid end old places new rows mid_rows now r on t = phase_tale (s ∷ steps) chunks h root mid end old places new rows mid_rows now r on t

  -- the phases of a run
  pub runs_tale : (chunks : List (List Step)) (h : List Entry) (root end : PassKnown) (old new : List (Place P)) (rows now : List Row) → Runs m limit chunks root old rows new now end
      → GoesFurther end h → IsTale m limit chunks h root old rows new now end
  runs_tale [] h root end old new rows now r on = record {
    passes = empties old;
    told = empties old;
    ends = [];
    later = subst (λ (l : List (Place P)). AreLater m limit h (length root.seen) (empties old) (scripts_from (length old) 1 []) (empties old) [] (ports_of old) (ports_of l)) (sym r.1) (none_later m limit h (length root.seen) 1 old);
    apart = ap once (empties_flat old);
    fresh = λ x i. absurd (true≢false (sym i ∙ ap (has x) (empties_flat old)));
    none = ap (λ (l : List ℕ). clear by_of l root.seen) (empties_flat old) ∙ clear_each [] root.seen (λ x i. absurd (true≢false (sym i)));
    whole = λ x i. inl (subst (λ p. has x (numbers p) ≡ true) r.0 i);
    rows_are = r.2 ∙ sym (append-nil rows);
  }
  runs_tale (chunk ∷ chunks) h root end old new rows now r on =
      let l = runs_later m limit chunks r.0 r.1 r.2 new now end r.4 in
      let mid_on : GoesFurther r.0 h = further_still by_of (numbers end) (numbers r.0) r.0.seen end.seen h l.0 l.1 on in
      chunk_tale chunk chunks h root r.0 end old r.1 new rows r.2 now r.3 mid_on (runs_tale chunks h r.0 end r.1 new r.2 now r.4 on)
