-- The passes of a phase are joined, and its lines become rows.
use Rattle.std.proofs.Common.{◌≡◌, ℕ, ◌+◌, ◌≤◌, ⊎_elim, true, List, [], ◌∷◌, ◌++◌, map, drop, length, length-append, append-nil, append_assoc, Option, Some, None, refl, sym, ap, ap₂, subst, ◌∙◌, arith}
use Rattle.std.specs.List.{All}
use Rattle.std.proofs.lemmas.List.Elements.{All-cons}
use Rattle.std.proofs.Math.Seq.{drop-append_seam}
use Rattle.viz_base.specs.declared.port.Port as port
use Rattle.viz_turn.specs.Tales.{has, GoesOn}
use Rattle.viz_turn.specs.Known.{Identity}
use Rattle.viz_hub.specs.Passes.{PassKnown, numbers, one, GoesFurther}
use Rattle.viz_turn.proofs.ListLemmas.{has_left, has_right}
use Rattle.viz_turn.proofs.TaleLemmas.{further_still, all_of_it}
use Rattle.viz_entries.specs.declared.entry.Entry.{Entry}
use Rattle.viz_entries.specs.History.{by_of}
use Rattle.viz_script.specs.declared.order.Step.{Step}
use Rattle.viz_report.specs.declared.line.Line.{Line}
use Rattle.viz_report.specs.declared.line.Row.{Row}
use Rattle.viz_report.specs.Report.{rows_from, phase_rows}
use Rattle.viz_actor.specs.Serving.{commands_of}
use Rattle.viz_actor.proofs.ServeLemmas.{served_length}
use Rattle.viz_actor.specs.declared.places.Place.{Place}
use Rattle.viz_actor.specs.Places.{HasRoom, HaveRoom, work, Splits, Joins, EachServed, HasPass, without, new_rows, all_new_rows, untold, collected, IsPlaceTold, ActorsServed, counts_of, IsPhase}
use Rattle.viz_actor.proofs.PhaseLemmas.{given, split_root, split_born, split_once, given_fresh, OneDid, Did, did}

abbrev pub known_or : PassKnown → Option PassKnown → PassKnown
known_or d None = d
known_or d (Some p) = p

module _ {P : Type 0} (m : port.Ghosts P) (limit : ℕ) (steps : List Step) where
  pub did_ready : (hub : Identity) (before : List Entry) (actor : ℕ) (ks : List ℕ) (lines : List (List Line)) (old new : List (Place P)) → Did m limit steps hub before actor ks lines old new → All (HasPass hub) new
  did_ready hub before actor [] [] [] [] d = λ k x b. absurd (omega (arith, b))
  did_ready hub before actor [] [] [] (n ∷ ns) d = absurd d
  did_ready hub before actor [] [] (s ∷ ss) new d = absurd d
  did_ready hub before actor [] (ls ∷ lines) old new d = absurd d
  did_ready hub before actor (k ∷ ks) [] old new d = absurd d
  did_ready hub before actor (k ∷ ks) (ls ∷ lines) [] new d = absurd d
  did_ready hub before actor (k ∷ ks) (ls ∷ lines) (s ∷ ss) [] d = absurd d
  did_ready hub before actor (k ∷ ks) (ls ∷ lines) (s ∷ ss) (n ∷ ns) d = All-cons (HasPass hub) n ns (_, d.0.pass, refl) (did_ready hub before (actor + 1) ks lines ss ns d.1)

  pub joined : (hub : Identity) (before : List Entry) (actor : ℕ) (ks : List ℕ) (lines : List (List Line)) (old new : List (Place P)) (root end : PassKnown)
      → Did m limit steps hub before actor ks lines old new → Joins root new end
      → (end.turn ≡ root.turn) × (end.number ≡ root.number) × (end.ended ≡ root.ended ++ ks) × (end.born ≡ root.born) × GoesFurther root end.seen
      × ActorsServed m limit steps before end.seen actor ks lines old (map collected (map without new))
  joined hub before actor [] [] [] [] root end d j =
      (ap (λ p. p.turn) j, ap (λ p. p.number) j, ap (λ p. p.ended) j ∙ sym (append-nil root.ended), ap (λ p. p.born) j, subst (λ (l : List Entry). GoesFurther root l) (sym (ap (λ p. p.seen) j)) (all_of_it by_of (numbers root) root.seen), tt)
  joined hub before actor [] [] [] (n ∷ ns) root end d j = absurd d
  joined hub before actor [] [] (s ∷ ss) new root end d j = absurd d
  joined hub before actor [] (ls ∷ lines) old new root end d j = absurd d
  joined hub before actor (k ∷ ks) [] old new root end d j = absurd d
  joined hub before actor (k ∷ ks) (ls ∷ lines) [] new root end d j = absurd d
  joined hub before actor (k ∷ ks) (ls ∷ lines) (s ∷ ss) [] root end d j = absurd d
  joined hub before actor (k ∷ ks) (ls ∷ lines) (s ∷ ss) (n ∷ ns) root end d j =
      let o = d.0 in
      let q : PassKnown = record {
        turn = hub;
        number = k;
        ended = [];
        born = [];
        seen = o.seen;
        sent = o.sent;
        last = o.last;
      } in
      let is : j.0 ≡ q = ap (known_or q) (sym j.2 ∙ o.pass) in
      let mid = j.1 in
      let mid_is : mid ≡ one root q = j.3 ∙ ap (one root) is in
      let r = joined hub before (actor + 1) ks lines ss ns mid end d.1 j.6 in
      let ended : mid.ended ≡ root.ended ++ k ∷ [] = ap (λ p. p.ended) mid_is in
      let nums : numbers mid ≡ root.number ∷ (root.ended ++ k ∷ []) = ap numbers mid_is in
      let mine : GoesOn by_of (k ∷ []) o.seen mid.seen = subst (λ p. GoesFurther p mid.seen) is j.5 in
      let on : GoesOn by_of (root.number ∷ (root.ended ++ k ∷ [])) mid.seen end.seen = subst (λ ns. GoesOn by_of ns mid.seen end.seen) nums r.4 in (
        r.0 ∙ ap (λ p. p.turn) mid_is,
        r.1 ∙ ap (λ p. p.number) mid_is,
        r.2 ∙ ap (λ l. l ++ ks) ended ∙ append_assoc root.ended (k ∷ []) ks,
        r.3 ∙ ap (λ p. p.born) mid_is ∙ append-nil root.born,
        further_still by_of (root.number ∷ (root.ended ++ k ∷ [])) (numbers root) root.seen mid.seen end.seen (λ x h. has_left x (numbers root) (k ∷ []) h) j.4 on,
        (
          record {
            seen = o.seen;
            added = o.added;
            served = o.served;
            fresh = o.fresh;
            further = further_still by_of (root.number ∷ (root.ended ++ k ∷ [])) (k ∷ []) o.seen mid.seen end.seen (λ x h. has_right x (numbers root) (k ∷ []) h) mine on;
            capacity = o.capacity;
            told = refl;
          },
          r.5,
        ),
      )

  -- ---- rows

  -- the rows of an actor's new lines
  rows_of_one : (hub : Identity) (before : List Entry) (k actor : ℕ) (ls : List Line) (s n : Place P) → HasRoom steps actor s → OneDid m limit steps hub before k actor ls s n
      → new_rows n ≡ rows_from actor (length s.lines.items + 1) ls
  rows_of_one hub before k actor ls s n room o =
      let told : n.told ≡ length s.lines.items = o.told ∙ room.settled in
      let new : drop n.told n.lines.items ≡ ls = ap₂ (λ (i : ℕ) (l : List Line). drop i l) told o.added ∙ drop-append_seam s.lines.items ls in
      ap₂ (λ (a i : ℕ). rows_from a (i + 1) (drop n.told n.lines.items)) o.actor_is told ∙ ap (rows_from actor (length s.lines.items + 1)) new

  new_of_one : (hub : Identity) (before : List Entry) (k actor : ℕ) (ls : List Line) (s n : Place P) → HasRoom steps actor s → OneDid m limit steps hub before k actor ls s n
      → (length (drop n.told n.lines.items) ≡ length (commands_of actor steps)) × (n.told ≤ length n.lines.items)
  new_of_one hub before k actor ls s n room o =
      let told : n.told ≡ length s.lines.items = o.told ∙ room.settled in
      let new : drop n.told n.lines.items ≡ ls = ap₂ (λ (i : ℕ) (l : List Line). drop i l) told o.added ∙ drop-append_seam s.lines.items ls in
      (ap length new ∙ served_length m limit k (commands_of actor steps) ls before o.seen s.port n.port o.served, omega (arith, told, ap length o.added, length-append s.lines.items ls))

  pub told_rows : (hub : Identity) (before : List Entry) (actor : ℕ) (ks : List ℕ) (lines : List (List Line)) (old new : List (Place P)) → HaveRoom steps actor old
      → Did m limit steps hub before actor ks lines old new
      → (all_new_rows (map without new) ≡ phase_rows actor (counts_of old) lines) × (untold (map without new) ≡ work steps actor (length old)) × All IsPlaceTold (map without new)
  told_rows hub before actor [] [] [] [] room d = (refl, refl, λ k x b. absurd (omega (arith, b)))
  told_rows hub before actor [] [] [] (n ∷ ns) room d = absurd d
  told_rows hub before actor [] [] (s ∷ ss) new room d = absurd d
  told_rows hub before actor [] (ls ∷ lines) old new room d = absurd d
  told_rows hub before actor (k ∷ ks) [] old new room d = absurd d
  told_rows hub before actor (k ∷ ks) (ls ∷ lines) [] new room d = absurd d
  told_rows hub before actor (k ∷ ks) (ls ∷ lines) (s ∷ ss) [] room d = absurd d
  told_rows hub before actor (k ∷ ks) (ls ∷ lines) (s ∷ ss) (n ∷ ns) room d =
      let r = told_rows hub before (actor + 1) ks lines ss ns room.1 d.1 in
      let o = new_of_one hub before k actor ls s n room.0 d.0 in (
        ap₂ (λ (a b : List Row). a ++ b) (rows_of_one hub before k actor ls s n room.0 d.0) r.0,
        ap₂ (λ (a b : ℕ). a + b) o.0 r.1,
        All-cons IsPlaceTold (without n) (map without ns) o.1 r.2,
      )

  -- ---- the whole

  pub phase_done : (root r end : PassKnown) (old mid new : List (Place P)) (rows now : List Row) → HaveRoom steps 1 old → Splits 1 root old mid r → EachServed m limit steps mid new → length new ≡ length mid
      → Joins r new end → now ≡ rows ++ all_new_rows (map without new) → IsPhase m limit steps root old rows (map collected (map without new)) now end
  phase_done root r end old mid new rows now room h each len j told =
      let s = split_root 1 root old mid r h in
      let ks = given 1 root old mid r h in
      let did_all = did m limit steps 1 root old mid new r h each len in
      let d = joined root.turn root.seen 1 ks did_all.0 old new r end did_all.1 j in
      let ended : end.ended ≡ root.ended ++ ks = d.2 ∙ ap (λ l. l ++ ks) s.2 in
      let nums : numbers end ≡ numbers root ++ ks = ap₂ (λ (x : ℕ) (l : List ℕ). x ∷ l) (d.1 ∙ s.1) ended in
      record {
        passes = ks;
        lines = did_all.0;
        turn = d.0 ∙ s.0;
        number = d.1 ∙ s.1;
        ended = ended;
        later = subst (λ (l : List Entry). GoesOn by_of (numbers root) l end.seen) s.3 (subst (λ (ns : List ℕ). GoesOn by_of ns r.seen end.seen) (ap₂ (λ (x : ℕ) (l : List ℕ). x ∷ l) s.1 s.2) d.4);
        whole = λ w. record {
          first = subst (λ (ns : List ℕ). has 0 ns ≡ true) (sym nums) (has_left 0 (numbers root) ks w.first);
          all = λ x b. subst (λ (ns : List ℕ). has x ns ≡ true) (sym nums)
              (⊎_elim (λ i. has_right x (numbers root) ks i) (λ o. has_left x (numbers root) ks (w.all x o)) (split_born 1 root old mid r h x (subst (λ (l : List ℕ). has x l ≡ true) d.3 b)));
        };
        distinct = split_once 1 root old mid r h;
        fresh = given_fresh 1 root old mid r h;
        actors = d.5;
        rows_are = told ∙ ap (λ l. rows ++ l) (told_rows root.turn root.seen 1 ks did_all.0 old new room did_all.1).0;
      }
