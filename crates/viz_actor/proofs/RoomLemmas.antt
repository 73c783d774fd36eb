-- There is room for the steps of a phase, and behind it for the others.
use Rattle.std.proofs.Common.{◌≡◌, ℕ, zero, suc, ◌+◌, List, [], ◌∷◌, ◌++◌, length, length-append, refl, sym, ap, subst, ◌∙◌, arith}
use Rattle.viz_base.specs.declared.port.Port as port
use Rattle.viz_hub.specs.Passes.{PassKnown}
use Rattle.viz_entries.specs.declared.entry.Entry.{Entry}
use Rattle.viz_script.specs.declared.order.Step.{Step}
use Rattle.viz_report.specs.declared.line.Line.{Line}
use Rattle.viz_report.specs.declared.line.Row.{Row}
use Rattle.viz_report.specs.Report.{rows_from, phase_rows}
use Rattle.viz_actor.specs.Serving.{commands_of}
use Rattle.viz_actor.proofs.ServeLemmas.{commands-append, served_length}
use Rattle.viz_actor.specs.declared.places.Place.{Place}
use Rattle.viz_actor.specs.Groups.{chunks_from, in_front, behind}
use Rattle.viz_actor.specs.Places.{HasRoom, HaveRoom, work, ActorServed, ActorsServed, counts_of, IsPhase}
use Rattle.viz_actor.specs.Runs.{RunsChunk, Runs}
use Rattle.viz_actor.proofs.RowLemmas.{rows_length}

both_lengths : (xs ys : List Step) (actor : ℕ) → length (commands_of actor (xs ++ ys)) ≡ length (commands_of actor xs) + length (commands_of actor ys)
both_lengths xs ys actor = ap length (commands-append actor xs ys) ∙ length-append (commands_of actor xs) (commands_of actor ys)

pub work-append : (xs ys : List Step) (actor count : ℕ) → work (xs ++ ys) actor count ≡ work xs actor count + work ys actor count
work-append xs ys actor zero = refl
work-append xs ys actor (suc count) = omega (arith, both_lengths xs ys actor, work-append xs ys (actor + 1) count)

module _ {P : Type 0} where
  pub room_front : (xs ys : List Step) (actor : ℕ) (ss : List (Place P)) → HaveRoom (xs ++ ys) actor ss → HaveRoom xs actor ss
  room_front xs ys actor [] h = tt
  room_front xs ys actor (s ∷ ss) h =
      let r = h.0.room in
      (record { settled = h.0.settled; room = omega (arith, r, both_lengths xs ys actor) }, room_front xs ys (actor + 1) ss h.1)

  module _ (m : port.Ghosts P) (limit : ℕ) (xs ys : List Step) (before joined : List Entry) where
    room_one : (k actor : ℕ) (ls : List Line) (s t : Place P) → HasRoom (xs ++ ys) actor s → ActorServed m limit xs before joined k actor ls s t → HasRoom ys actor t
    room_one k actor ls s t h a =
        let r = h.room in
        record {
          settled = a.told;
          room = omega (arith, r, a.capacity, both_lengths xs ys actor, ap length a.added, length-append s.lines.items ls, served_length m limit k (commands_of actor xs) ls before a.seen s.port t.port a.served);
        }

    pub room_behind : (actor : ℕ) (ks : List ℕ) (lines : List (List Line)) (ss ts : List (Place P)) → HaveRoom (xs ++ ys) actor ss → ActorsServed m limit xs before joined actor ks lines ss ts → HaveRoom ys actor ts
    room_behind actor [] [] [] [] h a = tt
    room_behind actor (k ∷ ks) (ls ∷ lines) (s ∷ ss) (t ∷ ts) h a = (room_one k actor ls s t h.0 a.0, room_behind (actor + 1) ks lines ss ts h.1 a.1)
    room_behind actor [] [] [] (t ∷ ts) h a = absurd a
    room_behind actor [] [] (s ∷ ss) ts h a = absurd a
    room_behind actor [] (ls ∷ lines) ss ts h a = absurd a
    room_behind actor (k ∷ ks) [] ss ts h a = absurd a
    room_behind actor (k ∷ ks) (ls ∷ lines) [] ts h a = absurd a
    room_behind actor (k ∷ ks) (ls ∷ lines) (s ∷ ss) [] h a = absurd a

    -- as many rows as commands
    pub rows_of_phase : (actor : ℕ) (ks : List ℕ) (lines : List (List Line)) (ss ts : List (Place P)) → ActorsServed m limit xs before joined actor ks lines ss ts
        → length (phase_rows actor (counts_of ss) lines) ≡ work xs actor (length ss)
    rows_of_phase actor [] [] [] [] a = refl
    rows_of_phase actor (k ∷ ks) (ls ∷ lines) (s ∷ ss) (t ∷ ts) a =
        omega (arith, length-append (rows_from actor (length s.lines.items + 1) ls) (phase_rows (actor + 1) (counts_of ss) lines), rows_length actor (length s.lines.items + 1) ls, served_length m limit k (commands_of actor xs) ls before a.0.seen s.port t.port a.0.served, rows_of_phase (actor + 1) ks lines ss ts a.1)
    rows_of_phase actor [] [] [] (t ∷ ts) a = absurd a
    rows_of_phase actor [] [] (s ∷ ss) ts a = absurd a
    rows_of_phase actor [] (ls ∷ lines) ss ts a = absurd a
    rows_of_phase actor (k ∷ ks) [] ss ts a = absurd a
    rows_of_phase actor (k ∷ ks) (ls ∷ lines) [] ts a = absurd a
    rows_of_phase actor (k ∷ ks) (ls ∷ lines) (s ∷ ss) [] a = absurd a

  module _ (m : port.Ghosts P) (limit : ℕ) where
    -- a phase of steps
    pub chunk_of : (steps : List Step) (root : PassKnown) (old : List (Place P)) (rows : List Row) (new : List (Place P)) (now : List Row) (joined : PassKnown) → (length steps ≡ 0 → ⊥)
        → IsPhase m limit steps root old rows new now joined → RunsChunk m limit steps root old rows new now joined
    chunk_of [] root old rows new now joined some p = absurd (some refl)
    chunk_of (s ∷ steps) root old rows new now joined some p = p

    pub chunk_none : (steps : List Step) (root : PassKnown) (old : List (Place P)) (rows : List Row) → length steps ≡ 0 → RunsChunk m limit steps root old rows old rows root
    chunk_none [] root old rows none = (refl, refl, refl)
    chunk_none (s ∷ steps) root old rows none = absurd (omega (arith, none))

    pub chunk_room : (chunk later : List Step) (root : PassKnown) (old : List (Place P)) (rows : List Row) (new : List (Place P)) (now : List Row) (joined : PassKnown)
        → RunsChunk m limit chunk root old rows new now joined → HaveRoom (chunk ++ later) 1 old
        → (joined.turn ≡ root.turn) × HaveRoom later 1 new × (length now ≡ length rows + work chunk 1 (length old))
    chunk_room [] later root old rows new now joined r h =
        (ap (λ p. p.turn) r.0, subst (HaveRoom later 1) (sym r.1) h, ap length r.2 ∙ no_work (length rows) 1 (length old))
      where
        no_work : (n actor count : ℕ) → n ≡ n + work [] actor count
        no_work n actor zero = omega arith
        no_work n actor (suc count) = let rest = no_work n (actor + 1) count in omega (arith, rest)
    chunk_room (s ∷ steps) later root old rows new now joined r h = (
      r.turn,
      room_behind m limit (s ∷ steps) later root.seen joined.seen 1 r.passes r.lines old new h r.actors,
      ap length r.rows_are ∙ length-append rows (phase_rows 1 (counts_of old) r.lines)
          ∙ ap (λ n. length rows + n) (rows_of_phase m limit (s ∷ steps) later root.seen joined.seen 1 r.passes r.lines old new r.actors),
    )

    -- no phase is left
    pub runs_none : (left phase : ℕ) (steps : List Step) (root : PassKnown) (old : List (Place P)) (rows : List Row) → left ≡ 0 → Runs m limit (chunks_from left phase steps) root old rows old rows root
    runs_none left phase steps root old rows none = subst (λ n. Runs m limit (chunks_from n phase steps) root old rows old rows root) (sym none) (refl, refl, refl)

    -- a phase, and those behind it
    pub runs_more : (left rest phase : ℕ) (steps now later : List Step) (root mid end : PassKnown) (old places new : List (Place P)) (rows told all : List Row) → left ≡ suc rest
        → now ≡ in_front phase steps → later ≡ behind phase steps → RunsChunk m limit now root old rows places told mid
        → Runs m limit (chunks_from rest (phase + 1) later) mid places told new all end → Runs m limit (chunks_from left phase steps) root old rows new all end
    runs_more left rest phase steps now later root mid end old places new rows told all is front back chunk run =
        subst (λ n. Runs m limit (chunks_from n phase steps) root old rows new all end) (sym is) (
          mid,
          places,
          told,
          subst (λ (c : List Step). RunsChunk m limit c root old rows places told mid) front chunk,
          subst (λ (c : List Step). Runs m limit (chunks_from rest (phase + 1) c) mid places told new all end) back run,
        )
