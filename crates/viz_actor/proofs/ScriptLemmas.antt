-- The account of a whole script, by its phases.
use Rattle.std.proofs.Common.{◌≡◌, ℕ, zero, suc, ◌+◌, ◌≤◌, ⊎_elim, Bool, true, false, true≢false, not, ◌&&◌, List, [], ◌∷◌, ◌++◌, All, Ok, map, length, refl, sym, ap, ap₂, subst, ◌∙◌, arith}
use Rattle.std.proofs.lemmas.List.{length-map}
use Rattle.std.proofs.lemmas.List.Elements.{All-rest}
use mathlib.Core.Option.{some, some-ne-none}
use lib.ListN.{get_elem?}
use Rattle.viz_base.specs.declared.port.Port as port
use Rattle.viz_turn.specs.Tales.{has, clear, HasNoOther}
use Rattle.viz_turn.specs.Known.{Identity}
use Rattle.viz_hub.specs.Passes.{PassKnown, first_pass, numbers, IsWhole, GoesFurther}
use Rattle.viz_turn.proofs.ListLemmas.{same_at}
use Rattle.viz_turn.proofs.TaleLemmas.{further_still}
use Rattle.viz_turn.proofs.LawLemmas.{no_other}
use Rattle.viz_entries.specs.declared.entry.Entry.{Entry}
use Rattle.viz_entries.specs.History.{by_of, IsLegal}
use Rattle.viz_script.specs.declared.order.Step.{Step}
use Rattle.viz_script.specs.Orders.{Asked}
use Rattle.viz_script.specs.Script.{Stepped, script_of, stepped, phase_limit}
use Rattle.viz_report.specs.declared.line.Line.{Line}
use Rattle.viz_report.specs.declared.line.Row.{Row}
use Rattle.viz_report.specs.Report.{phases_rows, report_rows}
use Rattle.viz_account.specs.Account.{IsActor, AreActors, IsAccountOf}
use Rattle.viz_actor.specs.declared.places.Place.{Place}
use Rattle.viz_actor.specs.Groups.{actors_over, by_actor, history_limit, chunks_from, behind}
use Rattle.viz_actor.specs.Places.{counts_of}
use Rattle.viz_actor.specs.Runs.{Runs, IsIdle, ports_of, IsSeatedScript}
use Rattle.viz_actor.specs.Served.{IsServedScript}
use Rattle.viz_actor.proofs.ConsLemmas.{flat}
use Rattle.viz_actor.proofs.GroupLemmas.{script_ascends, all_commands}
use Rattle.viz_actor.proofs.LaterLemmas.{IsLater, AreLater}
use Rattle.viz_actor.proofs.RunLemmas.{scripts_from, runs_later, runs_turn, later_length}
use Rattle.viz_actor.proofs.TaleLemmas.{runs_tale}

pub chunks_length : (count phase : ℕ) (steps : List Step) → length (chunks_from count phase steps) ≡ count
chunks_length zero phase steps = refl
chunks_length (suc count) phase steps = ap suc (chunks_length count (phase + 1) (behind phase steps))

-- ---- whose the entries are

not_both : (a b : Bool) → (not a && b) ≡ true → (a ≡ true → ⊥) × (b ≡ true)
not_both true b e = absurd (true≢false (sym e))
not_both false b e = (λ t. true≢false (sym t), e)

-- an entry of a list without these numbers has none of them
not_at : (ns : List ℕ) (h : List Entry) → clear by_of ns h ≡ true → (k : ℕ) (e : Entry) → get_elem? h k ≡ some e → has (by_of e) ns ≡ true → ⊥
not_at ns [] c k e at mine = absurd (some-ne-none e (sym at))
not_at ns (x ∷ h) c zero e at mine =
    (not_both (has (by_of x) ns) (clear by_of ns h) c).0 (subst (λ (z : Entry). has (by_of z) ns ≡ true) (sym (same_at (x ∷ h) 0 x e refl at)) mine)
not_at ns (x ∷ h) c (suc k) e at mine = not_at ns h (not_both (has (by_of x) ns) (clear by_of ns h) c).1 k e at mine

module _ {P : Type 0} (m : port.Ghosts P) (limit : ℕ) where
  first_later : (h : List Entry) (ps : List ℕ) (os : List (List Asked)) (ls : List (List Line)) (ends : List ℕ) (b a : P) → IsLater m limit h 0 ps os ls ends b a → IsActor m limit h ps os ls ends b a
  first_later h ps os ls ends b a l = record { gained = l.gained; own = l.own; faults = l.faults; idle = l.idle }

  -- actors from the first phase on, in front of other ports
  all_actors : (h : List Entry) (passes : List (List ℕ)) (scripts : List (List (List Asked))) (told : List (List (List Line))) (ends : List ℕ) (before after : List P)
      → AreLater m limit h 0 passes scripts told ends before after → AreActors m limit h passes scripts told ends before after
  all_actors h [] [] [] ends [] [] t = refl
  all_actors h (ps ∷ passes) (os ∷ scripts) (ls ∷ told) ends (b ∷ before) (a ∷ after) t = (first_later h ps os ls ends b a t.0, all_actors h passes scripts told ends before after t.1)
  all_actors h [] [] [] ends [] (a ∷ after) t = absurd t
  all_actors h [] [] [] ends (b ∷ before) after t = absurd t
  all_actors h [] [] (ls ∷ told) ends before after t = absurd t
  all_actors h [] (os ∷ scripts) told ends before after t = absurd t
  all_actors h (ps ∷ passes) [] told ends before after t = absurd t
  all_actors h (ps ∷ passes) (os ∷ scripts) [] ends before after t = absurd t
  all_actors h (ps ∷ passes) (os ∷ scripts) (ls ∷ told) ends [] after t = absurd t
  all_actors h (ps ∷ passes) (os ∷ scripts) (ls ∷ told) ends (b ∷ before) [] t = absurd t

  other_ports : (h : List Entry) (passes : List (List ℕ)) (scripts : List (List (List Asked))) (told : List (List (List Line))) (ends : List ℕ) (before after others : List P)
      → AreActors m limit h passes scripts told ends before after → AreActors m limit h passes scripts told ends (before ++ others) (after ++ others)
  other_ports h [] [] [] ends before after others t = ap (λ l. l ++ others) t
  other_ports h (ps ∷ passes) (os ∷ scripts) (ls ∷ told) ends (b ∷ before) (a ∷ after) others t = (t.0, other_ports h passes scripts told ends before after others t.1)
  other_ports h [] [] (ls ∷ told) ends before after others t = absurd t
  other_ports h [] (os ∷ scripts) told ends before after others t = absurd t
  other_ports h (ps ∷ passes) [] told ends before after others t = absurd t
  other_ports h (ps ∷ passes) (os ∷ scripts) [] ends before after others t = absurd t
  other_ports h (ps ∷ passes) (os ∷ scripts) (ls ∷ told) ends [] after others t = absurd t
  other_ports h (ps ∷ passes) (os ∷ scripts) (ls ∷ told) ends (b ∷ before) [] others t = absurd t

  -- ---- the rows

  idle_counts : {A : Type 0} (ss : List (Place P)) (told : List A) → All IsIdle ss → length told ≡ length ss → counts_of ss ≡ map (λ a. 1) told
  idle_counts [] [] idle len = refl
  idle_counts (s ∷ ss) (l ∷ told) idle len =
      let first : IsIdle s = idle 0 s (omega arith) in
      let one : length s.lines.items + 1 ≡ 1 = ap (λ l. length l + 1) first.lines in
      ap₂ (λ (x : ℕ) (xs : List ℕ). x ∷ xs) one (idle_counts ss told (All-rest IsIdle s ss (s ∷ ss) refl idle) (omega (arith, len)))
  idle_counts [] (l ∷ told) idle len = absurd (omega (arith, len))
  idle_counts (s ∷ ss) [] idle len = absurd (omega (arith, len))

  -- ---- the account

  none_of_first : (t : Identity) (chunks : List (List Step)) (h : List Entry) (end : PassKnown) (old new : List (Place P)) (rows now : List Row)
      → Runs m limit chunks (first_pass t) old rows new now end → GoesFurther end h → clear by_of (0 ∷ []) h ≡ true
  none_of_first t chunks h end old new rows now r on =
      let l = runs_later m limit chunks (first_pass t) old rows new now end r in
      let all = further_still by_of (numbers end) (0 ∷ []) [] end.seen h l.0 l.1 on in
      subst (λ (l : List Entry). clear by_of (0 ∷ []) l ≡ true) (sym all.1) all.2

  pub seated_account : (t : Identity) (phases : ℕ) (bytes : List ℕ) (steps : List Step) (h : List Entry) (end : PassKnown) (old new : List (Place P)) (now : List Row)
      → script_of (length old) bytes ≡ Ok (map stepped steps) → All IsIdle old
      → Runs m limit (chunks_from phases 1 steps) (first_pass t) old [] new now end
      → IsLegal h → length h ≤ limit → GoesFurther end h → (IsWhole end → HasNoOther by_of (numbers end) h)
      → (told : List (List (List Line))) × IsAccountOf m limit (by_actor (length old) phases (map stepped steps)) h told (ports_of old) (ports_of new) × (now ≡ report_rows phases told)
  seated_account t phases bytes steps h end old new now script idle runs legal within on whole =
      let chunks = chunks_from phases 1 steps in
      let tale = runs_tale m limit chunks h (first_pass t) end old new [] now runs on in
      let free = none_of_first t chunks h end old new [] now runs on in
      let all = whole ((runs_turn m limit chunks (first_pass t) old [] new now end runs).1 (record { first = refl; all = λ n none. absurd (true≢false (sym none)) })) in
      let own : HasNoOther by_of (flat tale.passes) h = λ k e at.
      ⊎_elim (λ (z : has (by_of e) (0 ∷ []) ≡ true). absurd (not_at (0 ∷ []) h free k e at z)) (λ i. i) (tale.whole (by_of e) (all k e at)) in
      let lens = later_length m limit h 0 tale.passes (scripts_from (length old) 1 chunks) tale.told tale.ends (ports_of old) (ports_of new) tale.later in
      let commands = all_commands (length old) 1 phases steps (script_ascends (length old) bytes (map stepped steps) script) in (
        tale.told,
        record {
          passes = tale.passes;
          ends = tale.ends;
          legal = legal;
          within = within;
          apart = tale.apart;
          whole = no_other by_of (flat tale.passes) h own;
          actors = subst (λ s. AreActors m limit h tale.passes s tale.told tale.ends (ports_of old) (ports_of new)) commands
              (all_actors h tale.passes (scripts_from (length old) 1 chunks) tale.told tale.ends (ports_of old) (ports_of new) tale.later);
        },
        tale.rows_are ∙ ap₂ (λ n c. phases_rows n c tale.told) (chunks_length phases 1 steps)
            (idle_counts old tale.told idle (lens.1 ∙ length-map old (λ s. s.port))),
      )

-- the account by the numbers of the hub and the vectors that hold it
pub is_seated : {P : Type 0} (m : port.Ghosts P) (limit : ℕ) (steps : List Step) (rows : List Row) (h history : List Entry) (actors : ℕ) (seated old new : List P) (told : List (List (List Line)))
    → limit ≡ history_limit → h ≡ history → seated ≡ old → length seated ≡ actors → IsAccountOf m limit (by_actor actors phase_limit (map stepped steps)) h told seated new
    → rows ≡ report_rows phase_limit told → IsSeatedScript m (map stepped steps) rows history old new
is_seated {P = P} m limit steps rows h history actors seated old new told at same ports len account rows_are =
    let by : ℕ → List (List (List Asked)) = λ n. by_actor n phase_limit (map stepped steps) in
    record {
      told = told;
      account = subst (λ n. IsAccountOf m n (by (length old)) history told old new) at
          (subst (λ (l : List Entry). IsAccountOf m limit (by (length old)) l told old new) same
          (subst (λ (l : List P). IsAccountOf m limit (by (length l)) h told l new) ports
          (subst (λ n. IsAccountOf m limit (by n) h told seated new) (sym len) account)));
      rows_are = rows_are;
    }

-- ports past the actors are as before
pub over_ports : {P : Type 0} (m : port.Ghosts P) (steps : List Stepped) (rows : List Row) (h : List Entry) (seated others new all : List P)
    → all ≡ seated ++ others → length seated ≡ actors_over all → IsSeatedScript m steps rows h seated new → IsServedScript m steps rows h all (new ++ others)
over_ports {P = P} m steps rows h seated others new all is len s =
    let a = s.account in
    record {
      told = s.told;
      account = record {
        passes = a.passes;
        ends = a.ends;
        legal = a.legal;
        within = a.within;
        apart = a.apart;
        whole = a.whole;
        actors = subst (λ (l : List P). AreActors m history_limit h a.passes (by_actor (actors_over all) phase_limit steps) s.told a.ends l (new ++ others)) (sym is)
            (subst (λ n. AreActors m history_limit h a.passes (by_actor n phase_limit steps) s.told a.ends (seated ++ others) (new ++ others)) len
            (other_ports m history_limit h a.passes (by_actor (length seated) phase_limit steps) s.told a.ends seated new others a.actors));
      };
      rows_are = s.rows_are;
    }
