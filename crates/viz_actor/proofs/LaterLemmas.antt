-- What an actor did in the phases from one on, in a history that goes further.
use Rattle.std.proofs.Common.{◌≡◌, ℕ, ◌+◌, ◌≤◌, ⊎_elim, IsTrue, true, true≢false, List, [], ◌∷◌, ◌++◌, length, append_assoc, append-nil, flat_map, refl, sym, ap, ap₂, subst, ◌∙◌, arith}
use Rattle.viz_base.specs.declared.call.Call.{Call}
use Rattle.viz_base.specs.declared.port.Port as port
use Rattle.viz_turn.specs.Tales.{has, clear, GoesOn}
use Rattle.viz_turn.proofs.ListLemmas.{has_head, has_tail, has_cons}
use Rattle.viz_turn.proofs.TaleLemmas.{further_still}
use Rattle.viz_entries.specs.declared.entry.Entry.{Entry}
use Rattle.viz_entries.specs.History.{by_of}
use Rattle.viz_script.specs.declared.order.Step.{Step}
use Rattle.viz_script.specs.Orders.{Asked}
use Rattle.viz_report.specs.declared.line.Line.{Line}
use Rattle.viz_account.specs.Account.{edited, AreTold, ArePhases, places_from, places, faults_told, RoseBy}
use Rattle.viz_account.proofs.HistoryLemmas.{places_append_from}
use Rattle.viz_account.proofs.AccountLemmas.{told_longer, faults_append, rose_none, rose_more, both_idle}
use Rattle.viz_actor.specs.Serving.{commands_of}
use Rattle.viz_actor.proofs.ServeLemmas.{places_clear, places_same, longer}
use Rattle.viz_actor.specs.declared.places.Place.{Place}
use Rattle.viz_actor.specs.Places.{ActorServed}
use Rattle.viz_actor.proofs.WiderLemmas.{told_wider, phases_wider, places_of_one, places_of_others, places_of_none}

-- what an actor did by these passes in phases, the first of which began with so many entries
pub record IsLater {P : Type 0} (m : port.Ghosts P) (limit : ℕ) (h : List Entry) (low : ℕ) (passes : List ℕ) (phases : List (List Asked))
    (lines : List (List Line)) (ends : List ℕ) (before after : P) : Type 0 where
  pub gained : (mine : List Call) × (IsTrue m.tells_calls → m.calls after ≡ m.calls before ++ mine) × ArePhases limit h passes low phases lines ends mine
  pub own : places passes h ≡ flat_map (λ ls. flat_map edited ls) lines
  pub faults : RoseBy (faults_told (flat_map (λ ls. ls) lines)) (m.faults before) (m.faults after)
  pub idle : flat_map (λ os. os) phases ≡ [] → after ≡ before

module _ {P : Type 0} (m : port.Ghosts P) (limit : ℕ) where
  -- no phase
  pub later_none : (h : List Entry) (low : ℕ) (p : P) → IsLater m limit h low [] [] [] [] p p
  later_none h low p = record {
    gained = ([], (λ tells. sym (append-nil (m.calls p))), refl);
    own = places_of_none 1 h;
    faults = rose_none (m.faults p);
    idle = λ e. refl;
  }

  -- a phase without steps in front
  pub later_idle : (h : List Entry) (low : ℕ) (ps : List ℕ) (phases : List (List Asked)) (lines : List (List Line)) (ends : List ℕ) (p q : P) → low ≤ length h
      → IsLater m limit h low ps phases lines ends p q → IsLater m limit h low ps ([] ∷ phases) ([] ∷ lines) (low ∷ ends) p q
  later_idle h low ps phases lines ends p q within s = record {
    gained = (s.gained.0, s.gained.1, (low, [], s.gained.0, refl, (refl, refl), omega arith, within, s.gained.2));
    own = s.own;
    faults = s.faults;
    idle = s.idle;
  }

  -- an actor's places by its pass of the first phase and its later passes
  own_places : (k : ℕ) (ps : List ℕ) (before seen joined h : List Entry) (ls : List Line) (lines : List (List Line)) → clear by_of (k ∷ []) before ≡ true → GoesOn by_of (k ∷ []) seen joined
      → GoesOn by_of (k ∷ []) joined h → clear by_of ps joined ≡ true → places (k ∷ []) seen ≡ places (k ∷ []) before ++ flat_map edited ls
      → places ps h ≡ flat_map (λ l. flat_map edited l) lines → places (k ∷ ps) h ≡ flat_map edited ls ++ flat_map (λ l. flat_map edited l) lines
  own_places k ps before seen joined h ls lines fresh on further others mine rest =
      let n = 1 + length joined in
      let first : places_from (k ∷ ps) 1 joined ≡ flat_map edited ls =
      places_of_one k ps 1 joined others ∙ places_same (k ∷ []) seen joined on ∙ mine ∙ ap (λ l. l ++ flat_map edited ls) (places_clear (k ∷ []) 1 before fresh) in
      let behind : places_from ps n further.0 ≡ flat_map (λ l. flat_map edited l) lines =
      sym (ap (places ps) further.1 ∙ places_append_from ps 1 joined further.0 ∙ ap (λ l. l ++ places_from ps n further.0) (places_clear ps 1 joined others)) ∙ rest in
      ap (places (k ∷ ps)) further.1 ∙ places_append_from (k ∷ ps) 1 joined further.0
      ∙ ap₂ (λ (a b : List ℕ). a ++ b) first (places_of_others k ps n further.0 further.2 ∙ behind)

  -- a phase in front
  pub later_phase : (steps : List Step) (before joined h : List Entry) (k actor : ℕ) (ls : List Line) (s t : Place P) (ps : List ℕ) (phases : List (List Asked)) (lines : List (List Line)) (ends : List ℕ) (q : P)
      → ActorServed m limit steps before joined k actor ls s t → GoesOn by_of (k ∷ []) joined h → clear by_of ps joined ≡ true
      → IsLater m limit h (length joined) ps phases lines ends t.port q → IsLater m limit h (length before) (k ∷ ps) (commands_of actor steps ∷ phases) (ls ∷ lines) (length joined ∷ ends) s.port q
  later_phase steps before joined h k actor ls s t ps phases lines ends q a on others r =
      let os = commands_of actor steps in
      let all = a.served in
      let mine = all.gained.0 in
      let last = all.gained.1 in
      let seen_in : GoesOn by_of (k ∷ []) a.seen h = further_still by_of (k ∷ []) (k ∷ []) a.seen joined h (λ x i. i) a.further on in
      let told : AreTold limit h (k ∷ []) (length before) os ls mine last =
      subst (λ (l : List Entry). AreTold limit l (k ∷ []) (length before) os ls mine last) (sym seen_in.1) (told_longer limit a.seen seen_in.0 (k ∷ []) (length before) os ls mine last all.gained.3) in
      let one : (x : ℕ) → has x (k ∷ []) ≡ true → has x (k ∷ ps) ≡ true =
      λ x i. ⊎_elim (λ (e : x ≡ k). subst (λ (y : ℕ). has y (k ∷ ps) ≡ true) (sym e) (has_head k ps)) (λ (o : has x [] ≡ true). absurd (true≢false (sym o))) (has_cons x k [] i) in
      record {
        gained = (
          mine ++ r.gained.0,
          (λ tells. r.gained.1 tells ∙ ap (λ c. c ++ r.gained.0) (all.gained.2 tells) ∙ append_assoc (m.calls s.port) mine r.gained.0),
          (
            last,
            mine,
            r.gained.0,
            refl,
            told_wider limit h (k ∷ []) (k ∷ ps) one (length before) os ls mine last told,
            omega (arith, all.gained.4, longer (k ∷ []) a.seen joined a.further),
            longer (k ∷ []) joined h on,
            phases_wider limit h ps (k ∷ ps) (λ x i. has_tail x k ps i) (length joined) phases lines ends r.gained.0 r.gained.2,
          ),
        );
        own = own_places k ps before a.seen joined h ls lines a.fresh a.further on others all.own r.own;
        faults = subst (λ n. RoseBy n (m.faults s.port) (m.faults q)) (sym (faults_append ls (flat_map (λ l. l) lines)))
            (rose_more (faults_told ls) (faults_told (flat_map (λ l. l) lines)) (m.faults s.port) (m.faults t.port) (m.faults q) all.faults r.faults);
        idle = both_idle os (flat_map (λ o. o) phases) s.port t.port q all.idle r.idle;
      }

  -- ---- all actors

  abbrev pub AreLater : List Entry → ℕ → List (List ℕ) → List (List (List Asked)) → List (List (List Line)) → List ℕ → List P → List P → Type 0
  AreLater h low [] [] [] ends [] [] = Unit {0}
  AreLater h low (ps ∷ passes) (os ∷ scripts) (ls ∷ told) ends (b ∷ before) (a ∷ after) = IsLater m limit h low ps os ls ends b a × AreLater h low passes scripts told ends before after
  AreLater h low passes scripts told ends before after = ⊥
