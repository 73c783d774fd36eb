-- Passes are split off for a phase, and each actor works.
use Rattle.std.proofs.Common.{◌≡◌, ℕ, suc, ◌+◌, ◌⊎◌, inl, inr, ⊎_elim, true, false, true≢false, List, [], ◌∷◌, ◌++◌, length, Option, Some, None, refl, sym, ap, subst, ◌∙◌, arith}
use Rattle.std.specs.List.{All}
use Rattle.std.specs.Prelude.{vec_capacity}
use Rattle.std.proofs.lemmas.List.Elements.{All-cons}
use Rattle.std.proofs.lemmas.Bool.{false_from_ne_true}
use Rattle.viz_base.specs.declared.port.Port as port
use Rattle.viz_turn.specs.Tales.{has, once, clear}
use Rattle.viz_turn.specs.Known.{Identity}
use Rattle.viz_turn.specs.Known as turn
use Rattle.viz_hub.specs.Passes.{PassKnown, numbers, as_known, with_sent, elder, younger, IsFresh}
use Rattle.viz_hub.specs.declared.sent.Sent.{Sent}
use Rattle.viz_turn.proofs.ListLemmas.{has_head, has_tail, has_cons, once_cons}
use Rattle.viz_entries.specs.declared.entry.Entry.{Entry}
use Rattle.viz_entries.specs.History.{by_of}
use Rattle.viz_script.specs.declared.order.Step.{Step}
use Rattle.viz_report.specs.declared.line.Line.{Line}
use Rattle.viz_account.specs.Served.{ServesAll}
use Rattle.viz_actor.specs.Serving.{commands_of, AddsLines}
use Rattle.viz_actor.specs.declared.places.Place.{Place}
use Rattle.viz_actor.specs.Places.{HaveRoom, with_pass, Splits, IsReady, PassServed, PlaceServed, EachServed}

module _ {P : Type 0} where
  -- the numbers that were given
  abbrev pub given : (actor : ℕ) (root : PassKnown) (old mid : List (Place P)) (new : PassKnown) → Splits actor root old mid new → List ℕ
  given actor root [] [] new h = []
  given actor root [] (t ∷ ts) new h = []
  given actor root (s ∷ ss) [] new h = []
  given actor root (s ∷ ss) (t ∷ ts) new h = h.0 ∷ given (actor + 1) (elder h.0 root) ss ts new h.3

  pub split_root : (actor : ℕ) (root : PassKnown) (old mid : List (Place P)) (new : PassKnown) → Splits actor root old mid new
      → (new.turn ≡ root.turn) × (new.number ≡ root.number) × (new.ended ≡ root.ended) × (new.seen ≡ root.seen)
  split_root actor root [] [] new h = (ap (λ p. p.turn) h, ap (λ p. p.number) h, ap (λ p. p.ended) h, ap (λ p. p.seen) h)
  split_root actor root [] (t ∷ ts) new h = absurd h
  split_root actor root (s ∷ ss) [] new h = absurd h
  split_root actor root (s ∷ ss) (t ∷ ts) new h = split_root (actor + 1) (elder h.0 root) ss ts new h.3

  pub split_length : (actor : ℕ) (root : PassKnown) (old mid : List (Place P)) (new : PassKnown) → Splits actor root old mid new → length mid ≡ length old
  split_length actor root [] [] new h = refl
  split_length actor root [] (t ∷ ts) new h = absurd h
  split_length actor root (s ∷ ss) [] new h = absurd h
  split_length actor root (s ∷ ss) (t ∷ ts) new h = ap suc (split_length (actor + 1) (elder h.0 root) ss ts new h.3)

  pub split_born : (actor : ℕ) (root : PassKnown) (old mid : List (Place P)) (new : PassKnown) (h : Splits actor root old mid new) (x : ℕ)
      → has x new.born ≡ true → (has x (given actor root old mid new h) ≡ true) ⊎ (has x root.born ≡ true)
  split_born actor root [] [] new h x b = inr (subst (λ p. has x p.born ≡ true) h b)
  split_born actor root [] (t ∷ ts) new h x b = absurd h
  split_born actor root (s ∷ ss) [] new h x b = absurd h
  split_born actor root (s ∷ ss) (t ∷ ts) new h x b =
      let rest = given (actor + 1) (elder h.0 root) ss ts new h.3 in
      ⊎_elim (λ i. inl (has_tail x h.0 rest i))
      (λ o. ⊎_elim (λ (e : x ≡ h.0). inl (subst (λ (y : ℕ). has y (h.0 ∷ rest) ≡ true) (sym e) (has_head h.0 rest))) (λ i. inr i) (has_cons x h.0 root.born o))
      (split_born (actor + 1) (elder h.0 root) ss ts new h.3 x b)

  -- a number that was born before is given no more
  not_given : (actor : ℕ) (root : PassKnown) (old mid : List (Place P)) (new : PassKnown) (h : Splits actor root old mid new) (x : ℕ)
      → has x root.born ≡ true → has x (given actor root old mid new h) ≡ false
  not_given actor root [] [] new h x b = refl
  not_given actor root [] (t ∷ ts) new h x b = absurd h
  not_given actor root (s ∷ ss) [] new h x b = absurd h
  not_given actor root (s ∷ ss) (t ∷ ts) new h x b =
      let more = given (actor + 1) (elder h.0 root) ss ts new h.3 in
      let rest : has x more ≡ false = not_given (actor + 1) (elder h.0 root) ss ts new h.3 x (has_tail x h.0 root.born b) in
      false_from_ne_true (has x (h.0 ∷ more)) (λ y. ⊎_elim
      (λ (e : x ≡ h.0). true≢false (sym b ∙ ap (λ (z : ℕ). has z root.born) e ∙ h.1.born))
      (λ (i : has x more ≡ true). true≢false (sym i ∙ rest)) (has_cons x h.0 more y))

  pub split_once : (actor : ℕ) (root : PassKnown) (old mid : List (Place P)) (new : PassKnown) (h : Splits actor root old mid new) → once (given actor root old mid new h) ≡ true
  split_once actor root [] [] new h = refl
  split_once actor root [] (t ∷ ts) new h = refl
  split_once actor root (s ∷ ss) [] new h = refl
  split_once actor root (s ∷ ss) (t ∷ ts) new h =
      once_cons h.0 (given (actor + 1) (elder h.0 root) ss ts new h.3) (not_given (actor + 1) (elder h.0 root) ss ts new h.3 h.0 (has_head h.0 root.born))
      (split_once (actor + 1) (elder h.0 root) ss ts new h.3)

  -- no number that is given is one of the root's
  pub given_fresh : (actor : ℕ) (root : PassKnown) (old mid : List (Place P)) (new : PassKnown) (h : Splits actor root old mid new) (x : ℕ)
      → has x (given actor root old mid new h) ≡ true → has x (numbers root) ≡ false
  given_fresh actor root [] [] new h x i = absurd (true≢false (sym i))
  given_fresh actor root [] (t ∷ ts) new h x i = absurd h
  given_fresh actor root (s ∷ ss) [] new h x i = absurd h
  given_fresh actor root (s ∷ ss) (t ∷ ts) new h x i =
      ⊎_elim (λ (e : x ≡ h.0). subst (λ (y : ℕ). has y (numbers root) ≡ false) (sym e) h.1.own) (λ o. given_fresh (actor + 1) (elder h.0 root) ss ts new h.3 x o)
      (has_cons x h.0 (given (actor + 1) (elder h.0 root) ss ts new h.3) i)

  -- each place has a pass of the hub, and room
  pub split_ready : (hub : Identity) (steps : List Step) (actor : ℕ) (root : PassKnown) (old mid : List (Place P)) (new : PassKnown) → root.turn ≡ hub → Splits actor root old mid new
      → HaveRoom steps actor old → All (IsReady hub steps) mid
  split_ready hub steps actor root [] [] new is h room = λ k d b. absurd (omega (arith, b))
  split_ready hub steps actor root [] (t ∷ ts) new is h room = absurd h
  split_ready hub steps actor root (s ∷ ss) [] new is h room = absurd h
  split_ready hub steps actor root (s ∷ ss) (t ∷ ts) new is h room =
      All-cons (IsReady hub steps) t ts (subst (IsReady hub steps) (sym h.2) (record { there = is; room = room.0.room }))
      (split_ready hub steps (actor + 1) (elder h.0 root) ss ts new is h.3 room.1)

-- what an actor did, whose pass was split off with number k behind these entries
pub record OneDid {P : Type 0} (m : port.Ghosts P) (limit : ℕ) (steps : List Step) (hub : Identity) (before : List Entry) (k actor : ℕ)
    (lines : List Line) (s n : Place P) : Type 0 where
  pub seen : List Entry
  pub sent : ℕ
  pub last : Option Sent
  pub pass : n.pass ≡ Some (record {
    turn = hub;
    number = k;
    ended = [];
    born = [];
    seen = seen;
    sent = sent;
    last = last;
  })
  pub fresh : clear by_of (k ∷ []) before ≡ true
  pub added : n.lines.items ≡ s.lines.items ++ lines
  pub served : ServesAll m limit k (commands_of actor steps) lines before seen s.port n.port
  pub capacity : vec_capacity n.lines ≡ vec_capacity s.lines
  pub told : n.told ≡ s.told
  pub actor_is : n.actor ≡ actor

module _ {P : Type 0} (m : port.Ghosts P) (limit : ℕ) (steps : List Step) where
  abbrev pub Did : Identity → List Entry → ℕ → List ℕ → List (List Line) → List (Place P) → List (Place P) → Type 0
  Did hub before actor [] [] [] [] = Unit {0}
  Did hub before actor (k ∷ ks) (ls ∷ lines) (s ∷ ss) (n ∷ ns) = OneDid m limit steps hub before k actor ls s n × Did hub before (actor + 1) ks lines ss ns
  Did hub before actor ks lines ss ns = ⊥

  served_by : (p : PassKnown) (s n : Place P) (o : Option PassKnown) → n.pass ≡ o → PassServed m limit steps (Some p) o s n
      → (seen : List Entry) × (sent : ℕ) × (last : Option Sent)
      × (n.pass ≡ Some (with_sent sent last (turn.at_seen (as_known p) seen)))
      × AddsLines m limit p.number (commands_of s.actor steps) s.lines.items n.lines.items
      p.seen seen s.port n.port
  served_by p s n None e h = absurd h
  served_by p s n (Some q) e h = (q.seen, q.sent, q.last, e ∙ ap Some h.0, h.1)

  one_did : (root : PassKnown) (actor k : ℕ) (s n : Place P) → IsFresh k root → PlaceServed m limit steps (with_pass s actor (younger k root)) n
      → (lines : List Line) × OneDid m limit steps root.turn root.seen k actor lines s n
  one_did root actor k s n fresh h =
      let o = served_by (younger k root) (with_pass s actor (younger k root)) n n.pass refl h.served in (
        o.4.lines,
        record {
          seen = o.0;
          sent = o.1;
          last = o.2;
          pass = o.3;
          fresh = fresh.entries;
          added = o.4.added;
          served = o.4.served;
          capacity = h.capacity;
          told = h.told;
          actor_is = h.actor;
        },
      )

  pub did : (actor : ℕ) (root : PassKnown) (old mid new : List (Place P)) (r : PassKnown) (h : Splits actor root old mid r) → EachServed m limit steps mid new → length new ≡ length mid
      → (lines : List (List Line)) × Did root.turn root.seen actor (given actor root old mid r h) lines old new
  did actor root [] [] [] r h each len = ([], tt)
  did actor root [] [] (n ∷ ns) r h each len = absurd (omega (arith, len))
  did actor root [] (t ∷ ts) new r h each len = absurd h
  did actor root (s ∷ ss) [] new r h each len = absurd h
  did actor root (s ∷ ss) (t ∷ ts) [] r h each len = absurd (omega (arith, len))
  did actor root (s ∷ ss) (t ∷ ts) (n ∷ ns) r h each len =
      let same : PlaceServed m limit steps (with_pass s actor (younger h.0 root)) n = subst (λ u. PlaceServed m limit steps u n) h.2 (each 0 t (omega arith)) in
      let first = one_did root actor h.0 s n h.1 same in
      let rest = did (actor + 1) (elder h.0 root) ss ts ns r h.3 (λ i d b. each (suc i) d (omega (arith, b))) (omega (arith, len)) in
      (first.0 ∷ rest.0, (first.1, rest.1))
