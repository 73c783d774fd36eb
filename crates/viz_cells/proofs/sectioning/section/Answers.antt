use Rattle.std.proofs.Common.{◌≡◌, ◌^◌, ◌≤◌, ℕ, List, ap, length, map, rules, subst, sym, arith, ◌∙◌}
use Rattle.std.specs.List.{All}
use Rattle.viz_fraction.specs.Points.{Point}
use Rattle.viz_fraction.specs.Forms.{IsNarrowValue}
use Rattle.viz_sheet.specs.Arrays.{names_in, points_in, ranks_in}
use Rattle.viz_meaning.specs.Section.{is_inside_at}
use Rattle.viz_cells.specs.Steps.Keys.{key_name, IsEdgeKey}
use Rattle.viz_cells.specs.Steps.Pieces.{pieces_of}
use Rattle.viz_cells.specs.Steps.Numbered.{AreNumbered, HasKeys}
use Rattle.viz_cells.specs.Steps.Crossings.{IsCutKey, IsNarrowKey, key_crossing}
use Rattle.viz_cells.proofs.MadeLemmas.{AreMade, made, has-keys, narrow-to, narrow-from, sheet-made, section-made}
use Rattle.viz_cells.proofs.sectioning.section.Goals as goal

pub crossings-requires-clause-cut : goal.crossings-requires-clause-cut
crossings-requires-clause-cut c =
    let f = c.args.form.now in
    let s = c.args.sheet.now in
    let cells = ranks_in c.ranks.result.now in
    let pieces = c.in_ok-pieces.pieces.items in
    let keys = c.in_ok-keys.keys.items in
    let sized : All (λ (n : List ℕ). length n ≡ c.size-size.result) s.names = subst (λ (l : List (List ℕ)). All (λ (n : List ℕ). length n ≡ c.size-size.result) l) c.leaves.ensures.value c.size-size.ensures.each in
    let is : pieces ≡ pieces_of (map (is_inside_at f) s.points) cells =
    c.in_ok-pieces.ensures.value ∙ ap (λ i. pieces_of i cells) (c.deref.ensures.value ∙ c.in_ok-inside.ensures.value ∙ ap (map (is_inside_at f)) c.places.ensures.value) in
    let m : AreMade c.size-size.result f s pieces keys =
    made c.size-size.result f s cells pieces c.deref-2.result.now keys c.ranks.ensures.valid c.ranks.ensures.value sized is c.deref-2.ensures.value c.in_ok-keys.ensures.value c.requires.fit in
    subst (λ ks. All (IsCutKey f (points_in c.places-2.result.now)) ks) (sym c.deref-3.ensures.value)
    (subst (λ (p : List Point). All (IsCutKey f p) keys) (sym c.places-2.ensures.value) m.cut)

pub returns-in_err-places-clause-too_wide : goal.returns-in_err-places-clause-too_wide
returns-in_err-places-clause-too_wide c wide narrow =
    let f = c.args.form.now in
    let s = c.args.sheet.now in
    let cells = ranks_in c.ranks.result.now in
    let pieces = c.in_ok-pieces.pieces.items in
    let keys = c.in_ok-keys.keys.items in
    let sized : All (λ (n : List ℕ). length n ≡ c.size-size.result) s.names = subst (λ (l : List (List ℕ)). All (λ (n : List ℕ). length n ≡ c.size-size.result) l) c.leaves.ensures.value c.size-size.ensures.each in
    let is : pieces ≡ pieces_of (map (is_inside_at f) s.points) cells =
    c.in_ok-pieces.ensures.value ∙ ap (λ i. pieces_of i cells) (c.deref.ensures.value ∙ c.in_ok-inside.ensures.value ∙ ap (map (is_inside_at f)) c.places.ensures.value) in
    let m : AreMade c.size-size.result f s pieces keys =
    made c.size-size.result f s cells pieces c.deref-2.result.now keys c.ranks.ensures.valid c.ranks.ensures.value sized is c.deref-2.ensures.value c.in_ok-keys.ensures.value c.requires.fit in
    c.in_err-places.ensures.too_wide (search rules)
    (subst (λ ks. All (IsNarrowKey f (points_in c.places-2.result.now)) ks) (sym c.deref-3.ensures.value)
    (subst (λ (p : List Point). All (IsNarrowKey f p) keys) (sym c.places-2.ensures.value) (narrow-to c.size-size.result f s pieces keys m narrow)))

pub joined-requires-clause-most : goal.joined-requires-clause-most
joined-requires-clause-most c =
    let f = c.args.form.now in
    let s = c.args.sheet.now in
    let cells = ranks_in c.ranks.result.now in
    let pieces = c.in_ok-pieces.pieces.items in
    let keys = c.in_ok-keys.keys.items in
    let sized : All (λ (n : List ℕ). length n ≡ c.size-size.result) s.names = subst (λ (l : List (List ℕ)). All (λ (n : List ℕ). length n ≡ c.size-size.result) l) c.leaves.ensures.value c.size-size.ensures.each in
    let is : pieces ≡ pieces_of (map (is_inside_at f) s.points) cells =
    c.in_ok-pieces.ensures.value ∙ ap (λ i. pieces_of i cells) (c.deref.ensures.value ∙ c.in_ok-inside.ensures.value ∙ ap (map (is_inside_at f)) c.places.ensures.value) in
    let m : AreMade c.size-size.result f s pieces keys =
    made c.size-size.result f s cells pieces c.deref-2.result.now keys c.ranks.ensures.valid c.ranks.ensures.value sized is c.deref-2.ensures.value c.in_ok-keys.ensures.value c.requires.fit in
    λ some.
    subst (λ (l : List (List ℕ)). All (λ (n : List ℕ). length n ≤ 4) l) (sym c.leaves-2.ensures.value)
    (m.level (subst (λ (ks : List ℕ). 1 ≤ length ks) c.deref-4.ensures.value some))

pub joined-requires-clause-keys : goal.joined-requires-clause-keys
joined-requires-clause-keys c =
    let f = c.args.form.now in
    let s = c.args.sheet.now in
    let cells = ranks_in c.ranks.result.now in
    let pieces = c.in_ok-pieces.pieces.items in
    let keys = c.in_ok-keys.keys.items in
    let sized : All (λ (n : List ℕ). length n ≡ c.size-size.result) s.names = subst (λ (l : List (List ℕ)). All (λ (n : List ℕ). length n ≡ c.size-size.result) l) c.leaves.ensures.value c.size-size.ensures.each in
    let is : pieces ≡ pieces_of (map (is_inside_at f) s.points) cells =
    c.in_ok-pieces.ensures.value ∙ ap (λ i. pieces_of i cells) (c.deref.ensures.value ∙ c.in_ok-inside.ensures.value ∙ ap (map (is_inside_at f)) c.places.ensures.value) in
    let m : AreMade c.size-size.result f s pieces keys =
    made c.size-size.result f s cells pieces c.deref-2.result.now keys c.ranks.ensures.valid c.ranks.ensures.value sized is c.deref-2.ensures.value c.in_ok-keys.ensures.value c.requires.fit in
    subst (λ ks. All (IsEdgeKey (length (names_in c.leaves-2.result.now))) ks) (sym c.deref-4.ensures.value)
    (subst (λ (l : List (List ℕ)). All (IsEdgeKey (length l)) keys) (sym c.leaves-2.ensures.value) m.edges)

pub numbered-requires : goal.numbered-requires
numbered-requires c =
    let f = c.args.form.now in
    let s = c.args.sheet.now in
    let cells = ranks_in c.ranks.result.now in
    let pieces = c.in_ok-pieces.pieces.items in
    let keys = c.in_ok-keys.keys.items in
    let sized : All (λ (n : List ℕ). length n ≡ c.size-size.result) s.names = subst (λ (l : List (List ℕ)). All (λ (n : List ℕ). length n ≡ c.size-size.result) l) c.leaves.ensures.value c.size-size.ensures.each in
    let is : pieces ≡ pieces_of (map (is_inside_at f) s.points) cells =
    c.in_ok-pieces.ensures.value ∙ ap (λ i. pieces_of i cells) (c.deref.ensures.value ∙ c.in_ok-inside.ensures.value ∙ ap (map (is_inside_at f)) c.places.ensures.value) in
    let m : AreMade c.size-size.result f s pieces keys =
    made c.size-size.result f s cells pieces c.deref-2.result.now keys c.ranks.ensures.valid c.ranks.ensures.value sized is c.deref-2.ensures.value c.in_ok-keys.ensures.value c.requires.fit in
    let few : length keys ≤ 2 ^ 32 = omega (arith, c.if-len.false, c.len.ensures) in
    record {
      keys =
          subst (λ k. HasKeys k c.deref-6.result.now) (sym c.deref-5.ensures.value)
          (subst (HasKeys keys) (sym c.deref-6.ensures.value) (has-keys pieces keys m.keyed few));
    }

pub new-requires : goal.new-requires
new-requires c =
    let f = c.args.form.now in
    let s = c.args.sheet.now in
    let cells = ranks_in c.ranks.result.now in
    let pieces = c.in_ok-pieces.pieces.items in
    let keys = c.in_ok-keys.keys.items in
    let sized : All (λ (n : List ℕ). length n ≡ c.size-size.result) s.names = subst (λ (l : List (List ℕ)). All (λ (n : List ℕ). length n ≡ c.size-size.result) l) c.leaves.ensures.value c.size-size.ensures.each in
    let is : pieces ≡ pieces_of (map (is_inside_at f) s.points) cells =
    c.in_ok-pieces.ensures.value ∙ ap (λ i. pieces_of i cells) (c.deref.ensures.value ∙ c.in_ok-inside.ensures.value ∙ ap (map (is_inside_at f)) c.places.ensures.value) in
    let m : AreMade c.size-size.result f s pieces keys =
    made c.size-size.result f s cells pieces c.deref-2.result.now keys c.ranks.ensures.valid c.ranks.ensures.value sized is c.deref-2.ensures.value c.in_ok-keys.ensures.value c.requires.fit in
    let few : length keys ≤ 2 ^ 32 = omega (arith, c.if-len.false, c.len.ensures) in
    let numbered : AreNumbered keys pieces (ranks_in c.in_ok-ranks.ranks) =
    subst (λ k. AreNumbered k pieces (ranks_in c.in_ok-ranks.ranks)) c.deref-5.ensures.value
    (subst (λ p. AreNumbered c.deref-5.result.now p (ranks_in c.in_ok-ranks.ranks)) c.deref-6.ensures.value c.in_ok-ranks.ensures.value) in
    let is_names : names_in c.in_ok-leaves.leaves ≡ map (key_name s.names) keys =
    c.in_ok-leaves.ensures.value ∙ ap (λ n. map (key_name n) c.deref-4.result.now) c.leaves-2.ensures.value ∙ ap (map (key_name s.names)) c.deref-4.ensures.value in
    let is_points : points_in c.in_ok-places.places ≡ map (key_crossing f s.points) keys =
    c.in_ok-places.ensures.value ∙ ap (λ p. map (key_crossing f p) c.deref-3.result.now) c.places-2.ensures.value ∙ ap (map (key_crossing f s.points)) c.deref-3.ensures.value in
    record {
      ranks = sheet-made c.size-size.result f s pieces keys (names_in c.in_ok-leaves.leaves) (points_in c.in_ok-places.places) (ranks_in c.in_ok-ranks.ranks) m few is_names is_points numbered;
    }

pub returns-clause-value : goal.returns-clause-value
returns-clause-value c =
    let f = c.args.form.now in
    let s = c.args.sheet.now in
    let cells = ranks_in c.ranks.result.now in
    let pieces = c.in_ok-pieces.pieces.items in
    let keys = c.in_ok-keys.keys.items in
    let sized : All (λ (n : List ℕ). length n ≡ c.size-size.result) s.names = subst (λ (l : List (List ℕ)). All (λ (n : List ℕ). length n ≡ c.size-size.result) l) c.leaves.ensures.value c.size-size.ensures.each in
    let is : pieces ≡ pieces_of (map (is_inside_at f) s.points) cells =
    c.in_ok-pieces.ensures.value ∙ ap (λ i. pieces_of i cells) (c.deref.ensures.value ∙ c.in_ok-inside.ensures.value ∙ ap (map (is_inside_at f)) c.places.ensures.value) in
    let m : AreMade c.size-size.result f s pieces keys =
    made c.size-size.result f s cells pieces c.deref-2.result.now keys c.ranks.ensures.valid c.ranks.ensures.value sized is c.deref-2.ensures.value c.in_ok-keys.ensures.value c.requires.fit in
    let numbered : AreNumbered keys pieces (ranks_in c.in_ok-ranks.ranks) =
    subst (λ k. AreNumbered k pieces (ranks_in c.in_ok-ranks.ranks)) c.deref-5.ensures.value
    (subst (λ p. AreNumbered c.deref-5.result.now p (ranks_in c.in_ok-ranks.ranks)) c.deref-6.ensures.value c.in_ok-ranks.ensures.value) in
    let is_names : names_in c.in_ok-leaves.leaves ≡ map (key_name s.names) keys =
    c.in_ok-leaves.ensures.value ∙ ap (λ n. map (key_name n) c.deref-4.result.now) c.leaves-2.ensures.value ∙ ap (map (key_name s.names)) c.deref-4.ensures.value in
    let is_points : points_in c.in_ok-places.places ≡ map (key_crossing f s.points) keys =
    c.in_ok-places.ensures.value ∙ ap (λ p. map (key_crossing f p) c.deref-3.result.now) c.places-2.ensures.value ∙ ap (map (key_crossing f s.points)) c.deref-3.ensures.value in
    section-made c.size-size.result f s c.new.result pieces keys (names_in c.in_ok-leaves.leaves) (points_in c.in_ok-places.places) (ranks_in c.in_ok-ranks.ranks) m is_names is_points numbered
    c.new.ensures.names c.new.ensures.points c.new.ensures.cells

pub returns-clause-narrow : goal.returns-clause-narrow
returns-clause-narrow c =
    let f = c.args.form.now in
    let s = c.args.sheet.now in
    let cells = ranks_in c.ranks.result.now in
    let pieces = c.in_ok-pieces.pieces.items in
    let keys = c.in_ok-keys.keys.items in
    let sized : All (λ (n : List ℕ). length n ≡ c.size-size.result) s.names = subst (λ (l : List (List ℕ)). All (λ (n : List ℕ). length n ≡ c.size-size.result) l) c.leaves.ensures.value c.size-size.ensures.each in
    let is : pieces ≡ pieces_of (map (is_inside_at f) s.points) cells =
    c.in_ok-pieces.ensures.value ∙ ap (λ i. pieces_of i cells) (c.deref.ensures.value ∙ c.in_ok-inside.ensures.value ∙ ap (map (is_inside_at f)) c.places.ensures.value) in
    let m : AreMade c.size-size.result f s pieces keys =
    made c.size-size.result f s cells pieces c.deref-2.result.now keys c.ranks.ensures.valid c.ranks.ensures.value sized is c.deref-2.ensures.value c.in_ok-keys.ensures.value c.requires.fit in
    let values = subst (λ (p : List Point). All (IsNarrowValue f) p) c.places.ensures.value c.in_ok-inside.ensures.ok in
    let crossings =
    subst (λ ks. All (IsNarrowKey f s.points) ks) c.deref-3.ensures.value
    (subst (λ (p : List Point). All (IsNarrowKey f p) c.deref-3.result.now) c.places-2.ensures.value c.in_ok-places.ensures.ok) in
    narrow-from c.size-size.result f s pieces keys m values crossings
