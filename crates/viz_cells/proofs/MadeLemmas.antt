-- What each step of a section makes, together.
use Rattle.std.proofs.Common.{◌≡◌, ℕ, ◌^◌, ◌≤◌, List, length, map, get_or, sym, ap, subst, ◌∙◌}
use Rattle.std.specs.List.{All, Contains, flat_map}
use Rattle.std.proofs.lemmas.List.{length-map}
use Rattle.std.proofs.lemmas.List.Elements.{Contains-get_or}
use Rattle.viz_fraction.specs.declared.forms.Form.{Form}
use Rattle.viz_fraction.specs.Forms.{IsNarrowValue}
use Rattle.viz_fraction.specs.Points.{Point}
use Rattle.viz_sheet.specs.Sheet.{SheetData, IsFit}
use Rattle.viz_sheet.specs.Ranked.{AreRanks, by_names}
use Rattle.viz_meaning.specs.Names.{names_of}
use Rattle.viz_meaning.specs.Narrow.{IsNarrowSection}
use Rattle.viz_meaning.specs.Section.{section_cells, section_of}
use Rattle.viz_cells.specs.Steps.Keys.{key_name, IsEdgeKey}
use Rattle.viz_cells.specs.Steps.Pieces.{pieces_of}
use Rattle.viz_cells.specs.Steps.Numbered.{AreKeysOf, AreNumbered, HasKeys}
use Rattle.viz_cells.specs.Steps.Crossings.{IsCutKey, IsNarrowKey, key_crossing}
use Rattle.viz_cells.proofs.EdgeLemmas.{AreGiven, IsWholePiece, flags_of}
use Rattle.viz_cells.proofs.FitLemmas.{level}
use Rattle.viz_meaning.proofs.ListLemmas.{all-pieces}
use Rattle.viz_cells.proofs.NamedLemmas.{section-cells, section-cut, section-whole, all-keys, edge-keys, names-ascend, names-are, points-are, narrow-to_keys, narrow-from_keys}
use Rattle.viz_cells.proofs.RankedLemmas.{ranked, all-named}

-- the pieces and the keys of a section
pub record AreMade (size : ℕ) (f : Form) (s : SheetData) (pieces : List (List ℕ)) (keys : List ℕ) : Type 0 where
  pub given : AreGiven s
  pub sized : All (λ n. length n ≡ size) s.names
  pub keyed : AreKeysOf pieces keys
  pub cut : All (IsCutKey f s.points) keys
  pub edges : All (IsEdgeKey (length s.names)) keys
  pub level : 1 ≤ length keys → All (λ n. length n ≤ 4) s.names
  pub whole : All IsWholePiece pieces
  pub same : section_cells f s ≡ map (map (key_name s.names)) pieces

pub made : (size : ℕ) (f : Form) (s : SheetData) (cells pieces seen : List (List ℕ)) (keys : List ℕ) → AreRanks s.names s.points cells → by_names s.names cells ≡ s.cells
    → All (λ n. length n ≡ size) s.names → pieces ≡ pieces_of (flags_of f s.points) cells → seen ≡ pieces → AreKeysOf seen keys → IsFit s → AreMade size f s pieces keys
made size f s cells pieces seen keys valid same sized is saw of_seen fit =
    let given : AreGiven s = record { ascending = valid.rule.ascending; matched = valid.rule.matched; few = valid.rule.few } in
    let of : AreKeysOf pieces keys = subst (λ p. AreKeysOf p keys) saw of_seen in
    let cut = all-keys (IsCutKey f s.points) pieces keys of (section-cut f s cells pieces given valid.rule.each is) in
    record {
      given = given;
      sized = sized;
      keyed = of;
      cut = cut;
      edges = edge-keys f s keys given cut;
      level = level size f s cells pieces keys valid.rule.each same sized is of fit;
      whole = section-whole f s cells pieces given valid.rule.each is;
      same = section-cells f s cells pieces given valid.rule.each same is;
    }

pub has-keys : (pieces : List (List ℕ)) (keys : List ℕ) → AreKeysOf pieces keys → length keys ≤ 2 ^ 32 → HasKeys keys pieces
has-keys pieces keys of few = record {
  ascending = of.ascending;
  few = few;
  has =
      all-pieces (Contains keys) pieces
      (λ k d l. let all = flat_map (λ piece. piece) pieces in (of.members (get_or all k d)).1 (Contains-get_or all k d l));
}

names-made : (size : ℕ) (f : Form) (s : SheetData) (pieces : List (List ℕ)) (keys : List ℕ) → AreMade size f s pieces keys → map (key_name s.names) keys ≡ names_of (section_cells f s)
names-made size f s pieces keys m = names-are size f s pieces keys m.given m.sized m.keyed m.edges m.same

pub narrow-to : (size : ℕ) (f : Form) (s : SheetData) (pieces : List (List ℕ)) (keys : List ℕ) → AreMade size f s pieces keys → IsNarrowSection f s → All (IsNarrowKey f s.points) keys
narrow-to size f s pieces keys m h = narrow-to_keys size f s keys m.given m.sized m.edges (names-made size f s pieces keys m) h

pub narrow-from : (size : ℕ) (f : Form) (s : SheetData) (pieces : List (List ℕ)) (keys : List ℕ) → AreMade size f s pieces keys
    → All (IsNarrowValue f) s.points → All (IsNarrowKey f s.points) keys → IsNarrowSection f s
narrow-from size f s pieces keys m values h = narrow-from_keys size f s keys m.given m.sized m.edges (names-made size f s pieces keys m) values h

-- names, points and cells by ranks are a sheet
pub sheet-made : (size : ℕ) (f : Form) (s : SheetData) (pieces : List (List ℕ)) (keys : List ℕ) (names : List (List ℕ)) (points : List Point) (cells : List (List ℕ)) → AreMade size f s pieces keys → length keys ≤ 2 ^ 32
    → names ≡ map (key_name s.names) keys → points ≡ map (key_crossing f s.points) keys → AreNumbered keys pieces cells → AreRanks names points cells
sheet-made size f s pieces keys names points cells m few is_names is_points numbered =
    subst (λ l. AreRanks l points cells) (sym is_names)
    (ranked (key_name s.names) keys points pieces cells
    (names-ascend size s keys m.given m.sized m.keyed.ascending m.edges)
    (ap length is_points ∙ length-map keys (key_crossing f s.points)) few m.keyed numbered m.whole)

data-is : (t : SheetData) (names : List (List ℕ)) (points : List Point) (cells : List (List (List ℕ))) → t.names ≡ names → t.points ≡ points → t.cells ≡ cells
    → t ≡ record { names = names; points = points; cells = cells }
data-is t names points cells a b c = λ i. record { names = a i; points = b i; cells = c i }

-- and that sheet is the section
pub section-made : (size : ℕ) (f : Form) (s t : SheetData) (pieces : List (List ℕ)) (keys : List ℕ) (names : List (List ℕ)) (points : List Point) (cells : List (List ℕ)) → AreMade size f s pieces keys
    → names ≡ map (key_name s.names) keys → points ≡ map (key_crossing f s.points) keys → AreNumbered keys pieces cells
    → t.names ≡ names → t.points ≡ points → t.cells ≡ by_names names cells → t ≡ section_of f s
section-made size f s t pieces keys names points cells m is_names is_points numbered tn tp tc =
    let named = names-made size f s pieces keys m in
    data-is t _ _ _
    (tn ∙ is_names ∙ named)
    (tp ∙ is_points ∙ points-are size f s keys m.given m.sized m.edges named)
    (tc ∙ ap (λ l. by_names l cells) is_names ∙ all-named (key_name s.names) keys cells numbered.below
    ∙ ap (map (map (key_name s.names))) numbered.same ∙ sym m.same)
