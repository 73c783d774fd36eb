-- One ghost level after the other.
use Rattle.std.proofs.Common.{true≢false, ◌≡◌, ℕ, ◌+◌, ◌<◌, ◌≤◌, Bool, true, false, Option, Some, None, ◌⊎◌, inl, inr, List, [], ◌∷◌, ◌||◌, length, get_or, replicate, cond, refl, sym, ap, ap₂, subst, ◌∙◌, ⊎_elim, arith}
use Rattle.std.specs.List.{All, Contains}
use Rattle.std.proofs.lemmas.Bool.{cases_lt}
use Rattle.std.proofs.lemmas.List.{get_or-map, length-map, length-replicate}
use Rattle.std.proofs.lemmas.List.Elements.{All-contains, All-head, All-tail}
use Rattle.std.proofs.lemmas.Option.{cond_some, none-some}
use Rattle.viz_parts.specs.Seen.{Seen, Meet, IsUpTo, AreSeen, AreSteps, SeenBefore}
use Rattle.viz_piece_filters.specs.Growth.{AreTouched, grown_level}
use Rattle.viz_piece_filters.proofs.GrowthLemmas.{parts_grow}
use Rattle.viz_piece_filters.proofs.PartLemmas.{from_map, into_map}
use Rattle.viz_sheet.specs.Ranked.{AreRanks, by_names, names_at, rank_of}
use Rattle.viz_sheet.specs.Sheet.{SheetData, AreAscending}
use Rattle.viz_sheet.proofs.RankLemmas.{rank-at}
use Rattle.viz_piece_restrict.specs.Steps.Levels.{AreGrownTo, AreLevels, AreMarked, AreMarkedTo, AreSameLevels, HasRankBefore, IsGrown, is_any_marked, is_touched, level_at, seen_at, seen_in}
use Rattle.viz_piece_restrict.proofs.ListLemmas.{any-found, any-one, none-true}
use Rattle.viz_piece_restrict.proofs.SeenLemmas.{sees, start-steps, grown-seen_in, same-seen_in, stands, start-seen}

abbrev Ranks : Type 0
Ranks = List (List ℕ)

-- ---- marks by names and by ranks

touched-ranks : (names : Ranks) (marks : List Bool) (cell : List ℕ) → AreAscending names → All (λ r. r < length names) cell → is_touched names marks (names_at names cell) ≡ is_any_marked marks cell
touched-ranks names marks [] a h = refl
touched-ranks names marks (r ∷ rs) a h =
    ap₂ (λ x y. x || y)
    (ap (λ q. get_or marks q false) (rank-at names r a (All-head (λ q. q < length names) r rs h)))
    (touched-ranks names marks rs a (All-tail (λ q. q < length names) r rs h))

-- a name of a cell whose ranks are marked has a mark
marked-name : (names : Ranks) (marks : List Bool) (cell : List ℕ) (n : List ℕ) → AreAscending names → All (λ r. r < length names) cell → AreMarked marks cell → Contains (names_at names cell) n → get_or marks (rank_of names n) false ≡ true
marked-name names marks cell n a below marked c =
    let from = from_map (λ r. get_or names r []) cell n c in
    ap (λ m. get_or marks (rank_of names m) false) (sym from.2)
    ∙ ap (λ q. get_or marks q false) (rank-at names from.0 a (All-contains (λ r. r < length names) cell from.0 below from.1))
    ∙ All-contains (λ r. get_or marks r false ≡ true) cell from.0 marked from.1

-- ---- a sheet by ranks

module _ (s : SheetData) (ranks : Ranks) (valid : AreRanks s.names s.points ranks) (named : by_names s.names ranks ≡ s.cells) where
  pub count-ranks : length ranks ≡ length s.cells
  count-ranks = sym (length-map ranks (names_at s.names)) ∙ ap length named

  cell-at : (k : ℕ) → k < length s.cells → get_or s.cells k [] ≡ names_at s.names (get_or ranks k [])
  cell-at k l =
      ap (λ cs. get_or cs k []) (sym named) ∙ get_or-map (names_at s.names) ranks k [] [] (omega (arith, l, count-ranks))

  below-at : (k : ℕ) → k < length s.cells → All (λ r. r < length s.names) (get_or ranks k [])
  below-at k l = (valid.rule.each k [] (omega (arith, l, count-ranks))).below

  -- a cell is touched where one of its ranks is marked
  touched-at : (marks : List Bool) (k : ℕ) → k < length s.cells → is_touched s.names marks (get_or s.cells k []) ≡ is_any_marked marks (get_or ranks k [])
  touched-at marks k l =
      ap (is_touched s.names marks) (cell-at k l) ∙ touched-ranks s.names marks (get_or ranks k []) valid.rule.ascending (below-at k l)

  -- where the ranks of all cells that are there are marked, each cell that shares a name with one is touched
  are-touched : (own there : List Bool) (levels : List ℕ) (marks : List Bool)
      → ((k l : ℕ) → k < length s.cells → level_at there levels k ≡ Some l → AreMarked marks (get_or ranks k []))
      → AreTouched (is_touched s.names marks) (seen_in s.cells own there levels)
  are-touched own there levels marks h a b l ca cb e m =
      let at = stands s.cells own there levels a ca in
      let level : level_at there levels at.0 ≡ Some l = ap (λ (u : Seen). u.level) at.2 ∙ e in
      let cell : a.cell ≡ names_at s.names (get_or ranks at.0 []) = sym (ap (λ (u : Seen). u.cell) at.2) ∙ cell-at at.0 at.1 in
      any-found (λ n. get_or marks (rank_of s.names n) false) b.cell m.0 m.2
      (marked-name s.names marks (get_or ranks at.0 []) m.0 valid.rule.ascending (below-at at.0 at.1) (h at.0 l at.1 level) (subst (λ c. Contains c m.0) cell m.1))

  module _ (own : List Bool) (level : ℕ) (marks mid there : List Bool) (levels : List ℕ) (new_there : List Bool) (new_levels : List ℕ)
      (was : AreLevels s ranks own level marks there levels)
      (marked : AreMarkedTo (λ c. c) (length ranks) ranks there levels level marks mid)
      (grown : AreGrownTo (λ c. c) (length ranks) ranks mid (level + 1) there levels new_there new_levels) where
    at-most : (k l : ℕ) → k < length s.cells → level_at there levels k ≡ Some l → l ≤ level
    at-most k l b e = was.seen.most (seen_at s.cells own there levels k) l (sees s.cells own there levels k b) e

    -- now the ranks of all that are there are marked
    all-marked : (k l : ℕ) → k < length s.cells → level_at there levels k ≡ Some l → AreMarked mid (get_or ranks k [])
    all-marked k l b e =
        ⊎_elim
        (λ before. λ j z c. marked.kept (get_or (get_or ranks k []) j z) (was.marked k l b e before j z c))
        (λ from. marked.added k [] (omega (arith, b, count-ranks)) (e ∙ ap Some {x = l} {y = level} (omega (arith, from, at-most k l b e))))
        (cases_lt l level)

    touch : AreTouched (is_touched s.names mid) (seen_in s.cells own there levels)
    touch = are-touched own there levels mid all-marked

    each-level : (k : ℕ) → k < length s.cells → level_at new_there new_levels k ≡ grown_level (is_touched s.names mid (get_or s.cells k [])) (level + 1) (level_at there levels k)
    each-level k b =
        grown.each k [] (omega (arith, b, count-ranks))
        ∙ ap (λ t. grown_level t (level + 1) (level_at there levels k)) (sym (touched-at mid k b))

    -- a cell that is there afterwards was there, or came in
    old_or_new : (b : Bool) (next : ℕ) (o : Option ℕ) (m : ℕ) → grown_level b next o ≡ Some m → (o ≡ Some m) ⊎ ((o ≡ None) × (b ≡ true) × (m ≡ next))
    old_or_new b next (Some l) m e = inl e
    old_or_new b next None m e = let is = cond_some b next m e in inr (refl, is.0, sym is.1)

    old_or_came : (k l : ℕ) → k < length s.cells → level_at new_there new_levels k ≡ Some l
        → (level_at there levels k ≡ Some l) ⊎ ((level_at there levels k ≡ None) × (is_touched s.names mid (get_or s.cells k []) ≡ true) × (l ≡ level + 1))
    old_or_came k l b e = old_or_new (is_touched s.names mid (get_or s.cells k [])) (level + 1) (level_at there levels k) l (sym (each-level k b) ∙ e)

    -- a cell that was there stays
    stays : (k l : ℕ) → k < length s.cells → level_at there levels k ≡ Some l → level_at new_there new_levels k ≡ Some l
    stays k l b e = each-level k b ∙ ap (grown_level (is_touched s.names mid (get_or s.cells k [])) (level + 1)) e

    -- each marked rank is that of a cell that was there
    marked-rank : (r : ℕ) → get_or mid r false ≡ true → HasRankBefore (length s.cells) ranks there levels (level + 1) r
    marked-rank r m =
        ⊎_elim
        (λ old. let h = was.only r old in record {
          cell = h.cell;
          below = h.below;
          own_level = h.own_level;
          level_is = h.level_is;
          before = omega (arith, h.before);
          has = h.has;
        })
        (λ new. record {
          cell = new.cell;
          below = omega (arith, new.below, count-ranks);
          own_level = level;
          level_is = new.level_is;
          before = omega arith;
          has = new.has;
        })
        (marked.only [] r m)

    only-marked : (r : ℕ) → get_or mid r false ≡ true → HasRankBefore (length s.cells) ranks new_there new_levels (level + 1) r
    only-marked r m = let h = marked-rank r m in record {
      cell = h.cell;
      below = h.below;
      own_level = h.own_level;
      level_is = stays h.cell h.own_level h.below h.level_is;
      before = h.before;
      has = h.has;
    }

    -- two cells with one rank meet
    meet-at : (j k r : ℕ) → j < length s.cells → k < length s.cells → Contains (get_or ranks j []) r → Contains (get_or ranks k []) r → Meet (get_or s.cells j []) (get_or s.cells k [])
    meet-at j k r bj bk cj ck =
        let name = λ (q : ℕ). get_or s.names q [] in (
          name r,
          subst (λ (c : List (List ℕ)). Contains c (name r)) (sym (cell-at j bj)) (into_map name (get_or ranks j []) r cj),
          subst (λ (c : List (List ℕ)). Contains c (name r)) (sym (cell-at k bk)) (into_map name (get_or ranks k []) r ck),
        )

    -- what came in meets a cell of the level before
    came-before : (k : ℕ) → k < length s.cells → level_at there levels k ≡ None → is_touched s.names mid (get_or s.cells k []) ≡ true
        → SeenBefore (seen_in s.cells own new_there new_levels) (seen_at s.cells own new_there new_levels k) level
    came-before k b none t =
        let one = any-one (λ r. get_or mid r false) (get_or ranks k []) (sym (touched-at mid k b) ∙ t) in
        let h = marked-rank one.0 one.2 in
        let met : Meet (get_or s.cells k []) (get_or s.cells h.cell []) = meet-at k h.cell one.0 b h.below one.1 h.has in
        let back : Meet (get_or s.cells h.cell []) (get_or s.cells k []) = meet-at h.cell k one.0 h.below b h.has one.1 in
        let last : h.own_level ≡ level =
        ⊎_elim
        (λ before. absurd (subst (IsUpTo (h.own_level + 1)) none
        (was.seen.near (seen_at s.cells own there levels h.cell) (seen_at s.cells own there levels k) h.own_level
        (sees s.cells own there levels h.cell h.below) (sees s.cells own there levels k b) h.level_is before back)))
        (λ from. omega (arith, from, h.before))
        (cases_lt h.own_level level) in
        record {
          other = seen_at s.cells own new_there new_levels h.cell;
          there_is = sees s.cells own new_there new_levels h.cell h.below;
          level = stays h.cell h.own_level h.below h.level_is ∙ ap Some last;
          meet = met;
        }

    -- and what was there still does
    old-before : (k l : ℕ) → k < length s.cells → level_at there levels k ≡ Some (l + 1)
        → SeenBefore (seen_in s.cells own new_there new_levels) (seen_at s.cells own new_there new_levels k) l
    old-before k l b e =
        let h = was.steps (seen_at s.cells own there levels k) l (sees s.cells own there levels k b) e in
        let at = stands s.cells own there levels h.other h.there_is in
        record {
          other = seen_at s.cells own new_there new_levels at.0;
          there_is = sees s.cells own new_there new_levels at.0 at.1;
          level = stays at.0 l at.1 (ap (λ (u : Seen). u.level) at.2 ∙ h.level);
          meet = subst (λ (c : List (List ℕ)). Meet (get_or s.cells k []) c) (sym (ap (λ (u : Seen). u.cell) at.2)) h.meet;
        }

    all-before : (k l : ℕ) → k < length s.cells → level_at new_there new_levels k ≡ Some (l + 1)
        → SeenBefore (seen_in s.cells own new_there new_levels) (seen_at s.cells own new_there new_levels k) l
    all-before k l b e =
        ⊎_elim
        (λ old. old-before k l b old)
        (λ came. subst (SeenBefore (seen_in s.cells own new_there new_levels) (seen_at s.cells own new_there new_levels k)) {x = level} {y = l} (omega (arith, came.2)) (came-before k b came.0 came.1))
        (old_or_came k (l + 1) b e)

    pub round : AreLevels s ranks own (level + 1) mid new_there new_levels
    round = record {
      marks_size = marked.size ∙ was.marks_size;
      there_size = grown.there_size ∙ was.there_size;
      levels_size = grown.levels_size ∙ was.levels_size;
      seen = subst (AreSeen (level + 1)) (grown-seen_in (is_touched s.names mid) (level + 1) s.cells own there levels new_there new_levels each-level)
          (parts_grow (is_touched s.names mid) level (seen_in s.cells own there levels) touch was.seen);
      steps = λ u l c e.
          let at = stands s.cells own new_there new_levels u c in
          subst (λ (v : Seen). SeenBefore (seen_in s.cells own new_there new_levels) v l) at.2
          (all-before at.0 l at.1 (ap (λ (v : Seen). v.level) at.2 ∙ e));
      marked = λ k l b e before.
          ⊎_elim
          (λ old. all-marked k l b old)
          (λ came. absurd (omega (arith, came.2, before)))
          (old_or_came k l b e);
      only = only-marked;
    }

    -- where no cell came in, what is touched is there
    is-there : (t : Bool) (next : ℕ) (o : Option ℕ) → t ≡ true → grown_level t next o ≡ o → (m : ℕ) × (o ≡ Some m)
    is-there t next (Some m) is e = (m, refl)
    is-there t next None is e = absurd (none-some next (sym e ∙ ap (λ b. cond b (Some next) None) is))

    closed : (ghosts : ℕ) → level ≤ ghosts → AreSameLevels there levels new_there new_levels → AreSeen ghosts (seen_in s.cells own there levels)
    closed ghosts more same = record {
      own = was.seen.own;
      most = λ a l c e. omega (arith, more, was.seen.most a l c e);
      near = λ a b l ca cb e below m.
          ⊎_elim
          (λ before. was.seen.near a b l ca cb e before m)
          (λ from.
          let at = stands s.cells own there levels b cb in
          let t : is_touched s.names mid (get_or s.cells at.0 []) ≡ true = ap (λ (u : Seen). is_touched s.names mid u.cell) at.2 ∙ touch a b l ca cb e m in
          let there_is = is-there (is_touched s.names mid (get_or s.cells at.0 [])) (level + 1) (level_at there levels at.0) t (sym (each-level at.0 at.1) ∙ same at.0) in
          let least : there_is.0 ≤ l + 1 = omega (arith, from, at-most at.0 there_is.0 at.1 there_is.1) in
          subst (IsUpTo (l + 1)) (sym there_is.1 ∙ ap (λ (u : Seen). u.level) at.2) least)
          (cases_lt l level);
    }

    pub stopped : (ghosts : ℕ) → level ≤ ghosts → AreSameLevels there levels new_there new_levels → IsGrown s own ghosts new_there new_levels
    stopped ghosts more same = record {
      there_size = grown.there_size ∙ was.there_size;
      levels_size = grown.levels_size ∙ was.levels_size;
      seen = subst (AreSeen ghosts) (same-seen_in s.cells own there levels new_there new_levels same) (closed ghosts more same);
      steps = subst AreSteps (same-seen_in s.cells own there levels new_there new_levels same) was.steps;
    }

-- own cells alone, before the first level
pub start : (s : SheetData) (ranks : Ranks) (own marks : List Bool) (levels : List ℕ) → marks ≡ replicate (length s.names) false → length own ≡ length s.cells → levels ≡ replicate (length s.cells) 0
    → AreLevels s ranks own 0 marks own levels
start s ranks own marks levels m o l = record {
  marks_size = ap length m ∙ length-replicate (length s.names) false;
  there_size = o;
  levels_size = ap length l ∙ length-replicate (length s.cells) 0;
  seen = subst (λ (ls : List ℕ). AreSeen 0 (seen_in s.cells own own ls)) (sym l) (start-seen s.cells own);
  steps = subst (λ (ls : List ℕ). AreSteps (seen_in s.cells own own ls)) (sym l) (start-steps s.cells own);
  marked = λ k q b e before. absurd (omega (arith, before));
  only = λ r t. absurd (true≢false (sym t ∙ ap (λ ms. get_or ms r false) m ∙ none-true (length s.names) r));
}

-- all levels
pub ended : (s : SheetData) (ranks : Ranks) (own : List Bool) (ghosts level : ℕ) (marks there : List Bool) (levels : List ℕ) → level ≡ ghosts → AreLevels s ranks own level marks there levels → IsGrown s own ghosts there levels
ended s ranks own ghosts level marks there levels e h = record {
  there_size = h.there_size;
  levels_size = h.levels_size;
  seen = subst (λ g. AreSeen g (seen_in s.cells own there levels)) e h.seen;
  steps = h.steps;
}
