-- A section of version 3.0, and the types of cells, as they are written.
use Rattle.std.proofs.Common.{◌≡◌, ℕ, zero, suc, ℤ, pos, ◌+◌, ◌-◌, ◌^◌, ◌<◌, ◌≤◌, ◌==◌, ◌||◌, Bool, true, false, not, List, [], ◌∷◌, ◌++◌, length, map, refl, sym, ap, subst, ◌∙◌, append-nil, arith}
use Rattle.std.specs.Prelude.{nat_le, Some, unwrap_or, unsigned_abs, Option}
use Rattle.std.specs.List.{All, flat_map}
use Rattle.std.specs.Fmt.{decimal}
use Rattle.std.proofs.lemmas.Bool.{lt-ltb, le-leb, eq-eqb, eqb-true}
use Rattle.std.proofs.lemmas.List.Elements.{All-head, All-tail}
use Rattle.viz_column.specs.declared.kind.Kind8.TheVariants.{I32}
use Rattle.viz_column.specs.Bytes.{bytes_of, number_in}
use Rattle.viz_column.specs.Kinds.{fits}
use Rattle.viz_column.proofs.KindLemmas.{length-bytes_of, number_again}
use Rattle.viz_lex.specs.declared.fault.FileKind.TheVariants.{Count, Index, CellType}
use Rattle.viz_lex.specs.Reading.{Reading, rest_of, fault_at}
use Rattle.viz_lex.specs.Words.{EndsWord}
use Rattle.viz_lex.specs.Steps.{has}
use Rattle.viz_lex.specs.Rules.{gives, demand}
use Rattle.viz_lex.specs.Repeats.{times}
use Rattle.viz_lex.specs.Items.{number, block}
use Rattle.viz_attr.specs.Counts.{is_number, count_from, same_count}
use Rattle.viz_counted_cells.specs.Sections.{here, section_number, section_start, is_index, index, is_cell_count, cell, cells, section_size, section, HasIndices, HaveIndices}
use Rattle.viz_mesh_read.specs.Grid.{points_of_type, cell_type, cell_types}
use Rattle.viz_mesh_write.specs.MeshText.{cell_numbers, size_of, type_of}
use Rattle.viz_mesh_write.specs.Rows.{block_text}
use Rattle.viz_mesh_write.proofs.TallyLemmas.{size_cons}
use Rattle.viz_round_trip.proofs.StandingLemmas.{Stands, stands-gives, stands-follow, stands-demand}
use Rattle.viz_round_trip.proofs.NumberStanding.{stands-number}
use Rattle.viz_round_trip.proofs.SizeStanding.{stands-count}
use Rattle.viz_round_trip.proofs.ValueStanding.{kind_wide}
use Rattle.viz_round_trip.proofs.BlockStanding.{stands-line_end, stands-block}
use Rattle.viz_round_trip.proofs.FrontLemmas.{IsInFront, AreInFront, filled, front-split, gap_of, start_of, block-front}

-- ---- numbers

pub stands-section_number : (binary : Bool) (n : ℤ) (old : Reading) (text later : List ℕ) → fits I32 n ≡ true → IsInFront binary I32 n text later → rest_of old ≡ text → (place : ℕ) × Stands (section_number binary) old (place, n) later
stands-section_number false n old text later within h e =
    stands-number old h.0 later n (kind_wide I32 n within) h.1 h.2 (e ∙ h.3)
stands-section_number true n old text later within h e =
    let bytes = bytes_of I32 n in
    let place = old.place in
    let read : number_in I32 bytes ≡ n = ap (number_in I32) (sym (append-nil bytes)) ∙ number_again I32 n [] within in
    let first : Stands here old place text = record { new = old; is = (refl, refl); rest = e } in
    let second = stands-block old 4 bytes later (length-bytes_of I32 n) (e ∙ h) in
    let at : ℤ → ℕ × ℤ = λ m. (place, m) in
    let last = subst (λ (m : ℤ). Stands (gives (at (number_in I32 bytes))) second.new (at m) later) read (stands-gives (at (number_in I32 bytes)) second.new later second.rest) in (
      place,
      stands-follow here _ old place (place, n) text later first
          (stands-follow (block 4) (λ bytes. gives (place, number_in I32 bytes)) old bytes (place, n) later later second last),
    )

stands-index : (binary : Bool) (points i : ℕ) (old : Reading) (text later : List ℕ) → points < 2 ^ 31 → i < points → IsInFront binary I32 (pos i) text later → rest_of old ≡ text → Stands (index binary points) old i later
stands-index binary points i old text later few below h e =
    let first = stands-section_number binary (pos i) old text later (lt-ltb i (2 ^ 31) (omega arith)) h e in
    stands-follow (section_number binary) (λ n. demand (is_index points n.1) (fault_at Index n.0) (gives (unsigned_abs n.1))) old (first.0, pos i) i later later first.1
    (stands-demand _ _ _ first.1.new i later (lt-ltb i points below) (stands-gives i first.1.new later first.1.rest))

stands-indices : (binary : Bool) (points : ℕ) (is : List ℕ) (old : Reading) (text behind : List ℕ) → points < 2 ^ 31 → HasIndices points is → AreInFront binary I32 (map (λ (n : ℕ). pos n) is) text behind → rest_of old ≡ text
    → Stands (times (length is) (index binary points)) old is behind
stands-indices binary points [] old text behind few below h e = record { new = old; is = refl; rest = e ∙ h }
stands-indices binary points (i ∷ is) old text behind few below h e =
    let first = stands-index binary points i old text h.0 few (All-head (λ j. j < points) i is below) h.1 e in
    let others = stands-indices binary points is first.new h.0 behind few (All-tail (λ j. j < points) i is below) h.2 first.rest in
    record { new = others.new; is = (first.new, first.is, others.is); rest = others.rest }

-- ---- cells

pub otherwise : (b t : Bool) → (b ≡ true → t ≡ true) → (not b || t) ≡ true
otherwise true t h = h refl
otherwise false t h = refl

-- a cell leaves a number for each later one
is_count : (c n left : ℕ) → c + n ≤ left → (n ≡ 1 → left ≤ c + n) → is_cell_count n left (pos c) ≡ true
is_count c n left most last =
    let room : nat_le (c + n) left ≡ true = le-leb (c + n) left most in
    let none : (not (n == 1) || nat_le left (c + n)) ≡ true = otherwise (n == 1) (nat_le left (c + n)) (λ e. le-leb left (c + n) (last (eqb-true n 1 e))) in
    rw (room, none) refl

stands-cell : (binary : Bool) (points n left : ℕ) (c : List ℕ) (old : Reading) (text behind : List ℕ) → points < 2 ^ 31 → length c < 2 ^ 31 → HasIndices points c → is_cell_count n left (pos (length c)) ≡ true
    → AreInFront binary I32 (cell_numbers c) text behind → rest_of old ≡ text → Stands (cell binary points n left) old c behind
stands-cell binary points n left c old text behind few short below counts h e =
    let first = stands-section_number binary (pos (length c)) old text h.0 (lt-ltb (length c) (2 ^ 31) short) h.1 e in
    let others = stands-indices binary points c first.1.new h.0 behind few below h.2 first.1.rest in
    stands-follow (section_number binary) (λ m. demand (is_cell_count n left m.1) (fault_at Count m.0) (times (unsigned_abs m.1) (index binary points))) old (first.0, pos (length c)) c h.0 behind first.1
    (stands-demand _ _ _ first.1.new c behind counts others)

pub size_long : (cs : List (List ℕ)) → length cs ≤ size_of cs
size_long [] = omega arith
size_long (c ∷ cs) = let more = size_cons c cs in let rest = size_long cs in omega (arith, more, rest)

size_none : (cs : List (List ℕ)) → length cs ≡ 0 → size_of cs ≡ 0
size_none [] e = refl
size_none (c ∷ cs) e = absurd (omega arith)

pub stands-cells : (binary : Bool) (points : ℕ) (cs : List (List ℕ)) (old : Reading) (text behind : List ℕ) → points < 2 ^ 31 → size_of cs < 2 ^ 31 → HaveIndices points cs → AreInFront binary I32 (flat_map cell_numbers cs) text behind → rest_of old ≡ text
    → Stands (cells binary points (length cs) (size_of cs)) old cs behind
stands-cells binary points [] old text behind few small below h e = stands-gives [] old behind (e ∙ h)
stands-cells binary points (c ∷ cs) old text behind few small below h e =
    let more = size_cons c cs in
    let long = size_long cs in
    let none = size_none cs in
    let left = size_of (c ∷ cs) in
    let parts = front-split binary I32 (cell_numbers c) (flat_map cell_numbers cs) text behind h in
    let counts = is_count (length c) (suc (length cs)) left (omega (arith, more, long)) (λ one. let z = none (omega arith) in omega (arith, more, z)) in
    let first = stands-cell binary points (suc (length cs)) left c old text parts.0 few (omega (arith, more)) (All-head (HasIndices points) c cs below) counts parts.1 e in
    let rest = stands-cells binary points cs first.new parts.0 behind few (omega (arith, more)) (All-tail (HasIndices points) c cs below) parts.2 first.rest in
    let same : size_of cs ≡ left - suc (length c) = omega (arith, more) in
    let others = subst (λ (k : ℕ). Stands (cells binary points (length cs) k) first.new cs behind) same rest in
    stands-follow (cell binary points (suc (length cs)) left) _ old c (c ∷ cs) parts.0 behind first
    (stands-follow (cells binary points (length cs) (left - suc (length c))) (λ others. gives (c ∷ others)) first.new cs (c ∷ cs) behind behind others (stands-gives (c ∷ cs) others.new behind others.rest))

-- ---- the line of a section

pub stands-count_from : (old : Reading) (n : ℕ) (behind : List ℕ) → n < 2 ^ 31 → EndsWord behind → rest_of old ≡ 32 ∷ (decimal n ++ behind) → Stands (count_from 0) old n behind
stands-count_from old n behind few ends e =
    let first = stands-count old 32 n behind refl few ends e in
    stands-follow number _ old (first.0, pos n) n behind behind first.1
    (stands-demand _ _ _ first.1.new n behind (le-leb 0 n (omega arith))
    (stands-demand _ _ _ first.1.new n behind (lt-ltb n (2 ^ 31) few) (stands-gives n first.1.new behind first.1.rest)))

pub stands-size : (old : Reading) (n size : ℕ) (behind : List ℕ) → size < 2 ^ 31 → (n ≡ 0 → size ≡ 0) → EndsWord behind → rest_of old ≡ 32 ∷ (decimal size ++ behind) → Stands (section_size n) old size behind
stands-size old n size behind few none ends e =
    let first = stands-count old 32 size behind refl few ends e in
    stands-follow number _ old (first.0, pos size) size behind behind first.1
    (stands-demand _ _ _ first.1.new size behind (le-leb 0 size (omega arith))
    (stands-demand _ _ _ first.1.new size behind (lt-ltb size (2 ^ 31) few)
    (stands-demand _ _ _ first.1.new size behind (otherwise (n == 0) (is_number 0 (pos size)) (λ z. eq-eqb size 0 (none (eqb-true n 0 z)))) (stands-gives size first.1.new behind first.1.rest))))

pub stands-start : (binary : Bool) (old : Reading) (text : List ℕ) → rest_of old ≡ 10 ∷ text → Stands (section_start binary) old tt (start_of binary text)
stands-start true old text e = stands-line_end old text e
stands-start false old text e = stands-gives tt old (10 ∷ text) e

-- the cells of a section behind its keyword, and what is behind them
abbrev pub cells_block : Bool → List (List ℕ) → List ℕ
cells_block binary cs = block_text binary I32 (map cell_numbers cs)

-- what is left in front of what is behind them
abbrev pub cells_gap : Bool → List (List ℕ) → List ℕ
cells_gap binary cs = gap_of binary (length (map cell_numbers cs))

-- the text of a section behind its keyword and a space
abbrev pub counted_behind : Bool → List (List ℕ) → List ℕ → List ℕ
counted_behind binary cs tail = decimal (length cs) ++ 32 ∷ (decimal (size_of cs) ++ 10 ∷ (cells_block binary cs ++ tail))

pub stands-section : (binary : Bool) (points : ℕ) (cs : List (List ℕ)) (old : Reading) (tail : List ℕ) → points < 2 ^ 31 → size_of cs < 2 ^ 31 → HaveIndices points cs → rest_of old ≡ 32 ∷ counted_behind binary cs tail
    → Stands (section binary points) old cs (cells_gap binary cs ++ tail)
stands-section binary points cs old tail few small below e =
    let long = size_long cs in
    let left = cells_gap binary cs ++ tail in
    let numbers = cells_block binary cs ++ tail in
    let a = stands-count_from old (length cs) (32 ∷ (decimal (size_of cs) ++ 10 ∷ numbers)) (omega (arith, long)) refl e in
    let b = stands-size a.new (length cs) (size_of cs) (10 ∷ numbers) small (size_none cs) refl a.rest in
    let c = stands-start binary b.new numbers b.rest in
    let front = block-front binary I32 cell_numbers cs tail (filled (λ (cell : List ℕ). pos (length cell)) (λ (cell : List ℕ). map (λ (n : ℕ). pos n) cell) cs) in
    let d = stands-cells binary points cs c.new (start_of binary numbers) left few small below front c.rest in
    stands-follow (count_from 0) _ old (length cs) cs (32 ∷ (decimal (size_of cs) ++ 10 ∷ numbers)) left a
    (stands-follow (section_size (length cs)) _ a.new (size_of cs) cs (10 ∷ numbers) left b
    (stands-follow (section_start binary) (λ started. cells binary points (length cs) (size_of cs)) b.new tt cs (start_of binary numbers) left c d))

-- ---- types

-- the type that is written of a cell of 1 to 4 points is the one that is wanted of it
pub type-wanted : (n : ℕ) → 1 ≤ n → n ≤ 4 → points_of_type (type_of n) ≡ Some n
type-wanted zero some most = absurd (omega arith)
type-wanted (suc zero) some most = refl
type-wanted (suc (suc zero)) some most = refl
type-wanted (suc (suc (suc zero))) some most = refl
type-wanted (suc (suc (suc (suc zero)))) some most = refl
type-wanted (suc (suc (suc (suc (suc n))))) some most = absurd (omega arith)

type-small : (n : ℕ) → 1 ≤ n → n ≤ 4 → fits I32 (type_of n) ≡ true
type-small zero some most = absurd (omega arith)
type-small (suc zero) some most = refl
type-small (suc (suc zero)) some most = refl
type-small (suc (suc (suc zero))) some most = refl
type-small (suc (suc (suc (suc zero)))) some most = refl
type-small (suc (suc (suc (suc (suc n))))) some most = absurd (omega arith)

-- a cell of 1 to 4 points
abbrev pub HasSize : List ℕ → Type 0
HasSize cell = (1 ≤ length cell) × (length cell ≤ 4)

stands-type : (binary : Bool) (n : ℕ) (old : Reading) (text later : List ℕ) → 1 ≤ n → n ≤ 4 → IsInFront binary I32 (type_of n) text later → rest_of old ≡ text → Stands (cell_type binary n) old tt later
stands-type binary n old text later some most h e =
    let first = stands-section_number binary (type_of n) old text later (type-small n some most) h e in
    let wanted = type-wanted n some most in
    stands-follow (section_number binary) (λ t. demand (has (points_of_type t.1)) (fault_at (CellType t.1) t.0) (demand (unwrap_or (points_of_type t.1) 0 == n) (fault_at Count t.0) (gives tt))) old (first.0, type_of n) tt later later first.1
    (stands-demand _ _ _ first.1.new tt later (ap (λ (o : Option ℕ). has o) wanted)
    (stands-demand _ _ _ first.1.new tt later (ap (λ (o : Option ℕ). unwrap_or o 0 == n) wanted ∙ eq-eqb n n refl) (stands-gives tt first.1.new later first.1.rest)))

-- the type of a cell
abbrev pub type_row : List ℕ → List ℤ
type_row cell = type_of (length cell) ∷ []

stands-cell_types : (binary : Bool) (cs : List (List ℕ)) (old : Reading) (text behind : List ℕ) → All HasSize cs → AreInFront binary I32 (flat_map type_row cs) text behind → rest_of old ≡ text → Stands (cell_types binary cs) old tt behind
stands-cell_types binary [] old text behind sized h e = stands-gives tt old behind (e ∙ h)
stands-cell_types binary (c ∷ cs) old text behind sized h e =
    let size = All-head HasSize c cs sized in
    let first = stands-type binary (length c) old text h.0 size.0 size.1 h.1 e in
    let others = stands-cell_types binary cs first.new h.0 behind (All-tail HasSize c cs sized) h.2 first.rest in
    stands-follow (cell_type binary (length c)) (λ first. cell_types binary cs) old tt tt h.0 behind first others

-- the text of types behind their keyword
abbrev pub types_behind : Bool → List (List ℕ) → List ℕ → List ℕ
types_behind binary cs tail = 32 ∷ (decimal (length cs) ++ 10 ∷ (block_text binary I32 (map type_row cs) ++ tail))

-- what is left in front of what is behind them
abbrev pub types_gap : Bool → List (List ℕ) → List ℕ
types_gap binary cs = gap_of binary (length (map type_row cs))

-- the number of types, the end of its line and the types
pub record StandTypes (binary : Bool) (cs : List (List ℕ)) (old : Reading) (left : List ℕ) : Type 0 where
  pub text : List ℕ
  pub behind : List ℕ
  pub counted : Stands (same_count (length cs)) old tt behind
  pub started : Stands (section_start binary) counted.new tt text
  pub all : Stands (cell_types binary cs) started.new tt left

pub stands-types : (binary : Bool) (cs : List (List ℕ)) (old : Reading) (tail : List ℕ) → length cs < 2 ^ 31 → All HasSize cs → rest_of old ≡ types_behind binary cs tail → StandTypes binary cs old (types_gap binary cs ++ tail)
stands-types binary cs old tail few sized e =
    let numbers = block_text binary I32 (map type_row cs) ++ tail in
    let first = stands-count old 32 (length cs) (10 ∷ numbers) refl few refl e in
    let counted : Stands (same_count (length cs)) old tt (10 ∷ numbers) =
    stands-follow number (λ n. demand (is_number (length cs) n.1) (fault_at Count n.0) (gives tt)) old (first.0, pos (length cs)) tt (10 ∷ numbers) (10 ∷ numbers) first.1
    (stands-demand _ _ _ first.1.new tt (10 ∷ numbers) (eq-eqb (length cs) (length cs) refl) (stands-gives tt first.1.new (10 ∷ numbers) first.1.rest)) in
    let started = stands-start binary counted.new numbers counted.rest in
    let front = block-front binary I32 type_row cs tail (filled (λ (cell : List ℕ). type_of (length cell)) (λ (cell : List ℕ). []) cs) in
    record {
      text = start_of binary numbers;
      behind = 10 ∷ numbers;
      counted = counted;
      started = started;
      all = stands-cell_types binary cs started.new (start_of binary numbers) (types_gap binary cs ++ tail) sized front started.rest;
    }
