-- A section of version 5.1, as it is written.
use Rattle.std.proofs.Common.{◌≡◌, ℕ, suc, ℤ, pos, ◌+◌, ◌-◌, ◌^◌, ◌<◌, ◌≤◌, ◌==◌, Bool, true, false, List, [], ◌∷◌, ◌++◌, length, map, take, drop, refl, sym, ap, ap₂, subst, ◌∙◌, append_assoc, append-nil, length-append, arith}
use Rattle.std.specs.Prelude.{codes, unsigned_abs}
use Rattle.std.specs.List.{All, flat_map}
use Rattle.std.specs.Fmt.{decimal}
use Rattle.std.proofs.Math.Seq.{get_or-append_seam, take-append_seam, drop-append_seam}
use Rattle.std.proofs.lemmas.Bool.{lt-ltb, le-leb, eq-eqb, ne_eqb, eqb-true}
use Rattle.std.proofs.lemmas.List.{length-map}
use Rattle.std.proofs.lemmas.List.Elements.{All-nil, All-head, All-tail, All-append, All-weaker}
use Rattle.viz_column.specs.declared.kind.Kind8.{Kind8}
use Rattle.viz_column.specs.declared.kind.Kind8.TheVariants.{I64}
use Rattle.viz_column.specs.Bytes.{bytes_of, number_in}
use Rattle.viz_column.specs.Kinds.{fits, size_of as bytes_in}
use Rattle.viz_column.proofs.KindLemmas.{length-bytes_of, number_again}
use Rattle.viz_lex.specs.declared.fault.FileKind.TheVariants.{ValueRange, Count, Index}
use Rattle.viz_lex.specs.Reading.{Reading, rest_of, fault_at}
use Rattle.viz_lex.specs.Words.{IsBlank}
use Rattle.viz_lex.specs.Rules.{gives, demand}
use Rattle.viz_lex.specs.Repeats.{AreKnown, times, times_knowing}
use Rattle.viz_lex.specs.Items.{word, number, keyword, block}
use Rattle.viz_attr.specs.Counts.{count_from}
use Rattle.viz_counted_cells.specs.Sections.{here, section_start, is_index, section_size, HasIndices, HaveIndices}
use Rattle.viz_offset_cells.specs.Runs.{run_between, runs_from, runs_between}
use Rattle.viz_offset_cells.specs.Offsets.{index_type, typed_number, last_of, is_in_order, is_offset, offset, offsets, index, connectivity, cut_cells, has_cuts, offset_section}
use Rattle.viz_mesh_write.specs.Rows.{block_text}
use Rattle.viz_mesh_write.specs.MeshText.{size_of}
use Rattle.viz_mesh_write.specs.Sections.{indices_of, index_count, offsets_from, offsets_of, offset_row}
use Rattle.viz_mesh_write.proofs.TallyLemmas.{size_cons}
use Rattle.viz_round_trip.proofs.StandingLemmas.{Stands, stands-gives, stands-follow, stands-demand, stands-beside}
use Rattle.viz_round_trip.proofs.WordStanding.{word-solid, blank-one, stands-next, stands-keyword}
use Rattle.viz_round_trip.proofs.NumberStanding.{stands-number}
use Rattle.viz_round_trip.proofs.ValueStanding.{kind_wide}
use Rattle.viz_round_trip.proofs.BlockStanding.{stands-block}
use Rattle.viz_round_trip.proofs.FrontLemmas.{IsInFront, AreInFront, filled, gap_of, gap-blank, start_of, block-front}
use Rattle.viz_round_trip.proofs.SectionStanding.{otherwise, stands-count_from, stands-size, stands-start}

-- ---- numbers

stands-typed : (binary : Bool) (kind : Kind8) (n : ℤ) (old : Reading) (text later : List ℕ) → fits kind n ≡ true → IsInFront binary kind n text later → rest_of old ≡ text → (place : ℕ) × Stands (typed_number binary kind) old (place, n) later
stands-typed false kind n old text later within h e =
    let first = stands-number old h.0 later n (kind_wide kind n within) h.1 h.2 (e ∙ h.3) in (
      first.0,
      stands-follow number (λ m. demand (fits kind m.1) (fault_at ValueRange m.0) (gives m)) old (first.0, n) (first.0, n) later later first.1
          (stands-demand _ _ _ first.1.new (first.0, n) later within (stands-gives (first.0, n) first.1.new later first.1.rest)),
    )
stands-typed true kind n old text later within h e =
    let bytes = bytes_of kind n in
    let place = old.place in
    let read : number_in kind bytes ≡ n = ap (number_in kind) (sym (append-nil bytes)) ∙ number_again kind n [] within in
    let first : Stands here old place text = record { new = old; is = (refl, refl); rest = e } in
    let second = stands-block old (bytes_in kind) bytes later (length-bytes_of kind n) (e ∙ h) in
    let at : ℤ → ℕ × ℤ = λ m. (place, m) in
    let last = subst (λ (m : ℤ). Stands (gives (at (number_in kind bytes))) second.new (at m) later) read (stands-gives (at (number_in kind bytes)) second.new later second.rest) in (
      place,
      stands-follow here _ old place (place, n) text later first
          (stands-follow (block (bytes_in kind)) (λ bytes. gives (place, number_in kind bytes)) old bytes (place, n) later later second last),
    )

small_fits : (n : ℕ) → n < 2 ^ 31 → fits I64 (pos n) ≡ true
small_fits n few = lt-ltb n (2 ^ 63) (omega arith)

-- the type that is written
stands-index_type : (old : Reading) (behind : List ℕ) → rest_of old ≡ 32 ∷ (codes "vtktypeint64" ++ 10 ∷ behind) → Stands index_type old I64 (10 ∷ behind)
stands-index_type old behind e =
    let name = codes "vtktypeint64" in
    let first = stands-next old (32 ∷ []) name (10 ∷ behind) (record { parts = e; blank = blank-one 32 refl; is_word = word-solid name refl; ends = refl }) in
    stands-follow word _ old (old.place + 1, name) I64 (10 ∷ behind) (10 ∷ behind) first
    (stands-demand _ _ _ first.new I64 (10 ∷ behind) refl
    (stands-demand _ _ _ first.new I64 (10 ∷ behind) refl (stands-gives I64 first.new (10 ∷ behind) first.rest)))

-- ---- offsets

some_before : (before : List ℕ) (n : ℕ) → (length (before ++ n ∷ []) == 0) ≡ false
some_before before n = let long = length-append before (n ∷ []) in ne_eqb (length (before ++ n ∷ [])) 0 (λ e. omega (arith, long, e))

last_is : (before : List ℕ) (n : ℕ) → last_of (before ++ n ∷ []) ≡ n
last_is before n =
    let long = length-append before (n ∷ []) in
    let place : length (before ++ n ∷ []) - 1 ≡ length before = omega (arith, long) in
    rw place (get_or-append_seam before n [] 0)

-- an offset behind another that isn't above it
next_in_order : (before : List ℕ) (n m : ℕ) → n ≤ m → is_in_order (before ++ n ∷ []) m ≡ true
next_in_order before n m le = rw (some_before before n, last_is before n) (le-leb n m le)

is_offset-by : (most indices n : ℕ) (before : List ℕ) → is_in_order before n ≡ true → (length before + 1 ≡ most → n ≡ indices) → is_offset most indices before (pos n) ≡ true
is_offset-by most indices n before order last =
    let ends = otherwise (length before + 1 == most) (n == indices) (λ e. eq-eqb n indices (last (eqb-true (length before + 1) most e))) in
    rw (order, ends) refl

stands-offset : (binary : Bool) (most indices n : ℕ) (before : List ℕ) (old : Reading) (text later : List ℕ) → n < 2 ^ 31 → is_offset most indices before (pos n) ≡ true → IsInFront binary I64 (pos n) text later → rest_of old ≡ text
    → Stands (offset binary I64 most indices before) old n later
stands-offset binary most indices n before old text later few is h e =
    let first = stands-typed binary I64 (pos n) old text later (small_fits n few) h e in
    stands-follow (typed_number binary I64) (λ m. demand (is_offset most indices before m.1) (fault_at Count m.0) (gives (unsigned_abs m.1))) old (first.0, pos n) n later later first.1
    (stands-demand _ _ _ first.1.new n later is (stands-gives n first.1.new later first.1.rest))

offsets-long : (n : ℕ) (cs : List (List ℕ)) → length (offsets_from n cs) ≡ suc (length cs)
offsets-long n [] = refl
offsets-long n (c ∷ cs) = ap suc (offsets-long (n + length c) cs)

-- the offsets of cells stand behind others
record StandBehind (binary : Bool) (most indices : ℕ) (before list : List ℕ) (old : Reading) (left : List ℕ) : Type 0 where
  new : Reading
  is : AreKnown (offset binary I64 most indices) before old new list (length list)
  rest : rest_of new ≡ left

stand-offsets : (binary : Bool) (most indices n : ℕ) (cs : List (List ℕ)) (before : List ℕ) (old : Reading) (text behind : List ℕ) → indices < 2 ^ 31 → is_in_order before n ≡ true → n + index_count cs ≡ indices
    → length before + suc (length cs) ≡ most → AreInFront binary I64 (flat_map offset_row (offsets_from n cs)) text behind → rest_of old ≡ text → StandBehind binary most indices before (offsets_from n cs) old behind
stand-offsets binary most indices n [] before old text behind few order sum all h e =
    let is = is_offset-by most indices n before order (λ last. omega (arith, sum)) in
    let first = stands-offset binary most indices n before old text h.0 (omega (arith, few, sum)) is h.1 e in
    record { new = first.new; is = (first.new, first.is, refl); rest = first.rest ∙ h.2 }
stand-offsets binary most indices n (c ∷ cs) before old text behind few order sum all h e =
    let long = length-append before (n ∷ []) in
    let is = is_offset-by most indices n before order (λ last. absurd (omega (arith, all, last))) in
    let first = stands-offset binary most indices n before old text h.0 (omega (arith, few, sum)) is h.1 e in
    let others = stand-offsets binary most indices (n + length c) cs (before ++ n ∷ []) first.new h.0 behind few (next_in_order before n (n + length c) (omega arith)) (omega (arith, sum)) (omega (arith, long, all)) h.2 first.rest in
    record { new = others.new; is = (first.new, first.is, others.is); rest = others.rest }

-- ---- indices

-- the indices of cells, one cell after the other
abbrev pub all_indices : List (List ℕ) → List ℕ
all_indices cs = flat_map (λ (c : List ℕ). c) cs

stands-index : (binary : Bool) (points i : ℕ) (old : Reading) (text later : List ℕ) → points < 2 ^ 31 → i < points → IsInFront binary I64 (pos i) text later → rest_of old ≡ text → Stands (index binary I64 points) old i later
stands-index binary points i old text later few below h e =
    let first = stands-typed binary I64 (pos i) old text later (small_fits i (omega (arith, few, below))) h e in
    stands-follow (typed_number binary I64) (λ n. demand (is_index points n.1) (fault_at Index n.0) (gives (unsigned_abs n.1))) old (first.0, pos i) i later later first.1
    (stands-demand _ _ _ first.1.new i later (lt-ltb i points below) (stands-gives i first.1.new later first.1.rest))

stands-indices : (binary : Bool) (points : ℕ) (is : List ℕ) (old : Reading) (text behind : List ℕ) → points < 2 ^ 31 → HasIndices points is → AreInFront binary I64 (indices_of is) text behind → rest_of old ≡ text
    → Stands (times (length is) (index binary I64 points)) old is behind
stands-indices binary points [] old text behind few below h e = record { new = old; is = refl; rest = e ∙ h }
stands-indices binary points (i ∷ is) old text behind few below h e =
    let first = stands-index binary points i old text h.0 few (All-head (λ j. j < points) i is below) h.1 e in
    let others = stands-indices binary points is first.new h.0 behind few (All-tail (λ j. j < points) i is below) h.2 first.rest in
    record { new = others.new; is = (first.new, first.is, others.is); rest = others.rest }

map-both : (xs ys : List ℕ) → indices_of (xs ++ ys) ≡ indices_of xs ++ indices_of ys
map-both [] ys = refl
map-both (x ∷ xs) ys = ap (λ (ns : List ℤ). pos x ∷ ns) (map-both xs ys)

indices-flat : (cs : List (List ℕ)) → flat_map indices_of cs ≡ indices_of (all_indices cs)
indices-flat [] = refl
indices-flat (c ∷ cs) = ap (λ (ns : List ℤ). indices_of c ++ ns) (indices-flat cs) ∙ sym (map-both c (all_indices cs))

indices-long : (cs : List (List ℕ)) → length (all_indices cs) ≡ index_count cs
indices-long [] = refl
indices-long (c ∷ cs) = length-append c (all_indices cs) ∙ ap (λ (n : ℕ). length c + n) (indices-long cs)

indices-below : (points : ℕ) (cs : List (List ℕ)) → HaveIndices points cs → HasIndices points (all_indices cs)
indices-below points [] h = All-nil (λ i. i < points)
indices-below points (c ∷ cs) h =
    All-append (λ i. i < points) c (all_indices cs) (All-head (HasIndices points) c cs h) (indices-below points cs (All-tail (HasIndices points) c cs h))

-- ---- the cells between offsets

-- the offsets behind the first one
abbrev later_offsets : ℕ → List (List ℕ) → List ℕ
later_offsets n [] = []
later_offsets n (c ∷ cs) = (n + length c) ∷ later_offsets (n + length c) cs

offsets-parts : (n : ℕ) (cs : List (List ℕ)) → offsets_from n cs ≡ n ∷ later_offsets n cs
offsets-parts n [] = refl
offsets-parts n (c ∷ cs) = ap (λ (l : List ℕ). n ∷ l) (offsets-parts (n + length c) cs)

run-is : (n : ℕ) (front c behind : List ℕ) → length front ≡ n → run_between n (n + length c) (front ++ (c ++ behind)) ≡ c
run-is n front c behind e =
    let size : n + length c - n ≡ length c = omega arith in
    let there : drop n (front ++ (c ++ behind)) ≡ c ++ behind = ap (λ (k : ℕ). drop k (front ++ (c ++ behind))) (sym e) ∙ drop-append_seam front (c ++ behind) in
    ap₂ (λ (k : ℕ) (l : List ℕ). take k l) size there ∙ take-append_seam c behind

runs-are : (n : ℕ) (front : List ℕ) (cs : List (List ℕ)) → length front ≡ n → runs_from n (later_offsets n cs) (front ++ all_indices cs) ≡ cs
runs-are n front [] e = refl
runs-are n front (c ∷ cs) e =
    let long : length (front ++ c) ≡ n + length c = length-append front c ∙ ap (λ (k : ℕ). k + length c) e in
    let same : front ++ all_indices (c ∷ cs) ≡ (front ++ c) ++ all_indices cs = sym (append_assoc front c (all_indices cs)) in
    let others : runs_from (n + length c) (later_offsets (n + length c) cs) (front ++ all_indices (c ∷ cs)) ≡ cs =
    ap (λ (l : List ℕ). runs_from (n + length c) (later_offsets (n + length c) cs) l) same ∙ runs-are (n + length c) (front ++ c) cs long in
    ap₂ (λ (x : List ℕ) (xs : List (List ℕ)). x ∷ xs) (run-is n front c (all_indices cs) e) others

-- the runs of all indices between the offsets of cells are these cells
runs-again : (cs : List (List ℕ)) → runs_between (offsets_of cs) (all_indices cs) ≡ cs
runs-again cs = ap (λ (l : List ℕ). runs_between l (all_indices cs)) (offsets-parts 0 cs) ∙ runs-are 0 [] cs refl

-- ---- the text of a section

-- a block behind the word of its type, and what is behind it
abbrev pub typed_behind : List ℕ → List ℕ
typed_behind numbers = 32 ∷ (codes "vtktypeint64" ++ 10 ∷ numbers)

abbrev pub offsets_block : Bool → List (List ℕ) → List ℕ
offsets_block binary cs = block_text binary I64 (map offset_row (offsets_of cs))

abbrev pub indices_block : Bool → List (List ℕ) → List ℕ
indices_block binary cs = block_text binary I64 (map indices_of cs)

-- the text behind the line of a section
abbrev pub blocks_behind : Bool → List (List ℕ) → List ℕ → List ℕ
blocks_behind binary cs tail =
    codes "OFFSETS" ++ typed_behind (offsets_block binary cs ++ (codes "CONNECTIVITY" ++ typed_behind (indices_block binary cs ++ tail)))

-- the text of a section behind its keyword and a space
abbrev pub offset_behind : Bool → List (List ℕ) → List ℕ → List ℕ
offset_behind binary cs tail = decimal (length cs + 1) ++ 32 ∷ (decimal (index_count cs) ++ 10 ∷ blocks_behind binary cs tail)

-- what is left in front of what is behind the indices
abbrev pub indices_gap : Bool → List (List ℕ) → List ℕ
indices_gap binary cs = gap_of binary (length (map indices_of cs))

-- each cell has a point
abbrev pub HavePoints : List (List ℕ) → Type 0
HavePoints cs = All (λ c. 1 ≤ length c) cs

-- what is left in front of what is behind the offsets
abbrev offsets_gap : Bool → List (List ℕ) → List ℕ
offsets_gap binary cs = gap_of binary (length (map offset_row (offsets_of cs)))

stands-offsets : (binary : Bool) (cs : List (List ℕ)) (old : Reading) (behind : List ℕ) → index_count cs < 2 ^ 31 → rest_of old ≡ 10 ∷ (codes "OFFSETS" ++ typed_behind (offsets_block binary cs ++ behind))
    → Stands (offsets binary (length cs + 1) (index_count cs)) old (offsets_of cs) (offsets_gap binary cs ++ behind)
stands-offsets binary cs old behind few e =
    let most = length cs + 1 in
    let indices = index_count cs in
    let list = offsets_of cs in
    let left = offsets_gap binary cs ++ behind in
    let numbers = offsets_block binary cs ++ behind in
    let key = stands-keyword (codes "OFFSETS") old (10 ∷ []) (codes "OFFSETS") (typed_behind numbers) refl (record { parts = e; blank = blank-one 10 refl; is_word = word-solid (codes "OFFSETS") refl; ends = refl }) in
    let typed = stands-index_type key.new numbers key.rest in
    let started = stands-start binary typed.new numbers typed.rest in
    let front = block-front binary I64 offset_row list behind (filled (λ (n : ℕ). pos n) (λ (n : ℕ). []) list) in
    let all = stand-offsets binary most indices 0 cs [] started.new (start_of binary numbers) left few refl (omega arith) (omega arith) front started.rest in
    let long : length list ≡ most = offsets-long 0 cs ∙ omega arith in
    let many : Stands (times_knowing most (offset binary I64 most indices)) started.new list left = record {
      new = all.new;
      is = subst (λ (k : ℕ). AreKnown (offset binary I64 most indices) [] started.new all.new list k) long all.is;
      rest = all.rest;
    } in
    stands-follow (keyword (codes "OFFSETS")) _ old tt list (typed_behind numbers) left key
    (stands-follow index_type _ key.new I64 list (10 ∷ numbers) left typed
    (stands-follow (section_start binary) (λ started. times_knowing most (offset binary I64 most indices)) typed.new tt list (start_of binary numbers) left started many))

stands-connectivity : (binary : Bool) (points : ℕ) (cs : List (List ℕ)) (old : Reading) (gap tail : List ℕ) → IsBlank gap → points < 2 ^ 31 → HaveIndices points cs → HavePoints cs
    → rest_of old ≡ gap ++ (codes "CONNECTIVITY" ++ typed_behind (indices_block binary cs ++ tail)) → Stands (connectivity binary points (index_count cs)) old (all_indices cs) (indices_gap binary cs ++ tail)
stands-connectivity binary points cs old gap tail blank few below some e =
    let list = all_indices cs in
    let left = indices_gap binary cs ++ tail in
    let numbers = indices_block binary cs ++ tail in
    let key = stands-keyword (codes "CONNECTIVITY") old gap (codes "CONNECTIVITY") (typed_behind numbers) refl (record { parts = e; blank = blank; is_word = word-solid (codes "CONNECTIVITY") refl; ends = refl }) in
    let typed = stands-index_type key.new numbers key.rest in
    let started = stands-start binary typed.new numbers typed.rest in
    let rows = All-weaker (λ c. 1 ≤ length c) (λ c. 1 ≤ length (indices_of c)) (λ c h. subst (λ (n : ℕ). 1 ≤ n) (sym (length-map c (λ (n : ℕ). pos n))) h) cs some in
    let front = subst (λ (ns : List ℤ). AreInFront binary I64 ns (start_of binary numbers) left) (indices-flat cs) (block-front binary I64 indices_of cs tail rows) in
    let all = stands-indices binary points list started.new (start_of binary numbers) left few (indices-below points cs below) front started.rest in
    let many = subst (λ (k : ℕ). Stands (times k (index binary I64 points)) started.new list left) (indices-long cs) all in
    stands-follow (keyword (codes "CONNECTIVITY")) _ old tt list (typed_behind numbers) left key
    (stands-follow index_type _ key.new I64 list (10 ∷ numbers) left typed
    (stands-follow (section_start binary) (λ started. times (index_count cs) (index binary I64 points)) typed.new tt list (start_of binary numbers) left started many))

-- ---- a section

size_parts : (cs : List (List ℕ)) → size_of cs ≡ length cs + index_count cs
size_parts [] = refl
size_parts (c ∷ cs) = let more = size_cons c cs in let rest = size_parts cs in omega (arith, more, rest)

count_most : (cs : List (List ℕ)) → HavePoints cs → length cs ≤ index_count cs
count_most [] h = omega arith
count_most (c ∷ cs) h =
    let one = All-head (λ d. 1 ≤ length d) c cs h in
    let rest = count_most cs (All-tail (λ d. 1 ≤ length d) c cs h) in
    omega (arith, one, rest)

-- the offsets are no more than may be counted
count_few : (cs : List (List ℕ)) → size_of cs < 2 ^ 31 → HavePoints cs → length cs + 1 < 2 ^ 31
count_few [] small h = omega arith
count_few (c ∷ cs) small h =
    let most = count_most (c ∷ cs) h in
    let size = size_parts (c ∷ cs) in
    let one = All-head (λ d. 1 ≤ length d) c cs h in
    omega (arith, most, size, small, one)

pub stands-offset_section : (binary : Bool) (points : ℕ) (cs : List (List ℕ)) (old : Reading) (tail : List ℕ) → points < 2 ^ 31 → size_of cs < 2 ^ 31 → HaveIndices points cs → HavePoints cs → rest_of old ≡ 32 ∷ offset_behind binary cs tail
    → Stands (offset_section binary points) old cs (indices_gap binary cs ++ tail)
stands-offset_section binary points cs old tail few small below some e =
    let most = length cs + 1 in
    let indices = index_count cs in
    let left = indices_gap binary cs ++ tail in
    let blocks = 10 ∷ blocks_behind binary cs tail in
    let second = codes "CONNECTIVITY" ++ typed_behind (indices_block binary cs ++ tail) in
    let gap = offsets_gap binary cs in
    let size = size_parts cs in
    let small_count : indices < 2 ^ 31 = omega (arith, size, small) in
    let a = stands-count_from old most (32 ∷ (decimal indices ++ blocks)) (count_few cs small some) refl e in
    let b = stands-size a.new most indices blocks small_count (λ z. absurd (omega (arith, z))) refl a.rest in
    let c = stands-offsets binary cs b.new second small_count b.rest in
    let d = stands-connectivity binary points cs c.new gap tail (gap-blank binary _) few below some c.rest in
    let last = subst (λ (x : List (List ℕ)). Stands (gives (runs_between (offsets_of cs) (all_indices cs))) d.new x left) (runs-again cs) (stands-gives (runs_between (offsets_of cs) (all_indices cs)) d.new left d.rest) in
    let cut : Stands (cut_cells binary points most indices) b.new cs left =
    stands-follow (offsets binary most indices) _ b.new (offsets_of cs) cs (gap ++ second) left c
    (stands-follow (connectivity binary points indices) (λ list. gives (runs_between (offsets_of cs) list)) c.new (all_indices cs) cs left left d last) in
    let some_offset : (most == 0) ≡ false = ne_eqb most 0 (λ z. omega (arith, z)) in
    let stand : has_cuts most b.new ≡ true = rw some_offset refl in
    stands-follow (count_from 0) _ old most cs (32 ∷ (decimal indices ++ blocks)) left a
    (stands-follow (section_size most) _ a.new indices cs blocks left b
    (stands-beside (has_cuts most) (cut_cells binary points most indices) (gives []) b.new cs left stand cut))
