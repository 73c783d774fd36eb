-- Made parts are taken in, one after the other.
use Rattle.std.proofs.Common.{◌≡◌, ℕ, ◌+◌, ◌-◌, Bool, true, false, not, cond, if◌then◌else◌, Option, None, Some, List, [], ◌∷◌, ◌++◌, length, count_by, take, append-nil, refl, sym, ap, subst, ◌∙◌, arith}
use Rattle.std.specs.List.{All, filter}
use Rattle.std.specs.Option.{IfSome, option_map_or}
use Rattle.std.proofs.lemmas.List.{length_push}
use Rattle.std.proofs.lemmas.List.Elements.{All-cons, All-head, All-tail, All-take, filter-append}
use Rattle.std.proofs.lemmas.List.Sums.{sum_by_push}
use Rattle.viz_parts.specs.declared.stored.Key.{Key}
use Rattle.viz_parts.specs.declared.stored.Stored.{Stored}
use Rattle.viz_cache.specs.Keys.{same_key}
use Rattle.viz_cache.specs.Cache.{brought_first, entry_of, has_key, with_item, without}
use Rattle.viz_network.specs.Network.{Network}
use Rattle.viz_history.specs.declared.publishing.Kept.{Kept}
use Rattle.viz_history.specs.Publishing.{all_brought, current, is_stale, with_all, with_room, TakesIn}

-- ---- lists with one item more

current_more : (net : Network) (made : List Stored) (item : Stored) (b : Bool) → is_stale net item ≡ b → current net (made ++ item ∷ []) ≡ current net made ++ (if b then [] else item ∷ [])
current_more net made item b e = filter-append (λ i. not (is_stale net i)) made (item ∷ []) ∙ ap (λ t. current net made ++ (if not t then item ∷ [] else [])) e ∙ ap (λ l. current net made ++ l) (turned b)
  where
    turned : (t : Bool) → (if not t then item ∷ [] else []) ≡ (if t then [] else item ∷ [])
    turned true = refl
    turned false = refl

room_more : (rooms : List Bool) (items : List Stored) (room : Bool) (item : Stored) → length rooms ≡ length items
    → with_room (rooms ++ room ∷ []) (items ++ item ∷ []) ≡ with_room rooms items ++ (if room then item ∷ [] else [])
room_more [] [] true item e = refl
room_more [] [] false item e = refl
room_more [] (i ∷ items) room item e = absurd (omega (arith, e))
room_more (r ∷ rooms) [] room item e = absurd (omega (arith, e))
room_more (true ∷ rooms) (i ∷ items) room item e = ap (λ l. i ∷ l) (room_more rooms items room item (omega (arith, e)))
room_more (false ∷ rooms) (i ∷ items) room item e = room_more rooms items room item (omega (arith, e))

all_more : (capacity : ℕ) (items more entries : List Stored) → with_all capacity (items ++ more) entries ≡ with_all capacity more (with_all capacity items entries)
all_more capacity [] more entries = refl
all_more capacity (i ∷ items) more entries = all_more capacity items more (with_item capacity i entries)

counted : {X : Type 0} (p : X → Bool) (xs : List X) (x : X) (b : Bool) → p x ≡ b → count_by p (xs ++ x ∷ []) ≡ count_by p xs + (if b then 1 else 0)
counted p xs x b e = sum_by_push (λ y. cond (p y) 1 0) xs x ∙ ap (λ t. count_by p xs + cond t 1 0) e

-- ---- one part more

pub none_taken : (net : Network) (capacity : ℕ) (entries : List Stored) → TakesIn net capacity [] entries (record { kept = 0; stale = 0; unkept = 0 }) entries
none_taken net capacity entries = record { rooms = []; matched = refl; entries = refl; kept = refl; unkept = refl; stale = refl }

module _ (net : Network) (capacity : ℕ) (made old new : List Stored) (count : Kept) (item : Stored) (t : TakesIn net capacity made old count new) where
  pub stale_more : is_stale net item ≡ true
      → TakesIn net capacity (made ++ item ∷ []) old (record { kept = count.kept; stale = count.stale + 1; unkept = count.unkept }) new
  stale_more is =
      let same : current net made ≡ current net (made ++ item ∷ []) = sym (current_more net made item true is ∙ append-nil (current net made)) in
      record {
        rooms = t.rooms;
        matched = t.matched ∙ ap length same;
        entries = t.entries ∙ ap (λ l. with_all capacity (with_room t.rooms l) old) same;
        kept = t.kept;
        unkept = t.unkept;
        stale = ap (λ n. n + 1) t.stale ∙ sym (counted (is_stale net) made item true is);
      }

  pub taken_more : (room : Bool) (kept unkept : ℕ) (after : List Stored) → is_stale net item ≡ false
      → kept ≡ count.kept + (if room then 1 else 0) → unkept ≡ count.unkept + (if not room then 1 else 0)
      → after ≡ with_all capacity (if room then item ∷ [] else []) new
      → TakesIn net capacity (made ++ item ∷ []) old (record { kept = kept; stale = count.stale; unkept = unkept }) after
  taken_more room kept unkept after is one none last =
      let fresh = current net made in
      let same : fresh ++ item ∷ [] ≡ current net (made ++ item ∷ []) = sym (current_more net made item false is) in
      let put : with_all capacity (if room then item ∷ [] else []) new ≡ with_all capacity (with_room (t.rooms ++ room ∷ []) (fresh ++ item ∷ [])) old =
      ap (with_all capacity (if room then item ∷ [] else [])) t.entries
      ∙ sym (all_more capacity (with_room t.rooms fresh) (if room then item ∷ [] else []) old)
      ∙ ap (λ l. with_all capacity l old) (sym (room_more t.rooms fresh room item t.matched)) in
      record {
        rooms = t.rooms ++ room ∷ [];
        matched = length_push t.rooms room ∙ ap (λ n. n + 1) t.matched ∙ sym (length_push fresh item) ∙ ap length same;
        entries = last ∙ put ∙ ap (λ l. with_all capacity (with_room (t.rooms ++ room ∷ []) l) old) same;
        kept = one ∙ ap (λ n. n + (if room then 1 else 0)) t.kept ∙ sym (counted (λ r. r) t.rooms room room refl);
        unkept = none ∙ ap (λ n. n + (if not room then 1 else 0)) t.unkept ∙ sym (counted not t.rooms room (not room) refl);
        stale = t.stale ∙ sym (let e : count_by (is_stale net) (made ++ item ∷ []) ≡ count_by (is_stale net) made + 0 = counted (is_stale net) made item false is in e ∙ (let z : count_by (is_stale net) made + 0 ≡ count_by (is_stale net) made = omega arith in z));
      }

-- ---- what holds of each entry and of each item holds of each entry then

module _ (P : Stored → Type 0) where
  found_holds : (key : Key) (entries : List Stored) → All P entries → IfSome (entry_of key entries) P
  found_holds key [] h = tt
  found_holds key (e ∷ es) h = by (same_key key e.key) (All-head P e es h) (found_holds key es (All-tail P e es h))
    where
      by : (b : Bool) → P e → IfSome (entry_of key es) P → IfSome (cond b (Some e) (entry_of key es)) P
      by true p q = p
      by false p q = q

  without_holds : (key : Key) (entries : List Stored) → All P entries → All P (without key entries)
  without_holds key [] h = h
  without_holds key (e ∷ es) h = by (same_key key e.key) (All-head P e es h) (All-tail P e es h) (without_holds key es (All-tail P e es h))
    where
      by : (b : Bool) → P e → All P es → All P (without key es) → All P (cond b es (e ∷ without key es))
      by true p rest q = rest
      by false p rest q = All-cons P e (without key es) p q

  brought_holds : (key : Key) (entries : List Stored) → All P entries → All P (brought_first key entries)
  brought_holds key entries h = by (entry_of key entries) (found_holds key entries h) (without_holds key entries h)
    where
      by : (o : Option Stored) → IfSome o P → All P (without key entries) → All P (option_map_or (λ e. e ∷ without key entries) o entries)
      by None p q = h
      by (Some e) p q = All-cons P e (without key entries) p q

  pub all_brought_hold : (keys : List Key) (entries : List Stored) → All P entries → All P (all_brought keys entries)
  all_brought_hold [] entries h = h
  all_brought_hold (key ∷ keys) entries h = all_brought_hold keys (brought_first key entries) (brought_holds key entries h)

  item_holds : (capacity : ℕ) (item : Stored) (entries : List Stored) → P item → All P entries → All P (with_item capacity item entries)
  item_holds capacity item entries p h = by (has_key item.key entries) (without_holds item.key entries h) (All-take P (capacity - 1) entries h)
    where
      rest : Bool → List Stored
      rest b = if b then without item.key entries else take (capacity - 1) entries

      by : (b : Bool) → All P (without item.key entries) → All P (take (capacity - 1) entries) → All P (item ∷ rest b)
      by true q r = All-cons P item _ p q
      by false q r = All-cons P item _ p r

  all_hold : (capacity : ℕ) (items entries : List Stored) → All P items → All P entries → All P (with_all capacity items entries)
  all_hold capacity [] entries p h = h
  all_hold capacity (i ∷ items) entries p h = all_hold capacity items (with_item capacity i entries) (All-tail P i items p) (item_holds capacity i entries (All-head P i items p) h)

  room_holds : (rooms : List Bool) (items : List Stored) → All P items → All P (with_room rooms items)
  room_holds [] items h = λ k d below. absurd (omega (arith, below))
  room_holds (r ∷ rooms) [] h = h
  room_holds (true ∷ rooms) (i ∷ items) h = All-cons P i (with_room rooms items) (All-head P i items h) (room_holds rooms items (All-tail P i items h))
  room_holds (false ∷ rooms) (i ∷ items) h = room_holds rooms items (All-tail P i items h)

  filter_holds : (p : Stored → Bool) (items : List Stored) → All P items → All P (filter p items)
  filter_holds p [] h = h
  filter_holds p (i ∷ items) h = by (p i) (All-head P i items h) (filter_holds p items (All-tail P i items h))
    where
      by : (b : Bool) → P i → All P (filter p items) → All P (cond b (i ∷ filter p items) (filter p items))
      by true q r = All-cons P i (filter p items) q r
      by false q r = r

  pub taken_hold : (net : Network) (capacity : ℕ) (made old : List Stored) (count : Kept) (new : List Stored) → TakesIn net capacity made old count new
      → All P made → All P old → All P new
  taken_hold net capacity made old count new t m o =
      subst (All P) (sym t.entries) (all_hold capacity (with_room t.rooms (current net made)) old (room_holds t.rooms (current net made) (filter_holds (λ i. not (is_stale net i)) made m)) o)
