-- What an lru cache does to pairs of keys and parts, said of the items that they are.
use Rattle.std.proofs.Common.{◌≡◌, ℕ, zero, suc, ◌-◌, Bool, true, false, List, [], ◌∷◌, cond, map, length, take, refl, sym, ap, ◌∙◌, subst}
use Rattle.std.specs.Prelude.{Option, None, Some, ◌||◌, is_some, option_map, slice_get}
use Rattle.std.specs.List.{IsDistinct}
use Rattle.std.specs.Option.{option_map_or}
use Rattle.std.specs.Map.{keys_of, lookup, lookup_entry, remove_entry, set_value}
use Rattle.std.proofs.lemmas.List.{length-map}
use Rattle.lru.specs.LruCache.{LruCache, last_entry, promoted, put_entries}
use Rattle.lru.proofs.CallerLemmas.{Contains-lookup_entry}
use Rattle.viz_parts.specs.declared.request.Part.{Part}
use Rattle.viz_parts.specs.declared.stored.Key.{Key}
use Rattle.viz_parts.specs.declared.stored.Stored.{Stored}
use Rattle.viz_cache.specs.Keys.{same_key}
use Rattle.viz_cache.specs.Cache.{has_key, entry_of, without, brought_first, with_item, last_key, replaced}
use Rattle.viz_cache.specs.Steps.Pairs.{stored_of, items_of}
use Rattle.viz_cache.proofs.KeyLemmas.{key-same}

-- the entry of a key
abbrev found : Key → List (Key × Option Part) → Option (Key × Option Part)
found key es = lookup_entry (same_key key) es

module _ (empty : Part) where
  entry_of-items : (key : Key) (es : List (Key × Option Part)) → entry_of key (items_of empty es) ≡ option_map (stored_of empty) (found key es)
  entry_of-items key [] = refl
  entry_of-items key (e ∷ es) = by (same_key key e.0) (entry_of-items key es)
    where
      by : (b : Bool) → entry_of key (items_of empty es) ≡ option_map (stored_of empty) (found key es)
          → cond b (Some (stored_of empty e)) (entry_of key (items_of empty es)) ≡ option_map (stored_of empty) (cond b (Some e) (found key es))
      by true h = refl
      by false h = h

  without-items : (key : Key) (es : List (Key × Option Part)) → without key (items_of empty es) ≡ items_of empty (remove_entry (same_key key) es)
  without-items key [] = refl
  without-items key (e ∷ es) = by (same_key key e.0) (without-items key es)
    where
      by : (b : Bool) → without key (items_of empty es) ≡ items_of empty (remove_entry (same_key key) es)
          → cond b (items_of empty es) (stored_of empty e ∷ without key (items_of empty es)) ≡ items_of empty (cond b es (e ∷ remove_entry (same_key key) es))
      by true h = refl
      by false h = ap (λ l. stored_of empty e ∷ l) h

  take-items : (n : ℕ) (es : List (Key × Option Part)) → take n (items_of empty es) ≡ items_of empty (take n es)
  take-items zero es = refl
  take-items (suc n) [] = refl
  take-items (suc n) (e ∷ es) = ap (λ l. stored_of empty e ∷ l) (take-items n es)

  -- the items of the pairs, the pair of a key first
  pub brought_first-items : (key : Key) (es : List (Key × Option Part)) → brought_first key (items_of empty es) ≡ items_of empty (promoted (same_key key) es)
  brought_first-items key es =
      ap (λ o. option_map_or (λ e. e ∷ without key (items_of empty es)) o (items_of empty es)) (entry_of-items key es) ∙ by (found key es)
    where
      by : (o : Option (Key × Option Part)) → option_map_or (λ e. e ∷ without key (items_of empty es)) (option_map (stored_of empty) o) (items_of empty es)
          ≡ items_of empty (option_map_or (λ e. e ∷ remove_entry (same_key key) es) o es)
      by None = refl
      by (Some e) = ap (λ l. stored_of empty e ∷ l) (without-items key es)

  -- a key of a pair is a key of the items
  pub has_key-items : (key : Key) (es : List (Key × Option Part)) → has_key key (items_of empty es) ≡ is_some (lookup (same_key key) es)
  has_key-items key [] = refl
  has_key-items key (e ∷ es) = by (same_key key e.0) (has_key-items key es)
    where
      by : (b : Bool) → has_key key (items_of empty es) ≡ is_some (lookup (same_key key) es)
          → (b || has_key key (items_of empty es)) ≡ is_some (cond b (Some e.1) (lookup (same_key key) es))
      by true h = refl
      by false h = h

  has_key-entry : (key : Key) (es : List (Key × Option Part)) → has_key key (items_of empty es) ≡ is_some (found key es)
  has_key-entry key [] = refl
  has_key-entry key (e ∷ es) = by (same_key key e.0) (has_key-entry key es)
    where
      by : (b : Bool) → has_key key (items_of empty es) ≡ is_some (found key es) → (b || has_key key (items_of empty es)) ≡ is_some (cond b (Some e) (found key es))
      by true h = refl
      by false h = h

  -- the items of the pairs, with an item put in
  pub with_item-items : (held : LruCache Key (Option Part)) (item : Stored) → with_item held.cap item (items_of empty held.entries) ≡ items_of empty (put_entries same_key held item.key (Some item.part))
  with_item-items held item = by (found item.key held.entries) refl
    where
      rest : Bool → List Stored
      rest b = cond b (without item.key (items_of empty held.entries)) (take (held.cap - 1) (items_of empty held.entries))

      here : (o : Option (Key × Option Part)) → found item.key held.entries ≡ o → with_item held.cap item (items_of empty held.entries) ≡ item ∷ rest (is_some o)
      here o h = ap (λ b. item ∷ rest b) (has_key-entry item.key held.entries ∙ ap is_some h)

      by : (o : Option (Key × Option Part)) → found item.key held.entries ≡ o → with_item held.cap item (items_of empty held.entries)
          ≡ items_of empty (option_map_or (λ e. (e.0, Some item.part) ∷ remove_entry (same_key item.key) held.entries) o ((item.key, Some item.part) ∷ take (held.cap - 1) held.entries))
      by None h = here None h ∙ ap (λ l. item ∷ l) (take-items (held.cap - 1) held.entries)
      by (Some e) h =
          let same : item.key ≡ e.0 = key-same item.key e.0 (Contains-lookup_entry (same_key item.key) held.entries e h).1 in
          here (Some e) h ∙ (ap (λ l. item ∷ l) (without-items item.key held.entries)
          ∙ ap (λ k. stored_of empty (k, Some item.part) ∷ items_of empty (remove_entry (same_key item.key) held.entries)) same)

  -- the keys of the items of pairs
  pub keys-items : (es : List (Key × Option Part)) → map (λ e. e.key) (items_of empty es) ≡ keys_of es
  keys-items [] = refl
  keys-items (e ∷ es) = ap (λ l. e.0 ∷ l) (keys-items es)

  pub length-items : (es : List (Key × Option Part)) → length (items_of empty es) ≡ length es
  length-items es = length-map es (stored_of empty)

  -- the items of the pairs, with the part of a key given up
  pub replaced-items : (key : Key) (es : List (Key × Option Part)) → replaced key empty (items_of empty es) ≡ items_of empty (set_value (same_key key) es None)
  replaced-items key [] = refl
  replaced-items key (e ∷ es) = by (same_key key e.0) (replaced-items key es)
    where
      by : (b : Bool) → replaced key empty (items_of empty es) ≡ items_of empty (set_value (same_key key) es None)
          → cond b (stored_of empty (e.0, None) ∷ items_of empty es) (stored_of empty e ∷ replaced key empty (items_of empty es))
          ≡ items_of empty (cond b ((e.0, None) ∷ es) (e ∷ set_value (same_key key) es None))
      by true h = refl
      by false h = ap (λ l. stored_of empty e ∷ l) h

-- tests that agree bring the same pair first
pub promoted-same : (test other : Key → Bool) → ((k : Key) → test k ≡ other k) → (es : List (Key × Option Part)) → promoted test es ≡ promoted other es
promoted-same test other same es = ap (λ t. promoted t es) (λ j k. same k j)

-- and put the same pair in
pub put_entries-same : (eq other : Key → Key → Bool) → ((a b : Key) → eq a b ≡ other a b) → (held : LruCache Key (Option Part)) (key : Key) (old new : Option Part) → old ≡ new
    → put_entries eq held key old ≡ put_entries other held key new
put_entries-same eq other same held key old new part = λ j. put_entries (λ a b. same a b j) held key (part j)

-- keys that differ by one test differ by the other
pub distinct-same : (eq other : Key → Key → Bool) → ((a b : Key) → eq a b ≡ other a b) → (ks : List Key) → IsDistinct eq ks → IsDistinct other ks
distinct-same eq other same ks = subst (λ e. IsDistinct e ks) (λ j a b. same a b j)

-- where no pair has a key, none is set
pub set_value-none : (test : Key → Bool) (es : List (Key × Option Part)) (w : Option Part) → lookup test es ≡ None → set_value test es w ≡ es
set_value-none test [] w h = refl
set_value-none test (e ∷ es) w h = by (test e.0) h (set_value-none test es w)
  where
    by : (b : Bool) → cond b (Some e.1) (lookup test es) ≡ None → (lookup test es ≡ None → set_value test es w ≡ es)
        → cond b ((e.0, w) ∷ es) (e ∷ set_value test es w) ≡ e ∷ es
    by true h rest = let bad : ⊥ = cc in absurd bad
    by false h rest = ap (λ l. e ∷ l) (rest h)

-- tests that agree find the same value, and set the same one
pub lookup-same : (test other : Key → Bool) → ((k : Key) → test k ≡ other k) → (es : List (Key × Option Part)) → lookup test es ≡ lookup other es
lookup-same test other same es = ap (λ t. lookup t es) (λ j k. same k j)

pub set_value-same : (test other : Key → Bool) → ((k : Key) → test k ≡ other k) → (es : List (Key × Option Part)) (w : Option Part) → set_value test es w ≡ set_value other es w
set_value-same test other same es w = ap (λ t. set_value t es w) (λ j k. same k j)

-- the keys of the items of pairs whose keys differ by a test that agrees differ
pub distinct_items : (empty : Part) (eq : Key → Key → Bool) → ((a b : Key) → eq a b ≡ same_key a b) → (es : List (Key × Option Part)) → IsDistinct eq (keys_of es)
    → IsDistinct same_key (map (λ e. e.key) (items_of empty es))
distinct_items empty eq same es d = subst (λ ks. IsDistinct same_key ks) (sym (keys-items empty es)) (distinct-same eq same_key same _ d)

-- the key of the last item is that of the last pair
pub last-items : (empty : Part) (es : List (Key × Option Part)) → last_key (items_of empty es) ≡ option_map (λ e. e.0) (last_entry es)
last-items empty es = ap (λ n. option_map (λ (e : Stored). e.key) (slice_get (items_of empty es) (n - 1))) (length-items empty es) ∙ by es (length es - 1)
  where
    by : (l : List (Key × Option Part)) (k : ℕ) → option_map (λ (e : Stored). e.key) (slice_get (items_of empty l) k) ≡ option_map (λ (e : Key × Option Part). e.0) (slice_get l k)
    by [] k = refl
    by (e ∷ l) zero = refl
    by (e ∷ l) (suc k) = by l k
