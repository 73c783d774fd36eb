-- Bytes have just the lines that the reader finds.
use Rattle.std.proofs.Common.{◌≡◌, ◌≢◌, inl, inr, ℕ, ◌<◌, Bool, true, false, cond, not, ◌&&◌, true≢false, List, [], ◌∷◌, ◌++◌, length, refl, sym, ap, ◌∙◌, subst, eqb-true, eq-eqb, slice_index_or, arith}
use Rattle.std.specs.Prelude.{◌==◌}
use Rattle.std.specs.List.{list_all}
use Rattle.std.proofs.lemmas.Bool.{ne_eqb}
use Rattle.std.proofs.lemmas.List.Sums.{AllPass-from_list_all, list_all-from_AllPass}
use Rattle.viz_words.specs.Lines.{begins_newline, in_front, lines_of}
use Rattle.viz_journal.proofs.SolidLemmas.{and-parts}
use Rattle.viz_lex.specs.Words.{HasNoNewline}
use Rattle.viz_script_law.specs.Spelling.{without_return, AreLines}

-- no byte is a newline, as a test
abbrev NoNewline : List ℕ → Type 0
NoNewline text = list_all (λ b. not (b == 10)) text ≡ true

none-test : (text : List ℕ) → HasNoNewline text → NoNewline text
none-test text h = list_all-from_AllPass (λ b. not (b == 10)) text (λ k d i. ap not (ne_eqb (slice_index_or text k d) 10 (h.each k d i)))

differs : (b : ℕ) → not (b == 10) ≡ true → b ≢ 10
differs b h e = true≢false (sym h ∙ ap not (eq-eqb b 10 e))

none-each : (text : List ℕ) → NoNewline text → HasNoNewline text
none-each text h = record { each = λ k d i. differs (slice_index_or text k d) (AllPass-from_list_all (λ b. not (b == 10)) text h k d i) }

not-true : (t : Bool) → not t ≡ true → t ≡ false
not-true true h = absurd (true≢false (sym h))
not-true false h = refl

-- a byte that isn't a newline in front of more
pass : (b : ℕ) (t : List ℕ) → (b == 10) ≡ false → lines_of (b ∷ t) ≡ cond (b == 13 && begins_newline t) (lines_of t) (in_front b (lines_of t))
pass b t e = ap (λ x. cond x ([] ∷ lines_of t) (cond (b == 13 && begins_newline t) (lines_of t) (in_front b (lines_of t)))) e

-- it isn't one that is dropped
keep : (b : ℕ) (t : List ℕ) → (b == 10) ≡ false → (b == 13 && begins_newline t) ≡ false → lines_of (b ∷ t) ≡ in_front b (lines_of t)
keep b t e f = pass b t e ∙ ap (λ x. cond x (lines_of t) (in_front b (lines_of t))) f

and-false : (t : Bool) → (t && false) ≡ false
and-false true = refl
and-false false = refl

-- ---- the lines are found

-- a line with its newline
ended-front : (raw rest : List ℕ) → NoNewline raw → lines_of (raw ++ 10 ∷ rest) ≡ without_return raw ∷ lines_of rest
ended-front [] rest h = refl
ended-front (b ∷ []) rest h = pass b (10 ∷ rest) (not-true (b == 10) (and-parts (not (b == 10)) true h).0) ∙ by (b == 13)
  where
    by : (t : Bool) → cond (t && true) ([] ∷ lines_of rest) ((b ∷ []) ∷ lines_of rest) ≡ cond t [] (b ∷ []) ∷ lines_of rest
    by true = refl
    by false = refl
ended-front (b ∷ c ∷ cs) rest h =
    let parts = and-parts (not (b == 10)) (list_all (λ x. not (x == 10)) (c ∷ cs)) h in
    let next = not-true (c == 10) (and-parts (not (c == 10)) (list_all (λ x. not (x == 10)) cs) parts.1).0 in
    keep b ((c ∷ cs) ++ 10 ∷ rest) (not-true (b == 10) parts.0) (ap (λ x. b == 13 && x) next ∙ and-false (b == 13))
    ∙ ap (in_front b) (ended-front (c ∷ cs) rest parts.1)

-- a line without one
last-front : (b : ℕ) (bs : List ℕ) → NoNewline (b ∷ bs) → lines_of (b ∷ bs) ≡ (b ∷ bs) ∷ []
last-front b [] h = keep b [] (not-true (b == 10) (and-parts (not (b == 10)) true h).0) (and-false (b == 13))
last-front b (c ∷ cs) h =
    let parts = and-parts (not (b == 10)) (list_all (λ x. not (x == 10)) (c ∷ cs)) h in
    let next = not-true (c == 10) (and-parts (not (c == 10)) (list_all (λ x. not (x == 10)) cs) parts.1).0 in
    keep b (c ∷ cs) (not-true (b == 10) parts.0) (ap (λ x. b == 13 && x) next ∙ and-false (b == 13)) ∙ ap (in_front b) (last-front c cs parts.1)

last-found : (text : List ℕ) → 0 < length text → NoNewline text → lines_of text ≡ text ∷ []
last-found [] some h = absurd (omega (arith, some))
last-found (b ∷ bs) some h = last-front b bs h

pub lines-found : (texts : List (List ℕ)) (bytes : List ℕ) → AreLines texts bytes → lines_of bytes ≡ texts
lines-found [] bytes h = ap lines_of h
lines-found (text ∷ texts) bytes (inl e) =
    ap lines_of e.next.parts ∙ ended-front e.raw e.rest (none-test e.raw e.next.one) ∙ ap (λ l. l ∷ lines_of e.rest) (sym e.dropped) ∙ ap (λ l. text ∷ l) (lines-found texts e.rest e.later)
lines-found (text ∷ texts) bytes (inr l) = ap lines_of l.are ∙ last-found text l.some (none-test text l.one) ∙ ap (λ ts. text ∷ ts) (sym l.last)

-- ---- the lines that are found are there

-- a byte more in the first line, where it isn't dropped
longer : (b : ℕ) (bs : List ℕ) (texts : List (List ℕ)) → (b == 10) ≡ false → (b == 13 && begins_newline bs) ≡ false → AreLines texts bs
    → AreLines (in_front b texts) (b ∷ bs)
longer b bs [] e f h =
    inr (record { are = ap (λ l. b ∷ l) h; some = omega arith; one = none-each (b ∷ []) (ap (λ x. not x && true) e); last = refl })
longer b bs (text ∷ texts) e f (inr l) = inr (record {
  are = ap (λ t. b ∷ t) l.are;
  some = omega arith;
  one = none-each (b ∷ text) (ap (λ x. not x && list_all (λ y. not (y == 10)) text) e ∙ none-test text l.one);
  last = l.last;
})
longer b bs (text ∷ texts) e f (inl l) = inl (record {
  raw = b ∷ l.raw;
  rest = l.rest;
  next = record {
    parts = ap (λ t. b ∷ t) l.next.parts;
    one = none-each (b ∷ l.raw) (ap (λ x. not x && list_all (λ y. not (y == 10)) l.raw) e ∙ none-test l.raw l.next.one);
  };
  dropped = ap (λ t. b ∷ t) l.dropped ∙ sym (kept l.raw l.next.parts);
  later = l.later;
})
  where
    kept : (raw : List ℕ) → bs ≡ raw ++ 10 ∷ l.rest → without_return (b ∷ raw) ≡ b ∷ without_return raw
    kept (c ∷ cs) are = refl
    kept [] are = other (b == 13) refl
      where
        other : (t : Bool) → (b == 13) ≡ t → cond t [] (b ∷ []) ≡ b ∷ []
        other false g = refl
        other true g =
            let dropped : (b == 13 && begins_newline bs) ≡ true = ap (λ x. x && begins_newline bs) g ∙ ap begins_newline are in
            absurd (true≢false (sym dropped ∙ f))

-- a newline in front
newline : (b : ℕ) (bs : List ℕ) → (b == 10) ≡ true → AreLines (lines_of bs) bs → AreLines (lines_of (b ∷ bs)) (b ∷ bs)
newline b bs e h =
    let same : b ≡ 10 = eqb-true b 10 e in
    let made : AreLines ([] ∷ lines_of bs) (10 ∷ bs) = inl (record { raw = []; rest = bs; next = record { parts = refl; one = none-each [] refl }; dropped = refl; later = h }) in
    subst (λ c. AreLines (lines_of (c ∷ bs)) (c ∷ bs)) (sym same) made

-- a carriage return and a newline in front
return : (b c : ℕ) (cs : List ℕ) → (b == 13) ≡ true → (c == 10) ≡ true → AreLines (lines_of cs) cs → AreLines (lines_of (b ∷ c ∷ cs)) (b ∷ c ∷ cs)
return b c cs e f h =
    let first : b ≡ 13 = eqb-true b 13 e in
    let second : c ≡ 10 = eqb-true c 10 f in
    let made : AreLines ([] ∷ lines_of cs) (13 ∷ 10 ∷ cs) = inl (record { raw = 13 ∷ []; rest = cs; next = record { parts = refl; one = none-each (13 ∷ []) refl }; dropped = refl; later = h }) in
    subst (λ x. AreLines (lines_of (x ∷ c ∷ cs)) (x ∷ c ∷ cs)) (sym first) (subst (λ x. AreLines (lines_of (13 ∷ x ∷ cs)) (13 ∷ x ∷ cs)) (sym second) made)

-- another byte in front
other : (b : ℕ) (bs : List ℕ) → (b == 10) ≡ false → (b == 13 && begins_newline bs) ≡ false → AreLines (lines_of bs) bs → AreLines (lines_of (b ∷ bs)) (b ∷ bs)
other b bs e f h = subst (λ ts. AreLines ts (b ∷ bs)) (sym (keep b bs e f)) (longer b bs (lines_of bs) e f h)

pub lines-there : (bytes : List ℕ) → AreLines (lines_of bytes) bytes
lines-there [] = refl
lines-there (b ∷ []) = by (b == 10) refl
  where
    by : (t : Bool) → (b == 10) ≡ t → AreLines (lines_of (b ∷ [])) (b ∷ [])
    by true e = newline b [] e refl
    by false e = other b [] e (and-false (b == 13)) refl
lines-there (b ∷ c ∷ cs) = by (b == 10) refl (b == 13) refl (c == 10) refl (lines-there (c ∷ cs)) (lines-there cs)
  where
    by : (t : Bool) → (b == 10) ≡ t → (u : Bool) → (b == 13) ≡ u → (v : Bool) → (c == 10) ≡ v → AreLines (lines_of (c ∷ cs)) (c ∷ cs) → AreLines (lines_of cs) cs
        → AreLines (lines_of (b ∷ c ∷ cs)) (b ∷ c ∷ cs)
    by true e u f v g next later = newline b (c ∷ cs) e next
    by false e true f true g next later = return b c cs f g later
    by false e true f false g next later = other b (c ∷ cs) e (ap (λ x. b == 13 && x) g ∙ and-false (b == 13)) next
    by false e false f v g next later = other b (c ∷ cs) e (ap (λ x. x && c == 10) f) next
