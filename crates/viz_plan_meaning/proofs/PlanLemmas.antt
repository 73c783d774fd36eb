-- The plan's tasks, in their order, find their inputs.
use Rattle.std.proofs.Common.{◌≡◌, ℕ, zero, suc, ◌+◌, Bool, true, false, ◌||◌, ◌&&◌, cond, nat_eq, ◌⊎◌, inl, inr, true≢false, List, [], ◌∷◌, ◌++◌, append_assoc, append-nil, length, map, Option, None, Some, Result, Ok, Err, refl, sym, ap, subst, ◌∙◌, arith}
use Rattle.std.proofs.lemmas.Bool.{eqb-true, eq-eqb}
use Rattle.viz_plan_meaning.specs.Plan.{Upstream, none, empty, fed, served, thin, met, needs, all_needs, plan, heads, AllOf}
use Rattle.viz_plan_meaning.specs.Evaluation.{first_serving, or_else, cut_to, got, gathered, after, evaluated, IsMet as IsMet_of, AllMet as AllMet_of, Ready as Ready_of, AllAsked as AllAsked_of, IsFed as IsFed_of, Gives as Gives_of, AllTrue as AllTrue_of, keys as keys_of, AllFed as AllFed_of, Produces as Produces_of, Leads as Leads_of, AllShown as AllShown_of}
use Rattle.viz_plan_meaning.specs.Steps.Visits.{IsOne}
use Rattle.viz_plan_meaning.specs.Steps.Ready.{Fits as Fits_of}

pub or-elim : (a b : Bool) → (a || b) ≡ true → (a ≡ true) ⊎ (b ≡ true)
or-elim true b e = inl refl
or-elim false b e = inr e

pub or-left : (a b : Bool) → a ≡ true → (a || b) ≡ true
or-left true b e = refl
or-left false b e = absurd (true≢false (sym e))

pub or-right : (a b : Bool) → b ≡ true → (a || b) ≡ true
or-right true b e = refl
or-right false b e = e

pub and-elim : (a b : Bool) → (a && b) ≡ true → (a ≡ true) × (b ≡ true)
and-elim true b e = (refl, e)
and-elim false b e = absurd (true≢false (sym e))

pub and-intro : (a b : Bool) → a ≡ true → b ≡ true → (a && b) ≡ true
and-intro true b e f = f
and-intro false b e f = absurd (true≢false (sym e))

module _ {R : Type 0} (serves : R → R → Bool) where
  pub served-left : (xs ys : List (ℕ × R)) (n : ℕ) (w : R) → served serves xs n w ≡ true → served serves (xs ++ ys) n w ≡ true
  served-left [] ys n w e = absurd (true≢false (sym e))
  served-left (x ∷ xs) ys n w e = elim (or-elim (nat_eq x.0 n && serves x.1 w) (served serves xs n w) e) [
    | inl a ↦ or-left _ _ a
    | inr b ↦ or-right _ _ (served-left xs ys n w b)
  ]

  pub served-right : (xs ys : List (ℕ × R)) (n : ℕ) (w : R) → served serves ys n w ≡ true → served serves (xs ++ ys) n w ≡ true
  served-right [] ys n w e = e
  served-right (x ∷ xs) ys n w e = or-right (nat_eq x.0 n && serves x.1 w) (served serves (xs ++ ys) n w) (served-right xs ys n w e)

  pub served-append : (xs ys : List (ℕ × R)) (n : ℕ) (w : R) → served serves (xs ++ ys) n w ≡ true → (served serves xs n w ≡ true) ⊎ (served serves ys n w ≡ true)
  served-append [] ys n w e = inr e
  served-append (x ∷ xs) ys n w e = elim (or-elim (nat_eq x.0 n && serves x.1 w) (served serves (xs ++ ys) n w) e) [
    | inl a ↦ inl (or-left _ _ a)
    | inr b ↦ elim (served-append xs ys n w b) [ inl c ↦ inl (or-right _ _ c) | inr c ↦ inr c ]
  ]

  module _ (again : (r : R) → serves r r ≡ true) (through : (a b c : R) → serves a b ≡ true → serves b c ≡ true → serves a c ≡ true) where
    pub served-self : (n : ℕ) (w : R) (more : List (ℕ × R)) → served serves ((n, w) ∷ more) n w ≡ true
    served-self n w more = or-left _ _ (and-intro _ _ (eq-eqb n n refl) (again w))

    pub served-through : (xs : List (ℕ × R)) (n : ℕ) (v w : R) → served serves xs n v ≡ true → serves v w ≡ true → served serves xs n w ≡ true
    served-through [] n v w e s = absurd (true≢false (sym e))
    served-through (x ∷ xs) n v w e s = elim (or-elim (nat_eq x.0 n && serves x.1 v) (served serves xs n v) e) [
      | inl a ↦ let p = and-elim _ _ a in or-left _ _ (and-intro _ _ p.0 (through x.1 v w p.1 s))
      | inr b ↦ or-right _ _ (served-through xs n v w b s)
    ]

    -- what a list serves is served by another
    abbrev pub Serves : List (ℕ × R) → List (ℕ × R) → Type 0
    Serves xs ys = (n : ℕ) (w : R) → served serves xs n w ≡ true → served serves ys n w ≡ true

    pub Serves-dropped : (front done : List (ℕ × R)) (x : ℕ × R) → Serves front done → served serves front x.0 x.1 ≡ true → Serves (front ++ x ∷ []) done
    Serves-dropped front done x h s n w e = elim (served-append front (x ∷ []) n w e) [
      | inl a ↦ h n w a
      | inr b ↦ elim (or-elim (nat_eq x.0 n && serves x.1 w) false b) [
        | inl c ↦ let p = and-elim _ _ c in
            served-through done n x.1 w (subst (λ m. served serves done m x.1 ≡ true) (eqb-true x.0 n p.0) (h x.0 x.1 s)) p.1
        | inr d ↦ absurd (true≢false (sym d))
      ]
    ]

    pub Serves-more : (front done more : List (ℕ × R)) → Serves front done → Serves (front ++ more) (done ++ more)
    Serves-more front done more h n w e = elim (served-append front more n w e) [
      | inl a ↦ served-left done more n w (h n w a)
      | inr b ↦ served-right done more n w b
    ]

    -- the thinned list serves what the whole list serves
    pub thin_serves : (front done xs : List (ℕ × R)) → Serves front done → Serves (front ++ xs) (done ++ thin serves front xs)
    thin_serves front done [] h = Serves-more front done [] h
    thin_serves front done (x ∷ xs) h = by (served serves front x.0 x.1) refl (λ d k. thin_serves (front ++ x ∷ []) d xs k)
      where
        split : (f : List (ℕ × R)) → f ++ x ∷ xs ≡ (f ++ x ∷ []) ++ xs
        split f = sym (append_assoc f (x ∷ []) xs)

        rest : List (ℕ × R)
        rest = thin serves (front ++ x ∷ []) xs

        by : (b : Bool) → served serves front x.0 x.1 ≡ b → ((d : List (ℕ × R)) → Serves (front ++ x ∷ []) d → Serves ((front ++ x ∷ []) ++ xs) (d ++ thin serves (front ++ x ∷ []) xs))
            → Serves (front ++ x ∷ xs) (done ++ cond b (thin serves (front ++ x ∷ []) xs) (x ∷ thin serves (front ++ x ∷ []) xs))
        by true e r = subst (λ l. Serves l (done ++ thin serves (front ++ x ∷ []) xs)) (append_assoc front (x ∷ []) xs) (r done (Serves-dropped front done x h e))
        by false e r =
            subst (λ l. Serves l (done ++ x ∷ thin serves (front ++ x ∷ []) xs)) (append_assoc front (x ∷ []) xs)
            (subst (λ l. Serves ((front ++ x ∷ []) ++ xs) l) (append_assoc done (x ∷ []) (thin serves (front ++ x ∷ []) xs))
            (r (done ++ x ∷ []) (Serves-more front done (x ∷ []) h)))

    module _ {P : Type 0} (kept : ℕ → R → Option (R × P)) (widen asks : ℕ → R → R) (inputs : ℕ → List (Option ℕ)) (Good : ℕ → Type 0) where
      abbrev Fits : List (Option ℕ) → Upstream → Type 0
      Fits is c = Fits_of inputs Good is c

      abbrev IsMet : List (ℕ × R) → ℕ → R → Type 0
      IsMet front n r = IsMet_of serves kept widen asks inputs Good front n r

      abbrev AllMet : List (ℕ × R) → R → List (Option ℕ) → Type 0
      AllMet front r is = AllMet_of serves kept widen asks inputs Good front r is

      abbrev Ready : List (ℕ × R) → List (ℕ × R) → Type 0
      Ready front xs = Ready_of serves kept widen asks inputs Good front xs

      pub AllMet-more : (front done : List (ℕ × R)) → Serves front done → (r : R) (is : List (Option ℕ)) → AllMet front r is → AllMet done r is
      AllMet-more front done h r [] m = tt
      AllMet-more front done h r (None ∷ is) m = AllMet-more front done h r is m
      AllMet-more front done h r (Some i ∷ is) m = (elim m.0 [ inl e ↦ inl e | inr s ↦ inr (h i (widen i r) s) ], AllMet-more front done h r is m.1)

      Ready-append : (front xs ys : List (ℕ × R)) → Ready front xs → Ready (front ++ xs) ys → Ready front (xs ++ ys)
      Ready-append front [] ys a b = subst (λ f. Ready f ys) (append-nil front) b
      Ready-append front (x ∷ xs) ys a b = (a.0, a.1, Ready-append (front ++ x ∷ []) xs ys a.2 (subst (λ f. Ready f ys) (sym (append_assoc front (x ∷ []) xs)) b))

      thin_ready : (front done xs : List (ℕ × R)) → Serves front done → Ready front xs → Ready done (thin serves front xs)
      thin_ready front done [] h a = tt
      thin_ready front done (x ∷ xs) h a = by (served serves front x.0 x.1) refl (λ d k. thin_ready (front ++ x ∷ []) d xs k a.2)
        where
          by : (b : Bool) → served serves front x.0 x.1 ≡ b → ((d : List (ℕ × R)) → Serves (front ++ x ∷ []) d → Ready d (thin serves (front ++ x ∷ []) xs))
              → Ready done (cond b (thin serves (front ++ x ∷ []) xs) (x ∷ thin serves (front ++ x ∷ []) xs))
          by true e r = r done (Serves-dropped front done x h e)
          by false e r = (a.0, AllMet-more front done h (asks x.0 x.1) (inputs x.0) a.1, r (done ++ x ∷ []) (Serves-more front done (x ∷ []) h))

      abbrev all : Upstream → R → List (ℕ × R)
      all c r = needs kept widen asks c r

      IsMet-left : (front more : List (ℕ × R)) (n : ℕ) (r : R) → IsMet front n r → IsMet (front ++ more) n r
      IsMet-left front more n r (inl e) = inl e
      IsMet-left front more n r (inr s) = inr (served-left front more n (widen n r) s)

      -- the needs of a request are ready, and then the ports are met
      needs_ready : (front : List (ℕ × R)) (is : List (Option ℕ)) (c : Upstream) (r : R) → Fits is c → Ready front (all c r) × AllMet (front ++ all c r) r is
      needs_ready front [] none r f = (tt, tt)
      needs_ready front (None ∷ is) (empty c) r f = needs_ready front is c r f
      needs_ready front (Some i ∷ is) (fed n own c) r f =
          by (kept n (widen n r)) refl (needs_ready front (inputs n) own (asks n (widen n r)) f.2) (λ g. needs_ready g is c r f.3)
        where
          by : (o : Option (R × P)) → kept n (widen n r) ≡ o
              → Ready front (all own (asks n (widen n r))) × AllMet (front ++ all own (asks n (widen n r))) (asks n (widen n r)) (inputs n)
              → ((g : List (ℕ × R)) → Ready g (all c r) × AllMet (g ++ all c r) r is)
              → Ready front (met kept widen asks o n (widen n r) (all own) ++ all c r) × AllMet (front ++ (met kept widen asks o n (widen n r) (all own) ++ all c r)) r (Some i ∷ is)
          by (Some e) q u rest = ((rest front).0, (inl (e, ap (λ m. kept m (widen m r)) f.0 ∙ q), (rest front).1))
          by None q u rest =
              let w = widen n r in
              let mine : List (ℕ × R) = all own (asks n w) ++ (n, w) ∷ [] in
              let t = rest (front ++ mine) in
              let whole : (front ++ mine) ++ all c r ≡ front ++ (mine ++ all c r) = append_assoc front mine (all c r) in
              let mineReady : Ready front mine = Ready-append front (all own (asks n w)) ((n, w) ∷ []) u.0 (f.1, u.1, tt) in
              let here : served serves mine n w ≡ true = served-right (all own (asks n w)) ((n, w) ∷ []) n w (served-self n w []) in
              let there : IsMet (front ++ (mine ++ all c r)) n r = inr (served-right front (mine ++ all c r) n w (served-left mine (all c r) n w here)) in (
                Ready-append front mine (all c r) mineReady t.0,
                (subst (λ m. IsMet (front ++ (mine ++ all c r)) m r) (sym f.0) there, subst (λ l. AllMet l r is) whole t.1),
              )
      needs_ready front [] (empty c) r f = absurd f
      needs_ready front [] (fed n own c) r f = absurd f
      needs_ready front (None ∷ is) none r f = absurd f
      needs_ready front (None ∷ is) (fed n own c) r f = absurd f
      needs_ready front (Some i ∷ is) none r f = absurd f
      needs_ready front (Some i ∷ is) (empty c) r f = absurd f

      abbrev pub AllAsked : List (ℕ × R) → List R → List (Option ℕ) → Type 0
      AllAsked front rs is = AllAsked_of serves kept widen asks inputs Good front rs is

      pub AllAsked-more : (front done : List (ℕ × R)) → Serves front done → (rs : List R) (is : List (Option ℕ)) → AllAsked front rs is → AllAsked done rs is
      AllAsked-more front done h [] is m = tt
      AllAsked-more front done h (r ∷ rs) is m = (AllMet-more front done h r is m.0, AllAsked-more front done h rs is m.1)

      all_ready : (front : List (ℕ × R)) (is : List (Option ℕ)) (c : Upstream) (rs : List R) → Fits is c
          → Ready front (all_needs kept widen asks c rs) × AllAsked (front ++ all_needs kept widen asks c rs) rs is
      all_ready front is c [] f = (tt, tt)
      all_ready front is c (r ∷ rs) f =
          let mine : List (ℕ × R) = all c r in
          let more : List (ℕ × R) = all_needs kept widen asks c rs in
          let a = needs_ready front is c r f in
          let b = all_ready (front ++ mine) is c rs f in (
            Ready-append front mine more a.0 b.0,
            (
              AllMet-more (front ++ mine) (front ++ (mine ++ more)) (λ n w e. subst (λ l. served serves l n w ≡ true) (append_assoc front mine more) (served-left (front ++ mine) more n w e)) r is a.1,
              subst (λ l. AllAsked l rs is) (append_assoc front mine more) b.1,
            ),
          )

      -- the plan's tasks find what they ask for before themselves, and the requests are met
      pub plan_ready : (is : List (Option ℕ)) (c : Upstream) (rs : List R) → Fits is c
          → Ready [] (plan serves kept widen asks c rs) × AllAsked (plan serves kept widen asks c rs) rs is
      plan_ready is c rs f =
          let a = all_ready [] is c rs f in
          let xs : List (ℕ × R) = all_needs kept widen asks c rs in
          (thin_ready [] [] xs (λ n w e. e) a.0, AllAsked-more xs (thin serves [] xs) (thin_serves [] [] xs (λ n w e. e)) rs is a.1)

      module _ {F : Type 0} (restrict : R × P → R → P) (run : ℕ → R → List (Option P) → Result P F)
          (IsTrue : ℕ → R → P → Type 0) (Faults : ℕ → F → Type 0)
          (restricts : (n : ℕ) (k r : R) (p : P) → IsTrue n k p → serves k (widen n r) ≡ true → IsTrue n r (restrict (k, p) r))
          (kept_true : (n : ℕ) (w : R) (e : R × P) → kept n w ≡ Some e → IsTrue n e.0 e.1 × (serves e.0 w ≡ true)) where
        -- the ports have true parts of what was asked
        abbrev pub IsFed : R → List (Option ℕ) → List (Option P) → Type 0
        IsFed r is ps = IsFed_of IsTrue r is ps

        abbrev pub Gives : ℕ → R → Result P F → Type 0
        Gives n w o = Gives_of IsTrue Faults n w o

        abbrev pub AllTrue : List ((ℕ × R) × P) → Type 0
        AllTrue xs = AllTrue_of IsTrue xs

        abbrev pub keys : List ((ℕ × R) × P) → List (ℕ × R)
        keys t = keys_of t

        abbrev first : List ((ℕ × R) × P) → ℕ → R → Option (R × P)
        first t n w = first_serving serves kept widen asks inputs restrict run t n w

        found : (t : List ((ℕ × R) × P)) (n : ℕ) (w : R) → AllTrue t → served serves (keys t) n w ≡ true
            → (e : R × P) × (first t n w ≡ Some e) × IsTrue n e.0 e.1 × (serves e.0 w ≡ true)
        found [] n w a s = absurd (true≢false (sym s))
        found (x ∷ t) n w a s = by (nat_eq x.0.0 n && serves x.0.1 w) refl s (found t n w a.1)
          where
            by : (b : Bool) → (nat_eq x.0.0 n && serves x.0.1 w) ≡ b → (b || served serves (keys t) n w) ≡ true
                → (served serves (keys t) n w ≡ true → (e : R × P) × (first t n w ≡ Some e) × IsTrue n e.0 e.1 × (serves e.0 w ≡ true))
                → (e : R × P) × (cond b (Some (x.0.1, x.1)) (first t n w) ≡ Some e) × IsTrue n e.0 e.1 × (serves e.0 w ≡ true)
            by true q h rest = let p = and-elim _ _ q in ((x.0.1, x.1), refl, subst (λ m. IsTrue m x.0.1 x.1) (eqb-true x.0.0 n p.0) a.0, p.1)
            by false q h rest = rest h

        abbrev gets : List ((ℕ × R) × P) → ℕ → R → Option P
        gets t n r = got serves kept widen asks inputs restrict run t n r

        got_true : (t : List ((ℕ × R) × P)) (n : ℕ) (r : R) → AllTrue t → IsMet (keys t) n r → (p : P) × (gets t n r ≡ Some p) × IsTrue n r p
        got_true t n r a (inl e) =
            let k = kept_true n (widen n r) e.0 e.1 in
            (restrict e.0 r, ap (λ o. cut_to serves kept widen asks inputs restrict run r (or_else serves kept widen asks inputs restrict run o (first t n (widen n r)))) e.1, restricts n e.0.0 r e.0.1 k.0 k.1)
        got_true t n r a (inr s) = by (kept n (widen n r)) refl
          where
            by : (o : Option (R × P)) → kept n (widen n r) ≡ o → (p : P) × (cut_to serves kept widen asks inputs restrict run r (or_else serves kept widen asks inputs restrict run o (first t n (widen n r))) ≡ Some p) × IsTrue n r p
            by (Some e) q = let k = kept_true n (widen n r) e q in (restrict e r, refl, restricts n e.0 r e.1 k.0 k.1)
            by None q =
                let f = found t n (widen n r) a s in
                (restrict f.0 r, ap (cut_to serves kept widen asks inputs restrict run r) f.1, restricts n f.0.0 r f.0.1 f.2 f.3)

        abbrev gathers : List ((ℕ × R) × P) → R → List (Option ℕ) → List (Option P)
        gathers t r is = gathered serves kept widen asks inputs restrict run t r is

        gathered_true : (t : List ((ℕ × R) × P)) (r : R) (is : List (Option ℕ)) → AllTrue t → AllMet (keys t) r is → IsFed r is (gathers t r is)
        gathered_true t r [] a m = refl
        gathered_true t r (None ∷ is) a m = (gathers t r is, refl, gathered_true t r is a m)
        gathered_true t r (Some i ∷ is) a m = let g = got_true t i r a m.0 in (g.0, gathers t r is, ap (λ o. o ∷ gathers t r is) g.1, g.2, gathered_true t r is a m.1)

        AllTrue-snoc : (t : List ((ℕ × R) × P)) (x : (ℕ × R) × P) → AllTrue t → IsTrue x.0.0 x.0.1 x.1 → AllTrue (t ++ x ∷ [])
        AllTrue-snoc [] x a b = (b, tt)
        AllTrue-snoc (y ∷ t) x a b = (a.0, AllTrue-snoc t x a.1 b)

        keys-snoc : (t : List ((ℕ × R) × P)) (x : (ℕ × R) × P) → keys (t ++ x ∷ []) ≡ keys t ++ x.0 ∷ []
        keys-snoc [] x = refl
        keys-snoc (y ∷ t) x = ap (λ l. y.0 ∷ l) (keys-snoc t x)

        -- all parts are true and stand beside the plan's tasks, or a task's own node faults
        abbrev pub Comes : List ((ℕ × R) × P) → List (ℕ × R) → Result (List ((ℕ × R) × P)) F → Type 0
        Comes t xs (Ok u) = AllTrue u × (keys u ≡ keys t ++ xs)
        Comes t xs (Err e) = (n : ℕ) × Good n × Faults n e

        module _ (law : (n : ℕ) (w : R) (ps : List (Option P)) → Good n → IsFed (asks n w) (inputs n) ps → Gives n w (run n w ps)) where
          pub evaluated_comes : (t : List ((ℕ × R) × P)) (xs : List (ℕ × R)) → AllTrue t → Ready (keys t) xs → Comes t xs (evaluated serves kept widen asks inputs restrict run t xs)
          evaluated_comes t [] a m = (a, sym (append-nil (keys t)))
          evaluated_comes t (x ∷ xs) a m =
              by (run x.0 x.1 (gathers t (asks x.0 x.1) (inputs x.0))) (law x.0 x.1 _ m.0 (gathered_true t (asks x.0 x.1) (inputs x.0) a m.1))
              (λ p h. evaluated_comes (t ++ (x, p) ∷ []) xs (AllTrue-snoc t (x, p) a h) (subst (λ f. Ready f xs) (sym (keys-snoc t (x, p))) m.2))
            where
              next : P → Result (List ((ℕ × R) × P)) F
              next p = evaluated serves kept widen asks inputs restrict run (t ++ (x, p) ∷ []) xs

              re : (p : P) (u : List ((ℕ × R) × P)) → keys u ≡ keys (t ++ (x, p) ∷ []) ++ xs → keys u ≡ keys t ++ x ∷ xs
              re p u e = e ∙ ap (λ l. l ++ xs) (keys-snoc t (x, p)) ∙ append_assoc (keys t) (x ∷ []) xs

              into : (p : P) (s : Result (List ((ℕ × R) × P)) F) → Comes (t ++ (x, p) ∷ []) xs s → Comes t (x ∷ xs) s
              into p (Ok u) c = (c.0, re p u c.1)
              into p (Err e) c = c

              by : (s : Result P F) → Gives x.0 x.1 s
                  → ((p : P) → IsTrue x.0 x.1 p → Comes (t ++ (x, p) ∷ []) xs (evaluated serves kept widen asks inputs restrict run (t ++ (x, p) ∷ []) xs))
                  → Comes t (x ∷ xs) (after serves kept widen asks inputs restrict run (λ p. evaluated serves kept widen asks inputs restrict run (t ++ (x, p) ∷ []) xs) s)
              by (Ok p) g rest = into p (evaluated serves kept widen asks inputs restrict run (t ++ (x, p) ∷ []) xs) (rest p g)
              by (Err e) g rest = (x.0, m.0, g)

          abbrev pub AllFed : List ((ℕ × R) × P) → List R → List (Option ℕ) → Type 0
          AllFed t rs is = AllFed_of serves kept widen asks inputs restrict run IsTrue t rs is

          pub all_fed : (t : List ((ℕ × R) × P)) (rs : List R) (is : List (Option ℕ)) → AllTrue t → AllAsked (keys t) rs is → AllFed t rs is
          all_fed t [] is a m = tt
          all_fed t (r ∷ rs) is a m = (gathered_true t r is a m.0, all_fed t rs is a m.1)

          abbrev pub Produces : List (ℕ × R) → List R → List (Option ℕ) → Result (List ((ℕ × R) × P)) F → Type 0
          Produces xs rs is o = Produces_of serves kept widen asks inputs restrict run IsTrue Good Faults xs rs is o

          -- evaluating the plan gives true parts for all requests, one part for each of the plan's tasks, or a fault of a node
          pub plan_produces : (is : List (Option ℕ)) (c : Upstream) (rs : List R) → Fits is c
              → Produces (plan serves kept widen asks c rs) rs is (evaluated serves kept widen asks inputs restrict run [] (plan serves kept widen asks c rs))
          plan_produces is c rs f =
              let r = plan_ready is c rs f in
              by (evaluated serves kept widen asks inputs restrict run [] (plan serves kept widen asks c rs)) (evaluated_comes [] (plan serves kept widen asks c rs) tt r.0) r.1
            where
              by : (s : Result (List ((ℕ × R) × P)) F) → Comes [] (plan serves kept widen asks c rs) s → AllAsked (plan serves kept widen asks c rs) rs is → Produces (plan serves kept widen asks c rs) rs is s
              by (Ok u) h m = (h.1, h.0, all_fed u rs is h.0 (subst (λ l. AllAsked l rs is) (sym h.1) m))
              by (Err e) h m = h

        -- nothing is kept of a node with a fault at it or upstream; what a request asks for stems from it
        module _ (Spoilt : ℕ → Type 0) (unkept : (m : ℕ) (w : R) (e : R × P) → Spoilt m → kept m w ≡ Some e → ⊥)
            (Stems : R → R → Type 0) (root : (r : R) → Stems r r) (stems_widened : (r q : R) (m : ℕ) → Stems r q → Stems r (widen m q))
            (stems_asked : (r q : R) (m : ℕ) → Stems r q → Stems r (asks m q)) (stems_served : (r v w : R) → Stems r w → serves v w ≡ true → Stems r v) where
          -- a way from the ports to the node, through nodes with a fault
          abbrev Leads : ℕ → Upstream → Type 0
          Leads n c = Leads_of Spoilt n c

          abbrev Needed : List (ℕ × R) → ℕ → R → Type 0
          Needed xs n r = (w : R) × Stems r w × (served serves xs n w ≡ true)

          needed : (n : ℕ) (c : Upstream) (r q : R) → Leads n c → Stems r q → Needed (all c q) n r
          needed n none r q l s = absurd l
          needed n (empty c) r q l s = needed n c r q l s
          needed n (fed m own c) r q l s = by (kept m (widen m q)) refl l (λ k. needed n own r (asks m (widen m q)) k (stems_asked r (widen m q) m (stems_widened r q m s))) (λ k. needed n c r q k s)
            where
              by : (o : Option (R × P)) → kept m (widen m q) ≡ o → Leads n (fed m own c)
                  → (Leads n own → Needed (all own (asks m (widen m q))) n r) → (Leads n c → Needed (all c q) n r)
                  → Needed (met kept widen asks o m (widen m q) (all own) ++ all c q) n r
              by o e (inr k) up beside = let b = beside k in (b.0, b.1, served-right (met kept widen asks o m (widen m q) (all own)) (all c q) n b.0 b.2)
              by (Some v) e (inl k) up beside = absurd (unkept m (widen m q) v k.0 e)
              by None e (inl (sp, inl same)) up beside =
                  let w = widen m q in
                  let mine : List (ℕ × R) = all own (asks m w) ++ (m, w) ∷ [] in (
                    w,
                    stems_widened r q m s,
                    subst (λ i. served serves (mine ++ all c q) i w ≡ true) same
                        (served-left mine (all c q) m w (served-right (all own (asks m w)) ((m, w) ∷ []) m w (served-self m w []))),
                  )
              by None e (inl (sp, inr k)) up beside =
                  let w = widen m q in
                  let mine : List (ℕ × R) = all own (asks m w) ++ (m, w) ∷ [] in
                  let u = up k in
                  (u.0, u.1, served-left mine (all c q) n u.0 (served-left (all own (asks m w)) ((m, w) ∷ []) n u.0 u.2))

          abbrev AllShown : List ((ℕ × R) × P) → ℕ → List R → Type 0
          AllShown u n rs = AllShown_of IsTrue Stems n rs

          shown : (u : List ((ℕ × R) × P)) (n : ℕ) (c : Upstream) (rs : List R) → AllTrue u → Leads n c
              → Serves (all_needs kept widen asks c rs) (keys u) → AllShown u n rs
          shown u n c [] a l h = tt
          shown u n c (r ∷ rs) a l h =
              let d = needed n c r r l (root r) in
              let f = found u n d.0 a (h n d.0 (served-left (all c r) (all_needs kept widen asks c rs) n d.0 d.2)) in (
                (f.0.0, f.0.1, stems_served r f.0.0 d.0 d.1 f.3, f.2),
                shown u n c rs a l (λ m w e. h m w (served-right (all c r) (all_needs kept widen asks c rs) m w e)),
              )

          -- where all tasks of the plan came out, each node with a fault was asked for each of the requests
          pub no_fault_hides : (c : Upstream) (rs : List R) (u : List ((ℕ × R) × P)) → AllTrue u → keys u ≡ plan serves kept widen asks c rs → (n : ℕ) → Leads n c → AllShown u n rs
          no_fault_hides c rs u a e n l =
              shown u n c rs a l (subst (λ k. Serves (all_needs kept widen asks c rs) k) (sym e) (thin_serves [] [] (all_needs kept widen asks c rs) (λ m w x. x)))
