-- Chains and links of sides, step by step.
use Rattle.std.proofs.Common.{◌≡◌, ◌≢◌, ℕ, ◌+◌, ◌-◌, ◌*◌, ◌/◌, ◌<◌, ◌≤◌, ⊎_elim, Bool, true, List, [], length, get_or, set, replicate, sym, ap, subst, ◌∙◌, arith, cond, nat_lt}
use Rattle.std.specs.Prelude.{min, max}
use Rattle.std.proofs.Math.ListN.{length-set}
use Rattle.std.proofs.lemmas.Bool.{cases_lt, cases_eq}
use Rattle.std.proofs.lemmas.Bool.Decides.{nat_tests}
use Rattle.std.proofs.lemmas.List.{get_or-set_other, get_or-set_same, get_or-replicate, length-replicate}
use Rattle.viz_strip.specs.Steps.Marks.{is_taken}
use Rattle.viz_strip.specs.Steps.Sides.{HaveSides, HaveSlots, back_of, from_of, low_of, slot_of, to_of}
use Rattle.viz_strip.specs.Steps.Links.{AreChained, HaveFirsts, HaveNexts, IsLast, IsMet, IsNext, IsSeen, LeadBack, LeadOn}

-- ---- chains

pub none-chained : (ts : List (List ℕ)) (points size : ℕ) → AreChained ts 0 (replicate points 0) (replicate size 0)
none-chained ts points size =
    record {
      last = λ low l.
          let l' : low < points = omega (arith, length-replicate {A = ℕ} points 0) in
          subst (IsLast ts low 0) (sym (get_or-replicate points low 0 0 l'))
          (record { within = omega arith; is = λ h. absurd (omega arith); most = λ r h e. absurd (omega arith) });
      before = λ r l. absurd (omega arith);
    }

last-more : (ts : List (List ℕ)) (low side x : ℕ) → low_of ts side ≢ low → IsLast ts low side x → IsLast ts low (side + 1) x
last-more ts low side x ne l =
    record {
      within = omega (arith, l.within);
      is = l.is;
      most = λ r h e. ⊎_elim (λ lt. l.most r lt e) (λ ge. absurd (ne (ap (low_of ts) {x = side} {y = r} (omega arith) ∙ e))) (cases_lt r side);
    }

last-here : (ts : List (List ℕ)) (side : ℕ) → IsLast ts (low_of ts side) (side + 1) (side + 1)
last-here ts side =
    record {
      within = omega arith;
      is = λ _. ap (low_of ts) {x = side + 1 - 1} {y = side} (omega arith);
      most = λ r h e. h;
    }

pub one-chained : (ts : List (List ℕ)) (side low : ℕ) (lasts befores : List ℕ) → AreChained ts side lasts befores → low ≡ low_of ts side → low < length lasts → side < length befores
    → AreChained ts (side + 1) (set lasts low (side + 1)) (set befores side (get_or lasts low 0))
one-chained ts side low lasts befores c is l s =
    record {
      last = λ k kl.
          ⊎_elim
          (λ e. subst (IsLast ts k (side + 1)) (sym (ap (λ j. get_or (set lasts low (side + 1)) j 0) e ∙ get_or-set_same lasts low (side + 1) 0 l))
          (subst (λ j. IsLast ts j (side + 1) (side + 1)) (sym is ∙ sym e) (last-here ts side)))
          (λ ne. subst (IsLast ts k (side + 1)) (sym (get_or-set_other lasts low k (side + 1) 0 ne))
          (last-more ts k side (get_or lasts k 0) (λ e. ne (sym e ∙ sym is)) (c.last k (omega (arith, length-set lasts low (side + 1))))))
          (cases_eq k low);
      before = λ r rl.
          ⊎_elim
          (λ e. subst (IsLast ts (low_of ts r) r) (sym (ap (λ j. get_or (set befores side (get_or lasts low 0)) j 0) e ∙ get_or-set_same befores side (get_or lasts low 0) 0 s))
          (subst (λ j. IsLast ts (low_of ts j) j (get_or lasts low 0)) (sym e) (subst (λ k. IsLast ts k side (get_or lasts low 0)) is (c.last low l))))
          (λ ne. subst (IsLast ts (low_of ts r) r) (sym (get_or-set_other befores side r (get_or lasts low 0) 0 ne)) (c.before r (omega arith)))
          (cases_eq r side);
    }

-- ---- what is seen of a lesser name

pub none-seen : (ts : List (List ℕ)) (size none : ℕ) → 3 * length ts ≤ none → IsSeen ts 0 (3 * length ts) (replicate size none)
none-seen ts size none big =
    record {
      slot_is = λ k l h. absurd (no k l h);
      most = λ k l h. absurd (no k l h);
      past = λ k l h. absurd (no k l h);
      has = λ r b h e. absurd (omega arith);
    }
  where
    no : (k : ℕ) → k < length (replicate size none) → get_or (replicate size none) k 0 < 3 * length ts → ⊥
    no k l h = omega (arith, get_or-replicate size k none 0 (omega (arith, length-replicate {A = ℕ} size none)))

pub seen-lower : (ts : List (List ℕ)) (low b x : ℕ) (seen : List ℕ) → IsLast ts low b x → IsSeen ts low b seen → IsSeen ts low x seen
seen-lower ts low b x seen l s =
    record {
      slot_is = s.slot_is;
      most = s.most;
      past = λ k kl q e. let p = s.past k kl q e in omega (arith, l.within);
      has = λ r xr rc e. s.has r (⊎_elim (λ lt. absurd (omega (arith, l.most r lt e))) (λ ge. ge) (cases_lt r b)) rc e;
    }

pub seen-up : (ts : List (List ℕ)) (low : ℕ) (seen : List ℕ) → IsSeen ts low 0 seen → IsSeen ts (low + 1) (3 * length ts) seen
seen-up ts low seen s =
    record {
      slot_is = s.slot_is;
      most = λ k kl q. let m = s.most k kl q in omega arith;
      past = λ k kl q e. let m = s.most k kl q in absurd (omega arith);
      has = λ r b h e. absurd (omega arith);
    }

-- ---- links

pub no-nexts : (ts : List (List ℕ)) (nexts : List ℕ) → HaveNexts ts 0 (3 * length ts) nexts
no-nexts ts nexts = record { lower = λ r h l. absurd (omega arith); same = λ r b h e. absurd (omega arith) }

pub no-firsts : (ts : List (List ℕ)) (firsts : List ℕ) → HaveFirsts ts 0 (3 * length ts) firsts
no-firsts ts firsts = record { lower = λ r h l. absurd (omega arith); same = λ r b h e. absurd (omega arith) }

pub nexts-lower : (ts : List (List ℕ)) (low b x : ℕ) (nexts : List ℕ) → IsLast ts low b x → HaveNexts ts low b nexts → HaveNexts ts low x nexts
nexts-lower ts low b x nexts l n =
    record { lower = n.lower; same = λ r xr rc e. n.same r (⊎_elim (λ lt. absurd (omega (arith, l.most r lt e))) (λ ge. ge) (cases_lt r b)) rc e }

pub firsts-lower : (ts : List (List ℕ)) (low b x : ℕ) (firsts : List ℕ) → IsLast ts low b x → HaveFirsts ts low b firsts → HaveFirsts ts low x firsts
firsts-lower ts low b x firsts l n =
    record { lower = n.lower; same = λ r xr rc e. n.same r (⊎_elim (λ lt. absurd (omega (arith, l.most r lt e))) (λ ge. ge) (cases_lt r b)) rc e }

pub nexts-up : (ts : List (List ℕ)) (low : ℕ) (nexts : List ℕ) → HaveNexts ts low 0 nexts → HaveNexts ts (low + 1) (3 * length ts) nexts
nexts-up ts low nexts n =
    record {
      lower = λ r rc l. ⊎_elim (λ lt. n.lower r rc lt) (λ ge. n.same r (omega arith) rc (omega arith)) (cases_lt (low_of ts r) low);
      same = λ r b h e. absurd (omega arith);
    }

pub firsts-up : (ts : List (List ℕ)) (low : ℕ) (firsts : List ℕ) → HaveFirsts ts low 0 firsts → HaveFirsts ts (low + 1) (3 * length ts) firsts
firsts-up ts low firsts n =
    record {
      lower = λ r rc l. ⊎_elim (λ lt. n.lower r rc lt) (λ ge. n.same r (omega arith) rc (omega arith)) (cases_lt (low_of ts r) low);
      same = λ r b h e. absurd (omega arith);
    }

-- ---- links by names

same-ends : (f t g u : ℕ) → f ≢ t → g ≢ u → min g u ≡ min f t → 2 * max g u + cond (nat_lt g u) 1 0 ≡ 2 * max f t + cond (nat_lt f t) 1 0 → (g ≡ f) × (u ≡ t)
same-ends f t g u n m lo sl = (grind (arith, nat_tests), grind (arith, nat_tests))

back-ends : (f t g u : ℕ) → f ≢ t → g ≢ u → min g u ≡ min f t → 2 * max g u + cond (nat_lt g u) 1 0 ≡ 2 * max f t + cond (nat_lt f t) 0 1 → (g ≡ t) × (u ≡ f)
back-ends f t g u n m lo sl = (grind (arith, nat_tests), grind (arith, nat_tests))

back-slot : (f t : ℕ) → f ≢ t → (min t f ≡ min f t) × (2 * max t f + cond (nat_lt t f) 1 0 ≡ 2 * max f t + cond (nat_lt f t) 0 1)
back-slot f t n = (grind (arith, nat_tests), grind (arith, nat_tests))

pub met-next : (ts : List (List ℕ)) (points r q : ℕ) → HaveSides points ts → r < 3 * length ts → IsNext ts (low_of ts r) (slot_of ts r) (r + 1) q → IsMet ts [] (from_of ts r) (to_of ts r) (r + 1) q
unfolding low_of slot_of
met-next ts points r q h l n =
    record {
      past = n.past;
      from_is = λ ql. (same-ends (from_of ts r) (to_of ts r) (from_of ts q) (to_of ts q) (h.apart r l) (h.apart q ql) (n.low_is ql) (n.slot_is ql)).0;
      to_is = λ ql. (same-ends (from_of ts r) (to_of ts r) (from_of ts q) (to_of ts q) (h.apart r l) (h.apart q ql) (n.low_is ql) (n.slot_is ql)).1;
      least = λ s b sq sl ef et.
          let m : q ≤ s = n.least s b sl (ap (λ a. min a (to_of ts s)) ef ∙ ap (min (from_of ts r)) et) (ap (λ a. 2 * max a (to_of ts s) + cond (nat_lt a (to_of ts s)) 1 0) ef ∙ ap (λ a. 2 * max (from_of ts r) a + cond (nat_lt (from_of ts r) a) 1 0) et) in
          absurd (omega arith);
    }

pub met-first : (ts : List (List ℕ)) (points r q : ℕ) → HaveSides points ts → r < 3 * length ts → IsNext ts (low_of ts r) (back_of ts r) 0 q → IsMet ts [] (to_of ts r) (from_of ts r) 0 q
unfolding low_of slot_of back_of
met-first ts points r q h l n =
    let f = from_of ts r in
    let t = to_of ts r in
    record {
      past = n.past;
      from_is = λ ql. (back-ends f t (from_of ts q) (to_of ts q) (h.apart r l) (h.apart q ql) (n.low_is ql) (n.slot_is ql)).0;
      to_is = λ ql. (back-ends f t (from_of ts q) (to_of ts q) (h.apart r l) (h.apart q ql) (n.low_is ql) (n.slot_is ql)).1;
      least = λ s b sq sl ef et.
          let b' = back-slot f t (h.apart r l) in
          let m : q ≤ s = n.least s b sl (ap (λ a. min a (to_of ts s)) ef ∙ ap (min t) et ∙ b'.0) (ap (λ a. 2 * max a (to_of ts s) + cond (nat_lt a (to_of ts s)) 1 0) ef ∙ ap (λ a. 2 * max t a + cond (nat_lt t a) 1 0) et ∙ b'.1) in
          absurd (omega arith);
    }

low-below : (ts : List (List ℕ)) (points r : ℕ) → HaveSides points ts → r < 3 * length ts → low_of ts r < points
unfolding low_of
low-below ts points r h l = let b = h.from_below r l in omega arith

pub leads-on : (ts : List (List ℕ)) (points : ℕ) (nexts : List ℕ) → HaveSides points ts → HaveNexts ts points (3 * length ts) nexts → LeadOn ts [] nexts
leads-on ts points nexts h n =
    record { each = λ r l. met-next ts points r (get_or nexts r 0) h l (n.lower r l (low-below ts points r h l)) }

pub leads-back : (ts : List (List ℕ)) (points : ℕ) (firsts : List ℕ) → HaveSides points ts → HaveFirsts ts points (3 * length ts) firsts → LeadBack ts [] firsts
leads-back ts points firsts h n =
    record { each = λ r l. met-first ts points r (get_or firsts r 0) h l (n.lower r l (low-below ts points r h l)) }

slot-below : (f t points : ℕ) → f < points → t < points → f ≢ t → (2 * max f t + cond (nat_lt f t) 1 0 < 2 * points) × (2 * max f t + cond (nat_lt f t) 0 1 < 2 * points)
slot-below f t points a b n = (grind (arith, nat_tests), grind (arith, nat_tests))

pub slots-below : (ts : List (List ℕ)) (points : ℕ) → HaveSides points ts → HaveSlots ts (2 * points)
unfolding slot_of back_of
slots-below ts points h =
    record {
      slot_below = λ r l. (slot-below (from_of ts r) (to_of ts r) points (h.from_below r l) (h.to_below r l) (h.apart r l)).0;
      back_below = λ r l. (slot-below (from_of ts r) (to_of ts r) points (h.from_below r l) (h.to_below r l) (h.apart r l)).1;
    }

-- ---- links that are passed

pub met-through : (ts : List (List ℕ)) (marks : List Bool) (u v from q x : ℕ) → IsMet ts marks u v from q → q < 3 * length ts → is_taken marks (q / 3) ≡ true → IsMet ts marks (from_of ts q) (to_of ts q) (q + 1) x → IsMet ts marks u v from x
met-through ts marks u v from q x m l taken n =
    record {
      past = omega (arith, m.past, n.past);
      from_is = λ xl. n.from_is xl ∙ m.from_is l;
      to_is = λ xl. n.to_is xl ∙ m.to_is l;
      least = λ r b rx rl ef et.
          ⊎_elim (λ lt. m.least r b lt rl ef et)
          (λ ge. ⊎_elim (λ e. ap (λ j. is_taken marks (j / 3)) e ∙ taken)
          (λ ne. n.least r (omega arith) rx rl (ef ∙ sym (m.from_is l)) (et ∙ sym (m.to_is l)))
          (cases_eq r q))
          (cases_lt r q);
    }

pub on-passed : (ts : List (List ℕ)) (marks : List Bool) (nexts : List ℕ) (at next : ℕ) → LeadOn ts marks nexts → at < 3 * length ts → length nexts ≡ 3 * length ts → next ≡ get_or nexts at 0 → next < 3 * length ts → is_taken marks (next / 3) ≡ true
    → LeadOn ts marks (set nexts at (get_or nexts next 0))
on-passed ts marks nexts at next o l size is nl taken =
    record {
      each = λ r rl.
          ⊎_elim
          (λ e. subst (IsMet ts marks (from_of ts r) (to_of ts r) (r + 1)) (sym (ap (λ j. get_or (set nexts at (get_or nexts next 0)) j 0) e ∙ get_or-set_same nexts at (get_or nexts next 0) 0 (omega arith)))
          (met-through ts marks (from_of ts r) (to_of ts r) (r + 1) next (get_or nexts next 0) (subst (IsMet ts marks (from_of ts r) (to_of ts r) (r + 1)) (ap (λ j. get_or nexts j 0) e ∙ sym is) (o.each r rl)) nl taken (o.each next nl)))
          (λ ne. subst (IsMet ts marks (from_of ts r) (to_of ts r) (r + 1)) (sym (get_or-set_other nexts at r (get_or nexts next 0) 0 ne)) (o.each r rl))
          (cases_eq r at);
    }
