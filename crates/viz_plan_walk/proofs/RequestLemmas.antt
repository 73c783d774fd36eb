-- Requests: when two are the same, and when one serves another.
use Rattle.std.proofs.Common.{◌≡◌, ℕ, zero, suc, ◌≤◌, drop, length, ◌∷◌, true, List, [], Option, refl, sym, ap, ◌∙◌, arith}
use Rattle.viz_parts.specs.declared.request.Request.{Request}
use Rattle.viz_plan_meaning.specs.Plan.{Upstream, thin, plan, used}
use Rattle.viz_plan_meaning.specs.Steps.Visits.{IsOne, visit_all, visit_all_used}
use Rattle.viz_cache.proofs.KeyLemmas.{key-same, key-itself}
use Rattle.viz_parts.specs.declared.request.Part.{Part}
use Rattle.viz_parts.specs.declared.stored.Key.{Key}
use Rattle.viz_requests.proofs.ServingLemmas.{itself, on}
use Rattle.viz_plan_meaning.proofs.UsedLemmas.{plan_of_all, all_of_used}
use Rattle.viz_cache.specs.Keys.{same_request}
use Rattle.viz_requests.specs.Serving.{serves}

abbrev key_with : Request → Key
key_with r = record { node = record { 0 = 0 }; stamp = 0; request = r }

pub request_alike : (a b : Request) → same_request a b ≡ true → a ≡ b
request_alike a b e = ap (λ (k : Key). k.request) (key-same (key_with a) (key_with b) e)

request_itself : (a : Request) → same_request a a ≡ true
request_itself a = key-itself (key_with a)

drop_all : {X : Type 0} (xs : List X) (i : ℕ) → length xs ≤ i → drop i xs ≡ []
drop_all [] zero l = refl
drop_all [] (suc i) l = refl
drop_all (x ∷ xs) zero l = absurd (omega (arith, l))
drop_all (x ∷ xs) (suc i) l = drop_all xs i (omega (arith, l))

module _ (kept : ℕ → Request → Option (Request × Part)) (widen asks : ℕ → Request → Request) (c : Upstream) (rs : List Request) (o : (cone : ℕ → Upstream) × IsOne cone c) where
  pub plan_found : (needs : List (ℕ × Request)) → needs ≡ visit_all same_request kept widen asks c rs [] → thin serves [] needs ≡ plan serves kept widen asks c rs
  plan_found needs e =
      ap (thin serves []) e ∙ plan_of_all same_request request_alike request_itself kept widen asks o.0 serves itself on c rs o.1

  pub used_found : visit_all_used same_request kept widen asks c rs [] [] ≡ used same_request kept widen asks c rs
  used_found = all_of_used same_request request_alike request_itself kept widen asks o.0 c rs o.1

  -- behind the last request
  pub plan_end : (needs : List (ℕ × Request)) (i : ℕ) → length rs ≤ i → visit_all same_request kept widen asks c (drop i rs) needs ≡ visit_all same_request kept widen asks c rs []
      → thin serves [] needs ≡ plan serves kept widen asks c rs
  plan_end needs i l e = plan_found needs (sym (ap (λ d. visit_all same_request kept widen asks c d needs) (drop_all rs i l)) ∙ e)

  pub used_end : (needs entries : List (ℕ × Request)) (i : ℕ) → length rs ≤ i → visit_all_used same_request kept widen asks c (drop i rs) needs entries ≡ visit_all_used same_request kept widen asks c rs [] []
      → entries ≡ used same_request kept widen asks c rs
  used_end needs entries i l e = sym (ap (λ d. visit_all_used same_request kept widen asks c d needs entries) (drop_all rs i l)) ∙ e ∙ used_found
