-- All seats, joined from the last to the first.
use Rattle.std.proofs.Common.{◌≡◌, ℕ, zero, suc, ◌<◌, ◌≤◌, List, [], ◌∷◌, ◌++◌, length, map, sym, refl, ap, ◌∙◌, subst, arith, append_assoc, IsTrue}
use Rattle.std.proofs.lemmas.Bool.Decides.{nat_tests}
use mathlib.Core.Option.{some, some-injective, some-ne-none}
use mathlib.Core.List.{map-append}
use Rattle.std.proofs.lemmas.List.{length-map}
use lib.ListN.{get_elem?}
use Rattle.atomic_table.proofs.Lists.{at_longer, at_last}
use Rattle.scan_claim.specs.declared.view.Draws.{Draws}
use Rattle.scan_claim.specs.declared.claims.ClaimSeat.{ClaimSeat}
use Rattle.scan_claim.specs.Drawing.{late, flat, times, once_below, is_spent, IsDrawn}
use Rattle.scan_claim.specs.Shown.{draws_of}
use Rattle.scan_claim.proofs.Totals.{late-append}
use Rattle.scan_claim.proofs.CounterSteps.{one_list}

pub lists_step : (all xs : List ClaimSeat) (x : ClaimSeat) (ls ks : List (List ℕ)) → all ≡ xs ++ x ∷ [] → ls ≡ x.seat.me.0.lists → length ls ≡ 1 → map draws_of xs ++ (ls ++ ks) ≡ map draws_of all ++ ks
lists_step all xs x ls ks e is one =
    let here : ls ≡ draws_of x ∷ [] = one_list ls one ∙ ap (λ (m : List (List ℕ)). flat m ∷ []) is in
    sym (append_assoc (map draws_of xs) ls ks) ∙ ap (λ (m : List (List ℕ)). m ++ ks) (ap (λ (m : List (List ℕ)). map draws_of xs ++ m) here ∙ (sym (map-append draws_of xs (x ∷ [])) ∙ sym (ap (map draws_of) e)))

module _ (P : ClaimSeat → Type 0) (all xs : List ClaimSeat) (x : ClaimSeat) (e : all ≡ xs ++ x ∷ []) (h : (k : ℕ) (s : ClaimSeat) → get_elem? all k ≡ some s → P s) where
  pub left_front : (k : ℕ) (s : ClaimSeat) → get_elem? xs k ≡ some s → P s
  left_front k s at = h k s (subst (λ (m : List ClaimSeat). get_elem? m k ≡ some s) (sym e) (at_longer xs (x ∷ []) k s at))

  pub left_last : P x
  left_last = h (length xs) x (subst (λ (m : List ClaimSeat). get_elem? m (length xs) ≡ some x) (sym e) (at_last xs x (length xs) refl))

late_in : (b : ℕ) (ss : List ClaimSeat) (k : ℕ) (s : ClaimSeat) → get_elem? ss k ≡ some s → late b (draws_of s) ≤ late b (flat (map draws_of ss))
late_in b [] k s e = absurd (some-ne-none s (sym e))
late_in b (x ∷ xs) zero s e = let is : late b (draws_of x) ≡ late b (draws_of s) = ap (λ z. late b (draws_of z)) (some-injective x s e) in let a = late-append b (draws_of x) (flat (map draws_of xs)) in omega arith
late_in b (x ∷ xs) (suc k) s e = let r = late_in b xs k s e in let a = late-append b (draws_of x) (flat (map draws_of xs)) in omega arith

-- where one seat has drawn a number too many, all numbers below the blocks were drawn
pub drawn_all : (b n : ℕ) (ls : List (List ℕ)) (ss : List ClaimSeat) → IsDrawn b ls n → ls ≡ map draws_of ss → (k : ℕ) (s : ClaimSeat) → get_elem? ss k ≡ some s → IsTrue (is_spent b (draws_of s)) → (x : ℕ) → x < b
    → times x (flat ls) ≡ 1
drawn_all b n ls ss d is k s at h x l =
    let e = d.once x in
    let f = d.past in
    let here = late_in b ss k s at in
    let all : late b (flat ls) ≡ late b (flat (map draws_of ss)) = ap (λ (m : List (List ℕ)). late b (flat m)) is in
    let some_late : 0 < late b (draws_of s) = grind (arith, nat_tests) in
    let more : x < n = omega arith in
    let g : once_below x n ≡ 1 = grind (arith, nat_tests) in
    e ∙ g

-- the seat that has all lists knows of them what the load tells
pub all_drawn : (ss : List ClaimSeat) (v w : Draws) (blocks callers n : ℕ) → w.lists ≡ map draws_of ss → length ss ≡ callers → 0 < callers → v.callers ≡ callers → v.blocks ≡ blocks → w ≡ v
    → (0 < length v.lists → length v.lists ≡ v.callers → IsDrawn v.blocks v.lists n) → IsDrawn blocks w.lists n
all_drawn ss v w blocks callers n is all some_caller same at same_view h =
    let len : length v.lists ≡ length ss = ap (λ (z : Draws). length z.lists) (sym same_view) ∙ (ap length is ∙ length-map ss draws_of) in
    let d : IsDrawn v.blocks v.lists n = h (omega arith) (omega arith) in
    let e : IsDrawn blocks v.lists n = subst (λ (b : ℕ). IsDrawn b v.lists n) at d in
    subst (λ (z : Draws). IsDrawn blocks z.lists n) (sym same_view) e
