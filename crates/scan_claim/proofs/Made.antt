-- The seats as they are made.
use Rattle.std.proofs.Common.{◌≡◌, ℕ, zero, suc, ◌+◌, ◌-◌, ◌<◌, List, [], ◌∷◌, ◌++◌, length, sym, refl, ap, ◌∙◌, subst, arith, replicate}
use mathlib.Core.Option.{some, some-injective, some-ne-none}
use lib.ListN.{get_elem?}
use Rattle.atomic_table.specs.Seated.{TableId}
use Rattle.scan_claim.specs.declared.view.Draws.{Draws}
use Rattle.scan_claim.specs.declared.claims.ClaimSeat.{ClaimSeat}
use Rattle.scan_claim.specs.Drawing.{drawn, first_caller, other_callers}

-- the k-th seat, which has drawn nothing
abbrev pub IsMade : TableId → ℕ → ℕ → ℕ → ClaimSeat → Type 0
IsMade z blocks callers k s = (s.seat.table_id ≡ z) × (s.seat.me.0 ≡ drawn blocks callers k ([] ∷ []))

first_of : (n m : ℕ) (b c k : ℕ) → n ≡ suc m → first_caller (drawn b c k (replicate n [])) ≡ drawn b c k ([] ∷ [])
first_of zero m b c k e = absurd (omega arith)
first_of (suc n) m b c k e = refl

rest_of : (n m : ℕ) (b c k : ℕ) → n ≡ suc m → other_callers (drawn b c k (replicate n [])) ≡ drawn b c (k + 1) (replicate m [])
rest_of zero m b c k e = absurd (omega arith)
rest_of (suc n) m b c k e = let s : n ≡ m = omega arith in ap (λ (z : ℕ). drawn b c (k + 1) (replicate z [])) s

pub made_first : (b c k : ℕ) (v w : Draws) → k < c → v ≡ drawn b c k (replicate (c - k) []) → w ≡ first_caller v → w ≡ drawn b c k ([] ∷ [])
made_first b c k v w h e f = f ∙ (ap first_caller e ∙ first_of (c - k) (c - (k + 1)) b c k (omega arith))

pub made_rest : (b c k : ℕ) (v w : Draws) → k < c → v ≡ drawn b c k (replicate (c - k) []) → w ≡ other_callers v → w ≡ drawn b c (k + 1) (replicate (c - (k + 1)) [])
made_rest b c k v w h e f = f ∙ (ap other_callers e ∙ rest_of (c - k) (c - (k + 1)) b c k (omega arith))

-- a fact of each place, and of one more at the end
pub each_snoc : (P : ℕ → ClaimSeat → Type 0) (xs : List ClaimSeat) (x : ClaimSeat) → ((k : ℕ) (s : ClaimSeat) → get_elem? xs k ≡ some s → P k s) → P (length xs) x
    → (k : ℕ) (s : ClaimSeat) → get_elem? (xs ++ x ∷ []) k ≡ some s → P k s
each_snoc P [] x h p zero s e = subst (P 0) (some-injective x s e) p
each_snoc P [] x h p (suc k) s e = absurd (some-ne-none s (sym e))
each_snoc P (y ∷ ys) x h p zero s e = h 0 s e
each_snoc P (y ∷ ys) x h p (suc k) s e = each_snoc (λ j. P (suc j)) ys x (λ j u e'. h (suc j) u e') p k s e
