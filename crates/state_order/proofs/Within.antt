-- A key lies within a range if the test of it says so.
use Rattle.std.proofs.Common.{◌≡◌, ◌&&◌, inl, inr, ℕ, Bool, true, false, List, [], ◌∷◌, ap, not, refl}
use Rattle.std.specs.Ordering.{is_lt}
use Rattle.state_head.specs.Words.{Keys}
use Rattle.state_order.specs.Order.{IsBelow, IsFrom, IsIn}
use Rattle.state_order.specs.Ranges.{is_before, is_below, is_from, is_within}
use Rattle.state_order.proofs.Orders.{lt_is}

both : (a b : Bool) → (a && b) ≡ true → (a ≡ true) × (b ≡ true)
both true b e = (refl, e)
both false b e = cc

and_of : (a b : Bool) → a ≡ true → b ≡ true → (a && b) ≡ true
and_of true b e f = f
and_of false b e f = cc

not_true : (b : Bool) → not b ≡ true → b ≡ true → ⊥
not_true true e f = cc
not_true false e f = cc

not_false : (b : Bool) → (b ≡ true → ⊥) → not b ≡ true
not_false true none = absurd (none refl)
not_false false none = refl

-- ---- one end

from_is : (columns : ℕ) (low key : List ℕ) → is_from columns low key ≡ true → IsFrom columns low key
from_is columns [] key e = inl refl
from_is columns (byte ∷ low) key e = inr (λ less. not_true (is_before columns key (byte ∷ low)) e (ap is_lt less))

is_from_of : (columns : ℕ) (low key : List ℕ) → IsFrom columns low key → is_from columns low key ≡ true
is_from_of columns [] key is = refl
is_from_of columns (byte ∷ low) key (inl none) = cc
is_from_of columns (byte ∷ low) key (inr later) = not_false (is_before columns key (byte ∷ low)) (λ e. later (lt_is _ e))

below_is : (columns : ℕ) (high key : List ℕ) → is_below columns high key ≡ true → IsBelow columns high key
below_is columns [] key e = inl refl
below_is columns (byte ∷ high) key e = inr (lt_is _ e)

is_below_of : (columns : ℕ) (high key : List ℕ) → IsBelow columns high key → is_below columns high key ≡ true
is_below_of columns [] key is = refl
is_below_of columns (byte ∷ high) key (inl none) = cc
is_below_of columns (byte ∷ high) key (inr less) = ap is_lt less

-- ---- both ends

pub in_is : (columns : ℕ) (range : Keys) (key : List ℕ) → is_within columns range key ≡ true → IsIn columns range key
in_is columns range key e =
    let two = both (is_from columns range.low key) (is_below columns range.high key) e in
    record { from = from_is columns range.low key two.0; below = below_is columns range.high key two.1 }

pub is_in_of : (columns : ℕ) (range : Keys) (key : List ℕ) → IsIn columns range key → is_within columns range key ≡ true
is_in_of columns range key is =
    and_of (is_from columns range.low key) (is_below columns range.high key) (is_from_of columns range.low key is.from) (is_below_of columns range.high key is.below)
