-- The rank of a number says how it compares, unless it is the first or the last.
use Rattle.std.proofs.Common.{◌≡◌, ◌<◌, ◌≤◌, ◌-◌, ◌^◌, Bool, ℕ, ℤ, true, false, ap, arith, refl, sym}
use Rattle.std.specs.Prelude.{◌<ℤ◌, neg_ℤ, pos}
use Rattle.std.proofs.lemmas.Bool.Decides.{nat_tests}
use Rattle.std.proofs.lemmas.Int.{ints}
use Rattle.std.specs.Cmp.{int_cmp_is}
use Rattle.std.specs.Ordering.{int_cmp}
use Rattle.std.specs.declared.cmp.Ordering.TheVariants.{Equal, Less}
use Rattle.par_model.specs.Number.{signed}
use Rattle.table_order.specs.Entries.{is_exact, rank_of_size, turned_rank}
use Rattle.table_order.specs.Order.{turned}

rank-below : (minus : Bool) (size : ℕ) → rank_of_size minus size ≤ 2 ^ 64 - 1
rank-below true size = omega arith
rank-below false size = omega arith

-- of two numbers the one with the lower rank is less
rank-less : (m n : Bool) (a b : ℕ) → rank_of_size m a < rank_of_size n b → signed m a <ℤ signed n b
rank-less true true a b lt = omega (arith, ints, lt)
rank-less true false a b lt = omega (arith, ints, lt)
rank-less false true a b lt = omega (arith, ints, lt)
rank-less false false a b lt = omega (arith, ints, lt)

-- numbers of the same rank are equal, if it is not the first and not the last
rank-same : (m n : Bool) (a b : ℕ) → rank_of_size m a ≡ rank_of_size n b → 0 < rank_of_size m a → rank_of_size m a < 2 ^ 64 - 1 → signed m a ≡ signed n b
rank-same true true a b is low high = ap (λ n. neg_ℤ (pos n)) (omega (arith, is, low, high))
rank-same true false a b is low high = let x : a ≡ 0 = omega (arith, is, low, high) in let y : b ≡ 0 = omega (arith, is, low, high) in rw (x, y) refl
rank-same false true a b is low high = let x : a ≡ 0 = omega (arith, is, low, high) in let y : b ≡ 0 = omega (arith, is, low, high) in rw (x, y) refl
rank-same false false a b is low high = ap pos (omega (arith, is, low, high))

int-less : (x y : ℤ) → x <ℤ y → int_cmp x y ≡ Less
int-less x y lt = sym (int_cmp_is x y Less lt)

int-equal : (x y : ℤ) → x ≡ y → int_cmp x y ≡ Equal
int-equal x y is = sym (int_cmp_is x y Equal is)

pub ranked-less : (down m n : Bool) (a b : ℕ) → turned_rank down (rank_of_size m a) < turned_rank down (rank_of_size n b) → turned down int_cmp (signed m a) (signed n b) ≡ Less
ranked-less true m n a b lt = int-less (signed n b) (signed m a) (rank-less n m b a (omega (arith, lt, rank-below m a, rank-below n b)))
ranked-less false m n a b lt = int-less (signed m a) (signed n b) (rank-less m n a b lt)

pub ranked-equal : (down m n : Bool) (a b : ℕ) → turned_rank down (rank_of_size m a) ≡ turned_rank down (rank_of_size n b) → 0 < turned_rank down (rank_of_size m a) → turned_rank down (rank_of_size m a) < 2 ^ 64 - 1
    → turned down int_cmp (signed m a) (signed n b) ≡ Equal
ranked-equal true m n a b is low high =
    let below = rank-below m a in
    let under = rank-below n b in
    int-equal (signed n b) (signed m a) (sym (rank-same m n a b (omega (arith, is, below, under)) (omega (arith, high, below)) (omega (arith, low, below))))
ranked-equal false m n a b is low high = int-equal (signed m a) (signed n b) (rank-same m n a b is low high)

pub turned-below : (down minus : Bool) (size : ℕ) → turned_rank down (rank_of_size minus size) ≤ 2 ^ 64 - 1
turned-below true minus size = omega arith
turned-below false minus size = rank-below minus size

pub exact-from : (rank : ℕ) → is_exact rank ≡ true → (0 < rank) × (rank < 2 ^ 64 - 1)
exact-from rank h = (grind (arith, nat_tests), grind (arith, nat_tests))

pub last-inexact : is_exact (2 ^ 64 - 1) ≡ false
last-inexact = refl
