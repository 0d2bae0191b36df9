-- The columns of a key, one at a time.
use Rattle.std.proofs.Common.{◌≡◌, ◌<◌, ◌≤◌, ◌+◌, ◌-◌, ◌∷◌, [], ℕ, suc, List, refl, ap, sym, ◌∙◌, arith}
use Rattle.std.specs.Cmp.{IsTotalOrder}
use Rattle.std.specs.Cmp.Lexicographic.{lists_total, nat_list_cmp_total, slice_cmp}
use Rattle.std.specs.Ordering.{nat_cmp, ordering_then}
use Rattle.std.specs.declared.cmp.Ordering.{Ordering}
use Rattle.std.specs.declared.cmp.Ordering.TheVariants.{Equal, Greater, Less}
use Rattle.par_model.specs.Table.{columns_cmp}
use Rattle.result_text.specs.KeyColumns.{after_first_column, columns_in, first_column}

-- where one column more is to be read
pub columns_in-more : (count at : ℕ) (key : List ℕ) → at < count → columns_in (count - at) key ≡ first_column key ∷ columns_in (count - (at + 1)) (after_first_column key)
columns_in-more count at key lt =
    let e : count - at ≡ suc (count - (at + 1)) = omega arith in
    rw e refl

-- where none is left
pub columns_in-end : (count at : ℕ) (key : List ℕ) → count ≤ at → columns_in (count - at) key ≡ []
columns_in-end count at key le =
    let e : count - at ≡ 0 = omega arith in
    rw e refl

-- two keys compare by their first columns, and then by the others
pub columns_cmp-more : (count at : ℕ) (a b : List ℕ) → at < count
    → columns_cmp (columns_in (count - at) a) (columns_in (count - at) b)
    ≡ ordering_then (slice_cmp nat_cmp (first_column a) (first_column b)) (columns_cmp (columns_in (count - (at + 1)) (after_first_column a)) (columns_in (count - (at + 1)) (after_first_column b)))
columns_cmp-more count at a b lt =
    let e : count - at ≡ suc (count - (at + 1)) = omega arith in
    rw e refl

-- all columns are left at the start
pub columns_in-start : (count : ℕ) (key : List ℕ) → columns_in (count - 0) key ≡ columns_in count key
columns_in-start count key =
    let e : count - 0 ≡ count = omega arith in
    rw e refl

pub columns_cmp-start : (count : ℕ) (a b : List ℕ) → columns_cmp (columns_in (count - 0) a) (columns_in (count - 0) b) ≡ columns_cmp (columns_in count a) (columns_in count b)
columns_cmp-start count a b =
    let e : count - 0 ≡ count = omega arith in
    rw e refl

pub columns_cmp-end : (count at : ℕ) (a b : List ℕ) → count ≤ at → columns_cmp (columns_in (count - at) a) (columns_in (count - at) b) ≡ Equal
columns_cmp-end count at a b le =
    let e : count - at ≡ 0 = omega arith in
    rw e refl

-- where the first columns are equal, the others decide
pub columns_cmp-equal : (count at : ℕ) (a b x y more_a more_b : List ℕ) (whole : Ordering) → at < count
    → x ≡ first_column a → more_a ≡ after_first_column a → y ≡ first_column b → more_b ≡ after_first_column b
    → Equal ≡ slice_cmp nat_cmp x y → columns_cmp (columns_in (count - at) a) (columns_in (count - at) b) ≡ whole
    → columns_cmp (columns_in (count - (at + 1)) more_a) (columns_in (count - (at + 1)) more_b) ≡ whole
columns_cmp-equal count at a b x y more_a more_b whole lt is_x is_a is_y is_b equal h =
    let first : slice_cmp nat_cmp (first_column a) (first_column b) ≡ Equal = ap (λ (t : List ℕ). slice_cmp nat_cmp t (first_column b)) (sym is_x) ∙ ap (slice_cmp nat_cmp x) (sym is_y) ∙ sym equal in
    rw (is_a, is_b) (sym (columns_cmp-more count at a b lt ∙ ap (λ (o : Ordering). ordering_then o (columns_cmp (columns_in (count - (at + 1)) (after_first_column a)) (columns_in (count - (at + 1)) (after_first_column b)))) first) ∙ h)

-- and where they are not, they decide
decides : (r s : Ordering) → (r ≡ Equal → ⊥) → ordering_then r s ≡ r
decides Less s other = refl
decides Equal s other = absurd (other refl)
decides Greater s other = refl

pub columns_cmp-unequal : (count at : ℕ) (a b x y : List ℕ) (r whole : Ordering) → at < count
    → x ≡ first_column a → y ≡ first_column b → r ≡ slice_cmp nat_cmp x y → (r ≡ Equal → ⊥)
    → columns_cmp (columns_in (count - at) a) (columns_in (count - at) b) ≡ whole → r ≡ whole
columns_cmp-unequal count at a b x y r whole lt is_x is_y is other h =
    let first : slice_cmp nat_cmp (first_column a) (first_column b) ≡ r = ap (λ (t : List ℕ). slice_cmp nat_cmp t (first_column b)) (sym is_x) ∙ ap (slice_cmp nat_cmp x) (sym is_y) ∙ sym is in
    let rest = columns_cmp (columns_in (count - (at + 1)) (after_first_column a)) (columns_in (count - (at + 1)) (after_first_column b)) in
    sym (decides r rest other) ∙ sym (columns_cmp-more count at a b lt ∙ ap (λ (o : Ordering). ordering_then o rest) first) ∙ h

-- the order of lists of columns is total
pub columns_total : IsTotalOrder columns_cmp
columns_total = lists_total nat_list_cmp_total
