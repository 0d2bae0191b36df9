-- The numbers of this many rows, one after the other.
use Rattle.std.proofs.Common.{◌≡◌, ◌+◌, ◌++◌, ℕ, zero, suc, Bool, true, false, cond, filter, not, List, [], ◌∷◌, drop, length, refl, ap, sym, ◌∙◌, arith, append-nil}
use mathlib.Core.Bool.{beq}
use Rattle.std.specs.List.{range_with_len}
use Rattle.std.proofs.lemmas.List.Elements.{filter-append}
use Rattle.scan_claim.specs.Drawing.{below}
use Rattle.row_blocks.specs.Blocks.{Table, numbers_of}
use Rattle.join_pairs.specs.declared.pairs.Pair.{Pair}
use Rattle.join_kinds.specs.declared.partners.Side.{Side}
use Rattle.join_kinds.specs.Partners.{has_pair, numbers_to, rows_that}

range_more : (a n : ℕ) → range_with_len a (suc n) ≡ range_with_len a n ++ (a + n) ∷ []
range_more a zero = let e : a ≡ a + 0 = omega arith in ap (λ (k : ℕ). k ∷ []) e
range_more a (suc n) =
    let e : a + 1 + n ≡ a + suc n = omega arith in
    ap (λ (l : List ℕ). a ∷ l) (range_more (a + 1) n ∙ ap (λ (k : ℕ). range_with_len (a + 1) n ++ k ∷ []) e)

-- one more row
pub numbers_more : (at : ℕ) → numbers_to (at + 1) ≡ numbers_to at ++ (at + 1) ∷ []
numbers_more at =
    let more : at + 1 ≡ suc at = omega arith in
    let last : 1 + at ≡ at + 1 = omega arith in
    ap (range_with_len 1) more ∙ range_more 1 at ∙ ap (λ (k : ℕ). numbers_to at ++ k ∷ []) last

below_range : (n : ℕ) → below n ≡ range_with_len 0 n
below_range zero = refl
below_range (suc n) =
    let e : n ≡ 0 + n = omega arith in
    ap (λ (l : List ℕ). l ++ n ∷ []) (below_range n) ∙ ap (λ (k : ℕ). range_with_len 0 n ++ k ∷ []) e ∙ sym (range_more 0 n)

-- the rows of a table count from 1
pub numbers_are : (records : Table) (rows : ℕ) → rows + 1 ≡ length records → numbers_of records ≡ numbers_to rows
numbers_are records rows e =
    let more : length records ≡ suc rows = omega (arith, e) in
    ap (λ (n : ℕ). drop 1 (below n)) more ∙ ap (drop 1) (below_range (suc rows))

filter_more : (p : ℕ → Bool) (at : ℕ) (b : Bool) → p (at + 1) ≡ b → filter p (numbers_to (at + 1)) ≡ filter p (numbers_to at) ++ cond {A = List ℕ} b ((at + 1) ∷ []) []
filter_more p at b e =
    ap (filter p) (numbers_more at) ∙ filter-append p (numbers_to at) ((at + 1) ∷ []) ∙ ap (λ c. filter p (numbers_to at) ++ cond {A = List ℕ} c ((at + 1) ∷ []) []) e

same_flag : (b c : Bool) → beq b c ≡ true → b ≡ c
same_flag true true e = refl
same_flag true false e = cc
same_flag false true e = cc
same_flag false false e = refl

other_flag : (b c : Bool) → beq b c ≡ false → b ≡ not c
other_flag true true e = cc
other_flag true false e = refl
other_flag false true e = refl
other_flag false false e = cc

-- the next row is one of those that are wanted
pub rows_next : (paired : Bool) (side : Side) (pairs : List Pair) (at : ℕ) (flag : Bool) → flag ≡ has_pair side pairs (at + 1) → beq flag paired ≡ true → rows_that paired side pairs (at + 1) ≡ rows_that paired side pairs at ++ (at + 1) ∷ []
rows_next true side pairs at flag e s = filter_more (has_pair side pairs) at true (sym e ∙ same_flag flag true s)
rows_next false side pairs at flag e s = filter_more (λ row. not (has_pair side pairs row)) at true (ap not (sym e ∙ same_flag flag false s))

-- or it is not
pub rows_pass : (paired : Bool) (side : Side) (pairs : List Pair) (at : ℕ) (flag : Bool) → flag ≡ has_pair side pairs (at + 1) → beq flag paired ≡ false → rows_that paired side pairs (at + 1) ≡ rows_that paired side pairs at
rows_pass true side pairs at flag e n = filter_more (has_pair side pairs) at false (sym e ∙ other_flag flag true n) ∙ append-nil (filter (has_pair side pairs) (numbers_to at))
rows_pass false side pairs at flag e n =
    filter_more (λ row. not (has_pair side pairs row)) at false (ap not (sym e ∙ other_flag flag false n)) ∙ append-nil (filter (λ row. not (has_pair side pairs row)) (numbers_to at))
