-- The pairs of two tables stand in order.
use Rattle.std.proofs.Common.{◌≡◌, ◌<◌, ◌≤◌, ◌++◌, ℕ, zero, suc, Bool, true, false, cond, filter, List, [], ◌∷◌, drop, map, refl, ap, ◌∙◌, arith}
use Rattle.std.specs.Cmp.{IsTotalOrder, nat_cmp_total, on_total, ranks, then_total, tied_itself}
use Rattle.std.specs.List.{AllByRecursion, flat_map}
use Rattle.std.specs.Ordering.{MatchOrdering, is_lt, nat_cmp, ordering_then}
use Rattle.std.specs.declared.cmp.Ordering.{Ordering}
use Rattle.std.specs.declared.cmp.Ordering.TheVariants.{Less, Equal, Greater}
use Rattle.scan_claim.specs.Drawing.{below}
use Rattle.join_pairs.specs.Law.{pair_cmp}
use Rattle.join_pairs.specs.declared.pairs.Pair.{Pair}
use Rattle.join_pairs.proofs.Exchange.{with_first}
use Rattle.join_pairs.proofs.Ordered.{After, NotBefore, Rises, all-append, rises-append}

-- ---- the order of pairs

pub pairs_total : IsTotalOrder pair_cmp
pairs_total = then_total (on_total (λ (p : Pair). p.left) nat_cmp_total) (on_total (λ (p : Pair). p.right) nat_cmp_total)

abbrev pub pair : ℕ → ℕ → Pair
pair l r = record { left = l; right = r }

first_level : (r s : Ordering) → ordering_then r s ≡ Equal → r ≡ Equal
first_level Less s e = cc
first_level Equal s e = refl
first_level Greater s e = cc

second_level : (r s : Ordering) → ordering_then r s ≡ Equal → s ≡ Equal
second_level Less s e = cc
second_level Equal s e = e
second_level Greater s e = cc

same_number : (a b : ℕ) (r : Ordering) → MatchOrdering r (a < b) (a ≡ b) (b < a) → r ≡ Equal → a ≡ b
same_number a b Less m e = cc
same_number a b Equal m e = m
same_number a b Greater m e = cc

pub pairs_apart : (p q : Pair) → pair_cmp p q ≡ Equal → p ≡ q
pairs_apart p q e =
    let lefts : p.left ≡ q.left = same_number p.left q.left (nat_cmp p.left q.left) (ranks p.left q.left) (first_level (nat_cmp p.left q.left) (nat_cmp p.right q.right) e) in
    let rights : p.right ≡ q.right = same_number p.right q.right (nat_cmp p.right q.right) (ranks p.right q.right) (second_level (nat_cmp p.left q.left) (nat_cmp p.right q.right) e) in
    ap (λ l. pair l p.right) lefts ∙ ap (λ r. pair q.left r) rights

not_less_by : (a b : ℕ) (r : Ordering) → MatchOrdering r (a < b) (a ≡ b) (b < a) → b ≤ a → is_lt r ≡ false
not_less_by a b Less m h = absurd (omega (arith, m, h))
not_less_by a b Equal m h = refl
not_less_by a b Greater m h = refl

not_less : (a b : ℕ) → b ≤ a → is_lt (nat_cmp a b) ≡ false
not_less a b h = not_less_by a b (nat_cmp a b) (ranks a b) h

greater_by : (a b : ℕ) (r : Ordering) → MatchOrdering r (a < b) (a ≡ b) (b < a) → b < a → r ≡ Greater
greater_by a b Less m h = absurd (omega (arith, m, h))
greater_by a b Equal m h = absurd (omega (arith, m, h))
greater_by a b Greater m h = refl

later_right : (l r s : ℕ) → r < s → NotBefore pair_cmp (pair l s) (pair l r)
later_right l r s h = ap (λ o. is_lt (ordering_then o (nat_cmp s r))) (tied_itself nat_cmp_total l) ∙ not_less s r (omega (arith, h))

later_left : (p q : Pair) → p.left < q.left → NotBefore pair_cmp q p
later_left p q h = ap (λ o. is_lt (ordering_then o (nat_cmp q.right p.right))) (greater_by q.left p.left (nat_cmp q.left p.left) (ranks q.left p.left) h)

-- ---- numbers that rise

abbrev pub Up : List ℕ → Type 0
Up [] = Unit {0}
Up (x ∷ xs) = AllByRecursion (λ y. x < y) xs × Up xs

all_weaker : {X : Type 0} (P Q : X → Type 0) → ((x : X) → P x → Q x) → (xs : List X) → AllByRecursion P xs → AllByRecursion Q xs
all_weaker P Q f [] h = tt
all_weaker P Q f (x ∷ xs) h = (f x h.0, all_weaker P Q f xs h.1)

all_push : (P : ℕ → Type 0) (xs : List ℕ) (n : ℕ) → AllByRecursion P xs → P n → AllByRecursion P (xs ++ n ∷ [])
all_push P [] n h p = (p, tt)
all_push P (x ∷ xs) n h p = (h.0, all_push P xs n h.1 p)

up_push : (xs : List ℕ) (n : ℕ) → Up xs → AllByRecursion (λ x. x < n) xs → Up (xs ++ n ∷ [])
up_push [] n u h = (tt, tt)
up_push (x ∷ xs) n u h = (all_push (λ y. x < y) xs n u.0 h.0, up_push xs n u.1 h.1)

all_below : (n : ℕ) → AllByRecursion (λ x. x < n) (below n)
all_below zero = tt
all_below (suc n) = all_push (λ x. x < suc n) (below n) n (all_weaker (λ x. x < n) (λ x. x < suc n) (λ x h. omega (arith, h)) (below n) (all_below n)) (omega arith)

pub below_up : (n : ℕ) → Up (below n)
below_up zero = tt
below_up (suc n) = up_push (below n) n (below_up n) (all_below n)

pub up_drop : (xs : List ℕ) → Up xs → Up (drop 1 xs)
up_drop [] u = tt
up_drop (x ∷ xs) u = u.1

all_filter : {X : Type 0} (P : X → Type 0) (p : X → Bool) (xs : List X) → AllByRecursion P xs → AllByRecursion P (filter p xs)
all_filter P p [] h = tt
all_filter {X = X} P p (x ∷ xs) h = by (p x) (all_filter P p xs h.1)
  where
    by : (b : Bool) → AllByRecursion P (filter p xs) → AllByRecursion P (cond {A = List X} b (x ∷ filter p xs) (filter p xs))
    by true rest = (h.0, rest)
    by false rest = rest

up_filter : (p : ℕ → Bool) (xs : List ℕ) → Up xs → Up (filter p xs)
up_filter p [] u = tt
up_filter p (x ∷ xs) u = by (p x) (all_filter (λ y. x < y) p xs u.0) (up_filter p xs u.1)
  where
    by : (b : Bool) → AllByRecursion (λ y. x < y) (filter p xs) → Up (filter p xs) → Up (cond {A = List ℕ} b (x ∷ filter p xs) (filter p xs))
    by true all rest = (all, rest)
    by false all rest = rest

-- ---- pairs in order

all_map : {X Y : Type 0} (P : Y → Type 0) (f : X → Y) (xs : List X) → AllByRecursion (λ x. P (f x)) xs → AllByRecursion P (map f xs)
all_map P f [] h = tt
all_map P f (x ∷ xs) h = (h.0, all_map P f xs h.1)

row_rises : (l : ℕ) (rs : List ℕ) → Up rs → Rises pair_cmp (map (pair l) rs)
row_rises l [] u = tt
row_rises l (r ∷ rs) u = (all_map (λ p. NotBefore pair_cmp p (pair l r)) (pair l) rs (all_weaker (λ s. r < s) (λ s. NotBefore pair_cmp (pair l s) (pair l r)) (λ s h. later_right l r s h) rs u.0), row_rises l rs u.1)

row_before : (l : ℕ) (rs : List ℕ) (ps : List Pair) → AllByRecursion (λ (p : Pair). l < p.left) ps → After pair_cmp (map (pair l) rs) ps
row_before l [] ps h = tt
row_before l (r ∷ rs) ps h = (all_weaker (λ (p : Pair). l < p.left) (λ p. NotBefore pair_cmp p (pair l r)) (λ p k. later_left (pair l r) p k) ps h, row_before l rs ps h)

all_left : (P : ℕ → Type 0) (l : ℕ) (rs : List ℕ) → P l → AllByRecursion (λ (p : Pair). P p.left) (map (pair l) rs)
all_left P l [] h = tt
all_left P l (r ∷ rs) h = (h, all_left P l rs h)

module _ (p : ℕ → ℕ → Bool) (rs : List ℕ) where
  all_rows : (P : ℕ → Type 0) (ls : List ℕ) → AllByRecursion P ls → AllByRecursion (λ (q : Pair). P q.left) (flat_map (with_first p pair rs) ls)
  all_rows P [] h = tt
  all_rows P (l ∷ ls) h = all-append pair_cmp (λ (q : Pair). P q.left) (with_first p pair rs l) (flat_map (with_first p pair rs) ls) (all_left P l (filter (p l) rs) h.0) (all_rows P ls h.1)

  pub joined_rises : (ls : List ℕ) → Up ls → Up rs → Rises pair_cmp (flat_map (with_first p pair rs) ls)
  joined_rises [] u v = tt
  joined_rises (l ∷ ls) u v =
      rises-append pair_cmp (with_first p pair rs l) (flat_map (with_first p pair rs) ls) (row_rises l (filter (p l) rs) (up_filter (p l) rs v)) (joined_rises ls u.1 v)
      (row_before l (filter (p l) rs) (flat_map (with_first p pair rs) ls) (all_rows (λ m. l < m) ls u.0))
