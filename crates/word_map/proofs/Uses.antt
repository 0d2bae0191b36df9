-- Facts about the words of a part that its users cite: what a part has after a cut, a join and a store.
use Rattle.std.proofs.Common.{◌≡◌, ℕ, ◌+◌, ◌<◌, ◌≤◌, Bool, true, false, cond, Option, Some, None, IsSome, is_some, refl, sym, ap, ◌∙◌, arith}
use Rattle.std.proofs.lemmas.Bool.{false_from_ne_true}
use Rattle.word_map.specs.WordMap.{WordMap, at, is_within, range_of, rest_of, union, Has, Disjoint, HasJust}
use Rattle.word_map.proofs.Maps.{at-range, at-rest_cond, at-union_cond, within_is}

-- the value that is there is one
pub some_same : (x y : ℕ) → Some x ≡ Some y → x ≡ y
some_same x y e = cc

-- a word that is there has a value
pub has_some : (m : WordMap) (k : ℕ) → IsSome (at m k) → Has m k
has_some m k h = go (at m k) refl h
  where
    go : (o : Option ℕ) → at m k ≡ o → IsSome o → Has m k
    go (Some x) e s = (x, e)
    go None e s = cc

-- a range that is all there has just its words
pub range-there : (m : WordMap) (from len : ℕ) → ((k : ℕ) → from ≤ k → k < from + len → IsSome (at m k)) → HasJust (range_of m from len) from len
range-there m from len owns k = ap is_some (at-range m from len k) ∙ go (is_within from len k) refl
  where
    go : (b : Bool) → is_within from len k ≡ b → is_some (cond b (at m k) None) ≡ is_within from len k
    go true e = (let i = within_is from len k e in owns k i.0 i.1) ∙ sym e
    go false e = sym e

-- words before a range that is cut off stay
pub rest-before : (m : WordMap) (from len k : ℕ) → k < from → at (rest_of m from len) k ≡ at m k
rest-before m from len k h =
    at-rest_cond m from len k ∙ ap (λ (b : Bool). cond b None (at m k)) (false_from_ne_true (is_within from len k) (λ e. let i = within_is from len k e in omega (arith, i.0)))

-- words behind it stay
pub rest-behind : (m : WordMap) (from len k : ℕ) → from + len ≤ k → at (rest_of m from len) k ≡ at m k
rest-behind m from len k h =
    at-rest_cond m from len k ∙ ap (λ (b : Bool). cond b None (at m k)) (false_from_ne_true (is_within from len k) (λ e. let i = within_is from len k e in omega (arith, i.1)))

-- so the part still has them
pub rest-has_before : (m : WordMap) (from len k : ℕ) → k < from → IsSome (at m k) → IsSome (at (rest_of m from len) k)
rest-has_before m from len k h s = ap is_some (rest-before m from len k h) ∙ s

pub rest-has_behind : (m : WordMap) (from len k : ℕ) → from + len ≤ k → IsSome (at m k) → IsSome (at (rest_of m from len) k)
rest-has_behind m from len k h s = ap is_some (rest-behind m from len k h) ∙ s

-- maps apart don't both have a word
pub not-both : (m n : WordMap) (k : ℕ) → Disjoint m n → IsSome (at m k) → IsSome (at n k) → ⊥
not-both m n k apart a b = let x = has_some m k a in let y = has_some n k b in apart k x.0 y.0 x.1 y.1

-- a join leaves the words of the first, where the two are apart
pub union-left : (m n : WordMap) (k : ℕ) → Disjoint m n → IsSome (at m k) → at (union m n) k ≡ at m k
union-left m n k apart h =
    at-union_cond m n k ∙ ap (λ (b : Bool). cond b (at n k) (at m k)) (false_from_ne_true (is_some (at n k)) (λ b. not-both m n k apart h b))

-- and those of the second
pub union-right : (m n : WordMap) (k : ℕ) → IsSome (at n k) → at (union m n) k ≡ at n k
union-right m n k h = at-union_cond m n k ∙ ap (λ (b : Bool). cond b (at n k) (at m k)) h
