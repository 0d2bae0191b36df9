-- The maps of words when an item's words come in and go out.
use Rattle.std.proofs.Common.{◌≡◌, ◌≢◌, ℕ, ◌+◌, ◌<◌, ◌≤◌, Bool, true, false, cond, Option, Some, None, unwrap_or, is_some, IsSome, refl, sym, ap, subst, ◌∙◌, arith}
use Rattle.std.specs.FinMap as fin
use Rattle.word_map.specs.WordMap.{WordMap, at, is_within, range_of, rest_of, union, Disjoint, HasJust}
use Rattle.word_map.proofs.Maps.{at-union_cond, at-range_in, at-range_out, at-rest_out, within_true, within_is, insert-keys}
use Rattle.dshash_core.specs.Chains.{word, most_words}
use Rattle.dshash_core.specs.Walk.{IsHungIn, IsTakenOut}
use Rattle.dshash_core.proofs.Chains.{word_same, word_other}

pub most_is : most_words ≡ 67108864
unfolding most_words
most_is = refl

some_of : (o : Option ℕ) → IsSome o → (x : ℕ) × (o ≡ Some x)
some_of (Some x) h = (x, refl)
some_of None h = cc

pub not_both : (m n : WordMap) → Disjoint m n → (k : ℕ) → IsSome (at m k) → IsSome (at n k) → ⊥
not_both m n d k a b = let x = some_of (at m k) a in let y = some_of (at n k) b in d k x.0 y.0 x.1 y.1

pub union_right : (m n : WordMap) (k : ℕ) → IsSome (at n k) → at (union m n) k ≡ at n k
union_right m n k h = at-union_cond m n k ∙ ap (λ (b : Bool). cond b (at n k) (at m k)) h

none_of : (b : Bool) → (b ≡ true → ⊥) → b ≡ false
none_of true h = absurd (h refl)
none_of false h = refl

pub union_left : (m n : WordMap) (k : ℕ) → Disjoint m n → IsSome (at m k) → at (union m n) k ≡ at m k
union_left m n k d h = at-union_cond m n k ∙ ap (λ (b : Bool). cond b (at n k) (at m k)) (none_of (is_some (at n k)) (λ b. not_both m n d k h b))

pub within_false : (from len k : ℕ) → (from ≤ k → k < from + len → ⊥) → is_within from len k ≡ false
within_false from len k h = none_of (is_within from len k) (λ e. let p = within_is from len k e in h p.0 p.1)

read : (o p : Option ℕ) → o ≡ p → unwrap_or o 0 ≡ unwrap_or p 0
read o p e = ap (λ (q : Option ℕ). unwrap_or q 0) e

pub hung_in : (m n v : WordMap) (link a first : ℕ) → Disjoint m n → IsSome (at m link) → IsSome (at n a) → word m link ≡ first
    → v ≡ fin.insert (fin.insert (union m n) a first) link a → ((k : ℕ) → IsSome (at v k) → k < 67108864) → IsHungIn m n v link a
hung_in m n v link a first d has_link has_a is_first v_is small = record {
  keeps = λ k h. keys k ∙ left_some k h;
  gains = λ k h. keys k ∙ right_some k h;
  below = λ k h. subst (λ (x : ℕ). k < x) (sym most_is) (small k h);
  apart = not_both m n d;
  linked = words link ∙ word_same w1 link a link refl;
  next = words a ∙ word_other w1 link a a (λ e. link_not_a (sym e)) ∙ word_same w0 a first a refl ∙ sym is_first;
  others = λ k h far. words k ∙ word_other w1 link a k far ∙ word_other w0 a first k (λ e. not_both m n d k h (subst (λ (x : ℕ). IsSome (at n x)) (sym e) has_a)) ∙ read (at w0 k) (at m k) (union_left m n k d h);
  body = λ k h far. words k ∙ word_other w1 link a k (λ e. not_both m n d k (subst (λ (x : ℕ). IsSome (at m x)) (sym e) has_link) h) ∙ word_other w0 a first k far ∙ read (at w0 k) (at n k) (union_right m n k h);
}
  where
    w0 : WordMap
    w0 = union m n

    w1 : WordMap
    w1 = fin.insert w0 a first

    words : (k : ℕ) → word v k ≡ word (fin.insert w1 link a) k
    words k = ap (λ (x : WordMap). word x k) v_is

    link_not_a : link ≢ a
    link_not_a e = not_both m n d link has_link (subst (λ (x : ℕ). IsSome (at n x)) (sym e) has_a)

    left_some : (k : ℕ) → IsSome (at m k) → is_some (at w0 k) ≡ true
    left_some k h = ap is_some (union_left m n k d h) ∙ h

    right_some : (k : ℕ) → IsSome (at n k) → is_some (at w0 k) ≡ true
    right_some k h = ap is_some (union_right m n k h) ∙ h

    keys : (k : ℕ) → is_some (at v k) ≡ is_some (at w0 k)
    keys k = ap (λ (x : WordMap). is_some (at x k)) v_is ∙ insert-keys w1 link a k (insert-keys w0 a first link (right_some a has_a) ∙ left_some link has_link) ∙ insert-keys w0 a first k (right_some a has_a)

pub taken_out : (m m1 v item : WordMap) (link a n next : ℕ) → IsSome (at m link) → 0 < n → (a ≤ link → a + n ≤ link) → word m a ≡ next
    → m1 ≡ fin.insert m link next → v ≡ rest_of m1 a n → item ≡ range_of m1 a n → ((k : ℕ) → IsSome (at v k) → k < 67108864) → IsTakenOut m v item link a n
taken_out m m1 v item link a n next has_link some far next_is m1_is v_is item_is small = record {
  keeps = λ k h out. ap is_some (left k out) ∙ ap (λ (x : WordMap). is_some (at x k)) m1_is ∙ insert-keys m link next k has_link ∙ h;
  below = λ k h. subst (λ (x : ℕ). k < x) (sym most_is) (small k h);
  linked = read (at v link) (at m1 link) (left link (λ low high. let z : a + n ≤ link = far low in let y : ⊥ = omega arith in y)) ∙ words link ∙ word_same m link next link refl ∙ sym next_is;
  others = λ k out other. read (at v k) (at m1 k) (left k out) ∙ words k ∙ word_other m link next k other;
  taken = λ k low high. read (at item k) (at m1 k) (inside k low high) ∙ words k ∙ word_other m link next k (λ e. let p : a ≤ link = omega arith in let z : a + n ≤ link = far p in let y : ⊥ = omega arith in y);
}
  where
    words : (k : ℕ) → word m1 k ≡ word (fin.insert m link next) k
    words k = ap (λ (x : WordMap). word x k) m1_is

    left : (k : ℕ) → (a ≤ k → k < a + n → ⊥) → at v k ≡ at m1 k
    left k out = ap (λ (x : WordMap). at x k) v_is ∙ at-rest_out m1 a n k (within_false a n k out)

    inside : (k : ℕ) → a ≤ k → k < a + n → at item k ≡ at m1 k
    inside k low high = ap (λ (x : WordMap). at x k) item_is ∙ at-range_in m1 a n k (within_true a n k low high)

pub taken_just : (m1 item : WordMap) (a n : ℕ) → ((k : ℕ) → a ≤ k → k < a + n → IsSome (at m1 k)) → item ≡ range_of m1 a n → HasJust item a n
taken_just m1 item a n owned item_is k = ap (λ (x : WordMap). is_some (at x k)) item_is ∙ go (is_within a n k) refl
  where
    go : (b : Bool) → is_within a n k ≡ b → is_some (at (range_of m1 a n) k) ≡ is_within a n k
    go true e = let p = within_is a n k e in ap is_some (at-range_in m1 a n k e) ∙ owned k p.0 p.1 ∙ sym e
    go false e = ap is_some (at-range_out m1 a n k e) ∙ sym e

pub left_word : (m n : WordMap) (k : ℕ) → Disjoint m n → IsSome (at m k) → word (union m n) k ≡ word m k
left_word m n k d h = read (at (union m n) k) (at m k) (union_left m n k d h)
