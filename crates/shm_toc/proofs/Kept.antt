-- The words that a table kept, beside those that it holds.
use Rattle.std.proofs.Common.{◌≡◌, ℕ, ◌+◌, ◌<◌, ◌≤◌, Bool, true, false, cond, Option, Some, None, IsSome, is_some, refl, sym, ap, subst, ◌∙◌, ⊎_elim, arith}
use Rattle.std.proofs.lemmas.Bool.{false_from_ne_true}
use Rattle.word_map.specs.WordMap.{WordMap, at, is_within, range_of, rest_of, union, Disjoint, HasJust}
use Rattle.word_map.proofs.Maps.{at-range_out, at-rest_out, at-union_cond, union_from, same_answers, just_has, within_is, range-union, rest-union}
use Rattle.word_map.proofs.Uses.{has_some, not-both, union-right}
use Rattle.region_words.specs.Parts.{Owned, owned}
use Rattle.shm_toc.specs.Held.{HasNoMore, IsKept}

-- words apart stay so when some of the first go out
pub still_apart : (old new kept : WordMap) → Disjoint old kept → HasNoMore old new → Disjoint new kept
still_apart old new kept apart fewer k x y a b = let w = has_some old k (fewer k (ap is_some a)) in apart k w.0 y w.1 b

-- words are apart from two maps at once
pub apart_from_both : (m n o : WordMap) → Disjoint m n → Disjoint m o → Disjoint m (union n o)
apart_from_both m n o a b k x y p q = ⊎_elim
    (λ (e : at o k ≡ Some y). b k x y p e)
    (λ (e : at n k ≡ Some y). a k x y p e)
    (union_from n o k y q)

-- a word that stays does so beside what was kept
pub stays_beside : (old new kept : WordMap) (k : ℕ) → at new k ≡ at old k → at (union new kept) k ≡ at (union old kept) k
stays_beside old new kept k e =
    at-union_cond new kept k ∙ ap (λ (o : Option ℕ). cond (is_some (at kept k)) (at kept k) o) e ∙ sym (at-union_cond old kept k)

-- a word that goes out does so beside what was kept
pub goes_beside : (old new kept : WordMap) (from len k : ℕ) → Disjoint old kept → (is_within from len k ≡ true → IsSome (at old k)) → at new k ≡ cond (is_within from len k) None (at old k)
    → at (union new kept) k ≡ cond (is_within from len k) None (at (union old kept) k)
goes_beside old new kept from len k apart had e = go (is_within from len k) refl
  where
    go : (b : Bool) → is_within from len k ≡ b → at (union new kept) k ≡ cond b None (at (union old kept) k)
    go true w =
        at-union_cond new kept k
        ∙ ap (λ b. cond b (at kept k) (at new k)) (false_from_ne_true (is_some (at kept k)) (λ z. not-both old kept k apart (had w) z))
        ∙ e ∙ ap (λ b. cond b None (at old k)) w
    go false w = stays_beside old new kept k (e ∙ ap (λ b. cond b None (at old k)) w)

three : (m n o : Option ℕ) → cond (is_some (cond (is_some o) o n)) (cond (is_some o) o n) m ≡ cond (is_some o) o (cond (is_some n) n m)
three m n (Some x) = refl
three m n None = refl

-- it is one whether words are put to the kept ones or to all
pub union_assoc : (m n o : WordMap) → union m (union n o) ≡ union (union m n) o
union_assoc m n o = same_answers (union m (union n o)) (union (union m n) o) (λ k.
    at-union_cond m (union n o) k
    ∙ ap (λ (p : Option ℕ). cond (is_some p) p (at m k)) (at-union_cond n o k)
    ∙ three (at m k) (at n k) (at o k)
    ∙ ap (λ (p : Option ℕ). cond (is_some (at o k)) (at o k) p) (sym (at-union_cond m n k))
    ∙ sym (at-union_cond (union m n) o k))

-- the part p is o with the words of x, which stand in a row
pub record IsJoined (o x p : Owned) (from len : ℕ) : Type 0 where
  pub both : p ≡ owned o.region (union o.words x.words)
  pub apart : Disjoint o.words x.words
  pub row : HasJust x.words from len

-- it has the row
pub joined_has : (o x p : Owned) (from len : ℕ) → IsJoined o x p from len → (k : ℕ) → from ≤ k → k < from + len → IsSome (at p.words k)
joined_has o x p from len j k low high =
    let has = just_has x.words from len k j.row low high in
    ap is_some (ap (λ (z : Owned). at z.words k) j.both ∙ union-right o.words x.words k has) ∙ has

-- cut off again, the row is as it was
pub row_again : (o x p y : Owned) (from len : ℕ) → IsJoined o x p from len → o.region ≡ x.region → y ≡ owned p.region (range_of p.words from len) → y ≡ x
row_again o x p y from len j here e =
    e ∙ ap (λ (z : Owned). owned z.region (range_of z.words from len)) j.both ∙ (λ i. owned (here i) (range-union o.words x.words from len j.row i))

-- and so is the part
pub part_again : (o x p q : Owned) (from len : ℕ) → IsJoined o x p from len → q ≡ owned p.region (rest_of p.words from len) → q ≡ o
part_again o x p q from len j e =
    e ∙ ap (λ (z : Owned). owned z.region (rest_of z.words from len)) j.both ∙ ap (owned o.region) (rest-union o.words x.words from len j.apart j.row)

nothing_within : (k : ℕ) → is_within 0 0 k ≡ false
nothing_within k = false_from_ne_true (is_within 0 0 k) (λ e. let w = within_is 0 0 k e in omega (arith, w.1))

-- a cut of no words: what is cut off has none
none_at : (o x : Owned) → x ≡ owned o.region (range_of o.words 0 0) → (k : ℕ) → at x.words k ≡ None
none_at o x e k = ap (λ (z : Owned). at z.words k) e ∙ at-range_out o.words 0 0 k (nothing_within k)

pub none_row : (o x : Owned) → x ≡ owned o.region (range_of o.words 0 0) → HasJust x.words 0 0
none_row o x e k = ap is_some (none_at o x e k) ∙ sym (nothing_within k)

-- and what is left is as before
pub rest_of_none : (o p : Owned) → p ≡ owned o.region (rest_of o.words 0 0) → p ≡ o
rest_of_none o p e = e ∙ ap (owned o.region) (same_answers (rest_of o.words 0 0) o.words (λ k. at-rest_out o.words 0 0 k (nothing_within k)))

pub apart_from_none : (m : WordMap) (o x : Owned) → x ≡ owned o.region (range_of o.words 0 0) → Disjoint m x.words
apart_from_none m o x e k a b p q = let n : Some b ≡ None = sym q ∙ none_at o x e k in cc

pub stays_with_none : (m : WordMap) (o x : Owned) (k : ℕ) → x ≡ owned o.region (range_of o.words 0 0) → at (union m x.words) k ≡ at m k
stays_with_none m o x k e = at-union_cond m x.words k ∙ ap (λ (z : Option ℕ). cond (is_some z) z (at m k)) (none_at o x e k)

-- a table that keeps a chunk more
pub keeps_more : (g h k l x y : Owned) → IsKept g k → h ≡ g → y ≡ x → Disjoint g.words x.words → l ≡ owned k.region (union k.words y.words) → IsKept h l
keeps_more g h k l x y is same chunk apart more =
    let all = more ∙ ap (λ (z : Owned). owned k.region (union k.words z.words)) chunk in
    subst (λ (z : Owned). IsKept z l) (sym same) (subst (IsKept g) (sym all) (record {
      table = is.table;
      here = is.here;
      apart = apart_from_both g.words k.words x.words is.apart apart;
    }))

-- has the words of the chunk beside those that it had
pub keeps_all : (g h k l x y : Owned) → h ≡ g → y ≡ x → l ≡ owned k.region (union k.words y.words) → union h.words l.words ≡ union (union g.words k.words) x.words
keeps_all g h k l x y same chunk more =
    let all = more ∙ ap (λ (z : Owned). owned k.region (union k.words z.words)) chunk in
    (λ i. union (same i).words (all i).words) ∙ union_assoc g.words k.words x.words
