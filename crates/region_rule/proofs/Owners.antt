-- The steps of an owner: load, store, split, join and freeze. And those of a token that shares frozen words.
use Rattle.std.proofs.Common.{Option, ◌≡◌, ◌≢◌, ◌⊎◌, ℕ, zero, suc, ◌<◌, List, [], ◌∷◌, slice_set, Some, None, refl, sym, ap, subst, ◌∙◌, inl, inr, ⊎_elim, arith}
use mathlib.Core.Option.{some, some-injective, some-ne-none}
use mathlib.Core.Logic.{dite}
use native.Mathlib.Decide.{ℕ_discrete}
use lib.ListN.{get_elem?}
use Rattle.std.specs.FinMap as fin
use Rattle.atomic_table.proofs.Lists.{at_set, set_here, set_else}
use Rattle.word_map.specs.WordMap.{WordMap, at, range_of, rest_of, union, numbered, Has, Disjoint}
use Rattle.word_map.proofs.Maps.{at-insert, range_inside, rest_inside, rest-range_disjoint, at-union, or_else, union_from, numbered_from}
use Rattle.ring_rule.proofs.Stored.{in_list}
use Rattle.region_rule.specs.View.{View, Own, Frozen, Spent, Olds, role}
use Rattle.region_rule.specs.Sound.{World, Sees, AreWords, Agrees, Honest, Beside, HasPartner, Sound}
use Rattle.region_rule.specs.Steps.{seen_anew, written_anew, cut_anew, joined_anew, opening}
use Rattle.region_rule.proofs.Turns.{set_swap, turn, turn_still, arrive, words_set}
use Rattle.region_rule.proofs.Apart.{honest_set, thirds_set}

-- an owner that has no word more stands with each other as before
own_beside : (words words' : List ℕ) (m n : WordMap) (o p : Olds) (x : View) → ((k : ℕ) → Has n k → Has m k) → Beside words (Own m o) x → Beside words' (Own n p) x × Beside words' x (Own n p)
own_beside words words' m n o p x sub b = (λ k h g. absurd (b k (sub k h) g), λ k g h. absurd (b k (sub k h) g))

agrees_insert : (words : List ℕ) (m : WordMap) (k y : ℕ) → Has m k → Agrees words m → Agrees (slice_set words k y) (fin.insert m k y)
agrees_insert words m k y has a j x e = ⊎_elim
    (λ (p : (j ≡ k) × (y ≡ x)). subst (λ (q : ℕ). get_elem? (slice_set words k y) q ≡ some x) (sym p.0) (set_here words k y (in_list words k has.0 (a k has.0 has.1)) ∙ ap some p.1))
    (λ (p : (j ≢ k) × (at m j ≡ Some x)). set_else words k j y p.0 ∙ a j x p.1)
    (at-insert m k y j x e)

has_insert : (m : WordMap) (k y : ℕ) → Has m k → (j : ℕ) → Has (fin.insert m k y) j → Has m j
has_insert m k y has j h = ⊎_elim
    (λ (p : (j ≡ k) × (y ≡ h.0)). subst (Has m) (sym p.0) has)
    (λ (p : (j ≢ k) × (at m j ≡ Some h.0)). (h.0, p.1))
    (at-insert m k y j h.0 h.1)

pub loads : (w : World) (i : ℕ) (m : WordMap) (o : Olds) → Sound w → Sees w i (Own m o) → Sound (seen_anew w i (Own m None))
loads w i m o s here = turn_still w i (Own m o) (Own m None) s here refl ((s.honest i (Own m o) here).0, tt)
    (λ j x n at_j b. own_beside w.words w.words m m o None x (λ k g. g) b)

pub stores : (w : World) (i k y : ℕ) (m : WordMap) (o : Olds) → Sound w → Sees w i (Own m o) → Has m k → y < 18446744073709551616 → Sound (written_anew w k y i (Own (fin.insert m k y) o))
stores w i k y m o s here has small = turn w i (Own m o) (Own (fin.insert m k y) o) (slice_set w.words k y) s (words_set w.words k y s.fits small) here refl
    (agrees_insert w.words m k y has (s.honest i (Own m o) here).0, (s.honest i (Own m o) here).1)
    (λ j x n at_j b h. let c = own_beside w.words (slice_set w.words k y) m (fin.insert m k y) o o x (has_insert m k y has) b in
    (honest_set w.words k y x (λ g. b k has g) h, c.0, c.1))
    (thirds_set w i (Own m o) k y s here tt has)

pub splits : (w : World) (i from len : ℕ) (m : WordMap) (o : Olds) → Sound w → Sees w i (Own m o)
    → Sound (cut_anew w i (Own (rest_of m from len) o) (Own (range_of m from len) None))
splits w i from len m o s here =
    let rest = rest_of m from len in
    let range = range_of m from len in
    let a : Agrees w.words m = (s.honest i (Own m o) here).0 in
    let first : Sound (seen_anew w i (Own rest o)) =
    turn_still w i (Own m o) (Own rest o) s here refl (λ k x e. a k x (rest_inside m from len k x e).1, (s.honest i (Own m o) here).1)
    (λ j x n at_j b. own_beside w.words w.words m rest o o x (λ k g. (g.0, (rest_inside m from len k g.0 g.1).1)) b) in
    arrive (seen_anew w i (Own rest o)) (Own range None) first refl
    (λ k x e. a k x (range_inside m from len k x e).1, tt)
    (λ j x at_j. ⊎_elim
    (λ (p : (j ≡ i) × (Own rest o ≡ x)). subst (λ z. Beside w.words (Own range None) z × Beside w.words z (Own range None)) p.1
    (λ k g h. rest-range_disjoint m from len k h.0 g.0 h.1 g.1, λ k g h. rest-range_disjoint m from len k g.0 h.0 g.1 h.1))
    (λ (p : (j ≢ i) × Sees w j x). own_beside w.words w.words m range o None x (λ k g. (g.0, (range_inside m from len k g.0 g.1).1)) (s.apart i j (Own m o) x (λ r. p.0 (sym r)) here p.1))
    (at_set w.views i j (Own rest o) x at_j))

agrees_union : (words : List ℕ) (m n : WordMap) → Agrees words m → Agrees words n → Agrees words (union m n)
agrees_union words m n a b k x e = ⊎_elim (λ p. b k x p) (λ p. a k x p) (union_from m n k x e)

has_union : (m n : WordMap) (k : ℕ) → Has (union m n) k → (Has n k) ⊎ (Has m k)
has_union m n k h = ⊎_elim (λ p. inl (h.0, p)) (λ p. inr (h.0, p)) (union_from m n k h.0 h.1)

-- who stands apart from two owners stands apart from the owner of both
union_beside : (words : List ℕ) (m n : WordMap) (o p q : Olds) (x : View) → Beside words (Own m o) x → Beside words (Own n p) x → Beside words (Own (union m n) q) x × Beside words x (Own (union m n) q)
union_beside words m n o p q x a b = (
  λ k h g. ⊎_elim (λ (t : Has n k). absurd (b k t g)) (λ (t : Has m k). absurd (a k t g)) (has_union m n k h),
  λ k g h. ⊎_elim (λ (t : Has n k). absurd (b k t g)) (λ (t : Has m k). absurd (a k t g)) (has_union m n k h),
)

-- a token with no role ends
pub ends : (w : World) (j : ℕ) (u : View) → Sound w → Sees w j u → role Spent ≡ role u → Sound (seen_anew w j Spent)
ends w j u s there neither = turn_still w j u Spent s there neither tt (λ k x ne at_k b. (λ q a c. absurd a, λ q a c. absurd c))

pub joins : (w : World) (i j : ℕ) (m n : WordMap) (o p : Olds) → Sound w → Sees w i (Own m o) → Sees w j (Own n p) → j ≢ i
    → Sound record { words = w.words; views = slice_set (slice_set w.views i (Own (union m n) (Some (m, n)))) j Spent }
joins w i j m n o p s here there apart =
    let both = Own (union m n) (Some (m, n)) in
    let w' : World = seen_anew w j Spent in
    let one : Sound w' = ends w j (Own n p) s there refl in
    let here' : Sees w' i (Own m o) = set_else w.views j i Spent (λ e. apart (sym e)) ∙ here in
    let disjoint : Disjoint m n = λ k x y a b. s.apart i j (Own m o) (Own n p) (λ e. apart (sym e)) here there k (x, a) (y, b) in
    let two : Sound (seen_anew w' i both) =
    turn_still w' i (Own m o) both one here' refl
    (agrees_union w.words m n (s.honest i (Own m o) here).0 (s.honest j (Own n p) there).0, disjoint)
    (λ k x ne at_k b. ⊎_elim
    (λ (t : (k ≡ j) × (Spent ≡ x)). subst (λ z. Beside w.words both z × Beside w.words z both) t.1 (λ q a c. absurd c, λ q a c. absurd a))
    (λ (t : (k ≢ j) × Sees w k x). union_beside w.words m n o p (Some (m, n)) x b (s.apart j k (Own n p) x (λ e. t.0 (sym e)) there t.1))
    (at_set w.views j k Spent x at_k)) in
    subst (λ vs. Sound record { words = w.words; views = vs }) (sym (set_swap w.views i j both Spent apart)) two

-- frozen words
pub freezes : (w : World) (i : ℕ) (m : WordMap) (o : Olds) → Sound w → Sees w i (Own m o) → Sound (seen_anew w i (Frozen m))
freezes w i m o s here = turn_still w i (Own m o) (Frozen m) s here refl (s.honest i (Own m o) here).0
    (λ j x n at_j b. (λ k h g. absurd (b k h g), λ k g h. absurd (b k h g)))

pub loads_frozen : (w : World) (i : ℕ) (m : WordMap) → Sound w → Sees w i (Frozen m) → Sound (seen_anew w i (Frozen m))
loads_frozen w i m s here = turn_still w i (Frozen m) (Frozen m) s here refl (s.honest i (Frozen m) here)
    (λ j x n at_j b. (b, s.apart j i x (Frozen m) n at_j here))

pub shares : (w : World) (i : ℕ) (m : WordMap) → Sound w → Sees w i (Frozen m)
    → Sound (cut_anew w i (Frozen m) (Frozen m))
shares w i m s here = arrive (seen_anew w i (Frozen m)) (Frozen m) (loads_frozen w i m s here) refl (s.honest i (Frozen m) here)
    (λ j x at_j. ⊎_elim
    (λ (p : (j ≡ i) × (Frozen m ≡ x)). subst (λ z. Beside w.words (Frozen m) z × Beside w.words z (Frozen m)) p.1 (λ k g h. refl, λ k g h. refl))
    (λ (p : (j ≢ i) × Sees w j x). (s.apart i j (Frozen m) x (λ e. p.0 (sym e)) here p.1, s.apart j i x (Frozen m) p.0 p.1 here))
    (at_set w.views i j (Frozen m) x at_j))

pub ends_share : (w : World) (i j : ℕ) (m : WordMap) → Sound w → Sees w i (Frozen m) → Sees w j (Frozen m) → j ≢ i
    → Sound (joined_anew w i (Frozen m) j)
ends_share w i j m s here there apart = ends (seen_anew w i (Frozen m)) j (Frozen m) (loads_frozen w i m s here) (set_else w.views i j (Frozen m) apart ∙ there) refl

-- the value of either
union_value : (m n p : WordMap) (k : ℕ) → (Has m k → at m k ≡ at p k) → (Has n k → at n k ≡ at p k) → Has (union m n) k → at (union m n) k ≡ at p k
union_value m n p k a b h = go (at n k) refl
  where
    go : (o : Option ℕ) → at n k ≡ o → at (union m n) k ≡ at p k
    go (Some y) e = at-union m n k ∙ ap (λ (z : Option ℕ). or_else z (at m k)) e ∙ sym e ∙ b (y, e)
    go None e =
        let same : at (union m n) k ≡ at m k = at-union m n k ∙ ap (λ (z : Option ℕ). or_else z (at m k)) e in same ∙ a (h.0, sym same ∙ h.1)

gathered_beside : (words : List ℕ) (m n : WordMap) (x : View) → Beside words (Frozen m) x → Beside words (Frozen n) x → Beside words (Frozen (union m n)) x × Beside words x (Frozen (union m n))
gathered_beside words m n (Frozen p) a b = (λ k h g. union_value m n p k (λ t. a k t g) (λ t. b k t g) h, λ k g h. sym (union_value m n p k (λ t. a k t g) (λ t. b k t g) h))
gathered_beside words m n x a b = (
  λ k h g. ⊎_elim (λ (t : Has n k). absurd (b k t g)) (λ (t : Has m k). absurd (a k t g)) (has_union m n k h),
  λ k g h. ⊎_elim (λ (t : Has n k). absurd (b k t g)) (λ (t : Has m k). absurd (a k t g)) (has_union m n k h),
)

-- two tokens of frozen words become one
pub gathers : (w : World) (i j : ℕ) (m n : WordMap) → Sound w → Sees w i (Frozen m) → Sees w j (Frozen n) → j ≢ i → Sound (joined_anew w i (Frozen (union m n)) j)
gathers w i j m n s here there apart =
    let both : Sound (seen_anew w i (Frozen (union m n))) = turn_still w i (Frozen m) (Frozen (union m n)) s here refl
    (agrees_union w.words m n (s.honest i (Frozen m) here) (s.honest j (Frozen n) there))
    (λ k x ne at_k b. gathered_beside w.words m n x b (beside_other k x at_k)) in
    ends (seen_anew w i (Frozen (union m n))) j (Frozen n) both (set_else w.views i j (Frozen (union m n)) apart ∙ there) refl
  where
    beside_other : (k : ℕ) (x : View) → Sees w k x → Beside w.words (Frozen n) x
    beside_other k x at_k = dite (ℕ_discrete k j)
        (λ (e : k ≡ j).
        let same : Frozen n ≡ x = some-injective (Frozen n) x (sym there ∙ ap (get_elem? w.views) (sym e) ∙ at_k) in
        subst (Beside w.words (Frozen n)) same (λ q h g. refl))
        (λ (ne : k ≢ j). s.apart j k (Frozen n) x (λ e. ne (sym e)) there at_k)

-- the world at the start is sound
pub opens : (words : List ℕ) → AreWords words → Sound (opening words)
opens words small = record {
  fits = small;
  honest = one;
  apart = alone;
  paired = own;
}
  where
    all : View
    all = Own (numbered 0 words) None

    one : (i : ℕ) (v : View) → get_elem? (Own (numbered 0 words) None ∷ []) i ≡ some v → Honest words v
    one zero v e = subst (Honest words) (some-injective (Own (numbered 0 words) None) v e)
        (λ k x f. let p = numbered_from words 0 k x f in subst (λ (q : ℕ). get_elem? words q ≡ some x) (omega arith) p.1, tt)
    one (suc i) v e = absurd (some-ne-none v (sym e))

    alone : (i j : ℕ) (u v : View) → i ≢ j → get_elem? (Own (numbered 0 words) None ∷ []) i ≡ some u → get_elem? (Own (numbered 0 words) None ∷ []) j ≡ some v → Beside words u v
    alone zero zero u v n e f = absurd (n refl)
    alone zero (suc j) u v n e f = absurd (some-ne-none v (sym f))
    alone (suc i) j u v n e f = absurd (some-ne-none u (sym e))

    own : (i : ℕ) (u : View) → get_elem? (Own (numbered 0 words) None ∷ []) i ≡ some u → HasPartner (opening words) u
    own zero u e = subst (HasPartner (opening words)) (some-injective (Own (numbered 0 words) None) u e) (0, Own (numbered 0 words) None, refl, refl)
    own (suc i) u e = absurd (some-ne-none u (sym e))
