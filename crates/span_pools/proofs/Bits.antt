-- The bits of a class, and what a store of one word does to them.
use Rattle.std.proofs.Common.{◌≡◌, ◌≢◌, ℕ, ◌+◌, ◌*◌, ◌/◌, ◌%◌, ◌<◌, ◌≤◌, ◌==◌, Bool, true, false, Option, Some, None, unwrap_or, is_some, ◌⊎◌, inl, inr, ⊎_elim, refl, sym, ap, subst, ◌∙◌, arith, eq-eqb}
use mathlib.Core.Logic.{dite}
use native.Mathlib.Decide.{ℕ_discrete}
use Rattle.std.specs.FinMap as fin
use Rattle.std.specs.Int.{bit_at}
use Rattle.word_map.specs.WordMap.{WordMap, at, HasJust, is_within}
use Rattle.region_words.specs.Parts.{Owned, owned}
use Rattle.std.proofs.lemmas.Bool.{cases_lt, false_from_ne_true}
use Rattle.std.proofs.lemmas.Nat.Bits.{bit_at-zero}
use Rattle.word_map.proofs.Maps.{at-insert_same, at-insert_other, insert-just, just_has, within_is}
use Rattle.span_pools.specs.declared.layout.Layout.{Layout}
use Rattle.span_pools.specs.View.{mark_of, IsMarked}

-- a store of a word in which one bit has another value
pub mark_stored : (l : Layout) (m : WordMap) (p x : ℕ) (b : Bool) → (bit_at x (p % 64) == 1) ≡ b → ((i : ℕ) → i < 64 → i ≢ p % 64 → bit_at x i ≡ bit_at (unwrap_or (at m (l.marks + p / 64)) 0) i)
    → (mark_of l (fin.insert m (l.marks + p / 64) x) p ≡ b) × ((q : ℕ) → q ≢ p → mark_of l (fin.insert m (l.marks + p / 64) x) q ≡ mark_of l m q)
mark_stored l m p x b here same = (
  ap (λ (o : Option ℕ). bit_at (unwrap_or o 0) (p % 64) == 1) (at-insert_same m (l.marks + p / 64) x (l.marks + p / 64) refl) ∙ here,
  λ q n. dite (ℕ_discrete (q / 64) (p / 64))
      (λ (e : q / 64 ≡ p / 64).
      ap (λ (o : Option ℕ). bit_at (unwrap_or o 0) (q % 64) == 1) (at-insert_same m (l.marks + p / 64) x (l.marks + q / 64) (ap (λ (z : ℕ). l.marks + z) e))
      ∙ ap (λ (z : ℕ). z == 1) (same (q % 64) (omega arith) (λ f. n (let y : q ≡ p = omega arith in y)))
      ∙ ap (λ (z : ℕ). bit_at (unwrap_or (at m (l.marks + z)) 0) (q % 64) == 1) (sym e))
      (λ (k : q / 64 ≢ p / 64). ap (λ (o : Option ℕ). bit_at (unwrap_or o 0) (q % 64) == 1) (at-insert_other m (l.marks + p / 64) x (l.marks + q / 64) (λ f. k (let y : q / 64 ≡ p / 64 = omega arith in y)))),
)

-- the same of a part's words
pub marked_now : (l : Layout) (before after : Owned) (p x : ℕ) (b : Bool) → p < l.pages → HasJust before.words l.marks ((l.pages + 63) / 64) → (bit_at x (p % 64) == 1) ≡ b
    → ((i : ℕ) → i < 64 → i ≢ p % 64 → bit_at x i ≡ bit_at (unwrap_or (at before.words (l.marks + p / 64)) 0) i)
    → after ≡ owned before.region (fin.insert before.words (l.marks + p / 64) x) → IsMarked l p b before after
marked_now l before after p x b low just here same e =
    let s = mark_stored l before.words p x b here same in record {
      region = ap (λ (o : Owned). o.region) e;
      bits = subst (λ (o : Owned). HasJust o.words l.marks ((l.pages + 63) / 64)) (sym e) (insert-just before.words (l.marks + p / 64) x l.marks ((l.pages + 63) / 64) (just_has before.words l.marks ((l.pages + 63) / 64) (l.marks + p / 64) just (omega arith) (omega arith)) just);
      here = ap (λ (o : Owned). mark_of l o.words p) e ∙ s.0;
      others = λ q n. ap (λ (o : Owned). mark_of l o.words q) e ∙ s.1 q n;
    }

-- where each word of the bits is 0, no bit is set
pub unmarked : (l : Layout) (m : WordMap) → HasJust m l.marks ((l.pages + 63) / 64) → ((k : ℕ) → k < (l.pages + 63) / 64 → at m (l.marks + k) ≡ Some 0) → (p : ℕ) → mark_of l m p ≡ false
unmarked l m just zeros p = ⊎_elim
    (λ (h : p / 64 < (l.pages + 63) / 64). none (at m (l.marks + p / 64)) (inl (zeros (p / 64) h)))
    (λ (h : (l.pages + 63) / 64 ≤ p / 64). none (at m (l.marks + p / 64)) (inr (nothing (at m (l.marks + p / 64)) (just (l.marks + p / 64) ∙ false_from_ne_true (is_within l.marks ((l.pages + 63) / 64) (l.marks + p / 64)) (λ x. let w = within_is l.marks ((l.pages + 63) / 64) (l.marks + p / 64) x in omega (arith, w.1))))))
    (cases_lt (p / 64) ((l.pages + 63) / 64))
  where
    nothing : (o : Option ℕ) → is_some o ≡ false → o ≡ None
    nothing (Some x) e = cc
    nothing None e = refl

    none : (o : Option ℕ) → (o ≡ Some 0) ⊎ (o ≡ None) → (bit_at (unwrap_or o 0) (p % 64) == 1) ≡ false
    none o h = ⊎_elim
        (λ (e : o ≡ Some 0). ap (λ (z : Option ℕ). bit_at (unwrap_or z 0) (p % 64) == 1) e ∙ zero_bit)
        (λ (e : o ≡ None). ap (λ (z : Option ℕ). bit_at (unwrap_or z 0) (p % 64) == 1) e ∙ zero_bit)
        h
      where
        zero_bit : (bit_at 0 (p % 64) == 1) ≡ false
        zero_bit = ap (λ (z : ℕ). z == 1) (bit_at-zero (p % 64))

-- the bits of one word
pub mark_in_word : (l : Layout) (m : WordMap) (n b word : ℕ) → at m (l.marks + n) ≡ Some word → b < 64 → mark_of l m (64 * n + b) ≡ (bit_at word b == 1)
mark_in_word l m n b word e h =
    ap (λ (z : ℕ). bit_at (unwrap_or (at m (l.marks + z)) 0) ((64 * n + b) % 64) == 1) (let z : (64 * n + b) / 64 ≡ n = omega arith in z)
    ∙ ap (λ (z : ℕ). bit_at (unwrap_or (at m (l.marks + n)) 0) z == 1) (let z : (64 * n + b) % 64 ≡ b = omega arith in z)
    ∙ ap (λ (o : Option ℕ). bit_at (unwrap_or o 0) b == 1) e

pub set_marked : (l : Layout) (m : WordMap) (n b word : ℕ) → at m (l.marks + n) ≡ Some word → b < 64 → bit_at word b ≡ 1 → mark_of l m (64 * n + b) ≡ true
set_marked l m n b word e h s = mark_in_word l m n b word e h ∙ eq-eqb (bit_at word b) 1 s
