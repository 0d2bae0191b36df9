-- A seat between two calls: it has no slot out and has copied nothing.
use Rattle.std.proofs.Common.{◌≡◌, ℕ, suc, ◌+◌, ◌<◌, ◌≤◌, List, [], ◌∷◌, length, None, refl, sym, ap, subst, ◌∙◌, arith}
use Rattle.atomic_table.specs.Table.{Me, Allows, rest}
use Rattle.atomic_table.specs.Seated.{TableId}
use Rattle.word_map.specs.WordMap.{WordMap, Has}
use Rattle.region_rule.specs.View.{View, Own}
use Rattle.region_rule.specs.Places.{Token, idle, copying, taking, row_out, IsIdle, MayTake, Ruled}
use Rattle.region_rule.proofs.Allows.{take_allows, copy_allows}
use Rattle.region_rule.proofs.Rows.{take_row_allows}
use Rattle.region_words.specs.Parts.{IsSized}

abbrev pub Mine : Type 0
Mine = Me ℕ Token

pub rests : (me : Mine) (v : View) → IsIdle me v → me ≡ (copying me.0.view me.0.from me.0.copied, [])
rests me v e = subst (λ (u : Mine). u ≡ (copying u.0.view u.0.from u.0.copied, [])) (sym e) refl

pub nothing_copied : (me : Mine) (v : View) (k : ℕ) → IsIdle me v → me.0.from ≤ k → k < me.0.from + me.0.copied → ⊥
nothing_copied me v k e = subst (λ (u : Mine). u.0.from ≤ k → k < u.0.from + u.0.copied → ⊥) (sym e) (λ a b. omega arith)

pub idle_as : (after : Mine) (v : View) → IsIdle after after.0.view → after.0.view ≡ v → IsIdle after v
idle_as after v e f = e ∙ ap (λ (w : View). (idle w, [])) f

-- to take slot k out, the one that `at` names
pub take_asks : (t y : TableId) (key id k at : ℕ) (me : Mine) → IsSized y → key ≡ y.words → t ≡ y → me ≡ (copying me.0.view me.0.from me.0.copied, []) → MayTake me.0.view at → at < y.words
    → (me.0.from ≤ at → at < me.0.from + me.0.copied → ⊥) → k ≡ at
    → (t ≡ y) × (0 < y.words) × Allows (Ruled key) y.slots id me 0 (λ n. n) (λ n after. (x : ℕ) × (after ≡ (taking me.0.view k x me.0.from me.0.copied, (k, x) ∷ [])))
take_asks t y key id k at me sized same here e may inside fresh is = (
  here,
  sized.0,
  subst (λ (u : Mine). Allows (Ruled key) y.slots id u 0 (λ n. n) (λ n after. (x : ℕ) × (after ≡ (taking me.0.view k x me.0.from me.0.copied, (k, x) ∷ [])))) (sym e)
      (take_allows key y.slots id 0 k me.0.view me.0.from me.0.copied (subst (MayTake me.0.view) (sym is) may) (subst (λ (n : ℕ). n < key) (sym is) (subst (λ (n : ℕ). at < n) (sym same) inside))
      (subst (λ (n : ℕ). me.0.from ≤ n → n < me.0.from + me.0.copied → ⊥) (sym is) fresh)),
)

-- to take out a row of slots, the one that `at` and `words` name
pub take_row_asks : (t y : TableId) (key id k len at words : ℕ) (me : Mine) → IsSized y → key ≡ y.words → t ≡ y → IsIdle me me.0.view → ((q : ℕ) → at ≤ q → q < at + words → MayTake me.0.view q) → at + words ≤ y.words → k ≡ at → len ≡ words
    → (t ≡ y) × (0 < y.words) × Allows (Ruled key) y.slots id me 0 (λ n. n) (λ n after. (xs : List ℕ) × (length xs ≡ len) × (after ≡ row_out me.0.view k xs xs))
take_row_asks t y key id k len at words me sized same here e may inside is long = (
  here,
  sized.0,
  subst (λ (u : Mine). Allows (Ruled key) y.slots id u 0 (λ n. n) (λ n after. (xs : List ℕ) × (length xs ≡ len) × (after ≡ row_out me.0.view k xs xs))) (sym e)
      (take_row_allows key y.slots id 0 k len me.0.view (λ q low high. may q (omega arith) (omega arith)) (omega arith)),
)

head_is : (x y a b : ℕ) (l : List (ℕ × ℕ)) → (a, x) ∷ [] ≡ (b, y) ∷ l → x ≡ y
head_is x y a b l e = ap value e
  where
    value : List (ℕ × ℕ) → ℕ
    value [] = 0
    value (c ∷ cs) = c.1

-- an owner stores what it found in the slot
pub copy_asks : (t u y : TableId) (key id k at value : ℕ) (me one now : Mine) (m : WordMap) → IsSized y → key ≡ y.words → t ≡ y → u ≡ t → me ≡ (copying (Own m None) me.0.from me.0.copied, []) → Has m at → at < y.words
    → at ≡ me.0.from + me.0.copied → k ≡ at
    → (x : ℕ) × (one ≡ (taking me.0.view k x me.0.from me.0.copied, (k, x) ∷ [])) → one.1 ≡ (at, value) ∷ rest one.1 → now ≡ (one.0, (at, value) ∷ rest one.1)
    → (u ≡ y) × (at < y.words) × Allows (Ruled key) y.slots id now at (λ _. value) (λ _ after. after ≡ (copying now.0.view now.0.from (suc now.0.copied), []))
copy_asks t u y key id k at value me one now m sized same here there e has inside next is told shown changed =
    let x : ℕ = told.0 in
    let found : one ≡ (taking me.0.view at x me.0.from me.0.copied, (at, x) ∷ []) = told.1 ∙ ap (λ (n : ℕ). (taking me.0.view n x me.0.from me.0.copied, (n, x) ∷ [])) is in
    let view : me.0.view ≡ Own m None = ap (λ (z : Mine). z.0.view) e in
    let same_value : x ≡ value = head_is x value at at (rest one.1) (sym (ap (λ (z : Mine). z.1) found) ∙ shown) in
    let held : now ≡ (taking (Own m None) at x me.0.from me.0.copied, (at, value) ∷ []) =
    changed ∙ ap (λ (z : Mine). (z.0, (at, value) ∷ rest z.1)) found ∙ ap (λ (v : View). (taking v at x me.0.from me.0.copied, (at, value) ∷ [])) view in (
      there ∙ here,
      inside,
      subst (λ (z : Mine). Allows (Ruled key) y.slots id z at (λ _. value) (λ _ after. after ≡ (copying z.0.view z.0.from (suc z.0.copied), []))) (sym held)
          (subst (λ (n : ℕ). Allows (Ruled key) y.slots id (taking (Own m None) at x me.0.from me.0.copied, (at, n) ∷ []) at (λ _. n) (λ _ after. after ≡ (copying (Own m None) me.0.from (suc me.0.copied), []))) same_value
          (copy_allows key y.slots id at x m None me.0.from me.0.copied next has (subst (λ (n : ℕ). at < n) (sym same) inside) (sized.2 ∙ sym same))),
    )

-- and has copied one word more
pub copied_one : (k at value : ℕ) (me one now after : Mine) (m : WordMap) → me ≡ (copying (Own m None) me.0.from me.0.copied, []) → (x : ℕ) × (one ≡ (taking me.0.view k x me.0.from me.0.copied, (k, x) ∷ []))
    → now ≡ (one.0, (at, value) ∷ rest one.1) → after ≡ (copying now.0.view now.0.from (suc now.0.copied), [])
    → after ≡ (copying me.0.view me.0.from (suc me.0.copied), [])
copied_one k at value me one now after m e told changed is =
    is ∙ ap (λ (z : Mine). (copying z.0.view z.0.from (suc z.0.copied), [])) (changed ∙ ap (λ (z : Mine). (z.0, (at, value) ∷ rest z.1)) told.1)

-- an owner that copies words
pub owner_rests : (me : Mine) (m : WordMap) → me ≡ (copying (Own m None) me.0.from me.0.copied, []) → me ≡ (copying me.0.view me.0.from me.0.copied, [])
owner_rests me m e = e ∙ ap (λ (v : View). (copying v me.0.from me.0.copied, [])) (sym (ap (λ (z : Mine). z.0.view) e))

pub owner_takes : (me : Mine) (m : WordMap) (k : ℕ) → me ≡ (copying (Own m None) me.0.from me.0.copied, []) → Has m k → MayTake me.0.view k
owner_takes me m k e has = subst (λ (v : View). MayTake v k) (sym (ap (λ (z : Mine). z.0.view) e)) has

pub not_yet : (k from n : ℕ) → k ≡ from + n → from ≤ k → k < from + n → ⊥
not_yet k from n e a b = omega arith
