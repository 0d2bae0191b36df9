-- What becomes of a caller's chunks and their words as one comes or goes.
use Rattle.std.proofs.Common.{◌≡◌, ◌≢◌, ℕ, suc, ◌+◌, ◌-◌, ◌*◌, ◌/◌, ◌%◌, ◌<◌, ◌≤◌, ◌^◌, ⊎_elim, inl, inr, Bool, true, false, cond, Option, Some, None, is_some, IsSome, IfSome, List, [], length, get_or, refl, sym, ap, subst, ◌∙◌, arith}
use Rattle.std.proofs.lemmas.Bool.{cases_eq, cases_lt, false_from_ne_true}
use Rattle.std_alloc.specs.Arc.{arc_value}
use Rattle.atomic_table.specs.Seated.{TableId}
use Rattle.word_map.specs.WordMap.{WordMap, at, is_within, Disjoint, HasJust, range_of, rest_of, union}
use Rattle.word_map.proofs.Maps.{at-rest_in, at-rest_out, at-union_cond, just_has, union-cuts, within_is, within_true}
use Rattle.word_map.proofs.Uses.{not-both, union-left, union-right}
use Rattle.region_words.specs.Parts.{Owned, owned}
use Rattle.slab.specs.Slab.{Slab, Updates, get}
use Rattle.c_area.specs.Shares.{IsHeld, IsIn, chunk_of, extent}
use Rattle.c_area.specs.Tries.{Gains}
use Rattle.c_area.specs.declared.shared.Extent.{Extent}
use Rattle.c_area.specs.declared.shared.Share.{Share}

-- no value where one is absurd
pub none_there : (o : Option ℕ) → (IsSome o → ⊥) → o ≡ None
none_there None f = refl
none_there (Some x) f = absurd (f refl)

-- two chunks that stand under one number are one
pub one_extent : (o : Option Extent) (d e : Extent) → o ≡ Some d → o ≡ Some e → d ≡ e
one_extent o d e p q = some_is d e (sym p ∙ q)
  where
    some_is : (d e : Extent) → Some d ≡ Some e → d ≡ e
    some_is d e p = ap (λ (o : Option Extent). pick o) p
      where
        pick : Option Extent → Extent
        pick None = d
        pick (Some x) = x

-- words of a row are those of its extent
row_in : (e : Extent) (k : ℕ) → IsIn e k → is_within e.at e.words k ≡ true
row_in e k i = within_true e.at e.words k i.0 i.1

row_out : (e : Extent) (k : ℕ) → (IsIn e k → ⊥) → is_within e.at e.words k ≡ false
row_out e k out = false_from_ne_true (is_within e.at e.words k) (λ w. out (within_is e.at e.words k w))

-- words that are joined are still there
union_keeps : (m n : WordMap) (k : ℕ) → IsSome (at m k) → IsSome (at (union m n) k)
union_keeps m n k h = go (is_some (at n k)) refl
  where
    go : (b : Bool) → is_some (at n k) ≡ b → IsSome (at (union m n) k)
    go true e = ap is_some (union-right m n k e) ∙ e
    go false e = ap is_some (at-union_cond m n k ∙ ap (λ (b : Bool). cond b (at n k) (at m k)) e) ∙ h

-- a chunk that came
module _ (m n : WordMap) (c c' : Slab Extent) (number : ℕ) (e : Extent) (just : HasJust n e.at e.words) (dis : Disjoint m n) (vacant : get c number ≡ None) (ups : Updates c c' number (Some e)) where
  pub come_fresh : (k : ℕ) → IsIn e k → at m k ≡ None
  come_fresh k i = none_there (at m k) (λ some. not-both m n k dis some (just_has n e.at e.words k just i.0 i.1))

  pub come_mine : (k : ℕ) → IsIn e k → IsSome (at (union m n) k)
  come_mine k i = let h = just_has n e.at e.words k just i.0 i.1 in ap is_some (union-right m n k h) ∙ h

  pub come_rest : (k : ℕ) → (IsIn e k → ⊥) → at (union m n) k ≡ at m k
  come_rest k out = at-union_cond m n k ∙ ap (λ (b : Bool). cond b (at n k) (at m k)) (just k ∙ row_out e k out)

  pub come_held : 0 < e.at → 0 < e.words → ((i : ℕ) (d : Extent) → get c i ≡ Some d → IsHeld m d) → (i : ℕ) (d : Extent) → get c' i ≡ Some d → IsHeld (union m n) d
  come_held valid some held i d there = ⊎_elim
      (λ (s : i ≡ number). subst (IsHeld (union m n)) (one_extent (get c' number) e d ups.changed (sym (ap (get c') s) ∙ there)) (record { valid = valid; some = some; has = come_mine }))
      (λ (ne : i ≢ number). let h = held i d (sym (ups.others i ne) ∙ there) in record { valid = h.valid; some = h.some; has = λ k w. union_keeps m n k (h.has k w) })
      (cases_eq i number)

  -- the new chunk has no word of an old one
  beside : ((i : ℕ) (d : Extent) → get c i ≡ Some d → IsHeld m d) → (i : ℕ) (d : Extent) → i ≢ number → get c' i ≡ Some d → (k : ℕ) → IsIn e k → IsIn d k → ⊥
  beside held i d ne there k new old =
      let h = (held i d (sym (ups.others i ne) ∙ there)).has k old in
      not-both m n k dis h (just_has n e.at e.words k just new.0 new.1)

  pub come_apart : ((i : ℕ) (d : Extent) → get c i ≡ Some d → IsHeld m d) → ((i j : ℕ) (d f : Extent) → get c i ≡ Some d → get c j ≡ Some f → i ≢ j → (k : ℕ) → IsIn d k → IsIn f k → ⊥)
      → (i j : ℕ) (d f : Extent) → get c' i ≡ Some d → get c' j ≡ Some f → i ≢ j → (k : ℕ) → IsIn d k → IsIn f k → ⊥
  come_apart held apart i j d f at_i at_j ne k in_d in_f = ⊎_elim
      (λ (s : i ≡ number). let same = one_extent (get c' number) e d ups.changed (sym (ap (get c') s) ∙ at_i) in
      beside held j f (λ t. ne (s ∙ sym t)) at_j k (subst (λ (x : Extent). IsIn x k) (sym same) in_d) in_f)
      (λ (ni : i ≢ number). ⊎_elim
      (λ (s : j ≡ number). let same = one_extent (get c' number) e f ups.changed (sym (ap (get c') s) ∙ at_j) in
      beside held i d ni at_i k (subst (λ (x : Extent). IsIn x k) (sym same) in_f) in_d)
      (λ (nj : j ≢ number). apart i j d f (sym (ups.others i ni) ∙ at_i) (sym (ups.others j nj) ∙ at_j) ne k in_d in_f)
      (cases_eq j number))
      (cases_eq i number)

-- a chunk that went
module _ (m : WordMap) (c c' : Slab Extent) (number : ℕ) (e : Extent) (there : get c number ≡ Some e) (ups : Updates c c' number None) where
  -- what stands after that stood before, under another number
  pub went_other : (i : ℕ) (d : Extent) → get c' i ≡ Some d → (i ≢ number) × (get c i ≡ Some d)
  went_other i d h =
      let ne : i ≢ number = (λ s. let x : None ≡ Some d = sym ups.changed ∙ (sym (ap (get c') s) ∙ h) in let y : ⊥ = cc in y) in
      (ne, sym (ups.others i ne) ∙ h)

  pub went_held : ((i : ℕ) (d : Extent) → get c i ≡ Some d → IsHeld m d) → ((i j : ℕ) (d f : Extent) → get c i ≡ Some d → get c j ≡ Some f → i ≢ j → (k : ℕ) → IsIn d k → IsIn f k → ⊥)
      → (i : ℕ) (d : Extent) → get c' i ≡ Some d → IsHeld (rest_of m e.at e.words) d
  went_held held apart i d h =
      let o = went_other i d h in
      let was = held i d o.1 in
      record { valid = was.valid; some = was.some; has = λ k w. ap is_some (at-rest_out m e.at e.words k (row_out e k (λ x. apart i number d e o.1 there o.0 k w x))) ∙ was.has k w }

  pub went_apart : ((i j : ℕ) (d f : Extent) → get c i ≡ Some d → get c j ≡ Some f → i ≢ j → (k : ℕ) → IsIn d k → IsIn f k → ⊥)
      → (i j : ℕ) (d f : Extent) → get c' i ≡ Some d → get c' j ≡ Some f → i ≢ j → (k : ℕ) → IsIn d k → IsIn f k → ⊥
  went_apart apart i j d f at_i at_j ne k in_d in_f = apart i j d f (went_other i d at_i).1 (went_other j f at_j).1 ne k in_d in_f

  pub went_gone : (k : ℕ) → IsIn e k → at (rest_of m e.at e.words) k ≡ None
  went_gone k i = at-rest_in m e.at e.words k (row_in e k i)

  pub went_rest : (k : ℕ) → (IsIn e k → ⊥) → at m k ≡ at (rest_of m e.at e.words) k
  went_rest k out = sym (at-rest_out m e.at e.words k (row_out e k out))

-- words that went out and came back
pub back_again : (region : TableId) (m : WordMap) (from len : ℕ) → owned region (union (rest_of m from len) (range_of m from len)) ≡ owned region m
back_again region m from len = ap (owned region) (union-cuts m from len)

-- a chunk's words are some
pub words_some : (bytes : ℕ) → 8 ≤ bytes → 0 < bytes / 8
words_some bytes h = omega arith

-- and they are all its bytes
pub words_whole : (bytes : ℕ) → bytes % 8 ≡ 0 → 8 * (bytes / 8) ≡ bytes
words_whole bytes h = omega arith

-- a slab without slots has no chunk
pub no_chunk : (c : Slab Extent) → c.slots ≡ [] → (number : ℕ) → get c number ≡ None
no_chunk c e number = ap (λ (l : List (Option Extent)). get_or l number None) e
