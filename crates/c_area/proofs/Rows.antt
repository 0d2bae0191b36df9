-- Words in a row that are stored one after another.
use Rattle.std.proofs.Common.{◌≡◌, ◌≢◌, ℕ, suc, ◌+◌, ◌<◌, ◌≤◌, ◌⊎◌, inl, inr, ⊎_elim, List, length, Option, Some, is_some, IsSome, get_or, refl, sym, ap, subst, ◌∙◌, arith}
use Rattle.std.proofs.lemmas.Bool.{cases_eq}
use Rattle.std.specs.FinMap as fin
use Rattle.word_map.specs.WordMap.{WordMap, at}
use Rattle.word_map.proofs.Maps.{at-insert_same, at-insert_other, insert-keys}
use Rattle.region_words.specs.Parts.{Owned, owned}

-- of a row of words from `from` on, the first i are stored, and nothing else has changed
pub record Stored (before after : Owned) (from i : ℕ) (words : List ℕ) : Type 0 where
  pub here : after.region ≡ before.region
  pub keys : (k : ℕ) → is_some (at after.words k) ≡ is_some (at before.words k)
  pub stored : (j : ℕ) → j < i → at after.words (from + j) ≡ Some (get_or words j 0)
  pub rest : (k : ℕ) → (k < from) ⊎ (from + i ≤ k) → at after.words k ≡ at before.words k

-- one more
pub stored_next : (before after : Owned) (from i : ℕ) (words : List ℕ) → Stored before after from i words → IsSome (at after.words (from + i))
    → Stored before (owned after.region (fin.insert after.words (from + i) (get_or words i 0))) from (i + 1) words
stored_next before after from i words s has =
    let x = get_or words i 0 in
    record {
      here = s.here;
      keys = λ k. insert-keys after.words (from + i) x k has ∙ s.keys k;
      stored = λ j low. ⊎_elim
          (λ (e : j ≡ i). at-insert_same after.words (from + i) x (from + j) (ap (λ (z : ℕ). from + z) e) ∙ ap (λ (z : ℕ). Some (get_or words z 0)) (sym e))
          (λ (ne : j ≢ i). at-insert_other after.words (from + i) x (from + j) (λ e. ne (omega arith)) ∙ s.stored j (omega arith))
          (cases_eq j i);
      rest = λ k side. at-insert_other after.words (from + i) x k (λ e. apart k side e) ∙ s.rest k (closer k side);
    }
  where
    apart : (k : ℕ) → (k < from) ⊎ (from + (i + 1) ≤ k) → k ≡ from + i → ⊥
    apart k (inl l) e = omega arith
    apart k (inr l) e = omega arith

    closer : (k : ℕ) → (k < from) ⊎ (from + (i + 1) ≤ k) → (k < from) ⊎ (from + i ≤ k)
    closer k (inl l) = inl l
    closer k (inr l) = inr (omega arith)
