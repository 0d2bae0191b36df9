-- The page before which every page is granted: how it moves on, and that it stays so.
use Rattle.std.proofs.Common.{◌≡◌, ℕ, ◌+◌, ◌*◌, ◌/◌, ◌%◌, ◌<◌, ◌≤◌, Bool, true, false, cond, ◌||◌, List, ◌⊎◌, ⊎_elim, sym, ap, subst, ◌∙◌, arith}
use Rattle.std.proofs.lemmas.Bool.{cases_lt, both_ways, or_right, false_from_ne_true}
use Rattle.word_map.specs.WordMap.{WordMap, is_within}
use Rattle.word_map.proofs.Maps.{within_is}
use Rattle.free_pages.specs.Legal.{Granted, Adds, is_taken}
use Rattle.free_pages.specs.Runs.{IsRuns, IsBest, IsFilled, KeepsHeads, granted_in, run_word}
use Rattle.free_pages.proofs.Lists.{of_taken, word_of}
use Rattle.free_pages.proofs.Keys.{taken_more}

-- page 0 is such a page
pub filled_none : (m : WordMap) (heads pages : ℕ) → IsRuns m heads pages → IsFilled m heads pages 0
filled_none m heads pages runs = record {
  inside = omega arith;
  head = runs.laid.begins;
  taken = λ k h. absurd (omega arith);
}

-- over a granted run it moves on
pub filled_step : (m : WordMap) (heads pages p : ℕ) → IsRuns m heads pages → IsFilled m heads pages p → p < pages → 0 < run_word m heads p % 4 → IsFilled m heads pages (p + run_word m heads p / 4)
filled_step m heads pages p runs f low odd =
    let h = runs.laid.heads p low (f.head low) in record {
      inside = h.inside;
      head = h.next;
      taken = λ k b. ⊎_elim
          (λ (x : k < p). f.taken k x)
          (λ (x : p ≤ k). of_taken pages 0 k p (run_word m heads) (omega arith) (omega arith) odd x b)
          (cases_lt k p);
    }

-- no free run begins before it
pub filled_best : (m : WordMap) (heads pages p : ℕ) → IsFilled m heads pages p → IsBest pages (granted_in m heads pages) p 0
filled_best m heads pages p f = record {
  there = (p, record { inside = (let i = f.inside in omega arith); free = λ k a b. absurd (omega arith) });
  most = λ from n x free. ⊎_elim
      (λ (y : 0 < n). absurd (both_ways (is_taken (granted_in m heads pages) from) (free.free from (omega arith) (omega arith)) (f.taken from x)))
      (λ (y : n ≤ 0). y)
      (cases_lt 0 n);
}

-- where the granted runs stay, and so does the head there
pub filled_same : (m m2 : WordMap) (heads pages p : ℕ) → granted_in m2 heads pages ≡ granted_in m heads pages → (p < pages → 0 < run_word m2 heads p) → IsFilled m heads pages p → IsFilled m2 heads pages p
filled_same m m2 heads pages p same head f = record {
  inside = f.inside;
  head = head;
  taken = λ k h. ap (λ (gs : List Granted). is_taken gs k) same ∙ f.taken k h;
}

-- with one run more it stays
pub filled_grant : (m m2 : WordMap) (heads pages p : ℕ) (g : Granted) → KeepsHeads m m2 heads → Adds (granted_in m heads pages) (granted_in m2 heads pages) g → IsFilled m heads pages p → IsFilled m2 heads pages p
filled_grant m m2 heads pages p g keeps a f = record {
  inside = f.inside;
  head = λ h. keeps p (f.head h);
  taken = λ k h. taken_more (granted_in m heads pages) (granted_in m2 heads pages) g a k ∙ or_right (is_within g.from g.len k) (is_taken (granted_in m heads pages) k) (f.taken k h);
}

-- with one run less it is that run's page, where that is lower
pub filled_give : (m m2 : WordMap) (heads pages p q n x : ℕ) (c : Bool) → IsRuns m heads pages → KeepsHeads m m2 heads → Adds (granted_in m2 heads pages) (granted_in m heads pages) (record { from = q; len = n; control = c })
    → (x ≤ p) × (x ≤ q) × ((x ≡ p) ⊎ (x ≡ q)) → IsFilled m heads pages p → IsFilled m2 heads pages x
filled_give m m2 heads pages p q n x c runs keeps a low f =
    let w = word_of (run_word m heads) pages q n c (granted_in m2 heads pages) runs.laid a in record {
      inside = (let i = f.inside in let l = low.0 in omega arith);
      head = λ h. keeps x (⊎_elim
          (λ (e : x ≡ p). subst (λ (z : ℕ). 0 < run_word m heads z) (sym e) (f.head (omega arith)))
          (λ (e : x ≡ q). subst (λ (z : ℕ). 0 < run_word m heads z) (sym e) (some (run_word m heads q) n c w.1))
          low.2);
      taken = λ k h.
          let out : is_within q n k ≡ false = false_from_ne_true (is_within q n k) (λ e. let i = within_is q n k e in let l = low.1 in omega (arith, i.0)) in
          sym (ap (λ (b : Bool). b || is_taken (granted_in m2 heads pages) k) out)
          ∙ sym (taken_more (granted_in m2 heads pages) (granted_in m heads pages) (record { from = q; len = n; control = c }) a k)
          ∙ f.taken k (let l = low.0 in omega arith);
    }
  where
    some : (w n : ℕ) (c : Bool) → w ≡ 4 * n + cond c 2 1 → 0 < w
    some w n true e = omega arith
    some w n false e = omega arith
