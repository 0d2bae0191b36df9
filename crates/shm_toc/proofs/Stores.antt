-- What a part has after stores, splits and joins.
use Rattle.std.proofs.Common.{◌≡◌, ◌≢◌, ℕ, zero, suc, ◌<◌, ◌≤◌, ◌==◌, Bool, true, false, cond, Option, Some, IsSome, is_some, refl, sym, ap, subst, ◌∙◌, eq-eqb, ne_eqb, arith}
use Rattle.std.specs.FinMap as fin
use Rattle.word_map.specs.WordMap.{WordMap, at}
use Rattle.word_map.proofs.Maps.{at-insert_cond, insert-just, within_true}
use Rattle.word_map.specs.WordMap.{HasJust}
use Rattle.region_words.specs.Parts.{Owned, owned}

pub other : (a b : ℕ) (o p : Option ℕ) → a ≢ b → cond (a == b) o p ≡ p
other a b o p n = ap (λ t. cond t o p) (ne_eqb a b n)

pub this : (a b : ℕ) (o p : Option ℕ) → a ≡ b → cond (a == b) o p ≡ o
this a b o p e = ap (λ t. cond t o p) (eq-eqb a b e)

-- the part p is o after a store
abbrev pub IsStored : Owned → Owned → ℕ → ℕ → Type 0
IsStored o p q x = p ≡ owned o.region (fin.insert o.words q x)

pub stored_at : (o p : Owned) (q x k : ℕ) → IsStored o p q x → at p.words k ≡ cond {A = Option ℕ} (k == q) (Some x) (at o.words k)
stored_at o p q x k e = ap (λ (z : Owned). at z.words k) e ∙ at-insert_cond o.words q x k

some_cond : (b : Bool) (x : ℕ) (o : Option ℕ) → IsSome o → IsSome (cond b (Some x) o)
some_cond true x o h = refl
some_cond false x o h = h

pub stored_has : (o p : Owned) (q x k : ℕ) → IsStored o p q x → IsSome (at o.words k) → IsSome (at p.words k)
stored_has o p q x k e h = ap is_some (stored_at o p q x k e) ∙ some_cond (k == q) x (at o.words k) h

-- a store in a word that is there leaves the words a row
pub stored_just : (o p : Owned) (q x words : ℕ) → IsStored o p q x → IsSome (at o.words q) → HasJust o.words 0 words → HasJust p.words 0 words
stored_just o p q x words e has just = subst (λ (z : Owned). HasJust z.words 0 words) (sym e) (insert-just o.words q x 0 words has just)

-- who owns just the first words of a region has at most 2 ^ 26
pub few_words : (m : WordMap) (words : ℕ) → HasJust m 0 words → ((k : ℕ) → IsSome (at m k) → k < 67108864) → words ≤ 67108864
few_words m zero just small = omega arith
few_words m (suc n) just small = let s = small n (just n ∙ within_true 0 (suc n) n (omega arith) (omega arith)) in omega arith
