-- A chunk's words when its first word is stored.
use Rattle.std.proofs.Common.{◌≡◌, ℕ, zero, suc, ◌+◌, ◌%◌, ◌^◌, ◌<◌, ◌∷◌, Option, Some, unwrap_or, sym, ap, subst, ◌∙◌, arith}
use Rattle.std.specs.FinMap as fin
use Rattle.word_map.specs.WordMap.{WordMap, at}
use Rattle.word_map.proofs.Maps.{at-insert_same, at-insert_other}
use Rattle.dshash_core.specs.Chains.{word, words_at}
use Rattle.dshash_core.proofs.Chains.{words_at-same}
use Rattle.uses_chunks.specs.Grown.{grown}

pub grows : (m : WordMap) (a len n x y : ℕ) → 0 < len → at m (a + 0) ≡ Some x → y ≡ (x + n) % 2 ^ 64 → words_at (word (fin.insert m (a + 0) y)) a len ≡ (grown (words_at (word m) a len) n).0
grows m a zero n x y some found new = absurd (omega arith)
grows m a (suc len) n x y some found new =
    let here : a ≡ a + 0 = omega arith in
    let was : word m a ≡ x = ap (λ (o : Option ℕ). unwrap_or o 0) (subst (λ (k : ℕ). at m k ≡ Some x) (sym here) found) in
    let is : word (fin.insert m (a + 0) y) a ≡ y = ap (λ (o : Option ℕ). unwrap_or o 0) (at-insert_same m (a + 0) y a here) in
    let head : word (fin.insert m (a + 0) y) a ≡ (word m a + n) % 2 ^ 64 = is ∙ (new ∙ ap (λ (z : ℕ). (z + n) % 2 ^ 64) (sym was)) in
    let tail : words_at (word (fin.insert m (a + 0) y)) (suc a) len ≡ words_at (word m) (suc a) len = words_at-same (word (fin.insert m (a + 0) y)) (word m) (suc a) len (λ k low high. ap (λ (o : Option ℕ). unwrap_or o 0) (at-insert_other m (a + 0) y k (λ e. absurd (omega arith)))) in
    λ i. head i ∷ tail i
