-- A chunk's words when a number was stored in the first one.
use Rattle.std.proofs.Common.{◌≡◌, ℕ, zero, suc, ◌+◌, ◌<◌, ◌∷◌, List, Option, unwrap_or, ap, arith}
use Rattle.std.specs.FinMap as fin
use Rattle.word_map.specs.WordMap.{WordMap}
use Rattle.word_map.proofs.Maps.{at-insert_same}
use Rattle.dshash_core.specs.Chains.{word, words_at}

pub numbered : (m : WordMap) (a len y : ℕ) → 0 < len → (rest : List ℕ) × (words_at (word (fin.insert m (a + 0) y)) a len ≡ y ∷ rest)
numbered m a zero y some = absurd (omega arith)
numbered m a (suc len) y some =
    let here : a ≡ a + 0 = omega arith in
    let is : word (fin.insert m (a + 0) y) a ≡ y = ap (λ (o : Option ℕ). unwrap_or o 0) (at-insert_same m (a + 0) y a here) in
    (words_at (word (fin.insert m (a + 0) y)) (suc a) len, λ i. is i ∷ words_at (word (fin.insert m (a + 0) y)) (suc a) len)
