-- Words of two parts that begin at one place are none that both have.
use Rattle.std.proofs.Common.{◌≡◌, ◌≢◌, ◌∙◌, ℕ, ◌<◌, ◌/◌, ◌%◌, true, Option, Some, None, is_some, refl, sym, subst, arith}
use Rattle.std.proofs.lemmas.Bool.Decides.{nat_tests}
use Rattle.word_map.specs.WordMap.{Disjoint, Has, HasJust, WordMap, at, is_within}

is-there : {A : Type 0} (o : Option A) → is_some o ≡ true → (x : A) × (o ≡ Some x)
is-there None e = cc
is-there (Some x) e = (x, refl)

first-within : (from len : ℕ) → 0 < len → is_within from len from ≡ true
first-within from len some = grind (arith, nat_tests)

has-first : (m : WordMap) (from len : ℕ) → HasJust m from len → 0 < len → Has m from
has-first m from len just some = is-there (at m from) (just from ∙ first-within from len some)

-- two parts in a row of words each, with none in common
pub begin-apart : (m n : WordMap) (from other len lens : ℕ) → HasJust m from len → HasJust n other lens → 0 < len → 0 < lens → Disjoint m n → from ≢ other
begin-apart m n from other len lens one two some more apart e =
    let x = has-first m from len one some in
    let y = has-first n other lens two more in
    apart from x.0 y.0 x.1 (subst (λ (k : ℕ). at n k ≡ Some y.0) (sym e) y.1)

-- a length in bytes is some words
pub some-words : (bytes : ℕ) → 0 < bytes → bytes % 8 ≡ 0 → 0 < bytes / 8
some-words bytes some whole = omega arith
