-- Slices cut off a part one after another.
use Rattle.std.proofs.Common.{◌≡◌, ℕ, ◌+◌, ◌≤◌, cond, false, List, [], ◌∷◌, ◌++◌, Option, None, sym, ap, subst, ◌∙◌, arith, Bool}
use Rattle.std.proofs.lemmas.Bool.Decides.{nat_tests}
use Rattle.atomic_table.specs.Seated.{TableId}
use Rattle.word_map.specs.WordMap.{WordMap, at as word_at, is_within, rest_of}
use Rattle.word_map.proofs.Maps.{at-rest_cond, same_answers}
use Rattle.region_words.specs.declared.chunk.Chunk.{Chunk}
use Rattle.dshash_parts.specs.Opening.{HaveWords}

-- one more chunk of a word at the end
pub words_next : (region : TableId) (all xs : List Chunk) (c : Chunk) → all ≡ xs ++ c ∷ [] → HaveWords region xs → c.part.region ≡ region → 8 ≤ c.bytes → HaveWords region all
words_next region all xs c e h here room = subst (λ (z : List Chunk). HaveWords region z) (sym e) (front xs h)
  where
    front : (ys : List Chunk) → HaveWords region ys → HaveWords region (ys ++ c ∷ [])
    front [] x = (here, room, tt)
    front (y ∷ ys) x = (x.0, x.1, front ys x.2)

nothing_within : (from k : ℕ) → is_within from 0 k ≡ false
nothing_within from k = grind (arith, nat_tests)

one_more_within : (from n k : ℕ) (o : Option ℕ) → cond {A = Option ℕ} (is_within (from + n) 1 k) None (cond {A = Option ℕ} (is_within from n k) None o) ≡ cond {A = Option ℕ} (is_within from (n + 1) k) None o
one_more_within from n k o = grind (arith, nat_tests)

-- no word was cut off yet
pub rest_none : (m : WordMap) (from : ℕ) → rest_of m from 0 ≡ m
rest_none m from = same_answers (rest_of m from 0) m (λ k. at-rest_cond m from 0 k ∙ ap (λ (b : Bool). cond {A = Option ℕ} b None (word_at m k)) (nothing_within from k))

-- the next word goes too
pub rest_next : (m : WordMap) (from n next : ℕ) → next ≡ from + n → rest_of (rest_of m from n) next 1 ≡ rest_of m from (n + 1)
rest_next m from n next e =
    ap (λ (z : ℕ). rest_of (rest_of m from n) z 1) e
    ∙ same_answers (rest_of (rest_of m from n) (from + n) 1) (rest_of m from (n + 1)) (λ k.
    at-rest_cond (rest_of m from n) (from + n) 1 k
    ∙ ap (λ (o : Option ℕ). cond {A = Option ℕ} (is_within (from + n) 1 k) None o) (at-rest_cond m from n k)
    ∙ one_more_within from n k (word_at m k)
    ∙ sym (at-rest_cond m from (n + 1) k))
