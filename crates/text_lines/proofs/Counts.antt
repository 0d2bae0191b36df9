-- Line feeds of a text in parts.
use Rattle.std.proofs.Common.{◌≡◌, ◌≢◌, ◌<◌, ◌≤◌, ◌+◌, ◌++◌, ◌∙◌, inl, inr, ℕ, List, [], ◌∷◌, length, take, drop, slice_index, refl, ap, sym, arith, take-append-drop}
use Rattle.std.specs.Prelude.{◌==◌, if◌then◌else◌}
use Rattle.std.proofs.Math.Seq.{take-add}
use Rattle.std.proofs.lemmas.Bool.{cases_Bool, eqb-true}
use Rattle.std.proofs.lemmas.List.{take_more}
use Rattle.text_lines.specs.Feeds.{count_feeds}

pub count_none : count_feeds [] ≡ 0
unfolding count_feeds
count_none = refl

pub count_append : (a b : List ℕ) → count_feeds (a ++ b) ≡ count_feeds a + count_feeds b
unfolding count_feeds
count_append [] b = let none : count_feeds b ≡ 0 + count_feeds b = omega arith in none
count_append (c ∷ a) b = omega (arith, count_append a b)

pub count_few : (bytes : List ℕ) → count_feeds bytes ≤ length bytes
unfolding count_feeds
count_few [] = omega arith
count_few (c ∷ bytes) = elim (cases_Bool (c == 10)) [ inl e ↦ rw e (omega (arith, count_few bytes)) | inr e ↦ rw e (omega (arith, count_few bytes)) ]

pub count_one : (c : ℕ) → count_feeds (c ∷ []) ≡ (if c == 10 then 1 else 0)
unfolding count_feeds
count_one c = omega arith

-- one byte more
pub count_more : (bytes : List ℕ) (at : ℕ) → at < length bytes → count_feeds (take (at + 1) bytes) ≡ count_feeds (take at bytes) + (if slice_index bytes at == 10 then 1 else 0)
count_more bytes at low =
    let c = slice_index bytes at in
    ap count_feeds (take_more bytes at 0 low) ∙ (count_append (take at bytes) (c ∷ []) ∙ ap (λ n. count_feeds (take at bytes) + n) (count_one c))

-- which is a line feed
pub count_feed : (bytes : List ℕ) (at : ℕ) → at < length bytes → slice_index bytes at ≡ 10 → count_feeds (take (at + 1) bytes) ≡ count_feeds (take at bytes) + 1
count_feed bytes at low is = count_more bytes at low ∙ ap (λ (c : ℕ). count_feeds (take at bytes) + (if c == 10 then 1 else 0)) is

-- or another one
pub count_other : (bytes : List ℕ) (at : ℕ) → at < length bytes → slice_index bytes at ≢ 10 → count_feeds (take (at + 1) bytes) ≡ count_feeds (take at bytes)
count_other bytes at low other =
    let more = count_more bytes at low in
    elim (cases_Bool (slice_index bytes at == 10)) [
      | inl e ↦ absurd (other (eqb-true (slice_index bytes at) 10 e))
      | inr e ↦ let same = rw e at more in omega (arith, same)
    ]

-- some bytes more, and all others
pub count_on : (bytes : List ℕ) (at n : ℕ) → count_feeds (take (at + n) bytes) ≡ count_feeds (take at bytes) + count_feeds (take n (drop at bytes))
count_on bytes at n = ap count_feeds (take-add at n bytes) ∙ count_append (take at bytes) (take n (drop at bytes))

pub count_rest : (bytes : List ℕ) (at : ℕ) → count_feeds bytes ≡ count_feeds (take at bytes) + count_feeds (drop at bytes)
count_rest bytes at = ap count_feeds (sym (take-append-drop at bytes)) ∙ count_append (take at bytes) (drop at bytes)
