-- Words that are a merge, and words that are none; and the same of any form of three words.
use Rattle.std.proofs.Common.{◌≡◌, ℕ, Bool, true, false, List, [], Option, None, length, refl, arith}
use Rattle.std.specs.Prelude.{◌==◌, ◌&&◌, if◌then◌else◌, slice_index_or}
use Rattle.std.proofs.lemmas.Bool.Decides.{nat_tests}
use Rattle.plan_spec.specs.Merging.{is_merge, merge_of, merge_query}

-- ---- words of three, of which the first is a certain one

module _ {A : Type 0} (words : List (List ℕ)) (x : Option A) (first : Bool) where
  pub no_three : (length words ≡ 3 → ⊥) → (if first && (length words == 3) then x else None) ≡ None
  no_three differs = by first
    where
      by : (b : Bool) → (if b && (length words == 3) then x else None) ≡ None
      by true =
          let no : (length words == 3) ≡ false = grind (arith, nat_tests) in
          rw no refl
      by false = refl

  pub not_first : first ≡ false → (if first && (length words == 3) then x else None) ≡ None
  not_first is = rw is refl

  pub all_three : first ≡ true → length words ≡ 3 → (if first && (length words == 3) then x else None) ≡ x
  all_three is three = rw (is, three) refl

-- ---- those of a merge

-- words of another number
pub other_number : (words : List (List ℕ)) → (length words ≡ 3 → ⊥) → merge_of words ≡ None
unfolding merge_of
other_number words differs = no_three words (merge_query (slice_index_or words 1 []) (slice_index_or words 2 [])) (is_merge words) differs

-- words of which the first is another
pub other_first : (words : List (List ℕ)) → is_merge words ≡ false → merge_of words ≡ None
unfolding merge_of
other_first words is = not_first words (merge_query (slice_index_or words 1 []) (slice_index_or words 2 [])) (is_merge words) is

-- three words of which the first is `merge`
pub three_words : (words : List (List ℕ)) → is_merge words ≡ true → length words ≡ 3 → merge_of words ≡ merge_query (slice_index_or words 1 []) (slice_index_or words 2 [])
unfolding merge_of
three_words words is three = all_three words (merge_query (slice_index_or words 1 []) (slice_index_or words 2 [])) (is_merge words) is three
