-- Words that ask for a join, and words that do not.
use Rattle.std.proofs.Common.{◌≡◌, ℕ, true, false, List, [], Option, None, length, refl, option_map}
use Rattle.std.specs.Prelude.{◌==◌, slice_index_or}
use Rattle.plan_spec.specs.Grammar.{number_in}
use Rattle.plan_spec.proofs.Merges.{all_three, no_three, not_first}
use Rattle.join_query.specs.Words.{asked_in, is_join, join_of}

-- words of another number
pub other_number : (words : List (List ℕ)) → (length words ≡ 3 → ⊥) → join_of words ≡ None
unfolding join_of
other_number words differs = no_three words (asked_in (slice_index_or words 1 []) (slice_index_or words 2 [])) (is_join words) differs

-- words of which the first is another
pub other_first : (words : List (List ℕ)) → is_join words ≡ false → join_of words ≡ None
unfolding join_of
other_first words is = not_first words (asked_in (slice_index_or words 1 []) (slice_index_or words 2 [])) (is_join words) is

-- three words of which the first is `join`
pub three_words : (words : List (List ℕ)) → is_join words ≡ true → length words ≡ 3 → join_of words ≡ asked_in (slice_index_or words 1 []) (slice_index_or words 2 [])
unfolding join_of
three_words words is three = all_three words (asked_in (slice_index_or words 1 []) (slice_index_or words 2 [])) (is_join words) is three

-- an empty name, and one that is not
pub no_name : (column workers : List ℕ) → (length column == 0) ≡ true → asked_in column workers ≡ None
no_name column workers none = rw none refl

pub by_number : (column workers : List ℕ) (n : Option ℕ) → (length column == 0) ≡ false → number_in 64 workers ≡ n → asked_in column workers ≡ option_map (λ n. record { column = column; workers = n }) n
by_number column workers n some is = rw (some, is) refl
