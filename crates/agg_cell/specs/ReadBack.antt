-- A state that is a value of its type reads back as it was written.
use Rattle.std.proofs.Common.{◌≡◌, ◌+◌, ◌*◌, ◌/◌, ◌%◌, ◌^◌, ℕ, ℤ, List, [], ◌∷◌, length, map, ap, ◌∙◌, arith, FitsSigned, of_z}
use Rattle.std.specs.Int.{cast_signed, cast_unsigned, w64, w128}
use Rattle.std.specs.List.{AllByRecursion, concat, range_with_len}
use Rattle.std.proofs.lemmas.Int.{to_z-of_z}
use Rattle.par_model.specs.declared.state.AggState.{AggState}
use Rattle.par_model.specs.declared.state.SlotState.{SlotState}
use Rattle.agg_cell.specs.StateWords.{IsSlot, IsState, joined_sum, slot_at, slot_start, slot_words, state_of_words, state_words}

-- a sum is that of its two words
halves : (z : ℤ) → FitsSigned w128 z → joined_sum (cast_unsigned w128 z % 2 ^ 64) (cast_unsigned w128 z / 2 ^ 64) ≡ z
halves z fits = ap (cast_signed w128) (whole (of_z w128 z)) ∙ to_z-of_z w128 z fits
  where
    whole : (n : ℕ) → n / 2 ^ 64 * 2 ^ 64 + n % 2 ^ 64 ≡ n
    whole n = omega arith

-- a slot is that of its words
one : (s : SlotState) → IsSlot s → record {
  count = s.count;
  sum = joined_sum (cast_unsigned w128 s.sum % 2 ^ 64) (cast_unsigned w128 s.sum / 2 ^ 64);
  least = cast_signed w64 (cast_unsigned w64 s.least);
  greatest = cast_signed w64 (cast_unsigned w64 s.greatest);
} ≡ s
one s is = λ i. record { count = s.count; sum = halves s.sum is.sum i; least = to_z-of_z w64 s.least is.least i; greatest = to_z-of_z w64 s.greatest is.greatest i }

slots_back : (rows : ℕ) (slots : List SlotState) → length slots ≡ 8 → AllByRecursion IsSlot slots
    → map (λ i. slot_at (rows ∷ concat (map slot_words slots)) (slot_start i)) (range_with_len 0 8) ≡ slots
slots_back rows [] long n = absurd (omega arith)
slots_back rows (a ∷ []) long n = absurd (omega arith)
slots_back rows (a ∷ b ∷ []) long n = absurd (omega arith)
slots_back rows (a ∷ b ∷ c ∷ []) long n = absurd (omega arith)
slots_back rows (a ∷ b ∷ c ∷ d ∷ []) long n = absurd (omega arith)
slots_back rows (a ∷ b ∷ c ∷ d ∷ e ∷ []) long n = absurd (omega arith)
slots_back rows (a ∷ b ∷ c ∷ d ∷ e ∷ f ∷ []) long n = absurd (omega arith)
slots_back rows (a ∷ b ∷ c ∷ d ∷ e ∷ f ∷ g ∷ []) long n = absurd (omega arith)
slots_back rows (a ∷ b ∷ c ∷ d ∷ e ∷ f ∷ g ∷ h ∷ []) long n =
    λ i. one a n.0 i ∷ one b n.1.0 i ∷ one c n.1.1.0 i ∷ one d n.1.1.1.0 i ∷ one e n.1.1.1.1.0 i ∷ one f n.1.1.1.1.1.0 i ∷ one g n.1.1.1.1.1.1.0 i ∷ one h n.1.1.1.1.1.1.1.0 i ∷ []
slots_back rows (a ∷ b ∷ c ∷ d ∷ e ∷ f ∷ g ∷ h ∷ x ∷ more) long n = absurd (omega arith)

pub reads_back : (state : AggState) → IsState state → state_of_words (state_words state) ≡ state
reads_back state is = λ i. record { rows = state.rows; slots = slots_back state.rows state.slots is.long is.numbers i }
