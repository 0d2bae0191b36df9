-- What the writes of a state leave in its words.
use Rattle.std.proofs.Common.{◌≡◌, ◌<◌, ◌+◌, ◌*◌, ◌++◌, ◌∙◌, ℕ, List, [], ◌∷◌, length, map, take, set, get_or, ap, sym, refl, arith, rules, append-nil, length-append}
use Rattle.std.specs.List.{concat}
use Rattle.std.proofs.lemmas.List.{map-append, places, take_all, take_more, take_more_set}
use Rattle.std.proofs.lemmas.List.Folds.{concat-append}
use Rattle.std.proofs.lemmas.Slice.{take-put_mid}
use Rattle.par_model.specs.Aggregate.{no_values}
use Rattle.par_model.specs.declared.state.SlotState.{SlotState}
use Rattle.agg_cell.specs.StateWords.{slot_words}
use borrow.Rule.Slice.PartMut.{put_mid}

slots_words-push : (slots : List SlotState) (s : SlotState) → concat (map slot_words (slots ++ s ∷ [])) ≡ concat (map slot_words slots) ++ slot_words s
slots_words-push slots s = ap concat (map-append slot_words slots (s ∷ [])) ∙ concat-append (map slot_words slots) (slot_words s ∷ []) ∙ ap (λ (ws : List ℕ). concat (map slot_words slots) ++ ws) (append-nil (slot_words s))

pub length-slots_words : (slots : List SlotState) → length (concat (map slot_words slots)) ≡ 5 * length slots
length-slots_words [] = refl
length-slots_words (s ∷ slots) = length-append (slot_words s) (concat (map slot_words slots)) ∙ omega (arith, length-slots_words slots)

-- one slot more, where this many were written
pub written_more : (words part : List ℕ) (i k : ℕ) (slots : List SlotState) → length words ≡ 40 → length slots ≡ 8 → i < 8 → part ≡ slot_words (get_or slots i no_values) → take (5 * i) words ≡ concat (map slot_words (take i slots))
    → take (5 * (i + 1)) (put_mid (5 * i) k words part) ≡ concat (map slot_words (take (i + 1) slots))
written_more words part i k slots size long below is so_far =
    let five : length part ≡ 5 = ap length is in
    take-put_mid (5 * i) k words part (5 * (i + 1)) (omega arith) (omega arith)
    ∙ ap (λ (ws : List ℕ). ws ++ part) so_far ∙ ap (λ (ws : List ℕ). concat (map slot_words (take i slots)) ++ ws) is
    ∙ sym (ap (λ (ss : List SlotState). concat (map slot_words ss)) (take_more slots i no_values (omega arith)) ∙ slots_words-push (take i slots) (get_or slots i no_values))

-- the first word, and all behind it
pub written_whole : (words tail : List ℕ) (rows k : ℕ) → length words ≡ 41 → length tail ≡ 40 → k ≡ 40 → put_mid 1 k (set words 0 rows) tail ≡ rows ∷ tail
written_whole words tail rows k size behind rest =
    let first : List ℕ = set words 0 rows in
    let all : List ℕ = put_mid 1 k first tail in
    let first_long : length first ≡ 41 = search (rules, places, size) in
    let long : length all ≡ 41 = search (rules, places, first_long, behind, rest) in
    let front : take 1 first ≡ rows ∷ [] = take_more_set words 0 rows (omega arith) in
    sym (take_all 41 all (omega arith)) ∙ take-put_mid 1 k first tail 41 (omega arith) (omega arith) ∙ ap (λ (ws : List ℕ). ws ++ tail) front
