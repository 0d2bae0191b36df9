-- Words as they are loaded: of each row's first column, and of the rows of pairs.
use Rattle.std.proofs.Common.{◌≡◌, ◌<◌, ◌≤◌, ◌+◌, ◌⊎◌, inl, inr, ◌++◌, ℕ, zero, suc, List, [], ◌∷◌, length, take, get_or, set, map, All, refl, ap, sym, subst, ◌∙◌, arith}
use Rattle.std.proofs.lemmas.Bool.{cases_lt}
use Rattle.std.proofs.lemmas.List.{get_or_past}
use Rattle.std.proofs.lemmas.List.Elements.{All-cons, All-head, All-nil, All-tail}
use Rattle.row_blocks.specs.Blocks.{Table}
use Rattle.par_model.specs.Plan.{Plan}
use Rattle.par_model.specs.Record.{field_of}
use Rattle.gather_merge.specs.declared.sorting.Keyed.{Keyed}
use Rattle.gather_merge.specs.Levels.{rows_of}
use Rattle.gather_merge.specs.Order.{columns_at}
use Rattle.gather_merge.specs.RowWords.{AreBytes, AreLoaded, AreWords, text_at, word}

-- ---- the words of the first column

-- a list has the words of the rows below a number
pub record AreWordsBelow (columns : ℕ → List (List ℕ)) (n : ℕ) (words : List ℕ) : Type 0 where
  pub long : length words ≡ n
  pub each : (row : ℕ) → row < n → get_or words row 0 ≡ word (text_at columns 0 0 row)
  pub bytes : (row : ℕ) → row < n → AreBytes (text_at columns 0 0 row)

pub words_loaded : (columns : ℕ → List (List ℕ)) (n : ℕ) (old words : List ℕ) → length old ≡ n → AreLoaded columns old words → AreWordsBelow columns n words
words_loaded columns n old words e a = record { long = a.long ∙ e; each = λ row l. (a.each row 0 (omega (arith, l, e))).is; bytes = λ row l. (a.each row 0 (omega (arith, l, e))).bytes }

empty : (groups : List ℕ) → get_or (map (field_of []) groups) 0 [] ≡ []
empty [] = refl
empty (g ∷ groups) = refl

no_word : word [] ≡ 0
unfolding word
no_word = refl

-- a row that is not there has no text
no_text : (plan : Plan) (records : Table) (row : ℕ) → length records ≤ row → text_at (columns_at plan records) 0 0 row ≡ []
no_text plan records row h = ap (λ (r : List (List ℕ)). get_or (map (field_of r) plan.groups) 0 []) (get_or_past records row [] h) ∙ empty plan.groups

pub words_all : (plan : Plan) (records : Table) (n : ℕ) (words : List ℕ) → AreWordsBelow (columns_at plan records) n words → length records ≤ n → AreWords (columns_at plan records) words
words_all plan records n words a h = record { each = λ row. each row (cases_lt row n); bytes = λ row. bytes row (cases_lt row n) }
  where
    each : (row : ℕ) → (row < n) ⊎ (n ≤ row) → get_or words row 0 ≡ word (text_at (columns_at plan records) 0 0 row)
    each row (inl l) = a.each row l
    each row (inr l) = get_or_past words row 0 (omega (arith, l, a.long)) ∙ sym (ap word (no_text plan records row (omega (arith, l, h))) ∙ no_word)

    none : AreBytes []
    none k = omega arith

    bytes : (row : ℕ) → (row < n) ⊎ (n ≤ row) → AreBytes (text_at (columns_at plan records) 0 0 row)
    bytes row (inl l) = a.bytes row l
    bytes row (inr l) = subst AreBytes (sym (no_text plan records row (omega (arith, l, h)))) none

-- ---- the words of pairs

pub rows_set : (run : List Keyed) (i : ℕ) (k d : Keyed) → k.row ≡ (get_or run i d).row → i < length run → rows_of (set run i k) ≡ rows_of run
rows_set [] i k d e l = absurd (omega (arith, l))
rows_set (x ∷ run) zero k d e l = ap (λ (r : ℕ). r ∷ rows_of run) e
rows_set (x ∷ run) (suc i) k d e l = ap (λ (rs : List ℕ). x.row ∷ rs) (rows_set run i k d e (omega (arith, l)))

pub rows_take : (run : List Keyed) (i : ℕ) (d : Keyed) → i < length run → take (i + 1) (rows_of run) ≡ take i (rows_of run) ++ (get_or run i d).row ∷ []
rows_take [] i d l = absurd (omega (arith, l))
rows_take (x ∷ run) zero d l = refl
rows_take (x ∷ run) (suc i) d l =
    let next : suc (i + 1) ≡ suc i + 1 = omega arith in
    subst (λ n. take n (rows_of (x ∷ run)) ≡ take (suc i) (rows_of (x ∷ run)) ++ (get_or run i d).row ∷ []) next (ap (λ (rs : List ℕ). x.row ∷ rs) (rows_take run i d (omega (arith, l))))

pub all_set : (P : Keyed → Type 0) (run : List Keyed) (i : ℕ) (k : Keyed) → All P (take i run) → P k → i < length run → All P (take (i + 1) (set run i k))
all_set P [] i k a p l = absurd (omega (arith, l))
all_set P (x ∷ run) zero k a p l = All-cons P k [] p (All-nil P)
all_set P (x ∷ run) (suc i) k a p l =
    let next : suc (i + 1) ≡ suc i + 1 = omega arith in
    subst (λ n. All P (take n (x ∷ set run i k))) next (All-cons P x (take (i + 1) (set run i k)) (All-head P x (take i run) a) (all_set P run i k (All-tail P x (take i run) a) p (omega (arith, l))))
