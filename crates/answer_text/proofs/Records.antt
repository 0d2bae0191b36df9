-- The text of a record, piece by piece.
use Rattle.std.proofs.Common.{◌≡◌, ◌≢◌, ◌<◌, ◌≤◌, ◌+◌, ◌∙◌, ℕ, Bool, true, false, List, [], ◌∷◌, ◌++◌, ap, arith, get_or, length, refl, suc, sym, take}
use Rattle.std.specs.Prelude.{◌==◌, if◌then◌else◌}
use Rattle.std.proofs.lemmas.Bool.{ne_eqb}
use Rattle.std.proofs.lemmas.List.{take_more}
use Rattle.csv.proofs.WriteFacts.{escaped-append}
use Rattle.csv.specs.Writing.{by_style, default_writer, escaped, field_text, is_blank, needs_quotes, quoted}
use Rattle.csv.specs.declared.writer.QuoteStyle.TheVariants.{Necessary}

-- ---- a field between quotes

-- one more byte
pub escaped-more : (field : List ℕ) (i b : ℕ) → i < length field → escaped default_writer (take i field) ++ escaped default_writer (get_or field i b ∷ []) ≡ escaped default_writer (take (i + 1) field)
escaped-more field i b lt = sym (ap (escaped default_writer) (take_more field i b lt) ∙ escaped-append default_writer (take i field) (get_or field i b ∷ []))

-- ---- a record that shows no byte

-- a byte shows, between quotes or not
shows : (needs : Bool) (b : ℕ) (rest : List ℕ) → (length (if by_style Necessary needs then quoted default_writer (b ∷ rest) else b ∷ rest) == 0) ≡ (length (b ∷ rest) == 0)
shows true b rest = ne_eqb (suc (length (escaped default_writer (b ∷ rest) ++ 34 ∷ []))) 0 (λ z. cc z) ∙ sym (ne_eqb (suc (length rest)) 0 (λ z. cc z))
shows false b rest = refl

field-shows : (field : List ℕ) → (length (field_text default_writer field) == 0) ≡ (length field == 0)
field-shows [] = refl
field-shows (b ∷ rest) = shows (needs_quotes default_writer (b ∷ rest)) b rest

pub blank-none : (row : List (List ℕ)) → length row ≡ 0 → is_blank default_writer row ≡ true
unfolding is_blank
blank-none [] is = refl
blank-none (field ∷ rest) is = cc is

pub blank-one : (row : List (List ℕ)) → length row ≤ 1 → length row ≢ 0 → is_blank default_writer row ≡ (length (get_or row 0 []) == 0)
unfolding is_blank
blank-one [] few some = absurd (some refl)
blank-one (field ∷ []) few some = field-shows field
blank-one (field ∷ next ∷ rest) few some = absurd (omega (arith, few))

pub blank-other : (row : List (List ℕ)) → 1 < length row → is_blank default_writer row ≡ false
unfolding is_blank
blank-other [] many = absurd (omega (arith, many))
blank-other (field ∷ []) many = absurd (omega (arith, many))
blank-other (field ∷ next ∷ rest) many = refl
