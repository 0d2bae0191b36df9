-- The text of a field: where it ends, and the field in it.
use Rattle.std.proofs.Common.{◌≡◌, ◌+◌, ◌∙◌, ◌∷◌, ◌++◌, [], Bool, ℕ, List, true, false, ap, arith, inl, inr, length, refl, sym, true≢false}
use Rattle.std.specs.Prelude.{◌==◌, ◌&&◌, if◌then◌else◌, slice_index}
use Rattle.std.proofs.lemmas.Bool.{eqb-true}
use Rattle.csv.specs.Writing.{default_writer, escaped, field_text, fields_text, needs_quotes, quoted}
use Rattle.table_form.specs.Reading.{IsFieldText, once}
use Rattle.table_order.specs.Lines.{between_quotes, size_to}
use Rattle.table_order.proofs.Fields.{between}
use Rattle.table_order.proofs.Scan.{size-comma, size-feed, size-field, size-quote}

-- what comes after a field: a comma and more fields, or the end of the line
pub after-size : (others : List (List ℕ)) (rest : List ℕ) → size_to true false (fields_text default_writer others ++ 10 ∷ rest) ≡ 0
unfolding fields_text
after-size [] rest = size-feed true rest
after-size (field ∷ others) rest = size-comma ((field_text default_writer field ++ fields_text default_writer others) ++ 10 ∷ rest)

marks-size : (tail : List ℕ) → size_to true false tail ≡ 0 → size_to true false (quoted default_writer [] ++ tail) ≡ 2
unfolding escaped
marks-size tail none =
    let first = size-quote true false (34 ∷ tail) in
    let second = size-quote true true tail in
    omega (arith, none, first, second)

-- a scan ends where the text of a field does
pub text-size : (field text tail : List ℕ) → IsFieldText field text → size_to true false tail ≡ 0 → size_to true false (text ++ tail) ≡ length text
unfolding escaped
text-size field text tail (inl is) none =
    let size = size-field true field tail in
    ap (λ (t : List ℕ). size_to true false (t ++ tail)) is ∙ size ∙ (let all : length (field_text default_writer field) + size_to true false tail ≡ length (field_text default_writer field) = omega (arith, none) in all) ∙ sym (ap length is)
text-size field text tail (inr both) none = ap (λ (t : List ℕ). size_to true false (t ++ tail)) both.1 ∙ marks-size tail none ∙ sym (ap length both.1)

-- a text without quotes is the field
bare-by : (needs : Bool) (field : List ℕ) → (slice_index (if needs then quoted default_writer field else field) 0 == 34) ≡ false → (if needs then quoted default_writer field else field) ≡ field
bare-by true field other = absurd (true≢false other)
bare-by false field other = refl

pub bare-text : (field text : List ℕ) → IsFieldText field text → (slice_index text 0 == 34) ≡ false → text ≡ field
bare-text field text (inl is) other =
    is ∙ bare-by (needs_quotes default_writer field) field (ap (λ (t : List ℕ). slice_index t 0 == 34) (sym is) ∙ other)
bare-text field text (inr both) other = absurd (true≢false (ap (λ (t : List ℕ). slice_index t 0 == 34) (sym both.1) ∙ other))

-- what a text has between its quotes
pub quoted-text : (field text : List ℕ) → IsFieldText field text → between_quotes text ≡ escaped default_writer field
unfolding escaped
quoted-text field text (inl is) = ap between_quotes is ∙ between field
quoted-text field text (inr both) = ap between_quotes both.1 ∙ ap (escaped default_writer) (sym both.0)

-- ---- quotes that are there twice

once-quotes : (rest : List ℕ) → once false (34 ∷ 34 ∷ rest) ≡ 34 ∷ once false rest
unfolding once
once-quotes rest = refl

escaped-quote : (rest : List ℕ) → escaped default_writer (34 ∷ rest) ≡ 34 ∷ 34 ∷ escaped default_writer rest
unfolding escaped
escaped-quote rest = refl

once-by : (b : ℕ) (rest : List ℕ) (p : Bool) → (b == 34) ≡ p → once false (escaped default_writer rest) ≡ rest → once false (escaped default_writer (b ∷ rest)) ≡ b ∷ rest
unfolding once escaped
once-by b rest true is h =
    let same = eqb-true b 34 is in
    ap (λ (c : ℕ). once false (escaped default_writer (c ∷ rest))) same ∙ ap (once false) (escaped-quote rest) ∙ once-quotes (escaped default_writer rest) ∙ ap (λ (t : List ℕ). 34 ∷ t) h
    ∙ ap (λ (c : ℕ). c ∷ rest) (sym same)
once-by b rest false is h = rw (is, is) (ap (λ (t : List ℕ). b ∷ t) h)

pub once-escaped : (field : List ℕ) → once false (escaped default_writer field) ≡ field
unfolding once escaped
once-escaped [] = refl
once-escaped (b ∷ rest) = once-by b rest (b == 34) refl (once-escaped rest)

once-twice : (rest : List ℕ) → once true (34 ∷ rest) ≡ once false rest
unfolding once
once-twice rest = refl

pub once-second : (after : Bool) (b : ℕ) (rest : List ℕ) → after ≡ true → b ≡ 34 → once after (b ∷ rest) ≡ once false rest
once-second after b rest second is = ap (λ (a : Bool). once a (b ∷ rest)) second ∙ ap (λ (c : ℕ). once true (c ∷ rest)) is ∙ once-twice rest

pub and-first : (p q : Bool) → p ≡ false → (p && q) ≡ false
and-first p q is = ap (λ (b : Bool). b && q) is

pub and-second : (p q : Bool) → q ≡ false → (p && q) ≡ false
and-second true q is = is
and-second false q is = refl

pub once-other : (after : Bool) (b : ℕ) (rest : List ℕ) → ((b == 34) && after) ≡ false → once after (b ∷ rest) ≡ b ∷ once (b == 34) rest
unfolding once
once-other after b rest is = rw is refl

pub once-none : (after : Bool) → once after [] ≡ []
unfolding once
once-none after = refl
