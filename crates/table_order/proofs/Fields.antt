-- The fields of a line, as a scan finds them.
use Rattle.std.proofs.Common.{◌≡◌, ◌<◌, ◌≤◌, ◌+◌, ◌-◌, ◌∙◌, ◌∷◌, ◌++◌, [], Bool, ℕ, List, true, false, ap, append_assoc, arith, drop, get_or, length, length-append, refl, suc, sym, take, take_all, true≢false, zero}
use Rattle.std.specs.Prelude.{◌==◌, if◌then◌else◌}
use Rattle.std.proofs.lemmas.Bool.{eqb-true}
use Rattle.std.proofs.lemmas.List.{take-append-le}
use Rattle.csv.specs.Writing.{default_writer, escaped, field_text, fields_text, is_blank, needs_quotes, quoted, row_text}
use Rattle.table_order.specs.Lines.{after_field, after_fields, between_quotes, size_to}
use Rattle.table_order.proofs.Scan.{plain-both, plain-bytes, size-comma, size-feed, size-field}

-- the fields that are left of a line, if it shows any byte
abbrev left_text : List (List ℕ) → List ℕ
left_text [] = []
left_text (field ∷ fields) = field_text default_writer field ++ (fields_text default_writer fields ++ 10 ∷ [])

-- ---- past a field

drop-past : (xs : List ℕ) (y : ℕ) (ys : List ℕ) (n : ℕ) → n ≡ length xs → drop (n + 1) (xs ++ y ∷ ys) ≡ ys
drop-past [] y ys zero is = refl
drop-past [] y ys (suc n) is = let no : ⊥ = omega (arith, is) in absurd no
drop-past (x ∷ xs) y ys zero is = let no : ⊥ = omega (arith, is) in absurd no
drop-past (x ∷ xs) y ys (suc n) is = let count : suc n + 1 ≡ suc (n + 1) = omega arith in ap (λ m. drop m ((x ∷ xs) ++ y ∷ ys)) count ∙ drop-past xs y ys n (omega (arith, is))

size-first : (field : List ℕ) (fields : List (List ℕ)) → size_to true false (left_text (field ∷ fields)) ≡ length (field_text default_writer field)
unfolding fields_text
size-first field [] = size-field true field (10 ∷ []) ∙ omega (arith, size-feed true [])
size-first field (next ∷ fields) = size-field true field (44 ∷ ((field_text default_writer next ++ fields_text default_writer fields) ++ 10 ∷ []))
    ∙ omega (arith, size-comma ((field_text default_writer next ++ fields_text default_writer fields) ++ 10 ∷ []))

pub after-left : (fields : List (List ℕ)) → after_field (left_text fields) ≡ left_text (drop 1 fields)
unfolding fields_text size_to
after-left [] = refl
after-left (field ∷ []) = drop-past (field_text default_writer field) 10 [] _ (size-first field [])
after-left (field ∷ next ∷ fields) =
    drop-past (field_text default_writer field) 44 ((field_text default_writer next ++ fields_text default_writer fields) ++ 10 ∷ []) _ (size-first field (next ∷ fields))
    ∙ append_assoc (field_text default_writer next) (fields_text default_writer fields) (10 ∷ [])

drop-one : {A : Type 0} (n : ℕ) (xs : List A) → drop n (drop 1 xs) ≡ drop (suc n) xs
drop-one zero [] = refl
drop-one (suc n) [] = refl
drop-one n (x ∷ xs) = refl

after-lefts : (count : ℕ) (fields : List (List ℕ)) → after_fields count (left_text fields) ≡ left_text (drop count fields)
unfolding after_fields
after-lefts zero fields = refl
after-lefts (suc count) fields = ap (after_fields count) (after-left fields) ∙ after-lefts count (drop 1 fields) ∙ ap left_text (drop-one count fields)

-- ---- what a field has between its quotes

no-quote : (field : List ℕ) → needs_quotes default_writer field ≡ false → escaped default_writer field ≡ field
unfolding escaped
no-quote [] h = refl
no-quote (b ∷ field) h =
    let both = plain-both b field h in
    let other = (plain-bytes b both.0).1 in
    rw other (ap (λ xs. b ∷ xs) (no-quote field both.1))

bare : (field : List ℕ) → needs_quotes default_writer field ≡ false → between_quotes field ≡ field
bare [] h = refl
bare (b ∷ field) h = let other = (plain-bytes b (plain-both b field h).0).1 in rw other refl

inside : (field : List ℕ) → between_quotes (quoted default_writer field) ≡ escaped default_writer field
inside field =
    let inner = escaped default_writer field in
    let size : length (inner ++ 34 ∷ []) ≡ length inner + 1 = length-append inner (34 ∷ []) in
    let count : suc (length (inner ++ 34 ∷ [])) - 2 ≡ length inner = omega (arith, size) in
    ap (λ n. take n (inner ++ 34 ∷ [])) count ∙ take-append-le (length inner) inner (34 ∷ []) (omega arith) ∙ take_all (length inner) inner (omega arith)

by-quotes : (needs : Bool) (field : List ℕ) → needs_quotes default_writer field ≡ needs → between_quotes (if needs then quoted default_writer field else field) ≡ escaped default_writer field
by-quotes true field h = inside field
by-quotes false field h = bare field h ∙ sym (no-quote field h)

pub between : (field : List ℕ) → between_quotes (field_text default_writer field) ≡ escaped default_writer field
between field = by-quotes (needs_quotes default_writer field) field refl

-- the first field of what is left of a line
abbrev first_of_line : List ℕ → List ℕ
first_of_line line = between_quotes (take (size_to true false line) line)

first-left : (fields : List (List ℕ)) → first_of_line (left_text fields) ≡ escaped default_writer (get_or fields 0 [])
unfolding size_to escaped
first-left [] = refl
first-left (field ∷ fields) =
    let text = field_text default_writer field in
    let more = fields_text default_writer fields ++ 10 ∷ [] in
    ap between_quotes (ap (λ n. take n (text ++ more)) (size-first field fields) ∙ take-append-le (length text) text more (omega arith) ∙ take_all (length text) text (omega arith))
    ∙ between field

-- ---- a line

get-drop : {A : Type 0} (count : ℕ) (xs : List A) (d : A) → get_or (drop count xs) 0 d ≡ get_or xs count d
get-drop zero xs d = refl
get-drop (suc count) [] d = refl
get-drop (suc count) (x ∷ xs) d = get-drop count xs d

shows : (field : List ℕ) (fields : List (List ℕ)) → is_blank default_writer (field ∷ fields) ≡ false → row_text default_writer (field ∷ fields) ≡ left_text (field ∷ fields)
shows field fields h = rw h (append_assoc (field_text default_writer field) (fields_text default_writer fields) (10 ∷ []))

none-left : (count : ℕ) → after_fields count [] ≡ []
unfolding after_fields size_to
none-left zero = refl
none-left (suc count) = none-left count

-- a line of two quotes has one empty field
blank-line : (count : ℕ) → first_of_line (after_fields count (34 ∷ 34 ∷ 10 ∷ [])) ≡ []
unfolding after_fields size_to
blank-line zero = refl
blank-line (suc count) = ap first_of_line (none-left count)

suc≢zero : {n : ℕ} → suc n ≡ 0 → ⊥
suc≢zero {n} h = omega (arith, h)

empty-text : (field : List ℕ) → (length (field_text default_writer field) == 0) ≡ true → field ≡ []
empty-text [] h = refl
empty-text (b ∷ field) h = by (needs_quotes default_writer (b ∷ field)) h
  where
    by : (needs : Bool) → (length (if needs then quoted default_writer (b ∷ field) else (b ∷ field)) == 0) ≡ true → b ∷ field ≡ []
    by true h = let no : suc (length (escaped default_writer (b ∷ field) ++ 34 ∷ [])) ≡ 0 = eqb-true _ 0 h in absurd (suc≢zero no)
    by false h = let no : suc (length field) ≡ 0 = eqb-true _ 0 h in absurd (suc≢zero no)

get-none : (count : ℕ) (d : List ℕ) → get_or [] count d ≡ d
get-none count d = refl

get-one : (count : ℕ) (d : List ℕ) → d ≡ [] → get_or (d ∷ []) count d ≡ []
get-one zero d is = is
get-one (suc count) d is = get-none count d ∙ is

field-by : (count : ℕ) (field : List ℕ) (fields : List (List ℕ)) (blank : Bool) → is_blank default_writer (field ∷ fields) ≡ blank
    → first_of_line (after_fields count (row_text default_writer (field ∷ fields))) ≡ escaped default_writer (get_or (field ∷ fields) count [])
unfolding is_blank escaped fields_text
field-by count field fields false h =
    ap (λ t. first_of_line (after_fields count t)) (shows field fields h) ∙ ap first_of_line (after-lefts count (field ∷ fields)) ∙ first-left (drop count (field ∷ fields))
    ∙ ap (escaped default_writer) (get-drop count (field ∷ fields) [])
field-by count field [] true h = rw (empty-text field h) (blank-line count ∙ sym (ap (escaped default_writer) (get-one count [] refl)))
field-by count field (next ∷ fields) true h = absurd (true≢false (sym h))

-- the field of this number of a line
pub line-field : (count : ℕ) (fields : List (List ℕ)) → first_of_line (after_fields count (row_text default_writer fields)) ≡ escaped default_writer (get_or fields count [])
unfolding is_blank escaped
line-field count [] = blank-line count
line-field count (field ∷ fields) = field-by count field fields (is_blank default_writer (field ∷ fields)) refl

-- ---- a walk over the fields

-- one field more
pub fields-more : (column at : ℕ) (left next whole : List ℕ) → at < column → next ≡ after_field left → after_fields (column - at) left ≡ whole → after_fields (column - (at + 1)) next ≡ whole
unfolding after_fields
fields-more column at left next whole lt is h =
    let count : column - at ≡ suc (column - (at + 1)) = omega arith in
    ap (after_fields (column - (at + 1))) is ∙ ap (λ n. after_fields n left) (sym count) ∙ h

-- none is left
pub fields-end : (column at : ℕ) (left whole : List ℕ) → column ≤ at → after_fields (column - at) left ≡ whole → left ≡ whole
unfolding after_fields
fields-end column at left whole le h =
    let count : column - at ≡ 0 = omega arith in
    ap (λ n. after_fields n left) (sym count) ∙ h
