-- A scan that counts quotes passes over the text of a field, and finds the end of a line.
use Rattle.std.proofs.Common.{◌≡◌, ◌<◌, ◌≤◌, ◌+◌, ◌∙◌, ◌∷◌, inl, inr, drop, drop-cons, get_or, ◌++◌, [], Bool, ℕ, List, true, false, ap, append_assoc, arith, length, length-append, refl, suc, true≢false}
use Rattle.std.specs.Prelude.{◌==◌, ◌||◌, not, if◌then◌else◌}
use Rattle.std.proofs.lemmas.Bool.{cases_Bool, eqb-true, ne_eqb}
use Rattle.std.proofs.lemmas.List.{drop_all}
use Rattle.csv.specs.Writing.{default_writer, escaped, field_text, fields_text, is_blank, needs_byte, needs_quotes, quoted, row_body, row_text}
use Rattle.table_order.specs.Lines.{is_end, size_to}

-- ---- bytes

either-false : (p q r s t u : Bool) → (p || q || (r || s) || t || u) ≡ false → (p ≡ false) × (q ≡ false) × (s ≡ false)
either-false true q r s t u h = absurd (true≢false h)
either-false false true r s t u h = absurd (true≢false h)
either-false false false true s t u h = absurd (true≢false h)
either-false false false false true t u h = absurd (true≢false h)
either-false false false false false t u h = (refl, refl, refl)

pub plain-bytes : (b : ℕ) → needs_byte default_writer b ≡ false → ((b == 44) ≡ false) × ((b == 34) ≡ false) × ((b == 10) ≡ false)
plain-bytes b h = either-false (b == 44) (b == 34) (b == 13) (b == 10) false false h

plain-end : (or_comma : Bool) (b : ℕ) → (b == 44) ≡ false → (b == 10) ≡ false → is_end or_comma b ≡ false
plain-end true b comma feed = rw (comma, feed) refl
plain-end false b comma feed = rw feed refl

or-both : (p q : Bool) → (p || q) ≡ false → (p ≡ false) × (q ≡ false)
or-both true q h = absurd (true≢false h)
or-both false q h = (refl, h)

pub plain-both : (b : ℕ) (rest : List ℕ) → needs_quotes default_writer (b ∷ rest) ≡ false → (needs_byte default_writer b ≡ false) × (needs_quotes default_writer rest ≡ false)
plain-both b rest h = or-both (needs_byte default_writer b) (needs_quotes default_writer rest) h

-- ---- the scan, byte by byte

pub size-quote : (or_comma quoted : Bool) (rest : List ℕ) → size_to or_comma quoted (34 ∷ rest) ≡ 1 + size_to or_comma (not quoted) rest
unfolding size_to
size-quote or_comma quoted rest = refl

size-inside : (or_comma : Bool) (b : ℕ) (rest : List ℕ) → (b == 34) ≡ false → size_to or_comma true (b ∷ rest) ≡ 1 + size_to or_comma true rest
unfolding size_to
size-inside or_comma b rest other = rw other refl

size-outside : (or_comma : Bool) (b : ℕ) (rest : List ℕ) → (b == 34) ≡ false → is_end or_comma b ≡ false → size_to or_comma false (b ∷ rest) ≡ 1 + size_to or_comma false rest
unfolding size_to
size-outside or_comma b rest other goes_on = rw (other, goes_on) refl

pub size-feed : (or_comma : Bool) (rest : List ℕ) → size_to or_comma false (10 ∷ rest) ≡ 0
unfolding size_to
size-feed or_comma rest = refl

pub size-comma : (rest : List ℕ) → size_to true false (44 ∷ rest) ≡ 0
unfolding size_to
size-comma rest = refl

size-other-comma : (rest : List ℕ) → size_to false false (44 ∷ rest) ≡ 1 + size_to false false rest
unfolding size_to
size-other-comma rest = refl

-- ---- a field

size-plain : (or_comma : Bool) (field rest : List ℕ) → needs_quotes default_writer field ≡ false → size_to or_comma false (field ++ rest) ≡ length field + size_to or_comma false rest
size-plain or_comma [] rest h = omega arith
size-plain or_comma (b ∷ field) rest h =
    let both = plain-both b field h in
    let bytes = plain-bytes b both.0 in
    let one = size-outside or_comma b (field ++ rest) bytes.1 (plain-end or_comma b bytes.0 bytes.2) in
    let more = size-plain or_comma field rest both.1 in
    omega (arith, one, more)

escaped-quote : (field : List ℕ) → escaped default_writer (34 ∷ field) ≡ 34 ∷ 34 ∷ escaped default_writer field
unfolding escaped
escaped-quote field = refl

escaped-byte : (b : ℕ) (field : List ℕ) → (b == 34) ≡ false → escaped default_writer (b ∷ field) ≡ b ∷ escaped default_writer field
unfolding escaped
escaped-byte b field other = rw other refl

twice-more : (or_comma : Bool) (field rest : List ℕ) → size_to or_comma true (escaped default_writer field ++ rest) ≡ length (escaped default_writer field) + size_to or_comma true rest
    → size_to or_comma true (34 ∷ 34 ∷ (escaped default_writer field ++ rest)) ≡ suc (suc (length (escaped default_writer field))) + size_to or_comma true rest
twice-more or_comma field rest h =
    let first = size-quote or_comma true (34 ∷ (escaped default_writer field ++ rest)) in
    let second = size-quote or_comma false (escaped default_writer field ++ rest) in
    omega (arith, h, first, second)

once-more : (or_comma : Bool) (b : ℕ) (field rest : List ℕ) → (b == 34) ≡ false → size_to or_comma true (escaped default_writer field ++ rest) ≡ length (escaped default_writer field) + size_to or_comma true rest
    → size_to or_comma true (b ∷ (escaped default_writer field ++ rest)) ≡ suc (length (escaped default_writer field)) + size_to or_comma true rest
once-more or_comma b field rest other h =
    let first = size-inside or_comma b (escaped default_writer field ++ rest) other in
    omega (arith, h, first)

size-escaped : (or_comma : Bool) (field rest : List ℕ) → size_to or_comma true (escaped default_writer field ++ rest) ≡ length (escaped default_writer field) + size_to or_comma true rest
unfolding escaped
size-escaped or_comma [] rest = omega arith
size-escaped or_comma (b ∷ field) rest = elim (cases_Bool (b == 34)) [
  | inl is ↦ rw (eqb-true b 34 is) (twice-more or_comma field rest (size-escaped or_comma field rest))
  | inr other ↦ rw other (once-more or_comma b field rest other (size-escaped or_comma field rest))
]

size-quoted : (or_comma : Bool) (field rest : List ℕ) → size_to or_comma false (quoted default_writer field ++ rest) ≡ length (quoted default_writer field) + size_to or_comma false rest
size-quoted or_comma field rest =
    let inner = escaped default_writer field in
    let size : length (inner ++ 34 ∷ []) ≡ length inner + 1 = length-append inner (34 ∷ []) in
    let first = size-quote or_comma false ((inner ++ 34 ∷ []) ++ rest) in
    let second : size_to or_comma true ((inner ++ 34 ∷ []) ++ rest) ≡ length inner + size_to or_comma true (34 ∷ rest) = ap (size_to or_comma true) (append_assoc inner (34 ∷ []) rest) ∙ size-escaped or_comma field (34 ∷ rest) in
    let third = size-quote or_comma true rest in
    omega (arith, size, first, second, third)

by-quotes : (or_comma : Bool) (needs : Bool) (field rest : List ℕ) → needs_quotes default_writer field ≡ needs → size_to or_comma false ((if needs then quoted default_writer field else field) ++ rest) ≡ length (if needs then quoted default_writer field else field) + size_to or_comma false rest
by-quotes or_comma true field rest h = size-quoted or_comma field rest
by-quotes or_comma false field rest h = size-plain or_comma field rest h

-- the scan passes over a field's text
pub size-field : (or_comma : Bool) (field rest : List ℕ) → size_to or_comma false (field_text default_writer field ++ rest) ≡ length (field_text default_writer field) + size_to or_comma false rest
size-field or_comma field rest = by-quotes or_comma (needs_quotes default_writer field) field rest refl

-- ---- a line

size-fields : (fields : List (List ℕ)) (rest : List ℕ) → size_to false false (fields_text default_writer fields ++ rest) ≡ length (fields_text default_writer fields) + size_to false false rest
unfolding fields_text
size-fields [] rest = omega arith
size-fields (field ∷ fields) rest =
    let text = field_text default_writer field in
    let more = fields_text default_writer fields in
    let size : length (text ++ more) ≡ length text + length more = length-append text more in
    let first = size-other-comma ((text ++ more) ++ rest) in
    let second : size_to false false ((text ++ more) ++ rest) ≡ length text + size_to false false (more ++ rest) = ap (size_to false false) (append_assoc text more rest) ∙ size-field false field (more ++ rest) in
    let third = size-fields fields rest in
    omega (arith, size, first, second, third)

size-body : (fields : List (List ℕ)) (rest : List ℕ) → size_to false false (row_body default_writer fields ++ rest) ≡ length (row_body default_writer fields) + size_to false false rest
size-body [] rest = omega arith
size-body (field ∷ fields) rest =
    let text = field_text default_writer field in
    let more = fields_text default_writer fields in
    let size : length (text ++ more) ≡ length text + length more = length-append text more in
    let second : size_to false false ((text ++ more) ++ rest) ≡ length text + size_to false false (more ++ rest) = ap (size_to false false) (append_assoc text more rest) ∙ size-field false field (more ++ rest) in
    let third = size-fields fields rest in
    omega (arith, size, second, third)

abbrev marks : Bool → List ℕ
marks blank = if blank then 34 ∷ 34 ∷ [] else []

size-marks : (blank : Bool) (rest : List ℕ) → size_to false false (marks blank ++ (10 ∷ rest)) ≡ length (marks blank)
size-marks true rest =
    let first = size-quote false false (34 ∷ 10 ∷ rest) in
    let second = size-quote false true (10 ∷ rest) in
    let third = size-feed false rest in
    omega (arith, first, second, third)
size-marks false rest = size-feed false rest

-- the scan stops at the end of a line
pub size-line : (fields : List (List ℕ)) (rest : List ℕ) → size_to false false (row_text default_writer fields ++ rest) + 1 ≡ length (row_text default_writer fields)
size-line fields rest =
    let body = row_body default_writer fields in
    let blank = is_blank default_writer fields in
    let first = append_assoc body (marks blank ++ 10 ∷ []) rest in
    let second = append_assoc (marks blank) (10 ∷ []) rest in
    let whole : length (body ++ (marks blank ++ 10 ∷ [])) ≡ length body + (length (marks blank) + 1) = length-append body (marks blank ++ 10 ∷ []) ∙ ap (λ n. length body + n) (length-append (marks blank) (10 ∷ [])) in
    let size : size_to false false ((body ++ (marks blank ++ 10 ∷ [])) ++ rest) ≡ length body + length (marks blank) =
    ap (size_to false false) (first ∙ ap (λ t. body ++ t) second) ∙ size-body fields (marks blank ++ (10 ∷ rest)) ∙ ap (λ n. length body + n) (size-marks blank rest) in
    omega (arith, size, whole)

-- a line is not empty
pub line-some : (fields : List (List ℕ)) → 0 < length (row_text default_writer fields)
line-some fields = let size = size-line fields [] in omega (arith, size)

-- ---- one byte of a text, by its place

at-drop : (oc q : Bool) (text : List ℕ) (at n : ℕ) → at < length text → size_to oc q (get_or text at 0 ∷ drop (at + 1) text) ≡ n → size_to oc q (drop at text) ≡ n
at-drop oc q text at n lt is = let next : suc at ≡ at + 1 = omega arith in ap (size_to oc q) (drop-cons text at 0 lt ∙ ap (λ m. get_or text at 0 ∷ drop m text) next) ∙ is

pub step-quote : (oc q : Bool) (text : List ℕ) (at : ℕ) → at < length text → get_or text at 0 ≡ 34 → size_to oc q (drop at text) ≡ 1 + size_to oc (not q) (drop (at + 1) text)
step-quote oc q text at lt is = at-drop oc q text at _ lt (ap (λ b. size_to oc q (b ∷ drop (at + 1) text)) is ∙ size-quote oc q (drop (at + 1) text))

pub step-inside : (oc : Bool) (text : List ℕ) (at : ℕ) → at < length text → (get_or text at 0 ≡ 34 → ⊥) → size_to oc true (drop at text) ≡ 1 + size_to oc true (drop (at + 1) text)
step-inside oc text at lt other = at-drop oc true text at _ lt (size-inside oc (get_or text at 0) (drop (at + 1) text) (ne_eqb (get_or text at 0) 34 other))

pub step-outside : (oc : Bool) (text : List ℕ) (at : ℕ) → at < length text → (get_or text at 0 ≡ 34 → ⊥) → is_end oc (get_or text at 0) ≡ false → size_to oc false (drop at text) ≡ 1 + size_to oc false (drop (at + 1) text)
step-outside oc text at lt other goes_on = at-drop oc false text at _ lt (size-outside oc (get_or text at 0) (drop (at + 1) text) (ne_eqb (get_or text at 0) 34 other) goes_on)

size-end : (oc : Bool) (b : ℕ) (rest : List ℕ) → (b == 34) ≡ false → is_end oc b ≡ true → size_to oc false (b ∷ rest) ≡ 0
unfolding size_to
size-end oc b rest other ends = rw (other, ends) refl

pub step-end : (oc : Bool) (text : List ℕ) (at : ℕ) → at < length text → (get_or text at 0 ≡ 34 → ⊥) → is_end oc (get_or text at 0) ≡ true → size_to oc false (drop at text) ≡ 0
step-end oc text at lt other ends = at-drop oc false text at _ lt (size-end oc (get_or text at 0) (drop (at + 1) text) (ne_eqb (get_or text at 0) 34 other) ends)

pub size-none : (oc q : Bool) (text : List ℕ) (at : ℕ) → length text ≤ at → size_to oc q (drop at text) ≡ 0
unfolding size_to
size-none oc q text at le = ap (size_to oc q) (drop_all at text le)
