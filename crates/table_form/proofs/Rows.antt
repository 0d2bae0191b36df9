-- A row of a table's text, as it is read field by field.
use Rattle.std.proofs.Common.{◌≡◌, ◌<◌, ◌∙◌, ◌∷◌, ◌++◌, [], Bool, ℕ, List, true, false, ap, append_assoc, arith, drop, inl, inr, length, length-append, refl, sym, take, true≢false}
use Rattle.std.specs.Prelude.{◌==◌, if◌then◌else◌, slice_index}
use Rattle.std.proofs.lemmas.Bool.{eqb-true}
use Rattle.std.proofs.Math.Seq.{take-append_seam}
use Rattle.csv.specs.Writing.{default_writer, escaped, field_text, fields_text, is_blank, needs_quotes, quoted, read_back, row_text}
use Rattle.table_form.specs.Reading.{IsFieldText}
use Rattle.table_form.proofs.FieldTexts.{after-size, text-size}
use Rattle.table_order.specs.Lines.{size_to}

-- what comes after the text of a field: the other fields of the line, its end, and more
abbrev pub after_text : List (List ℕ) → List ℕ → List ℕ
after_text others rest = fields_text default_writer others ++ 10 ∷ rest

-- fields that are left of a line begin a text
pub record BeginsLine (left : List ℕ) (fields : List (List ℕ)) (rest : List ℕ) : Type 0 where
  pub field : List ℕ
  pub others : List (List ℕ)
  pub text : List ℕ
  pub are : fields ≡ field ∷ others
  pub is : IsFieldText field text
  pub whole : left ≡ text ++ after_text others rest

-- the fields of a row, some read and the others left
abbrev pub ReadsRow : List ℕ → List (List ℕ) → List ℕ → Type 0
ReadsRow whole read left = (row : List (List ℕ)) (rest : List ℕ) → whole ≡ row_text default_writer row ++ rest → (fields : List (List ℕ)) × BeginsLine left fields rest × (read ++ fields ≡ read_back row)

-- ---- the begin of a row

empty-by : (needs : Bool) (b : ℕ) (field : List ℕ) → (length (if needs then quoted default_writer (b ∷ field) else (b ∷ field)) == 0) ≡ true → ⊥
empty-by true b field h = let no = eqb-true _ 0 h in let size : length (quoted default_writer (b ∷ field)) ≡ 0 = no in omega (arith, size)
empty-by false b field h = let size : length (b ∷ field) ≡ 0 = eqb-true _ 0 h in omega (arith, size)

empty-field : (field : List ℕ) → (length (field_text default_writer field) == 0) ≡ true → field ≡ []
empty-field [] h = refl
empty-field (b ∷ field) h = absurd (empty-by (needs_quotes default_writer (b ∷ field)) b field h)

begins-full : (field : List ℕ) (others : List (List ℕ)) (rest : List ℕ) → is_blank default_writer (field ∷ others) ≡ false → row_text default_writer (field ∷ others) ++ rest ≡ field_text default_writer field ++ after_text others rest
begins-full field others rest is =
    let text = field_text default_writer field in
    let more = fields_text default_writer others in
    ap (λ (b : Bool). ((text ++ more) ++ ((if b then 34 ∷ 34 ∷ [] else []) ++ 10 ∷ [])) ++ rest) is ∙ append_assoc (text ++ more) (10 ∷ []) rest ∙ append_assoc text more (10 ∷ rest)

row-begins-by : (field : List ℕ) (others : List (List ℕ)) (rest : List ℕ) (blank : Bool) → is_blank default_writer (field ∷ others) ≡ blank → BeginsLine (row_text default_writer (field ∷ others) ++ rest) (field ∷ others) rest
unfolding is_blank fields_text escaped
row-begins-by field others rest false is = record { field = field; others = others; text = field_text default_writer field; are = refl; is = inl refl; whole = begins-full field others rest is }
row-begins-by field [] rest true is =
    let none = empty-field field is in
    record { field = field; others = []; text = quoted default_writer []; are = refl; is = inr (none, refl); whole = ap (λ (f : List ℕ). row_text default_writer (f ∷ []) ++ rest) none }
row-begins-by field (next ∷ others) rest true is = absurd (true≢false (sym is))

row-begins : (row : List (List ℕ)) (rest : List ℕ) → BeginsLine (row_text default_writer row ++ rest) (read_back row) rest
unfolding is_blank fields_text escaped
row-begins [] rest = record { field = []; others = []; text = quoted default_writer []; are = refl; is = inr (refl, refl); whole = refl }
row-begins (field ∷ others) rest = row-begins-by field others rest (is_blank default_writer (field ∷ others)) refl

begins-as : (whole : List ℕ) (row : List (List ℕ)) (rest : List ℕ) → whole ≡ row_text default_writer row ++ rest → BeginsLine whole (read_back row) rest
begins-as whole row rest is =
    let begins = row-begins row rest in
    record { field = begins.field; others = begins.others; text = begins.text; are = begins.are; is = begins.is; whole = is ∙ begins.whole }

pub reads-init : (whole : List ℕ) (read : List (List ℕ)) → read ≡ [] → ReadsRow whole read whole
reads-init whole read none row rest is = (read_back row, begins-as whole row rest is, ap (λ (r : List (List ℕ)). r ++ read_back row) none)

-- ---- one field

-- the text of the first field, and what comes after it, as a scan finds them
pub text-front : (left field : List ℕ) (fields : List (List ℕ)) (rest : List ℕ) → field ≡ take (size_to true false left) left → (b : BeginsLine left fields rest) → field ≡ b.text
text-front left field fields rest is b =
    let tail = after_text b.others rest in
    let size : size_to true false left ≡ length b.text = ap (size_to true false) b.whole ∙ text-size b.field b.text tail b.is (after-size b.others rest) in
    is ∙ ap (λ (n : ℕ). take n left) size ∙ ap (take (length b.text)) b.whole ∙ take-append_seam b.text tail

drop-seam : (xs ys : List ℕ) → drop (length xs) (xs ++ ys) ≡ ys
drop-seam [] ys = refl
drop-seam (x ∷ xs) ys = drop-seam xs ys

pub text-after : (left more : List ℕ) (fields : List (List ℕ)) (rest : List ℕ) → more ≡ drop (size_to true false left) left → (b : BeginsLine left fields rest) → more ≡ after_text b.others rest
text-after left more fields rest is b =
    let tail = after_text b.others rest in
    let size : size_to true false left ≡ length b.text = ap (size_to true false) b.whole ∙ text-size b.field b.text tail b.is (after-size b.others rest) in
    is ∙ ap (λ (n : ℕ). drop n left) size ∙ ap (drop (length b.text)) b.whole ∙ drop-seam b.text tail

-- after a comma come more fields
comma-next : (others : List (List ℕ)) (rest more next : List ℕ) → more ≡ after_text others rest → (slice_index more 0 == 44) ≡ true → next ≡ drop 1 more → BeginsLine next others rest
unfolding fields_text
comma-next [] rest more next is comma next_is = let no : (10 == 44) ≡ true = ap (λ (t : List ℕ). slice_index t 0 == 44) (sym is) ∙ comma in absurd (true≢false (sym no))
comma-next (field ∷ others) rest more next is comma next_is =
    record {
      field = field;
      others = others;
      text = field_text default_writer field;
      are = refl;
      is = inl refl;
      whole = next_is ∙ ap (drop 1) is ∙ append_assoc (field_text default_writer field) (fields_text default_writer others) (10 ∷ rest);
    }

-- and after the last field the end of the line
no-comma : (others : List (List ℕ)) (rest more next : List ℕ) → more ≡ after_text others rest → (slice_index more 0 == 44) ≡ false → next ≡ drop 1 more → (others ≡ []) × (next ≡ rest)
unfolding fields_text
no-comma [] rest more next is other next_is = (refl, next_is ∙ ap (drop 1) is)
no-comma (field ∷ others) rest more next is other next_is = let no : true ≡ false = ap (λ (t : List ℕ). slice_index t 0 == 44) (sym is) ∙ other in absurd (true≢false no)

-- what one turn of the reading finds: the first field is put, and the text after it is looked at
pub record Turns (left text more next : List ℕ) (before after : List (List ℕ)) : Type 0 where
  pub text_is : text ≡ take (size_to true false left) left
  pub more_is : more ≡ drop (size_to true false left) left
  pub next_is : next ≡ drop 1 more
  pub put : (field : List ℕ) → IsFieldText field text → after ≡ before ++ field ∷ []

read-on : (before after : List (List ℕ)) (field : List ℕ) (others fields all : List (List ℕ)) → after ≡ before ++ field ∷ [] → fields ≡ field ∷ others → before ++ fields ≡ all → after ++ others ≡ all
read-on before after field others fields all put are all_is = ap (λ (r : List (List ℕ)). r ++ others) put ∙ append_assoc before (field ∷ []) others ∙ ap (λ (r : List (List ℕ)). before ++ r) (sym are) ∙ all_is

put-text : (left text more next : List ℕ) (before after fields : List (List ℕ)) (rest : List ℕ) → Turns left text more next before after → (b : BeginsLine left fields rest) → after ≡ before ++ b.field ∷ []
put-text left text more next before after fields rest turn b = turn.put b.field (field-is b.is)
  where
    field-is : IsFieldText b.field b.text → IsFieldText b.field text
    field-is (inl is) = inl (text-front left text fields rest turn.text_is b ∙ is)
    field-is (inr both) = inr (both.0, text-front left text fields rest turn.text_is b ∙ both.1)

pub reads-more : (whole left text more next : List ℕ) (before after : List (List ℕ)) → Turns left text more next before after → (slice_index more 0 == 44) ≡ true → ReadsRow whole before left → ReadsRow whole after next
reads-more whole left text more next before after turn comma reads row rest is =
    let so_far = reads row rest is in
    let b = so_far.1 in
    let others_left = text-after left more so_far.0 rest turn.more_is b in
    (b.others, comma-next b.others rest more next others_left comma turn.next_is, read-on before after b.field b.others so_far.0 (read_back row) (put-text left text more next before after so_far.0 rest turn b) b.are so_far.2)

pub reads-end : (whole left text more next : List ℕ) (before after : List (List ℕ)) → Turns left text more next before after → (slice_index more 0 == 44) ≡ false → ReadsRow whole before left
    → (row : List (List ℕ)) (rest : List ℕ) → whole ≡ row_text default_writer row ++ rest → (after ≡ read_back row) × (next ≡ rest)
reads-end whole left text more next before after turn other reads row rest is =
    let so_far = reads row rest is in
    let b = so_far.1 in
    let none = no-comma b.others rest more next (text-after left more so_far.0 rest turn.more_is b) other turn.next_is in
    (put-text left text more next before after so_far.0 rest turn b ∙ ap (λ (r : List (List ℕ)). before ++ b.field ∷ r) (sym none.0) ∙ ap (λ (r : List (List ℕ)). before ++ r) (sym b.are) ∙ so_far.2, none.1)

some-text : (text : List ℕ) (others : List (List ℕ)) (rest : List ℕ) → 0 < length (text ++ after_text others rest)
some-text text others rest = omega (arith, length-append text (after_text others rest), length-append (fields_text default_writer others) (10 ∷ rest))

-- a row has not ended before its text has
pub reads-some : (whole left : List ℕ) (read : List (List ℕ)) → length left ≡ 0 → ReadsRow whole read left → (row : List (List ℕ)) (rest : List ℕ) → whole ≡ row_text default_writer row ++ rest → ⊥
reads-some whole left read none reads row rest is =
    let so_far = reads row rest is in
    let b = so_far.1 in
    let size = ap length b.whole in
    omega (arith, none, size, some-text b.text b.others rest)
