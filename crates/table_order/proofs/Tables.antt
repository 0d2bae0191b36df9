-- The lines of a table's text, one after the other.
use Rattle.std.proofs.Common.{◌≡◌, ◌<◌, ◌∙◌, ◌+◌, ◌++◌, ◌∷◌, [], ℕ, List, ap, append-nil, append_assoc, arith, length, length-append, map, refl, suc, sym, Bool, true, false, true≢false, zero, drop, get_or, take}
use Rattle.std.proofs.lemmas.Bool.{eqb-true}
use Rattle.std.proofs.lemmas.List.{append_cancel_left, map-append, take_more}
use Rattle.std.proofs.lemmas.List.Folds.{concat-append}
use Rattle.std.specs.Borrow.{Bor}
use Rattle.std.specs.List.{concat, take-map}
use Rattle.std.specs.Prelude.{◌==◌, Err, None, Ok, OnOk, Option, Result, Some, if◌then◌else◌}
use Rattle.csv.specs.Writing.{default_writer, escaped, row_text}
use Rattle.par_model.specs.Table.{table_text}
use Rattle.table_order.specs.Numbers.{places_of}
use Rattle.table_order.specs.Places.{column_places}
use Rattle.table_order.specs.Shown.{IsShownText, PutsShown, first_of}
use Rattle.table_order.specs.declared.order.Shown.{Shown}
use Rattle.table_order.proofs.Escaped.{empty-twice}
use Rattle.table_order.proofs.Scan.{line-some}

pub text-more : (row : List (List ℕ)) (table : List (List (List ℕ))) → table_text (row ∷ table) ≡ row_text default_writer row ++ table_text table
unfolding table_text
text-more row table = refl

-- what is left is empty only if no row is
rows-left : (table : List (List (List ℕ))) → table_text table ≡ [] → table ≡ []
unfolding table_text
rows-left [] is = refl
rows-left (row ∷ table) is =
    let some = line-some row in
    let size = ap length is in
    let whole = length-append (row_text default_writer row) (table_text table) in
    let never : ⊥ = omega (arith, some, size, whole) in
    absurd never

-- one line more
pub lines-more : (left line next : List ℕ) (more table : List (List (List ℕ))) (before after : List (List ℕ)) → 0 < length left → left ≡ table_text more
    → ((fields : List (List ℕ)) (rest : List ℕ) → left ≡ row_text default_writer fields ++ rest → line ≡ row_text default_writer fields) → line ++ next ≡ left
    → before ++ map (row_text default_writer) more ≡ map (row_text default_writer) table → after ≡ before ++ line ∷ []
    → (rest : List (List (List ℕ))) × (next ≡ table_text rest) × (after ++ map (row_text default_writer) rest ≡ map (row_text default_writer) table)
unfolding table_text
lines-more left line next [] table before after some is first both so_far after_is =
    let size = ap length is in
    let never : ⊥ = omega (arith, some, size) in
    absurd never
lines-more left line next (row ∷ more) table before after some is first both so_far after_is =
    let text = row_text default_writer row in
    let line_is : line ≡ text = first row (table_text more) (is ∙ text-more row more) in
    let next_is : next ≡ table_text more = append_cancel_left text next (table_text more) (ap (λ t. t ++ next) (sym line_is) ∙ both ∙ is ∙ text-more row more) in (
      more,
      next_is,
      ap (λ lines. lines ++ map (row_text default_writer) more) (after_is ∙ ap (λ t. before ++ t ∷ []) line_is) ∙ append_assoc before (text ∷ []) (map (row_text default_writer) more) ∙ so_far,
    )

-- none is left
pub lines-end : (left : List ℕ) (more table : List (List (List ℕ))) (lines : List (List ℕ)) → left ≡ [] → left ≡ table_text more
    → lines ++ map (row_text default_writer) more ≡ map (row_text default_writer) table → lines ≡ map (row_text default_writer) table
lines-end left more table lines none is so_far =
    let no_rows = rows-left more (sym is ∙ none) in
    sym (append-nil lines) ∙ ap (λ rows. lines ++ map (row_text default_writer) rows) (sym no_rows) ∙ so_far

-- whether a text is empty, as a test says
pub some-from : (n : ℕ) (b : Bool) → b ≡ (n == 0) → b ≡ false → 0 < n
some-from zero b is isnt = absurd (true≢false (sym is ∙ isnt))
some-from (suc n) b is isnt = omega arith

pub none-from : (xs : List ℕ) (b : Bool) → b ≡ (length xs == 0) → b ≡ true → xs ≡ []
none-from [] b is so = refl
none-from (x ∷ xs) b is so = let none : suc (length xs) ≡ 0 = eqb-true (suc (length xs)) 0 (sym is ∙ so) in let never : ⊥ = omega (arith, none) in absurd never

-- what comes after the first line
pub rest-is : (text line next : List ℕ) (row : List (List ℕ)) (table : List (List (List ℕ))) → text ≡ table_text (row ∷ table)
    → ((fields : List (List ℕ)) (rest : List ℕ) → text ≡ row_text default_writer fields ++ rest → line ≡ row_text default_writer fields) → line ++ next ≡ text → (line ≡ row_text default_writer row) × (next ≡ table_text table)
rest-is text line next row table is first both =
    let line_is = first row (table_text table) (is ∙ text-more row table) in
    (line_is, append_cancel_left (row_text default_writer row) next (table_text table) (ap (λ t. t ++ next) (sym line_is) ∙ both ∙ is ∙ text-more row table))

-- ---- the places of a column

field-empty : (row : List (List ℕ)) (column : ℕ) (field : List ℕ) (b : Bool) → field ≡ escaped default_writer (get_or row column []) → b ≡ (length field == 0) → b ≡ (length (get_or row column []) == 0)
field-empty row column field b is b_is = b_is ∙ ap (λ f. length f == 0) is ∙ empty-twice (get_or row column [])

-- a row whose field is empty says nothing
pub places-more : (column : ℕ) (left line next field : List ℕ) (more rows : List (List (List ℕ))) (b : Bool) → 0 < length left → left ≡ table_text more → column_places column more ≡ column_places column rows
    → ((fields : List (List ℕ)) (rest : List ℕ) → left ≡ row_text default_writer fields ++ rest → line ≡ row_text default_writer fields) → line ++ next ≡ left
    → ((fields : List (List ℕ)) → line ≡ row_text default_writer fields → field ≡ escaped default_writer (get_or fields column [])) → b ≡ (length field == 0) → b ≡ true
    → (rest : List (List (List ℕ))) × (next ≡ table_text rest) × (column_places column rest ≡ column_places column rows)
unfolding table_text column_places
places-more column left line next field [] rows b some is so_far first both field_is b_is empty =
    let size = ap length is in
    let never : ⊥ = omega (arith, some, size) in
    absurd never
places-more column left line next field (row ∷ more) rows b some is so_far first both field_is b_is empty =
    let rest = rest-is left line next row more is first both in
    let none : (length (get_or row column []) == 0) ≡ true = sym (field-empty row column field b (field_is row rest.0) b_is) ∙ empty in
    (more, rest.1, sym (ap (λ e. if e then column_places column more else places_of (escaped default_writer (get_or row column []))) none) ∙ so_far)

-- the first other field says it
pub places-found : (column : ℕ) (left line next field : List ℕ) (more rows : List (List (List ℕ))) (b : Bool) (places : ℕ) → 0 < length left → left ≡ table_text more → column_places column more ≡ column_places column rows
    → ((fields : List (List ℕ)) (rest : List ℕ) → left ≡ row_text default_writer fields ++ rest → line ≡ row_text default_writer fields) → line ++ next ≡ left
    → ((fields : List (List ℕ)) → line ≡ row_text default_writer fields → field ≡ escaped default_writer (get_or fields column [])) → b ≡ (length field == 0) → b ≡ false → places ≡ places_of field → places ≡ column_places column rows
unfolding table_text column_places
places-found column left line next field [] rows b places some is so_far first both field_is b_is full places_is =
    let size = ap length is in
    let never : ⊥ = omega (arith, some, size) in
    absurd never
places-found column left line next field (row ∷ more) rows b places some is so_far first both field_is b_is full places_is =
    let rest = rest-is left line next row more is first both in
    let its = field_is row rest.0 in
    let not_empty : (length (get_or row column []) == 0) ≡ false = sym (field-empty row column field b its b_is) ∙ full in
    places_is ∙ ap places_of its ∙ sym (ap (λ e. if e then column_places column more else places_of (escaped default_writer (get_or row column []))) not_empty) ∙ so_far

-- no field says it
pub places-end : (column : ℕ) (left : List ℕ) (more rows : List (List (List ℕ))) → left ≡ [] → left ≡ table_text more → column_places column more ≡ column_places column rows → 0 ≡ column_places column rows
unfolding column_places
places-end column left more rows none is so_far = sym (ap (column_places column) (rows-left more (sym is ∙ none))) ∙ so_far

-- ---- rows that are shown

map-first : {A B : Type 0} (f : A → B) (limit : Option ℕ) (xs : List A) → map f (first_of limit xs) ≡ first_of limit (map f xs)
map-first f None xs = refl
map-first f (Some n) xs = sym (take-map f n xs)

pub shown-lines : (limit : Option ℕ) (lines shown : List (Bor (List ℕ))) (ordered : List (List (List ℕ))) (old new : List ℕ) → map (λ (line : Bor (List ℕ)). line.now) lines ≡ map (row_text default_writer) ordered → shown ≡ first_of limit lines
    → new ≡ old ++ concat (map (λ (line : Bor (List ℕ)). line.now) shown) → new ≡ old ++ table_text (first_of limit ordered)
unfolding table_text
shown-lines limit lines shown ordered old new is shown_is new_is =
    new_is ∙ ap (λ (ls : List (List ℕ)). old ++ concat ls)
    (ap (map (λ (line : Bor (List ℕ)). line.now)) shown_is ∙ map-first (λ (line : Bor (List ℕ)). line.now) limit lines ∙ ap (first_of limit) is ∙ sym (map-first (row_text default_writer) limit ordered))

pub on-ok-more : {T E P Q : Type 0} (r : Result T E) → OnOk r P → (P → Q) → OnOk r Q
on-ok-more (Ok x) h more = more h
on-ok-more (Err e) h more = tt

-- one line more is put
pub line-put : (old before new : List ℕ) (lines : List (Bor (List ℕ))) (i : ℕ) (d : Bor (List ℕ)) → i < length lines → before ≡ old ++ concat (map (λ (line : Bor (List ℕ)). line.now) (take i lines)) → new ≡ before ++ (get_or lines i d).now
    → new ≡ old ++ concat (map (λ (line : Bor (List ℕ)). line.now) (take (i + 1) lines))
line-put old before new lines i d lt is new_is =
    let bytes = λ (line : Bor (List ℕ)). line.now in
    let front = map bytes (take i lines) in
    let line = (get_or lines i d).now in
    new_is ∙ ap (λ t. t ++ line) is ∙ append_assoc old (concat front) line
    ∙ ap (λ t. old ++ t) (ap (λ t. concat front ++ t) (sym (append-nil line)) ∙ sym (concat-append front (line ∷ [])) ∙ ap concat (sym (map-append bytes (take i lines) (get_or lines i d ∷ [])) ∙ ap (map bytes) (sym (take_more lines i d lt))))

-- the header and the rows
pub header-rows : (text head out : List ℕ) (header : List (List ℕ)) (rows : List (List (List ℕ))) (shown : Shown) → head ≡ row_text default_writer header → PutsShown shown rows head out → IsShownText shown header rows out
unfolding table_text
header-rows text head out header rows shown head_is puts = record { ordered = puts.ordered; are = puts.are; is = puts.is ∙ ap (λ t. t ++ table_text (first_of shown.limit puts.ordered)) head_is }

-- the first line is that of the header, and the others are those of the rows
pub header-first : (lines all tail : List (Bor (List ℕ))) (head : Bor (List ℕ)) (header : List (List ℕ)) (rows : List (List (List ℕ))) → lines ≡ head ∷ tail → lines ≡ all
    → map (λ (line : Bor (List ℕ)). line.now) all ≡ map (row_text default_writer) (header ∷ rows) → (head.now ≡ row_text default_writer header) × (map (λ (line : Bor (List ℕ)). line.now) tail ≡ map (row_text default_writer) rows)
header-first lines all tail head header rows is whole are =
    let both = ap (map (λ (line : Bor (List ℕ)). line.now)) (sym is ∙ whole) ∙ are in
    (ap (λ ls. get_or ls 0 []) both, ap (drop 1) both)
