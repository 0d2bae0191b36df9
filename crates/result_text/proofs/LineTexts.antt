-- The text of a line, of which each field has a comma after it until it ends; and the fields that need no quotes.
use Rattle.std.proofs.Common.{◌≡◌, ◌<◌, ◌≤◌, ◌+◌, ◌-◌, ◌/◌, ◌%◌, ◌^◌, ◌∙◌, ◌∷◌, ◌++◌, ◌⊎◌, [], Bool, ℕ, ℤ, List, true, false, ap, append_assoc, append-nil, arith, decimal, drop, get_or, length, length-append, map, refl, suc, sym, take, take_all, true≢false, unsigned_abs, zero}
use Rattle.std.specs.Prelude.{◌==◌, ◌||◌, if◌then◌else◌, nat_lt, Err, Ok, OnOk, Result, is_ok}
use Rattle.std.proofs.lemmas.Bool.{eq-eqb, ne_eqb}
use Rattle.std.proofs.lemmas.List.{take-append-le, take_more}
use Rattle.std.proofs.lemmas.List.Folds.{list_any-append}
use Rattle.std.specs.Fmt.{digit_glyph, digits, digits_onto, sign_text}
use Rattle.std.specs.Int.{is_negative}
use Rattle.std.specs.List.{concat, zip}
use Rattle.csv.proofs.WriteFacts.{escaped-append}
use Rattle.csv.specs.Writing.{comma, default_writer, escaped, field_text, fields_text, is_blank, needs_byte, needs_quotes, quoted, row_body, row_text}
use Rattle.par_model.specs.Decimal.{average, number_text, places_text}
use Rattle.par_model.specs.Table.{or_null, value_text}
use Rattle.par_model.specs.declared.plan.ItemKind.{ItemKind}
use Rattle.par_model.specs.declared.plan.ItemKind.TheVariants as kind
use Rattle.par_model.specs.declared.state.SlotState.{SlotState}
use Rattle.result_text.specs.Lines.{followed}
use Rattle.result_text.proofs.Zipped.{pairs-end, pairs-more}

-- ---- fields with a comma after each

-- one more field is put
pub field-more : (old next whole field : List ℕ) (fields more : List (List ℕ)) → fields ≡ field ∷ more → next ≡ old ++ followed field → old ++ concat (map followed fields) ≡ whole → next ++ concat (map followed more) ≡ whole
field-more old next whole field fields more is next_is h =
    rw next_is (append_assoc old (followed field) (concat (map followed more)) ∙ ap (λ (fs : List (List ℕ)). old ++ concat (map followed fs)) (sym is) ∙ h)

-- none is left
pub field-end : (old whole : List ℕ) (fields : List (List ℕ)) → fields ≡ [] → old ++ concat (map followed fields) ≡ whole → old ≡ whole
field-end old whole fields is h = sym (append-nil old) ∙ ap (λ (fs : List (List ℕ)). old ++ concat (map followed fs)) (sym is) ∙ h

-- some fields, and then others
all-append : (xs ys : List (List ℕ)) → concat (map followed (xs ++ ys)) ≡ concat (map followed xs) ++ concat (map followed ys)
all-append [] ys = refl
all-append (x ∷ xs) ys = ap (λ (t : List ℕ). followed x ++ t) (all-append xs ys) ∙ sym (append_assoc (followed x) (concat (map followed xs)) (concat (map followed ys)))

pub put-both : (old next whole : List ℕ) (xs ys : List (List ℕ)) → next ≡ old ++ concat (map followed xs) → whole ≡ next ++ concat (map followed ys) → whole ≡ old ++ concat (map followed (xs ++ ys))
put-both old next whole xs ys next_is whole_is =
    whole_is ∙ ap (λ (t : List ℕ). t ++ concat (map followed ys)) next_is ∙ append_assoc old (concat (map followed xs)) (concat (map followed ys)) ∙ ap (λ (t : List ℕ). old ++ t) (sym (all-append xs ys))

-- one more value of a list of pairs is put, and none is left
pub value-more : {X Y : Type 0} (f : X × Y → List ℕ) (old next whole : List ℕ) (xs more_xs : List X) (ys more_ys : List Y) (x : X) (y : Y)
    → xs ≡ x ∷ more_xs → ys ≡ y ∷ more_ys → next ≡ old ++ followed (f (x, y)) → old ++ concat (map followed (map f (zip xs ys))) ≡ whole → next ++ concat (map followed (map f (zip more_xs more_ys))) ≡ whole
value-more f old next whole xs more_xs ys more_ys x y xs_is ys_is next_is h =
    field-more old next whole (f (x, y)) (map f (zip xs ys)) (map f (zip more_xs more_ys)) (pairs-more f xs more_xs ys more_ys x y xs_is ys_is) next_is h

pub values-end : {X Y : Type 0} (f : X × Y → List ℕ) (old whole : List ℕ) (xs : List X) (ys : List Y) → (xs ≡ []) ⊎ (ys ≡ []) → old ++ concat (map followed (map f (zip xs ys))) ≡ whole → old ≡ whole
values-end f old whole xs ys none h = field-end old whole (map f (zip xs ys)) (pairs-end f xs ys none) h

-- ---- the end of a line

-- fields that each have a comma after them are the body of a record, and a comma
followed-all : (first : List ℕ) (rest : List (List ℕ)) → concat (map followed (first ∷ rest)) ≡ row_body default_writer (first ∷ rest) ++ comma ∷ []
unfolding fields_text
followed-all first [] = append-nil (followed first) ∙ ap (λ (t : List ℕ). t ++ comma ∷ []) (sym (append-nil (field_text default_writer first)))
followed-all first (next ∷ rest) =
    ap (λ (t : List ℕ). followed first ++ t) (followed-all next rest)
    ∙ append_assoc (field_text default_writer first) (comma ∷ []) (row_body default_writer (next ∷ rest) ++ comma ∷ [])
    ∙ sym (append_assoc (field_text default_writer first) (comma ∷ row_body default_writer (next ∷ rest)) (comma ∷ []))

-- a record shows no byte only if it has one empty field, or none
blank-is : (fields : List (List ℕ)) → is_blank default_writer fields ≡ (length (row_body default_writer fields) == 0)
unfolding is_blank fields_text
blank-is [] = refl
blank-is (field ∷ []) = ap (λ (t : List ℕ). length t == 0) (sym (append-nil (field_text default_writer field)))
blank-is (field ∷ next ∷ rest) =
    let text = field_text default_writer field in
    let others = row_body default_writer (next ∷ rest) in
    let size : length (text ++ comma ∷ others) ≡ length text + suc (length others) = length-append text (comma ∷ others) in
    sym (ne_eqb (length (text ++ comma ∷ others)) 0 (λ z. omega (arith, z, size)))

-- the last comma goes
pub comma-gone : (before old new : List ℕ) (from : ℕ) (fields : List (List ℕ)) → length before ≡ from → old ≡ before ++ concat (map followed fields)
    → (from < length old → new ≡ take (length old - 1) old) → (length old ≤ from → new ≡ old) → new ≡ before ++ row_body default_writer fields
comma-gone before old new from [] at old_is some none =
    let size : length old ≡ length before + 0 = ap length old_is ∙ length-append before [] in
    none (omega (arith, size, at)) ∙ old_is
comma-gone before old new from (first ∷ rest) at old_is some none =
    let body = before ++ row_body default_writer (first ∷ rest) in
    let whole : old ≡ body ++ comma ∷ [] =
    old_is ∙ ap (λ (t : List ℕ). before ++ t) (followed-all first rest) ∙ sym (append_assoc before (row_body default_writer (first ∷ rest)) (comma ∷ [])) in
    let size : length old ≡ length body + 1 = ap length whole ∙ length-append body (comma ∷ []) in
    let front : length body ≡ length before + length (row_body default_writer (first ∷ rest)) = length-append before (row_body default_writer (first ∷ rest)) in
    let count : length old - 1 ≡ length body = omega (arith, size) in
    some (omega (arith, size, front, at)) ∙ ap (λ (n : ℕ). take n old) count ∙ ap (take (length body)) whole
    ∙ take-append-le (length body) body (comma ∷ []) (omega arith) ∙ take_all (length body) body (omega arith)

-- nothing came after the front only if the rest is empty
no-more : (whole front rest : ℕ) → whole ≡ front + rest → (whole == front) ≡ (rest == 0)
no-more whole front zero is = eq-eqb whole front (omega (arith, is)) ∙ sym (eq-eqb 0 0 refl)
no-more whole front (suc rest) is = ne_eqb whole front (λ z. omega (arith, is, z)) ∙ sym (ne_eqb (suc rest) 0 (λ z. omega (arith, z)))

-- the line is a record
pub line-ended : (before body shown ended : List ℕ) (from : ℕ) (fields : List (List ℕ)) → length before ≡ from → body ≡ before ++ row_body default_writer fields
    → shown ≡ body ++ (if length body == from then 34 ∷ 34 ∷ [] else []) → ended ≡ shown ++ 10 ∷ [] → ended ≡ before ++ row_text default_writer fields
line-ended before body shown ended from fields at body_is shown_is ended_is =
    let text = row_body default_writer fields in
    let size : length body ≡ from + length text = ap length body_is ∙ length-append before text ∙ ap (λ (n : ℕ). n + length text) at in
    let blank : (length body == from) ≡ is_blank default_writer fields = no-more (length body) from (length text) size ∙ sym (blank-is fields) in
    let marks : List ℕ = if is_blank default_writer fields then 34 ∷ 34 ∷ [] else [] in
    ended_is ∙ ap (λ (t : List ℕ). t ++ 10 ∷ []) (shown_is ∙ ap (λ (b : Bool). body ++ (if b then 34 ∷ 34 ∷ [] else [])) blank ∙ ap (λ (t : List ℕ). t ++ marks) body_is)
    ∙ append_assoc (before ++ text) marks (10 ∷ []) ∙ append_assoc before text (marks ++ 10 ∷ [])

-- ---- the text of a field

-- bytes that were put if there was memory
pub put-if-ok : {E T : Type 0} (r : Result T E) (new put old text : List ℕ) → put ≡ text → new ≡ (if is_ok r then put else old) → OnOk r (new ≡ text)
put-if-ok (Ok x) new put old text same is = is ∙ same
put-if-ok (Err e) new put old text same is = tt

pub text-quoted : (field : List ℕ) → needs_quotes default_writer field ≡ true → field_text default_writer field ≡ quoted default_writer field
text-quoted field needs = ap (λ (b : Bool). if b then quoted default_writer field else field) needs

pub text-bare : (field : List ℕ) → needs_quotes default_writer field ≡ false → field_text default_writer field ≡ field
text-bare field needs = ap (λ (b : Bool). if b then quoted default_writer field else field) needs

-- one more byte between quotes
pub escaped-more : (field : List ℕ) (i : ℕ) → i < length field → escaped default_writer (take i field) ++ escaped default_writer (get_or field i 0 ∷ []) ≡ escaped default_writer (take (i + 1) field)
escaped-more field i lt = sym (ap (escaped default_writer) (take_more field i 0 lt) ∙ escaped-append default_writer (take i field) (get_or field i 0 ∷ []))

-- ---- fields that need no quotes

or-none : (p q : Bool) → p ≡ false → q ≡ false → (p || q) ≡ false
or-none p q h k = rw (h, k) refl

or-second : (p q : Bool) → (p || q) ≡ false → q ≡ false
or-second true q h = absurd (true≢false h)
or-second false q h = h

none-of : (p q r s t u : Bool) → p ≡ false → q ≡ false → r ≡ false → s ≡ false → t ≡ false → u ≡ false → (p || q || (r || s) || t || u) ≡ false
none-of p q r s t u hp hq hr hs ht hu = rw (hp, hq, hr, hs, ht, hu) refl

-- a byte from the minus sign on
plain-byte : (b : ℕ) → 45 ≤ b → needs_byte default_writer b ≡ false
plain-byte b above =
    none-of (b == 44) (b == 34) (b == 13) (b == 10) false false
    (ne_eqb b 44 (λ e. omega (arith, above, e))) (ne_eqb b 34 (λ e. omega (arith, above, e))) (ne_eqb b 13 (λ e. omega (arith, above, e))) (ne_eqb b 10 (λ e. omega (arith, above, e))) refl refl

plain-cons : (b : ℕ) (text : List ℕ) → 45 ≤ b → needs_quotes default_writer text ≡ false → needs_quotes default_writer (b ∷ text) ≡ false
plain-cons b text above h = or-none (needs_byte default_writer b) (needs_quotes default_writer text) (plain-byte b above) h

plain-append : (xs ys : List ℕ) → needs_quotes default_writer xs ≡ false → needs_quotes default_writer ys ≡ false → needs_quotes default_writer (xs ++ ys) ≡ false
plain-append xs ys h k = list_any-append (needs_byte default_writer) xs ys ∙ or-none (needs_quotes default_writer xs) (needs_quotes default_writer ys) h k

plain-rest : (text : List ℕ) → needs_quotes default_writer text ≡ false → needs_quotes default_writer (drop 1 text) ≡ false
plain-rest [] h = h
plain-rest (b ∷ text) h = or-second (needs_byte default_writer b) (needs_quotes default_writer text) h

plain-if : (b : Bool) (xs ys : List ℕ) → needs_quotes default_writer xs ≡ false → needs_quotes default_writer ys ≡ false → needs_quotes default_writer (if b then xs else ys) ≡ false
plain-if true xs ys h k = h
plain-if false xs ys h k = k

above-if : (b : Bool) (x y : ℕ) → 45 ≤ x → 45 ≤ y → 45 ≤ (if b then x else y)
above-if true x y h k = h
above-if false x y h k = k

plain-digits : (limit n : ℕ) (text : List ℕ) → needs_quotes default_writer text ≡ false → needs_quotes default_writer (digits_onto limit 10 false n text) ≡ false
plain-digits zero n text h = h
plain-digits (suc limit) n text h =
    let digit = digit_glyph false (n % 10) in
    let above : 45 ≤ digit = above-if (nat_lt (n % 10) 10) (48 + n % 10) (87 + n % 10) (omega arith) (omega arith) in
    let one = plain-cons digit text above h in
    plain-if (n / 10 == 0) (digit ∷ text) (digits_onto limit 10 false (n / 10) (digit ∷ text)) one (plain-digits limit (n / 10) (digit ∷ text) one)

plain-decimal : (n : ℕ) → needs_quotes default_writer (decimal n) ≡ false
unfolding digits
plain-decimal n = plain-digits 64 n [] refl

plain-places : (places n : ℕ) → needs_quotes default_writer (places_text places n) ≡ false
plain-places zero n = refl
plain-places (suc more) n =
    let shown = 10 ^ suc more + n % 10 ^ suc more in
    plain-cons 46 (drop 1 (decimal shown)) (omega arith) (plain-rest (decimal shown) (plain-decimal shown))

plain-sign : (minus : Bool) → needs_quotes default_writer (sign_text minus) ≡ false
plain-sign true = plain-cons 45 [] (omega arith) refl
plain-sign false = refl

plain-number : (places : ℕ) (n : ℤ) → needs_quotes default_writer (number_text places n) ≡ false
unfolding number_text
plain-number places n =
    let size = unsigned_abs n in
    plain-append (sign_text (is_negative n)) (decimal (size / 10 ^ places) ++ places_text places size) (plain-sign (is_negative n))
    (plain-append (decimal (size / 10 ^ places)) (places_text places size) (plain-decimal (size / 10 ^ places)) (plain-places places size))

plain-null : (count places : ℕ) (n : ℤ) → needs_quotes default_writer (or_null count (number_text places n)) ≡ false
plain-null count places n = plain-if (count == 0) [] (number_text places n) refl (plain-number places n)

-- the value of an aggregate
plain-value : (k : ItemKind) (places rows : ℕ) (slot : SlotState) → needs_quotes default_writer (value_text k places rows slot) ≡ false
plain-value kind.Rows places rows slot = plain-decimal rows
plain-value kind.Count places rows slot = plain-decimal slot.count
plain-value kind.Sum places rows slot = plain-null slot.count places slot.sum
plain-value kind.Min places rows slot = plain-null slot.count places slot.least
plain-value kind.Max places rows slot = plain-null slot.count places slot.greatest
plain-value kind.Avg places rows slot = plain-null slot.count (places + 4) (average slot.sum slot.count)

pub value-put : (k : ItemKind) (places rows : ℕ) (slot : SlotState) (old text next : List ℕ) → text ≡ old ++ value_text k places rows slot → next ≡ text ++ comma ∷ [] → next ≡ old ++ followed (value_text k places rows slot)
value-put k places rows slot old text next text_is next_is =
    let value = value_text k places rows slot in
    next_is ∙ ap (λ (t : List ℕ). t ++ comma ∷ []) text_is ∙ append_assoc old value (comma ∷ []) ∙ ap (λ (t : List ℕ). old ++ (t ++ comma ∷ [])) (sym (text-bare value (plain-value k places rows slot)))
