-- The words of a file ask for one query, which has at most eight aggregates, and a separator that may be one.
use Rattle.std.proofs.Common.{◌≡◌, ◌≢◌, ◌≤◌, ◌^◌, ◌∙◌, ℕ, Bool, true, false, List, [], ◌∷◌, All, None, Option, Some, ap, arith, codes, cond, length, map, refl, subst, sym}
use Rattle.std.specs.Prelude.{◌==◌, ◌&&◌, bytes_eq, nat_le, nat_lt, not, option_and_then, option_map, slice_index}
use Rattle.std.specs.List.{flat_map}
use Rattle.std.proofs.lemmas.Bool.{eq-eqb, leb-true, ltb-true}
use Rattle.std.proofs.lemmas.List.{length-map}
use Rattle.std.proofs.lemmas.List.Elements.{All-head, All-tail}
use Rattle.csv_rows.specs.Readings.{IsSeparator}
use Rattle.csv_rows.specs.declared.cleaning.Reading.{Reading}
use Rattle.par_model.specs.Named.{NamedFilter, NamedItem}
use Rattle.plan_spec.specs.Grammar.{Places, all_some, filters_in, is_separator, item_in, items_in, parts_of, separator_in}
use Rattle.plan_spec.specs.Options.{flag_in, is_command_line, parstream_command, value_of, values_of}
use Rattle.plan_spec.specs.Query.{Query, groups_given, items_given, nulls_given, number_given, places_given, query_by, reading_given, separator_given, stream_query_of}
use Rattle.state_file.specs.Text.{text_bytes}
use Rattle.state_head.specs.Words.{Words}
use Rattle.state_plan.specs.FilePlans.{AskFor}
use Rattle.state_plan.specs.Words.{command_words}
use Rattle.state_once.proofs.Numbers.{text_apart, text_some}
use Rattle.state_answers.specs.Answers.{AskForOne}

-- ---- texts one after another

abbrev IsShort : List ℕ → Type 0
IsShort t = length t ≤ 2 ^ 20

texts_apart : (ts us : List (List ℕ)) → All IsShort ts → All IsShort us → flat_map text_bytes ts ≡ flat_map text_bytes us → ts ≡ us
texts_apart [] [] h k e = refl
texts_apart [] (u ∷ us) h k e = absurd (text_some u (flat_map text_bytes us) e)
texts_apart (t ∷ ts) [] h k e = absurd (text_some t (flat_map text_bytes ts) (sym e))
texts_apart (t ∷ ts) (u ∷ us) h k e =
    let short = All-head IsShort t ts h in
    let short' = All-head IsShort u us k in
    let both = text_apart t u (flat_map text_bytes ts) (flat_map text_bytes us) (omega (arith, short)) (omega (arith, short')) e in
    let rest = texts_apart ts us (All-tail IsShort t ts h) (All-tail IsShort u us k) both.1 in
    ap (λ (v : List ℕ). v ∷ ts) both.0 ∙ ap (λ (l : List (List ℕ)). u ∷ l) rest

-- ---- one query

some_is : (q r : Query) → Some q ≡ Some r → q ≡ r
some_is q r e = cc

pub ask_for_one : AskForOne
ask_for_one words query other a b =
    let have = a.is_command.have in
    let had = b.is_command.have in
    let filters : a.is_command.filters ≡ b.is_command.filters = texts_apart a.is_command.filters b.is_command.filters have.short had.short (sym have.are ∙ had.are) in
    let command : a.command ≡ b.command = a.is_command.is ∙ ap (command_words words) filters ∙ sym b.is_command.is in
    some_is query other (sym a.asks ∙ ap stream_query_of command ∙ b.asks)

-- ---- at most eight aggregates

all_long : (os : List (Option NamedItem)) (items : List NamedItem) → all_some os ≡ Some items → length items ≡ length os
all_long [] items e = let is : [] ≡ items = cc in sym (ap length is)
all_long (None ∷ os) items e = cc
all_long (Some x ∷ os) items e = go (all_some os) refl (λ xs is. all_long os xs is) e
  where
    go : (o : Option (List NamedItem)) → all_some os ≡ o → ((xs : List NamedItem) → all_some os ≡ Some xs → length xs ≡ length os) → option_map (λ xs. x ∷ xs) o ≡ Some items → length items ≡ length (Some x ∷ os)
    go None is rest f = cc
    go (Some xs) is rest f =
        let same : x ∷ xs ≡ items = cc in
        let long = rest xs is in
        omega (arith, long, ap length same)

items_few : (places : Places) (text : List ℕ) (items : List NamedItem) → items_in places text ≡ Some items → length items ≤ 8
items_few places text items e = go (nat_le (length (parts_of text)) 8) refl e
  where
    go : (b : Bool) → nat_le (length (parts_of text)) 8 ≡ b → cond b (all_some (map (item_in places) (parts_of text))) None ≡ Some items → length items ≤ 8
    go true is f =
        let few : length (parts_of text) ≤ 8 = leb-true (length (parts_of text)) 8 is in
        let long = all_long (map (item_in places) (parts_of text)) items f in
        omega (arith, few, long, length-map (parts_of text) (item_in places))
    go false is f = cc

given_few : (places : Places) (given : Option (List ℕ)) (items : List NamedItem) → items_given places given ≡ Some items → length items ≤ 8
given_few places None items e = cc
given_few places (Some text) items e = items_few places text items e

-- ---- a separator that may be one

both : (a b : Bool) → (a && b) ≡ true → (a ≡ true) × (b ≡ true)
both true b e = (refl, e)
both false b e = cc e

differs : (a b : ℕ) → not (a == b) ≡ true → a ≢ b
differs a b e same = cc (ap not (eq-eqb a b same), e)

byte_separates : (byte : ℕ) → is_separator byte ≡ true → IsSeparator byte
byte_separates byte e =
    let low = both (nat_lt byte 128) (not (byte == 34) && (not (byte == 13) && not (byte == 10))) e in
    let quote = both (not (byte == 34)) (not (byte == 13) && not (byte == 10)) low.1 in
    let ends = both (not (byte == 13)) (not (byte == 10)) quote.1 in
    record { ascii = ltb-true byte 128 low.0; no_quote = differs byte 34 quote.0; no_return = differs byte 13 ends.0; no_feed = differs byte 10 ends.1 }

number_is : (m n : ℕ) → Some m ≡ Some n → m ≡ n
number_is m n e = cc

text_separates : (text : List ℕ) (s : ℕ) → separator_in text ≡ Some s → IsSeparator s
text_separates text s e = go (bytes_eq text (codes "tab")) ((length text == 1) && is_separator (slice_index text 0)) refl e
  where
    go : (tab one : Bool) → ((length text == 1) && is_separator (slice_index text 0)) ≡ one → cond tab (Some 9) (cond one (Some (slice_index text 0)) None) ≡ Some s → IsSeparator s
    go true one is f = subst IsSeparator (number_is 9 s f) (byte_separates 9 refl)
    go false true is f = subst IsSeparator (number_is (slice_index text 0) s f) (byte_separates (slice_index text 0) (both (length text == 1) (is_separator (slice_index text 0)) is).1)
    go false false is f = cc f

given_separates : (given : Option (List ℕ)) (s : ℕ) → separator_given given ≡ Some s → IsSeparator s
given_separates None s e = subst IsSeparator (number_is 44 s e) (byte_separates 44 refl)
given_separates (Some text) s e = text_separates text s e

reading_separates : (separator : Option (List ℕ)) (trim : Bool) (nulls : Option (List ℕ)) (r : Reading) → reading_given separator trim nulls ≡ Some r → IsSeparator r.separator
reading_separates separator trim nulls r e = go (separator_given separator) (nulls_given nulls) refl e
  where
    reading_is : (a b : Reading) → Some a ≡ Some b → a ≡ b
    reading_is a b e = cc

    go : (byte : Option ℕ) (texts : Option (List ℕ)) → separator_given separator ≡ byte → option_and_then (λ (s : ℕ). option_map (λ (n : List ℕ). record { separator = s; trim = trim; nulls = n }) texts) byte ≡ Some r → IsSeparator r.separator
    go None texts is f = cc f
    go (Some s) None is f = cc f
    go (Some s) (Some n) is f = subst (λ (q : Reading). IsSeparator q.separator) (reading_is (record { separator = s; trim = trim; nulls = n }) r f) (given_separates separator s is)

-- ---- what a query that words ask for has

abbrev Fits : Query → Type 0
Fits q = (length q.plan.items ≤ 8) × IsSeparator q.reading.separator

by_parts : (g : Option (List (List ℕ))) (i : Option (List NamedItem)) (f : Option (List NamedFilter)) (h : Option Bool) (w p : Option ℕ) (r : Option Reading) (q : Query) → ((items : List NamedItem) → i ≡ Some items → length items ≤ 8)
    → ((reading : Reading) → r ≡ Some reading → IsSeparator reading.separator) → query_by g i f h w p r ≡ Some q → Fits q
by_parts None i f h w p r q few sep e = cc
by_parts (Some g) None f h w p r q few sep e = cc
by_parts (Some g) (Some i) None h w p r q few sep e = cc
by_parts (Some g) (Some i) (Some f) None w p r q few sep e = cc
by_parts (Some g) (Some i) (Some f) (Some h) None p r q few sep e = cc
by_parts (Some g) (Some i) (Some f) (Some h) (Some w) None r q few sep e = cc
by_parts (Some g) (Some i) (Some f) (Some h) (Some w) (Some p) None q few sep e = cc
by_parts (Some g) (Some i) (Some f) (Some h) (Some w) (Some p) (Some r) q few sep e =
    subst Fits (some_is (record { plan = record { groups = g; items = i; hash = h; filters = f }; workers = w; area_pages = p; reading = r }) q e) (few i refl, sep r refl)

parts_by : (line : Bool) (g : Option (List (List ℕ))) (agg : Option (List ℕ)) (f : Places → Option (List NamedFilter)) (h : Option Bool) (w p : Option ℕ) (r : Option Reading) (places : Option Places) (q : Query)
    → ((reading : Reading) → r ≡ Some reading → IsSeparator reading.separator) → cond line (option_and_then (λ (places : Places). query_by g (items_given places agg) (f places) h w p r) places) None ≡ Some q → Fits q
parts_by true g agg f h w p r None q sep e = cc
parts_by true g agg f h w p r (Some places) q sep e = by_parts g (items_given places agg) (f places) h w p r q (λ items is. given_few places agg items is) sep e
parts_by false g agg f h w p r places q sep e = cc

fits : (words : Words) (query : Query) → AskFor words query → Fits query
unfolding stream_query_of
fits words query a =
    let separator = value_of parstream_command (codes "separator") a.command in
    let trim = flag_in parstream_command (codes "trim") a.command in
    let nulls = value_of parstream_command (codes "null") a.command in
    parts_by (is_command_line parstream_command a.command) (groups_given (value_of parstream_command (codes "group") a.command)) (value_of parstream_command (codes "agg") a.command)
    (λ (places : Places). filters_in true places (values_of parstream_command (codes "where") a.command)) (Some false) (number_given 64 2 (value_of parstream_command (codes "workers") a.command)) (Some 2048)
    (reading_given separator trim nulls) (places_given (value_of parstream_command (codes "decimals") a.command)) query
    (λ reading is. reading_separates separator trim nulls reading is) a.asks

-- at most eight aggregates
pub few_items : (words : Words) (query : Query) → AskFor words query → length query.plan.items ≤ 8
few_items words query a = (fits words query a).0

-- and a separator
pub separates : (words : Words) (query : Query) → AskFor words query → IsSeparator query.reading.separator
separates words query a = (fits words query a).1
