-- The place of a row of some windows among all bytes of a source.
use Rattle.std.proofs.Common.{◌≡◌, ◌≢◌, inl, inr, ◌<◌, ◌≤◌, ◌+◌, ◌-◌, ◌++◌, ◌∙◌, ℕ, zero, suc, true, false, List, [], ◌∷◌, All, Option, None, Some, length, length-append, length-take, slice_index, string_bytes, take, drop, refl, ap, sym, subst, arith, append_assoc, append-nil, take-append-drop}
use Rattle.std.specs.Prelude.{◌==◌, IfSome, option_map}
use Rattle.std.proofs.lemmas.Bool.{cases_Bool, cases_lt, eq-eqb, ne_eqb}
use Rattle.std.proofs.lemmas.List.{drop-drop, drop_all, drop_more, get_or-drop, get_or-take, get_or_append_left, length-drop}
use Rattle.std.proofs.lemmas.List.Elements.{All-drop, All-from_get_or, All-head, All-tail, All-take}
use Rattle.csv_rows.specs.Cuts.{IsCut}
use Rattle.csv_rows.specs.Places.{place_after}
use Rattle.csv_rows.specs.Records.{records_of}
use Rattle.csv_rows.specs.declared.cleaning.Reading.{Reading}
use Rattle.csv_rows.specs.declared.place.Place.TheVariants as scan
use Rattle.csv_rows.proofs.Cleaned.{as-length}
use Rattle.row_blocks.specs.Blocks.{Table}
use Rattle.row_windows.specs.Seams.{BeginsLine, is_line_end}
use Rattle.row_windows.specs.Stretch.{Stretch}
use Rattle.split_run.specs.Pieces.{piece_rows, rows_of}
use Rattle.text_lines.specs.Feeds.{count_feeds}
use Rattle.text_lines.specs.Quotes.{IsOpenQuote}
use Rattle.text_lines.proofs.Counts.{count_append, count_on}
use Rattle.text_lines.proofs.Ends.{begins_front, no_records}
use Rattle.text_lines.proofs.Outside.{begun_outer, cut_outer, later_outer, none_outer}
use Rattle.text_lines.proofs.Parts.{cut_append, records_append}
use Rattle.stream_groups.specs.Begins.{AllCut, BeginsIn, BeginsOrNone, IsLined, IsPlaceIn, PlacesRow, SaysQuote, feeds_of, lines_of, no_stretch, piece_at, quote_text}
use Rattle.stream_groups.specs.Reading.{ArePart}
use Rattle.stream_groups.specs.declared.place.Place.{Place}
use Rattle.stream_groups.proofs.AllEnds.{ends_between}
use Rattle.stream_groups.proofs.Feeds.{lines_apart}
use Rattle.stream_groups.proofs.ReadAs.{rows_count}
use Rattle.stream_groups.proofs.Windows.{begins_longer}

-- ---- texts one after another, of which the second has no bytes or begins with the end of a line

cut_more : (a b : List ℕ) → IsCut a → BeginsOrNone b → IsCut b → IsCut (a ++ b)
cut_more a b cut (inl none) more = subst IsCut (sym (ap (λ (l : List ℕ). a ++ l) none ∙ append-nil a)) cut
cut_more a b cut (inr line) more = cut_append a b cut line more

count_more : (a b : List ℕ) → IsCut a → BeginsOrNone b → length (records_of (a ++ b)) ≡ length (records_of a) + length (records_of b)
count_more a b cut (inl none) =
    let same : length (records_of (a ++ b)) ≡ length (records_of a) = ap (λ (l : List ℕ). length (records_of (a ++ l))) none ∙ ap (λ (l : List ℕ). length (records_of l)) (append-nil a) in
    let zero_is : length (records_of b) ≡ 0 = ap (λ (l : List ℕ). length (records_of l)) none ∙ ap length no_records in
    omega (arith, same, zero_is)
count_more a b cut (inr line) = records_append a b cut line

front_or_none : (text : List ℕ) (n : ℕ) → BeginsLine text → BeginsOrNone (take n text)
front_or_none text zero line = inl refl
front_or_none text (suc n) line = inr (begins_front text (suc n) (omega arith) line)

-- the lines of windows, after a text that ends outside quotes
record Follows (front : List ℕ) (ws : List Stretch) : Type 0 where
  cut : IsCut (front ++ lines_of ws)
  count : length (records_of (front ++ lines_of ws)) ≡ length (records_of front) + length (rows_of ws)

follow : (reading : Reading) (front : List ℕ) (ws : List Stretch) → IsCut front → All (IsLined reading) ws → AllCut ws → Follows front ws
follow reading front [] cut lined all =
    let same : length (records_of (front ++ [])) ≡ length (records_of front) = ap (λ (l : List ℕ). length (records_of l)) (append-nil front) in
    record { cut = subst IsCut (sym (append-nil front)) cut; count = omega (arith, same) }
follow reading front (w ∷ ws) cut lined all =
    let here = All-head (IsLined reading) w ws lined in
    let more : IsCut (front ++ w.lines) = cut_more front w.lines cut here.begins (All-head (λ (w : Stretch). IsCut w.lines) w ws all) in
    let rest = follow reading (front ++ w.lines) ws more (All-tail (IsLined reading) w ws lined) (All-tail (λ (w : Stretch). IsCut w.lines) w ws all) in
    let same : (front ++ w.lines) ++ lines_of ws ≡ front ++ lines_of (w ∷ ws) = append_assoc front w.lines (lines_of ws) in
    let size : length (records_of ((front ++ w.lines) ++ lines_of ws)) ≡ length (records_of (front ++ lines_of (w ∷ ws))) = ap (λ (l : List ℕ). length (records_of l)) same in
    record {
      cut = subst IsCut same rest.cut;
      count = omega (arith, size, rest.count, count_more front w.lines cut here.begins, rows_count reading w here, length-append (piece_rows w) (rows_of ws));
    }

-- what comes after a window begins with the end of a line, or there is nothing
after_or_none : (reading : Reading) (ws : List Stretch) (back : List ℕ) → All (IsLined reading) ws → BeginsOrNone back → BeginsOrNone (lines_of ws ++ back)
after_or_none reading [] back lined begins = begins
after_or_none reading (w ∷ ws) back lined begins = elim (All-head (IsLined reading) w ws lined).begins [
  | inl none ↦ subst BeginsOrNone (sym (ap (λ (l : List ℕ). (l ++ lines_of ws) ++ back) none)) (after_or_none reading ws back (All-tail (IsLined reading) w ws lined) begins)
  | inr line ↦ inr (subst BeginsLine (sym (append_assoc w.lines (lines_of ws) back)) (begins_longer w.lines (lines_of ws ++ back) line))
]

-- ---- what is said of a quote

-- nothing, of a text that ends outside quotes
said_nothing : (text : List ℕ) (line : ℕ) (said : List ℕ) → SaysQuote text line said → place_after scan.Opens text ≢ scan.Quoted → said ≡ []
said_nothing text line said says outer = by says.quote says.some says.says
  where
    by : (quote : Option ℕ) → IfSome quote (IsOpenQuote text) → said ≡ quote_text (option_map (λ at. line + count_feeds (take at text)) quote) → said ≡ []
    by None some is = is
    by (Some at) some is = absurd (outer some.unclosed)

says_nothing : (text : List ℕ) (line : ℕ) (said : List ℕ) → said ≡ [] → place_after scan.Opens text ≢ scan.Quoted → SaysQuote text line said
says_nothing text line said none outer = record { quote = None; some = tt; none = λ _. outer; says = none }

-- ---- one window among all

regroup : (f g a b c d e : List ℕ) → f ++ ((g ++ ((a ++ (b ++ c)) ++ d)) ++ e) ≡ ((f ++ g) ++ a) ++ (b ++ (c ++ (d ++ e)))
regroup f g a b c d e = simp append_assoc

to_front : (f g l m e : List ℕ) → f ++ ((g ++ (l ++ m)) ++ e) ≡ (f ++ g) ++ (l ++ (m ++ e))
to_front f g l m e = simp append_assoc

to_back : (f g l m e : List ℕ) → f ++ ((g ++ (l ++ m)) ++ e) ≡ ((f ++ g) ++ l) ++ (m ++ e)
to_back f g l m e = simp append_assoc

first_byte : (a b : List ℕ) → 0 < length a → slice_index (a ++ b) 0 ≡ slice_index a 0
first_byte a b low = get_or_append_left a b 0 0 low

empty_list : (l : Table) → length l ≡ 0 → l ≡ []
empty_list [] e = refl
empty_list (x ∷ l) e = absurd (omega (arith, e))

-- a text in three parts
three_parts : (text : List ℕ) (from to : ℕ) → from ≤ to → text ≡ take from text ++ (take (to - from) (drop from text) ++ drop to text)
three_parts text from to order =
    let same : from + (to - from) ≡ to = omega (arith, order) in
    let rest = drop from text in
    let back : drop (to - from) rest ≡ drop to text = drop-drop (to - from) from text ∙ ap (λ (n : ℕ). drop n text) same in
    sym (take-append-drop from text) ∙ ap (λ (l : List ℕ). take from text ++ l) (sym (take-append-drop (to - from) rest) ∙ ap (λ (l : List ℕ). take (to - from) rest ++ l) back)

module _ (reading : Reading) (bytes : List ℕ) (records : Table) (feeds : ℕ) (pieces : List Stretch) (back : List ℕ) (part : ArePart reading bytes records feeds pieces back) (lined : All (IsLined reading) pieces) (k : ℕ) (low : k < length pieces) where
  abbrev w : Stretch
  w = piece_at pieces k

  abbrev lines : List ℕ
  lines = w.lines

  abbrev before : List Stretch
  before = take k pieces

  abbrev after : List Stretch
  after = drop (k + 1) pieces

  abbrev more : List ℕ
  more = lines_of after ++ back

  abbrev front : List ℕ
  front = part.front ++ lines_of before

  here : IsLined reading w
  here = lined k no_stretch low

  -- the lines of all windows
  all_lines : lines_of pieces ≡ lines_of before ++ (lines ++ lines_of after)
  all_lines =
      let cut : pieces ≡ before ++ (w ∷ after) = sym (take-append-drop k pieces) ∙ ap (λ (l : List Stretch). before ++ l) (drop_more pieces k no_stretch low) in
      ap lines_of cut ∙ lines_apart before (w ∷ after)

  bytes_are : bytes ≡ part.front ++ ((lines_of before ++ (lines ++ lines_of after)) ++ back)
  bytes_are = part.are ∙ ap (λ (l : List ℕ). part.front ++ (l ++ back)) all_lines

  -- those before this window end outside quotes
  before_cut : AllCut before
  before_cut = All-from_get_or (λ (v : Stretch). IsCut v.lines) before no_stretch each
    where
      each : (i : ℕ) → i < length before → IsCut (piece_at before i).lines
      each i short =
          let lower : i < k = omega (arith, short, length-take k pieces) in
          subst (λ (v : Stretch). IsCut v.lines) (sym (get_or-take k pieces i no_stretch lower)) (part.cuts i (omega (arith, lower, low)))

  follows : Follows part.front before
  follows = follow reading part.front before part.whole (All-take (IsLined reading) k pieces lined) before_cut

  front_count : length (records_of front) ≡ length records + length (rows_of before)
  front_count = omega (arith, follows.count, ap (λ (l : Table). length l) part.is, as-length reading part.front)

  front_feeds : count_feeds front ≡ feeds + feeds_of before
  front_feeds = count_append part.front (lines_of before) ∙ ap (λ (n : ℕ). n + feeds_of before) part.feeds

  more_or_none : BeginsOrNone more
  more_or_none = after_or_none reading after back (All-drop (IsLined reading) (k + 1) pieces lined) (elim part.next [ inl none ↦ inl none | inr next ↦ inr next.0 ])

  -- if anything comes after this window, it ends outside quotes
  here_cut : BeginsLine more → IsCut lines
  here_cut begins = elim (cases_lt (k + 1) (length pieces)) [
    | inl short ↦ part.cuts k short
    | inr past ↦ elim part.next [
      | inl none ↦
          let nothing : more ≡ [] = ap (λ (l : List Stretch). lines_of l ++ back) (drop_all (k + 1) pieces past) ∙ none in
          absurd (omega (arith, begins.some, ap length nothing))
      | inr next ↦ next.1 k no_stretch low
    ]
  ]

  module _ (line : BeginsLine lines) where
    -- how many records there are, if nothing comes after this window, or something
    count_here : length (records_of (front ++ lines)) ≡ length records + length (rows_of before) + length (piece_rows w)
    count_here = omega (arith, records_append front lines follows.cut line, front_count, rows_count reading w here)

    count_last : more ≡ [] → length (records_of bytes) ≡ length records + length (rows_of before) + length (piece_rows w)
    count_last none =
        let are : bytes ≡ front ++ lines =
        bytes_are ∙ (to_front part.front (lines_of before) lines (lines_of after) back ∙ (ap (λ (l : List ℕ). front ++ (lines ++ l)) none ∙ ap (λ (l : List ℕ). front ++ l) (append-nil lines))) in
        ap (λ (l : List ℕ). length (records_of l)) are ∙ count_here

    count_more_after : BeginsLine more → length (records_of bytes) ≡ length records + length (rows_of before) + length (piece_rows w) + length (records_of more)
    count_more_after begins =
        let are : bytes ≡ (front ++ lines) ++ more = bytes_are ∙ to_back part.front (lines_of before) lines (lines_of after) back in
        let cut : IsCut (front ++ lines) = cut_append front lines follows.cut line (here_cut begins) in
        let size : length (records_of bytes) ≡ length (records_of ((front ++ lines) ++ more)) = ap (λ (l : List ℕ). length (records_of l)) are in
        omega (arith, size, records_append (front ++ lines) more cut begins, count_here)

  -- ---- a row of it

  module _ (row at number : ℕ) (place : Place) (some : 1 ≤ at) (high : at ≤ length (piece_rows w)) (row_is : length (rows_of before) + at ≡ row) (number_is : length records + row ≡ number + 1)
      (is : IsPlaceIn lines (at - 1) (at == length (piece_rows w)) (feeds + feeds_of before) place) where
    abbrev end : ℕ
    end = is.begins.end

    abbrev start : ℕ
    start = is.at

    abbrev text : List ℕ
    text = drop start lines ++ more

    line_here : BeginsLine lines
    line_here = elim here.begins [ inl none ↦ absurd (omega (arith, is.begins.within, ap length none)) | inr line ↦ line ]

    -- the ends of lines before it
    apart : end < start
    apart = elim (cases_lt end start) [
      | inl less ↦ less
      | inr past ↦
          let same : end ≡ start = omega (arith, past, is.begins.low) in
          let bad : true ≡ false = sym is.begins.ends.line ∙ (ap (λ (n : ℕ). is_line_end (slice_index lines n)) same ∙ is.begins.other) in
          cc bad
    ]

    begins : BeginsIn bytes number place.line
    begins =
        let line = line_here in
        let ends = take (start - end) (drop end lines) in
        let half = front_or_none lines end line in
        let first_low : 0 < length (drop start lines) = omega (arith, length-drop start lines, is.begins.within) in
        let at_start : start + 0 ≡ start = omega arith in
        let parts = three_parts lines end start (omega (arith, apart)) in
        let upto : end + (start - end) ≡ start = omega (arith, apart) in
        let count : count_feeds (take start lines) ≡ count_feeds (take end lines) + count_feeds ends = ap (λ (n : ℕ). count_feeds (take n lines)) (sym upto) ∙ count_on lines end (start - end) in
        record {
          front = front ++ take end lines;
          ends = ends;
          back = text;
          are = bytes_are ∙ (ap (λ (l : List ℕ). part.front ++ ((lines_of before ++ (l ++ lines_of after)) ++ back)) parts ∙ regroup part.front (lines_of before) (take end lines) ends (drop start lines) (lines_of after) back);
          whole = cut_more front (take end lines) follows.cut half is.begins.ends.whole;
          number = omega (arith, count_more front (take end lines) follows.cut half, front_count, is.begins.ends.number, row_is, number_is, some);
          are_ends = ends_between lines end start is.begins.between;
          some = λ _. omega (arith, length-take (start - end) (drop end lines), length-drop end lines, apart, is.begins.within);
          other = ap is_line_end (first_byte (drop start lines) more first_low ∙ (get_or-drop start lines 0 0 ∙ ap (slice_index lines) at_start)) ∙ is.begins.other;
          line = omega (arith, is.line, count, front_feeds, count_append front (take end lines));
        }

    -- its text ends outside quotes if the window does
    outer_here : IsCut lines → place_after scan.Opens (drop start lines) ≢ scan.Quoted
    outer_here cut = begun_outer lines (at - 1) end start line_here (cut_outer lines line_here cut) is.begins.ends is.begins.between apart (omega (arith, is.begins.within))

    -- what is said of it, if something comes after the window: nothing
    nothing_said : BeginsLine more → string_bytes place.quote ≡ []
    nothing_said after_it = elim (cases_Bool (at == length (piece_rows w))) [
      | inl last ↦ said_nothing (drop start lines) place.line (string_bytes place.quote) (is.last last) (outer_here (here_cut after_it))
      | inr other ↦ is.others other
    ]

    -- or what its text says, if it is the last record of all
    last_said : BeginsOrNone more → length (records_of bytes) ≡ number + 1 → SaysQuote text place.line (string_bytes place.quote)
    last_said (inl none) all =
        let same : drop start lines ≡ text = sym (ap (λ (l : List ℕ). drop start lines ++ l) none ∙ append-nil (drop start lines)) in
        let last : at ≡ length (piece_rows w) = omega (arith, count_last line_here none, all, number_is, row_is) in
        subst (λ (t : List ℕ). SaysQuote t place.line (string_bytes place.quote)) same (is.last (eq-eqb at (length (piece_rows w)) last))
    last_said (inr after_it) all =
        let none : length (records_of more) ≡ 0 = omega (arith, count_more_after line_here after_it, all, number_is, row_is, high) in
        let outer : place_after scan.Opens text ≢ scan.Quoted = later_outer (drop start lines) more (outer_here (here_cut after_it)) after_it (none_outer more after_it (empty_list (records_of more) none)) in
        says_nothing text place.line (string_bytes place.quote) (nothing_said after_it) outer

    other_said : BeginsOrNone more → (length (records_of bytes) ≢ number + 1) → string_bytes place.quote ≡ []
    other_said (inl none) other =
        let apart : at ≢ length (piece_rows w) = λ last. other (omega (arith, count_last line_here none, last, number_is, row_is)) in
        is.others (ne_eqb at (length (piece_rows w)) apart)
    other_said (inr after_it) other = nothing_said after_it

    pub row_place : PlacesRow bytes number place.line (string_bytes place.quote)
    unfolding begins
    row_place = record { begins = begins; last = last_said more_or_none; others = other_said more_or_none }
