-- What there is after the header.
use Rattle.std.proofs.Common.{◌≡◌, inl, inr, ◌<◌, ◌≤◌, ◌+◌, ◌++◌, ◌∙◌, ℕ, Bool, true, false, List, [], ◌∷◌, Option, None, Some, IfSome, ap, append-nil, append_assoc, arith, get_or, length, length-append, refl, subst, sym}
use Rattle.std.specs.Prelude.{◌==◌, if◌then◌else◌, option_map, slice_index}
use Rattle.std.proofs.lemmas.Bool.{cases_Bool, cases_lt, eqb-true}
use Rattle.std.specs.Io.KnownBytes.{Consumes, IsAtEnd, prepend_known}
use Rattle.csv_rows.specs.Cuts.{IsCut}
use Rattle.csv_rows.specs.Places.{place_after}
use Rattle.csv_rows.specs.Readings.{records_as}
use Rattle.csv_rows.specs.Records.{record_at}
use Rattle.csv_rows.specs.declared.cleaning.Reading.{Reading}
use Rattle.csv_rows.specs.declared.place.Place.{Place}
use Rattle.csv_rows.specs.declared.place.Place.TheVariants as place
use Rattle.par_model.specs.Named.{bound_plan}
use Rattle.par_model.specs.Plan.{Plan}
use Rattle.par_model.specs.Refuse.{refused_rows}
use Rattle.row_blocks.specs.Blocks.{Table}
use Rattle.row_windows.specs.Seams.{BeginsLine, is_line_end}
use Rattle.row_windows.specs.Stretch.{Stretch}
use Rattle.row_windows.proofs.Seams.{not-feed}
use Rattle.split_run.specs.Pieces.{piece_records}
use Rattle.text_lines.specs.Feeds.{count_feeds}
use Rattle.text_lines.proofs.Counts.{count_none}
use Rattle.good_rows.specs.Good.{good_rows, has_good}
use Rattle.good_rows.specs.Lines.{IsBegun, ends_here, left_of, line_left}
use Rattle.good_rows.proofs.Left.{begins_one, begun_one, rows_left}
use Rattle.stream_groups.specs.Begins.{BeginsOrNone}
use Rattle.stream_groups.specs.declared.filling.First.{First}
use Rattle.stream_groups.specs.Reading.{HasAll, HasPart, HasRead}
use Rattle.stream_groups.proofs.ReadAs.{as_add_up, none_as}
use Rattle.good_groups.specs.Begun.{IsBegunOver, IsFirstOf}
use Rattle.good_groups.specs.Counted.{AreRules, HasCounted}
use Rattle.good_groups.specs.Good.{good_records}
use Rattle.good_groups.specs.Opened.{Opened}
use Rattle.good_groups.specs.Sifting.{IsHalted, keeps, sifter_left, sifting_left}
use Rattle.good_groups.specs.declared.sieve.Sifting.{Sifting}
use Rattle.good_groups.proofs.Steps.{same_left}
use Rattle.good_groups.specs.declared.sifter.Rules.{Rules}

-- what is left begins as the line does
line_begins : (k : List ℕ → Bool) (c : ℕ) (line : List ℕ) → (more : List ℕ) × (line_left k (c ∷ line) ≡ c ∷ more)
line_begins k c line = elim (cases_Bool (k (c ∷ line))) [
  | inl kept ↦ (line, ap (λ (b : Bool). if b then c ∷ line else c ∷ []) kept)
  | inr out ↦ ([], ap (λ (b : Bool). if b then c ∷ line else c ∷ []) out)
]

left_begins : (k : List ℕ → Bool) (c : ℕ) (line rest : List ℕ) (p : Place) → (more : List ℕ) × (left_of k p (c ∷ line) rest ≡ c ∷ more)
unfolding left_of
left_begins k c line [] p = line_begins k c line
left_begins k c line (d ∷ rest) p = elim (cases_Bool (ends_here p d)) [
  | inl ends ↦
      let front = line_begins k c line in
      let back = left_of k (place_after p (d ∷ [])) (d ∷ []) rest in
      (front.0 ++ back, rw ends (ap (λ (t : List ℕ). t ++ back) front.1))
  | inr goes ↦ let later = left_begins k c (line ++ d ∷ []) rest (place_after p (d ∷ [])) in (later.0, rw goes later.1)
]

-- lines and a rest begin with a byte, and the other bytes are not looked at yet
pub part_begins : (reading : Reading) (from left : Option (List ℕ)) (records : Table) (feeds : ℕ) (w : Stretch) (c : ℕ) (more : List ℕ) → w.lines ++ w.rest ≡ c ∷ more → is_line_end c ≡ true → HasPart reading from left records feeds (w ∷ []) w.rest
    → HasRead reading from (prepend_known more left) records feeds (c ∷ [])
part_begins reading None left records feeds w c more text line part = tt
part_begins reading (Some bytes) None records feeds w c more text line part = absurd part
part_begins reading (Some bytes) (Some left) records feeds w c more text line part =
    let back : w.lines ++ (w.rest ++ left) ≡ c ∷ (more ++ left) = sym (append_assoc w.lines w.rest left) ∙ ap (λ (t : List ℕ). t ++ left) text in
    let are : bytes ≡ part.front ++ (c ∷ (more ++ left)) = part.are ∙ ap (λ (t : List ℕ). part.front ++ (t ++ (w.rest ++ left))) (append-nil w.lines) ∙ ap (λ (t : List ℕ). part.front ++ t) back in
    record {
      front = part.front;
      are = are;
      is = part.is;
      parts = ap (records_as reading) are ∙ as_add_up reading part.front (c ∷ (more ++ left)) (record { whole = part.whole; line = begins_one c (more ++ left) line }) ∙ ap (λ (t : Table). t ++ records_as reading (c ∷ (more ++ left))) part.is;
      feeds = part.feeds;
      whole = part.whole;
      begins = inr (begins_one c [] line);
    }

pub rest_begins : (reading : Reading) (from left : Option (List ℕ)) (records : Table) (feeds : ℕ) (c : ℕ) (more : List ℕ) → is_line_end c ≡ true → HasRead reading from left records feeds (c ∷ more) → HasRead reading from (prepend_known more left) records feeds (c ∷ [])
rest_begins reading None left records feeds c more line read = tt
rest_begins reading (Some bytes) None records feeds c more line read = absurd read
rest_begins reading (Some bytes) (Some left) records feeds c more line read = record { front = read.front; are = read.are; is = read.is; parts = read.parts; feeds = read.feeds; whole = read.whole; begins = inr (begins_one c [] line) }

-- of what is left the records are the header and the good rows
module _ (o : Opened) (r : Rules) (are : AreRules o r) where
  abbrev reading : Reading
  reading = o.query.reading

  keeps_as : (line : List ℕ) (p : _) (rest : List ℕ) → left_of (keeps r) p line rest ≡ left_of (has_good reading r.bound.now (length o.header)) p line rest
  keeps_as line p rest = ap (λ (q : _). left_of (has_good q.reading r.bound.now r.width) p line rest) are.query ∙ ap (λ (n : ℕ). left_of (has_good reading r.bound.now n) p line rest) are.width

  good_as : (rows : Table) → good_rows r.bound.now (length o.header) rows ≡ good_rows (bound_plan o.header o.query.plan) (length o.header) rows
  good_as rows = ap (λ (b : Plan). good_rows b (length o.header) rows) are.bound.is

  sifted : IsCut r.header.now → (c : ℕ) (rest : List ℕ) (p : _) → IsBegun (c ∷ []) p → records_as reading (r.header.now ++ left_of (keeps r) p (c ∷ []) rest) ≡ good_records o.query (o.header ∷ records_as reading (c ∷ rest))
  sifted cut c rest p b =
      let after = left_of (keeps r) p (c ∷ []) rest in
      let begun = left_begins (keeps r) c [] rest p in
      as_add_up reading r.header.now after (record { whole = cut; line = subst BeginsLine (sym begun.1) (begins_one c begun.0 b.begins.is) })
      ∙ ap (λ (t : Table). t ++ records_as reading after) are.one
      ∙ ap (λ (t : Table). o.header ∷ t) (ap (records_as reading) (keeps_as (c ∷ []) p rest) ∙ rows_left reading r.bound.now (length o.header) (c ∷ []) rest p b ∙ good_as (records_as reading (c ∷ rest)))

  pub good_left : IsCut r.header.now → (from left : Option (List ℕ)) (feeds c : ℕ) (more : List ℕ) (p : _) → IsBegun (c ∷ []) p → HasRead reading from (prepend_known more left) (o.header ∷ []) feeds (c ∷ [])
      → IfSome from (λ bytes. (text : List ℕ) × (prepend_known r.header.now (option_map (left_of (keeps r) p (c ∷ [])) (prepend_known more left)) ≡ Some text) × (records_as reading text ≡ good_records o.query (records_as reading bytes)))
  good_left cut None left feeds c more p b read = tt
  good_left cut (Some bytes) None feeds c more p b read = absurd read
  good_left cut (Some bytes) (Some left) feeds c more p b read =
      (r.header.now ++ left_of (keeps r) p (c ∷ []) (more ++ left), refl, sifted cut c (more ++ left) p b ∙ ap (good_records o.query) (sym read.parts))

-- ---- the first window

pub nothing : (xs : List ℕ) → length xs ≤ 0 → xs ≡ []
nothing [] few = refl
nothing (x ∷ xs) few = absurd (omega (arith, few))

-- the first byte, whatever stands for none
pub first_default : (xs : List ℕ) (d : ℕ) → 0 < length xs → get_or xs 0 d ≡ slice_index xs 0
first_default [] d some = absurd (omega (arith, some))
first_default (x ∷ xs) d some = refl

line_place : (c : ℕ) → is_line_end c ≡ true → place_after place.Opens (c ∷ []) ≡ place.Opens
unfolding place_after
line_place c line = elim (cases_Bool (c == 10)) [
  | inl e ↦ let is : c ≡ 10 = eqb-true c 10 e in rw is refl
  | inr e ↦ let is : c ≡ 13 = not-feed c e line in rw is refl
]

begins_is : (lines rest : List ℕ) (c : ℕ) (more : List ℕ) (last : Bool) → lines ++ rest ≡ c ∷ more → BeginsOrNone lines → (last ≡ true → rest ≡ []) → (last ≡ false → BeginsLine rest) → is_line_end c ≡ true
begins_is [] rest c more true text begins none next = let bad : [] ≡ c ∷ more = sym (none refl) ∙ text in cc bad
begins_is [] rest c more false text begins none next = (subst BeginsLine text (next refl)).is
begins_is (d ∷ lines) rest c more last text (inl e) none next = cc e
begins_is (d ∷ lines) rest c more last text (inr b) none next = let same : c ≡ d = cc text in ap is_line_end same ∙ b.is

refused_nil : (plan : Plan) (width : ℕ) → refused_rows plan width [] ≡ []
unfolding refused_rows
refused_nil plan width = refl

-- nothing was counted
count_nothing : (o : Opened) (bound : Plan) (feeds : ℕ) → HasCounted o bound (record { rows = 0; feeds = feeds; count = 0; first = None }) []
count_nothing o bound feeds = record {
  number = refl;
  few = omega arith;
  count = sym (ap length (refused_nil bound (length o.header)));
  most = omega arith;
  first = refused_nil bound (length o.header);
}

module _ (o : Opened) (left : Option (List ℕ)) (r : Rules) (are : AreRules o r) (f : First) (is : IsFirstOf o left r f) (none : f.is_last ≡ true → f.window.rest ≡ []) where
  first_read : (c : ℕ) (more : List ℕ) → f.window.lines ++ f.window.rest ≡ c ∷ more → is_line_end c ≡ true → HasRead o.query.reading o.from (prepend_known more left) (o.header ∷ []) f.feeds (c ∷ [])
  first_read c more text line = elim (cases_lt 0 (length f.window.lines)) [
    | inl some ↦
        subst (λ h. HasRead o.query.reading o.from (prepend_known more left) (h ∷ []) f.feeds (c ∷ [])) is.one
        (part_begins o.query.reading o.from left (record_at f.header 0 ∷ []) f.feeds f.window c more text line (is.part some))
    | inr few ↦
        let empty = nothing f.window.lines few in
        let rest : f.window.rest ≡ c ∷ more = ap (λ (t : List ℕ). t ++ f.window.rest) (sym empty) ∙ text in
        elim (cases_Bool f.is_last) [
          | inl last ↦ let bad : [] ≡ c ∷ more = sym (none last) ∙ rest in cc bad
          | inr going ↦
              let records : piece_records f.window ≡ o.header ∷ [] =
              is.header.records ∙ ap (λ (l : Table). record_at f.header 0 ∷ l) (is.lined.rows ∙ ap (records_as o.query.reading) empty ∙ none_as o.query.reading) ∙ ap (λ (h : List (List ℕ)). h ∷ []) is.one in
              let feeds : f.feeds + count_feeds f.window.lines ≡ f.feeds = omega (arith, ap count_feeds empty, count_none) in
              rest_begins o.query.reading o.from left (o.header ∷ []) f.feeds c more line
              (subst (λ (t : List ℕ). HasRead o.query.reading o.from left (o.header ∷ []) f.feeds t) rest
              (subst (λ (n : ℕ). HasRead o.query.reading o.from left (o.header ∷ []) n f.window.rest) feeds
              (subst (λ (l : Table). HasRead o.query.reading o.from left l (f.feeds + count_feeds f.window.lines) f.window.rest) records (is.reaches.more going))))
        ]
  ]

  module _ (s : Sifting) (ahead : s.sifter.ahead ≡ r.header.now) (tally : s.sifter.tally ≡ record { rows = 0; feeds = f.feeds; count = 0; first = None }) (halt : s.halt ≡ None) (fresh : s.lacks ≡ 0) where
    halted : IsHalted o s.halt s
    halted = subst (λ h. IsHalted o h s) (sym halt) fresh

    -- a line begins
    pub line_begun : IsCut r.header.now → (c : ℕ) (more : List ℕ) → f.window.lines ++ f.window.rest ≡ c ∷ more → s.is_done ≡ false → s.sifter.line.items ≡ c ∷ [] → s.sifter.place ≡ place.Opens → s.sifter.pending ≡ more → IsBegunOver o left r s
    line_begun cut c more text going line at pending =
        let ends = begins_is f.window.lines f.window.rest c more f.is_last text is.lined.begins none is.header.next in
        let read = first_read c more text ends in
        let begun : IsBegun (c ∷ []) place.Opens = subst (IsBegun (c ∷ [])) (line_place c ends) (begun_one place.Opens c ends (λ e. cc e)) in
        let left_is : sifting_left r left s ≡ prepend_known r.header.now (option_map (left_of (keeps r) place.Opens (c ∷ [])) (prepend_known more left)) =
        ap (λ (d : Bool). if d then prepend_known s.sifter.ahead left else sifter_left r left s.sifter) going
        ∙ same_left (keeps r) left s.sifter.ahead r.header.now s.sifter.pending more s.sifter.line.items (c ∷ []) s.sifter.place place.Opens (sym ahead) (sym pending) (sym line) (sym at) in
        record {
          is = record {
            going = λ _. record {
              rows = [];
              counted = subst (λ t. HasCounted o r.bound.now t []) (sym tally) (count_nothing o r.bound.now f.feeds);
              begun = subst (λ (t : List ℕ). IsBegun t s.sifter.place) (sym line) (subst (IsBegun (c ∷ [])) (sym at) begun);
              cut = cut;
              few = omega (arith, is.few, ap (λ t. t.feeds) tally);
              read =
                  subst (λ t. HasRead o.query.reading o.from (prepend_known s.sifter.pending left) (o.header ∷ []) t.feeds s.sifter.line.items) (sym tally)
                  (subst (λ (t : List ℕ). HasRead o.query.reading o.from (prepend_known s.sifter.pending left) (o.header ∷ []) f.feeds t) (sym line)
                  (subst (λ (t : List ℕ). HasRead o.query.reading o.from (prepend_known t left) (o.header ∷ []) f.feeds (c ∷ [])) (sym pending) read));
            };
            done = λ e. let bad : true ≡ false = sym e ∙ going in cc bad;
            halted = halted;
          };
          fresh = fresh;
          good = subst (λ x. IfSome o.from (λ bytes. (text : List ℕ) × (x ≡ Some text) × (records_as o.query.reading text ≡ good_records o.query (records_as o.query.reading bytes)))) (sym left_is)
              (good_left o r are cut o.from left f.feeds c more place.Opens begun read);
        }

    -- or there is none
    pub none_begun : f.window.lines ++ f.window.rest ≡ [] → s.is_done ≡ true → IsBegunOver o left r s
    none_begun text done =
        let empty : f.window.lines ≡ [] = nothing f.window.lines (omega (arith, ap length text, length-append f.window.lines f.window.rest)) in
        let rest : f.window.rest ≡ [] = nothing f.window.rest (omega (arith, ap length text, length-append f.window.lines f.window.rest)) in
        let last : f.is_last ≡ true = elim (cases_Bool f.is_last) [
          | inl e ↦ e
          | inr e ↦ absurd (omega (arith, (is.header.next e).some, ap length rest))
        ] in
        let records : piece_records f.window ≡ o.header ∷ [] =
        is.header.records ∙ ap (λ (l : Table). record_at f.header 0 ∷ l) (is.lined.rows ∙ ap (records_as o.query.reading) empty ∙ none_as o.query.reading) ∙ ap (λ (h : List (List ℕ)). h ∷ []) is.one in
        let all = subst (HasAll o.query.reading o.from) records (is.reaches.all last) in
        let end = is.end last in
        let left_is : sifting_left r left s ≡ prepend_known r.header.now left =
        ap (λ (d : Bool). if d then prepend_known s.sifter.ahead left else sifter_left r left s.sifter) done ∙ ap (λ (t : List ℕ). prepend_known t left) ahead in
        record {
          is = record {
            going = λ e. let bad : true ≡ false = sym done ∙ e in cc bad;
            done = λ _. record { rows = []; counted = subst (λ t. HasCounted o r.bound.now t []) (sym tally) (count_nothing o r.bound.now f.feeds); all = all; end = end };
            halted = halted;
          };
          fresh = fresh;
          good = subst (λ x. IfSome o.from (λ bytes. (text : List ℕ) × (x ≡ Some text) × (records_as o.query.reading text ≡ good_records o.query (records_as o.query.reading bytes)))) (sym left_is) (good_none o.from left all end is.known);
        }
      where
        good_none : (from left : Option (List ℕ)) → HasAll o.query.reading from (o.header ∷ []) → IsAtEnd left → IfSome from (λ bytes. (rest : List ℕ) × (left ≡ Some rest))
            → IfSome from (λ bytes. (text : List ℕ) × (prepend_known r.header.now left ≡ Some text) × (records_as o.query.reading text ≡ good_records o.query (records_as o.query.reading bytes)))
        good_none None left all end known = tt
        good_none (Some bytes) None all end known = let bad = known.1 in cc bad
        good_none (Some bytes) (Some rest) all end known =
            (r.header.now ++ rest, refl, ap (records_as o.query.reading) (ap (λ (t : List ℕ). r.header.now ++ t) end ∙ append-nil r.header.now) ∙ are.one ∙ ap (good_records o.query) (sym all))

-- what a source has left is known if it was before
pub known_of : (old new : Option (List ℕ)) (more : List ℕ) → Consumes old new more → IfSome old (λ bytes. (rest : List ℕ) × (new ≡ Some rest))
known_of None new more took = tt
known_of (Some xs) None more took = absurd took
known_of (Some xs) (Some ys) more took = (ys, refl)
