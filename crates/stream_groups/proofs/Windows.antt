-- Windows of a source, one after another.
use Rattle.std.proofs.Common.{◌≡◌, ◌⊎◌, inl, inr, ◌<◌, ◌+◌, ◌++◌, ◌∙◌, ℕ, Bool, true, false, List, [], ◌∷◌, Option, None, Some, Result, Ok, Err, IfErr, IfOk, IfSome, drop, length, length-append, slice_index, string_bytes, take, refl, ap, subst, sym, arith, append_assoc, append-nil, take-append-drop}
use Rattle.std.specs.Prelude.{OnOk}
use Rattle.std.specs.Io.KnownBytes.{IsAtEnd}
use Rattle.std.proofs.lemmas.List.{get_or-drop}
use Rattle.csv.specs.Reading.{strip_bom}
use Rattle.csv_rows.specs.Readings.{records_as}
use Rattle.csv_rows.specs.declared.cleaning.Reading.{Reading}
use Rattle.par_io.specs.Faults.{Rose}
use Rattle.plan_spec.specs.Query.{Query}
use Rattle.row_blocks.specs.Blocks.{Table}
use Rattle.row_windows.specs.Seams.{BeginsLine, IsLong, IsSeam, is_line_end}
use Rattle.row_windows.specs.Stretch.{Fills, IsLongWindow, Stretch}
use Rattle.row_windows.specs.declared.window.WindowAnswer.{WindowAnswer}
use Rattle.row_windows.specs.declared.window.WindowAnswer.TheVariants as answer
use Rattle.csv_rows.specs.Cuts.{IsCut}
use Rattle.text_lines.specs.Feeds.{count_feeds}
use Rattle.text_lines.proofs.Counts.{count_append, count_none}
use Rattle.text_lines.proofs.Ends.{no_cut}
use Rattle.text_lines.proofs.Parts.{cut_append}
use Rattle.par_model.specs.Named.{NamedPlan}
use Rattle.par_model.specs.Outcome.{Table as IsTable}
use Rattle.stream_groups.specs.Begins.{IsPlaceOfLong, PlacesLong}
use Rattle.stream_groups.specs.Outcome.{outcome}
use Rattle.stream_groups.specs.Reading.{AreRead, HasRead, IsFilled, IsNotFilled, Reaches}
use Rattle.stream_groups.specs.Stops.{IsStopOfWindow, Tells}
use Rattle.stream_groups.specs.Ways.{of_text}
use Rattle.stream_groups.specs.declared.place.Place.{Place}
use Rattle.stream_groups.specs.declared.stop.Stop.{Stop}
use Rattle.stream_groups.specs.declared.stop.Stop.TheVariants as stop
use Rattle.stream_groups.proofs.AllEnds.{all_ends}
use Rattle.stream_groups.proofs.ReadAs.{as_add_up, none_as}

-- before anything is read
pub read_nothing : (reading : Reading) (left : Option (List ℕ)) → HasRead reading left left [] 0 []
read_nothing reading None = tt
read_nothing reading (Some bytes) = record { front = []; are = refl; is = none_as reading; parts = refl; feeds = count_none; whole = no_cut; begins = inl refl }

-- a text that begins a line does so with more behind it
pub begins_longer : (back more : List ℕ) → BeginsLine back → BeginsLine (back ++ more)
begins_longer [] more b = absurd (omega (arith, b.some))
begins_longer (c ∷ back) more b = record { some = omega arith; is = b.is }

seam_longer : (front back more : List ℕ) → IsSeam front back → IsSeam front (back ++ more)
seam_longer front back more s = record { whole = s.whole; line = begins_longer back more s.line }

-- the lines of a window begin as what there was before it
pub begins_lines : (old new : Option (List ℕ)) (was lines rest : List ℕ) → Fills old new was (lines ++ rest) → 0 < length lines → BeginsLine was → BeginsLine lines
begins_lines old new [] lines rest f some b = absurd (omega (arith, b.some))
begins_lines old new (c ∷ was) [] rest f some b = absurd (omega (arith, some))
begins_lines old new (c ∷ was) (d ∷ lines) rest f some b = let same : d ≡ c = cc f.2 in record { some = omega arith; is = ap is_line_end same ∙ b.is }

module _ (reading : Reading) (bytes old new was lines rest more : List ℕ) (records : Table) (feeds : ℕ) (read : AreRead reading bytes old records feeds was) (took : old ≡ more ++ new) (text : lines ++ rest ≡ was ++ more) where
  -- what was there and what is left, as it is now
  left_is : was ++ old ≡ lines ++ (rest ++ new)
  left_is = ap (λ (l : List ℕ). was ++ l) took ∙ (sym (append_assoc was more new) ∙ (ap (λ (l : List ℕ). l ++ new) (sym text) ∙ append_assoc lines rest new))

  bytes_are : bytes ≡ (read.front ++ lines) ++ (rest ++ new)
  bytes_are = read.are ∙ (ap (λ (l : List ℕ). read.front ++ l) left_is ∙ sym (append_assoc read.front lines (rest ++ new)))

  parts_are : records_as reading bytes ≡ records ++ records_as reading (lines ++ (rest ++ new))
  parts_are = read.parts ∙ ap (λ (l : List ℕ). records ++ records_as reading l) left_is

  -- the front and the lines behind it: the records of both, and the end outside quotes
  front_is : (BeginsLine was → BeginsLine lines) → IsSeam lines rest → (records_as reading (read.front ++ lines) ≡ records ++ records_as reading lines) × IsCut (read.front ++ lines)
  front_is line seam = elim read.begins [
    | inl none ↦
        let before : records ≡ [] = sym read.is ∙ (ap (records_as reading) none ∙ none_as reading) in (
          ap (λ (l : List ℕ). records_as reading (l ++ lines)) none ∙ ap (λ (l : Table). l ++ records_as reading lines) (sym before),
          subst (λ (l : List ℕ). IsCut (l ++ lines)) (sym none) seam.whole,
        )
    | inr begun ↦ (
      as_add_up reading read.front lines (record { whole = read.whole; line = line begun }) ∙ ap (λ (l : Table). l ++ records_as reading lines) read.is,
      cut_append read.front lines read.whole (line begun) seam.whole,
    )
  ]

  more_read : (BeginsLine was → BeginsLine lines) → IsSeam lines rest → AreRead reading bytes new (records ++ records_as reading lines) (feeds + count_feeds lines) rest
  more_read line seam = record {
    front = read.front ++ lines;
    are = bytes_are;
    is = (front_is line seam).0;
    parts = parts_are ∙ (ap (λ (l : Table). records ++ l) (as_add_up reading lines (rest ++ new) (seam_longer lines rest new seam)) ∙ sym (append_assoc records (records_as reading lines) (records_as reading (rest ++ new))));
    feeds = count_append read.front lines ∙ ap (λ n. n + count_feeds lines) read.feeds;
    whole = (front_is line seam).1;
    begins = inr seam.line;
  }

  all_read : rest ≡ [] → new ≡ [] → records_as reading bytes ≡ records ++ records_as reading lines
  all_read none end =
      let nothing : rest ++ new ≡ [] = cc (none, end) in
      parts_are ∙ ap (λ (l : List ℕ). records ++ records_as reading l) (ap (λ (l : List ℕ). lines ++ l) nothing ∙ append-nil lines)

-- a window that was filled
pub filled : (reading : Reading) (from old new : Option (List ℕ)) (was lines rest : List ℕ) (records : Table) (feeds : ℕ) (is_last : Bool) → HasRead reading from old records feeds was → Fills old new was (lines ++ rest)
    → (is_last ≡ true → (rest ≡ []) × IsAtEnd new) → (is_last ≡ false → IsSeam lines rest) → (BeginsLine was → BeginsLine lines)
    → Reaches reading from new (records ++ records_as reading lines) (feeds + count_feeds lines) rest is_last
filled reading None old new was lines rest records feeds is_last read f last seam line = record { all = λ _. tt; more = λ _. tt }
filled reading (Some bytes) None new was lines rest records feeds is_last read f last seam line = absurd read
filled reading (Some bytes) (Some old) None was lines rest records feeds is_last read f last seam line = absurd f.1
filled reading (Some bytes) (Some old) (Some new) was lines rest records feeds is_last read f last seam line = record {
  all = λ e. all_read reading bytes old new was lines rest f.0 records feeds read f.1 f.2 (last e).0 (last e).1;
  more = λ e. more_read reading bytes old new was lines rest f.0 records feeds read f.1 f.2 line (seam e);
}

-- a window that begins with a record that is too long
pub long_read : (reading : Reading) (from old new : Option (List ℕ)) (was text : List ℕ) (plan : NamedPlan) (records : Table) (feeds row : ℕ) (place : Place) → (records ≡ []) ⊎ (outcome plan records ≡ IsTable) → HasRead reading from old records feeds was
    → length records ≡ row → Fills old new was text → IsLong text → IsPlaceOfLong text feeds place → IfSome from (λ bytes. PlacesLong (of_text reading) plan bytes row place.line (string_bytes place.quote))
long_read reading None old new was text plan records feeds row place whole read number f long is = tt
long_read reading (Some bytes) None new was text plan records feeds row place whole read number f long is = absurd read
long_read reading (Some bytes) (Some old) None was text plan records feeds row place whole read number f long is = absurd f.1
long_read reading (Some bytes) (Some old) (Some new) was text plan records feeds row place whole read number f long is =
    let left : was ++ old ≡ text ++ new = ap (λ (l : List ℕ). was ++ l) f.1 ∙ (sym (append_assoc was f.0 new) ∙ ap (λ (l : List ℕ). l ++ new) (sym f.2)) in
    let body = strip_bom text in
    let here : is.at + 0 ≡ is.at = omega arith in
    record {
      has = record {
        front = read.front;
        begun = text;
        back = new;
        are = read.are ∙ ap (λ (l : List ℕ). read.front ++ l) left;
        before = records;
        number = number;
        parts = read.parts ∙ ap (λ (l : List ℕ). records ++ records_as reading l) left;
        long = long;
        whole = whole;
      };
      ends = take is.at body;
      begun = drop is.at body;
      are = sym (take-append-drop is.at body);
      are_ends = all_ends body is.at is.ends;
      other = ap is_line_end (get_or-drop is.at body 0 0 ∙ ap (slice_index body) here) ∙ is.other;
      line = is.line ∙ ap (λ (n : ℕ). n + count_feeds (take is.at body) + 1) (sym read.feeds);
      says = is.says;
    }

-- ---- what the filling of a window came to

pub is_filled : (old new : Option (List ℕ)) (was now : Stretch) (r : Result Bool WindowAnswer) → OnOk r (now.header ≡ was.header) → OnOk r (now.reading ≡ was.reading) → OnOk r (Fills old new was.rest (now.lines ++ now.rest))
    → IfOk r (λ last. last ≡ true → (now.rest ≡ []) × IsAtEnd new) → IfOk r (λ last. last ≡ false → IsSeam now.lines now.rest × (0 < length now.lines)) → IfOk r (IsFilled old new was now)
is_filled old new was now (Err why) header reading reads last seam = tt
is_filled old new was now (Ok is_last) header reading reads last seam = record {
  like = record { header = header; reading = reading };
  reads = reads;
  last = last;
  seam = λ more. (seam more).0;
  line = λ begins. begins_lines old new was.rest now.lines now.rest reads (some is_last last seam begins) begins;
}
  where
    some : (is_last : Bool) → (is_last ≡ true → (now.rest ≡ []) × IsAtEnd new) → (is_last ≡ false → IsSeam now.lines now.rest × (0 < length now.lines)) → BeginsLine was.rest → 0 < length now.lines
    some false last seam begins = (seam refl).1
    some true last seam begins = omega (arith, ap length (last refl).0, ap length reads.2, length-append now.lines now.rest, length-append was.rest reads.0, begins.some)

pub is_not_filled : (old new : Option (List ℕ)) (old_faults new_faults : ℕ) (was now : Stretch) (r : Result Bool WindowAnswer) → (r ≡ Err answer.ReadFault → Rose old_faults new_faults)
    → (r ≡ Err answer.LongRecord → IsLongWindow old new was now) → IfErr r (IsNotFilled old new old_faults new_faults was now)
is_not_filled old new old_faults new_faults was now (Ok is_last) fault long = tt
is_not_filled old new old_faults new_faults was now (Err answer.ReadFault) fault long = fault refl
is_not_filled old new old_faults new_faults was now (Err answer.LongRecord) fault long = long refl
is_not_filled old new old_faults new_faults was now (Err answer.Memory) fault long = tt

module _ (old new : Option (List ℕ)) (old_faults new_faults : ℕ) (was now : Stretch) where
  -- What the reason says if this many records and line feeds come before the window. If a record is too long, what was read of
  -- it is its rest now, and these are the line feeds that the reason was made with
  pub window_tells : (reading : Reading) (query : Query) (from : Option (List ℕ)) (records : Table) (feeds given row : ℕ) (text : List ℕ) (why : WindowAnswer) (said : Stop) → (records ≡ []) ⊎ (outcome query.plan records ≡ IsTable)
      → HasRead reading from old records feeds was.rest → length records ≡ row → (why ≡ answer.LongRecord → given ≡ feeds) → text ≡ now.rest → IsNotFilled old new old_faults new_faults was now why
      → IsStopOfWindow why row given text said → Tells (of_text reading) query from said
  window_tells reading query from records feeds given row text answer.ReadFault said whole read number same rest is stop_is = subst (Tells (of_text reading) query from) (sym stop_is) tt
  window_tells reading query from records feeds given row text answer.Memory said whole read number same rest is stop_is = subst (Tells (of_text reading) query from) (sym stop_is) tt
  window_tells reading query from records feeds given row text answer.LongRecord said whole read number same rest is stop_is = elim stop_is [
    | inl long ↦
        let says = long.3 in
        let place = says.place in
        let there : IsPlaceOfLong now.rest feeds place = subst (λ (n : ℕ). IsPlaceOfLong now.rest n place) (same refl) (subst (λ (t : List ℕ). IsPlaceOfLong t given place) rest says.is) in
        let places = long_read reading from old new was.rest now.rest query.plan records feeds row place whole read number is.reads is.long there in
        subst (Tells (of_text reading) query from) (sym long.2) (record {
          quote = string_bytes place.quote;
          says = says.says;
          places = subst (λ (n : ℕ). IfSome from (λ bytes. PlacesLong (of_text reading) query.plan bytes row n (string_bytes place.quote))) (sym says.line) places;
        })
    | inr memory ↦ subst (Tells (of_text reading) query from) (sym memory) tt
  ]

  -- if it is a read that failed
  pub window_fault : (row feeds : ℕ) (text : List ℕ) (why : WindowAnswer) (said : Stop) → IsNotFilled old new old_faults new_faults was now why → IsStopOfWindow why row feeds text said → said ≡ stop.ReadFault → Rose old_faults new_faults
  window_fault row feeds text answer.ReadFault said is stop_is e = is
  window_fault row feeds text answer.Memory said is stop_is e = let bad : stop.Memory ≡ stop.ReadFault = sym stop_is ∙ e in cc bad
  window_fault row feeds text answer.LongRecord said is stop_is e = elim stop_is [
    | inl long ↦ let bad : stop.LongRecord row long.0 long.1 ≡ stop.ReadFault = sym long.2 ∙ e in cc bad
    | inr memory ↦ let bad : stop.Memory ≡ stop.ReadFault = sym memory ∙ e in cc bad
  ]

pub window_no_write : (row feeds : ℕ) (text : List ℕ) (why : WindowAnswer) (said : Stop) → IsStopOfWindow why row feeds text said → said ≡ stop.WriteFault → ⊥
window_no_write row feeds text answer.ReadFault said stop_is e = let bad : stop.ReadFault ≡ stop.WriteFault = sym stop_is ∙ e in cc bad
window_no_write row feeds text answer.Memory said stop_is e = let bad : stop.Memory ≡ stop.WriteFault = sym stop_is ∙ e in cc bad
window_no_write row feeds text answer.LongRecord said stop_is e = elim stop_is [
  | inl long ↦ let bad : stop.LongRecord row long.0 long.1 ≡ stop.WriteFault = sym long.2 ∙ e in cc bad
  | inr memory ↦ let bad : stop.Memory ≡ stop.WriteFault = sym memory ∙ e in cc bad
]
