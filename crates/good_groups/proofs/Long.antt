-- A line that is too long.
use Rattle.std.proofs.Common.{◌≡◌, ◌<◌, ◌+◌, ◌⊎◌, inr, ℕ, List, [], ◌∷◌, Option, None, Some, IfSome, ap, append-nil, arith, length, refl, subst, sym}
use Rattle.std.specs.Io.KnownBytes.{Consumes, prepend_known}
use Rattle.par_model.specs.Plan.{Plan}
use Rattle.par_model.specs.Refuse.{refused_rows}
use Rattle.row_windows.specs.Seams.{IsLong, NoCut}
use Rattle.row_windows.specs.Stretch.{IsLongWindow, Stretch}
use Rattle.row_windows.specs.declared.window.TheConstants.{MOST_RECORD_BYTES}
use Rattle.row_windows.specs.declared.window.WindowAnswer.TheVariants as window
use Rattle.row_windows.proofs.Cuts.{no-cut}
use Rattle.text_lines.proofs.Parts.{no_mark}
use Rattle.stream_groups.specs.Reading.{HasRead}
use Rattle.stream_groups.specs.Stops.{IsStopOfLong, Tells}
use Rattle.stream_groups.specs.Ways.{of_text}
use Rattle.stream_groups.specs.declared.stop.Stop.{Stop}
use Rattle.stream_groups.specs.declared.stop.Stop.TheVariants as stop
use Rattle.stream_groups.proofs.Refusals.{accepted_table}
use Rattle.stream_groups.proofs.Windows.{window_tells}
use Rattle.good_groups.specs.Counted.{AreRules, IsFirst}
use Rattle.good_groups.specs.Good.{HasNoTable, refused_records}
use Rattle.good_groups.specs.Opened.{Opened}
use Rattle.good_groups.specs.Sifting.{IsOpen}
use Rattle.good_groups.specs.declared.sifter.Rules.{Rules}
use Rattle.good_groups.specs.declared.sifter.Sifter.{Sifter}
use Rattle.good_groups.proofs.Counting.{all_accepted}

consumes_none : (left : Option (List ℕ)) → Consumes left left []
consumes_none None = tt
consumes_none (Some xs) = refl

module _ (o : Opened) (r : Rules) (left : Option (List ℕ)) (s : Sifter) (are : AreRules o r) (is : IsOpen o left r s) (long : MOST_RECORD_BYTES < length s.line.items) where
  is_long : IsLong s.line.items
  is_long = record { long = long; no_cut = subst NoCut (sym (no_mark s.line.items is.begun.begins)) (no-cut s.line.items is.begun.one) }

  -- after the rows that were counted a record is too long
  pub long_after : IfSome o.from (HasNoTable (of_text o.query.reading) o.query o.most)
  long_after = go o.from (prepend_known s.pending left) is.read
    where
      same : refused_records o.query (o.header ∷ is.rows) ≡ refused_rows r.bound.now (length o.header) is.rows
      same = ap (λ (p : Plan). refused_rows p (length o.header) is.rows) (sym are.bound.is)

      go : (from old : Option (List ℕ)) → HasRead o.query.reading from old (o.header ∷ is.rows) s.tally.feeds s.line.items
          → IfSome from (HasNoTable (of_text o.query.reading) o.query o.most)
      go None old read = tt
      go (Some bytes) None read = absurd read
      go (Some bytes) (Some back) read = inr (record {
        front = read.front;
        begun = s.line.items;
        back = back;
        are = read.are;
        before = o.header ∷ is.rows;
        parts = read.parts;
        few = omega (arith, ap length same, is.counted.count, is.counted.most);
        long = is_long;
      })

  abbrev w : Stretch
  w = record { reading = r.plan.now.reading; header = r.header.now; lines = []; rest = s.line.items }

  -- if no row before it is refused, it is so told
  pub long_tells : s.tally.first ≡ None → (why : Stop) → IsStopOfLong (s.tally.rows + 1) s.tally.feeds s.line.items why ⊎ (why ≡ stop.Memory) → Tells (of_text o.query.reading) o.query o.from why
  long_tells none why stops =
      let old = prepend_known s.pending left in
      let accepted : refused_rows r.bound.now (length o.header) is.rows ≡ [] = subst (IsFirst o r.bound.now is.rows) none is.counted.first in
      let table = accepted_table o.query o.header r.bound.now are.bound is.rows (all_accepted r.bound.now (length o.header) is.rows accepted) in
      let size : length (o.header ∷ is.rows) ≡ s.tally.rows + 1 = omega (arith, is.counted.number) in
      let is_window : IsLongWindow old old w w = record { reading = refl; header = refl; lines = refl; reads = ([], consumes_none old, sym (append-nil s.line.items)); long = is_long } in
      window_tells old old 0 0 w w o.query.reading o.query o.from (o.header ∷ is.rows) s.tally.feeds s.tally.feeds (s.tally.rows + 1) s.line.items window.LongRecord why (inr table) is.read size (λ e. refl) refl is_window stops
