use Rattle.std.proofs.Common.{inl, ◌≡◌, ◌<◌, ◌+◌, ◌++◌, ◌∷◌, ◌∙◌, rules, arith, [], ℕ, List, Err, ap, length, refl, subst, sym}
use Rattle.std.proofs.lemmas.Result.{IfErr-weaker, IfOk-weaker}
use Rattle.csv_rows.specs.Readings.{records_as}
use Rattle.csv_rows.specs.Records.{record_at}
use Rattle.csv_rows.specs.declared.cleaning.Reading.{Reading}
use Rattle.par_io.specs.Faults.{Rose}
use Rattle.row_blocks.specs.Blocks.{Table}
use Rattle.row_windows.specs.Stretch.{Stretch}
use Rattle.row_windows.specs.declared.window.TheConstants.{MOST_RECORD_BYTES}
use Rattle.split_run.specs.Pieces.{piece_records}
use Rattle.text_lines.specs.Feeds.{count_feeds}
use Rattle.text_lines.proofs.Counts.{count_append}
use Rattle.stream_groups.specs.Before.{IsLostBatch}
use Rattle.stream_groups.specs.Begins.{IsLined}
use Rattle.stream_groups.specs.Reading.{HasAll, HasHeader, HasPart, HasRead, Reaches}
use Rattle.stream_groups.specs.Stops.{Tells}
use Rattle.stream_groups.specs.Ways.{of_text}
use Rattle.stream_groups.specs.declared.stop.Stop.TheVariants as stop
use Rattle.stream_groups.proofs.Before.{lost_window, read_before, window_fault_is}
use Rattle.stream_groups.proofs.Refusals.{none_tells}
use Rattle.stream_groups.proofs.Streams.{first_has, first_header, first_part, parted_begins}
use Rattle.stream_groups.proofs.Takes.{takes_none, takes_then}
use Rattle.stream_groups.proofs.Windows.{filled, read_nothing, window_fault, window_no_write, window_tells}
use Rattle.stream_groups.proofs.filling.first_window.Goals as goal

pub loop-init : goal.loop-init
loop-init g c =
    let left = g.S.Source.left c.args.source.now in
    let reading = c.args.reading.now in
    record {
      can_next = tt;
      finite = tt;
      reading_is = c.new-window.ensures.reading;
      header = c.new-window.ensures.header;
      lines = c.new-window.ensures.lines;
      read = subst (HasRead reading left left [] 0) (sym c.new-window.ensures.rest) (read_nothing reading left);
      few = omega arith;
      faults = omega arith;
      taken = takes_none left (g.S.Source.faults c.args.source.now) c.args.taken.now;
    }

-- ---- a window that was not filled

pub returns-in-Err-clause-why : goal.returns-in-Err-clause-why
returns-in-Err-clause-why g c =
    let old = c.loop.source in
    let new = c.fill.new.source in
    λ query. window_tells (g.S.Source.left old) (g.S.Source.left new) (g.S.Source.faults old) (g.S.Source.faults new) c.loop.window c.fill.new.window c.args.reading.now query (g.S.Source.left c.args.source.now) [] c.loop.feeds c.loop.feeds 0
    c.rest.result.now c.in-Err.why c.stop_of_window.result (inl refl) c.loop.invariant.read refl (λ _. refl) c.rest.ensures c.in-Err.ensures.why c.stop_of_window.ensures

pub returns-in-Err-clause-read_fault : goal.returns-in-Err-clause-read_fault
returns-in-Err-clause-read_fault g c = λ e.
    let old = c.loop.source in
    let new = c.fill.new.source in
    let rose : Rose (g.S.Source.faults old) (g.S.Source.faults new) =
    window_fault (g.S.Source.left old) (g.S.Source.left new) (g.S.Source.faults old) (g.S.Source.faults new) c.loop.window c.fill.new.window 0 c.loop.feeds c.rest.result.now c.in-Err.why c.stop_of_window.result c.in-Err.ensures.why
    c.stop_of_window.ensures e in
    search rules

pub returns-in-Err-clause-read_before : goal.returns-in-Err-clause-read_before
returns-in-Err-clause-read_before g c = λ e query.
    let from = g.S.Source.left c.args.source.now in
    let old = g.S.Source.left c.loop.source in
    let new = g.S.Source.left c.fill.new.source in
    let fault = window_fault_is 0 c.loop.feeds c.rest.result.now c.in-Err.why c.stop_of_window.result c.stop_of_window.ensures e in
    let lost : IsLostBatch old new c.loop.window.rest (MOST_RECORD_BYTES + 1) = lost_window old new c.loop.window (c.in-Err.ensures.lost (ap Err fault)) in
    read_before c.args.reading.now query from old new [] c.loop.feeds c.loop.window.rest (MOST_RECORD_BYTES + 1) c.loop.invariant.read lost (inl refl)

pub returns-in-Err-clause-no_write : goal.returns-in-Err-clause-no_write
returns-in-Err-clause-no_write g c = window_no_write 0 c.loop.feeds c.rest.result.now c.in-Err.why c.stop_of_window.result c.stop_of_window.ensures

-- ---- the first one with a record

pub returns-in-Ok-part_header-clause-header : goal.returns-in-Ok-part_header-clause-header
returns-in-Ok-part_header-clause-header g c =
    let now = c.part_header.new.window in
    let header = c.in-Ok-part_header.header in
    let parted = c.in-Ok-part_header.ensures in
    let is : HasHeader header now c.in-Ok.is_last =
    first_header c.fill.new.window.reading header parted.first.0 c.fill.new.window now c.in-Ok.is_last c.part_header.ensures.reading parted.one parted.record parted.first.1 parted.same parted.cut parted.rest c.in-Ok.ensures.filled.seam in
    IfOk-weaker c.first_of.result _ _ (λ f first. first_has (λ w h last _. HasHeader h w last) now header c.in-Ok.is_last c.loop.feeds f first is) c.first_of.ensures.first

pub returns-in-Ok-part_header-clause-reaches : goal.returns-in-Ok-part_header-clause-reaches
returns-in-Ok-part_header-clause-reaches g c =
    let from = g.S.Source.left c.args.source.now in
    let old = g.S.Source.left c.loop.source in
    let new = g.S.Source.left c.fill.new.source in
    let full = c.fill.new.window in
    let now = c.part_header.new.window in
    let last = c.in-Ok.is_last in
    let f = c.in-Ok.ensures.filled in
    let parted = c.in-Ok-part_header.ensures in
    let reading = c.args.reading.now in
    let now_so : now.reading ≡ reading = c.part_header.ensures.reading ∙ (f.like.reading ∙ c.loop.invariant.reading_is) in
    let reaches : Reaches reading from new (records_as reading full.lines) (c.loop.feeds + count_feeds full.lines) full.rest last =
    filled reading from old new c.loop.window.rest full.lines full.rest [] c.loop.feeds last c.loop.invariant.read f.reads f.last f.seam f.line in
    let count : c.loop.feeds + count_feeds full.lines ≡ (c.loop.feeds + count_feeds now.header) + count_feeds now.lines = omega (arith, ap count_feeds parted.same, count_append now.header now.lines) in
    let here : Reaches reading from new (piece_records now) ((c.loop.feeds + count_feeds now.header) + count_feeds now.lines) now.rest last =
    subst (λ (rest : List ℕ). Reaches reading from new (piece_records now) ((c.loop.feeds + count_feeds now.header) + count_feeds now.lines) rest last) (sym parted.rest)
    (subst (λ (n : ℕ). Reaches reading from new (piece_records now) n full.rest last) count
    (subst (λ (r : Reading). Reaches reading from new (records_as r (now.header ++ now.lines)) (c.loop.feeds + count_feeds full.lines) full.rest last) (sym now_so)
    (subst (λ (text : List ℕ). Reaches reading from new (records_as reading text) (c.loop.feeds + count_feeds full.lines) full.rest last) (sym parted.same) reaches))) in
    IfOk-weaker c.first_of.result _ _ (λ f first.
    first_has (λ w _ last feeds. Reaches reading from new (piece_records w) (feeds + count_feeds w.lines) w.rest last) now c.in-Ok-part_header.header last c.loop.feeds f first here) c.first_of.ensures.first

pub returns-in-Ok-part_header-clause-part : goal.returns-in-Ok-part_header-clause-part
returns-in-Ok-part_header-clause-part g c =
    let from = g.S.Source.left c.args.source.now in
    let old = g.S.Source.left c.loop.source in
    let new = g.S.Source.left c.fill.new.source in
    let full = c.fill.new.window in
    let now = c.part_header.new.window in
    let header = c.in-Ok-part_header.header in
    let f = c.in-Ok.ensures.filled in
    let parted = c.in-Ok-part_header.ensures in
    let reading = c.args.reading.now in
    let so : full.reading ≡ reading = f.like.reading ∙ c.loop.invariant.reading_is in
    let record_is : header ≡ records_as reading now.header = parted.record ∙ ap (λ (r : Reading). records_as r now.header) so in
    let here : 0 < length now.lines → HasPart reading from new (record_at header 0 ∷ []) (c.loop.feeds + count_feeds now.header) (now ∷ []) now.rest = λ some.
    first_part reading header c.loop.window full now c.loop.feeds parted.one record_is parted.same parted.rest f.line (parted.front some) (parted_begins full.reading now parted.lined some) from old new c.in-Ok.is_last c.loop.invariant.read f.reads f.last f.seam in
    IfOk-weaker c.first_of.result _ _ (λ f first.
    first_has (λ w h _ feeds. 0 < length w.lines → HasPart reading from new (record_at h 0 ∷ []) feeds (w ∷ []) w.rest) now header c.in-Ok.is_last c.loop.feeds f first here) c.first_of.ensures.first

pub returns-in-Ok-part_header-clause-lined : goal.returns-in-Ok-part_header-clause-lined
returns-in-Ok-part_header-clause-lined g c =
    let reading = c.args.reading.now in
    let now = c.part_header.new.window in
    let so : c.fill.new.window.reading ≡ reading = c.in-Ok.ensures.filled.like.reading ∙ c.loop.invariant.reading_is in
    let lined : IsLined reading now = subst (λ (r : Reading). IsLined r now) so c.in-Ok-part_header.ensures.lined in
    IfOk-weaker c.first_of.result _ _ (λ f first. first_has (λ w _ _ _. IsLined reading w) now c.in-Ok-part_header.header c.in-Ok.is_last c.loop.feeds f first lined) c.first_of.ensures.first

pub returns-in-Ok-part_header-clause-reading : goal.returns-in-Ok-part_header-clause-reading
returns-in-Ok-part_header-clause-reading g c =
    let reading = c.args.reading.now in
    let now = c.part_header.new.window in
    let so : now.reading ≡ reading = c.part_header.ensures.reading ∙ (c.in-Ok.ensures.filled.like.reading ∙ c.loop.invariant.reading_is) in
    IfOk-weaker c.first_of.result _ _ (λ f first. first_has (λ w _ _ _. w.reading ≡ reading) now c.in-Ok-part_header.header c.in-Ok.is_last c.loop.feeds f first so) c.first_of.ensures.first

pub returns-in-Ok-part_header-clause-few : goal.returns-in-Ok-part_header-clause-few
returns-in-Ok-part_header-clause-few g c = IfOk-weaker c.first_of.result _ _ (λ f first. first.few) c.first_of.ensures.first

pub returns-in-Ok-part_header-clause-why : goal.returns-in-Ok-part_header-clause-why
returns-in-Ok-part_header-clause-why g c =
    let from = g.S.Source.left c.args.source.now in
    IfErr-weaker c.first_of.result _ _ (λ why memory query. subst (Tells (of_text c.args.reading.now) query from) (sym memory) tt) c.first_of.ensures.why

pub returns-in-Ok-part_header-clause-read_fault : goal.returns-in-Ok-part_header-clause-read_fault
returns-in-Ok-part_header-clause-read_fault g c =
    IfErr-weaker c.first_of.result _ _ (λ why memory e. let bad : stop.Memory ≡ stop.ReadFault = sym memory ∙ e in cc bad) c.first_of.ensures.why

pub returns-in-Ok-part_header-clause-no_write : goal.returns-in-Ok-part_header-clause-no_write
returns-in-Ok-part_header-clause-no_write g c =
    IfErr-weaker c.first_of.result _ _ (λ why memory e. let bad : stop.Memory ≡ stop.WriteFault = sym memory ∙ e in cc bad) c.first_of.ensures.why

pub returns-in-Ok-part_header-clause-end : goal.returns-in-Ok-part_header-clause-end
returns-in-Ok-part_header-clause-end g c =
    IfOk-weaker c.first_of.result _ _ (λ f first last. (c.in-Ok.ensures.filled.last (sym first.last ∙ last)).1) c.first_of.ensures.first

pub returns-in-Ok-part_header-clause-read_before : goal.returns-in-Ok-part_header-clause-read_before
returns-in-Ok-part_header-clause-read_before g c =
    IfErr-weaker c.first_of.result _ _ (λ why memory e. let bad : stop.Memory ≡ stop.ReadFault = sym memory ∙ e in cc bad) c.first_of.ensures.why

-- ---- one without a record

pub returns-in-Err-NoHeader-clause-why : goal.returns-in-Err-NoHeader-clause-why
returns-in-Err-NoHeader-clause-why g c =
    let from = g.S.Source.left c.args.source.now in
    let old = g.S.Source.left c.loop.source in
    let new = g.S.Source.left c.fill.new.source in
    let full = c.fill.new.window in
    let f = c.in-Ok.ensures.filled in
    let reading = c.args.reading.now in
    let so : full.reading ≡ reading = f.like.reading ∙ c.loop.invariant.reading_is in
    let none : records_as reading full.lines ≡ [] = ap (λ (r : Reading). records_as r full.lines) (sym so) ∙ c.in-Err-NoHeader.ensures.no_header (ap Err c.in-Err-NoHeader.field-0-is) in
    let reaches : Reaches reading from new (records_as reading full.lines) (c.loop.feeds + count_feeds full.lines) full.rest c.in-Ok.is_last =
    filled reading from old new c.loop.window.rest full.lines full.rest [] c.loop.feeds c.in-Ok.is_last c.loop.invariant.read f.reads f.last f.seam f.line in
    let all : HasAll reading from [] = subst (HasAll reading from) none (reaches.all c.if-is_last.true) in
    λ query. none_tells reading query from all

pub loop-preserved : goal.loop-preserved
loop-preserved g c =
    let from = g.S.Source.left c.args.source.now in
    let old = g.S.Source.left c.loop.source in
    let new = g.S.Source.left c.fill.new.source in
    let full = c.fill.new.window in
    let f = c.in-Ok.ensures.filled in
    let same = c.in-Err-NoHeader.ensures.err in
    let next = c.in_ok-window.ensures in
    let feeds : c.in_ok-feeds.feeds ≡ c.loop.feeds + count_feeds full.lines =
    c.in_ok-feeds.ensures.more ∙ ap (λ (l : List ℕ). c.loop.feeds + count_feeds l) (c.lines.ensures ∙ ap (λ (w : Stretch). w.lines) same) in
    let reading = c.args.reading.now in
    let so : full.reading ≡ reading = f.like.reading ∙ c.loop.invariant.reading_is in
    let none : records_as reading full.lines ≡ [] = ap (λ (r : Reading). records_as r full.lines) (sym so) ∙ c.in-Err-NoHeader.ensures.no_header (ap Err c.in-Err-NoHeader.field-0-is) in
    let reaches : Reaches reading from new (records_as reading full.lines) (c.loop.feeds + count_feeds full.lines) full.rest c.in-Ok.is_last =
    filled reading from old new c.loop.window.rest full.lines full.rest [] c.loop.feeds c.in-Ok.is_last c.loop.invariant.read f.reads f.last f.seam f.line in
    let read : HasRead reading from new [] (c.loop.feeds + count_feeds full.lines) full.rest = subst (λ (l : Table). HasRead reading from new l (c.loop.feeds + count_feeds full.lines) full.rest) none (reaches.more c.if-is_last.false) in
    let header : c.in_ok-window.window.header ≡ [] = next.like.header ∙ (ap (λ (w : Stretch). w.header) same ∙ (f.like.header ∙ c.loop.invariant.header)) in
    let next_so : c.in_ok-window.window.reading ≡ reading = next.like.reading ∙ (ap (λ (w : Stretch). w.reading) same ∙ so) in
    let rest : c.in_ok-window.window.rest ≡ full.rest = next.rest ∙ ap (λ (w : Stretch). w.rest) same in
    let left : HasRead reading from new [] c.in_ok-feeds.feeds c.in_ok-window.window.rest = subst (HasRead reading from new [] c.in_ok-feeds.feeds) (sym rest) (subst (λ (n : ℕ). HasRead reading from new [] n full.rest) (sym feeds) read) in
    record {
      can_next = tt;
      finite = tt;
      reading_is = next_so;
      header = header;
      lines = next.lines;
      read = left;
      few = c.in_ok-feeds.ensures.few;
      faults = omega (arith, c.loop.invariant.faults, c.in-Ok.ensures.faults);
      taken = takes_then (g.S.Source.left c.args.source.now) (g.S.Source.left c.loop.source) (g.S.Source.left c.fill.new.source) (g.S.Source.faults c.args.source.now) (g.S.Source.faults c.loop.source) (g.S.Source.faults c.fill.new.source) c.args.taken.now c.loop.taken c.fill.new.taken
          c.loop.invariant.taken c.fill.ensures.taken;
    }

-- ---- what the source gave

pub returns-in-Err-clause-taken : goal.returns-in-Err-clause-taken
returns-in-Err-clause-taken g c =
    takes_then (g.S.Source.left c.args.source.now) (g.S.Source.left c.loop.source) (g.S.Source.left c.fill.new.source) (g.S.Source.faults c.args.source.now) (g.S.Source.faults c.loop.source) (g.S.Source.faults c.fill.new.source) c.args.taken.now c.loop.taken c.fill.new.taken
    c.loop.invariant.taken c.fill.ensures.taken

pub returns-in-Ok-part_header-clause-taken : goal.returns-in-Ok-part_header-clause-taken
returns-in-Ok-part_header-clause-taken g c =
    takes_then (g.S.Source.left c.args.source.now) (g.S.Source.left c.loop.source) (g.S.Source.left c.fill.new.source) (g.S.Source.faults c.args.source.now) (g.S.Source.faults c.loop.source) (g.S.Source.faults c.fill.new.source) c.args.taken.now c.loop.taken c.fill.new.taken
    c.loop.invariant.taken c.fill.ensures.taken

pub returns-in-Err-NoHeader-clause-taken : goal.returns-in-Err-NoHeader-clause-taken
returns-in-Err-NoHeader-clause-taken g c =
    takes_then (g.S.Source.left c.args.source.now) (g.S.Source.left c.loop.source) (g.S.Source.left c.fill.new.source) (g.S.Source.faults c.args.source.now) (g.S.Source.faults c.loop.source) (g.S.Source.faults c.fill.new.source) c.args.taken.now c.loop.taken c.fill.new.taken
    c.loop.invariant.taken c.fill.ensures.taken

pub returns-in-Err-part_header-clause-taken : goal.returns-in-Err-part_header-clause-taken
returns-in-Err-part_header-clause-taken g c =
    takes_then (g.S.Source.left c.args.source.now) (g.S.Source.left c.loop.source) (g.S.Source.left c.fill.new.source) (g.S.Source.faults c.args.source.now) (g.S.Source.faults c.loop.source) (g.S.Source.faults c.fill.new.source) c.args.taken.now c.loop.taken c.fill.new.taken
    c.loop.invariant.taken c.fill.ensures.taken

pub returns-in_err-feeds-clause-taken : goal.returns-in_err-feeds-clause-taken
returns-in_err-feeds-clause-taken g c =
    takes_then (g.S.Source.left c.args.source.now) (g.S.Source.left c.loop.source) (g.S.Source.left c.fill.new.source) (g.S.Source.faults c.args.source.now) (g.S.Source.faults c.loop.source) (g.S.Source.faults c.fill.new.source) c.args.taken.now c.loop.taken c.fill.new.taken
    c.loop.invariant.taken c.fill.ensures.taken

pub returns-in_err-window-clause-taken : goal.returns-in_err-window-clause-taken
returns-in_err-window-clause-taken g c =
    takes_then (g.S.Source.left c.args.source.now) (g.S.Source.left c.loop.source) (g.S.Source.left c.fill.new.source) (g.S.Source.faults c.args.source.now) (g.S.Source.faults c.loop.source) (g.S.Source.faults c.fill.new.source) c.args.taken.now c.loop.taken c.fill.new.taken
    c.loop.invariant.taken c.fill.ensures.taken
