use Rattle.std.proofs.Common.{[], ◌<◌, ◌+◌, ◌∷◌, ◌≡◌, ◌∙◌, arith, length, rules, subst, sym}
use Rattle.csv_rows.specs.Records.{record_at}
use Rattle.csv_rows.specs.declared.cleaning.Reading.{Reading}
use Rattle.row_windows.specs.declared.window.TheConstants.{MOST_RECORD_BYTES}
use Rattle.split_run.specs.Pieces.{piece_records, piece_rows}
use Rattle.text_lines.specs.Feeds.{count_feeds}
use Rattle.stream_groups.specs.Before.{ReadBefore, most_of_batch}
use Rattle.stream_groups.specs.Begins.{IsLined}
use Rattle.stream_groups.specs.Reading.{Begins, HasPart, Reaches}
use Rattle.stream_groups.specs.Stops.{Tells}
use Rattle.stream_groups.specs.Ways.{of_text}
use Rattle.stream_groups.specs.declared.stop.Stop.TheVariants as stop
use Rattle.stream_groups.proofs.Before.{before_more}
use Rattle.stream_groups.proofs.Refusals.{begins, missing_tells}
use Rattle.stream_groups.proofs.Takes.{takes_then}
use Rattle.stream_groups.proofs.reading.read_groups.Goals as goal

pub returns-in_err-first-clause-why : goal.returns-in_err-first-clause-why
returns-in_err-first-clause-why g c =
    let from = g.S.Source.left c.args.source.now in
    let why = c.in_err-first.field-0.0 in
    let here : Tells (of_text c.args.plan.now.reading) c.args.plan.now from why =
    subst (λ (r : Reading). Tells (of_text r) c.args.plan.now from why) c.reading-reading.ensures.value (c.in_err-first.ensures.why c.args.plan.now) in
    search rules

pub returns-in_err-first-clause-read_before : goal.returns-in_err-first-clause-read_before
returns-in_err-first-clause-read_before g c =
    let query = c.args.plan.now in
    let old = g.S.Source.left c.args.source.now in
    let new = g.S.Source.left c.first_window.new.source in
    let why = c.in_err-first.field-0.0 in
    let here : why ≡ stop.ReadFault → ReadBefore (of_text query.reading) query old new (most_of_batch c.args.size) = λ e.
    before_more (of_text query.reading) query old new (MOST_RECORD_BYTES + 1) (most_of_batch c.args.size) (omega arith)
    (subst (λ (r : Reading). ReadBefore (of_text r) query old new (MOST_RECORD_BYTES + 1)) c.reading-reading.ensures.value (c.in_err-first.ensures.read_before e query)) in
    search rules

pub returns-in_err-bound-clause-why : goal.returns-in_err-bound-clause-why
returns-in_err-bound-clause-why g c =
    let from = g.S.Source.left c.args.source.now in
    let why = c.in_err-bound.field-0.0 in
    let f = c.in_ok-first.first in
    let is = c.in_ok-first.ensures in
    let header = record_at f.header 0 in
    let rows = piece_rows f.window in
    let reading = c.args.plan.now.reading in
    let reaches : Reaches reading from (g.S.Source.left c.first_window.new.source) (piece_records f.window) (f.feeds + count_feeds f.window.lines) f.window.rest f.is_last =
    subst (λ (r : Reading). Reaches r from (g.S.Source.left c.first_window.new.source) (piece_records f.window) (f.feeds + count_feeds f.window.lines) f.window.rest f.is_last) c.reading-reading.ensures.value is.reaches in
    let begun : Begins reading from (header ∷ rows) = subst (Begins reading from) is.header.records (begins reading from (g.S.Source.left c.first_window.new.source) (piece_records f.window) (f.feeds + count_feeds f.window.lines) f.window.rest f.is_last reaches) in
    let here : Tells (of_text reading) c.args.plan.now from why = missing_tells reading c.args.plan.now from (header ∷ rows) why begun (omega arith) c.in_err-bound.ensures.why in
    search rules

pub loop-init : goal.loop-init
loop-init g c =
    let from = g.S.Source.left c.args.source.now in
    let left = g.S.Source.left c.first_window.new.source in
    let first = c.in_ok-first.ensures in
    let made = c.in_ok-stream.ensures in
    let f = c.in_ok-first.first in
    let so = c.reading-reading.ensures.value in
    let reaches : Reaches c.args.plan.now.reading from left (piece_records f.window) (f.feeds + count_feeds f.window.lines) f.window.rest f.is_last =
    subst (λ (r : Reading). Reaches r from left (piece_records f.window) (f.feeds + count_feeds f.window.lines) f.window.rest f.is_last) so first.reaches in
    let part : 0 < length f.window.lines → HasPart c.args.plan.now.reading from left (record_at f.header 0 ∷ []) f.feeds (f.window ∷ []) f.window.rest = λ some.
    subst (λ (r : Reading). HasPart r from left (record_at f.header 0 ∷ []) f.feeds (f.window ∷ []) f.window.rest) so (first.part some) in
    record { can_next = tt; finite = tt; stream = made.stream; rows = ([], made.rows from left reaches part); faults = first.faults; taken = c.first_window.ensures.taken; end = λ e. first.end (sym made.last ∙ e) }

pub returns-in_err-stream-2-clause-why : goal.returns-in_err-stream-2-clause-why
returns-in_err-stream-2-clause-why g c =
    let from = g.S.Source.left c.args.source.now in
    let has = c.loop.invariant.rows in
    let here : Tells (of_text c.args.plan.now.reading) c.args.plan.now from c.in_err-stream-2.field-0.0 = c.in_err-stream-2.ensures.why from has.0 has.1 in
    search rules

pub returns-in_err-stream-2-clause-read_before : goal.returns-in_err-stream-2-clause-read_before
returns-in_err-stream-2-clause-read_before g c =
    let query = c.args.plan.now in
    let from = g.S.Source.left c.args.source.now in
    let new = g.S.Source.left c.next_window.new.source in
    let has = c.loop.invariant.rows in
    let here : c.in_err-stream-2.field-0.0 ≡ stop.ReadFault → ReadBefore (of_text query.reading) query from new (most_of_batch c.args.size) = λ e. c.in_err-stream-2.ensures.read_before e from has.0 has.1 in
    search rules

pub loop-preserved : goal.loop-preserved
loop-preserved g c =
    let from = g.S.Source.left c.args.source.now in
    let has = c.loop.invariant.rows in
    let next = c.in_ok-stream-2.ensures in
    record {
      can_next = tt;
      finite = tt;
      stream = next.stream;
      rows = next.rows from has.0 has.1;
      faults = omega (arith, c.loop.invariant.faults, c.next_window.ensures.faults);
      taken = takes_then from (g.S.Source.left c.loop.source) (g.S.Source.left c.next_window.new.source) (g.S.Source.faults c.args.source.now) (g.S.Source.faults c.loop.source) (g.S.Source.faults c.next_window.new.source) c.args.taken.now c.loop.taken c.next_window.new.taken
          c.loop.invariant.taken c.next_window.ensures.taken;
      end = next.end;
    }

pub returns-in_err-stream-2-clause-taken : goal.returns-in_err-stream-2-clause-taken
returns-in_err-stream-2-clause-taken g c =
    let from = g.S.Source.left c.args.source.now in
    takes_then from (g.S.Source.left c.loop.source) (g.S.Source.left c.next_window.new.source) (g.S.Source.faults c.args.source.now) (g.S.Source.faults c.loop.source) (g.S.Source.faults c.next_window.new.source) c.args.taken.now c.loop.taken c.next_window.new.taken
    c.loop.invariant.taken c.next_window.ensures.taken

-- the first window is read as the plan says
pub open-requires-clause-lined : goal.open-requires-clause-lined
open-requires-clause-lined g c = subst (λ (r : Reading). IsLined r c.in_ok-first.first.window) c.reading-reading.ensures.value c.in_ok-first.ensures.lined
