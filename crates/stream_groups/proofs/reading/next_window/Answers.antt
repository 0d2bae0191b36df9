use Rattle.std.proofs.Common.{inr, ◌≡◌, ◌+◌, ◌++◌, ◌∷◌, ◌∙◌, ℕ, Bool, Err, List, None, Option, Result, IfErr, IfOk, ap, arith, length, rules, subst, sym}
use Rattle.csv_rows.specs.Records.{record_at}
use Rattle.par_model.specs.Named.{bound_plan}
use Rattle.par_model.specs.Plan.{Plan}
use Rattle.row_blocks.specs.Blocks.{Table}
use Rattle.row_windows.specs.declared.window.WindowAnswer.{WindowAnswer}
use Rattle.row_windows.specs.declared.window.WindowAnswer.TheVariants as answer
use Rattle.split_run.specs.Pieces.{rows_of}
use Rattle.stream_groups.specs.Before.{IsLostBatch, most_of_batch}
use Rattle.stream_groups.specs.Reading.{HasRead, HasRows, IsFilledBatch, IsNotFilled}
use Rattle.stream_groups.specs.Stops.{Tells}
use Rattle.stream_groups.specs.Twice.{twice_of}
use Rattle.stream_groups.specs.Ways.{of_text}
use Rattle.stream_groups.proofs.Before.{before_more, read_before, window_fault_is}
use Rattle.stream_groups.proofs.Gathering.{all_accepted}
use Rattle.stream_groups.proofs.Refusals.{accepted_table, begins, have_columns}
use Rattle.stream_groups.proofs.Streams.{next_header, next_part, next_reaches}
use Rattle.stream_groups.proofs.Takes.{takes_none}
use Rattle.stream_groups.proofs.Windows.{window_fault, window_no_write, window_tells}
use Rattle.stream_groups.proofs.reading.next_window.Goals as goal

pub add_and_fill-requires-clause-columns : goal.add_and_fill-requires-clause-columns
add_and_fill-requires-clause-columns g c κs within =
    let s = c.args.stream in
    have_columns c.args.plan.now (record_at s.header 0) c.args.bound.now c.requires.stream.bound s.batch.pieces.items c.requires.stream.batch.pieces

pub add_and_fill-requires-clause-feeds : goal.add_and_fill-requires-clause-feeds
add_and_fill-requires-clause-feeds g c κs within = let b = c.requires.stream.batch in omega (arith, b.counted, b.few_feeds)

pub add_and_fill-requires-clause-start : goal.add_and_fill-requires-clause-start
add_and_fill-requires-clause-start g c κs within = c.in_ok-follow.ensures.feeds ∙ sym c.in_ok-follow.ensures.before

pub add_and_fill-requires-clause-few_feeds : goal.add_and_fill-requires-clause-few_feeds
add_and_fill-requires-clause-few_feeds g c κs within = omega (arith, c.in_ok-follow.ensures.feeds, c.requires.stream.batch.few_feeds)

pub returns-in_err-filled-clause-why : goal.returns-in_err-filled-clause-why
returns-in_err-filled-clause-why g c =
    let s = c.args.stream in
    let old = g.S.Source.left c.args.source.now in
    let header = record_at s.header 0 in
    let here : (from : Option (List ℕ)) (rows : Table) → HasRows c.args.plan.now.reading c.args.bound.now from old s rows → Tells (of_text c.args.plan.now.reading) c.args.plan.now from c.in_err-filled.field-0.0 = λ from rows has.
    c.in_err-filled.ensures.why from old header rows c.requires.stream.bound c.requires.stream.batch.pieces has.added
    (begins c.args.plan.now.reading from old (header ∷ (rows ++ rows_of s.batch.pieces.items)) s.batch.feeds s.batch.next.rest s.is_last has.reaches) has.part in
    search rules

-- ---- the next batch was not filled

pub returns-in-Err-clause-why : goal.returns-in-Err-clause-why
returns-in-Err-clause-why g c =
    let s = c.args.stream in
    let old = g.S.Source.left c.args.source.now in
    let new = g.S.Source.left c.add_and_fill.new.source in
    let header = record_at s.header 0 in
    let was = c.follow.new.self.next in
    let now = c.add_and_fill.new.next in
    let why = c.in-Err.why in
    let old_faults = g.S.Source.faults c.args.source.now in
    let new_faults = g.S.Source.faults c.add_and_fill.new.source in
    let is : IsNotFilled old new old_faults new_faults was now.next why =
    subst (λ (r : Result Bool WindowAnswer). IfErr r (IsNotFilled old new old_faults new_faults was now.next)) c.in-Err.is c.in_ok-filled.ensures.not_filled in
    let feeds : why ≡ answer.LongRecord → now.feeds ≡ s.batch.feeds = λ e. c.in_ok-filled.ensures.feeds (c.in-Err.is ∙ ap Err e) ∙ c.in_ok-follow.ensures.feeds in
    λ from rows has.
    let records = header ∷ (rows ++ rows_of s.batch.pieces.items) in
    let all = c.in_ok-filled.ensures.added.rows header rows c.requires.stream.batch.pieces has.added in
    let reading = c.args.plan.now.reading in
    let read : HasRead reading from old records s.batch.feeds was.rest = subst (HasRead reading from old records s.batch.feeds) (sym c.in_ok-follow.ensures.rest) (has.reaches.more c.requires.more) in
    let number : length records ≡ c.add_and_fill.new.added.count + 1 = omega (arith, all.count) in
    window_tells old new old_faults new_faults was now.next reading c.args.plan.now from records s.batch.feeds now.feeds (c.add_and_fill.new.added.count + 1) c.rest-text.result.now why c.stop_of_window.result
    (inr (accepted_table c.args.plan.now header c.args.bound.now c.requires.stream.bound (rows ++ rows_of s.batch.pieces.items)
    (all_accepted c.args.bound.now (length header) (rows ++ rows_of s.batch.pieces.items) c.add_and_fill.new.added.gathered all.groups))) read number feeds c.rest-text.ensures is c.stop_of_window.ensures

pub returns-in-Err-clause-read_fault : goal.returns-in-Err-clause-read_fault
returns-in-Err-clause-read_fault g c = λ e.
    let old = g.S.Source.left c.args.source.now in
    let new = g.S.Source.left c.add_and_fill.new.source in
    let was = c.follow.new.self.next in
    let now = c.add_and_fill.new.next in
    let old_faults = g.S.Source.faults c.args.source.now in
    let new_faults = g.S.Source.faults c.add_and_fill.new.source in
    let is : IsNotFilled old new old_faults new_faults was now.next c.in-Err.why =
    subst (λ (r : Result Bool WindowAnswer). IfErr r (IsNotFilled old new old_faults new_faults was now.next)) c.in-Err.is c.in_ok-filled.ensures.not_filled in
    window_fault old new old_faults new_faults was now.next (c.add_and_fill.new.added.count + 1) now.feeds c.rest-text.result.now c.in-Err.why c.stop_of_window.result is c.stop_of_window.ensures e

pub returns-in-Err-clause-read_before : goal.returns-in-Err-clause-read_before
returns-in-Err-clause-read_before g c = λ e from rows has.
    let s = c.args.stream in
    let old = g.S.Source.left c.args.source.now in
    let new = g.S.Source.left c.add_and_fill.new.source in
    let query = c.args.plan.now in
    let reading = query.reading in
    let bound = c.args.bound.now in
    let header = record_at s.header 0 in
    let all = rows ++ rows_of s.batch.pieces.items in
    let was = c.follow.new.self.next in
    let now = c.add_and_fill.new.next in
    let fault = window_fault_is (c.add_and_fill.new.added.count + 1) now.feeds c.rest-text.result.now c.in-Err.why c.stop_of_window.result c.stop_of_window.ensures e in
    let size = c.size_after-next_size.result in
    let lost : IsLostBatch old new was.rest (most_of_batch size) = c.in_ok-filled.ensures.lost (c.in-Err.is ∙ ap Err fault) in
    let read : HasRead reading from old (header ∷ all) s.batch.feeds was.rest = subst (HasRead reading from old (header ∷ all) s.batch.feeds) (sym c.in_ok-follow.ensures.rest) (has.reaches.more c.requires.more) in
    let added = c.in_ok-filled.ensures.added.rows header rows c.requires.stream.batch.pieces has.added in
    let is = c.requires.stream.bound in
    let once : twice_of (bound_plan header query.plan) header ≡ None = subst (λ (p : Plan). twice_of p header ≡ None) is.is is.once in
    let table = accepted_table query header bound is all (all_accepted bound (length header) all c.add_and_fill.new.added.gathered added.groups) in
    before_more (of_text reading) query from new (most_of_batch size) (most_of_batch c.args.size) (omega (arith, c.size_after-next_size.ensures))
    (read_before reading query from old new (header ∷ all) s.batch.feeds was.rest (most_of_batch size) read lost (inr (table, once)))

pub returns-in-Err-clause-no_write : goal.returns-in-Err-clause-no_write
returns-in-Err-clause-no_write g c =
    window_no_write (c.add_and_fill.new.added.count + 1) c.add_and_fill.new.next.feeds c.rest-text.result.now c.in-Err.why c.stop_of_window.result c.stop_of_window.ensures

-- ---- it was

pub returns-clause-stream : goal.returns-clause-stream
returns-clause-stream g c =
    let s = c.args.stream in
    let adds = c.in_ok-filled.ensures.added in
    let old = g.S.Source.left c.args.source.now in
    let new = g.S.Source.left c.add_and_fill.new.source in
    let was = c.follow.new.self in
    let now = c.add_and_fill.new.next in
    let follow = c.in_ok-follow.ensures in
    let filled : IsFilledBatch old new was.next was.before now c.in-Ok.is_last = subst (λ (r : Result Bool WindowAnswer). IfOk r (IsFilledBatch old new was.next was.before now)) c.in-Ok.is c.in_ok-filled.ensures.filled in
    record {
      batch = next_header c.args.plan.now.reading s.header s.batch now was.next was.before s.is_last c.in-Ok.is_last old new c.requires.stream.batch c.requires.more follow.like follow.rest follow.before filled;
      bound = c.requires.stream.bound;
      many = adds.many ∙ c.requires.stream.many;
      few = adds.few;
    }

pub returns-clause-rows : goal.returns-clause-rows
returns-clause-rows g c =
    let s = c.args.stream in
    let old = g.S.Source.left c.args.source.now in
    let new = g.S.Source.left c.add_and_fill.new.source in
    let was = c.follow.new.self in
    let now = c.add_and_fill.new.next in
    let follow = c.in_ok-follow.ensures in
    let filled : IsFilledBatch old new was.next was.before now c.in-Ok.is_last = subst (λ (r : Result Bool WindowAnswer). IfOk r (IsFilledBatch old new was.next was.before now)) c.in-Ok.is c.in_ok-filled.ensures.filled in
    λ from rows has.
    let all = rows ++ rows_of s.batch.pieces.items in
    let read = has.reaches.more c.requires.more in (
      all,
      record {
        added = c.in_ok-filled.ensures.added.rows (record_at s.header 0) rows c.requires.stream.batch.pieces has.added;
        reaches = next_reaches c.args.plan.now.reading s.header s.batch now was.next was.before s.is_last c.in-Ok.is_last old new c.requires.stream.batch c.requires.more follow.like follow.rest follow.before filled from all read;
        part = λ _. next_part c.args.plan.now.reading s.header s.batch now was.next was.before s.is_last c.in-Ok.is_last old new c.requires.stream.batch c.requires.more follow.like follow.rest follow.before filled from all read;
      },
    )

pub returns-clause-end : goal.returns-clause-end
returns-clause-end g c =
    let old = g.S.Source.left c.args.source.now in
    let new = g.S.Source.left c.add_and_fill.new.source in
    let was = c.follow.new.self in
    let now = c.add_and_fill.new.next in
    let filled : IsFilledBatch old new was.next was.before now c.in-Ok.is_last = subst (λ (r : Result Bool WindowAnswer). IfOk r (IsFilledBatch old new was.next was.before now)) c.in-Ok.is c.in_ok-filled.ensures.filled in
    filled.end

pub returns-in_err-follow-clause-taken : goal.returns-in_err-follow-clause-taken
returns-in_err-follow-clause-taken g c = takes_none (g.S.Source.left c.args.source.now) (g.S.Source.faults c.args.source.now) c.args.taken.now
