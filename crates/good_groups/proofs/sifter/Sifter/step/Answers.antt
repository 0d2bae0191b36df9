use Rattle.std.proofs.Common.{◌≡◌, ◌<◌, ◌++◌, ◌∙◌, [], List, ℕ, ap, length, refl, rules, slice_index, subst, sym, take, true}
use Rattle.std.specs.Io.KnownBytes.{prepend_known}
use Rattle.good_rows.specs.Lines.{IsBegun, ends_here}
use Rattle.good_groups.specs.Sifting.{IsReady}
use Rattle.good_rows.specs.Judging.{GoesOn}
use Rattle.good_groups.proofs.Steps.{ends_first, next_open, ready_line, sifts_line, sifts_not, sifts_on, sifts_then}
use Rattle.good_groups.proofs.sifter.Sifter.step.Goals as goal

pub returns-then-len-gt-MOST_RECORD_BYTES-clause-sifts : goal.returns-then-len-gt-MOST_RECORD_BYTES-clause-sifts
returns-then-len-gt-MOST_RECORD_BYTES-clause-sifts c =
    let self = c.args.self.now in
    let at = c.line_end-end.result.at in
    let on = subst (λ (t : List ℕ). GoesOn self.place t at c.line_end-end.result.place) c.left.ensures c.line_end-end.ensures.goes in
    let line = c.in_ok-extend_from_slice.ensures.items ∙ ap (λ (t : List ℕ). self.line.items ++ take at t) c.left-2.ensures in
    sifts_on c.args.rules.now self _ at line c.skip.ensures refl refl on

pub returns-then-is_empty-clause-sifts : goal.returns-then-is_empty-clause-sifts
returns-then-is_empty-clause-sifts c =
    let self = c.args.self.now in
    let at = c.line_end-end.result.at in
    let on = subst (λ (t : List ℕ). GoesOn self.place t at c.line_end-end.result.place) c.left.ensures c.line_end-end.ensures.goes in
    let line = c.in_ok-extend_from_slice.ensures.items ∙ ap (λ (t : List ℕ). self.line.items ++ take at t) c.left-2.ensures in
    sifts_on c.args.rules.now self _ at line c.skip.ensures refl refl on

pub returns-in_err-close_line-clause-sifts : goal.returns-in_err-close_line-clause-sifts
returns-in_err-close_line-clause-sifts c =
    let self = c.args.self.now in
    let r = c.args.rules.now in
    let at = c.line_end-end.result.at in
    let mid = record self { line = c.extend_from_slice.new.self; place = c.line_end-end.result.place; pending = c.skip.new.self } in
    let on = subst (λ (t : List ℕ). GoesOn self.place t at mid.place) c.left.ensures c.line_end-end.ensures.goes in
    let line = c.in_ok-extend_from_slice.ensures.items ∙ ap (λ (t : List ℕ). self.line.items ++ take at t) c.left-2.ensures in
    let ends = subst (λ (t : List ℕ). at < length t → ends_here mid.place (slice_index t at) ≡ true) c.left.ensures c.line_end-end.ensures.ends in
    let first = ends_first mid.place self.pending mid.pending at c.skip.ensures c.if-is_empty.ensures ends in
    let is = c.in_err-close_line.ensures in
    sifts_then r self mid c.close_line.new.self (sifts_on r self mid at line c.skip.ensures refl refl on) (sifts_not r mid first.0 first.1 c.close_line.new.self is.same is.err is.not_feeds is.not)

pub returns-clause-ready : goal.returns-clause-ready
returns-clause-ready c =
    let self = c.args.self.now in
    let r = c.args.rules.now in
    let at = c.line_end-end.result.at in
    let mid = record self { line = c.extend_from_slice.new.self; place = c.line_end-end.result.place; pending = c.skip.new.self } in
    let on = subst (λ (t : List ℕ). GoesOn self.place t at mid.place) c.left.ensures c.line_end-end.ensures.goes in
    let line = c.in_ok-extend_from_slice.ensures.items ∙ ap (λ (t : List ℕ). self.line.items ++ take at t) c.left-2.ensures in
    let ends = subst (λ (t : List ℕ). at < length t → ends_here mid.place (slice_index t at) ≡ true) c.left.ensures c.line_end-end.ensures.ends in
    let first = ends_first mid.place self.pending mid.pending at c.skip.ensures c.if-is_empty.ensures ends in
    let is = c.in_ok-close_line.ensures in
    let begun = subst (λ (t : List ℕ). IsBegun t mid.place) (sym line) (on.begun self.line.items c.requires.ready.begun) in
    let ready : IsReady r mid = record { columns = c.requires.ready.columns; header = c.requires.ready.header; begun = begun; few = c.requires.ready.few } in
    ready_line r mid first.0 first.1 c.close_line.new.self is.same c.begin_line.new.self c.begin_line.ensures.same c.begin_line.ensures.line c.begin_line.ensures.place ready is.few

pub returns-clause-sifts : goal.returns-clause-sifts
returns-clause-sifts c =
    let self = c.args.self.now in
    let r = c.args.rules.now in
    let at = c.line_end-end.result.at in
    let mid = record self { line = c.extend_from_slice.new.self; place = c.line_end-end.result.place; pending = c.skip.new.self } in
    let on = subst (λ (t : List ℕ). GoesOn self.place t at mid.place) c.left.ensures c.line_end-end.ensures.goes in
    let line = c.in_ok-extend_from_slice.ensures.items ∙ ap (λ (t : List ℕ). self.line.items ++ take at t) c.left-2.ensures in
    let ends = subst (λ (t : List ℕ). at < length t → ends_here mid.place (slice_index t at) ≡ true) c.left.ensures c.line_end-end.ensures.ends in
    let first = ends_first mid.place self.pending mid.pending at c.skip.ensures c.if-is_empty.ensures ends in
    let is = c.in_ok-close_line.ensures in
    sifts_then r self mid c.begin_line.new.self (sifts_on r self mid at line c.skip.ensures refl refl on)
    (sifts_line r mid first.0 first.1 c.close_line.new.self is.same c.begin_line.new.self c.begin_line.ensures.same c.begin_line.ensures.line c.begin_line.ensures.place is.ahead is.counts is.feeds is.few)

pub returns-in_err-close_line-clause-many : goal.returns-in_err-close_line-clause-many
returns-in_err-close_line-clause-many c = λ e o left are is_open.
    let self = c.args.self.now in
    let r = c.args.rules.now in
    let at = c.line_end-end.result.at in
    let mid = record self { line = c.extend_from_slice.new.self; place = c.line_end-end.result.place; pending = c.skip.new.self } in
    let on = subst (λ (t : List ℕ). GoesOn self.place t at mid.place) c.left.ensures c.line_end-end.ensures.goes in
    let line = c.in_ok-extend_from_slice.ensures.items ∙ ap (λ (t : List ℕ). self.line.items ++ take at t) c.left-2.ensures in
    let ends = subst (λ (t : List ℕ). at < length t → ends_here mid.place (slice_index t at) ≡ true) c.left.ensures c.line_end-end.ensures.ends in
    let first = ends_first mid.place self.pending mid.pending at c.skip.ensures c.if-is_empty.ensures ends in
    let now = (sifts_on r self mid at line c.skip.ensures refl refl on).counts o left are is_open in
    c.in_err-close_line.ensures.many (search rules) o (prepend_known mid.pending left) now.rows [] are (next_open r mid first.0 first.1 o left are now) now.counted
