use Rattle.std.proofs.Common.{◌≡◌, ◌++◌, ◌∙◌, ℕ, List, None, arith, refl, rules, sym}
use Rattle.std.proofs.lemmas.Result.{err_from_is_err_and}
use Rattle.std.specs.FinMap as finite
use Rattle.state_head.specs.Head.{subject_of}
use Rattle.state_head.specs.Words.{keys_of}
use Rattle.state_load.specs.declared.loading.LoadCause.TheVariants as cause
use Rattle.state_source.specs.Adding.{IsFaultOf}
use Rattle.state_source.specs.Beside.{AreInRanges}
use Rattle.state_source.specs.declared.adding.SourceFault.TheVariants as fault
use Rattle.state_source.proofs.Gone.{all_gone, gone_wrong, more_gone, one_gone, rest_wrong}
use Rattle.state_source.proofs.Many.{rows_wrong}
use Rattle.state_source.proofs.Rests.{of_any, of_apart}
use Rattle.state_whole.specs.Files.{file_bytes}
use Rattle.state_whole.specs.declared.files.FileFault.TheVariants as file_fault
use Rattle.state_source.proofs.beside.add_all.Goals as goal

pub loop-count-init : goal.loop-count-init
loop-count-init g c = record {
  to = λ f none of. one_gone c.args.shape.now (subject_of c.args.query.whole) (keys_of c.args.query.range) (g.S.Source.left c.args.source.now) c.args.ahead.now.bytes c.args.ahead.now.bytes f c.args.sums c.args.file refl of none;
  end = c.requires.end;
  faults = omega arith;
}

pub returns-in-Err-clause-refused : goal.returns-in-Err-clause-refused
returns-in-Err-clause-refused g c = λ f none of.
    let shape = c.args.shape.now in
    let subject = subject_of c.args.query.whole in
    let keys = keys_of c.args.query.range in
    let was = g.S.Source.left c.args.source.now in
    let before = c.args.ahead.now.bytes in
    let l = c.loop-count in
    of_apart was (file_bytes shape.kinds.now f) before (λ (bs : List ℕ). IsFaultOf shape subject keys finite.empty bs c.shifted.result)
    (gone_wrong shape subject keys was (g.S.Source.left l.source) (file_bytes shape.kinds.now f ++ before) l.ahead.bytes l.sums l.file l.count c.in-Err.why c.shifted.result (l.invariant.to f none of) c.in-Err.ensures.refused c.shifted.ensures)

pub returns-in_err-check_rows-clause-refused : goal.returns-in_err-check_rows-clause-refused
returns-in_err-check_rows-clause-refused g c = λ f none of.
    let shape = c.args.shape.now in
    let subject = subject_of c.args.query.whole in
    let keys = keys_of c.args.query.range in
    let was = g.S.Source.left c.args.source.now in
    let before = c.args.ahead.now.bytes in
    let l = c.loop-count in
    let why = err_from_is_err_and c.from_residual.result c.from_residual.ensures.1 in
    rw (why.1, why.2, c.in_err-check_rows.ensures.1)
    (of_apart was (file_bytes shape.kinds.now f) before (λ (bs : List ℕ). IsFaultOf shape subject keys finite.empty bs (fault.Load (record { file = l.count; why = cause.File file_fault.Rows })))
    (rows_wrong shape subject keys was (g.S.Source.left l.source) (file_bytes shape.kinds.now f ++ before) l.ahead.bytes l.sums c.in-Ok.two.0 l.file l.count (l.invariant.to f none of) c.in-Ok.ensures.sum c.in_err-check_rows.ensures.0))

pub returns-in-Ok-none_left-clause-added : goal.returns-in-Ok-none_left-clause-added
returns-in-Ok-none_left-clause-added g c = λ f none of.
    let shape = c.args.shape.now in
    let subject = subject_of c.args.query.whole in
    let keys = keys_of c.args.query.range in
    let was = g.S.Source.left c.args.source.now in
    let before = c.args.ahead.now.bytes in
    let l = c.loop-count in
    let two = c.in-Ok.two in
    let last : two.1 ≡ None = search rules in
    of_apart was (file_bytes shape.kinds.now f) before (λ (bs : List ℕ). AreInRanges shape subject keys bs two.0)
    (all_gone shape subject keys was (g.S.Source.left l.source) (g.S.Source.left c.add_one.new.source) (file_bytes shape.kinds.now f ++ before) l.ahead c.add_one.new.ahead l.sums two.0 l.file l.count (l.invariant.to f none of) c.in-Ok.ensures.sum
    (rw last at c.in-Ok.ensures.next) (sym c.bytes.ensures ∙ c.in-Ok-none_left.ensures.none))

pub returns-in-Err-none_left-clause-refused : goal.returns-in-Err-none_left-clause-refused
returns-in-Err-none_left-clause-refused g c = λ f none of.
    let shape = c.args.shape.now in
    let subject = subject_of c.args.query.whole in
    let keys = keys_of c.args.query.range in
    let was = g.S.Source.left c.args.source.now in
    let before = c.args.ahead.now.bytes in
    let l = c.loop-count in
    let two = c.in-Ok.two in
    let last : two.1 ≡ None = search rules in
    of_apart was (file_bytes shape.kinds.now f) before (λ (bs : List ℕ). IsFaultOf shape subject keys finite.empty bs c.shifted-in-Err-none_left.result)
    (rest_wrong shape subject keys was (g.S.Source.left l.source) (g.S.Source.left c.add_one.new.source) (file_bytes shape.kinds.now f ++ before) l.ahead c.add_one.new.ahead l.sums l.file l.count c.in-Err-none_left.why
    c.shifted-in-Err-none_left.result (l.invariant.to f none of) (rw last at c.in-Ok.ensures.next) (λ m. rw c.bytes.ensures at (c.in-Err-none_left.ensures.refused m)) c.shifted-in-Err-none_left.ensures)

pub loop-count-preserved : goal.loop-count-preserved
loop-count-preserved g c =
    let shape = c.args.shape.now in
    let l = c.loop-count in
    let did = c.in-Ok.ensures in
    let two = c.in-Ok.two in
    record {
      to = λ f none of. more_gone shape (subject_of c.args.query.whole) (keys_of c.args.query.range) (g.S.Source.left c.args.source.now) (g.S.Source.left l.source) (g.S.Source.left c.add_one.new.source) (file_bytes shape.kinds.now f ++ c.args.ahead.now.bytes)
          l.ahead c.add_one.new.ahead l.sums two.0 l.file c.in-Some.next l.count (l.invariant.to f none of) did.sum (rw c.in-Some.is at did.next);
      end = did.end;
      faults = omega (arith, l.invariant.faults, did.faults);
    }

pub returns-clause-refused : goal.returns-clause-refused
returns-clause-refused g c = λ f none of.
    let shape = c.args.shape.now in
    of_any (g.S.Source.left c.args.source.now) (λ more. IsFaultOf shape (subject_of c.args.query.whole) (keys_of c.args.query.range) finite.empty (file_bytes shape.kinds.now f ++ (c.args.ahead.now.bytes ++ more)) fault.Memory) (λ more. tt)
