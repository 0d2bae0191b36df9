use Rattle.std.proofs.Common.{◌≡◌, ◌⊎◌, Some, arith}
use Rattle.std.specs.List.{slice_get}
use Rattle.std.proofs.lemmas.Option.{slice_get_within}
use Rattle.key_index.specs.Index.{IsLate, IsReached, hash}
use Rattle.key_index.proofs.Index.{entered_is, more_steps, still_found}
use Rattle.key_index.proofs.table.index_of.Goals as goal

pub loop-place-preserved : goal.loop-place-preserved
loop-place-preserved c =
    let keys = c.args.keys.now in
    let slots = c.enter.new.slots.items in
    let late = c.enter.new.late in
    record {
      entered = λ p key lt e.
          more_steps {P = λ p. slice_get keys p ≡ Some key → IsReached slots (hash key) p ⊎ IsLate late keys key} c.loop-place.place
          (λ p less e. still_found c.loop-place.slots.items slots c.loop-place.late late keys key p c.enter.ensures.kept c.enter.ensures.late_kept (c.loop-place.invariant.entered p key less e))
          (λ e. entered_is slots late keys c.get-key.result.now key c.loop-place.place c.get-key.ensures e c.in_ok-enter.ensures.entered) p lt e;
      kept = λ key l. c.enter.ensures.late_kept key (c.loop-place.invariant.kept key l);
    }

pub returns-clause-indexed : goal.returns-clause-indexed
returns-clause-indexed c = record { each = λ p key e. c.loop-place.invariant.entered p key (omega (arith, slice_get_within c.args.keys.now p key e, c.len-place-end.ensures, c.loop-place-test.false)) e }

pub returns-clause-late_kept : goal.returns-clause-late_kept
returns-clause-late_kept c = c.loop-place.invariant.kept

pub returns-in_err-enter-clause-late_kept : goal.returns-in_err-enter-clause-late_kept
returns-in_err-enter-clause-late_kept c = λ key l. c.enter.ensures.late_kept key (c.loop-place.invariant.kept key l)
