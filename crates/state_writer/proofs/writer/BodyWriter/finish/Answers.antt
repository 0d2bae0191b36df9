use Rattle.std.proofs.Common.{◌<◌, ◌≤◌, ◌^◌, ◌++◌, ◌∙◌, ℕ, List, ap, arith, length, subst, sym}
use Rattle.std.proofs.lemmas.Result.{err_from_is_err_and}
use Rattle.state_body.specs.Body.{end_bytes}
use Rattle.state_writer.specs.Writing.{blocks_of, cut}
use Rattle.state_writer.proofs.Cuts.{ends, is_closed}
use Rattle.state_writer.proofs.Long.{last_fits}
use Rattle.state_writer.proofs.writer.BodyWriter.finish.Goals as goal

too_long : (n : ℕ) → n ≤ 2 ^ 28 → 2 ^ 28 < n → ⊥
too_long n few many = omega (arith, few, many)

pub returns-in_err-close_last-clause-long : goal.returns-in_err-close_last-clause-long
returns-in_err-close_last-clause-long c =
    let why = err_from_is_err_and c.from_residual.result c.from_residual.ensures.1 in
    rw (why.1, why.2) (λ kinds start groups written has e fit.
    let long = c.in_err-close_last.ensures.long e in
    long.1 (last_fits kinds start groups written c.args.self has long.0 fit.in_blocks))

pub returns-in_err-push_foot-clause-long : goal.returns-in_err-push_foot-clause-long
returns-in_err-push_foot-clause-long c =
    let shut = c.in_ok-close_last.ensures in
    let why = err_from_is_err_and c.from_residual-in_err-push_foot.result c.from_residual-in_err-push_foot.ensures.1 in
    rw (why.1, why.2) (λ kinds start groups written has e fit.
    let k = cut kinds groups in
    let done = is_closed kinds start k.full k.begun written c.args.out.now.items c.close_last.new.out.items c.args.self c.close_last.new.self has (record { none = shut.none; some = shut.some; index = shut.index }) in
    let same = c.as_slice.ensures.value ∙ c.in_ok-foot.ensures kinds start (blocks_of kinds groups) done.index_is in
    too_long (length c.as_slice.result.now) (subst (λ (bs : List ℕ). length bs ≤ 2 ^ 28) (sym same) fit.foot) (c.in_err-push_foot.ensures.long e))

pub returns-clause-ends : goal.returns-clause-ends
returns-clause-ends c = λ kinds start groups written has.
    let shut = c.in_ok-close_last.ensures in
    let k = cut kinds groups in
    let foot = c.as_slice.result.now in
    let done = is_closed kinds start k.full k.begun written c.args.out.now.items c.close_last.new.out.items c.args.self c.close_last.new.self has (record { none = shut.none; some = shut.some; index = shut.index }) in
    let same = c.as_slice.ensures.value ∙ c.in_ok-foot.ensures kinds start (blocks_of kinds groups) done.index_is in
    ends kinds start groups written c.args.out.now.items c.close_last.new.out.items c.push_foot.new.out.items foot c.close_last.new.self.index done same c.in_ok-push_foot.ensures.short
    (c.in_ok-push_foot.ensures.end ∙ ap (λ (bs : List ℕ). bs ++ end_bytes foot) c.in_ok-push_section.ensures)
