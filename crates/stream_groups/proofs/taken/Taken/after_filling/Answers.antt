use Rattle.std.proofs.Common.{◌≡◌, ◌+◌, ℕ, Bool, Err, List, Result, ap, arith, length, subst, sym}
use Rattle.row_windows.specs.declared.window.WindowAnswer.{WindowAnswer}
use Rattle.stream_groups.specs.Taken.{IsCountOf, IsMore}
use Rattle.stream_groups.proofs.taken.Taken.after_filling.Goals as goal

pub returns-in-Ok : goal.returns-in-Ok
returns-in-Ok c =
    let w = c.args.window.now in
    let counted : (more : ℕ) → length w.lines + length w.rest ≡ c.args.had + more → IsMore c.args.self more c.after.result =
    λ more e. c.after.ensures more (omega (arith, e, ap (λ (l : List ℕ). length l) c.lines.ensures, ap (λ (l : List ℕ). length l) c.rest.ensures)) in
    subst (λ (r : Result Bool WindowAnswer). IsCountOf r c.args.had (length w.lines + length w.rest) c.args.self c.after.result) (sym c.in-Ok.is) counted

pub returns-in-Err : goal.returns-in-Err
returns-in-Err c =
    let w = c.args.window.now in
    let size : length c.lines.result.now + length c.rest.result.now ≡ length w.lines + length w.rest = omega (arith, ap (λ (l : List ℕ). length l) c.lines.ensures, ap (λ (l : List ℕ). length l) c.rest.ensures) in
    let counted = subst (λ (n : ℕ). IsCountOf (Err c.in-Err.why) c.args.had n c.args.self c.after_fault.result) size c.after_fault.ensures in
    subst (λ (r : Result Bool WindowAnswer). IsCountOf r c.args.had (length w.lines + length w.rest) c.args.self c.after_fault.result) (sym c.in-Err.is) counted
