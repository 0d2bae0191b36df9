use Rattle.std.proofs.Common.{◌≡◌, ◌-◌, ◌++◌, ◌∙◌, ℕ, List, ap, arith, drop, length, length-drop, sym, take, take_all}
use Rattle.std.proofs.lemmas.Bool.Decides.{Decides-eqb}
use Rattle.std.proofs.lemmas.Slice.Eq.{starts_is}
use Rattle.line_runs.proofs.order.after.Goals as goal

pub returns-then-starts_with : goal.returns-then-starts_with
returns-then-starts_with c =
    let bytes = c.args.bytes.now in
    let front = c.args.front.now in
    let rest : List ℕ = drop (length front) bytes in
    let all : take (length bytes - length front) rest ≡ rest = take_all (length bytes - length front) rest (omega (arith, length-drop (length front) bytes)) in
    (starts_is Decides-eqb bytes front c.starts_with.result c.starts_with.ensures.value).0 c.if-starts_with.true ∙ ap (λ (more : List ℕ). front ++ more) (sym all)
