use Rattle.std.proofs.Common.{◌≡◌, ◌<◌, ◌+◌, ◌++◌, ◌∷◌, ◌∙◌, [], ℕ, Global, List, Vec, ap, arith, false, length, sym}
use Rattle.std.proofs.lemmas.List.{get_or_default}
use Rattle.join_kinds.specs.Partners.{has_pair}
use Rattle.join_kinds.proofs.Numbers.{rows_next, rows_pass}
use Rattle.join_kinds.proofs.partners.rows_with.Goals as goal
use Rattle.join_kinds.proofs.partners.rows_with.Goals.{then-index-paired+in_ok-push, else-index-paired}

pub loop-at-preserved : goal.loop-at-preserved
loop-at-preserved c =
    let at = c.loop-at.at in
    let flags = c.in_ok-flags.flags.items in
    let flag = c.index.result.now in
    let within : at < length flags = omega (arith, c.loop-at-test.true, c.len-at-end.ensures) in
    let low : at < c.args.rows = omega (arith, within, c.in_ok-flags.ensures.count) in
    let is : flag ≡ has_pair c.args.side c.args.pairs.now (at + 1) = c.index.ensures ∙ sym (get_or_default flags at false flag within) ∙ c.in_ok-flags.ensures.each at low in (
      omega (arith, low),
      elim c.if-index-paired.branch [
        | then-index-paired+in_ok-push w ↦ ap (λ (v : Vec ℕ Global). v.items) w.list-is ∙ w.in_ok-push.ensures.items ∙ ap (λ (l : List ℕ). l ++ (at + 1) ∷ []) c.loop-at.invariant.1
            ∙ sym (rows_next c.args.paired c.args.side c.args.pairs.now at flag is w.if-index-paired.true)
        | else-index-paired w ↦ ap (λ (v : Vec ℕ Global). v.items) w.list-is ∙ c.loop-at.invariant.1 ∙ sym (rows_pass c.args.paired c.args.side c.args.pairs.now at flag is w.if-index-paired.false)
      ],
    )
