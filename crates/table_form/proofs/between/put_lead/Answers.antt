use Rattle.std.proofs.Common.{◌∙◌, ◌++◌, List, ℕ, ap, append-nil, sym}
use Rattle.table_form.proofs.Joins.{lead-none, lead-some}
use Rattle.table_form.proofs.between.put_lead.Goals as goal

pub returns-then-at-eq0 : goal.returns-then-at-eq0
returns-then-at-eq0 c =
    let out = c.args.out.now.items in
    sym (append-nil out) ∙ ap (λ (t : List ℕ). out ++ t) (sym (lead-none c.args.at c.args.separator.now c.if-at-eq0.true))

pub returns : goal.returns
returns c = c.in_ok-extend_from_slice.ensures.items ∙ ap (λ (t : List ℕ). c.args.out.now.items ++ t) (sym (lead-some c.args.at c.args.separator.now c.if-at-eq0.false))
