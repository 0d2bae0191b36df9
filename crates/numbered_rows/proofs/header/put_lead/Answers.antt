use Rattle.std.proofs.Common.{◌∙◌, ◌∷◌, ◌++◌, [], List, ℕ, ap, append-nil, sym}
use Rattle.numbered_rows.proofs.Joins.{lead-none, lead-some}
use Rattle.numbered_rows.proofs.header.put_lead.Goals as goal

pub returns-then-at-eq0 : goal.returns-then-at-eq0
returns-then-at-eq0 c =
    let text = c.args.text.now.items in
    sym (append-nil text) ∙ ap (λ (t : List ℕ). text ++ t) (sym (lead-none c.args.at (c.args.separator ∷ []) c.if-at-eq0.true))

pub returns : goal.returns
returns c = c.in_ok-push.ensures.items ∙ ap (λ (t : List ℕ). c.args.text.now.items ++ t) (sym (lead-some c.args.at (c.args.separator ∷ []) c.if-at-eq0.false))
