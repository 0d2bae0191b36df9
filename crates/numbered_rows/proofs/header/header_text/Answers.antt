use Rattle.std.proofs.Common.{◌≡◌, ◌+◌, ◌∙◌, ◌∷◌, ◌++◌, [], Bool, List, ℕ, ap, arith, sym}
use Rattle.std.specs.Prelude.{if◌then◌else◌}
use Rattle.std.proofs.lemmas.Bool.{ne_eqb}
use Rattle.numbered_rows.specs.Numbers.{number_text, numbers_text}
use Rattle.numbered_rows.proofs.Joins.{place-more}
use Rattle.numbered_rows.proofs.header.header_text.Goals as goal

pub columns-init : goal.columns-init
columns-init c = c.new-text.ensures.items

pub columns-preserved : goal.columns-preserved
columns-preserved c =
    let sep = c.args.separator in
    place-more (λ (at : ℕ). number_text sep (at + 1)) (sep ∷ []) c.columns.at [] c.columns.text.items c.put_lead.new.text.items c.put_number.new.text.items c.in_ok-put_lead.ensures
    (c.in_ok-put_number.ensures ∙ ap (λ (n : ℕ). c.put_lead.new.text.items ++ number_text sep (n + 1)) c.from.ensures) c.columns.invariant

pub returns : goal.returns
returns c =
    let sep = c.args.separator in
    let width = c.args.width in
    let same : c.columns.at ≡ width = omega (arith, c.columns-test.false) in
    c.in_ok-push.ensures.items ∙ ap (λ (t : List ℕ). t ++ 13 ∷ []) (c.columns.invariant ∙ ap (numbers_text sep) same)
    ∙ sym (ap (λ (b : Bool). if b then [] else numbers_text sep width ++ 13 ∷ []) (ne_eqb width 0 c.if-width-eq0.false))
