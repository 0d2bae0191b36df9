use Rattle.std.proofs.Common.{◌∙◌, ◌++◌, ◌∷◌, [], List, ℕ, ap, append_assoc}
use Rattle.csv.specs.Writing.{default_writer, escaped}
use Rattle.result_text.proofs.lines.push_quoted.Goals as goal

pub returns : goal.returns
returns c =
    let old = c.args.text.now.items in
    let bytes = escaped default_writer c.args.field.now in
    c.in_ok-push-2.ensures.items
    ∙ ap (λ (t : List ℕ). t ++ 34 ∷ []) (c.in_ok-push_escaped.ensures ∙ ap (λ (t : List ℕ). t ++ bytes) c.in_ok-push.ensures.items)
    ∙ append_assoc (old ++ 34 ∷ []) bytes (34 ∷ []) ∙ append_assoc old (34 ∷ []) (bytes ++ 34 ∷ [])
