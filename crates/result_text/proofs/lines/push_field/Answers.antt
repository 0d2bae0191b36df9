use Rattle.std.proofs.Common.{◌∙◌, ◌++◌, ◌∷◌, [], List, ℕ, ap, append_assoc}
use Rattle.csv.specs.Writing.{comma, default_writer, field_text}
use Rattle.result_text.proofs.lines.push_field.Goals as goal

pub returns : goal.returns
returns c =
    c.in_ok-push.ensures.items ∙ ap (λ (t : List ℕ). t ++ comma ∷ []) c.in_ok-push_field_text.ensures
    ∙ append_assoc c.args.text.now.items (field_text default_writer c.args.field.now) (comma ∷ [])
