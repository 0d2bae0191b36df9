use Rattle.std.proofs.Common.{◌∙◌, ◌∷◌, ◌++◌, [], List, ℕ, ap, append_assoc}
use Rattle.std.specs.List.{flat_map}
use Rattle.std.specs.Str.Lossy.{utf8_lossy}
use Rattle.table_form.specs.Json.{json_byte}
use Rattle.table_form.proofs.json.put_string.Goals as goal

pub returns : goal.returns
returns c =
    let old = c.args.out.now.items in
    let inner = flat_map json_byte (utf8_lossy c.args.text.now) in
    c.in_ok-push-2.ensures.items ∙ ap (λ (t : List ℕ). t ++ 34 ∷ []) (c.in_ok-put_text.ensures ∙ ap (λ (t : List ℕ). t ++ inner) c.in_ok-push.ensures.items)
    ∙ append_assoc (old ++ 34 ∷ []) inner (34 ∷ []) ∙ append_assoc old (34 ∷ []) (inner ++ 34 ∷ [])
