use Rattle.std.proofs.Common.{◌∙◌, ◌++◌, List, ℕ, ap, sym}
use Rattle.std.specs.List.{flat_map}
use Rattle.std.proofs.lemmas.Str.{utf8_lossy-IsUtf8}
use Rattle.table_form.specs.Json.{json_byte}
use Rattle.table_form.proofs.json.put_text.Goals as goal

pub returns-in_ok-put_bytes-in-Ok : goal.returns-in_ok-put_bytes-in-Ok
returns-in_ok-put_bytes-in-Ok c =
    c.in_ok-put_bytes-in-Ok.ensures ∙ ap (λ (t : List ℕ). c.args.out.now.items ++ flat_map json_byte t) (sym (utf8_lossy-IsUtf8 c.args.text.now c.in-Ok.ensures.cases.1))
