use Rattle.std.proofs.Common.{◌≡◌, ◌∙◌, IfOk, ℕ, List, string_bytes, subst}
use Rattle.shown_text.specs.Header.{missing_text}
use Rattle.stream_groups.proofs.rows.says_missing.Goals as goal

pub returns : goal.returns
returns c =
    subst (λ (name : List ℕ). IfOk c.missing_text.result (λ said. string_bytes said ≡ missing_text name c.args.header.now)) (c.as_bytes.ensures.value ∙ c.name.ensures) c.missing_text.ensures
