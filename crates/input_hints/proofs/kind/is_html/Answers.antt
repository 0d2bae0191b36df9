use Rattle.std.proofs.Common.{◌≡◌, ◌∙◌, ◌||◌, Bool, ap, codes, sym}
use Rattle.std.proofs.lemmas.Str.Ascii.{trim_ascii_start_is}
use Rattle.input_hints.specs.Kinds.{after_space, begins_in_any_case}
use Rattle.input_hints.proofs.kind.is_html.Goals as goal

pub returns-then-begins_in_any_case : goal.returns-then-begins_in_any_case
returns-then-begins_in_any_case c =
    let text = after_space c.args.bytes.now in
    let root = begins_in_any_case text (codes "<html") in
    let is = trim_ascii_start_is c.args.bytes.now c.trim_ascii_start-text.result.now c.trim_ascii_start-text.ensures.value in
    let first : c.begins_in_any_case.result ≡ begins_in_any_case text (codes "<!doctype html") = rw is at c.begins_in_any_case.ensures in
    c.if-begins_in_any_case.true ∙ sym (ap (λ (b : Bool). b || root) (sym first ∙ c.if-begins_in_any_case.true))

pub returns-else-begins_in_any_case : goal.returns-else-begins_in_any_case
returns-else-begins_in_any_case c =
    let text = after_space c.args.bytes.now in
    let root = begins_in_any_case text (codes "<html") in
    let is = trim_ascii_start_is c.args.bytes.now c.trim_ascii_start-text.result.now c.trim_ascii_start-text.ensures.value in
    let first : c.begins_in_any_case.result ≡ begins_in_any_case text (codes "<!doctype html") = rw is at c.begins_in_any_case.ensures in
    let second : c.begins_in_any_case-else-begins_in_any_case.result ≡ root = rw is at c.begins_in_any_case-else-begins_in_any_case.ensures in
    second ∙ sym (ap (λ (b : Bool). b || root) (sym first ∙ c.if-begins_in_any_case.false))
