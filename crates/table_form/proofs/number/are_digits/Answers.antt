use Rattle.std.proofs.Common.{◌∙◌, Bool, ap, sym}
use Rattle.std.specs.Prelude.{◌&&◌, not}
use Rattle.std.specs.Char.{is_ascii_digit}
use Rattle.std.specs.List.{list_all}
use Rattle.table_form.proofs.number.are_digits.Goals as goal

pub returns-then-not-is_empty : goal.returns-then-not-is_empty
returns-then-not-is_empty c =
    c.all_digits.ensures ∙ sym (ap (λ (b : Bool). not b && list_all is_ascii_digit c.args.bytes.now) (sym c.is_empty.ensures ∙ c.if-not-is_empty.true))
