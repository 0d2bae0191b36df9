use Rattle.std.proofs.Common.{◌∙◌, ◌≡◌, Some, rules, sym}
use Rattle.std.specs.Str.Parse.{without_leading_sign}
use Rattle.par_model.specs.Number.{integer_of}
use Rattle.par_model.specs.Magnitude.{short_magnitude_of}
use Rattle.par_model.proofs.ShortNumbers.{short-integer}
use Rattle.par_model.proofs.number.read_integer.Goals as goal

pub returns-in-Some : goal.returns-in-Some
returns-in-Some c =
    let short : short_magnitude_of (without_leading_sign c.args.field.now) ≡ Some c.in-Some.size =
    cc (c.short_magnitude.ensures.value, c.in-Some.is, c.split_sign-is_minus.ensures.digits) in
    let signed : Some c.signed_size.result ≡ integer_of c.args.field.now =
    c.signed_size.ensures ∙ rw c.split_sign-is_minus.ensures.is_minus (short-integer c.args.field.now c.in-Some.size short) in
    rw (sym signed) (search rules)
