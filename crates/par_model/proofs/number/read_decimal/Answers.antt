use Rattle.std.proofs.Common.{◌∙◌, ◌≡◌, Some, rules, sym}
use Rattle.std.specs.Str.Parse.{without_leading_sign}
use Rattle.par_model.specs.Number.{decimal_of}
use Rattle.par_model.specs.Magnitude.{short_scaled_of}
use Rattle.par_model.proofs.ShortNumbers.{short-decimal}
use Rattle.par_model.proofs.number.read_decimal.Goals as goal

pub returns-in-Some : goal.returns-in-Some
returns-in-Some c =
    let short : short_scaled_of c.args.places (without_leading_sign c.args.field.now) ≡ Some c.in-Some.size =
    cc (c.short_scaled.ensures.value, c.in-Some.is, c.split_sign-is_minus.ensures.digits) in
    let signed : Some c.signed_size.result ≡ decimal_of c.args.places c.args.field.now =
    c.signed_size.ensures ∙ rw c.split_sign-is_minus.ensures.is_minus (short-decimal c.args.places c.args.field.now c.in-Some.size c.requires short) in
    rw (sym signed) (search rules)
