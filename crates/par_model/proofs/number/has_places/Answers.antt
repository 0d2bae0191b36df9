use Rattle.std.proofs.Common.{◌≡◌, ◌<◌, ◌∙◌, ap, arith, length, sym}
use Rattle.std.proofs.lemmas.Bool.Decides.{nat_tests}
use Rattle.std.proofs.lemmas.List.Sums.{prefix_len-le-length}
use Rattle.std.specs.List.{before_first}
use Rattle.std.specs.Prelude.{not}
use Rattle.par_model.specs.Number.{is_point}
use Rattle.par_model.proofs.Points.{before-size, no-point-places, point-places}
use Rattle.par_model.proofs.number.has_places.Goals as goal

pub returns-then-whole-digits-clause-places : goal.returns-then-whole-digits-clause-places
returns-then-whole-digits-clause-places c =
    let same : length (before_first is_point c.args.digits.now) ≡ length c.args.digits.now = sym (ap length c.requires.whole) ∙ c.if-whole-digits.true in
    let places = no-point-places c.args.places c.args.digits.now same in
    grind (arith, nat_tests, places, c.is_empty.ensures)

pub returns-then-not-is_empty-clause-places : goal.returns-then-not-is_empty-clause-places
returns-then-not-is_empty-clause-places c =
    let size = before-size c.args.digits.now in
    let within = prefix_len-le-length (λ b. not (is_point b)) c.args.digits.now in
    let whole = ap length c.requires.whole in
    let less : length (before_first is_point c.args.digits.now) < length c.args.digits.now = omega (arith, size, within, whole, c.if-whole-digits.false) in
    let places = point-places c.args.places c.args.digits.now less in
    let decimals = ap length c.requires.decimals in
    grind (arith, nat_tests, places, decimals, c.is_empty-else-whole-digits.ensures, c.if-not-is_empty.true)

pub returns-then-not-is_empty-clause-few : goal.returns-then-not-is_empty-clause-few
returns-then-not-is_empty-clause-few c = λ is.
    let size = before-size c.args.digits.now in
    let within = prefix_len-le-length (λ b. not (is_point b)) c.args.digits.now in
    let whole = ap length c.requires.whole in
    let less : length (before_first is_point c.args.digits.now) < length c.args.digits.now = omega (arith, size, within, whole, c.if-whole-digits.false) in
    let places = point-places c.args.places c.args.digits.now less in
    let decimals = ap length c.requires.decimals in
    grind (arith, nat_tests, places, decimals, is, c.is_empty-else-whole-digits.ensures, c.if-not-is_empty.true)

pub returns-else-not-is_empty-clause-places : goal.returns-else-not-is_empty-clause-places
returns-else-not-is_empty-clause-places c =
    let size = before-size c.args.digits.now in
    let within = prefix_len-le-length (λ b. not (is_point b)) c.args.digits.now in
    let whole = ap length c.requires.whole in
    let less : length (before_first is_point c.args.digits.now) < length c.args.digits.now = omega (arith, size, within, whole, c.if-whole-digits.false) in
    let places = point-places c.args.places c.args.digits.now less in
    let decimals = ap length c.requires.decimals in
    grind (arith, nat_tests, places, decimals, c.is_empty-else-whole-digits.ensures, c.if-not-is_empty.false)
