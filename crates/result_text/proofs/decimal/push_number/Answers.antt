use Rattle.std.proofs.Common.{◌∙◌, ◌/◌, ◌++◌, decimal, ℕ, ap, unsigned_abs}
use Rattle.std.proofs.lemmas.Int.{to_z-of_z}
use Rattle.std.proofs.lemmas.Result.{on_ok_weaker}
use Rattle.std.specs.Int.{is_negative, w128}
use Rattle.par_model.specs.Decimal.{places_text}
use Rattle.result_text.proofs.Numbers.{number_pieces}
use Rattle.result_text.proofs.decimal.push_number.Goals as goal

pub returns : goal.returns
returns c =
    let same = to_z-of_z w128 c.args.n c.ranges.n in
    let minus = c.is_negative.ensures ∙ ap is_negative same in
    let size = c.unsigned_abs-size.ensures.value ∙ ap unsigned_abs same in
    let unit = c.power_of_ten-unit.result in
    let digits = c.as_bytes.ensures.value ∙ c.format.ensures.text ∙ ap (λ (size : ℕ). decimal (size / unit)) size in
    on_ok_weaker c.push_places.result (λ tail.
    let places = tail ∙ ap (λ (size : ℕ). c.extend_from_slice.new.self.items ++ places_text c.args.places size) size in
    number_pieces c.args.n c.args.places unit c.is_negative.result c.args.text.now.items _ _ _ _
    minus c.power_of_ten-unit.ensures.power c.in_ok-push_sign.ensures digits c.in_ok-extend_from_slice.ensures.items places)
    c.push_places.ensures
