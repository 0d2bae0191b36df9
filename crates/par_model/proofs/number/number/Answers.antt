use Rattle.par_model.proofs.Magnitudes.{number-signed}
use Rattle.par_model.proofs.number.number.Goals as goal

pub returns : goal.returns
returns c = rw (c.signed.ensures, c.split_sign-is_minus.ensures.is_minus, c.split_sign-is_minus.ensures.digits) (number-signed c.args.places c.args.text.now)
