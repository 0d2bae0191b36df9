use Rattle.std.proofs.lemmas.Simd.{length-chunk, get_or-chunk}
use Rattle.row_windows.proofs.quotes.load.Goals as goal

pub returns : goal.returns
returns c = record { long = length-chunk c.args.at 64 c.args.text.now c.requires; each = λ k l. get_or-chunk c.args.at 64 c.args.text.now k 0 l }
