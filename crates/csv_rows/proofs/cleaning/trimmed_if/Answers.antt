use Rattle.std.proofs.Common.{refl}
use Rattle.std.proofs.lemmas.Str.Ascii.{trim_ascii_is}
use Rattle.csv_rows.proofs.cleaning.trimmed_if.Goals as goal

pub returns-then-trim : goal.returns-then-trim
returns-then-trim c = rw c.if-trim.true (trim_ascii_is _ _ _ refl c.trim_ascii.ensures.value)
