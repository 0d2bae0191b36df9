-- What a line says of stretches that are not all bytes, each once.
use Rattle.std.specs.Prelude.{◌++◌, ℕ, List, None, Option, Some, codes, decimal}
use Rattle.state_cover.specs.declared.joining.CoverFault.{CoverFault}
use Rattle.state_cover.specs.declared.joining.CoverFault.TheVariants as cover
use Rattle.state_cover.specs.declared.missing.Missing.{Missing}

-- of a source by its number
abbrev pub source_text : ℕ → List ℕ → List ℕ
source_text source said = codes "source " ++ (decimal source ++ said)

abbrev pub cover_text : CoverFault → List ℕ
cover_text cover.Memory = codes "out of memory"
cover_text (cover.Twice source at) = source_text source (codes " from " ++ (decimal at ++ codes " on is twice"))
cover_text (cover.Size source) = source_text source (codes " has another size")
cover_text (cover.Rows source) = source_text source (codes " has too many rows")
cover_text cover.Many = codes "too many stretches"

-- where bytes are missing
abbrev pub place_text : ℕ → Option ℕ → List ℕ
place_text from None = codes " is missing"
place_text from (Some to) = codes " from " ++ (decimal from ++ (codes " to " ++ (decimal to ++ codes " is missing")))

abbrev pub gap_text : Missing → List ℕ
gap_text gap = source_text gap.source (place_text gap.from gap.to)
