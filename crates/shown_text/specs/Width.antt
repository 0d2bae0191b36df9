-- What is said of a row that has not as many fields as the header.
use Rattle.std.specs.Prelude.{◌++◌, ℕ, List, codes, decimal}

-- how many fields the row has, and how many the header
abbrev pub width_text : ℕ → ℕ → List ℕ
width_text fields header = codes "wrong number of fields: " ++ (decimal fields ++ (codes ", the header has " ++ decimal header))
