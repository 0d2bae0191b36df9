-- Which form of the program a command line names.
use Rattle.std.specs.Prelude.{◌==◌, ◌+◌, ◌&&◌, ◌||◌, ℕ, Bool, false, List, [], ◌∷◌, None, Option, Some, bytes_eq, codes, get_or, if◌then◌else◌, length, nat_lt}
use Rattle.state_query.specs.Inputs.{AreOneFile, IsTableOf}
use Rattle.state_query.specs.Ranges.{IsRangeText, IsRangeWhy}
use Rattle.state_query.specs.Whys.{IsWhy}
use Rattle.state_query.specs.declared.stop.Stop.{Stop}
use Rattle.state_forms.specs.declared.forms.Form.{Form}
use Rattle.state_forms.specs.declared.forms.Form.TheVariants as form

-- whether the word at a place is this option, and one that is not empty comes after it
abbrev pub has_end : List (List ℕ) → ℕ → List ℕ → Bool
has_end words at option = bytes_eq (get_or words at []) option && nat_lt 0 (length (get_or words (at + 1) []))

-- whether the words after the first name one end of a range or both, the low one first
abbrev pub is_range : List (List ℕ) → Bool
is_range words =
    if length words == 3
    then has_end words 1 (codes "--above") || has_end words 1 (codes "--below")
    else (if length words == 5 then has_end words 1 (codes "--above") && has_end words 3 (codes "--below") else false)

-- the ends, each empty if there is none
abbrev pub above_in : List (List ℕ) → List ℕ
above_in words = if has_end words 1 (codes "--above") then get_or words 2 [] else []

abbrev pub below_in : List (List ℕ) → List ℕ
below_in words = if has_end words 1 (codes "--below") then get_or words 2 [] else (if has_end words 3 (codes "--below") then get_or words 4 [] else [])

-- the form of words of which the first is its name
abbrev pub combine_in : List (List ℕ) → Form
combine_in words = if length words == 1 then form.Combine else form.Misused

abbrev pub finalize_in : List (List ℕ) → Form
finalize_in words = if length words == 1 then form.Finalize else (if is_range words then form.Range else form.Misused)

-- the form of the words after the program's name
abbrev pub form_in : List (List ℕ) → Option Form
form_in [] = None
form_in (word ∷ more) =
    if bytes_eq word (codes "combine")
    then Some (combine_in (word ∷ more))
    else (if bytes_eq word (codes "finalize") then Some (finalize_in (word ∷ more)) else None)

-- what a form makes of the bytes of files: one file, or the text of a table, or of a range of it
abbrev pub IsMadeBy : Form → List (List ℕ) → List ℕ → List ℕ → Type 0
IsMadeBy form.Combine words bytes file = AreOneFile bytes file
IsMadeBy form.Finalize words bytes text = IsTableOf bytes text
IsMadeBy form.Range words bytes text = IsRangeText (above_in words) (below_in words) bytes text
IsMadeBy form.Misused words bytes text = ⊥

-- why it makes nothing
abbrev pub IsFormWhy : Form → List (List ℕ) → List ℕ → Stop → Type 0
IsFormWhy form.Combine words bytes why = IsWhy bytes why
IsFormWhy form.Finalize words bytes why = IsWhy bytes why
IsFormWhy form.Range words bytes why = IsRangeWhy (above_in words) (below_in words) bytes why
IsFormWhy form.Misused words bytes why = ⊥

abbrev pub usage_line : List ℕ
usage_line = codes "parstream: usage: parstream combine < STATES, or parstream finalize [--above RECORD] [--below RECORD] < STATES\n"
