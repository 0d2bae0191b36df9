-- What is said of options that are wrong.
use Rattle.std.specs.Prelude.{◌++◌, [], ℕ, List, codes, if◌then◌else◌, slice_index_or}
use Rattle.std.specs.List.{join_by}
use Rattle.shown_text.specs.Shown.{shown_text}
use Rattle.shown_words.specs.Asking.{NamedOrder}
use Rattle.shown_words.specs.Columns.{groups_in, items_in}
use Rattle.shown_words.specs.Taking.{Took}
use Rattle.shown_words.specs.declared.asked.Wrong.{Wrong}
use Rattle.shown_words.specs.declared.asked.Wrong.TheVariants as wrong
use Rattle.shown_words.specs.declared.taken.Name.{Name}
use Rattle.shown_words.specs.declared.taken.Name.TheVariants as opt

-- how an option is written
abbrev pub name_text : Name → List ℕ
name_text opt.Order = codes "--order"
name_text opt.Limit = codes "--limit"
name_text opt.Output = codes "--output"
name_text opt.SkipBad = codes "--skip-bad"
name_text opt.NoHeader = codes "--no-header"

-- what the value of an option may be
abbrev pub values_text : Name → List ℕ
values_text opt.Order = codes "--order takes an item of --agg or a column of --group, as in sum:qty, sum:qty:desc or year:numeric"
values_text opt.Limit = codes "--limit takes a number of one to eighteen digits"
values_text opt.Output = codes "--output takes csv, tsv, json or aligned"
values_text opt.SkipBad = codes "--skip-bad takes a number of one to eighteen digits"
values_text opt.NoHeader = codes "--no-header takes no value"

-- the values that an option was given
abbrev pub values_of : Took → Name → List (List ℕ)
values_of took opt.Order = took.orders
values_of took opt.Limit = took.limits
values_of took opt.Output = took.outputs
values_of took opt.SkipBad = took.skips
values_of took opt.NoHeader = took.no_headers

-- what is wrong, and what the option takes
abbrev pub place_text : Took → Wrong → List ℕ
place_text took (wrong.Missing name) = codes "a word is missing at the end: " ++ values_text name
place_text took (wrong.Twice name) = name_text name ++ codes " is there twice: this option may be given once"
place_text took (wrong.Value name) = shown_text (slice_index_or (values_of took name) 0 []) ++ (codes " is not understood: " ++ values_text name)

-- the same, and how to know more
abbrev pub wrong_text : Took → Wrong → List ℕ
wrong_text took w = place_text took w ++ codes "; see parstream --help"

-- ---- a column that the table has not

-- the columns that may be ordered by: those to group by, and the items too unless it is by integers
abbrev pub names_in : List (List ℕ) → NamedOrder → List (List ℕ)
names_in words order = groups_in words ++ (if order.numeric then [] else items_in words)

-- a name after a comma
abbrev pub after_comma : List ℕ → List ℕ
after_comma name = codes ", " ++ shown_text name

-- names as a line shows them, with commas between them
abbrev pub names_text : List (List ℕ) → List ℕ
names_text names = join_by shown_text (codes ", ") names

-- what comes between the name of an order and those that there are
abbrev pub between_text : NamedOrder → List ℕ
between_text order = if order.numeric then codes " to order by as integers; --group has " else codes " to order by; the table has "

-- what is said of an order by a column that the table has not
abbrev pub column_text : List (List ℕ) → NamedOrder → List ℕ
column_text words order = codes "no column " ++ (shown_text order.name ++ (between_text order ++ names_text (names_in words order)))
