-- What the options ask for, or what is wrong with them.
use Rattle.std.specs.Prelude.{◌==◌, ◌&&◌, ◌-◌, ◌∷◌, [], ℕ, Bool, false, true, List, Option, None, Some, Result, Ok, Err, codes, if◌then◌else◌, length, nat_eq, nat_le, nat_lt, option_map, take}
use Rattle.std.specs.Char.{is_ascii_digit}
use Rattle.std.specs.List.{ends_with, list_all}
use Rattle.std.specs.Str.Parse.{digits_value}
use Rattle.shown_words.specs.Taking.{Took}
use Rattle.table_form.specs.Forms.{form_in}
use Rattle.table_form.specs.declared.form.Form.{Form}
use Rattle.table_form.specs.declared.form.Form.TheVariants as written
use Rattle.shown_words.specs.declared.asked.Asked.{Asked}
use Rattle.shown_words.specs.declared.asked.OrderBy.{OrderBy}
use Rattle.shown_words.specs.declared.asked.Wrong.{Wrong}
use Rattle.shown_words.specs.declared.asked.Wrong.TheVariants as wrong
use Rattle.shown_words.specs.declared.taken.Name.{Name}
use Rattle.shown_words.specs.declared.taken.Name.TheVariants as opt

-- an order by the name of a column: whether its texts are integers, and whether the greatest come first
pub record NamedOrder : Type 0 where
  pub name : List ℕ
  pub numeric : Bool
  pub down : Bool

-- an order if one is asked for, the most rows if they are limited, the form, and how many rows that are refused may be left out
pub record NamedShown : Type 0 where
  pub order : Option NamedOrder
  pub limit : Option ℕ
  pub form : Form
  pub skip : ℕ

-- ---- an order

abbrev pub has_end : List ℕ → List ℕ → Bool
has_end text end = ends_with nat_eq text end

abbrev pub without_end : List ℕ → ℕ → List ℕ
without_end text size = take (length text - size) text

-- a text without `:asc` or `:desc` at its end, and whether that was `:desc`
abbrev pub direction_in : List ℕ → List ℕ × Bool
direction_in text =
    if has_end text (codes ":desc") then (without_end text 5, true)
    else (if has_end text (codes ":asc") then (without_end text 4, false) else (text, false))

-- a name, and `:numeric` if it is at the end
abbrev pub named_in : List ℕ × Bool → NamedOrder
named_in text =
    if has_end text.0 (codes ":numeric") then record { name = without_end text.0 8; numeric = true; down = text.1 }
    else record { name = text.0; numeric = false; down = text.1 }

-- a name, and then `:numeric`, and `:asc` or `:desc`, each if it is there
abbrev pub order_in : List ℕ → NamedOrder
order_in text = named_in (direction_in text)

-- ---- a limit

-- the number that one to eighteen digits write
abbrev pub limit_in : List ℕ → Option ℕ
limit_in text = if (nat_lt 0 (length text) && nat_le (length text) 18) && list_all is_ascii_digit text then Some (digits_value 10 text) else None

-- ---- all options

-- the order of the values of `--order`: there may be one, with a name
abbrev pub order_given : List (List ℕ) → Result (Option NamedOrder) Wrong
order_given [] = Ok None
order_given (text ∷ []) = if length (order_in text).name == 0 then Err (wrong.Value opt.Order) else Ok (Some (order_in text))
order_given (text ∷ next ∷ rest) = Err (wrong.Twice opt.Order)

-- the limit of a number, if it is one
abbrev pub limit_by : Option ℕ → Result (Option ℕ) Wrong
limit_by None = Err (wrong.Value opt.Limit)
limit_by (Some limit) = Ok (Some limit)

-- the limit of the values of `--limit`: there may be one
abbrev pub limit_given : List (List ℕ) → Result (Option ℕ) Wrong
limit_given [] = Ok None
limit_given (text ∷ []) = limit_by (limit_in text)
limit_given (text ∷ next ∷ rest) = Err (wrong.Twice opt.Limit)

-- the form of a name, if it is one
abbrev pub form_by : Option Form → Result Form Wrong
form_by None = Err (wrong.Value opt.Output)
form_by (Some form) = Ok form

-- the form of the values of `--output`: there may be one, and without it that is CSV
abbrev pub form_given : List (List ℕ) → Result Form Wrong
form_given [] = Ok written.Csv
form_given (text ∷ []) = form_by (form_in text)
form_given (text ∷ next ∷ rest) = Err (wrong.Twice opt.Output)

-- the number of `--skip-bad`, if it is one
abbrev pub skip_by : Option ℕ → Result ℕ Wrong
skip_by None = Err (wrong.Value opt.SkipBad)
skip_by (Some skip) = Ok skip

-- how many refused rows may be left out, by the values of `--skip-bad`: there may be one, and without it that is none
abbrev pub skip_given : List (List ℕ) → Result ℕ Wrong
skip_given [] = Ok 0
skip_given (text ∷ []) = skip_by (limit_in text)
skip_given (text ∷ next ∷ rest) = Err (wrong.Twice opt.SkipBad)

-- whether `--no-header` is given, by its values: there may be one, which is empty
abbrev pub no_header_given : List (List ℕ) → Result Bool Wrong
no_header_given [] = Ok false
no_header_given ([] ∷ []) = Ok true
no_header_given ((byte ∷ bytes) ∷ []) = Err (wrong.Value opt.NoHeader)
no_header_given (text ∷ next ∷ rest) = Err (wrong.Twice opt.NoHeader)

-- all of them, or the first thing that is wrong: a value that is missing, the order, the limit, the form, the rows to leave out,
-- the header
abbrev pub asked_by : Option Name → Result (Option NamedOrder) Wrong → Result (Option ℕ) Wrong → Result Form Wrong → Result ℕ Wrong → Result Bool Wrong → Result NamedShown Wrong
asked_by (Some name) order limit form skip no_header = Err (wrong.Missing name)
asked_by None (Err w) limit form skip no_header = Err w
asked_by None (Ok order) (Err w) form skip no_header = Err w
asked_by None (Ok order) (Ok limit) (Err w) skip no_header = Err w
asked_by None (Ok order) (Ok limit) (Ok form) (Err w) no_header = Err w
asked_by None (Ok order) (Ok limit) (Ok form) (Ok skip) (Err w) = Err w
asked_by None (Ok order) (Ok limit) (Ok form) (Ok skip) (Ok no_header) = Ok (record { order = order; limit = limit; form = form; skip = skip })

-- what the options ask for
abbrev pub asked_in : Took → Result NamedShown Wrong
asked_in took = asked_by took.next (order_given took.orders) (limit_given took.limits) (form_given took.outputs) (skip_given took.skips) (no_header_given took.no_headers)

-- the same of the values of the code
abbrev pub order_as : OrderBy → NamedOrder
order_as order = record { name = order.name.now; numeric = order.numeric; down = order.down }

abbrev pub asked_as : Asked → NamedShown
asked_as asked = record { order = option_map order_as asked.order; limit = asked.limit; form = asked.form; skip = asked.skip }
