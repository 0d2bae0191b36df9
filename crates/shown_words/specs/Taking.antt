-- The options that say how a table is shown, taken off the words of a command line.
use Rattle.std.specs.Prelude.{◌==◌, ◌++◌, ◌∷◌, [], ℕ, Bool, List, Option, None, Some, bytes_eq, codes, fold, if◌then◌else◌, length, map, nat_lt, option_map, string_bytes}
use Rattle.std.specs.List.{after_first, before_first, list_any}
use Rattle.shown_words.specs.declared.taken.Name.{Name}
use Rattle.shown_words.specs.declared.taken.Name.TheVariants as opt
use Rattle.shown_words.specs.declared.taken.Taken.{Taken}

-- the option of this name
abbrev pub name_in : List ℕ → Option Name
name_in text =
    if bytes_eq text (codes "--order") then Some opt.Order
    else (if bytes_eq text (codes "--limit") then Some opt.Limit
    else (if bytes_eq text (codes "--output") then Some opt.Output
    else (if bytes_eq text (codes "--skip-bad") then Some opt.SkipBad
    else (if bytes_eq text (codes "--no-header") then Some opt.NoHeader else None))))

abbrev pub is_equals : ℕ → Bool
is_equals byte = byte == 61

-- the option that a word names, and its value if it comes after an equals sign in the word
abbrev pub option_in : List ℕ → Option (Name × Option (List ℕ))
option_in word =
    if list_any is_equals word then option_map (λ name. (name, Some (after_first is_equals word))) (name_in (before_first is_equals word))
    else option_map (λ name. (name, None)) (name_in word)

-- the other words, the values of each option, and the option whose value is the next word
pub record Took : Type 0 where
  pub rest : List (List ℕ)
  pub orders : List (List ℕ)
  pub limits : List (List ℕ)
  pub outputs : List (List ℕ)
  pub skips : List (List ℕ)
  pub no_headers : List (List ℕ)
  pub next : Option Name

-- a value more of an option
abbrev pub with_value : Took → Name → List ℕ → Took
with_value took opt.Order value = record { rest = took.rest; orders = took.orders ++ value ∷ []; limits = took.limits; outputs = took.outputs; skips = took.skips; no_headers = took.no_headers; next = None }
with_value took opt.Limit value = record { rest = took.rest; orders = took.orders; limits = took.limits ++ value ∷ []; outputs = took.outputs; skips = took.skips; no_headers = took.no_headers; next = None }
with_value took opt.Output value = record { rest = took.rest; orders = took.orders; limits = took.limits; outputs = took.outputs ++ value ∷ []; skips = took.skips; no_headers = took.no_headers; next = None }
with_value took opt.SkipBad value = record { rest = took.rest; orders = took.orders; limits = took.limits; outputs = took.outputs; skips = took.skips ++ value ∷ []; no_headers = took.no_headers; next = None }
with_value took opt.NoHeader value = record { rest = took.rest; orders = took.orders; limits = took.limits; outputs = took.outputs; skips = took.skips; no_headers = took.no_headers ++ value ∷ []; next = None }

-- an option whose value is the next word; `--no-header` takes none, and is as if its value were empty
abbrev pub with_name : Took → Name → Took
with_name took opt.NoHeader = with_value took opt.NoHeader []
with_name took name = record { rest = took.rest; orders = took.orders; limits = took.limits; outputs = took.outputs; skips = took.skips; no_headers = took.no_headers; next = Some name }

-- a word that names an option or none, after others
abbrev pub took_option : Took → List ℕ → Option (Name × Option (List ℕ)) → Took
took_option took word None = record { rest = took.rest ++ word ∷ []; orders = took.orders; limits = took.limits; outputs = took.outputs; skips = took.skips; no_headers = took.no_headers; next = None }
took_option took word (Some (name, None)) = with_name took name
took_option took word (Some (name, Some value)) = with_value took name value

-- one word more: the value of the option before it, or a word of its own
abbrev pub took_after : Option Name → Took → List ℕ → Took
took_after (Some name) took word = with_value took name word
took_after None took word = took_option took word (option_in word)

abbrev pub took_more : Took → List ℕ → Took
took_more took word = took_after took.next took word

-- what is taken of no words
abbrev pub took_none : Took
took_none = record { rest = []; orders = []; limits = []; outputs = []; skips = []; no_headers = []; next = None }

-- what is taken of these words
abbrev pub took_of : List (List ℕ) → Took
took_of words = fold took_more took_none words

-- what was taken
abbrev pub taken_as : Taken → Took
taken_as taken = record { rest = map string_bytes taken.rest.items; orders = map (λ value. value.now) taken.orders.items; limits = map (λ value. value.now) taken.limits.items; outputs = map (λ value. value.now) taken.outputs.items; skips = map (λ value. value.now) taken.skips.items; no_headers = map (λ value. value.now) taken.no_headers.items; next = taken.next }

-- whether the table is said to have no header
abbrev pub has_no_header : Took → Bool
has_no_header took = nat_lt 0 (length took.no_headers)
