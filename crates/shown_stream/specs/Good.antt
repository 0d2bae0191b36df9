-- What is shown of the table of a query that leaves out rows that are refused.
use Rattle.std.specs.Prelude.{◌∷◌, ℕ, List, Option, Result, Ok, Err, IfSome}
use Rattle.answer_text.specs.Lines.{IsSaid}
use Rattle.good_groups.specs.declared.reading.LeftOut.{LeftOut}
use Rattle.good_stream.specs.Good.{IsGoodText}
use Rattle.good_stream.specs.Said.{left_out_text}
use Rattle.par_model.specs.Table.{table_text}
use Rattle.plan_spec.specs.Query.{Query}
use Rattle.shown_words.specs.Asking.{NamedShown, asked_in}
use Rattle.shown_words.specs.Taking.{Took}
use Rattle.shown_words.specs.declared.asked.Wrong.{Wrong}
use Rattle.stream_groups.specs.Lines.{line}
use Rattle.shown_stream.specs.Shown.{IsFormText}
use Rattle.shown_stream.specs.declared.how.How.{How}

-- how many refused rows may be left out, by what options ask for: none if one of them is wrong
abbrev pub skip_of : Result NamedShown Wrong → ℕ
skip_of (Err wrong) = 0
skip_of (Ok asked) = asked.skip

-- the same by the options that were taken off the words
abbrev pub skip_in : Took → ℕ
skip_in took = skip_of (asked_in took)

-- A query is asked for, at most this many rows of the bytes are refused, and a text has what is shown of the table of the others
pub record IsGoodShownOf (most : ℕ) (how : How) (asked : Option Query) (bytes text : List ℕ) : Type 0 where
  pub header : List (List ℕ)
  pub rows : List (List (List ℕ))
  pub table : IsGoodText most asked bytes (table_text (header ∷ rows))
  pub shown : IsFormText how header rows text

-- a sink was given the line that says which rows were left out, if there are any, or a prefix of it if its faults rose
abbrev pub SaysLeftOut : Option LeftOut → Option (List ℕ) → Option (List ℕ) → ℕ → ℕ → Type 0
SaysLeftOut left_out old new before now = IfSome left_out (λ rows. IsSaid old new before now (line (left_out_text rows)))
