use Rattle.std.proofs.Common.{◌≡◌, ◌≤◌, ◌-◌, length, take}
use Rattle.csv_rows.specs.Places.{place_after}
use Rattle.csv_rows.specs.declared.place.Place.TheVariants as place
use Rattle.text_lines.specs.Quotes.{IsLastOpening}
use Rattle.text_lines.proofs.quote.open_quote.Given as goal

abbrev pub invariant-quotes : goal.invariant-quotes
invariant-quotes l = record { within : l.at ≤ length l.text; here : l.place ≡ place_after place.Opens (take l.at l.text); last : IsLastOpening l.text l.at l.last }

abbrev pub decreases-quotes : goal.decreases-quotes
decreases-quotes l = length l.text - l.at
