use Rattle.std.proofs.Common.{◌≡◌, ◌<◌, take, true}
use Rattle.std.specs.Char.{is_ascii_digit}
use Rattle.std.specs.List.{list_all}
use Rattle.std.specs.Str.Parse.{digits_value}
use Rattle.state_partial.specs.declared.words.TheConstants.{PAST_PLACES}
use Rattle.state_partial.proofs.words.place_of.Given as goal

abbrev pub invariant-digits : goal.invariant-digits
invariant-digits l = record {
  digits : list_all is_ascii_digit (take l.digit-index l.digits) ≡ true;
  value : l.value ≡ digits_value 10 (take l.digit-index l.digits);
  low : l.value < PAST_PLACES;
}
