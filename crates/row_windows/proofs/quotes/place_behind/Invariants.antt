use Rattle.std.proofs.Common.{◌≤◌, ◌*◌}
use Rattle.row_windows.specs.Quotes.{IsScanned, NoQuoteIn}
use Rattle.row_windows.proofs.quotes.place_behind.Given as goal

abbrev pub invariant-blocks-2 : goal.invariant-blocks-2
invariant-blocks-2 l = record {
  scan : IsScanned l.text l.scan;
  low : l.scan.at ≤ l.block * 64;
  before : NoQuoteIn l.text l.scan.at (l.block * 64);
}
