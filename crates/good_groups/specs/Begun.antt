-- What there is after the header of a source.
use Rattle.std.specs.Prelude.{◌≡◌, ◌<◌, ◌≤◌, ◌+◌, ◌^◌, [], ◌∷◌, ℕ, List, Option, Some, IfSome, length, true}
use Rattle.std.specs.Io.KnownBytes.{IsAtEnd}
use Rattle.csv_rows.specs.Readings.{records_as}
use Rattle.csv_rows.specs.Records.{record_at}
use Rattle.split_run.specs.Pieces.{piece_records}
use Rattle.stream_groups.specs.Begins.{IsLined}
use Rattle.stream_groups.specs.Reading.{HasHeader, HasPart, Reaches}
use Rattle.stream_groups.specs.declared.filling.First.{First}
use Rattle.text_lines.specs.Feeds.{count_feeds}
use Rattle.good_groups.specs.Good.{good_records}
use Rattle.good_groups.specs.Opened.{Opened}
use Rattle.good_groups.specs.Sifting.{IsSifting, sifting_left}
use Rattle.good_groups.specs.declared.sieve.Sifting.{Sifting}
use Rattle.good_groups.specs.declared.sifter.Rules.{Rules}

-- the first window of a source, which now has this left
pub record IsFirstOf (o : Opened) (left : Option (List ℕ)) (r : Rules) (f : First) : Type 0 where
  pub line : r.header.now ≡ f.window.header
  pub one : record_at f.header 0 ≡ o.header
  pub header : HasHeader f.header f.window f.is_last
  pub lined : IsLined o.query.reading f.window
  pub few : f.feeds ≤ 2 ^ 60
  pub reaches : Reaches o.query.reading o.from left (piece_records f.window) (f.feeds + count_feeds f.window.lines) f.window.rest f.is_last
  pub part : 0 < length f.window.lines → HasPart o.query.reading o.from left (record_at f.header 0 ∷ []) f.feeds (f.window ∷ []) f.window.rest
  pub end : f.is_last ≡ true → IsAtEnd left
  pub known : IfSome o.from (λ bytes. (rest : List ℕ) × (left ≡ Some rest))

-- it is sifted, and of the bytes of the source the header and the good rows are left
pub record IsBegunOver (o : Opened) (left : Option (List ℕ)) (r : Rules) (s : Sifting) : Type 0 where
  pub is : IsSifting o left r s
  pub fresh : s.lacks ≡ 0
  pub good : IfSome o.from (λ bytes. (text : List ℕ) × (sifting_left r left s ≡ Some text) × (records_as o.query.reading text ≡ good_records o.query (records_as o.query.reading bytes)))
