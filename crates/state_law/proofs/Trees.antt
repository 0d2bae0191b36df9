-- What a file says is so, however it came about.
use Rattle.std.specs.Prelude.{get_or}
use Rattle.state_law.specs.Law.{CombinedIsTrue}
use Rattle.state_law.specs.Made.{blank, tile, together, whole}
use Rattle.state_law.specs.Trees.{MadeIsTrue}
use Rattle.state_law.proofs.Blank.{blank_is_true}
use Rattle.state_law.proofs.Laws.{tile_is_true, whole_is_true}

pub made_is_true : CombinedIsTrue → MadeIsTrue
made_is_true combined w g (whole source f read) = whole_is_true w source f read
made_is_true combined w g (tile header p f one cut is read) = tile_is_true w header p f one cut is read
made_is_true combined w g (blank shape f of none empty) = blank_is_true w shape f of none empty
made_is_true combined w g (together files f each few one) = combined w files f (λ k d lt. made_is_true combined w (get_or files k d) (each k d lt)) few one
