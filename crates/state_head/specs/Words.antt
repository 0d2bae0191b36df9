-- What a file of states is of: the words of a plan, and a range of keys. An empty text is one that was not given.
use Rattle.std.specs.Prelude.{◌≤◌, ◌^◌, ◌++◌, ℕ, List, length}
use Rattle.state_file.specs.Text.{text_bytes}
use Rattle.state_head.specs.declared.words.KeyRange.{KeyRange}
use Rattle.state_head.specs.declared.words.PlanWords.{PlanWords}

-- two texts, one after the other
unfoldable pub pair_bytes : List ℕ → List ℕ → List ℕ
pair_bytes a b = text_bytes a ++ text_bytes b

-- the words of `--group`, `--agg`, `--where` and `--decimals`
pub record Words : Type 0 where
  pub group : List ℕ
  pub agg : List ℕ
  pub filter : List ℕ
  pub decimals : List ℕ

abbrev pub words_of : PlanWords → Words
words_of w = record { group = w.group.now; agg = w.agg.now; filter = w.filter.now; decimals = w.decimals.now }

abbrev pub words_bytes : Words → List ℕ
words_bytes w = pair_bytes w.group w.agg ++ pair_bytes w.filter w.decimals

-- words of at most 2^20 bytes each
pub record AreWords (w : Words) : Type 0 where
  pub group : length w.group ≤ 2 ^ 20
  pub agg : length w.agg ≤ 2 ^ 20
  pub filter : length w.filter ≤ 2 ^ 20
  pub decimals : length w.decimals ≤ 2 ^ 20

-- the encoded key from which on, and that below which, there are groups
pub record Keys : Type 0 where
  pub low : List ℕ
  pub high : List ℕ

abbrev pub keys_of : KeyRange → Keys
keys_of r = record { low = r.low.now; high = r.high.now }

abbrev pub keys_bytes : Keys → List ℕ
keys_bytes k = pair_bytes k.low k.high

-- keys of at most 248 bytes
pub record AreKeys (k : Keys) : Type 0 where
  pub low : length k.low ≤ 248
  pub high : length k.high ≤ 248
