-- The head of a file of states: the words of the plan, the header, the sources, the cover, the range of keys.
use Rattle.std.specs.Prelude.{◌<◌, ◌≤◌, ◌^◌, ◌++◌, ℕ, List, length}
use Rattle.state_file.specs.Number.{number_bytes}
use Rattle.state_file.specs.Text.{text_bytes}
use Rattle.state_head.specs.Cover.{IsCover, cover_bytes}
use Rattle.state_head.specs.Words.{AreKeys, AreWords, Keys, Words, keys_bytes, keys_of, words_bytes, words_of}
use Rattle.state_head.specs.declared.cover.Stretch.{Stretch}
use Rattle.state_head.specs.declared.head.Head.{Head}
use Rattle.state_head.specs.declared.whole.Whole.{Whole}

-- what the files of all parts of a table say alike: the words of the plan, the header, how many sources there are
pub record Subject : Type 0 where
  pub words : Words
  pub header : List ℕ
  pub sources : ℕ

abbrev pub subject_of : Whole → Subject
subject_of w = record { words = words_of w.words; header = w.header.now; sources = w.sources }

unfoldable pub subject_bytes : Subject → List ℕ
subject_bytes s = words_bytes s.words ++ (text_bytes s.header ++ number_bytes s.sources)

-- a header of at most 2^28 bytes, and 1 to 2^32 - 1 sources
pub record IsSubject (s : Subject) : Type 0 where
  pub are_words : AreWords s.words
  pub header : length s.header ≤ 2 ^ 28
  pub some : 0 < s.sources
  pub few : s.sources < 2 ^ 32

-- what a file says of itself before its groups
pub record Preface : Type 0 where
  pub subject : Subject
  pub cover : List Stretch
  pub keys : Keys

abbrev pub preface_of : Head → Preface
preface_of h = record { subject = subject_of h.whole; cover = h.cover.items; keys = keys_of h.range }

unfoldable pub head_bytes : Preface → List ℕ
head_bytes p = subject_bytes p.subject ++ (cover_bytes p.cover ++ keys_bytes p.keys)

pub record IsHead (p : Preface) : Type 0 where
  pub is_subject : IsSubject p.subject
  pub is_cover : IsCover p.subject.sources p.cover
  pub are_keys : AreKeys p.keys
