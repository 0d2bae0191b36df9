-- What the threads share, and what each of them owns.
use Rattle.std.specs.Prelude.{◌≡◌}
use Rattle.dsa_area.specs.Shown as area
use Rattle.dshash_parts.specs.Tables as table
use Rattle.uses_start.specs.declared.shared.Shared.{Shared}
use Rattle.uses_start.specs.declared.shared.Passes.{Passes}

-- the area and the table are in the region, the table was made with the area, and a key has one word
abbrev pub AreShared : Shared → Type 0
AreShared s = area.IsArea s.region s.area × table.IsTable s.region s.table × table.IsHome s.area s.table × (table.key_words_of s.table ≡ 1)

-- a thread's passes are of this table and this area
abbrev pub AreOf : Shared → Passes → Type 0
AreOf s p = table.Belongs s.table p.table × area.Belongs s.area p.area
