-- A pool as a value, and where the superblocks of its class lie.
use Rattle.std.specs.Prelude.{◌≡◌, ℕ, ◌/◌, ◌+◌, ◌≤◌, Bool, List, Option, IsSomeAnd, refl}
use Rattle.std.specs.Coded.{Coded, code_by, coded×, coded_ℕ, coded_bool, coded_list, coded_option}
use Rattle.atomic_table.specs.Seated.{TableId, table_id_coded}
use Rattle.word_map.specs.WordMap.{HasJust}
use Rattle.region_words.specs.Parts.{Owned}
use Rattle.size_classes.specs.Classes.{class_size, class_objects}
use Rattle.free_pages.specs.Area.{records_at, marks_at, superblock_pages}
use Rattle.span_pools.specs.declared.layout.Layout.{Layout}
use Rattle.span_pools.specs.Places.{base, record_at, superblock_records}
use Rattle.span_pools.specs.Legal.{Span, PoolState}

-- the region, where the superblocks lie, and the state
pub record PoolView : Type 0 where
  pub region : TableId
  pub layout : Layout
  pub state : PoolState

-- the same, from its parts
abbrev pub pool_view : TableId → Layout → PoolState → PoolView
pool_view region layout state = record { region = region; layout = layout; state = state }

-- where the superblocks of a class lie, in an area of this many pages whose page 0 begins at word `first`
abbrev pub layout_of : ℕ → ℕ → ℕ → Layout
layout_of class first pages = record {
  first = first;
  pages = pages;
  size = class_size class / 8;
  objects = class_objects class;
  records = records_at first pages;
  marks = marks_at first pages class;
}

-- the code by which proofs distinguish superblocks
abbrev pub span_code : Coded Span
span_code = code_by (ℕ × List Bool) (coded× coded_ℕ (coded_list coded_bool)) (λ s. (s.page, s.live)) (λ p. record { page = p.0; live = p.1 }) (λ _. refl)

-- the code by which proofs distinguish layouts
abbrev pub layout_code : Coded Layout
layout_code = code_by (ℕ × (ℕ × (ℕ × (ℕ × (ℕ × ℕ))))) (coded× coded_ℕ (coded× coded_ℕ (coded× coded_ℕ (coded× coded_ℕ (coded× coded_ℕ coded_ℕ)))))
    (λ l. (l.first, (l.pages, (l.size, (l.objects, (l.records, l.marks)))))) (λ p. record { first = p.0; pages = p.1.0; size = p.1.1.0; objects = p.1.1.1.0; records = p.1.1.1.1.0; marks = p.1.1.1.1.1 }) (λ _. refl)

-- the code by which proofs distinguish states
abbrev pub pool_state_code : Coded PoolState
pool_state_code = code_by (List Span × Option ℕ) (coded× (coded_list span_code) (coded_option coded_ℕ)) (λ s. (s.spans, s.active)) (λ p. record { spans = p.0; active = p.1 }) (λ _. refl)

-- the code by which proofs distinguish such values
abbrev pub pool_view_code : Coded PoolView
pool_view_code = code_by (TableId × (Layout × (List Span × Option ℕ))) (coded× table_id_coded (coded× layout_code (coded× (coded_list span_code) (coded_option coded_ℕ))))
    (λ b. (b.region, (b.layout, (b.state.spans, b.state.active)))) (λ p. record { region = p.0; layout = p.1.0; state = record { spans = p.1.1.0; active = p.1.1.1 } }) (λ _. refl)

-- the tokens of a superblock: 16 of the pages, with their control records
pub record IsSuperblock (region : TableId) (l : Layout) (at_word pages : ℕ) (words : Owned) (records : Option Owned) : Type 0 where
  pub page : ℕ
  pub at_is : at_word ≡ base l page
  pub inside : page + superblock_pages ≤ l.pages
  pub pages_is : pages ≡ superblock_pages
  pub here : words.region ≡ region
  pub records_are : IsSomeAnd records (λ o. (o.region ≡ region) × HasJust o.words (record_at l page) superblock_records)

-- the superblocks lie in an area of this many pages whose page 0 begins at word `from`
pub record IsOver (l : Layout) (from of_pages : ℕ) : Type 0 where
  pub first : l.first ≡ from
  pub pages : l.pages ≡ of_pages
  pub records : l.records ≡ records_at from of_pages
