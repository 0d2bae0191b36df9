-- A run of 16 pages with its records is a superblock for a pool over these pages; one that a pool gives back may be
-- given to the pages.
use Rattle.std.proofs.Common.{◌≡◌, ℕ, ◌+◌, ◌*◌, ◌/◌, ◌%◌, ◌≤◌, true, Option, Some, None, is_some, IsSomeAnd, refl, sym, ap, subst, ◌∙◌, arith}
use Rattle.atomic_table.specs.Seated.{TableId}
use Rattle.word_map.specs.WordMap.{HasJust}
use Rattle.region_words.specs.Parts.{Owned}
use Rattle.free_pages.specs.Area.{page_words, record_words, superblock_pages, records_at, HasRecords}
use Rattle.free_pages.specs.PagesView.{IsRunOf, MayGive}
use Rattle.span_pools.specs.Places.{superblock_records}
use Rattle.span_pools.specs.declared.layout.Layout.{Layout}
use Rattle.size_classes.specs.Classes.{IsClass, class_size}
use Rattle.size_classes.proofs.Sizes.{class_words}
use Rattle.span_pools.specs.PoolView.{IsSuperblock, IsOver, layout_of}

some_records : (region : TableId) (first pages from n : ℕ) (o : Option Owned) → HasRecords region first pages from n true o → IsSomeAnd o (λ x. (x.region ≡ region) × HasJust x.words (records_at first pages + record_words * from) (record_words * n))
some_records region first pages from n (Some o) h = h
some_records region first pages from n None h = absurd h

pub run_is_superblock : (region : TableId) (first pages : ℕ) (l : Layout) (place run_pages : ℕ) (words : Owned) (records : Option Owned) → IsOver l first pages
    → IsRunOf region first pages superblock_pages true place run_pages words records → IsSuperblock region l place run_pages words records
run_is_superblock region first pages l place run_pages words records o r = record {
  page = r.from;
  at_is = r.place_is ∙ ap (λ (z : ℕ). z + page_words * r.from) (sym o.first);
  inside = subst (λ (z : ℕ). r.from + superblock_pages ≤ z) (sym o.pages) r.inside;
  pages_is = r.pages_is;
  here = r.here;
  records_are = subst (λ (z : ℕ). IsSomeAnd records (λ x. (x.region ≡ region) × HasJust x.words (z + record_words * r.from) superblock_records)) (sym o.records) (some_records region first pages r.from superblock_pages records r.records_are);
}

given : (region : TableId) (first pages from : ℕ) (o : Option Owned) → IsSomeAnd o (λ x. (x.region ≡ region) × HasJust x.words (records_at first pages + record_words * from) superblock_records) → HasRecords region first pages from superblock_pages (is_some o) o
given region first pages from (Some o) h = h
given region first pages from None h = absurd h

pub superblock_may_go : (region : TableId) (first pages : ℕ) (l : Layout) (place run_pages : ℕ) (words : Owned) (records : Option Owned) → IsOver l first pages
    → IsSuperblock region l place run_pages words records → MayGive region first pages place run_pages words records
superblock_may_go region first pages l place run_pages words records o s = record {
  here = s.here;
  records_are = λ from at_page inside.
      let same : s.page ≡ from = (let x = s.at_is in let y = o.first in omega arith) in
      subst (λ (z : ℕ). HasRecords region first pages from z (is_some records) records) (sym s.pages_is)
      (subst (λ (z : ℕ). HasRecords region first pages z superblock_pages (is_some records) records) same
      (given region first pages s.page records
      (subst (λ (z : ℕ). IsSomeAnd records (λ x. (x.region ≡ region) × HasJust x.words (z + record_words * s.page) superblock_records)) o.records s.records_are)));
}

-- an object has just the bytes of its class
pub object_bytes : (class first pages : ℕ) → IsClass class → 8 * (layout_of class first pages).size ≡ class_size class
object_bytes class first pages c = whole (class_size class) (class_words class c)
  where
    whole : (x : ℕ) → x % 8 ≡ 0 → 8 * (x / 8) ≡ x
    whole x e = omega arith

pub layout_over : (class first pages : ℕ) → IsOver (layout_of class first pages) first pages
layout_over class first pages = record { first = refl; pages = refl; records = refl }
