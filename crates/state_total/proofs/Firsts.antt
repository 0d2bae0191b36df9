-- The stretches of a cover up to its first refused row, and why there is no total.
use Rattle.std.proofs.Common.{◌≡◌, ◌<◌, ◌+◌, ◌++◌, ◌∙◌, ℕ, suc, List, ◌∷◌, All, ap, arith, drop, get_or, length, refl, subst, sym, take}
use Rattle.std.proofs.Math.Seq.{drop-cons}
use Rattle.std.proofs.lemmas.List.{take-append-drop, take_all}
use Rattle.std.proofs.lemmas.List.Elements.{All-more}
use Rattle.state_cover.specs.Bytes.{IsMissing, had}
use Rattle.state_cover.specs.declared.missing.Missing.{Missing}
use Rattle.state_head.specs.declared.cover.RefusedRow.{RefusedRow}
use Rattle.state_head.specs.declared.cover.Rows.TheVariants.{Counted, Refused}
use Rattle.state_head.specs.declared.cover.Stretch.{Stretch}
use Rattle.state_total.specs.Total.{AreCounted, IsCounted, IsFirstRefused, LacksBytes}

-- one stretch more whose rows are counted
pub counted_more : (cover : List Stretch) (at rows : ℕ) (s : Stretch) → ((d : Stretch) → s ≡ get_or cover at d) → at < length cover → s.rows ≡ Counted rows → All IsCounted (take at cover) → All IsCounted (take (at + 1) cover)
counted_more cover at rows s is lt counted before = All-more IsCounted cover at s lt before (subst IsCounted (is s) (subst AreCounted (sym counted) tt))

pub all_counted : (cover : List Stretch) (at : ℕ) → at ≡ length cover → All IsCounted (take at cover) → All IsCounted cover
all_counted cover at end before = subst (All IsCounted) (take_all at cover (omega (arith, end))) before

-- the first one that has a refused row
pub first_at : (cover : List Stretch) (at : ℕ) (s : Stretch) (why : RefusedRow) → ((d : Stretch) → s ≡ get_or cover at d) → at < length cover → s.rows ≡ Refused why → All IsCounted (take at cover)
    → IsFirstRefused cover (record { source = s.place.source; why = why })
first_at cover at s why is lt refused before = record {
  front = take at cover;
  s = s;
  rest = drop (suc at) cover;
  is = sym (take-append-drop at cover) ∙ ap (λ (ss : List Stretch). take at cover ++ ss) (drop-cons cover at s lt ∙ ap (λ (x : Stretch). x ∷ drop (suc at) cover) (sym (is s)));
  before = before;
  source = refl;
  refused = refused;
}

-- bytes that are missing
pub lacks : (sources : ℕ) (stretches cover : List Stretch) (gap : Missing) → ((source at : ℕ) → had source at cover ≡ had source at stretches) → IsMissing sources cover gap → LacksBytes sources stretches gap
lacks sources stretches cover gap bytes missing = record { cover = cover; bytes = bytes; missing = missing }
