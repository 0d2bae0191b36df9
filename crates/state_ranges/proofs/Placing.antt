-- Ranges put one after another, without groups.
use Rattle.std.proofs.Common.{◌≡◌, ◌++◌, ◌∙◌, ℕ, List, [], ◌∷◌, ap, map, subst, sym}
use Rattle.std.proofs.lemmas.List.{map-append}
use Rattle.std.proofs.lemmas.List.Elements.{All-push}
use Rattle.std.specs.FinMap as finite
use Rattle.state_head.specs.Words.{Keys}
use Rattle.state_order.specs.Ranges.{AreWithin}
use Rattle.state_ranges.specs.Parts.{AreRangesOf, IsRangeOf, ends_of}
use Rattle.state_ranges.specs.declared.maps.RangeMap.{RangeMap}
use Rattle.state_ranges.proofs.Within.{none_within}

-- a range without groups
none_in : (columns : ℕ) (r : RangeMap) → r.columns ≡ columns → r.map ≡ finite.empty → IsRangeOf columns finite.empty r
none_in columns r same none = record {
  columns_are = same;
  are_within = subst (AreWithin columns (ends_of r) finite.empty) (sym none) (none_within columns (ends_of r));
}

pub put_none : (columns : ℕ) (olds news : List RangeMap) (r : RangeMap) → news ≡ olds ++ r ∷ [] → r.columns ≡ columns → r.map ≡ finite.empty → AreRangesOf columns finite.empty olds → AreRangesOf columns finite.empty news
put_none columns olds news r is same none all =
    subst (AreRangesOf columns finite.empty) (sym is) (All-push (IsRangeOf columns finite.empty) olds r all (none_in columns r same none))

pub put_ends : (olds news : List RangeMap) (r : RangeMap) (low high : List ℕ) → news ≡ olds ++ r ∷ [] → r.low.items ≡ low → r.high.items ≡ high → map ends_of news ≡ map ends_of olds ++ (record { low = low; high = high }) ∷ []
put_ends olds news r low high is from to =
    let ends : ends_of r ≡ record { low = low; high = high } = (λ i. record { low = from i; high = to i }) in
    ap (map ends_of) is ∙ map-append ends_of olds (r ∷ []) ∙ ap (λ (k : Keys). map ends_of olds ++ k ∷ []) ends
