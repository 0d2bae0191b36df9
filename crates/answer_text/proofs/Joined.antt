-- The texts of ranges of records, one behind the other.
use Rattle.std.proofs.Common.{◌≡◌, ◌≤◌, ◌<◌, ◌+◌, ◌-◌, ◌*◌, ◌/◌, ◌%◌, ◌++◌, ◌∙◌, ◌⊎◌, inl, inr, ℕ, List, ap, arith, drop, length, map, min, sym, take}
use Rattle.std.proofs.Math.Seq.{drop-append_seam, take-add, take-append_seam}
use Rattle.std.proofs.lemmas.Bool.{cases_lt}
use Rattle.std.proofs.lemmas.List.{length-drop, take_all, take_min}
use Rattle.par_model.specs.Table.{table_text}
use Rattle.answer_text.proofs.RowLines.{rows-cut}

-- as many parts of a size as a division rounded up gives cover all
cover : (all size : ℕ) → 0 < size → all ≤ (all / size + min 1 (all % size)) * size
cover all size some = by (cases_lt 0 (all % size))
  where
    by : (0 < all % size) ⊎ (all % size ≤ 0) → all ≤ (all / size + min 1 (all % size)) * size
    by (inl more) = rw (let e : min 1 (all % size) ≡ 1 = omega arith in e) (omega arith)
    by (inr none) = rw (let e : min 1 (all % size) ≡ 0 = omega arith in e) (omega arith)

module _ {X : Type 0} where
  -- a range that is cut off at the end has the items that there are
  pub range_is : (size start : ℕ) (xs : List X) → take (start + min size (length xs - start) - start) (drop start xs) ≡ take size (drop start xs)
  range_is size start xs =
      let long = length-drop start xs in
      ap (λ (n : ℕ). take n (drop start xs)) (let e : start + min size (length xs - start) - start ≡ min size (length (drop start xs)) = omega (arith, long) in e) ∙ take_min size (drop start xs)

module _ {X : Type 0} (f : X → List (List ℕ)) where
  -- the text of the records of some items
  abbrev pub lines_text : List X → List ℕ
  lines_text items = table_text (map f items)

  lines_text-append : (a b : List X) → lines_text a ++ lines_text b ≡ lines_text (a ++ b)
  lines_text-append a b = (λ i. lines_text (sym (take-append_seam a b) i) ++ lines_text (sym (drop-append_seam a b) i)) ∙ rows-cut f (a ++ b) (length a)

  -- the records up to a place, and a range of those behind it
  pub range-more : (items : List X) (at size : ℕ) → lines_text (take at items) ++ lines_text (take size (drop at items)) ≡ lines_text (take (at + size) items)
  range-more items at size = lines_text-append (take at items) (take size (drop at items)) ∙ ap lines_text (sym (take-add at size items))

  -- the same with the places where a range begins and ends
  pub round-more : (items : List X) (at size : ℕ) → lines_text (take at items) ++ lines_text (take (at + size - at) (drop at items)) ≡ lines_text (take (at + size) items)
  round-more items at size = ap (λ (n : ℕ). lines_text (take at items) ++ lines_text (take n (drop at items))) (let e : at + size - at ≡ size = omega arith in e) ∙ range-more items at size

  -- all ranges
  pub ranges-all : (items : List X) (count size : ℕ) → 0 < size → count ≡ length items / size + min 1 (length items % size) → lines_text (take (count * size) items) ≡ lines_text items
  ranges-all items count size some e =
      let enough : length items ≤ count * size = rw e (cover (length items) size some) in
      ap lines_text (take_all (count * size) items enough)
