-- Ranges of which each has taken the groups of a file.
use Rattle.std.proofs.Common.{◌≡◌, ◌<◌, ◌∙◌, Err, Ok, ℕ, List, [], ◌∷◌, All, MatchResult, Result, arith, length, map, refl, slice_index_or, subst, suc, sym}
use Rattle.partial_agg.specs.Groups.{GroupsByKey}
use Rattle.state_blocks.specs.Blocks.{Group, IsBlock, blocks_bytes}
use Rattle.state_body.specs.Body.{groups_of}
use Rattle.state_head.specs.Words.{Keys, keys_of}
use Rattle.state_keep.specs.declared.keep.KeepFault.{KeepFault}
use Rattle.state_keep.specs.declared.keep.KeepFault.TheVariants as fault
use Rattle.state_order.specs.Order.{Rise}
use Rattle.state_order.specs.Ranges.{AreWithin}
use Rattle.state_ranges.specs.Parts.{AreDone, AreRangesOf, HasFault, IsDone, IsFilled, IsRangeOf, ends_of}
use Rattle.state_ranges.specs.declared.maps.RangeMap.{RangeMap}
use Rattle.state_ranges.proofs.Within.{sum_within}
use Rattle.state_whole.specs.Adding.{kept_sum, key_of, sum_with}
use Rattle.state_whole.specs.declared.adding.Shape.{Shape}

later : (shape : Shape) (bytes : List ℕ) (o n : RangeMap) (olds news : List RangeMap) → AreDone shape bytes (o ∷ olds) (n ∷ news) → AreDone shape bytes olds news
later shape bytes o n olds news done = record { count = omega (arith, done.count); each = λ k d lt. done.each (suc k) d (omega (arith, lt)) }

-- the ranges are the same ones
pub same_ends : (shape : Shape) (bytes : List ℕ) (olds news : List RangeMap) → AreDone shape bytes olds news → map ends_of news ≡ map ends_of olds
same_ends shape bytes [] [] done = refl
same_ends shape bytes [] (n ∷ news) done = absurd (omega (arith, done.count))
same_ends shape bytes (o ∷ olds) [] done = absurd (omega (arith, done.count))
same_ends shape bytes (o ∷ olds) (n ∷ news) done =
    let here = (done.each 0 o (omega arith)).ends_are in
    let rest = same_ends shape bytes olds news (later shape bytes o n olds news done) in
    (λ i. here i ∷ rest i)

-- a result that is there
taken : (r : Result Unit KeepFault) (P : Type 0) (Q : KeepFault → Type 0) → r ≡ Ok tt → MatchResult r (λ _. P) Q → P
taken (Ok x) P Q e has = has
taken (Err why) P Q e has = cc

lacks : (r : Result Unit KeepFault) (P : Type 0) (why : KeepFault) → r ≡ Err why → MatchResult r (λ _. P) (λ w. w ≡ fault.Memory) → why ≡ fault.Memory
lacks (Ok x) P why e has = cc
lacks (Err w) P why e has =
    let same : w ≡ why = cc in
    sym same ∙ has

one_done : (shape : Shape) (columns : ℕ) (bytes : List ℕ) (m : GroupsByKey) (bs : List (List Group)) (old new : RangeMap) → IsDone shape bytes old new → IsRangeOf columns m old → All (IsBlock shape.columns shape.kinds.now) bs
    → Rise columns (map key_of (groups_of bs)) → bytes ≡ blocks_bytes shape.kinds.now bs → IsFilled new → IsRangeOf columns (sum_with shape m (groups_of bs)) new
one_done shape columns bytes m bs old new done was all rise e filled =
    let kept = done.kept in
    let groups = groups_of bs in
    let many : kept.columns ≡ columns = done.kept_columns ∙ was.columns_are in
    let rises = subst (λ (n : ℕ). Rise n (map key_of groups)) (sym many) rise in
    let sum : new.map ≡ kept_sum shape kept old.map groups = taken new.filled (new.map ≡ kept_sum shape kept old.map groups) (λ why. why ≡ fault.Memory) filled (done.filled bs all rises e) in
    let here : AreWithin columns (keys_of kept.range) m old.map = subst (λ (k : Keys). AreWithin columns k m old.map) (sym done.kept_ends) was.are_within in
    let before : AreWithin kept.columns (keys_of kept.range) m old.map = subst (λ (n : ℕ). AreWithin n (keys_of kept.range) m old.map) (sym many) here in
    let after = subst (λ (n : ℕ). AreWithin n (keys_of kept.range) (sum_with shape m groups) (kept_sum shape kept old.map groups)) many (sum_within shape kept groups m old.map before) in
    record {
      columns_are = done.columns_are ∙ was.columns_are;
      are_within = subst (AreWithin columns (ends_of new) (sum_with shape m groups)) (sym sum)
          (subst (λ (k : Keys). AreWithin columns k (sum_with shape m groups) (kept_sum shape kept old.map groups)) (done.kept_ends ∙ sym done.ends_are) after);
    }

pub all_done : (shape : Shape) (columns : ℕ) (bytes : List ℕ) (m : GroupsByKey) (bs : List (List Group)) (olds news : List RangeMap) → AreDone shape bytes olds news → AreRangesOf columns m olds → All (IsBlock shape.columns shape.kinds.now) bs
    → Rise columns (map key_of (groups_of bs)) → bytes ≡ blocks_bytes shape.kinds.now bs → All IsFilled news → AreRangesOf columns (sum_with shape m (groups_of bs)) news
all_done shape columns bytes m bs olds news done was all rise e filled = λ k d lt.
    let many = done.count in
    let here : k < length olds = omega (arith, lt, many) in
    one_done shape columns bytes m bs (slice_index_or olds k d) (slice_index_or news k d) (done.each k d here) (was k d here) all rise e (filled k d lt)

-- or there was no memory for one of them
pub one_lacks : (shape : Shape) (columns : ℕ) (bytes : List ℕ) (m : GroupsByKey) (bs : List (List Group)) (olds news : List RangeMap) (why : KeepFault) → AreDone shape bytes olds news → AreRangesOf columns m olds
    → All (IsBlock shape.columns shape.kinds.now) bs → Rise columns (map key_of (groups_of bs)) → bytes ≡ blocks_bytes shape.kinds.now bs → HasFault news why → why ≡ fault.Memory
one_lacks shape columns bytes m bs olds news why done was all rise e has =
    let many = done.count in
    let before = has.before in
    let here : has.k < length olds = omega (arith, before, many) in
    let did = done.each has.k has.or here in
    let old = slice_index_or olds has.k has.or in
    let new = slice_index_or news has.k has.or in
    let rises = subst (λ (n : ℕ). Rise n (map key_of (groups_of bs))) (sym (did.kept_columns ∙ (was has.k has.or here).columns_are)) rise in
    lacks new.filled (new.map ≡ kept_sum shape did.kept old.map (groups_of bs)) why has.has (did.filled bs all rises e)
