-- The one file of files that say what is so can be read.
use Rattle.std.proofs.Common.{◌≡◌, ◌<◌, ◌≤◌, ◌||◌, ◌∙◌, ◌⊎◌, inl, inr, ℕ, Bool, true, false, List, [], ◌∷◌, All, ap, arith, length, length-append, map, refl, subst, sym}
use Rattle.std.specs.FinMap as fin
use Rattle.std.specs.List.{AllZip}
use Rattle.std.proofs.lemmas.Bool.{true≢false}
use Rattle.std.proofs.lemmas.Grind.{flat_map-append}
use Rattle.std.proofs.lemmas.List.Elements.{All-append, All-cons, All-head, All-nil, All-tail}
use Rattle.std.proofs.lemmas.List.Sorted.{IsPermutation-refl}
use Rattle.gather_law.specs.Shares.{together}
use Rattle.partial_agg.specs.Rows.{IsAccepted}
use Rattle.row_blocks.specs.Blocks.{Table}
use Rattle.state_blocks.specs.Blocks.{Group}
use Rattle.state_head.specs.Words.{Keys}
use Rattle.state_head.specs.declared.cover.Rows.{Rows}
use Rattle.state_head.specs.declared.cover.Rows.TheVariants.{Counted, Refused}
use Rattle.state_head.specs.declared.cover.Stretch.{Stretch}
use Rattle.state_lanes.specs.Rows.{LanesComeBack, RowsAreTold}
use Rattle.state_load.specs.Loading.{stretches_of, sum_of}
use Rattle.state_order.specs.Order.{IsIn, Rise}
use Rattle.state_total.specs.Total.{AreCounted, IsCounted}
use Rattle.state_whole.specs.Adding.{IsShapeOf, key_of}
use Rattle.state_whole.specs.Files.{StateFile, tuples_in}
use Rattle.state_whole.specs.Sums.{has_refused, is_refused}
use Rattle.state_whole.specs.declared.adding.Shape.{Shape}
use Rattle.state_law.specs.Sources.{Work, plan_in, rows_at, rows_in, width_in}
use Rattle.state_law.specs.Told.{CombinedIsRead, SumIsTold, all_keys}
use Rattle.state_law.specs.Truth.{AreRowTuples, IsTrueOf}
use Rattle.state_law.proofs.Blank.{no_row_tuples, none_rise}
use Rattle.state_law.proofs.Groups.{counted_accepted, sum_of_shares}
use Rattle.state_law.proofs.Told.{groups_are_told}

-- ---- whether a row of a cover is refused

rows_or : (r : Rows) → AreCounted r ⊎ (AreCounted r → ⊥)
rows_or (Counted rows) = inl tt
rows_or (Refused why) = inr (λ is. is)

counted_or : (cover : List Stretch) → All IsCounted cover ⊎ (All IsCounted cover → ⊥)
counted_or [] = inl (All-nil IsCounted)
counted_or (s ∷ cover) = go (rows_or s.rows) (counted_or cover)
  where
    go : AreCounted s.rows ⊎ (AreCounted s.rows → ⊥) → All IsCounted cover ⊎ (All IsCounted cover → ⊥) → All IsCounted (s ∷ cover) ⊎ (All IsCounted (s ∷ cover) → ⊥)
    go (inl here) (inl rest) = inl (All-cons IsCounted s cover here rest)
    go (inl here) (inr none) = inr (λ all. none (All-tail IsCounted s cover all))
    go (inr none) rest = inr (λ all. none (All-head IsCounted s cover all))

row_counted : (r : Rows) → AreCounted r → is_refused r ≡ false
row_counted (Counted rows) is = refl
row_counted (Refused why) is = absurd is

none_refused : (cover : List Stretch) → All IsCounted cover → has_refused cover ≡ false
none_refused [] all = refl
none_refused (s ∷ cover) all = ap (λ (b : Bool). b || has_refused cover) (row_counted s.rows (All-head IsCounted s cover all)) ∙ none_refused cover (All-tail IsCounted s cover all)

-- ---- the rows of which the tuples of files are

module _ (w : Work) (shape : Shape) (of : IsShapeOf (plan_in w) shape) where
  record HasRows (f : StateFile) : Type 0 where
    pub rows : Table
    pub are : AreRowTuples (plan_in w) rows (tuples_in f)
    pub accepted : All (IsAccepted (plan_in w) (width_in w)) rows
    pub few : length rows ≤ length (rows_in w f.preface.cover)

  has_rows : (f : StateFile) → IsTrueOf w f → HasRows f
  has_rows f is = go (counted_or f.preface.cover)
    where
      go : All IsCounted f.preface.cover ⊎ (All IsCounted f.preface.cover → ⊥) → HasRows f
      go (inl counted) = record { rows = rows_in w f.preface.cover; are = is.counted counted; accepted = counted_accepted w f.preface.cover is.each counted; few = omega arith }
      go (inr refused) = record { rows = []; are = no_row_tuples (plan_in w) shape [] (tuples_in f) of refl (is.refused refused); accepted = All-nil (IsAccepted (plan_in w) (width_in w)); few = omega arith }

  record HaveShares (files : List StateFile) : Type 0 where
    pub shares : List Table
    pub each : AllZip (λ (rows : Table) (f : StateFile). AreRowTuples (plan_in w) rows (tuples_in f)) shares files
    pub accepted : All (IsAccepted (plan_in w) (width_in w)) (together shares)
    pub few : length (together shares) ≤ length (rows_in w (stretches_of files))

  have_shares : (files : List StateFile) → All (IsTrueOf w) files → HaveShares files
  have_shares [] all = record { shares = []; each = tt; accepted = All-nil (IsAccepted (plan_in w) (width_in w)); few = omega arith }
  have_shares (f ∷ files) all =
      let one = has_rows f (All-head (IsTrueOf w) f files all) in
      let rest = have_shares files (All-tail (IsTrueOf w) f files all) in
      let a = one.few in
      let b = rest.few in
      let size = ap (λ (l : Table). length l) (flat_map-append (λ (s : Stretch). rows_at w s.place) f.preface.cover (stretches_of files)) in
      record {
        shares = one.rows ∷ rest.shares;
        each = (one.are, rest.each);
        accepted = All-append (IsAccepted (plan_in w) (width_in w)) one.rows (together rest.shares) one.accepted rest.accepted;
        few = omega (arith, a, b, size, length-append one.rows (together rest.shares), length-append (rows_in w f.preface.cover) (rows_in w (stretches_of files)));
      }

pub sum_is_told : RowsAreTold → LanesComeBack → SumIsTold
sum_is_told told back w shape files of all few =
    let have = have_shares w shape of files all in
    let less = have.few in
    let rows = together have.shares in
    let groups = sum_of_shares (plan_in w) shape of told back (width_in w) have.shares files rows have.each (IsPermutation-refl rows) have.accepted (omega (arith, few, less)) in
    groups_are_told told back (plan_in w) (width_in w) shape rows (sum_of shape fin.empty files) of have.accepted (omega (arith, few, less)) groups

-- ---- the one file

within_all : (columns : ℕ) (keys : Keys) (key : List ℕ) → keys ≡ all_keys → IsIn columns keys key
within_all columns keys key all = record { from = inl (ap (λ (k : Keys). k.low) all); below = inl (ap (λ (k : Keys). k.high) all) }

pub combined_is_read : SumIsTold → CombinedIsRead
combined_is_read sum w files f one all few keys front =
    let told = sum w one.shape files one.is_shape all few in
    record {
      is_front = front;
      are_groups = record {
        is_body = one.is.is_body told;
        in_order = record { rise = rise (counted_or f.preface.cover); each = λ k d lt. within_all one.shape.columns f.preface.keys _ (one.is.keys_are ∙ keys) };
        counted = λ some refused. none some refused (counted_or f.preface.cover);
      };
    }
  where
    rise : All IsCounted f.preface.cover ⊎ (All IsCounted f.preface.cover → ⊥) → Rise one.shape.columns (map key_of (tuples_in f))
    rise (inl counted) = (one.is.counted counted).rise
    rise (inr refused) = subst (λ (l : List Group). Rise one.shape.columns (map key_of l)) (sym (one.is.refused refused)) (none_rise one.shape.columns)

    none : 0 < length (tuples_in f) → has_refused f.preface.cover ≡ true → All IsCounted f.preface.cover ⊎ (All IsCounted f.preface.cover → ⊥) → ⊥
    none some refused (inl counted) = true≢false (sym refused ∙ none_refused f.preface.cover counted)
    none some refused (inr is) = omega (arith, some, ap length (one.is.refused is))
