-- What a join of two tables that are ready says of the bytes that they are from.
use Rattle.std.proofs.Common.{◌≡◌, ◌≢◌, ◌<◌, ◌≤◌, ◌++◌, ◌∷◌, [], ◌∙◌, ℕ, zero, suc, Bool, false, List, Option, None, Some, IfSome, length, map, drop, filter, ap, arith, inr, nat_lt, refl, subst, sym}
use Rattle.std.specs.Prelude.{All, if◌then◌else◌}
use Rattle.std.specs.List.{flat_map}
use Rattle.std.proofs.lemmas.Bool.Decides.{nat_tests}
use Rattle.std.proofs.lemmas.List.Elements.{All-append, All-filter, All-map}
use Rattle.csv_rows.specs.Records.{record_at}
use Rattle.row_blocks.specs.Blocks.{Table, numbers_of}
use Rattle.join_pairs.specs.Join.{AllAccepted, is_pair, joined_records, pairs_of, width_of}
use Rattle.join_pairs.specs.declared.pairs.Pair.{Pair}
use Rattle.scan_claim.specs.Drawing.{below}
use Rattle.hash_join.specs.declared.Joined.{Joined}
use Rattle.par_model.specs.Named.{column_of}
use Rattle.join_query.specs.Outcome.{Outcome, Fails, Joins, IsOfRows, IsOutcome, by_pairs, left_of}
use Rattle.join_query.specs.Ready.{IsReady}
use Rattle.join_query.specs.Stops.{Explains, IsExplained}
use Rattle.join_query.specs.Words.{Asked}
use Rattle.join_query.specs.Writable.{AreWritable, IsFull, IsWritable}
use Rattle.join_query.specs.declared.cause.Cause.TheVariants as cause
use Rattle.join_query.specs.declared.ready.Ready.{Ready}
use Rattle.join_query.specs.declared.stop.Stop.{Stop}
use Rattle.join_query.proofs.Outcomes.{explains_as, of_ready}
use Rattle.join_query.specs.Used.{IsJoinBy, IsJoinOn}

-- ---- the rows of the pairs

-- each record of a table without refused rows has a field
full : (records : Table) (column : ℕ) → column < width_of records → AllAccepted records column → (row : ℕ) → row < length records → IsFull records row
full records column within all zero lt = record { there = lt; some = omega (arith, within) }
full records column within all (suc row) lt =
    let width = (all (suc row) (omega arith, lt)).width in
    record { there = lt; some = omega (arith, within, width) }

-- what holds of each element holds of those of a shorter list, and of a longer one made of such lists
All-tail : {X : Type 0} (P : X → Type 0) (x : X) (xs : List X) → All P (x ∷ xs) → All P xs
All-tail P x xs all = λ k d lt. all (suc k) d (omega (arith, lt))

All-drop : {X : Type 0} (P : X → Type 0) (xs : List X) → All P xs → All P (drop 1 xs)
All-drop P [] all = all
All-drop P (x ∷ xs) all = All-tail P x xs all

All-none : {X : Type 0} (P : X → Type 0) → All P []
All-none P = λ k d lt. absurd (omega (arith, lt))

All-one : {X : Type 0} (P : X → Type 0) (x : X) → P x → All P (x ∷ [])
All-one P x is zero d lt = is
All-one P x is (suc k) d lt = absurd (omega (arith, lt))

All-flat : {X Y : Type 0} (P : Y → Type 0) (f : X → List Y) (xs : List X) → All (λ x. All P (f x)) xs → All P (flat_map f xs)
All-flat P f [] all = All-none P
All-flat P f (x ∷ xs) all =
    let first : All P (f x) = all 0 x (omega arith) in
    All-append P (f x) (flat_map f xs) first (All-flat P f xs (All-tail (λ x. All P (f x)) x xs all))

All-wider : {X : Type 0} (P Q : X → Type 0) → ((x : X) → P x → Q x) → (xs : List X) → All P xs → All Q xs
All-wider P Q widen xs all = λ k d lt. widen _ (all k d lt)

below_all : (n : ℕ) → All (λ row. row < n) (below n)
below_all zero = All-none (λ row. row < 0)
below_all (suc n) = All-append (λ row. row < suc n) (below n) (n ∷ []) (All-wider (λ row. row < n) (λ row. row < suc n) (λ row lt. omega (arith, lt)) (below n) (below_all n)) (All-one (λ row. row < suc n) n (omega arith))

numbers_all : (records : Table) → All (λ row. row < length records) (numbers_of records)
numbers_all records = All-drop (λ row. row < length records) (below (length records)) (below_all (length records))

module _ (left right : Table) (l r : ℕ) where
  pairs_writable : l < width_of left → r < width_of right → AllAccepted left l → AllAccepted right r → AreWritable left right (pairs_of left right l r)
  pairs_writable l_within r_within of_left of_right =
      let pairs : ℕ → List Pair = λ row. map (λ other. record { left = row; right = other }) (filter (is_pair left right l r row) (numbers_of right)) in
      All-flat (IsWritable left right) pairs (numbers_of left)
      (All-wider (λ row. row < length left) (λ row. All (IsWritable left right) (pairs row))
      (λ row lt. All-map (IsWritable left right) (λ other. record { left = row; right = other }) (filter (is_pair left right l r row) (numbers_of right))
      (All-filter (is_pair left right l r row) (λ other. IsWritable left right (record { left = row; right = other })) (numbers_of right)
      (All-wider (λ other. other < length right) (λ other. IsWritable left right (record { left = row; right = other }))
      (λ other there. record { of_left = full left l l_within of_left row lt; of_right = full right r r_within of_right other there }) (numbers_of right) (numbers_all right))))
      (numbers_of left) (numbers_all left))

  -- those of a join can be written
  pub joined_writable : (workers : ℕ) (j : Joined) → l < width_of left → r < width_of right → IsJoinOn left right l r workers j → AreWritable left right j.pairs
  joined_writable workers j l_within r_within on = subst (AreWritable left right) (sym on.pairs) (pairs_writable l_within r_within on.left_rows on.right_rows)

  -- their table is the outcome of the rows
  pub joined_rows : (workers : ℕ) (j : Joined) → IsJoinOn left right l r workers j → IsOfRows left right l r (Joins (joined_records left right j.pairs))
  joined_rows workers j on =
      let count = ap length on.pairs in
      let few = on.few in
      let within : length (pairs_of left right l r) ≤ 1048576 = omega (arith, count, few) in
      let fits : nat_lt 1048576 (length (pairs_of left right l r)) ≡ false = grind (arith, nat_tests, within) in
      let is : by_pairs left right l r ≡ Joins (joined_records left right (pairs_of left right l r)) =
      ap (λ (b : Bool). if b then Fails cause.TooManyPairs else Joins (joined_records left right (pairs_of left right l r))) fits in
      inr (on.left_rows, on.right_rows, ap (λ (pairs : List Pair). Joins (joined_records left right pairs)) on.pairs ∙ sym is)

-- ---- the bytes

module _ (asked : Asked) (left : Option (List ℕ)) (ready : Ready) where
  -- an outcome of the rows is that of the bytes
  of_bytes : (bytes : List ℕ) (o : Outcome) → IsReady asked.column bytes ready → IsOfRows ready.left ready.right ready.left_column ready.right_column o → IsOutcome (Some asked) bytes o
  of_bytes bytes o is rows = inr (is.within, of_ready asked.column bytes ready o is rows)

  widened : (here : Option (List ℕ)) (why : Stop) → IfSome here (λ bytes. IsReady asked.column bytes ready) → Explains (IsOfRows ready.left ready.right ready.left_column ready.right_column) why → IsExplained (Some asked) here why
  widened None why is explains = tt
  widened (Some bytes) why is explains =
      explains_as (IsOfRows ready.left ready.right ready.left_column ready.right_column) (IsOutcome (Some asked) bytes) (λ o rows. of_bytes bytes o is rows) why explains

  pub explained_rows : (why : Stop) → IfSome left (λ bytes. IsReady asked.column bytes ready) → Explains (IsOfRows ready.left ready.right ready.left_column ready.right_column) why → IsExplained (Some asked) left why
  explained_rows = widened left

  recorded : (here : Option (List ℕ)) (P : Table → Type 0) (records : Table) → IfSome here (λ bytes. IsReady asked.column bytes ready) → IsOfRows ready.left ready.right ready.left_column ready.right_column (Joins records) → P records
      → IfSome here (λ bytes. (records : Table) × IsOutcome (Some asked) bytes (Joins records) × P records)
  recorded None P records is rows holds = tt
  recorded (Some bytes) P records is rows holds = (records, of_bytes bytes (Joins records) is rows, holds)

  -- what holds of the records of the pairs holds of the outcome
  pub joined_records_are : (P : Table → Type 0) (workers : ℕ) (j : Joined) → IfSome left (λ bytes. IsReady asked.column bytes ready) → IsJoinOn ready.left ready.right ready.left_column ready.right_column workers j
      → P (joined_records ready.left ready.right j.pairs) → IfSome left (λ bytes. (records : Table) × IsOutcome (Some asked) bytes (Joins records) × P records)
  joined_records_are P workers j is on holds =
      recorded left P (joined_records ready.left ready.right j.pairs) is (joined_rows ready.left ready.right ready.left_column ready.right_column workers j on) holds

  flat : (here : Option (List ℕ)) (P : Table → ℕ → Type 0) → IfSome here (λ bytes. (records : Table) × IsOutcome (Some asked) bytes (Joins records) × ((n : ℕ) × P records n))
      → IfSome here (λ bytes. (records : Table) × IsOutcome (Some asked) bytes (Joins records) × (n : ℕ) × P records n)
  flat None P is = tt
  flat (Some bytes) P is = (is.0, is.1, is.2.0, is.2.1)

  -- likewise of some number
  pub joined_part_is : (P : Table → ℕ → Type 0) (workers : ℕ) (j : Joined) → IfSome left (λ bytes. IsReady asked.column bytes ready) → IsJoinOn ready.left ready.right ready.left_column ready.right_column workers j
      → ((n : ℕ) × P (joined_records ready.left ready.right j.pairs) n) → IfSome left (λ bytes. (records : Table) × IsOutcome (Some asked) bytes (Joins records) × (n : ℕ) × P records n)
  joined_part_is P workers j is on holds = flat left P (joined_records_are (λ records. (n : ℕ) × P records n) workers j is on holds)

  made : (here : Option (List ℕ)) (j : Joined) → IfSome here (λ bytes. IsReady asked.column bytes ready) → IsJoinOn ready.left ready.right ready.left_column ready.right_column asked.workers j → IfSome here (λ bytes. IsJoinBy (Some asked) bytes j)
  made None j is on = tt
  made (Some bytes) j is on = record {
    place = is.place;
    cut = is.cut;
    l = ready.left_column;
    r = ready.right_column;
    left_column = subst (λ (t : Table). column_of (record_at t 0) asked.column ≡ Some ready.left_column) is.left_is is.columns.left_is;
    right_column = subst (λ (t : Table). column_of (record_at t 0) asked.column ≡ Some ready.right_column) is.right_is is.columns.right_is;
    on = subst (λ (t : Table). IsJoinOn (left_of bytes is.place) t ready.left_column ready.right_column asked.workers j) is.right_is
        (subst (λ (t : Table). IsJoinOn t ready.right ready.left_column ready.right_column asked.workers j) is.left_is on);
  }

  -- and the join is that of the bytes
  pub joined_by : (j : Joined) → IfSome left (λ bytes. IsReady asked.column bytes ready) → IsJoinOn ready.left ready.right ready.left_column ready.right_column asked.workers j → IfSome left (λ bytes. IsJoinBy (Some asked) bytes j)
  joined_by = made left
