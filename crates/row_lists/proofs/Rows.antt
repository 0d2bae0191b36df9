-- Rows as bytes, and read back.
use Rattle.std.proofs.Common.{◌≡◌, ◌≤◌, ◌+◌, ◌++◌, ◌∙◌, ◌∷◌, ◌⊎◌, [], inl, inr, ℕ, ℤ, zero, suc, List, Option, ap, append_assoc, arith, drop, get_or, length, length-append, pos, refl, subst, sym, take}
use Rattle.std.specs.List.{AllByRecursion, flat_map}
use Rattle.std.proofs.Math.Seq.{drop-append-add, get_or-append_seam, take-append_seam}
use Rattle.std.proofs.lemmas.List.{flat_map_more}
use Rattle.row_lists.specs.Carried.{AreRows, Carried, IsCarried, after_values, carried, row_bytes, rows_from, rows_in, values_bytes, values_in}
use Rattle.key_index.specs.Front.{IsFrontOf}
use Rattle.row_lists.proofs.Values.{after_back, values_back}

-- the bytes of a row and more: those after the row's length, with the key in front
pub split : (row : Carried) (more : List ℕ) → row_bytes row ++ more ≡ length row.key ∷ (row.key ++ length row.values ∷ (values_bytes (pos 0) row.values ++ more))
split row more = ap (λ (bytes : List ℕ). length row.key ∷ bytes) (append_assoc row.key (length row.values ∷ values_bytes (pos 0) row.values) more)

pub row_back : (most : ℕ) (row : Carried) (more : List ℕ) → IsCarried row → rows_from (suc most) (row_bytes row ++ more) ≡ row ∷ rows_from most more
unfolding rows_from
row_back most row more h = ap (rows_from (suc most)) (split row more) ∙ together
  where
    size : ℕ
    size = length row.key

    values : List ℕ
    values = values_bytes (pos 0) row.values ++ more

    rest : List ℕ
    rest = row.key ++ length row.values ∷ values

    key : take size rest ≡ row.key
    key = take-append_seam row.key (length row.values ∷ values)

    count : get_or rest size 0 ≡ length row.values
    count = get_or-append_seam row.key (length row.values) values 0

    after : drop (size + 1) rest ≡ values
    after = drop-append-add row.key (length row.values ∷ values) 1

    read : values_in (get_or rest size 0) (pos 0) (drop (size + 1) rest) ≡ row.values
    read = ap (λ (n : ℕ). values_in n (pos 0) (drop (size + 1) rest)) count ∙ ap (values_in (length row.values) (pos 0)) after ∙ values_back (pos 0) row.values more h.whole

    left : after_values (get_or rest size 0) (drop (size + 1) rest) ≡ more
    left = ap (λ (n : ℕ). after_values n (drop (size + 1) rest)) count ∙ ap (after_values (length row.values)) after ∙ after_back (pos 0) row.values more

    together : rows_from (suc most) (size ∷ rest) ≡ row ∷ rows_from most more
    together = λ i. carried (key i) (read i) ∷ rows_from most (left i)

pub rows_back : (rows : List Carried) (most : ℕ) → AllByRecursion IsCarried rows → length rows ≤ most → rows_from most (flat_map row_bytes rows) ≡ rows
unfolding rows_from
rows_back [] zero h le = refl
rows_back [] (suc most) h le = refl
rows_back (row ∷ rows) zero h le = absurd (omega (arith, le))
rows_back (row ∷ rows) (suc most) h le =
    row_back most row (flat_map row_bytes rows) h.0 ∙ ap (λ (rs : List Carried). row ∷ rs) (rows_back rows most h.1 (omega (arith, le)))

-- each row has a byte
pub row_long : (rows : List Carried) → length rows ≤ length (flat_map row_bytes rows)
row_long [] = omega arith
row_long (row ∷ rows) = omega (arith, row_long rows, length-append (row_bytes row) (flat_map row_bytes rows))

pub rows_in-is : (rows : List Carried) → AllByRecursion IsCarried rows → rows_in (flat_map row_bytes rows) ≡ rows
rows_in-is rows h = rows_back rows (length (flat_map row_bytes rows)) h (row_long rows)

pub are_rows : (rows : List Carried) → AllByRecursion IsCarried rows → AreRows (flat_map row_bytes rows)
are_rows rows h = record {
  each = subst (AllByRecursion IsCarried) (sym (rows_in-is rows h)) h;
  are = ap (flat_map row_bytes) (rows_in-is rows h);
}

-- ---- one more row

all_more : (rows : List Carried) (row : Carried) → AllByRecursion IsCarried rows → IsCarried row → AllByRecursion IsCarried (rows ++ row ∷ [])
all_more [] row h k = (k, tt)
all_more (first ∷ rows) row h k = (h.0, all_more rows row h.1 k)

more_bytes : (bytes : List ℕ) (row : Carried) → AreRows bytes → bytes ++ row_bytes row ≡ flat_map row_bytes (rows_in bytes ++ row ∷ [])
more_bytes bytes row h = ap (λ (bs : List ℕ). bs ++ row_bytes row) (sym h.are) ∙ flat_map_more row_bytes [] (rows_in bytes) row

pub push_are : (bytes : List ℕ) (row : Carried) → AreRows bytes → IsCarried row → AreRows (bytes ++ row_bytes row)
push_are bytes row h k = subst AreRows (sym (more_bytes bytes row h)) (are_rows (rows_in bytes ++ row ∷ []) (all_more (rows_in bytes) row h.each k))

pub push_is : (bytes : List ℕ) (row : Carried) → AreRows bytes → IsCarried row → rows_in (bytes ++ row_bytes row) ≡ rows_in bytes ++ row ∷ []
push_is bytes row h k = ap rows_in (more_bytes bytes row h) ∙ rows_in-is (rows_in bytes ++ row ∷ []) (all_more (rows_in bytes) row h.each k)

-- ---- the first row

pub record HasFirst (bytes : List ℕ) : Type 0 where
  pub row : Carried
  pub more : List ℕ
  pub is : bytes ≡ row_bytes row ++ more
  pub fits : IsCarried row
  pub rows : rows_in bytes ≡ row ∷ rows_in more
  pub left : AreRows more

pub first : (bytes : List ℕ) → AreRows bytes → (bytes ≡ []) ⊎ HasFirst bytes
first bytes h = by (rows_in bytes) refl h.each h.are
  where
    by : (rows : List Carried) → rows_in bytes ≡ rows → AllByRecursion IsCarried rows → flat_map row_bytes rows ≡ bytes → (bytes ≡ []) ⊎ HasFirst bytes
    by [] same each are = inl (sym are)
    by (row ∷ rows) same each are = inr (record {
      row = row;
      more = flat_map row_bytes rows;
      is = sym are;
      fits = each.0;
      rows = same ∙ ap (λ (rs : List Carried). row ∷ rs) (sym (rows_in-is rows each.1));
      left = are_rows rows each.1;
    })

-- ---- bytes after a front are cut off

pub cut_back : (old new : List ℕ) (n : ℕ) → n ≡ length old → IsFrontOf old new → take n new ≡ old
cut_back old new n e f = ap (take n) f.is ∙ ap (λ (k : ℕ). take k (old ++ f.rest)) e ∙ take-append_seam old f.rest

-- ---- the row that a cursor gives

pub some_first : (bytes : List ℕ) → AreRows bytes → (bytes ≡ [] → ⊥) → HasFirst bytes
some_first bytes h some = by (first bytes h)
  where
    by : (bytes ≡ []) ⊎ HasFirst bytes → HasFirst bytes
    by (inl none) = absurd (some none)
    by (inr f) = f

pub next_is : (bytes : List ℕ) (f : HasFirst bytes) (key : List ℕ) (values : List (Option ℤ)) (left : List ℕ) → key ≡ f.row.key → values ≡ f.row.values → left ≡ f.more → rows_in bytes ≡ carried key values ∷ rows_in left
next_is bytes f key values left a b c = f.rows ∙ (λ i. carried (sym a i) (sym b i) ∷ rows_in (sym c i))

-- the values came to the front of others
pub front_is : (count : ℕ) (new values rest : List (Option ℤ)) → count ≡ length values → new ≡ values → take count (new ++ rest) ≡ values
front_is count new values rest many same = (λ i. take (many i) (same i ++ rest)) ∙ take-append_seam values rest

-- no bytes are left if they begin with no row
pub none_left : (bytes : List ℕ) → AreRows bytes → ((row : Carried) (more : List ℕ) → IsCarried row → bytes ≡ row_bytes row ++ more → ⊥) → rows_in bytes ≡ []
unfolding rows_from
none_left bytes h none = by (first bytes h)
  where
    by : (bytes ≡ []) ⊎ HasFirst bytes → rows_in bytes ≡ []
    by (inl e) = ap rows_in e
    by (inr f) = absurd (none f.row f.more f.fits f.is)
