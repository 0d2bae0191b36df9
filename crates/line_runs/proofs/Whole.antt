-- Columns that lie wholly in some bytes are read the same whatever comes after them, and unequal numbers of the next column
-- decide the order of two keys.
use Rattle.std.proofs.Common.{◌≡◌, ◌<◌, ◌≤◌, ◌+◌, ◌-◌, ◌∙◌, ◌∷◌, ◌++◌, ◌⊎◌, [], ℕ, zero, suc, List, inl, inr, ap, arith, append_assoc, drop, length, length-append, refl, subst, sym, take}
use Rattle.std.proofs.Math.Seq.{drop-append_seam, take-append_seam}
use Rattle.std.proofs.lemmas.Cmp.{nat_list_cmp_total, tied_itself}
use Rattle.std.proofs.lemmas.List.{length-take-le, take-append-drop}
use Rattle.std.specs.Cmp.{nat_cmp_is}
use Rattle.std.specs.Int.{from_le_bytes, w32}
use Rattle.std.specs.Ordering.{nat_cmp, ordering_reverse, ordering_then}
use Rattle.std.specs.declared.cmp.Ordering.{Ordering}
use Rattle.std.specs.declared.cmp.Ordering.TheVariants.{Less, Equal, Greater}
use Rattle.par_model.specs.Table.{columns_cmp}
use Rattle.key_index.specs.Front.{leading}
use Rattle.key_index.specs.Keys.{key_cmp}
use Rattle.key_index.proofs.Front.{less}
use Rattle.key_index.proofs.Index.{three}
use Rattle.result_text.specs.KeyColumns.{after_first_column, columns_in, first_column, first_size}
use Rattle.result_text.proofs.Columns.{columns_total}
use Rattle.line_runs.specs.Order.{IsNumberOf, IsWhole}
use Rattle.line_runs.specs.declared.order.Shared.{Shared}
use Rattle.line_runs.proofs.Numbers.{cmp-behind}

-- ---- one column

-- bytes that begin with a whole column: what lies in front of the rest is read as that column, whatever comes after it
pub record BeginsWhole (left : List ℕ) : Type 0 where
  pub front : List ℕ
  pub is : left ≡ front ++ after_first_column left
  pub first : (rest : List ℕ) → first_column (front ++ rest) ≡ first_column left
  pub after : (rest : List ℕ) → after_first_column (front ++ rest) ≡ rest

pub begins_whole : (left : List ℕ) → 4 ≤ length left → first_size left ≤ length (drop 4 left) → BeginsWhole left
begins_whole [] four fits = absurd (omega arith)
begins_whole (a ∷ []) four fits = absurd (omega arith)
begins_whole (a ∷ b ∷ []) four fits = absurd (omega arith)
begins_whole (a ∷ b ∷ c ∷ []) four fits = absurd (omega arith)
begins_whole (a ∷ b ∷ c ∷ d ∷ tail) four fits =
    let n : ℕ = from_le_bytes w32 (a ∷ b ∷ c ∷ d ∷ []) in
    let long : length (take n tail) ≡ n = length-take-le n tail fits in
    record {
      front = a ∷ b ∷ c ∷ d ∷ take n tail;
      is = ap (λ (t : List ℕ). a ∷ b ∷ c ∷ d ∷ t) (sym (take-append-drop n tail));
      first = λ rest. subst (λ (m : ℕ). take m (take n tail ++ rest) ≡ take n tail) long (take-append_seam (take n tail) rest);
      after = λ rest. subst (λ (m : ℕ). drop m (take n tail ++ rest) ≡ rest) long (drop-append_seam (take n tail) rest);
    }

-- ---- some columns

-- bytes in front of others that are read as some columns, whatever comes after them
pub record ReadsFirst (low left : List ℕ) (count : ℕ) : Type 0 where
  pub front : List ℕ
  pub is : low ≡ front ++ left
  pub columns : List (List ℕ)
  pub many : length columns ≡ count
  pub read : (more : ℕ) (rest : List ℕ) → columns_in (length columns + more) (front ++ rest) ≡ columns ++ columns_in more rest

pub reads_none : (low : List ℕ) → ReadsFirst low low 0
reads_none low = record { front = []; is = refl; columns = []; many = refl; read = λ more rest. ap (λ (n : ℕ). columns_in n rest) (let e : 0 + more ≡ more = omega arith in e) }

-- what is read of bytes that are read in turn
reads_then : (columns : List (List ℕ)) (front own : List ℕ) (column : List ℕ) → ((more : ℕ) (rest : List ℕ) → columns_in (length columns + more) (front ++ rest) ≡ columns ++ columns_in more rest)
    → ((rest : List ℕ) → first_column (own ++ rest) ≡ column) → ((rest : List ℕ) → after_first_column (own ++ rest) ≡ rest)
    → (more : ℕ) (rest : List ℕ) → columns_in (length (columns ++ column ∷ []) + more) ((front ++ own) ++ rest) ≡ (columns ++ column ∷ []) ++ columns_in more rest
reads_then columns front own column read first after more rest =
    let long = length-append columns (column ∷ []) in
    let e : length (columns ++ column ∷ []) + more ≡ length columns + suc more = omega (arith, long) in
    let one : columns_in (suc more) (own ++ rest) ≡ column ∷ columns_in more rest = λ i. first rest i ∷ columns_in more (after rest i) in
    ap (λ (n : ℕ). columns_in n ((front ++ own) ++ rest)) e
    ∙ ap (columns_in (length columns + suc more)) (append_assoc front own rest)
    ∙ read (suc more) (own ++ rest)
    ∙ ap (λ (cs : List (List ℕ)). columns ++ cs) one
    ∙ sym (append_assoc columns (column ∷ []) (columns_in more rest))

-- one column more
pub reads_more : (low left next : List ℕ) (at : ℕ) → ReadsFirst low left at → next ≡ after_first_column left → 4 ≤ length left → first_size left ≤ length (drop 4 left) → ReadsFirst low next (at + 1)
reads_more low left next at r is_next four fits =
    let own = begins_whole left four fits in
    let column = first_column left in
    record {
      front = r.front ++ own.front;
      is = r.is ∙ ap (λ (t : List ℕ). r.front ++ t) (own.is ∙ ap (λ (t : List ℕ). own.front ++ t) (sym is_next)) ∙ sym (append_assoc r.front own.front next);
      columns = r.columns ++ column ∷ [];
      many = omega (arith, length-append r.columns (column ∷ []), r.many);
      read = reads_then r.columns r.front own.front column r.read own.first own.after;
    }

-- the bytes in front of what is left
pub front_is : (low left : List ℕ) (count n : ℕ) (r : ReadsFirst low left count) → n ≡ length low - length left → take n low ≡ r.front
front_is low left count n r e =
    let long : length low ≡ length r.front + length left = ap (length {A = ℕ}) r.is ∙ length-append r.front left in
    let m : n ≡ length r.front = omega (arith, long, e) in
    ap (λ (k : ℕ). take k low) m ∙ ap (take (length r.front)) r.is ∙ take-append_seam r.front left

pub whole_from : (low left : List ℕ) (at count : ℕ) (s : Shared) (r : ReadsFirst low left at) → at < count → s.columns.now ≡ r.front → IsWhole count s
whole_from low left at count s r lt e = record {
  columns = r.columns;
  few = omega (arith, r.many, lt);
  read = λ more rest. ap (λ (t : List ℕ). columns_in (length r.columns + more) (t ++ rest)) e ∙ r.read more rest;
}

pub whole_none : (count : ℕ) (s : Shared) → 0 < count → s.columns.now ≡ [] → IsWhole count s
whole_none count s some e = record {
  columns = [];
  few = some;
  read = λ more rest. ap (λ (t : List ℕ). columns_in (0 + more) (t ++ rest)) e ∙ ap (λ (n : ℕ). columns_in n rest) (let e : 0 + more ≡ more = omega arith in e);
}

-- ---- numbers decide

-- columns that are the same do not matter
same_first : (columns as' bs : List (List ℕ)) → columns_cmp (columns ++ as') (columns ++ bs) ≡ columns_cmp as' bs
same_first [] as' bs = refl
same_first (c ∷ columns) as' bs =
    ap (λ (o : Ordering). ordering_then o (columns_cmp (columns ++ as') (columns ++ bs))) (tied_key c) ∙ same_first columns as' bs
  where
    tied_key : (c : List ℕ) → key_cmp c c ≡ Equal
    tied_key c = tied_itself nat_list_cmp_total c

decides_less : (more : ℕ) (a b : List ℕ) → 0 < more → key_cmp (first_column a) (first_column b) ≡ Less → columns_cmp (columns_in more a) (columns_in more b) ≡ Less
decides_less zero a b some less_first = absurd (omega (arith, some))
decides_less (suc more) a b some less_first = ap (λ (o : Ordering). ordering_then o (columns_cmp (columns_in more (after_first_column a)) (columns_in more (after_first_column b)))) less_first

pub numbers_decide : (count : ℕ) (s : Shared) (a b : List ℕ) (x y : ℕ) → IsWhole count s → IsNumberOf s a x → IsNumberOf s b y → x < y → columns_cmp (columns_in count a) (columns_in count b) ≡ Less
numbers_decide count s a b x y whole of_a of_b lt =
    let n : ℕ = length whole.columns in
    let more : ℕ = count - n in
    let e : count ≡ n + more = omega (arith, whole.few) in
    let read_a : columns_in count a ≡ whole.columns ++ columns_in more of_a.rest = (λ i. columns_in (e i) (of_a.is i)) ∙ whole.read more of_a.rest in
    let read_b : columns_in count b ≡ whole.columns ++ columns_in more of_b.rest = (λ i. columns_in (e i) (of_b.is i)) ∙ whole.read more of_b.rest in
    let numbers : leading 8 of_a.more < leading 8 of_b.more = omega (arith, of_a.leads, of_b.leads, lt) in
    let columns : key_cmp (first_column of_a.rest) (first_column of_b.rest) ≡ Less =
    (λ i. key_cmp (of_a.column i) (of_b.column i)) ∙ cmp-behind s.front.now of_a.more of_b.more ∙ less 8 of_a.more of_b.more of_a.bytes of_b.bytes numbers in
    (λ i. columns_cmp (read_a i) (read_b i)) ∙ same_first whole.columns (columns_in more of_a.rest) (columns_in more of_b.rest) ∙ decides_less more of_a.rest of_b.rest (omega (arith, e, whole.few)) columns

-- so the order by numbers, and by columns if these are equal, is that by columns
pub same_order : (count : ℕ) (s : Shared) (a b : List ℕ) (x y : ℕ) → IsWhole count s → IsNumberOf s a x → IsNumberOf s b y
    → ordering_then (nat_cmp x y) (columns_cmp (columns_in count a) (columns_in count b)) ≡ columns_cmp (columns_in count a) (columns_in count b)
same_order count s a b x y whole of_a of_b = by (three x y)
  where
    columns : Ordering
    columns = columns_cmp (columns_in count a) (columns_in count b)

    by : (x < y) ⊎ ((x ≡ y) ⊎ (y < x)) → ordering_then (nat_cmp x y) columns ≡ columns
    by (inl lt) = ap (λ (o : Ordering). ordering_then o columns) (sym (nat_cmp_is x y Less lt)) ∙ sym (numbers_decide count s a b x y whole of_a of_b lt)
    by (inr (inl e)) = ap (λ (o : Ordering). ordering_then o columns) (sym (nat_cmp_is x y Equal e))
    by (inr (inr gt)) =
        ap (λ (o : Ordering). ordering_then o columns) (sym (nat_cmp_is x y Greater gt))
        ∙ sym (columns_total.antisymm (columns_in count a) (columns_in count b) ∙ ap ordering_reverse (numbers_decide count s b a y x whole of_b of_a gt))
