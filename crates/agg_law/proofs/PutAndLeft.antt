-- The groups of all participants, put in or left: whose rows they stand for.
use Rattle.std.proofs.Common.{◌≡◌, ◌<◌, ◌^◌, ◌++◌, ℕ, List, [], ◌∷◌, All, filter, length, refl, ap, sym, subst, ◌∙◌, arith, append_assoc, length-append}
use Rattle.std.specs.List.{AllZip, flat_map}
use Rattle.std.specs.List.Sorted.{IsPermutation}
use Rattle.std.proofs.lemmas.List.Concat.{flat_map-append}
use Rattle.std.proofs.lemmas.List.Elements.{All-append, All-nil, filter-append}
use Rattle.std.proofs.lemmas.List.Sorted.{IsPermutation-append, IsPermutation-append_comm, IsPermutation-append_left, IsPermutation-append_right, IsPermutation-refl, IsPermutation-sym, IsPermutation-trans}
use Rattle.gather_law.specs.Tuples.{Group, groups_of}
use Rattle.row_blocks.specs.Blocks.{Table, block_rows, rows_of_blocks}
use Rattle.gather_law.proofs.Gathering.{one_batch}
use Rattle.row_blocks.proofs.Elements.{All-apart}
use Rattle.gather_law.proofs.Keys.{StandsFor}
use Rattle.row_blocks.proofs.Permute.{AllZip-join, Paired, goes_along, same-permutation}
use Rattle.par_model.specs.Keep.{is_kept}
use Rattle.par_model.specs.Plan.{Plan}
use Rattle.partial_agg.specs.Rows.{IsAccepted}
use Rattle.scan_claim.specs.Drawing.{flat}
use Rattle.agg_law.specs.Law.{Share, Shares}

-- ---- lists

-- of two lists, one behind the other, the first parts of two such pairs and then the second ones
pub between : {X : Type 0} (as' bs xs ys : List X) → IsPermutation ((as' ++ bs) ++ (xs ++ ys)) ((as' ++ xs) ++ (bs ++ ys))
between {X = X} as' bs xs ys =
    subst (λ (l : List X). IsPermutation l ((as' ++ xs) ++ (bs ++ ys))) (sym (append_assoc as' bs (xs ++ ys)))
    (subst (λ (l : List X). IsPermutation (as' ++ (bs ++ (xs ++ ys))) l) (sym (append_assoc as' xs (bs ++ ys)))
    (IsPermutation-append_right as' (bs ++ (xs ++ ys)) (xs ++ (bs ++ ys))
    (subst (λ (l : List X). IsPermutation l (xs ++ (bs ++ ys))) (append_assoc bs xs ys)
    (subst (λ (l : List X). IsPermutation ((bs ++ xs) ++ ys) l) (append_assoc xs bs ys)
    (IsPermutation-append_left ys (bs ++ xs) (xs ++ bs) (IsPermutation-append_comm bs xs))))))

-- what the two parts of a list are paired with
pub record Apart {A B : Type 0} (R : A → B → Type 0) (xs us : List A) (zs : List B) : Type 0 where
  pub first : List B
  pub second : List B
  pub is : zs ≡ first ++ second
  pub firsts : AllZip R xs first
  pub seconds : AllZip R us second

pub apart : {A B : Type 0} (R : A → B → Type 0) (xs us : List A) (zs : List B) → AllZip R (xs ++ us) zs → Apart R xs us zs
apart R [] us zs h = record { first = []; second = zs; is = refl; firsts = tt; seconds = h }
apart R (x ∷ xs) us [] h = absurd h
apart {B = B} R (x ∷ xs) us (z ∷ zs) h =
    let rest = apart R xs us zs h.1 in
    record { first = z ∷ rest.first; second = rest.second; is = ap (λ (l : List B). z ∷ l) rest.is; firsts = (h.0, rest.firsts); seconds = rest.seconds }

-- ---- what was put in, and what was left

-- the groups of a participant: those that it put in, and those that it left
abbrev pub both_of : Share → List Group
both_of s = s.put ++ s.left

abbrev pub all_groups : List Share → List Group
all_groups shares = flat_map both_of shares

abbrev all_put : List Share → List Group
all_put shares = flat_map (λ (s : Share). s.put) shares

abbrev all_left : List Share → List Group
all_left shares = flat_map (λ (s : Share). s.left) shares

put_or_left : (shares : List Share) → IsPermutation (all_groups shares) (all_put shares ++ all_left shares)
put_or_left [] = IsPermutation-refl []
put_or_left (s ∷ shares) =
    IsPermutation-trans (both_of s ++ all_groups shares) ((s.put ++ s.left) ++ (all_put shares ++ all_left shares)) ((s.put ++ all_put shares) ++ (s.left ++ all_left shares))
    (IsPermutation-append_right (both_of s) (all_groups shares) (all_put shares ++ all_left shares) (put_or_left shares))
    (between s.put s.left (all_put shares) (all_left shares))

-- what was left, in any order, and what was put in are the groups of all
pub left_and_put : (shares : List Share) (left : List Group) → IsPermutation left (all_left shares) → IsPermutation (all_groups shares) (left ++ all_put shares)
left_and_put shares left order =
    IsPermutation-trans (all_groups shares) (all_put shares ++ all_left shares) (left ++ all_put shares) (put_or_left shares)
    (IsPermutation-trans (all_put shares ++ all_left shares) (all_left shares ++ all_put shares) (left ++ all_put shares)
    (IsPermutation-append_comm (all_put shares) (all_left shares))
    (IsPermutation-append_left (all_put shares) (all_left shares) left (IsPermutation-sym left (all_left shares) order)))

module _ (plan : Plan) (width : ℕ) (records : Table) where
  abbrev kept : Table → Table
  kept rows = filter (is_kept plan) rows

  abbrev flat_rows : List Table → Table
  flat_rows batches = flat_map (λ (batch : Table). batch) batches

  abbrev Accepted : Table → Type 0
  Accepted rows = All (IsAccepted plan width) rows

  abbrev Stand : List Group → Table → Type 0
  Stand groups rows = Paired (StandsFor plan) groups rows

  -- ---- the rows

  pub all_accepted : (draws : List (List ℕ)) (shares : List Share) → AllZip (Shares plan width records) draws shares → Accepted (rows_of_blocks records (flat draws))
  all_accepted [] [] z = All-nil (IsAccepted plan width)
  all_accepted [] (s ∷ shares) z = absurd z
  all_accepted (d ∷ draws) [] z = absurd z
  all_accepted (d ∷ draws) (s ∷ shares) z =
      subst Accepted (sym (flat_map-append (block_rows records) d (flat draws)))
      (All-append (IsAccepted plan width) (rows_of_blocks records d) (rows_of_blocks records (flat draws)) z.0.accepted (all_accepted draws shares z.1))

  join_stands : (gs hs : List Group) (xs ys : Table) → Stand gs xs → Stand hs ys → Stand (gs ++ hs) (xs ++ ys)
  join_stands gs hs xs ys a b = record {
    lists = a.lists ++ b.lists;
    each = AllZip-join (StandsFor plan) gs hs a.lists b.lists a.each b.each;
    same = same-permutation (xs ++ ys) (flat_map (λ l. l) a.lists ++ flat_map (λ l. l) b.lists) (flat_map (λ l. l) (a.lists ++ b.lists))
        (sym (flat_map-append (λ l. l) a.lists b.lists))
        (IsPermutation-append xs (flat_map (λ l. l) a.lists) ys (flat_map (λ l. l) b.lists) a.same b.same);
  }

  -- the groups of batches stand for those of their rows that are kept
  batches_stand : (batches : List Table) → Accepted (flat_rows batches) → length (flat_rows batches) < 2 ^ 64 → Stand (flat_map (groups_of plan) batches) (kept (flat_rows batches))
  batches_stand [] accepted few = record { lists = []; each = tt; same = IsPermutation-refl [] }
  batches_stand (batch ∷ batches) accepted few =
      let rest = flat_rows batches in
      let parts = All-apart (IsAccepted plan width) batch rest accepted in
      let long = length-append batch rest in
      subst (Stand (flat_map (groups_of plan) (batch ∷ batches))) (sym (filter-append (is_kept plan) batch rest))
      (join_stands (groups_of plan batch) (flat_map (groups_of plan) batches) (kept batch) (kept rest)
      (one_batch plan width records batch parts.0 (omega (arith, long, few))) (batches_stand batches parts.1 (omega (arith, long, few))))

  -- those of a participant stand for the rows of its blocks
  share_stands : (draws : List ℕ) (s : Share) → Shares plan width records draws s → length (rows_of_blocks records draws) < 2 ^ 64 → Stand (both_of s) (kept (rows_of_blocks records draws))
  share_stands draws s shared few =
      goes_along (StandsFor plan) (flat_map (groups_of plan) shared.batches) (both_of s) (kept (rows_of_blocks records draws)) shared.sent
      (subst (λ (rows : Table). Stand (flat_map (groups_of plan) shared.batches) (kept rows)) shared.cut
      (batches_stand shared.batches (subst Accepted (sym shared.cut) shared.accepted) (subst (λ (rows : Table). length rows < 2 ^ 64) (sym shared.cut) few)))

  -- and those of all for all rows that were drawn
  pub shares_stand : (draws : List (List ℕ)) (shares : List Share) → AllZip (Shares plan width records) draws shares → length (rows_of_blocks records (flat draws)) < 2 ^ 64
      → Stand (all_groups shares) (kept (rows_of_blocks records (flat draws)))
  shares_stand [] [] z few = record { lists = []; each = tt; same = IsPermutation-refl [] }
  shares_stand [] (s ∷ shares) z few = absurd z
  shares_stand (d ∷ draws) [] z few = absurd z
  shares_stand (d ∷ draws) (s ∷ shares) z few =
      let cut = flat_map-append (block_rows records) d (flat draws) in
      let mine = rows_of_blocks records d in
      let rest = rows_of_blocks records (flat draws) in
      let long = ap (length {A = List (List ℕ)}) cut ∙ length-append mine rest in
      subst (Stand (all_groups (s ∷ shares))) (sym (ap kept cut ∙ filter-append (is_kept plan) mine rest))
      (join_stands (both_of s) (all_groups shares) (kept mine) (kept rest)
      (share_stands d s z.0 (omega (arith, long, few))) (shares_stand draws shares z.1 (omega (arith, long, few))))
