-- The leader's steps, by the parts that it has put into its map.
use Rattle.std.proofs.Common.{◌≡◌, ◌<◌, ◌≤◌, ◌++◌, ◌⊎◌, inl, inr, ℕ, zero, suc, List, [], ◌∷◌, length, set, get_or, map as map_list, All, Option, None, Some, refl, ap, sym, subst, ◌∙◌, arith, append-nil, append_assoc}
use Rattle.std.specs.FinMap as map
use Rattle.std.specs.List.{AllZip, flat_map}
use Rattle.std.specs.List.Sorted.{IsPermutation}
use Rattle.std.proofs.lemmas.List.Concat.{flat_map-append}
use Rattle.std.proofs.lemmas.List.Elements.{All-append, All-nil}
use Rattle.std.proofs.lemmas.List.Sums.{fold-append}
use Rattle.std.proofs.lemmas.List.Sorted.{IsPermutation-append_comm, IsPermutation-append_left, IsPermutation-append_right, IsPermutation-refl, IsPermutation-trans}
use Rattle.agg_table.specs.Calls.{HasPut, Use}
use Rattle.agg_table.proofs.Putting.{has_put_nothing}
use Rattle.par_model.specs.Plan.{Plan}
use Rattle.partial_agg.specs.Groups.{GroupsByKey, with_rows}
use Rattle.partial_agg.specs.Rows.{IsAccepted, header_width}
use Rattle.row_blocks.specs.Blocks.{AreBlocks, Table, block_rows, rows_of_blocks}
use Rattle.partial_agg.proofs.Blocks.{with_rows-append}
use Rattle.row_blocks.proofs.Permute.{AllZip-at, AllZip-join, AllZip-long, AllZip-put, same-permutation}
use Rattle.gather_law.specs.Parts.{Block, Part, Received, after, blocks_in, received_in, with_all, with_part}
use Rattle.gather_law.specs.Tuples.{Group, groups_of}
use Rattle.gather_law.proofs.Gathering.{all_added}
use Rattle.gather_run.specs.Leading.{IsKeeping, IsLeading}
use Rattle.gather_run.specs.Reading.{ReadAs}
use Rattle.gather_run.specs.Sharing.{DoesBlock, DoesBlocks, SharesGroups, SharesMany, SharesRest}
use Rattle.parallel_ctx.specs.Accounts.{IsUnusedTable}
use Rattle.worker_run.specs.Tabled.{groups_of_batches}
use Rattle.worker_run.specs.Job.{DrawsNone}
use Rattle.worker_run.proofs.Giving.{flat-push}
use Rattle.worker_run.proofs.Working.{more_blocks, no_rows}
use Rattle.gather_run.proofs.Counting.{not_none}

blocks-append : (xs ys : List Part) → blocks_in (xs ++ ys) ≡ blocks_in xs ++ blocks_in ys
blocks-append [] ys = refl
blocks-append (Block b ∷ xs) ys = ap (λ l. b ∷ l) (blocks-append xs ys)
blocks-append (Received g ∷ xs) ys = blocks-append xs ys

received-append : (xs ys : List Part) → received_in (xs ++ ys) ≡ received_in xs ++ received_in ys
received-append [] ys = refl
received-append (Block b ∷ xs) ys = received-append xs ys
received-append (Received g ∷ xs) ys = ap (λ l. g ∷ l) (received-append xs ys)

abbrev group_parts : List Group → List Part
group_parts gs = map_list Received gs

no_blocks : (gs : List Group) → blocks_in (group_parts gs) ≡ []
no_blocks [] = refl
no_blocks (g ∷ gs) = no_blocks gs

all_received : (gs : List Group) → received_in (group_parts gs) ≡ gs
all_received [] = refl
all_received (g ∷ gs) = ap (λ l. g ∷ l) (all_received gs)

-- groups put behind those at a place
behind : (xs : List (List Group)) (k : ℕ) (gs : List Group) → k < length xs
    → IsPermutation (flat_map (λ l. l) xs ++ gs) (flat_map (λ l. l) (set xs k (get_or xs k [] ++ gs)))
behind [] k gs h = absurd (omega arith)
behind (x ∷ xs) zero gs h =
    let rest = flat_map (λ l. l) xs in
    subst (λ l. IsPermutation l ((x ++ gs) ++ rest)) (sym (append_assoc x rest gs))
    (same-permutation (x ++ (rest ++ gs)) (x ++ (gs ++ rest)) ((x ++ gs) ++ rest) (sym (append_assoc x gs rest))
    (IsPermutation-append_right x (rest ++ gs) (gs ++ rest) (IsPermutation-append_comm rest gs)))
behind (x ∷ xs) (suc k) gs h =
    let rest = flat_map (λ l. l) xs in
    let after_it = flat_map (λ l. l) (set xs k (get_or xs k [] ++ gs)) in
    subst (λ l. IsPermutation l (x ++ after_it)) (sym (append_assoc x rest gs))
    (IsPermutation-append_right x (rest ++ gs) after_it (behind xs k gs (omega arith)))

-- some more behind the first of two lists
behind_first : {X : Type 0} (xs ys zs : List X) → IsPermutation ((xs ++ ys) ++ zs) ((xs ++ zs) ++ ys)
behind_first xs ys zs =
    subst (λ l. IsPermutation l ((xs ++ zs) ++ ys)) (sym (append_assoc xs ys zs))
    (same-permutation (xs ++ (ys ++ zs)) (xs ++ (zs ++ ys)) ((xs ++ zs) ++ ys) (sym (append_assoc xs zs ys))
    (IsPermutation-append_right xs (ys ++ zs) (zs ++ ys) (IsPermutation-append_comm ys zs)))

module _ (plan : Plan) (records : Table) where
  -- parts behind which groups were added
  more_added : (parts : List Part) (gs : List Group) (groups groups' : GroupsByKey) → groups ≡ after plan records parts → groups' ≡ with_all groups gs → groups' ≡ after plan records (parts ++ group_parts gs)
  more_added parts gs groups groups' is e =
      e ∙ ap (λ (m : GroupsByKey). with_all m gs) is ∙ sym (all_added plan (header_width records) records (after plan records parts) gs) ∙ sym (fold-append (with_part plan records) map.empty parts (group_parts gs))

  same_blocks : (parts : List Part) (gs : List Group) → blocks_in (parts ++ group_parts gs) ≡ blocks_in parts
  same_blocks parts gs = blocks-append parts (group_parts gs) ∙ ap (λ bs. blocks_in parts ++ bs) (no_blocks gs) ∙ append-nil (blocks_in parts)

  more_received : (parts : List Part) (gs : List Group) → received_in (parts ++ group_parts gs) ≡ received_in parts ++ gs
  more_received parts gs = received-append parts (group_parts gs) ∙ ap (λ r. received_in parts ++ r) (all_received gs)

  more_groups : (batches : List (List ℕ)) (last : List ℕ) → groups_of_batches plan records (batches ++ last ∷ []) ≡ groups_of_batches plan records batches ++ groups_of plan (rows_of_blocks records last)
  more_groups batches last =
      flat_map-append (λ (blocks : List ℕ). groups_of plan (rows_of_blocks records blocks)) batches (last ∷ [])
      ∙ ap (λ (l : List Group). groups_of_batches plan records batches ++ l) (append-nil (groups_of plan (rows_of_blocks records last)))

  both_accepted : (done last : List ℕ) → All (IsAccepted plan (header_width records)) (rows_of_blocks records done) → All (IsAccepted plan (header_width records)) (rows_of_blocks records last)
      → All (IsAccepted plan (header_width records)) (rows_of_blocks records (done ++ last))
  both_accepted done last h k =
      subst (All (IsAccepted plan (header_width records))) (sym (flat_map-append (block_rows records) done last))
      (All-append (IsAccepted plan (header_width records)) (rows_of_blocks records done) (rows_of_blocks records last) h k)

  one_accepted : (b : ℕ) → All (IsAccepted plan (header_width records)) (block_rows records b) → All (IsAccepted plan (header_width records)) (rows_of_blocks records (b ∷ []))
  one_accepted b h = subst (All (IsAccepted plan (header_width records))) (sym (append-nil (block_rows records b))) h

  -- the rows of a block were added
  rows-block : (draws : List ℕ) (b : ℕ) (tuples : List (List (List ℕ))) (groups groups' : GroupsByKey) → IsLeading plan records draws None tuples groups
      → All (IsAccepted plan (header_width records)) (block_rows records b) → groups' ≡ with_rows plan groups (block_rows records b) → IsLeading plan records (draws ++ b ∷ []) None tuples groups'
  rows-block draws b tuples groups groups' l h e =
      let more = more_blocks plan records draws b in
      let rows = rows_of_blocks records draws in
      record {
        parts = l.parts ++ Block b ∷ [];
        left = l.left;
        taken = l.taken;
        map_is = e ∙ ap (λ (m : GroupsByKey). with_rows plan m (block_rows records b)) l.map_is ∙ sym (fold-append (with_part plan records) map.empty l.parts (Block b ∷ []));
        own = (
          ap (rows_of_blocks records) (blocks-append l.parts (Block b ∷ [])) ∙ flat_map-append (block_rows records) (blocks_in l.parts) (b ∷ [])
              ∙ ap (λ r. r ++ (block_rows records b ++ [])) l.own.0 ∙ ap (λ r. rows ++ r) (append-nil (block_rows records b)) ∙ sym more,
          l.own.1,
        );
        accepted = both_accepted draws (b ∷ []) l.accepted (one_accepted b h);
        read = l.read;
        received = subst (λ gs. IsPermutation gs (l.left ++ flat_map (λ groups. groups) l.taken)) (sym (received-append l.parts (Block b ∷ []) ∙ append-nil (received_in l.parts))) l.received;
      }

  -- the groups of some blocks were shared out
  shared-batch : (draws last : List ℕ) (u v : Use) (tuples : List (List (List ℕ))) (groups groups' : GroupsByKey) → IsLeading plan records draws (Some u) tuples groups
      → All (IsAccepted plan (header_width records)) (rows_of_blocks records last) → SharesGroups (groups_of plan (rows_of_blocks records last)) u v groups groups' → IsLeading plan records (draws ++ last) (Some v) tuples groups'
  shared-batch draws last u v tuples groups groups' l h s =
      let sent = flat_map (λ groups. groups) l.taken in
      record {
        parts = l.parts ++ group_parts s.left;
        left = l.left ++ s.left;
        taken = l.taken;
        map_is = more_added l.parts s.left groups groups' l.map_is s.kept;
        own = record {
          none = same_blocks l.parts s.left ∙ l.own.none;
          batches = l.own.batches ++ last ∷ [];
          cut = flat-push l.own.batches last ∙ ap (λ (ds : List ℕ). ds ++ last) l.own.cut;
          put = l.own.put ++ s.put;
          has = subst (λ (gs : List Group). HasPut gs v (l.own.put ++ s.put) (l.left ++ s.left)) (sym (more_groups l.own.batches last)) (s.more (groups_of_batches plan records l.own.batches) l.own.put l.left l.own.has);
        };
        accepted = both_accepted draws last l.accepted h;
        read = l.read;
        received = subst (λ gs. IsPermutation gs ((l.left ++ s.left) ++ sent)) (sym (more_received l.parts s.left))
            (IsPermutation-trans (received_in l.parts ++ s.left) ((l.left ++ sent) ++ s.left) ((l.left ++ s.left) ++ sent)
            (IsPermutation-append_left s.left (received_in l.parts) (l.left ++ sent) l.received) (behind_first l.left sent s.left));
      }

  -- ---- the groups that are kept

  -- at first, and where all was shared out, none are
  pub keeping_none : (draws : List ℕ) (used : Option Use) (tuples : List (List (List ℕ))) (kept groups : GroupsByKey) → IsLeading plan records draws used tuples groups → kept ≡ map.empty → IsKeeping plan records draws used tuples kept groups
  keeping_none draws used tuples kept groups l e = record { done = draws; last = []; cut = append-nil draws; leading = l; accepted = All-nil (IsAccepted plan (header_width records)); kept_is = e; none = λ _. refl }

  pub keeping_accepted : (draws : List ℕ) (used : Option Use) (tuples : List (List (List ℕ))) (kept groups : GroupsByKey) → IsKeeping plan records draws used tuples kept groups → All (IsAccepted plan (header_width records)) (rows_of_blocks records draws)
  keeping_accepted draws used tuples kept groups k = subst (λ (ds : List ℕ). All (IsAccepted plan (header_width records)) (rows_of_blocks records ds)) k.cut (both_accepted k.done k.last k.leading.accepted k.accepted)

  -- without a table all is done
  all_done : (draws : List ℕ) (tuples : List (List (List ℕ))) (kept groups : GroupsByKey) → IsKeeping plan records draws None tuples kept groups → IsLeading plan records draws None tuples groups
  all_done draws tuples kept groups k =
      let same : k.done ≡ draws = sym (append-nil k.done) ∙ ap (λ (l : List ℕ). k.done ++ l) (sym (k.none refl)) ∙ k.cut in
      subst (λ (ds : List ℕ). IsLeading plan records ds None tuples groups) same k.leading

  -- and no groups are kept
  none_kept : (draws : List ℕ) (tuples : List (List (List ℕ))) (kept groups : GroupsByKey) → IsKeeping plan records draws None tuples kept groups → kept ≡ map.empty
  none_kept draws tuples kept groups k = k.kept_is ∙ ap (λ (l : List ℕ). with_rows plan map.empty (rows_of_blocks records l)) (k.none refl)

  -- with a table, all groups that are kept were shared out
  rest_shared : (draws : List ℕ) (u v : Use) (tuples : List (List (List ℕ))) (kept groups groups' : GroupsByKey) → IsKeeping plan records draws (Some u) tuples kept groups → SharesGroups (map.entries kept) u v groups groups'
      → IsLeading plan records draws (Some v) tuples groups'
  rest_shared draws u v tuples kept groups groups' k s =
      let entries_are : map.entries kept ≡ groups_of plan (rows_of_blocks records k.last) = ap (λ (m : GroupsByKey). map.entries m) k.kept_is in
      subst (λ (ds : List ℕ). IsLeading plan records ds (Some v) tuples groups') k.cut
      (shared-batch k.done k.last u v tuples groups groups' k.leading k.accepted (subst (λ (gs : List Group). SharesGroups gs u v groups groups') entries_are s))

  pub keeping-rest : (draws : List ℕ) (used used' : Option Use) (tuples : List (List (List ℕ))) (kept groups groups' : GroupsByKey) → IsKeeping plan records draws used tuples kept groups → SharesRest used used' kept groups groups'
      → IsLeading plan records draws used' tuples groups'
  keeping-rest draws None None tuples kept groups groups' k s = subst (λ (m : GroupsByKey). IsLeading plan records draws None tuples m) (sym s) (all_done draws tuples kept groups k)
  keeping-rest draws None (Some v) tuples kept groups groups' k s = absurd s
  keeping-rest draws (Some u) None tuples kept groups groups' k s = absurd s
  keeping-rest draws (Some u) (Some v) tuples kept groups groups' k s = rest_shared draws u v tuples kept groups groups' k s

  -- the rows of a block were added to the groups that are kept
  kept-block : (draws : List ℕ) (b : ℕ) (u : Use) (tuples : List (List (List ℕ))) (kept groups : GroupsByKey) → IsKeeping plan records draws (Some u) tuples kept groups
      → All (IsAccepted plan (header_width records)) (block_rows records b) → IsKeeping plan records (draws ++ b ∷ []) (Some u) tuples (with_rows plan kept (block_rows records b)) groups
  kept-block draws b u tuples kept groups k h = record {
    done = k.done;
    last = k.last ++ b ∷ [];
    cut = sym (append_assoc k.done k.last (b ∷ [])) ∙ ap (λ (l : List ℕ). l ++ b ∷ []) k.cut;
    leading = k.leading;
    accepted = both_accepted k.last (b ∷ []) k.accepted (one_accepted b h);
    kept_is = ap (λ (m : GroupsByKey). with_rows plan m (block_rows records b)) k.kept_is ∙ sym (with_rows-append plan map.empty (rows_of_blocks records k.last) (block_rows records b))
        ∙ ap (λ (rows : Table). with_rows plan map.empty rows) (sym (more_blocks plan records k.last b));
    none = λ e. absurd (not_none u e);
  }

  -- and these shared out, where they were many
  kept-many : (draws : List ℕ) (u v : Use) (tuples : List (List (List ℕ))) (all kept groups groups' : GroupsByKey) → IsKeeping plan records draws (Some u) tuples all groups → SharesMany all u v kept groups groups'
      → IsKeeping plan records draws (Some v) tuples kept groups'
  kept-many draws u v tuples all kept groups groups' k s = by s.shared
    where
      by : ((kept ≡ all) × (v ≡ u) × (groups' ≡ groups)) ⊎ ((kept ≡ map.empty) × SharesGroups (map.entries all) u v groups groups') → IsKeeping plan records draws (Some v) tuples kept groups'
      by (inl e) =
          subst (λ (m : GroupsByKey). IsKeeping plan records draws (Some v) tuples m groups') (sym e.0)
          (subst (λ (w : Use). IsKeeping plan records draws (Some w) tuples all groups') (sym e.1) (subst (λ (m : GroupsByKey). IsKeeping plan records draws (Some u) tuples all m) (sym e.2) k))
      by (inr e) = keeping_none draws (Some v) tuples kept groups' (rest_shared draws u v tuples all groups groups' k e.1) e.0

  pub keeping-block : (draws : List ℕ) (b : ℕ) (used used' : Option Use) (tuples : List (List (List ℕ))) (kept kept' groups groups' : GroupsByKey) → IsKeeping plan records draws used tuples kept groups
      → All (IsAccepted plan (header_width records)) (block_rows records b) → DoesBlock plan records b used used' kept kept' groups groups' → IsKeeping plan records (draws ++ b ∷ []) used' tuples kept' groups'
  keeping-block draws b None None tuples kept kept' groups groups' k h d =
      keeping_none (draws ++ b ∷ []) None tuples kept' groups' (rows-block draws b tuples groups groups' (all_done draws tuples kept groups k) h d.1) (d.0 ∙ none_kept draws tuples kept groups k)
  keeping-block draws b None (Some v) tuples kept kept' groups groups' k h d = absurd d
  keeping-block draws b (Some u) None tuples kept kept' groups groups' k h d = absurd d
  keeping-block draws b (Some u) (Some v) tuples kept kept' groups groups' k h d =
      kept-many (draws ++ b ∷ []) u v tuples (with_rows plan kept (block_rows records b)) kept' groups groups' (kept-block draws b u tuples kept groups k h) d

  -- ---- a draw past the last block

  -- its rows are none
  late_accepted : (blocks b : ℕ) → AreBlocks records blocks → blocks ≤ b → All (IsAccepted plan (header_width records)) (block_rows records b)
  late_accepted blocks b a past = subst (All (IsAccepted plan (header_width records))) (sym (no_rows plan records blocks b a past)) (All-nil (IsAccepted plan (header_width records)))

  late_kept : (blocks b : ℕ) (kept : GroupsByKey) → AreBlocks records blocks → blocks ≤ b → with_rows plan kept (block_rows records b) ≡ kept
  late_kept blocks b kept a past = ap (λ (rows : Table). with_rows plan kept rows) (no_rows plan records blocks b a past)

  pub keeping-late : (blocks : ℕ) (draws draws' : List ℕ) (used : Option Use) (tuples : List (List (List ℕ))) (kept groups : GroupsByKey) → AreBlocks records blocks
      → DrawsNone blocks draws draws' → IsKeeping plan records draws used tuples kept groups → IsKeeping plan records draws' used tuples kept groups
  keeping-late blocks draws draws' used tuples kept groups a (inl e) k = subst (λ (ds : List ℕ). IsKeeping plan records ds used tuples kept groups) (sym e) k
  keeping-late blocks draws draws' None tuples kept groups a (inr p) k =
      subst (λ (ds : List ℕ). IsKeeping plan records ds None tuples kept groups) (sym p.2)
      (keeping-block draws p.0 None None tuples kept kept groups groups k (late_accepted blocks p.0 a p.1) (refl, sym (late_kept blocks p.0 groups a p.1)))
  keeping-late blocks draws draws' (Some u) tuples kept groups a (inr p) k =
      subst (λ (ds : List ℕ). IsKeeping plan records ds (Some u) tuples kept groups) (sym p.2)
      (subst (λ (m : GroupsByKey). IsKeeping plan records (draws ++ p.0 ∷ []) (Some u) tuples m groups) (late_kept blocks p.0 kept a p.1) (kept-block draws p.0 u tuples kept groups k (late_accepted blocks p.0 a p.1)))

  -- a worker's messages were taken, and their groups added
  pub leading-hear : (draws : List ℕ) (used : Option Use) (tuples : List (List (List ℕ))) (k : ℕ) (messages : List (List ℕ)) (gs : List Group) (groups groups' : GroupsByKey) → IsLeading plan records draws used tuples groups
      → k < length tuples → ReadAs messages gs → groups' ≡ with_all groups gs → IsLeading plan records draws used (set tuples k (get_or tuples k [] ++ messages)) groups'
  leading-hear draws used tuples k messages gs groups groups' l h read e =
      let long = AllZip-long ReadAs tuples l.taken l.read in
      let place : k < length l.taken = omega (arith, long, h) in
      let more = set l.taken k (get_or l.taken k [] ++ gs) in
      let sent = flat_map (λ groups. groups) l.taken in
      let sent' = flat_map (λ groups. groups) more in
      record {
        parts = l.parts ++ group_parts gs;
        left = l.left;
        taken = more;
        map_is = more_added l.parts gs groups groups' l.map_is e;
        own = subst (λ (bs : List ℕ). DoesBlocks plan records draws used bs l.left) (sym (same_blocks l.parts gs)) l.own;
        accepted = l.accepted;
        read = AllZip-put ReadAs tuples l.taken k (get_or tuples k [] ++ messages) (get_or l.taken k [] ++ gs) l.read
            (AllZip-join Rattle.gather_run.specs.Reading.ReadsAs (get_or tuples k []) messages (get_or l.taken k []) gs (AllZip-at ReadAs tuples l.taken k [] [] l.read h) read);
        received = subst (λ rs. IsPermutation rs (l.left ++ sent')) (sym (more_received l.parts gs))
            (IsPermutation-trans (received_in l.parts ++ gs) (l.left ++ (sent ++ gs)) (l.left ++ sent')
            (same-permutation (received_in l.parts ++ gs) ((l.left ++ sent) ++ gs) (l.left ++ (sent ++ gs)) (append_assoc l.left sent gs)
            (IsPermutation-append_left gs (received_in l.parts) (l.left ++ sent) l.received))
            (IsPermutation-append_right l.left (sent ++ gs) sent' (behind l.taken k gs place)));
      }

  nothing_read : (tuples : List (List (List ℕ))) → All (λ ms. ms ≡ []) tuples → AllZip ReadAs tuples (map_list (λ _. []) tuples)
  nothing_read [] h = tt
  nothing_read (ms ∷ tuples) h = (
    subst (λ l. ReadAs l []) (sym (Rattle.std.proofs.lemmas.List.Elements.All-head (λ ms. ms ≡ []) ms tuples h)) tt,
    nothing_read tuples (Rattle.std.proofs.lemmas.List.Elements.All-tail (λ ms. ms ≡ []) ms tuples h),
  )

  nothing_taken : (tuples : List (List (List ℕ))) → flat_map {X = List Group} (λ l. l) (map_list (λ (_ : List (List ℕ)). []) tuples) ≡ []
  nothing_taken [] = refl
  nothing_taken (ms ∷ tuples) = nothing_taken tuples

  nothing_done : (used : Option Use) → IsUnusedTable used → DoesBlocks plan records [] used [] []
  nothing_done None h = (refl, refl)
  nothing_done (Some u) h = record { none = refl; batches = []; cut = refl; put = []; has = has_put_nothing u h }

  pub leading-start : (used : Option Use) (tuples : List (List (List ℕ))) (groups : GroupsByKey) → IsUnusedTable used → All (λ ms. ms ≡ []) tuples → groups ≡ map.empty → IsLeading plan records [] used tuples groups
  leading-start used tuples groups new h e = record {
    parts = [];
    left = [];
    taken = map_list (λ _. []) tuples;
    map_is = e;
    own = nothing_done used new;
    accepted = All-nil (IsAccepted plan (header_width records));
    read = nothing_read tuples h;
    received = subst (IsPermutation []) (sym (nothing_taken tuples)) (IsPermutation-refl []);
  }
