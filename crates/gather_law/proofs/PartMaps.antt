-- The groups of a part, added up over the maps of all participants.
use Rattle.std.proofs.Common.{◌≡◌, ◌<◌, ◌+◌, ◌^◌, ◌++◌, ◌==◌, ℕ, Bool, true, false, cond, List, [], ◌∷◌, All, Option, None, Some, length, map, refl, ap, sym, subst, ◌∙◌, arith, length-append, append-nil, append_assoc, bytes_eq}
use Rattle.std.specs.Prelude.{option_to_list}
use Rattle.std.specs.Cmp.Lexicographic.{bytes_decides, nat_list_cmp_total}
use Rattle.std.specs.FinMap as fin
use Rattle.std.specs.FinMap.Entries.{below_all}
use Rattle.std.specs.List.{AllZip, flat_map}
use Rattle.std.specs.List.Sorted.{IsPermutation}
use Rattle.std.proofs.lemmas.List.{nil_from_length}
use Rattle.std.proofs.lemmas.List.Elements.{All-append, All-cons, All-head, All-nil}
use Rattle.std.proofs.lemmas.List.Sorted.{All-permutation, IsPermutation-sym, length_permutation}
use Rattle.par_model.specs.Plan.{Plan}
use Rattle.par_model.specs.declared.state.AggState.{AggState}
use Rattle.partial_agg.specs.Groups.{AreGroups, GroupsByKey, added, group_of, joined, key_cmp}
use Rattle.partial_agg.specs.Laws.{both}
use Rattle.partial_agg.specs.Listed.{group, listed}
use Rattle.partial_agg.specs.Rows.{IsAccepted}
use Rattle.partial_agg.specs.declared.groups.Group.{Group}
use Rattle.partial_agg.proofs.Adding.{both-none, both-some, groups_add, ties}
use Rattle.partial_agg.proofs.AnyOrder.{in_any_order}
use Rattle.partial_agg.proofs.Joining.{absent, both_true, true_of}
use Rattle.row_blocks.specs.Blocks.{Table}
use Rattle.row_blocks.proofs.Elements.{All-apart}
use Rattle.row_blocks.proofs.Permute.{flat_map-permutation}
use Rattle.gather_law.specs.Sharing.{PartsJoin}
use Rattle.gather_law.specs.KeyParts.{AreListings, groups_in, with_listed, with_part}
use Rattle.gather_law.specs.Shares.{together}
use Rattle.gather_law.proofs.KeyParts.{part_group}

abbrev Entries : Type 0
Entries = List (List ℕ × AggState)

-- ---- the aggregates of one key in a list of groups

abbrev here : List ℕ → Group → List AggState
here q g = cond (bytes_eq g.key q) (g.state ∷ []) []

abbrev states_of : List ℕ → List Group → List AggState
states_of q gs = flat_map (here q) gs

-- what a key has after they were added
abbrev after : Option AggState → List AggState → Option AggState
after o [] = o
after o (s ∷ ss) = after (Some (joined o s)) ss

get_after : (gs : List Group) (m : GroupsByKey) (q : List ℕ) → fin.get (with_listed m gs) q ≡ after (fin.get m q) (states_of q gs)
get_after [] m q = refl
get_after (g ∷ gs) m q =
    get_after gs (added m g.key g.state) q
    ∙ ap (λ o. after o (states_of q gs)) (fin.get-insert nat_list_cmp_total m g.key (joined (fin.get m g.key) g.state) q
    ∙ ap (λ b. cond b (Some (joined (fin.get m g.key) g.state)) (fin.get m q)) (ties q g.key))
    ∙ by (bytes_eq g.key q) refl
  where
    by : (b : Bool) → bytes_eq g.key q ≡ b → after (cond b (Some (joined (fin.get m g.key) g.state)) (fin.get m q)) (states_of q gs) ≡ after (fin.get m q) (cond b (g.state ∷ []) [] ++ states_of q gs)
    by true e = ap (λ (k : List ℕ). after (Some (joined (fin.get m k) g.state)) (states_of q gs)) ((bytes_decides g.key q).0 e)
    by false e = refl

-- in the list of a map it is what the map has
entry_states : (es : Entries) (q : List ℕ) → fin.is_sorted key_cmp es ≡ true → states_of q (map group es) ≡ option_to_list (fin.find key_cmp q es)
entry_states [] q h = refl
entry_states (e ∷ es) q h =
    let split = both_true (below_all key_cmp e.0 es) (fin.is_sorted key_cmp es) h in
    by (bytes_eq e.0 q) refl split.0 (entry_states es q split.1)
  where
    by : (b : Bool) → bytes_eq e.0 q ≡ b → below_all key_cmp e.0 es ≡ true → states_of q (map group es) ≡ option_to_list (fin.find key_cmp q es) → states_of q (map group (e ∷ es)) ≡ option_to_list (fin.find key_cmp q (e ∷ es))
    by true is below rest =
        let same : e.0 ≡ q = (bytes_decides e.0 q).0 is in
        let none : fin.find key_cmp q es ≡ None = subst (λ (k : List ℕ). fin.find key_cmp k es ≡ None) same (absent e.0 es below) in
        ap (λ b. cond b (e.1 ∷ []) [] ++ states_of q (map group es)) is ∙ ap (λ (l : List AggState). e.1 ∷ l) (rest ∙ ap option_to_list none)
        ∙ ap (λ b. option_to_list (cond b (Some e.1) (fin.find key_cmp q es))) (sym (ties q e.0 ∙ is))
    by false is below rest =
        ap (λ b. cond b (e.1 ∷ []) [] ++ states_of q (map group es)) is ∙ rest
        ∙ ap (λ b. option_to_list (cond b (Some e.1) (fin.find key_cmp q es))) (sym (ties q e.0 ∙ is))

-- a list of at most one has no other order
one_order : {X : Type 0} (xs ys : List X) → length xs < 2 → IsPermutation xs ys → ys ≡ xs
one_order [] ys few same = nil_from_length ys (length_permutation [] ys same)
one_order (x ∷ []) [] few same = absurd (omega (arith, length_permutation (x ∷ []) [] same))
one_order {X = X} (x ∷ []) (y ∷ []) few same =
    let is : y ≡ x = All-head (λ (z : X). z ≡ x) y [] (All-permutation (λ (z : X). z ≡ x) (x ∷ []) (y ∷ []) same (All-cons (λ (z : X). z ≡ x) x [] refl (All-nil (λ (z : X). z ≡ x)))) in
    ap (λ (z : X). z ∷ []) is
one_order (x ∷ []) (y ∷ z ∷ ys) few same = absurd (omega (arith, length_permutation (x ∷ []) (y ∷ z ∷ ys) same))
one_order (x ∷ z ∷ xs) ys few same = absurd (omega (arith, few))

one_at_most : (o : Option AggState) → length (option_to_list o) < 2
one_at_most None = omega arith
one_at_most (Some s) = omega arith

listing_states : (m : GroupsByKey) (gs : List Group) (q : List ℕ) → IsPermutation (listed m) gs → states_of q gs ≡ option_to_list (fin.get m q)
listing_states m gs q same =
    let mine : states_of q (listed m) ≡ option_to_list (fin.get m q) =
    entry_states (fin.entries m) q (true_of (fin.is_sorted key_cmp (fin.entries m)) (fin.entries_sorted m)) ∙ ap option_to_list (sym (fin.get-entries m q)) in
    let few : length (states_of q (listed m)) < 2 = subst (λ (l : List AggState). length l < 2) (sym mine) (one_at_most (fin.get m q)) in
    one_order (states_of q (listed m)) (states_of q gs) few (flat_map-permutation (here q) (listed m) gs same) ∙ mine

after_one : (o s : Option AggState) → after o (option_to_list s) ≡ both o s
after_one o None = sym (both-none o)
after_one o (Some s) = sym (both-some o s)

-- ---- the groups of a part

module _ (plan : Plan) (width : ℕ) (part_of : List ℕ → ℕ) (part : ℕ) where
  abbrev within : List ℕ → Bool
  within key = part_of key == part

  part_states : (gs : List Group) (q : List ℕ) (b : Bool) → within q ≡ b → states_of q (groups_in part_of part gs) ≡ cond b (states_of q gs) []
  part_states [] q true is = refl
  part_states [] q false is = refl
  part_states (g ∷ gs) q b is = by (bytes_eq g.key q) refl (within g.key) refl b is (part_states gs q b is)
    where
      by : (t : Bool) → bytes_eq g.key q ≡ t → (w : Bool) → within g.key ≡ w → (b : Bool) → within q ≡ b → states_of q (groups_in part_of part gs) ≡ cond b (states_of q gs) []
          → states_of q (cond w (g ∷ groups_in part_of part gs) (groups_in part_of part gs)) ≡ cond b (cond t (g.state ∷ []) [] ++ states_of q gs) []
      by true e true e' true is rest = ap (λ t. cond t (g.state ∷ []) [] ++ states_of q (groups_in part_of part gs)) e ∙ ap (λ (l : List AggState). g.state ∷ l) rest
      by true e true e' false is rest = let no : true ≡ false = sym e' ∙ ap within ((bytes_decides g.key q).0 e) ∙ is in absurd (cc)
      by true e false e' true is rest = let no : false ≡ true = sym e' ∙ ap within ((bytes_decides g.key q).0 e) ∙ is in absurd (cc)
      by true e false e' false is rest = rest
      by false e true e' true is rest = ap (λ t. cond t (g.state ∷ []) [] ++ states_of q (groups_in part_of part gs)) e ∙ rest
      by false e true e' false is rest = ap (λ t. cond t (g.state ∷ []) [] ++ states_of q (groups_in part_of part gs)) e ∙ rest
      by false e false e' true is rest = rest
      by false e false e' false is rest = rest

  abbrev Accepted : Table → Type 0
  Accepted rows = All (IsAccepted plan width) rows

  -- the map of the rows of the part
  abbrev HasPart : Table → GroupsByKey → Type 0
  HasPart rows m = (q : List ℕ) → fin.get m q ≡ cond (within q) (group_of plan rows q) None

  one_list : (xs share : Table) (m other : GroupsByKey) (gs : List Group) → Accepted xs → Accepted share → length xs + length share < 2 ^ 64 → AreGroups plan share other → IsPermutation (listed other) gs
      → HasPart xs m → HasPart (xs ++ share) (with_listed m (groups_in part_of part gs))
  one_list xs share m other gs h k fits are same has q = get_after (groups_in part_of part gs) m q ∙ by (within q) refl
    where
      by : (b : Bool) → within q ≡ b → after (fin.get m q) (states_of q (groups_in part_of part gs)) ≡ cond (within q) (group_of plan (xs ++ share) q) None
      by true is =
          let before : fin.get m q ≡ group_of plan xs q = has q ∙ ap (λ b. cond b (group_of plan xs q) None) is in
          let its : states_of q (groups_in part_of part gs) ≡ option_to_list (group_of plan share q) = part_states gs q true is ∙ listing_states other gs q same ∙ ap option_to_list (are.each q) in
          (λ i. after (before i) (its i)) ∙ after_one (group_of plan xs q) (group_of plan share q) ∙ sym (groups_add plan width xs share q h k fits)
          ∙ ap (λ b. cond b (group_of plan (xs ++ share) q) None) (sym is)
      by false is =
          ap (after (fin.get m q)) (part_states gs q false is) ∙ has q ∙ ap (λ b. cond b (group_of plan xs q) None) is ∙ ap (λ b. cond b (group_of plan (xs ++ share) q) None) (sym is)

  all_lists : (shares : List Table) (maps : List GroupsByKey) (lists : List (List Group)) (xs : Table) (m : GroupsByKey) → AllZip (AreGroups plan) shares maps → AreListings maps lists → Accepted xs
      → Accepted (together shares) → length xs + length (together shares) < 2 ^ 64 → HasPart xs m → HasPart (xs ++ together shares) (with_part part_of part m lists)
  all_lists [] [] [] xs m z l h k fits has = subst (λ (rows : Table). HasPart rows m) (sym (append-nil xs)) has
  all_lists [] [] (gs ∷ lists) xs m z l h k fits has = absurd l
  all_lists [] (other ∷ maps) lists xs m z l h k fits has = absurd z
  all_lists (share ∷ shares) [] lists xs m z l h k fits has = absurd z
  all_lists (share ∷ shares) (other ∷ maps) [] xs m z l h k fits has = absurd l
  all_lists (share ∷ shares) (other ∷ maps) (gs ∷ lists) xs m z l h k fits has =
      let mine = All-apart (IsAccepted plan width) share (together shares) k in
      let long = length-append share (together shares) in
      let long' = length-append xs share in
      let next = with_listed m (groups_in part_of part gs) in
      subst (λ (rows : Table). HasPart rows (with_part part_of part next lists)) (append_assoc xs share (together shares))
      (all_lists shares maps lists (xs ++ share) next z.1 l.1 (All-append (IsAccepted plan width) xs share h mine.0) mine.1 (omega (arith, long, long', fits))
      (one_list xs share m other gs h mine.0 (omega (arith, long, fits)) z.0 l.0 has))

  no_part : HasPart [] fin.empty
  no_part q = fin.get-empty key_cmp q ∙ by (within q)
    where
      by : (b : Bool) → None ≡ cond {A = Option AggState} b None None
      by true = refl
      by false = refl

pub parts_join : PartsJoin
parts_join plan width part_of part rows maps lists shared listings few =
    let mine = together shared.shares in
    let fine : All (IsAccepted plan width) mine = All-permutation (IsAccepted plan width) rows mine (IsPermutation-sym mine rows shared.same) shared.accepted in
    let size = length_permutation mine rows shared.same in
    let has = all_lists plan width part_of part shared.shares maps lists [] fin.empty shared.each listings (All-nil (IsAccepted plan width)) fine (omega (arith, size, few)) (no_part plan width part_of part) in
    record {
      each = λ q.
          has q ∙ ap (λ o. cond (part_of q == part) o None) (sym (in_any_order plan width mine rows q fine shared.same))
          ∙ sym (part_group plan part_of part rows q);
    }
