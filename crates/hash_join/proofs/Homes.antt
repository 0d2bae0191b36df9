-- What the participants brought home covers all rows, and shows that they were shared out.
use Rattle.std.proofs.Common.{◌≡◌, ◌<◌, ◌≤◌, ◌++◌, ℕ, zero, suc, Bool, true, false, ltb, IsTrue, List, [], ◌∷◌, Any, length, map, refl, ap, sym, subst, ◌∙◌, arith}
use mathlib.Core.Option.{some, some-injective}
use lib.ListN.{get_elem?}
use Rattle.std.specs.List.{AllByRecursion, flat_map}
use Rattle.std.specs.List.Sorted.{IsPermutation}
use Rattle.std.proofs.lemmas.List.Elements.{All-weaker, recursion_from_All}
use Rattle.csv_rows.specs.Records.{field_of}
use Rattle.lock_book.specs.History.{IsLegal, calls_by, row_at}
use Rattle.lock_book.specs.Shown.{mine_of}
use Rattle.rel_pointer.specs.Bytes.{AllBytes}
use Rattle.dsa_area.specs.Shown as area
use Rattle.dsa_area.specs.Shown.{pages_mine}
use Rattle.dsa_area.specs.declared.area.AreaPass.{AreaPass}
use Rattle.dshash_parts.specs.Legal.{PartitionLegal}
use Rattle.dshash_parts.specs.States.{fresh}
use Rattle.dshash_parts.specs.Tables as table
use Rattle.dshash_parts.specs.Tables.{callers_of, map_at}
use Rattle.scan_claim.specs.Drawing.{IsDrawn, flat, is_spent, once_below, times}
use Rattle.scan_claim.specs.Shown.{AreSeats, blocks_of, draws_of, lists_of}
use Rattle.scan_claim.specs.declared.claims.ClaimSeat.{ClaimSeat}
use Rattle.scan_claim.specs.declared.claims.Claims.{Claims}
use Rattle.scan_claim.specs.declared.claims.Drawn.{Drawn}
use Rattle.row_blocks.specs.Blocks.{AreBlocks, Table, numbers_of, numbers_of_blocks}
use Rattle.join_pairs.specs.Chains.{last_step}
use Rattle.join_pairs.specs.Gathered.{IsCovered}
use Rattle.join_pairs.specs.Join.{IsRow, keyed}
use Rattle.join_pairs.specs.declared.chains.Link.{Link}
use Rattle.hash_join.specs.Filled.{HasPut, RowEntry, WasMissed, WasTurnedAway, calls_at, done_in, key_of, longest_chain, partition_at}
use Rattle.dshash_parts.specs.Done.{IsMissing, IsTurnedAway, PageEntry, lacks}
use Rattle.dshash_parts.proofs.Causes.{causes_kept}
use Rattle.hash_join.specs.Home.{IsHome}
use Rattle.hash_join.specs.Probes.{last_in}
use Rattle.hash_join.specs.Stores.{HasFilled}
use Rattle.hash_join.specs.Used.{IsShared, WerePut}
use Rattle.hash_join.specs.Widths.{key_words}
use Rattle.hash_join.specs.declared.filling.Filler.{Filler}
use Rattle.hash_join.specs.declared.gathering.Home.{Home}
use Rattle.hash_join.specs.declared.store.Store.{Store}
use Rattle.hash_join.proofs.Covering.{map-map}
use Rattle.hash_join.proofs.Lasts.{covered}
use Rattle.hash_join.proofs.Gathers.{AllPut, all_rows, rows_of}

-- ---- places of lists

pub some_at : {X : Type 0} (xs : List X) (k : ℕ) → k < length xs → (x : X) × (get_elem? xs k ≡ some x)
some_at [] k low = absurd (omega (arith, low))
some_at (x ∷ xs) zero low = (x, refl)
some_at (x ∷ xs) (suc k) low = some_at xs k (omega (arith, low))

pub place_low : {X : Type 0} (xs : List X) (k : ℕ) (x : X) → get_elem? xs k ≡ some x → k < length xs
place_low [] k x e = absurd (cc)
place_low (y ∷ ys) zero x e = omega arith
place_low (y ∷ ys) (suc k) x e = let l = place_low ys k x e in omega (arith, l)

pub length-map : {X Y : Type 0} (f : X → Y) (xs : List X) → length (map f xs) ≡ length xs
length-map f [] = refl
length-map f (x ∷ xs) = ap suc (length-map f xs)

pub map_get : {X Y : Type 0} (f : X → Y) (xs : List X) (n : ℕ) (x : X) → get_elem? xs n ≡ some x → get_elem? (map f xs) n ≡ some (f x)
map_get f [] n x e = absurd (cc)
map_get f (z ∷ zs) zero x e = ap (λ y. some (f y)) (some-injective z x e)
map_get f (z ∷ zs) (suc n) x e = map_get f zs n x e

pub get_map : {X Y : Type 0} (f : X → Y) (xs : List X) (n : ℕ) (y : Y) → get_elem? (map f xs) n ≡ some y → (x : X) × (get_elem? xs n ≡ some x) × (f x ≡ y)
get_map f [] n y e = absurd (cc)
get_map f (z ∷ zs) zero y e = (z, refl, some-injective (f z) y e)
get_map f (z ∷ zs) (suc n) y e = get_map f zs n y e

row_at_map : {X A : Type 0} (f : X → List A) (xs : List X) (n : ℕ) (x : X) → get_elem? xs n ≡ some x → row_at (map f xs) n ≡ f x
row_at_map f [] n x e = absurd (cc)
row_at_map f (z ∷ zs) zero x e = ap f (some-injective z x e)
row_at_map f (z ∷ zs) (suc n) x e = row_at_map f zs n x e

pub here_at : {X : Type 0} (P : X → Type 0) (xs : List X) (n : ℕ) (x : X) → get_elem? xs n ≡ some x → AllByRecursion P xs → P x
here_at P [] n x e h = absurd (cc)
here_at P (z ∷ zs) zero x e h = subst P (some-injective z x e) h.0
here_at P (z ∷ zs) (suc n) x e h = here_at P zs n x e h.1

flat_mapped : {X A : Type 0} (f : X → List A) (xs : List X) → flat_map (λ (l : List A). l) (map f xs) ≡ flat_map f xs
flat_mapped f [] = refl
flat_mapped {X} {A} f (x ∷ xs) = ap (λ (l : List A). f x ++ l) (flat_mapped f xs)

-- ---- draws

below_one : (x n : ℕ) → once_below x n ≡ 1 → x < n
below_one x n e = by (ltb x n) refl
  where
    by : (b : Bool) → ltb x n ≡ b → x < n
    by true t = grind (arith, t)
    by false t = let no : once_below x n ≡ 0 = grind (arith, t) in absurd (omega (arith, no, e))

-- where each block was drawn, there were as many draws as blocks
drawn_enough : (b n : ℕ) → ((x : ℕ) → x < b → once_below x n ≡ 1) → b ≤ n
drawn_enough zero n h = omega arith
drawn_enough (suc b) n h = let l = below_one b n (h b (omega arith)) in omega (arith, l)

-- ---- what a participant put in, by the calls of its number in the closed table

put_moved : (records : Table) (column : ℕ) (rows : List ℕ) (mine calls : ℕ → List RowEntry) (at_pages : List PageEntry) (links : List Link) (spilled : List ℕ) → ((i : ℕ) → calls i ≡ mine i)
    → HasPut records column rows mine at_pages links spilled → HasPut records column rows calls at_pages links spilled
put_moved records column rows mine calls at_pages links spilled same h = record {
  all = h.all;
  done = λ i low. ap done_in (same i) ∙ h.done i low;
  missed = All-weaker (WasMissed records column mine) (WasMissed records column calls)
      (λ r m. subst (Any (λ (e : RowEntry). IsMissing (key_of records column r) r e.call e.reply)) (sym (same (partition_at records column r))) m) spilled h.missed;
  causes = causes_kept (WasTurnedAway records column mine) (WasTurnedAway records column calls)
      (λ r m. subst (Any (λ (e : RowEntry). IsTurnedAway longest_chain (key_of records column r) r e.call e.reply)) (sym (same (partition_at records column r))) m) spilled (lacks at_pages) (lacks at_pages) h.causes (omega arith);
}

module _ (records : Table) (column : ℕ) (s : Store) (c : Claims) (fs : List Filler) (h : Home) (home : IsHome records column s c fs h) where
  -- ---- the tokens

  pub home_areas : area.AreAll s.area h.areas.items
  home_areas = subst (λ l. area.AreAll s.area l) (sym home.areas) home.all.areas

  pub home_tables : table.AreAll s.table h.tables.items
  home_tables = subst (λ l. table.AreAll s.table l) (sym home.tables) home.all.tables

  pub table_at : (n : ℕ) (f : Filler) → get_elem? fs n ≡ some f → get_elem? h.tables.items n ≡ some f.table
  table_at n f e = subst (λ l. get_elem? l n ≡ some f.table) (sym home.tables) (map_get (λ (f : Filler). f.table) fs n f e)

  -- there are as many participants as callers of the table
  pub callers_past : (n : ℕ) → length fs ≤ n → callers_of s.table ≤ n
  callers_past n past =
      let many : length h.tables.items ≡ length fs = subst (λ l. length l ≡ length fs) (sym home.tables) (length-map (λ (f : Filler). f.table) fs) in
      let all = home_tables.count in
      omega (arith, past, many, all)

  pub home_seats : AreSeats c h.claims.items
  home_seats = subst (λ l. AreSeats c l) (sym home.claims) home.all.claims

  filled : AllByRecursion (HasFilled records column c) fs
  filled = recursion_from_All (HasFilled records column c) fs home.filled

  -- ---- the lists

  abbrev draws : List (List ℕ)
  draws = map (λ (f : Filler). draws_of f.claim) fs

  abbrev links : List (List Link)
  links = map (λ (f : Filler). f.links.items) fs

  abbrev spilled : List (List ℕ)
  spilled = map (λ (f : Filler). f.spilled.items) fs

  puts : (gs : List Filler) → AllByRecursion (HasFilled records column c) gs → AllPut records column (map (λ (f : Filler). draws_of f.claim) gs) (map (λ (f : Filler). f.links.items) gs) (map (λ (f : Filler). f.spilled.items) gs)
  puts [] a = tt
  puts (g ∷ gs) a = (a.0.put.all, puts gs a.1)

  same_links : flat_map (λ v. v.items) h.links.items ≡ flat_map (λ (l : List Link). l) links
  same_links = ap (flat_map (λ v. v.items)) home.links ∙ (mapped fs ∙ sym (flat_mapped (λ (f : Filler). f.links.items) fs))
    where
      mapped : (gs : List Filler) → flat_map (λ v. v.items) (map (λ (f : Filler). f.links) gs) ≡ flat_map (λ (f : Filler). f.links.items) gs
      mapped [] = refl
      mapped (g ∷ gs) = ap (λ (l : List Link). g.links.items ++ l) (mapped gs)

  same_spilled : flat_map (λ v. v.items) h.spilled.items ≡ flat_map (λ (l : List ℕ). l) spilled
  same_spilled = ap (flat_map (λ v. v.items)) home.spilled ∙ (mapped fs ∙ sym (flat_mapped (λ (f : Filler). f.spilled.items) fs))
    where
      mapped : (gs : List Filler) → flat_map (λ v. v.items) (map (λ (f : Filler). f.spilled) gs) ≡ flat_map (λ (f : Filler). f.spilled.items) gs
      mapped [] = refl
      mapped (g ∷ gs) = ap (λ (l : List ℕ). g.spilled.items ++ l) (mapped gs)

  module _ (d : Drawn) (lists : lists_of d ≡ map draws_of h.claims.items) (some_home : 0 < length h.areas.items) (blocks : AreBlocks records (blocks_of c))
      (every : (k : ℕ) (seat : ClaimSeat) → get_elem? h.claims.items k ≡ some seat → IsTrue (is_spent (blocks_of c) (draws_of seat)) → (x : ℕ) → x < blocks_of c → times x (flat (lists_of d)) ≡ 1) where
    same_draws : lists_of d ≡ draws
    same_draws = lists ∙ (ap (map draws_of) home.claims ∙ map-map (λ (f : Filler). f.claim) draws_of fs)

    callers : length h.areas.items ≡ length fs
    callers = ap (λ (l : List AreaPass). length l) home.areas ∙ length-map (λ (f : Filler). f.area) fs

    -- each block was drawn once
    all_once : (x : ℕ) → x < blocks_of c → times x (flat (lists_of d)) ≡ 1
    all_once x low =
        let first = some_at fs 0 (omega (arith, some_home, callers)) in
        let seat : get_elem? h.claims.items 0 ≡ some (first.0.claim) = ap (λ (l : List ClaimSeat). get_elem? l 0) home.claims ∙ map_get (λ (f : Filler). f.claim) fs 0 first.0 first.1 in
        every 0 first.0.claim seat (here_at (HasFilled records column c) fs 0 first.0 first.1 filled).spent x low

    all_rows_put : (n : ℕ) × IsDrawn (blocks_of c) (lists_of d) n → IsPermutation (keyed records column (numbers_of records)) (rows_of (flat_map (λ l. l) links) ++ flat_map (λ l. l) spilled)
    all_rows_put drawn =
        let once : (x : ℕ) → times x (flat draws) ≡ once_below x drawn.0 = λ x. ap (λ (l : List (List ℕ)). times x (flat l)) (sym same_draws) ∙ drawn.1.once x in
        let enough : blocks_of c ≤ drawn.0 = drawn_enough (blocks_of c) drawn.0 (λ x low. sym (drawn.1.once x) ∙ all_once x low) in
        all_rows records column draws links spilled drawn.0 (puts fs filled) once (omega (arith, blocks.all, enough))

    -- the histories of a table that was closed with the participants' passes
    module _ (history : ℕ → List RowEntry) (mine : (n i : ℕ) (f : Filler) → get_elem? fs n ≡ some f → calls_by n (history i) ≡ mine_of f.table i) (no_others : (i n : ℕ) → length fs ≤ n → calls_by n (history i) ≡ [])
        (lawful : (i : ℕ) → i < 128 → IsLegal (λ _. PartitionLegal last_step i) fresh (history i)) where
      made : (n i : ℕ) → i < 128 → n < length links → done_in (calls_by n (history i)) ≡ calls_at records column i (row_at links n)
      made n i low there =
          let f = some_at fs n (omega (arith, there, length-map (λ (f : Filler). f.links.items) fs)) in
          let put = (here_at (HasFilled records column c) fs n f.0 f.1 filled).put in
          ap done_in (mine n i f.0 f.1) ∙ (put.done i low ∙ ap (calls_at records column i) (sym (row_at_map (λ (f : Filler). f.links.items) fs n f.0 f.1)))

      none_past : (n i : ℕ) → i < 128 → length links ≤ n → calls_by n (history i) ≡ []
      none_past n i low past = no_others i n (omega (arith, past, length-map (λ (f : Filler). f.links.items) fs))

      pub home_covered : (words : ℕ) → words ≡ key_words records column → ((row : ℕ) → IsRow records row → AllBytes (field_of records row column)) → (n : ℕ) × IsDrawn (blocks_of c) (lists_of d) n
          → IsCovered records column (last_in (map_at history) words) (flat_map (λ v. v.items) h.links.items) (flat_map (λ v. v.items) h.spilled.items)
      home_covered words is bytes drawn =
          subst (λ (ls : List Link). IsCovered records column (last_in (map_at history) words) ls (flat_map (λ v. v.items) h.spilled.items)) (sym same_links)
          (subst (λ (ss : List ℕ). IsCovered records column (last_in (map_at history) words) (flat_map (λ (l : List Link). l) links) ss) (sym same_spilled)
          (covered records column history links made none_past lawful bytes words is (flat_map (λ (l : List ℕ). l) spilled) (all_rows_put drawn)))

      were_put : (n : ℕ) (f : Filler) → get_elem? fs n ≡ some f → WerePut records column (numbers_of_blocks records (draws_of f.claim)) (λ number. calls_by n (history number)) (pages_mine f.area)
      were_put n f e = record {
        links = f.links.items;
        spilled = f.spilled.items;
        put = put_moved records column (numbers_of_blocks records (draws_of f.claim)) (mine_of f.table) (λ number. calls_by n (history number)) (pages_mine f.area) f.links.items f.spilled.items (λ i. mine n i f e)
            (here_at (HasFilled records column c) fs n f e filled).put;
      }

      pub home_shared : IsShared records column (length h.areas.items) d history h.areas.items
      home_shared = record {
        count = refl;
        passes = (s.area, home_areas);
        lists = ap (λ (l : List (List ℕ)). length l) same_draws ∙ (length-map (λ (f : Filler). draws_of f.claim) fs ∙ sym callers);
        once = λ block has. all_once block (omega (arith, has, blocks.all));
        each = λ n ds a e g.
            let f = get_map (λ (f : Filler). draws_of f.claim) fs n ds (subst (λ (l : List (List ℕ)). get_elem? l n ≡ some ds) same_draws e) in
            let b = get_map (λ (f : Filler). f.area) fs n a (subst (λ (l : List AreaPass). get_elem? l n ≡ some a) home.areas g) in
            let one : b.0 ≡ f.0 = some-injective b.0 f.0 (sym b.1 ∙ f.1) in
            subst (λ (l : List ℕ). WerePut records column (numbers_of_blocks records l) (λ number. calls_by n (history number)) (pages_mine a)) f.2
            (subst (λ (p : AreaPass). WerePut records column (numbers_of_blocks records (draws_of f.0.claim)) (λ number. calls_by n (history number)) (pages_mine p)) (ap (λ (z : Filler). z.area) (sym one) ∙ b.2) (were_put n f.0 f.1));
        no_others = λ n number low past. no_others number n (omega (arith, past, callers));
        lawful = lawful;
      }
