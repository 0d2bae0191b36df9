-- A participant puts in one more row.
use Rattle.std.proofs.Common.{◌≡◌, ◌<◌, ◌≤◌, ◌==◌, ◌++◌, Bool, true, false, cond, filter, not, ℕ, List, [], ◌∷◌, Any, map, refl, ap, sym, subst, ◌∙◌, arith, append-nil}
use Rattle.std.specs.List.Sorted.{IsPermutation}
use Rattle.std.proofs.lemmas.List.{map-append}
use Rattle.std.proofs.lemmas.List.Elements.{All-nil, All-push, All-weaker, filter-append}
use Rattle.std.proofs.lemmas.List.Sorted.{IsPermutation-refl}
use Rattle.csv_rows.specs.Records.{field_of}
use Rattle.dsa_area.specs.Shown.{pages_mine}
use Rattle.dsa_area.specs.declared.area.Area.{Area}
use Rattle.dshash_parts.specs.Promises.{IsMade, IsRefused}
use Rattle.dshash_parts.specs.Traces.{Event, NoneMade, Sight, Trace, turns_at}
use Rattle.dshash_parts.specs.Within.{IsCrowdedOut}
use Rattle.row_blocks.specs.Blocks.{Table, numbers_of_blocks}
use Rattle.par_model.specs.Record.{is_null}
use Rattle.join_pairs.specs.Chains.{last_step}
use Rattle.hash_join.specs.Filled.{HasPut, RowEntry, WasMissed, WasTurnedAway, calls_at, done_in, key_of, longest_chain, made_call, partition_at}
use Rattle.dshash_parts.specs.Done.{HaveCauses, IsMissing, IsTurnedAway, PageEntry, lacks}
use Rattle.join_pairs.specs.Join.{keyed}
use Rattle.join_pairs.specs.declared.chains.Link.{Link}
use Rattle.row_blocks.proofs.Elements.{any_left, any_right}
use Rattle.join_pairs.proofs.Filters.{filter-not_one, filter-one}
use Rattle.row_blocks.proofs.Permute.{more_first, more_second}
use Rattle.dshash_parts.proofs.Causes.{causes_crowded, causes_kept, causes_lacked, causes_none}
use Rattle.dshash_parts.proofs.Done.{all_grew, all_lacks, crowded_there, done_by, done_then, made_done, missed_there, none_done, refused_misses}

module _ (records : Table) (column row : ℕ) where
  abbrev key : List ℕ
  key = key_of records column row

  abbrev number : ℕ
  number = partition_at records column row

  -- ---- one more row

  keyed_one : (rows : List ℕ) → is_null (field_of records row column) ≡ false → keyed records column (rows ++ row ∷ []) ≡ keyed records column rows ++ row ∷ []
  keyed_one rows some =
      filter-append (λ r. not (is_null (field_of records r column))) rows (row ∷ [])
      ∙ ap (λ (l : List ℕ). keyed records column rows ++ l) (filter-one (λ r. not (is_null (field_of records r column))) row (ap not some))

  keyed_none : (rows : List ℕ) → is_null (field_of records row column) ≡ true → keyed records column (rows ++ row ∷ []) ≡ keyed records column rows
  keyed_none rows none =
      filter-append (λ r. not (is_null (field_of records r column))) rows (row ∷ [])
      ∙ ap (λ (l : List ℕ). keyed records column rows ++ l) (filter-not_one (λ r. not (is_null (field_of records r column))) row (ap not none)) ∙ append-nil (keyed records column rows)

  pub put_empty : (rows : List ℕ) (calls : ℕ → List RowEntry) (at_pages : List PageEntry) (links : List Link) (spilled : List ℕ) → is_null (field_of records row column) ≡ true
      → HasPut records column rows calls at_pages links spilled → HasPut records column (rows ++ row ∷ []) calls at_pages links spilled
  put_empty rows calls at_pages links spilled none h = record {
    all = subst (λ l. IsPermutation l (map (λ (l : Link). l.row) links ++ spilled)) (sym (keyed_none rows none)) h.all;
    done = h.done;
    missed = h.missed;
    causes = h.causes;
  }

  module _ (a : Area) (n : ℕ) (v w : Sight ℕ ℕ ℕ) (es : List (Event ℕ ℕ ℕ)) (t : Trace last_step a n v w es) (rows : List ℕ) (links : List Link) (spilled : List ℕ) (some : is_null (field_of records row column) ≡ false)
      (h : HasPut records column rows v.mine (pages_mine v.area) links spilled) where
    still_missed : (r : ℕ) → WasMissed records column v.mine r → WasMissed records column w.mine r
    still_missed r m =
        let g = all_grew last_step a n (partition_at records column r) v w es t in
        subst (Any (λ (e : RowEntry). IsMissing (key_of records column r) r e.call e.reply)) (sym g.grows)
        (any_left (λ (e : RowEntry). IsMissing (key_of records column r) r e.call e.reply) (v.mine (partition_at records column r)) g.more m)

    still_away : (r : ℕ) → WasTurnedAway records column v.mine r → WasTurnedAway records column w.mine r
    still_away r m =
        let g = all_grew last_step a n (partition_at records column r) v w es t in
        subst (Any (λ (e : RowEntry). IsTurnedAway longest_chain (key_of records column r) r e.call e.reply)) (sym g.grows)
        (any_left (λ (e : RowEntry). IsTurnedAway longest_chain (key_of records column r) r e.call e.reply) (v.mine (partition_at records column r)) g.more m)

    no_less : lacks (pages_mine v.area) ≤ lacks (pages_mine w.area)
    no_less = let all = all_lacks last_step a n v w es t in omega (arith, all)

    -- what the calls that were made are then
    done_after : (k : ℕ) → k < 128 → done_in (w.mine k) ≡ calls_at records column k links ++ done_by made_call (turns_at k es)
    done_after k low = done_then made_call last_step a n k v w es t ∙ ap (λ (l : List (List ℕ × Link)). l ++ done_by made_call (turns_at k es)) (h.done k low)

    pub put_made : (item before : ℕ) → IsMade number item key row before es → HasPut records column (rows ++ row ∷ []) w.mine (pages_mine w.area) (links ++ record { row = row; before = before } ∷ []) spilled
    put_made item before m =
        let one : Link = record { row = row; before = before } in
        let firsts = map (λ (l : Link). l.row) links in
        record {
          all = subst (λ l. IsPermutation l (map (λ (l : Link). l.row) (links ++ one ∷ []) ++ spilled)) (sym (keyed_one rows some))
              (subst (λ (l : List ℕ). IsPermutation (keyed records column rows ++ row ∷ []) (l ++ spilled)) (sym (map-append (λ (l : Link). l.row) links (one ∷ []))) (more_first (keyed records column rows) firsts spilled row h.all));
          done = λ k low. done_after k low ∙ ap (λ (l : List (List ℕ × Link)). calls_at records column k links ++ l) (made_done made_call k number item key row before es m)
              ∙ sym (ap (map (λ (l : Link). (key_of records column l.row, l))) (filter-append (λ (l : Link). partition_at records column l.row == k) links (one ∷ []))
              ∙ map-append (λ (l : Link). (key_of records column l.row, l)) (filter (λ (l : Link). partition_at records column l.row == k) links) (filter (λ (l : Link). partition_at records column l.row == k) (one ∷ []))
              ∙ ap (λ (l : List (List ℕ × Link)). calls_at records column k links ++ l) (last k one (number == k)));
          missed = All-weaker (WasMissed records column v.mine) (WasMissed records column w.mine) still_missed spilled h.missed;
          causes = causes_kept (WasTurnedAway records column v.mine) (WasTurnedAway records column w.mine) still_away spilled (lacks (pages_mine v.area)) (lacks (pages_mine w.area)) h.causes no_less;
        }
      where
        last : (k : ℕ) (one : Link) (b : Bool) → map (λ (l : Link). (key_of records column l.row, l)) (cond {A = List Link} b (one ∷ []) []) ≡ cond {A = List (List ℕ × Link)} b ((key_of records column one.row, one) ∷ []) []
        last k one true = refl
        last k one false = refl

    -- the row was not put in: some calls say so
    module _ (here : WasMissed records column w.mine row) (none : NoneMade es) (causes : HaveCauses (WasTurnedAway records column w.mine) (spilled ++ row ∷ []) (lacks (pages_mine w.area))) where
      spills : HasPut records column (rows ++ row ∷ []) w.mine (pages_mine w.area) links (spilled ++ row ∷ [])
      spills =
          let firsts = map (λ (l : Link). l.row) links in
          record {
            all = subst (λ l. IsPermutation l (firsts ++ (spilled ++ row ∷ []))) (sym (keyed_one rows some)) (more_second (keyed records column rows) firsts spilled row h.all);
            done = λ k low. done_after k low ∙ ap (λ (l : List (List ℕ × Link)). calls_at records column k links ++ l) (none_done made_call k es none) ∙ append-nil (calls_at records column k links);
            missed = All-push (WasMissed records column w.mine) spilled row (All-weaker (WasMissed records column v.mine) (WasMissed records column w.mine) still_missed spilled h.missed) here;
            causes = causes;
          }

    -- the entries at the row's partition
    abbrev IsEntry : RowEntry → Type 0
    IsEntry e = IsMissing key row e.call e.reply

    abbrev IsAway : RowEntry → Type 0
    IsAway e = IsTurnedAway longest_chain key row e.call e.reply

    pub put_spilled : (item wanted largest : ℕ) → IsRefused number item key row wanted largest es → HasPut records column (rows ++ row ∷ []) w.mine (pages_mine w.area) links (spilled ++ row ∷ [])
    put_spilled item wanted largest r =
        let g = all_grew last_step a n number v w es t in
        let there = missed_there number item key row wanted largest es r g.more g.are in
        let one_more = refused_misses number item key row wanted largest es r in
        let all = all_lacks last_step a n v w es t in
        spills
        (subst (Any IsEntry) (sym g.grows) (any_right IsEntry (v.mine number) g.more there))
        r.none
        (causes_lacked (WasTurnedAway records column v.mine) (WasTurnedAway records column w.mine) still_away spilled (lacks (pages_mine v.area)) (lacks (pages_mine w.area)) h.causes row (omega (arith, all, one_more)))

    pub put_away : (item seed : ℕ) → IsCrowdedOut number item key row seed longest_chain es → HasPut records column (rows ++ row ∷ []) w.mine (pages_mine w.area) links (spilled ++ row ∷ [])
    put_away item seed r =
        let g = all_grew last_step a n number v w es t in
        let there = crowded_there (IsMissing key row) number item key row seed longest_chain es r (λ s. (refl, refl)) g.more g.are in
        let away = crowded_there (IsTurnedAway longest_chain key row) number item key row seed longest_chain es r (λ s. (refl, refl, refl)) g.more g.are in
        spills
        (subst (Any IsEntry) (sym g.grows) (any_right IsEntry (v.mine number) g.more there))
        r.none
        (causes_crowded (WasTurnedAway records column v.mine) (WasTurnedAway records column w.mine) still_away spilled (lacks (pages_mine v.area)) (lacks (pages_mine w.area)) h.causes row no_less
        (subst (Any IsAway) (sym g.grows) (any_right IsAway (v.mine number) g.more away)))

-- ---- at the beginning

pub new_draw : (records : Table) (column : ℕ) (draws : List ℕ) (calls : ℕ → List RowEntry) (at_pages : List PageEntry) (links : List Link) (spilled : List ℕ) → draws ≡ [] → ((k : ℕ) → calls k ≡ []) → links ≡ [] → spilled ≡ []
    → HasPut records column (numbers_of_blocks records draws) calls at_pages links spilled
new_draw records column draws calls at_pages links spilled no_draws no_calls no_links no_spilled =
    subst (λ (ds : List ℕ). HasPut records column (numbers_of_blocks records ds) calls at_pages links spilled) (sym no_draws)
    (subst (λ (ls : List Link). HasPut records column [] calls at_pages ls spilled) (sym no_links)
    (subst (λ (ss : List ℕ). HasPut records column [] calls at_pages [] ss) (sym no_spilled)
    (record { all = IsPermutation-refl []; done = λ k low. ap done_in (no_calls k); missed = All-nil (WasMissed records column calls); causes = causes_none (WasTurnedAway records column calls) (lacks at_pages) })))
