-- The participants with their tokens, from the beginning of a round to its end.
use Rattle.std.proofs.Common.{◌≡◌, ◌≤◌, ◌+◌, ◌++◌, ℕ, zero, suc, false, List, [], ◌∷◌, All, append-nil, append_assoc, get_or, length, map, refl, ap, sym, subst, ◌∙◌, arith}
use mathlib.Core.Option.{some, some-injective}
use lib.ListN.{get_elem?}
use Rattle.std.specs.List.{AllByRecursion}
use Rattle.std.proofs.lemmas.List.Elements.{All-from_recursion, recursion_from_All}
use Rattle.std.proofs.lemmas.List.{map-append}
use Rattle.lock_book.specs.Shown.{mine_of, number_of}
use Rattle.dsa_area.specs.Shown as area
use Rattle.dshash_parts.specs.Tables as table
use Rattle.scan_claim.specs.Shown as claim
use Rattle.scan_claim.specs.declared.claims.Claims.{Claims}
use Rattle.row_blocks.specs.Blocks.{Table}
use Rattle.hash_join.specs.Home.{AreFilled, AreFillers, AreNew, Became}
use Rattle.hash_join.specs.Stores.{HasFilled, Holds, IsNew}
use Rattle.hash_join.specs.declared.filling.Filler.{Filler}
use Rattle.hash_join.specs.declared.store.Store.{Store}
use Rattle.hash_join.proofs.Homes.{get_map, here_at, length-map, map_get, place_low, some_at}

-- ---- lists by their places

-- what holds at each place holds of each element
pub all_from_each : {X : Type 0} (P : X → Type 0) (xs : List X) → ((k : ℕ) (x : X) → get_elem? xs k ≡ some x → P x) → All P xs
all_from_each P xs h = All-from_recursion P xs (by xs h)
  where
    by : (ys : List _) → ((k : ℕ) (x : _) → get_elem? ys k ≡ some x → P x) → AllByRecursion P ys
    by [] f = tt
    by (y ∷ ys) f = (f 0 y refl, by ys (λ k x e. f (suc k) x e))

get_or_at : {X : Type 0} (xs : List X) (k : ℕ) (d x : X) → get_elem? xs k ≡ some x → get_or xs k d ≡ x
get_or_at [] k d x e = absurd (cc)
get_or_at (y ∷ ys) zero d x e = some-injective y x e
get_or_at (y ∷ ys) (suc k) d x e = get_or_at ys k d x e

-- ---- tokens that are put together

-- those of the participants that are made and those that are left, after one more
pub one_more : {F X : Type 0} (of : F → X) (fs fs' : List F) (f : F) (left left' all : List X) → fs' ≡ fs ++ f ∷ [] → left ≡ of f ∷ left' → map of fs ++ left ≡ all → map of fs' ++ left' ≡ all
one_more of fs fs' f left left' all e i h =
    ap (λ m. map of m ++ left') e ∙ (ap (λ m. m ++ left') (map-append of fs (f ∷ [])) ∙ (append_assoc (map of fs) (of f ∷ []) left' ∙ (ap (λ l. map of fs ++ l) (sym i) ∙ h)))

-- where none is left
pub all_made : {F X : Type 0} (of : F → X) (fs : List F) (left all : List X) → length left ≡ 0 → map of fs ++ left ≡ all → map of fs ≡ all
all_made of fs [] all n h = sym (append-nil (map of fs)) ∙ h
all_made of fs (x ∷ left) all n h = absurd (omega arith)

-- as many are left of each
pub same_next : {X Y : Type 0} (x : X) (xs xs' : List X) (y : Y) (ys ys' : List Y) → xs ≡ x ∷ xs' → ys ≡ y ∷ ys' → length xs ≡ length ys → length xs' ≡ length ys'
same_next x xs xs' y ys ys' e f h = let m = ap (λ l. length l) e in let n = ap (λ l. length l) f in omega (arith, m, n, h)

-- and there is room for them
pub room_next : {Y : Type 0} (len len' room room' : ℕ) (y : Y) (ys ys' : List Y) → len' ≡ len + 1 → room' ≡ room → ys ≡ y ∷ ys' → len + length ys ≤ room → len' + length ys' ≤ room'
room_next len len' room room' y ys ys' l r f h = let n = ap (λ l. length l) f in omega (arith, n, l, r, h)

-- ---- tokens that come home

-- those of one more participant
pub come_home : {F X : Type 0} (of : F → X) (fs : List F) (f : F) (xs xs' : List X) → xs ≡ map of fs → xs' ≡ xs ++ of f ∷ [] → xs' ≡ map of (fs ++ f ∷ [])
come_home of fs f xs xs' e p = p ∙ (ap (λ l. l ++ of f ∷ []) e ∙ sym (map-append of fs (f ∷ [])))

-- ---- participants

module _ (s : Store) (c : Claims) (fs : List Filler) (all : AreFillers s c fs) where
  holds_at : (n : ℕ) (f : Filler) → get_elem? fs n ≡ some f → Holds s f × claim.Belongs c f.claim
  holds_at n f e = (
    record { area = all.areas.each n f.area (map_get (λ (g : Filler). g.area) fs n f e); table = all.tables.each n f.table (map_get (λ (g : Filler). g.table) fs n f e) },
    (all.claims.1 n f.claim (map_get (λ (g : Filler). g.claim) fs n f e)).0,
  )

  pub are_new : ((n : ℕ) (f : Filler) → get_elem? fs n ≡ some f → (number : ℕ) → mine_of f.table number ≡ []) → ((n : ℕ) (f : Filler) → get_elem? fs n ≡ some f → claim.draws_of f.claim ≡ [])
      → All (λ (f : Filler). (f.links.items ≡ []) × (f.spilled.items ≡ [])) fs → AreNew s c fs
  are_new calls draws lists =
      all_from_each (λ (f : Filler). Holds s f × claim.Belongs c f.claim × IsNew f) fs
      (λ n f e.
      let h = holds_at n f e in
      let l = here_at (λ (f : Filler). (f.links.items ≡ []) × (f.spilled.items ≡ [])) fs n f e (recursion_from_All (λ (f : Filler). (f.links.items ≡ []) × (f.spilled.items ≡ [])) fs lists) in
      (h.0, h.1, record { calls = calls n f e; draws = draws n f e; links = l.0; spilled = l.1 }))

  module _ (records : Table) (column : ℕ) (gs : List Filler) (filled : AreFilled records column s c fs gs) where
    -- what stood at a place became what stands there
    became_at : (n : ℕ) (g : Filler) → get_elem? gs n ≡ some g → (f : Filler) × (get_elem? fs n ≡ some f) × Became records column s c f g
    became_at n g e =
        let low = place_low gs n g e in
        let f = some_at fs n (omega (arith, low, filled.count)) in
        let b = filled.each n g (omega (arith, low, filled.count)) in
        (f.0, f.1, subst (λ (x : Filler). Became records column s c x g) (get_or_at fs n g f.0 f.1) (subst (Became records column s c (get_or fs n g)) (get_or_at gs n g g e) b))

    pub still_all : AreFillers s c gs
    still_all = record {
      areas = record {
        count = length-map (λ (f : Filler). f.area) gs ∙ (filled.count ∙ (sym (length-map (λ (f : Filler). f.area) fs) ∙ all.areas.count));
        each = λ k p e. let g = get_map (λ (f : Filler). f.area) gs k p e in let b = became_at k g.0 g.1 in subst (area.Belongs s.area) g.2 b.2.own.area;
        numbers = λ k p e.
            let g = get_map (λ (f : Filler). f.area) gs k p e in
            let b = became_at k g.0 g.1 in
            ap area.number_of (sym g.2) ∙ (b.2.same.area ∙ all.areas.numbers k b.0.area (map_get (λ (f : Filler). f.area) fs k b.0 b.1));
      };
      tables = record {
        count = length-map (λ (f : Filler). f.table) gs ∙ (filled.count ∙ (sym (length-map (λ (f : Filler). f.table) fs) ∙ all.tables.count));
        each = λ k p e. let g = get_map (λ (f : Filler). f.table) gs k p e in let b = became_at k g.0 g.1 in subst (λ q. table.Belongs s.table q) g.2 b.2.own.table;
        numbers = λ k p e.
            let g = get_map (λ (f : Filler). f.table) gs k p e in
            let b = became_at k g.0 g.1 in
            ap (λ q. number_of q) (sym g.2) ∙ (b.2.same.table ∙ all.tables.numbers k b.0.table (map_get (λ (f : Filler). f.table) fs k b.0 b.1));
      };
      claims = (
        length-map (λ (f : Filler). f.claim) gs ∙ (filled.count ∙ (sym (length-map (λ (f : Filler). f.claim) fs) ∙ all.claims.0)),
        λ k p e.
            let g = get_map (λ (f : Filler). f.claim) gs k p e in
            let b = became_at k g.0 g.1 in (
              subst (claim.Belongs c) g.2 b.2.seat,
              ap claim.number_of (sym g.2) ∙ (b.2.same.claim ∙ (all.claims.1 k b.0.claim (map_get (λ (f : Filler). f.claim) fs k b.0 b.1)).1),
            ),
      );
    }

    pub all_filled : All (λ (f : Filler). f.lacks_memory ≡ false) gs → All (HasFilled records column c) gs
    all_filled whole =
        all_from_each (HasFilled records column c) gs
        (λ n g e. (became_at n g e).2.filled (here_at (λ (f : Filler). f.lacks_memory ≡ false) gs n g e (recursion_from_All (λ (f : Filler). f.lacks_memory ≡ false) gs whole)))
