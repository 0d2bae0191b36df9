-- The passes of the table of groups: how they are dealt, and that they come home in order.
use Rattle.std.proofs.Common.{◌≡◌, ◌≤◌, ◌+◌, ◌++◌, ℕ, zero, suc, List, [], ◌∷◌, Option, Some, None, length, map, option_map, MatchOption, IfSome, IsSomeAnd, refl, ap, sym, subst, ◌∙◌, arith, append-nil, append_assoc}
use Rattle.std.proofs.Math.Path.{fun_ext}
use Rattle.std.proofs.lemmas.List.{length-map}
use Rattle.parallel_ctx.specs.Ran.{AreWhole}
use mathlib.Core.Option.{some, some-injective, some-ne-none}
use lib.ListN.{get_elem?}
use Rattle.atomic_table.specs.Seated.{TableId}
use Rattle.dsa_area.specs.Shown.{AreAll, Belongs, number_of as area_number, pages_mine}
use Rattle.dsa_area.specs.declared.area.AreaPass.{AreaPass}
use Rattle.lock_book.specs.History.{calls_by}
use Rattle.lock_book.specs.Shown.{mine_of, number_of}
use Rattle.agg_table.specs.Calls.{AggEntry, Use}
use Rattle.agg_table.specs.Ending.{AreSeats, IsClosed}
use Rattle.agg_table.specs.Shown.{IsHashSeat, IsPart, IsSeat, StaysSeated, callers_of, use_in}
use Rattle.agg_table.specs.declared.part.HashPart.{HashPart}
use Rattle.agg_table.specs.declared.part.HashSeat.{HashSeat}
use Rattle.parallel_ctx.specs.Accounts.{IsUnusedTable, pages_by}
use Rattle.parallel_ctx.specs.Making.{AreDealt, firsts}
use Rattle.parallel_ctx.specs.Returns.{there}
use Rattle.parallel_ctx.specs.Tokens.{HasCallers}

not_none : {A : Type 0} (x : A) → Some x ≡ None → ⊥
not_none x e = cc

-- ---- dealing

firsts_none : (n k : ℕ) (o : Option HashSeat) → get_elem? (firsts [] n) k ≡ some o → o ≡ None
firsts_none zero k o e = absurd (some-ne-none o (sym e))
firsts_none (suc n) zero o e = sym (some-injective None o e)
firsts_none (suc n) (suc k) o e = firsts_none n k o e

record Given (seats : List HashSeat) (k : ℕ) (o : Option HashSeat) : Type 0 where
  pub it : HashSeat
  pub is : o ≡ Some it
  pub at : get_elem? seats k ≡ some it

firsts_some : (seats : List HashSeat) (n k : ℕ) (o : Option HashSeat) → length seats ≡ n → get_elem? (firsts seats n) k ≡ some o → Given seats k o
firsts_some [] zero k o l e = absurd (some-ne-none o (sym e))
firsts_some [] (suc n) k o l e = absurd (omega (arith, l))
firsts_some (s ∷ seats) zero k o l e = absurd (omega (arith, l))
firsts_some (s ∷ seats) (suc n) zero o l e = record { it = s; is = sym (some-injective (Some s) o e); at = refl }
firsts_some (s ∷ seats) (suc n) (suc k) o l e = let g = firsts_some seats n k o (omega (arith, l)) e in record { it = g.it; is = g.is; at = g.at }

module _ (region : TableId) where
  -- the passes of participants with the numbers from n on
  abbrev pub AreHashes : Option HashPart → ℕ → List (Option HashSeat) → Type 0
  AreHashes p n os = (k : ℕ) (o : Option HashSeat) → get_elem? os k ≡ some o → IsHashSeat region (n + k) p o

  pub dealt_hashes : (p : Option HashPart) (callers : ℕ) (seats : List HashSeat) → AreDealt region callers p seats → AreHashes p 0 (firsts seats callers)
  dealt_hashes None callers seats d k o e =
      subst (IsHashSeat region k None) (sym (firsts_none callers k o (subst (λ (ss : List HashSeat). get_elem? (firsts ss callers) k ≡ some o) d e))) tt
  dealt_hashes (Some p) callers seats d k o e =
      let g = firsts_some seats callers k o (d.2.count ∙ d.1) e in
      subst (λ (i : ℕ). IsHashSeat region i (Some p) o) (let n : k ≡ 0 + k = omega arith in n) (subst (IsHashSeat region k (Some p)) (sym g.is) (d.0, d.2.each k g.it g.at, d.2.unused k g.it g.at))

  pub dealt_callers : (p : Option HashPart) (callers : ℕ) (seats : List HashSeat) → AreDealt region callers p seats → HasCallers callers p
  dealt_callers None callers seats d = tt
  dealt_callers (Some p) callers seats d = d.1

  -- passes that were not used stay in their places
  pub stays_seated : (number : ℕ) (p : Option HashPart) (s : Option HashSeat) → IsHashSeat region number p s → StaysSeated p s s
  stays_seated number None None h = tt
  stays_seated number None (Some s) h = absurd h
  stays_seated number (Some p) None h = absurd h
  stays_seated number (Some p) (Some s) h = (
    h.1,
    record {
      number = refl;
      turns = λ i. ([], sym (append-nil _));
      seen = λ i. ([], sym (append-nil _));
      pages = ([], sym (append-nil _));
      pages_seen = ([], sym (append-nil _));
      pools = λ k is. ([], sym (append-nil _));
      pools_seen = λ k is. ([], sym (append-nil _));
    },
  )

  pub unused_table : (number : ℕ) (p : Option HashPart) (s : Option HashSeat) → IsHashSeat region number p s → IsUnusedTable (use_in s)
  unused_table number None None h = tt
  unused_table number None (Some s) h = absurd h
  unused_table number (Some p) None h = absurd h
  unused_table number (Some p) (Some s) h = h.2.turns

  -- ---- coming home

  -- what a participant of this number brought home
  abbrev pub IsHome : Option HashPart → ℕ → Option HashSeat → Type 0
  IsHome None number None = Unit {0}
  IsHome None number (Some s) = ⊥
  IsHome (Some p) number None = ⊥
  IsHome (Some p) number (Some s) = IsSeat p s × (number_of s.table ≡ number)

  pub comes_home : (p : Option HashPart) (number : ℕ) (s t : Option HashSeat) → IsHashSeat region number p s → StaysSeated p s t → IsHome p number t
  comes_home None number None None h x = tt
  comes_home None number None (Some t) h x = absurd x
  comes_home None number (Some s) t h x = absurd h
  comes_home (Some p) number None t h x = absurd h
  comes_home (Some p) number (Some s) None h x = absurd x
  comes_home (Some p) number (Some s) (Some t) h x = (x.0, x.1.number ∙ h.2.number_is)

  -- they come home in order of their numbers, from n on
  abbrev pub AreHome : Option HashPart → ℕ → List (Option HashSeat) → Type 0
  AreHome p n [] = Unit {0}
  AreHome p n (o ∷ os) = IsHome p n o × AreHome p (suc n) os

  pub none_home : (n : ℕ) (os : List (Option HashSeat)) → AreHome None n os → there os ≡ []
  none_home n [] h = refl
  none_home n (None ∷ os) h = none_home (suc n) os h.1
  none_home n (Some s ∷ os) h = absurd h.0

  pub home_count : (p : HashPart) (n : ℕ) (os : List (Option HashSeat)) → AreHome (Some p) n os → length (there os) ≡ length os
  home_count p n [] h = refl
  home_count p n (None ∷ os) h = absurd h.0
  home_count p n (Some s ∷ os) h = ap suc (home_count p (suc n) os h.1)

  pub home_at : (p : HashPart) (n : ℕ) (os : List (Option HashSeat)) → AreHome (Some p) n os → (k : ℕ) (s : HashSeat) → get_elem? (there os) k ≡ some s → IsSeat p s × (number_of s.table ≡ n + k)
  home_at p n [] h k s e = absurd (some-ne-none s (sym e))
  home_at p n (None ∷ os) h k s e = absurd h.0
  home_at p n (Some t ∷ os) h zero s e =
      let same : t ≡ s = some-injective t s e in
      (subst (IsSeat p) same h.0.0, ap (λ (x : HashSeat). number_of x.table) (sym same) ∙ (let z = h.0.1 in omega (arith, z)))
  home_at p n (Some t ∷ os) h (suc k) s e = let x = home_at p (suc n) os h.1 k s e in (x.0, (let z = x.1 in omega (arith, z)))

  -- the k-th of them is there
  pub home_there : (p : HashPart) (n : ℕ) (os : List (Option HashSeat)) → AreHome (Some p) n os → (k : ℕ) (o : Option HashSeat) → get_elem? os k ≡ some o → (s : HashSeat) × (o ≡ Some s) × (get_elem? (there os) k ≡ some s)
  home_there p n [] h k o e = absurd (some-ne-none o (sym e))
  home_there p n (None ∷ os) h k o e = absurd h.0
  home_there p n (Some t ∷ os) h zero o e = (t, sym (some-injective (Some t) o e), refl)
  home_there p n (Some t ∷ os) h (suc k) o e = home_there p (suc n) os h.1 k o e

  pub are_seats : (p : HashPart) (os : List (Option HashSeat)) → AreHome (Some p) 0 os → callers_of p ≡ length os → AreSeats p (there os)
  are_seats p os h c = record {
    count = home_count p 0 os h ∙ sym c;
    each = λ k s e. (home_at p 0 os h k s e).0;
    numbers = λ k s e. (let z = (home_at p 0 os h k s e).1 in omega (arith, z));
  }

pub there_more : (os : List (Option HashSeat)) (ps : List (Option HashSeat)) → there (os ++ ps) ≡ there os ++ there ps
there_more [] ps = refl
there_more (None ∷ os) ps = there_more os ps
there_more (Some s ∷ os) ps = ap (λ (ss : List HashSeat). s ∷ ss) (there_more os ps)

pub there_few : (os : List (Option HashSeat)) → length (there os) ≤ length os
there_few [] = omega arith
there_few (None ∷ os) = let h = there_few os in omega (arith, h)
there_few (Some s ∷ os) = let h = there_few os in omega (arith, h)

pages_at : (ss : List HashSeat) (k : ℕ) (s : HashSeat) → get_elem? ss k ≡ some s → pages_by (map (λ (x : HashSeat). x.area) ss) k ≡ pages_mine s.area
pages_at [] k s e = absurd (some-ne-none s (sym e))
pages_at (x ∷ ss) zero s e = ap (λ (y : HashSeat). pages_mine y.area) (some-injective x s e)
pages_at (x ∷ ss) (suc k) s e = pages_at ss k s e

-- what each did is what the closed table and the passes of its area show
module _ (region : TableId) {T : Type 0} (whole : T → ℕ → List AggEntry) where
  abbrev pub UsedBy : Option T → List AreaPass → ℕ → Option Use
  UsedBy table areas n = option_map (λ c. record { turns = λ i. calls_by n (whole c i); pages = pages_by areas n }) table

  -- the table was closed with these passes, if there was one
  abbrev pub HasClosed : Option HashPart → Option T → List HashSeat → Type 0
  HasClosed None None ss = Unit {0}
  HasClosed None (Some c) ss = ⊥
  HasClosed (Some p) None ss = ⊥
  HasClosed (Some p) (Some c) ss = IsClosed p ss (whole c)

  pub used_home : (p : Option HashPart) (table : Option T) (areas : List AreaPass) (os : List (Option HashSeat)) → AreHome region p 0 os → HasClosed p table (there os) → areas ≡ map (λ (x : HashSeat). x.area) (there os)
      → (k : ℕ) (o : Option HashSeat) → get_elem? os k ≡ some o → UsedBy table areas k ≡ use_in o
  used_home None None areas os h c a k o e = sym (ap use_in (none_at os 0 h k o e))
    where
      none_at : (os : List (Option HashSeat)) (n : ℕ) → AreHome region None n os → (k : ℕ) (o : Option HashSeat) → get_elem? os k ≡ some o → o ≡ None
      none_at [] n h k o e = absurd (some-ne-none o (sym e))
      none_at (None ∷ os) n h zero o e = sym (some-injective None o e)
      none_at (Some s ∷ os) n h k o e = absurd h.0
      none_at (None ∷ os) n h (suc k) o e = none_at os (suc n) h.1 k o e
  used_home None (Some c) areas os h x a k o e = absurd x
  used_home (Some p) None areas os h x a k o e = absurd x
  used_home (Some p) (Some c) areas os h x a k o e =
      let t = home_there region p 0 os h k o e in
      let turns : (λ i. calls_by k (whole c i)) ≡ mine_of t.0.table = fun_ext (λ i. x.mine k i t.0 t.2) in
      let pages : pages_by areas k ≡ pages_mine t.0.area = ap (λ (ps : List AreaPass). pages_by ps k) a ∙ pages_at (there os) k t.0 t.2 in
      (λ i. Some (record { turns = turns i; pages = pages i })) ∙ ap use_in (sym t.1)

-- passes that are kept, before those that are still to come
module _ {B : Type 0} (h : B → Option HashSeat) (all : List HashSeat) where
  pub more_there : (done more : List HashSeat) (o : Option HashSeat) (x : B) (before after : List B) → more ≡ done ++ there (o ∷ []) → o ≡ h x → before ≡ x ∷ after
      → done ++ there (map h before) ≡ all → more ++ there (map h after) ≡ all
  more_there done more o x before after e i f w =
      ap (λ (m : List HashSeat). m ++ there (map h after)) e
      ∙ append_assoc done (there (o ∷ [])) (there (map h after))
      ∙ ap (λ (z : List HashSeat). done ++ z) (sym (there_more (o ∷ []) (map h after)))
      ∙ ap (λ (z : Option HashSeat). done ++ there (z ∷ map h after)) i
      ∙ ap (λ (b : List B). done ++ there (map h b)) (sym f) ∙ w

  pub all_there : (done : List HashSeat) (rest : List B) → length rest ≡ 0 → done ++ there (map h rest) ≡ all → done ≡ all
  all_there done [] e w = sym (append-nil done) ∙ w
  all_there done (x ∷ rest) e w = let no : ⊥ = grind arith in absurd no

module _ (region : TableId) where
  -- the passes that came home are those of all participants
  pub settled_seats : (p : Option HashPart) (number : ℕ) (s : Option HashSeat) → IsHashSeat region number p s → (os : List (Option HashSeat)) → AreHome region p 0 os → HasCallers (length os) p → (ss : List HashSeat) → ss ≡ there os
      → MatchOption p (ss ≡ []) (λ q. (r : TableId) × IsPart r q × AreSeats q ss)
  settled_seats None number s x os h c ss e = e ∙ none_home region 0 os h
  settled_seats (Some p) number None x os h c ss e = absurd x
  settled_seats (Some p) number (Some s) x os h c ss e = (region, x.0, subst (AreSeats p) (sym e) (are_seats region p os h c))

  area_at : (ss : List HashSeat) (k : ℕ) (p : AreaPass) → get_elem? (map (λ (x : HashSeat). x.area) ss) k ≡ some p → (s : HashSeat) × (get_elem? ss k ≡ some s) × (p ≡ s.area)
  area_at [] k p e = absurd (some-ne-none p (sym e))
  area_at (s ∷ ss) zero p e = (s, refl, sym (some-injective s.area p e))
  area_at (s ∷ ss) (suc k) p e = area_at ss k p e

  -- so are the passes of its area
  are_areas : (p : HashPart) (ss : List HashSeat) → IsPart region p → AreSeats p ss → AreAll p.area (map (λ (x : HashSeat). x.area) ss)
  are_areas p ss is are = record {
    count = length-map ss (λ (x : HashSeat). x.area) ∙ are.count ∙ sym is.callers;
    each = λ k a e. let s = area_at ss k a e in subst (Belongs p.area) (sym s.2) (are.each k s.0 s.1).area;
    numbers = λ k a e. let s = area_at ss k a e in ap (λ (x : AreaPass). area_number x) s.2 ∙ (are.each k s.0 s.1).same ∙ are.numbers k s.0 s.1;
  }

  areas_some : (p : HashPart) (os : List (Option HashSeat)) → AreHome region (Some p) 0 os → (n : ℕ) → length os ≡ n → (number : ℕ) (s : Option HashSeat) → IsHashSeat region number (Some p) s → callers_of p ≡ n
      → AreAll p.area (map (λ (x : HashSeat). x.area) (there os))
  areas_some p os h n m number None x c = absurd x
  areas_some p os h n m number (Some s) x c = are_areas p (there os) x.0 (are_seats region p os h (c ∙ sym m))

  pub ran_areas : (part : HashPart) (os : List (Option HashSeat)) (n number : ℕ) (s : Option HashSeat) (p : Option HashPart) → p ≡ Some part → AreHome region p 0 os → length os ≡ n → IsHashSeat region number p s → HasCallers n p
      → (areas : List AreaPass) → areas ≡ map (λ (x : HashSeat). x.area) (there os) → (length areas ≡ n) × AreAll part.area areas
  ran_areas part os n number s p e home m x c areas a =
      let h : AreHome region (Some part) 0 os = subst (λ (q : Option HashPart). AreHome region q 0 os) e home in (
        ap (λ (l : List AreaPass). length l) a ∙ length-map (there os) (λ (x : HashSeat). x.area) ∙ home_count region part 0 os h ∙ m,
        subst (AreAll part.area) (sym a) (areas_some part os h n m number s (subst (λ (q : Option HashPart). IsHashSeat region number q s) e x) (subst (HasCallers n) e c)),
      )

  pub ran_none : (p : Option HashPart) (os : List (Option HashSeat)) → AreHome region p 0 os → (areas : List AreaPass) → areas ≡ map (λ (x : HashSeat). x.area) (there os) → p ≡ None → areas ≡ []
  ran_none None os h areas a e = a ∙ ap (map (λ (x : HashSeat). x.area)) (none_home region 0 os h)
  ran_none (Some p) os h areas a e = absurd (not_none p e)

  module _ {T : Type 0} (whole : T → ℕ → List AggEntry) (left : T → ℕ) (Of : TableId → HashPart → T → Type 0) where
    -- what the end of the table tells
    abbrev pub Closes : HashPart → List HashSeat → T → Type 0
    Closes p ss c = IsClosed p ss (whole c) × (left c ≡ 128) × ((r : TableId) → IsPart r p → Of r p c)

    pub has_closed : (p : Option HashPart) (table : Option T) (ss : List HashSeat) → (p ≡ None → table ≡ None) → IfSome p (λ q. IsSomeAnd table (Closes q ss)) → HasClosed region whole p table ss
    has_closed None None ss n h = tt
    has_closed None (Some c) ss n h = absurd (not_none c (n refl))
    has_closed (Some p) None ss n h = absurd h
    has_closed (Some p) (Some c) ss n h = h.0

    ran_one : (p : HashPart) (n : ℕ) (c : T) (ss : List HashSeat) → IsPart region p → callers_of p ≡ n → Closes p ss c → AreWhole n (whole c) × (left c ≡ 128) × Of region p c
    ran_one p n c ss is k h = (record { lawful = h.0.lawful; no_others = λ i m l. h.0.no_others i m (subst (λ (z : ℕ). z ≤ m) (sym k) l) }, h.1, h.2 region is)

    ran_some : (p : HashPart) (s : Option HashSeat) (number n : ℕ) (table : Option T) (ss : List HashSeat) → IsHashSeat region number (Some p) s → callers_of p ≡ n → IsSomeAnd table (Closes p ss) → IsSomeAnd table (λ c. AreWhole n (whole c) × (left c ≡ 128) × Of region p c)
    ran_some p None number n table ss x k h = absurd x
    ran_some p (Some s) number n None ss x k h = absurd h
    ran_some p (Some s) number n (Some c) ss x k h = ran_one p n c ss x.0 k h

    pub ran_table : (part : HashPart) (number : ℕ) (s : Option HashSeat) (n : ℕ) (table : Option T) (ss : List HashSeat) (p : Option HashPart) → p ≡ Some part → IsHashSeat region number p s → HasCallers n p → IfSome p (λ q. IsSomeAnd table (Closes q ss))
        → IsSomeAnd table (λ c. AreWhole n (whole c) × (left c ≡ 128) × Of region part c)
    ran_table part number s n table ss p e x k h =
        ran_some part s number n table ss (subst (λ (q : Option HashPart). IsHashSeat region number q s) e x) (subst (HasCallers n) e k) (subst (λ (q : Option HashPart). IfSome q (λ q. IsSomeAnd table (Closes q ss))) e h)
