-- A row is added to the chain of its key.
use Rattle.std.proofs.Common.{◌≡◌, ◌≢◌, ◌<◌, ◌++◌, ◌⊎◌, ◌==◌, inl, inr, Bool, true, false, ℕ, zero, suc, List, [], ◌∷◌, All, Some, get_or, length, set, slice_get, refl, ap, sym, subst, ◌∙◌, arith, append-nil, get_or-set_other, get_or-set_same}
use Rattle.std.specs.List.Sorted.{IsPermutation}
use Rattle.std.specs.Str.{bytes_eq}
use Rattle.std.proofs.lemmas.List.Elements.{All-filter, All-head, All-tail, filter-append}
use Rattle.std.proofs.lemmas.List.Sorted.{All-permutation, IsPermutation-cons, IsPermutation-to_front, IsPermutation-trans}
use Rattle.csv_rows.specs.Records.{field_of}
use Rattle.row_blocks.specs.Blocks.{Table}
use Rattle.join_pairs.specs.Chains.{HasChain, IsChain, before_in, rows_with}
use Rattle.join_pairs.specs.Gathered.{AddsRow, AreChains, HasChains, HasPlaces, HasRoom}
use Rattle.join_pairs.specs.declared.chains.Chains.{Chains}
use Rattle.join_pairs.proofs.Filters.{filter-not_one, filter-one}
use Rattle.join_pairs.proofs.Keys.{bytes_same, other_bytes}

-- ---- chains

-- links of other rows leave a chain as it is
chain_apart : (befores : List ℕ) (row b last : ℕ) (chain : List ℕ) → All (λ r. r ≢ row) chain → IsChain (before_in befores) last chain → IsChain (before_in (set befores row b)) last chain
chain_apart befores row b last [] h c = c
chain_apart befores row b last (r ∷ rs) h c =
    let here : r ≢ row = All-head (λ r. r ≢ row) r rs h in
    let other : last ≢ row = subst (λ n. n ≢ row) (sym c.0) here in
    let same : before_in (set befores row b) last ≡ before_in befores last = rw get_or-set_other refl in
    (c.0, c.1, subst (λ n. IsChain (before_in (set befores row b)) n rs) (sym same) (chain_apart befores row b (before_in befores last) rs (All-tail (λ r. r ≢ row) r rs h) c.2))

module _ (records : Table) (column : ℕ) where
  abbrev has : List ℕ → ℕ → Bool
  has key row = bytes_eq (field_of records row column) key

  -- a chain of another key stays
  other_key : (befores rows key : List ℕ) (row b last : ℕ) → All (λ r. r ≢ row) rows → field_of records row column ≢ key → HasChain (before_in befores) records column rows key last
      → HasChain (before_in (set befores row b)) records column (rows ++ row ∷ []) key last
  other_key befores rows key row b last away differ h =
      let kept : rows_with records column key (rows ++ row ∷ []) ≡ rows_with records column key rows =
      filter-append (has key) rows (row ∷ []) ∙ ap (λ (l : List ℕ). rows_with records column key rows ++ l) (filter-not_one (has key) row (other_bytes (field_of records row column) key differ)) ∙ append-nil (rows_with records column key rows) in
      record {
        chain = h.chain;
        is = chain_apart befores row b last h.chain (All-permutation (λ r. r ≢ row) (rows_with records column key rows) h.chain h.same (All-filter (has key) (λ r. r ≢ row) rows away)) h.is;
        same = subst (λ l. IsPermutation l h.chain) (sym kept) h.same;
      }

  -- the chain of the row's key has the row at its end
  own_key : (befores rows key : List ℕ) (row last : ℕ) → All (λ r. r ≢ row) rows → row ≢ 0 → row < length befores → field_of records row column ≡ key → HasChain (before_in befores) records column rows key last
      → HasChain (before_in (set befores row last)) records column (rows ++ row ∷ []) key row
  own_key befores rows key row last away some room is h =
      let kept : rows_with records column key (rows ++ row ∷ []) ≡ rows_with records column key rows ++ row ∷ [] =
      filter-append (has key) rows (row ∷ []) ∙ ap (λ (l : List ℕ). rows_with records column key rows ++ l) (filter-one (has key) row (bytes_same (field_of records row column) key is)) in
      let next : before_in (set befores row last) row ≡ last = rw get_or-set_same refl in
      let front = IsPermutation-to_front (rows_with records column key rows) row in
      let behind = IsPermutation-cons row (rows_with records column key rows) h.chain h.same in
      record {
        chain = row ∷ h.chain;
        is = (
          refl,
          some,
          subst (λ n. IsChain (before_in (set befores row last)) n h.chain) (sym next)
              (chain_apart befores row last last h.chain (All-permutation (λ r. r ≢ row) (rows_with records column key rows) h.chain h.same (All-filter (has key) (λ r. r ≢ row) rows away)) h.is),
        );
        same = subst (λ l. IsPermutation l (row ∷ h.chain)) (sym kept)
            (IsPermutation-trans (rows_with records column key rows ++ row ∷ []) (row ∷ rows_with records column key rows) (row ∷ h.chain) front behind);
      }

-- ---- places

get_below : {X : Type 0} (xs : List X) (p : ℕ) (x : X) → slice_get xs p ≡ Some x → p < length xs
get_below [] p x e = absurd (cc)
get_below (y ∷ ys) zero x e = omega arith
get_below (y ∷ ys) (suc p) x e = omega (arith, get_below ys p x e)

-- what stands at a place of a list with one more
pub get_pushed : {X : Type 0} (xs : List X) (y : X) (p : ℕ) (x : X) → slice_get (xs ++ y ∷ []) p ≡ Some x → (slice_get xs p ≡ Some x) ⊎ ((p ≡ length xs) × (y ≡ x))
get_pushed [] y zero x e = inr (refl, (let same : y ≡ x = cc in same))
get_pushed [] y (suc p) x e = absurd (cc)
get_pushed (z ∷ zs) y zero x e = inl e
get_pushed (z ∷ zs) y (suc p) x e = by (get_pushed zs y p x e)
  where
    by : (slice_get zs p ≡ Some x) ⊎ ((p ≡ length zs) × (y ≡ x)) → (slice_get zs p ≡ Some x) ⊎ ((suc p ≡ suc (length zs)) × (y ≡ x))
    by (inl h) = inl h
    by (inr h) = inr (ap suc h.0, h.1)

pub get_kept : {X : Type 0} (xs : List X) (y : X) (p : ℕ) (x : X) → slice_get xs p ≡ Some x → slice_get (xs ++ y ∷ []) p ≡ Some x
get_kept [] y p x e = absurd (cc)
get_kept (z ∷ zs) y zero x e = e
get_kept (z ∷ zs) y (suc p) x e = get_kept zs y p x e

pub get_last : {X : Type 0} (xs : List X) (y : X) → slice_get (xs ++ y ∷ []) (length xs) ≡ Some y
get_last [] y = refl
get_last (z ∷ zs) y = get_last zs y

or_last : (xs : List ℕ) (y : ℕ) → get_or (xs ++ y ∷ []) (length xs) 0 ≡ y
or_last [] y = refl
or_last (z ∷ zs) y = or_last zs y

or_kept : (xs : List ℕ) (y p : ℕ) → p < length xs → get_or (xs ++ y ∷ []) p 0 ≡ get_or xs p 0
or_kept [] y p h = absurd (omega (arith, h))
or_kept (z ∷ zs) y zero h = refl
or_kept (z ∷ zs) y (suc p) h = or_kept zs y p (omega (arith, h))

some_same : (x y : List ℕ) → Some x ≡ Some y → x ≡ y
some_same x y e = cc

-- ---- all chains

module _ (records : Table) (column row : ℕ) (rows : List ℕ) (last : List ℕ → ℕ) (keys : List (List ℕ)) (lasts befores : List ℕ) (c : AreChains records column rows last keys lasts befores) (places : length keys ≡ length lasts) (room : row < length befores)
    (away : All (λ r. r ≢ row) rows) (some : row ≢ 0) where
  abbrev key : List ℕ
  key = field_of records row column

  pub extends : (place : ℕ) → slice_get keys place ≡ Some key → AreChains records column (rows ++ row ∷ []) last keys (set lasts place row) (set befores row (get_or lasts place 0))
  extends place is = record {
    once = c.once;
    chains = λ p k e. by p k e (p == place) refl;
    absent = λ k none. other_key records column befores rows k row (get_or lasts place 0) (last k) away (λ same. none place (subst (λ (l : List ℕ). slice_get keys place ≡ Some l) same is)) (c.absent k none);
  }
    where
      within : place < length lasts
      within = omega (arith, get_below keys place key is, places)

      by : (p : ℕ) (k : List ℕ) → slice_get keys p ≡ Some k → (b : Bool) → (p == place) ≡ b → HasChain (before_in (set befores row (get_or lasts place 0))) records column (rows ++ row ∷ []) k (get_or (set lasts place row) p 0)
      by p k e true t =
          let same : p ≡ place = grind (arith, t) in
          let own : key ≡ k = some_same key k (sym is ∙ ap (slice_get keys) (sym same) ∙ e) in
          let end : get_or (set lasts place row) p 0 ≡ row = ap (λ n. get_or (set lasts place row) n 0) same ∙ (let w = within in rw get_or-set_same refl) in
          subst (λ n. HasChain (before_in (set befores row (get_or lasts place 0))) records column (rows ++ row ∷ []) k n) (sym end)
          (own_key records column befores rows k row (get_or lasts place 0) away some room own (subst (λ n. HasChain (before_in befores) records column rows k (get_or lasts n 0)) same (c.chains p k e)))
      by p k e false t =
          let other : p ≢ place = grind (arith, t) in
          let end : get_or (set lasts place row) p 0 ≡ get_or lasts p 0 = rw get_or-set_other refl in
          subst (λ n. HasChain (before_in (set befores row (get_or lasts place 0))) records column (rows ++ row ∷ []) k n) (sym end)
          (other_key records column befores rows k row (get_or lasts place 0) (get_or lasts p 0) away (λ same. other (c.once p place k e (subst (λ (l : List ℕ). slice_get keys place ≡ Some l) same is))) (c.chains p k e))

  pub begins : ((place : ℕ) → slice_get keys place ≡ Some key → ⊥) → AreChains records column (rows ++ row ∷ []) last (keys ++ key ∷ []) (lasts ++ row ∷ []) (set befores row (last key))
  begins none = record {
    once = λ p q k e f. both p q k (get_pushed keys key p k e) (get_pushed keys key q k f);
    chains = λ p k e. by p k (get_pushed keys key p k e);
    absent = λ k away'. other_key records column befores rows k row (last key) (last k) away (λ same. away' (length keys) (get_last keys key ∙ ap Some same)) (c.absent k (λ p e. away' p (get_kept keys key p k e)));
  }
    where
      both : (p q : ℕ) (k : List ℕ) → (slice_get keys p ≡ Some k) ⊎ ((p ≡ length keys) × (key ≡ k)) → (slice_get keys q ≡ Some k) ⊎ ((q ≡ length keys) × (key ≡ k)) → p ≡ q
      both p q k (inl e) (inl f) = c.once p q k e f
      both p q k (inl e) (inr f) = absurd (none p (e ∙ ap Some (sym f.1)))
      both p q k (inr e) (inl f) = absurd (none q (f ∙ ap Some (sym e.1)))
      both p q k (inr e) (inr f) = e.0 ∙ sym f.0

      by : (p : ℕ) (k : List ℕ) → (slice_get keys p ≡ Some k) ⊎ ((p ≡ length keys) × (key ≡ k)) → HasChain (before_in (set befores row (last key))) records column (rows ++ row ∷ []) k (get_or (lasts ++ row ∷ []) p 0)
      by p k (inl e) =
          let within : p < length lasts = omega (arith, get_below keys p k e, places) in
          subst (λ n. HasChain (before_in (set befores row (last key))) records column (rows ++ row ∷ []) k n) (sym (or_kept lasts row p within))
          (other_key records column befores rows k row (last key) (get_or lasts p 0) away (λ same. none p (e ∙ ap Some (sym same))) (c.chains p k e))
      by p k (inr e) =
          let end : get_or (lasts ++ row ∷ []) p 0 ≡ row = ap (λ n. get_or (lasts ++ row ∷ []) n 0) (e.0 ∙ places) ∙ or_last lasts row in
          subst (λ n. HasChain (before_in (set befores row (last key))) records column (rows ++ row ∷ []) k n) (sym end)
          (own_key records column befores rows k row (last key) away some room e.1
          (subst (λ n. HasChain (before_in befores) records column rows k n) (sym (ap last e.1)) (c.absent k (λ q f. none q (f ∙ ap Some (sym e.1))))))

-- a row that is added has its place in the chain of its key
pub adds_row : (records : Table) (column row : ℕ) (rows : List ℕ) (last : List ℕ → ℕ) (c d : Chains) → HasChains records column rows last c → HasPlaces c → HasRoom c row → All (λ r. r ≢ row) rows → row ≢ 0
    → AddsRow last (field_of records row column) row c d → HasChains records column (rows ++ row ∷ []) last d
adds_row records column row rows last c d h places room away some (inl (place, e)) =
    let lists = extends records column row rows last c.keys c.lasts.items c.befores.items h places room away some place e.is in
    subst (λ (ks : List (List ℕ)). AreChains records column (rows ++ row ∷ []) last ks d.lasts.items d.befores.items) (sym e.keys)
    (subst (λ (ls : List ℕ). AreChains records column (rows ++ row ∷ []) last c.keys ls d.befores.items) (sym e.lasts)
    (subst (λ (bs : List ℕ). AreChains records column (rows ++ row ∷ []) last c.keys (set c.lasts.items place row) bs) (sym e.befores) lists))
adds_row records column row rows last c d h places room away some (inr b) =
    let lists = begins records column row rows last c.keys c.lasts.items c.befores.items h places room away some b.absent in
    subst (λ (ks : List (List ℕ)). AreChains records column (rows ++ row ∷ []) last ks d.lasts.items d.befores.items) (sym b.keys)
    (subst (λ (ls : List ℕ). AreChains records column (rows ++ row ∷ []) last (c.keys ++ field_of records row column ∷ []) ls d.befores.items) (sym b.lasts)
    (subst (λ (bs : List ℕ). AreChains records column (rows ++ row ∷ []) last (c.keys ++ field_of records row column ∷ []) (c.lasts.items ++ row ∷ []) bs) (sym b.befores) lists))
