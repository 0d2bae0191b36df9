-- Listing, beginning a move, and taking an item in.
use Rattle.std.proofs.Common.{◌≡◌, ◌≢◌, ℕ, zero, suc, ◌+◌, ◌<◌, ◌≤◌, inl, inr, true, false, List, [], ◌∷◌, ◌++◌, map, length, take, get_or, replicate, Option, Some, is_some, Result, Ok, Err, IfOk, refl, sym, ap, subst, ◌∙◌, arith, append_assoc}
use Rattle.std.proofs.lemmas.List.{map-append, append-nil, length-map}
use Rattle.std.proofs.Math.Seq.{take-suc, take-length}
use Rattle.std.specs.FinMap as fin
use Rattle.dshash_core.specs.Key.{seeded_hash}
use Rattle.dshash_core.specs.Chains.{Among, Item}
use Rattle.dshash_core.specs.Hung.{Hung, Layout, IsItemChunk, chain_of, with_chain}
use Rattle.region_words.specs.Parts.{Owned}
use Rattle.dshash_core.specs.Cells.{KeyMap, bucket_of, buckets_of, IsRoomy, all_items, entry_of, cells_of, AreKeyed, AreCells}
use Rattle.dshash_core.specs.Outcome.{ListsAll}
use Rattle.dshash_core.proofs.Maps.{get_found, table_len}
use Rattle.dshash_core.proofs.Flats.{pushed_cells, pushed_map}
use Rattle.dshash_core.proofs.Steps.{bucket_in}

all_append : (xs ys : List (List Item)) → all_items (xs ++ ys) ≡ all_items xs ++ all_items ys
all_append [] ys = refl
all_append (x ∷ xs) ys = ap (λ (z : List Item). x ++ z) (all_append xs ys) ∙ sym (append_assoc x (all_items xs) (all_items ys))

-- the entries of one chain more
pub listed_more : {S : Type 0} (f : Item → List ℕ × S) (chains : List (List Item)) (i : ℕ) → i < length chains → map f (all_items (take (i + 1) chains)) ≡ map f (all_items (take i chains)) ++ map f (get_or chains i [])
listed_more f chains i l =
    ap (λ (n : ℕ). map f (all_items (take n chains))) (let e : i + 1 ≡ suc i = omega arith in e)
    ∙ ap (λ (c : List (List Item)). map f (all_items c)) (take-suc chains i [] l)
    ∙ ap (λ (c : List Item). map f c) (all_append (take i chains) (get_or chains i [] ∷ []) ∙ ap (λ (c : List Item). all_items (take i chains) ++ c) (append-nil (get_or chains i [])))
    ∙ map-append f (all_items (take i chains)) (get_or chains i [])

pub listed_all : {S : Type 0} (f : Item → List ℕ × S) (chains : List (List Item)) (i : ℕ) → i ≡ length chains → map f (all_items (take i chains)) ≡ map f (all_items chains)
listed_all f chains i e = ap (λ (n : ℕ). map f (all_items (take n chains))) e ∙ ap (λ (c : List (List Item)). map f (all_items c)) (take-length chains)

pub either_result : {A E : Type 0} (r : Result A E) (P Q : A → Type 0) → ((x : A) → P x → Q x) → IfOk r P → IfOk r Q
either_result (Ok x) P Q f h = f x h
either_result (Err e) P Q f h = h

pub lists_all : {S : Type 0} (decoded : List ℕ → S) (size count value_words : ℕ) (h : Hung) → AreCells size count value_words h → (pairs : List (List ℕ × S)) → pairs ≡ map (entry_of decoded) (all_items h.chains) → ListsAll (cells_of decoded h.chains) pairs
lists_all {S} decoded size count value_words h k pairs e = record {
  all = ap (λ (es : List (List ℕ × S)). fin.from_entries es) e;
  once = ap (λ (es : List (List ℕ × S)). length es) e ∙ length-map (all_items h.chains) (entry_of decoded) ∙ sym (table_len decoded (all_items h.chains) k.keyed);
}

no_items : (n : ℕ) → all_items (replicate n []) ≡ []
no_items zero = refl
no_items (suc n) = no_items n

nothing_in : (n i : ℕ) (it : Item) → Among it (get_or (replicate n []) i []) → ⊥
nothing_in zero i it m = m
nothing_in (suc n) zero it m = m
nothing_in (suc n) (suc i) it m = nothing_in n i it m

length-none : (n : ℕ) → length (replicate {A = List Item} n []) ≡ n
length-none zero = refl
length-none (suc n) = ap suc (length-none n)

-- empty chains stand for the empty map
pub empty_cells : (size value_words n : ℕ) (h : Hung) → 7 ≤ size → size ≤ 20 → n ≡ buckets_of size → h.chains ≡ replicate n [] → h.layout.value_words ≡ value_words → AreCells size 0 value_words h
empty_cells size value_words n h low high e c v = record {
  buckets = ap length c ∙ length-none n ∙ e;
  placed = λ i it l m. absurd (nothing_in n i it (subst (λ (cs : List (List Item)). Among it (get_or cs i [])) c m));
  keyed = subst (λ (its : List Item). AreKeyed its) (sym (ap all_items c ∙ no_items n)) tt;
  counted = sym (ap (λ (cs : List (List Item)). length (all_items cs)) c ∙ ap (λ (its : List Item). length its) (no_items n));
  values = v;
  roomy = record { from = low; to = high; few = λ s. omega arith };
}

pub empty_map : {S : Type 0} (decoded : List ℕ → S) (n : ℕ) (chains : List (List Item)) → chains ≡ replicate n [] → cells_of decoded chains ≡ fin.empty
empty_map {S} decoded n chains c = ap (λ (its : List Item). fin.from_entries (map (entry_of decoded) its)) (ap all_items c ∙ no_items n)

split_at : (x : Item) (xs : List Item) → Among x xs → (a : List Item) × (b : List Item) × (xs ≡ a ++ x ∷ b)
split_at x [] m = absurd m
split_at x (y ∷ xs) (inl e) = ([], xs, λ i. sym e i ∷ xs)
split_at x (y ∷ xs) (inr m) = let r = split_at x xs m in (y ∷ r.0, r.1, λ i. y ∷ r.2 i)

abbrev table_of : {S : Type 0} → (List ℕ → S) → List Item → KeyMap S
table_of decoded items = fin.from_entries (map (entry_of decoded) items)

-- each item's key has its state in the map
pub held : {S : Type 0} (decoded : List ℕ → S) (items : List Item) → AreKeyed items → (x : Item) → Among x items → fin.get (table_of decoded items) x.key ≡ Some (decoded x.value)
held {S} decoded items k x m =
    let r = split_at x items m in
    ap (λ (its : List Item). fin.get (table_of decoded its) x.key) r.2 ∙ get_found decoded x r.0 r.1 (subst (λ (its : List Item). AreKeyed its) r.2 k)

-- an item with a new key is taken in
pub taken_in : {S : Type 0} (decoded : List ℕ → S) (size count value_words : ℕ) (h new : Hung) → AreCells size count value_words h → (i hash : ℕ) (it : Item) → hash ≡ seeded_hash h.layout.seed it.key → i ≡ bucket_of size hash
    → fin.contains_key (cells_of decoded h.chains) it.key ≡ false → IsRoomy size (count + 1) → new ≡ with_chain h i (it ∷ chain_of h i)
    → AreCells size (count + 1) value_words new × (cells_of decoded new.chains ≡ fin.insert (cells_of decoded h.chains) it.key (decoded it.value))
taken_in {S} decoded size count value_words h new k i hash it is place none roomy e =
    let l : i < length h.chains = subst (λ (j : ℕ). j < length h.chains) (sym place) (bucket_in size count value_words h k hash) in
    let own : bucket_of size (seeded_hash h.layout.seed it.key) ≡ i = ap (bucket_of size) (sym is) ∙ sym place in
    let fresh : (x : Item) → Among x (all_items h.chains) → x.key ≢ it.key = λ x m s.
    let t : true ≡ false = sym (ap (λ (o : Option S). is_some o) (held decoded (all_items h.chains) k.keyed x m)) ∙ ap (λ (q : List ℕ). fin.contains_key (cells_of decoded h.chains) q) s ∙ none in cc in (
      subst (λ (u : Hung). AreCells size (count + 1) value_words u) (sym e) (pushed_cells size count value_words h k i l it own fresh roomy),
      ap (λ (u : Hung). cells_of decoded u.chains) e ∙ pushed_map size count value_words h k i l it own fresh decoded,
    )

-- an item's chunk after its hash was read
pub chunk_of : (a b : ℕ) (p q : Owned) (l m : Layout) (it : Item) → b ≡ a → q ≡ p → l ≡ m → IsItemChunk a p.words l it → IsItemChunk b q.words m it
chunk_of a b p q l m it e f g k =
    subst (λ (n : ℕ). IsItemChunk n q.words m it) (sym e) (subst (λ (o : Owned). IsItemChunk a o.words m it) (sym f) (subst (λ (n : Layout). IsItemChunk a p.words n it) g k))
