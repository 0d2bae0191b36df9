-- What the words of a slice tell of the chains that contracts see.
use Rattle.std.proofs.Common.{◌≡◌, ◌≢◌, ℕ, ◌+◌, ◌/◌, ◌<◌, ◌≤◌, ◌⊎◌, inl, inr, List, [], ◌∷◌, ◌++◌, zero, suc, map, length, get_or, Option, Some, None, MatchOption, IsSome, refl, sym, ap, subst, ◌∙◌, arith, ⊎_elim, Fits, w64}
use Rattle.std.specs.List.{All}
use Rattle.std.proofs.lemmas.List.{map-append, length-map}
use Rattle.std.proofs.lemmas.List.Elements.{All-append, All-cons, All-nil}
use Rattle.word_map.specs.WordMap.{at}
use Rattle.dshash_core.specs.Chains.{word, most_words, IsChain, Among, AreDistinct, Item, item_at, each_below, link_behind, ats}
use Rattle.dshash_core.specs.Hung.{Hung, hung, IsItem, AreHung, chain_places, chain_items, chain_of, IsSpot, Holds, HasItem, HasNoItem, first_place}
use Rattle.dshash_core.specs.declared.buckets.Buckets.TheInside.{Inside}
use Rattle.dshash_core.specs.declared.words.Spot.{Spot}
use Rattle.dshash_core.specs.Walk.{IsReadable, IsPlaced, IsNowhere}
use Rattle.dshash_core.proofs.Rows.{each_below-get, length-each_below, ats-map, ats-append, AreRead, are_read, at_among}
use Rattle.dshash_core.proofs.Hangs.{apart_cases, without_other, behind_among, among_left}
use Rattle.std.proofs.lemmas.Map.Steps.{length-le_from_distinct_below}
use Rattle.dshash_core.specs.Cells.{all_items}
use Rattle.dshash_core.proofs.Hangs.{any_among, are_distinct}
use Rattle.dshash_core.proofs.Hooks.{most_is}
use Rattle.dshash_core.proofs.Chains.{word_is, length-words_at}

pub either_option : {A : Type 0} (o : Option A) (P Q : Type 0) (R S : A → Type 0) → (P → Q) → ((x : A) → R x → S x) → MatchOption o P R → MatchOption o Q S
either_option (Some x) P Q R S f g m = g x m
either_option None P Q R S f g m = f m

pub among_here : {A : Type 0} (x : A) (xs ys : List A) → Among x (xs ++ x ∷ ys)
among_here x [] ys = inl refl
among_here x (y ∷ xs) ys = inr (among_here x xs ys)

-- the words of the fields stand for chains
abbrev pub Stands : Inside → Type 0
Stands b = AreHung b.slice b.words b.buckets b.seed b.key_words b.value_words b.item_bytes b.part.words (chain_places b.part.words b.slice)

-- what contracts see of the fields
abbrev pub seen : Inside → Hung
seen b = hung b.part b.slice b.words b.buckets b.seed b.key_words b.value_words b.item_bytes

chain_first : (w : ℕ → ℕ) (link : ℕ) (items : List Item) → IsChain w link (ats items) → link ≡ first_place items
chain_first w link [] c = c
chain_first w link (it ∷ items) c = c.0

chain_ends : (w : ℕ → ℕ) (link : ℕ) (items : List Item) → IsChain w link (ats items) → link ≡ 0 → items ≡ []
chain_ends w link [] c z = refl
chain_ends w link (it ∷ items) c z = let low : 0 < it.at = c.1 in let e : link ≡ it.at = c.0 in absurd (omega arith)

-- a place that is not 0 is that of a first item
pub first_item : (items : List Item) (place : ℕ) → place ≡ first_place items → place ≢ 0 → (it : Item) × (rest : List Item) × (items ≡ it ∷ rest) × (it.at ≡ place)
first_item [] place e n = absurd (n e)
first_item (it ∷ rest) place e n = (it, rest, refl, sym e)

chain_next : (w : ℕ → ℕ) (link a : ℕ) (xs ys : List ℕ) → IsChain w link (xs ++ a ∷ ys) → IsChain w (w a) ys
chain_next w link a [] ys c = c.2
chain_next w link a (x ∷ xs) ys c = chain_next w (w x) a xs ys c.2

pub map_same : (f g : ℕ → Item) (ps : List ℕ) → ((a : ℕ) → Among a ps → g a ≡ f a) → map g ps ≡ map f ps
map_same f g [] h = refl
map_same f g (p ∷ ps) h = λ i. h p (inl refl) i ∷ map_same f g ps (λ a m. h a (inr m)) i

pub among_split : {A : Type 0} (x y : A) (xs ys : List A) → Among x (xs ++ y ∷ ys) → (x ≡ y) ⊎ Among x (xs ++ ys)
among_split x y [] ys m = m
among_split x y (z ∷ xs) ys (inl e) = inr (inl e)
among_split x y (z ∷ xs) ys (inr m) = ⊎_elim (λ e. inl e) (λ n. inr (inr n)) (among_split x y xs ys m)

pub among_more : {A : Type 0} (x y : A) (xs ys : List A) → Among x (xs ++ ys) → Among x (xs ++ y ∷ ys)
among_more x y [] ys m = inr m
among_more x y (z ∷ xs) ys (inl e) = inl e
among_more x y (z ∷ xs) ys (inr m) = inr (among_more x y xs ys m)

distinct_append : (xs ys : List ℕ) → AreDistinct xs → AreDistinct ys → ((a : ℕ) → Among a xs → Among a ys → ⊥) → AreDistinct (xs ++ ys)
distinct_append [] ys d e far = e
distinct_append (x ∷ xs) ys d e far = (
  (λ y m. ⊎_elim (λ (n : Among y xs). d.0 y n) (λ (n : Among y ys). λ s. far x (inl refl) (subst (λ (z : ℕ). Among z ys) s n)) (either_side y xs ys m)),
  distinct_append xs ys d.1 e (λ a m n. far a (inr m) n),
)
  where
    either_side : (a : ℕ) (ps qs : List ℕ) → Among a (ps ++ qs) → Among a ps ⊎ Among a qs
    either_side a [] qs m = inr m
    either_side a (p ∷ ps) qs (inl e) = inl (inl e)
    either_side a (p ∷ ps) qs (inr m) = ⊎_elim (λ n. inl (inr n)) (λ n. inr n) (either_side a ps qs m)

-- a place of all items is one of some chain's
place_in : (chains : List (List Item)) (a : ℕ) → Among a (ats (all_items chains)) → (i : ℕ) × (i < length chains) × Among a (ats (get_or chains i []))
place_in [] a m = absurd m
place_in (c ∷ cs) a m = ⊎_elim
    (λ (n : Among a (ats c)). (0, omega arith, n))
    (λ (n : Among a (ats (all_items cs))). let r = place_in cs a n in (suc r.0, (let l : r.0 < length cs = r.1 in let s : suc r.0 < suc (length cs) = omega arith in s), r.2))
    (either_side a (ats c) (ats (all_items cs)) (subst (λ (l : List ℕ). Among a l) (ats-append c (all_items cs)) m))
  where
    either_side : (b : ℕ) (ps qs : List ℕ) → Among b (ps ++ qs) → Among b ps ⊎ Among b qs
    either_side b [] qs m = inr m
    either_side b (p ∷ ps) qs (inl e) = inl (inl e)
    either_side b (p ∷ ps) qs (inr m) = ⊎_elim (λ n. inl (inr n)) (λ n. inr n) (either_side b ps qs m)

all_distinct : (chains : List (List Item)) → ((i : ℕ) → i < length chains → AreDistinct (ats (get_or chains i [])))
    → ((i j a : ℕ) → i < length chains → j < length chains → Among a (ats (get_or chains i [])) → Among a (ats (get_or chains j [])) → i ≡ j) → AreDistinct (ats (all_items chains))
all_distinct [] d once = tt
all_distinct (c ∷ cs) d once = subst (λ (l : List ℕ). AreDistinct l) (sym (ats-append c (all_items cs)))
    (distinct_append (ats c) (ats (all_items cs)) (d 0 (omega arith))
    (all_distinct cs (λ i l. d (suc i) (omega arith)) (λ i j a l k m n. let e : suc i ≡ suc j = once (suc i) (suc j) a (omega arith) (omega arith) m n in omega arith))
    (λ a m n. let r = place_in cs a n in let b : r.0 < length cs = r.1 in let e : 0 ≡ suc r.0 = once 0 (suc r.0) a (omega arith) (omega arith) m r.2 in let z : ⊥ = omega arith in z))

-- an item's key has the words of a key
abbrev AreLong : ℕ → List Item → Type 0
AreLong key_words items = All (λ (it : Item). length it.key ≡ key_words) items

long_chain : (w : ℕ → ℕ) (key_words value_words : ℕ) (ps : List ℕ) → AreLong key_words (map (item_at w key_words value_words) ps)
long_chain w key_words value_words [] = All-nil (λ (it : Item). length it.key ≡ key_words)
long_chain w key_words value_words (p ∷ ps) = All-cons (λ (it : Item). length it.key ≡ key_words) (item_at w key_words value_words p) (map (item_at w key_words value_words) ps) (length-words_at w (p + 2) key_words) (long_chain w key_words value_words ps)

long_chains : (key_words n : ℕ) (chain : ℕ → List Item) → ((i : ℕ) → AreLong key_words (chain i)) → AreLong key_words (all_items (each_below chain n))
long_chains key_words zero chain h = All-nil (λ (it : Item). length it.key ≡ key_words)
long_chains key_words (suc n) chain h = All-append (λ (it : Item). length it.key ≡ key_words) (chain 0) (all_items (each_below (λ i. chain (suc i)) n)) (h 0) (long_chains key_words n (λ i. chain (suc i)) (λ i. h (suc i)))

module _ (b : Inside) (h : Stands b) where
  abbrev value : Hung
  value = seen b

  abbrev reading : ℕ → Item
  reading a = item_at (word b.part.words) b.key_words b.value_words a

  pub len_is : length value.chains ≡ b.buckets
  len_is = length-each_below (chain_items b.part.words b.slice b.key_words b.value_words) b.buckets

  pub chain_is : (i : ℕ) → i < b.buckets → chain_of value i ≡ chain_items b.part.words b.slice b.key_words b.value_words i
  chain_is i l = each_below-get (chain_items b.part.words b.slice b.key_words b.value_words) b.buckets i [] l

  pub places_are : (i : ℕ) → i < b.buckets → ats (chain_of value i) ≡ chain_places b.part.words b.slice i
  places_are i l = ap ats (chain_is i l) ∙ ats-map (word b.part.words) b.key_words b.value_words (chain_places b.part.words b.slice i)

  pub reads : (i : ℕ) → i < b.buckets → AreRead (word b.part.words) b.key_words b.value_words (chain_of value i)
  reads i l = subst (λ (c : List Item). AreRead (word b.part.words) b.key_words b.value_words c) (sym (chain_is i l)) (are_read (word b.part.words) b.key_words b.value_words (chain_places b.part.words b.slice i))

  pub place_of : (i : ℕ) (it : Item) → i < b.buckets → Among it (chain_of value i) → Among it.at (chain_places b.part.words b.slice i)
  place_of i it l m = subst (λ (c : List ℕ). Among it.at c) (places_are i l) (at_among it (chain_of value i) m)

  pub item_of : (i : ℕ) (it : Item) → i < b.buckets → Among it (chain_of value i) → IsItem b.part.words b.slice b.words b.seed b.key_words b.item_bytes it.at
  item_of i it l m = h.items i it.at l (place_of i it l m)

  pub owned_link : (i : ℕ) → i < b.buckets → IsSome (at b.part.words (b.slice + i))
  owned_link i l = let room : b.buckets ≤ b.words = h.room in h.owned (b.slice + i) (omega arith) (omega arith)

  pub link_fits : (i : ℕ) → i < b.buckets → Fits w64 (b.slice + i)
  link_fits i l = let small : b.slice + i < most_words = h.below (b.slice + i) (owned_link i l) in omega (arith, most_is)

  -- an item's words are below the greatest number of words
  pub item_small : (a k : ℕ) → IsItem b.part.words b.slice b.words b.seed b.key_words b.item_bytes a → a ≤ k → k < a + b.item_bytes / 8 → k < 67108864
  item_small a k it low high = let small : k < most_words = h.below k (it.owned k low high) in omega (arith, most_is)

  pub readable : (i a : ℕ) → i < b.buckets → Among a (chain_places b.part.words b.slice i) → IsReadable b.part.words b.seed b.key_words a
  readable i a l m =
      let it = h.items i a l m in
      let room : 2 + b.key_words + b.value_words ≤ b.item_bytes / 8 = h.fits in
      record { owned = λ k low high. it.owned k low (omega arith); hashed = it.hashed }

  pub none_found : (i : ℕ) (key : List ℕ) → i < b.buckets → IsNowhere (word b.part.words) (chain_places b.part.words b.slice i) b.key_words key → HasNoItem value i key
  none_found i key l n it m e = n it.at (place_of i it l m) (ap (λ (x : Item). x.key) (reads i l it m) ∙ e)

  pub one_found : (i link place : ℕ) (key : List ℕ) → i < b.buckets → IsPlaced (word b.part.words) (chain_places b.part.words b.slice i) (b.slice + i) link place b.key_words key → HasItem value i link place key
  one_found i link place key l p = (
    reading place,
    record {
      before = map reading p.before;
      after = map reading p.after;
      chain = chain_is i l ∙ ap (λ (c : List ℕ). map reading c) p.splits ∙ map-append reading p.before (place ∷ p.after);
      behind = ap (λ (c : List ℕ). link_behind (b.slice + i) c) (ats-map (word b.part.words) b.key_words b.value_words p.before) ∙ p.linked;
    },
    refl,
    p.here,
  )

  -- the slice has a word for each bucket
  pub buckets_room : length value.chains ≤ value.words
  buckets_room = omega (arith, len_is, h.room)

  -- all items together are at most as many as there are words
  pub are_few : length (all_items value.chains) ≤ 67108864
  are_few =
      let room : 2 + b.key_words + b.value_words ≤ b.item_bytes / 8 = h.fits in
      let of_chain : (i : ℕ) → i < length value.chains → ats (chain_of value i) ≡ chain_places b.part.words b.slice i = λ i l. places_are i (omega (arith, len_is)) in
      let all : AreDistinct (ats (all_items value.chains)) = all_distinct value.chains
      (λ i l. subst (λ (c : List ℕ). AreDistinct c) (sym (of_chain i l)) (h.distinct i (omega (arith, len_is))))
      (λ i j a l k m n. h.once i j a (omega (arith, len_is)) (omega (arith, len_is)) (subst (λ (c : List ℕ). Among a c) (of_chain i l) m) (subst (λ (c : List ℕ). Among a c) (of_chain j k) n)) in
      let few : length (ats (all_items value.chains)) ≤ most_words = length-le_from_distinct_below (ats (all_items value.chains)) most_words (are_distinct (ats (all_items value.chains)) all) (λ q e.
      let r = place_in value.chains q (any_among q (ats (all_items value.chains)) e) in
      let l : r.0 < b.buckets = omega (arith, r.1, len_is) in
      h.below q ((h.items r.0 q l (subst (λ (c : List ℕ). Among q c) (of_chain r.0 r.1) r.2)).owned q (omega arith) (omega arith))) in
      omega (arith, few, most_is, length-map (all_items value.chains) (λ (it : Item). it.at))

  -- all keys have the words of a key
  pub keys_long : AreLong b.key_words (all_items value.chains)
  keys_long = long_chains b.key_words b.buckets (chain_items b.part.words b.slice b.key_words b.value_words) (λ i. long_chain (word b.part.words) b.key_words b.value_words (chain_places b.part.words b.slice i))

  -- where a spot is
  pub spot_in : (i link : ℕ) (it : Item) (s : IsSpot value i link it) → Among it (chain_of value i)
  spot_in i link it s = subst (λ (c : List Item). Among it c) (sym s.chain) (among_here it s.before s.after)

  pub spot_splits : (i link : ℕ) (it : Item) → i < b.buckets → (s : IsSpot value i link it) → chain_places b.part.words b.slice i ≡ ats s.before ++ it.at ∷ ats s.after
  spot_splits i link it l s = sym (places_are i l) ∙ ap ats s.chain ∙ ats-append s.before (it ∷ s.after)

  -- the link is a word of the slice or the first word of an item before
  pub spot_link : (i link : ℕ) (it : Item) → (s : IsSpot value i link it) → (link ≡ b.slice + i) ⊎ Among link (ats s.before)
  spot_link i link it s = ⊎_elim
      (λ (e : link_behind (b.slice + i) (ats s.before) ≡ b.slice + i). inl (sym s.behind ∙ e))
      (λ (m : Among (link_behind (b.slice + i) (ats s.before)) (ats s.before)). inr (subst (λ (x : ℕ). Among x (ats s.before)) s.behind m))
      (behind_among (b.slice + i) (ats s.before))

  before_in : (i link : ℕ) (it : Item) → i < b.buckets → (s : IsSpot value i link it) → Among link (ats s.before) → Among link (chain_places b.part.words b.slice i)
  before_in i link it l s m = subst (λ (c : List ℕ). Among link c) (sym (spot_splits i link it l s)) (among_left link (ats s.before) (it.at ∷ ats s.after) m)

  pub spot_owned : (i link : ℕ) (it : Item) → i < b.buckets → (s : IsSpot value i link it) → IsSome (at b.part.words link)
  spot_owned i link it l s =
      let room : 2 + b.key_words + b.value_words ≤ b.item_bytes / 8 = h.fits in
      ⊎_elim (λ (e : link ≡ b.slice + i). subst (λ (x : ℕ). IsSome (at b.part.words x)) (sym e) (owned_link i l))
      (λ (m : Among link (ats s.before)). (h.items i link l (before_in i link it l s m)).owned link (omega arith) (omega arith))
      (spot_link i link it s)

  pub spot_apart : (i link : ℕ) (it : Item) → i < b.buckets → (s : IsSpot value i link it) → it.at ≤ link → it.at + b.item_bytes / 8 ≤ link
  spot_apart i link it l s low =
      let room : 2 + b.key_words + b.value_words ≤ b.item_bytes / 8 = h.fits in
      let space : b.buckets ≤ b.words = h.room in
      let all : AreDistinct (ats s.before ++ it.at ∷ ats s.after) = subst (λ (c : List ℕ). AreDistinct c) (spot_splits i link it l s) (h.distinct i l) in
      let here : Among it.at (chain_places b.part.words b.slice i) = place_of i it l (spot_in i link it s) in
      ⊎_elim (λ (e : link ≡ b.slice + i). ⊎_elim
      (λ (o : b.slice + b.words ≤ it.at). omega arith)
      (λ (o : it.at + b.item_bytes / 8 ≤ b.slice). omega arith)
      (apart_cases b.slice b.words it.at (b.item_bytes / 8) (h.items i it.at l here).apart))
      (λ (m : Among link (ats s.before)). ⊎_elim
      (λ (o : link + b.item_bytes / 8 ≤ it.at). omega arith)
      (λ (o : it.at + b.item_bytes / 8 ≤ link). o)
      (apart_cases link (b.item_bytes / 8) it.at (b.item_bytes / 8) (h.apart i i link it.at l l (before_in i link it l s m) here (without_other link it.at (ats s.before) (ats s.after) all (among_left link (ats s.before) (ats s.after) m)))))
      (spot_link i link it s)

  module _ (v : Hung) (is : seen b ≡ v) where
    pub bucket_in : (i : ℕ) → i < length v.chains → i < b.buckets
    bucket_in i l = subst (λ (n : ℕ). i < n) (ap (λ (u : Hung). length u.chains) (sym is) ∙ len_is) l

    pub finds : (o : Option Spot) (i : ℕ) (key : List ℕ) → i < length v.chains → length key ≡ v.layout.key_words
        → MatchOption o (IsNowhere (word b.part.words) (chain_places b.part.words b.slice i) (length key) key) (λ s. IsPlaced (word b.part.words) (chain_places b.part.words b.slice i) (b.slice + i) s.link s.item (length key) key)
        → MatchOption o (HasNoItem v i key) (λ s. HasItem v i s.link s.item key)
    finds o i key l e m = subst (λ (u : Hung). MatchOption o (HasNoItem u i key) (λ s. HasItem u i s.link s.item key)) is
        (either_option o (IsNowhere (word b.part.words) (chain_places b.part.words b.slice i) b.key_words key) (HasNoItem value i key)
        (λ s. IsPlaced (word b.part.words) (chain_places b.part.words b.slice i) (b.slice + i) s.link s.item b.key_words key) (λ s. HasItem value i s.link s.item key)
        (none_found i key (bucket_in i l)) (λ s p. one_found i s.link s.item key (bucket_in i l) p)
        (subst (λ (n : ℕ). MatchOption o (IsNowhere (word b.part.words) (chain_places b.part.words b.slice i) n key) (λ s. IsPlaced (word b.part.words) (chain_places b.part.words b.slice i) (b.slice + i) s.link s.item n key)) (e ∙ ap (λ (u : Hung). u.layout.key_words) (sym is)) m))

    pub first_is : (i link : ℕ) → i < length v.chains → at b.part.words (b.slice + i) ≡ Some link → link ≡ first_place (chain_of v i)
    first_is i link l e = subst (λ (u : Hung). link ≡ first_place (chain_of u i)) is
        (sym (word_is b.part.words (b.slice + i) link e)
        ∙ chain_first (word b.part.words) (word b.part.words (b.slice + i)) (chain_of value i) (subst (λ (c : List ℕ). IsChain (word b.part.words) (word b.part.words (b.slice + i)) c) (sym (places_are i (bucket_in i l))) (h.linked i (bucket_in i l))))

    pub held_item : (it : Item) → Holds v it → IsItem b.part.words b.slice b.words b.seed b.key_words b.item_bytes it.at × (item_at (word b.part.words) b.key_words b.value_words it.at ≡ it)
    held_item it m =
        let here : Among it (chain_of value m.0) = subst (λ (u : Hung). Among it (chain_of u m.0)) (sym is) m.2 in
        (item_of m.0 it (bucket_in m.0 m.1) here, reads m.0 (bucket_in m.0 m.1) it here)

    pub held_at : (place : ℕ) → (it : Item) × Holds v it × (it.at ≡ place) → IsItem b.part.words b.slice b.words b.seed b.key_words b.item_bytes place
    held_at place m = subst (λ (a : ℕ). IsItem b.part.words b.slice b.words b.seed b.key_words b.item_bytes a) m.2 (held_item m.0 m.1).0

    pub next_is : (i place link : ℕ) → i < length v.chains → at b.part.words place ≡ Some link → (before after : List Item) (it : Item) → chain_of v i ≡ before ++ it ∷ after → it.at ≡ place → link ≡ first_place after
    next_is i place link l e before after it splits s =
        let own : chain_of value i ≡ before ++ it ∷ after = ap (λ (u : Hung). chain_of u i) is ∙ splits in
        let places : chain_places b.part.words b.slice i ≡ ats before ++ it.at ∷ ats after = sym (places_are i (bucket_in i l)) ∙ ap ats own ∙ ats-append before (it ∷ after) in
        sym (word_is b.part.words place link e)
        ∙ ap (word b.part.words) (sym s)
        ∙ chain_first (word b.part.words) (word b.part.words it.at) after
        (chain_next (word b.part.words) (word b.part.words (b.slice + i)) it.at (ats before) (ats after)
        (subst (λ (c : List ℕ). IsChain (word b.part.words) (word b.part.words (b.slice + i)) c) places (h.linked i (bucket_in i l))))

    pub first_ends : (i link : ℕ) → i < length v.chains → at b.part.words (b.slice + i) ≡ Some link → link ≡ 0 → chain_of v i ≡ []
    first_ends i link l e z = subst (λ (u : Hung). chain_of u i ≡ []) is
        (chain_ends (word b.part.words) (word b.part.words (b.slice + i)) (chain_of value i) (subst (λ (c : List ℕ). IsChain (word b.part.words) (word b.part.words (b.slice + i)) c) (sym (places_are i (bucket_in i l))) (h.linked i (bucket_in i l)))
        (word_is b.part.words (b.slice + i) link e ∙ z))

    pub next_ends : (i place link : ℕ) → i < length v.chains → at b.part.words place ≡ Some link → (before after : List Item) (it : Item) → chain_of v i ≡ before ++ it ∷ after → it.at ≡ place → link ≡ 0 → after ≡ []
    next_ends i place link l e before after it splits s z =
        let own : chain_of value i ≡ before ++ it ∷ after = ap (λ (u : Hung). chain_of u i) is ∙ splits in
        let places : chain_places b.part.words b.slice i ≡ ats before ++ it.at ∷ ats after = sym (places_are i (bucket_in i l)) ∙ ap ats own ∙ ats-append before (it ∷ after) in
        chain_ends (word b.part.words) (word b.part.words it.at) after
        (chain_next (word b.part.words) (word b.part.words (b.slice + i)) it.at (ats before) (ats after)
        (subst (λ (c : List ℕ). IsChain (word b.part.words) (word b.part.words (b.slice + i)) c) places (h.linked i (bucket_in i l))))
        (ap (word b.part.words) s ∙ word_is b.part.words place link e ∙ z)
