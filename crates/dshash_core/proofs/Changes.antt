-- What contracts see of a slice after its words changed.
use Rattle.std.proofs.Common.{◌≡◌, ◌≢◌, ℕ, zero, suc, ◌+◌, ◌/◌, ◌%◌, ◌<◌, ◌≤◌, inl, inr, List, [], ◌∷◌, ◌++◌, map, length, set, replicate, is_some, IsSome, refl, sym, ap, subst, ◌∙◌, arith, ⊎_elim}
use Rattle.word_map.specs.WordMap.{WordMap, at, HasJust}
use Rattle.word_map.proofs.Maps.{just_has}
use Rattle.region_words.specs.Parts.{Owned}
use Rattle.dshash_core.specs.Key.{seeded_hash}
use Rattle.dshash_core.specs.Chains.{word, words_at, most_words, IsChain, Among, AreDistinct, Item, item_at, each_below, ats}
use Rattle.dshash_core.specs.Hung.{Hung, hung, AreHung, chain_places, chain_items, chain_of, with_chain, IsSpot, IsItemChunk}
use Rattle.dshash_core.specs.Walk.{IsHungIn, IsTakenOut}
use Rattle.dshash_core.specs.declared.buckets.Buckets.TheInside.{Inside}
use Rattle.dshash_core.proofs.Chains.{same_or_not, words_at-same}
use Rattle.dshash_core.proofs.Rows.{each_below-set, each_below-same, ats-append, AreRead, read_all, at_among, item_at-same}
use Rattle.dshash_core.proofs.Hangs.{apart_cases, without_other, among_left, put, put_same, put_other, hung_kept, hung_pushed, hung_unlinked, hung_places, rehang, IsPushed, IsUnlinked}
use Rattle.dshash_core.proofs.Views.{Stands, seen, places_are, reads, place_of, spot_in, spot_splits, spot_link, bucket_in, map_same, among_split, among_more}

chain_positive : (w : ℕ → ℕ) (link a : ℕ) (xs : List ℕ) → IsChain w link xs → Among a xs → 0 < a
chain_positive w link a [] c m = absurd m
chain_positive w link a (x ∷ xs) c (inl e) = subst (λ (y : ℕ). 0 < y) (sym e) c.1
chain_positive w link a (x ∷ xs) c (inr m) = chain_positive w (w x) a xs c.2 m

module _ (b : Inside) (h : Stands b) where
  abbrev Hang : Owned → (ℕ → List ℕ) → Type 0
  Hang p chain = AreHung b.slice b.words b.buckets b.seed b.key_words b.value_words b.item_bytes p.words chain

  abbrev old_chain : ℕ → List ℕ
  old_chain i = chain_places b.part.words b.slice i

  abbrev look : Owned → Hung
  look p = hung p b.slice b.words b.buckets b.seed b.key_words b.value_words b.item_bytes

  abbrev reading : Owned → ℕ → Item
  reading p a = item_at (word p.words) b.key_words b.value_words a

  pub positive : (i a : ℕ) → i < b.buckets → Among a (old_chain i) → 0 < a
  positive i a l m = chain_positive (word b.part.words) (word b.part.words (b.slice + i)) a (old_chain i) (h.linked i l) m

  -- one chain has changed, and no other
  seen_with : (p : Owned) (chain : ℕ → List ℕ) (i : ℕ) (items : List Item) → p.region ≡ b.part.region → Hang p chain → i < b.buckets
      → chain i ≡ ats items → ((j : ℕ) → j ≢ i → chain j ≡ old_chain j) → AreRead (word p.words) b.key_words b.value_words items
      → ((j a : ℕ) → j < b.buckets → j ≢ i → Among a (old_chain j) → reading p a ≡ reading b.part a)
      → look p ≡ with_chain (seen b) i items
  seen_with p chain i items region hang l here others fresh kept =
      let rows : each_below (chain_items p.words b.slice b.key_words b.value_words) b.buckets ≡ set (each_below (chain_items b.part.words b.slice b.key_words b.value_words) b.buckets) i items =
      each_below-set (chain_items b.part.words b.slice b.key_words b.value_words) (chain_items p.words b.slice b.key_words b.value_words) b.buckets i items l
      (ap (λ (c : List ℕ). map (reading p) c) (hung_places b.slice b.words b.buckets b.seed b.key_words b.value_words b.item_bytes p.words chain hang i l ∙ here) ∙ read_all (word p.words) b.key_words b.value_words items fresh)
      (λ j k n. ap (λ (c : List ℕ). map (reading p) c) (hung_places b.slice b.words b.buckets b.seed b.key_words b.value_words b.item_bytes p.words chain hang j k ∙ others j n)
      ∙ map_same (reading b.part) (reading p) (old_chain j) (λ a m. kept j a k n m)) in
      λ t. record { region = region t; slice = b.slice; words = b.words; layout = record { seed = b.seed; key_words = b.key_words; value_words = b.value_words; item_bytes = b.item_bytes }; chains = rows t }

  -- what is left of a chain but for one item stands elsewhere than that
  rest_other : (i link : ℕ) (it x : Item) → i < b.buckets → (s : IsSpot (seen b) i link it) → Among x (s.before ++ s.after) → Among x (chain_of (seen b) i) × (x.at ≢ it.at)
  rest_other i link it x l s m = (
    subst (λ (c : List Item). Among x c) (sym s.chain) (among_more x it s.before s.after m),
    without_other x.at it.at (ats s.before) (ats s.after) (subst (λ (c : List ℕ). AreDistinct c) (spot_splits b h i link it l s) (h.distinct i l))
        (subst (λ (c : List ℕ). Among x.at c) (ats-append s.before s.after) (at_among x (s.before ++ s.after) m)),
  )

  room : 2 + b.key_words + b.value_words ≤ b.item_bytes / 8
  room = h.fits

  space : b.buckets ≤ b.words
  space = h.room

  -- a value is written over: the words of it alone have changed
  pub record IsWritten (p : Owned) (place n : ℕ) : Type 0 where
    pub region : p.region ≡ b.part.region
    pub keys : (k : ℕ) → is_some (at p.words k) ≡ is_some (at b.part.words k)
    pub below : (k : ℕ) → k < place + 2 + b.key_words → word p.words k ≡ word b.part.words k
    pub behind : (k : ℕ) → place + 2 + b.key_words + n ≤ k → word p.words k ≡ word b.part.words k

  module _ (p : Owned) (i place n : ℕ) (l : i < b.buckets) (own : n ≡ b.value_words) (m : Among place (old_chain i)) (w : IsWritten p place n) where
    other_kept : (j a k : ℕ) → j < b.buckets → Among a (old_chain j) → a ≢ place → a ≤ k → k < a + b.item_bytes / 8 → word p.words k ≡ word b.part.words k
    other_kept j a k r q far low high = ⊎_elim
        (λ (o : a + b.item_bytes / 8 ≤ place). w.below k (omega arith))
        (λ (o : place + b.item_bytes / 8 ≤ a). w.behind k (omega (arith, room, own)))
        (apart_cases a (b.item_bytes / 8) place (b.item_bytes / 8) (h.apart j i a place r l q m far))

    written_hangs : Hang p old_chain
    written_hangs = hung_kept b.slice b.words b.buckets b.seed b.key_words b.value_words b.item_bytes b.part.words p.words old_chain h w.keys
        (λ j r. ⊎_elim
        (λ (o : b.slice + b.words ≤ place). w.below (b.slice + j) (omega (arith, space)))
        (λ (o : place + b.item_bytes / 8 ≤ b.slice). w.behind (b.slice + j) (omega (arith, room, own)))
        (apart_cases b.slice b.words place (b.item_bytes / 8) (h.items i place l m).apart))
        (λ j a k r q low high. ⊎_elim
        (λ (e : a ≡ place). w.below k (omega arith))
        (λ (far : a ≢ place). other_kept j a k r q far low (omega (arith, room)))
        (same_or_not a place))

    pub written_stands : AreHung b.slice b.words b.buckets b.seed b.key_words b.value_words b.item_bytes p.words (chain_places p.words b.slice)
    written_stands = rehang b.slice b.words b.buckets b.seed b.key_words b.value_words b.item_bytes p.words old_chain written_hangs

    other_read : (j a : ℕ) → j < b.buckets → Among a (old_chain j) → a ≢ place → reading p a ≡ reading b.part a
    other_read j a r q far = item_at-same (word b.part.words) (word p.words) b.key_words b.value_words a (λ k low high. other_kept j a k r q far (omega arith) (omega (arith, room)))

    pub written_seen : (link : ℕ) (it : Item) (value : List ℕ) (s : IsSpot (seen b) i link it) → it.at ≡ place → words_at (word p.words) (place + 2 + b.key_words) b.value_words ≡ value
        → look p ≡ with_chain (seen b) i (s.before ++ record it { value = value } ∷ s.after)
    written_seen link it value s e is_value =
        seen_with p old_chain i (s.before ++ record it { value = value } ∷ s.after) w.region written_hangs l
        (spot_splits b h i link it l s ∙ sym (ats-append s.before (record it { value = value } ∷ s.after)))
        (λ j far. refl)
        (λ x x_in. ⊎_elim
        (λ (same : x ≡ record it { value = value }). ap (λ (y : Item). reading p y.at) same ∙ fresh ∙ sym same)
        (λ (q : Among x (s.before ++ s.after)).
        let r = rest_other i link it x l s q in
        other_read i x.at l (place_of b h i x l r.0) (λ z. r.1 (z ∙ sym e)) ∙ reads b h i l x r.0)
        (among_split x (record it { value = value }) s.before s.after x_in))
        (λ j a r far q. other_read j a r q (λ z. far (h.once j i place r l (subst (λ (y : ℕ). Among y (old_chain j)) z q) m)))
      where
        fresh : reading p it.at ≡ record it { value = value }
        fresh =
            let key : words_at (word p.words) (it.at + 2) b.key_words ≡ it.key =
            words_at-same (word p.words) (word b.part.words) (it.at + 2) b.key_words (λ k low high. w.below k (omega arith))
            ∙ ap (λ (y : Item). y.key) (reads b h i l it (spot_in b h i link it s)) in
            let val : words_at (word p.words) (it.at + 2 + b.key_words) b.value_words ≡ value = ap (λ (a : ℕ). words_at (word p.words) (a + 2 + b.key_words) b.value_words) e ∙ is_value in
            λ t. record { at = it.at; key = key t; value = val t }

  -- an item is hung in at the head of chain i
  module _ (p : Owned) (item : WordMap) (i place : ℕ) (it : Item) (l : i < b.buckets) (region : p.region ≡ b.part.region) (hung_in : IsHungIn b.part.words item p.words (b.slice + i) place)
      (just : HasJust item place (b.item_bytes / 8)) (whole : b.item_bytes % 8 ≡ 0) (low : 0 < place)
      (is_item : item_at (word item) b.key_words b.value_words place ≡ it) (hashed : word item (place + 1) ≡ seeded_hash b.seed it.key) where
    in_item : (k : ℕ) → place ≤ k → k < place + b.item_bytes / 8 → IsSome (at item k)
    in_item k s e = just_has item place (b.item_bytes / 8) k just s e

    pushes : IsPushed b.slice b.words b.buckets b.seed b.key_words b.value_words b.item_bytes b.part.words item p.words (b.slice + i) place
    pushes = record {
      keeps = hung_in.keeps;
      gains = λ k s e. hung_in.gains k (in_item k s e);
      below = hung_in.below;
      apart = λ k has s e. hung_in.apart k has (in_item k s e);
      linked = hung_in.linked;
      next = hung_in.next;
      others = hung_in.others;
      body = λ k s e. hung_in.body k (in_item k (omega arith) e) (λ z. omega arith);
    }

    pushed_hangs : Hang p (put old_chain i (place ∷ old_chain i))
    pushed_hangs = hung_pushed b.slice b.words b.buckets b.seed b.key_words b.value_words b.item_bytes b.part.words item p.words old_chain i place h l low whole
        (hashed ∙ ap (λ (x : Item). seeded_hash b.seed x.key) (sym is_item)) pushes

    pub pushed_stands : AreHung b.slice b.words b.buckets b.seed b.key_words b.value_words b.item_bytes p.words (chain_places p.words b.slice)
    pushed_stands = rehang b.slice b.words b.buckets b.seed b.key_words b.value_words b.item_bytes p.words (put old_chain i (place ∷ old_chain i)) pushed_hangs

    old_read : (j a : ℕ) → j < b.buckets → Among a (old_chain j) → reading p a ≡ reading b.part a
    old_read j a r q = item_at-same (word b.part.words) (word p.words) b.key_words b.value_words a (λ k s e.
        let own = h.items j a r q in
        hung_in.others k (own.owned k (omega arith) (omega (arith, room))) (λ z. ⊎_elim
        (λ (o : b.slice + b.words ≤ a). let y : ⊥ = omega (arith, space, l) in y)
        (λ (o : a + b.item_bytes / 8 ≤ b.slice). let y : ⊥ = omega (arith, room) in y)
        (apart_cases b.slice b.words a (b.item_bytes / 8) own.apart)))

    new_read : reading p place ≡ it
    new_read = item_at-same (word item) (word p.words) b.key_words b.value_words place (λ k s e. pushes.body k (omega arith) (omega (arith, room))) ∙ is_item

    pub pushed_seen : look p ≡ with_chain (seen b) i (it ∷ chain_of (seen b) i)
    pushed_seen =
        let here : it.at ≡ place = ap (λ (x : Item). x.at) (sym is_item) in
        seen_with p (put old_chain i (place ∷ old_chain i)) i (it ∷ chain_of (seen b) i) region pushed_hangs l
        (put_same old_chain i (place ∷ old_chain i) i refl ∙ (λ t. sym here t ∷ sym (places_are b h i l) t))
        (λ j far. put_other old_chain i (place ∷ old_chain i) j far)
        (λ x m. ⊎_elim
        (λ (same : x ≡ it). ap (λ (y : Item). reading p y.at) same ∙ ap (reading p) here ∙ new_read ∙ sym same)
        (λ (q : Among x (chain_of (seen b) i)). old_read i x.at l (place_of b h i x l q) ∙ reads b h i l x q)
        m)
        (λ j a r far q. old_read j a r q)

  -- an item is taken out of chain i
  module _ (p : Owned) (item : WordMap) (i link : ℕ) (it : Item) (l : i < b.buckets) (s : IsSpot (seen b) i link it) (region : p.region ≡ b.part.region)
      (out : IsTakenOut b.part.words p.words item link it.at (b.item_bytes / 8)) where
    splits : old_chain i ≡ ats s.before ++ it.at ∷ ats s.after
    splits = spot_splits b h i link it l s

    here_in : Among it.at (old_chain i)
    here_in = place_of b h i it l (spot_in b h i link it s)

    taken_hangs : Hang p (put old_chain i (ats s.before ++ ats s.after))
    taken_hangs = hung_unlinked b.slice b.words b.buckets b.seed b.key_words b.value_words b.item_bytes b.part.words p.words old_chain i it.at (ats s.before) (ats s.after) h l splits
        (subst (λ (x : ℕ). IsUnlinked b.slice b.words b.buckets b.seed b.key_words b.value_words b.item_bytes b.part.words p.words x it.at) (sym s.behind)
        record { keeps = out.keeps; below = out.below; linked = out.linked; others = out.others })

    pub taken_stands : AreHung b.slice b.words b.buckets b.seed b.key_words b.value_words b.item_bytes p.words (chain_places p.words b.slice)
    taken_stands = rehang b.slice b.words b.buckets b.seed b.key_words b.value_words b.item_bytes p.words (put old_chain i (ats s.before ++ ats s.after)) taken_hangs

    -- the link is no word behind the first of an item
    link_far : (j a k : ℕ) → j < b.buckets → Among a (old_chain j) → a < k → k < a + b.item_bytes / 8 → k ≢ link
    link_far j a k r q low high z = ⊎_elim
        (λ (o : link ≡ b.slice + i). ⊎_elim
        (λ (o2 : b.slice + b.words ≤ a). let y : ⊥ = omega (arith, space, l) in y)
        (λ (o2 : a + b.item_bytes / 8 ≤ b.slice). let y : ⊥ = omega arith in y)
        (apart_cases b.slice b.words a (b.item_bytes / 8) (h.items j a r q).apart))
        (λ (m : Among link (ats s.before)).
        let link_in : Among link (old_chain i) = subst (λ (c : List ℕ). Among link c) (sym splits) (among_left link (ats s.before) (it.at ∷ ats s.after) m) in
        ⊎_elim
        (λ (same : link ≡ a). let y : ⊥ = omega arith in y)
        (λ (n : link ≢ a). ⊎_elim
        (λ (o2 : link + b.item_bytes / 8 ≤ a). let y : ⊥ = omega arith in y)
        (λ (o2 : a + b.item_bytes / 8 ≤ link). let y : ⊥ = omega arith in y)
        (apart_cases link (b.item_bytes / 8) a (b.item_bytes / 8) (h.apart i j link a l r link_in q n)))
        (same_or_not link a))
        (spot_link b h i link it s)

    left_read : (j a : ℕ) → j < b.buckets → Among a (old_chain j) → a ≢ it.at → reading p a ≡ reading b.part a
    left_read j a r q far = item_at-same (word b.part.words) (word p.words) b.key_words b.value_words a (λ k low high.
        out.others k
        (λ from to. ⊎_elim
        (λ (o : a + b.item_bytes / 8 ≤ it.at). let y : ⊥ = omega (arith, room) in y)
        (λ (o : it.at + b.item_bytes / 8 ≤ a). let y : ⊥ = omega arith in y)
        (apart_cases a (b.item_bytes / 8) it.at (b.item_bytes / 8) (h.apart j i a it.at r l q here_in far)))
        (link_far j a k r q (omega arith) (omega (arith, room))))

    pub taken_seen : look p ≡ with_chain (seen b) i (s.before ++ s.after)
    taken_seen =
        seen_with p (put old_chain i (ats s.before ++ ats s.after)) i (s.before ++ s.after) region taken_hangs l
        (put_same old_chain i (ats s.before ++ ats s.after) i refl ∙ sym (ats-append s.before s.after))
        (λ j far. put_other old_chain i (ats s.before ++ ats s.after) j far)
        (λ x m. let r = rest_other i link it x l s m in left_read i x.at l (place_of b h i x l r.0) r.1 ∙ reads b h i l x r.0)
        (λ j a r far q. left_read j a r q (λ z. far (h.once j i it.at r l (subst (λ (y : ℕ). Among y (old_chain j)) z q) here_in)))

    -- and the words taken are the item
    pub taken_item : IsItemChunk it.at item (record { seed = b.seed; key_words = b.key_words; value_words = b.value_words; item_bytes = b.item_bytes }) it
    taken_item =
        let read : reading b.part it.at ≡ it = reads b h i l it (spot_in b h i link it s) in
        record {
          reads = item_at-same (word b.part.words) (word item) b.key_words b.value_words it.at (λ k low high. out.taken k (omega arith) (omega (arith, room))) ∙ read;
          hashed = out.taken (it.at + 1) (omega arith) (omega (arith, room)) ∙ (h.items i it.at l here_in).hashed ∙ ap (λ (x : Item). seeded_hash b.seed x.key) read;
        }

each_nothing : (n : ℕ) → each_below {A = List Item} (λ i. []) n ≡ replicate n []
each_nothing zero = refl
each_nothing (suc n) = λ t. [] ∷ each_nothing n t

-- words of 0 stand for empty chains
module _ (part : Owned) (slice words buckets seed key_words value_words item_bytes : ℕ) (low : 0 < slice) (room : buckets ≤ words) (fits : 2 + key_words + value_words ≤ item_bytes / 8)
    (owned : (k : ℕ) → slice ≤ k → k < slice + words → IsSome (at part.words k)) (below : (k : ℕ) → IsSome (at part.words k) → k < most_words)
    (zeros : (k : ℕ) → slice ≤ k → k < slice + buckets → word part.words k ≡ 0) where
  empty_hangs : AreHung slice words buckets seed key_words value_words item_bytes part.words (λ i. [])
  empty_hangs = record {
    low = low;
    room = room;
    fits = fits;
    owned = owned;
    below = below;
    linked = λ i l. zeros (slice + i) (omega arith) (omega arith);
    distinct = λ i l. tt;
    items = λ i a l m. absurd m;
    apart = λ i j a b l k m n far. absurd m;
    once = λ i j a l k m n. absurd m;
  }

  pub empty_stands : AreHung slice words buckets seed key_words value_words item_bytes part.words (chain_places part.words slice)
  empty_stands = rehang slice words buckets seed key_words value_words item_bytes part.words (λ i. []) empty_hangs

  pub empty_chains : each_below (chain_items part.words slice key_words value_words) buckets ≡ replicate buckets []
  empty_chains =
      each_below-same (λ i. []) (chain_items part.words slice key_words value_words) buckets
      (λ i l. ap (λ (c : List ℕ). map (item_at (word part.words) key_words value_words) c) (hung_places slice words buckets seed key_words value_words item_bytes part.words (λ j. []) empty_hangs i l))
      ∙ each_nothing buckets

module _ (b : Inside) (h : Stands b) (v : Hung) (is : seen b ≡ v) where
  pub spot_place : (i link place : ℕ) → i < length v.chains → (it : Item) × IsSpot v i link it × (it.at ≡ place) → Among place (chain_places b.part.words b.slice i)
  spot_place i link place l s =
      let at_own : IsSpot (seen b) i link s.0 = subst (λ (u : Hung). IsSpot u i link s.0) (sym is) s.1 in
      subst (λ (a : ℕ). Among a (chain_places b.part.words b.slice i)) s.2 (place_of b h i s.0 (bucket_in b h v is i l) (spot_in b h i link s.0 at_own))

  pub spot_of : (i link : ℕ) (it : Item) → IsSpot v i link it → IsSpot (seen b) i link it
  spot_of i link it s = subst (λ (u : Hung). IsSpot u i link it) (sym is) s
