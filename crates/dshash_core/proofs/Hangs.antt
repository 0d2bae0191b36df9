-- The chains of a slice: what stays when words change, when an item is hung in and when one is taken out.
use Rattle.std.proofs.Common.{◌≡◌, ◌≢◌, ℕ, ◌+◌, ◌/◌, ◌%◌, ◌<◌, ◌≤◌, ◌⊎◌, inl, inr, Bool, true, false, ◌==◌, ◌||◌, eqb, cond, List, [], ◌∷◌, ◌++◌, length, is_some, IsSome, refl, sym, ap, subst, ◌∙◌, arith, ⊎_elim, eq-eqb, ne_eqb}
use Rattle.std.proofs.lemmas.Bool.{cases_lt}
use Rattle.std.specs.List.{IsDistinct, AllByRecursion, list_any}
use Rattle.std.proofs.lemmas.Map.Steps.{length-le_from_distinct_below}
use Rattle.word_map.specs.WordMap.{WordMap, at}
use Rattle.dshash_core.specs.Key.{seeded_hash}
use Rattle.dshash_core.specs.Chains.{word, words_at, most_words, IsChain, Among, AreDistinct, link_behind}
use Rattle.dshash_core.specs.Hung.{IsApart, IsItem, AreHung, chain_places}
use Rattle.dshash_core.proofs.Chains.{same_or_not, words_at-same, places_is, chain_same}

-- chains that are `chain`, with another one at i
abbrev pub put : (ℕ → List ℕ) → ℕ → List ℕ → ℕ → List ℕ
put chain i xs j = cond (j == i) xs (chain j)

pub put_same : (chain : ℕ → List ℕ) (i : ℕ) (xs : List ℕ) (j : ℕ) → j ≡ i → put chain i xs j ≡ xs
put_same chain i xs j e = ap (λ (b : Bool). cond b xs (chain j)) (eq-eqb j i e)

pub put_other : (chain : ℕ → List ℕ) (i : ℕ) (xs : List ℕ) (j : ℕ) → j ≢ i → put chain i xs j ≡ chain j
put_other chain i xs j n = ap (λ (b : Bool). cond b xs (chain j)) (ne_eqb j i n)

put_among : (chain : ℕ → List ℕ) (i : ℕ) (xs : List ℕ) (j a : ℕ) → Among a (put chain i xs j) → ((j ≡ i) × Among a xs) ⊎ ((j ≢ i) × Among a (chain j))
put_among chain i xs j a m = ⊎_elim
    (λ (e : j ≡ i). inl (e, subst (λ (c : List ℕ). Among a c) (put_same chain i xs j e) m))
    (λ (n : j ≢ i). inr (n, subst (λ (c : List ℕ). Among a c) (put_other chain i xs j n) m))
    (same_or_not j i)

-- ranges without a common word lie one behind the other
pub apart_cases : (a n b k : ℕ) → IsApart a n b k → (a + n ≤ b) ⊎ (b + k ≤ a)
apart_cases a n b k s = ⊎_elim (λ (h : a < b). inl (s.0 h)) (λ (h : b ≤ a). inr (s.1 h)) (cases_lt a b)

pub apart_turned : (a n b k : ℕ) → IsApart a n b k → 0 < n → 0 < k → IsApart b k a n
apart_turned a n b k s p q = ⊎_elim (λ (h : a + n ≤ b). (λ x. omega arith, λ x. omega arith)) (λ (h : b + k ≤ a). (λ x. omega arith, λ x. omega arith)) (apart_cases a n b k s)

pub any_among : (q : ℕ) (xs : List ℕ) → list_any (eqb q) xs ≡ true → Among q xs
any_among q [] e = cc
any_among q (x ∷ xs) e = ⊎_elim (λ (s : q ≡ x). inl s) (λ (n : q ≢ x). inr (any_among q xs (sym (ap (λ (b : Bool). b || list_any (eqb q) xs) (ne_eqb q x n)) ∙ e))) (same_or_not q x)

others : (x : ℕ) (xs : List ℕ) → ((y : ℕ) → Among y xs → y ≢ x) → AllByRecursion (λ y. eqb x y ≡ false) xs
others x [] h = tt
others x (y ∷ xs) h = (ne_eqb x y (λ e. h y (inl refl) (sym e)), others x xs (λ z m. h z (inr m)))

pub are_distinct : (xs : List ℕ) → AreDistinct xs → IsDistinct eqb xs
unfolding IsDistinct
are_distinct [] d = tt
are_distinct (x ∷ xs) d = (others x xs d.0, are_distinct xs d.1)

among_without : (k a : ℕ) (xs ys : List ℕ) → Among k (xs ++ ys) → Among k (xs ++ a ∷ ys)
among_without k a [] ys m = inr m
among_without k a (x ∷ xs) ys (inl e) = inl e
among_without k a (x ∷ xs) ys (inr m) = inr (among_without k a xs ys m)

pub among_middle : (a : ℕ) (xs ys : List ℕ) → Among a (xs ++ a ∷ ys)
among_middle a [] ys = inl refl
among_middle a (x ∷ xs) ys = inr (among_middle a xs ys)

pub without_other : (k a : ℕ) (xs ys : List ℕ) → AreDistinct (xs ++ a ∷ ys) → Among k (xs ++ ys) → k ≢ a
without_other k a [] ys d m = d.0 k m
without_other k a (x ∷ xs) ys d (inl e) = λ s. d.0 a (among_middle a xs ys) (sym s ∙ e)
without_other k a (x ∷ xs) ys d (inr m) = without_other k a xs ys d.1 m

without_distinct : (a : ℕ) (xs ys : List ℕ) → AreDistinct (xs ++ a ∷ ys) → AreDistinct (xs ++ ys)
without_distinct a [] ys d = d.1
without_distinct a (x ∷ xs) ys d = ((λ y m. d.0 y (among_without y a xs ys m)), without_distinct a xs ys d.1)

pub behind_among : (x : ℕ) (xs : List ℕ) → Among (link_behind x xs) (x ∷ xs)
behind_among x [] = inl refl
behind_among x (y ∷ xs) = inr (behind_among y xs)

pub among_left : (k : ℕ) (xs ys : List ℕ) → Among k xs → Among k (xs ++ ys)
among_left k [] ys m = absurd m
among_left k (x ∷ xs) ys (inl e) = inl e
among_left k (x ∷ xs) ys (inr m) = inr (among_left k xs ys m)

-- a chain from whose words the one behind which an item stands now leads past it
unlinked_chain : (w v : ℕ → ℕ) (l a : ℕ) (xs ys : List ℕ) → IsChain w (w l) (xs ++ a ∷ ys) → AreDistinct (l ∷ (xs ++ a ∷ ys))
    → v (link_behind l xs) ≡ w a → ((k : ℕ) → Among k (l ∷ (xs ++ ys)) → k ≢ link_behind l xs → v k ≡ w k) → IsChain v (v l) (xs ++ ys)
unlinked_chain w v l a [] ys c d e h =
    subst (λ (x : ℕ). IsChain v x ys) (sym e) (chain_same w v (w a) ys c.2 (λ k m. h k (inr m) (λ s. d.0 k (inr m) s)))
unlinked_chain w v l a (x ∷ xs) ys c d e h =
    let far : l ≢ link_behind x xs = λ s. d.0 (link_behind x xs) (among_left (link_behind x xs) (x ∷ xs) (a ∷ ys) (behind_among x xs)) (sym s) in
    (h l (inl refl) far ∙ c.0, c.1, unlinked_chain w v x a xs ys c.2 d.1 e (λ k m n. h k (inr m) n))

module _ (slice words buckets seed key_words value_words item_bytes : ℕ) where
  abbrev Hang : WordMap → (ℕ → List ℕ) → Type 0
  Hang m chain = AreHung slice words buckets seed key_words value_words item_bytes m chain

  -- no chain has more items than there are words
  short : (m : WordMap) (chain : ℕ → List ℕ) → Hang m chain → (i : ℕ) → i < buckets → length (chain i) ≤ most_words
  short m chain h i l = length-le_from_distinct_below (chain i) most_words (are_distinct (chain i) (h.distinct i l)) (λ q e.
      let room : 2 + key_words + value_words ≤ item_bytes / 8 = h.fits in
      h.below q ((h.items i q l (any_among q (chain i) e)).owned q (omega arith) (omega arith)))

  -- the places that the words give are those of the chains
  pub hung_places : (m : WordMap) (chain : ℕ → List ℕ) → Hang m chain → (i : ℕ) → i < buckets → chain_places m slice i ≡ chain i
  hung_places m chain h i l = places_is (word m) most_words (word m (slice + i)) (chain i) (h.linked i l) (short m chain h i l)

  pub rehang : (m : WordMap) (chain : ℕ → List ℕ) → Hang m chain → Hang m (chain_places m slice)
  rehang m chain h = record {
    low = h.low;
    room = h.room;
    fits = h.fits;
    owned = h.owned;
    below = h.below;
    linked = λ i l. subst (λ (c : List ℕ). IsChain (word m) (word m (slice + i)) c) (sym (hung_places m chain h i l)) (h.linked i l);
    distinct = λ i l. subst (λ (c : List ℕ). AreDistinct c) (sym (hung_places m chain h i l)) (h.distinct i l);
    items = λ i a l m_a. h.items i a l (there i a l m_a);
    apart = λ i j a b l k m_a m_b n. h.apart i j a b l k (there i a l m_a) (there j b k m_b) n;
    once = λ i j a l k m_a m_b. h.once i j a l k (there i a l m_a) (there j a k m_b);
  }
    where
      there : (i a : ℕ) → i < buckets → Among a (chain_places m slice i) → Among a (chain i)
      there i a l p = subst (λ (c : List ℕ). Among a c) (hung_places m chain h i l) p

  -- words that belong to no link, hash or key may change
  pub hung_kept : (m v : WordMap) (chain : ℕ → List ℕ) → Hang m chain
      → ((k : ℕ) → is_some (at v k) ≡ is_some (at m k))
      → ((i : ℕ) → i < buckets → word v (slice + i) ≡ word m (slice + i))
      → ((i a k : ℕ) → i < buckets → Among a (chain i) → a ≤ k → k < a + (2 + key_words) → word v k ≡ word m k)
      → Hang v chain
  hung_kept m v chain h keys links items = record {
    low = h.low;
    room = h.room;
    fits = h.fits;
    owned = λ k a b. keys k ∙ h.owned k a b;
    below = λ k s. h.below k (sym (keys k) ∙ s);
    linked = λ i l. subst (λ (a : ℕ). IsChain (word v) a (chain i)) (sym (links i l)) (chain_same (word m) (word v) (word m (slice + i)) (chain i) (h.linked i l) (λ a p. items i a a l p (omega arith) (omega arith)));
    distinct = h.distinct;
    items = λ i a l p. let it = h.items i a l p in record {
      owned = λ k low high. keys k ∙ it.owned k low high;
      apart = it.apart;
      hashed = items i a (a + 1) l p (omega arith) (omega arith) ∙ it.hashed ∙ ap (seeded_hash seed) (words_at-same (word m) (word v) (a + 2) key_words (λ k low high. sym (items i a k l p (omega arith) (omega arith))));
      whole = it.whole;
    };
    apart = h.apart;
    once = h.once;
  }

  -- m with the words of an item at a, of which `item` has the values, hung in behind the word `link`
  pub record IsPushed (m item v : WordMap) (link a : ℕ) : Type 0 where
    pub keeps : (k : ℕ) → IsSome (at m k) → IsSome (at v k)
    pub gains : (k : ℕ) → a ≤ k → k < a + item_bytes / 8 → IsSome (at v k)
    pub below : (k : ℕ) → IsSome (at v k) → k < most_words
    pub apart : (k : ℕ) → IsSome (at m k) → a ≤ k → k < a + item_bytes / 8 → ⊥
    pub linked : word v link ≡ a
    pub next : word v a ≡ word m link
    pub others : (k : ℕ) → IsSome (at m k) → k ≢ link → word v k ≡ word m k
    pub body : (k : ℕ) → a < k → k < a + item_bytes / 8 → word v k ≡ word item k

  -- an item that is hung in is the first of its chain
  pub hung_pushed : (m item v : WordMap) (chain : ℕ → List ℕ) (i a : ℕ) → Hang m chain → i < buckets → 0 < a → item_bytes % 8 ≡ 0
      → word item (a + 1) ≡ seeded_hash seed (words_at (word item) (a + 2) key_words)
      → IsPushed m item v (slice + i) a → Hang v (put chain i (a ∷ chain i))
  hung_pushed m item v chain i a h l low whole hashed p = record {
    low = h.low;
    room = h.room;
    fits = h.fits;
    owned = λ k s e. p.keeps k (h.owned k s e);
    below = p.below;
    linked = λ j k. ⊎_elim (λ (e : j ≡ i). first j e) (λ (n : j ≢ i). other j k n) (same_or_not j i);
    distinct = λ j k. ⊎_elim
        (λ (e : j ≡ i). subst (λ (c : List ℕ). AreDistinct c) (sym (put_same chain i (a ∷ chain i) j e)) ((λ b b_in s. new i b l b_in s), h.distinct i l))
        (λ (n : j ≢ i). subst (λ (c : List ℕ). AreDistinct c) (sym (put_other chain i (a ∷ chain i) j n)) (h.distinct j k))
        (same_or_not j i);
    items = λ j b k b_in. ⊎_elim (λ (s : (b ≡ a) × (j ≡ i)). subst (λ (x : ℕ). IsItem v slice words seed key_words item_bytes x) (sym s.0) fresh) (λ (q : Among b (chain j)). kept j b k q) (either j b b_in);
    apart = λ j k b d j_in k_in b_in d_in n. ⊎_elim
        (λ (s : (b ≡ a) × (j ≡ i)). ⊎_elim
        (λ (t : (d ≡ a) × (k ≡ i)). absurd (n (s.0 ∙ sym t.0)))
        (λ (q : Among d (chain k)). subst (λ (x : ℕ). IsApart x (item_bytes / 8) d (item_bytes / 8)) (sym s.0) (turned d a (clear k d k_in q)))
        (either k d d_in))
        (λ (q : Among b (chain j)). ⊎_elim
        (λ (t : (d ≡ a) × (k ≡ i)). subst (λ (x : ℕ). IsApart b (item_bytes / 8) x (item_bytes / 8)) (sym t.0) (clear j b j_in q))
        (λ (u : Among d (chain k)). h.apart j k b d j_in k_in q u n)
        (either k d d_in))
        (either j b b_in);
    once = λ j k b j_in k_in b_in d_in. ⊎_elim
        (λ (s : (b ≡ a) × (j ≡ i)). ⊎_elim
        (λ (t : (b ≡ a) × (k ≡ i)). s.1 ∙ sym t.1)
        (λ (q : Among b (chain k)). absurd (new k b k_in q s.0))
        (either k b d_in))
        (λ (q : Among b (chain j)). ⊎_elim
        (λ (t : (b ≡ a) × (k ≡ i)). absurd (new j b j_in q t.0))
        (λ (u : Among b (chain k)). h.once j k b j_in k_in q u)
        (either k b d_in))
        (either j b b_in);
  }
    where
      room : 2 + key_words + value_words ≤ item_bytes / 8
      room = h.fits

      space : buckets ≤ words
      space = h.room

      has : (j b : ℕ) → j < buckets → Among b (chain j) → IsSome (at m b)
      has j b k q = (h.items j b k q).owned b (omega arith) (omega (arith, room))

      new : (j b : ℕ) → j < buckets → Among b (chain j) → b ≢ a
      new j b k q e = p.apart b (has j b k q) (omega arith) (omega (arith, room))

      -- an item of before and the new one have no word in common
      clear : (j b : ℕ) → j < buckets → Among b (chain j) → IsApart b (item_bytes / 8) a (item_bytes / 8)
      clear j b k q = (
        λ behind. ⊎_elim
            (λ (o : a < b + item_bytes / 8). absurd (p.apart a ((h.items j b k q).owned a (omega arith) o) (omega arith) (omega (arith, room))))
            (λ (o : b + item_bytes / 8 ≤ a). o)
            (cases_lt a (b + item_bytes / 8)),
        λ before. ⊎_elim
            (λ (o : b < a + item_bytes / 8). absurd (p.apart b (has j b k q) before o))
            (λ (o : a + item_bytes / 8 ≤ b). o)
            (cases_lt b (a + item_bytes / 8)),
      )

      turned : (d b : ℕ) → IsApart d (item_bytes / 8) b (item_bytes / 8) → IsApart b (item_bytes / 8) d (item_bytes / 8)
      turned d b s = apart_turned d (item_bytes / 8) b (item_bytes / 8) s (omega (arith, room)) (omega (arith, room))

      not_link : (j b : ℕ) → j < buckets → Among b (chain j) → (k : ℕ) → b ≤ k → k < b + item_bytes / 8 → k ≢ slice + i
      not_link j b r q k low high e = ⊎_elim
          (λ (s : slice + words ≤ b). let z : ⊥ = omega (arith, space, l) in z)
          (λ (s : b + item_bytes / 8 ≤ slice). let z : ⊥ = omega arith in z)
          (apart_cases slice words b (item_bytes / 8) (h.items j b r q).apart)

      owned_link : (j : ℕ) → j < buckets → IsSome (at m (slice + j))
      owned_link j k = h.owned (slice + j) (omega arith) (omega (arith, space))

      word_kept : (j b : ℕ) → j < buckets → Among b (chain j) → (k : ℕ) → b ≤ k → k < b + item_bytes / 8 → word v k ≡ word m k
      word_kept j b r q k low high = p.others k ((h.items j b r q).owned k low high) (not_link j b r q k low high)

      chain_kept : (j : ℕ) → j < buckets → IsChain (word v) (word m (slice + j)) (chain j)
      chain_kept j k = chain_same (word m) (word v) (word m (slice + j)) (chain j) (h.linked j k) (λ b q. word_kept j b k q b (omega arith) (omega (arith, room)))

      first : (j : ℕ) → j ≡ i → IsChain (word v) (word v (slice + j)) (put chain i (a ∷ chain i) j)
      first j e = subst (λ (c : List ℕ). IsChain (word v) (word v (slice + j)) c) (sym (put_same chain i (a ∷ chain i) j e))
          (ap (λ (x : ℕ). word v (slice + x)) e ∙ p.linked, low, subst (λ (x : ℕ). IsChain (word v) x (chain i)) (sym p.next) (chain_kept i l))

      other : (j : ℕ) → j < buckets → j ≢ i → IsChain (word v) (word v (slice + j)) (put chain i (a ∷ chain i) j)
      other j k n = subst (λ (c : List ℕ). IsChain (word v) (word v (slice + j)) c) (sym (put_other chain i (a ∷ chain i) j n))
          (subst (λ (x : ℕ). IsChain (word v) x (chain j)) (sym (p.others (slice + j) (owned_link j k) (λ e. n (omega arith)))) (chain_kept j k))

      either : (j b : ℕ) → Among b (put chain i (a ∷ chain i) j) → ((b ≡ a) × (j ≡ i)) ⊎ Among b (chain j)
      either j b q = ⊎_elim
          (λ (s : (j ≡ i) × Among b (a ∷ chain i)). ⊎_elim (λ (e : b ≡ a). inl (e, s.0)) (λ (u : Among b (chain i)). inr (subst (λ (x : ℕ). Among b (chain x)) (sym s.0) u)) s.1)
          (λ (s : (j ≢ i) × Among b (chain j)). inr s.1)
          (put_among chain i (a ∷ chain i) j b q)

      body_new : (k : ℕ) → a < k → k < a + item_bytes / 8 → word item k ≡ word v k
      body_new k s t = sym (p.body k s t)

      fresh : IsItem v slice words seed key_words item_bytes a
      fresh = record {
        owned = p.gains;
        apart = (
          λ behind. ⊎_elim
              (λ (o : a < slice + words). absurd (p.apart a (h.owned a (omega arith) o) (omega arith) (omega (arith, room))))
              (λ (o : slice + words ≤ a). o)
              (cases_lt a (slice + words)),
          λ before. ⊎_elim
              (λ (o : slice < a + item_bytes / 8). absurd (p.apart slice (h.owned slice (omega arith) (omega (arith, space, l))) before o))
              (λ (o : a + item_bytes / 8 ≤ slice). o)
              (cases_lt slice (a + item_bytes / 8)),
        );
        hashed = p.body (a + 1) (omega arith) (omega (arith, room)) ∙ hashed ∙ ap (seeded_hash seed) (words_at-same (word item) (word v) (a + 2) key_words (λ k s t. body_new k (omega arith) (omega (arith, room))));
        whole = whole;
      }

      kept : (j b : ℕ) → j < buckets → Among b (chain j) → IsItem v slice words seed key_words item_bytes b
      kept j b k q = let it = h.items j b k q in record {
        owned = λ x s t. p.keeps x (it.owned x s t);
        apart = it.apart;
        hashed = word_kept j b k q (b + 1) (omega arith) (omega (arith, room)) ∙ it.hashed ∙ ap (seeded_hash seed) (words_at-same (word m) (word v) (b + 2) key_words (λ x s t. sym (word_kept j b k q x (omega arith) (omega (arith, room)))));
        whole = it.whole;
      }

  -- m with the item at a taken out of the chain, behind the word `link`
  pub record IsUnlinked (m v : WordMap) (link a : ℕ) : Type 0 where
    pub keeps : (k : ℕ) → IsSome (at m k) → (a ≤ k → k < a + item_bytes / 8 → ⊥) → IsSome (at v k)
    pub below : (k : ℕ) → IsSome (at v k) → k < most_words
    pub linked : word v link ≡ word m a
    pub others : (k : ℕ) → (a ≤ k → k < a + item_bytes / 8 → ⊥) → k ≢ link → word v k ≡ word m k

  -- the other items of a chain from which one is taken out stay hung
  pub hung_unlinked : (m v : WordMap) (chain : ℕ → List ℕ) (i a : ℕ) (xs ys : List ℕ) → Hang m chain → i < buckets → chain i ≡ xs ++ a ∷ ys
      → IsUnlinked m v (link_behind (slice + i) xs) a → Hang v (put chain i (xs ++ ys))
  hung_unlinked m v chain i a xs ys h l split u = record {
    low = h.low;
    room = h.room;
    fits = h.fits;
    owned = λ k s e. u.keeps k (h.owned k s e) (not_slice k s e);
    below = u.below;
    linked = λ j k. ⊎_elim (λ (e : j ≡ i). first j e) (λ (n : j ≢ i). other j k n) (same_or_not j i);
    distinct = λ j k. ⊎_elim
        (λ (e : j ≡ i). subst (λ (c : List ℕ). AreDistinct c) (sym (put_same chain i (xs ++ ys) j e)) (without_distinct a xs ys all_distinct))
        (λ (n : j ≢ i). subst (λ (c : List ℕ). AreDistinct c) (sym (put_other chain i (xs ++ ys) j n)) (h.distinct j k))
        (same_or_not j i);
    items = λ j b k b_in. kept j b k (rest j b k b_in).0 (rest j b k b_in).1;
    apart = λ j k b d j_in k_in b_in d_in n. h.apart j k b d j_in k_in (rest j b j_in b_in).0 (rest k d k_in d_in).0 n;
    once = λ j k b j_in k_in b_in d_in. h.once j k b j_in k_in (rest j b j_in b_in).0 (rest k b k_in d_in).0;
  }
    where
      room : 2 + key_words + value_words ≤ item_bytes / 8
      room = h.fits

      space : buckets ≤ words
      space = h.room

      link : ℕ
      link = link_behind (slice + i) xs

      all_distinct : AreDistinct (xs ++ a ∷ ys)
      all_distinct = subst (λ (c : List ℕ). AreDistinct c) split (h.distinct i l)

      of_chain : (b : ℕ) → Among b (xs ++ a ∷ ys) → Among b (chain i)
      of_chain b q = subst (λ (c : List ℕ). Among b c) (sym split) q

      a_in : Among a (chain i)
      a_in = of_chain a (among_middle a xs ys)

      not_slice : (k : ℕ) → slice ≤ k → k < slice + words → a ≤ k → k < a + item_bytes / 8 → ⊥
      not_slice k s e low high = ⊎_elim
          (λ (o : slice + words ≤ a). let z : ⊥ = omega arith in z)
          (λ (o : a + item_bytes / 8 ≤ slice). let z : ⊥ = omega arith in z)
          (apart_cases slice words a (item_bytes / 8) (h.items i a l a_in).apart)

      -- the items left are those of before but for a
      rest : (j b : ℕ) → j < buckets → Among b (put chain i (xs ++ ys) j) → Among b (chain j) × (b ≢ a)
      rest j b k q = ⊎_elim
          (λ (s : (j ≡ i) × Among b (xs ++ ys)). (subst (λ (x : ℕ). Among b (chain x)) (sym s.0) (of_chain b (among_without b a xs ys s.1)), without_other b a xs ys all_distinct s.1))
          (λ (s : (j ≢ i) × Among b (chain j)). (s.1, λ e. s.0 (h.once j i a k l (subst (λ (x : ℕ). Among x (chain j)) e s.1) a_in)))
          (put_among chain i (xs ++ ys) j b q)

      -- and none of their words is one of a's
      not_a : (j b : ℕ) → j < buckets → Among b (chain j) → b ≢ a → (k : ℕ) → b ≤ k → k < b + item_bytes / 8 → a ≤ k → k < a + item_bytes / 8 → ⊥
      not_a j b r q n k s e low high = ⊎_elim
          (λ (o : b + item_bytes / 8 ≤ a). let z : ⊥ = omega arith in z)
          (λ (o : a + item_bytes / 8 ≤ b). let z : ⊥ = omega arith in z)
          (apart_cases b (item_bytes / 8) a (item_bytes / 8) (h.apart j i b a r l q a_in n))

      link_in : Among link ((slice + i) ∷ (xs ++ a ∷ ys))
      link_in = among_left link ((slice + i) ∷ xs) (a ∷ ys) (behind_among (slice + i) xs)

      -- the link is a word of the slice or the first of an item
      link_far : (j b : ℕ) → j < buckets → Among b (chain j) → (k : ℕ) → b < k → k < b + item_bytes / 8 → k ≢ link
      link_far j b r q k s e is = ⊎_elim
          (λ (o : link ≡ slice + i). ⊎_elim
          (λ (o2 : slice + words ≤ b). let z : ⊥ = omega (arith, space, l) in z)
          (λ (o2 : b + item_bytes / 8 ≤ slice). let z : ⊥ = omega arith in z)
          (apart_cases slice words b (item_bytes / 8) (h.items j b r q).apart))
          (λ (o : Among link (xs ++ a ∷ ys)). ⊎_elim
          (λ (same : link ≡ b). let z : ⊥ = omega arith in z)
          (λ (n : link ≢ b). ⊎_elim
          (λ (o2 : link + item_bytes / 8 ≤ b). let z : ⊥ = omega arith in z)
          (λ (o2 : b + item_bytes / 8 ≤ link). let z : ⊥ = omega arith in z)
          (apart_cases link (item_bytes / 8) b (item_bytes / 8) (h.apart i j link b l r (of_chain link o) q n)))
          (same_or_not link b))
          link_in

      clear_slice : (j b : ℕ) → j < buckets → Among b (chain j) → (x : ℕ) → x < buckets → b ≢ slice + x
      clear_slice j b r q x y e = ⊎_elim
          (λ (o : slice + words ≤ b). let z : ⊥ = omega (arith, space) in z)
          (λ (o : b + item_bytes / 8 ≤ slice). let z : ⊥ = omega (arith, room) in z)
          (apart_cases slice words b (item_bytes / 8) (h.items j b r q).apart)

      -- the first word of an item left, where it is not the link, is as it was
      head_kept : (j b : ℕ) → j < buckets → Among b (chain j) → b ≢ a → b ≢ link → word v b ≡ word m b
      head_kept j b r q n far = u.others b (not_a j b r q n b (omega arith) (omega (arith, room))) far

      first : (j : ℕ) → j ≡ i → IsChain (word v) (word v (slice + j)) (put chain i (xs ++ ys) j)
      first j e = subst (λ (c : List ℕ). IsChain (word v) (word v (slice + j)) c) (sym (put_same chain i (xs ++ ys) j e))
          (subst (λ (x : ℕ). IsChain (word v) (word v (slice + x)) (xs ++ ys)) (sym e)
          (unlinked_chain (word m) (word v) (slice + i) a xs ys (subst (λ (c : List ℕ). IsChain (word m) (word m (slice + i)) c) split (h.linked i l))
          ((λ y q s. clear_slice i y l (of_chain y q) i l s), all_distinct) u.linked each))
        where
          each : (k : ℕ) → Among k ((slice + i) ∷ (xs ++ ys)) → k ≢ link → word v k ≡ word m k
          each k (inl s) far = u.others k (not_slice k (omega arith) (omega (arith, space))) far
          each k (inr q) far = head_kept i k l (of_chain k (among_without k a xs ys q)) (without_other k a xs ys all_distinct q) far

      -- no word of another chain is the link
      link_own : (j b : ℕ) → j < buckets → j ≢ i → Among b (chain j) → b ≢ link
      link_own j b r n q s = ⊎_elim
          (λ (o : link ≡ slice + i). clear_slice j b r q i l (s ∙ o))
          (λ (o : Among link (xs ++ a ∷ ys)). n (h.once j i b r l q (of_chain b (subst (λ (x : ℕ). Among x (xs ++ a ∷ ys)) (sym s) o))))
          link_in

      other : (j : ℕ) → j < buckets → j ≢ i → IsChain (word v) (word v (slice + j)) (put chain i (xs ++ ys) j)
      other j k n =
          let not_link : slice + j ≢ link = λ s. ⊎_elim
          (λ (o : link ≡ slice + i). n (omega arith))
          (λ (o : Among link (xs ++ a ∷ ys)). clear_slice i link l (of_chain link o) j k (sym s))
          link_in in
          subst (λ (c : List ℕ). IsChain (word v) (word v (slice + j)) c) (sym (put_other chain i (xs ++ ys) j n))
          (subst (λ (x : ℕ). IsChain (word v) x (chain j)) (sym (u.others (slice + j) (not_slice (slice + j) (omega arith) (omega (arith, space))) not_link))
          (chain_same (word m) (word v) (word m (slice + j)) (chain j) (h.linked j k) (λ b q.
          head_kept j b k q (λ e. n (h.once j i a k l (subst (λ (x : ℕ). Among x (chain j)) e q) a_in)) (link_own j b k n q))))

      kept : (j b : ℕ) → j < buckets → Among b (chain j) → b ≢ a → IsItem v slice words seed key_words item_bytes b
      kept j b k q n =
          let it = h.items j b k q in
          let body : (x : ℕ) → b < x → x < b + item_bytes / 8 → word v x ≡ word m x = λ x s e. u.others x (not_a j b k q n x (omega arith) e) (link_far j b k q x s e) in
          record {
            owned = λ x s e. u.keeps x (it.owned x s e) (not_a j b k q n x s e);
            apart = it.apart;
            hashed = body (b + 1) (omega arith) (omega (arith, room)) ∙ it.hashed ∙ ap (seeded_hash seed) (words_at-same (word m) (word v) (b + 2) key_words (λ x s e. sym (body x (omega arith) (omega (arith, room)))));
            whole = it.whole;
          }
